use Rattle.std.proofs.Common.{◌≡◌, replicate, pos, is_some, Decides, sym, ap, ◌∙◌, subst}
use Rattle.cells.specs.declared.types.Cell.TheVariants.{Number}
use Rattle.expressions.specs.Expressions.{WellFormed, well_formed}
use Rattle.expressions.specs.Readings.{Reading, cells_read}
use Rattle.expressions.proofs.Wholes.{value_some, well_formed_decides}
use Rattle.expressions.proofs.well_formed.Goals as goal

zeros : Reading
zeros = cells_read (replicate 6 (replicate 6 (Number (pos 0))))

pub returns : goal.returns
unfolding zeros
returns c =
    let items = c.args.items.now in
    let is : c.is_some.result ≡ well_formed items = c.is_some.ensures ∙ ap is_some c.value.ensures.value ∙ value_some zeros items in
    record { value = is; law = subst (λ b. Decides b (WellFormed items)) (sym is) (well_formed_decides items) }
