use Rattle.std.proofs.Common.{◌∙◌, w64, SFits, rules}
use Rattle.std.specs.Bool.{then_some}
use Rattle.std.proofs.lemmas.Int.{to_z-of_z}
use Rattle.expressions.specs.Readings.{cells_read}
use Rattle.expressions.specs.Evaluations.{Found}
use Rattle.expressions.proofs.Wholes.{whole_value}
use Rattle.expressions.proofs.value.Goals as goal

pub returns : goal.returns
returns c =
    let items = c.args.items.now in
    let rest = c.in_ok-value.rest.now in
    let z = c.in_ok-value.value in
    let f : SFits w64 z = search rules in
    let found : Found (cells_read c.args.cells.now) items 6 rest z = search rules in
    record {
      value = c.then_some.ensures
          ∙ (λ i. then_some (c.is_empty.ensures i) (to_z-of_z w64 z f i))
          ∙ whole_value (cells_read c.args.cells.now) items rest z found c.if-items-gt-MOST_ITEMS.false;
    }
