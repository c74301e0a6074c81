use Rattle.std.proofs.Common.{rules, ◌≡◌, ◌<◌, ◌≤◌, length, take, slice_get, ap, sym, subst, ◌∙◌, arith}
use Rattle.std.proofs.lemmas.Option.{slice_get-get_or}
use Rattle.cells.specs.Rows.{cells_of}
use Rattle.sorted_store.proofs.Adding.{added_more, added_all}
use Rattle.sorted_store.proofs.columns.Columns.add.Goals as goal

pub loop-c-preserved : goal.loop-c-preserved
loop-c-preserved c =
    let row = c.args.row in
    let i = c.loop-c.c in
    let b = c.loop-c.self in
    let cells = c.as_slice-key-items.result.now in
    let same : cells ≡ cells_of row = c.as_slice-key-items.ensures.value in
    let six : length c.args.self.now.filled ≡ 6 = search rules in
    let long = c.loop-c.invariant.long in
    let few : i < 6 = omega arith in
    added_more (cells_of row) c.args.number c.args.self.now i _ b c.insert.new.self (omega arith)
    (ap (λ l. slice_get l i) (sym same) ∙ slice_get-get_or cells i _ c.loop-c-test.true)
    c.insert.ensures.room c.insert.ensures.filled c.insert.ensures.here c.insert.ensures.others c.loop-c.invariant

pub returns : goal.returns
returns c =
    let row = c.args.row in
    let end : length (cells_of row) ≤ c.loop-c.c = subst (λ l. length l ≤ c.loop-c.c) c.as_slice-key-items.ensures.value c.loop-c-test.false in
    let all = added_all (cells_of row) c.args.number c.args.self.now c.loop-c.c c.loop-c.self end c.loop-c.invariant in
    record { room = c.loop-c.invariant.room; after = all.0; filled = all.1 }
