use Rattle.std.proofs.Common.{◌≡◌, ◌+◌, ◌∷◌, length, ap, w64, SFits, arith, rules}
use Rattle.std.proofs.lemmas.Int.{to_z-of_z}
use Rattle.expressions.specs.Readings.{cells_read}
use Rattle.expressions.specs.declared.types.Item.TheVariants as item
use Rattle.expressions.proofs.Finds.{number-found, column_found}
use Rattle.expressions.proofs.Sums.{sum-found, difference_found}
use Rattle.expressions.proofs.evaluation.+eval_eval_two.Goals as goal

pub eval-returns-in-Number : goal.eval-returns-in-Number
eval-returns-in-Number t c =
    let z = c.in-Number.z in
    let f : SFits w64 z = search rules in
    let first : c.args.items.now ≡ item.Number z ∷ c.in_ok-first.rest.now = search rules in
    record { value = number-found c.args.items.now c.args.deep c.in_ok-first.rest.now (cells_read c.args.cells.now) z first _ (to_z-of_z w64 z f) (search rules) }

pub eval-returns-in-Column : goal.eval-returns-in-Column
eval-returns-in-Column t c =
    let z = c.number_at.result in
    let f : SFits w64 z = record { sfits = c.number_at.type_inv } in
    let first : c.args.items.now ≡ item.Column c.in-Column.column ∷ c.in_ok-first.rest.now = search rules in
    record { value = column_found c.args.items.now c.args.deep c.in_ok-first.rest.now (cells_read c.args.cells.now) c.in-Column.column first z c.number_at.ensures.value _ (to_z-of_z w64 z f) }

pub eval-returns-in_ok-a-in-Add : goal.eval-returns-in_ok-a-in-Add
eval-returns-in_ok-a-in-Add t c =
    let items = c.args.items.now in
    let next = c.in_ok-first.rest.now in
    let first : items ≡ item.Add ∷ next = search rules in
    let fewer : length items ≡ length next + 1 = omega (arith, ap length first) in
    record { value = sum-found (cells_read c.args.cells.now) items c.args.deep next c.in_ok-a-in-Add.rest.now c.in_ok-a-in-Add.a c.in_ok-a-in-Add.b c.requires.short fewer (search rules) first }

pub eval-returns-in_ok-a-in-Sub : goal.eval-returns-in_ok-a-in-Sub
eval-returns-in_ok-a-in-Sub t c =
    let items = c.args.items.now in
    let next = c.in_ok-first.rest.now in
    let first : items ≡ item.Sub ∷ next = search rules in
    let fewer : length items ≡ length next + 1 = omega (arith, ap length first) in
    record { value = difference_found (cells_read c.args.cells.now) items c.args.deep next c.in_ok-a-in-Sub.rest.now c.in_ok-a-in-Sub.a c.in_ok-a-in-Sub.b c.requires.short fewer (search rules) first }
