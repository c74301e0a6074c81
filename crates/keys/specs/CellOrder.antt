-- Cells of both kinds: equality decides, and the order is strict and total.
use Rattle.std.specs.Prelude.{◌≡◌, true, false, ℤ, Decides, int_lt, refl}
use Rattle.std.proofs.Common.{ap, subst, rules}
use Rattle.std.proofs.lemmas.Bool.{both_ways}
use Rattle.cells.specs.declared.types.Cell.{Cell}
use Rattle.cells.specs.declared.types.Cell.TheVariants as cell
use Rattle.keys.specs.Keys.{same_number, same_cell, less_cell}
use Rattle.keys.specs.Orders.{StrictOrder}
use Rattle.keys.specs.CodeOrder.{same_code_decides, code_ordered}

same_number_decides : (a b : ℤ) → Decides (same_number a b) (a ≡ b)
same_number_decides a b = search rules

number_ordered : StrictOrder int_lt
number_ordered = search rules

same_cell_true : (a b : Cell) → same_cell a b ≡ true → a ≡ b
same_cell_true (cell.Number a) (cell.Number b) e = ap cell.Number ((same_number_decides a b).0 e)
same_cell_true (cell.Number a) (cell.Code b) e = absurd (both_ways false refl e)
same_cell_true (cell.Code a) (cell.Number b) e = absurd (both_ways false refl e)
same_cell_true (cell.Code a) (cell.Code b) e = ap cell.Code ((same_code_decides a b).0 e)

cell_same : (a : Cell) → same_cell a a ≡ true
cell_same (cell.Number a) = (same_number_decides a a).1 refl
cell_same (cell.Code a) = (same_code_decides a a).1 refl

pub same_cell_decides : (a b : Cell) → Decides (same_cell a b) (a ≡ b)
same_cell_decides a b = (same_cell_true a b, λ e. subst (λ c. same_cell a c ≡ true) e (cell_same a))

cell_irreflexive : (a : Cell) → less_cell a a ≡ false
cell_irreflexive (cell.Number a) = number_ordered.irreflexive a
cell_irreflexive (cell.Code a) = code_ordered.irreflexive a

cell_transitive : (a b c : Cell) → less_cell a b ≡ true → less_cell b c ≡ true → less_cell a c ≡ true
cell_transitive (cell.Number a) (cell.Number b) (cell.Number c) h k = number_ordered.transitive a b c h k
cell_transitive (cell.Number a) (cell.Number b) (cell.Code c) h k = refl
cell_transitive (cell.Number a) (cell.Code b) (cell.Number c) h k = absurd (both_ways false refl k)
cell_transitive (cell.Number a) (cell.Code b) (cell.Code c) h k = refl
cell_transitive (cell.Code a) (cell.Number b) c h k = absurd (both_ways false refl h)
cell_transitive (cell.Code a) (cell.Code b) (cell.Number c) h k = absurd (both_ways false refl k)
cell_transitive (cell.Code a) (cell.Code b) (cell.Code c) h k = code_ordered.transitive a b c h k

cell_total : (a b : Cell) → less_cell a b ≡ false → less_cell b a ≡ false → a ≡ b
cell_total (cell.Number a) (cell.Number b) h k = ap cell.Number (number_ordered.total a b h k)
cell_total (cell.Number a) (cell.Code b) h k = absurd (both_ways true h refl)
cell_total (cell.Code a) (cell.Number b) h k = absurd (both_ways true k refl)
cell_total (cell.Code a) (cell.Code b) h k = ap cell.Code (code_ordered.total a b h k)

pub cell_ordered : StrictOrder less_cell
cell_ordered = record { irreflexive = cell_irreflexive; transitive = cell_transitive; total = cell_total }
