use Rattle.std.proofs.Common.{◌≡◌, ℤ, Some, None, Option, MatchOption, sym, subst, rules}
use Rattle.basis.specs.Reading.{Exactly}
use Rattle.cells.specs.declared.types.Code.{Code}
use Rattle.cells.specs.declared.types.Cell.{Cell}
use Rattle.cells.specs.declared.types.Cell.TheVariants as cell
use Rattle.spelling.specs.Spelling.{Wanted}
use Rattle.spelling.proofs.Codes.{SpellsCode}
use Rattle.spelling.proofs.Signs.{SpellsNumber}
use Rattle.spelling.proofs.Wants.{numbers_first, codes_first}
use Rattle.spelling.proofs.reads.read.Goals as goal

pub returns-in-Number : goal.returns-in-Number
returns-in-Number c =
    let s = c.args.s.now in
    let r = c.or_else.result in
    let m : MatchOption c.read_number.result (c.map.result ≡ None) (λ z. c.map.result ≡ Some (cell.Number z)) = search rules in
    let first : (x : Cell) → c.map.result ≡ Some x → r ≡ Some x = λ x e. rw e at c.or_else.ensures in
    let other : c.map.result ≡ None → (o : Option Code) × Exactly o (SpellsCode s) × MatchOption o (r ≡ None) (λ x. r ≡ Some (cell.Code x)) =
    λ e. let p = rw e at c.or_else.ensures in search rules in
    record { value = subst (λ k. Exactly r (Wanted k s)) (sym c.in-Number.is) (numbers_first s c.read_number.result c.map.result r c.read_number.ensures.value m first other) }

pub returns-in-Code : goal.returns-in-Code
returns-in-Code c =
    let s = c.args.s.now in
    let r = c.or_else-in-Code.result in
    let m : MatchOption c.read_code.result (c.map-in-Code.result ≡ None) (λ x. c.map-in-Code.result ≡ Some (cell.Code x)) = search rules in
    let first : (x : Cell) → c.map-in-Code.result ≡ Some x → r ≡ Some x = λ x e. rw e at c.or_else-in-Code.ensures in
    let other : c.map-in-Code.result ≡ None → (o : Option ℤ) × Exactly o (SpellsNumber s) × MatchOption o (r ≡ None) (λ z. r ≡ Some (cell.Number z)) =
    λ e. let p = rw e at c.or_else-in-Code.ensures in search rules in
    record { value = subst (λ k. Exactly r (Wanted k s)) (sym c.in-Code.is) (codes_first s c.read_code.result c.map-in-Code.result r c.read_code.ensures.value m first other) }
