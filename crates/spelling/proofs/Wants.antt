-- A cell of the kind wanted comes first.
use Rattle.std.proofs.Common.{◌≡◌, ℕ, List, ℤ, Some, None, Option, MatchOption, sym, refl, ap, subst, arith}
use Rattle.std.specs.Fmt.{signed_decimal}
use Rattle.basis.specs.Reading.{Exactly}
use Rattle.basis.proofs.Exact.{exactly_some, exactly_none, none_of}
use Rattle.cells.specs.Cells.{kind_of, code_text}
use Rattle.cells.specs.declared.types.Kind.{Kind}
use Rattle.cells.specs.declared.types.Kind.TheVariants as kind
use Rattle.cells.specs.declared.types.Code.{Code}
use Rattle.cells.specs.declared.types.Cell.{Cell}
use Rattle.cells.specs.declared.types.Cell.TheVariants as cell
use Rattle.spelling.specs.Spelling.{Spells, Wanted, OneSpelling}
use Rattle.spelling.proofs.Codes.{SpellsCode, code_same}
use Rattle.spelling.proofs.Signs.{SpellsNumber, number_same}

code_no_number : kind.Code ≡ kind.Number → ⊥
code_no_number e = let z : ◌≡◌ {A = ℕ} 0 1 = cc in omega arith

number_no_code : kind.Number ≡ kind.Code → ⊥
number_no_code e = let z : ◌≡◌ {A = ℕ} 0 1 = cc in omega arith

number-only : (s : List ℕ) (z : ℤ) → SpellsNumber s z → (d : Cell) → Wanted kind.Number s d → cell.Number z ≡ d
number-only s z p (cell.Number y) q = ap cell.Number (number_same s z y p q.0)
number-only s z p (cell.Code c) q = absurd (q.1 code_no_number (cell.Number z) refl p)

code-only : (s : List ℕ) (c : Code) → SpellsCode s c → (d : Cell) → Wanted kind.Code s d → cell.Code c ≡ d
code-only s c p (cell.Number y) q = absurd (q.1 number_no_code (cell.Code c) refl p)
code-only s c p (cell.Code d) q = ap cell.Code (code_same s c d p q.0)

-- bytes that spell no number, or no code
module _ (s : List ℕ) (none : Exactly None (SpellsNumber s)) where
  no_number : (d : Cell) → kind_of d ≡ kind.Number → Spells s d → ⊥
  no_number (cell.Number y) e q = none_of (SpellsNumber s) none y q
  no_number (cell.Code d) e q = code_no_number e

  code-other : (c : Code) → SpellsCode s c → (d : Cell) → Wanted kind.Number s d → cell.Code c ≡ d
  code-other c p (cell.Number y) q = absurd (none_of (SpellsNumber s) none y q.0)
  code-other c p (cell.Code d) q = ap cell.Code (code_same s c d p q.0)

module _ (s : List ℕ) (none : Exactly None (SpellsCode s)) where
  no_code : (d : Cell) → kind_of d ≡ kind.Code → Spells s d → ⊥
  no_code (cell.Number y) e q = number_no_code e
  no_code (cell.Code d) e q = none_of (SpellsCode s) none d q

  number-other : (z : ℤ) → SpellsNumber s z → (d : Cell) → Wanted kind.Code s d → cell.Number z ≡ d
  number-other z p (cell.Number y) q = ap cell.Number (number_same s z y p q.0)
  number-other z p (cell.Code d) q = absurd (none_of (SpellsCode s) none d q.0)

nothing_spelled : (s : List ℕ) → Exactly None (SpellsNumber s) → Exactly None (SpellsCode s) → (k : Kind) (d : Cell) → Wanted k s d → ⊥
nothing_spelled s n c k (cell.Number y) q = none_of (SpellsNumber s) n y q.0
nothing_spelled s n c k (cell.Code d) q = none_of (SpellsCode s) c d q.0

-- what is answered where one kind was read first, and then perhaps the other
pub numbers_first : (s : List ℕ) (n : Option ℤ) (m r : Option Cell) → Exactly n (SpellsNumber s) → MatchOption n (m ≡ None) (λ z. m ≡ Some (cell.Number z)) → ((x : Cell) → m ≡ Some x → r ≡ Some x) → (m ≡ None → (c : Option Code) × Exactly c (SpellsCode s) × MatchOption c (r ≡ None) (λ x. r ≡ Some (cell.Code x))) → Exactly r (Wanted kind.Number s)
numbers_first s (Some z) m r h a first other =
    let p = (h z).0 refl in
    subst (λ o. Exactly o (Wanted kind.Number s)) (sym (first (cell.Number z) a))
    (exactly_some (Wanted kind.Number s) (cell.Number z) (p, λ k. absurd (k refl)) (number-only s z p))
numbers_first s None m r h a first other = go (other a).0 (other a).1 (other a).2
  where
    go : (c : Option Code) → Exactly c (SpellsCode s) → MatchOption c (r ≡ None) (λ x. r ≡ Some (cell.Code x)) → Exactly r (Wanted kind.Number s)
    go (Some c) k e =
        let p = (k c).0 refl in
        subst (λ o. Exactly o (Wanted kind.Number s)) (sym e)
        (exactly_some (Wanted kind.Number s) (cell.Code c) (p, λ _. no_number s h) (code-other s h c p))
    go None k e = subst (λ o. Exactly o (Wanted kind.Number s)) (sym e) (exactly_none (Wanted kind.Number s) (nothing_spelled s h k kind.Number))

pub codes_first : (s : List ℕ) (c : Option Code) (m r : Option Cell) → Exactly c (SpellsCode s) → MatchOption c (m ≡ None) (λ x. m ≡ Some (cell.Code x)) → ((x : Cell) → m ≡ Some x → r ≡ Some x) → (m ≡ None → (n : Option ℤ) × Exactly n (SpellsNumber s) × MatchOption n (r ≡ None) (λ z. r ≡ Some (cell.Number z))) → Exactly r (Wanted kind.Code s)
codes_first s (Some c) m r h a first other =
    let p = (h c).0 refl in
    subst (λ o. Exactly o (Wanted kind.Code s)) (sym (first (cell.Code c) a))
    (exactly_some (Wanted kind.Code s) (cell.Code c) (p, λ k. absurd (k refl)) (code-only s c p))
codes_first s None m r h a first other = go (other a).0 (other a).1 (other a).2
  where
    go : (n : Option ℤ) → Exactly n (SpellsNumber s) → MatchOption n (r ≡ None) (λ z. r ≡ Some (cell.Number z)) → Exactly r (Wanted kind.Code s)
    go (Some z) k e =
        let p = (k z).0 refl in
        subst (λ o. Exactly o (Wanted kind.Code s)) (sym e)
        (exactly_some (Wanted kind.Code s) (cell.Number z) (p, λ _. no_code s h) (number-other s h z p))
    go None k e = subst (λ o. Exactly o (Wanted kind.Code s)) (sym e) (exactly_none (Wanted kind.Code s) (nothing_spelled s k h kind.Code))

pub one_spelling : OneSpelling
one_spelling (cell.Number y) (cell.Number z) k p q e = ap cell.Number (number_same (signed_decimal z) y z (p, e) (q, refl))
one_spelling (cell.Number y) (cell.Code d) k p q e = absurd (number_no_code k)
one_spelling (cell.Code c) (cell.Number z) k p q e = absurd (code_no_number k)
one_spelling (cell.Code c) (cell.Code d) k p q e = ap cell.Code (code_same (code_text d) c d (p, e) (q, refl))
