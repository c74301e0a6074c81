-- A sign before digits.
use Rattle.std.proofs.Common.{◌≡◌, ℕ, suc, ◌-◌, ◌^◌, ◌<◌, List, ◌∷◌, length, get_or, ℤ, pos, negsuc, Some, None, Option, MatchOption, decimal, sym, refl, ap, ◌∙◌, subst, arith, w64, to_z}
use lib.Signed.{mag}
use Rattle.std.proofs.lemmas.Fmt.{signed_decimal_injective}
use Rattle.std.proofs.lemmas.Int.{ints}
use Rattle.std.proofs.lemmas.Bool.{leb-true, le-leb}
use Rattle.basis.specs.Reading.{Exactly}
use Rattle.basis.proofs.Exact.{exactly_some, exactly_none, none_of}
use Rattle.cells.specs.declared.types.Cell.TheVariants.{Number}
use Rattle.spelling.specs.Spelling.{Spells}
use Rattle.spelling.proofs.Numerals.{SpellsNatural, spells_digit}

abbrev pub SpellsNumber : List ℕ → ℤ → Type 0
SpellsNumber s z = Spells s (Number z)

lawful_small : (s : List ℕ) (z : ℤ) → SpellsNumber s z → mag z < 2 ^ 63
lawful_small s (pos n) p = omega (arith, leb-true n 999999999999 p.0)
lawful_small s (negsuc n) p = omega (arith, leb-true (suc n) 999999999999 p.0)

pub number_same : (s : List ℕ) (y z : ℤ) → SpellsNumber s y → SpellsNumber s z → y ≡ z
number_same s y z p q = signed_decimal_injective y z (lawful_small s y p) (lawful_small s z q) (p.1 ∙ sym q.1)

-- after a `-` the digits of a number that is not 0
pub minus_some : (s t : List ℕ) (n : ℕ) → s ≡ 45 ∷ t → SpellsNatural t n → 0 < n → SpellsNumber s (negsuc (n - 1))
minus_some s t n e p h =
    let back : suc (n - 1) ≡ n = omega arith in
    (le-leb (suc (n - 1)) 999999999999 (omega (arith, p.0)), ap (λ m. 45 ∷ decimal m) back ∙ ap (λ l. 45 ∷ l) p.1 ∙ sym e)

pub minus_none : (s t : List ℕ) → s ≡ 45 ∷ t → ((n : ℕ) → SpellsNatural t n → 0 < n → ⊥) → (z : ℤ) → SpellsNumber s z → ⊥
minus_none s t e none (pos n) p =
    let q : SpellsNatural s n = (omega (arith, leb-true n 999999999999 p.0), p.1) in
    omega (arith, spells_digit s n 0 q (subst (λ l. 0 < length l) (sym e) (omega arith)), ap (λ l. get_or l 0 0) e)
minus_none s t e none (negsuc n) p =
    let same : decimal (suc n) ≡ t = let q : 45 ∷ decimal (suc n) ≡ 45 ∷ t = p.1 ∙ e in cc in
    none (suc n) (omega (arith, leb-true (suc n) 999999999999 p.0), same) (omega arith)

-- with no `-`
pub plain : (s : List ℕ) → (0 < length s → get_or s 0 0 ≡ 45 → ⊥) → (o : Option ℕ) (r : Option ℤ) → Exactly o (SpellsNatural s) → MatchOption o (r ≡ None) (λ n. r ≡ Some (to_z w64 n)) → Exactly r (SpellsNumber s)
plain s other (Some n) r h e =
    let p : SpellsNatural s n = (h n).0 refl in
    let is : to_z w64 n ≡ pos n = omega (arith, ints, p.0) in
    let q : SpellsNumber s (to_z w64 n) = subst (SpellsNumber s) (sym is) (le-leb n 999999999999 (omega (arith, p.0)), p.1) in
    subst (λ y. Exactly y (SpellsNumber s)) (sym e) (exactly_some (SpellsNumber s) (to_z w64 n) q (λ z k. number_same s (to_z w64 n) z q k))
plain s other None r h e = subst (λ y. Exactly y (SpellsNumber s)) (sym e) (exactly_none (SpellsNumber s) go)
  where
    go : (z : ℤ) → SpellsNumber s z → ⊥
    go (pos n) p = none_of (SpellsNatural s) h n (omega (arith, leb-true n 999999999999 p.0), p.1)
    go (negsuc n) p = other (subst (λ l. 0 < length l) p.1 (omega arith)) (sym (ap (λ l. get_or l 0 0) p.1))
