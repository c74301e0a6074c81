-- Digits with no leading zero, and the number that they spell.
use Rattle.std.proofs.Common.{◌≡◌, ℕ, ◌^◌, ◌<◌, ◌≤◌, List, length, get_or, take, decimal, sym, ap, ◌∙◌, subst, ⊎_elim, arith, lit<, length-take}
use native.Mathlib.Nat.{pow-le-pow_right}
use Rattle.std.specs.Str.Parse.{digits_value, AllDigits}
use Rattle.std.specs.Int.{IsInRange}
use Rattle.std.proofs.lemmas.Int.Digits.{digits_value-lt}
use Rattle.std.proofs.lemmas.Str.Parse.{IsNumeralModel, numerals_by_value, tells_digits, digit_at}
use Rattle.std.proofs.lemmas.Fmt.{decimal-digits_value, decimal_nonempty, length-decimal-le, digits_decimal, decimal_injective, first_decimal, decimal_digit}
use Rattle.std.proofs.lemmas.Bool.{cases_eq}

own : IsNumeralModel (AllDigits 10) (digits_value 10)
own = numerals_by_value (AllDigits 10) tells_digits

-- s spells n, which is below 10 ^ 12
abbrev pub SpellsNatural : List ℕ → ℕ → Type 0
SpellsNatural s n = (n < 10 ^ 12) × (decimal n ≡ s)

small : (n : ℕ) → n < 10 ^ 12 → n < 2 ^ 64
small n h = omega arith

pub spells_same : (s : List ℕ) (m n : ℕ) → SpellsNatural s m → SpellsNatural s n → m ≡ n
spells_same s m n p q = decimal_injective m n (small m p.0) (small n q.0) (p.1 ∙ sym q.1)

pub spells_value : (s : List ℕ) → AllDigits 10 s → 0 < length s → length s ≤ 12 → (get_or s 0 0 ≡ 48 → length s ≡ 1) → SpellsNatural s (digits_value 10 s)
spells_value s ds some short lead =
    let below : digits_value 10 s < 10 ^ length s = digits_value-lt 10 s ds in
    let room : 10 ^ length s ≤ 10 ^ 12 = pow-le-pow_right (lit< tt) short in
    let fits : digits_value 10 s < 10 ^ 12 = omega arith in
    (fits, decimal-digits_value own s ds some lead (small _ fits))

pub spells_some : (s : List ℕ) (n : ℕ) → SpellsNatural s n → 0 < length s
spells_some s n p = subst (λ l. 0 < length l) p.1 (decimal_nonempty n (small n p.0))

pub spells_short : (s : List ℕ) (n : ℕ) → SpellsNatural s n → length s ≤ 12
spells_short s n p = subst (λ l. length l ≤ 12) p.1 (length-decimal-le 12 n (lit< tt) p.0 (small n p.0))

pub spells_digits : (s : List ℕ) (n : ℕ) → SpellsNatural s n → AllDigits 10 s
spells_digits s n p = subst (AllDigits 10) p.1 (digits_decimal own n (small n p.0))

pub spells_digit : (s : List ℕ) (n i : ℕ) → SpellsNatural s n → i < length s → IsInRange 48 57 (get_or s i 0)
spells_digit s n i p h = digit_at s i (spells_digits s n p) h

pub spells_lead : (s : List ℕ) (n : ℕ) → SpellsNatural s n → get_or s 0 0 ≡ 48 → length s ≡ 1
spells_lead s n p e =
    ⊎_elim
    (λ zero. subst (λ l. length l ≡ 1) p.1 (ap length (decimal_digit n (omega arith))))
    (λ more. absurd (let h : 48 < get_or s 0 0 = subst (λ l. 48 < get_or l 0 0) p.1 (first_decimal n (omega arith) (small n p.0)) in omega arith))
    (cases_eq n 0)

-- the value of few digits is small
pub value_short : (s : List ℕ) (i : ℕ) → AllDigits 10 (take i s) → length s ≤ 12 → i < length s → digits_value 10 (take i s) < 10 ^ 11
value_short s i ds short h =
    let below : digits_value 10 (take i s) < 10 ^ length (take i s) = digits_value-lt 10 (take i s) ds in
    let few : length (take i s) ≤ 11 = rw length-take (omega arith) in
    let room : 10 ^ length (take i s) ≤ 10 ^ 11 = pow-le-pow_right (lit< tt) few in
    omega arith
