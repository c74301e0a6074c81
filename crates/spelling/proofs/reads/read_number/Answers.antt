use Rattle.std.proofs.Common.{◌≡◌, ℕ, ◌-◌, ◌<◌, List, ◌∷◌, length, get_or, take, drop, pos, negsuc, ◌-ℤ◌, Some, None, MatchOption, sym, refl, ap, ◌∙◌, subst, arith, w64, to_z, of_z, rules}
use Rattle.std.proofs.lemmas.Int.{ints}
use Rattle.std.proofs.lemmas.Slice.{first_rest}
use Rattle.basis.specs.Reading.{Exactly}
use Rattle.basis.proofs.Exact.{exactly_some, exactly_none, none_of}
use Rattle.spelling.proofs.Numerals.{SpellsNatural, spells_same}
use Rattle.spelling.proofs.Signs.{SpellsNumber, number_same, minus_some, minus_none, plain}
use Rattle.spelling.proofs.reads.read_number.Goals as goal
use Rattle.spelling.proofs.reads.read_number.Goals.{in_default-via-then-s-lt1, in_default-via-else-s-lt1+in_default-1}

minus : (s : List ℕ) → 0 < length s → get_or s 0 0 ≡ 45 → s ≡ 45 ∷ take (length s - 1) (drop 1 s)
minus s some e = first_rest s 0 some ∙ ap (λ b. b ∷ take (length s - 1) (drop 1 s)) e

pub returns-in_err-n-in-45 : goal.returns-in_err-n-in-45
returns-in_err-n-in-45 c =
    let s = c.args.s.now in
    let t = take (length s - 1) (drop 1 s) in
    let first : get_or s 0 0 ≡ 45 = search rules in
    let none : Exactly None (SpellsNatural t) = subst (λ r. Exactly r (SpellsNatural t)) c.in_err-n-in-45.was c.read_natural.ensures.value in
    record {
      value = subst (λ r. Exactly r (SpellsNumber s)) (sym c.from_residual.ensures)
          (exactly_none (SpellsNumber s) (minus_none s t (minus s c.in-45.len_at_least first) (λ m q more. none_of (SpellsNatural t) none m q)));
    }

pub overflow_cast-result : goal.overflow_cast-result
overflow_cast-result c = omega (arith, ints, ((c.in_ok-n-in-45.ensures.value c.in_ok-n-in-45.n).0 refl).0)

pub overflow_sub-result : goal.overflow_sub-result
overflow_sub-result c = omega (arith, ints, ((c.in_ok-n-in-45.ensures.value c.in_ok-n-in-45.n).0 refl).0)

pub returns-in-0 : goal.returns-in-0
returns-in-0 c =
    let s = c.args.s.now in
    let t = take (length s - 1) (drop 1 s) in
    let first : get_or s 0 0 ≡ 45 = search rules in
    let p : SpellsNatural t c.in_ok-n-in-45.n = (c.in_ok-n-in-45.ensures.value c.in_ok-n-in-45.n).0 refl in
    record { value = exactly_none (SpellsNumber s) (minus_none s t (minus s c.in-45.len_at_least first) (λ m q more. omega (arith, c.in-0.is, spells_same t c.in_ok-n-in-45.n m p q))) }

pub returns-in_default-2 : goal.returns-in_default-2
returns-in_default-2 c =
    let s = c.args.s.now in
    let n = c.in_ok-n-in-45.n in
    let t = take (length s - 1) (drop 1 s) in
    let first : get_or s 0 0 ≡ 45 = search rules in
    let p : SpellsNatural t n = (c.in_ok-n-in-45.ensures.value n).0 refl in
    let some : 0 < n = search rules in
    let is : to_z w64 (of_z w64 (pos 0 -ℤ to_z w64 n)) ≡ negsuc (n - 1) = omega (arith, ints, p.0, some) in
    let q : SpellsNumber s (to_z w64 (of_z w64 (pos 0 -ℤ to_z w64 n))) =
    subst (SpellsNumber s) (sym is) (minus_some s t n (minus s c.in-45.len_at_least first) p some) in
    record { value = exactly_some (SpellsNumber s) _ q (λ z r. number_same s _ z q r) }

pub returns-in_default : goal.returns-in_default
returns-in_default c =
    let s = c.args.s.now in
    let o = c.read_natural-in_default.result in
    let m : MatchOption o (c.map.result ≡ None) (λ n. c.map.result ≡ Some (to_z w64 n)) = search rules in
    let other : 0 < length s → get_or s 0 0 ≡ 45 → ⊥ = λ some e. elim c.in_default.branch [
      | in_default-via-then-s-lt1 w ↦ search rules
      | in_default-via-else-s-lt1+in_default-1 w ↦ search rules
    ] in
    record { value = plain s other o c.map.result c.read_natural-in_default.ensures.value m }
