use Rattle.std.proofs.Common.{◌≡◌, ◌<◌, length, get_or, take, sym, ap, ◌∙◌, subst, arith, rules}
use Rattle.std.specs.Str.Parse.{digits_value, AllDigits}
use Rattle.std.specs.Char.{digit_value as digitValue}
use Rattle.std.proofs.lemmas.Int.Digits.{digits_value_more, digits_more}
use Rattle.std.proofs.lemmas.List.{take_all}
use Rattle.std.proofs.lemmas.Bool.{eqb-true}
use Rattle.std.proofs.lemmas.Str.{digit_value_digit}
use Rattle.basis.specs.Reading.{Exactly}
use Rattle.basis.proofs.Exact.{exactly_some, exactly_none}
use Rattle.spelling.proofs.Numerals.{SpellsNatural, spells_same, spells_value, spells_some, spells_short, spells_digit, spells_lead, value_short}
use Rattle.spelling.proofs.naturals.read_natural.Goals as goal
use Rattle.spelling.proofs.naturals.read_natural.Goals.{then-is_empty-via-then-is_empty, then-is_empty-via-else-is_empty+then-s-gt12}

pub returns-then-is_empty : goal.returns-then-is_empty
returns-then-is_empty c =
    let s = c.args.s.now in
    record {
      value = exactly_none (SpellsNatural s) (λ n p. elim c.then-is_empty.branch [
        | then-is_empty-via-then-is_empty w ↦ omega (arith, eqb-true (length s) 0 (sym c.is_empty.ensures ∙ w.if-is_empty.true), spells_some s n p)
        | then-is_empty-via-else-is_empty+then-s-gt12 w ↦ omega (arith, w.if-s-gt12.true, spells_short s n p)
      ]);
    }

pub returns-then-s-gt1 : goal.returns-then-s-gt1
returns-then-s-gt1 c =
    let s = c.args.s.now in
    record { value = exactly_none (SpellsNatural s) (λ n p. omega (arith, spells_lead s n p c.if-s-eq48.true)) }

pub overflow_mul-n : goal.overflow_mul-n
overflow_mul-n c = omega (arith, value_short c.args.s.now c.loop-b.b-index c.loop-b.invariant.0 c.if-s-gt12.false c.loop-b-test.true)

pub overflow_add-n : goal.overflow_add-n
overflow_add-n c = omega (arith, value_short c.args.s.now c.loop-b.b-index c.loop-b.invariant.0 c.if-s-gt12.false c.loop-b-test.true, c.in_ok-to_digit.ensures.value.0, c.in_ok-to_digit.ensures.value.1, c.from-in-loop-b.ensures)

pub returns-in_err-to_digit : goal.returns-in_err-to_digit
returns-in_err-to_digit c =
    let s = c.args.s.now in
    let i = c.loop-b.b-index in
    let bad : digitValue (get_or s i 0) < 10 → ⊥ = subst (λ b. digitValue b < 10 → ⊥) c.from.ensures c.in_err-to_digit.ensures.value in
    record {
      value = subst (λ r. Exactly r (SpellsNatural s)) (sym c.from_residual.ensures) (exactly_none (SpellsNatural s) (λ n p.
          let d = spells_digit s n i p c.loop-b-test.true in
          bad (omega (arith, d, digit_value_digit (get_or s i 0) d))));
    }

pub loop-b-preserved : goal.loop-b-preserved
loop-b-preserved c =
    let s = c.args.s.now in
    let i = c.loop-b.b-index in
    let digit = subst (λ b. (digitValue b < 10) × (c.in_ok-to_digit.field-0 ≡ digitValue b)) c.from.ensures c.in_ok-to_digit.ensures.value in (
      digits_more 10 s i c.loop-b-test.true c.loop-b.invariant.0 digit.0,
      omega (arith, digits_value_more 10 s i c.loop-b-test.true, c.loop-b.invariant.1, c.from-in-loop-b.ensures, digit.1),
    )

pub returns : goal.returns
returns c =
    let s = c.args.s.now in
    let whole : take c.loop-b.b-index s ≡ s = take_all _ s c.loop-b-test.false in
    let is : c.loop-b.n ≡ digits_value 10 s = c.loop-b.invariant.1 ∙ ap (digits_value 10) whole in
    let some : 0 < length s = search rules in
    let p : SpellsNatural s c.loop-b.n =
    subst (SpellsNatural s) (sym is) (spells_value s (subst (AllDigits 10) whole c.loop-b.invariant.0) some (omega arith) (λ z. omega (arith, c.else-s-eq48.either, some))) in
    record { value = exactly_some (SpellsNatural s) c.loop-b.n p (λ m q. spells_same s c.loop-b.n m p q) }
