-- The sum and the difference of two values that were found: neither wraps.
use Rattle.std.proofs.Common.{◌≡◌, ℕ, ◌+◌, ◌-◌, ◌*◌, ◌^◌, ◌≤◌, List, ◌∷◌, length, ℤ, ◌+ℤ◌, ◌-ℤ◌, sym, subst, arith, w64, to_z, of_z}
use Rattle.std.proofs.lemmas.Int.{ints}
use Rattle.expressions.specs.Evaluations.{Small, Found, FoundTwo}
use Rattle.expressions.specs.Readings.{Reading}
use Rattle.expressions.specs.declared.types.Item.{Item}
use Rattle.expressions.specs.declared.types.Item.TheVariants as item
use Rattle.expressions.proofs.Finds.{adds, subtracts, two_found}

-- a value's bits, read back
abbrev bits : ℤ → ℤ
bits z = to_z w64 (of_z w64 z)

module _ (e : Reading) (items : List Item) (deep : ℕ) (next rest : List Item) (y z : ℤ) (short : length items ≤ 31) (fewer : length items ≡ length next + 1) (p : FoundTwo e next deep rest y z) where
  sum_fits : bits (bits y +ℤ bits z) ≡ y +ℤ z
  sum_fits = omega (arith, ints, p.one.fewer, p.two.fewer, p.one.small.low, p.one.small.high, p.two.small.low, p.two.small.high)

  difference_fits : bits (bits y -ℤ bits z) ≡ y -ℤ z
  difference_fits = omega (arith, ints, p.one.fewer, p.two.fewer, p.one.small.low, p.one.small.high, p.two.small.low, p.two.small.high)

  sum_small : Small ((length items - length rest) * 10 ^ 12) (y +ℤ z)
  sum_small = record {
    low = omega (arith, ints, p.one.fewer, p.two.fewer, p.one.small.low, p.two.small.low);
    high = omega (arith, ints, p.one.fewer, p.two.fewer, p.one.small.high, p.two.small.high);
  }

  difference_small : Small ((length items - length rest) * 10 ^ 12) (y -ℤ z)
  difference_small = record {
    low = omega (arith, ints, p.one.fewer, p.two.fewer, p.one.small.low, p.two.small.high);
    high = omega (arith, ints, p.one.fewer, p.two.fewer, p.one.small.high, p.two.small.low);
  }

  pub sum-found : items ≡ item.Add ∷ next → Found e items deep rest (bits (bits y +ℤ bits z))
  sum-found i =
      subst (Found e items deep rest) (sym sum_fits)
      (two_found items deep next adds i e rest y z (y +ℤ z) p (λ k. p.one.value k +ℤ p.two.value k) sum_small)

  pub difference_found : items ≡ item.Sub ∷ next → Found e items deep rest (bits (bits y -ℤ bits z))
  difference_found i =
      subst (Found e items deep rest) (sym difference_fits)
      (two_found items deep next subtracts i e rest y z (y -ℤ z) p (λ k. p.one.value k -ℤ p.two.value k) difference_small)
