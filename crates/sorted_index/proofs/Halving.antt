-- How often a stretch can be halved.
use Rattle.std.proofs.Common.{◌≡◌, ℕ, ◌+◌, ◌*◌, ◌^◌, ◌<◌, ◌≤◌, sym, ap, ◌∙◌, add-mul, mul-le-mul_left, mul-add, add-one, arith}
use native.Mathlib.Nat.{two-pow-succ}

-- of n, a stretch s is left after so many looks
pub record Halved (n s looks : ℕ) : Type 0 where
  pub low : n + 1 < 2 ^ looks * (s + 2)
  pub high : 2 ^ looks * s ≤ n
  pub last : 2 ^ looks ≤ 2 * n + 1

-- the power of two after one look more
power_more : (looks k : ℕ) → 2 ^ (looks + 1) * k ≡ 2 ^ looks * (k + k)
power_more looks k =
    let e : 2 ^ (looks + 1) ≡ 2 ^ looks + 2 ^ looks = ap (λ n. 2 ^ n) (add-one looks) ∙ two-pow-succ looks in
    ap (λ p. p * k) e ∙ add-mul (2 ^ looks) (2 ^ looks) k ∙ sym (mul-add (2 ^ looks) k k)

pub halved_more : (n s left looks : ℕ) → 0 < s → 2 * left ≤ s → s ≤ 2 * left + 2 → Halved n s looks → Halved n left (looks + 1)
halved_more n s left looks some most least h =
    let p = 2 ^ looks in
    let twice : 2 ^ (looks + 1) ≡ 2 ^ looks + 2 ^ looks = ap (λ n. 2 ^ n) (add-one looks) ∙ two-pow-succ looks in
    let one : p * 1 ≤ p * s = mul-le-mul_left p (omega arith) in
    let under : p * (left + left) ≤ p * s = mul-le-mul_left p (omega arith) in
    let over : p * (s + 2) ≤ p * (left + 2 + (left + 2)) = mul-le-mul_left p (omega arith) in
    record {
      low = omega (arith, power_more looks (left + 2), h.low, over);
      high = omega (arith, power_more looks left, h.high, under);
      last = omega (arith, twice, h.high, one);
    }
