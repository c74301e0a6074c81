-- The stretches of six columns in one list.
use Rattle.std.proofs.Common.{◌≡◌, ℕ, ◌+◌, ◌-◌, ◌*◌, ◌<◌, ◌≤◌, List, length, take, drop, ap, ◌∙◌, mul-le-mul_right, add-mul, arith}
use Rattle.std.proofs.lemmas.List.{length-take-le, length-drop, take-take}
use Rattle.sorted_index.specs.Sorting.{all_but_last}

-- one column's stretch ends where the next begins, or before
pub stretch_end : (c d room : ℕ) → c < d → c * room + room ≤ d * room
stretch_end c d room lt =
    let le : (c + 1) * room ≤ d * room = mul-le-mul_right room (omega arith) in
    let split = add-mul c 1 room in
    omega arith

-- the part of a list that is handed on for n elements and one more
module _ {X : Type 0} (xs : List X) (a n k : ℕ) (is : k ≡ n + 1) (inside : a + n < length xs) where
  pub part_long : length (take k (drop a xs)) ≡ n + 1
  part_long = let left = length-drop a xs in length-take-le k (drop a xs) (omega arith) ∙ is

  pub part_front : all_but_last (take k (drop a xs)) ≡ take n (drop a xs)
  part_front =
      let long : length (take k (drop a xs)) - 1 ≡ n = (let e = part_long in omega arith) in
      ap (λ m. take m (take k (drop a xs))) long ∙ take-take n k (drop a xs) (omega arith)
