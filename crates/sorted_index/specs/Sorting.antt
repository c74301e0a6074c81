-- Sorted lists, with one element more, and how long a search in one may take.
use Rattle.std.specs.Prelude.{ℕ, ◌+◌, ◌-◌, ◌*◌, ◌^◌, ◌<◌, ◌≤◌, Bool, true, cond, ◌&&◌, List, [], ◌∷◌, length, take}
use Rattle.basis.specs.Lists.{all}

-- each element comes before, or level with, every later one
abbrev pub sorted : {X : Type 0} → (X → X → Bool) → List X → Bool
sorted before [] = true
sorted before (x ∷ xs) = all (before x) xs && sorted before xs

-- x put behind the elements that come before it
abbrev pub inserted : {X : Type 0} → (X → X → Bool) → X → List X → List X
inserted before x [] = x ∷ []
inserted before x (y ∷ ys) = cond (before y x) (y ∷ inserted before x ys) (x ∷ y ∷ ys)

abbrev pub all_but_last : {X : Type 0} → List X → List X
all_but_last xs = take (length xs - 1) xs

-- the whole part of the logarithm of n to the base 2, or one more; none where n is 0
abbrev pub Logarithmic : ℕ → ℕ → Type 0
Logarithmic n looks = (n < 2 ^ (looks + 1)) × (2 ^ looks ≤ 2 * n + 1)
