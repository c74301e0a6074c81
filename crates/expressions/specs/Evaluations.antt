-- What the evaluation of items from the first on answers.
use Rattle.std.specs.Prelude.{◌≡◌, ℕ, ◌-◌, ◌*◌, ◌^◌, ◌<◌, List, ◌∷◌, length, ℤ, pos, neg_ℤ, ◌≤ℤ◌, Some}
use Rattle.std.specs.Option.{option_map}
use Rattle.expressions.specs.Expressions.{Expr, sum, forest, Within, worth}
use Rattle.expressions.specs.Readings.{Reading}
use Rattle.expressions.specs.declared.types.Item.{Item}

-- From -m to m.
pub record Small (m : ℕ) (z : ℤ) : Type 0 where
  pub low : neg_ℤ (pos m) ≤ℤ z
  pub high : z ≤ℤ pos m

-- The items stand for an expression within the limits, with the value z, and then for what the rest of them stand for. Each
-- item adds at most 10 ^ 12 to the value, so that 31 of them stay far within 64 bits.
pub record Found (e : Reading) (items : List Item) (deep : ℕ) (rest : List Item) (z : ℤ) : Type 0 where
  pub tree : Expr
  pub within : Within deep tree
  pub split : forest items ≡ option_map (λ ts. tree ∷ ts) (forest rest)
  pub fewer : length rest < length items
  pub value : z ≡ worth e tree
  pub small : Small ((length items - length rest) * 10 ^ 12) z

-- The same of two expressions, one after the other, which an operator may join.
pub record FoundTwo (e : Reading) (items : List Item) (deep : ℕ) (rest : List Item) (y z : ℤ) : Type 0 where
  pub next : List Item
  pub some : 0 < deep
  pub one : Found e items (deep - 1) next y
  pub two : Found e next (deep - 1) rest z

-- the items stand for no expressions of which the first is within the limits; or the first two, joined
abbrev pub NotFound : List Item → ℕ → Type 0
NotFound items deep = (x : Expr) (rest : List Expr) → forest items ≡ Some (x ∷ rest) → Within deep x → ⊥

abbrev pub NotFoundTwo : List Item → ℕ → Type 0
NotFoundTwo items deep =
    (x y : Expr) (rest : List Expr) → forest items ≡ Some (x ∷ (y ∷ rest)) → Within deep (sum x y) → ⊥
