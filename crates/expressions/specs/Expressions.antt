-- Expressions as trees, the items that are their prefix form, and their values.
use Rattle.std.specs.Prelude.{◌≡◌, ℕ, suc, ◌≤◌, max, Bool, true, false, cond, ◌&&◌, List, [], ◌∷◌, ◌++◌, length, ℤ, ◌+ℤ◌, ◌-ℤ◌, Some, None, Option, nat_le}
use Rattle.std.specs.Option.{option_map}
use Rattle.basis.specs.Reading.{Exactly}
use Rattle.cells.specs.Cells.{lawful_number}
use Rattle.expressions.specs.Readings.{Reading, number_in}
use Rattle.expressions.specs.declared.types.Column.{Column}
use Rattle.expressions.specs.declared.types.Item.{Item}
use Rattle.expressions.specs.declared.types.Item.TheVariants as item

-- a number, a number column, a sum or a difference
pub data Expr : Type 0 where
  number : ℤ → Expr
  column : Column → Expr
  sum : Expr → Expr → Expr
  difference : Expr → Expr → Expr

-- its prefix form: each operator before its two expressions
abbrev pub prefix : Expr → List Item
prefix (number z) = item.Number z ∷ []
prefix (column c) = item.Column c ∷ []
prefix (sum a b) = item.Add ∷ (prefix a ++ prefix b)
prefix (difference a b) = item.Sub ∷ (prefix a ++ prefix b)

-- how deep its operators are nested
abbrev pub nested : Expr → ℕ
nested (number z) = 0
nested (column c) = 0
nested (sum a b) = suc (max (nested a) (nested b))
nested (difference a b) = suc (max (nested a) (nested b))

-- each number in it is lawful
abbrev pub lawful_numbers : Expr → Bool
lawful_numbers (number z) = lawful_number z
lawful_numbers (column c) = true
lawful_numbers (sum a b) = lawful_numbers a && lawful_numbers b
lawful_numbers (difference a b) = lawful_numbers a && lawful_numbers b

-- Operators nested at most n deep, over lawful numbers.
pub record Within (n : ℕ) (x : Expr) : Type 0 where
  pub deep : nested x ≤ n
  pub lawful : lawful_numbers x ≡ true

-- Well formed: at most 31 items, the prefix form of an expression with operators nested at most 6 deep over lawful numbers.
pub record WellFormed (items : List Item) : Type 0 where
  pub short : length items ≤ 31
  pub tree : Expr
  pub spelled : prefix tree ≡ items
  pub within : Within 6 tree

-- The expressions that items stand for, one after another, read from the last item to the first; None where an operator
-- lacks one of its two.
abbrev pub joined_by : (Expr → Expr → Expr) → Option (List Expr) → Option (List Expr)
joined_by node None = None
joined_by node (Some []) = None
joined_by node (Some (a ∷ [])) = None
joined_by node (Some (a ∷ (b ∷ rest))) = Some (node a b ∷ rest)

abbrev pub forest : List Item → Option (List Expr)
forest [] = Some []
forest (item.Number z ∷ items) = option_map (λ rest. number z ∷ rest) (forest items)
forest (item.Column c ∷ items) = option_map (λ rest. column c ∷ rest) (forest items)
forest (item.Add ∷ items) = joined_by sum (forest items)
forest (item.Sub ∷ items) = joined_by difference (forest items)

-- the one expression whose prefix form the items are, if there is one
abbrev pub only : Option (List Expr) → Option Expr
only None = None
only (Some []) = None
only (Some (x ∷ [])) = Some x
only (Some (x ∷ (y ∷ rest))) = None

abbrev pub tree_of : List Item → Option Expr
tree_of items = only (forest items)

-- Items are the prefix form of at most one expression, and `tree_of` finds it.
abbrev pub TreeOfIsExact : Type 0
TreeOfIsExact = (items : List Item) → Exactly (tree_of items) (λ x. prefix x ≡ items)

abbrev pub within_limits : Option Expr → Bool
within_limits None = false
within_limits (Some x) = nat_le (nested x) 6 && lawful_numbers x

-- the test for `WellFormed`
abbrev pub well_formed : List Item → Bool
well_formed items = nat_le (length items) 31 && within_limits (tree_of items)

-- the value of an expression over a reading
abbrev pub worth : Reading → Expr → ℤ
worth e (number z) = z
worth e (column c) = number_in (e c.table c.column)
worth e (sum a b) = worth e a +ℤ worth e b
worth e (difference a b) = worth e a -ℤ worth e b

-- the value of items: their tree's if they are well formed, else none
abbrev pub value_of : Reading → List Item → Option ℤ
value_of e items = cond (well_formed items) (option_map (worth e) (tree_of items)) None

-- a test of the column in an item, passed by every other item
abbrev pub on_column : (Column → Bool) → Item → Bool
on_column p (item.Number z) = true
on_column p (item.Column c) = p c
on_column p item.Add = true
on_column p item.Sub = true
