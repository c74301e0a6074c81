-- What a store keeps: for each table the rows built, in building order, and its capacity; and what its calls answer.
use Rattle.std.specs.Prelude.{ℕ, suc, ◌≤◌, Bool, false, cond, List, [], ◌∷◌, ◌++◌, length, drop, Some, None, Option, nat_lt, slice_index_or, slice_set}
use Rattle.basis.specs.Lists.{numbered}
use Rattle.cells.specs.declared.types.Cell.{Cell}
use Rattle.cells.specs.declared.rows.Row.{Row}
use Rattle.cells.specs.Rows.{cells_of}
use Rattle.keys.specs.Keys.{same_cell}

-- a row that was built: its cells, and its build number
pub record Built : Type 0 where
  pub cells : List Cell
  pub stamp : ℕ

-- the rows built, and how many there may be
pub record Table : Type 0 where
  pub rows : List Built
  pub room : ℕ

-- what stands where a store has no table
abbrev pub no_table : Table
no_table = record { rows = []; room = 0 }

abbrev pub table_at : List Table → ℕ → Table
table_at ts t = slice_index_or ts t no_table

-- how many rows a table holds
abbrev pub count_at : List Table → ℕ → ℕ
count_at ts t = length (table_at ts t).rows

-- a row of a table, numbered from 1
abbrev pub row_at : List Table → ℕ → ℕ → Option Built
row_at ts t n = numbered (table_at ts t).rows n

abbrev pub stamp_of : Option Built → Option ℕ
stamp_of None = None
stamp_of (Some b) = Some b.stamp

abbrev pub stamp_at : List Table → ℕ → ℕ → Option ℕ
stamp_at ts t n = stamp_of (row_at ts t n)

-- a row's cell in a column, numbered from 1
abbrev pub cell_of : Option Built → ℕ → Option Cell
cell_of None column = None
cell_of (Some b) column = numbered b.cells column

abbrev pub cell_at : List Table → ℕ → ℕ → ℕ → Option Cell
cell_at ts t n column = cell_of (row_at ts t n) column

-- a build adds a row at the end, where the table holds fewer than it may
abbrev pub has_room : List Table → ℕ → Bool
has_room ts t = nat_lt (count_at ts t) (table_at ts t).room

abbrev pub built_row : Row → ℕ → Built
built_row row n = record { cells = cells_of row; stamp = n }

abbrev pub grown : Table → Built → Table
grown x b = record { rows = x.rows ++ (b ∷ []); room = x.room }

abbrev pub built : List Table → ℕ → Row → ℕ → List Table
built ts t row n = cond (has_room ts t) (slice_set ts t (grown (table_at ts t) (built_row row n))) ts

-- does a row's cell in a column equal the key?
abbrev pub is_cell : Option Cell → Cell → Bool
is_cell None key = false
is_cell (Some c) key = same_cell c key

abbrev pub matches : ℕ → Cell → Built → Bool
matches column key b = is_cell (numbered b.cells column) key

-- the number of the first element that passes, where the element before the list has the number n
abbrev pub next_in : {X : Type 0} → (X → Bool) → ℕ → List X → Option ℕ
next_in p n [] = None
next_in p n (x ∷ xs) = cond (p x) (Some (suc n)) (next_in p (suc n) xs)

-- the least number above `after` of an element that passes
abbrev pub next_after : {X : Type 0} → (X → Bool) → ℕ → List X → Option ℕ
next_after p after xs = next_in p after (drop after xs)

-- the least row above `after` whose cell in a column equals the key
abbrev pub next_row : List Table → ℕ → ℕ → Cell → ℕ → Option ℕ
next_row ts t column key after = next_after (matches column key) after (table_at ts t).rows

-- no table has more rows than its room, and no room is above 1,024
abbrev pub WithinRoom : List Table → Type 0
WithinRoom ts = (t : ℕ) → (count_at ts t ≤ (table_at ts t).room) × ((table_at ts t).room ≤ 1024)
