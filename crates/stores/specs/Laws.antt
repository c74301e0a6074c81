-- What the definitions of next and build come to, in the words of a caller.
use Rattle.std.specs.Prelude.{◌≡◌, ℕ, ◌+◌, ◌<◌, ◌≤◌, true, List, Some, None, ◌≢◌}
use Rattle.basis.specs.Reading.{Exactly}
use Rattle.cells.specs.declared.types.Cell.{Cell}
use Rattle.cells.specs.declared.rows.Row.{Row}
use Rattle.stores.specs.Tables.{Table, table_at, count_at, row_at, cell_at, has_room, built_row, built, next_row}

-- n is the least row above `after` whose cell equals the key
pub record Least (ts : List Table) (t column : ℕ) (key : Cell) (after n : ℕ) : Type 0 where
  pub above : after < n
  pub kept : n ≤ count_at ts t
  pub equal : cell_at ts t n column ≡ Some key
  pub least : (m : ℕ) → after < m → m < n → cell_at ts t m column ≢ Some key

pub record NextLaws : Type 0 where
  -- what is found is the least such row, and the least such row is found
  pub finds : (ts : List Table) (t column : ℕ) (key : Cell) (after : ℕ) → Exactly (next_row ts t column key after) (Least ts t column key after)
  -- none means that no row above has such a cell
  pub none : (ts : List Table) (t column : ℕ) (key : Cell) (after : ℕ) → next_row ts t column key after ≡ None → (n : ℕ) → after < n → cell_at ts t n column ≢ Some key

pub record BuildLaws (ts : List Table) (t : ℕ) (row : Row) (stamp : ℕ) : Type 0 where
  -- the tables other than t are left as they are, and every table keeps its room
  pub others : (u : ℕ) → (u ≢ t) → table_at (built ts t row stamp) u ≡ table_at ts u
  pub rooms : (u : ℕ) → (table_at (built ts t row stamp) u).room ≡ (table_at ts u).room
  -- old rows keep their number, cells and build number
  pub old : (u n : ℕ) → n ≤ count_at ts u → row_at (built ts t row stamp) u n ≡ row_at ts u n
  -- where there is room, there is one row more, and it is the row given
  pub more : has_room ts t ≡ true → count_at (built ts t row stamp) t ≡ count_at ts t + 1
  pub last : has_room ts t ≡ true → row_at (built ts t row stamp) t (count_at ts t + 1) ≡ Some (built_row row stamp)
  -- what was found stays found
  pub found : (u column : ℕ) (key : Cell) (after n : ℕ) → next_row ts u column key after ≡ Some n → next_row (built ts t row stamp) u column key after ≡ Some n

pub record StoreLaws : Type 0 where
  pub next : NextLaws
  pub build : (ts : List Table) (t : ℕ) (row : Row) (stamp : ℕ) → BuildLaws ts t row stamp
