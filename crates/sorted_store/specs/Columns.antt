-- The indexes of a table's columns: what stands in them, and when they are right.
use Rattle.std.specs.Prelude.{◌≡◌, ℕ, suc, ◌+◌, ◌*◌, Bool, true, List, map, take, drop, is_some, Some, None, count_by, Option, slice_index}
use Rattle.basis.specs.Lists.{numbered}
use Rattle.cells.specs.declared.types.Cell.{Cell}
use Rattle.keys.specs.Keys.{same_cell, less_cell}
use Rattle.stores.specs.Tables.{Built, built_row, cell_of, is_cell}
use Rattle.sorted_index.specs.declared.entry.Entry.{Entry}
use Rattle.sorted_index.specs.Entries.{at_or_before, entry_of, has_entry}
use Rattle.sorted_index.specs.Sorting.{sorted, inserted}
use Rattle.sorted_store.specs.declared.place.Place.{Place}

-- the row that a place holds, and the rows in the places
abbrev pub row_in : Place → Built
row_in p = built_row p.row p.stamp

abbrev pub rows_in : List Place → List Built
rows_in ps = map row_in ps

-- by cell, then by row number
abbrev pub cell_order : Entry Cell → Entry Cell → Bool
cell_order = at_or_before less_cell same_cell

-- the entries of the column c + 1: each column has as many places as the table has room, of which some are filled
abbrev pub listed : List (Entry Cell) → List ℕ → ℕ → ℕ → List (Entry Cell)
listed es filled room c = take (slice_index filled c) (drop (c * room) es)

-- how many entries a column has after one row more
abbrev pub counted : Option Cell → ℕ → ℕ
counted None n = n
counted (Some x) n = n + 1

-- a column's entries with those of one row more; a row with no cell in the column has none
abbrev pub with_cell : Option Cell → ℕ → List (Entry Cell) → List (Entry Cell)
with_cell None n es = es
with_cell (Some x) n es = inserted cell_order (entry_of x n) es

-- how many rows have a cell in the column
abbrev pub having : ℕ → List Built → ℕ
having column rows = count_by (λ b. is_some (numbered b.cells column)) rows

-- of every column: it has as many entries as rows have a cell in it; they are in order; and they say of each row what its cell
-- is. Above the sixth column there are none.
abbrev pub AllCounted : List Built → List ℕ → Type 0
AllCounted rows filled = (c : ℕ) → slice_index filled c ≡ having (suc c) rows

abbrev pub AllSorted : List (Entry Cell) → List ℕ → ℕ → Type 0
AllSorted es filled room = (c : ℕ) → sorted cell_order (listed es filled room c) ≡ true

abbrev pub Lists : List Built → ℕ → List (Entry Cell) → Type 0
Lists rows column es = (x : Cell) (n : ℕ) → has_entry same_cell es x n ≡ is_cell (cell_of (numbered rows n) column) x

abbrev pub AllListed : List Built → List (Entry Cell) → List ℕ → ℕ → Type 0
AllListed rows es filled room = (c : ℕ) → Lists rows (suc c) (listed es filled room c)
