-- The table that an index keeps, and its columns.
use Rattle.std.specs.Prelude.{ℕ, List, vec_items}
use Rattle.cells.specs.declared.types.Cell.{Cell}
use Rattle.stores.specs.Tables.{Built, Table}
use Rattle.sorted_index.specs.declared.entry.Entry.{Entry}
use Rattle.sorted_store.specs.declared.columns.Columns.{Columns}
use Rattle.sorted_store.specs.declared.index.TableIndex.{TableIndex}
use Rattle.sorted_store.specs.Columns.{rows_in, listed, AllListed}

abbrev pub table_of : TableIndex → Table
table_of x = record { rows = rows_in (vec_items x.places); room = x.columns.room }

-- the entries of the column c + 1
abbrev pub column_in : Columns → ℕ → List (Entry Cell)
column_in x c = listed (vec_items x.entries) x.filled x.room c

-- the columns say of each row what its cells are
abbrev pub Listed : List Built → Columns → Type 0
Listed rows x = AllListed rows (vec_items x.entries) x.filled x.room
