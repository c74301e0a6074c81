-- The table that an index keeps.
use Rattle.std.specs.Prelude.{vec_items}
use Rattle.stores.specs.Tables.{Table}
use Rattle.hash_store.specs.declared.index.TableIndex.{TableIndex}
use Rattle.hash_store.specs.Chains.{rows_in}

abbrev pub table_of : TableIndex → Table
table_of x = record { rows = rows_in (vec_items x.places); room = x.room }
