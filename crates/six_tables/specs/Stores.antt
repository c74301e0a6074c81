-- The tables that a store of six indexes keeps.
use Rattle.std.specs.Prelude.{ℕ, List, [], ◌∷◌, Some, None, Option}
use Rattle.std.specs.Borrow.{Bor}
use Rattle.stores.specs.Tables.{Table, no_table}
use Rattle.six_tables.specs.declared.store.SixTables.{SixTables}

abbrev pub tables_of : {T : Type 0} → (T → Table) → SixTables T → List Table
tables_of table s = table s.0 ∷ table s.1 ∷ table s.2 ∷ table s.3 ∷ table s.4 ∷ table s.5 ∷ []

abbrev pub table_in : {T : Type 0} → (T → Table) → Option (Bor T) → Table
table_in table None = no_table
table_in table (Some x) = table x.now

-- each table is one that was made for its number
pub record Made {T : Type 0} (made : ℕ → T → Type 0) (s : SixTables T) : Type 0 where
  pub first : made 0 s.0
  pub second : made 1 s.1
  pub third : made 2 s.2
  pub fourth : made 3 s.3
  pub fifth : made 4 s.4
  pub sixth : made 5 s.5
