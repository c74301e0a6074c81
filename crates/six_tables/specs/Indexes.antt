-- What a build leaves of one table.
use Rattle.std.specs.Prelude.{ℕ, Bool, cond, length, nat_lt}
use Rattle.cells.specs.declared.rows.Row.{Row}
use Rattle.stores.specs.Tables.{Table, grown, built_row}

-- does it hold fewer rows than it may?
abbrev pub is_open : Table → Bool
is_open x = nat_lt (length x.rows) x.room

abbrev pub built_in : Table → Row → ℕ → Table
built_in x row stamp = cond (is_open x) (grown x (built_row row stamp)) x
