-- A count for each table.
use Rattle.std.specs.Prelude.{ℕ, ◌+◌, ◌-◌, ◌^◌, min, List, slice_index, slice_set}

-- one question more of a table, up to the largest count; a table that there is not has none
abbrev pub one_more : List ℕ → ℕ → List ℕ
one_more counts t = slice_set counts t (min (slice_index counts t + 1) (2 ^ 64 - 1))
