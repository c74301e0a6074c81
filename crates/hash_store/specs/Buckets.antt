-- Buckets of rows by the hash of a cell, and what a question looks at.
use Rattle.std.specs.Prelude.{ℕ, ◌-◌, ◌%◌, Bool, false, cond, List, length, take, Some, None, count_by, Option, ◌==◌}
use Rattle.basis.specs.Lists.{numbered}
use Rattle.cells.specs.declared.types.Cell.{Cell}
use Rattle.keys.specs.Keys.{cell_hash}
use Rattle.stores.specs.Tables.{Built, matches, next_after}

abbrev pub cell_bucket : Cell → ℕ
cell_bucket x = cell_hash x % 64

abbrev pub is_filed : Option Cell → ℕ → Bool
is_filed None b = false
is_filed (Some x) b = cell_bucket x == b

-- the row's cell in the column is of the bucket; a row with no cell there is of no bucket
abbrev pub in_bucket : ℕ → ℕ → Built → Bool
in_bucket column b row = is_filed (numbered row.cells column) b

abbrev pub kept_in_bucket : ℕ → ℕ → Option Built → Bool
kept_in_bucket column b None = false
kept_in_bucket column b (Some row) = in_bucket column b row

-- 0 stands for no row
abbrev pub or_zero : Option ℕ → ℕ
or_zero None = 0
or_zero (Some n) = n

-- the next row of a bucket above a number, or 0
abbrev pub next_filed : List Built → ℕ → ℕ → ℕ → ℕ
next_filed rows column b after = or_zero (next_after (in_bucket column b) after rows)

-- the row that a question begins behind: `after`, if that is itself of the key's bucket, else 0
abbrev pub begins_behind : List Built → ℕ → ℕ → ℕ → ℕ
begins_behind rows column b after = cond (kept_in_bucket column b (numbered rows after)) after 0

-- the last row that it looks at: the one found, else the last of all
abbrev pub ends_at : Option ℕ → List Built → ℕ
ends_at None rows = length rows
ends_at (Some n) rows = n

-- how many rows of a bucket have a number up to n
abbrev pub filed_upto : List Built → ℕ → ℕ → ℕ → ℕ
filed_upto rows column b n = count_by (in_bucket column b) (take n rows)

-- how many rows a question looks at: those of the key's bucket, from where it begins to where it ends
abbrev pub visits : List Built → ℕ → Cell → ℕ → ℕ
visits rows column key after =
    filed_upto rows column (cell_bucket key) (ends_at (next_after (matches column key) after rows) rows)
    - filed_upto rows column (cell_bucket key) (begins_behind rows column (cell_bucket key) after)
