-- What it costs to drain the rows of a key: to ask for the next after each row found, until there is none.
use Rattle.std.specs.Prelude.{◌≡◌, ℕ, zero, suc, ◌+◌, List, length, Some, None, count_by, Option}
use Rattle.cells.specs.declared.types.Cell.{Cell}
use Rattle.stores.specs.Tables.{Built, matches, next_after}
use Rattle.hash_store.specs.Buckets.{cell_bucket, in_bucket, visits}

abbrev pub on_found : Option ℕ → (ℕ → ℕ) → ℕ
on_found None more = 0
on_found (Some n) more = more n

-- how many rows the questions look at in all, of which there are at most so many
abbrev pub drain_visits : ℕ → List Built → ℕ → Cell → ℕ → ℕ
drain_visits zero rows column key after = 0
drain_visits (suc questions) rows column key after =
    visits rows column key after + on_found (next_after (matches column key) after rows) (drain_visits questions rows column key)

-- draining a key from the first row on looks once at each row of its bucket
abbrev pub DrainLaw : Type 0
DrainLaw =
    (rows : List Built) (column : ℕ) (key : Cell)
    → drain_visits (suc (length rows)) rows column key 0 ≡ count_by (in_bucket column (cell_bucket key)) rows
