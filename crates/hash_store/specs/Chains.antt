-- Places of rows, and the chains that run through them: for each column and bucket from the oldest row to the newest.
use Rattle.std.specs.Prelude.{◌≡◌, ℕ, suc, ◌+◌, ◌-◌, ◌*◌, ◌<◌, ◌≤◌, true, List, [], map, length, get_or, slice_index, slice_index_or}
use Rattle.stores.specs.Tables.{Built, built_row}
use Rattle.hash_store.specs.declared.place.Place.{Place}
use Rattle.hash_store.specs.declared.place.Ends.{Ends}
use Rattle.hash_store.specs.Buckets.{in_bucket, next_filed}

-- what is read past the end
abbrev pub no_row : Built
no_row = record { cells = []; stamp = 0 }

abbrev pub no_place : Place
no_place = record { row = record { cells = []; len = 0 }; stamp = 0; links = [] }

abbrev pub no_ends : Ends
no_ends = record { head = 0; tail = 0 }

-- the row that a place holds, and the rows in the places
abbrev pub row_in : Place → Built
row_in p = built_row p.row p.stamp

abbrev pub rows_in : List Place → List Built
rows_in ps = map row_in ps

-- columns are numbered from 1
abbrev pub IsColumn : ℕ → Type 0
IsColumn column = (0 < column) × (column ≤ 6)

-- where a column's bucket has its ends
abbrev pub slot : ℕ → ℕ → ℕ
slot column b = (column - 1) * 64 + b

abbrev pub head_in : List Ends → ℕ → ℕ → ℕ
head_in ends column b = (get_or ends (slot column b) no_ends).head

abbrev pub tail_in : List Ends → ℕ → ℕ → ℕ
tail_in ends column b = (get_or ends (slot column b) no_ends).tail

abbrev pub link_in : List Place → ℕ → ℕ → ℕ
link_in ps column i = slice_index (get_or ps i no_place).links (column - 1)

-- a head is the first row of its bucket
abbrev pub Heads : List Built → ℕ → (ℕ → ℕ) → Type 0
Heads rows column head = (b : ℕ) → b < 64 → head b ≡ next_filed rows column b 0

-- a link is the next row of the same bucket
abbrev pub Links : List Built → ℕ → (ℕ → ℕ) → Type 0
Links rows column link = (b i : ℕ) → i < length rows → in_bucket column b (slice_index_or rows i no_row) ≡ true → link i ≡ next_filed rows column b (suc i)

-- a tail is a row of its bucket, or 0, and no row above it is of the bucket
abbrev pub Tails : List Built → ℕ → (ℕ → ℕ) → Type 0
Tails rows column tail =
    (b : ℕ) → b < 64 → (next_filed rows column b (tail b) ≡ 0) × (tail b ≤ length rows) × (0 < tail b → in_bucket column b (slice_index_or rows (tail b - 1) no_row) ≡ true)

-- the chains of one column
abbrev pub Chained : List Built → List Place → List Ends → ℕ → Type 0
Chained rows ps ends column =
    Heads rows column (head_in ends column) × Links rows column (link_in ps column) × Tails rows column (tail_in ends column)

abbrev pub AllChained : List Built → List Place → List Ends → Type 0
AllChained rows ps ends = (column : ℕ) → IsColumn column → Chained rows ps ends column

-- no row has more than six cells
abbrev pub AllNarrow : List Built → Type 0
AllNarrow rows = (i : ℕ) → i < length rows → length (get_or rows i no_row).cells ≤ 6
