-- Entries by key, then by row number, and the row that a sorted index answers.
use Rattle.std.specs.Prelude.{◌≡◌, ℕ, ◌<◌, Bool, true, false, ◌&&◌, ◌||◌, List, Some, None, Option, ◌==◌, nat_le}
use Rattle.basis.specs.Lists.{any}
use Rattle.sorted_index.specs.declared.entry.Entry.{Entry}

-- of two entries, does the first come first, or do they share a place?
abbrev pub at_or_before : {K : Type 0} → (K → K → Bool) → (K → K → Bool) → Entry K → Entry K → Bool
at_or_before less equals a b = less a.key b.key || (equals a.key b.key && nat_le a.row b.row)

abbrev pub entry_of : {K : Type 0} → K → ℕ → Entry K
entry_of k n = record { key = k; row = n }

-- does an entry say that the row has the key?
abbrev pub has_entry : {K : Type 0} → (K → K → Bool) → List (Entry K) → K → ℕ → Bool
has_entry equals es k n = any (λ e. equals e.key k && e.row == n) es

-- the least number above `after` that passes, or that none does
abbrev pub Nearest : (ℕ → Bool) → ℕ → Option ℕ → Type 0
Nearest has after None = (n : ℕ) → after < n → has n ≡ false
Nearest has after (Some m) = (has m ≡ true) × (after < m) × ((n : ℕ) → after < n → n < m → has n ≡ false)
