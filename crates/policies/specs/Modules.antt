-- Modules and sets of modules. Modules 0 to 5 are the tables, 6 to 13 the filters; 14 stands for no module.
use Rattle.std.specs.Prelude.{◌≡◌, ℕ, zero, suc, ◌+◌, Bool, false, cond, List, slice_index_or}

-- a set is a list that says of each module in turn whether it is a member
abbrev pub has : List Bool → ℕ → Bool
has members m = slice_index_or members m false

abbrev pub Empty : List Bool → Type 0
Empty members = (m : ℕ) → has members m ≡ false

-- of n modules from m on, the first that passes the test, else the one after them
unfoldable pub least_from : ℕ → ℕ → (ℕ → Bool) → ℕ
least_from zero m test = m
least_from (suc n) m test = cond (test m) m (least_from n (m + 1) test)

-- the lowest module that passes the test, else 14
abbrev pub least : (ℕ → Bool) → ℕ
least test = least_from 14 0 test
