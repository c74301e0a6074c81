-- Small words on lists and tests.
use Rattle.std.specs.Prelude.{ℕ, zero, suc, Bool, true, ◌&&◌, List, None, Option}
use Rattle.std.specs.List.{list_all, list_any, slice_get}

-- every element passes the test; some element does
abbrev pub all : {A : Type 0} → (A → Bool) → List A → Bool
all = list_all

abbrev pub any : {A : Type 0} → (A → Bool) → List A → Bool
any = list_any

-- every number below n passes the test
abbrev pub upto : ℕ → (ℕ → Bool) → Bool
upto zero p = true
upto (suc n) p = p n && upto n p

-- the element with a number, counted from 1, if there is one
abbrev pub numbered : {A : Type 0} → List A → ℕ → Option A
numbered xs zero = None
numbered xs (suc i) = slice_get xs i
