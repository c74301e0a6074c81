-- The fixed policy: which member it answers, and how its state is made from a list of modules.
use Rattle.std.specs.Prelude.{◌≡◌, ℕ, ◌-◌, ◌<◌, ◌≤◌, Bool, true, false, cond, ◌&&◌, List, [], ◌∷◌, ◌++◌, length, replicate, Some, None, Option, nat_le, nat_lt, slice_index}
use Rattle.basis.specs.Lists.{all}
use Rattle.policies.specs.declared.fixed.Fixed.{Fixed}
use Rattle.policies.specs.Modules.{has, least}

-- the first of the list that is a member, else the lowest member
abbrev pub first_in : List ℕ → List Bool → ℕ
first_in [] members = least (has members)
first_in (m ∷ ms) members = cond (has members m) m (first_in ms members)

abbrev pub fixed_choice : Fixed → List Bool → ℕ
fixed_choice f members = first_in f.order members

-- a list that a fixed policy can hold: at most 14 entries, none above 13
abbrev pub listable : List ℕ → Bool
listable list = nat_le (length list) 14 && all (λ m. nat_lt m 14) list

-- a list made up to 14 entries by entries that are no module
abbrev pub padded : List ℕ → List ℕ
padded list = list ++ replicate (14 - length list) 14

abbrev pub fixed_by : List ℕ → Fixed
fixed_by list = record { order = padded list }

abbrev pub fixed_of : List ℕ → Option Fixed
fixed_of list = cond (listable list) (Some (fixed_by list)) None

-- the policy chooses by the list, whatever the set
abbrev pub ChoosesBy : List ℕ → Fixed → Type 0
ChoosesBy list f = (members : List Bool) → length members ≤ 14 → fixed_choice f members ≡ first_in list members

-- The law of an answer r by a list: the first member in the list is r; and where the list has no member, the lowest member is r.
pub record First (list : List ℕ) (members : List Bool) (r : ℕ) : Type 0 where
  pub listed : (i : ℕ) → i < length list → has members (slice_index list i) ≡ true → ((k : ℕ) → k < i → has members (slice_index list k) ≡ false) → r ≡ slice_index list i
  pub lowest : ((i : ℕ) → i < length list → has members (slice_index list i) ≡ false) → (m : ℕ) → m < 14 → has members m ≡ true → ((k : ℕ) → k < m → has members k ≡ false) → r ≡ m
