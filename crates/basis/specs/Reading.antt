-- What it is to read exactly what a rule allows.
use Rattle.std.specs.Prelude.{◌≡◌, Some, Option}

-- r is Some x for each x with the property, and for no other
abbrev pub Exactly : {X : Type 0} → Option X → (X → Type 0) → Type 0
Exactly {X} r P = (x : X) → (r ≡ Some x → P x) × (P x → r ≡ Some x)
