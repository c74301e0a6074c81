-- How an `Exactly` is shown, and what it says at None.
use Rattle.std.proofs.Common.{◌≡◌, ℕ, Bool, true, false, Some, None, Decides, sym, refl, ap, subst, arith}
use Rattle.std.specs.Bool.{then_some}
use Rattle.std.proofs.lemmas.Bool.{both_ways}
use Rattle.basis.specs.Reading.{Exactly}

pub exactly_some : {X : Type 0} (P : X → Type 0) (x : X) → P x → ((y : X) → P y → x ≡ y) → Exactly (Some x) P
exactly_some {X} P x p unique y =
    (λ e. let same : x ≡ y = cc in subst P same p, λ q. ap Some (unique y q))

pub exactly_none : {X : Type 0} (P : X → Type 0) → ((y : X) → P y → ⊥) → Exactly None P
exactly_none {X} P none y = (λ e. let z : ◌≡◌ {A = ℕ} 0 1 = cc in absurd (omega arith), λ q. absurd (none y q))

-- the one value that may have the property, if a test says that it has
pub exactly_if : {X : Type 0} (P : X → Type 0) (x : X) (b : Bool) → Decides b (P x) → ((y : X) → P y → x ≡ y) → Exactly (then_some b x) P
exactly_if P x true d unique = exactly_some P x (d.0 refl) unique
exactly_if P x false d unique = exactly_none P (λ y p. both_ways false refl (d.1 (subst P (sym (unique y p)) p)))

pub none_of : {X : Type 0} (P : X → Type 0) → Exactly None P → (x : X) → P x → ⊥
none_of {X} P h x p = let e : None ≡ Some x = (h x).1 p in let z : ◌≡◌ {A = ℕ} 0 1 = cc in omega arith
