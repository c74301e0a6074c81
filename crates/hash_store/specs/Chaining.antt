-- That all is chained has at most one proof, so it comes out of its truncation; and an empty table is chained.
use Rattle.std.specs.Prelude.{◌≡◌, ℕ, ◌<◌, List, [], get_or, replicate}
use Rattle.std.proofs.Common.{ap, arith}
use Rattle.std.proofs.Math.Logic.{∥∥₁_elim}
use Rattle.std.proofs.Math.Bridge.{le_prop}
use mathlib.Core.HLevel.{Π_prop, ×₃_prop}
use Rattle.std.specs.Coded.{coded_ℕ, coded_bool}
use denote.Struct.Props.{≡_prop}
use Rattle.std.proofs.lemmas.List.{get_or-replicate}
use Rattle.stores.specs.Tables.{Built}
use Rattle.hash_store.specs.declared.place.Place.{Place}
use Rattle.hash_store.specs.Buckets.{next_filed}
use Rattle.hash_store.specs.declared.place.Ends.{Ends}
use Rattle.hash_store.specs.Chains.{no_ends, slot, IsColumn, AllChained}
use Rattle.hash_store.specs.Placing.{slot_within}

module _ (rows : List Built) (ps : List Place) (ends : List Ends) where
  chained_prop : IsProp (AllChained rows ps ends)
  chained_prop = Π_prop (λ column. Π_prop (λ is. ×₃_prop
      (Π_prop (λ b. Π_prop (λ s. ≡_prop coded_ℕ _ _)))
      (Π_prop (λ b. Π_prop (λ i. Π_prop (λ l. Π_prop (λ h. ≡_prop coded_ℕ _ _)))))
      (Π_prop (λ b. Π_prop (λ s. ×₃_prop (≡_prop coded_ℕ _ _) le_prop (Π_prop (λ p. ≡_prop coded_bool _ _)))))))

  pub all_chained : ∥ AllChained rows ps ends ∥₁ → AllChained rows ps ends
  all_chained h = ∥∥₁_elim h chained_prop (λ z. z)

-- every bucket of an empty table is empty
no_end : (column b : ℕ) → IsColumn column → b < 64 → get_or (replicate 384 no_ends) (slot column b) no_ends ≡ no_ends
no_end column b is small = get_or-replicate 384 _ no_ends no_ends (slot_within column b is.1 is.0 small)

pub chained_empty : (ps : List Place) → AllChained [] ps (replicate 384 no_ends)
chained_empty ps column is = (
  λ b small. ap (λ (e : Ends). e.head) (no_end column b is small),
  λ b i lt h. absurd (let z : ⊥ = omega arith in z),
  λ b small. let e = ap (λ (e : Ends). e.tail) (no_end column b is small) in
      (ap (next_filed [] column b) e, omega arith, λ pos. absurd (let z : ⊥ = omega arith in z)),
)
