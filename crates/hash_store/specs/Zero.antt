-- 0 stands for no row: what it says of the first that passes.
use Rattle.std.specs.Prelude.{◌≡◌, ℕ, Bool, List, Some, None, Option, ◌≢◌, refl}
use Rattle.std.proofs.Common.{sym, ap, ◌∙◌, arith}
use Rattle.stores.specs.Tables.{next_after}
use Rattle.stores.proofs.Next.{next_found}
use Rattle.hash_store.specs.Buckets.{or_zero}

module _ {X : Type 0} (p : X → Bool) (after : ℕ) (xs : List X) where
  pub zero_none : or_zero (next_after p after xs) ≡ 0 → next_after p after xs ≡ None
  zero_none h = go (next_after p after xs) refl
    where
      go : (o : Option ℕ) → next_after p after xs ≡ o → next_after p after xs ≡ None
      go None e = e
      go (Some m) e = let f = next_found p after xs m e in let z = sym (ap or_zero e) ∙ h in absurd (let w : ⊥ = omega (arith, f.is) in w)

  pub other_some : (or_zero (next_after p after xs) ≢ 0) → next_after p after xs ≡ Some (or_zero (next_after p after xs))
  other_some h = go (next_after p after xs) refl
    where
      go : (o : Option ℕ) → next_after p after xs ≡ o → next_after p after xs ≡ Some (or_zero (next_after p after xs))
      go None e = absurd (h (ap or_zero e))
      go (Some m) e = e ∙ ap Some (sym (ap or_zero e))
