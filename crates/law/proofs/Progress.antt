-- A granted step that answers neither 0 nor 6 leaves other tuples waiting than before: what they cost has fallen.
use Rattle.std.proofs.Common.{◌≡◌, ℕ, true, List, [], ◌∷◌, ◌++◌, sym, ap, ◌∙◌, ⊎_elim, arith}
use Rattle.std.specs.List.{AllByRecursion}
use Rattle.query.specs.Queries.{Query}
use Rattle.stores.specs.Tables.{Table}
use Rattle.rules.specs.Calls.{World, step_refusal, step_answer, step_waiting, Reply, call, step, stepped}
use Rattle.rules.specs.Moves.{move}
use Rattle.rules.specs.declared.types.Tuple.{Tuple}
use Rattle.law.proofs.Costs.{total, total-append, move_falls}
use Rattle.law.proofs.InOrder.{by_reply, Fitting, fitting, InOrder, history_kept}
use Rattle.law.proofs.Sound.{Sound}
use Rattle.law.specs.Histories.{well_chosen, Journal, journal}
use Rattle.law.specs.Law.{StepsMakeProgress}
use Rattle.rules.proofs.Checked.{Checked}

stepped_same : {m n : ℕ} → stepped m ≡ stepped n → m ≡ n
stepped_same {m} {n} e = cc

module _ (q : Query) (lawful : Checked q) where
  waits_otherwise : (ts : List Table) (next m n : ℕ) (xs : List Tuple) → AllByRecursion (Sound q ts next) xs → Fitting q m xs → step_answer q ts m xs ≡ n
      → (n ≡ 0 → ⊥) → (n ≡ 6 → ⊥) → (step_waiting q ts m xs ≡ xs → ⊥)
  waits_otherwise ts next m n [] d g e no_end no_line h = no_end (sym e)
  waits_otherwise ts next m n (x ∷ xs) d g e no_end no_line h =
      let a = total-append q ts (move q ts x m).replacement xs in
      let b : total q ts ((move q ts x m).replacement ++ xs) ≡ total q ts (x ∷ xs) = ap (total q ts) h in
      ⊎_elim (λ f. no_line (sym e ∙ f.0)) (λ f. let z : ⊥ = omega arith in z) (move_falls q lawful ts next x m d.0 g)

  abbrev Otherwise : World → ℕ → Reply → Type 0
  Otherwise w n r = r.answer ≡ stepped n → (n ≡ 0 → ⊥) → (n ≡ 6 → ⊥) → (r.world.run.waiting ≡ w.run.waiting → ⊥)

  step_otherwise : (j : Journal) (m n : ℕ) → InOrder q lawful j → well_chosen q j.world (step m) ≡ true → Otherwise j.world n (call q j.world (step m))
  unfolding call
  step_otherwise j m n k g =
      by_reply (Otherwise j.world n) (step_refusal j.world.run j.world.store) j.world _ _ _
      (λ z e. waits_otherwise j.world.store j.world.run.next m n j.world.run.waiting k.sound
      (fitting q lawful j.world.store j.world.run.next m j.world.run.waiting k.sound g) (stepped_same e))
      (λ i e. absurd (let z : ◌≡◌ {A = ℕ} 0 1 = cc in omega arith))

  pub steps_make_progress : StepsMakeProgress q
  steps_make_progress h m n g = step_otherwise (journal q h) m n (history_kept q lawful h) g
