-- A drain with enough steps leaves nothing waiting.
use Rattle.std.proofs.Common.{◌≡◌, ℕ, ◌+◌, ◌*◌, ◌≤◌, Bool, true, false, not, eqb, ◌⊎◌, List, [], ◌∷◌, length, refl, ap, inl, inr, ⊎_elim, arith}
use Rattle.std.specs.List.{AllByRecursion}
use Rattle.std.proofs.lemmas.Bool.{and_parts, not-true}
use Rattle.query.specs.Queries.{Query}
use Rattle.stores.specs.Tables.{Table}
use Rattle.rules.specs.Calls.{RunState, World, older, feed_refusal, step_refusal, take_refusal, back_refusal, post_refusal, step_answer, step_waiting, Call, Reply, call, feed, step, take, post, back}
use Rattle.rules.specs.Counts.{Counts, counted}
use Rattle.rules.specs.Lists.{bit}
use Rattle.rules.specs.Moves.{move}
use Rattle.rules.specs.declared.types.Tuple.{Tuple}
use Rattle.law.proofs.Costs.{total, total-append, cost_pos, total-bound, move_falls}
use Rattle.law.proofs.InOrder.{by_reply, Fitting, fitting, InOrder, call_kept, history_kept}
use Rattle.law.proofs.Sound.{Sound}
use Rattle.law.specs.Histories.{well_chosen, all_well_chosen, after, Journal, noted, journal}
use Rattle.law.specs.Law.{is_step, allowed, due_then, steps, drain, bound, DrainsWithinBound}
use Rattle.rules.proofs.Checked.{Checked}
use Rattle.rules.proofs.Missing.{bit_le}
use Rattle.rules.proofs.Uptos.{clash}

module _ (q : Query) where
  -- nothing waits, and no row comes in
  abbrev Stays : Bool → Reply → Type 0
  Stays due r = allowed due r.answer ≡ true → r.world.run.waiting ≡ []

  empty_call : (w : World) (due : Bool) (c : Call) → w.run.waiting ≡ [] → Stays due (call q w c)
  unfolding call
  empty_call w due (feed t row) e = by_reply (Stays due) (feed_refusal q w.run w.store t row) w _ _ _ (λ z h. clash false h refl) (λ n h. e)
  empty_call w due (step m) e = by_reply (Stays due) (step_refusal w.run w.store) w _ _ _ (λ z h. ap (step_waiting q w.store m) e) (λ n h. e)
  empty_call w due take e = by_reply (Stays due) (take_refusal q w.run w.store) w _ _ _ (λ z h. e) (λ n h. e)
  empty_call w due (post c out) e = by_reply (Stays due) (post_refusal q w.run w.store c out) w _ _ _ (λ z h. ap older e) (λ n h. e)
  empty_call w due (back c) e = by_reply (Stays due) (back_refusal w.run w.store c) w _ _ _ (λ z h. e) (λ n h. e)

  empty_stays : (w : World) (due : Bool) (calls : List Call) → w.run.waiting ≡ [] → drain q due w calls ≡ true → (after q w calls).run.waiting ≡ []
  empty_stays w due [] e h = e
  empty_stays w due (c ∷ cs) e h =
      let a = and_parts (allowed due (call q w c).answer) (drain q (due_then due (call q w c).answer) (call q w c).world cs) h in
      empty_stays (call q w c).world (due_then due (call q w c).answer) cs (empty_call w due c e a.0) a.1

  -- nothing waits at the end, or the steps made and to be made are paid for
  abbrev Paid : List Table → List Tuple → ℕ → Bool → World → List Call → Type 0
  Paid ts xs n due w cs =
      ((after q w cs).run.waiting ≡ []) ⊎ (n + steps q w cs + bit due + total q ts (after q w cs).run.waiting ≤ total q ts xs)

  module _ (lawful : Checked q) (r : RunState) (ts : List Table) (cs : List Call) (due : Bool) where
    abbrev On : List Tuple → Counts → World
    On xs n = record { run = record { waiting = xs; out = false; accepted = r.accepted; next = r.next; counts = n }; store = ts }

    step_part : (m : ℕ) (n : List Tuple → Counts) (xs : List Tuple) → AllByRecursion (Sound q ts r.next) xs → Fitting q m xs
        → not due ≡ true
        → drain q (eqb (step_answer q ts m xs) 6) (On (step_waiting q ts m xs) (n xs)) cs ≡ true
        → Paid ts (step_waiting q ts m xs) 0 (eqb (step_answer q ts m xs) 6) (On (step_waiting q ts m xs) (n xs)) cs
        → Paid ts xs 1 due (On (step_waiting q ts m xs) (n xs)) cs
    step_part m n [] d g nd dr ih = inl (empty_stays (On [] (n [])) false cs refl dr)
    step_part m n (x ∷ xs) d g nd dr ih =
        let z : bit due ≡ 0 = ap bit (not-true due nd) in
        let e = total-append q ts (move q ts x m).replacement xs in
        ⊎_elim inl
        (λ h.
        inr
        (⊎_elim
        (λ f. let six : bit (eqb (move q ts x m).answer 6) ≡ 1 = ap (λ n. bit (eqb n 6)) f.0 in let g = f.1 in omega arith)
        (λ f. omega arith)
        (move_falls q lawful ts r.next x m d.0 g)))
        ih

    post_part : (xs : List Tuple)
        → drain q false (On (older xs) r.counts) cs ≡ true
        → Paid ts (older xs) 0 false (On (older xs) r.counts) cs
        → Paid ts xs 0 due (On (older xs) r.counts) cs
    post_part [] dr ih = inl (empty_stays (On [] r.counts) false cs refl dr)
    post_part (x ∷ xs) dr ih = let a = cost_pos q ts x in let b = bit_le due in ⊎_elim inl (λ h. inr (omega arith)) ih

module _ (q : Query) (lawful : Checked q) where
  -- what a call leads to, from what its reply leads to
  abbrev Then : Journal → Bool → List Call → Reply → Type 0
  Then j due cs v =
      allowed due v.answer ≡ true → drain q (due_then due v.answer) v.world cs ≡ true
      → Paid q v.world.store v.world.run.waiting 0 (due_then due v.answer) v.world cs
      → Paid q j.world.store j.world.run.waiting (bit (is_step v.answer)) due v.world cs

  paid_call : (j : Journal) (due : Bool) (c : Call) (cs : List Call) → InOrder q lawful j → well_chosen q j.world c ≡ true → Then j due cs (call q j.world c)
  unfolding call
  paid_call j due (feed t row) cs k g =
      by_reply (Then j due cs) (feed_refusal q j.world.run j.world.store t row) j.world _ _ _ (λ z al dr ih. clash false al refl) (λ n al dr ih. ih)
  paid_call j due (step m) cs k g =
      by_reply (Then j due cs) (step_refusal j.world.run j.world.store) j.world _ _ _
      (λ z al dr ih.
      step_part q lawful j.world.run j.world.store cs due m (λ xs. counted q j.world.store m xs j.world.run.counts) j.world.run.waiting k.sound (fitting q lawful j.world.store j.world.run.next m j.world.run.waiting k.sound g) al dr ih)
      (λ n al dr ih. ih)
  paid_call j due take cs k g =
      by_reply (Then j due cs) (take_refusal q j.world.run j.world.store) j.world _ _ _ (λ z al dr ih. ih) (λ n al dr ih. ih)
  paid_call j due (post c out) cs k g =
      by_reply (Then j due cs) (post_refusal q j.world.run j.world.store c out) j.world _ _ _
      (λ z al dr ih. post_part q lawful j.world.run j.world.store cs due j.world.run.waiting dr ih) (λ n al dr ih. ih)
  paid_call j due (back c) cs k g =
      by_reply (Then j due cs) (back_refusal j.world.run j.world.store c) j.world _ _ _ (λ z al dr ih. ih) (λ n al dr ih. ih)

  paid : (calls : List Call) (j : Journal) (due : Bool) → InOrder q lawful j → all_well_chosen q j.world calls ≡ true → drain q due j.world calls ≡ true
      → Paid q j.world.store j.world.run.waiting 0 due j.world calls
  paid [] j true k g h = clash false h refl
  paid [] j false k g h = inr (omega arith)
  paid (c ∷ cs) j due k g h =
      let v = call q j.world c in
      let a = and_parts (allowed due v.answer) (drain q (due_then due v.answer) v.world cs) h in
      let p = and_parts (well_chosen q j.world c) (all_well_chosen q v.world cs) g in
      let ih = paid cs (noted j c v) (due_then due v.answer) (call_kept q lawful j c p.0 k) p.1 a.1 in
      ⊎_elim inl (λ e. inr (omega arith)) (paid_call j due c cs k p.0 a.0 a.1 ih)

  none_left : (ts : List Table) (xs : List Tuple) → total q ts xs ≡ 0 → xs ≡ []
  none_left ts [] h = refl
  none_left ts (x ∷ xs) h = absurd (let a = cost_pos q ts x in let y : ⊥ = omega arith in y)

  drained : (j : Journal) (calls : List Call) → InOrder q lawful j → all_well_chosen q j.world calls ≡ true → drain q false j.world calls ≡ true
      → length j.world.run.waiting * bound q j.world.store ≤ steps q j.world calls
      → (after q j.world calls).run.waiting ≡ []
  drained j calls k g h l =
      let t = total-bound q j.world.store j.world.run.next j.world.run.waiting k.sound in
      ⊎_elim (λ e. e)
      (λ e. none_left j.world.store (after q j.world calls).run.waiting (omega arith))
      (paid calls j false k g h)

  -- (b)
  pub drains_within_bound : DrainsWithinBound q
  drains_within_bound h more g out d l = drained (journal q h) more (history_kept q lawful h) g d l
