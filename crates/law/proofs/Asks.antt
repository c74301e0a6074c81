-- The run's asks are the questions that it made.
use Rattle.std.proofs.Common.{◌≡◌, ℕ, zero, suc, ◌+◌, ◌<◌, ◌≤◌, min, Bool, true, false, ◌&&◌, eqb, ltb, List, [], ◌∷◌, length, get_or, set, Some, None, Option, sym, refl, ap, ◌∙◌, ap₂, ⊎_elim, arith, length-set, get_or-set_other, get_or-set_same}
use Rattle.std.proofs.lemmas.Bool.{cases_eq, eq-eqb, ne_eqb}
use Rattle.basis.specs.Lists.{all}
use Rattle.query.specs.Queries.{Query}
use Rattle.stores.specs.Tables.{Table, next_row}
use Rattle.rules.specs.Calls.{World, feed_refusal, step_refusal, take_refusal, back_refusal, post_refusal, step_answer, Call, Reply, call, feed, step, take, post, back, stepped}
use Rattle.rules.specs.Counts.{Counts, one_more, counted_in, counted}
use Rattle.rules.specs.Lists.{bit}
use Rattle.rules.specs.Moves.{links, link_holds, matched, found, answered, link_key, probed, moved, move}
use Rattle.rules.specs.Reads.{relations_of, stamp_of_row}
use Rattle.rules.specs.declared.types.Link.{Link}
use Rattle.rules.specs.declared.types.State.{State}
use Rattle.rules.specs.declared.types.State.TheVariants.{Idle, Probing}
use Rattle.rules.specs.declared.types.Tuple.{Tuple}
use Rattle.law.proofs.InOrder.{by_reply}
use Rattle.law.specs.Histories.{after, opened, opening, Journal, noted, journal_after, beginning, journal}
use Rattle.law.specs.Law.{probes, newest_probes, three_four_five, questions, AsksAreQuestions}
use Rattle.rules.proofs.Uptos.{and_false}

-- a probing tuple's step answers 3, 4 or 5
abbrev Asking : ℕ → Type 0
Asking a = three_four_five (stepped a) ≡ true

module _ (q : Query) (ts : List Table) (x : Tuple) (t after : ℕ) where
  by_match : (r : ℕ) (b : Bool) → Asking (matched x t r b).answer
  by_match r true = refl
  by_match r false = refl

  by_time : (ls : List Link) (r : ℕ) (b : Bool) → Asking (found q ts x t ls r b).answer
  by_time ls r true = refl
  by_time ls r false = by_match r (all (link_holds q (relations_of ts) x.rows t r) ls)

  by_answer : (ls : List Link) (a : Option ℕ) → Asking (answered q ts x t ls a).answer
  by_answer ls None = refl
  by_answer ls (Some r) = by_time ls r (ltb x.driver (stamp_of_row ts t r))

  by_link : (ls : List Link) → Asking (probed q ts x t after ls).answer
  by_link [] = refl
  by_link (l ∷ ls) = by_answer ls (next_row ts t l.own (link_key q ts x l) after)

abbrev most_counted : ℕ
most_counted = 4294967295

module _ (q : Query) (t : ℕ) where
  -- what a call adds
  abbrev Adds : List ℕ → List ℕ → ℕ → Type 0
  Adds old new n = (get_or new t 0 ≡ min (get_or old t 0 + n) most_counted) × (length new ≡ length old)

  same_asks : (ns : List ℕ) (b : Bool) → get_or ns t 0 ≤ most_counted → Adds ns ns (bit (b && false))
  same_asks ns b l = let z : bit (b && false) ≡ 0 = ap bit (and_false b) in (omega arith, refl)

  in_its_state : (ts : List Table) (x : Tuple) (m : ℕ) (n : Counts) (a : State) → get_or n.asks t 0 ≤ most_counted → t < length n.asks
      → Adds n.asks (counted_in a n m (moved q ts x m a).answer).asks (bit (probes a t && three_four_five (stepped (moved q ts x m a).answer)))
  in_its_state ts x m n Idle l f = (omega arith, refl)
  in_its_state ts x m n (Probing u after) l f =
      let v = (moved q ts x m (Probing u after)).answer in
      let three : three_four_five (stepped v) ≡ true = by_link q ts x u after (links q.joins x.rows u) in
      ⊎_elim
      (λ e.
      let one : bit (eqb u t && three_four_five (stepped v)) ≡ 1 = ap₂ (λ a b. bit (a && b)) (eq-eqb u t e) three in
      let at : get_or (set n.asks u (one_more (get_or n.asks u 0))) t 0 ≡ one_more (get_or n.asks t 0) =
      ap (λ (v : ℕ). get_or (set n.asks v (one_more (get_or n.asks v 0))) t 0) e ∙ get_or-set_same n.asks t (one_more (get_or n.asks t 0)) 0 f in
      (omega arith, length-set n.asks u (one_more (get_or n.asks u 0))))
      (λ ne.
      let none : bit (eqb u t && three_four_five (stepped v)) ≡ 0 = ap₂ (λ a b. bit (a && b)) (ne_eqb u t ne) three in
      let at = get_or-set_other n.asks u t (one_more (get_or n.asks u 0)) 0 (λ e. ne (sym e)) in
      (omega arith, length-set n.asks u (one_more (get_or n.asks u 0))))
      (cases_eq u t)

  step_adds : (ts : List Table) (m : ℕ) (n : Counts) (xs : List Tuple) → get_or n.asks t 0 ≤ most_counted → t < length n.asks
      → Adds n.asks (counted q ts m xs n).asks (bit (newest_probes xs t && three_four_five (stepped (step_answer q ts m xs))))
  unfolding move
  step_adds ts m n [] l f = (omega arith, refl)
  step_adds ts m n (x ∷ xs) l f = in_its_state ts x m n x.state l f

  abbrev Then : World → Reply → Type 0
  Then w r = Adds w.run.counts.asks r.world.run.counts.asks (bit (newest_probes w.run.waiting t && three_four_five r.answer))

  call_adds : (w : World) (c : Call) → get_or w.run.counts.asks t 0 ≤ most_counted → t < length w.run.counts.asks → Then w (call q w c)
  unfolding call
  call_adds w (feed u row) l f = let s = same_asks w.run.counts.asks (newest_probes w.run.waiting t) l in by_reply (Then w) (feed_refusal q w.run w.store u row) w _ _ _ (λ e. s) (λ n. s)
  call_adds w (step m) l f =
      let s = same_asks w.run.counts.asks (newest_probes w.run.waiting t) l in
      by_reply (Then w) (step_refusal w.run w.store) w _ _ _ (λ e. step_adds w.store m w.run.counts w.run.waiting l f) (λ n. s)
  call_adds w take l f = let s = same_asks w.run.counts.asks (newest_probes w.run.waiting t) l in by_reply (Then w) (take_refusal q w.run w.store) w _ _ _ (λ e. s) (λ n. s)
  call_adds w (post c out) l f = let s = same_asks w.run.counts.asks (newest_probes w.run.waiting t) l in by_reply (Then w) (post_refusal q w.run w.store c out) w _ _ _ (λ e. s) (λ n. s)
  call_adds w (back c) l f = let s = same_asks w.run.counts.asks (newest_probes w.run.waiting t) l in by_reply (Then w) (back_refusal w.run w.store c) w _ _ _ (λ e. s) (λ n. s)

  asks_after : (w : World) (cs : List Call) → get_or w.run.counts.asks t 0 ≤ most_counted → t < length w.run.counts.asks
      → get_or (after q w cs).run.counts.asks t 0 ≡ min (get_or w.run.counts.asks t 0 + questions q w cs t) most_counted
  asks_after w [] l f = omega arith
  asks_after w (c ∷ cs) l f =
      let a = call_adds w c l f in
      let b = a.0 in
      let d = a.1 in
      let ih = asks_after (call q w c).world cs (omega arith) (omega arith) in
      omega arith

pub journal_world : (q : Query) (j : Journal) (cs : List Call) → (journal_after q j cs).world ≡ after q j.world cs
journal_world q j [] = refl
journal_world q j (c ∷ cs) = journal_world q (noted j c (call q j.world c)) cs

no_asks : (t : ℕ) → t < 6 → get_or opened.counts.asks t 0 ≡ 0
no_asks zero l = refl
no_asks (suc zero) l = refl
no_asks (suc (suc zero)) l = refl
no_asks (suc (suc (suc zero))) l = refl
no_asks (suc (suc (suc (suc zero)))) l = refl
no_asks (suc (suc (suc (suc (suc zero))))) l = refl
no_asks (suc (suc (suc (suc (suc (suc t)))))) l = refl

pub asks_are_questions : (q : Query) → AsksAreQuestions q
unfolding journal
asks_are_questions q h t l =
    let z = no_asks t l in
    let a = asks_after q t (opening h.rooms) h.calls (omega arith) l in
    let e = ap (λ (w : World). get_or w.run.counts.asks t 0) (journal_world q (beginning (opening h.rooms)) h.calls) in
    omega arith
