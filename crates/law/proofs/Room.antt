-- At most 64 tuples wait: a tuple with n tables to come has n places free above it.
use Rattle.std.proofs.Common.{◌≡◌, ℕ, ◌+◌, ◌<◌, true, not, eqb, ltb, leb, List, [], ◌∷◌, length, get_or, refl, ◌∙◌, inl, inr, ⊎_elim}
use Rattle.std.specs.List.{AllByRecursion}
use Rattle.std.proofs.lemmas.Bool.{and_parts, and_from, cases_lt, not_from_false, ltb-true, lt-ltb, leb-true}
use Rattle.query.specs.Queries.{Query}
use Rattle.query.specs.Rows.{all_fit}
use Rattle.stores.specs.Tables.{Table, count_at}
use Rattle.rules.specs.Calls.{own, older, feed_refusal, step_refusal, take_refusal, back_refusal, post_refusal, step_waiting, Call, Reply, call, feed, step, take, post, back}
use Rattle.rules.specs.Moves.{tables, spans, module_ready}
use Rattle.rules.specs.Shape.{bound_for, fit_tuple, roomy}
use Rattle.rules.specs.declared.types.State.{State}
use Rattle.rules.specs.declared.types.State.TheVariants.{Idle, Probing}
use Rattle.rules.specs.declared.types.Tuple.{Tuple}
use Rattle.law.proofs.InOrder.{by_reply, yes_to, Fitting, fitting, InOrder, call_kept, opened-kept}
use Rattle.law.proofs.Sound.{Sound}
use Rattle.law.specs.Histories.{well_chosen, all_well_chosen, after, opening, Journal, noted, journal_after, beginning, journal}
use Rattle.law.specs.Law.{AtMost64Wait}
use Rattle.rules.proofs.Checked.{Checked}
use Rattle.rules.proofs.Kept.{fit_from, roomy_parts, roomy-length, roomy_pop, roomy_push, move_well}
use Rattle.rules.proofs.Sets.{ready_at, MayGo}
use Rattle.rules.proofs.Shaped.{BoundFor, Shaped}

fit_of : (q : Query) (x : Tuple) → Shaped q x → fit_tuple q x ≡ true
fit_of q x d = fit_from q x d.width d.marks (go x.state d.bound_for)
  where
    go : (a : State) → BoundFor q x.rows a → bound_for q x.rows a ≡ true
    go Idle b = refl
    go (Probing t after) b =
        and_from (ltb t (tables q)) (not (spans x.rows t)) (lt-ltb t (tables q) b.0) (not_from_false (spans x.rows t) b.1)

roomy-older : (q : Query) (xs : List Tuple) → roomy q xs ≡ true → roomy q (older xs) ≡ true
roomy-older q [] h = refl
roomy-older q (x ∷ xs) h = roomy_pop q x xs h

table_or_filter : (q : Query) (x : Tuple) (m : ℕ) → module_ready q x m ≡ true → MayGo q x m
table_or_filter q x m h = ⊎_elim (λ (l : m < 14). inl (ready_at q x m l ∙ h)) (λ g. inr g) (cases_lt m 14)

step_roomy : (q : Query) → Checked q → (ts : List Table) (next m : ℕ) (xs : List Tuple) → Fitting q m xs → AllByRecursion (Sound q ts next) xs → roomy q xs ≡ true → roomy q (step_waiting q ts m xs) ≡ true
step_roomy q lawful ts next m [] g d h = refl
step_roomy q lawful ts next m (x ∷ xs) g d h =
    let r = roomy_parts q x xs h in
    (move_well q lawful.six ts xs r.1 x m (fit_of q x d.0.shape) (λ e i. table_or_filter q x m (g e i)) r.0).1

module _ (q : Query) (lawful : Checked q) where
  abbrev RoomyThen : Reply → Type 0
  RoomyThen r = roomy q r.world.run.waiting ≡ true

  call-roomy : (j : Journal) (c : Call) → well_chosen q j.world c ≡ true → InOrder q lawful j → roomy q j.world.run.waiting ≡ true → RoomyThen (call q j.world c)
  unfolding call
  call-roomy j (feed t cells) g k h =
      by_reply RoomyThen (feed_refusal q j.world.run j.world.store t cells) j.world _ _ _
      (λ e.
      let a = yes_to (own j.world.run j.world.store) 19 _ e in
      let o = yes_to (not j.world.run.out) 20 _ a.1 in
      let l = yes_to (ltb t (tables q)) 21 _ o.1 in
      let m = yes_to (eqb (length cells) (length (get_or q.headings t []))) 22 _ l.1 in
      let f = yes_to (all_fit (get_or q.headings t []) cells) 23 _ m.1 in
      let r = yes_to (leb (length j.world.run.waiting + tables q) 64) 24 _ f.1 in
      roomy_push q lawful.six j.world.run.waiting t (count_at j.world.store t) j.world.run.next (ltb-true t (tables q) l.0)
      (leb-true (length j.world.run.waiting + tables q) 64 r.0) h)
      (λ n. h)
  call-roomy j (step m) g k h =
      by_reply RoomyThen (step_refusal j.world.run j.world.store) j.world _ _ _
      (λ e. step_roomy q lawful j.world.store j.world.run.next m j.world.run.waiting (fitting q lawful j.world.store j.world.run.next m j.world.run.waiting k.sound g) k.sound h)
      (λ n. h)
  call-roomy j take g k h = by_reply RoomyThen (take_refusal q j.world.run j.world.store) j.world _ _ _ (λ e. h) (λ n. h)
  call-roomy j (post c out) g k h =
      by_reply RoomyThen (post_refusal q j.world.run j.world.store c out) j.world _ _ _ (λ e. roomy-older q j.world.run.waiting h) (λ n. h)
  call-roomy j (back c) g k h = by_reply RoomyThen (back_refusal j.world.run j.world.store c) j.world _ _ _ (λ e. h) (λ n. h)

  journal-roomy : (j : Journal) (calls : List Call) → all_well_chosen q j.world calls ≡ true → InOrder q lawful j → roomy q j.world.run.waiting ≡ true → roomy q (journal_after q j calls).world.run.waiting ≡ true
  journal-roomy j [] g k h = h
  journal-roomy j (c ∷ cs) g k h =
      let p = and_parts (well_chosen q j.world c) (all_well_chosen q (call q j.world c).world cs) g in
      journal-roomy (noted j c (call q j.world c)) cs p.1 (call_kept q lawful j c p.0 k) (call-roomy j c p.0 k h)

  pub at_most_64_wait : AtMost64Wait q
  unfolding journal
  at_most_64_wait h =
      roomy-length q (journal q h).world.run.waiting
      (journal-roomy (beginning (opening h.rooms)) h.calls h.chosen (opened-kept q lawful h.rooms) refl)
