-- Which calls are granted where the store is the run's own and no slip is out.
use Rattle.std.proofs.Common.{◌≡◌, ℕ, zero, suc, ◌+◌, ◌-◌, Bool, true, false, cond, not, eqb, ltb, leb, ◌⊎◌, List, [], ◌∷◌, ◌++◌, length, get_or, Some, None, Option, sym, refl, ap, ◌∙◌, subst, inl, inr, ⊎_elim, arith}
use Rattle.std.proofs.lemmas.Bool.{and_parts, and_from, cond-true, not-true, eq-eqb}
use Rattle.basis.specs.Lists.{all}
use Rattle.query.specs.Lawful.{Lawful}
use Rattle.query.specs.Queries.{Query}
use Rattle.stores.specs.Tables.{Table, count_at, next_row}
use Rattle.algebra.specs.Meets.{holds}
use Rattle.rules.specs.Calls.{World, Output, own, newest_complete, newest_rows, older, feed_refusal, step_refusal, take_refusal, names_out, back_refusal, line_of, post_refusal, step_answer, step_waiting, with_slip, post_output, Call, Answer, Reply, no_output, reply, call, feed, step, take, post, back, refused, stepped, slip, posted, returned}
use Rattle.rules.specs.Lists.{same_list}
use Rattle.rules.specs.Moves.{complete, links, at_filter, Move, tried, routed, link_holds, matched, found, answered, link_key, probed, idled, moved, move}
use Rattle.rules.specs.Reads.{relations_of, rows_read, stamp_of_row}
use Rattle.rules.specs.declared.types.Link.{Link}
use Rattle.rules.specs.declared.types.State.{State}
use Rattle.rules.specs.declared.types.State.TheVariants.{Idle, Probing}
use Rattle.rules.specs.declared.types.Tuple.{Tuple}
use Rattle.law.proofs.InOrder.{by_reply, history_kept}
use Rattle.law.specs.Driving.{clear}
use Rattle.law.specs.Histories.{after, History, journal}
use Rattle.rules.proofs.Checked.{checked}
use Rattle.rules.proofs.Times.{same_list_refl}
use Rattle.rules.proofs.Uptos.{upto_from}

-- what a step answers: 0 only where nothing waits, 6 only where the newest tuple is complete
module _ (q : Query) (ts : List Table) (x : Tuple) where
  -- the answers of a tuple that does not stay complete
  abbrev MovesOn : ℕ → Type 0
  MovesOn a = (a ≡ 0 → ⊥) × (a ≡ 6 → ⊥)

  by_match : (t r : ℕ) (b : Bool) → MovesOn (matched x t r b).answer
  by_match t r true = (λ h. let z : ⊥ = omega arith in z, λ h. let z : ⊥ = omega arith in z)
  by_match t r false = (λ h. let z : ⊥ = omega arith in z, λ h. let z : ⊥ = omega arith in z)

  gone : MovesOn 5
  gone = (λ h. let z : ⊥ = omega arith in z, λ h. let z : ⊥ = omega arith in z)

  by_time : (t : ℕ) (ls : List Link) (r : ℕ) (b : Bool) → MovesOn (found q ts x t ls r b).answer
  by_time t ls r true = gone
  by_time t ls r false = by_match t r (all (link_holds q (relations_of ts) x.rows t r) ls)

  by_answer : (t : ℕ) (ls : List Link) (a : Option ℕ) → MovesOn (answered q ts x t ls a).answer
  by_answer t ls None = gone
  by_answer t ls (Some r) = by_time t ls r (ltb x.driver (stamp_of_row ts t r))

  by_link : (t after : ℕ) (ls : List Link) → MovesOn (probed q ts x t after ls).answer
  by_link t after [] = gone
  by_link t after (l ∷ ls) = by_answer t ls (next_row ts t l.own (link_key q ts x l) after)

  by_filter : (i : ℕ) (b : Bool) → MovesOn (tried x i b).answer
  by_filter i true = (λ h. let z : ⊥ = omega arith in z, λ h. let z : ⊥ = omega arith in z)
  by_filter i false = (λ h. let z : ⊥ = omega arith in z, λ h. let z : ⊥ = omega arith in z)

  by_module : (m : ℕ) (b : Bool) → ltb m 6 ≡ b → MovesOn (routed q ts x m).answer
  by_module m true e = rw e (λ h. let z : ⊥ = omega arith in z, λ h. let z : ⊥ = omega arith in z)
  by_module m false e = rw e (by_filter (m - 6) (at_filter (holds (rows_read q (relations_of ts) x.rows)) q.filters (m - 6)))

  -- it moves on; or it is complete, stays, and the answer is 6
  abbrev Ends : Move → Type 0
  Ends v = MovesOn v.answer ⊎ ((complete q x ≡ true) × (v.answer ≡ 6) × (v.replacement ≡ x ∷ []))

  by_end : (m : ℕ) (b : Bool) → complete q x ≡ b → Ends (idled q ts x m b)
  by_end m true e = inr (e, refl, refl)
  by_end m false e = inl (by_module m (ltb m 6) refl)

  by_state : (m : ℕ) (a : State) → Ends (moved q ts x m a)
  by_state m Idle = by_end m (complete q x) refl
  by_state m (Probing t after) = inl (by_link t after (links q.joins x.rows t))

module _ (q : Query) (ts : List Table) (m : ℕ) where
  nothing_answer : (xs : List Tuple) → step_answer q ts m xs ≡ 0 → step_waiting q ts m xs ≡ []
  unfolding move
  nothing_answer [] h = refl
  nothing_answer (x ∷ xs) h =
      ⊎_elim (λ v. absurd (v.0 h)) (λ v. absurd (let e = v.1 in let z : ⊥ = omega arith in z)) (by_state q ts x m x.state)

  ready_answer : (xs : List Tuple) → step_answer q ts m xs ≡ 6 → newest_complete q (step_waiting q ts m xs) ≡ true
  unfolding move
  ready_answer [] h = absurd (let z : ⊥ = omega arith in z)
  ready_answer (x ∷ xs) h =
      ⊎_elim (λ v. absurd (v.1 h)) (λ v. ap (λ (ys : List Tuple). newest_complete q (ys ++ xs)) v.2 ∙ v.0) (by_state q ts x m x.state)

-- a granted call, by its refusal's number
granted : (n : ℕ) (w : World) (a : Answer) (v : World) (out : Output) → n ≡ 0 → reply n w a v out ≡ record { answer = a; world = v; output = out }
granted n w a v out e = ap (λ (k : ℕ). reply k w a v out) e

clear_parts : (w : World) → clear w ≡ true → (own w.run w.store ≡ true) × (w.run.out ≡ false)
clear_parts w h =
    let a = and_parts (own w.run w.store) (not w.run.out) h in (a.0, not-true w.run.out a.1)

-- a history's store is its own
pub history_own : (q : Query) → Lawful q → (h : History q) → own (journal q h).world.run (journal q h).world.store ≡ true
history_own q lawful h =
    let k = history_kept q (checked q lawful) h in
    let w = (journal q h).world in
    upto_from 6 (λ t. eqb (count_at w.store t) (get_or w.run.accepted t 0)) (λ t l. eq-eqb (count_at w.store t) (get_or w.run.accepted t 0) (k.owned t))

module _ (q : Query) where
  -- a step: nothing waits where it answers 0
  pub nothing_waits : (w : World) (m : ℕ) → (call q w (step m)).answer ≡ stepped 0 → (call q w (step m)).world.run.waiting ≡ []
  unfolding call
  nothing_waits w m =
      by_reply (λ r. r.answer ≡ stepped 0 → r.world.run.waiting ≡ []) (step_refusal w.run w.store) w _ _ _
      (λ e h. nothing_answer q w.store m w.run.waiting (let z : step_answer q w.store m w.run.waiting ≡ 0 = cc in z))
      (λ k h. let z : ◌≡◌ {A = ℕ} 0 1 = cc in absurd (let y : ⊥ = omega arith in y))

  -- and a line is ready where it answers 6
  pub line-ready : (w : World) (m : ℕ) → (call q w (step m)).answer ≡ stepped 6 → newest_complete q (call q w (step m)).world.run.waiting ≡ true
  unfolding call
  line-ready w m =
      by_reply (λ r. r.answer ≡ stepped 6 → newest_complete q r.world.run.waiting ≡ true) (step_refusal w.run w.store) w _ _ _
      (λ e h. ready_answer q w.store m w.run.waiting (let z : step_answer q w.store m w.run.waiting ≡ 6 = cc in z))
      (λ k h. let z : ◌≡◌ {A = ℕ} 0 1 = cc in absurd (let y : ⊥ = omega arith in y))

  -- in a clear world a step is granted, and leaves it clear
  module _ (w : World) (h : clear w ≡ true) where
    no_step_refusal : step_refusal w.run w.store ≡ 0
    no_step_refusal =
        let a = clear_parts w h in
        cond-true (own w.run w.store) (cond (not w.run.out) 0 21) 20 a.0 ∙ cond-true (not w.run.out) 0 21 (ap not a.1)

    pub step_granted : (m k : ℕ) → (call q w (step m)).answer ≡ refused k → ⊥
    unfolding call
    step_granted m k e =
        let g : (call q w (step m)).answer ≡ stepped (step_answer q w.store m w.run.waiting) =
        ap (λ (r : Reply). r.answer) (granted (step_refusal w.run w.store) w _ _ no_output no_step_refusal) in
        let z : ◌≡◌ {A = ℕ} 0 1 = cc in omega arith

    pub step_clear : (m : ℕ) → clear (call q w (step m)).world ≡ true
    unfolding call
    step_clear m =
        ap (λ (r : Reply). clear r.world) (granted (step_refusal w.run w.store) w _ _ no_output no_step_refusal)
        ∙ and_from (own w.run w.store) true (clear_parts w h).0 refl

    -- and where a line is ready, it can be taken; the slip names what is out
    module _ (ready : newest_complete q w.run.waiting ≡ true) where
      no_take_refusal : take_refusal q w.run w.store ≡ 0
      no_take_refusal =
          let a = clear_parts w h in
          cond-true (own w.run w.store) (cond (not w.run.out) (cond (newest_complete q w.run.waiting) 0 27) 21) 20 a.0
          ∙ cond-true (not w.run.out) (cond (newest_complete q w.run.waiting) 0 27) 21 (ap not a.1)
          ∙ cond-true (newest_complete q w.run.waiting) 0 27 ready

      pub take_granted : (k : ℕ) → (call q w take).answer ≡ refused k → ⊥
      unfolding call
      take_granted k e =
          let g : (call q w take).answer ≡ slip (newest_rows w.run.waiting) =
          ap (λ (r : Reply). r.answer) (granted (take_refusal q w.run w.store) w _ _ no_output no_take_refusal) in
          let z : ◌≡◌ {A = ℕ} 0 1 = cc in omega arith

      pub take_own : own (call q w take).world.run (call q w take).world.store ≡ true
      unfolding call
      take_own =
          ap (λ (r : Reply). own r.world.run r.world.store) (granted (take_refusal q w.run w.store) w _ _ no_output no_take_refusal)
          ∙ (clear_parts w h).0

      pub take_names : (rows : List ℕ) → (call q w take).answer ≡ slip rows → names_out (call q w take).world.run rows ≡ true
      unfolding call
      take_names rows e =
          let gone = granted (take_refusal q w.run w.store) w (slip (newest_rows w.run.waiting)) (record { run = with_slip w.run true w.run.waiting; store = w.store }) no_output no_take_refusal in
          let g : (call q w take).answer ≡ slip (newest_rows w.run.waiting) = ap (λ (r : Reply). r.answer) gone in
          let is : rows ≡ newest_rows w.run.waiting = cc in
          ap (λ (r : Reply). names_out r.world.run rows) gone
          ∙ subst (λ (z : List ℕ). same_list z (newest_rows w.run.waiting) ≡ true) (sym is) (same_list_refl (newest_rows w.run.waiting))

  -- with a slip out that names the newest tuple's rows
  module _ (v : World) (rows : List ℕ) (mine : own v.run v.store ≡ true) (named : names_out v.run rows ≡ true) where
    -- a granted post leaves a clear world
    pub post_clear : (out : Output) → (call q v (post rows out)).answer ≡ posted rows → clear (call q v (post rows out)).world ≡ true
    unfolding call
    post_clear out =
        by_reply (λ r. r.answer ≡ posted rows → clear r.world ≡ true) (post_refusal q v.run v.store rows out) v _ _ _
        (λ e h. and_from (own v.run v.store) true mine refl)
        (λ k h. let z : ◌≡◌ {A = ℕ} 0 1 = cc in absurd (let y : ⊥ = omega arith in y))

    -- a refused one got 29 or 30, and changed nothing
    pub post_refused : (out : Output) (k : ℕ) → (call q v (post rows out)).answer ≡ refused k → ((k ≡ 29) ⊎ (k ≡ 30)) × ((call q v (post rows out)).world ≡ v)
    unfolding call
    post_refused out k h =
        let fits = leb (out.place + length (line_of q v.store rows)) (length out.bytes) in
        let within = leb out.place (length out.bytes) in
        let is : post_refusal q v.run v.store rows out ≡ cond within (cond fits 0 30) 29 =
        cond-true (own v.run v.store) (cond (names_out v.run rows) (cond within (cond fits 0 30) 29) 28) 20 mine
        ∙ cond-true (names_out v.run rows) (cond within (cond fits 0 30) 29) 28 named in
        go (post_refusal q v.run v.store rows out) within fits is h
      where
        fate : ℕ → Reply
        fate n = reply n v (posted rows) (record { run = with_slip v.run false (older v.run.waiting); store = v.store }) (post_output (post_refusal q v.run v.store rows out) (line_of q v.store rows) out)

        go : (n : ℕ) (x y : Bool) → n ≡ cond x (cond y 0 30) 29 → (fate n).answer ≡ refused k → ((k ≡ 29) ⊎ (k ≡ 30)) × ((fate n).world ≡ v)
        go zero x y e h = let z : ◌≡◌ {A = ℕ} 0 1 = cc in absurd (let y : ⊥ = omega arith in y)
        go (suc n) true true e h = absurd (let z : ⊥ = omega arith in z)
        go (suc n) true false e h = let w : suc n ≡ k = cc in (inr (omega arith), refl)
        go (suc n) false y e h = let w : suc n ≡ k = cc in (inl (omega arith), refl)

    -- and the slip can be given back, which leaves a clear world
    no_back_refusal : back_refusal v.run v.store rows ≡ 0
    no_back_refusal =
        cond-true (own v.run v.store) (cond (names_out v.run rows) 0 28) 20 mine ∙ cond-true (names_out v.run rows) 0 28 named

    pub back_granted : (k : ℕ) → (call q v (back rows)).answer ≡ refused k → ⊥
    unfolding call
    back_granted k e =
        let g : (call q v (back rows)).answer ≡ returned = ap (λ (r : Reply). r.answer) (granted (back_refusal v.run v.store rows) v _ _ no_output no_back_refusal) in
        let z : ◌≡◌ {A = ℕ} 0 1 = cc in omega arith

    pub back_clear : clear (call q v (back rows)).world ≡ true
    unfolding call
    back_clear =
        ap (λ (r : Reply). clear r.world) (granted (back_refusal v.run v.store rows) v _ _ no_output no_back_refusal) ∙ and_from (own v.run v.store) true mine refl

  -- a refusal has a number
  abbrev Numbered : ℕ → Reply → Type 0
  Numbered k r = r.answer ≡ refused k → (k ≡ 0 → ⊥)

  some_number : (j k : ℕ) → refused (suc j) ≡ refused k → (k ≡ 0 → ⊥)
  some_number j k h z = let e : suc j ≡ k = cc in let y : ⊥ = omega arith in y

  pub refused_some : (w : World) (c : Call) (k : ℕ) → (call q w c).answer ≡ refused k → (k ≡ 0 → ⊥)
  unfolding call
  refused_some w (feed t cells) k =
      by_reply (Numbered k) (feed_refusal q w.run w.store t cells) w _ _ _ (λ e h. absurd (let z : ◌≡◌ {A = ℕ} 0 1 = cc in omega arith)) (λ j. some_number j k)
  refused_some w (step m) k =
      by_reply (Numbered k) (step_refusal w.run w.store) w _ _ _ (λ e h. absurd (let z : ◌≡◌ {A = ℕ} 0 1 = cc in omega arith)) (λ j. some_number j k)
  refused_some w take k =
      by_reply (Numbered k) (take_refusal q w.run w.store) w _ _ _ (λ e h. absurd (let z : ◌≡◌ {A = ℕ} 0 1 = cc in omega arith)) (λ j. some_number j k)
  refused_some w (post c out) k =
      by_reply (Numbered k) (post_refusal q w.run w.store c out) w _ _ _ (λ e h. absurd (let z : ◌≡◌ {A = ℕ} 0 1 = cc in omega arith)) (λ j. some_number j k)
  refused_some w (back c) k =
      by_reply (Numbered k) (back_refusal w.run w.store c) w _ _ _ (λ e h. absurd (let z : ◌≡◌ {A = ℕ} 0 1 = cc in omega arith)) (λ j. some_number j k)
