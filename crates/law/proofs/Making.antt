-- One call more, and calls one after another.
use Rattle.std.proofs.Common.{◌≡◌, ℕ, zero, suc, ◌+◌, Bool, true, false, cond, not, eqb, leb, List, [], ◌∷◌, ◌++◌, length, sym, refl, ap, ◌∙◌, subst, ap₂, arith}
use Rattle.std.proofs.lemmas.Bool.{and_from, cond-false, ne_eqb, leb-true}
use Rattle.std.proofs.lemmas.List.{append_assoc, append-nil}
use Rattle.query.specs.Queries.{Query}
use Rattle.algebra.specs.Algebra.{Relations}
use Rattle.rules.specs.Steering.{Policy, policy_after}
use Rattle.rules.specs.Calls.{World, Output, own, older, names_out, line_of, post_refusal, with_slip, laid, post_output, Call, Answer, Reply, reply, call, step, take, post, back, refused, stepped, slip, posted, returned}
use Rattle.rules.specs.Lists.{bit}
use Rattle.rules.specs.Moves.{choices}
use Rattle.law.proofs.Asks.{journal_world}
use Rattle.law.proofs.Following.{after_more, steps_more, refusal_more, journal_more, rows_alike, postings_added, states_more, steered_more}
use Rattle.law.proofs.InOrder.{by_reply, yes_to}
use Rattle.law.proofs.Outputs.{written-laid, output_more, output_same}
use Rattle.law.specs.Driving.{all_bytes, postings_of, output_with, number, or_else, refusal_met, Configuration, Made}
use Rattle.law.specs.Histories.{after, Posting, Journal, rows_then, lent, written, postings_then, journal_after, no_rows}
use Rattle.law.specs.Law.{is_step, allowed, due_then, steps, drain}
use Rattle.law.specs.Steering.{steered, state_then, steered_all, states_after}

all_bytes-append : (xs ys : List Posting) → all_bytes (xs ++ ys) ≡ all_bytes xs ++ all_bytes ys
all_bytes-append [] ys = refl
all_bytes-append (x ∷ xs) ys = ap (λ (z : List ℕ). x.bytes ++ z) (all_bytes-append xs ys) ∙ sym (append_assoc x.bytes (all_bytes xs) (all_bytes ys))

else_zero : (a : ℕ) → or_else a 0 ≡ a
else_zero zero = refl
else_zero (suc a) = refl

module _ {S : Type 0} (p : Policy S) (q : Query) where
  -- nothing made
  pub made_nothing : (a : Configuration S) (due : Bool) → Made p q a a 0 0 [] due due
  made_nothing a due =
      record {
        calls = [];
        steered = refl;
        states = refl;
        leads = refl;
        granted = refl;
        refusal = refl;
        pays = λ next h. h;
        no_row = λ rows. refl;
        wrote = output_same a.output;
      }

  module _ (a b : Configuration S) (n no : ℕ) (kept : List ℕ) (due still : Bool) (m : Made p q a b n no kept due still) where
    abbrev old : List Posting
    old = postings_of q a.world m.calls

    abbrev start : Relations → Journal
    start rows = record { world = a.world; rows = rows; postings = [] }

    journal_leads : (rows : Relations) → (journal_after q (start rows) m.calls).world ≡ b.world
    journal_leads rows = journal_world q (start rows) m.calls ∙ m.leads

    -- a call that the policy would make, with its answer, and where it leads
    pub made_call : (c : Call) (ans : Answer) (b' : Configuration S) (n' no' : ℕ) (more : List ℕ) → (call q b.world c).answer ≡ ans
        → steered p q b.state b.world c ≡ c
        → state_then p q b.state b.world ans ≡ b'.state
        → (call q b.world c).world ≡ b'.world
        → ((rows : Relations) → rows_then rows c ans ≡ rows)
        → n + bit (is_step ans) ≡ n'
        → or_else no (number ans) ≡ no'
        → allowed still ans ≡ true
        → b'.output ≡ output_with a.output (all_bytes (postings_then old (lent c) (call q b.world c).output ans)) more
        → Made p q a b' n' no' more due (due_then still ans)
    made_call c ans b' n' no' more e st ss sw r g f al o =
        record {
          calls = m.calls ++ (c ∷ []);
          steered = steered_more p q a.state a.world m.calls (c ∷ []) m.steered
              (subst (λ (z : World). steered_all p q (states_after p q a.state a.world m.calls) z (c ∷ []) ≡ c ∷ []) (sym m.leads)
              (subst (λ (z : S). steered_all p q z b.world (c ∷ []) ≡ c ∷ []) (sym m.states) (ap (λ (z : Call). z ∷ []) st)));
          states = states_more p q a.state a.world m.calls (c ∷ [])
              ∙ ap₂ (λ (z : S) (w : World). state_then p q z w (call q w c).answer) m.states m.leads
              ∙ ap (state_then p q b.state b.world) e ∙ ss;
          leads = after_more q a.world m.calls (c ∷ []) ∙ ap (λ (z : World). (call q z c).world) m.leads ∙ sw;
          granted =
              let x = steps_more q a.world m.calls (c ∷ []) in
              let y : bit (is_step (call q (after q a.world m.calls) c).answer) ≡ bit (is_step ans) = ap (λ (z : World). bit (is_step (call q z c).answer)) m.leads ∙ ap (λ (z : Answer). bit (is_step z)) e in
              let z = m.granted in
              omega arith;
          refusal = refusal_more q a.world m.calls (c ∷ [])
              ∙ ap₂ (λ (k : ℕ) (z : World). or_else k (or_else (number (call q z c).answer) 0)) m.refusal m.leads
              ∙ ap (or_else no) (else_zero (number (call q b.world c).answer) ∙ ap number e) ∙ f;
          pays = λ next h.
              subst (λ (z : List Call). drain q due a.world z ≡ true) (sym (append_assoc m.calls (c ∷ []) next))
              (m.pays (c ∷ next)
              (and_from (allowed still (call q b.world c).answer) (drain q (due_then still (call q b.world c).answer) (call q b.world c).world next)
              (ap (allowed still) e ∙ al)
              (subst (λ (z : World). drain q (due_then still (call q b.world c).answer) z next ≡ true) (sym sw)
              (subst (λ (z : Answer). drain q (due_then still z) b'.world next ≡ true) (sym e) h))));
          no_row = λ rows.
              ap (λ (j : Journal). j.rows) (journal_more q (start rows) m.calls (c ∷ []))
              ∙ ap₂ (λ (s : Relations) (z : World). rows_then s c (call q z c).answer) (m.no_row rows) (journal_leads rows)
              ∙ ap (rows_then rows c) e ∙ r rows;
          wrote = o ∙ sym (ap (λ (z : List Posting). output_with a.output (all_bytes z) more)
              (ap (λ (j : Journal). j.postings) (journal_more q (start no_rows) m.calls (c ∷ []))
              ∙ ap (λ (z : World). postings_then old (lent c) (call q z c).output (call q z c).answer) (journal_leads no_rows)
              ∙ ap (postings_then old (lent c) (call q b.world c).output) e));
        }

    -- a step, where no post is due
    pub made_step : (b' : Configuration S) (k : ℕ) → still ≡ false
        → (call q b.world (step (p.choice b.state (choices q b.world.run.waiting)))).answer ≡ stepped k
        → policy_after p q b.state b.world.store b.world.run.waiting ≡ b'.state
        → (call q b.world (step (p.choice b.state (choices q b.world.run.waiting)))).world ≡ b'.world
        → b'.output ≡ b.output
        → Made p q a b' (suc n) no kept due (eqb k 6)
    made_step b' k paid e ss sw so =
        made_call (step (p.choice b.state (choices q b.world.run.waiting))) (stepped k) b' (suc n) no kept e refl ss sw (λ rows. refl)
        (omega arith) (else_zero no) (ap not paid) (so ∙ m.wrote)

    -- a take, and a slip given back
    pub made_take : (b' : Configuration S) (rows : List ℕ) → (call q b.world take).answer ≡ slip rows
        → b.state ≡ b'.state → (call q b.world take).world ≡ b'.world → b'.output ≡ b.output → Made p q a b' n no kept due still
    made_take b' rows e ss sw so = made_call take (slip rows) b' n no kept e refl ss sw (λ rows. refl) (omega arith) (else_zero no) refl (so ∙ m.wrote)

    pub made_back : (b' : Configuration S) (rows : List ℕ) → (call q b.world (back rows)).answer ≡ returned
        → b.state ≡ b'.state → (call q b.world (back rows)).world ≡ b'.world → b'.output ≡ b.output → Made p q a b' n no kept due still
    made_back b' rows e ss sw so = made_call (back rows) returned b' n no kept e refl ss sw (λ rows. refl) (omega arith) (else_zero no) refl (so ∙ m.wrote)

    -- a call that is refused, and that is lent no output
    pub made_refusal : (c : Call) (b' : Configuration S) (k : ℕ) → (call q b.world c).answer ≡ refused k → steered p q b.state b.world c ≡ c
        → b.state ≡ b'.state → (call q b.world c).world ≡ b'.world → b'.output ≡ b.output → Made p q a b' n (or_else no k) kept due still
    made_refusal c b' k e st ss sw so = made_call c (refused k) b' n (or_else no k) kept e st ss sw (λ rows. refl) (omega arith) refl refl (so ∙ m.wrote)

  -- a post, with the output at hand
  module _ (a b : Configuration S) (n : ℕ) (due still : Bool) (m : Made p q a b n 0 [] due still) where
    abbrev Posted : List ℕ → Output → Reply → Type 0
    Posted c out r = r.answer ≡ posted c → (r.output ≡ output_with out (line_of q b.world.store c) []) × (written out r.output ≡ line_of q b.world.store c)

    post_grants : (c : List ℕ) (out : Output) → Posted c out (call q b.world (post c out))
    unfolding call
    post_grants c out =
        let v = b.world in
        let line = line_of q v.store c in
        by_reply (Posted c out) (post_refusal q v.run v.store c out) v _ _ _
        (λ e h.
        let x = yes_to (own v.run v.store) 19 _ e in
        let o = yes_to (names_out v.run c) 27 _ x.1 in
        let i = yes_to (leb out.place (length out.bytes)) 28 _ o.1 in
        let f = yes_to (leb (out.place + length line) (length out.bytes)) 29 _ i.1 in
        let is : post_output (post_refusal q v.run v.store c out) line out ≡ record { bytes = laid out.bytes out.place line; place = out.place + length line } =
        ap (λ (k : ℕ). post_output k line out) e in (
          is ∙ ap (λ (z : List ℕ). record { bytes = laid out.bytes out.place z; place = out.place + length line }) (sym (append-nil line)),
          ap (written out) is ∙ written-laid out.bytes out.place line (leb-true (out.place + length line) (length out.bytes) f.0),
        ))
        (λ k h. let z : ◌≡◌ {A = ℕ} 0 1 = cc in absurd (let y : ⊥ = omega arith in y))

    pub made_post : (b' : Configuration S) (c : List ℕ) → (call q b.world (post c b.output)).answer ≡ posted c
        → b.state ≡ b'.state → (call q b.world (post c b.output)).world ≡ b'.world → (call q b.world (post c b.output)).output ≡ b'.output
        → Made p q a b' n 0 [] due false
    made_post b' c e ss sw so =
        let r = call q b.world (post c b.output) in
        let line = line_of q b.world.store c in
        let g = post_grants c b.output e in
        let was = postings_of q a.world m.calls in
        let before = all_bytes was in
        let now : all_bytes (postings_then was b.output r.output (posted c)) ≡ before ++ line =
        all_bytes-append was (record { rows = c; bytes = written b.output r.output } ∷ [])
        ∙ ap (λ (z : List ℕ). before ++ z) (append-nil (written b.output r.output) ∙ g.1) in
        made_call a b n 0 [] due still m (post c b.output) (posted c) b' n 0 [] e refl ss sw (λ rows. refl) (omega arith) refl refl
        (sym so ∙ g.0 ∙ ap (λ (z : Output). output_with z line []) m.wrote ∙ output_more a.output before line [] ∙ ap (λ (z : List ℕ). output_with a.output z []) (sym now))

    -- a refused one wrote the line's beginning, if it did not fit
    abbrev Refused : List ℕ → Output → ℕ → Reply → Type 0
    Refused c out k r = r.answer ≡ refused k → r.output ≡ output_with out [] (cond (eqb k 30) (line_of q b.world.store c) [])

    refused_output : (k : ℕ) (line : List ℕ) (out : Output) → post_output (suc k) line out ≡ output_with out [] (cond (eqb (suc k) 30) line [])
    refused_output k line out =
        cond-false (eqb (suc k) 0) (record { bytes = laid out.bytes out.place line; place = out.place + length line })
        (cond (eqb (suc k) 30) (record { bytes = laid out.bytes out.place line; place = out.place }) out)
        (ne_eqb (suc k) 0 (λ e. let z : ⊥ = omega arith in z))
        ∙ go (eqb (suc k) 30) refl
      where
        go : (b : Bool) → eqb (suc k) 30 ≡ b → cond (eqb (suc k) 30) (record { bytes = laid out.bytes out.place line; place = out.place }) out ≡ output_with out [] (cond (eqb (suc k) 30) line [])
        go true e = rw e (ap (λ (p : ℕ). record { bytes = laid out.bytes out.place line; place = p }) (let e : out.place ≡ out.place + 0 = omega arith in e))
        go false e = rw e (output_same out)

    post_refuses : (c : List ℕ) (out : Output) (k : ℕ) → Refused c out k (call q b.world (post c out))
    unfolding call
    post_refuses c out k = go (post_refusal q b.world.run b.world.store c out)
      where
        line : List ℕ
        line = line_of q b.world.store c

        go : (j : ℕ) → Refused c out k (reply j b.world (posted c) (record { run = with_slip b.world.run false (older b.world.run.waiting); store = b.world.store }) (post_output j (line_of q b.world.store c) out))
        go zero h = let z : ◌≡◌ {A = ℕ} 0 1 = cc in absurd (let y : ⊥ = omega arith in y)
        go (suc j) h =
            let is : suc j ≡ k = cc in
            subst (λ (i : ℕ). post_output (suc j) (line_of q b.world.store c) out ≡ output_with out [] (cond (eqb i 30) (line_of q b.world.store c) [])) is (refused_output j (line_of q b.world.store c) out)

    pub made_refused : (b' : Configuration S) (c : List ℕ) (k : ℕ) → (call q b.world (post c b.output)).answer ≡ refused k
        → b.state ≡ b'.state → (call q b.world (post c b.output)).world ≡ b'.world → (call q b.world (post c b.output)).output ≡ b'.output
        → Made p q a b' n k (cond (eqb k 30) (line_of q b.world.store c) []) due still
    made_refused b' c k e ss sw so =
        let rest = cond (eqb k 30) (line_of q b.world.store c) [] in
        let before = all_bytes (postings_of q a.world m.calls) in
        made_call a b n 0 [] due still m (post c b.output) (refused k) b' n k rest e refl ss sw (λ rows. refl) (omega arith) refl refl
        (sym so ∙ post_refuses c b.output k e ∙ ap (λ (z : Output). output_with z [] rest) m.wrote ∙ output_more a.output before [] rest
        ∙ ap (λ (z : List ℕ). output_with a.output z rest) (append-nil before))

    -- one after another
    pub made_then : (c : Configuration S) (j k : ℕ) (more : List ℕ) (last : Bool) → Made p q b c j k more still last → Made p q a c (n + j) k more due last
    made_then c j k more last d =
        let is = m.leads in
        let start : Relations → Journal = λ rows. record { world = a.world; rows = rows; postings = [] } in
        let mid : (journal_after q (start no_rows) m.calls).world ≡ b.world = journal_world q (start no_rows) m.calls ∙ m.leads in
        let postings : postings_of q a.world (m.calls ++ d.calls) ≡ postings_of q a.world m.calls ++ postings_of q b.world d.calls =
        ap (λ (j : Journal). j.postings) (journal_more q (start no_rows) m.calls d.calls)
        ∙ ap (λ (z : List Posting). (journal_after q (record { world = (journal_after q (start no_rows) m.calls).world; rows = (journal_after q (start no_rows) m.calls).rows; postings = z }) d.calls).postings) (sym (append-nil (postings_of q a.world m.calls)))
        ∙ postings_added q (journal_after q (start no_rows) m.calls).world (journal_after q (start no_rows) m.calls).rows no_rows (postings_of q a.world m.calls) [] d.calls
        ∙ ap (λ (z : World). postings_of q a.world m.calls ++ postings_of q z d.calls) mid in
        record {
          calls = m.calls ++ d.calls;
          steered = steered_more p q a.state a.world m.calls d.calls m.steered
              (subst (λ (z : World). steered_all p q (states_after p q a.state a.world m.calls) z d.calls ≡ d.calls) (sym is)
              (subst (λ (z : S). steered_all p q z b.world d.calls ≡ d.calls) (sym m.states) d.steered));
          states = states_more p q a.state a.world m.calls d.calls ∙ ap₂ (λ (z : S) (w : World). states_after p q z w d.calls) m.states is ∙ d.states;
          leads = after_more q a.world m.calls d.calls ∙ ap (λ (z : World). after q z d.calls) is ∙ d.leads;
          granted =
              let x = steps_more q a.world m.calls d.calls in
              let y : steps q (after q a.world m.calls) d.calls ≡ steps q b.world d.calls = ap (λ (z : World). steps q z d.calls) is in
              let e = m.granted in let f = d.granted in omega arith;
          refusal = refusal_more q a.world m.calls d.calls
              ∙ ap₂ (λ (i : ℕ) (z : World). or_else i (refusal_met q z d.calls)) m.refusal is ∙ d.refusal;
          pays = λ next h.
              subst (λ (z : List Call). drain q due a.world z ≡ true) (sym (append_assoc m.calls d.calls next)) (m.pays (d.calls ++ next) (d.pays next h));
          no_row = λ rows.
              ap (λ (j : Journal). j.rows) (journal_more q (start rows) m.calls d.calls)
              ∙ rows_alike q (journal_after q (start rows) m.calls).world (journal_after q (start rows) m.calls).rows (journal_after q (start rows) m.calls).postings [] d.calls
              ∙ ap₂ (λ (z : World) (s : Relations). (journal_after q (record { world = z; rows = s; postings = [] }) d.calls).rows) (journal_world q (start rows) m.calls ∙ m.leads) (m.no_row rows)
              ∙ d.no_row rows;
          wrote = d.wrote ∙ ap (λ (z : Output). output_with z (all_bytes (postings_of q b.world d.calls)) more) m.wrote
              ∙ output_more a.output (all_bytes (postings_of q a.world m.calls)) (all_bytes (postings_of q b.world d.calls)) more
              ∙ ap (λ (z : List ℕ). output_with a.output z more) (sym (ap all_bytes postings ∙ all_bytes-append (postings_of q a.world m.calls) (postings_of q b.world d.calls)));
        }
