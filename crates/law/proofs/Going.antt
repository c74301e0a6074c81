-- The history that calls continue, and a drain of enough steps.
use Rattle.std.proofs.Common.{◌≡◌, ℕ, ◌*◌, ◌≤◌, Bool, true, false, List, [], ◌++◌, length, sym, refl, ap, ◌∙◌, subst, arith}
use Rattle.std.proofs.lemmas.List.{append-nil}
use Rattle.query.specs.Lawful.{Lawful}
use Rattle.query.specs.Queries.{Query}
use Rattle.rules.specs.Steering.{Policy}
use Rattle.rules.specs.Calls.{World, Call}
use Rattle.law.proofs.Asks.{journal_world}
use Rattle.law.proofs.Following.{chosen_more, journal_more, rows_alike, postings_added}
use Rattle.law.proofs.Steered.{steered_chosen}
use Rattle.law.proofs.Whole.{run_law}
use Rattle.law.specs.Driving.{postings_of, Configuration, Made, HistoriesGoOn}
use Rattle.law.specs.Histories.{all_well_chosen, after, opening, History, Posting, Journal, journal_after, no_rows, beginning, journal}
use Rattle.law.specs.Law.{steps, drain, bound}
use Rattle.law.specs.Steering.{Choosing}

module _ {S : Type 0} (p : Policy S) (ch : Choosing p) (q : Query) (a b : Configuration S) where
  pub went_on : (n no : ℕ) (more : List ℕ) (due still : Bool) → Made p q a b n no more due still → HistoriesGoOn p q a b
  unfolding journal
  went_on n k more due still made h e =
      let j : Journal = beginning (opening h.rooms) in
      let now = journal_after q j h.calls in
      let is : after q (opening h.rooms) h.calls ≡ a.world = sym (journal_world q j h.calls) ∙ e in
      record {
        history = record {
          rooms = h.rooms;
          calls = h.calls ++ made.calls;
          chosen = chosen_more q (opening h.rooms) h.calls made.calls h.chosen
              (subst (λ (z : World). all_well_chosen q z made.calls ≡ true) (sym is) (steered_chosen p ch q a.state a.world made.calls made.steered));
        };
        same_rooms = refl;
        calls = made.calls;
        with_calls = refl;
        steered = made.steered;
        states = made.states;
        leads = ap (λ (z : Journal). z.world) (journal_more q j h.calls made.calls) ∙ journal_world q now made.calls ∙ ap (λ (z : World). after q z made.calls) e ∙ made.leads;
        same_rows = ap (λ (z : Journal). z.rows) (journal_more q j h.calls made.calls) ∙ rows_alike q now.world now.rows now.postings [] made.calls
            ∙ ap (λ (z : World). (journal_after q (record { world = z; rows = now.rows; postings = [] }) made.calls).rows) e ∙ made.no_row now.rows;
        postings = postings_of q a.world made.calls;
        with_postings = ap (λ (z : Journal). z.postings) (journal_more q j h.calls made.calls)
            ∙ ap (λ (z : List Posting). (journal_after q (record { world = now.world; rows = now.rows; postings = z }) made.calls).postings) (sym (append-nil now.postings))
            ∙ postings_added q now.world now.rows no_rows now.postings [] made.calls
            ∙ ap (λ (z : World). now.postings ++ postings_of q z made.calls) e;
        more = more;
        wrote = made.wrote;
      }

  -- the calls made are a drain where no post is due before or after
  pub made_drain : (n no : ℕ) (more : List ℕ) (m : Made p q a b n no more false false) → drain q false a.world m.calls ≡ true
  made_drain n k more m = subst (λ (cs : List Call). drain q false a.world cs ≡ true) (append-nil m.calls) (m.pays [] refl)

  -- a drain of enough steps, from a history's world
  pub enough : Lawful q → (n : ℕ) → Made p q a b n 0 [] false false → (h : History q) → (journal q h).world ≡ a.world → a.world.run.out ≡ false
      → length a.world.run.waiting * bound q a.world.store ≤ n → b.world.run.waiting ≡ []
  enough lawful n m h e out l =
      ap (λ (z : World). z.run.waiting) (sym (ap (λ (z : World). after q z m.calls) e ∙ m.leads))
      ∙ (run_law q lawful).drains_within_bound h m.calls
      (subst (λ (z : World). all_well_chosen q z m.calls ≡ true) (sym e) (steered_chosen p ch q a.state a.world m.calls m.steered))
      (subst (λ (z : World). z.run.out ≡ false) (sym e) out)
      (subst (λ (z : World). drain q false z m.calls ≡ true) (sym e) (made_drain n 0 [] m))
      (subst (λ (z : World). length z.run.waiting * bound q z.store ≤ steps q z m.calls) (sym e) (let g = m.granted in omega arith))
