-- Calls made one after another, as a driving function makes them under a policy, and the history that they continue.
use Rattle.std.specs.Prelude.{◌≡◌, ℕ, zero, suc, ◌+◌, Bool, true, not, ◌&&◌, List, [], ◌∷◌, ◌++◌, length}
use Rattle.std.specs.List.{flat_map}
use Rattle.query.specs.Queries.{Query}
use Rattle.algebra.specs.Algebra.{Relations}
use Rattle.rules.specs.Calls.{World, Output, own, laid, Call, Answer, refused, accepted, stepped, slip, posted, returned, call}
use Rattle.rules.specs.Steering.{Policy}
use Rattle.law.specs.Histories.{after, History, Posting, journal_after, beginning, journal}
use Rattle.law.specs.Law.{steps, drain}
use Rattle.law.specs.Steering.{steered_all, states_after}

-- the store is the run's own, and no slip is out
abbrev pub clear : World → Bool
clear w = own w.run w.store && not w.run.out

-- the bytes of postings, one after another
abbrev pub all_bytes : List Posting → List ℕ
all_bytes ps = flat_map (λ p. p.bytes) ps

-- the postings of a list of calls
abbrev pub postings_of : Query → World → List Call → List Posting
postings_of q w calls = (journal_after q (beginning w) calls).postings

-- an output to which lines were written, and behind the place the beginning of one more
abbrev pub output_with : Output → List ℕ → List ℕ → Output
output_with out lines more =
    record { bytes = laid out.bytes out.place (lines ++ more); place = out.place + length lines }

-- The number of the first refusal that a list of calls meets, 0 if none.
abbrev pub number : Answer → ℕ
number (refused n) = n
number accepted = 0
number (stepped n) = 0
number (slip r) = 0
number (posted r) = 0
number returned = 0

abbrev pub or_else : ℕ → ℕ → ℕ
or_else zero m = m
or_else (suc n) m = suc n

abbrev pub refusal_met : Query → World → List Call → ℕ
refusal_met q w [] = 0
refusal_met q w (c ∷ cs) = or_else (number (call q w c).answer) (refusal_met q (call q w c).world cs)

-- Where a driving function stands: the policy's state, the run and its store, and the output.
pub record Configuration (S : Type 0) : Type 0 where
  pub state : S
  pub world : World
  pub output : Output

-- From one configuration to another by calls alone: each step goes where the policy chooses, no row is accepted, n steps are
-- granted, the first refusal met is `no`, and the output holds the bytes of the postings; `more` is the beginning of a line that
-- did not fit. As in a drain, each ready line is posted before the next granted step: `due` and `still` say whether a post is due
-- before and after.
pub record Made {S : Type 0} (p : Policy S) (q : Query) (a b : Configuration S) (n no : ℕ) (more : List ℕ) (due still : Bool) : Type 0 where
  pub calls : List Call
  pub steered : steered_all p q a.state a.world calls ≡ calls
  pub states : states_after p q a.state a.world calls ≡ b.state
  pub leads : after q a.world calls ≡ b.world
  pub granted : steps q a.world calls ≡ n
  pub refusal : refusal_met q a.world calls ≡ no
  -- whatever is a drain from b is one from a, with these calls before it
  pub pays : (next : List Call) → drain q still b.world next ≡ true → drain q due a.world (calls ++ next) ≡ true
  pub no_row : (rows : Relations) → (journal_after q (record { world = a.world; rows = rows; postings = [] }) calls).rows ≡ rows
  pub wrote : b.output ≡ output_with a.output (all_bytes (postings_of q a.world calls)) more

-- A history that leads to the world before goes on to one that leads to the world after: calls that the policy steered are added to
-- its calls, no row to its rows, and to its postings those whose bytes were written.
pub record WentOn {S : Type 0} (p : Policy S) (q : Query) (a b : Configuration S) (h : History q) : Type 0 where
  pub history : History q
  pub same_rooms : history.rooms ≡ h.rooms
  pub calls : List Call
  pub with_calls : history.calls ≡ h.calls ++ calls
  pub steered : steered_all p q a.state a.world calls ≡ calls
  pub states : states_after p q a.state a.world calls ≡ b.state
  pub leads : (journal q history).world ≡ b.world
  pub same_rows : (journal q history).rows ≡ (journal q h).rows
  pub postings : List Posting
  pub with_postings : (journal q history).postings ≡ (journal q h).postings ++ postings
  pub more : List ℕ
  pub wrote : b.output ≡ output_with a.output (all_bytes postings) more

abbrev pub HistoriesGoOn : {S : Type 0} → Policy S → Query → Configuration S → Configuration S → Type 0
HistoriesGoOn p q a b = (h : History q) → (journal q h).world ≡ a.world → WentOn p q a b h
