-- The law of a run: after every history each combination that meets the query was posted once, or is owed by one waiting tuple;
-- drains end within a bound; equal rows make equal postings; and what was posted is select-project-join over the rows accepted.
use Rattle.std.specs.Prelude.{◌≡◌, ℕ, zero, suc, ◌+◌, ◌-◌, ◌*◌, ◌<◌, ◌≤◌, min, max, Bool, true, false, cond, not, ◌&&◌, ◌||◌, ◌⊎◌, List, [], ◌∷◌, map, length, Some, ◌==◌, ◌≢◌, nat_lt, slice_index}
use Rattle.std.specs.List.{AllByRecursion}
use Rattle.std.specs.List.Sorted.{IsPermutation}
use Rattle.basis.specs.Lists.{upto}
use Rattle.query.specs.Queries.{Query, column_exists}
use Rattle.stores.specs.Tables.{Table}
use Rattle.algebra.specs.Algebra.{Relations, select_project_join}
use Rattle.algebra.specs.Lines.{line}
use Rattle.algebra.specs.Meets.{meets}
use Rattle.rules.specs.Lists.{bit, times, same_list}
use Rattle.rules.specs.Reads.{count, kept_cell, seen_cell, rows_read, stamp_of_row}
use Rattle.rules.specs.declared.types.State.{State}
use Rattle.rules.specs.declared.types.State.TheVariants.{Idle, Probing}
use Rattle.rules.specs.declared.types.Tuple.{Tuple}
use Rattle.rules.specs.Moves.{tables, filters, spans}
use Rattle.rules.specs.Calls.{World, Call, step, Answer, refused, accepted, stepped, slip, posted, returned, call}
use Rattle.law.specs.Histories.{well_chosen, all_well_chosen, after, opening, History, Posting, Journal, journal, NothingWaits}

-- (a) Each combination is posted once or owed once.

-- A combination of rows: the number of one row for each table of the query, in six places, with 0 in the others.
pub record Combination (q : Query) (rows : Relations) (c : List ℕ) : Type 0 where
  pub six : length c ≡ 6
  pub kept : (t : ℕ) → t < tables q → (1 ≤ slice_index c t) × (slice_index c t ≤ count rows t)
  pub rest : (t : ℕ) → tables q ≤ t → slice_index c t ≡ 0

-- its rows meet every join and every filter
abbrev pub Meets : Query → Relations → List ℕ → Type 0
Meets q rows c = meets q (rows_read q rows c) ≡ true

-- in a probed table the row is higher than the one named
abbrev pub beyond : State → ℕ → ℕ → Bool
beyond Idle t n = true
beyond (Probing u last) t n = not (u == t) || nat_lt last n

-- a tuple and row n of table t: they agree where it spans t; elsewhere the row was built before the driver
abbrev pub agrees : List Table → Tuple → ℕ → ℕ → Bool
agrees ts x t n = cond (spans x.rows t) (n == slice_index x.rows t) (nat_lt (stamp_of_row ts t n) x.driver && beyond x.state t n)

-- a tuple owes a combination: it is the one that will yet lead to its line
unfoldable pub owes : Query → List Table → List ℕ → Tuple → Bool
owes q ts c x = upto (tables q) (λ t. agrees ts x t (slice_index c t))

-- how often a combination was posted, and how many waiting tuples owe it
abbrev pub posted_times : Journal → List ℕ → ℕ
posted_times j c = times (λ p. same_list c p.rows) j.postings

abbrev pub owing_tuples : Query → Journal → List ℕ → ℕ
owing_tuples q j c = times (owes q j.world.store c) j.world.run.waiting

-- a posting of a combination of accepted rows that meets the query, with the bytes of its line
pub record RightPosting (q : Query) (rows : Relations) (p : Posting) : Type 0 where
  pub combination : Combination q rows p.rows
  pub meeting : Meets q rows p.rows
  pub bytes : p.bytes ≡ line q (rows_read q rows p.rows)

-- Each combination of accepted rows that meets the query was posted exactly once and is owed by no waiting tuple, or was never posted
-- and is owed by exactly one. Every posting is of such a combination, and its bytes are its line.
pub record ExactlyOnce (q : Query) (j : Journal) : Type 0 where
  pub once : (c : List ℕ) → Combination q j.rows c → Meets q j.rows c → ((posted_times j c ≡ 1) × (owing_tuples q j c ≡ 0)) ⊎ ((posted_times j c ≡ 0) × (owing_tuples q j c ≡ 1))
  pub right : AllByRecursion (RightPosting q j.rows) j.postings

-- (b) Drains.

-- a granted step
abbrev pub is_step : Answer → Bool
is_step (refused n) = false
is_step accepted = false
is_step (stepped n) = true
is_step (slip r) = false
is_step (posted r) = false
is_step returned = false

-- In a drain no feed is granted and, after each step that answers 6, a post is granted before the next granted step or the list's
-- end. `due` says that such a post is still to come: which answers it allows next, and what is due then.
abbrev pub allowed : Bool → Answer → Bool
allowed due (refused n) = true
allowed due accepted = false
allowed due (stepped n) = not due
allowed due (slip r) = true
allowed due (posted r) = true
allowed due returned = true

abbrev pub due_then : Bool → Answer → Bool
due_then due (refused n) = due
due_then due accepted = due
due_then due (stepped n) = n == 6
due_then due (slip r) = due
due_then due (posted r) = false
due_then due returned = due

module _ (q : Query) where
  -- how many steps of a list of calls are granted
  abbrev pub steps : World → List Call → ℕ
  steps w [] = 0
  steps w (c ∷ cs) = bit (is_step (call q w c).answer) + steps (call q w c).world cs

  -- the list of calls is a drain
  abbrev pub drain : Bool → World → List Call → Bool
  drain due w [] = not due
  drain due w (c ∷ cs) =
      allowed due (call q w c).answer && drain (due_then due (call q w c).answer) (call q w c).world cs

-- The ladder over F filters, R rows and s tables to come; and its top for a query and the most rows that a table holds.
abbrev pub ladder : ℕ → ℕ → ℕ → ℕ
ladder F R zero = F + 1
ladder F R (suc s) = F + R + 2 + R * ladder F R s

abbrev pub most_rows : List Table → ℕ
most_rows [] = 0
most_rows (x ∷ xs) = max (length x.rows) (most_rows xs)

abbrev pub bound : Query → List Table → ℕ
bound q ts = ladder (filters q) (most_rows ts) (tables q - 1)

-- The law.

-- (a) After every history each combination is posted once or owed once.
abbrev pub PostedOnceOrOwedOnce : Query → Type 0
PostedOnceOrOwedOnce q = (h : History q) → ExactlyOnce q (journal q h)

-- (b) If no slip is out and n tuples wait, nothing waits after any drain from there with at least n × B granted steps.
abbrev pub DrainsWithinBound : Query → Type 0
DrainsWithinBound q =
    (h : History q) (more : List Call)
    → let w = (journal q h).world in
    all_well_chosen q w more ≡ true → w.run.out ≡ false → drain q false w more ≡ true
    → length w.run.waiting * bound q w.store ≤ steps q w more
    → (after q w more).run.waiting ≡ []

-- (c) Two histories of one query that accepted equal rows in equal order table by table, whatever their capacities, their order between
-- tables and their choices, and in neither of which anything waits, posted the same combinations equally often.
abbrev pub EqualRowsEqualPostings : Query → Type 0
EqualRowsEqualPostings q =
    (h k : History q) → (journal q h).rows ≡ (journal q k).rows → NothingWaits (journal q h) → NothingWaits (journal q k)
    → (c : List ℕ) → posted_times (journal q h) c ≡ posted_times (journal q k) c

-- (d) Where nothing waits, the lines posted are those of select-project-join over the rows accepted, in some order.
abbrev pub LinesAreSelectProjectJoin : Query → Type 0
LinesAreSelectProjectJoin q =
    (h : History q) → NothingWaits (journal q h)
    → IsPermutation (select_project_join q (journal q h).rows) (map (λ p. p.bytes) (journal q h).postings)

pub record RunLaw (q : Query) : Type 0 where
  pub posted_once_or_owed_once : PostedOnceOrOwedOnce q
  pub drains_within_bound : DrainsWithinBound q
  pub equal_rows_equal_postings : EqualRowsEqualPostings q
  pub lines_are_select_project_join : LinesAreSelectProjectJoin q

-- Beside the law.

-- the questions that a list of calls makes of a table: steps on a tuple that probes it, with answer 3, 4 or 5
abbrev pub probes : State → ℕ → Bool
probes Idle t = false
probes (Probing u last) t = u == t

abbrev pub newest_probes : List Tuple → ℕ → Bool
newest_probes [] t = false
newest_probes (x ∷ xs) t = probes x.state t

abbrev pub three_four_five : Answer → Bool
three_four_five (refused n) = false
three_four_five accepted = false
three_four_five (stepped n) = n == 3 || (n == 4 || n == 5)
three_four_five (slip r) = false
three_four_five (posted r) = false
three_four_five returned = false

abbrev pub questions : Query → World → List Call → ℕ → ℕ
questions q w [] t = 0
questions q w (c ∷ cs) t =
    bit (newest_probes w.run.waiting t && three_four_five (call q w c).answer) + questions q (call q w c).world cs t

-- The run's asks of a table are those questions, stopping at 4,294,967,295.
abbrev pub AsksAreQuestions : Query → Type 0
AsksAreQuestions q =
    (h : History q) (t : ℕ) → t < 6
    → slice_index (journal q h).world.run.counts.asks t ≡ min (questions q (opening h.rooms) h.calls t) 4294967295

-- At most 64 tuples wait.
abbrev pub AtMost64Wait : Query → Type 0
AtMost64Wait q = (h : History q) → length (journal q h).world.run.waiting ≤ 64

-- A granted step that answers neither 0 nor 6 leaves other tuples waiting than before.
abbrev pub StepsMakeProgress : Query → Type 0
StepsMakeProgress q =
    (h : History q) (m n : ℕ) → let w = (journal q h).world in
    well_chosen q w (step m) ≡ true → (call q w (step m)).answer ≡ stepped n → (n ≢ 0) → (n ≢ 6)
    → ((call q w (step m)).world.run.waiting ≢ w.run.waiting)

-- The cells of accepted rows are seen as they are.
abbrev pub AcceptedCellsAreSeen : Query → Type 0
AcceptedCellsAreSeen q =
    (h : History q) (t r c : ℕ) → 1 ≤ r → r ≤ count (journal q h).rows t → column_exists q.headings (record { table = t; column = c }) ≡ true
    → kept_cell (journal q h).rows t r c ≡ Some (seen_cell q (journal q h).rows t r c)

pub record BesideTheLaw (q : Query) : Type 0 where
  pub at_most_64_wait : AtMost64Wait q
  pub asks_are_questions : AsksAreQuestions q
  pub steps_make_progress : StepsMakeProgress q
  pub accepted_cells_are_seen : AcceptedCellsAreSeen q
