-- Histories of a run: the calls made since it was opened, and the journal of what came of them.
use Rattle.std.specs.Prelude.{◌≡◌, ℕ, ◌-◌, Bool, true, false, cond, ◌&&◌, List, [], ◌∷◌, ◌++◌, take as front, drop}
use Rattle.basis.specs.Lists.{any}
use Rattle.policies.specs.Modules.{has}
use Rattle.query.specs.Queries.{Query}
use Rattle.stores.specs.Tables.{Table}
use Rattle.algebra.specs.Algebra.{Relations}
use Rattle.rules.specs.Lists.{grow}
use Rattle.rules.specs.Counts.{no_counts}
use Rattle.rules.specs.Moves.{choices}
use Rattle.rules.specs.Calls.{RunState, World, Output, Call, feed, step, take, post, back, Answer, refused, accepted, stepped, slip, posted, returned, Reply, no_output, call}

-- A step's module is a member of the set that a policy would be asked to choose from, if that has any.
abbrev pub member_if_any : List Bool → ℕ → Bool
member_if_any members m = cond (any (λ b. b) members) (has members m) true

abbrev pub well_chosen : Query → World → Call → Bool
well_chosen q w (feed t cells) = true
well_chosen q w (step m) = member_if_any (choices q w.run.waiting) m
well_chosen q w take = true
well_chosen q w (post c out) = true
well_chosen q w (back c) = true

abbrev pub all_well_chosen : Query → World → List Call → Bool
all_well_chosen q w [] = true
all_well_chosen q w (c ∷ cs) = well_chosen q w c && all_well_chosen q (call q w c).world cs

-- the world after a list of calls
abbrev pub after : Query → World → List Call → World
after q w [] = w
after q w (c ∷ cs) = after q (call q w c).world cs

-- A run as it opens: nothing waits, no slip is out, no row is accepted, the next build number is 1, and every count is 0.
abbrev pub opened : RunState
opened = record { waiting = []; out = false; accepted = 0 ∷ (0 ∷ (0 ∷ (0 ∷ (0 ∷ (0 ∷ []))))); next = 1; counts = no_counts }

-- an empty table that may hold so many rows
abbrev pub empty_table : ℕ → Table
empty_table room = record { rows = []; room = room }

-- an empty store, by the capacity of each table
abbrev pub empty_store : (ℕ → ℕ) → List Table
empty_store rooms =
    empty_table (rooms 0) ∷ (empty_table (rooms 1) ∷ (empty_table (rooms 2)
    ∷ (empty_table (rooms 3) ∷ (empty_table (rooms 4) ∷ (empty_table (rooms 5) ∷ [])))))

abbrev pub opening : (ℕ → ℕ) → World
opening rooms = record { run = opened; store = empty_store rooms }

-- A history: a run is opened on an empty store of some capacities, and calls are made with whatever arguments and whatever members as
-- choices.
pub record History (q : Query) : Type 0 where
  pub rooms : ℕ → ℕ
  pub calls : List Call
  pub chosen : all_well_chosen q (opening rooms) calls ≡ true

-- A posting: the combination that the slip named, and the bytes that were written.
pub record Posting : Type 0 where
  pub rows : List ℕ
  pub bytes : List ℕ

-- A journal: the world, the rows accepted for each table, and the postings, both in their order.
pub record Journal : Type 0 where
  pub world : World
  pub rows : Relations
  pub postings : List Posting

-- A granted feed accepts its row.
abbrev pub rows_fed : Relations → Call → Relations
rows_fed rows (feed t cells) = grow rows t cells
rows_fed rows (step m) = rows
rows_fed rows take = rows
rows_fed rows (post c out) = rows
rows_fed rows (back c) = rows

abbrev pub rows_then : Relations → Call → Answer → Relations
rows_then rows c (refused n) = rows
rows_then rows c accepted = rows_fed rows c
rows_then rows c (stepped n) = rows
rows_then rows c (slip r) = rows
rows_then rows c (posted r) = rows
rows_then rows c returned = rows

-- A granted post posts the combination that its slip names; what it wrote lies between the place that it was lent and the place that
-- it left.
abbrev pub lent : Call → Output
lent (feed t cells) = no_output
lent (step m) = no_output
lent take = no_output
lent (post c out) = out
lent (back c) = no_output

abbrev pub written : Output → Output → List ℕ
written before later = front (later.place - before.place) (drop before.place later.bytes)

abbrev pub postings_then : List Posting → Output → Output → Answer → List Posting
postings_then ps before later (refused n) = ps
postings_then ps before later accepted = ps
postings_then ps before later (stepped n) = ps
postings_then ps before later (slip r) = ps
postings_then ps before later (posted r) = ps ++ (record { rows = r; bytes = written before later } ∷ [])
postings_then ps before later returned = ps

-- the journal after one more call, and after a list of calls
abbrev pub noted : Journal → Call → Reply → Journal
noted j c r =
    record {
      world = r.world;
      rows = rows_then j.rows c r.answer;
      postings = postings_then j.postings (lent c) r.output r.answer;
    }

abbrev pub journal_after : Query → Journal → List Call → Journal
journal_after q j [] = j
journal_after q j (c ∷ cs) = journal_after q (noted j c (call q j.world c)) cs

-- no rows in any of six tables
abbrev pub no_rows : Relations
no_rows = [] ∷ ([] ∷ ([] ∷ ([] ∷ ([] ∷ ([] ∷ [])))))

-- a journal that begins in a world
abbrev pub beginning : World → Journal
beginning w = record { world = w; rows = no_rows; postings = [] }

-- the journal of a history
unfoldable pub journal : (q : Query) → History q → Journal
journal q h = journal_after q (beginning (opening h.rooms)) h.calls

abbrev pub NothingWaits : Journal → Type 0
NothingWaits j = j.world.run.waiting ≡ []
