-- What is remembered of the questions that were asked.
use Rattle.std.specs.Prelude.{◌≡◌, ℕ, ◌+◌, ◌%◌, Bool, cond, not, ◌&&◌, List, [], ◌∷◌, is_some, Some, None, Option, ◌==◌, slice_set}
use Rattle.std.specs.List.{AllByRecursion}
use Rattle.std.specs.Coded.{Coded-set, coded_option, coded_ℕ, ×_prop, Unit-prop}
use Rattle.keys.specs.Keys.{same_cell}
use Rattle.stores.specs.Tables.{Table, next_row}
use Rattle.caching.specs.declared.types.Asked.{Asked}
use Rattle.caching.specs.declared.types.Remembered.{Remembered}

-- what a store with these tables answers to a question
abbrev pub right_answer : List Table → Asked → Option ℕ
right_answer ts q = next_row ts q.table q.question.column q.question.key q.question.after

-- a place is empty, or remembers what the store would answer
abbrev pub Right : List Table → Option Remembered → Type 0
Right ts None = Unit {0}
Right ts (Some e) = e.answer ≡ right_answer ts e.asked

Right-prop : (ts : List Table) (place : Option Remembered) → IsProp (Right ts place)
Right-prop ts None = Unit-prop
Right-prop ts (Some e) = Coded-set (coded_option coded_ℕ) e.answer (right_answer ts e.asked)

-- a memory can be right in one way only
pub all_right-prop : (ts : List Table) (places : List (Option Remembered)) → IsProp (AllByRecursion (Right ts) places)
all_right-prop ts [] = Unit-prop
all_right-prop ts (place ∷ places) = ×_prop (Right-prop ts place) (all_right-prop ts places)

abbrev pub same_question : Asked → Asked → Bool
same_question a b =
    (a.table == b.table) && (a.question.column == b.question.column && (a.question.after == b.question.after && same_cell a.question.key b.question.key))

-- the answer in the first place that remembers the question
abbrev pub recalled : List (Option Remembered) → Asked → Option (Option ℕ)
recalled [] q = None
recalled (None ∷ places) q = recalled places q
recalled (Some e ∷ places) q = cond (same_question e.asked q) (Some e.answer) (recalled places q)

-- the memory after a question: the place in turn remembers it, unless it was remembered before
abbrev pub noted : Option (Option ℕ) → List (Option Remembered) → ℕ → Asked → Option ℕ → List (Option Remembered)
noted (Some a) places turn q r = places
noted None places turn q r = slice_set places turn (Some (record { asked = q; answer = r }))

abbrev pub remembered : List (Option Remembered) → ℕ → Asked → Option ℕ → List (Option Remembered)
remembered places turn q r = noted (recalled places q) places turn q r

-- the turn goes on by one, from place 31 to place 0, where the question was not remembered
abbrev pub turned : List (Option Remembered) → ℕ → Asked → ℕ
turned places turn q = cond (is_some (recalled places q)) turn ((turn + 1) % 32)

-- the store below stays as it is where the answer was remembered
abbrev pub NotAsked : {S : Type 0} → Option (Option ℕ) → S → S → Type 0
NotAsked (Some a) after before = after ≡ before
NotAsked None after before = Unit {0}

-- what a build in table t leaves of a place: a remembered none for that table goes
abbrev pub kept : ℕ → Option Remembered → Option Remembered
kept t None = None
kept t (Some e) = cond (e.asked.table == t && not (is_some e.answer)) None (Some e)
