-- The worked examples, by computation.
use Rattle.std.proofs.Common.{◌≡◌, ℕ, ◌+◌, false, leb, List, [], ◌∷◌, ◌++◌, length, decimal, refl, ap, ◌∙◌, arith}
use Rattle.std.proofs.lemmas.Fmt.{decimal_digit, decimal_step}
use Rattle.basis.specs.Questions.{first_no}
use Rattle.policies.specs.Modules.{least_from}
use Rattle.policies.specs.Order.{fixed_by}
use Rattle.policies.specs.Tickets.{weights_below}
use Rattle.query.specs.Lawful.{Lawful}
use Rattle.query.specs.Queries.{Query}
use Rattle.rules.specs.Moves.{move, ready}
use Rattle.rules.specs.Calls.{World, own, older, names_out, line_of, post_refusal, with_slip, Output, post_output, post, posted, Reply, reply, call}
use Rattle.law.specs.Histories.{after, written}
use Rattle.law.specs.Steering.{steered_all}
use Rattle.law.specs.Examples.{overtime, pairs, hundred, line_of_day, six_rows, steps_behind, answers, taken, fixed, WorkedExamples}

thirty : decimal 30 ≡ 51 ∷ (48 ∷ [])
thirty = decimal_step 30 (omega arith) (omega arith) ∙ ap (λ (ds : List ℕ). ds ++ (48 ∷ [])) (decimal_digit 3 (omega arith))

overtime_lawful : Lawful overtime
overtime_lawful = record {
  first = omega arith;
  tables = omega arith;
  columns = ((omega arith, omega arith), ((omega arith, omega arith), tt));
  joins = omega arith;
  filters = omega arith;
  shown = omega arith;
  joined = refl;
  linked = refl;
  selected = refl;
  projected = refl;
}

pairs_lawful : Lawful pairs
pairs_lawful = record {
  first = omega arith;
  tables = omega arith;
  columns = ((omega arith, omega arith), ((omega arith, omega arith), tt));
  joins = omega arith;
  filters = omega arith;
  shown = omega arith;
  joined = refl;
  linked = refl;
  selected = refl;
  projected = refl;
}

-- the day's line, and that its post is granted
day_line : line_of overtime taken.store (six_rows 1 1) ≡ line_of_day
unfolding call move ready
day_line = ap (λ (ds : List ℕ). 40 ∷ (108 ∷ (105 ∷ (110 ∷ (101 ∷ (32 ∷ (66 ∷ (55 ∷ (32 ∷ ((ds ++ []) ++ (41 ∷ (10 ∷ [])))))))))))) thirty

day_granted : post_refusal overtime taken.run taken.store (six_rows 1 1) hundred ≡ 0
unfolding call move ready
day_granted =
    ap
    (λ (l : List ℕ).
    first_no ((own taken.run taken.store, 20) ∷ ((names_out taken.run (six_rows 1 1), 28) ∷ ((leb hundred.place (length hundred.bytes), 29)
    ∷ ((leb (hundred.place + length l) (length hundred.bytes), 30) ∷ [])))))
    day_line

-- what a granted post leaves
abbrev posted_off : World → World
posted_off w = record { run = with_slip w.run false (older w.run.waiting); store = w.store }

granted_post : (q : Query) (w : World) (rows : List ℕ) (out : Output) → post_refusal q w.run w.store rows out ≡ 0
    → call q w (post rows out) ≡ record { answer = posted rows; world = posted_off w; output = post_output 0 (line_of q w.store rows) out }
unfolding call
granted_post q w rows out e = ap (λ (n : ℕ). reply n w (posted rows) (posted_off w) (post_output n (line_of q w.store rows) out)) e

day_posted : call overtime taken (post (six_rows 1 1) hundred)
    ≡ record { answer = posted (six_rows 1 1); world = posted_off taken; output = post_output 0 (line_of overtime taken.store (six_rows 1 1)) hundred }
day_posted = granted_post overtime taken (six_rows 1 1) hundred day_granted

day_written : written hundred (call overtime taken (post (six_rows 1 1) hundred)).output ≡ line_of_day
day_written = ap (λ (r : Reply). written hundred r.output) day_posted ∙ ap (λ (l : List ℕ). written hundred (post_output 0 l hundred)) day_line

pub worked_examples : WorkedExamples
unfolding call move ready least_from weights_below
worked_examples = record {
  overtime_lawful = overtime_lawful;
  pairs_lawful = pairs_lawful;
  rows_accepted = refl;
  steps_answer = refl;
  post_answers = ap (λ (r : Reply). r.answer) day_posted;
  then_answer = ap (λ (w : World). answers overtime w steps_behind) (ap (λ (r : Reply). r.world) day_posted);
  day_steered = refl;
  then_steered = ap (λ (w : World). steered_all fixed overtime (fixed_by (6 ∷ [])) w steps_behind) (ap (λ (r : Reply). r.world) day_posted);
  line_written = day_written;
  counts = ap (λ (w : World). (after overtime w steps_behind).run.counts) (ap (λ (r : Reply). r.world) day_posted);
  nine = refl;
  word = refl;
  draw = refl;
  lets_in = refl;
  keeps_out = refl;
  four_lines = refl;
}
