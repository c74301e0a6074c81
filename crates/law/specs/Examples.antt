-- Worked examples, computed from the definitions.
use Rattle.std.specs.Prelude.{◌≡◌, ℕ, zero, suc, Bool, true, false, List, [], ◌∷◌, map, replicate, pos}
use Rattle.cells.specs.declared.types.Cell.{Cell}
use Rattle.cells.specs.declared.types.Cell.TheVariants.{Number, Code}
use Rattle.cells.specs.declared.types.Kind.TheVariants as kind
use Rattle.expressions.specs.declared.types.Item.{Item}
use Rattle.expressions.specs.declared.types.Item.TheVariants as item
use Rattle.policies.specs.Order.{fixed_choice, fixed_by}
use Rattle.policies.specs.Tickets.{lottery_of, lottery_choice}
use Rattle.policies.specs.Xorshift.{xorshift}
use Rattle.policies.specs.declared.fixed.Fixed.{Fixed}
use Rattle.query.specs.Lawful.{Lawful}
use Rattle.query.specs.Queries.{Query, value, code}
use Rattle.query.specs.declared.types.Test.TheVariants.{Less}
use Rattle.rules.specs.Counts.{no_counts}
use Rattle.rules.specs.Moves.{choices}
use Rattle.rules.specs.Calls.{RunState, World, Output, feed_refusal, newest_rows, singleton, Call, feed, step, take, post, Answer, accepted, stepped, slip, posted, call}
use Rattle.rules.specs.Steering.{Policy}
use Rattle.law.specs.Histories.{after, empty_store, opening, Journal, written, journal_after, beginning}
use Rattle.law.specs.Law.{bound}
use Rattle.law.specs.Steering.{steered_all}

-- The overtime query: punches of more than 480 minutes, with their crews. Table 0 is the punches (a crew's code, the minute it came,
-- the minute it left), table 1 the crews (a code and a size).
abbrev came : Item
came = item.Column (record { table = 0; column = 2 })

abbrev left : Item
left = item.Column (record { table = 0; column = 3 })

abbrev pub overtime : Query
overtime = record {
  headings = (kind.Code ∷ (kind.Number ∷ (kind.Number ∷ []))) ∷ ((kind.Code ∷ (kind.Number ∷ [])) ∷ []);
  joins = record { left = record { table = 0; column = 1 }; right = record { table = 1; column = 1 } } ∷ [];
  filters = record { test = Less; left = item.Number (pos 480) ∷ []; right = item.Sub ∷ (left ∷ (came ∷ [])) } ∷ [];
  shown = code (record { table = 1; column = 1 }) ∷ (value (item.Sub ∷ (item.Sub ∷ (left ∷ (came ∷ (item.Number (pos 480) ∷ []))))) ∷ []);
}

-- two tables of one number column each, joined by it; nothing is shown
abbrev pub pairs : Query
pairs = record {
  headings = (kind.Number ∷ []) ∷ ((kind.Number ∷ []) ∷ []);
  joins = record { left = record { table = 0; column = 1 }; right = record { table = 1; column = 1 } } ∷ [];
  filters = [];
  shown = [];
}

abbrev coded : ℕ → ℕ → Cell
coded a b = Code (record { bytes = a ∷ (b ∷ replicate 10 0); len = 2 })

abbrev B7 : Cell
B7 = coded 66 55

abbrev B9 : Cell
B9 = coded 66 57

abbrev number : ℕ → Cell
number n = Number (pos n)

-- capacities of 64, and an output of a hundred bytes
abbrev pub sixty_four : ℕ → ℕ
sixty_four t = 64

abbrev pub hundred : Output
hundred = record { bytes = replicate 100 0; place = 0 }

-- `(line B7 30)` and LF
abbrev pub line_of_day : List ℕ
line_of_day = 40 ∷ (108 ∷ (105 ∷ (110 ∷ (101 ∷ (32 ∷ (66 ∷ (55 ∷ (32 ∷ (51 ∷ (48 ∷ (41 ∷ (10 ∷ []))))))))))))

abbrev pub six_rows : ℕ → ℕ → List ℕ
six_rows a b = a ∷ (b ∷ replicate 4 0)

-- A day: a crew, two punches, and steps until nothing waits; the line is posted as it is ready.
abbrev pub rows_of_day : List Call
rows_of_day =
    feed 1 (B7 ∷ (number 12 ∷ []))
    ∷ (feed 0 (B7 ∷ (number 420 ∷ (number 930 ∷ []))) ∷ (feed 0 (B9 ∷ (number 420 ∷ (number 840 ∷ []))) ∷ []))

abbrev pub steps_to_line : List Call
steps_to_line = step 6 ∷ (step 6 ∷ (step 1 ∷ (step 14 ∷ (step 14 ∷ (take ∷ [])))))

abbrev pub steps_behind : List Call
steps_behind = step 14 ∷ (step 0 ∷ (step 14 ∷ (step 14 ∷ [])))

-- what a list of calls answers
abbrev pub answers : Query → World → List Call → List Answer
answers q w [] = []
answers q w (c ∷ cs) = (call q w c).answer ∷ answers q (call q w c).world cs

-- where the day stands with its rows fed; with the slip out; and with the line posted
abbrev pub fed : World
fed = after overtime (opening sixty_four) rows_of_day

abbrev pub taken : World
taken = after overtime fed steps_to_line

abbrev pub settled : World
settled = (call overtime taken (post (six_rows 1 1) hundred)).world

-- the fixed policy, by its meaning
abbrev pub fixed : Policy Fixed
fixed = record { choice = fixed_choice; chosen = λ s members. s; heard = λ s news m. s }

-- members 0 and 6
abbrev nought_and_six : List Bool
nought_and_six = true ∷ (false ∷ (false ∷ (false ∷ (false ∷ (false ∷ (true ∷ replicate 7 false))))))

-- n steps under the fixed policy with no list; each ready line is taken and posted
abbrev pub paid_in : ℕ → Journal → Journal
paid_in zero j = j
paid_in (suc n) j =
    let xs = j.world.run.waiting in
    paid_in n (journal_after pairs j (step (fixed_choice (fixed_by []) (choices pairs xs)) ∷ (take ∷ (post (newest_rows xs) hundred ∷ []))))

-- a run in which n tuples wait
abbrev pub crowd : ℕ → RunState
crowd n = record { waiting = replicate n (singleton 0 1 1); out = false; accepted = replicate 6 0; next = 1; counts = no_counts }

pub record WorkedExamples : Type 0 where
  -- the queries are lawful
  pub overtime_lawful : Lawful overtime
  pub pairs_lawful : Lawful pairs
  -- in the day above the steps answer 2, 1, 1, 3, 6, then 5, 1, 5, 0
  pub rows_accepted : answers overtime (opening sixty_four) rows_of_day ≡ accepted ∷ (accepted ∷ (accepted ∷ []))
  pub steps_answer : answers overtime fed steps_to_line
      ≡ stepped 2 ∷ (stepped 1 ∷ (stepped 1 ∷ (stepped 3 ∷ (stepped 6 ∷ (slip (six_rows 1 1) ∷ [])))))
  pub post_answers : (call overtime taken (post (six_rows 1 1) hundred)).answer ≡ posted (six_rows 1 1)
  pub then_answer : answers overtime settled steps_behind ≡ stepped 5 ∷ (stepped 1 ∷ (stepped 5 ∷ (stepped 0 ∷ [])))
  -- the choices are those of the fixed policy that prefers module 6
  pub day_steered : steered_all fixed overtime (fixed_by (6 ∷ [])) fed steps_to_line ≡ steps_to_line
  pub then_steered : steered_all fixed overtime (fixed_by (6 ∷ [])) settled steps_behind ≡ steps_behind
  -- the post writes `(line B7 30)` and LF
  pub line_written : written hundred (call overtime taken (post (six_rows 1 1) hundred)).output ≡ line_of_day
  -- the day counts: module 0 routed to once, module 1 routed to once and returned once, module 6 routed to twice and returned once; 1
  -- question of table 0, 2 of table 1
  pub counts : (after overtime settled steps_behind).run.counts
      ≡ record {
        routed = 1 ∷ (1 ∷ (0 ∷ (0 ∷ (0 ∷ (0 ∷ (2 ∷ replicate 7 0))))));
        returned = 0 ∷ (1 ∷ (0 ∷ (0 ∷ (0 ∷ (0 ∷ (1 ∷ replicate 7 0))))));
        asks = 1 ∷ (2 ∷ replicate 4 0);
      }
  -- two tables, one filter and two rows give the bound 9
  pub nine : bound overtime fed.store ≡ 9
  -- the word 1 steps to 270,369; with members 0 and 6 and no tickets the draw is 6
  pub word : xorshift 1 ≡ 270369
  pub draw : lottery_choice (lottery_of 1) nought_and_six ≡ 6
  -- with two tables, 62 waiting lets a row in, and 63 gives 25
  pub lets_in : feed_refusal pairs (crowd 62) (empty_store sixty_four) 0 (number 5 ∷ []) ≡ 0
  pub keeps_out : feed_refusal pairs (crowd 63) (empty_store sixty_four) 0 (number 5 ∷ []) ≡ 25
  -- two equal rows in each of two joined tables give four lines
  pub four_lines : map (λ p. p.rows)
      (paid_in 20 (journal_after pairs (beginning (opening sixty_four))
      (feed 0 (number 5 ∷ []) ∷ (feed 1 (number 5 ∷ []) ∷ (feed 0 (number 5 ∷ []) ∷ (feed 1 (number 5 ∷ []) ∷ [])))))).postings
      ≡ six_rows 1 2 ∷ (six_rows 2 2 ∷ (six_rows 2 1 ∷ (six_rows 1 1 ∷ [])))
