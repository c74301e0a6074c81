-- The lottery: tickets, weights, the draw, and the law of a draw.
use Rattle.std.specs.Prelude.{◌≡◌, ℕ, zero, suc, ◌+◌, ◌-◌, ◌%◌, ◌<◌, ◌≤◌, min, Bool, true, cond, ltb, List, replicate, ◌==◌, nat_lt, slice_index, slice_set}
use Rattle.policies.specs.declared.News.{News}
use Rattle.policies.specs.declared.News.TheVariants.{Routed, Returned}
use Rattle.policies.specs.declared.lottery.Lottery.{Lottery}
use Rattle.policies.specs.Modules.{has, least}
use Rattle.policies.specs.Xorshift.{xorshift}

-- the lottery of a seed, where 0 serves as 1
abbrev pub lottery_of : ℕ → Lottery
lottery_of seed = record { word = cond (seed == 0) 1 seed; tickets = replicate 14 0 }

-- a member's weight
abbrev pub weight : List ℕ → ℕ → ℕ
weight tickets m = slice_index tickets m + 1

-- what a module adds to the summed weights: its weight if it is a member, else nothing
abbrev pub share : List ℕ → List Bool → ℕ → ℕ
share tickets members m = cond (has members m) (weight tickets m) 0

-- the summed weights of the members below n
unfoldable pub weights_below : List ℕ → List Bool → ℕ → ℕ
weights_below tickets members zero = 0
weights_below tickets members (suc n) = weights_below tickets members n + share tickets members n

abbrev pub weights : List ℕ → List Bool → ℕ
weights tickets members = weights_below tickets members 14

-- the first member where the draw falls below the running sum of weights
abbrev pub drawn : List ℕ → List Bool → ℕ → ℕ
drawn tickets members draw = least (λ m. ltb draw (weights_below tickets members (m + 1)))

-- what a choice draws: the stepped word modulo the summed weights
abbrev pub draw_of : Lottery → List Bool → ℕ
draw_of l members = xorshift l.word % weights l.tickets members

abbrev pub lottery_choice : Lottery → List Bool → ℕ
lottery_choice l members = drawn l.tickets members (draw_of l members)

-- a choice steps the word, unless there is nothing to choose from
abbrev pub lottery_chosen : Lottery → List Bool → Lottery
lottery_chosen l members =
    cond (weights l.tickets members == 0) l (record { word = xorshift l.word; tickets = l.tickets })

-- a module's tickets after news of it
abbrev pub counted : News → ℕ → ℕ
counted Routed n = min (n + 1) 65535
counted Returned n = n - 1

abbrev pub lottery_heard : Lottery → News → ℕ → Lottery
lottery_heard l news m =
    cond (nat_lt m 14) (record { word = l.word; tickets = slice_set l.tickets m (counted news (slice_index l.tickets m)) }) l

-- The law of a draw, for a lottery l that answers r and is next after it: the word has stepped, the tickets are as before, and r is
-- the member whose interval holds the draw: the weights below it are at most the draw, and with its own weight they pass it.
pub record Draws (l next : Lottery) (members : List Bool) (r : ℕ) : Type 0 where
  pub stepped : next.word ≡ xorshift l.word
  pub same_tickets : next.tickets ≡ l.tickets
  pub member : has members r ≡ true
  pub starts : weights_below l.tickets members r ≤ draw_of l members
  pub ends : draw_of l members < weights_below l.tickets members r + weight l.tickets r
