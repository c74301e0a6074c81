-- The shares of the fourteen modules are the summed weights.
use Rattle.std.proofs.Common.{◌≡◌, List, ℕ, Bool, ◌∙◌, refl, arith, rules, tests}
use Rattle.std.specs.List.{sum_by, range_with_len}
use Rattle.std.proofs.lemmas.Iterator.{YieldsList-from_range, YieldsList-from_map}
use Rattle.std.proofs.lemmas.Iterator.Adapters.{fits_from_length, at_most_from_yields_List}
use Rattle.std.proofs.lemmas.Iterator.Consumers.{YieldsList-at, sum_by_from_yields_List}
use Rattle.policies.specs.Tickets.{share, weights, weights_below}
use Rattle.policies.proofs.lottery.Lottery.weights.Goals as goal

shares_weigh : (tickets : List ℕ) (members : List Bool) → sum_by (share tickets members) (range_with_len 0 14) ≡ weights tickets members
unfolding weights_below
shares_weigh tickets members = refl

pub sum-requires-clause-fits : goal.sum-requires-clause-fits
sum-requires-clause-fits c =
    fits_from_length _ _ 14 _ (at_most_from_yields_List (YieldsList-from_range 0 14 14 (cc) (omega arith)) (omega arith)) c.map.ensures.closure (omega arith) (λ x r q k. search (rules, tests))

pub returns : goal.returns
returns c =
    let f = share c.args.self.now.tickets c.args.members.now in
    sum_by_from_yields_List f (range_with_len 0 14) c.map.result c.sum.result c.sum.ensures.ran
    (YieldsList-from_map _ f (YieldsList-at c.map.ensures.source (YieldsList-from_range 0 14 14 (cc) (omega arith))) c.map.ensures.closure (λ x r q k. search (rules, tests)))
    ∙ shares_weigh c.args.self.now.tickets c.args.members.now
