-- A choice by lottery: the empty set changes nothing, and any other set is drawn from by the law.
use Rattle.std.proofs.Common.{ℕ, ◌<◌, List, sym, arith}
use Rattle.std.proofs.lemmas.Bool.{both_ways}
use Rattle.policies.specs.declared.lottery.Lottery.{Lottery}
use Rattle.policies.specs.Modules.{has}
use Rattle.policies.specs.Tickets.{weights}
use Rattle.policies.specs.Weights.{lottery_draws, lottery_none, weightless_empty}
use Rattle.policies.proofs.lottery.LotteryPolicy.choose.Goals as goal

abbrev holding : ℕ → List ℕ → Lottery
holding word tickets = record { word = word; tickets = tickets }

pub returns-then-sum-eq0 : goal.returns-then-sum-eq0
returns-then-sum-eq0 c =
    let l = c.args.self.now in
    let members = c.args.members.now in
    let none = weightless_empty l.tickets members (omega arith) (omega arith) in
    let unchanged = lottery_none l members none in
    record { value = sym unchanged.0; after = sym unchanged.1; law = λ m h. absurd (both_ways (has members m) (none m) h) }

pub returns-clause-law : goal.returns-clause-law
returns-clause-law c =
    let l = c.args.self.now in
    let members = c.args.members.now in
    let some : 0 < weights l.tickets members = omega arith in
    let law = lottery_draws l members some in
    λ m h. grind (arith, law)
