-- The first module whose running sum passes the draw is found.
use Rattle.std.proofs.Common.{◌≡◌, ◌+◌, false, ltb, sym, arith, below_more}
use Rattle.std.proofs.lemmas.Bool.{lt-ltb, le-ltb}
use Rattle.policies.specs.Tickets.{weights_below}
use Rattle.policies.specs.Least.{least_is, least_none}
use Rattle.policies.specs.Weights.{weights_none, weights_more}
use Rattle.policies.proofs.lottery.Lottery.drawn.Goals as goal

pub loop-m-init : goal.loop-m-init
loop-m-init c =
    (sym (weights_none c.args.self.now.tickets c.args.members.now), omega arith, λ k h. absurd (let z : ⊥ = omega arith in z))

pub returns-then-draw-sum : goal.returns-then-draw-sum
returns-then-draw-sum c =
    let tickets = c.args.self.now.tickets in
    let members = c.args.members.now in
    let draw = c.args.draw in
    let m = c.loop-m.m in
    let more = weights_more tickets members m in
    sym (least_is (λ k. ltb draw (weights_below tickets members (k + 1))) m (omega arith) (lt-ltb draw (weights_below tickets members (m + 1)) (omega arith)) c.loop-m.invariant.2)

pub loop-m-preserved : goal.loop-m-preserved
loop-m-preserved c =
    let tickets = c.args.self.now.tickets in
    let members = c.args.members.now in
    let draw = c.args.draw in
    let m = c.loop-m.m in
    let more = weights_more tickets members m in (
      omega arith,
      omega arith,
      below_more (λ k. ltb draw (weights_below tickets members (k + 1)) ≡ false) m c.loop-m.invariant.2 (le-ltb draw (weights_below tickets members (m + 1)) (omega arith)),
    )

pub returns : goal.returns
returns c =
    sym (least_none (λ k. ltb c.args.draw (weights_below c.args.self.now.tickets c.args.members.now (k + 1))) (λ k h. c.loop-m.invariant.2 k (omega arith)))
