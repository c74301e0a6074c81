-- The sum so far is of the weights below, fits its type, and no running sum so far passed the draw.
use Rattle.std.proofs.Common.{◌≡◌, ℕ, ◌+◌, ◌*◌, ◌<◌, ◌≤◌, false, ltb}
use Rattle.policies.specs.Tickets.{weights_below}
use Rattle.policies.proofs.lottery.Lottery.drawn.Given as goal

abbrev pub invariant-loop-m : goal.invariant-loop-m
invariant-loop-m l =
    (l.sum ≡ weights_below l.self.tickets l.members l.m)
    × (l.sum ≤ 65536 * l.m)
    × ((k : ℕ) → k < l.m → ltb l.draw (weights_below l.self.tickets l.members (k + 1)) ≡ false)
