use Rattle.std.proofs.Common.{◌-◌}
use Rattle.sorted_index.specs.Entries.{at_or_before}
use Rattle.sorted_index.proofs.Searching.{Narrowed}
use Rattle.sorted_index.proofs.seek.Given as goal

abbrev pub invariant-loop-low : goal.invariant-loop-low
invariant-loop-low g l = Narrowed (at_or_before g.K.Key.less g.K.Key.equals) l.bound l.entries l.low l.high l.visited

abbrev pub decreases-loop-low : goal.decreases-loop-low
decreases-loop-low g l = l.high - l.low
