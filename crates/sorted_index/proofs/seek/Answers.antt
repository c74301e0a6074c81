use Rattle.std.proofs.Common.{sym}
use Rattle.sorted_index.specs.Entries.{at_or_before}
use Rattle.sorted_index.proofs.EntryOrder.{entries_along}
use Rattle.sorted_index.proofs.Searching.{narrowed_up, narrowed_down, narrowed_end}
use Rattle.sorted_index.proofs.seek.Goals as goal

pub loop-low-preserved-then-at_or_before : goal.loop-low-preserved-then-at_or_before
loop-low-preserved-then-at_or_before g c =
    narrowed_up (at_or_before g.K.Key.less g.K.Key.equals) c.args.bound.now c.args.entries.now
    (entries_along g.K.Key.less g.K.Key.equals g.met.K.Key.ordered g.met.K.Key.decides)
    c.loop-low.low c.loop-low.high c.loop-low.visited c.index-entries-mid.result c.loop-low-test.true c.index-entries-mid.is c.loop-low.invariant (sym c.if-at_or_before.ensures.value)

pub loop-low-preserved : goal.loop-low-preserved
loop-low-preserved g c =
    narrowed_down (at_or_before g.K.Key.less g.K.Key.equals) c.args.bound.now c.args.entries.now
    (entries_along g.K.Key.less g.K.Key.equals g.met.K.Key.ordered g.met.K.Key.decides)
    c.loop-low.low c.loop-low.high c.loop-low.visited c.index-entries-mid.result c.loop-low-test.true c.index-entries-mid.is c.loop-low.invariant (sym c.if-at_or_before.ensures.value)

pub returns-clause-value : goal.returns-clause-value
returns-clause-value g c =
    narrowed_end (at_or_before g.K.Key.less g.K.Key.equals) c.args.bound.now c.args.entries.now c.loop-low.low c.loop-low.high c.loop-low.visited c.loop-low-test.false c.loop-low.invariant
