use Rattle.cells.specs.Rows.{cells_of}
use Rattle.sorted_store.proofs.Adding.{Added}
use Rattle.sorted_store.proofs.columns.Columns.add.Given as goal

abbrev pub invariant-loop-c : goal.invariant-loop-c
invariant-loop-c l = Added (cells_of l.fn.row) l.number l.initial.self l.c l.self
