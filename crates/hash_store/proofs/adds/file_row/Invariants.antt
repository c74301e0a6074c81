use Rattle.cells.specs.Rows.{cells_of}
use Rattle.hash_store.proofs.Adding.{PartFiled}
use Rattle.hash_store.proofs.adds.file_row.Given as goal

abbrev pub invariant-loop-c : goal.invariant-loop-c
invariant-loop-c l = PartFiled l.initial.places (cells_of l.fn.row) l.places l.ends l.c
