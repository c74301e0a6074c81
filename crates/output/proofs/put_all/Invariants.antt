use Rattle.std.proofs.Common.{◌≤◌, true, length, take}
use Rattle.output.specs.Puts.{Puts}
use Rattle.output.proofs.put_all.Given as goal

abbrev pub invariant-loop-b : goal.invariant-loop-b
invariant-loop-b l = (l.place ≤ length l.out) × Puts l.initial.out l.initial.place (take l.b-index l.bytes) l.out l.place true
