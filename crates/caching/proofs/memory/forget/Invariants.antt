use Rattle.std.proofs.Common.{◌≡◌, ◌++◌, map, take, drop}
use Rattle.caching.specs.Memory.{kept}
use Rattle.caching.proofs.memory.forget.Given as goal

abbrev pub invariant-loop-place : goal.invariant-loop-place
invariant-loop-place l = l.memory ≡ map (kept l.table) (take l.place-index l.initial.memory) ++ drop l.place-index l.initial.memory
