use Rattle.std.proofs.Common.{suc, ◌-◌, cond, ◌==◌, vec_len}
use Rattle.hash_store.proofs.Walking.{Walked}
use Rattle.hash_store.proofs.index.TableIndex.walk.Given as goal

abbrev pub invariant-loop-p : goal.invariant-loop-p
invariant-loop-p g l = Walked l.self l.chain.column (g.K.Key.cell l.key) l.after l.at l.visited

-- a row that comes later, and 0 last of all
abbrev pub decreases-loop-p : goal.decreases-loop-p
decreases-loop-p g l = cond (l.at == 0) 0 (suc (vec_len l.self.places - l.at))
