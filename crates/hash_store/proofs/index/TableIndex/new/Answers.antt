use Rattle.std.proofs.Common.{[], replicate, sym, subst}
use Rattle.hash_store.specs.Chains.{no_ends, rows_in, AllChained}
use Rattle.hash_store.specs.Chaining.{chained_empty}
use Rattle.hash_store.proofs.index.TableIndex.new.Goals as goal

pub invariant_of-result-clause-chained : goal.invariant_of-result-clause-chained
invariant_of-result-clause-chained c = ∣ subst (λ ps. AllChained (rows_in ps) ps (replicate 384 no_ends)) (sym c.clear.ensures.items) (chained_empty []) ∣₁
