use Rattle.std.proofs.Common.{◌≡◌, List, map, sym, subst, rules}
use Rattle.std.specs.List.{AllByRecursion}
use Rattle.stores.specs.Tables.{Table, built}
use Rattle.caching.specs.Memory.{Right, kept}
use Rattle.caching.proofs.Kept.{build_right}
use Rattle.caching.proofs.cache.calls.CachedStore.build.Goals as goal

pub invariant_of-self-2-clause-right : goal.invariant_of-self-2-clause-right
invariant_of-self-2-clause-right g c =
    let s = c.args.self.now in
    let memory = c.forget.new.memory in
    let new = built (g.S.Store.tables s.inner) c.args.table c.args.row c.args.stamp in
    let forgot : memory ≡ map (kept c.args.table) s.memory = search rules in
    subst (λ (ts : List Table). AllByRecursion (Right ts) memory) (sym c.build.ensures.after)
    (subst (AllByRecursion (Right new)) (sym forgot) (build_right _ c.args.table c.args.row c.args.stamp s.memory s.right))
