use Rattle.std.proofs.Common.{◌∙◌, rules}
use Rattle.std.proofs.lemmas.List.{length-set}
use Rattle.caching.specs.declared.types.Asked.{Asked}
use Rattle.caching.proofs.Kept.{recalled_right, set_right}
use Rattle.caching.proofs.cache.calls.CachedStore.next.Goals as goal

pub returns-in-Some-clause-value : goal.returns-in-Some-clause-value
returns-in-Some-clause-value g c =
    let s = c.args.self.now in
    let q : Asked = record { table = c.args.table; question = c.args.question } in
    recalled_right (g.S.Store.tables s.inner) s.memory q c.in-Some.answer s.right (search rules)

pub invariant_of-self-clause-right : goal.invariant_of-self-clause-right
invariant_of-self-clause-right g c =
    let s = c.args.self.now in
    set_right (g.S.Store.tables s.inner) _ s.memory s.turn _ c.next-answer.ensures.same (search rules) s.right

pub invariant_of-self-clause-places : goal.invariant_of-self-clause-places
invariant_of-self-clause-places g c =
    let s = c.args.self.now in
    length-set s.memory s.turn _ ∙ s.places
