use Rattle.std.proofs.Common.{◌≡◌, ◌≤◌, List, length, [], ◌∷◌, ◌++◌, replicate, refl, sym, ap, ◌∙◌, subst, length-take, arith, rules}
use Rattle.std.proofs.lemmas.List.{with_items_is}
use Rattle.stores.specs.Tables.{built_row}
use Rattle.hash_store.specs.declared.place.Place.{Place}
use Rattle.hash_store.specs.Chains.{rows_in, AllChained, AllNarrow}
use Rattle.hash_store.specs.Indexes.{table_of}
use Rattle.hash_store.specs.Indexed.{chains}
use Rattle.hash_store.specs.Answering.{narrow_push}
use Rattle.hash_store.proofs.Adding.{all_more}
use Rattle.hash_store.proofs.index.calls.TableIndexIndex.build.Goals as goal

pub file_row-requires-clause-chained : goal.file_row-requires-clause-chained
file_row-requires-clause-chained c =
    let x = c.args.self.now in
    subst (λ (ps : List Place). AllChained (rows_in ps) ps x.ends) (sym c.deref_mut.ensures.value) (chains x)

pub invariant_of-self-2-clause-chained : goal.invariant_of-self-2-clause-chained
invariant_of-self-2-clause-chained c =
    let x = c.args.self.now in
    let fs = c.file_row.new.places in
    let p : Place = record { row = c.args.row; stamp = c.args.stamp; links = replicate 6 0 } in
    let items = c.push_reserved.ensures.items ∙ ap (λ (l : List Place). l ++ p ∷ []) (with_items_is x.places fs (c.file_row.auto.places ∙ c.deref_mut.ensures.len)) in
    ∣ (all_more c.deref_mut.result.now fs c.push_reserved.new.self.items c.file_row.new.ends p c.file_row.ensures.rows items refl (c.file_row.ensures.filed (built_row c.args.row c.args.stamp) refl)).1 ∣₁

pub invariant_of-self-2-clause-narrow : goal.invariant_of-self-2-clause-narrow
invariant_of-self-2-clause-narrow c =
    let x = c.args.self.now in
    let fs = c.file_row.new.places in
    let p : Place = record { row = c.args.row; stamp = c.args.stamp; links = replicate 6 0 } in
    let six : length c.args.row.cells ≡ 6 = search rules in
    let few : length (built_row c.args.row c.args.stamp).cells ≤ 6 = omega (arith, length-take c.args.row.len c.args.row.cells) in
    let items = c.push_reserved.ensures.items ∙ ap (λ (l : List Place). l ++ p ∷ []) (with_items_is x.places fs (c.file_row.auto.places ∙ c.deref_mut.ensures.len)) in
    let rows = (all_more c.deref_mut.result.now fs c.push_reserved.new.self.items c.file_row.new.ends p c.file_row.ensures.rows items refl (c.file_row.ensures.filed (built_row c.args.row c.args.stamp) refl)).0 in
    subst AllNarrow (sym (rows ∙ ap (λ (ps : List Place). rows_in ps ++ built_row c.args.row c.args.stamp ∷ []) c.deref_mut.ensures.value))
    (narrow_push (table_of x).rows (built_row c.args.row c.args.stamp) x.narrow few)
