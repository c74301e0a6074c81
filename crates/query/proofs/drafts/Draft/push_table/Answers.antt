use Rattle.std.proofs.Common.{◌≡◌, [], ◌∷◌, ◌++◌, map, length, sym, ap, ◌∙◌, subst, rules}
use Rattle.std.proofs.lemmas.List.{map_push}
use Rattle.basis.specs.Questions.{first_no}
use Rattle.cells.specs.Headings.{columns}
use Rattle.query.specs.Drafts.{query_held}
use Rattle.query.specs.Queries.{Query, query_from}
use Rattle.query.specs.Questions.{table_questions, with_table}
use Rattle.query.specs.Lawful.{Lawful}
use Rattle.query.proofs.Grown.{lawful_table, column_count}
use Rattle.query.proofs.drafts.Draft.push_table.Goals as goal

pub invariant_of-self : goal.invariant_of-self
invariant_of-self c =
    let d = c.self.inside in
    let ks = columns c.args.heading in
    let q = query_held d in
    let asked = subst (λ (x : Query). 0 ≡ first_no (table_questions x ks c.args.to c.args.own)) (sym c.self.view_is) c.requires in
    let n : c.tables.result ≡ length q.headings = c.tables.ensures.value ∙ ap (λ (x : Query). length x.headings) (sym c.self.view_is) in
    let heads : map columns c.push_reserved-2.new.self.items ≡ q.headings ++ ks ∷ [] =
    ap (map columns) c.push_reserved-2.ensures.items ∙ map_push columns d.headings.items c.args.heading in
    let joins : c.push_reserved.new.self.items ≡ q.joins ++ record { left = c.args.to; right = record { table = length q.headings; column = c.args.own } } ∷ [] =
    c.push_reserved.ensures.items ∙ ap (λ t. q.joins ++ record { left = c.args.to; right = record { table = t; column = c.args.own } } ∷ []) n in
    let same : query_from c.push_reserved-2.new.self.items c.push_reserved.new.self.items d.filters.items d.shown.items ≡ with_table q ks c.args.to c.args.own =
    λ i. record { headings = heads i; joins = joins i; filters = q.filters; shown = q.shown } in
    record {
      tables = search rules;
      joins = search rules;
      filters = search rules;
      shown = search rules;
      lawful = subst Lawful (sym same) (lawful_table q ks c.args.to c.args.own (column_count c.args.heading) c.self.invariant.lawful asked);
    }
