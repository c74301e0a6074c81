use Rattle.std.proofs.Common.{◌≡◌, sym, subst, rules}
use Rattle.basis.specs.Questions.{first_no}
use Rattle.query.specs.Drafts.{query_held}
use Rattle.query.specs.Questions.{join_questions}
use Rattle.query.proofs.Grown.{lawful_join}
use Rattle.query.proofs.drafts.Draft.push_join.Goals as goal

pub invariant_of-self : goal.invariant_of-self
invariant_of-self c =
    let d = c.self.inside in
    let q = query_held d in
    let asked = subst (λ q. 0 ≡ first_no (join_questions q c.args.join)) (sym c.self.view_is) c.requires in
    record {
      tables = search rules;
      joins = search rules;
      filters = search rules;
      shown = search rules;
      lawful = rw c.push_reserved.ensures.items (lawful_join q c.args.join c.self.invariant.lawful asked);
    }
