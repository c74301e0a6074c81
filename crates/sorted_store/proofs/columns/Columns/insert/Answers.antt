use Rattle.std.proofs.Common.{rules, ◌≡◌, ◌<◌, length, ◌∙◌, arith}
use Rattle.sorted_store.proofs.Inserting.{few_more, listed_other, sorted_more}
use Rattle.sorted_store.proofs.columns.Columns.insert.Goals as goal

pub invariant_of-self : goal.invariant_of-self
invariant_of-self c =
    let x = c.args.self.now in
    let six : length x.filled ≡ 6 = search rules in
    let inside : c.args.c < length x.filled = omega (arith, c.requires.within.0) in
    let long = c.insert_at.auto.entries ∙ c.deref_mut.ensures.len in
    let e = c.insert_at.ensures in
    record {
      within = search rules;
      few = few_more x c.deref_mut.result.now c.insert_at.new.entries c.args.c c.args.entry inside c.requires.within.1 c.deref_mut.ensures.value long e.here e.below e.above;
      sorted = sorted_more x c.deref_mut.result.now c.insert_at.new.entries c.args.c c.args.entry inside c.requires.within.1 c.deref_mut.ensures.value long e.here e.below e.above;
    }

pub returns-clause-others : goal.returns-clause-others
returns-clause-others c =
    let x = c.args.self.now in
    let six : length x.filled ≡ 6 = search rules in
    let inside : c.args.c < length x.filled = omega (arith, c.requires.within.0) in
    let e = c.insert_at.ensures in
    listed_other x c.deref_mut.result.now c.insert_at.new.entries c.args.c c.args.entry inside c.requires.within.1 c.deref_mut.ensures.value (c.insert_at.auto.entries ∙ c.deref_mut.ensures.len) e.here e.below e.above
