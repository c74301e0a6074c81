use Rattle.std.proofs.Common.{◌<◌, length, ap, ◌∙◌, refl, arith}
use Rattle.std.specs.List.{prefix_len}
use Rattle.sorted_index.specs.Entries.{at_or_before}
use Rattle.sorted_index.specs.Sorting.{sorted}
use Rattle.sorted_index.proofs.Shifting.{shifted_in, front_is}
use Rattle.sorted_index.proofs.Sorting.{inserted_there}
use Rattle.sorted_index.proofs.insert.Goals as goal

pub returns : goal.returns
returns g c = record {
  after = λ some s.
      let before = at_or_before g.K.Key.less g.K.Key.equals in
      let xs = c.args.entries.now in
      let at = c.seek-at.result.found in
      let split = c.in-Some.ensures.cases in
      let front = front_is xs c.in-Some.others.now _ split.0 split.1 in
      let within : at < length xs = omega (arith, c.seek-at.ensures.within, split.1) in
      shifted_in xs c.rotate_right.new.self at _ c.args.entry within refl c.rotate_right.ensures.after
      ∙ inserted_there before c.args.entry xs at within
      (c.seek-at.ensures.value (ap (sorted before) front ∙ s) ∙ ap (prefix_len (λ y. before y c.args.entry)) front);
}
