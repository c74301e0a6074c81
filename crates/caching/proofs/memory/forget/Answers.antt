use Rattle.std.proofs.Common.{◌≡◌, ◌<◌, length, get_or, set, None, ap, ◌∙◌, rules, tests}
use Rattle.std.proofs.lemmas.List.{get_or_default}
use Rattle.std.proofs.lemmas.List.Edits.{map_over_more}
use Rattle.caching.specs.Memory.{kept}
use Rattle.caching.proofs.memory.forget.Goals as goal
use Rattle.caching.proofs.memory.forget.Goals.{then-is_some_and, else-is_some_and}

pub loop-place-preserved : goal.loop-place-preserved
loop-place-preserved c =
    let f = kept c.args.table in
    let xs = c.args.memory.now in
    let ys = c.loop-place.memory in
    let i = c.loop-place.place-index in
    let x = get_or ys i None in
    let inside : i < length xs = search rules in
    let here : i < length ys = search rules in
    let over = map_over_more f xs ys i x inside c.loop-place.invariant (get_or_default ys i None x here) in
    elim c.if-is_some_and.branch [
      | then-is_some_and w ↦ w.memory-is ∙ ap (set ys i) (let gone : None ≡ f x = search (rules, tests) in gone) ∙ over
      | else-is_some_and w ↦ w.memory-is ∙ ap (set ys i) (let stays : x ≡ f x = search (rules, tests) in stays) ∙ over
    ]
