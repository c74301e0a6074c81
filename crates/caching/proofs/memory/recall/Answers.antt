use Rattle.std.proofs.Common.{◌≡◌, sym, ◌∙◌, ap, rules, tests, Some, None}
use Rattle.std.specs.List.{find}
use Rattle.std.specs.Option.{option_map, option_and_then}
use Rattle.std.proofs.lemmas.Iterator.{YieldsList-from_slice}
use Rattle.std.proofs.lemmas.Iterator.Search.{find_from_yields_List}
use Rattle.caching.specs.declared.types.Remembered.{Remembered}
use Rattle.caching.proofs.Kept.{remembers, recalled_found}
use Rattle.caching.proofs.memory.recall.Goals as goal

pub returns-in_err-place : goal.returns-in_err-place
returns-in_err-place c =
    let q = c.args.asked.now in
    let places = c.args.memory.now in
    let found = find_from_yields_List (remembers q) _ _ c.find.result c.find.ensures.ran (YieldsList-from_slice places cc) (λ x b q k. search (rules, tests)) in
    let is = recalled_found places q in
    let here : find (remembers q) places ≡ None = sym found ∙ ap (option_map _) c.in_err-place.was in
    record { value = search rules ∙ sym (is ∙ ap (option_and_then (option_map (λ (e : Remembered). e.answer))) here) }

pub returns : goal.returns
returns c =
    let q = c.args.asked.now in
    let places = c.args.memory.now in
    let found = find_from_yields_List (remembers q) _ _ c.find.result c.find.ensures.ran (YieldsList-from_slice places cc) (λ x b q k. search (rules, tests)) in
    let is = recalled_found places q in
    let here : find (remembers q) places ≡ Some c.in_ok-place.place.now = sym found ∙ ap (option_map _) c.in_ok-place.was in
    let answers : c.map.result ≡ option_map (λ (e : Remembered). e.answer) c.in_ok-place.place.now = search rules in
    record { value = answers ∙ sym (is ∙ ap (option_and_then (option_map (λ (e : Remembered). e.answer))) here) }
