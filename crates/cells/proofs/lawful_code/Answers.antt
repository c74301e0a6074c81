use Rattle.std.proofs.Common.{rules, tests, ◌≡◌, ◌==◌, take, drop, arith}
use Rattle.std.proofs.lemmas.Bool.Decides.{nat_tests}
use Rattle.std.proofs.lemmas.Iterator.{YieldsList-from_slice}
use Rattle.std.proofs.lemmas.Iterator.Search.{all_from_yields_List}
use Rattle.std.specs.List.{list_all}
use Rattle.cells.specs.Cells.{code_byte}
use Rattle.cells.proofs.lawful_code.Goals as goal

pub returns-then-all : goal.returns-then-all
returns-then-all c =
    let x = c.args.c.now in
    let rest : c.all-then-all.result ≡ list_all (λ b. b == 0) (drop x.len x.bytes) =
    all_from_yields_List _ _ _ _ c.all-then-all.ensures.ran (YieldsList-from_slice (drop x.len x.bytes) cc) (λ x b q k. search (rules, tests)) in
    let text : c.all.result ≡ list_all code_byte (take x.len x.bytes) =
    all_from_yields_List _ _ _ _ c.all.ensures.ran (YieldsList-from_slice (take x.len x.bytes) cc) (λ x b q k. search (rules, tests)) in
    record { value = grind (arith, nat_tests) }
