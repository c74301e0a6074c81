use Rattle.std.proofs.Common.{◌≡◌, ◌+◌, [], ◌∷◌, ◌++◌, get_or, take, drop, sym, ap, ◌∙◌, take-append-drop, rules}
use Rattle.std.proofs.lemmas.List.{take_more, take_all}
use Rattle.std.proofs.lemmas.Result.{err_from_is_err_and}
use Rattle.output.proofs.Laid.{puts_then, puts_stop}
use Rattle.output.proofs.put_all.Goals as goal

pub returns-in_err-put : goal.returns-in_err-put
returns-in_err-put c =
    let p = err_from_is_err_and c.from_residual.result c.from_residual.ensures.1 in
    let i = c.loop-b.b-index in
    let bytes = c.args.bytes.now in
    let more = take_more bytes i 0 c.loop-b-test.true in
    let one = puts_then (take i bytes) (get_or bytes i 0 ∷ []) c.requires c.loop-b.invariant.1 c.in_err-put.ensures in
    let all = puts_stop (take i bytes ++ (get_or bytes i 0 ∷ [])) (drop (i + 1) bytes) one in
    let joins : (take i bytes ++ (get_or bytes i 0 ∷ [])) ++ drop (i + 1) bytes ≡ bytes = ap (λ x. x ++ drop (i + 1) bytes) (sym more) ∙ take-append-drop (i + 1) bytes in
    rw p.1 (rw joins at all)

pub loop-b-preserved : goal.loop-b-preserved
loop-b-preserved c =
    let w = c.in_ok-put.ensures in
    let i = c.loop-b.b-index in
    let bytes = c.args.bytes.now in
    let one = puts_then (take i bytes) (get_or bytes i 0 ∷ []) c.requires c.loop-b.invariant.1 w in
    (search rules, rw (take_more bytes i 0 c.loop-b-test.true) one)

pub returns : goal.returns
returns c = let e = take_all c.loop-b.b-index c.args.bytes.now c.loop-b-test.false in rw e at c.loop-b.invariant.1
