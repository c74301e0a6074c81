use Rattle.std.proofs.Common.{◌≡◌, ℕ, ◌+◌, [], ◌∷◌, ◌++◌, ◌≤◌, add-one, length, take, List, refl, sym, subst, slice_get, ap, ◌∙◌, arith, rules}
use Rattle.std.proofs.lemmas.Option.{slice_get-get_or}
use Rattle.basis.specs.Lists.{numbered}
use Rattle.stores.specs.Tables.{Built}
use Rattle.cells.specs.Rows.{cells_of}
use Rattle.hash_store.specs.Buckets.{in_bucket}
use Rattle.hash_store.specs.Chains.{rows_in, Chained}
use Rattle.hash_store.proofs.Adding.{filed_more, filed_all}
use Rattle.hash_store.proofs.adds.file_row.Goals as goal

pub loop-c-init : goal.loop-c-init
loop-c-init c = record {
  rows = refl;
  done = λ r is d in_range le. absurd (let low = in_range.0 in let z : ⊥ = omega arith in z);
  left = λ d in_range lt. c.requires.chained d in_range;
}

pub chain_row-requires-clause-chained : goal.chain_row-requires-clause-chained
chain_row-requires-clause-chained c =
    subst (λ (d : ℕ). Chained (rows_in c.loop-c.places) c.loop-c.places c.loop-c.ends d) (sym c.holding.ensures.column)
    (subst (λ (rows : List Built). Chained rows c.loop-c.places c.loop-c.ends (c.loop-c.c + 1)) (sym c.loop-c.invariant.rows)
    (c.loop-c.invariant.left (c.loop-c.c + 1) (omega arith, search rules) (omega arith)))

pub loop-c-preserved : goal.loop-c-preserved
loop-c-preserved c =
    let row = c.args.row in
    let i = c.loop-c.c in
    let cells = c.as_slice-x-items.result.now in
    let same : cells ≡ cells_of row = c.as_slice-x-items.ensures.value in
    let e = c.chain_row.ensures in
    let column = c.holding.ensures.column in
    filed_more c.args.places.now (cells_of row) c.loop-c.places c.chain_row.new.places c.loop-c.ends c.chain_row.new.ends i _
    (ap (numbered (cells_of row)) (add-one i) ∙ ap (λ l. slice_get l i) (sym same) ∙ slice_get-get_or cells i _ c.loop-c-test.true)
    c.loop-c.invariant e.rows
    (λ r here. subst (Chained (rows_in c.loop-c.places ++ r ∷ []) c.chain_row.new.places c.chain_row.new.ends) column
    (e.filed r ((λ k. in_bucket (column k) (c.holding.ensures.bucket k) r) ∙ here)))
    (λ rows d is ne. e.others rows d is (λ same. ne (same ∙ column)))

pub returns-clause-filed : goal.returns-clause-filed
returns-clause-filed c =
    let end : length (cells_of c.args.row) ≤ c.loop-c.c = subst (λ l. length l ≤ c.loop-c.c) c.as_slice-x-items.ensures.value c.loop-c-test.false in
    filed_all c.args.places.now (cells_of c.args.row) c.loop-c.places c.loop-c.ends c.loop-c.c end c.loop-c.invariant
