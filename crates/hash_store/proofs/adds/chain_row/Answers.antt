use Rattle.std.proofs.Common.{◌≡◌, ◌-◌, length, get_or, refl, rules}
use Rattle.hash_store.specs.Chains.{no_row, no_place, no_ends, rows_in}
use Rattle.hash_store.specs.Placing.{chained_same, ends_other, link_other, relinked_rows, tail_kept, chained_first, chained_last}
use Rattle.hash_store.proofs.adds.chain_row.Goals as goal

pub returns-then-tail-eq0-clause-filed : goal.returns-then-tail-eq0-clause-filed
returns-then-tail-eq0-clause-filed c = λ r here.
    let long : length c.args.ends.now ≡ 384 = search rules in
    chained_first (rows_in c.args.places.now) c.args.places.now c.args.ends.now c.args.chain.column r refl c.args.chain.column_in.0 c.args.chain.column_in.1 c.requires.chained c.args.chain.bucket c.slot-at.result c.slot-at.ensures.value c.args.chain.small here long c.if-tail-eq0.true

pub returns-else-tail-eq0-clause-rows : goal.returns-else-tail-eq0-clause-rows
returns-else-tail-eq0-clause-rows c =
    relinked_rows c.args.places.now ((get_or c.args.ends.now c.slot-at.result no_ends).tail - 1) c.args.chain.column _
    (tail_kept (rows_in c.args.places.now) c.args.places.now c.args.ends.now c.args.chain.column no_row refl c.args.chain.column_in.0 c.args.chain.column_in.1 c.requires.chained c.args.chain.bucket c.slot-at.result c.slot-at.ensures.value c.args.chain.small c.if-tail-eq0.false)

pub returns-else-tail-eq0-clause-filed : goal.returns-else-tail-eq0-clause-filed
returns-else-tail-eq0-clause-filed c = λ r here.
    let long : length c.args.ends.now ≡ 384 = search rules in
    let six : length (get_or c.args.places.now ((get_or c.args.ends.now c.slot-at.result no_ends).tail - 1) no_place).links ≡ 6 = search rules in
    chained_last (rows_in c.args.places.now) c.args.places.now c.args.ends.now c.args.chain.column r refl c.args.chain.column_in.0 c.args.chain.column_in.1 c.requires.chained c.args.chain.bucket c.slot-at.result c.slot-at.ensures.value c.args.chain.small here long six c.if-tail-eq0.false

pub returns-else-tail-eq0-clause-others : goal.returns-else-tail-eq0-clause-others
returns-else-tail-eq0-clause-others c = λ rows d is ne h.
    chained_same rows c.args.places.now _ c.args.ends.now _ d
    (ends_other c.args.ends.now c.slot-at.result c.args.chain.column c.args.chain.bucket _ d c.slot-at.ensures.value c.args.chain.column_in.0 c.args.chain.small is.0 ne)
    (λ i lt. link_other c.args.places.now ((get_or c.args.ends.now c.slot-at.result no_ends).tail - 1) c.args.chain.column _ d
    (tail_kept (rows_in c.args.places.now) c.args.places.now c.args.ends.now c.args.chain.column no_row refl c.args.chain.column_in.0 c.args.chain.column_in.1 c.requires.chained c.args.chain.bucket c.slot-at.result c.slot-at.ensures.value c.args.chain.small c.if-tail-eq0.false)
    c.args.chain.column_in.0 is.0 ne i) h
