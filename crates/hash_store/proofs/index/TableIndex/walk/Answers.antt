use Rattle.std.proofs.Common.{◌≡◌, ◌<◌, false, sym, ap, ◌∙◌, arith}
use Rattle.std.specs.Option.{option_copied}
use Rattle.stores.specs.Tables.{matches}
use Rattle.hash_store.specs.Buckets.{next_filed, begins_behind}
use Rattle.hash_store.specs.Chains.{row_in}
use Rattle.hash_store.specs.Indexes.{table_of}
use Rattle.hash_store.proofs.Walking.{begun, ended, found, passed, closer}
use Rattle.hash_store.proofs.index.TableIndex.walk.Goals as goal
use Rattle.hash_store.proofs.index.TableIndex.walk.Goals.{else-at-after-via-then-at-after+else-holds, else-at-after-via-else-at-after}

pub loop-p-init : goal.loop-p-init
loop-p-init g c =
    let rows = (table_of c.args.self.now).rows in
    let column = c.args.chain.column in
    begun c.args.self.now column (g.K.Key.cell c.args.key) c.args.after c.start-at.result
    (c.start-at.ensures.value ∙ ap (λ b. next_filed rows column b (begins_behind rows column b c.args.after)) c.requires)

pub returns-then-holds : goal.returns-then-holds
returns-then-holds g c =
    let read = sym c.place.ensures.value ∙ ap option_copied c.in-Some.is in
    let f = found c.args.self.now c.args.chain.column (g.K.Key.cell c.args.key) c.args.after c.loop-p.at c.loop-p.visited c.loop-p.invariant c.in-Some.p.now read c.if-at-after.true (sym c.holds.ensures.value ∙ c.if-holds.true) in
    record { value = f.0; cost = f.1 }

pub loop-p-preserved : goal.loop-p-preserved
loop-p-preserved g c =
    let key = g.K.Key.cell c.args.key in
    let read = sym c.place.ensures.value ∙ ap option_copied c.in-Some.is in
    let out : c.args.after < c.loop-p.at → matches c.args.chain.column key (row_in c.in-Some.p.now) ≡ false = elim c.else-at-after.branch [
      | else-at-after-via-then-at-after+else-holds w ↦ (λ lt. sym w.holds.ensures.value ∙ w.if-holds.false)
      | else-at-after-via-else-at-after w ↦ (λ lt. absurd (let k = w.if-at-after.false in let z : ⊥ = omega arith in z))
    ] in
    passed c.args.self.now c.args.chain.column key c.args.after c.loop-p.at c.loop-p.visited c.loop-p.invariant c.in-Some.p.now read c.args.chain.column_in out

pub loop-p-smaller : goal.loop-p-smaller
loop-p-smaller g c =
    let read = sym c.place.ensures.value ∙ ap option_copied c.in-Some.is in
    closer c.args.self.now c.args.chain.column (g.K.Key.cell c.args.key) c.args.after c.loop-p.at c.loop-p.visited c.loop-p.invariant c.in-Some.p.now read c.args.chain.column_in

pub returns : goal.returns
returns g c =
    let read = sym c.place.ensures.value ∙ ap option_copied c.in_default.is in
    let end = ended c.args.self.now c.args.chain.column (g.K.Key.cell c.args.key) c.args.after c.loop-p.at c.loop-p.visited c.loop-p.invariant read in
    record { value = end.0; cost = end.1 }
