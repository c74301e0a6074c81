use Rattle.std.proofs.Common.{◌≡◌, arith, slice_get, slice_get}
use Rattle.std.proofs.lemmas.Grind.{common_steps}
use Rattle.std.proofs.lemmas.Option.{gets}
use Rattle.sorted_index.proofs.Nearest.{first_row, nearest_first}
use Rattle.sorted_index.proofs.next.Goals as goal

pub returns-clause-value : goal.returns-clause-value
returns-clause-value g c = λ s.
    let e : c.map.result ≡ first_row g.K.Key.equals c.args.key (slice_get c.args.entries.now c.seek-sought.result.found) = grind (arith, common_steps, gets) in
    nearest_first g.K.Key.less g.K.Key.equals g.met.K.Key.ordered g.met.K.Key.decides c.args.key c.args.after c.args.entries.now c.seek-sought.result.found c.map.result e s (c.seek-sought.ensures.value s)
