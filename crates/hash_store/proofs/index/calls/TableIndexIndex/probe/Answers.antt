use Rattle.std.proofs.Common.{◌≡◌, ◌<◌, ◌⊎◌, sym, ap, ◌∙◌, inl, inr, ⊎_elim, w64, SFits, rules}
use Rattle.std.proofs.lemmas.Int.{to_z-of_z}
use Rattle.cells.specs.declared.types.Cell.TheVariants as cell
use Rattle.hash_store.specs.Buckets.{visits}
use Rattle.hash_store.specs.Indexes.{table_of}
use Rattle.hash_store.specs.Answering.{no_column, no_visits}
use Rattle.hash_store.proofs.Draining.{drain_law}
use Rattle.hash_store.proofs.index.calls.TableIndexIndex.probe.Goals as goal

pub returns-then-column-eq0 : goal.returns-then-column-eq0
returns-then-column-eq0 c =
    let x = c.args.self.now in
    let q = c.args.question in
    let out : (q.column ≡ 0) ⊎ (6 < q.column) = ⊎_elim inl (λ big. inr big.1) c.then-column-eq0.either in
    record {
      value = sym (no_column (table_of x).rows x.narrow q.column out q.key q.after);
      cost = sym (no_visits (table_of x).rows x.narrow q.column out q.key q.after);
      law = drain_law;
    }

pub returns-in-Number-clause-cost : goal.returns-in-Number-clause-cost
returns-in-Number-clause-cost c =
    let rows = (table_of c.args.self.now).rows in
    let q = c.args.question in
    let fits : SFits w64 c.in-Number.z = search rules in
    let same = c.in-Number.is ∙ ap cell.Number (sym (to_z-of_z w64 c.in-Number.z fits)) in
    c.walk.ensures.cost ∙ sym (λ i. visits rows (sym c.holding-chain.ensures.column i) (same i) q.after)

pub returns-in-Code-clause-cost : goal.returns-in-Code-clause-cost
returns-in-Code-clause-cost c =
    let rows = (table_of c.args.self.now).rows in
    let q = c.args.question in
    c.walk-in-Code.ensures.cost ∙ sym (λ i. visits rows (sym c.holding-chain.ensures.column i) (c.in-Code.is i) q.after)

pub returns-in-Number-clause-law : goal.returns-in-Number-clause-law
returns-in-Number-clause-law c = drain_law

pub returns-in-Code-clause-law : goal.returns-in-Code-clause-law
returns-in-Code-clause-law c = drain_law
