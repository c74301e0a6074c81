use Rattle.std.proofs.Common.{◌≡◌, suc, ◌+◌, ◌-◌, ◌*◌, take, drop, sym, ap, ◌∙◌, subst, arith}
use Rattle.stores.specs.Tables.{matches, next_after}
use Rattle.sorted_index.specs.Sorting.{sorted}
use Rattle.sorted_store.specs.Columns.{cell_order, listed}
use Rattle.sorted_store.specs.Indexes.{column_in}
use Rattle.keys.specs.Keys.{same_cell}
use Rattle.sorted_index.specs.Entries.{Nearest, has_entry}
use Rattle.sorted_store.proofs.Answering.{listed_next, no_next, no_having, filled_at}
use Rattle.sorted_store.proofs.columns.Columns.probe.Goals as goal

pub returns-in_default-clause-value : goal.returns-in_default-clause-value
returns-in_default-clause-value c = λ rows lists. no_next rows c.args.self.now c.args.question.column c.args.question.key c.args.question.after (sym c.numbered.ensures.value ∙ c.in_default.is) lists

pub returns-in_default-clause-cost : goal.returns-in_default-clause-cost
returns-in_default-clause-cost c = λ rows counts.
    let none = no_having rows c.args.self.now c.args.question.column (sym c.numbered.ensures.value ∙ c.in_default.is) counts in (omega arith, omega arith)

-- the entries that are asked are those of the column
asked : (c : goal.After-next) → take ((c.args.question.column - 1) * c.args.self.now.room + c.in-Some.n - (c.args.question.column - 1) * c.args.self.now.room) (drop ((c.args.question.column - 1) * c.args.self.now.room) c.deref.result.now) ≡ column_in c.args.self.now (c.args.question.column - 1)
asked c =
    let x = c.args.self.now in
    let from = (c.args.question.column - 1) * x.room in
    let n = (filled_at x.filled c.args.question.column c.in-Some.n (sym c.numbered.ensures.value ∙ c.in-Some.is)).1 in
    ap (λ m. take m (drop from c.deref.result.now)) (let e : from + c.in-Some.n - from ≡ c.in-Some.n = omega arith in e ∙ n)
    ∙ ap (λ l. listed l x.filled x.room (c.args.question.column - 1)) c.deref.ensures.value

pub returns-clause-value : goal.returns-clause-value
returns-clause-value c = λ rows lists.
    let x = c.args.self.now in
    let i = c.args.question.column - 1 in
    let there = (filled_at x.filled c.args.question.column c.in-Some.n (sym c.numbered.ensures.value ∙ c.in-Some.is)).0 in
    listed_next rows (suc i) c.args.question.key c.args.question.after (column_in x i) c.next.result.found (lists i)
    (subst (λ es. Nearest (has_entry same_cell es c.args.question.key) c.args.question.after c.next.result.found) (asked c) (c.next.ensures.value (ap (sorted cell_order) (asked c) ∙ x.sorted i)))
    ∙ ap (λ k. next_after (matches k c.args.question.key) c.args.question.after rows) there
