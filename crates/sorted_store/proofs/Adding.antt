-- A row's cells put into the columns, one after the other.
use Rattle.std.proofs.Common.{◌≡◌, ℕ, suc, ◌+◌, ◌<◌, ◌≤◌, List, length, get_or, take, min, set, Some, None, sym, ap, ◌∙◌, subst, ⊎_elim, arith}
use Rattle.std.proofs.lemmas.List.{length-set, get_or-set_same, get_or-set_other}
use Rattle.std.proofs.lemmas.Bool.{cases_eq, cases_lt}
use Rattle.std.proofs.lemmas.Grind.{common_steps}
use Rattle.basis.specs.Lists.{numbered}
use Rattle.basis.proofs.Counted.{numbered_past}
use Rattle.cells.specs.declared.types.Cell.{Cell}
use Rattle.sorted_index.specs.Entries.{entry_of}
use Rattle.sorted_index.specs.Sorting.{inserted}
use Rattle.sorted_store.specs.declared.columns.Columns.{Columns}
use Rattle.sorted_store.specs.Columns.{cell_order, counted, with_cell}
use Rattle.sorted_store.specs.Indexes.{column_in}

module _ (xs : List Cell) (number : ℕ) (a : Columns) where
  -- the columns below i have their entry more, and the others are as they were
  pub record Added (i : ℕ) (b : Columns) : Type 0 where
    pub room : b.room ≡ a.room
    pub long : length b.filled ≡ length a.filled
    pub done : (c : ℕ) → c < i → column_in b c ≡ with_cell (numbered xs (suc c)) number (column_in a c)
    pub rest : (c : ℕ) → i ≤ c → column_in b c ≡ column_in a c
    pub same : (c : ℕ) → i ≤ c → get_or b.filled c 0 ≡ get_or a.filled c 0
    pub grown : (c : ℕ) → c < i → get_or b.filled c 0 ≡ counted (numbered xs (suc c)) (get_or a.filled c 0)

  pub added_more : (i : ℕ) (x : Cell) (b d : Columns) → i < length b.filled → numbered xs (suc i) ≡ Some x → d.room ≡ b.room
      → d.filled ≡ set b.filled i (get_or b.filled i 0 + 1)
      → column_in d i ≡ inserted cell_order (entry_of x number) (column_in b i)
      → ((c : ℕ) → (c ≡ i → ⊥) → column_in d c ≡ column_in b c)
      → Added i b → Added (i + 1) d
  added_more i x b d inside cell room set_is here others w = record {
    room = room ∙ w.room;
    long = ap length set_is ∙ length-set b.filled i (get_or b.filled i 0 + 1) ∙ w.long;
    done = λ c lt. ⊎_elim
        (λ (at : c ≡ i). subst (λ (k : ℕ). column_in d k ≡ with_cell (numbered xs (suc k)) number (column_in a k)) (sym at) new)
        (λ ne. others c ne ∙ w.done c (omega arith))
        (cases_eq c i);
    rest = λ c le. others c (λ e. omega arith) ∙ w.rest c (omega arith);
    same = λ c le. kept c (λ e. omega arith) ∙ w.same c (omega arith);
    grown = λ c lt. ⊎_elim
        (λ (at : c ≡ i). subst (λ (k : ℕ). get_or d.filled k 0 ≡ counted (numbered xs (suc k)) (get_or a.filled k 0)) (sym at) more)
        (λ ne. kept c ne ∙ w.grown c (omega arith))
        (cases_eq c i);
  }
    where
      new : column_in d i ≡ with_cell (numbered xs (suc i)) number (column_in a i)
      new = here ∙ ap (inserted cell_order (entry_of x number)) (w.rest i (omega arith)) ∙ sym (ap (λ o. with_cell o number (column_in a i)) cell)

      kept : (c : ℕ) → (c ≡ i → ⊥) → get_or d.filled c 0 ≡ get_or b.filled c 0
      kept c ne = ap (λ l. get_or l c 0) set_is ∙ get_or-set_other b.filled i c (get_or b.filled i 0 + 1) 0 ne

      more : get_or d.filled i 0 ≡ counted (numbered xs (suc i)) (get_or a.filled i 0)
      more =
          ap (λ l. get_or l i 0) set_is ∙ get_or-set_same b.filled i (get_or b.filled i 0 + 1) 0 inside
          ∙ ap (λ n. n + 1) (w.same i (omega arith)) ∙ sym (ap (λ o. counted o (get_or a.filled i 0)) cell)

  -- all cells are in their columns, and the row has no cell in another
  pub added_all : (i : ℕ) (b : Columns) → length xs ≤ i → Added i b
      → ((c : ℕ) → column_in b c ≡ with_cell (numbered xs (suc c)) number (column_in a c)) × ((c : ℕ) → get_or b.filled c 0 ≡ counted (numbered xs (suc c)) (get_or a.filled c 0))
  added_all i b end w = (
    λ c. ⊎_elim (λ lt. w.done c lt) (λ (ge : i ≤ c). w.rest c ge ∙ sym (ap (λ o. with_cell o number (column_in a c)) (past c ge))) (cases_lt c i),
    λ c. ⊎_elim (λ lt. w.grown c lt) (λ (ge : i ≤ c). w.same c ge ∙ sym (ap (λ o. counted o (get_or a.filled c 0)) (past c ge))) (cases_lt c i),
  )
    where
      past : (c : ℕ) → i ≤ c → numbered xs (suc c) ≡ None
      past c ge = numbered_past xs (suc c) (omega arith)
