-- One entry more in one of the columns.
use Rattle.std.proofs.Common.{◌≡◌, ℕ, ◌+◌, ◌*◌, ◌<◌, ◌≤◌, true, List, length, get_or, take, drop, set, vec_items, vec_len, sym, ap, ◌∙◌, subst, ⊎_elim, arith}
use Rattle.std.specs.Vec.{with_items}
use Rattle.std.proofs.lemmas.List.{get_or-set_same, get_or-set_other, with_items_is}
use Rattle.std.proofs.lemmas.Bool.{cases_eq, cases_lt}
use Rattle.cells.specs.declared.types.Cell.{Cell}
use Rattle.keys.specs.Keys.{same_cell, less_cell}
use Rattle.keys.specs.CellOrder.{same_cell_decides, cell_ordered}
use Rattle.sorted_index.specs.declared.entry.Entry.{Entry}
use Rattle.sorted_index.specs.Sorting.{sorted, inserted}
use Rattle.sorted_index.proofs.EntryOrder.{entries_along, entries_total}
use Rattle.sorted_index.proofs.Sorting.{sorted-inserted}
use Rattle.sorted_store.specs.declared.columns.Columns.{Columns}
use Rattle.sorted_store.specs.Columns.{cell_order, listed, AllSorted}
use Rattle.sorted_store.specs.Indexes.{column_in}
use Rattle.sorted_store.proofs.Stretches.{stretch_end}

-- es are the entries as they are lent, and gs as they come back
module _ (x : Columns) (es gs : List (Entry Cell)) (i : ℕ) (e : Entry Cell) (inside : i < length x.filled) (free : get_or x.filled i 0 < x.room)
    (lent : es ≡ vec_items x.entries) (long : length gs ≡ vec_len x.entries)
    (here : sorted cell_order (listed es x.filled x.room i) ≡ true → take (get_or x.filled i 0 + 1) (drop (i * x.room) gs) ≡ inserted cell_order e (listed es x.filled x.room i))
    (below : (o m : ℕ) → o + m ≤ i * x.room → take m (drop o gs) ≡ take m (drop o es))
    (above : (o m : ℕ) → i * x.room + get_or x.filled i 0 < o → take m (drop o gs) ≡ take m (drop o es)) where
  abbrev more : List ℕ
  more = set x.filled i (get_or x.filled i 0 + 1)

  abbrev then : List (Entry Cell)
  then = vec_items (with_items x.entries gs)

  back : then ≡ gs
  back = with_items_is x.entries gs long

  pub few_more : (c : ℕ) → get_or more c 0 ≤ x.room
  few_more c =
      ⊎_elim
      (λ (at : c ≡ i). omega (arith, ap (λ k. get_or more k 0) at, get_or-set_same x.filled i (get_or x.filled i 0 + 1) 0 inside))
      (λ ne. omega (arith, get_or-set_other x.filled i c (get_or x.filled i 0 + 1) 0 ne, x.few c))
      (cases_eq c i)

  listed_here : listed then more x.room i ≡ inserted cell_order e (column_in x i)
  listed_here =
      ap (λ l. listed l more x.room i) back
      ∙ ap (λ m. take m (drop (i * x.room) gs)) (get_or-set_same x.filled i (get_or x.filled i 0 + 1) 0 inside)
      ∙ here (ap (λ l. sorted cell_order (listed l x.filled x.room i)) lent ∙ x.sorted i)
      ∙ ap (λ l. inserted cell_order e (listed l x.filled x.room i)) lent

  pub listed_other : (o : ℕ) → (o ≡ i → ⊥) → listed then more x.room o ≡ column_in x o
  listed_other o ne =
      let most = x.few o in
      ap (λ l. listed l more x.room o) back
      ∙ ap (λ m. take m (drop (o * x.room) gs)) (get_or-set_other x.filled i o (get_or x.filled i 0 + 1) 0 ne)
      ∙ ⊎_elim
      (λ (lt : o < i). below (o * x.room) (get_or x.filled o 0) (let end = stretch_end o i x.room lt in omega arith))
      (λ ge. above (o * x.room) (get_or x.filled o 0) (let end = stretch_end i o x.room (omega arith) in omega arith))
      (cases_lt o i)
      ∙ ap (λ l. listed l x.filled x.room o) lent

  pub sorted_more : AllSorted then more x.room
  sorted_more c =
      ⊎_elim
      (λ (at : c ≡ i). subst (λ (k : ℕ). sorted cell_order (listed then more x.room k) ≡ true) (sym at)
      (ap (sorted cell_order) listed_here
      ∙ sorted-inserted cell_order (entries_along less_cell same_cell cell_ordered same_cell_decides) (entries_total less_cell same_cell cell_ordered same_cell_decides) e (column_in x i) (x.sorted i)))
      (λ ne. ap (sorted cell_order) (listed_other c ne) ∙ x.sorted c)
      (cases_eq c i)
