-- One row more in the indexes.
use Rattle.std.proofs.Common.{◌≡◌, ℕ, suc, ◌+◌, ◌<◌, Bool, true, false, cond, ◌&&◌, ◌||◌, eqb, List, [], ◌∷◌, ◌++◌, length, get_or, is_some, Some, None, Option, sym, refl, ap, ◌∙◌, subst, ⊎_elim, arith}
use Rattle.std.proofs.lemmas.List.{length_push}
use Rattle.std.proofs.lemmas.List.Sums.{sum_by_push}
use Rattle.std.proofs.lemmas.Bool.{cases_order, and_right, eq-eqb, ne_eqb}
use Rattle.basis.specs.Lists.{numbered}
use Rattle.basis.proofs.Counted.{numbered_past}
use Rattle.cells.specs.declared.types.Cell.{Cell}
use Rattle.cells.specs.declared.rows.Row.{Row}
use Rattle.cells.specs.Rows.{cells_of}
use Rattle.keys.specs.Keys.{same_cell}
use Rattle.stores.specs.Tables.{Built, built_row, cell_of, is_cell}
use Rattle.stores.proofs.Builds.{numbered-append, numbered_push}
use Rattle.sorted_index.specs.declared.entry.Entry.{Entry}
use Rattle.sorted_index.specs.Entries.{entry_of, has_entry}
use Rattle.sorted_index.proofs.Sorting.{any-inserted}
use Rattle.sorted_store.specs.declared.columns.Columns.{Columns}
use Rattle.sorted_store.specs.Columns.{cell_order, counted, with_cell, having, Lists, AllCounted}
use Rattle.sorted_store.specs.Indexes.{column_in, Listed}

-- what the entries say with one row more
has_with : (o : Option Cell) (m : ℕ) (es : List (Entry Cell)) (x : Cell) (n : ℕ) → has_entry same_cell (with_cell o m es) x n ≡ ((is_cell o x && eqb m n) || has_entry same_cell es x n)
has_with None m es x n = refl
has_with (Some y) m es x n = any-inserted cell_order (λ e. same_cell e.key x && eqb e.row n) (entry_of y m) es

module _ (rows : List Built) (b : Built) (column : ℕ) where
  pub having_push : having column (rows ++ b ∷ []) ≡ counted (numbered b.cells column) (having column rows)
  having_push = sum_by_push (λ (r : Built). cond (is_some (numbered r.cells column)) 1 0) rows b ∙ go (numbered b.cells column)
    where
      go : (o : Option Cell) → having column rows + cond (is_some o) 1 0 ≡ counted o (having column rows)
      go None = let n = having column rows in let e : having column rows + 0 ≡ having column rows = omega arith in e
      go (Some x) = refl

  -- what the rows say with one row more
  cell_push : (x : Cell) (n : ℕ) → is_cell (cell_of (numbered (rows ++ b ∷ []) n) column) x ≡ ((is_cell (numbered b.cells column) x && eqb (length rows + 1) n) || is_cell (cell_of (numbered rows n) column) x)
  cell_push x n = ⊎_elim here (λ apart. ⊎_elim past old apart) (cases_order (length rows + 1) n)
    where
      none : (n : ℕ) → length rows < n → is_cell (cell_of (numbered rows n) column) x ≡ false
      none n lt = ap (λ o. is_cell (cell_of o column) x) (numbered_past rows n lt)

      differs : (n : ℕ) → (length rows + 1 ≡ n → ⊥) → (is_cell (numbered b.cells column) x && eqb (length rows + 1) n) ≡ false
      differs n ne = and_right (is_cell (numbered b.cells column) x) (eqb (length rows + 1) n) (ne_eqb (length rows + 1) n ne)

      or_no : (t : Bool) → t ≡ ((t && true) || false)
      or_no true = refl
      or_no false = refl

      here : length rows + 1 ≡ n → is_cell (cell_of (numbered (rows ++ b ∷ []) n) column) x ≡ ((is_cell (numbered b.cells column) x && eqb (length rows + 1) n) || is_cell (cell_of (numbered rows n) column) x)
      here e =
          ap (λ o. is_cell (cell_of o column) x) (ap (numbered (rows ++ b ∷ [])) (sym e) ∙ numbered_push rows b)
          ∙ or_no (is_cell (numbered b.cells column) x)
          ∙ sym (λ i. (is_cell (numbered b.cells column) x && eq-eqb (length rows + 1) n e i) || none n (omega arith) i)

      past : length rows + 1 < n → is_cell (cell_of (numbered (rows ++ b ∷ []) n) column) x ≡ ((is_cell (numbered b.cells column) x && eqb (length rows + 1) n) || is_cell (cell_of (numbered rows n) column) x)
      past lt =
          let long = length_push rows b in
          ap (λ o. is_cell (cell_of o column) x) (numbered_past (rows ++ b ∷ []) n (omega arith))
          ∙ sym (λ i. differs n (λ e. omega arith) i || none n (omega arith) i)

      old : n < length rows + 1 → is_cell (cell_of (numbered (rows ++ b ∷ []) n) column) x ≡ ((is_cell (numbered b.cells column) x && eqb (length rows + 1) n) || is_cell (cell_of (numbered rows n) column) x)
      old lt =
          ap (λ o. is_cell (cell_of o column) x) (numbered-append rows (b ∷ []) n (omega arith))
          ∙ sym (ap (λ t. t || is_cell (cell_of (numbered rows n) column) x) (differs n (λ e. omega arith)))

  pub lists_push : (es : List (Entry Cell)) → Lists rows column es → Lists (rows ++ b ∷ []) column (with_cell (numbered b.cells column) (length rows + 1) es)
  lists_push es h x n =
      has_with (numbered b.cells column) (length rows + 1) es x n
      ∙ ap (λ t. (is_cell (numbered b.cells column) x && eqb (length rows + 1) n) || t) (h x n)
      ∙ sym (cell_push x n)

-- the columns with the cells of the row that is built next
module _ (rows : List Built) (row : Row) (stamp number : ℕ) (next : number ≡ length rows + 1) (a b : Columns)
    (after : (c : ℕ) → column_in b c ≡ with_cell (numbered (cells_of row) (suc c)) number (column_in a c))
    (filled : (c : ℕ) → get_or b.filled c 0 ≡ counted (numbered (cells_of row) (suc c)) (get_or a.filled c 0)) where
  pub counted_more : AllCounted rows a.filled → AllCounted (rows ++ built_row row stamp ∷ []) b.filled
  counted_more h c = filled c ∙ ap (counted (numbered (cells_of row) (suc c))) (h c) ∙ sym (having_push rows (built_row row stamp) (suc c))

  pub listed_more : Listed rows a → Listed (rows ++ built_row row stamp ∷ []) b
  listed_more h c =
      subst (Lists (rows ++ built_row row stamp ∷ []) (suc c))
      (ap (λ k. with_cell (numbered (cells_of row) (suc c)) k (column_in a c)) (sym next) ∙ sym (after c))
      (lists_push rows (built_row row stamp) (suc c) (column_in a c) (h c))
