-- The nearest row of an index is the next row of its table.
use Rattle.std.proofs.Common.{◌≡◌, ℕ, zero, suc, ◌+◌, ◌-◌, ◌*◌, ◌<◌, false, List, [], ◌∷◌, length, get_or, take, drop, slice_get, Some, None, Option, vec_items, sym, refl, ap, ◌∙◌, subst, ⊎_elim, arith}
use Rattle.std.specs.Option.{unwrap_or}
use Rattle.std.proofs.lemmas.Option.{slice_get-get_or, slice_get_past, get_or_from_slice_get, unwrap_or-slice_get}
use Rattle.std.proofs.lemmas.List.Sums.{sum_by-cons}
use Rattle.std.proofs.lemmas.Bool.{both_ways, cases_lt}
use Rattle.basis.specs.Lists.{numbered}
use Rattle.cells.specs.declared.types.Cell.{Cell}
use Rattle.keys.specs.Keys.{same_cell}
use Rattle.stores.specs.Tables.{Built, cell_of, is_cell, matches, next_after}
use Rattle.stores.proofs.Next.{next_is, next_is_none}
use Rattle.sorted_index.specs.declared.entry.Entry.{Entry}
use Rattle.sorted_index.specs.Entries.{Nearest, has_entry}
use Rattle.sorted_index.proofs.Nearest.{nearest_same}
use Rattle.sorted_store.specs.declared.columns.Columns.{Columns}
use Rattle.sorted_store.specs.Columns.{having, Lists, AllCounted}
use Rattle.sorted_store.specs.Indexes.{column_in, Listed}

module _ (rows : List Built) (column : ℕ) (key : Cell) (after : ℕ) where
  row_says : (i : ℕ) (d : Built) → i < length rows → is_cell (cell_of (numbered rows (suc i)) column) key ≡ matches column key (get_or rows i d)
  row_says i d lt = ap (λ o. is_cell (cell_of o column) key) (slice_get-get_or rows i d lt)

  pub nearest_next : (o : Option ℕ) → Nearest (λ n. is_cell (cell_of (numbered rows n) column) key) after o → o ≡ next_after (matches column key) after rows
  nearest_next None h = sym (next_is_none (matches column key) after rows (λ i d le lt. sym (row_says i d lt) ∙ h (suc i) (omega arith)))
  nearest_next (Some zero) h = absurd (both_ways false refl h.0)
  nearest_next (Some (suc i)) h =
      ⊎_elim
      (λ (lt : i < length rows). sym (next_is (matches column key) after rows (suc i) (record {
        index = i;
        is = refl;
        above = omega (arith, h.1);
        within = lt;
        passes = λ d. sym (row_says i d lt) ∙ h.0;
        before = λ j d le u. sym (row_says j d (omega arith)) ∙ h.2 (suc j) (omega arith) (omega arith);
      })))
      (λ ge. absurd (both_ways false refl (sym (ap (λ o. is_cell (cell_of o column) key) (slice_get_past rows i ge)) ∙ h.0)))
      (cases_lt i (length rows))

  pub listed_next : (es : List (Entry Cell)) (o : Option ℕ) → Lists rows column es → Nearest (has_entry same_cell es key) after o → o ≡ next_after (matches column key) after rows
  listed_next es o lists h =
      nearest_next o (nearest_same (has_entry same_cell es key) (λ n. is_cell (cell_of (numbered rows n) column) key) (lists key) after o h)

zero_having : (rows : List Built) → having 0 rows ≡ 0
zero_having [] = refl
zero_having (b ∷ bs) = let e = zero_having bs in sum_by-cons (λ (r : Built). 0) b bs ∙ (let f : 0 + having 0 bs ≡ 0 = omega arith in f)

-- a column that there is not
module _ (rows : List Built) (x : Columns) where
  pub no_next : (column : ℕ) (key : Cell) (after : ℕ) → numbered x.filled column ≡ None → Listed rows x → None ≡ next_after (matches column key) after rows
  no_next zero key after out lists = sym (next_is_none (matches 0 key) after rows (λ i d le lt. refl))
  no_next (suc c) key after out lists =
      let none : column_in x c ≡ [] = ap (λ n. take n (drop (c * x.room) (vec_items x.entries))) (none_filled c out) in
      listed_next rows (suc c) key after [] None (subst (Lists rows (suc c)) none (lists c)) (λ n lt. refl)
    where
      none_filled : (c : ℕ) → slice_get x.filled c ≡ None → get_or x.filled c 0 ≡ 0
      none_filled c out = sym (unwrap_or-slice_get x.filled c 0) ∙ ap (λ o. unwrap_or o 0) out

  pub no_having : (column : ℕ) → numbered x.filled column ≡ None → AllCounted rows x.filled → having column rows ≡ 0
  no_having zero out counts = zero_having rows
  no_having (suc c) out counts = sym (counts c) ∙ sym (unwrap_or-slice_get x.filled c 0) ∙ ap (λ o. unwrap_or o 0) out

pub filled_at : (ns : List ℕ) (column n : ℕ) → numbered ns column ≡ Some n → (suc (column - 1) ≡ column) × (n ≡ get_or ns (column - 1) 0)
filled_at ns zero n is = absurd (cc)
filled_at ns (suc c) n is =
    let e : suc c - 1 ≡ c = omega arith in
    (omega arith, sym (ap (λ k. get_or ns k 0) e ∙ get_or_from_slice_get ns c n 0 is))
