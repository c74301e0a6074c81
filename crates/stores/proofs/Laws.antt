-- The laws of next and build, from the lemmas on lists.
use Rattle.std.proofs.Common.{◌≡◌, ℕ, zero, suc, ◌<◌, true, false, List, [], get_or, Some, None, Option, sym, refl, ap, ◌∙◌, ⊎_elim, arith}
use Rattle.std.proofs.lemmas.Option.{slice_get-get_or, slice_get_past}
use Rattle.std.proofs.lemmas.Bool.{cases_lt, cases_Bool, both_ways}
use Rattle.cells.specs.declared.types.Cell.{Cell}
use Rattle.keys.specs.CellOrder.{same_cell_decides}
use Rattle.stores.specs.Tables.{Built, Table, table_at, count_at, cell_of, cell_at, is_cell, matches, next_row}
use Rattle.stores.specs.Laws.{Least, NextLaws, StoreLaws}
use Rattle.stores.proofs.Next.{Found, next_found, next_is, next_none}
use Rattle.stores.proofs.Builds.{built_other, built_room, built_old, built-count, built_last, next_built}

is_cell_true : (o : Option Cell) (key : Cell) → is_cell o key ≡ true → o ≡ Some key
is_cell_true None key e = absurd (both_ways false refl e)
is_cell_true (Some c) key e = ap Some ((same_cell_decides c key).0 e)

true_is_cell : (o : Option Cell) (key : Cell) → o ≡ Some key → is_cell o key ≡ true
true_is_cell o key e = ap (λ x. is_cell x key) e ∙ (same_cell_decides key key).1 refl

no_row : Built
no_row = record { cells = []; stamp = 0 }

module _ (ts : List Table) (t column : ℕ) (key : Cell) where
  cell_here : (i : ℕ) (d : Built) → i < count_at ts t → is_cell (cell_at ts t (suc i) column) key ≡ matches column key (get_or (table_at ts t).rows i d)
  cell_here i d lt = ap (λ o. is_cell (cell_of o column) key) (slice_get-get_or (table_at ts t).rows i d lt)

  -- a row that has the key is kept, and matches
  has_key : (i : ℕ) (d : Built) → cell_at ts t (suc i) column ≡ Some key → (i < count_at ts t) × (matches column key (get_or (table_at ts t).rows i d) ≡ true)
  has_key i d e =
      ⊎_elim
      (λ (lt : i < count_at ts t). (lt, sym (cell_here i d lt) ∙ true_is_cell (cell_at ts t (suc i) column) key e))
      (λ ge. let none : cell_at ts t (suc i) column ≡ None = ap (λ o. cell_of o column) (slice_get_past (table_at ts t).rows i ge) in absurd cc)
      (cases_lt i (count_at ts t))

  found-least : (after n : ℕ) → Found (matches column key) after (table_at ts t).rows n → Least ts t column key after n
  found-least after n f =
      let i = f.index in
      record {
        above = omega (arith, f.is, f.above);
        kept = omega (arith, f.is, f.within);
        equal = ap (λ k. cell_at ts t k column) f.is ∙ is_cell_true (cell_at ts t (suc i) column) key (cell_here i no_row f.within ∙ f.passes no_row);
        least = λ m l u e. lower m l (omega (arith, f.is)) e;
      }
    where
      lower : (m : ℕ) → after < m → m < suc f.index → cell_at ts t m column ≡ Some key → ⊥
      lower zero l u e = omega arith
      lower (suc j) l u e =
          both_ways (matches column key (get_or (table_at ts t).rows j no_row)) (f.before j no_row (omega arith) (omega arith)) (has_key j no_row e).1

  least-found : (after n : ℕ) → Least ts t column key after n → Found (matches column key) after (table_at ts t).rows n
  least-found after zero h = absurd (omega (arith, h.above))
  least-found after (suc i) h =
      record {
        index = i;
        is = refl;
        above = omega (arith, h.above);
        within = omega (arith, h.kept);
        passes = λ d. (has_key i d h.equal).1;
        before = λ j d le lt. ⊎_elim
            (λ yes. absurd (h.least (suc j) (omega arith) (omega arith)
            (is_cell_true (cell_at ts t (suc j) column) key (cell_here j d (omega (arith, h.kept)) ∙ yes))))
            (λ out. out)
            (cases_Bool (matches column key (get_or (table_at ts t).rows j d)));
      }

  none_above : (after : ℕ) → next_row ts t column key after ≡ None → (n : ℕ) → after < n → cell_at ts t n column ≡ Some key → ⊥
  none_above after h zero l e = omega arith
  none_above after h (suc j) l e =
      let k = has_key j no_row e in
      both_ways (matches column key (get_or (table_at ts t).rows j no_row)) (next_none (matches column key) after (table_at ts t).rows h j no_row (omega arith) k.0) k.1

next_laws : NextLaws
next_laws = record {
  finds = λ ts t column key after n. (
    λ e. found-least ts t column key after n (next_found (matches column key) after (table_at ts t).rows n e),
    λ h. next_is (matches column key) after (table_at ts t).rows n (least-found ts t column key after n h),
  );
  none = none_above;
}

pub store_laws : StoreLaws
store_laws = record {
  next = next_laws;
  build = λ ts t row stamp. record {
    others = built_other ts t row stamp;
    rooms = built_room ts t row stamp;
    old = built_old ts t row stamp;
    more = built-count ts t row stamp;
    last = built_last ts t row stamp;
    found = next_built ts t row stamp;
  };
}
