-- What a question is answered with where a column has no cells or a table no rows, and what it costs.
use Rattle.std.specs.Prelude.{◌≡◌, ℕ, zero, suc, ◌+◌, ◌-◌, ◌<◌, ◌≤◌, false, cond, ◌⊎◌, List, [], ◌∷◌, ◌++◌, length, take, None, slice_index_or, refl}
use Rattle.std.proofs.Common.{sym, ap, subst, ◌∙◌, ⊎_elim, arith, length-take}
use Rattle.std.proofs.lemmas.List.{get_or_default, get_or_append_left, get_or_push, length_push}
use Rattle.std.proofs.lemmas.Option.{slice_get-get_or, slice_get_past}
use Rattle.std.proofs.lemmas.List.Sums.{count_by-le-length}
use Rattle.std.proofs.lemmas.Bool.{cases_lt}
use Rattle.basis.specs.Lists.{numbered}
use Rattle.basis.proofs.Counted.{numbered_past}
use Rattle.cells.specs.declared.types.Cell.{Cell}
use Rattle.stores.specs.Tables.{Built, matches, next_after}
use Rattle.stores.proofs.Next.{next_is_none}
use Rattle.hash_store.specs.Buckets.{cell_bucket, is_filed, in_bucket, kept_in_bucket, begins_behind, ends_at, filed_upto, visits}
use Rattle.hash_store.specs.Chains.{no_row, AllNarrow}
use Rattle.hash_store.specs.Steps.{not_filed, filed_skip}

module _ (rows : List Built) (narrow : AllNarrow rows) (column : ℕ) (out : (column ≡ 0) ⊎ (6 < column)) where
  no_cell : (row : Built) → length row.cells ≤ 6 → numbered row.cells column ≡ None
  no_cell row few = ⊎_elim (λ zero_is. ap (numbered row.cells) zero_is) (λ (far : 6 < column). numbered_past row.cells column (omega arith)) out

  unfiled : (b i : ℕ) → i < length rows → in_bucket column b (slice_index_or rows i no_row) ≡ false
  unfiled b i lt = ap (λ o. is_filed o b) (no_cell (slice_index_or rows i no_row) (narrow i lt))

  pub no_column : (key : Cell) (after : ℕ) → next_after (matches column key) after rows ≡ None
  no_column key after =
      next_is_none (matches column key) after rows
      (λ i d l u. ap (matches column key) (get_or_default rows i d no_row u) ∙ not_filed column key (slice_index_or rows i no_row) (unfiled (cell_bucket key) i u))

  none_upto : (b n : ℕ) → n ≤ length rows → filed_upto rows column b n ≡ 0
  none_upto b n le = filed_skip rows column b 0 n (omega arith) le (λ i l u. unfiled b i (omega arith))

  no_begin : (b after : ℕ) → begins_behind rows column b after ≡ 0
  no_begin b zero = refl
  no_begin b (suc i) =
      ⊎_elim
      (λ (lt : i < length rows). ap (λ o. cond (kept_in_bucket column b o) (suc i) 0) (slice_get-get_or rows i no_row lt) ∙ ap (λ t. cond t (suc i) 0) (unfiled b i lt))
      (λ ge. ap (λ o. cond (kept_in_bucket column b o) (suc i) 0) (slice_get_past rows i ge))
      (cases_lt i (length rows))

  pub no_visits : (key : Cell) (after : ℕ) → visits rows column key after ≡ 0
  no_visits key after =
      ap (λ o. filed_upto rows column (cell_bucket key) (ends_at o rows) - filed_upto rows column (cell_bucket key) (begins_behind rows column (cell_bucket key) after)) (no_column key after)
      ∙ (let e = none_upto (cell_bucket key) (length rows) (omega arith) in omega arith)

-- what a walk counts is what a question visits
pub visited_is : (rows : List Built) (column : ℕ) (key : Cell) (after visited : ℕ)
    → visited + filed_upto rows column (cell_bucket key) (begins_behind rows column (cell_bucket key) after) ≡ filed_upto rows column (cell_bucket key) (ends_at (next_after (matches column key) after rows) rows)
    → visited ≡ visits rows column key after
visited_is rows column key after visited sum = omega arith

pub narrow_push : (rows : List Built) (r : Built) → AllNarrow rows → length r.cells ≤ 6 → AllNarrow (rows ++ r ∷ [])
narrow_push rows r old few i lt =
    let long = length_push rows r in
    ⊎_elim
    (λ (under : i < length rows). subst (λ (x : Built). length x.cells ≤ 6) (sym (get_or_append_left rows (r ∷ []) no_row i under)) (old i under))
    (λ over. let e : length rows ≡ i = omega arith in subst (λ (x : Built). length x.cells ≤ 6) (sym (get_or_push rows r no_row i e)) few)
    (cases_lt i (length rows))

-- a table with no rows
pub empty_visits : (column : ℕ) (key : Cell) (after : ℕ) → visits [] column key after ≡ 0
empty_visits column key after =
    let n = ends_at (next_after (matches column key) after []) [] in
    let most = count_by-le-length (in_bucket column (cell_bucket key)) (take n []) in
    let none = length-take {A = Built} n [] in
    omega arith
