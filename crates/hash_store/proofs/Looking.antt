-- A place that is looked at; and where a question begins: at the link of the row asked after, if that is of the bucket, else at
-- the bucket's head.
use Rattle.std.proofs.Common.{◌≡◌, ℕ, zero, suc, ◌-◌, ◌<◌, ◌≤◌, Bool, true, false, cond, List, length, get_or, option_map, Some, None, sym, refl, ap, ◌∙◌, ⊎_elim, arith}
use Rattle.std.proofs.lemmas.Option.{none-some, slice_get-get_or, slice_get_within, slice_get_past, get_or_from_slice_get}
use Rattle.std.proofs.lemmas.Bool.{cases_lt}
use Rattle.basis.specs.Lists.{numbered}
use Rattle.stores.specs.Tables.{Built}
use Rattle.hash_store.specs.declared.place.Ends.{Ends}
use Rattle.hash_store.specs.declared.place.Place.{Place}
use Rattle.hash_store.specs.Buckets.{in_bucket, kept_in_bucket, next_filed, begins_behind}
use Rattle.hash_store.specs.Chains.{no_row, no_place, row_in, rows_in, head_in, link_in, Chained}
use Rattle.hash_store.specs.Rows.{length_rows, row_read, numbered_row}

-- its number, its row and its link
pub looked : (ps : List Place) (column at : ℕ) (p : Place) → numbered ps at ≡ Some p → (0 < at) × (at ≤ length (rows_in ps)) × (get_or (rows_in ps) (at - 1) no_row ≡ row_in p) × (link_in ps column (at - 1) ≡ get_or p.links (column - 1) 0)
looked ps column zero p is = absurd (cc)
looked ps column (suc i) p is =
    let lt = slice_get_within ps i p is in
    let same = length_rows ps in
    let e : suc i - 1 ≡ i = omega arith in
    let at = ap (λ k. get_or ps k no_place) e ∙ get_or_from_slice_get ps i p no_place is in
    (omega arith, omega arith, ap (λ k. get_or (rows_in ps) k no_row) e ∙ row_read ps i lt ∙ ap row_in (sym (ap (λ k. get_or ps k no_place) e) ∙ at), ap (λ (q : Place). get_or q.links (column - 1) 0) at)

-- a number of no place, which is not above the last
pub no_place_at : (ps : List Place) (at : ℕ) → at ≤ length (rows_in ps) → numbered ps at ≡ None → at ≡ 0
no_place_at ps zero le none = refl
no_place_at ps (suc i) le none = let same = length_rows ps in absurd (none-some (get_or ps i no_place) (sym none ∙ slice_get-get_or ps i no_place (omega arith)))

module _ (ps : List Place) (ends : List Ends) (column b : ℕ) (chained : Chained (rows_in ps) ps ends column) where
  -- the link of a row of the bucket
  pub link_on : (at : ℕ) (p : Place) → numbered ps at ≡ Some p → in_bucket column b (get_or (rows_in ps) (at - 1) no_row) ≡ true → get_or p.links (column - 1) 0 ≡ next_filed (rows_in ps) column b (suc (at - 1))
  link_on at p is here = let l = looked ps column at p is in let low = l.0 in let high = l.1 in sym l.3 ∙ chained.1 b (at - 1) (omega arith) here

  pub from_link : (after : ℕ) (p : Place) → numbered ps after ≡ Some p → in_bucket column b (row_in p) ≡ true → get_or p.links (column - 1) 0 ≡ next_filed (rows_in ps) column b (begins_behind (rows_in ps) column b after)
  from_link after p is here =
      let l = looked ps column after p is in
      let low = l.0 in
      link_on after p is (ap (in_bucket column b) l.2 ∙ here)
      ∙ ap (next_filed (rows_in ps) column b) (let e : suc (after - 1) ≡ after = omega arith in e)
      ∙ sym (ap (next_filed (rows_in ps) column b) (ap (λ o. cond (kept_in_bucket column b o) after 0) (numbered_row ps after ∙ ap (option_map row_in) is) ∙ ap (λ t. cond t after 0) here))

  pub from_head : (after : ℕ) → b < 64 → kept_in_bucket column b (option_map row_in (numbered ps after)) ≡ false → head_in ends column b ≡ next_filed (rows_in ps) column b (begins_behind (rows_in ps) column b after)
  from_head after small out =
      chained.0 b small ∙ sym (ap (next_filed (rows_in ps) column b) (ap (λ t. cond t after 0) (ap (kept_in_bucket column b) (numbered_row ps after) ∙ out)))

-- it begins behind no row above the one asked after, and behind none that is not kept
pub begins_within : (rows : List Built) (column b after : ℕ) → (begins_behind rows column b after ≤ after) × (begins_behind rows column b after ≤ length rows)
begins_within rows column b zero = (omega arith, omega arith)
begins_within rows column b (suc i) =
    ⊎_elim (λ lt. within (kept_in_bucket column b (numbered rows (suc i))) lt) (λ ge. past ge) (cases_lt i (length rows))
  where
    within : (t : Bool) → i < length rows → (cond t (suc i) 0 ≤ suc i) × (cond t (suc i) 0 ≤ length rows)
    within true lt = (omega arith, omega arith)
    within false lt = (omega arith, omega arith)

    past : length rows ≤ i → (begins_behind rows column b (suc i) ≤ suc i) × (begins_behind rows column b (suc i) ≤ length rows)
    past ge =
        let none = ap (λ o. cond (kept_in_bucket column b o) (suc i) 0) (slice_get_past rows i ge) in
        (omega (arith, none), omega (arith, none))
