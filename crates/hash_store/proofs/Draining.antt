-- Draining a key looks once at each row of its bucket.
use Rattle.std.proofs.Common.{◌≡◌, ℕ, zero, suc, ◌+◌, ◌-◌, ◌<◌, ◌≤◌, true, cond, List, length, get_or, Some, None, count_by, Option, sym, refl, ap, ◌∙◌, ⊎_elim, arith}
use Rattle.std.proofs.lemmas.List.{take_all}
use Rattle.std.proofs.lemmas.Option.{slice_get-get_or}
use Rattle.std.proofs.lemmas.Bool.{both_ways, cases_Bool, cases_lt}
use Rattle.cells.specs.declared.types.Cell.{Cell}
use Rattle.stores.specs.Tables.{Built, matches, next_after}
use Rattle.stores.proofs.Next.{next_found}
use Rattle.hash_store.specs.Buckets.{cell_bucket, in_bucket, kept_in_bucket, begins_behind, ends_at, filed_upto, visits}
use Rattle.hash_store.specs.Chains.{no_row}
use Rattle.hash_store.specs.Costs.{on_found, drain_visits, DrainLaw}
use Rattle.hash_store.specs.Steps.{not_filed, filed_skip, filed_more}

-- more rows, no fewer of the bucket
filed_grows : (rows : List Built) (column b lo hi : ℕ) → lo ≤ hi → hi ≤ length rows → filed_upto rows column b lo ≤ filed_upto rows column b hi
filed_grows rows column b lo zero le inside = let e : 0 ≡ lo = omega arith in omega (arith, ap (filed_upto rows column b) e)
filed_grows rows column b lo (suc hi) le inside =
    ⊎_elim
    (λ (lt : lo < suc hi).
    let rest = filed_grows rows column b lo hi (omega arith) (omega arith) in
    ⊎_elim
    (λ here. omega (arith, filed_more rows column b hi (omega arith) here))
    (λ out. omega (arith, filed_skip rows column b hi (suc hi) (omega arith) inside (λ i l u. let e : i ≡ hi = omega arith in ap (λ k. in_bucket column b (get_or rows k no_row)) e ∙ out)))
    (cases_Bool (in_bucket column b (get_or rows hi no_row))))
    (λ (ge : suc hi ≤ lo). let e : lo ≡ suc hi = omega arith in omega (arith, ap (filed_upto rows column b) e))
    (cases_lt lo (suc hi))

module _ (rows : List Built) (column : ℕ) (key : Cell) where
  found_filed : (after n : ℕ) → next_after (matches column key) after rows ≡ Some n → (after < n) × (n ≤ length rows) × (begins_behind rows column (cell_bucket key) n ≡ n)
  found_filed after n e =
      let f = next_found (matches column key) after rows n e in
      let i = f.index in (
        omega (arith, f.is, f.above),
        omega (arith, f.is, f.within),
        ap (begins_behind rows column (cell_bucket key)) f.is
            ∙ ap (λ o. cond (kept_in_bucket column (cell_bucket key) o) (suc i) 0) (slice_get-get_or rows i no_row f.within)
            ∙ ap (λ t. cond t (suc i) 0) (filed i (f.passes no_row))
            ∙ sym f.is,
      )
    where
      filed : (i : ℕ) → matches column key (get_or rows i no_row) ≡ true → in_bucket column (cell_bucket key) (get_or rows i no_row) ≡ true
      filed i h =
          ⊎_elim
          (λ here. here)
          (λ out. absurd (both_ways (matches column key (get_or rows i no_row)) (not_filed column key (get_or rows i no_row) out) h))
          (cases_Bool (in_bucket column (cell_bucket key) (get_or rows i no_row)))

  drained : (questions after : ℕ) → length rows < questions + after → after ≤ length rows → begins_behind rows column (cell_bucket key) after ≡ after
      → drain_visits questions rows column key after + filed_upto rows column (cell_bucket key) after ≡ filed_upto rows column (cell_bucket key) (length rows)
  drained zero after many low from = absurd (let z : ⊥ = omega arith in z)
  drained (suc questions) after many low from =
      go (next_after (matches column key) after rows) refl (λ n l u b. drained questions n (omega arith) u b)
    where
      go : (o : Option ℕ) → next_after (matches column key) after rows ≡ o
          → ((n : ℕ) → after < n → n ≤ length rows → begins_behind rows column (cell_bucket key) n ≡ n
          → drain_visits questions rows column key n + filed_upto rows column (cell_bucket key) n ≡ filed_upto rows column (cell_bucket key) (length rows))
          → visits rows column key after + on_found (next_after (matches column key) after rows) (drain_visits questions rows column key) + filed_upto rows column (cell_bucket key) after ≡ filed_upto rows column (cell_bucket key) (length rows)
      go o e more =
          let b = cell_bucket key in
          let cost : visits rows column key after ≡ filed_upto rows column b (ends_at o rows) - filed_upto rows column b after =
          ap (λ p. filed_upto rows column b (ends_at p rows) - filed_upto rows column b (begins_behind rows column b after)) e
          ∙ ap (λ k. filed_upto rows column b (ends_at o rows) - filed_upto rows column b k) from in
          let rest = ap (λ p. on_found p (drain_visits questions rows column key)) e in
          ap (λ v. v + on_found (next_after (matches column key) after rows) (drain_visits questions rows column key) + filed_upto rows column b after) cost
          ∙ ap (λ v. filed_upto rows column b (ends_at o rows) - filed_upto rows column b after + v + filed_upto rows column b after) rest
          ∙ last o e more
        where
          last : (o : Option ℕ) → next_after (matches column key) after rows ≡ o
              → ((n : ℕ) → after < n → n ≤ length rows → begins_behind rows column (cell_bucket key) n ≡ n
              → drain_visits questions rows column key n + filed_upto rows column (cell_bucket key) n ≡ filed_upto rows column (cell_bucket key) (length rows))
              → filed_upto rows column (cell_bucket key) (ends_at o rows) - filed_upto rows column (cell_bucket key) after + on_found o (drain_visits questions rows column key) + filed_upto rows column (cell_bucket key) after ≡ filed_upto rows column (cell_bucket key) (length rows)
          last None e more =
              let grows = filed_grows rows column (cell_bucket key) after (length rows) low (omega arith) in omega arith
          last (Some n) e more =
              let f = found_filed after n e in
              let above = f.0 in
              let ih = more n f.0 f.1 f.2 in
              let grows = filed_grows rows column (cell_bucket key) after n (omega arith) f.1 in
              omega arith

pub drain_law : DrainLaw
drain_law rows column key =
    let all = drained rows column key (suc (length rows)) 0 (omega arith) (omega arith) refl in
    let none : filed_upto rows column (cell_bucket key) 0 ≡ 0 = refl in
    let whole = ap (count_by (in_bucket column (cell_bucket key))) (take_all (length rows) rows (omega arith)) in
    omega arith
