-- A walk along a chain passes over no match, and counts the rows of the bucket.
use Rattle.std.specs.Prelude.{◌≡◌, ℕ, zero, suc, ◌+◌, ◌-◌, ◌<◌, ◌≤◌, true, false, cond, List, length, take, Some, None, Option, ◌==◌, nat_eq, slice_index_or, refl}
use Rattle.std.proofs.Common.{sym, ap, subst, ◌∙◌, ⊎_elim, add-one, arith, length-take}
use Rattle.std.proofs.lemmas.List.{get_or_default}
use Rattle.std.proofs.lemmas.List.Sums.{count_by_more_yes, count_by_more_no, count_by-le-length}
use Rattle.std.proofs.lemmas.Bool.{both_ways, eq-eqb, ne_eqb, cases_Bool, cases_lt, cases_eq}
use Rattle.basis.specs.Lists.{numbered}
use Rattle.cells.specs.declared.types.Cell.{Cell}
use Rattle.keys.specs.Keys.{same_cell}
use Rattle.keys.specs.CellOrder.{same_cell_decides}
use Rattle.stores.specs.Tables.{Built, is_cell, matches, next_after}
use Rattle.stores.proofs.Next.{next_found, next_is, next_none, next_is_none, next_skip}
use Rattle.hash_store.specs.Buckets.{cell_bucket, is_filed, in_bucket, or_zero, next_filed, filed_upto}
use Rattle.hash_store.specs.Chains.{no_row}

-- a row of another bucket does not match
cell_not_filed : (o : Option Cell) (key : Cell) → is_filed o (cell_bucket key) ≡ false → is_cell o key ≡ false
cell_not_filed None key h = refl
cell_not_filed (Some x) key h =
    ⊎_elim
    (λ same. absurd (both_ways (cell_bucket x == cell_bucket key) h (eq-eqb (cell_bucket x) (cell_bucket key) (ap cell_bucket ((same_cell_decides x key).0 same)))))
    (λ other. other)
    (cases_Bool (same_cell x key))

pub not_filed : (column : ℕ) (key : Cell) (row : Built) → in_bucket column (cell_bucket key) row ≡ false → matches column key row ≡ false
not_filed column key row h = cell_not_filed (numbered row.cells column) key h

module _ (rows : List Built) (column b : ℕ) where
  -- rows of other buckets do not count
  pub filed_skip : (lo hi : ℕ) → lo ≤ hi → hi ≤ length rows → ((i : ℕ) → lo ≤ i → i < hi → in_bucket column b (slice_index_or rows i no_row) ≡ false) → filed_upto rows column b hi ≡ filed_upto rows column b lo
  filed_skip lo zero le in_List out = let e : 0 ≡ lo = omega arith in ap (filed_upto rows column b) e
  filed_skip lo (suc hi) le in_List out =
      ⊎_elim
      (λ (lt : lo < suc hi).
      ap (filed_upto rows column b) (sym (add-one hi))
      ∙ count_by_more_no (in_bucket column b) rows hi no_row (omega arith) (out hi (omega arith) (omega arith))
      ∙ filed_skip lo hi (omega arith) (omega arith) (λ i l u. out i l (omega arith)))
      (λ (ge : suc hi ≤ lo). let e : suc hi ≡ lo = omega arith in ap (filed_upto rows column b) e)
      (cases_lt lo (suc hi))

  pub filed_more : (i : ℕ) → i < length rows → in_bucket column b (slice_index_or rows i no_row) ≡ true → filed_upto rows column b (suc i) ≡ filed_upto rows column b i + 1
  filed_more i lt h = ap (filed_upto rows column b) (sym (add-one i)) ∙ count_by_more_yes (in_bucket column b) rows i no_row lt h

module _ (rows : List Built) (column : ℕ) (key : Cell) (after behind : ℕ) where
  -- how far a walk has come: `at` is the next row to look at, and no row before it that counts matches
  pub record Walk (at visited : ℕ) : Type 0 where
    pub low : at ≤ length rows
    pub none : at ≡ 0 → next_after (matches column key) after rows ≡ None
    pub some : after < at → next_after (matches column key) after rows ≡ next_after (matches column key) (at - 1) rows
    pub here : 0 < at → in_bucket column (cell_bucket key) (slice_index_or rows (at - 1) no_row) ≡ true
    pub seen : 0 < at → visited + filed_upto rows column (cell_bucket key) behind ≡ filed_upto rows column (cell_bucket key) (at - 1)
    pub all : at ≡ 0 → visited + filed_upto rows column (cell_bucket key) behind ≡ filed_upto rows column (cell_bucket key) (length rows)

  pub walk_few : (at visited : ℕ) → Walk at visited → 0 < at → visited < at
  walk_few at visited w pos =
      let most = count_by-le-length (in_bucket column (cell_bucket key)) (take (at - 1) rows) in
      omega (arith, w.seen pos, most, length-take (at - 1) rows)

  -- from the first lo rows on to the next of the bucket
  pub walk_from : (lo y visited : ℕ) → lo ≤ length rows → (after ≤ lo → next_after (matches column key) after rows ≡ next_after (matches column key) lo rows)
      → visited + filed_upto rows column (cell_bucket key) behind ≡ filed_upto rows column (cell_bucket key) lo
      → y ≡ next_filed rows column (cell_bucket key) lo → Walk y visited
  walk_from lo y visited inside same count e = go (next_after (in_bucket column (cell_bucket key)) lo rows) refl
    where
      go : (o : Option ℕ) → next_after (in_bucket column (cell_bucket key)) lo rows ≡ o → Walk y visited
      go None h =
          let zero_is : y ≡ 0 = e ∙ ap or_zero h in
          let out = next_none (in_bucket column (cell_bucket key)) lo rows h in
          let matchless = λ (i : ℕ) (d : Built) (l : lo ≤ i) (u : i < length rows). not_filed column key (slice_index_or rows i d) (out i d l u) in
          let skipped = filed_skip rows column (cell_bucket key) lo (length rows) inside (omega arith) (λ i l u. out i no_row l u) in
          record {
            low = omega arith;
            none = λ z. ⊎_elim
                (λ (lt : lo < after). next_is_none (matches column key) after rows (λ i d l u. matchless i d (omega arith) u))
                (λ ge. same ge ∙ next_is_none (matches column key) lo rows matchless)
                (cases_lt lo after);
            some = λ l. absurd (let z : ⊥ = omega arith in z);
            here = λ l. absurd (let z : ⊥ = omega arith in z);
            seen = λ l. absurd (let z : ⊥ = omega arith in z);
            all = λ z. count ∙ sym skipped;
          }
      go (Some m) h =
          let f = next_found (in_bucket column (cell_bucket key)) lo rows m h in
          let i = f.index in
          let is : y ≡ suc i = e ∙ ap or_zero h ∙ f.is in
          let back : y - 1 ≡ i = omega arith in
          let within = f.within in
          let above = f.above in
          let matchless = λ (j : ℕ) (d : Built) (l : lo ≤ j) (u : j < i). not_filed column key (slice_index_or rows j d) (f.before j d l u) in
          let skipped = filed_skip rows column (cell_bucket key) lo i above (omega arith) (λ j l u. f.before j no_row l u) in
          record {
            low = omega arith;
            none = λ z. absurd (let z : ⊥ = omega arith in z);
            some = λ l. ⊎_elim
                (λ (lt : lo < after). next_skip (matches column key) after i rows (omega arith) (λ j d l u v. matchless j d (omega arith) u))
                (λ ge. same ge ∙ next_skip (matches column key) lo i rows above (λ j d l u v. matchless j d l u))
                (cases_lt lo after)
                ∙ ap (λ k. next_after (matches column key) k rows) (sym back);
            here = λ l. ap (λ k. in_bucket column (cell_bucket key) (slice_index_or rows k no_row)) back ∙ f.passes no_row;
            seen = λ l. count ∙ sym skipped ∙ ap (filed_upto rows column (cell_bucket key)) (sym back);
            all = λ z. absurd (let z : ⊥ = omega arith in z);
          }

  -- the row looked at does not count: on to its link
  pub walk_more : (at visited y : ℕ) → Walk at visited → 0 < at → (after < at → matches column key (slice_index_or rows (at - 1) no_row) ≡ false)
      → y ≡ next_filed rows column (cell_bucket key) (suc (at - 1)) → Walk y (visited + 1)
  walk_more at visited y w pos out e =
      let i = at - 1 in
      let low = w.low in
      let inside : i < length rows = omega arith in
      let next-is-one : suc i ≡ at = omega arith in
      let more = filed_more rows column (cell_bucket key) i inside (w.here pos) in
      walk_from (suc i) y (visited + 1) (omega arith)
      (λ le. ⊎_elim
      (λ (lt : after < at). w.some lt ∙ next_skip (matches column key) i (suc i) rows (omega arith) (λ j d l u v. here i (out lt) j d l u v))
      (λ ge. let equal : after ≡ suc i = omega arith in ap (λ k. next_after (matches column key) k rows) equal)
      (cases_lt after at))
      (omega (arith, w.seen pos))
      e
    where
      here : (i : ℕ) → matches column key (slice_index_or rows i no_row) ≡ false → (j : ℕ) (d : Built) → i ≤ j → j < suc i → j < length rows → matches column key (slice_index_or rows j d) ≡ false
      here i out j d l u v =
          let equal : j ≡ i = omega arith in
          ap (matches column key) (get_or_default rows j d no_row v) ∙ ap (λ k. matches column key (slice_index_or rows k no_row)) equal ∙ out

  -- the row looked at matches
  pub walk_found : (at visited : ℕ) → Walk at visited → after < at → matches column key (slice_index_or rows (at - 1) no_row) ≡ true
      → (next_after (matches column key) after rows ≡ Some at) × (visited + 1 + filed_upto rows column (cell_bucket key) behind ≡ filed_upto rows column (cell_bucket key) at)
  walk_found at visited w above h =
      let i = at - 1 in
      let low = w.low in
      let inside : i < length rows = omega arith in
      let is : at ≡ suc i = omega arith in
      let more = filed_more rows column (cell_bucket key) i inside (w.here (omega arith)) in (
        w.some above ∙ next_is (matches column key) i rows at (record {
          index = i;
          is = is;
          above = omega arith;
          within = inside;
          passes = λ d. ap (matches column key) (get_or_default rows i d no_row inside) ∙ h;
          before = λ j d l u. absurd (let z : ⊥ = omega arith in z);
        }),
        omega (arith, w.seen (omega arith), more) ∙ ap (filed_upto rows column (cell_bucket key)) (sym is),
      )

-- the next of a bucket is above the row asked after
pub next_filed_above : (rows : List Built) (column b lo y : ℕ) → y ≡ next_filed rows column b lo → 0 < y → lo < y
next_filed_above rows column b lo y e pos = go (next_after (in_bucket column b) lo rows) refl
  where
    go : (o : Option ℕ) → next_after (in_bucket column b) lo rows ≡ o → lo < y
    go None h = let z = e ∙ ap or_zero h in absurd (let w : ⊥ = omega arith in w)
    go (Some m) h =
        let f = next_found (in_bucket column b) lo rows m h in
        let z = e ∙ ap or_zero h in
        omega (arith, f.is, f.above)

pub next_filed_kept : (rows : List Built) (column b lo y : ℕ) → y ≡ next_filed rows column b lo → y ≤ length rows
next_filed_kept rows column b lo y e = go (next_after (in_bucket column b) lo rows) refl
  where
    go : (o : Option ℕ) → next_after (in_bucket column b) lo rows ≡ o → y ≤ length rows
    go None h = let z = e ∙ ap or_zero h in omega arith
    go (Some m) h =
        let f = next_found (in_bucket column b) lo rows m h in
        let z = e ∙ ap or_zero h in
        omega (arith, f.is, f.within)

-- the measure of a walk falls
pub later : (n at y : ℕ) → 0 < at → (0 < y → (at < y) × (y ≤ n)) → cond (y == 0) 0 (suc (n - y)) < cond (at == 0) 0 (suc (n - at))
later n at y pos h =
    let full : nat_eq at 0 ≡ false = ne_eqb at 0 (λ e. omega arith) in
    subst (λ b. cond (y == 0) 0 (suc (n - y)) < cond b 0 (suc (n - at))) (sym full)
    (⊎_elim
    (λ (e : y ≡ 0). subst (λ b. cond b 0 (suc (n - y)) < suc (n - at)) (sym (eq-eqb y 0 e)) (omega arith))
    (λ ne. let k = h (omega arith) in
    let far = k.0 in
    let low = k.1 in
    subst (λ b. cond b 0 (suc (n - y)) < suc (n - at)) (sym (ne_eqb y 0 ne)) (omega arith))
    (cases_eq y 0))
