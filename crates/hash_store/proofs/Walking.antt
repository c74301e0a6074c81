-- A walk in an index: a place that it looks at, and its end.
use Rattle.std.proofs.Common.{◌≡◌, ℕ, suc, ◌+◌, ◌-◌, ◌<◌, true, false, cond, ◌==◌, get_or, Some, None, vec_items, vec_len, sym, ap, ◌∙◌, arith}
use Rattle.basis.specs.Lists.{numbered}
use Rattle.cells.specs.declared.types.Cell.{Cell}
use Rattle.stores.specs.Tables.{matches, next_after}
use Rattle.hash_store.specs.declared.place.Place.{Place}
use Rattle.hash_store.specs.declared.index.TableIndex.{TableIndex}
use Rattle.hash_store.specs.Buckets.{cell_bucket, next_filed, begins_behind, filed_upto, ends_at, visits}
use Rattle.hash_store.specs.Chains.{row_in, IsColumn}
use Rattle.hash_store.specs.Indexes.{table_of}
use Rattle.hash_store.specs.Indexed.{rows_counted, chains}
use Rattle.hash_store.specs.Answering.{visited_is}
use Rattle.hash_store.specs.Steps.{Walk, walk_from, walk_more, walk_found, next_filed_above, next_filed_kept, later}
use Rattle.hash_store.proofs.Looking.{looked, no_place_at, link_on, begins_within}

-- how far a question's walk has come
abbrev pub Walked : TableIndex → ℕ → Cell → ℕ → ℕ → ℕ → Type 0
Walked x column key after at visited = Walk (table_of x).rows column key after (begins_behind (table_of x).rows column (cell_bucket key) after) at visited

module _ (x : TableIndex) (column : ℕ) (key : Cell) (after : ℕ) where
  pub begun : (at : ℕ) → at ≡ next_filed (table_of x).rows column (cell_bucket key) (begins_behind (table_of x).rows column (cell_bucket key) after) → Walked x column key after at 0
  begun at is =
      let rows = (table_of x).rows in
      let behind = begins_behind rows column (cell_bucket key) after in
      let within = begins_within rows column (cell_bucket key) after in
      let low = within.0 in
      walk_from rows column key after behind behind at 0 within.1
      (λ le. let equal : after ≡ behind = omega arith in ap (λ k. next_after (matches column key) k rows) equal)
      (omega arith) is

  module _ (at visited : ℕ) (w : Walked x column key after at visited) where
    pub ended : numbered (vec_items x.places) at ≡ None → (None ≡ next_after (matches column key) after (table_of x).rows) × (visited ≡ visits (table_of x).rows column key after)
    ended read =
        let rows = (table_of x).rows in
        let end = no_place_at (vec_items x.places) at w.low read in (
          sym (w.none end),
          visited_is rows column key after visited (w.all end ∙ sym (ap (λ o. filed_upto rows column (cell_bucket key) (ends_at o rows)) (w.none end))),
        )

    module _ (p : Place) (read : numbered (vec_items x.places) at ≡ Some p) where
      pub found : after < at → matches column key (row_in p) ≡ true → (Some at ≡ next_after (matches column key) after (table_of x).rows) × (visited + 1 ≡ visits (table_of x).rows column key after)
      found above hit =
          let rows = (table_of x).rows in
          let l = looked (vec_items x.places) column at p read in
          let f = walk_found rows column key after _ at visited w above (ap (matches column key) l.2 ∙ hit) in
          (sym f.0, visited_is rows column key after (visited + 1) (f.1 ∙ sym (ap (λ o. filed_upto rows column (cell_bucket key) (ends_at o rows)) f.0)))

      module _ (is : IsColumn column) where
        on : get_or p.links (column - 1) 0 ≡ next_filed (table_of x).rows column (cell_bucket key) (suc (at - 1))
        on =
            let l = looked (vec_items x.places) column at p read in
            link_on (vec_items x.places) x.ends column (cell_bucket key) (chains x column is) at p read (w.here l.0)

        pub passed : (after < at → matches column key (row_in p) ≡ false) → Walked x column key after (get_or p.links (column - 1) 0) (visited + 1)
        passed out =
            let l = looked (vec_items x.places) column at p read in
            walk_more (table_of x).rows column key after _ at visited _ w l.0 (λ lt. ap (matches column key) l.2 ∙ out lt) on

        -- the link leads to a later row, or to none
        pub closer : let y = get_or p.links (column - 1) 0 in cond (y == 0) 0 (suc (vec_len x.places - y)) < cond (at == 0) 0 (suc (vec_len x.places - at))
        closer =
            let rows = (table_of x).rows in
            let some = (looked (vec_items x.places) column at p read).0 in
            let y = get_or p.links (column - 1) 0 in
            let low = next_filed_kept rows column (cell_bucket key) (suc (at - 1)) y on in
            let many = rows_counted x in
            later (vec_len x.places) at y some (λ pos. let far = next_filed_above rows column (cell_bucket key) (suc (at - 1)) y on pos in (omega arith, omega arith))
