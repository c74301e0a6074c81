-- A new row's number, written into the ends of chains and into links: what a column's chains then are, and those of the others.
use Rattle.std.specs.Prelude.{◌≡◌, ℕ, suc, ◌+◌, ◌-◌, ◌<◌, ◌≤◌, true, false, List, [], ◌∷◌, ◌++◌, length, get_or, set, ◌≢◌, slice_index, slice_index_or, slice_set, refl}
use Rattle.std.proofs.Common.{sym, ap, subst, ◌∙◌, ⊎_elim, arith}
use Rattle.std.proofs.lemmas.List.{get_or-set_same, get_or-set_other, get_or_past, set-get_or, map-set, get_or-map}
use Rattle.std.proofs.lemmas.Bool.{cases_eq}
use Rattle.stores.specs.Tables.{Built}
use Rattle.hash_store.specs.declared.place.Ends.{Ends}
use Rattle.hash_store.specs.declared.place.Place.{Place}
use Rattle.hash_store.specs.Buckets.{in_bucket, next_filed}
use Rattle.hash_store.specs.Chains.{no_row, no_place, no_ends, row_in, rows_in, slot, head_in, tail_in, link_in, Chained}
use Rattle.hash_store.specs.Rows.{length_rows}
use Rattle.hash_store.specs.Filing.{Filed, heads_none, links_none, tails_none, heads_more, links_more, tails_more}

-- a place whose link in a column is set
abbrev pub relinked : Place → ℕ → ℕ → Place
relinked p column v = record { row = p.row; stamp = p.stamp; links = slice_set p.links (column - 1) v }

pub slot_apart : (c d a b : ℕ) → 0 < c → 0 < d → a < 64 → b < 64 → slot c a ≡ slot d b → (c ≡ d) × (a ≡ b)
slot_apart c d a b pc pd la lb e = (omega arith, omega arith)

pub slot_within : (c b : ℕ) → c ≤ 6 → 0 < c → b < 64 → slot c b < 384
slot_within c b le pos lt = omega arith

-- a column is as it was where its ends and links are
pub chained_same : (rows : List Built) (ps qs : List Place) (ends ends' : List Ends) (d : ℕ)
    → ((b : ℕ) → b < 64 → get_or ends' (slot d b) no_ends ≡ get_or ends (slot d b) no_ends) → ((i : ℕ) → i < length rows → link_in qs d i ≡ link_in ps d i)
    → Chained rows ps ends d → Chained rows qs ends' d
chained_same rows ps qs ends ends' d es ls (h, l, t) = (
  λ b small. ap (λ (e : Ends). e.head) (es b small) ∙ h b small,
  λ b i lt is. ls i lt ∙ l b i lt is,
  λ b small. subst (λ k. (next_filed rows d b k ≡ 0) × (k ≤ length rows) × (0 < k → in_bucket d b (slice_index_or rows (k - 1) no_row) ≡ true)) (sym (ap (λ (e : Ends). e.tail) (es b small))) (t b small),
)

-- ends that are set, seen from another column
pub ends_other : (ends : List Ends) (at c a : ℕ) (v : Ends) (d : ℕ) → at ≡ slot c a → 0 < c → a < 64 → 0 < d → (d ≢ c) → (b : ℕ) → b < 64 → get_or (set ends at v) (slot d b) no_ends ≡ get_or ends (slot d b) no_ends
ends_other ends at c a v d there pc la pd ne b lb = get_or-set_other ends at (slot d b) v no_ends (λ e. ne (slot_apart d c b a pd pc lb la (e ∙ there)).0)

-- a place that is relinked, seen from another place or another column
pub link_elsewhere : (ps : List Place) (j c v d i : ℕ) → (i ≢ j) → link_in (set ps j (relinked (get_or ps j no_place) c v)) d i ≡ link_in ps d i
link_elsewhere ps j c v d i ne = ap (λ (p : Place). slice_index p.links (d - 1)) (get_or-set_other ps j i (relinked (get_or ps j no_place) c v) no_place ne)

pub link_other : (ps : List Place) (j c v d : ℕ) → j < length ps → 0 < c → 0 < d → (d ≢ c) → (i : ℕ) → link_in (set ps j (relinked (get_or ps j no_place) c v)) d i ≡ link_in ps d i
link_other ps j c v d lt pc pd ne i =
    ⊎_elim
    (λ (e : i ≡ j). subst (λ k. link_in (set ps j (relinked (get_or ps j no_place) c v)) d k ≡ link_in ps d k) (sym e)
    (ap (λ (p : Place). slice_index p.links (d - 1)) (get_or-set_same ps j (relinked (get_or ps j no_place) c v) no_place lt)
    ∙ get_or-set_other (get_or ps j no_place).links (c - 1) (d - 1) v 0 (λ e. ne (omega arith))))
    (λ off. link_elsewhere ps j c v d i off)
    (cases_eq i j)

-- links are no part of the rows
pub relinked_rows : (ps : List Place) (j c v : ℕ) → j < length ps → rows_in (set ps j (relinked (get_or ps j no_place) c v)) ≡ rows_in ps
relinked_rows ps j c v lt =
    map-set row_in ps j (relinked (get_or ps j no_place) c v)
    ∙ ap (set (rows_in ps) j) (sym (get_or-map row_in ps j no_place no_row lt)) ∙ set-get_or (rows_in ps) j no_row

-- no place is linked behind the last
no_link : (ps : List Place) (column : ℕ) → link_in ps column (length ps) ≡ 0
no_link ps column = ap (λ (p : Place). slice_index p.links (column - 1)) (get_or_past ps (length ps) no_place (omega arith))

module _ (rows : List Built) (ps : List Place) (ends : List Ends) (column : ℕ) (r : Built) (same : rows ≡ rows_in ps) (pos : 0 < column) (most : column ≤ 6) (old : Chained rows ps ends column) where
  long : length rows ≡ length ps
  long = ap length same ∙ length_rows ps

  -- the row has no cell in the column
  pub chained_none : ((b : ℕ) → in_bucket column b r ≡ false) → Chained (rows ++ r ∷ []) ps ends column
  chained_none none = (
    heads_none rows r column (head_in ends column) (tail_in ends column) (link_in ps column) old.0 old.1 old.2 none,
    links_none rows r column (head_in ends column) (tail_in ends column) (link_in ps column) old.0 old.1 old.2 none,
    tails_none rows r column (head_in ends column) (tail_in ends column) (link_in ps column) old.0 old.1 old.2 none,
  )

  -- a chain that the row is in, whose ends stand at `at`
  module _ (b at : ℕ) (there : at ≡ slot column b) (small : b < 64) where
    ends_are : get_or ends at no_ends ≡ get_or ends (slot column b) no_ends
    ends_are = ap (λ k. get_or ends k no_ends) there

    tail_is : (get_or ends at no_ends).tail ≡ tail_in ends column b
    tail_is = ap (λ (e : Ends). e.tail) ends_are

    pub tail_kept : ((get_or ends at no_ends).tail ≢ 0) → (get_or ends at no_ends).tail - 1 < length ps
    tail_kept some = let low = (old.2 b small).1 in let l = long in let e = tail_is in omega arith

    module _ (here : in_bucket column b r ≡ true) (ends-long : length ends ≡ 384) where
      set_here : (v : Ends) → get_or (set ends at v) (slot column b) no_ends ≡ v
      set_here v = let within = slot_within column b most pos small in ap (λ k. get_or (set ends at v) k no_ends) (sym there) ∙ get_or-set_same ends at v no_ends (omega arith)

      set_other : (v : Ends) (a : ℕ) → a < 64 → (a ≢ b) → get_or (set ends at v) (slot column a) no_ends ≡ get_or ends (slot column a) no_ends
      set_other v a la ne = get_or-set_other ends at (slot column a) v no_ends (λ e. ne (slot_apart column column a b pos pos la small (e ∙ there)).1)

      more : (qs : List Place) (ends' : List Ends)
          → Filed rows r column (head_in ends column) (tail_in ends column) (link_in ps column) old.0 old.1 old.2 b (head_in ends' column) (tail_in ends' column) (link_in qs column)
          → Chained (rows ++ r ∷ []) qs ends' column
      more qs ends' f = (
        heads_more rows r column (head_in ends column) (tail_in ends column) (link_in ps column) old.0 old.1 old.2 b (head_in ends' column) (tail_in ends' column) (link_in qs column) f,
        links_more rows r column (head_in ends column) (tail_in ends column) (link_in ps column) old.0 old.1 old.2 b (head_in ends' column) (tail_in ends' column) (link_in qs column) f,
        tails_more rows r column (head_in ends column) (tail_in ends column) (link_in ps column) old.0 old.1 old.2 b (head_in ends' column) (tail_in ends' column) (link_in qs column) f,
      )

      -- the first of its bucket
      pub chained_first : (get_or ends at no_ends).tail ≡ 0 → Chained (rows ++ r ∷ []) ps (set ends at (record { head = length ps + 1; tail = length ps + 1 })) column
      chained_first z =
          let v : Ends = record { head = length ps + 1; tail = length ps + 1 } in
          let none : tail_in ends column b ≡ 0 = sym tail_is ∙ z in
          let number : length ps + 1 ≡ suc (length rows) = (let l = long in omega arith) in
          more ps (set ends at v) (record {
            small = small;
            here = here;
            head_same = λ a la h. ap (λ (e : Ends). e.head) (set_other v a la (λ e. let k = h e in omega arith));
            head_new = λ e. ap (λ (e : Ends). e.head) (set_here v) ∙ number;
            tail_same = λ a la ne. ap (λ (e : Ends). e.tail) (set_other v a la ne);
            tail_new = ap (λ (e : Ends). e.tail) (set_here v) ∙ number;
            link_same = λ i lt ne. refl;
            link_new = λ p. absurd (let w : ⊥ = omega arith in w);
            link_last = ap (link_in ps column) long ∙ no_link ps column;
          })

      -- behind the last of its bucket
      pub chained_last : length (get_or ps ((get_or ends at no_ends).tail - 1) no_place).links ≡ 6 → ((get_or ends at no_ends).tail ≢ 0)
          → Chained (rows ++ r ∷ []) (set ps ((get_or ends at no_ends).tail - 1) (relinked (get_or ps ((get_or ends at no_ends).tail - 1) no_place) column (length ps + 1))) (set ends at (record { head = (get_or ends at no_ends).head; tail = length ps + 1 })) column
      chained_last six ne =
          let j = (get_or ends at no_ends).tail - 1 in
          let is = tail_is in
          let back : tail_in ends column b - 1 ≡ j = ap (λ t. t - 1) (sym is) in
          let low : tail_in ends column b ≤ length rows = (old.2 b small).1 in
          let l = long in
          let v = length ps + 1 in
          let w : Ends = record { head = (get_or ends at no_ends).head; tail = v } in
          let number : v ≡ suc (length rows) = omega arith in
          let inside : j < length ps = tail_kept ne in
          let qs = set ps j (relinked (get_or ps j no_place) column v) in
          more qs (set ends at w) (record {
            small = small;
            here = here;
            head_same = λ a la h. ⊎_elim
                (λ (e : a ≡ b). subst (λ k. head_in (set ends at w) column k ≡ head_in ends column k) (sym e) (ap (λ (e : Ends). e.head) (set_here w) ∙ ap (λ (e : Ends). e.head) ends_are))
                (λ off. ap (λ (e : Ends). e.head) (set_other w a la off))
                (cases_eq a b);
            head_new = λ e. absurd (ne (is ∙ e));
            tail_same = λ a la off. ap (λ (e : Ends). e.tail) (set_other w a la off);
            tail_new = ap (λ (e : Ends). e.tail) (set_here w) ∙ number;
            link_same = λ i lt off. link_elsewhere ps j column v column i (λ e. off (omega arith));
            link_new = λ p.
                ap (link_in qs column) back
                ∙ ap (λ (q : Place). slice_index q.links (column - 1)) (get_or-set_same ps j (relinked (get_or ps j no_place) column v) no_place inside)
                ∙ get_or-set_same (get_or ps j no_place).links (column - 1) v 0 (omega arith) ∙ number;
            link_last = ap (link_in qs column) long ∙ link_elsewhere ps j column v column (length ps) (λ e. omega arith) ∙ no_link ps column;
          })
