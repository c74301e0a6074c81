-- One more row in the chains of a column.
use Rattle.std.specs.Prelude.{◌≡◌, ℕ, suc, ◌-◌, ◌<◌, ◌≤◌, true, false, cond, List, [], ◌∷◌, ◌++◌, length, Some, None, Option, ◌≢◌, slice_index_or, refl}
use Rattle.std.proofs.Common.{sym, ap, subst, ◌∙◌, ⊎_elim, arith}
use Rattle.std.proofs.lemmas.List.{get_or_append_left, get_or_push, length_push}
use Rattle.std.proofs.lemmas.Bool.{both_ways, eqb-true, cases_Bool, cases_eq, cases_lt}
use Rattle.basis.specs.Lists.{numbered}
use Rattle.cells.specs.declared.types.Cell.{Cell}
use Rattle.stores.specs.Tables.{Built, next_after}
use Rattle.stores.proofs.Next.{next_none, next_is_none, next_append, next_push}
use Rattle.hash_store.specs.Buckets.{cell_bucket, is_filed, in_bucket, or_zero, next_filed}
use Rattle.hash_store.specs.Chains.{no_row, Heads, Links, Tails}
use Rattle.hash_store.specs.Zero.{zero_none}

-- a cell is of one bucket
cell_one_bucket : (o : Option Cell) (a b : ℕ) → is_filed o a ≡ true → is_filed o b ≡ true → b ≡ a
cell_one_bucket None a b h k = absurd (both_ways false refl h)
cell_one_bucket (Some x) a b h k = sym (eqb-true (cell_bucket x) b k) ∙ eqb-true (cell_bucket x) a h

pub one_bucket : (column a b : ℕ) (row : Built) → in_bucket column a row ≡ true → in_bucket column b row ≡ true → b ≡ a
one_bucket column a b row = cell_one_bucket (numbered row.cells column) a b

module _ (rows : List Built) (column b : ℕ) where
  pub none_filed : (k i : ℕ) → next_filed rows column b k ≡ 0 → k ≤ i → i < length rows → in_bucket column b (slice_index_or rows i no_row) ≢ true
  none_filed k i h le lt is =
      both_ways (in_bucket column b (slice_index_or rows i no_row)) (next_none (in_bucket column b) k rows (zero_none (in_bucket column b) k rows h) i no_row le lt) is

  module _ (r : Built) where
    -- the new row is of another bucket
    pub push_other : (k : ℕ) → k ≤ length rows → in_bucket column b r ≡ false → next_filed (rows ++ r ∷ []) column b k ≡ next_filed rows column b k
    push_other k le out = go (next_after (in_bucket column b) k rows) refl
      where
        go : (o : Option ℕ) → next_after (in_bucket column b) k rows ≡ o → next_filed (rows ++ r ∷ []) column b k ≡ next_filed rows column b k
        go None e =
            ap or_zero (next_push (in_bucket column b) k rows r le e ∙ ap (λ t. cond t (Some (suc (length rows))) None) out) ∙ sym (ap or_zero e)
        go (Some m) e = ap or_zero (next_append (in_bucket column b) k rows (r ∷ []) m e) ∙ sym (ap or_zero e)

    -- the new row is the first of the bucket above k
    pub push_first : (k : ℕ) → k ≤ length rows → in_bucket column b r ≡ true → next_filed rows column b k ≡ 0 → next_filed (rows ++ r ∷ []) column b k ≡ suc (length rows)
    push_first k le here h =
        ap or_zero (next_push (in_bucket column b) k rows r le (zero_none (in_bucket column b) k rows h) ∙ ap (λ t. cond t (Some (suc (length rows))) None) here)

    -- it is not, since an old row is
    pub push_later : (k i : ℕ) → k ≤ i → i < length rows → in_bucket column b (slice_index_or rows i no_row) ≡ true → next_filed (rows ++ r ∷ []) column b k ≡ next_filed rows column b k
    push_later k i le lt is = go (next_after (in_bucket column b) k rows) refl
      where
        go : (o : Option ℕ) → next_after (in_bucket column b) k rows ≡ o → next_filed (rows ++ r ∷ []) column b k ≡ next_filed rows column b k
        go None e = absurd (none_filed k i (ap or_zero e) le lt is)
        go (Some m) e = ap or_zero (next_append (in_bucket column b) k rows (r ∷ []) m e) ∙ sym (ap or_zero e)

    pub push_end : next_filed (rows ++ r ∷ []) column b (suc (length rows)) ≡ 0
    push_end =
        let long = length_push rows r in
        ap or_zero (next_is_none (in_bucket column b) (suc (length rows)) (rows ++ r ∷ []) (λ i d l u. absurd (let z : ⊥ = omega arith in z)))

    old_row : (i : ℕ) → i < length rows → in_bucket column b (slice_index_or (rows ++ r ∷ []) i no_row) ≡ in_bucket column b (slice_index_or rows i no_row)
    old_row i lt = ap (in_bucket column b) (get_or_append_left rows (r ∷ []) no_row i lt)

    new_row : in_bucket column b (slice_index_or (rows ++ r ∷ []) (length rows) no_row) ≡ in_bucket column b r
    new_row = ap (in_bucket column b) (get_or_push rows r no_row (length rows) refl)

module _ (rows : List Built) (r : Built) (column : ℕ) (head tail link : ℕ → ℕ) (heads : Heads rows column head) (links : Links rows column link) (tails : Tails rows column tail) where
  -- a row with no cell in the column
  module _ (none : (b : ℕ) → in_bucket column b r ≡ false) where
    pub heads_none : Heads (rows ++ r ∷ []) column head
    heads_none b small = heads b small ∙ sym (push_other rows column b r 0 (omega arith) (none b))

    pub links_none : Links (rows ++ r ∷ []) column link
    links_none b i lt is =
        let long = length_push rows r in
        ⊎_elim
        (λ (old : i < length rows). links b i old (sym (old_row rows column b r i old) ∙ is) ∙ sym (push_other rows column b r (suc i) (omega arith) (none b)))
        (λ new. let e : i ≡ length rows = omega arith in
        absurd (both_ways (in_bucket column b r) (none b) (sym (new_row rows column b r) ∙ ap (λ k. in_bucket column b (slice_index_or (rows ++ r ∷ []) k no_row)) (sym e) ∙ is)))
        (cases_lt i (length rows))

    pub tails_none : Tails (rows ++ r ∷ []) column tail
    tails_none b small =
        let t = tails b small in
        let low = t.1 in
        let long = length_push rows r in (
          push_other rows column b r (tail b) low (none b) ∙ t.0,
          omega arith,
          λ pos. old_row rows column b r (tail b - 1) (omega arith) ∙ t.2 pos,
        )

  -- a row of the bucket b, whose number becomes the tail, the last tail's link, or else the head
  pub record Filed (b : ℕ) (head' tail' link' : ℕ → ℕ) : Type 0 where
    pub small : b < 64
    pub here : in_bucket column b r ≡ true
    pub head_same : (a : ℕ) → a < 64 → (a ≡ b → 0 < tail b) → head' a ≡ head a
    pub head_new : tail b ≡ 0 → head' b ≡ suc (length rows)
    pub tail_same : (a : ℕ) → a < 64 → (a ≢ b) → tail' a ≡ tail a
    pub tail_new : tail' b ≡ suc (length rows)
    pub link_same : (i : ℕ) → i < length rows → (suc i ≢ tail b) → link' i ≡ link i
    pub link_new : 0 < tail b → link' (tail b - 1) ≡ suc (length rows)
    pub link_last : link' (length rows) ≡ 0

  module _ (b : ℕ) (head' tail' link' : ℕ → ℕ) (f : Filed b head' tail' link') where
    other : (a : ℕ) → (a ≢ b) → in_bucket column a r ≡ false
    other a ne = ⊎_elim (λ is. absurd (ne (one_bucket column b a r f.here is))) (λ out. out) (cases_Bool (in_bucket column a r))

    last_row : 0 < tail b → in_bucket column b (slice_index_or rows (tail b - 1) no_row) ≡ true
    last_row pos = (tails b f.small).2 pos

    pub heads_more : Heads (rows ++ r ∷ []) column head'
    heads_more a small =
        ⊎_elim
        (λ (same : a ≡ b). subst (λ k. head' k ≡ next_filed (rows ++ r ∷ []) column k 0) (sym same) (⊎_elim first later (cases_eq (tail b) 0)))
        (λ ne. f.head_same a small (λ e. absurd (ne e)) ∙ heads a small ∙ sym (push_other rows column a r 0 (omega arith) (other a ne)))
        (cases_eq a b)
      where
        first : tail b ≡ 0 → head' b ≡ next_filed (rows ++ r ∷ []) column b 0
        first z = f.head_new z ∙ sym (push_first rows column b r 0 (omega arith) f.here (ap (next_filed rows column b) (sym z) ∙ (tails b f.small).0))

        later : (tail b ≢ 0) → head' b ≡ next_filed (rows ++ r ∷ []) column b 0
        later ne =
            let pos : 0 < tail b = omega arith in
            let low = (tails b f.small).1 in
            f.head_same b f.small (λ e. pos) ∙ heads b f.small ∙ sym (push_later rows column b r 0 (tail b - 1) (omega arith) (omega arith) (last_row pos))

    pub tails_more : Tails (rows ++ r ∷ []) column tail'
    tails_more a small =
        ⊎_elim
        (λ (same : a ≡ b). subst (λ k. (next_filed (rows ++ r ∷ []) column k (tail' k) ≡ 0) × (tail' k ≤ length (rows ++ r ∷ [])) × (0 < tail' k → in_bucket column k (slice_index_or (rows ++ r ∷ []) (tail' k - 1) no_row) ≡ true)) (sym same) here)
        (λ ne. subst (λ k. (next_filed (rows ++ r ∷ []) column a k ≡ 0) × (k ≤ length (rows ++ r ∷ [])) × (0 < k → in_bucket column a (slice_index_or (rows ++ r ∷ []) (k - 1) no_row) ≡ true)) (sym (f.tail_same a small ne)) (tails_other a small ne))
        (cases_eq a b)
      where
        here : (next_filed (rows ++ r ∷ []) column b (tail' b) ≡ 0) × (tail' b ≤ length (rows ++ r ∷ [])) × (0 < tail' b → in_bucket column b (slice_index_or (rows ++ r ∷ []) (tail' b - 1) no_row) ≡ true)
        here =
            let long = length_push rows r in
            let new = f.tail_new in
            let back : tail' b - 1 ≡ length rows = omega arith in (
              ap (next_filed (rows ++ r ∷ []) column b) new ∙ push_end rows column b r,
              omega arith,
              λ pos. ap (λ k. in_bucket column b (slice_index_or (rows ++ r ∷ []) k no_row)) back ∙ new_row rows column b r ∙ f.here,
            )

        tails_other : (a : ℕ) → a < 64 → (a ≢ b) → (next_filed (rows ++ r ∷ []) column a (tail a) ≡ 0) × (tail a ≤ length (rows ++ r ∷ [])) × (0 < tail a → in_bucket column a (slice_index_or (rows ++ r ∷ []) (tail a - 1) no_row) ≡ true)
        tails_other a small ne =
            let t = tails a small in
            let low = t.1 in
            let long = length_push rows r in (
              push_other rows column a r (tail a) low (other a ne) ∙ t.0,
              omega arith,
              λ pos. old_row rows column a r (tail a - 1) (omega arith) ∙ t.2 pos,
            )

    pub links_more : Links (rows ++ r ∷ []) column link'
    links_more a i lt is =
        let long = length_push rows r in
        ⊎_elim
        (λ (old : i < length rows). old_link a i old (sym (old_row rows column a r i old) ∙ is))
        (λ new. let e : i ≡ length rows = omega arith in
        subst (λ k. link' k ≡ next_filed (rows ++ r ∷ []) column a (suc k)) (sym e) (f.link_last ∙ sym (push_end rows column a r)))
        (cases_lt i (length rows))
      where
        -- a row of the bucket lies at the tail or below it
        at_tail : (i : ℕ) → i < length rows → in_bucket column b (slice_index_or rows i no_row) ≡ true → suc i ≤ tail b
        at_tail i old is =
            ⊎_elim
            (λ (above : tail b < suc i). absurd (none_filed rows column b (tail b) i (tails b f.small).0 (omega arith) old is))
            (λ le. le)
            (cases_lt (tail b) (suc i))

        same_bucket : (i : ℕ) → i < length rows → in_bucket column b (slice_index_or rows i no_row) ≡ true → link' i ≡ next_filed (rows ++ r ∷ []) column b (suc i)
        same_bucket i old is =
            let le = at_tail i old is in
            let low = (tails b f.small).1 in
            ⊎_elim
            (λ (e : suc i ≡ tail b).
            let back : i ≡ tail b - 1 = omega arith in
            ap link' back ∙ f.link_new (omega arith) ∙ sym (push_first rows column b r (suc i) (omega arith) f.here (ap (next_filed rows column b) e ∙ (tails b f.small).0)))
            (λ ne.
            let pos : 0 < tail b = omega arith in
            f.link_same i old ne ∙ links b i old is ∙ sym (push_later rows column b r (suc i) (tail b - 1) (omega arith) (omega arith) (last_row pos)))
            (cases_eq (suc i) (tail b))

        old_link : (a i : ℕ) → i < length rows → in_bucket column a (slice_index_or rows i no_row) ≡ true → link' i ≡ next_filed (rows ++ r ∷ []) column a (suc i)
        old_link a i old is =
            ⊎_elim
            (λ (same : a ≡ b). subst (λ k. link' i ≡ next_filed (rows ++ r ∷ []) column k (suc i)) (sym same) (same_bucket i old (subst (λ k. in_bucket column k (slice_index_or rows i no_row) ≡ true) same is)))
            (λ ne.
            f.link_same i old (λ e. ne (off_tail a i old is e)) ∙ links a i old is ∙ sym (push_other rows column a r (suc i) (omega arith) (other a ne)))
            (cases_eq a b)
          where
            -- the last tail is a row of its own bucket only
            off_tail : (a i : ℕ) → i < length rows → in_bucket column a (slice_index_or rows i no_row) ≡ true → suc i ≡ tail b → a ≡ b
            off_tail a i old is e =
                let back : tail b - 1 ≡ i = omega arith in
                one_bucket column b a (slice_index_or rows i no_row) (ap (λ k. in_bucket column b (slice_index_or rows k no_row)) (sym back) ∙ last_row (omega arith)) is
