-- What a step with one tuple does to what is owed.
use Rattle.std.proofs.Common.{◌≡◌, ℕ, ◌+◌, ◌<◌, ◌≤◌, Bool, true, false, cond, not, ◌&&◌, ◌||◌, eqb, ltb, ◌⊎◌, List, [], ◌∷◌, length, get_or, Some, None, Option, sym, refl, ap, ◌∙◌, subst, ap₂, inl, inr, ⊎_elim, add-zero, arith, get_or-set_other, get_or-set_same}
use Rattle.std.specs.List.{AllByRecursion}
use Rattle.std.proofs.lemmas.Bool.{and_parts, and_from, or_left, cases_eq, cases_lt, cond-true, cond-false, not_from_false, eqb-true, eq-eqb, ne_eqb, ltb-true, ltb-false, lt-ltb, le-ltb}
use Rattle.std.proofs.lemmas.List.{get_or_past}
use Rattle.basis.specs.Lists.{all, upto}
use Rattle.cells.specs.declared.types.Cell.{Cell}
use Rattle.keys.specs.Keys.{same_cell}
use Rattle.keys.specs.CellOrder.{same_cell_decides}
use Rattle.query.specs.Queries.{Query}
use Rattle.query.specs.declared.types.Join.{Join}
use Rattle.stores.specs.Tables.{Table, count_at, next_row}
use Rattle.algebra.specs.Algebra.{Relations}
use Rattle.algebra.specs.Meets.{join_holds}
use Rattle.rules.specs.Lists.{bit, times}
use Rattle.rules.specs.Moves.{tables, spans, left_link, right_link, links, some_link, in_state, joined, link_holds, matched, found, answered, link_key, probed}
use Rattle.rules.specs.Reads.{relations_of, kept_cell, seen_cell, rows_read, stamp_of_row}
use Rattle.rules.specs.declared.types.Link.{Link}
use Rattle.rules.specs.declared.types.State.TheVariants.{Idle, Probing}
use Rattle.rules.specs.declared.types.Tuple.{Tuple}
use Rattle.law.proofs.Fits.{SeenSo}
use Rattle.law.specs.Histories.{after}
use Rattle.law.specs.Law.{beyond, agrees, owes}
use Rattle.rules.proofs.Asked.{next_some, next_none}
use Rattle.rules.proofs.Shaped.{Inside}
use Rattle.rules.proofs.Uptos.{clash, upto_all, but, or_other, upto_at, but_ext, and_false}

pub same_cell_sym : (a b : Cell) → same_cell a b ≡ true → same_cell b a ≡ true
same_cell_sym a b h = (same_cell_decides b a).1 (sym ((same_cell_decides a b).0 h))

pub spans_row : (rows : List ℕ) (t : ℕ) → spans rows t ≡ true → 0 < get_or rows t 0
spans_row rows t h = ltb-true 0 (get_or rows t 0) h

pub spans_none : (rows : List ℕ) (t : ℕ) → spans rows t ≡ false → get_or rows t 0 ≡ 0
spans_none rows t h = omega (arith, ltb-false 0 (get_or rows t 0) h)

pub span_below : (rows : List ℕ) (t : ℕ) → spans rows t ≡ true → t < length rows
span_below rows t h =
    ⊎_elim (λ l. l) (λ g. let z = get_or_past rows t 0 g in let p = spans_row rows t h in omega arith) (cases_lt t (length rows))

-- the combination has the tuple's rows where it spans
abbrev pub Along : List ℕ → List ℕ → Type 0
Along rows c = (t : ℕ) → spans rows t ≡ true → get_or c t 0 ≡ get_or rows t 0

abbrev pub others : Query → List Table → List ℕ → Tuple → ℕ → Bool
others q ts c x t = upto (tables q) (but t (λ u. agrees ts (in_state x Idle) u (get_or c u 0)))

module _ (q : Query) (ts : List Table) (c : List ℕ) (x : Tuple) (t : ℕ) (low : t < tables q) (un : spans x.rows t ≡ false) where
  pub owes_probing : (after : ℕ) → owes q ts c (in_state x (Probing t after)) ≡ ((ltb (stamp_of_row ts t (get_or c t 0)) x.driver && ltb after (get_or c t 0)) && others q ts c x t)
  unfolding owes
  owes_probing after =
      upto_at (tables q) t (λ u. agrees ts (in_state x (Probing t after)) u (get_or c u 0)) low
      ∙ ap₂ ◌&&◌
      (cond-false (spans x.rows t) (eqb (get_or c t 0) (get_or x.rows t 0)) (ltb (stamp_of_row ts t (get_or c t 0)) x.driver && beyond (Probing t after) t (get_or c t 0)) un
      ∙ ap (λ b. ltb (stamp_of_row ts t (get_or c t 0)) x.driver && (not b || ltb after (get_or c t 0))) (eq-eqb t t refl))
      (but_ext (tables q) t (λ u. agrees ts (in_state x (Probing t after)) u (get_or c u 0)) (λ u. agrees ts (in_state x Idle) u (get_or c u 0))
      (λ k l ne.
      ap (λ b. cond (spans x.rows k) (eqb (get_or c k 0) (get_or x.rows k 0)) (ltb (stamp_of_row ts k (get_or c k 0)) x.driver && b))
      (or_left (not (eqb t k)) (ltb after (get_or c k 0)) (not_from_false (eqb t k) (ne_eqb t k (λ e. ne (sym e)))))))

  pub owes-joined : (r : ℕ) → 0 < r → t < length x.rows → owes q ts c (joined x t r) ≡ (eqb (get_or c t 0) r && others q ts c x t)
  unfolding owes
  owes-joined r pos fit =
      upto_at (tables q) t (λ u. agrees ts (joined x t r) u (get_or c u 0)) low
      ∙ ap₂ ◌&&◌
      (ap (λ m. cond (ltb 0 m) (eqb (get_or c t 0) m) (ltb (stamp_of_row ts t (get_or c t 0)) x.driver && true)) (get_or-set_same x.rows t r 0 fit)
      ∙ cond-true (ltb 0 r) (eqb (get_or c t 0) r) (ltb (stamp_of_row ts t (get_or c t 0)) x.driver && true) (lt-ltb 0 r pos))
      (but_ext (tables q) t (λ u. agrees ts (joined x t r) u (get_or c u 0)) (λ u. agrees ts (in_state x Idle) u (get_or c u 0))
      (λ k l ne.
      ap (λ m. cond (ltb 0 m) (eqb (get_or c k 0) m) (ltb (stamp_of_row ts k (get_or c k 0)) x.driver && true)) (get_or-set_other x.rows t k r 0 ne)))

  pub along : Inside q x.rows → others q ts c x t ≡ true → Along x.rows c
  along inside h u s =
      let l = inside u s in
      let ne : u ≡ t → ⊥ = λ e. clash (spans x.rows u) s (subst (λ (v : ℕ). spans x.rows v ≡ false) (sym e) un) in
      let a = or_other (eqb u t) (agrees ts (in_state x Idle) u (get_or c u 0)) (ne_eqb u t ne)
      (upto_all (tables q) (but t (λ u. agrees ts (in_state x Idle) u (get_or c u 0))) h u (omega arith)) in
      eqb-true (get_or c u 0) (get_or x.rows u 0)
      (sym (cond-true (spans x.rows u) (eqb (get_or c u 0) (get_or x.rows u 0)) (ltb (stamp_of_row ts u (get_or c u 0)) x.driver && true) s) ∙ a)

-- a tuple that owes a combination is along it
pub owes_along : (q : Query) (ts : List Table) (c : List ℕ) (x : Tuple) → Inside q x.rows → owes q ts c x ≡ true → Along x.rows c
unfolding owes
owes_along q ts c x inside h u s =
    let l = inside u s in
    eqb-true (get_or c u 0) (get_or x.rows u 0)
    (sym (cond-true (spans x.rows u) (eqb (get_or c u 0) (get_or x.rows u 0)) (ltb (stamp_of_row ts u (get_or c u 0)) x.driver && beyond x.state u (get_or c u 0)) s)
    ∙ upto_all (tables q) (λ t. agrees ts x t (get_or c t 0)) h u (omega arith))

-- the joins that link a table to spanned ones hold at a row, if the combination meets the joins
module _ (q : Query) (s : Relations) (rows c : List ℕ) (t : ℕ) (al : Along rows c) where
  left-holds : (j : Join) → join_holds (rows_read q s c) j ≡ true → j.left.table ≡ t → spans rows j.right.table ≡ true → link_holds q s rows t (get_or c t 0) (left_link j) ≡ true
  left-holds j h e sp =
      subst (λ (m : ℕ). same_cell (seen_cell q s t (get_or c t 0) j.left.column) (seen_cell q s j.right.table m j.right.column) ≡ true) (al j.right.table sp)
      (subst (λ (u : ℕ). same_cell (seen_cell q s u (get_or c u 0) j.left.column) (seen_cell q s j.right.table (get_or c j.right.table 0) j.right.column) ≡ true) e h)

  right_holds : (j : Join) → join_holds (rows_read q s c) j ≡ true → j.right.table ≡ t → spans rows j.left.table ≡ true → link_holds q s rows t (get_or c t 0) (right_link j) ≡ true
  right_holds j h e sp =
      same_cell_sym (seen_cell q s j.left.table (get_or rows j.left.table 0) j.left.column) (seen_cell q s t (get_or c t 0) j.right.column)
      (subst (λ (m : ℕ). same_cell (seen_cell q s j.left.table m j.left.column) (seen_cell q s t (get_or c t 0) j.right.column) ≡ true) (al j.left.table sp)
      (subst (λ (u : ℕ). same_cell (seen_cell q s j.left.table (get_or c j.left.table 0) j.left.column) (seen_cell q s u (get_or c u 0) j.right.column) ≡ true) e h))

  pub links_hold : (js : List Join) → all (join_holds (rows_read q s c)) js ≡ true → all (link_holds q s rows t (get_or c t 0)) (links js rows t) ≡ true
  links_hold [] h = refl
  links_hold (j ∷ js) h =
      go (eqb j.left.table t && spans rows j.right.table) refl (eqb j.right.table t && spans rows j.left.table) refl
      (links_hold js (and_parts (join_holds (rows_read q s c) j) (all (join_holds (rows_read q s c)) js) h).1)
    where
      p : Link → Bool
      p = link_holds q s rows t (get_or c t 0)

      here : join_holds (rows_read q s c) j ≡ true
      here = (and_parts (join_holds (rows_read q s c) j) (all (join_holds (rows_read q s c)) js) h).0

      go : (a : Bool) → (eqb j.left.table t && spans rows j.right.table) ≡ a → (b : Bool) → (eqb j.right.table t && spans rows j.left.table) ≡ b
          → all (link_holds q s rows t (get_or c t 0)) (links js rows t) ≡ true
          → all (link_holds q s rows t (get_or c t 0)) (links (j ∷ js) rows t) ≡ true
      go true ea b eb ih =
          rw ea (and_from (link_holds q s rows t (get_or c t 0) (left_link j)) (all (link_holds q s rows t (get_or c t 0)) (links js rows t))
          (left-holds j here (eqb-true j.left.table t (and_parts (eqb j.left.table t) (spans rows j.right.table) ea).0) (and_parts (eqb j.left.table t) (spans rows j.right.table) ea).1) ih)
      go false ea true eb ih =
          rw (ea, eb) (and_from (link_holds q s rows t (get_or c t 0) (right_link j)) (all (link_holds q s rows t (get_or c t 0)) (links js rows t))
          (right_holds j here (eqb-true j.right.table t (and_parts (eqb j.right.table t) (spans rows j.left.table) eb).0) (and_parts (eqb j.right.table t) (spans rows j.left.table) eb).1) ih)
      go false ea false eb ih = rw (ea, eb) ih

-- one tuple's due, split between two or kept by one
abbrev Split : Bool → Bool → Bool → Bool → Type 0
Split e s l a = ((e ≡ true) × (s ≡ true) × (l ≡ false) × (a ≡ true)) ⊎ ((e ≡ false) × (l ≡ a))

split_sum : (e s l a o : Bool) → (o ≡ true → Split e s l a) → bit (e && o) + (bit ((s && l) && o) + 0) ≡ bit ((s && a) && o)
split_sum e s l a false h = simp and_false
split_sum e s l a true h =
    ⊎_elim (λ k. rw (k.0, k.1, k.2, k.3) refl)
    (λ k. rw (k.0, k.1) (let e : 0 + (bit ((s && a) && true) + 0) ≡ bit ((s && a) && true) = omega arith in e))
    (h refl)

stay_sum : (s l a o : Bool) → (o ≡ true → (s && l) ≡ (s && a)) → bit ((s && l) && o) + 0 ≡ bit ((s && a) && o)
stay_sum s l a false h = simp and_false
stay_sum s l a true h = rw (h refl) (add-zero (bit ((s && a) && true)))

none_left : (s a o : Bool) → (o ≡ true → (s && a) ≡ false) → 0 ≡ bit ((s && a) && o)
none_left s a false h = simp and_false
none_left s a true h = rw (h refl) refl

-- A probing tuple: after the step, what stands in its place owes just what it owed.
module _
    (q : Query) (ts : List Table) (c : List ℕ) (x : Tuple) (t : ℕ) (low : t < tables q) (un : spans x.rows t ≡ false)
    (inside : Inside q x.rows) (fit : t < length x.rows) (first : 1 ≤ get_or c t 0) (last : get_or c t 0 ≤ count_at ts t)
    (meet : all (join_holds (rows_read q (relations_of ts) c)) q.joins ≡ true)
    (rising : (m n : ℕ) → 1 ≤ m → m < n → n ≤ count_at ts t → stamp_of_row ts t m < stamp_of_row ts t n)
    (alone : (n : ℕ) → 1 ≤ n → n ≤ count_at ts t → (stamp_of_row ts t n ≡ x.driver → ⊥))
    (reads : (n : ℕ) → 1 ≤ n → n ≤ count_at ts t → AllByRecursion (SeenSo q ts t n) (links q.joins x.rows t))
    (after : ℕ)
  where
    abbrev Kept : List Tuple → Type 0
    Kept xs = times (owes q ts c) xs ≡ bit (owes q ts c (in_state x (Probing t after)))

    abbrev n : ℕ
    n = get_or c t 0

    abbrev o : Bool
    o = others q ts c x t

    abbrev stay : Bool
    stay = ltb (stamp_of_row ts t (get_or c t 0)) x.driver

    gone : (o ≡ true → (stay && ltb after n) ≡ false) → Kept []
    gone h = none_left stay (ltb after n) o h ∙ sym (ap bit (owes_probing q ts c x t low un after))

    module _ (l : Link) (ls : List Link) (is : links q.joins x.rows t ≡ l ∷ ls) where
      abbrev key : Cell
      key = link_key q ts x l

      -- the combination's row passes every link
      passes : o ≡ true → all (link_holds q (relations_of ts) x.rows t n) (l ∷ ls) ≡ true
      passes h =
          subst (λ (k : List Link). all (link_holds q (relations_of ts) x.rows t (get_or c t 0)) k ≡ true) is
          (links_hold q (relations_of ts) x.rows c t (along q ts c x t low un inside h) q.joins meet)

      hit : o ≡ true → kept_cell (relations_of ts) t n l.own ≡ Some key
      hit h =
          (subst (AllByRecursion (SeenSo q ts t n)) is (reads n first last)).0
          ∙ ap Some ((same_cell_decides (seen_cell q (relations_of ts) t n l.own) key).0
          (and_parts (link_holds q (relations_of ts) x.rows t n l) (all (link_holds q (relations_of ts) x.rows t n) ls) (passes h)).0)

      no_row : next_row ts t l.own key after ≡ None → Kept []
      no_row e =
          gone (λ h.
          let out : (after < n) → (stay && ltb after n) ≡ false = λ lt. absurd (next_none ts t l.own key after e n lt (hit h)) in
          ⊎_elim out (λ ge. rw (le-ltb after n ge) (and_false stay)) (cases_lt after n))

      module _ (r : ℕ) (e : next_row ts t l.own key after ≡ Some r) where
        above : after < r
        above = (next_some ts t l.own key after r e).0

        within : r ≤ count_at ts t
        within = (next_some ts t l.own key after r e).1

        -- no row between is the combination's
        between : o ≡ true → after < n → n < r → ⊥
        between h a b = (next_some ts t l.own key after r e).3 n a b (hit h)

        late : x.driver < stamp_of_row ts t r → Kept []
        late d =
            gone (λ h.
            ⊎_elim
            (λ lt.
            let far : (r < n) → stamp_of_row ts t r < stamp_of_row ts t n = λ g. let w = above in rising r n (omega arith) g last in
            let at : (r ≡ n) → stamp_of_row ts t r ≡ stamp_of_row ts t n = λ g. ap (stamp_of_row ts t) g in
            let near : (n < r) → ⊥ = between h lt in
            let k : ltb (stamp_of_row ts t (get_or c t 0)) x.driver ≡ false =
            le-ltb (stamp_of_row ts t n) x.driver
            (⊎_elim (λ g. absurd (near g)) (λ g. ⊎_elim (λ eq. let s = at eq in omega arith) (λ ne. let s = far (omega arith) in omega arith) (cases_eq r n)) (cases_lt n r)) in
            rw k refl)
            (λ ge. rw (le-ltb after n ge) (and_false stay))
            (cases_lt after n))

        -- a row in time is added, and the tuple goes on after it
        in_time : stamp_of_row ts t r ≤ x.driver → Kept (joined x t r ∷ (in_state x (Probing t r) ∷ []))
        in_time d =
            let w = above in
            ap₂ (λ a b. bit a + (bit b + 0)) (owes-joined q ts c x t low un r (omega arith) fit) (owes_probing q ts c x t low un r)
            ∙ split_sum (eqb n r) stay (ltb r n) (ltb after n) o
            (λ h.
            ⊎_elim
            (λ lt. ⊎_elim (λ g. absurd (between h lt g))
            (λ ge. ⊎_elim
            (λ eq. inl (
              eq-eqb n r eq,
              lt-ltb (stamp_of_row ts t n) x.driver (let a = alone r (omega arith) within in let s : stamp_of_row ts t n ≡ stamp_of_row ts t r = ap (stamp_of_row ts t) eq in omega arith),
              le-ltb r n (omega arith),
              lt-ltb after n lt,
            ))
            (λ ne. inr (ne_eqb n r ne, lt-ltb r n (omega arith) ∙ sym (lt-ltb after n lt)))
            (cases_eq n r))
            (cases_lt n r))
            (λ ge. inr (ne_eqb n r (λ eq. omega arith), le-ltb r n (omega arith) ∙ sym (le-ltb after n ge)))
            (cases_lt after n))
            ∙ sym (ap bit (owes_probing q ts c x t low un after))

        -- a row that fails another link is passed over
        passed : all (link_holds q (relations_of ts) x.rows t r) ls ≡ false → Kept (in_state x (Probing t r) ∷ [])
        passed f =
            ap (λ b. bit b + 0) (owes_probing q ts c x t low un r)
            ∙ stay_sum stay (ltb r n) (ltb after n) o
            (λ h.
            let ne : n ≡ r → ⊥ = λ eq.
            clash (all (link_holds q (relations_of ts) x.rows t n) ls)
            (and_parts (link_holds q (relations_of ts) x.rows t n l) (all (link_holds q (relations_of ts) x.rows t n) ls) (passes h)).1
            (subst (λ (m : ℕ). all (link_holds q (relations_of ts) x.rows t m) ls ≡ false) (sym eq) f) in
            let w = above in
            ⊎_elim
            (λ lt. ⊎_elim (λ g. absurd (between h lt g)) (λ ge. ap (λ b. stay && b) (lt-ltb r n (omega arith) ∙ sym (lt-ltb after n lt))) (cases_lt n r))
            (λ ge. ap (λ b. stay && b) (le-ltb r n (omega arith) ∙ sym (le-ltb after n ge)))
            (cases_lt after n))
            ∙ sym (ap bit (owes_probing q ts c x t low un after))

        by_match : (b : Bool) → all (link_holds q (relations_of ts) x.rows t r) ls ≡ b → stamp_of_row ts t r ≤ x.driver → Kept (matched x t r b).replacement
        by_match true f d = in_time d
        by_match false f d = passed f

        by_time : (b : Bool) → ltb x.driver (stamp_of_row ts t r) ≡ b → Kept (found q ts x t ls r b).replacement
        by_time true f = late (ltb-true x.driver (stamp_of_row ts t r) f)
        by_time false f = by_match (all (link_holds q (relations_of ts) x.rows t r) ls) refl (ltb-false x.driver (stamp_of_row ts t r) f)

      by_answer : (a : Option ℕ) → next_row ts t l.own key after ≡ a → Kept (answered q ts x t ls a).replacement
      by_answer None e = no_row e
      by_answer (Some r) e = by_time r e (ltb x.driver (stamp_of_row ts t r)) refl

    by_link : (ls : List Link) → links q.joins x.rows t ≡ ls → some_link ls ≡ true → Kept (probed q ts x t after ls).replacement
    by_link [] e h = clash false h refl
    by_link (l ∷ ls) e h =
        by_answer l ls e (next_row ts t l.own (link_key q ts x l) after) refl

    pub probed-owes : some_link (links q.joins x.rows t) ≡ true
        → times (owes q ts c) (probed q ts x t after (links q.joins x.rows t)).replacement ≡ bit (owes q ts c (in_state x (Probing t after)))
    probed-owes h = by_link (links q.joins x.rows t) refl h
