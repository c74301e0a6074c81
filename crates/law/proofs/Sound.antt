-- What holds of every tuple that waits, and that a step keeps it and what is owed.
use Rattle.std.proofs.Common.{◌≡◌, ℕ, ◌-◌, ◌<◌, ◌≤◌, Bool, true, false, cond, not, ◌&&◌, eqb, ltb, List, [], ◌∷◌, length, get_or, set, Some, None, Option, sym, refl, ap, ◌∙◌, subst, ap₂, ⊎_elim, add-zero, arith, get_or-set_other, get_or-set_same}
use Rattle.std.specs.List.{AllByRecursion}
use Rattle.std.proofs.lemmas.Bool.{and_parts, and_from, and_left, or_right, cases_eq, eq-eqb, ne_eqb, lt-ltb}
use Rattle.basis.specs.Lists.{all}
use Rattle.cells.specs.declared.types.Cell.{Cell}
use Rattle.keys.specs.Keys.{same_cell}
use Rattle.keys.specs.CellOrder.{same_cell_decides}
use Rattle.query.specs.Queries.{Query}
use Rattle.query.specs.declared.types.Join.{Join}
use Rattle.stores.specs.Tables.{Table, count_at, next_row}
use Rattle.algebra.specs.Algebra.{Relations}
use Rattle.algebra.specs.Meets.{join_holds, holds}
use Rattle.rules.specs.Lists.{bit, times}
use Rattle.rules.specs.Moves.{tables, filters, spans, is_idle, complete, left_link, right_link, links, spanned, at_filter, table_ready, filter_ready, module_ready, in_state, marked, joined, tried, routed, link_holds, matched, found, answered, link_key, probed, idled, moved, move}
use Rattle.rules.specs.Reads.{relations_of, seen_cell, rows_read, stamp_of_row}
use Rattle.rules.specs.declared.types.Link.{Link}
use Rattle.rules.specs.declared.types.State.{State}
use Rattle.rules.specs.declared.types.State.TheVariants.{Idle, Probing}
use Rattle.rules.specs.declared.types.Tuple.{Tuple}
use Rattle.law.proofs.Fits.{CellsFit, SeenSo, link_reads}
use Rattle.law.proofs.Owing.{same_cell_sym, owes_along, probed-owes}
use Rattle.law.specs.Histories.{after}
use Rattle.law.specs.Law.{Combination, Meets, agrees, owes}
use Rattle.rules.proofs.Asked.{next_some}
use Rattle.rules.proofs.Checked.{Apart, Checked}
use Rattle.rules.proofs.Filters.{filter-all, spanned_more, filter-only}
use Rattle.rules.proofs.Grows.{count-relations}
use Rattle.rules.proofs.Kept.{table_parts}
use Rattle.rules.proofs.Shaped.{BoundFor, Shaped, filter_parts, shaped_state, shaped_mark, shaped_join}
use Rattle.rules.proofs.Uptos.{clash, upto_ext, never_true}

some_same : {a b : Cell} → Some a ≡ Some b → a ≡ b
some_same {a} {b} e = cc

-- a join holds if both its tables are spanned
abbrev pub Tied : Query → Relations → List ℕ → Join → Type 0
Tied q s rows j = spans rows j.left.table ≡ true → spans rows j.right.table ≡ true → join_holds (rows_read q s rows) j ≡ true

-- a filter names spanned tables, and holds
abbrev pub Passed : Query → Relations → List ℕ → ℕ → Type 0
Passed q s rows i = (at_filter (spanned rows) q.filters i ≡ true) × (at_filter (holds (rows_read q s rows)) q.filters i ≡ true)

pub record Sound (q : Query) (ts : List Table) (next : ℕ) (x : Tuple) : Type 0 where
  pub shape : Shaped q x
  pub kept : (t : ℕ) → get_or x.rows t 0 ≤ count_at ts t
  pub young : x.driver < next
  pub alone : (t n : ℕ) → spans x.rows t ≡ false → 1 ≤ n → n ≤ count_at ts t → (stamp_of_row ts t n ≡ x.driver → ⊥)
  pub tied : AllByRecursion (Tied q (relations_of ts) x.rows) q.joins
  pub passed : (i : ℕ) → i < filters q → get_or x.done i false ≡ true → Passed q (relations_of ts) x.rows i

-- inside a table the build numbers rise
abbrev pub Rising : List Table → Type 0
Rising ts = (t m n : ℕ) → 1 ≤ m → m < n → n ≤ count_at ts t → stamp_of_row ts t m < stamp_of_row ts t n

-- a row is added: the joins
module _ (q : Query) (s : Relations) (rows : List ℕ) (t r : ℕ) (fit : t < length rows) (un : spans rows t ≡ false) where
  other : (k : ℕ) → (k ≡ t → ⊥) → get_or (set rows t r) k 0 ≡ get_or rows k 0
  other k ne = get_or-set_other rows t k r 0 ne

  spans_other : (k : ℕ) → (k ≡ t → ⊥) → spans (set rows t r) k ≡ true → spans rows k ≡ true
  spans_other k ne h = sym (ap (ltb 0) (other k ne)) ∙ h

  apart_from : (k : ℕ) → spans rows k ≡ true → (k ≡ t → ⊥)
  apart_from k h e = clash (spans rows k) h (subst (λ (v : ℕ). spans rows v ≡ false) (sym e) un)

  spans_still : (k : ℕ) → spans rows k ≡ true → spans (set rows t r) k ≡ true
  spans_still k h = ap (ltb 0) (other k (apart_from k h)) ∙ h

  reads_other : (k c : ℕ) → (k ≡ t → ⊥) → rows_read q s (set rows t r) k c ≡ rows_read q s rows k c
  reads_other k c ne = ap (λ m. seen_cell q s k m c) (other k ne)

  reads_same : (k c : ℕ) → k ≡ t → rows_read q s (set rows t r) k c ≡ seen_cell q s t r c
  reads_same k c e = ap (λ u. seen_cell q s u (get_or (set rows t r) u 0) c) e ∙ ap (λ m. seen_cell q s t m c) (get_or-set_same rows t r 0 fit)

  module _ (j : Join) (js : List Join) (h : all (link_holds q s rows t r) (links (j ∷ js) rows t) ≡ true) where
    head_left : (eqb j.left.table t && spans rows j.right.table) ≡ true → link_holds q s rows t r (left_link j) ≡ true
    head_left e =
        let h' : all (link_holds q s rows t r) (left_link j ∷ links js rows t) ≡ true = rw e at h in
        (and_parts (link_holds q s rows t r (left_link j)) (all (link_holds q s rows t r) (links js rows t)) h').0

    head_right : (eqb j.left.table t && spans rows j.right.table) ≡ false → (eqb j.right.table t && spans rows j.left.table) ≡ true → link_holds q s rows t r (right_link j) ≡ true
    head_right e f =
        let h' : all (link_holds q s rows t r) (right_link j ∷ links js rows t) ≡ true = rw (e, f) at h in
        (and_parts (link_holds q s rows t r (right_link j)) (all (link_holds q s rows t r) (links js rows t)) h').0

    tail_links : all (link_holds q s rows t r) (links js rows t) ≡ true
    tail_links = go (eqb j.left.table t && spans rows j.right.table) refl (eqb j.right.table t && spans rows j.left.table) refl
      where
        go : (a : Bool) → (eqb j.left.table t && spans rows j.right.table) ≡ a → (b : Bool) → (eqb j.right.table t && spans rows j.left.table) ≡ b
            → all (link_holds q s rows t r) (links js rows t) ≡ true
        go true e b f =
            let h' : all (link_holds q s rows t r) (left_link j ∷ links js rows t) ≡ true = rw e at h in
            (and_parts (link_holds q s rows t r (left_link j)) (all (link_holds q s rows t r) (links js rows t)) h').1
        go false e true f =
            let h' : all (link_holds q s rows t r) (right_link j ∷ links js rows t) ≡ true = rw (e, f) at h in
            (and_parts (link_holds q s rows t r (right_link j)) (all (link_holds q s rows t r) (links js rows t)) h').1
        go false e false f =
            let h' : all (link_holds q s rows t r) (links js rows t) ≡ true = rw (e, f) at h in h'

    tied_here : (j.left.table ≡ j.right.table → ⊥) → Tied q s rows j → Tied q s (set rows t r) j
    tied_here ap' old sl sr =
        ⊎_elim
        (λ el.
        let ne : j.right.table ≡ t → ⊥ = λ er. ap' (el ∙ sym er) in
        ap₂ same_cell (reads_same j.left.table j.left.column el) (reads_other j.right.table j.right.column ne)
        ∙ head_left (and_from (eqb j.left.table t) (spans rows j.right.table) (eq-eqb j.left.table t el) (spans_other j.right.table ne sr)))
        (λ nl.
        ⊎_elim
        (λ er.
        same_cell_sym (rows_read q s (set rows t r) j.right.table j.right.column) (rows_read q s (set rows t r) j.left.table j.left.column)
        (ap₂ same_cell (reads_same j.right.table j.right.column er) (reads_other j.left.table j.left.column nl)
        ∙ head_right (and_left (eqb j.left.table t) (spans rows j.right.table) (ne_eqb j.left.table t nl))
        (and_from (eqb j.right.table t) (spans rows j.left.table) (eq-eqb j.right.table t er) (spans_other j.left.table nl sl))))
        (λ nr.
        ap₂ same_cell (reads_other j.left.table j.left.column nl) (reads_other j.right.table j.right.column nr)
        ∙ old (spans_other j.left.table nl sl) (spans_other j.right.table nr sr))
        (cases_eq j.right.table t))
        (cases_eq j.left.table t)

  all_tied : (js : List Join) → AllByRecursion (Apart q) js → all (link_holds q s rows t r) (links js rows t) ≡ true → AllByRecursion (Tied q s rows) js → AllByRecursion (Tied q s (set rows t r)) js
  all_tied [] a h old = tt
  all_tied (j ∷ js) a h old = (tied_here j js h a.0.0 old.0, all_tied js a.1 (tail_links j js h) old.1)

  still_passed : (i : ℕ) → Passed q s rows i → Passed q s (set rows t r) i
  still_passed i p = (
    spanned_more rows (set rows t r) spans_still q.filters i p.0,
    filter-only rows (rows_read q s (set rows t r)) (rows_read q s rows) (λ u c h. reads_other u c (apart_from u h)) q.filters i p.0 ∙ p.1,
  )

module _ (q : Query) (lawful : Checked q) (ts : List Table) (next : ℕ) (cells : CellsFit q ts) where
  abbrev Sd : Tuple → Type 0
  Sd x = Sound q ts next x

  pub with_state : (x : Tuple) (a : State) → Sd x → BoundFor q x.rows a → Sd (in_state x a)
  with_state x a d p =
      record {
        shape = shaped_state q x a d.shape p;
        kept = d.kept;
        young = d.young;
        alone = d.alone;
        tied = d.tied;
        passed = d.passed;
      }

  marked_sound : (x : Tuple) (i : ℕ) → Sd x → i < filters q → at_filter (spanned x.rows) q.filters i ≡ true
      → at_filter (holds (rows_read q (relations_of ts) x.rows)) q.filters i ≡ true → Sd (marked x i)
  marked_sound x i d l sp h =
      record {
        shape = shaped_mark q x i d.shape;
        kept = d.kept;
        young = d.young;
        alone = d.alone;
        tied = d.tied;
        passed = λ k lk e.
            ⊎_elim (λ same'. subst (λ (m : ℕ). Passed q (relations_of ts) x.rows m) (sym same') (sp, h))
            (λ ne. d.passed k lk (sym (get_or-set_other x.done i k true false ne) ∙ e))
            (cases_eq k i);
      }

  joined_sound : (x : Tuple) (t r : ℕ) → Sd x → t < tables q → spans x.rows t ≡ false → 0 < r → r ≤ count_at ts t
      → all (link_holds q (relations_of ts) x.rows t r) (links q.joins x.rows t) ≡ true → Sd (joined x t r)
  joined_sound x t r d low un pos in' h =
      let w = d.shape.width in
      let six = lawful.six in
      let fit : t < length x.rows = omega arith in
      record {
        shape = shaped_join q x t r d.shape low un pos;
        kept = λ u.
            ⊎_elim
            (λ e. subst (λ (v : ℕ). get_or (set x.rows t r) v 0 ≤ count_at ts v) (sym e) (let z = get_or-set_same x.rows t r 0 fit in omega arith))
            (λ ne. let z = get_or-set_other x.rows t u r 0 ne in let k = d.kept u in omega arith)
            (cases_eq u t);
        young = d.young;
        alone = λ u n su a b.
            let ne : u ≡ t → ⊥ = λ e.
            clash (spans (set x.rows t r) u)
            (lt-ltb 0 (get_or (set x.rows t r) u 0) (subst (λ (v : ℕ). 0 < get_or (set x.rows t r) v 0) (sym e) (let z = get_or-set_same x.rows t r 0 fit in omega arith))) su in
            d.alone u n (sym (ap (ltb 0) (get_or-set_other x.rows t u r 0 ne)) ∙ su) a b;
        tied = all_tied q (relations_of ts) x.rows t r fit un q.joins lawful.apart h d.tied;
        passed = λ i l e. still_passed q (relations_of ts) x.rows t r fit un i (d.passed i l e);
      }

  -- a probing tuple
  module _ (x : Tuple) (t after : ℕ) (d : Sd (in_state x (Probing t after))) where
    again : (r : ℕ) → Sd (in_state x (Probing t r))
    again r = with_state (in_state x (Probing t after)) (Probing t r) d d.shape.bound_for

    module _ (l : Link) (ls : List Link) (is : links q.joins x.rows t ≡ l ∷ ls) (r : ℕ)
        (e : next_row ts t l.own (link_key q ts x l) after ≡ Some r)
      where
        by_match : (b : Bool) → all (link_holds q (relations_of ts) x.rows t r) ls ≡ b → AllByRecursion Sd (matched x t r b).replacement
        by_match true f =
            let n = next_some ts t l.own (link_key q ts x l) after r e in
            let a = n.0 in
            let b = n.1 in
            let sees : seen_cell q (relations_of ts) t r l.own ≡ link_key q ts x l =
            some_same (sym (subst (AllByRecursion (SeenSo q ts t r)) is (link_reads q lawful ts cells x.rows t r (omega arith) (omega arith))).0 ∙ n.2) in (
              joined_sound (in_state x (Probing t after)) t r d d.shape.bound_for.0 d.shape.bound_for.1 (omega arith) (omega arith)
                  (subst (λ (k : List Link). all (link_holds q (relations_of ts) x.rows t r) k ≡ true) (sym is)
                  (and_from (link_holds q (relations_of ts) x.rows t r l) (all (link_holds q (relations_of ts) x.rows t r) ls)
                  ((same_cell_decides (seen_cell q (relations_of ts) t r l.own) (link_key q ts x l)).1 sees) f)),
              (again r, tt),
            )
        by_match false f = (again r, tt)

        by_time : (b : Bool) → AllByRecursion Sd (found q ts x t ls r b).replacement
        by_time true = tt
        by_time false = by_match (all (link_holds q (relations_of ts) x.rows t r) ls) refl

    by_answer : (l : Link) (ls : List Link) → links q.joins x.rows t ≡ l ∷ ls → (a : Option ℕ)
        → next_row ts t l.own (link_key q ts x l) after ≡ a → AllByRecursion Sd (answered q ts x t ls a).replacement
    by_answer l ls is None e = tt
    by_answer l ls is (Some r) e = by_time l ls is r e (ltb x.driver (stamp_of_row ts t r))

    by_link : (ls : List Link) → links q.joins x.rows t ≡ ls → AllByRecursion Sd (probed q ts x t after ls).replacement
    by_link [] is = tt
    by_link (l ∷ ls) is = by_answer l ls is (next_row ts t l.own (link_key q ts x l) after) refl

  -- an idle one
  module _ (x : Tuple) (m : ℕ) (d : Sd (in_state x Idle)) where
    by_filter : (i : ℕ) → filter_ready q x i ≡ true → (b : Bool) → at_filter (holds (rows_read q (relations_of ts) x.rows)) q.filters i ≡ b → AllByRecursion Sd (tried (in_state x Idle) i b).replacement
    by_filter i g true e = let f = filter_parts q x i g in (marked_sound (in_state x Idle) i d f.0 f.2 e, tt)
    by_filter i g false e = tt

    by_module : (b : Bool) → ltb m 6 ≡ b → module_ready q x m ≡ true → AllByRecursion Sd (routed q ts (in_state x Idle) m).replacement
    by_module true e g =
        let g' : table_ready q x m ≡ true = rw e at g in
        rw e (with_state (in_state x Idle) (Probing m 0) d (table_parts q x m g'), tt)
    by_module false e g =
        let g' : filter_ready q x (m - 6) ≡ true = rw e at g in
        rw e (by_filter (m - 6) g' (at_filter (holds (rows_read q (relations_of ts) x.rows)) q.filters (m - 6)) refl)

    by_complete : (b : Bool) → complete q (in_state x Idle) ≡ b → (complete q (in_state x Idle) ≡ false → module_ready q x m ≡ true) → AllByRecursion Sd (idled q ts (in_state x Idle) m b).replacement
    by_complete true e g = (d, tt)
    by_complete false e g = by_module (ltb m 6) refl (g e)

  by_state : (x : Tuple) (m : ℕ) (a : State) → Sd (in_state x a) → (complete q (in_state x a) ≡ false → is_idle a ≡ true → module_ready q x m ≡ true) → AllByRecursion Sd (moved q ts (in_state x a) m a).replacement
  by_state x m Idle d g = by_complete x m d (complete q (in_state x Idle)) refl (λ e. g e refl)
  by_state x m (Probing t after) d g = by_link x t after d (links q.joins x.rows t) refl

  pub move_sound : (x : Tuple) (m : ℕ) → Sd x → (complete q x ≡ false → is_idle x.state ≡ true → module_ready q x m ≡ true) → AllByRecursion Sd (move q ts x m).replacement
  unfolding move
  move_sound x m d g = by_state x m x.state d g

-- what is owed stays
module _ (q : Query) (lawful : Checked q) (ts : List Table) (next : ℕ) (cells : CellsFit q ts) (rising : Rising ts) (c : List ℕ) (comb : Combination q (relations_of ts) c) (meet : Meets q (relations_of ts) c) where
  Owed : Tuple → List Tuple → Type 0
  Owed x xs = times (owes q ts c) xs ≡ bit (owes q ts c x)

  module _ (x : Tuple) (m : ℕ) (d : Sound q ts next (in_state x Idle)) where
    -- it is sent to a table
    to_table : Owed (in_state x Idle) (in_state x (Probing m 0) ∷ [])
    unfolding Owed owes
    to_table =
        add-zero (bit (owes q ts c (in_state x (Probing m 0))))
        ∙ ap bit
        (upto_ext (tables q) (λ t. agrees ts (in_state x (Probing m 0)) t (get_or c t 0)) (λ t. agrees ts (in_state x Idle) t (get_or c t 0))
        (λ t l.
        ap (λ b. cond (spans x.rows t) (eqb (get_or c t 0) (get_or x.rows t 0)) (ltb (stamp_of_row ts t (get_or c t 0)) x.driver && b))
        (or_right (not (eqb m t)) (ltb 0 (get_or c t 0)) (lt-ltb 0 (get_or c t 0) (comb.kept t l).0))))

    -- a filter fails on whatever it owes
    fails : (i : ℕ) → filter_ready q x i ≡ true → at_filter (holds (rows_read q (relations_of ts) x.rows)) q.filters i ≡ false → owes q ts c (in_state x Idle) ≡ false
    fails i g e =
        never_true (owes q ts c (in_state x Idle))
        (λ h.
        let al = owes_along q ts c (in_state x Idle) d.shape.inside h in
        let f = filter_parts q x i g in
        clash (at_filter (holds (rows_read q (relations_of ts) c)) q.filters i)
        (filter-all (holds (rows_read q (relations_of ts) c)) q.filters i
        (and_parts (all (join_holds (rows_read q (relations_of ts) c)) q.joins) (all (holds (rows_read q (relations_of ts) c)) q.filters) meet).1 f.0)
        (filter-only x.rows (rows_read q (relations_of ts) c) (rows_read q (relations_of ts) x.rows)
        (λ u k h'. ap (λ n. seen_cell q (relations_of ts) u n k) (al u h')) q.filters i f.2 ∙ e))

    to_filter : (i : ℕ) → filter_ready q x i ≡ true → (b : Bool) → at_filter (holds (rows_read q (relations_of ts) x.rows)) q.filters i ≡ b → Owed (in_state x Idle) (tried (in_state x Idle) i b).replacement
    unfolding Owed owes
    to_filter i g true e = add-zero (bit (owes q ts c (in_state x Idle)))
    to_filter i g false e = sym (ap bit (fails i g e))

    to_module : (b : Bool) → ltb m 6 ≡ b → module_ready q x m ≡ true → Owed (in_state x Idle) (routed q ts (in_state x Idle) m).replacement
    to_module true e g = rw e to_table
    to_module false e g =
        let g' : filter_ready q x (m - 6) ≡ true = rw e at g in
        rw e (to_filter (m - 6) g' (at_filter (holds (rows_read q (relations_of ts) x.rows)) q.filters (m - 6)) refl)

    at_end : (b : Bool) → complete q (in_state x Idle) ≡ b → (complete q (in_state x Idle) ≡ false → module_ready q x m ≡ true) → Owed (in_state x Idle) (idled q ts (in_state x Idle) m b).replacement
    unfolding Owed
    at_end true e g = add-zero (bit (owes q ts c (in_state x Idle)))
    at_end false e g = to_module (ltb m 6) refl (g e)

  in_its_state : (x : Tuple) (m : ℕ) (a : State) → Sound q ts next (in_state x a) → (complete q (in_state x a) ≡ false → is_idle a ≡ true → module_ready q x m ≡ true)
      → Owed (in_state x a) (moved q ts (in_state x a) m a).replacement
  unfolding Owed
  in_its_state x m Idle d g = at_end x m d (complete q (in_state x Idle)) refl (λ e. g e refl)
  in_its_state x m (Probing t after) d g =
      let p = d.shape.bound_for in
      let k = comb.kept t p.0 in
      probed-owes q ts c (in_state x (Probing t after)) t p.0 p.1 d.shape.inside (let w = d.shape.width in let s = lawful.six in omega (arith, p.0)) k.0 (let z = count-relations ts t in omega (arith, k.1))
      (and_parts (all (join_holds (rows_read q (relations_of ts) c)) q.joins) (all (holds (rows_read q (relations_of ts) c)) q.filters) meet).0
      (rising t) (λ n a b. d.alone t n p.1 a b) (λ n a b. link_reads q lawful ts cells x.rows t n a b) after p.2

  pub move-owes : (x : Tuple) (m : ℕ) → Sound q ts next x → (complete q x ≡ false → is_idle x.state ≡ true → module_ready q x m ≡ true)
      → times (owes q ts c) (move q ts x m).replacement ≡ bit (owes q ts c x)
  unfolding move Owed
  move-owes x m d g = in_its_state x m x.state d g
