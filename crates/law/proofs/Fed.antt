-- A row is built: what was sound stays so, and each combination is accounted for as before, or is new and owed by the new tuple alone.
use Rattle.std.proofs.Common.{◌≡◌, ℕ, zero, suc, ◌+◌, ◌<◌, ◌≤◌, true, false, cond, ◌&&◌, eqb, ltb, ◌⊎◌, List, [], ◌∷◌, map, length, get_or, set, replicate, Some, sym, refl, ap, ◌∙◌, subst, ap₂, ⊎_elim, arith, length-set, get_or-set_other, get_or-set_same}
use mathlib.Core.Path.{fun_ext}
use lib.ListN.{length-map, length-replicate}
use Rattle.std.specs.List.{AllByRecursion}
use Rattle.std.proofs.lemmas.Bool.{and_parts, and_from, cases_eq, cases_lt, cases_Bool, cond-true, cond-false, eq-eqb, ltb-true, lt-ltb}
use Rattle.std.proofs.ByRecursion.{All-weaker}
use Rattle.basis.specs.Lists.{numbered}
use Rattle.cells.specs.declared.types.Cell.{Cell}
use Rattle.expressions.specs.Readings.{Reading}
use Rattle.query.specs.Queries.{Query}
use Rattle.stores.specs.Tables.{Table, count_at}
use Rattle.algebra.specs.Algebra.{Relations}
use Rattle.algebra.specs.Lines.{line}
use Rattle.algebra.specs.Meets.{row_read, join_holds, holds, meets}
use Rattle.rules.specs.Calls.{singleton, with_row}
use Rattle.rules.specs.Lists.{bit, times, same_list}
use Rattle.rules.specs.Moves.{tables, spans, at_filter}
use Rattle.rules.specs.Reads.{relations_of, count, row_of, rows_read, stamp_of_row}
use Rattle.rules.specs.declared.types.Tuple.{Tuple}
use Rattle.law.proofs.Fits.{CellsFit}
use Rattle.law.proofs.Owing.{owes_along}
use Rattle.law.proofs.Sound.{Tied, Sound, Rising}
use Rattle.law.specs.Histories.{Posting}
use Rattle.law.specs.Law.{Combination, Meets, beyond, agrees, owes, RightPosting}
use Rattle.rules.proofs.Checked.{IsColumn, Apart, Checked}
use Rattle.rules.proofs.Grows.{nth-grow, nth-grow_new, count-relations, count_with, count_with_le, relations_with}
use Rattle.rules.proofs.Times.{times_ext, same_list_true, times_none}
use Rattle.rules.proofs.Uptos.{clash, upto_all, upto_from, upto_ext, never_true}
use Rattle.rules.proofs.Grows as grows

abbrev blanks : ℕ → List ℕ
blanks n = replicate n 0

zeros : (n i : ℕ) → get_or (blanks n) i 0 ≡ 0
zeros zero i = refl
zeros (suc n) zero = refl
zeros (suc n) (suc i) = zeros n i

falses : (n i : ℕ) → get_or (replicate n false) i false ≡ false
falses zero i = refl
falses (suc n) zero = refl
falses (suc n) (suc i) = falses n i

-- a combination's row is kept, in every table
pub comb_kept : (q : Query) (s : Relations) (c : List ℕ) → Combination q s c → (t : ℕ) → get_or c t 0 ≤ count s t
comb_kept q s c d t =
    ⊎_elim (λ l. (d.kept t l).1) (λ g. let z = d.rest t g in omega arith) (cases_lt t (tables q))

-- the singleton tuple of a row spans its table
pub singleton-spans : (t r n : ℕ) → t < 6 → spans (singleton t (suc r) n).rows t ≡ true
singleton-spans t r n l =
    let e = length-replicate {A = ℕ} 6 0 in
    let a = get_or-set_same (blanks 6) t (suc r) 0 (omega arith) in
    lt-ltb 0 (get_or (set (blanks 6) t (suc r)) t 0) (omega arith)

module _ (ts : List Table) (t : ℕ) (cells : List Cell) (next : ℕ) (in' : t < length ts) where
  abbrev ts' : List Table
  ts' = with_row ts t cells next

  stamp_old : (u n : ℕ) → n ≤ count_at ts u → stamp_of_row ts' u n ≡ stamp_of_row ts u n
  stamp_old u n l = grows.stamp_old ts t cells next in' u n l

  stamp_new : stamp_of_row ts' t (suc (count_at ts t)) ≡ next
  stamp_new = grows.stamp_new ts t cells next in'

  row_cases : (u n : ℕ) → n ≤ count_at ts' u → (n ≤ count_at ts u) ⊎ ((u ≡ t) × (n ≡ suc (count_at ts t)))
  row_cases u n l = grows.row_cases ts t cells next in' u n l

  -- old rows are as they were, and the new one is the last
  row_old : (u n : ℕ) → n ≤ count_at ts u → row_of (relations_of ts') u n ≡ row_of (relations_of ts) u n
  row_old u n l =
      ap (λ (s : Relations). row_of s u n) (relations_with ts t cells next)
      ∙ nth-grow (relations_of ts) t u cells n [] (let k = count-relations ts u in omega arith)

  row_new : row_of (relations_of ts') t (suc (count_at ts t)) ≡ cells
  row_new =
      ap₂ (λ (s : Relations) (n : ℕ). row_of s t n) (relations_with ts t cells next) (ap suc (sym (count-relations ts t)))
      ∙ nth-grow_new (relations_of ts) t cells [] (let e = length-map ts (λ x. map (λ b. b.cells) x.rows) in omega arith)

  same_reading : (q : Query) (rows : List ℕ) → ((u : ℕ) → get_or rows u 0 ≤ count_at ts u) → rows_read q (relations_of ts') rows ≡ rows_read q (relations_of ts) rows
  same_reading q rows h =
      fun_ext (λ u. fun_ext (λ c. ap (λ (r : List Cell). row_read (get_or q.headings u []) r c) (row_old u (get_or rows u 0) (h u))))

  pub fed_fit : (q : Query) → CellsFit q ts → ((c : ℕ) → IsColumn q t c → numbered cells c ≡ Some (row_read (get_or q.headings t []) cells c)) → CellsFit q ts'
  fed_fit q f g u n c a b d =
      ⊎_elim
      (λ l. subst (λ (r : List Cell). numbered r c ≡ Some (row_read (get_or q.headings u []) r c)) (sym (row_old u n l)) (f u n c a l d))
      (λ k.
      subst (λ (v : ℕ). numbered (row_of (relations_of ts') v n) c ≡ Some (row_read (get_or q.headings v []) (row_of (relations_of ts') v n) c)) (sym k.0)
      (subst (λ (r : List Cell). numbered r c ≡ Some (row_read (get_or q.headings t []) r c))
      (sym (ap (row_of (relations_of ts') t) k.1 ∙ row_new)) (g c (subst (λ (v : ℕ). IsColumn q v c) k.0 d))))
      (row_cases u n b)

  module _ (rising : Rising ts) (below : (u n : ℕ) → 1 ≤ n → n ≤ count_at ts u → stamp_of_row ts u n < next) where
    pub fed_below : (u n : ℕ) → 1 ≤ n → n ≤ count_at ts' u → stamp_of_row ts' u n < suc next
    fed_below u n a b =
        ⊎_elim (λ l. let e = stamp_old u n l in let k = below u n a l in omega arith)
        (λ k.
        let e : stamp_of_row ts' u n ≡ stamp_of_row ts' t (suc (count_at ts t)) = ap₂ (stamp_of_row ts') k.0 k.1 in
        let f = stamp_new in omega arith)
        (row_cases u n b)

    pub fed_rising : Rising ts'
    fed_rising u m n a l b =
        ⊎_elim
        (λ k. let e = stamp_old u m (omega arith) in let f = stamp_old u n k in let g = rising u m n a l k in omega arith)
        (λ k.
        let j : count_at ts u ≡ count_at ts t = ap (count_at ts) k.0 in
        let n' = k.1 in
        let e = stamp_old u m (omega arith) in
        let f : stamp_of_row ts' u n ≡ stamp_of_row ts' t (suc (count_at ts t)) = ap₂ (stamp_of_row ts') k.0 k.1 in
        let g = stamp_new in
        let h = below u m a (omega arith) in omega arith)
        (row_cases u n b)

    pub fed_sound : (q : Query) (x : Tuple) → Sound q ts next x → Sound q ts' (suc next) x
    fed_sound q x d =
        let e = same_reading q x.rows d.kept in
        record {
          shape = d.shape;
          kept = λ u. let a = d.kept u in let b = count_with_le ts t cells next in' u in omega arith;
          young = let y = d.young in omega arith;
          alone = λ u n un a b s.
              ⊎_elim (λ l. d.alone u n un a l (sym (stamp_old u n l) ∙ s))
              (λ k.
              let f : stamp_of_row ts' u n ≡ stamp_of_row ts' t (suc (count_at ts t)) = ap₂ (stamp_of_row ts') k.0 k.1 in
              let g = stamp_new in let y = d.young in omega arith)
              (row_cases u n b);
          tied = All-weaker (Tied q (relations_of ts) x.rows) (Tied q (relations_of ts') x.rows)
              (λ j h a b. subst (λ (R : Reading). join_holds R j ≡ true) (sym e) (h a b)) q.joins d.tied;
          passed = λ i l m. let p = d.passed i l m in (p.0, subst (λ (R : Reading). at_filter (holds R) q.filters i ≡ true) (sym e) p.1);
        }

    module _ (q : Query) (lawful : Checked q) (low : t < tables q) where
      abbrev new : Tuple
      new = singleton t (suc (count_at ts t)) next

      fit : t < length (blanks 6)
      fit = let e = length-replicate {A = ℕ} 6 0 in let six = lawful.six in omega arith

      new_at : get_or new.rows t 0 ≡ suc (count_at ts t)
      new_at = get_or-set_same (blanks 6) t (suc (count_at ts t)) 0 fit

      new_other : (u : ℕ) → (u ≡ t → ⊥) → get_or new.rows u 0 ≡ 0
      new_other u ne = get_or-set_other (blanks 6) t u (suc (count_at ts t)) 0 ne ∙ zeros 6 u

      new_spans : (u : ℕ) → spans new.rows u ≡ true → u ≡ t
      new_spans u h =
          ⊎_elim (λ e. e) (λ ne. clash (spans new.rows u) h (ap (ltb 0) (new_other u ne))) (cases_eq u t)

      new_based : spans new.rows t ≡ true
      new_based = let e = new_at in lt-ltb 0 (get_or new.rows t 0) (omega arith)

      pub new_sound : Sound q ts' (suc next) new
      new_sound =
          record {
            shape = record {
              width = length-set (blanks 6) t (suc (count_at ts t)) ∙ length-replicate {A = ℕ} 6 0;
              marks = length-replicate 8 false;
              inside = λ u h. subst (λ (v : ℕ). v < tables q) (sym (new_spans u h)) low;
              base = t;
              based = new_based;
              bound_for = tt;
            };
            kept = λ u.
                ⊎_elim
                (λ e. subst (λ (v : ℕ). get_or new.rows v 0 ≤ count_at ts' v) (sym e) (let a = new_at in let b = count_with ts t cells next in' in omega arith))
                (λ ne. let a = new_other u ne in omega arith)
                (cases_eq u t);
            young = omega arith;
            alone = λ u n un a b s.
                ⊎_elim (λ l. let k = below u n a l in let e = stamp_old u n l in omega arith)
                (λ k. clash (spans new.rows u) (subst (λ (v : ℕ). spans new.rows v ≡ true) (sym k.0) new_based) un)
                (row_cases u n b);
            tied = All-weaker (Apart q) (Tied q (relations_of ts') new.rows) (λ j a l r. absurd (a.0 (new_spans j.left.table l ∙ sym (new_spans j.right.table r)))) q.joins lawful.apart;
            passed = λ i l m. clash (get_or (replicate 8 false) i false) m (falses 8 i);
          }

      -- a new combination
      module _ (c : List ℕ) (comb : Combination q (relations_of ts') c) where
        kept_now : (u : ℕ) → get_or c u 0 ≤ count_at ts' u
        kept_now u = let a = comb_kept q (relations_of ts') c comb u in let b = count-relations ts' u in omega arith

        module _ (at : get_or c t 0 ≡ suc (count_at ts t)) where
          new_owes : owes q ts' c new ≡ true
          unfolding owes
          new_owes =
              upto_from (tables q) (λ u. agrees ts' new u (get_or c u 0))
              (λ u l.
              ⊎_elim
              (λ e.
              cond-true (spans new.rows u) (eqb (get_or c u 0) (get_or new.rows u 0)) (ltb (stamp_of_row ts' u (get_or c u 0)) next && true)
              (subst (λ (v : ℕ). spans new.rows v ≡ true) (sym e) new_based)
              ∙ eq-eqb (get_or c u 0) (get_or new.rows u 0) (subst (λ (v : ℕ). get_or c v 0 ≡ get_or new.rows v 0) (sym e) (at ∙ sym new_at)))
              (λ ne.
              cond-false (spans new.rows u) (eqb (get_or c u 0) (get_or new.rows u 0)) (ltb (stamp_of_row ts' u (get_or c u 0)) next && true) (ap (ltb 0) (new_other u ne))
              ∙ and_from (ltb (stamp_of_row ts' u (get_or c u 0)) next) true
              (lt-ltb (stamp_of_row ts' u (get_or c u 0)) next
              (⊎_elim
              (λ l'. let k = below u (get_or c u 0) (comb.kept u l).0 l' in let e = stamp_old u (get_or c u 0) l' in omega arith)
              (λ k. absurd (ne k.0))
              (row_cases u (get_or c u 0) (kept_now u))))
              refl)
              (cases_eq u t))

          old_owes_not : (x : Tuple) → Sound q ts next x → owes q ts' c x ≡ false
          unfolding owes
          old_owes_not x d =
              never_true (owes q ts' c x)
              (λ h.
              ⊎_elim
              (λ sp. let e = owes_along q ts' c x d.shape.inside h t sp in let k = d.kept t in omega arith)
              (λ un.
              let a = sym (cond-false (spans x.rows t) (eqb (get_or c t 0) (get_or x.rows t 0)) (ltb (stamp_of_row ts' t (get_or c t 0)) x.driver && beyond x.state t (get_or c t 0)) un)
              ∙ upto_all (tables q) (λ u. agrees ts' x u (get_or c u 0)) h t low in
              let l = ltb-true (stamp_of_row ts' t (get_or c t 0)) x.driver (and_parts (ltb (stamp_of_row ts' t (get_or c t 0)) x.driver) (beyond x.state t (get_or c t 0)) a).0 in
              let e : stamp_of_row ts' t (get_or c t 0) ≡ stamp_of_row ts' t (suc (count_at ts t)) = ap (stamp_of_row ts' t) at in
              let f = stamp_new in let y = d.young in omega arith)
              (cases_Bool (spans x.rows t)))

          pub new_once : (ps : List Posting) (waiting : List Tuple)
              → AllByRecursion (RightPosting q (relations_of ts)) ps → AllByRecursion (Sound q ts next) waiting
              → times (λ p. same_list c p.rows) ps + times (owes q ts' c) (new ∷ waiting) ≡ 1
          new_once ps waiting ls ws =
              let a = times_none (λ p. same_list c p.rows) (RightPosting q (relations_of ts)) ps
              (λ p k. never_true (same_list c p.rows) (λ h.
              let e : get_or c t 0 ≡ get_or p.rows t 0 = ap (λ (z : List ℕ). get_or z t 0) (same_list_true c p.rows h) in
              let b = comb_kept q (relations_of ts) p.rows k.combination t in let g = count-relations ts t in omega arith)) ls in
              let b = times_none (owes q ts' c) (Sound q ts next) waiting old_owes_not ws in
              let n : bit (owes q ts' c new) ≡ 1 = ap bit new_owes in
              omega arith

        module _ (old : (get_or c t 0 ≡ suc (count_at ts t)) → ⊥) where
          kept_then : (u : ℕ) → get_or c u 0 ≤ count_at ts u
          kept_then u =
              ⊎_elim (λ l. l) (λ k. absurd (old (subst (λ (v : ℕ). get_or c v 0 ≡ suc (count_at ts t)) k.0 k.1))) (row_cases u (get_or c u 0) (kept_now u))

          pub old_comb : Combination q (relations_of ts) c
          old_comb =
              record {
                six = comb.six;
                rest = comb.rest;
                kept = λ u l. ((comb.kept u l).0, let a = kept_then u in let b = count-relations ts u in omega arith);
              }

          pub old_meets : Meets q (relations_of ts') c → Meets q (relations_of ts) c
          old_meets h = subst (λ (R : Reading). meets q R ≡ true) (same_reading q c kept_then) h

          same_owes : (x : Tuple) → owes q ts' c x ≡ owes q ts c x
          unfolding owes
          same_owes x =
              upto_ext (tables q) (λ u. agrees ts' x u (get_or c u 0)) (λ u. agrees ts x u (get_or c u 0))
              (λ u l.
              ap (λ (n : ℕ). cond (spans x.rows u) (eqb (get_or c u 0) (get_or x.rows u 0)) (ltb n x.driver && beyond x.state u (get_or c u 0)))
              (stamp_old u (get_or c u 0) (kept_then u)))

          new_owes_not : owes q ts' c new ≡ false
          new_owes_not =
              never_true (owes q ts' c new)
              (λ h. old (owes_along q ts' c new (λ u h'. subst (λ (v : ℕ). v < tables q) (sym (new_spans u h')) low) h t new_based ∙ new_at))

          pub old_once : (ps : List Posting) (waiting : List Tuple)
              → times (λ p. same_list c p.rows) ps + times (owes q ts c) waiting ≡ 1
              → times (λ p. same_list c p.rows) ps + times (owes q ts' c) (new ∷ waiting) ≡ 1
          old_once ps waiting h =
              let a : times (owes q ts' c) waiting ≡ times (owes q ts c) waiting = times_ext (owes q ts' c) (owes q ts c) waiting same_owes in
              let n : bit (owes q ts' c new) ≡ 0 = ap bit new_owes_not in
              omega arith

    pub old_right : (q : Query) (p : Posting) → RightPosting q (relations_of ts) p → RightPosting q (relations_of ts') p
    old_right q p k =
        let c = p.rows in
        let small : (u : ℕ) → get_or c u 0 ≤ count_at ts u = λ u. let a = comb_kept q (relations_of ts) c k.combination u in let b = count-relations ts u in omega arith in
        record {
          combination = record {
            six = k.combination.six;
            rest = k.combination.rest;
            kept = λ u l. ((k.combination.kept u l).0, let a = small u in let b = count-relations ts' u in let g = count_with_le ts t cells next in' u in omega arith);
          };
          meeting = subst (λ (R : Reading). meets q R ≡ true) (sym (same_reading q c small)) k.meeting;
          bytes = subst (λ (R : Reading). p.bytes ≡ line q R) (sym (same_reading q c small)) k.bytes;
        }
