-- Each combination is posted once or owed once; equal rows make equal postings.
use Rattle.std.proofs.Common.{◌≡◌, ℕ, ◌+◌, Bool, true, false, List, [], ◌∷◌, Some, sym, refl, ap, ◌∙◌, subst, ap₂, inl, inr, ⊎_elim, arith}
use Rattle.std.specs.List.{AllByRecursion}
use Rattle.std.proofs.lemmas.Bool.{cases_eq}
use Rattle.std.proofs.ByRecursion.{All-weaker}
use Rattle.query.specs.Queries.{Query}
use Rattle.algebra.specs.Algebra.{Relations}
use Rattle.rules.specs.Lists.{bit, times, same_list}
use Rattle.rules.specs.Reads.{relations_of, count, kept_cell, seen_cell}
use Rattle.law.proofs.InOrder.{names, InOrder, history_kept}
use Rattle.law.specs.Histories.{Posting, Journal, journal, NothingWaits}
use Rattle.law.specs.Law.{Combination, Meets, owes, posted_times, owing_tuples, RightPosting, ExactlyOnce, PostedOnceOrOwedOnce, EqualRowsEqualPostings, AcceptedCellsAreSeen}
use Rattle.rules.proofs.Checked.{Checked}
use Rattle.rules.proofs.Grows.{count-relations}
use Rattle.rules.proofs.Times.{same_list_true}

module _ (q : Query) (lawful : Checked q) where
  in_order_once : (j : Journal) → InOrder q lawful j → ExactlyOnce q j
  in_order_once j k =
      record {
        once = λ c comb meet.
            let o = k.once c (subst (λ (z : Relations). Combination q z c) k.same_rows comb) (subst (λ (z : Relations). Meets q z c) k.same_rows meet) in
            ⊎_elim (λ e. inr (e, omega arith)) (λ ne. inl (omega arith, omega arith)) (cases_eq (posted_times j c) 0);
        right = subst (λ (z : Relations). AllByRecursion (RightPosting q z) j.postings) (sym k.same_rows) k.good;
      }

  pub accepted_cells_are_seen : AcceptedCellsAreSeen q
  accepted_cells_are_seen h t r c a b d =
      let k = history_kept q lawful h in
      let ts = (journal q h).world.store in
      subst (λ (z : Relations). kept_cell z t r c ≡ Some (seen_cell q z t r c)) (sym k.same_rows)
      (k.cells t r c a (let e : count (journal q h).rows t ≡ count (relations_of ts) t = ap (λ (z : Relations). count z t) k.same_rows in let f = count-relations ts t in omega arith) d)

  -- (a)
  pub posted_once_or_owed_once : PostedOnceOrOwedOnce q
  posted_once_or_owed_once h = in_order_once (journal q h) (history_kept q lawful h)

-- (c)
posted_good : (P : List ℕ → Type 0) (c : List ℕ) (ps : List Posting) → AllByRecursion (λ p. P p.rows) ps → (times (names c) ps ≡ 0 → ⊥) → P c
posted_good P c [] a h = absurd (h refl)
posted_good P c (p ∷ ps) a h = go (same_list c p.rows) refl (posted_good P c ps a.1)
  where
    go : (b : Bool) → same_list c p.rows ≡ b → ((times (names c) ps ≡ 0 → ⊥) → P c) → P c
    go true e f = subst P (sym (same_list_true c p.rows e)) a.0
    go false e f = f (λ z. h (ap₂ (λ b n. bit b + n) e z))

abbrev pub Line : Query → Relations → List ℕ → Type 0
Line q rows c = Combination q rows c × Meets q rows c

pub posted_line : (q : Query) (j : Journal) → ExactlyOnce q j → (c : List ℕ) → (posted_times j c ≡ 0 → ⊥) → Line q j.rows c
posted_line q j a c h =
    posted_good (Line q j.rows) c j.postings (All-weaker (RightPosting q j.rows) (λ p. Line q j.rows p.rows) (λ p r. (r.combination, r.meeting)) j.postings a.right) h

pub settled : (q : Query) (j : Journal) → ExactlyOnce q j → NothingWaits j → (c : List ℕ) → Line q j.rows c → posted_times j c ≡ 1
settled q j a e c l =
    let z : owing_tuples q j c ≡ 0 = ap (times (owes q j.world.store c)) e in
    ⊎_elim (λ k. k.0) (λ k. absurd (let o = k.1 in let y : ⊥ = omega arith in y)) (a.once c l.0 l.1)

-- journals with equal rows, in which nothing waits, have equal postings
same_postings : (q : Query) (j j' : Journal) → ExactlyOnce q j → ExactlyOnce q j' → j.rows ≡ j'.rows → NothingWaits j → NothingWaits j' → (c : List ℕ) → posted_times j c ≡ posted_times j' c
same_postings q j j' a a' same_rows none none' c =
    ⊎_elim
    (λ e.
    ⊎_elim (λ e'. e ∙ sym e')
    (λ ne'.
    let k = posted_line q j' a' c ne' in
    let o = settled q j a none c (subst (λ (z : Relations). Line q z c) (sym same_rows) k) in
    absurd (let y : ⊥ = omega arith in y))
    (cases_eq (posted_times j' c) 0))
    (λ ne.
    let k = posted_line q j a c ne in
    settled q j a none c k ∙ sym (settled q j' a' none' c (subst (λ (z : Relations). Line q z c) same_rows k)))
    (cases_eq (posted_times j c) 0)

pub equal_rows_equal_postings : (q : Query) → Checked q → EqualRowsEqualPostings q
equal_rows_equal_postings q lawful h k same_rows none none' c =
    same_postings q (journal q h) (journal q k) (posted_once_or_owed_once q lawful h) (posted_once_or_owed_once q lawful k) same_rows none none' c
