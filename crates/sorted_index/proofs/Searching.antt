-- Binary search in a sorted list: a stretch is left, below which all elements lead up to the bound and above which none does.
use Rattle.std.proofs.Common.{◌≡◌, ℕ, ◌+◌, ◌-◌, ◌/◌, ◌<◌, ◌≤◌, Bool, true, false, List, length, get_or, sym, ap, ◌∙◌, ⊎_elim, arith}
use Rattle.std.specs.List.{prefix_len}
use Rattle.std.proofs.lemmas.Bool.{cases_eq, cases_Bool, both_ways}
use Rattle.std.proofs.lemmas.List.{get_or_default}
use Rattle.std.proofs.lemmas.List.Sums.{prefix_len_is}
use Rattle.sorted_index.specs.Sorting.{sorted}
use Rattle.sorted_index.proofs.Sorting.{sorted_at}
use Rattle.sorted_index.proofs.Halving.{Halved, halved_more}

module _ {X : Type 0} (before : X → X → Bool) (bound : X) (xs : List X) where
  pub record Cut (low high : ℕ) : Type 0 where
    pub under : (j : ℕ) (d : X) → j < low → before (get_or xs j d) bound ≡ true
    pub over : (j : ℕ) (d : X) → high ≤ j → j < length xs → before (get_or xs j d) bound ≡ false

  -- after so many looks, the stretch from low to high is left
  pub record Narrowed (low high looks : ℕ) : Type 0 where
    pub rises : low ≤ high
    pub inside : high ≤ length xs
    pub few : looks + (high - low) ≤ length xs
    pub halved : Halved (length xs) (high - low) looks
    pub cut : sorted before xs ≡ true → Cut low high

  pub narrowed_end : (low high looks : ℕ) → high ≤ low → Narrowed low high looks → sorted before xs ≡ true → low ≡ prefix_len (λ x. before x bound) xs
  narrowed_end low high looks le w s =
      let same : high ≡ low = omega (arith, w.rises) in
      sym (prefix_len_is (λ x. before x bound) xs low bound (omega (arith, w.inside)) (λ j lt. (w.cut s).under j bound lt) (λ lt. (w.cut s).over low bound (omega arith) lt))

  module _ (along : (x y z : X) → before x y ≡ true → before y z ≡ true → before x z ≡ true) (low high looks : ℕ) (x : X) (some : low < high) (is : x ≡ get_or xs (low + (high - low) / 2) x) (w : Narrowed low high looks) where
    mid : ℕ
    mid = low + (high - low) / 2

    inner : (low ≤ mid) × (mid < high) × (mid < length xs)
    unfolding mid
    inner = (omega arith, omega arith, omega (arith, w.inside))

    here : (d : X) (b : Bool) → before x bound ≡ b → before (get_or xs mid d) bound ≡ b
    unfolding mid
    here d b e = ap (λ y. before y bound) (get_or_default xs mid d x inner.2 ∙ sym is) ∙ e

    falls : sorted before xs ≡ true → (i j : ℕ) (d : X) → i < j → j < length xs → before (get_or xs j d) bound ≡ true → before (get_or xs i d) bound ≡ true
    falls s i j d lt u h = along (get_or xs i d) (get_or xs j d) bound (sorted_at before xs i j d lt u s) h

    cut_up : before x bound ≡ true → sorted before xs ≡ true → Cut (mid + 1) high
    cut_up e s = record {
      under = λ j d lt. ⊎_elim
          (λ (same : j ≡ mid). ap (λ k. before (get_or xs k d) bound) same ∙ here d true e)
          (λ ne. falls s j mid d (omega arith) inner.2 (here d true e))
          (cases_eq j mid);
      over = (w.cut s).over;
    }

    cut_down : before x bound ≡ false → sorted before xs ≡ true → Cut low mid
    cut_down e s = record {
      under = (w.cut s).under;
      over = λ j d le lt. ⊎_elim
          (λ (same : j ≡ mid). ap (λ k. before (get_or xs k d) bound) same ∙ here d false e)
          (λ ne. ⊎_elim
          (λ pass. absurd (both_ways (before (get_or xs mid d) bound) (here d false e) (falls s mid j d (omega arith) lt pass)))
          (λ out. out)
          (cases_Bool (before (get_or xs j d) bound)))
          (cases_eq j mid);
    }

    pub narrowed_up : before x bound ≡ true → Narrowed (low + (high - low) / 2 + 1) high (looks + 1)
    unfolding mid
    narrowed_up e = record {
      rises = omega (arith, inner);
      inside = w.inside;
      few = omega (arith, w.few);
      halved = halved_more (length xs) (high - low) (high - (mid + 1)) looks (omega arith) (omega arith) (omega arith) w.halved;
      cut = cut_up e;
    }

    pub narrowed_down : before x bound ≡ false → Narrowed low (low + (high - low) / 2) (looks + 1)
    unfolding mid
    narrowed_down e = record {
      rises = omega arith;
      inside = omega (arith, inner);
      few = omega (arith, w.few);
      halved = halved_more (length xs) (high - low) (mid - low) looks (omega arith) (omega arith) (omega arith) w.halved;
      cut = cut_down e;
    }
