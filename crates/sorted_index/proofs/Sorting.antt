-- Sorted lists: the order of two elements, what leads up to a place, and one element more.
use Rattle.std.proofs.Common.{◌≡◌, ℕ, zero, suc, ◌+◌, ◌-◌, ◌<◌, Bool, true, false, cond, ◌||◌, List, [], ◌∷◌, ◌++◌, length, get_or, take, drop, sym, refl, ap, ◌∙◌, one-add, arith}
use Rattle.std.specs.List.{prefix_len}
use Rattle.std.proofs.lemmas.List.{take-take}
use Rattle.std.proofs.lemmas.Bool.{and_parts, and_from}
use Rattle.basis.specs.Lists.{all, any}
use Rattle.basis.proofs.Alls.{all_at, all_weaker}
use Rattle.sorted_index.specs.Sorting.{sorted, inserted, all_but_last}

module _ {X : Type 0} (before : X → X → Bool) where
  pub sorted_at : (xs : List X) (i j : ℕ) (d : X) → i < j → j < length xs → sorted before xs ≡ true → before (get_or xs i d) (get_or xs j d) ≡ true
  sorted_at [] i j d lt u s = absurd (let z : ⊥ = omega arith in z)
  sorted_at (x ∷ xs) i zero d lt u s = absurd (let z : ⊥ = omega arith in z)
  sorted_at (x ∷ xs) zero (suc j) d lt u s = all_at (before x) xs j d (omega arith) (and_parts (all (before x) xs) (sorted before xs) s).0
  sorted_at (x ∷ xs) (suc i) (suc j) d lt u s = sorted_at xs i j d (omega arith) (omega arith) (and_parts (all (before x) xs) (sorted before xs) s).1

  inserted_at : (x : X) (xs : List X) → take (prefix_len (λ y. before y x) xs) xs ++ x ∷ drop (prefix_len (λ y. before y x) xs) xs ≡ inserted before x xs
  inserted_at x [] = refl
  inserted_at x (y ∷ ys) = go (before y x) (inserted_at x ys)
    where
      go : (b : Bool) → take (prefix_len (λ z. before z x) ys) ys ++ x ∷ drop (prefix_len (λ z. before z x) ys) ys ≡ inserted before x ys
          → take (cond b (1 + prefix_len (λ z. before z x) ys) 0) (y ∷ ys) ++ x ∷ drop (cond b (1 + prefix_len (λ z. before z x) ys) 0) (y ∷ ys) ≡ cond b (y ∷ inserted before x ys) (x ∷ y ∷ ys)
      go true more = ap (λ k. take k (y ∷ ys) ++ x ∷ drop k (y ∷ ys)) (one-add (prefix_len (λ z. before z x) ys)) ∙ ap (λ zs. y ∷ zs) more
      go false more = refl

  -- what stands before the last place, with x shifted in at its place
  pub inserted_there : (x : X) (xs : List X) (n : ℕ) → n < length xs → n ≡ prefix_len (λ y. before y x) (all_but_last xs) → take n xs ++ x ∷ drop n (all_but_last xs) ≡ inserted before x (all_but_last xs)
  inserted_there x xs n lt is =
      ap (λ ys. ys ++ x ∷ drop n (all_but_last xs)) (sym (take-take n (length xs - 1) xs (omega arith)))
      ∙ ap (λ k. take k (all_but_last xs) ++ x ∷ drop k (all_but_last xs)) is
      ∙ inserted_at x (all_but_last xs)

  pub all_inserted : (p : X → Bool) (x : X) (xs : List X) → p x ≡ true → all p xs ≡ true → all p (inserted before x xs) ≡ true
  all_inserted p x [] e h = and_from (p x) true e refl
  all_inserted p x (y ∷ ys) e h = let q = and_parts (p y) (all p ys) h in go (before y x) (all_inserted p x ys e q.1)
    where
      go : (b : Bool) → all p (inserted before x ys) ≡ true → all p (cond b (y ∷ inserted before x ys) (x ∷ y ∷ ys)) ≡ true
      go true more = and_from (p y) (all p (inserted before x ys)) (and_parts (p y) (all p ys) h).0 more
      go false more = and_from (p x) (all p (y ∷ ys)) e h

  pub any-inserted : (p : X → Bool) (x : X) (xs : List X) → any p (inserted before x xs) ≡ (p x || any p xs)
  any-inserted p x [] = refl
  any-inserted p x (y ∷ ys) = go (before y x) (any-inserted p x ys)
    where
      swap : (a b c : Bool) → (a || (b || c)) ≡ (b || (a || c))
      swap true true c = refl
      swap true false c = refl
      swap false true c = refl
      swap false false c = refl

      go : (b : Bool) → any p (inserted before x ys) ≡ (p x || any p ys) → any p (cond b (y ∷ inserted before x ys) (x ∷ y ∷ ys)) ≡ (p x || (p y || any p ys))
      go true more = ap (λ b. p y || b) more ∙ swap (p y) (p x) (any p ys)
      go false more = refl

  module _ (along : (x y z : X) → before x y ≡ true → before y z ≡ true → before x z ≡ true) (total : (x y : X) → before x y ≡ false → before y x ≡ true) where
    pub sorted-inserted : (x : X) (xs : List X) → sorted before xs ≡ true → sorted before (inserted before x xs) ≡ true
    sorted-inserted x [] s = refl
    sorted-inserted x (y ∷ ys) s = go (before y x) refl (sorted-inserted x ys (and_parts (all (before y) ys) (sorted before ys) s).1)
      where
        go : (b : Bool) → before y x ≡ b → sorted before (inserted before x ys) ≡ true → sorted before (cond b (y ∷ inserted before x ys) (x ∷ y ∷ ys)) ≡ true
        go true e more =
            and_from (all (before y) (inserted before x ys)) (sorted before (inserted before x ys))
            (all_inserted (before y) x ys e (and_parts (all (before y) ys) (sorted before ys) s).0) more
        go false e more =
            let first = total y x e in
            and_from (all (before x) (y ∷ ys)) (sorted before (y ∷ ys))
            (and_from (before x y) (all (before x) ys) first
            (all_weaker (before y) (before x) (λ z h. along x y z first h) ys (and_parts (all (before y) ys) (sorted before ys) s).0))
            s
