-- Lists in which every element stands equally often are shuffles of each other.
use Rattle.std.proofs.Common.{◌≡◌, ℕ, ◌+◌, Bool, true, false, cond, List, [], ◌∷◌, map, filter, sym, refl, ap, ◌∙◌, subst, ap₂, ⊎_elim, arith}
use Rattle.std.specs.List.{AllByRecursion}
use Rattle.std.specs.List.Sorted.{IsPermutation}
use Rattle.std.proofs.lemmas.List.Sorted.{IsPermutation-refl, IsPermutation-sym, IsPermutation-cons, IsPermutation-swap, IsPermutation-trans}
use Rattle.std.proofs.lemmas.Bool.{cases_Bool, cond-true, cond-false}
use Rattle.rules.specs.Lists.{bit, times, same_list}
use Rattle.rules.proofs.Times.{same_list_true, same_list_refl}
use Rattle.rules.proofs.Uptos.{clash}

-- an element that stands in a list is pulled to its front
record Pulled {B : Type 0} (f : List ℕ → B) (x : List ℕ) (ys : List (List ℕ)) : Type 0 where
  rest : List (List ℕ)
  front : IsPermutation (map f ys) (f x ∷ map f rest)
  counts : (c : List ℕ) → times (same_list c) ys ≡ bit (same_list c x) + times (same_list c) rest

pull : {B : Type 0} (f : List ℕ → B) (x : List ℕ) (ys : List (List ℕ)) → (times (same_list x) ys ≡ 0 → ⊥) → Pulled f x ys
pull f x [] h = absurd (h refl)
pull {B} f x (y ∷ ys) h = go (same_list x y) refl (pull f x ys)
  where
    go : (b : Bool) → same_list x y ≡ b → ((times (same_list x) ys ≡ 0 → ⊥) → Pulled f x ys) → Pulled f x (y ∷ ys)
    go true e ih =
        let is : y ≡ x = sym (same_list_true x y e) in
        record {
          rest = ys;
          front = subst (λ (z : List ℕ). IsPermutation (f y ∷ map f ys) (f z ∷ map f ys)) is (IsPermutation-refl (f y ∷ map f ys));
          counts = λ c. ap (λ (z : List ℕ). bit (same_list c z) + times (same_list c) ys) is;
        }
    go false e ih =
        let p = ih (λ z. h (ap₂ (λ b n. bit b + n) e z)) in
        record {
          rest = y ∷ p.rest;
          front = IsPermutation-trans (f y ∷ map f ys) (f y ∷ f x ∷ map f p.rest) (f x ∷ f y ∷ map f p.rest)
              (IsPermutation-cons (f y) (map f ys) (f x ∷ map f p.rest) p.front)
              (IsPermutation-swap (f y ∷ f x ∷ map f p.rest) (f x ∷ f y ∷ map f p.rest) 0 1 (omega arith) (omega arith) refl);
          counts = λ c. let k = p.counts c in omega arith;
        }

pub shuffled_by_times : {B : Type 0} (f : List ℕ → B) (xs ys : List (List ℕ)) → ((c : List ℕ) → times (same_list c) xs ≡ times (same_list c) ys) → IsPermutation (map f xs) (map f ys)
shuffled_by_times f [] [] h = IsPermutation-refl []
shuffled_by_times f [] (y ∷ ys) h =
    let a = h y in
    let b : bit (same_list y y) ≡ 1 = ap bit (same_list_refl y) in
    absurd (let z : ⊥ = omega arith in z)
shuffled_by_times f (x ∷ xs) ys h =
    let b : bit (same_list x x) ≡ 1 = ap bit (same_list_refl x) in
    let p = pull f x ys (λ e. let a = h x in let z : ⊥ = omega arith in z) in
    IsPermutation-trans (f x ∷ map f xs) (f x ∷ map f p.rest) (map f ys)
    (IsPermutation-cons (f x) (map f xs) (map f p.rest) (shuffled_by_times f xs p.rest (λ c. let a = h c in let k = p.counts c in omega arith)))
    (IsPermutation-sym (map f ys) (f x ∷ map f p.rest) p.front)

-- what holds of each element holds of one that stands in the list
pub standing : (P : List ℕ → Type 0) (c : List ℕ) (xs : List (List ℕ)) → AllByRecursion P xs → (times (same_list c) xs ≡ 0 → ⊥) → P c
standing P c [] a h = absurd (h refl)
standing P c (x ∷ xs) a h = go (same_list c x) refl (standing P c xs a.1)
  where
    go : (b : Bool) → same_list c x ≡ b → ((times (same_list c) xs ≡ 0 → ⊥) → P c) → P c
    go true e f = subst P (sym (same_list_true c x e)) a.0
    go false e f = f (λ z. h (ap₂ (λ b n. bit b + n) e z))

-- how often an element stands among those that pass a test
pub times-kept : (p : List ℕ → Bool) (c : List ℕ) (xs : List (List ℕ)) → times (same_list c) (filter p xs) ≡ cond (p c) (times (same_list c) xs) 0
times-kept p c [] = ⊎_elim (λ e. sym (cond-true (p c) 0 0 e)) (λ e. sym (cond-false (p c) 0 0 e)) (cases_Bool (p c))
times-kept p c (x ∷ xs) = go (p x) refl (same_list c x) refl (p c) refl (times-kept p c xs)
  where
    go : (a : Bool) → p x ≡ a → (s : Bool) → same_list c x ≡ s → (b : Bool) → p c ≡ b
        → times (same_list c) (filter p xs) ≡ cond (p c) (times (same_list c) xs) 0 → times (same_list c) (filter p (x ∷ xs)) ≡ cond (p c) (bit (same_list c x) + times (same_list c) xs) 0
    go true ex s es true ec ih = rw (ex, ec) (ap (λ n. bit (same_list c x) + n) (rw ec at ih))
    go true ex true es false ec ih = clash (p c) (ap p (same_list_true c x es) ∙ ex) ec
    go true ex false es false ec ih = let k : times (same_list c) (filter p xs) ≡ 0 = rw ec at ih in rw (ex, ec) (ap₂ (λ b n. bit b + n) es k)
    go false ex true es true ec ih = clash (p c) ec (ap p (same_list_true c x es) ∙ ex)
    go false ex false es true ec ih =
        let k : times (same_list c) (filter p xs) ≡ times (same_list c) xs = rw ec at ih in
        let z : bit (same_list c x) ≡ 0 = ap bit es in
        rw (ex, ec) (let w : times (same_list c) (filter p xs) ≡ bit (same_list c x) + times (same_list c) xs = omega arith in w)
    go false ex s es false ec ih = let k : times (same_list c) (filter p xs) ≡ 0 = rw ec at ih in rw (ex, ec) k
