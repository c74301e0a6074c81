-- `all` and `any` over a list: at an element, over two lists, at one more.
use Rattle.std.proofs.Common.{◌≡◌, ℕ, zero, suc, ◌<◌, Bool, true, false, ◌||◌, List, [], ◌∷◌, ◌++◌, length, get_or, sym, refl, ap, ◌∙◌, arith}
use Rattle.std.proofs.lemmas.Bool.{and_parts, and_from, or_left, or_right}
use Rattle.basis.specs.Lists.{all, any}

module _ {A : Type 0} (p : A → Bool) where
  pub all_at : (xs : List A) (i : ℕ) (d : A) → i < length xs → all p xs ≡ true → p (get_or xs i d) ≡ true
  all_at [] i d h e = absurd (let z : ⊥ = omega arith in z)
  all_at (x ∷ xs) zero d h e = (and_parts (p x) (all p xs) e).0
  all_at (x ∷ xs) (suc i) d h e = all_at xs i d (omega arith) (and_parts (p x) (all p xs) e).1

  pub all_append : (xs ys : List A) → all p xs ≡ true → all p ys ≡ true → all p (xs ++ ys) ≡ true
  all_append [] ys h k = k
  all_append (x ∷ xs) ys h k =
      let q = and_parts (p x) (all p xs) h in and_from (p x) (all p (xs ++ ys)) q.0 (all_append xs ys q.1 k)

  pub all_parts : (xs ys : List A) → all p (xs ++ ys) ≡ true → (all p xs ≡ true) × (all p ys ≡ true)
  all_parts [] ys h = (refl, h)
  all_parts (x ∷ xs) ys h =
      let q = and_parts (p x) (all p (xs ++ ys)) h in
      let r = all_parts xs ys q.1 in
      (and_from (p x) (all p xs) q.0 r.0, r.1)

  pub all_push : (xs : List A) (y : A) → all p xs ≡ true → p y ≡ true → all p (xs ++ y ∷ []) ≡ true
  all_push xs y h e = all_append xs (y ∷ []) h (and_from (p y) true e refl)

  pub any-append-left : (xs ys : List A) → any p xs ≡ true → any p (xs ++ ys) ≡ true
  any-append-left [] ys h = absurd (let z : ◌≡◌ {A = ℕ} 0 1 = cc in omega arith)
  any-append-left (x ∷ xs) ys h = go (p x) refl (any-append-left xs ys)
    where
      go : (b : Bool) → p x ≡ b → (any p xs ≡ true → any p (xs ++ ys) ≡ true) → (p x || any p (xs ++ ys)) ≡ true
      go true e more = or_left (p x) (any p (xs ++ ys)) e
      go false e more = or_right (p x) (any p (xs ++ ys)) (more (ap (λ b. b || any p xs) (sym e) ∙ h))

  pub any_push : (xs : List A) (y : A) → p y ≡ true → any p (xs ++ y ∷ []) ≡ true
  any_push [] y e = or_left (p y) false e
  any_push (x ∷ xs) y e = or_right (p x) (any p (xs ++ y ∷ [])) (any_push xs y e)

-- a test that implies another
pub all_weaker : {A : Type 0} (p q : A → Bool) → ((x : A) → p x ≡ true → q x ≡ true) → (xs : List A) → all p xs ≡ true → all q xs ≡ true
all_weaker p q w [] h = refl
all_weaker p q w (x ∷ xs) h =
    let r = and_parts (p x) (all p xs) h in and_from (q x) (all q xs) (w x r.0) (all_weaker p q w xs r.1)
