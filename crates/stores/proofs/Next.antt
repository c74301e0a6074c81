-- The first element that passes: what is found, when none is, and one more element.
use Rattle.std.proofs.Common.{◌≡◌, ℕ, zero, suc, ◌+◌, ◌-◌, ◌<◌, ◌≤◌, Bool, true, false, cond, List, [], ◌∷◌, ◌++◌, length, get_or, drop, Some, None, Option, sym, refl, ap, ◌∙◌, ⊎_elim, arith, length-append, length-drop}
use Rattle.std.proofs.lemmas.List.{get_or_append_left, get_or-drop, drop-append-le}
use Rattle.std.proofs.lemmas.Bool.{both_ways, cases_lt}
use Rattle.stores.specs.Tables.{next_in, next_after}

-- a list with an element has one to read by
first_of : {X : Type 0} (xs : List X) (i : ℕ) → i < length xs → X
first_of [] i lt = absurd (omega arith)
first_of (x ∷ xs) i lt = x

module _ {X : Type 0} (p : X → Bool) where
  -- the element with number m is the first above `after` that passes
  pub record Found (after : ℕ) (xs : List X) (m : ℕ) : Type 0 where
    pub index : ℕ
    pub is : m ≡ suc index
    pub above : after ≤ index
    pub within : index < length xs
    pub passes : (d : X) → p (get_or xs index d) ≡ true
    pub before : (j : ℕ) (d : X) → after ≤ j → j < index → p (get_or xs j d) ≡ false

  -- the same, where the element before the list has the number n
  record First (n : ℕ) (xs : List X) (m : ℕ) : Type 0 where
    index : ℕ
    is : m ≡ suc (n + index)
    within : index < length xs
    passes : (d : X) → p (get_or xs index d) ≡ true
    before : (j : ℕ) (d : X) → j < index → p (get_or xs j d) ≡ false

  first : (n : ℕ) (xs : List X) (m : ℕ) → next_in p n xs ≡ Some m → First n xs m
  first n [] m e = absurd cc
  first n (x ∷ xs) m e = go (p x) refl (first (suc n) xs m) e
    where
      go : (b : Bool) → p x ≡ b → (next_in p (suc n) xs ≡ Some m → First (suc n) xs m) → cond b (Some (suc n)) (next_in p (suc n) xs) ≡ Some m → First n (x ∷ xs) m
      go true q more e =
          let same : suc n ≡ m = cc in
          record { index = 0; is = omega arith; within = omega arith; passes = λ d. q; before = λ j d lt. absurd (omega arith) }
      go false q more e =
          let f = more e in
          record {
            index = suc f.index;
            is = omega (arith, f.is);
            within = omega (arith, f.within);
            passes = f.passes;
            before = λ j d lt. under f.index f.before j d lt;
          }
        where
          under : (i : ℕ) → ((j : ℕ) (d : X) → j < i → p (get_or xs j d) ≡ false) → (j : ℕ) (d : X) → j < suc i → p (get_or (x ∷ xs) j d) ≡ false
          under i rest zero d lt = q
          under i rest (suc j) d lt = rest j d (omega arith)

  is_first : (n : ℕ) (xs : List X) (i : ℕ) → i < length xs → ((d : X) → p (get_or xs i d) ≡ true) → ((j : ℕ) (d : X) → j < i → p (get_or xs j d) ≡ false) → next_in p n xs ≡ Some (suc (n + i))
  is_first n [] i lt here before = absurd (omega arith)
  is_first n (x ∷ xs) zero lt here before =
      let e : n ≡ n + 0 = omega arith in ap (λ b. cond b (Some (suc n)) (next_in p (suc n) xs)) (here x) ∙ ap (λ k. Some (suc k)) e
  is_first n (x ∷ xs) (suc i) lt here before =
      let e : suc n + i ≡ n + suc i = omega arith in
      ap (λ b. cond b (Some (suc n)) (next_in p (suc n) xs)) (before 0 x (omega arith))
      ∙ is_first (suc n) xs i (omega arith) here (λ j d l. before (suc j) d (omega arith)) ∙ ap (λ k. Some (suc k)) e

  in_none : (n : ℕ) (xs : List X) → next_in p n xs ≡ None → (i : ℕ) (d : X) → i < length xs → p (get_or xs i d) ≡ false
  in_none n [] e i d lt = absurd (omega arith)
  in_none n (x ∷ xs) e i d lt = go (p x) refl (in_none (suc n) xs) e i lt
    where
      go : (b : Bool) → p x ≡ b → (next_in p (suc n) xs ≡ None → (i : ℕ) (d : X) → i < length xs → p (get_or xs i d) ≡ false) → cond b (Some (suc n)) (next_in p (suc n) xs) ≡ None → (i : ℕ) → i < length (x ∷ xs) → p (get_or (x ∷ xs) i d) ≡ false
      go true q more e i lt = absurd cc
      go false q more e zero lt = q
      go false q more e (suc i) lt = more e i d (omega arith)

  is_none : (n : ℕ) (xs : List X) → ((i : ℕ) (d : X) → i < length xs → p (get_or xs i d) ≡ false) → next_in p n xs ≡ None
  is_none n [] h = refl
  is_none n (x ∷ xs) h =
      ap (λ b. cond b (Some (suc n)) (next_in p (suc n) xs)) (h 0 x (omega arith)) ∙ is_none (suc n) xs (λ i d lt. h (suc i) d (omega arith))

  at_drop : (after : ℕ) (xs : List X) (i : ℕ) (d : X) → after ≤ i → p (get_or (drop after xs) (i - after) d) ≡ p (get_or xs i d)
  at_drop after xs i d le = let e : after + (i - after) ≡ i = omega arith in ap p (get_or-drop after xs (i - after) d ∙ ap (λ k. get_or xs k d) e)

  -- what is found is the first that passes
  pub next_found : (after : ℕ) (xs : List X) (m : ℕ) → next_after p after xs ≡ Some m → Found after xs m
  next_found after xs m e =
      let f = first after (drop after xs) m e in
      let long = length-drop after xs in
      let i = f.index in
      record {
        index = after + i;
        is = f.is;
        above = omega arith;
        within = omega (arith, f.within);
        passes = λ d. ap p (sym (get_or-drop after xs i d)) ∙ f.passes d;
        before = λ j d le lt. sym (at_drop after xs j d le) ∙ f.before (j - after) d (omega arith);
      }

  -- uniqueness: the first that passes is what is found
  pub next_is : (after : ℕ) (xs : List X) (m : ℕ) → Found after xs m → next_after p after xs ≡ Some m
  next_is after xs m f =
      let i = f.index in
      let long = length-drop after xs in
      let e : suc (after + (i - after)) ≡ m = omega (arith, f.is, f.above) in
      is_first after (drop after xs) (i - after) (omega (arith, f.within, f.above)) (λ d. at_drop after xs i d f.above ∙ f.passes d)
      (λ j d lt. ap p (get_or-drop after xs j d) ∙ f.before (after + j) d (omega arith) (omega (arith, f.above)))
      ∙ ap Some e

  -- none found: none passes
  pub next_none : (after : ℕ) (xs : List X) → next_after p after xs ≡ None → (i : ℕ) (d : X) → after ≤ i → i < length xs → p (get_or xs i d) ≡ false
  next_none after xs e i d le lt =
      let long = length-drop after xs in
      sym (at_drop after xs i d le) ∙ in_none after (drop after xs) e (i - after) d (omega arith)

  pub next_is_none : (after : ℕ) (xs : List X) → ((i : ℕ) (d : X) → after ≤ i → i < length xs → p (get_or xs i d) ≡ false) → next_after p after xs ≡ None
  next_is_none after xs h =
      let long = length-drop after xs in
      is_none after (drop after xs) (λ i d lt. ap p (get_or-drop after xs i d) ∙ h (after + i) d (omega arith) (omega arith))

  -- elements that do not pass are passed over
  pub next_skip : (lo hi : ℕ) (xs : List X) → lo ≤ hi → ((i : ℕ) (d : X) → lo ≤ i → i < hi → i < length xs → p (get_or xs i d) ≡ false) → next_after p lo xs ≡ next_after p hi xs
  next_skip lo hi xs le out = go (next_after p lo xs) refl
    where
      go : (o : Option ℕ) → next_after p lo xs ≡ o → next_after p lo xs ≡ next_after p hi xs
      go None e = e ∙ sym (next_is_none hi xs (λ i d l u. next_none lo xs e i d (omega arith) u))
      go (Some m) e =
          let f = next_found lo xs m e in
          let far : hi ≤ f.index = ⊎_elim
          (λ (lt : f.index < hi). absurd (let d = first_of xs f.index f.within in both_ways (p (get_or xs f.index d)) (out f.index d f.above lt f.within) (f.passes d)))
          (λ ge. ge)
          (cases_lt f.index hi) in
          e ∙ sym (next_is hi xs m (record {
            index = f.index;
            is = f.is;
            above = far;
            within = f.within;
            passes = f.passes;
            before = λ j d l u. f.before j d (omega arith) u;
          }))

  -- more elements: what was found stays found
  pub next_append : (after : ℕ) (xs ys : List X) (m : ℕ) → next_after p after xs ≡ Some m → next_after p after (xs ++ ys) ≡ Some m
  next_append after xs ys m e =
      let f = next_found after xs m e in
      let left = λ (k : ℕ) (d : X) (lt : k < length xs). ap p (get_or_append_left xs ys d k lt) in
      let long = length-append xs ys in
      next_is after (xs ++ ys) m (record {
        index = f.index;
        is = f.is;
        above = f.above;
        within = omega (arith, f.within);
        passes = λ d. left f.index d f.within ∙ f.passes d;
        before = λ j d le lt. left j d (omega (arith, f.within)) ∙ f.before j d le lt;
      })

  -- one element more, where none was found: it is found if it passes
  pub next_push : (after : ℕ) (xs : List X) (y : X) → after ≤ length xs → next_after p after xs ≡ None → next_after p after (xs ++ y ∷ []) ≡ cond (p y) (Some (suc (length xs))) None
  next_push after xs y le e = ap (next_in p after) (drop-append-le after xs (y ∷ []) le) ∙ go after (drop after xs) e ∙ ap (λ k. cond (p y) (Some (suc k)) None) count
    where
      count : after + length (drop after xs) ≡ length xs
      count = let long = length-drop after xs in omega arith

      go : (n : ℕ) (zs : List X) → next_in p n zs ≡ None → next_in p n (zs ++ y ∷ []) ≡ cond (p y) (Some (suc (n + length zs))) None
      go n [] h = let z : n ≡ n + 0 = omega arith in ap (λ k. cond (p y) (Some (suc k)) None) z
      go n (x ∷ zs) h = step (p x) refl h (go (suc n) zs)
        where
          step : (b : Bool) → p x ≡ b → cond b (Some (suc n)) (next_in p (suc n) zs) ≡ None → (next_in p (suc n) zs ≡ None → next_in p (suc n) (zs ++ y ∷ []) ≡ cond (p y) (Some (suc (suc n + length zs))) None)
              → cond b (Some (suc n)) (next_in p (suc n) (zs ++ y ∷ [])) ≡ cond (p y) (Some (suc (n + length (x ∷ zs)))) None
          step true q h more = absurd cc
          step false q h more = let z : suc n + length zs ≡ n + suc (length zs) = omega arith in more h ∙ ap (λ k. cond (p y) (Some (suc k)) None) z
