-- A sorted index answers the least row above `after` that has the key.
use Rattle.std.proofs.Common.{◌≡◌, ℕ, ◌+◌, ◌<◌, ◌≤◌, Bool, true, false, cond, ◌&&◌, eqb, leb, List, [], ◌∷◌, slice_get, Some, None, Decides, Option, sym, refl, ap, ◌∙◌, subst, ⊎_elim, one-add, arith}
use Rattle.std.specs.List.{prefix_len}
use Rattle.std.proofs.lemmas.Bool.{and_parts, and_from, and_left, and_right, or_from, or_left, or_right, or_parts, both_ways, cases_Bool, eqb-true, eq-eqb, ne_eqb, leb-false}
use Rattle.basis.specs.Lists.{all, any}
use Rattle.keys.specs.Orders.{StrictOrder}
use Rattle.sorted_index.specs.Sorting.{sorted}
use Rattle.sorted_index.specs.Entries.{at_or_before, entry_of, has_entry, Nearest}
use Rattle.sorted_index.specs.declared.entry.Entry.{Entry}
use Rattle.sorted_index.proofs.EntryOrder.{ways}

-- the row of an entry, if there is one and it has the key
abbrev pub first_row : {K : Type 0} → (K → K → Bool) → K → Option (Entry K) → Option ℕ
first_row equals k None = None
first_row equals k (Some e) = cond (equals e.key k) (Some e.row) None

-- the same of the first entry behind (k, after)
abbrev next_entry : {K : Type 0} → (K → K → Bool) → (K → K → Bool) → K → ℕ → List (Entry K) → Option ℕ
next_entry less equals k after es = first_row equals k (slice_get es (prefix_len (λ e. at_or_before less equals e (entry_of k after)) es))

-- the same numbers pass, so the same is nearest
pub nearest_same : (has has' : ℕ → Bool) → ((n : ℕ) → has n ≡ has' n) → (after : ℕ) (o : Option ℕ) → Nearest has after o → Nearest has' after o
nearest_same has has' e after None h = λ n lt. sym (e n) ∙ h n lt
nearest_same has has' e after (Some m) h = (sym (e m) ∙ h.0, h.1, λ n lt u. sym (e n) ∙ h.2 n lt u)

-- what no element with a property passes
any_none : {X : Type 0} (p q : X → Bool) → ((x : X) → q x ≡ true → p x ≡ false) → (xs : List X) → all q xs ≡ true → any p xs ≡ false
any_none p q w [] h = refl
any_none p q w (x ∷ xs) h = let r = and_parts (q x) (all q xs) h in or_from (p x) (any p xs) (w x r.0) (any_none p q w xs r.1)

module _ {K : Type 0} (less equals : K → K → Bool) (ordered : StrictOrder less) (decides : (a b : K) → Decides (equals a b) (a ≡ b)) (k : K) (after : ℕ) where
  -- an entry of the key that is not behind the bound has no number above it
  passed : (e : Entry K) → at_or_before less equals e (entry_of k after) ≡ true → (n : ℕ) → after < n → (equals e.key k && eqb e.row n) ≡ false
  passed e h n lt =
      ⊎_elim
      (λ (said : (equals e.key k && eqb e.row n) ≡ true). absurd (clash said))
      (λ out. out)
      (cases_Bool (equals e.key k && eqb e.row n))
    where
      clash : (equals e.key k && eqb e.row n) ≡ true → ⊥
      clash said =
          let q = and_parts (equals e.key k) (eqb e.row n) said in
          let same = (decides e.key k).0 q.0 in
          let row = eqb-true e.row n q.1 in
          ⊎_elim
          (λ first. both_ways (less k k) (ordered.irreflexive k) (subst (λ j. less j k ≡ true) same first))
          (λ (level : (e.key ≡ k) × (e.row ≤ after)). omega arith)
          (ways less equals ordered decides e (entry_of k after) h)

  -- behind an entry that is not before the key, only entries of the key that are not before it in row say anything
  behind : (e : Entry K) → less e.key k ≡ false → (n : ℕ) → ((e.key ≡ k) → n < e.row) → (x : Entry K) → at_or_before less equals e x ≡ true → (equals x.key k && eqb x.row n) ≡ false
  behind e late n above x h =
      ⊎_elim
      (λ (said : (equals x.key k && eqb x.row n) ≡ true). absurd (clash said))
      (λ out. out)
      (cases_Bool (equals x.key k && eqb x.row n))
    where
      clash : (equals x.key k && eqb x.row n) ≡ true → ⊥
      clash said =
          let q = and_parts (equals x.key k) (eqb x.row n) said in
          let same = (decides x.key k).0 q.0 in
          let row = eqb-true x.row n q.1 in
          ⊎_elim
          (λ first. both_ways (less e.key k) late (subst (λ j. less e.key j ≡ true) same first))
          (λ (level : (e.key ≡ x.key) × (e.row ≤ x.row)). let lt = above (level.0 ∙ same) in omega arith)
          (ways less equals ordered decides e x h)

  next_nearest : (es : List (Entry K)) → sorted (at_or_before less equals) es ≡ true → Nearest (has_entry equals es k) after (next_entry less equals k after es)
  next_nearest [] s = λ n lt. refl
  next_nearest (e ∷ es) s = go (at_or_before less equals e (entry_of k after)) refl (next_nearest es (and_parts (all (at_or_before less equals e) es) (sorted (at_or_before less equals) es) s).1)
    where
      later : all (at_or_before less equals e) es ≡ true
      later = (and_parts (all (at_or_before less equals e) es) (sorted (at_or_before less equals) es) s).0

      more : (o : Option ℕ) → at_or_before less equals e (entry_of k after) ≡ true → Nearest (has_entry equals es k) after o → Nearest (has_entry equals (e ∷ es) k) after o
      more None h rest = λ n lt. or_from (equals e.key k && eqb e.row n) (has_entry equals es k n) (passed e h n lt) (rest n lt)
      more (Some m) h rest = (
        or_right (equals e.key k && eqb e.row m) (has_entry equals es k m) rest.0,
        rest.1,
        λ n lt u. or_from (equals e.key k && eqb e.row n) (has_entry equals es k n) (passed e h n lt) (rest.2 n lt u),
      )

      here : (b : Bool) → equals e.key k ≡ b → at_or_before less equals e (entry_of k after) ≡ false → Nearest (has_entry equals (e ∷ es) k) after (cond b (Some e.row) None)
      here true same out =
          let parts = or_parts (less e.key k) (equals e.key k && leb e.row after) out in
          let above : after < e.row = leb-false e.row after (ap (λ b. b && leb e.row after) (sym same) ∙ parts.1) in (
            or_left (equals e.key k && eqb e.row e.row) (has_entry equals es k e.row) (and_from (equals e.key k) (eqb e.row e.row) same (eq-eqb e.row e.row refl)),
            above,
            λ n lt u. or_from (equals e.key k && eqb e.row n) (has_entry equals es k n)
                (and_right (equals e.key k) (eqb e.row n) (ne_eqb e.row n (λ eq. omega arith)))
                (any_none (λ x. equals x.key k && eqb x.row n) (at_or_before less equals e) (behind e parts.0 n (λ eq. u)) es later),
          )
      here false differ out =
          let parts = or_parts (less e.key k) (equals e.key k && leb e.row after) out in
          λ n lt. or_from (equals e.key k && eqb e.row n) (has_entry equals es k n)
          (and_left (equals e.key k) (eqb e.row n) differ)
          (any_none (λ x. equals x.key k && eqb x.row n) (at_or_before less equals e)
          (behind e parts.0 n (λ eq. absurd (both_ways (equals e.key k) differ ((decides e.key k).1 eq)))) es later)

      go : (b : Bool) → at_or_before less equals e (entry_of k after) ≡ b → Nearest (has_entry equals es k) after (next_entry less equals k after es)
          → Nearest (has_entry equals (e ∷ es) k) after (first_row equals k (slice_get (e ∷ es) (cond b (1 + prefix_len (λ x. at_or_before less equals x (entry_of k after)) es) 0)))
      go true h rest =
          subst (λ n. Nearest (has_entry equals (e ∷ es) k) after (first_row equals k (slice_get (e ∷ es) n))) (sym (one-add (prefix_len (λ x. at_or_before less equals x (entry_of k after)) es)))
          (more (next_entry less equals k after es) h rest)
      go false h rest = here (equals e.key k) refl h

  -- the first entry behind the bound answers the question, if it has the key
  pub nearest_first : (es : List (Entry K)) (at : ℕ) (o : Option ℕ) → o ≡ first_row equals k (slice_get es at) → sorted (at_or_before less equals) es ≡ true → at ≡ prefix_len (λ e. at_or_before less equals e (entry_of k after)) es → Nearest (has_entry equals es k) after o
  nearest_first es at o found s first =
      subst (Nearest (has_entry equals es k) after) (sym (found ∙ ap (λ n. first_row equals k (slice_get es n)) first)) (next_nearest es s)
