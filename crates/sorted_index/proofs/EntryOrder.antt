-- Entries by key and row number: a total order.
use Rattle.std.proofs.Common.{◌≡◌, ◌≤◌, Bool, true, false, ◌&&◌, leb, ◌⊎◌, Decides, sym, ◌∙◌, subst, inl, inr, ⊎_elim, arith}
use Rattle.std.proofs.lemmas.Bool.{and_parts, and_from, and_cases, or_cases, or_parts, or_left, or_right, leb-true, leb-false, le-leb, both_ways, cases_Bool}
use Rattle.keys.specs.Orders.{StrictOrder}
use Rattle.sorted_index.specs.Entries.{at_or_before}
use Rattle.sorted_index.specs.declared.entry.Entry.{Entry}

module _ {K : Type 0} (less equals : K → K → Bool) (ordered : StrictOrder less) (decides : (a b : K) → Decides (equals a b) (a ≡ b)) where
  -- the two ways of coming first
  pub ways : (a b : Entry K) → at_or_before less equals a b ≡ true → (less a.key b.key ≡ true) ⊎ ((a.key ≡ b.key) × (a.row ≤ b.row))
  ways a b h =
      ⊎_elim
      (λ first. inl first)
      (λ level. let q = and_parts (equals a.key b.key) (leb a.row b.row) level in inr ((decides a.key b.key).0 q.0, leb-true a.row b.row q.1))
      (or_cases (less a.key b.key) (equals a.key b.key && leb a.row b.row) h)

  by_key : (a b : Entry K) → less a.key b.key ≡ true → at_or_before less equals a b ≡ true
  by_key a b h = or_left (less a.key b.key) (equals a.key b.key && leb a.row b.row) h

  by_row : (a b : Entry K) → a.key ≡ b.key → a.row ≤ b.row → at_or_before less equals a b ≡ true
  by_row a b e le =
      or_right (less a.key b.key) (equals a.key b.key && leb a.row b.row)
      (and_from (equals a.key b.key) (leb a.row b.row) ((decides a.key b.key).1 e) (le-leb a.row b.row le))

  pub entries_along : (a b c : Entry K) → at_or_before less equals a b ≡ true → at_or_before less equals b c ≡ true → at_or_before less equals a c ≡ true
  entries_along a b c h k =
      ⊎_elim
      (λ first. ⊎_elim
      (λ second. by_key a c (ordered.transitive a.key b.key c.key first second))
      (λ (level : (b.key ≡ c.key) × (b.row ≤ c.row)). by_key a c (subst (λ k. less a.key k ≡ true) level.0 first))
      (ways b c k))
      (λ (level : (a.key ≡ b.key) × (a.row ≤ b.row)). ⊎_elim
      (λ second. by_key a c (subst (λ k. less k c.key ≡ true) (sym level.0) second))
      (λ (next : (b.key ≡ c.key) × (b.row ≤ c.row)). by_row a c (level.0 ∙ next.0) (omega arith))
      (ways b c k))
      (ways a b h)

  pub entries_total : (a b : Entry K) → at_or_before less equals a b ≡ false → at_or_before less equals b a ≡ true
  entries_total a b h =
      ⊎_elim
      (λ later. by_key b a later)
      (λ level.
      let first = or_parts (less a.key b.key) (equals a.key b.key && leb a.row b.row) h in
      let same = ordered.total a.key b.key first.0 level in
      ⊎_elim
      (λ differ. absurd (both_ways (equals a.key b.key) differ ((decides a.key b.key).1 same)))
      (λ above. by_row b a (sym same) (let lt = leb-false a.row b.row above in omega arith))
      (and_cases (equals a.key b.key) (leb a.row b.row) first.1))
      (cases_Bool (less b.key a.key))
