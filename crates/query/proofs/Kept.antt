-- What every draft keeps to, kept by each granted call.
use Rattle.std.proofs.Common.{◌≡◌, ℕ, zero, suc, ◌+◌, ◌<◌, true, false, not, ◌&&◌, eqb, ltb, List, [], ◌∷◌, ◌++◌, length, is_some, sym, refl, ◌∙◌, subst, ⊎_elim, add-one, arith}
use Rattle.std.proofs.lemmas.Bool.{and_parts, and_from, or_cases, or_left, or_right, lt-ltb, eq-eqb, ne_eqb}
use Rattle.basis.specs.Lists.{all, any, numbered}
use Rattle.basis.proofs.Alls.{all_push, all_weaker, any-append-left, any_push}
use Rattle.cells.specs.declared.types.Kind.{Kind}
use Rattle.expressions.specs.declared.types.Column.{Column}
use Rattle.query.specs.Queries.{column_kind, column_exists, same_kinds, join_fits, to_earlier, linked, all_linked}
use Rattle.query.specs.declared.types.Join.{Join}
use Rattle.query.proofs.Widened.{exists_inside, kind_more, kind_new, join_more}

-- every table that was linked still is, with one more join
linked_more : (js : List Join) (j : Join) (t : ℕ) → linked js t ≡ true → linked (js ++ j ∷ []) t ≡ true
linked_more js j t e =
    ⊎_elim
    (λ zero'. or_left (eqb t 0) (any (to_earlier t) (js ++ j ∷ [])) zero')
    (λ some. or_right (eqb t 0) (any (to_earlier t) (js ++ j ∷ [])) (any-append-left (to_earlier t) js (j ∷ []) some))
    (or_cases (eqb t 0) (any (to_earlier t) js) e)

pub all_linked_more : (js : List Join) (j : Join) (n : ℕ) → all_linked n js ≡ true → all_linked n (js ++ j ∷ []) ≡ true
all_linked_more js j zero e = refl
all_linked_more js j (suc n) e =
    let p = and_parts (linked js n) (all_linked n js) e in
    and_from (linked (js ++ j ∷ []) n) (all_linked n (js ++ j ∷ [])) (linked_more js j n p.0) (all_linked_more js j n p.1)

-- the join that a new table comes with
abbrev new_join : List (List Kind) → Column → ℕ → Join
new_join hs to own = record { left = to; right = record { table = length hs; column = own } }

module _ (hs : List (List Kind)) (ks : List Kind) (to : Column) (own : ℕ) where
  to_inside : column_exists hs to ≡ true → to.table < length hs
  to_inside = exists_inside hs to

  pub new_fits : (column_exists hs to && is_some (numbered ks own)) ≡ true → same_kinds (column_kind hs to) (numbered ks own) ≡ true → join_fits (hs ++ ks ∷ []) (new_join hs to own) ≡ true
  new_fits e k =
      let p = and_parts (column_exists hs to) (is_some (numbered ks own)) e in
      let l : column_kind (hs ++ ks ∷ []) to ≡ column_kind hs to = kind_more hs ks to p.0 in
      let r : column_kind (hs ++ ks ∷ []) (record { table = length hs; column = own }) ≡ numbered ks own = kind_new hs ks own in
      let less : to.table < length hs = to_inside p.0 in
      let apart : eqb to.table (length hs) ≡ false = ne_eqb to.table (length hs) (λ z. omega arith) in
      (λ i. (is_some (l i) && is_some (r i)) && (not (apart i) && same_kinds (l i) (r i)))
      ∙ and_from (column_exists hs to && is_some (numbered ks own)) (same_kinds (column_kind hs to) (numbered ks own)) e k

  new_earlier : column_exists hs to ≡ true → to_earlier (length hs) (new_join hs to own) ≡ true
  new_earlier e =
      or_right (eqb to.table (length hs) && ltb (length hs) (length hs)) (eqb (length hs) (length hs) && ltb to.table (length hs))
      (and_from (eqb (length hs) (length hs)) (ltb to.table (length hs)) (eq-eqb (length hs) (length hs) refl) (lt-ltb to.table (length hs) (to_inside e)))

  -- the new table is linked, and every earlier one still is
  pub new_linked : (js : List Join) → column_exists hs to ≡ true → all_linked (length hs) js ≡ true → all_linked (length hs + 1) (js ++ new_join hs to own ∷ []) ≡ true
  new_linked js e before =
      let j = new_join hs to own in
      subst (λ n. all_linked n (js ++ j ∷ []) ≡ true) (sym (add-one (length hs)))
      (and_from (linked (js ++ j ∷ []) (length hs)) (all_linked (length hs) (js ++ j ∷ []))
      (or_right (eqb (length hs) 0) (any (to_earlier (length hs)) (js ++ j ∷ [])) (any_push (to_earlier (length hs)) js j (new_earlier e)))
      (all_linked_more js j (length hs) before))

-- A draft's lists, each with one more.
module _ (hs : List (List Kind)) (js : List Join) (joined : all (join_fits hs) js ≡ true) where
  pub join_joined : (j : Join) → join_fits hs j ≡ true → all (join_fits hs) (js ++ j ∷ []) ≡ true
  join_joined j e = all_push (join_fits hs) js j joined e

  pub table_joined : (ks : List Kind) (j : Join) → join_fits (hs ++ ks ∷ []) j ≡ true → all (join_fits (hs ++ ks ∷ [])) (js ++ j ∷ []) ≡ true
  table_joined ks j e =
      all_push (join_fits (hs ++ ks ∷ [])) js j (all_weaker (join_fits hs) (join_fits (hs ++ ks ∷ [])) (join_more hs ks) js joined) e
