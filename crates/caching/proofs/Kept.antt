-- Remembered answers stay right: when one is recalled, when one is noted, and after a build.
use Rattle.std.proofs.Common.{◌≡◌, ℕ, zero, suc, Bool, true, false, cond, not, ◌&&◌, eqb, List, [], ◌∷◌, map, replicate, set, is_some, Some, None, Option, sym, refl, ap, ◌∙◌, subst}
use Rattle.std.specs.List.{AllByRecursion, find}
use Rattle.std.specs.Option.{option_map, option_and_then}
use Rattle.std.proofs.ByRecursion.{All-map, All-set, All-weaker}
use Rattle.std.proofs.lemmas.Bool.{and_parts, eqb-true, eq-eqb, both_ways}
use Rattle.cells.specs.declared.rows.Row.{Row}
use Rattle.keys.specs.CellOrder.{same_cell_decides}
use Rattle.stores.specs.Tables.{Table, built}
use Rattle.stores.proofs.Builds.{next_other, next_built}
use Rattle.caching.specs.declared.types.Asked.{Asked}
use Rattle.caching.specs.declared.types.Remembered.{Remembered}
use Rattle.caching.specs.Memory.{right_answer, Right, same_question, recalled, kept}

same_asked : (a b : Asked) → same_question a b ≡ true → a ≡ b
same_asked a b e =
    let t = and_parts (eqb a.table b.table) _ e in
    let c = and_parts (eqb a.question.column b.question.column) _ t.1 in
    let f = and_parts (eqb a.question.after b.question.after) _ c.1 in
    let table = eqb-true a.table b.table t.0 in
    let column = eqb-true a.question.column b.question.column c.0 in
    let after = eqb-true a.question.after b.question.after f.0 in
    let key = (same_cell_decides a.question.key b.question.key).0 f.1 in
    λ i. record { table = table i; question = record { column = column i; key = key i; after = after i } }

-- does a place remember the question?
abbrev pub remembers : Asked → Option Remembered → Bool
remembers q place = is_some (recalled (place ∷ []) q)

-- what is recalled stands in the first place that remembers the question
pub recalled_found : (places : List (Option Remembered)) (q : Asked) → recalled places q ≡ option_and_then (option_map (λ (e : Remembered). e.answer)) (find (remembers q) places)
recalled_found [] q = refl
recalled_found (None ∷ places) q = recalled_found places q
recalled_found (Some e ∷ places) q = go (same_question e.asked q) (recalled_found places q)
  where
    go : (b : Bool) → recalled places q ≡ option_and_then (option_map (λ (x : Remembered). x.answer)) (find (remembers q) places)
        → cond b (Some e.answer) (recalled places q) ≡ option_and_then (option_map (λ (x : Remembered). x.answer)) (cond (is_some (cond b (Some e.answer) None)) (Some (Some e)) (find (remembers q) places))
    go true rest = refl
    go false rest = rest

module _ (ts : List Table) where
  -- an answer that is recalled is right
  pub recalled_right : (places : List (Option Remembered)) (q : Asked) (a : Option ℕ) → AllByRecursion (Right ts) places → recalled places q ≡ Some a → a ≡ right_answer ts q
  recalled_right [] q a h e = absurd cc
  recalled_right (None ∷ places) q a h e = recalled_right places q a h.1 e
  recalled_right (Some x ∷ places) q a h e = go (same_question x.asked q) refl (recalled_right places q a h.1)
    where
      go : (b : Bool) → same_question x.asked q ≡ b → (recalled places q ≡ Some a → a ≡ right_answer ts q) → a ≡ right_answer ts q
      go true same rest =
          let found : Some x.answer ≡ Some a = ap (λ b. cond b (Some x.answer) (recalled places q)) (sym same) ∙ e in
          let is : x.answer ≡ a = cc in
          sym is ∙ h.0 ∙ ap (right_answer ts) (same_asked x.asked q same)
      go false other rest = rest (ap (λ b. cond b (Some x.answer) (recalled places q)) (sym other) ∙ e)

  -- a right place in a memory, and the tables as they were
  pub set_right : (now : List Table) (places : List (Option Remembered)) (turn : ℕ) (x : Option Remembered) → now ≡ ts → Right ts x → AllByRecursion (Right ts) places → AllByRecursion (Right now) (set places turn x)
  set_right now places turn x same here h =
      subst (λ (t : List Table). AllByRecursion (Right t) (set places turn x)) (sym same) (All-set (Right ts) places turn x here h)

  pub none_right : (n : ℕ) → AllByRecursion (Right ts) (replicate n None)
  none_right zero = tt
  none_right (suc n) = (tt, none_right n)

  module _ (t : ℕ) (row : Row) (stamp : ℕ) where
    -- what a build leaves is right after it
    still : (e : Remembered) (a : Option ℕ) → a ≡ right_answer ts e.asked → (b : Bool) → eqb e.asked.table t ≡ b
        → Right (built ts t row stamp) (cond (b && not (is_some a)) None (Some (record { asked = e.asked; answer = a })))
    still e (Some n) h true q = sym (next_built ts t row stamp e.asked.table e.asked.question.column e.asked.question.key e.asked.question.after n (sym h))
    still e (Some n) h false q = sym (next_built ts t row stamp e.asked.table e.asked.question.column e.asked.question.key e.asked.question.after n (sym h))
    still e None h true q = tt
    still e None h false q =
        let apart : e.asked.table ≡ t → ⊥ = λ same. both_ways (eqb e.asked.table t) q (eq-eqb e.asked.table t same) in
        h ∙ sym (next_other ts t row stamp e.asked.table e.asked.question.column e.asked.question.key e.asked.question.after apart)

    kept_right : (o : Option Remembered) → Right ts o → Right (built ts t row stamp) (kept t o)
    kept_right None h = tt
    kept_right (Some e) h = still e e.answer h (eqb e.asked.table t) refl

    pub build_right : (places : List (Option Remembered)) → AllByRecursion (Right ts) places → AllByRecursion (Right (built ts t row stamp)) (map (kept t) places)
    build_right places h = All-map (Right (built ts t row stamp)) (kept t) places (All-weaker (Right ts) (λ o. Right (built ts t row stamp) (kept t o)) kept_right places h)
