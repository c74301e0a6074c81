-- Lists of calls, one after another.
use Rattle.std.proofs.Common.{◌≡◌, ℕ, zero, suc, ◌+◌, true, List, [], ◌∷◌, ◌++◌, sym, refl, ap, ◌∙◌, subst, ap₂, arith}
use Rattle.std.proofs.lemmas.Bool.{and_parts, and_from}
use Rattle.std.proofs.lemmas.List.{append_assoc, append-nil}
use Rattle.query.specs.Queries.{Query}
use Rattle.algebra.specs.Algebra.{Relations}
use Rattle.rules.specs.Steering.{Policy}
use Rattle.rules.specs.Calls.{World, Output, Call, Answer, call, refused, accepted, stepped, slip, posted, returned}
use Rattle.law.specs.Driving.{number, or_else, refusal_met}
use Rattle.law.specs.Histories.{well_chosen, all_well_chosen, after, Posting, Journal, rows_then, lent, postings_then, noted, journal_after}
use Rattle.law.specs.Law.{steps}
use Rattle.law.specs.Steering.{steered, state_then, steered_all, states_after}

cons_parts : {A : Type 0} {x y : A} {xs ys : List A} → x ∷ xs ≡ y ∷ ys → (x ≡ y) × (xs ≡ ys)
cons_parts {A} {x} {y} {xs} {ys} e = (cc, cc)

module _ (q : Query) where
  pub after_more : (w : World) (cs ds : List Call) → after q w (cs ++ ds) ≡ after q (after q w cs) ds
  after_more w [] ds = refl
  after_more w (c ∷ cs) ds = after_more (call q w c).world cs ds

  pub chosen_more : (w : World) (cs ds : List Call) → all_well_chosen q w cs ≡ true → all_well_chosen q (after q w cs) ds ≡ true → all_well_chosen q w (cs ++ ds) ≡ true
  chosen_more w [] ds g h = h
  chosen_more w (c ∷ cs) ds g h =
      let p = and_parts (well_chosen q w c) (all_well_chosen q (call q w c).world cs) g in
      and_from (well_chosen q w c) (all_well_chosen q (call q w c).world (cs ++ ds)) p.0 (chosen_more (call q w c).world cs ds p.1 h)

  pub steps_more : (w : World) (cs ds : List Call) → steps q w (cs ++ ds) ≡ steps q w cs + steps q (after q w cs) ds
  steps_more w [] ds = omega arith
  steps_more w (c ∷ cs) ds = let ih = steps_more (call q w c).world cs ds in omega arith

  else_assoc : (a b c : ℕ) → or_else a (or_else b c) ≡ or_else (or_else a b) c
  else_assoc zero b c = refl
  else_assoc (suc a) b c = refl

  pub refusal_more : (w : World) (cs ds : List Call) → refusal_met q w (cs ++ ds) ≡ or_else (refusal_met q w cs) (refusal_met q (after q w cs) ds)
  refusal_more w [] ds = refl
  refusal_more w (c ∷ cs) ds =
      ap (or_else (number (call q w c).answer)) (refusal_more (call q w c).world cs ds)
      ∙ else_assoc (number (call q w c).answer) (refusal_met q (call q w c).world cs) (refusal_met q (after q (call q w c).world cs) ds)

  pub journal_more : (j : Journal) (cs ds : List Call) → journal_after q j (cs ++ ds) ≡ journal_after q (journal_after q j cs) ds
  journal_more j [] ds = refl
  journal_more j (c ∷ cs) ds = journal_more (noted j c (call q j.world c)) cs ds

  -- rows do not depend on postings, and postings are added to those before
  pub rows_alike : (w : World) (rows : Relations) (ps ks : List Posting) (cs : List Call)
      → (journal_after q (record { world = w; rows = rows; postings = ps }) cs).rows ≡ (journal_after q (record { world = w; rows = rows; postings = ks }) cs).rows
  rows_alike w rows ps ks [] = refl
  rows_alike w rows ps ks (c ∷ cs) = rows_alike (call q w c).world (rows_then rows c (call q w c).answer) _ _ cs

  postings_split : (ps : List Posting) (from to : Output) (a : Answer) → postings_then ps from to a ≡ ps ++ postings_then [] from to a
  postings_split ps from to (refused n) = sym (append-nil ps)
  postings_split ps from to accepted = sym (append-nil ps)
  postings_split ps from to (stepped n) = sym (append-nil ps)
  postings_split ps from to (slip r) = sym (append-nil ps)
  postings_split ps from to (posted r) = refl
  postings_split ps from to returned = sym (append-nil ps)

  pub postings_added : (w : World) (rows rows' : Relations) (ps ks : List Posting) (cs : List Call)
      → (journal_after q (record { world = w; rows = rows; postings = ps ++ ks }) cs).postings ≡ ps ++ (journal_after q (record { world = w; rows = rows'; postings = ks }) cs).postings
  postings_added w rows rows' ps ks [] = refl
  postings_added w rows rows' ps ks (c ∷ cs) =
      let r = call q w c in
      let n = postings_then [] (lent c) r.output r.answer in
      ap (λ (z : List Posting). (journal_after q (record { world = r.world; rows = rows_then rows c r.answer; postings = z }) cs).postings)
      (postings_split (ps ++ ks) (lent c) r.output r.answer ∙ append_assoc ps ks n ∙ ap (λ (z : List Posting). ps ++ z) (sym (postings_split ks (lent c) r.output r.answer)))
      ∙ postings_added r.world (rows_then rows c r.answer) (rows_then rows' c r.answer) ps (postings_then ks (lent c) r.output r.answer) cs

-- under a policy
module _ {S : Type 0} (p : Policy S) (q : Query) where
  pub states_more : (s : S) (w : World) (cs ds : List Call) → states_after p q s w (cs ++ ds) ≡ states_after p q (states_after p q s w cs) (after q w cs) ds
  states_more s w [] ds = refl
  states_more s w (c ∷ cs) ds = states_more (state_then p q s w (call q w c).answer) (call q w c).world cs ds

  pub steered_more : (s : S) (w : World) (cs ds : List Call) → steered_all p q s w cs ≡ cs → steered_all p q (states_after p q s w cs) (after q w cs) ds ≡ ds
      → steered_all p q s w (cs ++ ds) ≡ cs ++ ds
  steered_more s w [] ds g h = h
  steered_more s w (c ∷ cs) ds g h =
      let d = steered p q s w c in
      let e = cons_parts g in
      let rest = steered_more (state_then p q s w (call q w d).answer) (call q w d).world cs ds e.1
      (subst (λ (z : Call). steered_all p q (states_after p q (state_then p q s w (call q w z).answer) (call q w z).world cs) (after q (call q w z).world cs) ds ≡ ds) (sym e.0) h) in
      ap₂ {C = List Call} (λ (x : Call) (xs : List Call). x ∷ xs) e.0 rest
