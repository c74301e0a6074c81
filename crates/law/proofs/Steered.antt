-- A run under a policy is well chosen.
use Rattle.std.proofs.Common.{◌≡◌, ℕ, suc, Bool, true, false, List, [], ◌∷◌, refl, subst, arith}
use Rattle.std.proofs.lemmas.Bool.{and_from, cond_both}
use Rattle.basis.specs.Lists.{any}
use Rattle.query.specs.Queries.{Query}
use Rattle.policies.specs.Modules.{has}
use Rattle.rules.specs.Steering.{Policy}
use Rattle.rules.specs.Calls.{World, Call, call, feed, step, take, post, back}
use Rattle.rules.specs.Moves.{choices}
use Rattle.rules.specs.declared.types.Tuple.{Tuple}
use Rattle.law.specs.Histories.{member_if_any, well_chosen, all_well_chosen}
use Rattle.law.specs.Steering.{Choosing, steered, state_then, steered_all}
use Rattle.rules.proofs.Sets.{length-choices}
use Rattle.rules.proofs.Uptos.{clash}

any_some : (members : List Bool) → any (λ b. b) members ≡ true → (m : ℕ) × (has members m ≡ true)
any_some [] h = clash false h refl
any_some (true ∷ bs) h = (0, refl)
any_some (false ∷ bs) h = let r = any_some bs h in (suc r.0, r.1)

module _ {S : Type 0} (p : Policy S) (ch : Choosing p) (q : Query) where
  pub choice_well : (s : S) (xs : List Tuple) → member_if_any (choices q xs) (p.choice s (choices q xs)) ≡ true
  choice_well s xs =
      let members = choices q xs in
      cond_both (any (λ b. b) members) (has members (p.choice s members)) true (λ b. b ≡ true)
      (λ e. let r = any_some members e in ch.member s members r.0 (omega (arith, length-choices q xs)) r.1)
      (λ e. refl)

  steered_well : (s : S) (w : World) (c : Call) → well_chosen q w (steered p q s w c) ≡ true
  steered_well s w (feed t cells) = refl
  steered_well s w (step m) = choice_well s w.run.waiting
  steered_well s w take = refl
  steered_well s w (post c out) = refl
  steered_well s w (back c) = refl

  -- in whatever state, from whatever world, every list of calls that the policy steers is well chosen
  pub all-steered_well : (s : S) (w : World) (cs : List Call) → all_well_chosen q w (steered_all p q s w cs) ≡ true
  all-steered_well s w [] = refl
  all-steered_well s w (c ∷ cs) =
      let d = steered p q s w c in
      and_from (well_chosen q w d) (all_well_chosen q (call q w d).world (steered_all p q (state_then p q s w (call q w d).answer) (call q w d).world cs))
      (steered_well s w c) (all-steered_well (state_then p q s w (call q w d).answer) (call q w d).world cs)

  -- calls that the policy chose are well chosen
  pub steered_chosen : (s : S) (w : World) (cs : List Call) → steered_all p q s w cs ≡ cs → all_well_chosen q w cs ≡ true
  steered_chosen s w cs e = subst (λ (z : List Call). all_well_chosen q w z ≡ true) e (all-steered_well s w cs)
