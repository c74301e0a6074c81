-- A run under a policy: the calls that it makes of those asked for, and the policy's state after them.
use Rattle.std.specs.Prelude.{◌≡◌, ℕ, ◌≤◌, Bool, true, List, [], ◌∷◌, length}
use Rattle.policies.specs.Modules.{has, Empty}
use Rattle.query.specs.Queries.{Query}
use Rattle.rules.specs.Moves.{choices}
use Rattle.rules.specs.Calls.{World, Call, feed, step, take, post, back, Answer, refused, accepted, stepped, slip, posted, returned, call}
use Rattle.rules.specs.Steering.{Policy, policy_after}

-- What every policy keeps to: a set with a member gets a member; the empty set gets 14, and the state stays.
pub record Choosing {S : Type 0} (p : Policy S) : Type 0 where
  pub member : (s : S) (members : List Bool) (m : ℕ) → length members ≤ 14 → has members m ≡ true → has members (p.choice s members) ≡ true
  pub none : (s : S) (members : List Bool) → Empty members → (p.choice s members ≡ 14) × (p.chosen s members ≡ s)

module _ {S : Type 0} (p : Policy S) (q : Query) where
  -- a step goes where the policy chooses, whatever module it carries
  abbrev pub steered : S → World → Call → Call
  steered s w (feed t cells) = feed t cells
  steered s w (step m) = step (p.choice s (choices q w.run.waiting))
  steered s w take = take
  steered s w (post c out) = post c out
  steered s w (back c) = back c

  -- the policy's state after a call with an answer: a granted step alone changes it
  abbrev pub state_then : S → World → Answer → S
  state_then s w (refused n) = s
  state_then s w accepted = s
  state_then s w (stepped n) = policy_after p q s w.store w.run.waiting
  state_then s w (slip r) = s
  state_then s w (posted r) = s
  state_then s w returned = s

  -- a list of calls as the policy steers it
  abbrev pub steered_all : S → World → List Call → List Call
  steered_all s w [] = []
  steered_all s w (c ∷ cs) =
      let d = steered s w c in
      d ∷ steered_all (state_then s w (call q w d).answer) (call q w d).world cs

  -- the policy's state after a list of calls
  abbrev pub states_after : S → World → List Call → S
  states_after s w [] = s
  states_after s w (c ∷ cs) = states_after (state_then s w (call q w c).answer) (call q w c).world cs
