-- The lowest member stands at the set's first mark.
use Rattle.std.proofs.Common.{◌≡◌, ℕ, suc, ◌+◌, Bool, not, List, [], ◌∷◌, length, sym, ap, ◌∙◌, arith, rules, tests}
use Rattle.std.specs.List.{position, position_or_len}
use Rattle.std.specs.Option.{unwrap_or}
use Rattle.std.proofs.lemmas.Iterator.{YieldsList-from_slice}
use Rattle.std.proofs.lemmas.Iterator.Search.{position_from_yields_List}
use Rattle.std.proofs.lemmas.List.Sums.{prefix_len-le-length}
use Rattle.policies.specs.Modules.{has, least_from, least}
use Rattle.policies.proofs.fixed.lowest_of.Goals as goal

-- of modules from m on, the first that a list marks stands at the list's first mark
from_marked : (test : ℕ → Bool) (marks : List Bool) (m : ℕ) → ((k : ℕ) → has marks k ≡ test (m + k)) → least_from (length marks) m test ≡ m + position_or_len (λ b. b) marks
unfolding least_from
from_marked test [] m same = omega arith
from_marked test (b ∷ marks) m same =
    let here : test m ≡ b = ap test (omega arith) ∙ sym (same 0) in
    let rest = from_marked test marks (m + 1) (λ k. same (suc k) ∙ ap test (omega arith)) in
    grind (arith, here, rest)

least_marked : (members : List Bool) → length members ≡ 14 → least (has members) ≡ unwrap_or (position (λ b. b) members) 14
least_marked members long =
    let k = position_or_len (λ b. b) members in
    let is : least (has members) ≡ k = ap (λ n. least_from n 0 (has members)) (sym long) ∙ from_marked (has members) members 0 (λ k. ap (has members) (omega arith)) ∙ omega arith in
    let within = prefix_len-le-length (λ b. not b) members in
    grind (arith, is, within)

pub returns : goal.returns
returns c =
    let at : c.position.result ≡ position (λ b. b) c.args.members.now = position_from_yields_List (λ b. b) _ _ _ c.position.ensures.ran (YieldsList-from_slice c.args.members.now cc) (λ x b q k. search (rules, tests)) in
    c.unwrap_or.ensures ∙ ap (λ o. unwrap_or o 14) at ∙ sym (least_marked c.args.members.now c.told-members)
