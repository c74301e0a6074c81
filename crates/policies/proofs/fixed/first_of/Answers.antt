-- What the search finds is the first of the list that is a member, and the law holds of it.
use Rattle.std.proofs.Common.{◌≡◌, ℕ, Bool, true, false, cond, List, [], ◌∷◌, Some, Option, sym, refl, subst, ◌∙◌, rules}
use Rattle.std.specs.List.{find}
use Rattle.std.specs.Option.{unwrap_or}
use Rattle.policies.specs.Modules.{has, least}
use Rattle.policies.specs.Order.{First, first_in}
use Rattle.policies.specs.Listed.{first_law}
use Rattle.policies.proofs.fixed.first_of.Goals as goal

found_first : (b : Bool) (m : ℕ) (o : Option ℕ) (d r : ℕ) → unwrap_or o d ≡ r → unwrap_or (cond b (Some m) o) d ≡ cond b m r
found_first true m o d r e = refl
found_first false m o d r e = e

first_found : (list : List ℕ) (members : List Bool) → unwrap_or (find (has members) list) (least (has members)) ≡ first_in list members
first_found [] members = refl
first_found (m ∷ ms) members = found_first (has members m) m (find (has members) ms) (least (has members)) (first_in ms members) (first_found ms members)

pub returns : goal.returns
returns c =
    let list = c.args.order.now in
    let members = c.args.members.now in
    let found : c.unwrap_or_else.result ≡ unwrap_or (find (has members) list) (least (has members)) = search rules in
    let value = found ∙ first_found list members in
    record { value = value; law = subst (First list members) (sym value) (first_law list members) }
