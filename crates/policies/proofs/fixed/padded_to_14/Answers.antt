-- The list is copied whole, and choices by the copy are choices by the list.
use Rattle.std.proofs.Common.{◌≡◌, ◌-◌, ◌++◌, length, ap, ◌∙◌, rules}
use Rattle.std.proofs.lemmas.List.{drop-replicate}
use Rattle.policies.specs.Order.{first_in, padded}
use Rattle.policies.specs.Listed.{first_padded}
use Rattle.policies.proofs.fixed.padded_to_14.Goals as goal

pub returns : goal.returns
returns c =
    let list = c.args.list.now in
    let copied : c.copy_from_slice.new.self ≡ list = search rules in
    let is : _ ≡ padded list = λ i. copied i ++ drop-replicate (length list) 14 14 i in
    record {
      value = is;
      law = λ members short. ap (λ xs. first_in xs members) is ∙ first_padded list (14 - length list) members short;
    }
