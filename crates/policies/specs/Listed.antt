-- The first of a list that is a member, else the lowest: how it is found, and that it is what its name says.
use Rattle.std.specs.Prelude.{◌≡◌, ℕ, zero, suc, ◌<◌, ◌≤◌, Bool, true, false, cond, List, [], ◌∷◌, ◌++◌, length, replicate, slice_index, refl}
use Rattle.std.proofs.Common.{ap, ◌∙◌, ⊎_elim, arith}
use Rattle.std.proofs.lemmas.List.{get_or_past}
use Rattle.std.proofs.lemmas.Bool.{cases_Bool, cond-true, cond-false}
use Rattle.policies.specs.Modules.{has, least, Empty}
use Rattle.policies.specs.Order.{first_in, First}
use Rattle.policies.specs.Least.{least_is, least_none, least_member}

pub first_listed : (list : List ℕ) (members : List Bool) (i : ℕ) → i < length list → has members (slice_index list i) ≡ true → ((k : ℕ) → k < i → has members (slice_index list k) ≡ false) → first_in list members ≡ slice_index list i
first_listed [] members i lt pass before = absurd (let z : ⊥ = omega arith in z)
first_listed (x ∷ xs) members zero lt pass before = cond-true (has members x) x (first_in xs members) pass
first_listed (x ∷ xs) members (suc i) lt pass before =
    cond-false (has members x) x (first_in xs members) (before 0 (omega arith))
    ∙ first_listed xs members i (omega arith) pass (λ k h. before (suc k) (omega arith))

pub first_lowest : (list : List ℕ) (members : List Bool) → ((k : ℕ) → k < length list → has members (slice_index list k) ≡ false) → first_in list members ≡ least (has members)
first_lowest [] members none = refl
first_lowest (x ∷ xs) members none =
    cond-false (has members x) x (first_in xs members) (none 0 (omega arith))
    ∙ first_lowest xs members (λ k h. none (suc k) (omega arith))

pub first_law : (list : List ℕ) (members : List Bool) → First list members (first_in list members)
first_law list members =
    record {
      listed = first_listed list members;
      lowest = λ none m lt pass before. first_lowest list members none ∙ least_is (has members) m lt pass before;
    }

pub first_member : (list : List ℕ) (members : List Bool) (m : ℕ) → length members ≤ 14 → has members m ≡ true → has members (first_in list members) ≡ true
first_member [] members m short h = least_member members m short h
first_member (x ∷ xs) members m short h =
    ⊎_elim
    (λ (e : has members x ≡ true). ap (has members) (cond-true (has members x) x (first_in xs members) e) ∙ e)
    (λ (e : has members x ≡ false). ap (has members) (cond-false (has members x) x (first_in xs members) e) ∙ first_member xs members m short h)
    (cases_Bool (has members x))

pub first_empty : (list : List ℕ) (members : List Bool) → Empty members → first_in list members ≡ 14
first_empty list members none = first_lowest list members (λ k h. none (slice_index list k)) ∙ least_none (has members) (λ k h. none k)

-- entries that are no module do not count
pub first_padded : (list : List ℕ) (n : ℕ) (members : List Bool) → length members ≤ 14 → first_in (list ++ replicate n 14) members ≡ first_in list members
first_padded [] zero members short = refl
first_padded [] (suc n) members short =
    cond-false (has members 14) 14 (first_in (replicate n 14) members) (get_or_past members 14 false short) ∙ first_padded [] n members short
first_padded (x ∷ xs) n members short = ap (cond (has members x) x) (first_padded xs n members short)
