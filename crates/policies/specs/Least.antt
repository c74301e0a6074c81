-- The lowest module that passes a test: how it is found, and that it is what its name says.
use Rattle.std.specs.Prelude.{◌≡◌, ℕ, zero, suc, ◌+◌, ◌<◌, ◌≤◌, Bool, true, false, List, length}
use Rattle.std.proofs.Common.{sym, ap, subst, ◌∙◌, ⊎_elim, arith}
use Rattle.std.proofs.lemmas.List.{get_or_past}
use Rattle.std.proofs.lemmas.Bool.{cases_Bool, cases_lt, cases_eq, cases_order, both_ways, cond-true, cond-false}
use Rattle.policies.specs.Modules.{has, least_from, least}

-- a member is a module of the list
pub member_below : (members : List Bool) (m n : ℕ) → length members ≤ n → has members m ≡ true → m < n
member_below members m n short h =
    ⊎_elim
    (λ (lt : m < n). lt)
    (λ (ge : n ≤ m). absurd (both_ways (has members m) (get_or_past members m false (omega arith)) h))
    (cases_lt m n)

from_none : (test : ℕ → Bool) (n m : ℕ) → ((k : ℕ) → m ≤ k → k < m + n → test k ≡ false) → least_from n m test ≡ m + n
unfolding least_from
from_none test zero m none = omega arith
from_none test (suc n) m none =
    cond-false (test m) m (least_from n (m + 1) test) (none m (omega arith) (omega arith))
    ∙ from_none test n (m + 1) (λ k l h. none k (omega arith) (omega arith))
    ∙ omega arith

-- r passes, and none before it, from m on
abbrev Lowest : (ℕ → Bool) → ℕ → ℕ → Type 0
Lowest test m r = (test r ≡ true) × ((k : ℕ) → m ≤ k → k < r → test k ≡ false)

from_some : (test : ℕ → Bool) (n m at : ℕ) → m ≤ at → at < m + n → test at ≡ true → Lowest test m (least_from n m test)
unfolding least_from
from_some test zero m at low high pass = absurd (let z : ⊥ = omega arith in z)
from_some test (suc n) m at low high pass =
    ⊎_elim
    (λ (e : test m ≡ true). subst (Lowest test m) (sym (cond-true (test m) m (least_from n (m + 1) test) e)) (e, λ k l h. absurd (let z : ⊥ = omega arith in z)))
    (λ (e : test m ≡ false).
    let ne : m ≡ at → ⊥ = λ same. both_ways (test m) e (ap test same ∙ pass) in
    let rest = from_some test n (m + 1) at (omega arith) (omega arith) pass in
    subst (Lowest test m) (sym (cond-false (test m) m (least_from n (m + 1) test) e)) (rest.0, λ k l h. ⊎_elim (λ (same : k ≡ m). ap test same ∙ e) (λ (more : k ≡ m → ⊥). rest.1 k (omega arith) h) (cases_eq k m)))
    (cases_Bool (test m))

pub least_none : (test : ℕ → Bool) → ((k : ℕ) → k < 14 → test k ≡ false) → least test ≡ 14
least_none test none = from_none test 14 0 (λ k l h. none k (omega arith))

-- where some module passes, the least does, and none below it
pub least_some : (test : ℕ → Bool) (m : ℕ) → m < 14 → test m ≡ true → (test (least test) ≡ true) × ((k : ℕ) → k < least test → test k ≡ false)
least_some test m lt pass = let r = from_some test 14 0 m (omega arith) (omega arith) pass in (r.0, λ k h. r.1 k (omega arith) h)

pub least_is : (test : ℕ → Bool) (m : ℕ) → m < 14 → test m ≡ true → ((k : ℕ) → k < m → test k ≡ false) → least test ≡ m
least_is test m lt pass before =
    let some = least_some test m lt pass in
    ⊎_elim
    (λ (same : least test ≡ m). same)
    (⊎_elim
    (λ (less : least test < m). absurd (both_ways (test (least test)) (before (least test) less) some.0))
    (λ (more : m < least test). absurd (both_ways (test m) (some.1 m more) pass)))
    (cases_order (least test) m)

pub least_member : (members : List Bool) (m : ℕ) → length members ≤ 14 → has members m ≡ true → has members (least (has members)) ≡ true
least_member members m short h = (least_some (has members) m (member_below members m 14 short h) h).0
