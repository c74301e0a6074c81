-- Summed weights, and the law of a draw.
use Rattle.std.specs.Prelude.{◌≡◌, ℕ, zero, suc, ◌+◌, ◌<◌, ◌≤◌, Bool, true, false, ltb, List, length, ◌==◌, nat_lt, refl}
use Rattle.std.proofs.Common.{ap, ◌∙◌, ⊎_elim, mod-lt, add-one, arith}
use Rattle.std.proofs.lemmas.Bool.{cases_Bool, cases_eq, cond-true, cond-false, lt-ltb, le-ltb, ltb-true, ltb-false, eq-eqb}
use Rattle.policies.specs.declared.News.{News}
use Rattle.policies.specs.declared.lottery.Lottery.{Lottery}
use Rattle.policies.specs.Modules.{has, Empty}
use Rattle.policies.specs.Xorshift.{xorshift}
use Rattle.policies.specs.Tickets.{weight, share, weights_below, weights, drawn, draw_of, lottery_choice, lottery_chosen, lottery_heard, Draws}
use Rattle.policies.specs.Least.{member_below, least_none, least_some}

pub weights_none : (tickets : List ℕ) (members : List Bool) → weights_below tickets members 0 ≡ 0
unfolding weights_below
weights_none tickets members = refl

pub weights_more : (tickets : List ℕ) (members : List Bool) (m : ℕ) → weights_below tickets members (m + 1) ≡ weights_below tickets members m + share tickets members m
unfolding weights_below
weights_more tickets members m = ap (weights_below tickets members) (add-one m)

-- an empty set weighs nothing
pub empty_weighs : (tickets : List ℕ) (members : List Bool) (n : ℕ) → Empty members → weights_below tickets members n ≡ 0
unfolding weights_below
empty_weighs tickets members zero none = refl
empty_weighs tickets members (suc n) none =
    let nothing = cond-false (has members n) (weight tickets n) 0 (none n) in
    omega (arith, empty_weighs tickets members n none, nothing)

-- a set with a member weighs something
pub member_weighs : (tickets : List ℕ) (members : List Bool) (m n : ℕ) → m < n → has members m ≡ true → 0 < weights_below tickets members n
unfolding weights_below
member_weighs tickets members m zero lt h = absurd (let z : ⊥ = omega arith in z)
member_weighs tickets members m (suc n) lt h =
    ⊎_elim
    (λ (e : n ≡ m). omega (arith, cond-true (has members n) (weight tickets n) 0 (ap (has members) e ∙ h)))
    (λ (ne : n ≡ m → ⊥). omega (arith, member_weighs tickets members m n (omega arith) h))
    (cases_eq n m)

-- who adds something is a member
shares_member : (tickets : List ℕ) (members : List Bool) (m : ℕ) → 0 < share tickets members m → has members m ≡ true
shares_member tickets members m some =
    ⊎_elim
    (λ (e : has members m ≡ true). e)
    (λ (e : has members m ≡ false). absurd (let z : ⊥ = omega (arith, cond-false (has members m) (weight tickets m) 0 e) in z))
    (cases_Bool (has members m))

-- a set that weighs nothing is empty
pub weightless_empty : (tickets : List ℕ) (members : List Bool) → length members ≤ 14 → weights tickets members ≡ 0 → Empty members
weightless_empty tickets members short nothing m =
    ⊎_elim
    (λ (e : has members m ≡ true). absurd (let z : ⊥ = omega (arith, member_weighs tickets members m 14 (member_below members m 14 short e) e) in z))
    (λ (e : has members m ≡ false). e)
    (cases_Bool (has members m))

-- a draw passed by no running sum below r is at least the weights below r
not_passed : (tickets : List ℕ) (members : List Bool) (draw r : ℕ) → ((k : ℕ) → k < r → nat_lt draw (weights_below tickets members (k + 1)) ≡ false) → weights_below tickets members r ≤ draw
not_passed tickets members draw zero before = omega (arith, weights_none tickets members)
not_passed tickets members draw (suc r) before =
    omega (arith, ltb-false draw (weights_below tickets members (r + 1)) (before r (omega arith)), ap (weights_below tickets members) (add-one r))

-- r's interval holds the draw
abbrev Within : List ℕ → List Bool → ℕ → ℕ → Type 0
Within tickets members draw r = (weights_below tickets members r ≤ draw) × (draw < weights_below tickets members r + share tickets members r)

drawn_within : (tickets : List ℕ) (members : List Bool) (draw : ℕ) → draw < weights tickets members → Within tickets members draw (drawn tickets members draw)
drawn_within tickets members draw lt =
    let r = drawn tickets members draw in
    let some = least_some (λ m. ltb draw (weights_below tickets members (m + 1))) 13 (omega arith) (lt-ltb draw (weights tickets members) lt) in
    let passed = ltb-true draw (weights_below tickets members (r + 1)) some.0 in
    (not_passed tickets members draw r some.1, omega (arith, weights_more tickets members r))

pub lottery_draws : (l : Lottery) (members : List Bool) → 0 < weights l.tickets members → Draws l (record { word = xorshift l.word; tickets = l.tickets }) members (lottery_choice l members)
lottery_draws l members some =
    let r = lottery_choice l members in
    let within = drawn_within l.tickets members (draw_of l members) (mod-lt (xorshift l.word) some) in
    let in-set = shares_member l.tickets members r (omega arith) in
    let own = cond-true (has members r) (weight l.tickets r) 0 in-set in
    record { stepped = refl; same_tickets = refl; member = in-set; starts = within.0; ends = omega arith }

pub lottery_member : (l : Lottery) (members : List Bool) (m : ℕ) → length members ≤ 14 → has members m ≡ true → has members (lottery_choice l members) ≡ true
lottery_member l members m short h =
    (lottery_draws l members (member_weighs l.tickets members m 14 (member_below members m 14 short h) h)).member

pub lottery_none : (l : Lottery) (members : List Bool) → Empty members → (lottery_choice l members ≡ 14) × (lottery_chosen l members ≡ l)
lottery_none l members none =
    let draw = draw_of l members in
    let nothing = empty_weighs l.tickets members in (
      least_none (λ m. ltb draw (weights_below l.tickets members (m + 1))) (λ k h. le-ltb draw (weights_below l.tickets members (k + 1)) (omega (arith, nothing (k + 1) none))),
      cond-true (weights l.tickets members == 0) l _ (eq-eqb (weights l.tickets members) 0 (nothing 14 none)),
    )

-- news of what is no module changes nothing
pub lottery_above : (l : Lottery) (news : News) (m : ℕ) → 14 ≤ m → lottery_heard l news m ≡ l
lottery_above l news m high = cond-false (nat_lt m 14) _ l (le-ltb m 14 high)
