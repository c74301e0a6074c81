-- What a waiting tuple still costs at most, in steps: every step that does not find a line ready makes the sum fall.
use Rattle.std.proofs.Common.{◌≡◌, ℕ, zero, suc, ◌+◌, ◌-◌, ◌*◌, ◌<◌, ◌≤◌, Bool, true, false, ltb, ◌⊎◌, List, [], ◌∷◌, ◌++◌, length, get_or, set, Some, None, Option, sym, refl, ap, subst, inl, inr, not-suc-le-zero, mul-le-mul_right, suc-mul, mul-le-mul_left, mul-one, mul-add, arith, get_or-set_other, get_or-set_same}
use native.Mathlib.Nat.{le-max_left, le-max_right}
use Rattle.std.specs.List.{AllByRecursion}
use Rattle.std.proofs.lemmas.Bool.{lt-ltb}
use Rattle.basis.specs.Lists.{all}
use Rattle.query.specs.Queries.{Query}
use Rattle.stores.specs.Tables.{Table, count_at, next_row}
use Rattle.algebra.specs.Meets.{holds}
use Rattle.rules.specs.Moves.{tables, filters, spans, is_idle, complete, links, at_filter, table_ready, filter_ready, module_ready, Move, in_state, joined, tried, routed, link_holds, matched, found, answered, link_key, probed, idled, moved, move}
use Rattle.rules.specs.Reads.{relations_of, rows_read, stamp_of_row}
use Rattle.rules.specs.Shape.{missing, to_come}
use Rattle.rules.specs.declared.types.Link.{Link}
use Rattle.rules.specs.declared.types.State.{State}
use Rattle.rules.specs.declared.types.State.TheVariants.{Idle, Probing}
use Rattle.rules.specs.declared.types.Tuple.{Tuple}
use Rattle.law.proofs.Sound.{Sound}
use Rattle.law.specs.Histories.{after}
use Rattle.law.specs.Law.{ladder, most_rows, bound}
use Rattle.rules.proofs.Asked.{next_some}
use Rattle.rules.proofs.Checked.{Checked}
use Rattle.rules.proofs.Kept.{table_parts}
use Rattle.rules.proofs.Missing.{missing_le, missing_some, missing_one, missing_pos}
use Rattle.rules.proofs.Shaped.{BoundFor, filter_parts}

-- the ladder without its filters, and the rung below
abbrev base : ℕ → ℕ → ℕ → ℕ
base F R zero = 1
base F R (suc s) = R + 2 + R * ladder F R s

abbrev lower : ℕ → ℕ → ℕ → ℕ
lower F R zero = 0
lower F R (suc s) = ladder F R s

ladder_base : (F R s : ℕ) → ladder F R s ≡ F + base F R s
ladder_base F R zero = refl
ladder_base F R (suc s) = omega arith

base_pos : (F R s : ℕ) → 1 ≤ base F R s
base_pos F R zero = omega arith
base_pos F R (suc s) = omega arith

ladder_rises : (F R s : ℕ) → ladder F R s ≤ ladder F R (suc s)
ladder_rises F R zero = omega arith
ladder_rises F R (suc s) = let a = mul-le-mul_left R (ladder_rises F R s) in omega arith

ladder_up : (F R s d : ℕ) → ladder F R s ≤ ladder F R (s + d)
ladder_up F R s zero = let e : s + 0 ≡ s = omega arith in subst (λ (m : ℕ). ladder F R s ≤ ladder F R m) (sym e) (omega arith)
ladder_up F R s (suc d) =
    let e : s + suc d ≡ suc (s + d) = omega arith in
    subst (λ (m : ℕ). ladder F R s ≤ ladder F R m) (sym e) (let a = ladder_up F R s d in let b = ladder_rises F R (s + d) in omega arith)

ladder_mono : (F R s u : ℕ) → s ≤ u → ladder F R s ≤ ladder F R u
ladder_mono F R s u l = let e : s + (u - s) ≡ u = omega arith in subst (λ (m : ℕ). ladder F R s ≤ ladder F R m) e (ladder_up F R s (u - s))

count_most : (ts : List Table) (t : ℕ) → count_at ts t ≤ most_rows ts
count_most [] t = omega arith
count_most (x ∷ xs) zero = le-max_left (length x.rows) (most_rows xs)
count_most (x ∷ xs) (suc t) = let a = count_most xs t in let b = le-max_right (length x.rows) (most_rows xs) in omega arith

-- the cost of a tuple
abbrev undone : Query → List Bool → ℕ
undone q done = missing (filters q) (λ i. get_or done i false)

abbrev cost_in : Query → List Table → Tuple → State → ℕ
cost_in q ts x Idle = undone q x.done + base (filters q) (most_rows ts) (to_come q x.rows)
cost_in q ts x (Probing t after) = 1 + (count_at ts t - after) * (1 + lower (filters q) (most_rows ts) (to_come q x.rows))

pub cost : Query → List Table → Tuple → ℕ
cost q ts x = cost_in q ts x x.state

abbrev pub total : Query → List Table → List Tuple → ℕ
total q ts [] = 0
total q ts (x ∷ xs) = cost q ts x + total q ts xs

pub total-append : (q : Query) (ts : List Table) (xs ys : List Tuple) → total q ts (xs ++ ys) ≡ total q ts xs + total q ts ys
total-append q ts [] ys = omega arith
total-append q ts (x ∷ xs) ys = let e = total-append q ts xs ys in omega arith

cost_pos_in : (q : Query) (ts : List Table) (x : Tuple) (a : State) → 1 ≤ cost_in q ts x a
cost_pos_in q ts x Idle = let p = base_pos (filters q) (most_rows ts) (to_come q x.rows) in omega arith
cost_pos_in q ts x (Probing t after) = omega arith

pub cost_pos : (q : Query) (ts : List Table) (x : Tuple) → 1 ≤ cost q ts x
unfolding cost
cost_pos q ts x = cost_pos_in q ts x x.state

-- one row fewer to go
less_by : (a b k : ℕ) → a < b → a * k + k ≤ b * k
less_by a b k l = let e = suc-mul a k in let m : suc a * k ≤ b * k = mul-le-mul_right k l in omega arith

-- no tuple costs more than the bound
probing_cost : (F R n after s : ℕ) → n ≤ R → 1 + (n - after) * (1 + ladder F R s) ≤ ladder F R (suc s)
probing_cost F R n after s l =
    let a : (n - after) * (1 + ladder F R s) ≤ R * (1 + ladder F R s) = mul-le-mul_right (1 + ladder F R s) (omega arith) in
    let b = mul-add R 1 (ladder F R s) in
    let c : R * 1 ≡ R = mul-one R in
    omega arith

cost_bound_in : (q : Query) (ts : List Table) (next : ℕ) (x : Tuple) (a : State) → Sound q ts next (in_state x a) → cost_in q ts x a ≤ bound q ts
cost_bound_in q ts next x Idle d =
    let s = missing_some (tables q) (spans x.rows) d.shape.base (d.shape.inside d.shape.base d.shape.based) d.shape.based in
    let f = missing_le (filters q) (λ i. get_or x.done i false) in
    let e = ladder_base (filters q) (most_rows ts) (to_come q x.rows) in
    let m = ladder_mono (filters q) (most_rows ts) (to_come q x.rows) (tables q - 1) (omega arith) in
    omega arith
cost_bound_in q ts next x (Probing t after) d =
    let s = missing_some (tables q) (spans x.rows) d.shape.base (d.shape.inside d.shape.base d.shape.based) d.shape.based in
    let z = missing_pos (tables q) t (spans x.rows) d.shape.bound_for.0 d.shape.bound_for.1 in
    go (to_come q x.rows) s z
  where
    go : (n : ℕ) → n < tables q → 0 < n → 1 + (count_at ts t - after) * (1 + lower (filters q) (most_rows ts) n) ≤ bound q ts
    go zero l z = absurd (not-suc-le-zero z)
    go (suc n) l z =
        let a = probing_cost (filters q) (most_rows ts) (count_at ts t) after n (count_most ts t) in
        let m = ladder_mono (filters q) (most_rows ts) (suc n) (tables q - 1) (omega arith) in
        omega arith

pub cost_bound : (q : Query) (ts : List Table) (next : ℕ) (x : Tuple) → Sound q ts next x → cost q ts x ≤ bound q ts
unfolding cost
cost_bound q ts next x d = cost_bound_in q ts next x x.state d

pub total-bound : (q : Query) (ts : List Table) (next : ℕ) (xs : List Tuple) → AllByRecursion (Sound q ts next) xs → total q ts xs ≤ length xs * bound q ts
total-bound q ts next [] a = omega arith
total-bound q ts next (x ∷ xs) a =
    let b = cost_bound q ts next x a.0 in
    let c = total-bound q ts next xs a.1 in
    let e = suc-mul (length xs) (bound q ts) in
    omega arith

-- a step finds a line ready and changes nothing, or the cost falls
abbrev pub Falls : Query → List Table → Tuple → Move → Type 0
Falls q ts x v = ((v.answer ≡ 6) × (total q ts v.replacement ≡ cost q ts x)) ⊎ (total q ts v.replacement < cost q ts x)

module _ (q : Query) (lawful : Checked q) (ts : List Table) (next : ℕ) where
  abbrev F : ℕ
  F = filters q

  abbrev R : ℕ
  R = most_rows ts

  module _ (x : Tuple) (t after : ℕ) (d : Sound q ts next (in_state x (Probing t after))) where
    was : cost q ts (in_state x (Probing t after)) ≡ 1 + (count_at ts t - after) * (1 + lower F R (to_come q x.rows))
    unfolding cost
    was = refl

    still : (r : ℕ) → cost q ts (in_state x (Probing t r)) ≡ 1 + (count_at ts t - r) * (1 + lower F R (to_come q x.rows))
    unfolding cost
    still r = refl

    removed : total q ts [] < cost q ts (in_state x (Probing t after))
    removed = cost_pos q ts (in_state x (Probing t after))

    module _ (r : ℕ) (above : after < r) (within : r ≤ count_at ts t) where
      goes_on : (count_at ts t - r) * (1 + lower F R (to_come q x.rows)) + (1 + lower F R (to_come q x.rows)) ≤ (count_at ts t - after) * (1 + lower F R (to_come q x.rows))
      goes_on = less_by (count_at ts t - r) (count_at ts t - after) (1 + lower F R (to_come q x.rows)) (omega arith)

      child_cost : cost q ts (joined x t r) ≤ lower F R (to_come q x.rows)
      unfolding cost
      child_cost =
          let w = d.shape.width in
          let s = lawful.six in
          let low = d.shape.bound_for.0 in
          let at = get_or-set_same x.rows t r 0 (omega arith) in
          let one = missing_one (tables q) t (spans x.rows) (spans (set x.rows t r)) d.shape.bound_for.0 d.shape.bound_for.1
          (lt-ltb 0 (get_or (set x.rows t r) t 0) (omega arith)) (λ k ne. ap (ltb 0) (get_or-set_other x.rows t k r 0 ne)) in
          let e = ladder_base F R (to_come q (set x.rows t r)) in
          let f = missing_le F (λ i. get_or x.done i false) in
          let g : lower F R (to_come q x.rows) ≡ ladder F R (to_come q (set x.rows t r)) = ap (lower F R) one in
          omega arith

      by_match : (b : Bool) → total q ts (matched x t r b).replacement < cost q ts (in_state x (Probing t after))
      by_match true = let a = was in let b = still r in let c = child_cost in let g = goes_on in omega arith
      by_match false = let a = was in let b = still r in let g = goes_on in omega arith

      by_time : (ls : List Link) (b : Bool) → total q ts (found q ts x t ls r b).replacement < cost q ts (in_state x (Probing t after))
      by_time ls true = removed
      by_time ls false = by_match (all (link_holds q (relations_of ts) x.rows t r) ls)

    by_answer : (l : Link) (ls : List Link) (a : Option ℕ) → next_row ts t l.own (link_key q ts x l) after ≡ a
        → total q ts (answered q ts x t ls a).replacement < cost q ts (in_state x (Probing t after))
    by_answer l ls None e = removed
    by_answer l ls (Some r) e =
        let n = next_some ts t l.own (link_key q ts x l) after r e in
        by_time r n.0 n.1 ls (ltb x.driver (stamp_of_row ts t r))

    by_link : (ls : List Link) → total q ts (probed q ts x t after ls).replacement < cost q ts (in_state x (Probing t after))
    by_link [] = removed
    by_link (l ∷ ls) = by_answer l ls (next_row ts t l.own (link_key q ts x l) after) refl

  module _ (x : Tuple) (m : ℕ) (d : Sound q ts next (in_state x Idle)) where
    idle_cost : cost q ts (in_state x Idle) ≡ undone q x.done + base F R (to_come q x.rows)
    unfolding cost
    idle_cost = refl

    to_table : BoundFor q x.rows (Probing m 0) → total q ts (in_state x (Probing m 0) ∷ []) < cost q ts (in_state x Idle)
    unfolding cost
    to_table p = go (to_come q x.rows) (missing_pos (tables q) m (spans x.rows) p.0 p.1)
      where
        go : (n : ℕ) → 0 < n → 1 + (count_at ts m - 0) * (1 + lower F R n) + 0 < undone q x.done + base F R n
        go zero z = absurd (not-suc-le-zero z)
        go (suc n) z =
            let k = count_most ts m in
            let a : (count_at ts m - 0) * (1 + ladder F R n) ≤ R * (1 + ladder F R n) = mul-le-mul_right (1 + ladder F R n) (omega arith) in
            let b = mul-add R 1 (ladder F R n) in
            let c : R * 1 ≡ R = mul-one R in
            omega arith

    to_filter : (i : ℕ) → filter_ready q x i ≡ true → (b : Bool) → total q ts (tried (in_state x Idle) i b).replacement < cost q ts (in_state x Idle)
    unfolding cost
    to_filter i g true =
        let f = filter_parts q x i g in
        let l = f.0 in
        let mk = d.shape.marks in
        let eight = lawful.eight in
        let one = missing_one F i (λ k. get_or x.done k false) (λ k. get_or (set x.done i true) k false) f.0 f.1
        (get_or-set_same x.done i true false (omega arith)) (λ k ne. get_or-set_other x.done i k true false ne) in
        omega arith
    to_filter i g false = cost_pos q ts (in_state x Idle)

    to_module : (b : Bool) → ltb m 6 ≡ b → module_ready q x m ≡ true → total q ts (routed q ts (in_state x Idle) m).replacement < cost q ts (in_state x Idle)
    to_module true e g = let g' : table_ready q x m ≡ true = rw e at g in rw e (to_table (table_parts q x m g'))
    to_module false e g =
        let g' : filter_ready q x (m - 6) ≡ true = rw e at g in
        rw e (to_filter (m - 6) g' (at_filter (holds (rows_read q (relations_of ts) x.rows)) q.filters (m - 6)))

    at_end : (b : Bool) → complete q (in_state x Idle) ≡ b → (complete q (in_state x Idle) ≡ false → module_ready q x m ≡ true) → Falls q ts (in_state x Idle) (idled q ts (in_state x Idle) m b)
    at_end true e g = inl (refl, (let z : cost q ts (in_state x Idle) + 0 ≡ cost q ts (in_state x Idle) = omega arith in z))
    at_end false e g = inr (to_module (ltb m 6) refl (g e))

  in_its_state : (x : Tuple) (m : ℕ) (a : State) → Sound q ts next (in_state x a) → (complete q (in_state x a) ≡ false → is_idle a ≡ true → module_ready q x m ≡ true)
      → Falls q ts (in_state x a) (moved q ts (in_state x a) m a)
  in_its_state x m Idle d g = at_end x m d (complete q (in_state x Idle)) refl (λ e. g e refl)
  in_its_state x m (Probing t after) d g = inr (by_link x t after d (links q.joins x.rows t))

  pub move_falls : (x : Tuple) (m : ℕ) → Sound q ts next x → (complete q x ≡ false → is_idle x.state ≡ true → module_ready q x m ≡ true) → Falls q ts x (move q ts x m)
  unfolding move
  move_falls x m d g = in_its_state x m x.state d g
