-- Whole lists of items: when they are well formed, and what value they have.
use Rattle.std.proofs.Common.{◌≡◌, ℕ, ◌≤◌, Bool, true, false, cond, ◌&&◌, eqb, leb, List, [], ◌∷◌, length, ℤ, is_some, Some, None, Decides, Option, sym, refl, ap, ◌∙◌, ⊎_elim, arith}
use Rattle.std.specs.Bool.{then_some}
use Rattle.std.specs.Option.{option_map}
use Rattle.std.proofs.lemmas.Bool.{and_from, and_parts, and_right, cases_Bool, cond-false, cond-true, leb-true, le-leb, ne_eqb}
use Rattle.expressions.specs.Evaluations.{Found, NotFound}
use Rattle.expressions.specs.Expressions.{Expr, nested, lawful_numbers, Within, WellFormed, forest, only, tree_of, within_limits, well_formed, worth, value_of}
use Rattle.expressions.specs.Readings.{Reading}
use Rattle.expressions.specs.declared.types.Item.{Item}
use Rattle.expressions.proofs.Forests.{forest_empty, only_one, tree_prefix, prefix_tree}

within_decides : (x : Expr) → Decides (within_limits (Some x)) (Within 6 x)
within_decides x = (
  λ h. let p = and_parts (leb (nested x) 6) (lawful_numbers x) h in record { deep = leb-true (nested x) 6 p.0; lawful = p.1 },
  λ w. and_from (leb (nested x) 6) (lawful_numbers x) (le-leb (nested x) 6 w.deep) w.lawful,
)

-- where the tree is known
formed_by : (items : List Item) (x : Expr) → tree_of items ≡ Some x → length items ≤ 31 → Within 6 x → well_formed items ≡ true
formed_by items x t short w =
    and_from (leb (length items) 31) (within_limits (tree_of items)) (le-leb (length items) 31 short) (ap within_limits t ∙ (within_decides x).1 w)

pub well_formed_decides : (items : List Item) → Decides (well_formed items) (WellFormed items)
well_formed_decides items = (
  λ h. let p = and_parts (leb (length items) 31) (within_limits (tree_of items)) h in go (leb-true (length items) 31 p.0) (tree_of items) refl p.1,
  λ w. formed_by items w.tree (ap tree_of (sym w.spelled) ∙ tree_prefix w.tree) w.short w.within,
)
  where
    go : length items ≤ 31 → (o : Option Expr) → tree_of items ≡ o → within_limits o ≡ true → WellFormed items
    go short None t h = absurd (let z : ◌≡◌ {A = ℕ} 0 1 = cc in omega arith)
    go short (Some x) t h = record { short = short; tree = x; spelled = prefix_tree items x t; within = (within_decides x).0 h }

-- items have a value exactly when they are well formed
pub value_some : (e : Reading) (items : List Item) → is_some (value_of e items) ≡ well_formed items
value_some e items = go (leb (length items) 31) (tree_of items)
  where
    test : (b : Bool) (z : ℤ) → is_some (cond b (Some z) None) ≡ b
    test true z = refl
    test false z = refl

    go : (b : Bool) (o : Option Expr) → is_some (cond (b && within_limits o) (option_map (worth e) o) None) ≡ (b && within_limits o)
    go true None = refl
    go false None = refl
    go b (Some x) = test (b && within_limits (Some x)) (worth e x)

no_value : (e : Reading) (items : List Item) → well_formed items ≡ false → None ≡ value_of e items
no_value e items h = sym (cond-false (well_formed items) (option_map (worth e) (tree_of items)) None h)

pub no_tree : (e : Reading) (items : List Item) → NotFound items 6 → None ≡ value_of e items
no_tree e items none = no_value e items (and_right (leb (length items) 31) (within_limits (tree_of items)) (go (tree_of items) refl))
  where
    go : (o : Option Expr) → tree_of items ≡ o → within_limits o ≡ false
    go None t = refl
    go (Some x) t = ⊎_elim (λ h. absurd (none x [] (only_one (forest items) x t) ((within_decides x).0 h))) (λ h. h) (cases_Bool (within_limits (Some x)))

pub whole_value : (e : Reading) (items rest : List Item) (v : ℤ) → Found e items 6 rest v → length items ≤ 31 → then_some (eqb (length rest) 0) v ≡ value_of e items
whole_value e items [] v p short =
    let t : tree_of items ≡ Some p.tree = ap only p.split in
    ap Some p.value ∙ sym (cond-true (well_formed items) (option_map (worth e) (tree_of items)) None (formed_by items p.tree t short p.within) ∙ ap (option_map (worth e)) t)
whole_value e items (i ∷ more) v p short =
    ap (λ b. then_some b v) (ne_eqb (length (i ∷ more)) 0 (λ l. let z : ⊥ = omega arith in z))
    ∙ no_value e items (and_right (leb (length items) 31) (within_limits (tree_of items)) (ap within_limits (ap only p.split ∙ go (forest (i ∷ more)) refl)))
  where
    go : (o : Option (List Expr)) → forest (i ∷ more) ≡ o → only (option_map (λ ts. p.tree ∷ ts) o) ≡ None
    go None f = refl
    go (Some []) f = absurd (let z : ⊥ = omega (arith, ap length (forest_empty (i ∷ more) f)) in z)
    go (Some (x ∷ xs)) f = refl
