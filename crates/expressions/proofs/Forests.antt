-- The expressions that items stand for, and the items that are their prefix form: each gives the other back.
use Rattle.std.proofs.Common.{◌≡◌, ℕ, List, [], ◌∷◌, ◌++◌, Some, None, Option, sym, refl, ap, ◌∙◌, append_assoc, append-nil, arith}
use Rattle.std.specs.Option.{option_map}
use Rattle.expressions.specs.Expressions.{Expr, number, column, sum, difference, prefix, joined_by, forest, only, tree_of, TreeOfIsExact}
use Rattle.expressions.specs.declared.types.Item.{Item}
use Rattle.expressions.specs.declared.types.Item.TheVariants as item

pub joined_two : (node : Expr → Expr → Expr) (a b : Expr) (o : Option (List Expr)) → joined_by node (option_map (λ l. a ∷ l) (option_map (λ l. b ∷ l) o)) ≡ option_map (λ l. node a b ∷ l) o
joined_two node a b None = refl
joined_two node a b (Some l) = refl

-- an operator's two expressions are read before it
two_read : (node : Expr → Expr → Expr) (a b : Expr) (rest : List Item) → ((l : List Item) → forest (prefix a ++ l) ≡ option_map (λ ts. a ∷ ts) (forest l)) → ((l : List Item) → forest (prefix b ++ l) ≡ option_map (λ ts. b ∷ ts) (forest l)) → joined_by node (forest ((prefix a ++ prefix b) ++ rest)) ≡ option_map (λ ts. node a b ∷ ts) (forest rest)
two_read node a b rest one two =
    ap (λ l. joined_by node (forest l)) (append_assoc (prefix a) (prefix b) rest)
    ∙ ap (joined_by node) (one (prefix b ++ rest) ∙ ap (option_map (λ ts. a ∷ ts)) (two rest))
    ∙ joined_two node a b (forest rest)

pub forest-prefix : (x : Expr) (rest : List Item) → forest (prefix x ++ rest) ≡ option_map (λ ts. x ∷ ts) (forest rest)
forest-prefix (number z) rest = refl
forest-prefix (column c) rest = refl
forest-prefix (sum a b) rest = two_read sum a b rest (forest-prefix a) (forest-prefix b)
forest-prefix (difference a b) rest = two_read difference a b rest (forest-prefix a) (forest-prefix b)

-- a prefix form gives its expression back
pub tree_prefix : (x : Expr) → tree_of (prefix x) ≡ Some x
tree_prefix x = ap tree_of (sym (append-nil (prefix x))) ∙ ap only (forest-prefix x [])

-- one expression's prefix form after another's
abbrev prefixes : List Expr → List Item
prefixes [] = []
prefixes (x ∷ xs) = prefix x ++ prefixes xs

spelled_one : (x : Expr) (i : Item) (items : List Item) (o : Option (List Expr)) → prefix x ≡ i ∷ [] → ((ts : List Expr) → o ≡ Some ts → prefixes ts ≡ items) → (ts : List Expr) → option_map (λ l. x ∷ l) o ≡ Some ts → prefixes ts ≡ i ∷ items
spelled_one x i items None p h ts e = absurd (let z : ◌≡◌ {A = ℕ} 0 1 = cc in omega arith)
spelled_one x i items (Some us) p h ts e =
    let is : ts ≡ x ∷ us = cc in ap prefixes is ∙ ap (λ l. l ++ prefixes us) p ∙ ap (λ l. i ∷ l) (h us refl)

spelled_two : (node : Expr → Expr → Expr) (i : Item) (items : List Item) (o : Option (List Expr)) → ((a b : Expr) → prefix (node a b) ≡ i ∷ (prefix a ++ prefix b)) → ((ts : List Expr) → o ≡ Some ts → prefixes ts ≡ items) → (ts : List Expr) → joined_by node o ≡ Some ts → prefixes ts ≡ i ∷ items
spelled_two node i items None p h ts e = absurd (let z : ◌≡◌ {A = ℕ} 0 1 = cc in omega arith)
spelled_two node i items (Some []) p h ts e = absurd (let z : ◌≡◌ {A = ℕ} 0 1 = cc in omega arith)
spelled_two node i items (Some (a ∷ [])) p h ts e = absurd (let z : ◌≡◌ {A = ℕ} 0 1 = cc in omega arith)
spelled_two node i items (Some (a ∷ (b ∷ us))) p h ts e =
    let is : ts ≡ node a b ∷ us = cc in
    ap prefixes is
    ∙ ap (λ l. l ++ prefixes us) (p a b)
    ∙ ap (λ l. i ∷ l) (append_assoc (prefix a) (prefix b) (prefixes us) ∙ h (a ∷ (b ∷ us)) refl)

-- items that were read are the prefix forms of what they stand for
prefixes_forest : (items : List Item) (ts : List Expr) → forest items ≡ Some ts → prefixes ts ≡ items
prefixes_forest [] ts e = let is : ts ≡ [] = cc in ap prefixes is
prefixes_forest (item.Number z ∷ items) ts e = spelled_one (number z) (item.Number z) items (forest items) refl (prefixes_forest items) ts e
prefixes_forest (item.Column c ∷ items) ts e = spelled_one (column c) (item.Column c) items (forest items) refl (prefixes_forest items) ts e
prefixes_forest (item.Add ∷ items) ts e = spelled_two sum item.Add items (forest items) (λ a b. refl) (prefixes_forest items) ts e
prefixes_forest (item.Sub ∷ items) ts e = spelled_two difference item.Sub items (forest items) (λ a b. refl) (prefixes_forest items) ts e

pub forest_empty : (items : List Item) → forest items ≡ Some [] → [] ≡ items
forest_empty items = prefixes_forest items []

pub only_one : (o : Option (List Expr)) (x : Expr) → only o ≡ Some x → o ≡ Some (x ∷ [])
only_one None x e = absurd (let z : ◌≡◌ {A = ℕ} 0 1 = cc in omega arith)
only_one (Some []) x e = absurd (let z : ◌≡◌ {A = ℕ} 0 1 = cc in omega arith)
only_one (Some (y ∷ [])) x e = let same : y ≡ x = cc in ap (λ t. Some (t ∷ [])) same
only_one (Some (y ∷ (z ∷ rest))) x e = absurd (let z : ◌≡◌ {A = ℕ} 0 1 = cc in omega arith)

pub prefix_tree : (items : List Item) (x : Expr) → tree_of items ≡ Some x → prefix x ≡ items
prefix_tree items x e = sym (append-nil (prefix x)) ∙ prefixes_forest items (x ∷ []) (only_one (forest items) x e)

pub tree_exact : TreeOfIsExact
tree_exact items x = (prefix_tree items x, λ p. ap tree_of (sym p) ∙ tree_prefix x)
