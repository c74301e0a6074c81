-- Columns of a query's tables, and what one more table leaves as it was.
use Rattle.std.proofs.Common.{◌≡◌, ℕ, zero, suc, ◌<◌, ◌≤◌, true, ◌&&◌, List, [], ◌∷◌, ◌++◌, length, is_some, Some, None, Option, refl, ap, ◌∙◌, ⊎_elim}
use Rattle.std.proofs.lemmas.List.{get_or_past, get_or_append_left, get_or_push}
use Rattle.std.proofs.lemmas.Bool.{both_ways, cases_lt, and_parts, and_from}
use Rattle.basis.specs.Lists.{numbered}
use Rattle.basis.proofs.Alls.{all_weaker}
use Rattle.cells.specs.declared.types.Kind.{Kind}
use Rattle.cells.specs.declared.types.Kind.TheVariants as kind
use Rattle.expressions.specs.declared.types.Column.{Column}
use Rattle.expressions.specs.declared.types.Item.{Item}
use Rattle.expressions.specs.declared.types.Item.TheVariants as item
use Rattle.query.specs.Queries.{Condition, Projection, value, code, column_kind, column_exists, same_kinds, both_exist, one_kind, two_tables, join_fits, item_fits, columns_fit, condition_formed, condition_columns, condition_fits, projection_formed, projection_fits}
use Rattle.query.specs.declared.types.Join.{Join}

no_kinds : (n : ℕ) → numbered {A = Kind} [] n ≡ None
no_kinds zero = refl
no_kinds (suc n) = refl

-- a table that there is not has no column
pub kind_past : (hs : List (List Kind)) (c : Column) → length hs ≤ c.table → column_kind hs c ≡ None
kind_past hs c h = ap (λ ks. numbered ks c.column) (get_or_past hs c.table [] h) ∙ no_kinds c.column

pub exists_inside : (hs : List (List Kind)) (c : Column) → column_exists hs c ≡ true → c.table < length hs
exists_inside hs c e =
    ⊎_elim (λ less. less) (λ more. absurd (both_ways (column_exists hs c) (ap is_some (kind_past hs c more)) e)) (cases_lt c.table (length hs))

same_kinds-left : (j k : Option Kind) → same_kinds j k ≡ true → is_some j ≡ true
same_kinds-left None k e = e
same_kinds-left (Some j) k e = refl

-- One more table.
module _ (hs : List (List Kind)) (ks : List Kind) where
  kind_inside : (c : Column) → c.table < length hs → column_kind (hs ++ ks ∷ []) c ≡ column_kind hs c
  kind_inside c h = ap (λ l. numbered l c.column) (get_or_append_left hs (ks ∷ []) [] c.table h)

  pub kind_more : (c : Column) → column_exists hs c ≡ true → column_kind (hs ++ ks ∷ []) c ≡ column_kind hs c
  kind_more c e = kind_inside c (exists_inside hs c e)

  -- the new table's columns
  pub kind_new : (n : ℕ) → column_kind (hs ++ ks ∷ []) (record { table = length hs; column = n }) ≡ numbered ks n
  kind_new n = ap (λ l. numbered l n) (get_or_push hs ks [] (length hs) refl)

  pub join_more : (j : Join) → join_fits hs j ≡ true → join_fits (hs ++ ks ∷ []) j ≡ true
  join_more j e =
      let p = and_parts (both_exist hs j) (two_tables j && one_kind hs j) e in
      let q = and_parts (column_exists hs j.left) (column_exists hs j.right) p.0 in
      let l = kind_more j.left q.0 in
      let r = kind_more j.right q.1 in
      (λ i. (is_some (l i) && is_some (r i)) && (two_tables j && same_kinds (l i) (r i))) ∙ e

  item_more : (x : Item) → item_fits hs x ≡ true → item_fits (hs ++ ks ∷ []) x ≡ true
  item_more (item.Number z) e = refl
  item_more (item.Column c) e =
      ap (λ k. same_kinds k (Some kind.Number)) (kind_more c (same_kinds-left (column_kind hs c) (Some kind.Number) e)) ∙ e
  item_more item.Add e = refl
  item_more item.Sub e = refl

  columns_more : (items : List Item) → columns_fit hs items ≡ true → columns_fit (hs ++ ks ∷ []) items ≡ true
  columns_more = all_weaker (item_fits hs) (item_fits (hs ++ ks ∷ [])) item_more

  pub condition_more : (f : Condition) → condition_fits hs f ≡ true → condition_fits (hs ++ ks ∷ []) f ≡ true
  condition_more f e =
      let p = and_parts (condition_formed f) (condition_columns hs f) e in
      let q = and_parts (columns_fit hs f.left) (columns_fit hs f.right) p.1 in
      and_from (condition_formed f) (condition_columns (hs ++ ks ∷ []) f) p.0
      (and_from (columns_fit (hs ++ ks ∷ []) f.left) (columns_fit (hs ++ ks ∷ []) f.right) (columns_more f.left q.0) (columns_more f.right q.1))

  pub projection_more : (p : Projection) → projection_fits hs p ≡ true → projection_fits (hs ++ ks ∷ []) p ≡ true
  projection_more (value items) e =
      let p = and_parts (projection_formed (value items)) (columns_fit hs items) e in
      and_from (projection_formed (value items)) (columns_fit (hs ++ ks ∷ []) items) p.0 (columns_more items p.1)
  projection_more (code c) e =
      ap (λ k. same_kinds k (Some kind.Code)) (kind_more c (same_kinds-left (column_kind hs c) (Some kind.Code) e)) ∙ e
