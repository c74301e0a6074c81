-- A query: its tables' headings, its joins, filters and shown things, and what every draft keeps to.
use Rattle.std.specs.Prelude.{ℕ, Bool, true, false, not, ◌&&◌, ◌||◌, List, [], map, is_some, Some, None, vec_items, Option, ◌==◌, nat_lt, slice_index_or}
use Rattle.basis.specs.Lists.{all, any, upto, numbered}
use Rattle.cells.specs.Cells.{same_kind}
use Rattle.cells.specs.Headings.{columns}
use Rattle.cells.specs.declared.headings.Heading.{Heading}
use Rattle.cells.specs.declared.types.Kind.{Kind}
use Rattle.cells.specs.declared.types.Kind.TheVariants as kind
use Rattle.expressions.specs.Expressions.{well_formed}
use Rattle.expressions.specs.declared.types.Column.{Column}
use Rattle.expressions.specs.declared.types.Item.{Item}
use Rattle.expressions.specs.declared.types.Item.TheVariants as item
use Rattle.query.specs.declared.types.Join.{Join}
use Rattle.query.specs.declared.types.Test.{Test}
use Rattle.query.specs.declared.types.Filter.{Filter}
use Rattle.query.specs.declared.types.Shown.{Shown}
use Rattle.query.specs.declared.types.Shown.TheVariants as shown

-- A filter by its meaning: a test between two expressions, each given by its items.
pub record Condition : Type 0 where
  pub test : Test
  pub left : List Item
  pub right : List Item

-- A shown thing by its meaning.
pub data Projection : Type 0 where
  value : List Item → Projection
  code : Column → Projection

-- A query by its meaning: for each table the kinds of its columns; the joins, filters and shown things in order.
pub record Query : Type 0 where
  pub headings : List (List Kind)
  pub joins : List Join
  pub filters : List Condition
  pub shown : List Projection

-- the meaning of what a draft holds
abbrev pub condition : Filter → Condition
condition f = record { test = f.test; left = vec_items f.left; right = vec_items f.right }

abbrev pub projection : Shown → Projection
projection (shown.Value items) = value (vec_items items)
projection (shown.Code c) = code c

abbrev pub query_from : List Heading → List Join → List Filter → List Shown → Query
query_from hs js fs ss = record { headings = map columns hs; joins = js; filters = map condition fs; shown = map projection ss }

-- the kind of a column, if it exists
abbrev pub column_kind : List (List Kind) → Column → Option Kind
column_kind headings c = numbered (slice_index_or headings c.table []) c.column

abbrev pub column_exists : List (List Kind) → Column → Bool
column_exists headings c = is_some (column_kind headings c)

-- there are two kinds, and they are the same
abbrev pub same_kinds : Option Kind → Option Kind → Bool
same_kinds None k = false
same_kinds (Some j) None = false
same_kinds (Some j) (Some k) = same_kind j k

-- both columns of a join exist; they are of one kind; they are of two tables
abbrev pub both_exist : List (List Kind) → Join → Bool
both_exist headings j = column_exists headings j.left && column_exists headings j.right

abbrev pub one_kind : List (List Kind) → Join → Bool
one_kind headings j = same_kinds (column_kind headings j.left) (column_kind headings j.right)

abbrev pub two_tables : Join → Bool
two_tables j = not (j.left.table == j.right.table)

abbrev pub join_fits : List (List Kind) → Join → Bool
join_fits headings j = both_exist headings j && (two_tables j && one_kind headings j)

-- every column among the items exists and is a number column
abbrev pub item_fits : List (List Kind) → Item → Bool
item_fits headings (item.Number z) = true
item_fits headings (item.Column c) = same_kinds (column_kind headings c) (Some kind.Number)
item_fits headings item.Add = true
item_fits headings item.Sub = true

abbrev pub columns_fit : List (List Kind) → List Item → Bool
columns_fit headings items = all (item_fits headings) items

-- every expression is well formed; every column exists and is of the kind wanted
abbrev pub condition_formed : Condition → Bool
condition_formed f = well_formed f.left && well_formed f.right

abbrev pub condition_columns : List (List Kind) → Condition → Bool
condition_columns headings f = columns_fit headings f.left && columns_fit headings f.right

abbrev pub condition_fits : List (List Kind) → Condition → Bool
condition_fits headings f = condition_formed f && condition_columns headings f

abbrev pub projection_formed : Projection → Bool
projection_formed (value items) = well_formed items
projection_formed (code c) = true

abbrev pub projection_columns : List (List Kind) → Projection → Bool
projection_columns headings (value items) = columns_fit headings items
projection_columns headings (code c) = same_kinds (column_kind headings c) (Some kind.Code)

abbrev pub projection_fits : List (List Kind) → Projection → Bool
projection_fits headings p = projection_formed p && projection_columns headings p

-- a join of table t to an earlier one; every table after the first has one
abbrev pub to_earlier : ℕ → Join → Bool
to_earlier t j = (j.left.table == t && nat_lt j.right.table t) || (j.right.table == t && nat_lt j.left.table t)

abbrev pub linked : List Join → ℕ → Bool
linked joins t = t == 0 || any (to_earlier t) joins

abbrev pub all_linked : ℕ → List Join → Bool
all_linked tables joins = upto tables (linked joins)
