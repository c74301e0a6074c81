-- What every draft keeps to, so that opening one asks nothing.
use Rattle.std.specs.Prelude.{◌≡◌, ◌≤◌, true, length}
use Rattle.std.specs.List.{AllByRecursion}
use Rattle.basis.specs.Lists.{all}
use Rattle.query.specs.Queries.{Query, join_fits, condition_fits, projection_fits, all_linked}

pub record Lawful (q : Query) : Type 0 where
  -- 1 to 6 tables of 1 to 6 columns, at most 10 joins, 8 filters and 6 shown things
  pub first : 1 ≤ length q.headings
  pub tables : length q.headings ≤ 6
  pub columns : AllByRecursion (λ kinds. (1 ≤ length kinds) × (length kinds ≤ 6)) q.headings
  pub joins : length q.joins ≤ 10
  pub filters : length q.filters ≤ 8
  pub shown : length q.shown ≤ 6
  -- a join is between existing columns of one kind of two tables
  pub joined : all (join_fits q.headings) q.joins ≡ true
  -- every table after the first has a join to an earlier one
  pub linked : all_linked (length q.headings) q.joins ≡ true
  -- every expression is well formed; every column exists and is of the kind wanted
  pub selected : all (condition_fits q.headings) q.filters ≡ true
  pub projected : all (projection_fits q.headings) q.shown ≡ true
