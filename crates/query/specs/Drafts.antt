-- What a draft holds: the query that its lists stand for, and what every draft keeps to.
use Rattle.std.specs.Prelude.{◌≤◌, vec_capacity}
use Rattle.query.specs.Lawful.{Lawful}
use Rattle.query.specs.Queries.{Query, query_from}
use Rattle.query.specs.declared.drafts.Draft.TheInside.{Inside}

abbrev pub query_held : Inside → Query
query_held d = query_from d.headings.items d.joins.items d.filters.items d.shown.items

pub record Held (d : Inside) : Type 0 where
  -- its lists have places for all that it may hold
  pub tables : 6 ≤ vec_capacity d.headings
  pub joins : 10 ≤ vec_capacity d.joins
  pub filters : 8 ≤ vec_capacity d.filters
  pub shown : 6 ≤ vec_capacity d.shown
  pub lawful : Lawful (query_held d)
