-- The questions of a draft's calls, each with the number of its refusal, and what a granted call makes of the query.
use Rattle.std.specs.Prelude.{◌≡◌, ℕ, ◌&&◌, List, [], ◌∷◌, ◌++◌, length, is_some, Ok, Err, Result, codes, decimal, nat_lt}
use Rattle.basis.specs.Lists.{numbered}
use Rattle.basis.specs.Questions.{Question}
use Rattle.cells.specs.declared.types.Kind.{Kind}
use Rattle.expressions.specs.declared.types.Column.{Column}
use Rattle.query.specs.Queries.{Query, Condition, Projection, column_kind, column_exists, same_kinds, both_exist, one_kind, two_tables, condition_formed, condition_columns, projection_formed, projection_columns}
use Rattle.query.specs.declared.types.Join.{Join}
use Rattle.query.specs.declared.types.Refusal.{Refusal}
use Rattle.query.specs.declared.types.Refusal.TheVariants.{SeventhTable, NoSuchColumn, KindsDiffer, EleventhJoin, SameTable, NinthFilter, IllFormed, WrongColumn, SeventhShown}
use Rattle.query.specs.declared.types.DraftError.{DraftError}
use Rattle.query.specs.declared.types.DraftError.TheVariants.{Refused, Memory}

abbrev pub refusal_number : Refusal → ℕ
refusal_number SeventhTable = 10
refusal_number NoSuchColumn = 11
refusal_number KindsDiffer = 12
refusal_number EleventhJoin = 13
refusal_number SameTable = 14
refusal_number NinthFilter = 15
refusal_number IllFormed = 16
refusal_number WrongColumn = 17
refusal_number SeventhShown = 18

-- what a refusal prints, by its number; what an error prints
abbrev pub refused_text : ℕ → List ℕ
refused_text n = codes "refused " ++ decimal n

abbrev pub error_text : DraftError → List ℕ
error_text (Refused no') = refused_text (refusal_number no')
error_text Memory = codes "out of memory"

-- A result answers a number: granted, that it is 0; refused, that it is the refusal's. Want of memory has no number, and comes
-- only where no question was met with no.
abbrev pub Answers : {T : Type 0} → Result T DraftError → ℕ → Type 0
Answers (Ok x) n = n ≡ 0
Answers (Err (Refused no')) n = n ≡ refusal_number no'
Answers (Err Memory) n = n ≡ 0

-- A new table, of these kinds, whose column `own` equals the column `to` of an earlier table.
abbrev pub table_questions : Query → List Kind → Column → ℕ → List Question
table_questions q kinds to own =
    (nat_lt (length q.headings) 6, 10)
    ∷ ((column_exists q.headings to && is_some (numbered kinds own), 11)
    ∷ ((same_kinds (column_kind q.headings to) (numbered kinds own), 12)
    ∷ ((nat_lt (length q.joins) 10, 13) ∷ [])))

abbrev pub own_join : Query → Column → ℕ → Join
own_join q to own = record { left = to; right = record { table = length q.headings; column = own } }

abbrev pub with_table : Query → List Kind → Column → ℕ → Query
with_table q kinds to own =
    record { headings = q.headings ++ kinds ∷ []; joins = q.joins ++ own_join q to own ∷ []; filters = q.filters; shown = q.shown }

-- A further join.
abbrev pub join_questions : Query → Join → List Question
join_questions q j =
    (both_exist q.headings j, 11)
    ∷ ((two_tables j, 14) ∷ ((one_kind q.headings j, 12) ∷ ((nat_lt (length q.joins) 10, 13) ∷ [])))

abbrev pub with_join : Query → Join → Query
with_join q j = record { headings = q.headings; joins = q.joins ++ j ∷ []; filters = q.filters; shown = q.shown }

-- A filter.
abbrev pub filter_questions : Query → Condition → List Question
filter_questions q f =
    (nat_lt (length q.filters) 8, 15) ∷ ((condition_formed f, 16) ∷ ((condition_columns q.headings f, 17) ∷ []))

abbrev pub with_filter : Query → Condition → Query
with_filter q f = record { headings = q.headings; joins = q.joins; filters = q.filters ++ f ∷ []; shown = q.shown }

-- A shown thing.
abbrev pub show_questions : Query → Projection → List Question
show_questions q p =
    (nat_lt (length q.shown) 6, 18) ∷ ((projection_formed p, 16) ∷ ((projection_columns q.headings p, 17) ∷ []))

abbrev pub with_shown : Query → Projection → Query
with_shown q p = record { headings = q.headings; joins = q.joins; filters = q.filters; shown = q.shown ++ p ∷ [] }
