-- A heading's columns, and what adding one asks.
use Rattle.std.specs.Prelude.{ℕ, List, [], ◌∷◌, length, take, nat_lt}
use Rattle.basis.specs.Questions.{Question}
use Rattle.cells.specs.declared.types.Kind.{Kind}
use Rattle.cells.specs.declared.headings.Heading.{Heading}
use Rattle.cells.specs.declared.headings.HeadingRefusal.{HeadingRefusal}
use Rattle.cells.specs.declared.headings.HeadingRefusal.TheVariants.{SeventhColumn}

-- the kinds of its columns, in order
abbrev pub columns : Heading → List Kind
columns h = take h.len h.kinds

abbrev pub refusal_number : HeadingRefusal → ℕ
refusal_number SeventhColumn = 9

-- has it fewer than six columns?
abbrev pub push_questions : List Kind → List Question
push_questions kinds = (nat_lt (length kinds) 6, 9) ∷ []
