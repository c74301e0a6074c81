-- Which rows are a table's: what a row is asked.
use Rattle.std.specs.Prelude.{ℕ, Bool, List, [], ◌∷◌, length, ◌==◌, nat_lt, slice_index_or}
use Rattle.std.specs.List.{zip}
use Rattle.basis.specs.Lists.{all}
use Rattle.basis.specs.Questions.{Question}
use Rattle.cells.specs.Cells.{fits}
use Rattle.cells.specs.declared.types.Kind.{Kind}
use Rattle.cells.specs.declared.types.Cell.{Cell}
use Rattle.query.specs.Queries.{Query}
use Rattle.query.specs.declared.types.RowRefusal.{RowRefusal}
use Rattle.query.specs.declared.types.RowRefusal.TheVariants.{NoSuchTable, ColumnCount, UnfitCell}

abbrev pub row_refusal_number : RowRefusal → ℕ
row_refusal_number NoSuchTable = 22
row_refusal_number ColumnCount = 23
row_refusal_number UnfitCell = 24

-- every cell is lawful and of its column's kind, as far as both lists go
abbrev pub all_fit : List Kind → List Cell → Bool
all_fit kinds cells = all (λ p. fits p.0 p.1) (zip kinds cells)

abbrev pub row_questions : Query → ℕ → List Cell → List Question
row_questions q t cells =
    (nat_lt t (length q.headings), 22)
    ∷ (((length cells == length (slice_index_or q.headings t [])), 23) ∷ ((all_fit (slice_index_or q.headings t []) cells, 24) ∷ []))
