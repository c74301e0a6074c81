-- What a query sees of the rows at hand.
use Rattle.std.specs.Prelude.{ℕ, cond, List, [], ℤ, pos, slice_index_or}
use Rattle.std.specs.Option.{unwrap_or}
use Rattle.basis.specs.Lists.{numbered}
use Rattle.cells.specs.Cells.{lawful_number}
use Rattle.cells.specs.declared.types.Cell.{Cell}
use Rattle.cells.specs.declared.types.Cell.TheVariants.{Number, Code}

-- A reading gives the cell that is seen in a table, counted from 0, and a column, counted from 1.
abbrev pub Reading : Type 0
Reading = ℕ → ℕ → Cell

-- the reading of cells that were copied out; what is not there is the number 0
abbrev pub cells_read : List (List Cell) → Reading
cells_read cells t c = unwrap_or (numbered (slice_index_or cells t []) c) (Number (pos 0))

-- what a number column sees in a cell: a lawful number, else 0
abbrev pub number_in : Cell → ℤ
number_in (Number z) = cond (lawful_number z) z (pos 0)
number_in (Code c) = pos 0
