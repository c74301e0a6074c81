-- A row's cells.
use Rattle.std.specs.Prelude.{List, take}
use Rattle.cells.specs.declared.types.Cell.{Cell}
use Rattle.cells.specs.declared.rows.Row.{Row}

abbrev pub cells_of : Row → List Cell
cells_of r = take r.len r.cells
