-- Kinds and cells: when a cell is lawful, what kind it is of, and how a column of a kind reads one.
use Rattle.std.specs.Prelude.{ℕ, Bool, true, false, cond, ◌&&◌, ◌||◌, List, [], ◌∷◌, length, take, drop, ℤ, pos, Some, None, Option, ◌==◌, nat_le, nat_lt, unsigned_abs}
use Rattle.std.specs.List.{list_all}
use Rattle.cells.specs.declared.types.Kind.{Kind}
use Rattle.cells.specs.declared.types.Kind.TheVariants as kind
use Rattle.cells.specs.declared.types.Code.{Code}
use Rattle.cells.specs.declared.types.Cell.{Cell}
use Rattle.cells.specs.declared.types.Cell.TheVariants as cell

-- from -999,999,999,999 to 999,999,999,999
abbrev pub lawful_number : ℤ → Bool
lawful_number z = nat_le (unsigned_abs z) 999999999999

-- `A` to `Z`, `0` to `9` or `-`
abbrev pub code_byte : ℕ → Bool
code_byte b = (nat_le 65 b && nat_le b 90) || ((nat_le 48 b && nat_le b 57) || b == 45)

-- the bytes that a code has before its end
abbrev pub code_text : Code → List ℕ
code_text c = take c.len c.bytes

-- 1 to 12 such bytes, and 0 in every place behind them
abbrev pub lawful_code : Code → Bool
lawful_code c =
    nat_lt 0 c.len && (nat_le c.len 12
    && (length c.bytes == 12 && (list_all code_byte (code_text c) && list_all (λ b. b == 0) (drop c.len c.bytes))))

abbrev pub lawful : Cell → Bool
lawful (cell.Number z) = lawful_number z
lawful (cell.Code c) = lawful_code c

abbrev pub kind_of : Cell → Kind
kind_of (cell.Number z) = kind.Number
kind_of (cell.Code c) = kind.Code

abbrev pub same_kind : Kind → Kind → Bool
same_kind kind.Number kind.Number = true
same_kind kind.Number kind.Code = false
same_kind kind.Code kind.Number = false
same_kind kind.Code kind.Code = true

-- a lawful cell of a kind
abbrev pub fits : Kind → Cell → Bool
fits k c = same_kind (kind_of c) k && lawful c

-- the number 0, and the code `0`
abbrev pub blank : Kind → Cell
blank kind.Number = cell.Number (pos 0)
blank kind.Code = cell.Code (record { bytes = 48 ∷ 0 ∷ 0 ∷ 0 ∷ 0 ∷ 0 ∷ 0 ∷ 0 ∷ 0 ∷ 0 ∷ 0 ∷ 0 ∷ []; len = 1 })

-- the cell that a query sees in a column of a kind: the one kept there, or a blank where it is missing, unlawful or of the
-- wrong kind; a column that does not exist reads as the number 0
abbrev pub read_cell : Option Kind → Option Cell → Cell
read_cell None kept = blank kind.Number
read_cell (Some k) None = blank k
read_cell (Some k) (Some c) = cond (fits k c) c (blank k)
