-- Numbers, codes and cells as keys: when two are equal, which comes first, and a hash.
use Rattle.std.specs.Prelude.{◌≡◌, ℕ, ◌+◌, ◌*◌, ◌%◌, ◌^◌, Bool, true, false, ◌&&◌, List, [], ◌∷◌, ◌++◌, ℤ, pos, negsuc, Some, None, fold, Option, ◌==◌, int_lt, unsigned_abs}
use Rattle.std.specs.Str.{bytes_eq}
use Rattle.cells.specs.Cells.{lawful_code, code_text}
use Rattle.cells.specs.declared.types.Code.{Code}
use Rattle.cells.specs.declared.types.Cell.{Cell}
use Rattle.cells.specs.declared.types.Cell.TheVariants as cell
use Rattle.keys.specs.Orders.{lex}

-- the number or the code that a cell holds
abbrev pub number_in : Cell → Option ℤ
number_in (cell.Number z) = Some z
number_in (cell.Code c) = None

abbrev pub code_in : Cell → Option Code
code_in (cell.Number z) = None
code_in (cell.Code c) = Some c

-- equality
abbrev pub same_number : ℤ → ℤ → Bool
same_number (pos m) (pos n) = m == n
same_number (pos m) (negsuc n) = false
same_number (negsuc m) (pos n) = false
same_number (negsuc m) (negsuc n) = m == n

abbrev pub same_code : Code → Code → Bool
same_code a b = a.len == b.len && bytes_eq a.bytes b.bytes

abbrev pub same_cell : Cell → Cell → Bool
same_cell (cell.Number a) (cell.Number b) = same_number a b
same_cell (cell.Number a) (cell.Code b) = false
same_cell (cell.Code a) (cell.Number b) = false
same_cell (cell.Code a) (cell.Code b) = same_code a b

-- a cell's key, if it has one, is this one
abbrev pub is_key : {K : Type 0} → (K → K → Bool) → Option K → K → Bool
is_key equals None k = false
is_key equals (Some j) k = equals j k

-- order: codes by their twelve bytes and then their length, and numbers before codes
abbrev pub code_places : Code → List ℕ
code_places c = c.bytes ++ (c.len ∷ [])

abbrev pub less_code : Code → Code → Bool
less_code a b = lex (code_places a) (code_places b)

-- lawful codes are in the order of their texts
abbrev pub ByText : Code → Code → Bool → Type 0
ByText a b before = lawful_code a ≡ true → lawful_code b ≡ true → before ≡ lex (code_text a) (code_text b)

abbrev pub less_cell : Cell → Cell → Bool
less_cell (cell.Number a) (cell.Number b) = int_lt a b
less_cell (cell.Number a) (cell.Code b) = true
less_cell (cell.Code a) (cell.Number b) = false
less_cell (cell.Code a) (cell.Code b) = less_code a b

-- hash: a number's size, so that neighbours fall in neighbouring buckets; a code's twelve bytes, each with a weight of its own,
-- also modulo 64, since the first sixteen powers of 37 differ there
abbrev pub hash_step : ℕ → ℕ → ℕ
hash_step h b = (h * 37 + b) % 2 ^ 32

abbrev pub code_hash : Code → ℕ
code_hash c = fold hash_step 0 c.bytes

abbrev pub cell_hash : Cell → ℕ
cell_hash (cell.Number z) = unsigned_abs z
cell_hash (cell.Code c) = code_hash c
