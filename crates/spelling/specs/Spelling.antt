-- The bytes that spell a cell, and what it is to read them for a wanted kind.
use Rattle.std.specs.Prelude.{◌≡◌, ℕ, true, List, take, ◌≢◌}
use Rattle.std.specs.Fmt.{signed_decimal}
use Rattle.cells.specs.Cells.{lawful, kind_of, code_text}
use Rattle.cells.specs.declared.types.Kind.{Kind}
use Rattle.cells.specs.declared.types.Cell.{Cell}
use Rattle.cells.specs.declared.types.Cell.TheVariants as cell
use Rattle.spelling.specs.declared.text.ShortText.{ShortText}

-- a number's decimal digits, with `-` before those of a negative one; a code's bytes
abbrev pub spelling : Cell → List ℕ
spelling (cell.Number z) = signed_decimal z
spelling (cell.Code c) = code_text c

-- the bytes spell the cell
abbrev pub Spells : List ℕ → Cell → Type 0
Spells s c = (lawful c ≡ true) × (spelling c ≡ s)

-- the bytes are read as a cell of the kind if they spell one, else as one of the other kind
abbrev pub Wanted : Kind → List ℕ → Cell → Type 0
Wanted k s c = Spells s c × ((kind_of c ≢ k) → (d : Cell) → kind_of d ≡ k → Spells s d → ⊥)

-- no two lawful cells of one kind are spelled alike
abbrev pub OneSpelling : Type 0
OneSpelling = (c d : Cell) → kind_of c ≡ kind_of d → lawful c ≡ true → lawful d ≡ true → spelling c ≡ spelling d → c ≡ d

-- the bytes that a text holds
abbrev pub text_of : {n : ℕ} → ShortText n → List ℕ
text_of t = take t.len t.bytes
