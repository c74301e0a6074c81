-- A code is told by its text.
use Rattle.std.proofs.Common.{◌≡◌, ℕ, ◌-◌, true, eqb, List, [], ◌∷◌, ◌++◌, length, drop, replicate, sym, refl, ap, ◌∙◌, arith, length-drop, take-append-drop}
use Rattle.std.proofs.lemmas.List.{take_at, length-take-le}
use Rattle.std.proofs.lemmas.Bool.{and_parts, eqb-true}
use Rattle.std.specs.List.{list_all}
use Rattle.cells.specs.Cells.{code_text}
use Rattle.cells.specs.declared.types.Code.{Code}
use Rattle.cells.specs.declared.types.Cell.TheVariants as cell
use Rattle.spelling.specs.Spelling.{Spells}
use Rattle.cells.proofs.Codes.{lawful_parts}

abbrev pub SpellsCode : List ℕ → Code → Type 0
SpellsCode s c = Spells s (cell.Code c)

-- the bytes as a code, lawful or not
abbrev pub code_of : List ℕ → Code
code_of s = record { bytes = s ++ replicate (12 - length s) 0; len = length s }

pub code_of_text : (s : List ℕ) → code_text (code_of s) ≡ s
code_of_text s = take_at s (replicate (12 - length s) 0) (length s) refl

zeros : (xs : List ℕ) → list_all (λ b. eqb b 0) xs ≡ true → xs ≡ replicate (length xs) 0
zeros [] h = refl
zeros (x ∷ xs) h =
    let p = and_parts (eqb x 0) (list_all (λ b. eqb b 0) xs) h in
    ap (λ y. y ∷ xs) (eqb-true x 0 p.0) ∙ ap (λ l. 0 ∷ l) (zeros xs p.1)

pub code_is : (s : List ℕ) (c : Code) → SpellsCode s c → c ≡ code_of s
code_is s c p =
    let q = lawful_parts c p.0 in
    let len : c.len ≡ length s = sym (length-take-le c.len c.bytes (omega (arith, q.fits, q.long))) ∙ ap length p.1 in
    let rest : drop c.len c.bytes ≡ replicate (12 - length s) 0 =
    zeros (drop c.len c.bytes) q.rest
    ∙ ap (λ n. replicate n 0) (let n : length (drop c.len c.bytes) ≡ 12 - length s = omega (arith, length-drop c.len c.bytes, q.long, len) in n) in
    let bytes : c.bytes ≡ s ++ replicate (12 - length s) 0 = sym (take-append-drop c.len c.bytes) ∙ (λ i. p.1 i ++ rest i) in
    λ i. record { bytes = bytes i; len = len i }

pub code_same : (s : List ℕ) (c d : Code) → SpellsCode s c → SpellsCode s d → c ≡ d
code_same s c d p q = code_is s c p ∙ sym (code_is s d q)
