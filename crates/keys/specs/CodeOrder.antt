-- Codes: equality decides, the order is strict and total, and that of lawful codes is the order of their texts.
use Rattle.std.specs.Prelude.{◌≡◌, ℕ, zero, suc, ◌+◌, ◌<◌, true, false, ◌&&◌, ◌||◌, List, [], ◌∷◌, ◌++◌, length, drop, Decides, ◌==◌, nat_lt, refl}
use Rattle.std.proofs.Common.{sym, ap, ◌∙◌, arith, length-drop, take-append-drop}
use Rattle.std.specs.Str.{bytes_eq}
use Rattle.std.proofs.lemmas.Slice.Eq.{bytes_eq-Decides}
use Rattle.std.proofs.lemmas.List.{same_from_push, length-take-le}
use Rattle.std.proofs.lemmas.Bool.{both_ways, and_parts, and_from, eqb-true, eq-eqb}
use Rattle.std.proofs.lemmas.Bool.Decides.{nat_tests}
use Rattle.std.specs.List.{list_all}
use Rattle.cells.specs.Cells.{code_byte, code_text, lawful_code}
use Rattle.cells.specs.declared.types.Code.{Code}
use Rattle.keys.specs.Keys.{same_code, less_code, code_places}
use Rattle.keys.specs.Orders.{StrictOrder, lex}
use Rattle.cells.proofs.Codes.{lawful_parts}
use Rattle.keys.specs.Lex.{lex_ordered}

abbrev code : List ℕ → ℕ → Code
code bytes n = record { bytes = bytes; len = n }

pub same_code_decides : (a b : Code) → Decides (same_code a b) (a ≡ b)
same_code_decides a b = (
  λ e.
      let p = and_parts (a.len == b.len) (bytes_eq a.bytes b.bytes) e in
      let bytes = (bytes_eq-Decides a.bytes b.bytes).0 p.1 in
      let len = eqb-true a.len b.len p.0 in
      λ i. code (bytes i) (len i),
  λ e. and_from (a.len == b.len) (bytes_eq a.bytes b.bytes) (eq-eqb a.len b.len (ap (λ x. x.len) e)) ((bytes_eq-Decides a.bytes b.bytes).1 (ap (λ x. x.bytes) e)),
)

code-total : (a b : Code) → less_code a b ≡ false → less_code b a ≡ false → a ≡ b
code-total a b h k =
    let p = same_from_push a.bytes b.bytes a.len b.len (lex_ordered.total (code_places a) (code_places b) h k) in
    λ i. code (p.0 i) (p.1 i)

pub code_ordered : StrictOrder less_code
code_ordered = record {
  irreflexive = λ a. lex_ordered.irreflexive (code_places a);
  transitive = λ a b c. lex_ordered.transitive (code_places a) (code_places b) (code_places c);
  total = code-total;
}

-- 0 comes before every byte of a code
code_byte_some : (b : ℕ) → code_byte b ≡ true → 0 < b
code_byte_some zero h = absurd (both_ways false refl h)
code_byte_some (suc b) h = omega arith

-- two texts, the zeros behind them, and their lengths
module _ (m n : ℕ) where
  lex_zeros : (us vs : List ℕ) → list_all (λ b. b == 0) us ≡ true → list_all (λ b. b == 0) vs ≡ true → length us ≡ length vs → m ≡ n → lex (us ++ (m ∷ [])) (vs ++ (n ∷ [])) ≡ false
  lex_zeros [] [] hu hv long e = ap (λ k. lex (k ∷ []) (n ∷ [])) e ∙ lex_ordered.irreflexive (n ∷ [])
  lex_zeros [] (v ∷ vs) hu hv long e = absurd (let z : ⊥ = omega arith in z)
  lex_zeros (u ∷ us) [] hu hv long e = absurd (let z : ⊥ = omega arith in z)
  lex_zeros (u ∷ us) (v ∷ vs) hu hv long e =
      let p = and_parts (u == 0) (list_all (λ b. b == 0) us) hu in
      let q = and_parts (v == 0) (list_all (λ b. b == 0) vs) hv in
      let more = lex_zeros us vs p.1 q.1 (omega arith) e in
      grind (arith, nat_tests)

  lex_texts : (ps us qs vs : List ℕ) → list_all code_byte ps ≡ true → list_all code_byte qs ≡ true → list_all (λ b. b == 0) us ≡ true → list_all (λ b. b == 0) vs ≡ true → length ps + length us ≡ length qs + length vs → (length ps ≡ length qs → m ≡ n) → lex ((ps ++ us) ++ (m ∷ [])) ((qs ++ vs) ++ (n ∷ [])) ≡ lex ps qs
  lex_texts [] us [] vs hp hq hu hv long e = lex_zeros us vs hu hv (omega arith) (e refl)
  lex_texts [] [] (q ∷ qs) vs hp hq hu hv long e = absurd (let z : ⊥ = omega arith in z)
  lex_texts [] (u ∷ us) (q ∷ qs) vs hp hq hu hv long e =
      let low = code_byte_some q (and_parts (code_byte q) (list_all code_byte qs) hq).0 in
      let zero = (and_parts (u == 0) (list_all (λ b. b == 0) us) hu).0 in
      grind (arith, nat_tests)
  lex_texts (p ∷ ps) us [] [] hp hq hu hv long e = absurd (let z : ⊥ = omega arith in z)
  lex_texts (p ∷ ps) us [] (v ∷ vs) hp hq hu hv long e =
      let low = code_byte_some p (and_parts (code_byte p) (list_all code_byte ps) hp).0 in
      let zero = (and_parts (v == 0) (list_all (λ b. b == 0) vs) hv).0 in
      grind (arith, nat_tests)
  lex_texts (p ∷ ps) us (q ∷ qs) vs hp hq hu hv long e =
      ap (λ t. nat_lt p q || (p == q && t))
      (lex_texts ps us qs vs (and_parts (code_byte p) (list_all code_byte ps) hp).1 (and_parts (code_byte q) (list_all code_byte qs) hq).1 hu hv (omega arith) (λ same. e (ap suc same)))

pub code_texts_ordered : (a b : Code) → lawful_code a ≡ true → lawful_code b ≡ true → less_code a b ≡ lex (code_text a) (code_text b)
code_texts_ordered a b h k =
    let p = lawful_parts a h in
    let q = lawful_parts b k in
    let m = length-take-le a.len a.bytes (omega (arith, p.fits, p.long)) in
    let n = length-take-le b.len b.bytes (omega (arith, q.fits, q.long)) in
    let whole = take-append-drop a.len a.bytes in
    let other = take-append-drop b.len b.bytes in
    sym (λ i. lex (whole i ++ (a.len ∷ [])) (other i ++ (b.len ∷ [])))
    ∙ lex_texts a.len b.len (code_text a) (drop a.len a.bytes) (code_text b) (drop b.len b.bytes) p.text q.text p.rest q.rest
    (omega (arith, m, n, p.fits, q.fits, p.long, q.long, length-drop a.len a.bytes, length-drop b.len b.bytes))
    (λ same. sym m ∙ same ∙ n)
