-- The order of lists of bytes is a strict total order.
use Rattle.std.specs.Prelude.{◌≡◌, ℕ, ◌+◌, ◌<◌, true, false, ◌&&◌, ◌||◌, List, [], ◌∷◌, ◌++◌, length, drop, ◌==◌, ◌≢◌, nat_lt, slice_index, slice_index_or, refl}
use Rattle.std.proofs.Common.{◌∙◌, arith}
use Rattle.std.proofs.lemmas.List.{drop_more}
use Rattle.std.proofs.lemmas.Bool.{both_ways}
use Rattle.std.proofs.lemmas.Bool.Decides.{nat_tests}
use Rattle.keys.specs.Orders.{StrictOrder, lex}

lex_irreflexive : (xs : List ℕ) → lex xs xs ≡ false
lex_irreflexive [] = refl
lex_irreflexive (x ∷ xs) = let more = lex_irreflexive xs in grind (arith, nat_tests)

lex_transitive : (xs ys zs : List ℕ) → lex xs ys ≡ true → lex ys zs ≡ true → lex xs zs ≡ true
lex_transitive [] [] zs h k = absurd (both_ways false refl h)
lex_transitive (x ∷ xs) [] zs h k = absurd (both_ways false refl h)
lex_transitive [] (y ∷ ys) [] h k = absurd (both_ways false refl k)
lex_transitive (x ∷ xs) (y ∷ ys) [] h k = absurd (both_ways false refl k)
lex_transitive [] (y ∷ ys) (z ∷ zs) h k = refl
lex_transitive (x ∷ xs) (y ∷ ys) (z ∷ zs) h k = let more = lex_transitive xs ys zs in grind (arith, nat_tests)

lex-total : (xs ys : List ℕ) → lex xs ys ≡ false → lex ys xs ≡ false → xs ≡ ys
lex-total [] [] h k = refl
lex-total [] (y ∷ ys) h k = absurd (both_ways true h refl)
lex-total (x ∷ xs) [] h k = absurd (both_ways true k refl)
lex-total (x ∷ xs) (y ∷ ys) h k =
    let first : x ≡ y = grind (arith, nat_tests) in
    let rest = lex-total xs ys (grind (arith, nat_tests)) (grind (arith, nat_tests)) in
    λ i. first i ∷ rest i

pub lex_ordered : StrictOrder lex
lex_ordered = record { irreflexive = lex_irreflexive; transitive = lex_transitive; total = lex-total }

-- what is left from a place on, with more behind it
module _ (xs ys us vs : List ℕ) (i : ℕ) (l : i < length xs) (k : i < length ys) where
  step : lex (drop i xs ++ us) (drop i ys ++ vs) ≡ (nat_lt (slice_index xs i) (slice_index ys i) || (slice_index xs i == slice_index ys i && lex (drop (i + 1) xs ++ us) (drop (i + 1) ys ++ vs)))
  step = λ j. lex (drop_more xs i 0 l j ++ us) (drop_more ys i 0 k j ++ vs)

  pub lex_differ : (slice_index xs i ≢ slice_index ys i) → lex (drop i xs ++ us) (drop i ys ++ vs) ≡ nat_lt (slice_index xs i) (slice_index ys i)
  lex_differ other = step ∙ grind (arith, nat_tests)

  pub lex_tied : slice_index_or xs i 0 ≡ slice_index ys i → lex (drop i xs ++ us) (drop i ys ++ vs) ≡ lex (drop (i + 1) xs ++ us) (drop (i + 1) ys ++ vs)
  lex_tied same = step ∙ grind (arith, nat_tests)

-- one byte each
pub lex_bytes : (m n : ℕ) → lex (m ∷ []) (n ∷ []) ≡ nat_lt m n
lex_bytes m n = grind (arith, nat_tests)
