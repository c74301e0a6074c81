use Rattle.std.specs.Cmp.Lexicographic.{slice_cmp}
use Rattle.std.specs.Ordering.{nat_cmp, ordering_then, MatchOrdering}
use Rattle.std.proofs.Common.{◌≡◌, ℕ, List, [], ◌∷◌, ◌++◌, length, Ordering, Less, Equal, Greater, is_lt, ap, ◌∙◌, arith, rules}
use Rattle.std.proofs.lemmas.Bool.Decides.{nat_tests}
use Rattle.keys.specs.CodeOrder.{code_texts_ordered}
use Rattle.keys.specs.Keys.{less_code}
use Rattle.keys.specs.Orders.{lex}
use Rattle.keys.proofs.codes.CodeKey.before.Goals as goal

-- arrays of one length, and then a number, are in the order of both in one list
lex_pair : (m n : ℕ) (xs ys : List ℕ) → length xs ≡ length ys → is_lt (ordering_then (slice_cmp nat_cmp xs ys) (nat_cmp m n)) ≡ lex (xs ++ (m ∷ [])) (ys ++ (n ∷ []))
lex_pair m n [] [] e = grind (arith, nat_tests)
lex_pair m n [] (y ∷ ys) e = absurd (let z : ⊥ = omega arith in z)
lex_pair m n (x ∷ xs) [] e = absurd (let z : ⊥ = omega arith in z)
lex_pair m n (x ∷ xs) (y ∷ ys) e = let more = lex_pair m n xs ys (omega arith) in grind (arith, nat_tests)

both : (o r p : Ordering) → MatchOrdering o (r ≡ Less) (r ≡ p) (r ≡ Greater) → r ≡ ordering_then o p
both Less r p h = h
both Equal r p h = h
both Greater r p h = h

pub returns : goal.returns
returns c =
    let a = c.args.self.now in
    let b = c.args.other.now in
    let long : length a.bytes ≡ length b.bytes = search rules in
    let bytes : c.cmp.result ≡ slice_cmp nat_cmp a.bytes b.bytes = search rules in
    let tied : MatchOrdering c.cmp.result (c.then_with.result ≡ Less) (c.then_with.result ≡ nat_cmp a.len b.len) (c.then_with.result ≡ Greater) = search rules in
    let is : c.is_lt.result ≡ less_code a b =
    c.is_lt.ensures
    ∙ ap is_lt (both c.cmp.result c.then_with.result (nat_cmp a.len b.len) tied)
    ∙ ap (λ o. is_lt (ordering_then o (nat_cmp a.len b.len))) bytes
    ∙ lex_pair a.len b.len a.bytes b.bytes long in
    record { value = is; law = λ p q. is ∙ code_texts_ordered a b p q }
