-- Bytes laid into a buffer one after another.
use Rattle.std.proofs.Common.{◌≡◌, ℕ, suc, ◌+◌, ◌<◌, ◌≤◌, Bool, true, false, leb, List, [], ◌∷◌, ◌++◌, length, set, sym, refl, ap, ◌∙◌, arith, length-append, length-set, rules}
use Rattle.std.proofs.lemmas.List.{set_past}
use Rattle.output.specs.Puts.{Puts}
use Rattle.rules.specs.Calls.{laid}

pub laid-length : (buf : List ℕ) (p : ℕ) (bs : List ℕ) → length (laid buf p bs) ≡ length buf
laid-length buf p [] = refl
laid-length buf p (b ∷ bs) = laid-length (set buf p b) (suc p) bs ∙ length-set buf p b

pub laid_past : (buf : List ℕ) (p : ℕ) (bs : List ℕ) → length buf ≤ p → laid buf p bs ≡ buf
laid_past buf p [] h = refl
laid_past buf p (b ∷ bs) h = ap (λ x. laid x (suc p) bs) (set_past buf p b h) ∙ laid_past buf (suc p) bs (omega arith)

pub laid-append : (buf : List ℕ) (p : ℕ) (xs ys : List ℕ) → laid buf p (xs ++ ys) ≡ laid (laid buf p xs) (p + length xs) ys
laid-append buf p [] ys = ap (λ n. laid buf n ys) (omega arith)
laid-append buf p (x ∷ xs) ys =
    let e : suc p + length xs ≡ p + length (x ∷ xs) = omega arith in
    laid-append (set buf p x) (suc p) xs ys ∙ ap (λ n. laid (laid (set buf p x) (suc p) xs) n ys) e

-- a part that fitted, and then another
pub puts_then : {b m a : List ℕ} {p q r : ℕ} {ok : Bool} (xs ys : List ℕ) → p ≤ length b → Puts b p xs m q true → Puts m q ys a r ok → Puts b p (xs ++ ys) a r ok
puts_then {b} {m} {a} {p} {q} {r} {ok} xs ys h one two =
    let long = laid-length b p xs in
    let same : length m ≡ length b = ap length one.held ∙ long in
    let fit : p + length xs ≤ length b = search rules in
    let at : q ≡ p + length xs = omega (arith, one.moved) in
    let more = length-append xs ys in
    let sum : q + length ys ≡ p + length (xs ++ ys) = omega arith in
    record {
      held = two.held ∙ ap (λ n. laid m n ys) at ∙ ap (λ x. laid x (p + length xs) ys) one.held ∙ sym (laid-append b p xs ys);
      moved = omega (arith, two.moved);
      fits = two.fits ∙ ap (λ n. leb n (length m)) sum ∙ ap (λ n. leb (p + length (xs ++ ys)) n) same;
    }

-- a part that did not fit: what would follow it changes nothing
pub puts_stop : {b a : List ℕ} {p q : ℕ} (xs ys : List ℕ) → Puts b p xs a q false → Puts b p (xs ++ ys) a q false
puts_stop {b} {a} {p} {q} xs ys one =
    let over : length b < p + length xs = search rules in
    let long = laid-length b p xs in
    let more = length-append xs ys in
    let past : length (laid b p xs) ≤ p + length xs = omega arith in
    record {
      held = one.held ∙ sym (laid_past (laid b p xs) (p + length xs) ys past) ∙ sym (laid-append b p xs ys);
      moved = omega (arith, one.moved);
      fits = search rules;
    }
