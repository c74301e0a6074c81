-- An element put in at a place, where what stood from there on moves up by one.
use Rattle.std.proofs.Common.{◌≡◌, ℕ, ◌+◌, ◌-◌, ◌<◌, List, [], ◌∷◌, ◌++◌, length, get_or, take, drop, set, sym, ap, ◌∙◌, append-nil, arith}
use Rattle.std.proofs.lemmas.List.{take_all, drop-take, drop_more, drop_all, set_at, length-drop, length-take-le, take_at}
use borrow.Rule.Slice.PartMut.{put_mid}
use Rattle.sorted_index.specs.Sorting.{all_but_last}

-- the last element is turned to the place, and written over there
pub shifted_in : {X : Type 0} (xs ys : List X) (at k : ℕ) (x : X) → at < length xs → k ≡ length xs - at
    → ys ≡ drop (length (take k (drop at xs)) - 1) (take k (drop at xs)) ++ take (length (take k (drop at xs)) - 1) (take k (drop at xs))
    → set (put_mid at k xs ys) at x ≡ take at xs ++ x ∷ drop at (all_but_last xs)
shifted_in xs ys at k x lt is turned =
    let rest = drop at xs in
    let n = length rest - 1 in
    let long = length-drop at xs in
    let whole : take k rest ≡ rest = take_all k rest (omega arith) in
    let last : drop n rest ≡ get_or rest n x ∷ [] = drop_more rest n x (omega arith) ∙ ap (λ l. get_or rest n x ∷ l) (drop_all (n + 1) rest (omega arith)) in
    let left : take n rest ≡ drop at (all_but_last xs) = sym (drop-take at n xs) ∙ ap (λ m. drop at (take m xs)) (let e : at + n ≡ length xs - 1 = omega arith in e) in
    ap (λ l. set (take at xs ++ (l ++ drop k rest)) at x) (turned ∙ ap (λ l. drop (length l - 1) l ++ take (length l - 1) l) whole ∙ ap (λ l. l ++ take n rest) last ∙ ap (λ l. (get_or rest n x ∷ []) ++ l) left)
    ∙ set_at (take at xs) (get_or rest n x) (drop at (all_but_last xs) ++ drop k rest) x at (length-take-le at xs (omega arith))
    ∙ ap (λ l. take at xs ++ x ∷ (drop at (all_but_last xs) ++ l)) (drop_all k rest (omega arith))
    ∙ ap (λ l. take at xs ++ x ∷ l) (append-nil (drop at (all_but_last xs)))

pub front_is : {X : Type 0} (xs front : List X) (last : X) → xs ≡ front ++ last ∷ [] → length front + 1 ≡ length xs → front ≡ all_but_last xs
front_is xs front last is long =
    sym (ap (take (length xs - 1)) is ∙ take_at front (last ∷ []) (length xs - 1) (omega arith))
