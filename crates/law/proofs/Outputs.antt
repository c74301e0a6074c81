-- What is laid into a buffer where it fits can be read there; and what is laid one after another.
use Rattle.std.proofs.Common.{◌≡◌, ℕ, zero, suc, ◌+◌, ◌-◌, ◌<◌, ◌≤◌, List, [], ◌∷◌, ◌++◌, length, get_or, take as front, drop, set, sym, refl, ap, ◌∙◌, ap₂, not-suc-le-zero, arith, length-append, length-drop, length-set, length-take, get_or-drop, get_or-set_other, get_or-take, get_or-set_same, ext_get_or}
use Rattle.std.proofs.lemmas.List.{append_assoc, append-nil}
use Rattle.rules.specs.Calls.{Output, laid}
use Rattle.law.specs.Driving.{output_with}
use Rattle.law.specs.Histories.{written}

laid-length : (buf : List ℕ) (p : ℕ) (bs : List ℕ) → length (laid buf p bs) ≡ length buf
laid-length buf p [] = refl
laid-length buf p (b ∷ bs) = laid-length (set buf p b) (suc p) bs ∙ length-set buf p b

laid_before : (buf : List ℕ) (p : ℕ) (bs : List ℕ) (i : ℕ) → i < p → get_or (laid buf p bs) i 0 ≡ get_or buf i 0
laid_before buf p [] i l = refl
laid_before buf p (b ∷ bs) i l =
    laid_before (set buf p b) (suc p) bs i (omega arith) ∙ get_or-set_other buf p i b 0 (λ e. let z : ⊥ = omega arith in z)

laid_at : (buf : List ℕ) (p : ℕ) (bs : List ℕ) → p + length bs ≤ length buf → (k : ℕ) → k < length bs → get_or (laid buf p bs) (p + k) 0 ≡ get_or bs k 0
laid_at buf p [] fit k l = absurd (not-suc-le-zero l)
laid_at buf p (b ∷ bs) fit zero l =
    ap (λ (i : ℕ). get_or (laid (set buf p b) (suc p) bs) i 0) (let e : p + 0 ≡ p = omega arith in e)
    ∙ laid_before (set buf p b) (suc p) bs p (omega arith) ∙ get_or-set_same buf p b 0 (omega arith)
laid_at buf p (b ∷ bs) fit (suc k) l =
    ap (λ (i : ℕ). get_or (laid (set buf p b) (suc p) bs) i 0) (let e : p + suc k ≡ suc p + k = omega arith in e)
    ∙ laid_at (set buf p b) (suc p) bs (let e = length-set buf p b in omega arith) k (omega arith)

pub written-laid : (buf : List ℕ) (p : ℕ) (bs : List ℕ) → p + length bs ≤ length buf
    → written (record { bytes = buf; place = p }) (record { bytes = laid buf p bs; place = p + length bs }) ≡ bs
written-laid buf p bs fit =
    let n : ℕ = (p + length bs) - p in
    let xs : List ℕ = drop p (laid buf p bs) in
    let e : n ≡ length bs = omega arith in
    let a = laid-length buf p bs in
    let b = length-drop p (laid buf p bs) in
    let c = length-take n xs in
    ext_get_or 0 (front n xs) bs (omega arith)
    (λ i l.
    let small : i < length bs = omega arith in
    get_or-take n xs i 0 (omega arith) ∙ get_or-drop p (laid buf p bs) i 0 ∙ laid_at buf p bs fit i small)

laid-append : (buf : List ℕ) (p : ℕ) (xs ys : List ℕ) → laid (laid buf p xs) (p + length xs) ys ≡ laid buf p (xs ++ ys)
laid-append buf p [] ys = ap (λ (n : ℕ). laid buf n ys) (let e : p + 0 ≡ p = omega arith in e)
laid-append buf p (x ∷ xs) ys =
    ap (λ (n : ℕ). laid (laid (set buf p x) (suc p) xs) n ys) (let e : p + suc (length xs) ≡ suc p + length xs = omega arith in e)
    ∙ laid-append (set buf p x) (suc p) xs ys

pub output_more : (out : Output) (before lines more : List ℕ) → output_with (output_with out before []) lines more ≡ output_with out (before ++ lines) more
output_more out before lines more =
    ap₂ {C = Output} (λ (x : List ℕ) (p : ℕ). record { bytes = x; place = p })
    (ap (λ (x : List ℕ). laid (laid out.bytes out.place x) (out.place + length before) (lines ++ more)) (append-nil before)
    ∙ laid-append out.bytes out.place before (lines ++ more) ∙ ap (laid out.bytes out.place) (sym (append_assoc before lines more)))
    (let e = length-append before lines in let z : (out.place + length before) + length lines ≡ out.place + length (before ++ lines) = omega arith in z)

-- nothing written
pub output_same : (out : Output) → out ≡ output_with out [] []
output_same out = ap (λ (p : ℕ). record { bytes = out.bytes; place = p }) (let e : out.place ≡ out.place + 0 = omega arith in e)
