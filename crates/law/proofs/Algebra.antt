-- What was posted, where nothing waits, is select-project-join.
use Rattle.std.proofs.Common.{◌≡◌, ℕ, zero, suc, ◌+◌, ◌*◌, ◌<◌, ◌≤◌, Bool, true, false, ◌&&◌, eqb, List, [], ◌∷◌, ◌++◌, map, length, get_or, replicate, filter, sym, refl, ap, ◌∙◌, subst, ap₂, ⊎_elim, not-suc-le-zero, add-mul, zero-mul, arith}
use mathlib.Core.Path.{fun_ext}
use lib.ListN.{length-map}
use Rattle.std.specs.List.{AllByRecursion}
use Rattle.std.specs.List.Sorted.{IsPermutation}
use Rattle.std.proofs.lemmas.Bool.{cases_eq, cases_Bool, cond-true, cond-false, eq-eqb, ne_eqb}
use Rattle.std.proofs.ByRecursion.{All-append, All-weaker, All-map}
use Rattle.cells.specs.declared.types.Cell.{Cell}
use Rattle.query.specs.Queries.{Query}
use Rattle.stores.specs.Tables.{Table}
use Rattle.algebra.specs.Algebra.{Relations, first_tables, each_with, product, select_project_join}
use Rattle.algebra.specs.Lines.{line}
use Rattle.algebra.specs.Meets.{row_read, reading, meets}
use Rattle.rules.specs.Lists.{bit, times, same_list, nth}
use Rattle.rules.specs.Moves.{tables, numbers_from}
use Rattle.rules.specs.Reads.{relations_of, rows_read}
use Rattle.law.proofs.InOrder.{history_kept}
use Rattle.law.proofs.Once.{posted_once_or_owed_once, posted_line, settled}
use Rattle.law.proofs.Shuffles.{shuffled_by_times, standing, times-kept}
use Rattle.law.specs.Histories.{Posting, Journal, journal, NothingWaits}
use Rattle.law.specs.Law.{Combination, posted_times, RightPosting, ExactlyOnce, LinesAreSelectProjectJoin}
use Rattle.rules.proofs.Checked.{Checked}
use Rattle.rules.proofs.Times.{times-append}
use Rattle.rules.proofs.Uptos.{clash}

map-map : {A B C : Type 0} (f : B → C) (g : A → B) (xs : List A) → map f (map g xs) ≡ map (λ x. f (g x)) xs
map-map f g [] = refl
map-map {C = C} f g (x ∷ xs) = ap {B = List C} (λ ys. f (g x) ∷ ys) (map-map f g xs)

map-append : {A B : Type 0} (f : A → B) (xs ys : List A) → map f (xs ++ ys) ≡ map f xs ++ map f ys
map-append f [] ys = refl
map-append {B = B} f (x ∷ xs) ys = ap {B = List B} (λ zs. f x ∷ zs) (map-append f xs ys)

-- numbers from 1 on
up : (k n : ℕ) → numbers_from (suc k) n ≡ map suc (numbers_from k n)
up k zero = refl
up k (suc n) = ap {B = List ℕ} (λ ns. suc k ∷ ns) (up (suc k) n)

from_zero : {A : Type 0} (xs : List A) (d : A) → map (λ i. get_or xs i d) (numbers_from 0 (length xs)) ≡ xs
from_zero [] d = refl
from_zero {A} (x ∷ xs) d =
    ap {B = List A} (λ ys. x ∷ ys)
    (ap (map (λ i. get_or (x ∷ xs) i d)) (up 0 (length xs)) ∙ map-map (λ i. get_or (x ∷ xs) i d) suc (numbers_from 0 (length xs)) ∙ from_zero xs d)

in_turn : {A : Type 0} (xs : List A) (d : A) → map (λ r. nth xs r d) (numbers_from 1 (length xs)) ≡ xs
in_turn xs d = ap (map (λ r. nth xs r d)) (up 0 (length xs)) ∙ map-map (λ r. nth xs r d) suc (numbers_from 0 (length xs)) ∙ from_zero xs d

counted_once : (k n r : ℕ) → k ≤ r → r < k + n → times (eqb r) (numbers_from k n) ≡ 1
counted_once k zero r a b = absurd (let z : ⊥ = omega arith in z)
counted_once k (suc n) r a b =
    ⊎_elim
    (λ e.
    let h : bit (eqb r k) ≡ 1 = ap bit (eq-eqb r k e) in
    let t = counted_not (suc k) n r (omega arith) in
    omega arith)
    (λ ne.
    let h : bit (eqb r k) ≡ 0 = ap bit (ne_eqb r k ne) in
    let t = counted_once (suc k) n r (omega arith) (omega arith) in
    omega arith)
    (cases_eq r k)
  where
    counted_not : (k n r : ℕ) → r < k → times (eqb r) (numbers_from k n) ≡ 0
    counted_not k zero r l = refl
    counted_not k (suc n) r l = ap₂ (λ b n. bit b + n) (ne_eqb r k (λ e. let z : ⊥ = omega arith in z)) (counted_not (suc k) n r (omega arith))

-- the product of row numbers: those of the first n tables, and 0 for the others
abbrev row_numbers : {A : Type 0} → ℕ → List (List A) → List (List ℕ)
row_numbers zero [] = []
row_numbers zero (xs ∷ xss) = (0 ∷ []) ∷ row_numbers zero xss
row_numbers (suc n) [] = []
row_numbers (suc n) (xs ∷ xss) = numbers_from 1 (length xs) ∷ row_numbers n xss

-- the rows of a list of row numbers
abbrev picked : ℕ → Relations → List ℕ → List (List Cell)
picked zero s c = []
picked (suc n) [] c = []
picked (suc n) (xs ∷ xss) [] = []
picked (suc n) (xs ∷ xss) (r ∷ rs) = nth xs r [] ∷ picked n xss rs

one_choice : (s : Relations) → product (row_numbers zero s) ≡ replicate (length s) 0 ∷ []
one_choice [] = refl
one_choice (xs ∷ xss) = ap (each_with (0 ∷ [])) (one_choice xss)

each_map : {A B : Type 0} (f : A → B) (g : List A → List B) (h : List A → List B) → ((x : A) (xs : List A) → h (x ∷ xs) ≡ f x ∷ g xs)
    → (xs : List A) (yss : List (List A)) → map h (each_with xs yss) ≡ each_with (map f xs) (map g yss)
each_map f g h e [] yss = refl
each_map {A} {B} f g h e (x ∷ xs) yss =
    map-append h (map (λ ys. x ∷ ys) yss) (each_with xs yss)
    ∙ ap₂ {C = List (List B)} (λ a b. a ++ b) (front yss) (each_map f g h e xs yss)
  where
    front : (zss : List (List A)) → map h (map (λ ys. x ∷ ys) zss) ≡ map (λ ys. f x ∷ ys) (map g zss)
    front [] = refl
    front (zs ∷ zss) = ap₂ {C = List (List B)} (λ a b. a ∷ b) (e x zs) (front zss)

product_picked : (n : ℕ) (s : Relations) → n ≤ length s → product (first_tables n s) ≡ map (picked n s) (product (row_numbers n s))
product_picked zero s l = sym (ap (map (picked zero s)) (one_choice s))
product_picked (suc n) [] l = absurd (let z : ⊥ = omega arith in z)
product_picked (suc n) (xs ∷ xss) l =
    ap₂ each_with (sym (in_turn xs [])) (product_picked n xss (omega arith))
    ∙ sym (each_map (λ r. nth xs r []) (picked n xss) (picked (suc n) (xs ∷ xss)) (λ r rs. refl) (numbers_from 1 (length xs)) (product (row_numbers n xss)))

-- how often a list of row numbers stands in the product
front_times : (r : ℕ) (rs : List ℕ) (x : ℕ) (yss : List (List ℕ)) → times (same_list (r ∷ rs)) (map (λ ys. x ∷ ys) yss) ≡ bit (eqb r x) * times (same_list rs) yss
front_times r rs x yss = go (eqb r x) refl yss
  where
    go : (b : Bool) → eqb r x ≡ b → (zss : List (List ℕ)) → times (same_list (r ∷ rs)) (map (λ ys. x ∷ ys) zss) ≡ bit (eqb r x) * times (same_list rs) zss
    go true e [] = rw e refl
    go true e (zs ∷ zss) =
        let ih : times (same_list (r ∷ rs)) (map (λ ys. x ∷ ys) zss) ≡ bit (eqb r x) * times (same_list rs) zss = go true e zss in
        let ih' : times (same_list (r ∷ rs)) (map (λ ys. x ∷ ys) zss) ≡ 1 * times (same_list rs) zss = ih ∙ ap (λ b. bit b * times (same_list rs) zss) e in
        ap₂ (λ b n. bit (b && same_list rs zs) + n) e ih'
        ∙ (let k : bit (same_list rs zs) + 1 * times (same_list rs) zss ≡ 1 * (bit (same_list rs zs) + times (same_list rs) zss) = omega arith in k)
        ∙ ap (λ b. bit b * (bit (same_list rs zs) + times (same_list rs) zss)) (sym e)
    go false e [] = rw e refl
    go false e (zs ∷ zss) =
        let ih : times (same_list (r ∷ rs)) (map (λ ys. x ∷ ys) zss) ≡ bit (eqb r x) * times (same_list rs) zss = go false e zss in
        let ih' : times (same_list (r ∷ rs)) (map (λ ys. x ∷ ys) zss) ≡ 0 * times (same_list rs) zss = ih ∙ ap (λ b. bit b * times (same_list rs) zss) e in
        ap₂ (λ b n. bit (b && same_list rs zs) + n) e ih'
        ∙ (let k : 0 + 0 * times (same_list rs) zss ≡ 0 * (bit (same_list rs zs) + times (same_list rs) zss) = omega arith in k)
        ∙ ap (λ b. bit b * (bit (same_list rs zs) + times (same_list rs) zss)) (sym e)

each_times : (r : ℕ) (rs : List ℕ) (xs : List ℕ) (yss : List (List ℕ)) → times (same_list (r ∷ rs)) (each_with xs yss) ≡ times (eqb r) xs * times (same_list rs) yss
each_times r rs [] yss = sym (zero-mul (times (same_list rs) yss))
each_times r rs (x ∷ xs) yss =
    times-append (same_list (r ∷ rs)) (map (λ ys. x ∷ ys) yss) (each_with xs yss)
    ∙ ap₂ ◌+◌ (front_times r rs x yss) (each_times r rs xs yss)
    ∙ sym (add-mul (bit (eqb r x)) (times (eqb r) xs) (times (same_list rs) yss))

-- row numbers of the first n tables, and 0 for the others
record Fit {A : Type 0} (n : ℕ) (s : List (List A)) (c : List ℕ) : Type 0 where
  long : length c ≡ length s
  kept : (t : ℕ) → t < n → t < length s → (1 ≤ get_or c t 0) × (get_or c t 0 ≤ length (get_or s t []))
  rest : (t : ℕ) → n ≤ t → get_or c t 0 ≡ 0

once : {A : Type 0} (n : ℕ) (s : List (List A)) (c : List ℕ) → Fit n s c → times (same_list c) (product (row_numbers n s)) ≡ 1
once zero [] [] f = refl
once (suc n) [] [] f = refl
once zero [] (r ∷ rs) f = absurd (let l = f.long in let z : ⊥ = omega arith in z)
once (suc n) [] (r ∷ rs) f = absurd (let l = f.long in let z : ⊥ = omega arith in z)
once zero (xs ∷ xss) [] f = absurd (let l = f.long in let z : ⊥ = omega arith in z)
once (suc n) (xs ∷ xss) [] f = absurd (let l = f.long in let z : ⊥ = omega arith in z)
once zero (xs ∷ xss) (r ∷ rs) f =
    let l = f.long in
    let ih = once zero xss rs (record { long = omega arith; kept = λ t a b. absurd (not-suc-le-zero a); rest = λ t a. f.rest (suc t) (omega arith) }) in
    let h : times (eqb r) (0 ∷ []) ≡ 1 = ap (λ b. bit b + 0) (eq-eqb r 0 (f.rest 0 (omega arith))) in
    each_times r rs (0 ∷ []) (product (row_numbers zero xss)) ∙ ap₂ ◌*◌ h ih
once (suc n) (xs ∷ xss) (r ∷ rs) f =
    let l = f.long in
    let ih = once n xss rs (record { long = omega arith; kept = λ t a b. f.kept (suc t) (omega arith) (omega arith); rest = λ t a. f.rest (suc t) (omega arith) }) in
    let k = f.kept 0 (omega arith) (omega arith) in
    let h = counted_once 1 (length xs) r k.0 (omega (arith, k.1)) in
    each_times r rs (numbers_from 1 (length xs)) (product (row_numbers n xss)) ∙ ap₂ ◌*◌ h ih

-- all of the product is such
all_each : {A : Type 0} (P : A → Type 0) (Q R : List A → Type 0) → ((x : A) (xs : List A) → P x → Q xs → R (x ∷ xs))
    → (xs : List A) (yss : List (List A)) → AllByRecursion P xs → AllByRecursion Q yss → AllByRecursion R (each_with xs yss)
all_each P Q R f [] yss a b = tt
all_each {A} P Q R f (x ∷ xs) yss a b =
    All-append R (map (λ ys. x ∷ ys) yss) (each_with xs yss)
    (All-map R (λ ys. x ∷ ys) yss (All-weaker Q (λ ys. R (x ∷ ys)) (λ ys q. f x ys a.0 q) yss b))
    (all_each P Q R f xs yss a.1 b)

all_numbers : (k n : ℕ) → AllByRecursion (λ r. (k ≤ r) × (r < k + n)) (numbers_from k n)
all_numbers k zero = tt
all_numbers k (suc n) =
    ((omega arith, omega arith), All-weaker (λ r. (suc k ≤ r) × (r < suc k + n)) (λ r. (k ≤ r) × (r < k + suc n)) (λ r h. let a = h.0 in let b = h.1 in (omega arith, omega arith)) (numbers_from (suc k) n) (all_numbers (suc k) n))

at_zero_or : (P : ℕ → Type 0) → P 0 → ((t : ℕ) → P (suc t)) → (t : ℕ) → P t
at_zero_or P z s zero = z
at_zero_or P z s (suc t) = s t

all_fit : {A : Type 0} (n : ℕ) (s : List (List A)) → AllByRecursion (Fit n s) (product (row_numbers n s))
all_fit zero [] = (record { long = refl; kept = λ t a b. absurd (not-suc-le-zero b); rest = λ t a. refl }, tt)
all_fit (suc n) [] = (record { long = refl; kept = λ t a b. absurd (not-suc-le-zero b); rest = λ t a. refl }, tt)
all_fit zero (xs ∷ xss) =
    all_each (λ r. r ≡ 0) (Fit zero xss) (Fit zero (xs ∷ xss))
    (λ r rs e f. record {
      long = ap suc f.long;
      kept = λ t a b. absurd (not-suc-le-zero a);
      rest = at_zero_or (λ t. 0 ≤ t → get_or (r ∷ rs) t 0 ≡ 0) (λ a. e) (λ t a. f.rest t (omega arith));
    })
    (0 ∷ []) (product (row_numbers zero xss)) (refl, tt) (all_fit zero xss)
all_fit (suc n) (xs ∷ xss) =
    all_each (λ r. (1 ≤ r) × (r < 1 + length xs)) (Fit n xss) (Fit (suc n) (xs ∷ xss))
    (λ r rs e f. record {
      long = ap suc f.long;
      kept = at_zero_or (λ t. t < suc n → t < suc (length xss) → (1 ≤ get_or (r ∷ rs) t 0) × (get_or (r ∷ rs) t 0 ≤ length (get_or (xs ∷ xss) t [])))
          (λ a b. (e.0, omega (arith, e.1))) (λ t a b. f.kept t (omega arith) (omega arith));
      rest = at_zero_or (λ t. suc n ≤ t → get_or (r ∷ rs) t 0 ≡ 0) (λ a. absurd (not-suc-le-zero a)) (λ t a. f.rest t (omega arith));
    })
    (numbers_from 1 (length xs)) (product (row_numbers n xss)) (all_numbers 1 (length xs)) (all_fit n xss)

-- the rows picked read as the row numbers do
none_at : (r : ℕ) → nth {A = List Cell} [] r [] ≡ []
none_at zero = refl
none_at (suc r) = refl

picked_at : (n : ℕ) (s : Relations) (c : List ℕ) → length c ≡ length s → ((t : ℕ) → n ≤ t → get_or c t 0 ≡ 0) → (t : ℕ) → get_or (picked n s c) t [] ≡ nth (get_or s t []) (get_or c t 0) []
picked_at zero s c l r t = sym (ap (λ m. nth (get_or s t []) m []) (r t (omega arith)))
picked_at (suc n) [] c l r t = sym (none_at (get_or c t 0))
picked_at (suc n) (xs ∷ xss) [] l r t = absurd (let z : ⊥ = omega arith in z)
picked_at (suc n) (xs ∷ xss) (k ∷ ks) l r zero = refl
picked_at (suc n) (xs ∷ xss) (k ∷ ks) l r (suc t) = picked_at n xss ks (omega arith) (λ u a. r (suc u) (omega arith)) t

picked_reads : (q : Query) (n : ℕ) (s : Relations) (c : List ℕ) → Fit n s c → reading q (picked n s c) ≡ rows_read q s c
picked_reads q n s c f =
    fun_ext (λ t. fun_ext (λ k. ap (λ (row : List Cell). row_read (get_or q.headings t []) row k) (picked_at n s c f.long f.rest t)))

-- selection and projection see the reading alone
module _ {A B C : Type 0} (g : A → B) (F : B → C) (G : B → Bool) (F' : A → C) (G' : A → Bool) where
  carry : (xs : List A) → AllByRecursion (λ x. (F (g x) ≡ F' x) × (G (g x) ≡ G' x)) xs → map F (filter G (map g xs)) ≡ map F' (filter G' xs)
  carry [] a = refl
  carry (x ∷ xs) a = go (G' x) refl (carry xs a.1)
    where
      go : (b : Bool) → G' x ≡ b → map F (filter G (map g xs)) ≡ map F' (filter G' xs) → map F (filter G (map g (x ∷ xs))) ≡ map F' (filter G' (x ∷ xs))
      go true e ih = rw (a.0.1 ∙ e, e) (ap₂ {C = List C} (λ y ys. y ∷ ys) a.0.0 ih)
      go false e ih = rw (a.0.1 ∙ e, e) ih

abbrev line_at : Query → Relations → List ℕ → List ℕ
line_at q s c = line q (rows_read q s c)

abbrev meets_at : Query → Relations → List ℕ → Bool
meets_at q s c = meets q (rows_read q s c)

algebra_numbers : (q : Query) (s : Relations) → tables q ≤ length s → select_project_join q s ≡ map (line_at q s) (filter (meets_at q s) (product (row_numbers (tables q) s)))
algebra_numbers q s l =
    ap (λ (z : List (List (List Cell))). map (λ rows. line q (reading q rows)) (filter (λ rows. meets q (reading q rows)) z)) (product_picked (tables q) s l)
    ∙ carry (picked (tables q) s) (λ rows. line q (reading q rows)) (λ rows. meets q (reading q rows)) (line_at q s) (meets_at q s) (product (row_numbers (tables q) s))
    (All-weaker (Fit (tables q) s) (λ c. (line q (reading q (picked (tables q) s c)) ≡ line_at q s c) × (meets q (reading q (picked (tables q) s c)) ≡ meets_at q s c))
    (λ c f. (ap (line q) (picked_reads q (tables q) s c f), ap (meets q) (picked_reads q (tables q) s c f))) (product (row_numbers (tables q) s)) (all_fit (tables q) s))

-- the postings' lines
lines_at : (q : Query) (s : Relations) (ps : List Posting) → AllByRecursion (RightPosting q s) ps → map (line_at q s) (map (λ p. p.rows) ps) ≡ map (λ p. p.bytes) ps
lines_at q s [] a = refl
lines_at q s (p ∷ ps) a = ap₂ {C = List (List ℕ)} (λ y ys. y ∷ ys) (sym a.0.bytes) (lines_at q s ps a.1)

times-map : (c : List ℕ) (ps : List Posting) → times (same_list c) (map (λ p. p.rows) ps) ≡ times (λ p. same_list c p.rows) ps
times-map c [] = refl
times-map c (p ∷ ps) = ap (λ n. bit (same_list c p.rows) + n) (times-map c ps)

module _ (q : Query) (lawful : Checked q) (j : Journal) (a : ExactlyOnce q j) (six : length j.rows ≡ 6) (none : NothingWaits j) where
  abbrev N : List (List ℕ)
  N = product (row_numbers (tables q) j.rows)

  fit_comb : (c : List ℕ) → Fit (tables q) j.rows c → Combination q j.rows c
  fit_comb c f =
      let s = lawful.six in
      record { six = f.long ∙ six; kept = λ t l. f.kept t l (omega arith); rest = f.rest }

  comb_fit : (c : List ℕ) → Combination q j.rows c → Fit (tables q) j.rows c
  comb_fit c k = record { long = k.six ∙ sym six; kept = λ t l m. k.kept t l; rest = k.rest }

  equally_often : (c : List ℕ) → times (same_list c) (filter (meets_at q j.rows) N) ≡ posted_times j c
  equally_often c =
      ⊎_elim
      (λ m.
      let k = times-kept (meets_at q j.rows) c N ∙ cond-true (meets_at q j.rows c) (times (same_list c) N) 0 m in
      ⊎_elim
      (λ e.
      ⊎_elim (λ z. k ∙ z ∙ sym e)
      (λ nz.
      let o = settled q j a none c (fit_comb c (standing (Fit (tables q) j.rows) c N (all_fit (tables q) j.rows) nz), m) in
      absurd (let y : ⊥ = omega arith in y))
      (cases_eq (times (same_list c) N) 0))
      (λ ne.
      let l = posted_line q j a c ne in
      k ∙ once (tables q) j.rows c (comb_fit c l.0) ∙ sym (settled q j a none c l))
      (cases_eq (posted_times j c) 0))
      (λ m.
      let k = times-kept (meets_at q j.rows) c N ∙ cond-false (meets_at q j.rows c) (times (same_list c) N) 0 m in
      ⊎_elim (λ e. k ∙ sym e) (λ ne. clash (meets_at q j.rows c) (posted_line q j a c ne).1 m) (cases_eq (posted_times j c) 0))
      (cases_Bool (meets_at q j.rows c))

  shuffled_lines : IsPermutation (select_project_join q j.rows) (map (λ p. p.bytes) j.postings)
  shuffled_lines =
      subst (λ (z : List (List ℕ)). IsPermutation z (map (λ p. p.bytes) j.postings)) (sym (algebra_numbers q j.rows (let s = lawful.six in omega arith)))
      (subst (IsPermutation (map (line_at q j.rows) (filter (meets_at q j.rows) N))) (lines_at q j.rows j.postings a.right)
      (shuffled_by_times (line_at q j.rows) (filter (meets_at q j.rows) N) (map (λ p. p.rows) j.postings)
      (λ c. equally_often c ∙ sym (times-map c j.postings))))

-- (d)
pub lines_are_select_project_join : (q : Query) → Checked q → LinesAreSelectProjectJoin q
lines_are_select_project_join q lawful h none =
    let k = history_kept q lawful h in
    shuffled_lines q lawful (journal q h) (posted_once_or_owed_once q lawful h) (six_rows (journal q h).rows (journal q h).world.store k.same_rows k.six) none
  where
    six_rows : (rows : Relations) (ts : List Table) → rows ≡ relations_of ts → length ts ≡ 6 → length rows ≡ 6
    six_rows rows ts e f = ap length e ∙ length-map ts (λ x. map (λ b. b.cells) x.rows) ∙ f
