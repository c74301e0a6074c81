-- A new row, filed in the column of one cell after the other.
use Rattle.std.proofs.Common.{◌≡◌, ℕ, ◌+◌, ◌-◌, ◌<◌, ◌≤◌, true, List, [], ◌∷◌, ◌++◌, length, get_or, take, min, Some, replicate, sym, refl, ap, ◌∙◌, subst, ⊎_elim, arith}
use Rattle.std.proofs.lemmas.List.{map-append, length_push, get_or_append_left, get_or_push, get_or_past, get_or-replicate}
use Rattle.std.proofs.lemmas.Bool.{cases_eq, cases_lt, eq-eqb}
use Rattle.std.proofs.lemmas.Grind.{common_steps}
use Rattle.basis.specs.Lists.{numbered}
use Rattle.basis.proofs.Counted.{numbered_past}
use Rattle.cells.specs.declared.types.Cell.{Cell}
use Rattle.stores.specs.Tables.{Built}
use Rattle.hash_store.specs.declared.place.Ends.{Ends}
use Rattle.hash_store.specs.declared.place.Place.{Place}
use Rattle.hash_store.specs.Buckets.{cell_bucket, is_filed, in_bucket}
use Rattle.hash_store.specs.Chains.{no_place, row_in, rows_in, IsColumn, Chained, AllChained}
use Rattle.hash_store.specs.Rows.{length_rows}
use Rattle.hash_store.specs.Placing.{chained_same, chained_none}

-- the columns up to c have the row, the others not yet; ps₀ are the places before the first
module _ (ps₀ : List Place) (cells : List Cell) where
  pub record PartFiled (ps : List Place) (ends : List Ends) (c : ℕ) : Type 0 where
    pub rows : rows_in ps ≡ rows_in ps₀
    pub done : (r : Built) → r.cells ≡ cells → (d : ℕ) → IsColumn d → d ≤ c → Chained (rows_in ps₀ ++ r ∷ []) ps ends d
    pub left : (d : ℕ) → IsColumn d → c < d → Chained (rows_in ps₀) ps ends d

  -- one column more
  pub filed_more : (ps qs : List Place) (ends ends' : List Ends) (c : ℕ) (x : Cell) → numbered cells (c + 1) ≡ Some x
      → PartFiled ps ends c → rows_in qs ≡ rows_in ps
      → ((r : Built) → in_bucket (c + 1) (cell_bucket x) r ≡ true → Chained (rows_in ps ++ r ∷ []) qs ends' (c + 1))
      → ((rows : List Built) (d : ℕ) → IsColumn d → (d ≡ c + 1 → ⊥) → Chained rows ps ends d → Chained rows qs ends' d)
      → PartFiled qs ends' (c + 1)
  filed_more ps qs ends ends' c x cell f rows here others = record {
    rows = rows ∙ f.rows;
    done = λ r is d in_range le. ⊎_elim
        (λ (e : d ≡ c + 1). subst (λ k. Chained (rows_in ps₀ ++ r ∷ []) qs ends' k) (sym e)
        (subst (λ (rs : List Built). Chained (rs ++ r ∷ []) qs ends' (c + 1)) f.rows (here r (ap (λ o. is_filed o (cell_bucket x)) (ap (λ cs. numbered cs (c + 1)) is ∙ cell) ∙ eq-eqb (cell_bucket x) (cell_bucket x) refl))))
        (λ ne. others (rows_in ps₀ ++ r ∷ []) d in_range ne (f.done r is d in_range (omega arith)))
        (cases_eq d (c + 1));
    left = λ d in_range lt. others (rows_in ps₀) d in_range (λ e. omega arith) (f.left d in_range (omega arith));
  }

  -- the columns behind the last cell have no more rows than before
  pub filed_all : (ps : List Place) (ends : List Ends) (c : ℕ) → length cells ≤ c → PartFiled ps ends c → (r : Built) → r.cells ≡ cells → AllChained (rows_in ps₀ ++ r ∷ []) ps ends
  filed_all ps ends c end f r is d in_range =
      ⊎_elim
      (λ (lt : c < d). chained_none (rows_in ps₀) ps ends d r (sym f.rows) in_range.0 in_range.1 (f.left d in_range lt)
      (λ b. ap (λ o. is_filed o b) (ap (λ cs. numbered cs d) is ∙ numbered_past cells d (omega arith))))
      (λ le. f.done r is d in_range le)
      (cases_lt c d)

-- the place of the new row, of which no link is set, taken behind the others
pub placed : (rows : List Built) (ps : List Place) (ends : List Ends) (p : Place) → length rows ≡ length ps + 1 → p.links ≡ replicate 6 0 → AllChained rows ps ends → AllChained rows (ps ++ p ∷ []) ends
placed rows ps ends p long zeros h d is =
    chained_same rows ps (ps ++ p ∷ []) ends ends d (λ b small. refl)
    (λ i lt. ⊎_elim
    (λ (old : i < length ps). ap (λ (q : Place). get_or q.links (d - 1) 0) (get_or_append_left ps (p ∷ []) no_place i old))
    (λ ge. let e : length ps ≡ i = omega arith in
    let low = is.0 in
    let high = is.1 in
    ap (λ (q : Place). get_or q.links (d - 1) 0) (get_or_push ps p no_place i e) ∙ ap (λ ls. get_or ls (d - 1) 0) zeros ∙ get_or-replicate 6 (d - 1) 0 0 (omega arith)
    ∙ sym (ap (λ (q : Place). get_or q.links (d - 1) 0) (get_or_past ps i no_place ge)))
    (cases_lt i (length ps)))
    (h d is)

-- the table with the new row
pub all_more : (ps qs then : List Place) (ends : List Ends) (p : Place) → rows_in qs ≡ rows_in ps → then ≡ qs ++ p ∷ [] → p.links ≡ replicate 6 0 → AllChained (rows_in ps ++ row_in p ∷ []) qs ends
    → (rows_in then ≡ rows_in ps ++ row_in p ∷ []) × AllChained (rows_in then) then ends
all_more ps qs then ends p rows items zeros h =
    let more : rows_in (qs ++ p ∷ []) ≡ rows_in ps ++ row_in p ∷ [] = map-append row_in qs (p ∷ []) ∙ ap (λ rs. rs ++ row_in p ∷ []) rows in
    let long : length (rows_in ps ++ row_in p ∷ []) ≡ length qs + 1 = length_push (rows_in ps) (row_in p) ∙ ap (λ n. n + 1) (sym (ap length rows) ∙ length_rows qs) in (
      ap rows_in items ∙ more,
      subst (λ (l : List Place). AllChained (rows_in l) l ends) (sym items)
          (subst (λ (rs : List Built). AllChained rs (qs ++ p ∷ []) ends) (sym more) (placed (rows_in ps ++ row_in p ∷ []) qs ends p long zeros h)),
    )
