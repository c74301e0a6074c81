-- A build: the other tables, the rows of the table itself, and the answers of next.
use Rattle.std.proofs.Common.{◌≡◌, ℕ, zero, suc, ◌+◌, ◌<◌, ◌≤◌, Bool, true, false, cond, ltb, ◌⊎◌, List, [], ◌∷◌, ◌++◌, length, set, Some, sym, refl, ap, ◌∙◌, subst, inl, inr, ⊎_elim, add-one, arith}
use Rattle.std.proofs.lemmas.List.{get_or-set_same, get_or-set_other, get_or_past, length_push}
use Rattle.std.proofs.lemmas.Bool.{cases_lt, cases_eq, both_ways}
use Rattle.std.specs.List.{slice_get}
use Rattle.basis.specs.Lists.{numbered}
use Rattle.cells.specs.declared.types.Cell.{Cell}
use Rattle.cells.specs.declared.rows.Row.{Row}
use Rattle.stores.specs.Tables.{Table, no_table, table_at, count_at, row_at, has_room, built_row, grown, built, matches, next_after, next_row}
use Rattle.stores.proofs.Next.{next_append}

-- elements at the end of a list leave the numbers of the others
pub numbered-append : {X : Type 0} (xs ys : List X) (n : ℕ) → n ≤ length xs → numbered (xs ++ ys) n ≡ numbered xs n
numbered-append xs ys zero le = refl
numbered-append [] ys (suc i) le = absurd (omega arith)
numbered-append (x ∷ xs) ys (suc zero) le = refl
numbered-append (x ∷ xs) ys (suc (suc i)) le = numbered-append xs ys (suc i) (omega arith)

pub numbered_push : {X : Type 0} (xs : List X) (y : X) → numbered (xs ++ y ∷ []) (length xs + 1) ≡ Some y
numbered_push xs y = rw add-one (last xs)
  where
    last : {X : Type 0} {y : X} (xs : List X) → slice_get (xs ++ y ∷ []) (length xs) ≡ Some y
    last [] = refl
    last (x ∷ xs) = last xs

module _ (ts : List Table) (t : ℕ) (row : Row) (stamp : ℕ) where
  -- what has room is one of the tables
  pub room_within : has_room ts t ≡ true → t < length ts
  room_within h =
      ⊎_elim
      (λ lt. lt)
      (λ (ge : length ts ≤ t). absurd (both_ways (has_room ts t) (ap (λ (x : Table). ltb (length x.rows) x.room) (get_or_past ts t no_table ge)) h))
      (cases_lt t (length ts))

  -- the other tables are left as they are
  pub built_other : (u : ℕ) → (u ≡ t → ⊥) → table_at (built ts t row stamp) u ≡ table_at ts u
  built_other u ne = go (has_room ts t)
    where
      go : (b : Bool) → table_at (cond b (set ts t (grown (table_at ts t) (built_row row stamp))) ts) u ≡ table_at ts u
      go true = get_or-set_other ts t u (grown (table_at ts t) (built_row row stamp)) no_table ne
      go false = refl

  -- the table itself, where it has room and where it has none
  pub built_here : has_room ts t ≡ true → table_at (built ts t row stamp) t ≡ grown (table_at ts t) (built_row row stamp)
  built_here h =
      ap (λ b. table_at (cond b (set ts t (grown (table_at ts t) (built_row row stamp))) ts) t) h
      ∙ get_or-set_same ts t (grown (table_at ts t) (built_row row stamp)) no_table (room_within h)

  pub built_full : has_room ts t ≡ false → built ts t row stamp ≡ ts
  built_full h = ap (λ b. cond b (set ts t (grown (table_at ts t) (built_row row stamp))) ts) h

  -- a table after a build is as it was, or it is the one built in, with one row more
  pub built_cases : (u : ℕ) → (table_at (built ts t row stamp) u ≡ table_at ts u) ⊎ ((u ≡ t) × (table_at (built ts t row stamp) u ≡ grown (table_at ts u) (built_row row stamp)))
  built_cases u =
      ⊎_elim
      (λ (same : u ≡ t). go (has_room ts t) refl same)
      (λ ne. inl (built_other u ne))
      (cases_eq u t)
    where
      go : (b : Bool) → has_room ts t ≡ b → u ≡ t → (table_at (built ts t row stamp) u ≡ table_at ts u) ⊎ ((u ≡ t) × (table_at (built ts t row stamp) u ≡ grown (table_at ts u) (built_row row stamp)))
      go true h same =
          inr (same, subst (λ (v : ℕ). table_at (built ts t row stamp) v ≡ grown (table_at ts v) (built_row row stamp)) (sym same) (built_here h))
      go false h same = inl (ap (λ (xs : List Table). table_at xs u) (built_full h))

  pub built_room : (u : ℕ) → (table_at (built ts t row stamp) u).room ≡ (table_at ts u).room
  built_room u =
      ⊎_elim
      (λ same. ap (λ (x : Table). x.room) same)
      (λ (more : (u ≡ t) × (table_at (built ts t row stamp) u ≡ grown (table_at ts u) (built_row row stamp))). ap (λ (x : Table). x.room) more.1)
      (built_cases u)

  pub built_old : (u n : ℕ) → n ≤ count_at ts u → row_at (built ts t row stamp) u n ≡ row_at ts u n
  built_old u n le =
      ⊎_elim
      (λ same. ap (λ (x : Table). numbered x.rows n) same)
      (λ (more : (u ≡ t) × (table_at (built ts t row stamp) u ≡ grown (table_at ts u) (built_row row stamp))).
      ap (λ (x : Table). numbered x.rows n) more.1 ∙ numbered-append (table_at ts u).rows (built_row row stamp ∷ []) n le)
      (built_cases u)

  pub built-count : has_room ts t ≡ true → count_at (built ts t row stamp) t ≡ count_at ts t + 1
  built-count h = ap (λ (x : Table). length x.rows) (built_here h) ∙ length_push (table_at ts t).rows (built_row row stamp)

  pub built_last : has_room ts t ≡ true → row_at (built ts t row stamp) t (count_at ts t + 1) ≡ Some (built_row row stamp)
  built_last h =
      ap (λ (x : Table). numbered x.rows (count_at ts t + 1)) (built_here h) ∙ numbered_push (table_at ts t).rows (built_row row stamp)

  -- an answer of another table stays
  pub next_other : (u column : ℕ) (key : Cell) (after : ℕ) → (u ≡ t → ⊥) → next_row (built ts t row stamp) u column key after ≡ next_row ts u column key after
  next_other u column key after ne = ap (λ (x : Table). next_after (matches column key) after x.rows) (built_other u ne)

  -- what was found stays found
  pub next_built : (u column : ℕ) (key : Cell) (after n : ℕ) → next_row ts u column key after ≡ Some n → next_row (built ts t row stamp) u column key after ≡ Some n
  next_built u column key after n e =
      ⊎_elim
      (λ same. ap (λ (x : Table). next_after (matches column key) after x.rows) same ∙ e)
      (λ (more : (u ≡ t) × (table_at (built ts t row stamp) u ≡ grown (table_at ts u) (built_row row stamp))).
      ap (λ (x : Table). next_after (matches column key) after x.rows) more.1
      ∙ next_append (matches column key) after (table_at ts u).rows (built_row row stamp ∷ []) n e)
      (built_cases u)
