-- The cells of the rows that are kept are lawful and of their columns' kinds, and so are seen as they are.
use Rattle.std.proofs.Common.{◌≡◌, ℕ, zero, suc, ◌≤◌, Bool, true, false, ◌&&◌, eqb, List, [], ◌∷◌, length, is_some, Some, sym, refl, ap, subst, arith}
use Rattle.std.specs.List.{AllByRecursion}
use Rattle.std.proofs.lemmas.Bool.{and_parts, cond-true, both_ways, eqb-true}
use Rattle.std.proofs.ByRecursion.{All-weaker}
use Rattle.basis.specs.Lists.{numbered}
use Rattle.cells.specs.Cells.{fits, read_cell, blank}
use Rattle.cells.specs.declared.types.Kind.{Kind}
use Rattle.cells.specs.declared.types.Cell.{Cell}
use Rattle.query.specs.Queries.{Query}
use Rattle.query.specs.Rows.{all_fit}
use Rattle.query.specs.declared.types.Join.{Join}
use Rattle.stores.specs.Tables.{Table, count_at}
use Rattle.algebra.specs.Meets.{row_read}
use Rattle.rules.specs.Moves.{spans, links}
use Rattle.rules.specs.Reads.{relations_of, kept_cell, seen_cell}
use Rattle.rules.specs.declared.types.Link.{Link}
use Rattle.rules.proofs.Checked.{IsColumn, Columned, Checked}

-- every kept cell is the one that is seen
abbrev pub CellsFit : Query → List Table → Type 0
CellsFit q ts =
    (t n c : ℕ) → 1 ≤ n → n ≤ count_at ts t → IsColumn q t c
    → kept_cell (relations_of ts) t n c ≡ Some (seen_cell q (relations_of ts) t n c)

-- a link's own column is one of its table
own-columns : (q : Query) (rows : List ℕ) (t : ℕ) (js : List Join) → AllByRecursion (Columned q) js → AllByRecursion (λ l. IsColumn q t l.own) (links js rows t)
own-columns q rows t [] a = tt
own-columns q rows t (j ∷ js) a =
    go (eqb j.left.table t && spans rows j.right.table) refl (eqb j.right.table t && spans rows j.left.table) refl (own-columns q rows t js a.1)
  where
    go : (x : Bool) → (eqb j.left.table t && spans rows j.right.table) ≡ x → (y : Bool) → (eqb j.right.table t && spans rows j.left.table) ≡ y
        → AllByRecursion (λ l. IsColumn q t l.own) (links js rows t) → AllByRecursion (λ l. IsColumn q t l.own) (links (j ∷ js) rows t)
    go true e y f ih =
        rw e (subst (λ (u : ℕ). IsColumn q u j.left.column) (eqb-true j.left.table t (and_parts (eqb j.left.table t) (spans rows j.right.table) e).0) a.0.0, ih)
    go false e true f ih =
        rw (e, f) (subst (λ (u : ℕ). IsColumn q u j.right.column) (eqb-true j.right.table t (and_parts (eqb j.right.table t) (spans rows j.left.table) f).0) a.0.1, ih)
    go false e false f ih = rw (e, f) ih

abbrev pub SeenSo : Query → List Table → ℕ → ℕ → Link → Type 0
SeenSo q ts t n l = kept_cell (relations_of ts) t n l.own ≡ Some (seen_cell q (relations_of ts) t n l.own)

pub link_reads : (q : Query) → Checked q → (ts : List Table) → CellsFit q ts → (rows : List ℕ) (t n : ℕ) → 1 ≤ n → n ≤ count_at ts t
    → AllByRecursion (SeenSo q ts t n) (links q.joins rows t)
link_reads q lawful ts f rows t n a b =
    All-weaker (λ l. IsColumn q t l.own) (SeenSo q ts t n) (λ l d. f t n l.own a b d)
    (links q.joins rows t) (own-columns q rows t q.joins lawful.columns)

-- what feed asks of a row
fit_read : (k : Kind) (c : Cell) → fits k c ≡ true → Some c ≡ Some (read_cell (Some k) (Some c))
fit_read k c h = ap Some (sym (cond-true (fits k c) c (blank k) h))

none_exists : (c : ℕ) → is_some (numbered {A = Kind} [] c) ≡ true → ⊥
none_exists zero h = both_ways false refl h
none_exists (suc c) h = both_ways false refl h

pub fit_at : (ks : List Kind) (cs : List Cell) → length cs ≡ length ks → all_fit ks cs ≡ true → (c : ℕ) → is_some (numbered ks c) ≡ true → numbered cs c ≡ Some (row_read ks cs c)
fit_at [] cs e h c i = absurd (none_exists c i)
fit_at (k ∷ ks) [] e h c i = absurd (let z : ⊥ = omega arith in z)
fit_at (k ∷ ks) (x ∷ xs) e h zero i = absurd (both_ways false refl i)
fit_at (k ∷ ks) (x ∷ xs) e h (suc zero) i = fit_read k x (and_parts (fits k x) (all_fit ks xs) h).0
fit_at (k ∷ ks) (x ∷ xs) e h (suc (suc c)) i = fit_at ks xs (omega arith) (and_parts (fits k x) (all_fit ks xs) h).1 (suc c) i
