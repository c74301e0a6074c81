-- A complete tuple: its rows are a combination that meets the query, and the only one that it owes.
use Rattle.std.proofs.Common.{◌≡◌, ℕ, ◌<◌, Bool, true, false, ◌&&◌, eqb, ltb, List, [], ◌∷◌, get_or, sym, refl, ap, ◌∙◌, subst, ⊎_elim, arith, ext_get_or}
use Rattle.std.specs.List.{AllByRecursion}
use Rattle.std.proofs.lemmas.Bool.{and_parts, and_from, cases_lt, cond-true, eq-eqb}
use Rattle.basis.specs.Lists.{all, upto}
use Rattle.query.specs.Queries.{Query}
use Rattle.stores.specs.Tables.{Table}
use Rattle.algebra.specs.Meets.{join_holds, holds}
use Rattle.rules.specs.Lists.{same_list}
use Rattle.rules.specs.Moves.{tables, filters, spans, is_idle, complete}
use Rattle.rules.specs.Reads.{relations_of, rows_read, stamp_of_row}
use Rattle.rules.specs.declared.types.Tuple.{Tuple}
use Rattle.law.proofs.Owing.{spans_row, spans_none, owes_along}
use Rattle.law.proofs.Sound.{Tied, Sound}
use Rattle.law.specs.Law.{Combination, Meets, beyond, agrees, owes}
use Rattle.rules.proofs.Checked.{Apart, Checked}
use Rattle.rules.proofs.Filters.{filter_from}
use Rattle.rules.proofs.Grows.{count-relations}
use Rattle.rules.proofs.Times.{same_list_true, same_list_refl}
use Rattle.rules.proofs.Uptos.{bool_ext, upto_all, upto_from, never_true}

all_joins : {A : Type 0} (p : A → Bool) (P Q : A → Type 0) (xs : List A) → ((x : A) → P x → Q x → p x ≡ true) → AllByRecursion P xs → AllByRecursion Q xs → all p xs ≡ true
all_joins p P Q [] f a b = refl
all_joins p P Q (x ∷ xs) f a b = and_from (p x) (all p xs) (f x a.0 b.0) (all_joins p P Q xs f a.1 b.1)

module _ (q : Query) (lawful : Checked q) (ts : List Table) (next : ℕ) (x : Tuple) (d : Sound q ts next x) (full : complete q x ≡ true) where
  spans_all : (t : ℕ) → t < tables q → spans x.rows t ≡ true
  spans_all t l =
      upto_all (tables q) (spans x.rows)
      (and_parts (upto (tables q) (spans x.rows)) (upto (filters q) (λ i. get_or x.done i false))
      (and_parts (is_idle x.state) (upto (tables q) (spans x.rows) && upto (filters q) (λ i. get_or x.done i false)) full).1).0 t l

  all_done : (i : ℕ) → i < filters q → get_or x.done i false ≡ true
  all_done i l =
      upto_all (filters q) (λ i. get_or x.done i false)
      (and_parts (upto (tables q) (spans x.rows)) (upto (filters q) (λ i. get_or x.done i false))
      (and_parts (is_idle x.state) (upto (tables q) (spans x.rows) && upto (filters q) (λ i. get_or x.done i false)) full).1).1 i l

  pub paid_comb : Combination q (relations_of ts) x.rows
  paid_comb =
      record {
        six = d.shape.width;
        rest = λ t g. spans_none x.rows t (never_true (spans x.rows t) (λ h. let l = d.shape.inside t h in let y : ⊥ = omega arith in y));
        kept = λ t l. (spans_row x.rows t (spans_all t l), let a = d.kept t in let b = count-relations ts t in omega arith);
      }

  pub paid_meets : Meets q (relations_of ts) x.rows
  paid_meets =
      and_from (all (join_holds (rows_read q (relations_of ts) x.rows)) q.joins) (all (holds (rows_read q (relations_of ts) x.rows)) q.filters)
      (all_joins (join_holds (rows_read q (relations_of ts) x.rows)) (Apart q) (Tied q (relations_of ts) x.rows) q.joins
      (λ j a t. t (spans_all j.left.table a.1) (spans_all j.right.table a.2)) lawful.apart d.tied)
      (filter_from (holds (rows_read q (relations_of ts) x.rows)) q.filters (λ i l. (d.passed i l (all_done i l)).1))

  pub paid_owes : (c : List ℕ) → Combination q (relations_of ts) c → same_list c x.rows ≡ owes q ts c x
  unfolding owes
  paid_owes c k =
      bool_ext (same_list c x.rows) (owes q ts c x)
      (λ h.
      upto_from (tables q) (λ t. agrees ts x t (get_or c t 0))
      (λ t l.
      cond-true (spans x.rows t) (eqb (get_or c t 0) (get_or x.rows t 0)) (ltb (stamp_of_row ts t (get_or c t 0)) x.driver && beyond x.state t (get_or c t 0)) (spans_all t l)
      ∙ eq-eqb (get_or c t 0) (get_or x.rows t 0) (ap (λ (z : List ℕ). get_or z t 0) (same_list_true c x.rows h))))
      (λ h.
      let e : c ≡ x.rows =
      ext_get_or 0 c x.rows (k.six ∙ sym d.shape.width)
      (λ i l.
      ⊎_elim (λ low. owes_along q ts c x d.shape.inside h i (spans_all i low)) (λ g. k.rest i g ∙ sym (paid_comb.rest i g)) (cases_lt i (tables q))) in
      subst (λ (z : List ℕ). same_list c z ≡ true) e (same_list_refl c))
