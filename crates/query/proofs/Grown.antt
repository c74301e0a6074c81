-- A lawful query stays lawful with a join or a table that was granted.
use Rattle.std.proofs.Common.{◌≡◌, ℕ, ◌+◌, ◌≤◌, true, List, [], ◌∷◌, ◌++◌, length, is_some, sym, subst, ◌&&◌, arith}
use Rattle.std.proofs.ByRecursion.{All-push}
use Rattle.std.proofs.lemmas.List.{length-append, length-take-le}
use Rattle.std.proofs.lemmas.Bool.{and_from, and_parts}
use Rattle.basis.specs.Lists.{numbered}
use Rattle.basis.specs.Questions.{first_no}
use Rattle.basis.proofs.Alls.{all_weaker}
use Rattle.cells.specs.Headings.{columns}
use Rattle.cells.specs.declared.headings.Heading.{Heading}
use Rattle.cells.specs.declared.types.Kind.{Kind}
use Rattle.expressions.specs.declared.types.Column.{Column}
use Rattle.query.specs.Lawful.{Lawful}
use Rattle.query.specs.Queries.{Query, both_exist, one_kind, two_tables, condition_fits, projection_fits, column_exists, all_linked}
use Rattle.query.specs.Questions.{join_questions, with_join, table_questions, with_table, own_join}
use Rattle.query.specs.declared.types.Join.{Join}
use Rattle.query.proofs.Granted.{join_granted, table_granted}
use Rattle.query.proofs.Kept.{join_joined, all_linked_more, new_fits, new_linked, table_joined}
use Rattle.query.proofs.Widened.{condition_more, projection_more}

pub lawful_join : (q : Query) (j : Join) → Lawful q → 0 ≡ first_no (join_questions q j) → Lawful (with_join q j)
lawful_join q j l e =
    let p = join_granted q j e in
    let hs = q.headings in
    let fits = and_from (both_exist hs j) (two_tables j && one_kind hs j) p.exist (and_from (two_tables j) (one_kind hs j) p.apart p.alike) in record {
      first = l.first;
      tables = l.tables;
      columns = l.columns;
      joins = omega (arith, p.joins, length-append q.joins (j ∷ []));
      filters = l.filters;
      shown = l.shown;
      joined = join_joined hs q.joins l.joined j fits;
      linked = all_linked_more q.joins j (length hs) l.linked;
      selected = l.selected;
      projected = l.projected;
    }

abbrev Wide : List Kind → Type 0
Wide kinds = (1 ≤ length kinds) × (length kinds ≤ 6)

-- a heading has 1 to 6 columns
pub column_count : (h : Heading) → Wide (columns h)
column_count h =
    let n : length (columns h) ≡ h.len = length-take-le h.len h.kinds (omega (arith, h.few, h.places)) in
    (omega (arith, h.some), omega (arith, h.few))

pub lawful_table : (q : Query) (ks : List Kind) (to : Column) (own : ℕ) → Wide ks → Lawful q → 0 ≡ first_no (table_questions q ks to own) → Lawful (with_table q ks to own)
lawful_table q ks to own w l e =
    let p = table_granted q ks to own e in
    let hs = q.headings in
    let js = q.joins in
    let exists : column_exists hs to ≡ true = (and_parts (column_exists hs to) (is_some (numbered ks own)) p.exist).0 in
    let long : length (hs ++ ks ∷ []) ≡ length hs + 1 = length-append hs (ks ∷ []) in record {
      first = omega (arith, long);
      tables = omega (arith, p.tables, long);
      columns = All-push Wide hs ks l.columns w;
      joins = omega (arith, p.joins, length-append js (own_join q to own ∷ []));
      filters = l.filters;
      shown = l.shown;
      joined = table_joined hs js l.joined ks (own_join q to own) (new_fits hs ks to own p.exist p.alike);
      linked = subst (λ n. all_linked n (js ++ own_join q to own ∷ []) ≡ true) (sym long) (new_linked hs ks to own js exists l.linked);
      selected = all_weaker (condition_fits hs) (condition_fits (hs ++ ks ∷ [])) (condition_more hs ks) q.filters l.selected;
      projected = all_weaker (projection_fits hs) (projection_fits (hs ++ ks ∷ [])) (projection_more hs ks) q.shown l.projected;
    }
