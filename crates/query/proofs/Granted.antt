-- What a granted call was answered: no question was met with no.
use Rattle.std.proofs.Common.{◌≡◌, ℕ, suc, ◌<◌, Bool, true, false, cond, ◌&&◌, List, length, is_some, refl, arith}
use Rattle.std.proofs.lemmas.Bool.{ltb-true}
use Rattle.basis.specs.Lists.{numbered}
use Rattle.basis.specs.Questions.{first_no}
use Rattle.cells.specs.declared.types.Kind.{Kind}
use Rattle.expressions.specs.declared.types.Column.{Column}
use Rattle.query.specs.Queries.{Query, column_kind, column_exists, same_kinds, both_exist, one_kind, two_tables}
use Rattle.query.specs.Questions.{table_questions, join_questions}
use Rattle.query.specs.declared.types.Join.{Join}

-- a first question that has a number, where no number came
yes_then : (b : Bool) (n k : ℕ) → 0 ≡ cond b n (suc k) → (b ≡ true) × (0 ≡ n)
yes_then true n k e = (refl, e)
yes_then false n k e = absurd (let z : ⊥ = omega arith in z)

pub record TableGranted (q : Query) (kinds : List Kind) (to : Column) (own : ℕ) : Type 0 where
  pub tables : length q.headings < 6
  pub exist : (column_exists q.headings to && is_some (numbered kinds own)) ≡ true
  pub alike : same_kinds (column_kind q.headings to) (numbered kinds own) ≡ true
  pub joins : length q.joins < 10

pub table_granted : (q : Query) (kinds : List Kind) (to : Column) (own : ℕ) → 0 ≡ first_no (table_questions q kinds to own) → TableGranted q kinds to own
table_granted q kinds to own e =
    let a = yes_then _ _ 9 e in
    let b = yes_then _ _ 10 a.1 in
    let c = yes_then _ _ 11 b.1 in
    let d = yes_then _ _ 12 c.1 in
    record { tables = ltb-true (length q.headings) 6 a.0; exist = b.0; alike = c.0; joins = ltb-true (length q.joins) 10 d.0 }

pub record JoinGranted (q : Query) (j : Join) : Type 0 where
  pub exist : both_exist q.headings j ≡ true
  pub apart : two_tables j ≡ true
  pub alike : one_kind q.headings j ≡ true
  pub joins : length q.joins < 10

pub join_granted : (q : Query) (j : Join) → 0 ≡ first_no (join_questions q j) → JoinGranted q j
join_granted q j e =
    let a = yes_then _ _ 10 e in
    let b = yes_then _ _ 13 a.1 in
    let c = yes_then _ _ 11 b.1 in
    let d = yes_then _ _ 12 c.1 in
    record { exist = a.0; apart = b.0; alike = c.0; joins = ltb-true (length q.joins) 10 d.0 }
