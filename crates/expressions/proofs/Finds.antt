-- The steps of an evaluation: what items begin with, by the first and what is found behind it.
use Rattle.std.proofs.Common.{◌≡◌, ℕ, suc, ◌-◌, ◌*◌, ◌^◌, ◌<◌, ◌≤◌, max, true, ◌&&◌, List, ◌∷◌, length, ℤ, pos, negsuc, Some, None, Option, sym, refl, ap, ◌∙◌, subst, arith}
use Rattle.std.specs.Option.{option_map}
use Rattle.std.proofs.lemmas.Int.{ints}
use Rattle.std.proofs.lemmas.Bool.{and_from, leb-true, cond_both}
use Rattle.cells.specs.Cells.{lawful_number}
use Rattle.cells.specs.declared.types.Cell.{Cell}
use Rattle.cells.specs.declared.types.Cell.TheVariants as cell
use Rattle.expressions.specs.Evaluations.{Small, Found, FoundTwo}
use Rattle.expressions.specs.Expressions.{Expr, number, column, sum, difference, nested, lawful_numbers, joined_by, forest, worth}
use Rattle.expressions.specs.Readings.{Reading, number_in}
use Rattle.expressions.specs.declared.types.Column.{Column}
use Rattle.expressions.specs.declared.types.Item.{Item}
use Rattle.expressions.specs.declared.types.Item.TheVariants as item
use Rattle.expressions.proofs.Forests.{joined_two}

-- the first of the expressions read, and the others
first_read : (y x : Expr) (rest : List Expr) (o : Option (List Expr)) → option_map (λ ts. y ∷ ts) o ≡ Some (x ∷ rest) → (y ≡ x) × (o ≡ Some rest)
first_read y x rest None e = absurd (let z : ◌≡◌ {A = ℕ} 0 1 = cc in omega arith)
first_read y x rest (Some ts) e = (cc, let same : ts ≡ rest = cc in ap Some same)

-- An operator's item, and the expression that it makes of two.
pub record Operator (op : Item) (node : Expr → Expr → Expr) : Type 0 where
  pub reads : (l : List Item) → forest (op ∷ l) ≡ joined_by node (forest l)
  pub nests : (a b : Expr) → nested (node a b) ≡ suc (max (nested a) (nested b))
  pub keeps : (a b : Expr) → lawful_numbers (node a b) ≡ (lawful_numbers a && lawful_numbers b)

pub adds : Operator item.Add sum
adds = record { reads = λ l. refl; nests = λ a b. refl; keeps = λ a b. refl }

pub subtracts : Operator item.Sub difference
subtracts = record { reads = λ l. refl; nests = λ a b. refl; keeps = λ a b. refl }

lawful_small : (m : ℕ) (z : ℤ) → 0 < m → lawful_number z ≡ true → Small (m * 10 ^ 12) z
lawful_small m (pos n) some h =
    let k = leb-true n 999999999999 h in record { low = omega (arith, ints); high = omega (arith, ints) }
lawful_small m (negsuc n) some h =
    let k = leb-true (suc n) 999999999999 h in record { low = omega (arith, ints); high = omega (arith, ints) }

number_in_lawful : (c : Cell) → lawful_number (number_in c) ≡ true
number_in_lawful (cell.Number z) = cond_both (lawful_number z) z (pos 0) (λ n. lawful_number n ≡ true) (λ h. h) (λ h. refl)
number_in_lawful (cell.Code c) = refl

-- by the first item
module _ (items : List Item) (deep : ℕ) (next : List Item) where
  -- v is z, written to its bits and read back
  pub number-found : (e : Reading) (z : ℤ) → items ≡ item.Number z ∷ next → (v : ℤ) → v ≡ z → lawful_number v ≡ true → Found e items deep next v
  number-found e z i v same ok =
      record {
        tree = number z;
        within = record { deep = omega arith; lawful = ap lawful_number (sym same) ∙ ok };
        split = ap forest i;
        fewer = omega (arith, ap length i);
        value = same;
        small = lawful_small (length items - length next) v (omega (arith, ap length i)) ok;
      }

  pub column_found : (e : Reading) (c : Column) → items ≡ item.Column c ∷ next → (z : ℤ) → z ≡ number_in (e c.table c.column) → (v : ℤ) → v ≡ z → Found e items deep next v
  column_found e c i z seen v same =
      record {
        tree = column c;
        within = record { deep = omega arith; lawful = refl };
        split = ap forest i;
        fewer = omega (arith, ap length i);
        value = same ∙ seen;
        small = lawful_small (length items - length next) v (omega (arith, ap length i)) (ap lawful_number (same ∙ seen) ∙ number_in_lawful (e c.table c.column));
      }

  module _ {op : Item} {node : Expr → Expr → Expr} (o : Operator op node) (i : items ≡ op ∷ next) where
    there : forest items ≡ joined_by node (forest next)
    there = ap forest i ∙ o.reads next

    pub two_found : (e : Reading) (rest : List Item) (y z v : ℤ) (p : FoundTwo e next deep rest y z) → v ≡ worth e (node p.one.tree p.two.tree) → Small ((length items - length rest) * 10 ^ 12) v → Found e items deep rest v
    two_found e rest y z v p is small =
        let a = p.one in
        let b = p.two in
        record {
          tree = node a.tree b.tree;
          within = record {
            deep = subst (λ n. n ≤ deep) (sym (o.nests a.tree b.tree)) (omega (arith, p.some, a.within.deep, b.within.deep));
            lawful = o.keeps a.tree b.tree ∙ and_from _ _ a.within.lawful b.within.lawful;
          };
          split = there ∙ ap (joined_by node) (a.split ∙ ap (option_map (λ ts. a.tree ∷ ts)) b.split) ∙ joined_two node a.tree b.tree (forest rest);
          fewer = omega (arith, ap length i, a.fewer, b.fewer);
          value = is;
          small = small;
        }
