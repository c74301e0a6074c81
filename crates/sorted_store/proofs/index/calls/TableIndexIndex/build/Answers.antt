use Rattle.std.proofs.Common.{rules, ◌≡◌, ◌+◌, length, [], ◌∷◌, ◌++◌, vec_items, sym, ap, ◌∙◌, subst, arith}
use Rattle.std.proofs.lemmas.List.{map-append}
use Rattle.stores.specs.Tables.{built_row}
use Rattle.sorted_store.specs.Columns.{row_in, rows_in, AllCounted}
use Rattle.sorted_store.specs.Indexes.{table_of, Listed}
use Rattle.sorted_store.specs.Indexed.{rows_counted}
use Rattle.sorted_store.proofs.Growing.{counted_more, listed_more}
use Rattle.sorted_store.proofs.index.calls.TableIndexIndex.build.Goals as goal

pub invariant_of-self-2 : goal.invariant_of-self-2
invariant_of-self-2 c =
    let x = c.args.self.now in
    let rows : rows_in c.push_reserved.new.self.items ≡ (table_of x).rows ++ built_row c.args.row c.args.stamp ∷ [] =
    ap rows_in c.push_reserved.ensures.items ∙ map-append row_in (vec_items x.places) _ in
    let counted = rows_counted x in
    let next : c.len-2.result ≡ length (table_of x).rows + 1 = omega arith in
    record {
      within = search rules;
      counted = subst (λ rs. AllCounted rs c.add.new.self.filled) (sym rows)
          (counted_more (table_of x).rows c.args.row c.args.stamp c.len-2.result next x.columns c.add.new.self c.add.ensures.after c.add.ensures.filled x.counted);
      listed = subst (λ rs. Listed rs c.add.new.self) (sym rows)
          (listed_more (table_of x).rows c.args.row c.args.stamp c.len-2.result next x.columns c.add.new.self c.add.ensures.after c.add.ensures.filled x.listed);
    }
