-- What an index's fields say of its rows.
use Rattle.std.specs.Prelude.{◌≡◌, ◌≤◌, length, vec_items, vec_len}
use Rattle.std.proofs.Common.{arith}
use Rattle.hash_store.specs.declared.index.TableIndex.{TableIndex}
use Rattle.hash_store.specs.Chains.{AllChained}
use Rattle.hash_store.specs.Indexes.{table_of}
use Rattle.hash_store.specs.Rows.{length_rows}
use Rattle.hash_store.specs.Chaining.{all_chained}

module _ (x : TableIndex) where
  pub rows_counted : length (table_of x).rows ≡ vec_len x.places
  rows_counted = let long : vec_len x.places ≡ length (vec_items x.places) = x.places.ok.0 in let same = length_rows (vec_items x.places) in omega arith

  pub chains : AllChained (table_of x).rows (vec_items x.places) x.ends
  chains = all_chained _ _ _ x.chained

  pub index_within : (length (table_of x).rows ≤ x.room) × (x.room ≤ 1024)
  index_within = let n = rows_counted in (omega (arith, x.within), x.within.2)
