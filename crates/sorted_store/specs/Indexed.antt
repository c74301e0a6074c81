-- What an index's fields say of its rows.
use Rattle.std.specs.Prelude.{◌≡◌, ℕ, zero, suc, ◌≤◌, List, length, option_map, vec_items, vec_len, refl}
use Rattle.std.proofs.Common.{arith}
use Rattle.std.proofs.lemmas.List.{length-map}
use Rattle.std.proofs.lemmas.Option.{slice_get-map}
use Rattle.basis.specs.Lists.{numbered}
use Rattle.sorted_store.specs.declared.index.TableIndex.{TableIndex}
use Rattle.sorted_store.specs.declared.place.Place.{Place}
use Rattle.sorted_store.specs.Columns.{row_in, rows_in}
use Rattle.sorted_store.specs.Indexes.{table_of}

-- the row in a numbered place
pub numbered_row : (ps : List Place) (k : ℕ) → numbered (rows_in ps) k ≡ option_map row_in (numbered ps k)
numbered_row ps zero = refl
numbered_row ps (suc i) = slice_get-map row_in ps i

module _ (x : TableIndex) where
  pub rows_counted : length (table_of x).rows ≡ vec_len x.places
  rows_counted = let long : vec_len x.places ≡ length (vec_items x.places) = x.places.ok.0 in let same = length-map (vec_items x.places) row_in in omega arith

  pub index_within : (length (table_of x).rows ≤ x.columns.room) × (x.columns.room ≤ 1024)
  index_within = let n = rows_counted in (omega (arith, x.within), x.within.2)
