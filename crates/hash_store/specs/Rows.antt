-- Rows in places.
use Rattle.std.specs.Prelude.{◌≡◌, ℕ, zero, suc, ◌<◌, List, length, option_map, slice_index_or, refl}
use Rattle.std.proofs.lemmas.List.{get_or-map, length-map}
use Rattle.std.proofs.lemmas.Option.{slice_get-map}
use Rattle.basis.specs.Lists.{numbered}
use Rattle.hash_store.specs.declared.place.Place.{Place}
use Rattle.hash_store.specs.Chains.{no_row, no_place, row_in, rows_in}

pub length_rows : (ps : List Place) → length (rows_in ps) ≡ length ps
length_rows ps = length-map ps row_in

pub row_read : (ps : List Place) (i : ℕ) → i < length ps → slice_index_or (rows_in ps) i no_row ≡ row_in (slice_index_or ps i no_place)
row_read ps i lt = get_or-map row_in ps i no_place no_row lt

-- the row in a numbered place
pub numbered_row : (ps : List Place) (k : ℕ) → numbered (rows_in ps) k ≡ option_map row_in (numbered ps k)
numbered_row ps zero = refl
numbered_row ps (suc i) = slice_get-map row_in ps i
