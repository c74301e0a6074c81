-- What writing bytes into a buffer does.
use Rattle.std.specs.Prelude.{◌≡◌, ℕ, ◌+◌, min, Bool, List, length, nat_le}
use Rattle.rules.specs.Calls.{laid}

-- Bytes were written from a place on: what the buffer holds then, where the place stands, and whether they fitted.
pub record Puts (before : List ℕ) (p : ℕ) (bytes : List ℕ) (later : List ℕ) (q : ℕ) (ok : Bool) : Type 0 where
  pub held : later ≡ laid before p bytes
  pub moved : q ≡ min (p + length bytes) (length before)
  pub fits : ok ≡ nat_le (p + length bytes) (length before)
