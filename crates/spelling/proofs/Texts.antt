-- What a text holds.
use Rattle.std.proofs.Common.{ℕ, ◌≤◌, length, arith}
use Rattle.std.proofs.lemmas.List.{length-take-le}
use Rattle.spelling.specs.Spelling.{text_of}
use Rattle.spelling.specs.declared.text.ShortText.{ShortText}

pub text_short : {n : ℕ} (t : ShortText n) → length (text_of t) ≤ n
text_short t = omega (arith, length-take-le t.len t.bytes, t.within, t.places)
