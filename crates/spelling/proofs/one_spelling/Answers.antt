use Rattle.std.proofs.Common.{rules}
use Rattle.spelling.proofs.Wants.{one_spelling}
use Rattle.spelling.proofs.one_spelling.Goals as goal

pub returns : goal.returns
returns c = record { value = search rules; law = one_spelling }
