use Rattle.std.proofs.Common.{rules}
use Rattle.expressions.proofs.Forests.{tree_exact}
use Rattle.expressions.proofs.tree_is_exact.Goals as goal

pub returns : goal.returns
returns c = record { value = search rules; law = tree_exact }
