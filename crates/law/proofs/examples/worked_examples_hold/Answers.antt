use Rattle.std.proofs.Common.{refl}
use Rattle.law.proofs.Worked.{worked_examples}
use Rattle.law.proofs.examples.worked_examples_hold.Goals as goal

pub returns : goal.returns
returns c = record { value = refl; law = worked_examples }
