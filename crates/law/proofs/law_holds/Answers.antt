use Rattle.std.proofs.Common.{refl}
use Rattle.law.proofs.Whole.{run_law, beside_the_law}
use Rattle.law.proofs.law_holds.Goals as goal

pub returns : goal.returns
returns c = record { value = refl; law = run_law; beside = beside_the_law }
