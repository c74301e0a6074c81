use Rattle.stores.proofs.Laws.{store_laws}
use Rattle.stores.proofs.laws_hold.Goals as goal

pub returns-clause-law : goal.returns-clause-law
returns-clause-law c = store_laws
