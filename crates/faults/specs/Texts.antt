-- What is printed of a fault; of one of the system nothing is promised.
use Rattle.std.specs.Prelude.{ℕ, List, Some, None, Option, codes}
use Rattle.cells.specs.Headings.{refusal_number}
use Rattle.query.specs.Questions.{refused_text, error_text}
use Rattle.faults.specs.declared.Fault.{Fault}
use Rattle.faults.specs.declared.Fault.TheVariants.{Heading, Draft, Memory, Io}

abbrev pub fault_text : Fault → Option (List ℕ)
fault_text (Heading no') = Some (refused_text (refusal_number no'))
fault_text (Draft e) = Some (error_text e)
fault_text Memory = Some (codes "out of memory")
fault_text (Io e) = None
