-- The law whole, for every query that a draft made.
use Rattle.query.specs.Lawful.{Lawful}
use Rattle.query.specs.Queries.{Query}
use Rattle.law.proofs.Algebra.{lines_are_select_project_join}
use Rattle.law.proofs.Asks.{asks_are_questions}
use Rattle.law.proofs.Drains.{drains_within_bound}
use Rattle.law.proofs.Once.{accepted_cells_are_seen, posted_once_or_owed_once, equal_rows_equal_postings}
use Rattle.law.proofs.Progress.{steps_make_progress}
use Rattle.law.proofs.Room.{at_most_64_wait}
use Rattle.law.specs.Law.{RunLaw, BesideTheLaw}
use Rattle.rules.proofs.Checked.{checked}

pub run_law : (q : Query) → Lawful q → RunLaw q
run_law q h =
    let lawful = checked q h in
    record {
      posted_once_or_owed_once = posted_once_or_owed_once q lawful;
      drains_within_bound = drains_within_bound q lawful;
      equal_rows_equal_postings = equal_rows_equal_postings q lawful;
      lines_are_select_project_join = lines_are_select_project_join q lawful;
    }

pub beside_the_law : (q : Query) → Lawful q → BesideTheLaw q
beside_the_law q h =
    let lawful = checked q h in
    record {
      at_most_64_wait = at_most_64_wait q lawful;
      asks_are_questions = asks_are_questions q;
      steps_make_progress = steps_make_progress q lawful;
      accepted_cells_are_seen = accepted_cells_are_seen q lawful;
    }
