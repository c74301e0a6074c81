-- Each call has fewer items left; of two calls over the same items the pair comes first.
use Rattle.std.proofs.Common.{◌+◌, ◌*◌, length}
use Rattle.expressions.proofs.evaluation.+eval_eval_two.Given as goal

abbrev pub decreases-eval : goal.decreases-eval
decreases-eval l = 2 * length l.items.now

abbrev pub decreases-eval_two : goal.decreases-eval_two
decreases-eval_two l = 2 * length l.items.now + 1
