-- `rate::answer` meets its contract: the nearer count is the pair's, or shows that there is none. Assumes nothing.
use Rattle.rate.proofs.Answers.{allowed_fits, answer_pair, answer_none}
use Rattle.rate.proofs.answer.Goals as goal

pub overflow_mul-tol : goal.overflow_mul-tol
overflow_mul-tol c = record { fits = search allowed_fits }

pub returns-then-near-tol : goal.returns-then-near-tol
returns-then-near-tol c = search answer_pair

pub returns-else-near-tol : goal.returns-else-near-tol
returns-else-near-tol c = search answer_none
