use Rattle.live_state.proofs.Steps.{start_good}
use Rattle.live_state.proofs.start.Goals as goal

pub returns-clause-good : goal.returns-clause-good
returns-clause-good c = search start_good
