use Rattle.live_state.proofs.Steps.{carry_live, carry_good}
use Rattle.live_state.proofs.carry.Goals as goal

pub returns-clause-result_value : goal.returns-clause-result_value
returns-clause-result_value c = search carry_live

pub returns-clause-good_2 : goal.returns-clause-good_2
returns-clause-good_2 c = search carry_good
