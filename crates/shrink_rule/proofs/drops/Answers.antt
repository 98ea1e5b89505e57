-- `shrink_rule::drops` meets its contract. Assumes nothing.
use Rattle.shrink_rule.proofs.Rules.{drops_wait, drops_same, drops_new, drops_config, drops_select, drops_other, met_wait, met_same, met_new, met_config, met_select, met_other}
use Rattle.shrink_rule.proofs.drops.Goals as goal

pub returns-then-eq-clause-value : goal.returns-then-eq-clause-value
returns-then-eq-clause-value c = search drops_same

pub returns-then-eq-clause-last_after : goal.returns-then-eq-clause-last_after
returns-then-eq-clause-last_after c = search met_same

pub returns-in-Wait-clause-value : goal.returns-in-Wait-clause-value
returns-in-Wait-clause-value c = search drops_wait

pub returns-in-Wait-clause-last_after : goal.returns-in-Wait-clause-last_after
returns-in-Wait-clause-last_after c = search met_wait

pub returns-else-eq-clause-value : goal.returns-else-eq-clause-value
returns-else-eq-clause-value c = search drops_new

pub returns-else-eq-clause-last_after : goal.returns-else-eq-clause-last_after
returns-else-eq-clause-last_after c = search met_new

pub returns-in-Config-clause-value : goal.returns-in-Config-clause-value
returns-in-Config-clause-value c = search drops_config

pub returns-in-Config-clause-last_after : goal.returns-in-Config-clause-last_after
returns-in-Config-clause-last_after c = search met_config

pub returns-in-Select-clause-value : goal.returns-in-Select-clause-value
returns-in-Select-clause-value c = search drops_select

pub returns-in-Select-clause-last_after : goal.returns-in-Select-clause-last_after
returns-in-Select-clause-last_after c = search met_select

pub returns-in-Other-clause-value : goal.returns-in-Other-clause-value
returns-in-Other-clause-value c = search drops_other

pub returns-in-Other-clause-last_after : goal.returns-in-Other-clause-last_after
returns-in-Other-clause-last_after c = search met_other
