use Rattle.laws.proofs.Cases.{cases}
use Rattle.select.specs.Select.{field_of}
use Rattle.select.proofs.field.Goals as goal

pub returns-then-pin-lt20 : goal.returns-then-pin-lt20
unfolding field_of
returns-then-pin-lt20 c = search cases

pub returns-else-pin-lt20 : goal.returns-else-pin-lt20
unfolding field_of
returns-else-pin-lt20 c = search cases
