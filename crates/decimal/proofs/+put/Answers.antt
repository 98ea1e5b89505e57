use Rattle.decimal.proofs.Puts.{put_digit, put_more}
use Rattle.decimal.proofs.+put.Goals as goal

pub returns-then-n-lt10 : goal.returns-then-n-lt10
returns-then-n-lt10 t c = search put_digit

pub returns : goal.returns
returns t c = search put_more
