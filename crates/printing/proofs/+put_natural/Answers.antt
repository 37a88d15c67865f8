use Rattle.printing.proofs.Numbers.{put_one, put_last}
use Rattle.printing.proofs.+put_natural.Goals as goal

pub returns-then-n-lt10 : goal.returns-then-n-lt10
returns-then-n-lt10 t c = put_one _ _ c.if-n-lt10.true c.digit.ensures c.put_byte.ensures

pub returns : goal.returns
returns t c = put_last _ _ c.if-n-lt10.false c.digit-2.ensures c.put_natural-p.ensures c.put_byte-2.ensures
