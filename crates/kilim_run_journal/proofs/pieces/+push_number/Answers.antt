use Rattle.std.proofs.Common.{arith}
use Rattle.kilim_run_journal.proofs.Digits.{last_digit}
use Rattle.kilim_run_journal.proofs.pieces.+push_number.Goals as goal

pub returns : goal.returns
returns t c = last_digit c.push_digit-2.result c.args.out.now.items _ c.push_digit-2.new.out.items c.args.n (let large = c.if-n-lt10.false in omega arith) c.ranges.n.fits c.in-Ok.ensures c.push_digit-2.ensures
