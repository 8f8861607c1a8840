use Rattle.std.proofs.Common.{sym, append-nil}
use Rattle.net_gains.specs.Numbers.{numbers_from}
use Rattle.net_gains.proofs.rows.add_number.Goals as goal

pub returns-in_ok-push : goal.returns-in_ok-push
unfolding numbers_from
returns-in_ok-push c = rw (c.in-Some.is, sym c.number_of.ensures) c.in_ok-push.ensures.items

pub returns-in_default : goal.returns-in_default
unfolding numbers_from
returns-in_default c = rw c.in_default.is (sym (append-nil c.args.numbers.now.items))
