use Rattle.std.proofs.Common.{bytes_eq, arith}
use Rattle.indexmap.specs.IndexMap.{get}
use Rattle.net_work.specs.Uses.{count_at, number_of}
use Rattle.net_work.proofs.Numbers.{gained_more}
use Rattle.net_work.proofs.counts.gain_all.Goals as goal

pub loop-i-init : goal.loop-i-init
unfolding number_of
loop-i-init c = λ other. omega arith

pub loop-i-preserved : goal.loop-i-preserved
loop-i-preserved c =
    gained_more c.args.names.now c.args.numbers.now c.loop-i.i c.index-names-i.result c.index-names-i.result 0 (λ other. count_at (get bytes_eq c.args.counts.now other)) (λ other. count_at (get bytes_eq c.loop-i.counts other))
    (λ other. count_at (get bytes_eq c.gain.new.counts other)) c.loop-i-test.true c.requires.many c.requires.different c.index-names-i.is c.loop-i.invariant c.in_ok-gain.ensures
