use Rattle.std.proofs.Common.{bytes_eq, not}
use Rattle.indexmap.specs.IndexMap.{get}
use Rattle.net_readers.specs.Fanouts.{in_set}
use Rattle.net_readers.proofs.Sets.{untold_more, not_moved}
use Rattle.net_readers.proofs.untell_changed.Goals as goal

pub loop-i-preserved : goal.loop-i-preserved
loop-i-preserved c =
    untold_more c.args.before.now c.args.now.now c.loop-i.i c.args.place _ c.index-before-i.result (not c.is_at-is_moved.result) (λ name at. in_set (get bytes_eq c.args.sets.now name) at)
    (λ name at. in_set (get bytes_eq c.loop-i.sets name) at) (λ name at. in_set (get bytes_eq c.untell_moved.new.sets name) at) c.loop-i-test.true c.index-before-i.is c.loop-i.invariant
    (λ stays. c.is_at-is_moved.ensures (not_moved c.is_at-is_moved.result stays)) c.in_ok-untell_moved.ensures
