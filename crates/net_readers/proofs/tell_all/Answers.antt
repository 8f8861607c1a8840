use Rattle.std.proofs.Common.{bytes_eq}
use Rattle.indexmap.specs.IndexMap.{get}
use Rattle.net_readers.specs.Fanouts.{in_set}
use Rattle.net_readers.proofs.Sets.{told_more}
use Rattle.net_readers.proofs.tell_all.Goals as goal

pub loop-name-preserved : goal.loop-name-preserved
loop-name-preserved c =
    told_more c.args.names.now c.loop-name.name-index c.args.place _ c.name-item.result (λ name at. in_set (get bytes_eq c.args.sets.now name) at) (λ name at. in_set (get bytes_eq c.loop-name.sets name) at)
    (λ name at. in_set (get bytes_eq c.tell.new.sets name) at) c.loop-name-test.true c.name-item.is c.loop-name.invariant c.in_ok-tell.ensures
