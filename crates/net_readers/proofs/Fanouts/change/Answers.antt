use Rattle.std.proofs.Common.{bytes_eq}
use Rattle.indexmap.specs.IndexMap.{get}
use Rattle.net_readers.specs.Fanouts.{in_set}
use Rattle.net_readers.proofs.Sets.{readers_changed, on_ok}
use Rattle.net_readers.proofs.Fanouts.change.Goals as goal

pub returns : goal.returns
returns c =
    on_ok c.tell_all.result
    (λ told inputs all here.
    readers_changed inputs c.args.place c.args.before.now c.args.now.now (λ name at. in_set (get bytes_eq c.args.self.now.sets name) at) (λ name at. in_set (get bytes_eq c.untell_changed.new.sets name) at)
    (λ name at. in_set (get bytes_eq c.tell_all.new.sets name) at) c.in_ok-untell_changed.ensures told all here)
    c.tell_all.ensures
