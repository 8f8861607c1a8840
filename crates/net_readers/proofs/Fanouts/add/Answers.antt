use Rattle.std.proofs.Common.{bytes_eq, []}
use Rattle.indexmap.specs.IndexMap.{get}
use Rattle.net_readers.specs.Fanouts.{in_set}
use Rattle.net_readers.proofs.Sets.{readers_changed, untold_none, on_ok}
use Rattle.net_readers.proofs.Fanouts.add.Goals as goal

pub returns : goal.returns
returns c =
    on_ok c.tell_all.result
    (λ told inputs all here.
    readers_changed inputs c.args.place [] c.args.names.now (λ name at. in_set (get bytes_eq c.args.self.now.sets name) at) (λ name at. in_set (get bytes_eq c.args.self.now.sets name) at)
    (λ name at. in_set (get bytes_eq c.tell_all.new.sets name) at) (untold_none c.args.names.now c.args.place (λ name at. in_set (get bytes_eq c.args.self.now.sets name) at)) told all here)
    c.tell_all.ensures
