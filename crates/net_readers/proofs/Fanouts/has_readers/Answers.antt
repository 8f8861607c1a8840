use Rattle.std.proofs.Common.{sym, bytes_eq}
use Rattle.indexmap.specs.IndexMap.{get}
use Rattle.net_readers.specs.Fanouts.{told}
use Rattle.net_readers.proofs.Sets.{some_told, told_none_at, told_some_at}
use Rattle.net_readers.proofs.Fanouts.has_readers.Goals as goal

pub returns-in-None : goal.returns-in-None
returns-in-None c = told_none_at (get bytes_eq c.args.self.now.sets c.args.name.now) (sym c.in-None.ensures.value)

pub returns-in-Some : goal.returns-in-Some
returns-in-Some c =
    some_told (told c.args.self.now c.args.name.now) c.in-Some.set.now c.is_empty.result (told_some_at (get bytes_eq c.args.self.now.sets c.args.name.now) c.in-Some.set.now (sym c.in-Some.ensures.value))
    c.is_empty.ensures.0 c.is_empty.ensures.1
