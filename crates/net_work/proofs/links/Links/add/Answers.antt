use Rattle.std.proofs.Common.{Some}
use Rattle.std.proofs.lemmas.Result.{on_ok_weaker}
use Rattle.net_core.specs.Tables.{named}
use Rattle.net_work.proofs.Linked.{linked_push}
use Rattle.net_work.proofs.links.Links.add.Goals as goal

pub returns : goal.returns
unfolding named
returns g c =
    on_ok_weaker c.add-2.result
    (λ counted slots output linked long.
    linked_push c.args.self.now (record { readers = c.add.new.self; uses = c.add-2.new.self }) slots (Some (named output c.args.table.now)) linked
    (rw (long, ← c.as_slice.ensures) c.in_ok-add.ensures) (counted output))
    c.add-2.ensures
