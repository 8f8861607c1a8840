use Rattle.std.proofs.Common.{Some}
use Rattle.std.proofs.lemmas.Result.{on_ok_weaker}
use Rattle.net_core.specs.Tables.{named}
use Rattle.net_work.proofs.Linked.{linked_set}
use Rattle.net_work.proofs.links.Links.change.Goals as goal

pub returns : goal.returns
unfolding named
returns g c =
    on_ok_weaker c.add.result
    (λ counted slots output linked at.
    linked_set c.args.self.now (record { readers = c.change.new.self; uses = c.remove.new.self }) (record { readers = c.change.new.self; uses = c.add.new.self }) slots c.args.place (named output c.args.before.now)
    (Some (named output c.args.now.now)) linked at (rw (← c.as_slice.ensures, ← c.as_slice-2.ensures) c.in_ok-change.ensures) (c.in_ok-remove.ensures output) (counted output))
    c.add.ensures
