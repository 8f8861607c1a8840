use Rattle.std.proofs.Common.{rules, ◌≡◌, Err}
use Rattle.sis_session.specs.State.{parts_held}
use Rattle.sis_session.proofs.Stepping.{changed_did, unchanged_did, no_network_did}
use Rattle.sis_session.proofs.session.Session.change.Goals as goal

pub returns-in_default-clause-did : goal.returns-in_default-clause-did
returns-in_default-clause-did c =
    rw (← c.self.view_is) (no_network_did (parts_held c.self.inside.network c.self.inside.previous c.self.inside.machine c.self.inside.library c.self.inside.netlist c.self.inside.previous_netlist) c.args.change c.self.inside.network c.in_default.is)

pub returns-in_err-new-clause-did : goal.returns-in_err-new-clause-did
returns-in_err-new-clause-did c =
    let same : c.from_residual.result ≡ Err c.in_err-new.field-0.0 = search rules in
    rw (same, ← c.self.view_is)
    (unchanged_did (parts_held c.self.inside.network c.self.inside.previous c.self.inside.machine c.self.inside.library c.self.inside.netlist c.self.inside.previous_netlist) c.args.change c.self.inside.network c.in-Some.network c.in_err-new.field-0.0 c.in-Some.is c.in_err-new.ensures.changes)

pub returns-clause-did : goal.returns-clause-did
returns-clause-did c =
    rw (← c.self.view_is)
    (changed_did (parts_held c.self.inside.network c.self.inside.previous c.self.inside.machine c.self.inside.library c.self.inside.netlist c.self.inside.previous_netlist) _ c.args.change c.self.inside.network c.in-Some.network c.in_ok-new.new c.in-Some.is c.in_ok-new.ensures.changes (search rules))
