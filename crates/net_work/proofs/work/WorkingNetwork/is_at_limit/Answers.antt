use Rattle.std.proofs.Common.{◌≡◌, ℕ, ◌+◌, ◌≤◌, ◌↔◌, Option, List, length, IsTrue, sym, ap, ◌∙◌, subst, arith}
use Rattle.circuit_model.specs.declared.circuit.Circuit.{Circuit}
use Rattle.net_core.specs.Fresh.{node_count}
use Rattle.net_core.specs.Places.{present}
use Rattle.net_core.specs.declared.places.Entry.{Entry}
use Rattle.net_work.specs.Placed.{Placed, standing, circuit_of}
use Rattle.net_work.proofs.Standing.{standing_present}
use Rattle.net_work.proofs.work.WorkingNetwork.is_at_limit.Goals as goal
use Rattle.sis_base.specs.declared.limits.TheConstants.{MAX_NODES}

pub returns : goal.returns
returns g c =
    let tables : length (present c.as_slice.result.now) ≡ length (standing c.args.self.now.slots) =
    ap (λ (slots : List (Option (Entry g.row.R.Denot))). length (present slots)) c.as_slice.ensures.value
    ∙ (ap (λ ts. length ts) (sym (standing_present c.self.inside.slots.items)) ∙ ap (λ (p : Placed). length (standing p.slots)) c.self.view_is) in
    let latches : c.len.result ≡ length c.args.self.now.frame.latches =
    c.len.ensures ∙ (ap (λ (circuit : Circuit). length circuit.latches) c.circuit-circuit.ensures ∙ ap (λ (p : Placed). length p.frame.latches) c.self.view_is) in
    let cares : c.len-2.result ≡ length c.args.self.now.frame.dont_care =
    c.len-2.ensures ∙ (ap (λ (circuit : Circuit). length circuit.dont_care) c.circuit-circuit.ensures ∙ ap (λ (p : Placed). length p.frame.dont_care) c.self.view_is) in
    let total : length (present c.as_slice.result.now) + c.len.result + c.len-2.result ≡ node_count (circuit_of c.args.self.now) = omega (arith, tables, latches, cares) in
    subst (λ (n : ℕ). IsTrue c.is_full.result ↔ (MAX_NODES ≤ n)) total c.is_full.ensures
