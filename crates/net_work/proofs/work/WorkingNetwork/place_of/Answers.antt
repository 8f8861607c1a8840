use Rattle.std.proofs.Common.{◌≡◌, List, Some, is_some, IfSome, bytes_eq, sym, ap, ◌∙◌, subst}
use Rattle.indexmap.specs.IndexMap.{get}
use Rattle.circuit_model.specs.Names.{has}
use Rattle.circuit_model.specs.Soundness.{outputs_of}
use Rattle.circuit_model.specs.declared.circuit.Table.{Table}
use Rattle.net_core.proofs.Indexing.{known_name}
use Rattle.net_work.specs.Placed.{Placed, standing, table_at}
use Rattle.net_work.proofs.Kept.{placed}
use Rattle.net_work.proofs.Standing.{standing_present}
use Rattle.net_work.proofs.work.WorkingNetwork.place_of.Goals as goal

pub returns-clause-some : goal.returns-clause-some
returns-clause-some g c =
    subst (λ (p : Placed). IfSome c.found_place.result (λ place. (t : Table) × (table_at p.slots place ≡ Some t) × (t.output ≡ c.args.name.now))) c.self.view_is
    (placed c.self.inside.slots.items (get bytes_eq c.self.inside.places) c.self.invariant.indexed c.args.name.now c.found_place.result c.found_place.ensures)

pub returns-clause-known : goal.returns-clause-known
returns-clause-known g c =
    ap is_some c.found_place.ensures
    ∙ (known_name c.self.inside.slots.items (get bytes_eq c.self.inside.places) c.self.invariant.indexed c.args.name.now
    ∙ (ap (λ (ts : List Table). has (outputs_of ts) c.args.name.now) (sym (standing_present c.self.inside.slots.items))
    ∙ ap (λ (p : Placed). has (outputs_of (standing p.slots)) c.args.name.now) c.self.view_is))
