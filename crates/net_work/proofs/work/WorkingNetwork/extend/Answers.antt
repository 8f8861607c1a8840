use Rattle.std.proofs.Common.{bytes_eq, sym, ap, ◌∙◌, subst}
use Rattle.indexmap.specs.IndexMap.{get}
use Rattle.circuit_model.specs.Names.{has}
use Rattle.net_core.specs.Fresh.{used_names}
use Rattle.net_work.specs.Placed.{Placed, standing, circuit_of}
use Rattle.net_work.specs.Slots.{AreTaken}
use Rattle.net_work.proofs.Kept.{kept_push, kept_nothing}
use Rattle.net_work.proofs.work.WorkingNetwork.extend.Goals as goal

pub invariant_of-self : goal.invariant_of-self
invariant_of-self g c =
    kept_push c.self.inside.frame c.self.inside.slots.items c.put_behind-put.new.slots.items (get bytes_eq c.self.inside.places) (get bytes_eq c.put_behind-put.new.places) c.self.inside.links c.put_behind-put.new.links c.self.inside.number
    c.args.number (record { output = c.args.name.now; table = c.args.table }) c.self.invariant (subst (λ (p : Placed). AreTaken p.frame (standing p.slots) c.args.number) (sym c.self.view_is) c.requires.taken)
    (ap (λ (p : Placed). has (used_names (circuit_of p)) c.args.name.now) c.self.view_is ∙ c.requires.free) c.requires.over c.requires.once c.in-Ok.ensures.slots c.in-Ok.ensures.places c.in-Ok.ensures.links

pub invariant_of-self-in-Err : goal.invariant_of-self-in-Err
invariant_of-self-in-Err g c =
    kept_nothing c.self.inside.frame c.clear.new.slots.items (get bytes_eq c.clear.new.places) c.clear.new.links c.clear.ensures.slots c.clear.ensures.places c.clear.ensures.links
