use Rattle.std.proofs.Common.{is_some, bytes_eq, ap, ◌∙◌}
use Rattle.indexmap.specs.IndexMap.{get}
use Rattle.net_work.specs.Placed.{Placed, table_at}
use Rattle.net_work.proofs.Kept.{kept_removal, kept_nothing}
use Rattle.net_work.proofs.Standing.{stands}
use Rattle.net_work.proofs.Views.{view_gone}
use Rattle.net_work.proofs.work.WorkingNetwork.remove.Goals as goal

pub remove_at-removed-requires-clause-there : goal.remove_at-removed-requires-clause-there
remove_at-removed-requires-clause-there g c = stands c.self.inside.slots.items c.args.place (ap (λ (p : Placed). is_some (table_at p.slots c.args.place)) c.self.view_is ∙ c.requires)

pub invariant_of-self : goal.invariant_of-self
invariant_of-self g c =
    let (entry, at) = stands c.self.inside.slots.items c.args.place (ap (λ (p : Placed). is_some (table_at p.slots c.args.place)) c.self.view_is ∙ c.requires) in
    kept_removal c.self.inside.frame c.self.inside.slots.items c.remove_at-removed.new.slots.items (get bytes_eq c.self.inside.places) (get bytes_eq c.remove_at-removed.new.places) c.self.inside.links c.remove_at-removed.new.links
    c.self.inside.number c.args.place entry c.self.invariant at c.in-Ok.ensures.slots (c.in-Ok.ensures.places entry at) c.in-Ok.ensures.links

pub invariant_of-self-in-Err : goal.invariant_of-self-in-Err
invariant_of-self-in-Err g c =
    kept_nothing c.self.inside.frame c.clear.new.slots.items (get bytes_eq c.clear.new.places) c.clear.new.links c.clear.ensures.slots c.clear.ensures.places c.clear.ensures.links

pub returns-in-Ok : goal.returns-in-Ok
returns-in-Ok g c = view_gone c.self.inside.frame c.self.inside.slots.items c.remove_at-removed.new.slots.items c.args.place c.args.self.now c.self.view_is c.in-Ok.ensures.slots
