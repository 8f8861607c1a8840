use Rattle.std.proofs.Common.{is_some, bytes_eq, ap, ◌∙◌}
use Rattle.indexmap.specs.IndexMap.{get}
use Rattle.net_work.specs.Placed.{Placed, table_at}
use Rattle.net_work.proofs.Kept.{kept_write, kept_nothing}
use Rattle.net_work.proofs.Standing.{stands}
use Rattle.net_work.proofs.Views.{view_set}
use Rattle.net_work.proofs.work.WorkingNetwork.set.Goals as goal

pub change_at-requires-clause-there : goal.change_at-requires-clause-there
change_at-requires-clause-there g c = stands c.self.inside.slots.items c.args.place (ap (λ (p : Placed). is_some (table_at p.slots c.args.place)) c.self.view_is ∙ c.requires.there)

pub invariant_of-self : goal.invariant_of-self
invariant_of-self g c =
    let (entry, at) = stands c.self.inside.slots.items c.args.place (ap (λ (p : Placed). is_some (table_at p.slots c.args.place)) c.self.view_is ∙ c.requires.there) in
    kept_write c.self.inside.frame c.self.inside.slots.items c.change_at.new.slots.items (get bytes_eq c.self.inside.places) c.self.inside.links c.change_at.new.links c.self.inside.number c.args.place entry c.args.table c.self.invariant
    at c.requires.over c.requires.once (c.in-Ok.ensures.slots entry at) (c.in-Ok.ensures.links entry at)

pub invariant_of-self-in-Err : goal.invariant_of-self-in-Err
invariant_of-self-in-Err g c =
    kept_nothing c.self.inside.frame c.clear.new.slots.items (get bytes_eq c.clear.new.places) c.clear.new.links c.clear.ensures.slots c.clear.ensures.places c.clear.ensures.links

pub returns-in-Ok : goal.returns-in-Ok
returns-in-Ok g c =
    let (entry, at) = stands c.self.inside.slots.items c.args.place (ap (λ (p : Placed). is_some (table_at p.slots c.args.place)) c.self.view_is ∙ c.requires.there) in
    view_set c.self.inside.frame c.self.inside.slots.items c.change_at.new.slots.items c.args.place entry c.args.table c.args.self.now c.self.view_is at (c.in-Ok.ensures.slots entry at)
