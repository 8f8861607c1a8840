use Rattle.std.proofs.Common.{◌≡◌, List, Option, Some, map, bytes_eq, ap, ◌∙◌}
use Rattle.std.proofs.lemmas.Result.{IfOk-weaker}
use Rattle.indexmap.specs.IndexMap.{get}
use Rattle.net_core.specs.Places.{present}
use Rattle.net_core.specs.declared.places.Entry.{Entry}
use Rattle.circuit_order.specs.Order.{order_of}
use Rattle.net_work.specs.Placed.{standing, name_at}
use Rattle.net_work.specs.Slots.{bare}
use Rattle.net_work.proofs.Ordered.{order_different, order_known, order_placed}
use Rattle.net_work.proofs.work.WorkingNetwork.order.Goals as goal

pub order-requires : goal.order-requires
order-requires g c =
    order_different c.self.inside.slots.items (get bytes_eq c.self.inside.places) c.self.invariant.indexed c.as_slice-2.result.now
    (c.as_slice-2.ensures.value ∙ (c.in_ok-tables.ensures ∙ ap (λ (slots : List (Option (Entry g.row.R.Denot))). map bare (present slots)) c.as_slice.ensures.value))

pub known_places-requires : goal.known_places-requires
known_places-requires g c =
    order_known c.self.inside.slots.items (get bytes_eq c.self.inside.places) c.self.invariant.indexed c.as_slice-3.result.now
    (c.as_slice-3.ensures
    ∙ (c.in_ok-names.ensures
    ∙ ap order_of (c.as_slice-2.ensures.value ∙ (c.in_ok-tables.ensures ∙ ap (λ (slots : List (Option (Entry g.row.R.Denot))). map bare (present slots)) c.as_slice.ensures.value))))

pub returns : goal.returns
returns g c =
    IfOk-weaker c.known_places.result (λ places. map Some places.items ≡ map (get bytes_eq c.self.inside.places) c.as_slice-3.result.now)
    (λ places. map (name_at c.args.self.now.slots) places.items ≡ map Some (order_of (standing c.args.self.now.slots)))
    (λ places found.
    order_placed c.self.inside.frame c.self.inside.slots.items (get bytes_eq c.self.inside.places) c.self.invariant.indexed c.args.self.now c.self.view_is c.as_slice-3.result.now places.items
    (c.as_slice-3.ensures
    ∙ (c.in_ok-names.ensures
    ∙ ap order_of (c.as_slice-2.ensures.value ∙ (c.in_ok-tables.ensures ∙ ap (λ (slots : List (Option (Entry g.row.R.Denot))). map bare (present slots)) c.as_slice.ensures.value)))) found)
    c.known_places.ensures
