use Rattle.std.proofs.Common.{Some, sym, ap, ◌∙◌, List, ℕ}
use Rattle.net_core.proofs.Lookups.{get_at}
use Rattle.net_work.proofs.Ordered.{name_among}
use Rattle.net_work.proofs.ordering.known_places.Goals as goal

pub known_place-requires : goal.known_place-requires
known_place-requires c =
    c.requires c.name-item.result
    (name_among c.args.names.now c.loop-name.name-index c.name-item.result
    (get_at c.args.names.now c.loop-name.name-index c.name-item.result c.loop-name-test.true ∙ ap (λ (name : List ℕ). Some name) (sym c.name-item.is)))
