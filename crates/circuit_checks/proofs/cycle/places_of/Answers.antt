use Rattle.std.proofs.Common.{◌∙◌, ◌++◌, ap, option_to_list, bytes_eq}
use Rattle.indexmap.specs.IndexMap.{get}
use Rattle.circuit_checks.proofs.Placing.{places_more}
use Rattle.circuit_checks.proofs.cycle.places_of.Goals as goal

pub loop-name-preserved : goal.loop-name-preserved
loop-name-preserved c =
    places_more (get bytes_eq c.args.firsts.now) c.args.names.now c.loop-name.name-index c.name-item.result c.loop-name.places c.add_place.new.places c.loop-name-test.true
    c.name-item.is c.loop-name.invariant (c.in_ok-add_place.ensures ∙ ap (λ place. c.loop-name.places ++ option_to_list place) c.place_of.ensures)
