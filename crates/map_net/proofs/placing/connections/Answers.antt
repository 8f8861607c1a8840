use Rattle.std.proofs.Common.{ℕ, List, [], ◌∷◌, ◌++◌, ap, ◌∙◌}
use Rattle.std.proofs.lemmas.Slice.Zip.{Zip-more, either_empty_from_Zip}
use Rattle.map_net.specs.Mapping.{name_of}
use Rattle.map_net.proofs.Zipped.{zipped_more, zipped_all}
use Rattle.map_net.proofs.Placements.{pin_step, pins_over, pins_zipped}
use Rattle.map_net.proofs.placing.connections.Goals as goal

pub loop-pin-preserved : goal.loop-pin-preserved
loop-pin-preserved c =
    let (first, second) = Zip-more c.loop-pin.pin-iterator c.next.new.self c.next.result
    (c.in-Some.pin, c.in-Some.signal) c.in-Some.is c.next.ensures.steps in
    let named = name_of c.args.leaves.now c.args.driven.now in
    zipped_more (pin_step named) (pins_over named) (pins_zipped named) c.in-Some.pin.now
    c.in-Some.signal.now _ _ _ _ _ _ _
    (c.in_ok-connect.ensures ∙ ap (λ (name : List ℕ). c.loop-pin.made ++ record {
      pin =
          c.in-Some.pin.now;
      signal = name;
    } ∷ []) c.in_ok-name.ensures) first second
    c.loop-pin.invariant

pub returns : goal.returns
returns c =
    let named = name_of c.args.leaves.now c.args.driven.now in
    zipped_all (pin_step named) (pins_over named) (pins_zipped named) _ _ _ _
    (either_empty_from_Zip c.loop-pin.pin-iterator c.next.new.self c.next.result c.in-None.is
    c.next.ensures.steps) c.loop-pin.invariant
