use Rattle.std.proofs.Common.{sym, refl, ◌∙◌, map, ap, bytes_eq}
use Rattle.std.specs.List.{position_or_len}
use Rattle.std.proofs.lemmas.List.{take_all}
use Rattle.circuit_tables.specs.Folding.{each_once}
use Rattle.circuit_tables.specs.Listing.{places_of}
use Rattle.circuit_tables.proofs.Once.{listed_once}
use Rattle.circuit_tables.proofs.FoldSteps.{names_more, places_more, names_done}
use Rattle.circuit_tables.proofs.folding.once_of.Goals as goal

pub loop-name-init : goal.loop-name-init
loop-name-init c = record { rest = rw c.new-names.ensures.empty (listed_once c.args.inputs.now); so_far = c.in_ok-places.ensures.items }

pub loop-name-preserved : goal.loop-name-preserved
loop-name-preserved c = record {
  rest = names_more c.loop-name.names.keys c.insert_full.new.self.keys (each_once c.args.inputs.now) c.args.inputs.now c.loop-name.name-index c.name-item.result c.in_ok-copy.field-0
      c.loop-name-test.true c.name-item.is c.in_ok-copy.ensures c.in_ok-place.ensures.keys c.loop-name.invariant.rest;
  so_far = places_more c.loop-name.names.keys (each_once c.args.inputs.now) c.args.inputs.now c.loop-name.name-index c.name-item.result c.in_ok-copy.field-0 c.loop-name.places.items c.push.new.self.items c.in_ok-place.place
      c.loop-name-test.true c.name-item.is c.in_ok-copy.ensures c.in_ok-place.ensures.index c.in_ok-push.ensures.items c.loop-name.invariant.rest c.loop-name.invariant.so_far;
}

pub returns-clause-names : goal.returns-clause-names
returns-clause-names c = sym (names_done c.loop-name.names.keys c.args.inputs.now c.loop-name.name-index c.loop-name-test.false) ∙ c.loop-name.invariant.rest

pub returns-clause-places : goal.returns-clause-places
unfolding places_of
returns-clause-places c =
    c.loop-name.invariant.so_far
    ∙ ap (map (λ name. position_or_len (bytes_eq name) (each_once c.args.inputs.now))) (take_all c.loop-name.name-index c.args.inputs.now c.loop-name-test.false)
