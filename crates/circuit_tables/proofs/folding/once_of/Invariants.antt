use Rattle.std.proofs.Common.{◌≡◌, map, take, drop, bytes_eq}
use Rattle.std.specs.List.{position_or_len}
use Rattle.circuit_tables.specs.Folding.{each_once}
use Rattle.circuit_tables.specs.Listing.{names_with}
use Rattle.circuit_tables.proofs.folding.once_of.Given as goal

abbrev pub invariant-loop-name : goal.invariant-loop-name
invariant-loop-name l = record {
  rest : names_with l.names.keys (drop l.name-index l.inputs) ≡ each_once l.inputs;
  so_far : l.places.items ≡ map (λ name. position_or_len (bytes_eq name) (each_once l.inputs)) (take l.name-index l.inputs);
}
