use Rattle.std.proofs.Common.{◌∙◌, ap, rules}
use Rattle.circuit_model.specs.declared.circuit.Circuit.{Circuit}
use Rattle.map_net.specs.Parts.{mapped_of}
use Rattle.map_net.proofs.Parting.{memory_maps, no_parts, parts_maps, kept_is}
use Rattle.map_net.proofs.MappedNets.{mapped_sound, mapped_refines, mapped_parted}
use Rattle.map_net.proofs.Areas.{mapped_total}
use Rattle.map_net.proofs.mapping.map.Goals as goal

pub returns-in_err-to_circuit-clause-maps : goal.returns-in_err-to_circuit-clause-maps
returns-in_err-to_circuit-clause-maps g c =
    memory_maps c.args.network.now c.args.library.now c.from_residual.result
    c.from_residual.ensures.1

pub returns-in_err-parts-clause-maps : goal.returns-in_err-parts-clause-maps
returns-in_err-parts-clause-maps g c =
    no_parts c.args.network.now c.in_ok-to_circuit.field-0 c.args.library.now
    c.in_err-parts.field-0.0 c.from_residual-in_err-parts.result c.in_ok-to_circuit.ensures
    (search rules) c.in_err-parts.ensures

pub returns-clause-maps : goal.returns-clause-maps
returns-clause-maps g c =
    parts_maps c.args.network.now c.in_ok-to_circuit.field-0 c.args.library.now
    c.in_ok-parts.parts c.assembled.result c.in_ok-to_circuit.ensures
    (c.assembled.ensures ∙ ap (λ (circuit : Circuit). mapped_of circuit c.in_ok-parts.parts)
    c.into_it.ensures) c.in_ok-parts.ensures

pub returns-clause-kept : goal.returns-clause-kept
returns-clause-kept g c =
    kept_is c.args.library.now c.args.network.now c.assembled.result
    (parts_maps c.args.network.now c.in_ok-to_circuit.field-0 c.args.library.now
    c.in_ok-parts.parts c.assembled.result c.in_ok-to_circuit.ensures
    (c.assembled.ensures ∙ ap (λ (circuit : Circuit). mapped_of circuit c.in_ok-parts.parts)
    c.into_it.ensures) c.in_ok-parts.ensures)

pub returns-clause-sound : goal.returns-clause-sound
returns-clause-sound g c =
    mapped_sound c.args.network.now c.args.library.now c.assembled.result c.sound.ensures c.requires
    (parts_maps c.args.network.now c.in_ok-to_circuit.field-0
    c.args.library.now c.in_ok-parts.parts c.assembled.result c.in_ok-to_circuit.ensures
    (c.assembled.ensures ∙ ap (λ (circuit : Circuit). mapped_of circuit c.in_ok-parts.parts)
    c.into_it.ensures) c.in_ok-parts.ensures).2

pub returns-clause-refines : goal.returns-clause-refines
returns-clause-refines g c =
    mapped_refines c.args.network.now c.args.library.now c.assembled.result c.sound.ensures
    c.requires
    (parts_maps c.args.network.now c.in_ok-to_circuit.field-0
    c.args.library.now c.in_ok-parts.parts c.assembled.result c.in_ok-to_circuit.ensures
    (c.assembled.ensures ∙ ap (λ (circuit : Circuit). mapped_of circuit c.in_ok-parts.parts)
    c.into_it.ensures) c.in_ok-parts.ensures).2

pub returns-clause-figures : goal.returns-clause-figures
returns-clause-figures g c =
    mapped_parted c.args.network.now c.args.library.now c.assembled.result c.requires
    (parts_maps c.args.network.now c.in_ok-to_circuit.field-0
    c.args.library.now c.in_ok-parts.parts c.assembled.result c.in_ok-to_circuit.ensures
    (c.assembled.ensures ∙ ap (λ (circuit : Circuit). mapped_of circuit c.in_ok-parts.parts)
    c.into_it.ensures) c.in_ok-parts.ensures).2

pub returns-clause-total : goal.returns-clause-total
returns-clause-total g c =
    mapped_total c.args.network.now c.args.library.now c.assembled.result c.requires
    (parts_maps c.args.network.now c.in_ok-to_circuit.field-0
    c.args.library.now c.in_ok-parts.parts c.assembled.result c.in_ok-to_circuit.ensures
    (c.assembled.ensures ∙ ap (λ (circuit : Circuit). mapped_of circuit c.in_ok-parts.parts)
    c.into_it.ensures) c.in_ok-parts.ensures).2
