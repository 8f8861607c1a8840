use Rattle.std.proofs.Common.{◌∙◌}
use Rattle.blif_models.proofs.NamedPorts.{wrong_pairs, wrong_ports, wrong_count, named_by}
use Rattle.blif_models.proofs.port_faults.names_ports.Goals as goal

pub returns-then-not-are_pairs : goal.returns-then-not-are_pairs
returns-then-not-are_pairs c = wrong_pairs c.args.ports.now c.args.words.now c.are_pairs.result c.are_pairs.ensures c.if-not-are_pairs.true

pub returns-then-not-are_ports : goal.returns-then-not-are_ports
returns-then-not-are_ports c =
    wrong_ports c.args.ports.now c.args.words.now c.are_pairs.result c.are_ports.result c.are_pairs.ensures c.if-not-are_pairs.false c.are_ports.ensures c.if-not-are_ports.true

pub returns-then-not-are_as_many : goal.returns-then-not-are_as_many
returns-then-not-are_as_many c =
    wrong_count c.args.ports.now c.args.words.now c.in_ok-pins.pins c.are_pairs.result c.are_ports.result c.are_as_many.result c.are_pairs.ensures c.if-not-are_pairs.false
    c.are_ports.ensures c.if-not-are_ports.false c.in_ok-pins.ensures c.are_as_many.ensures c.if-not-are_as_many.true

pub returns : goal.returns
returns c =
    c.are_held.ensures
    ∙ named_by c.args.ports.now c.args.words.now c.words.result.now c.in_ok-pins.pins c.are_pairs.result c.are_ports.result c.are_as_many.result c.are_pairs.ensures c.if-not-are_pairs.false
    c.are_ports.ensures c.if-not-are_ports.false c.in_ok-pins.ensures c.are_as_many.ensures c.if-not-are_as_many.false c.words.ensures
