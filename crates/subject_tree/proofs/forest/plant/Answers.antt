use Rattle.std.proofs.Common.{map, ap, sym, ◌∙◌}
use Rattle.subject_tree.specs.Forest.{fate_of}
use Rattle.subject_tree.proofs.forest.plant.Goals as goal

pub returns : goal.returns
returns c tree trees =
    c.in_ok-roots.ensures c.args.circuit.now tree c.as_slice-tables.ensures
    (c.as_slice-fates.ensures.value ∙ (c.in_ok-fates.ensures ∙ ap (map (fate_of c.args.circuit.now)) (sym c.as_slice-tables.ensures)))
    (c.in_ok-numbers.ensures.read tree trees)
