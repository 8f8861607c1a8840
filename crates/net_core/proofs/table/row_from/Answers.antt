use Rattle.std.proofs.Common.{None, length, set, ap, ◌∙◌, replicate}
use Rattle.std.proofs.lemmas.List.{length-replicate}
use Rattle.circuit_model.specs.declared.circuit.Tri.TheVariants.{Zero}
use Rattle.circuit_model.specs.Values.{literal_of}
use Rattle.net_core.proofs.Rows.{fill_step}
use Rattle.net_core.proofs.table.row_from.Goals as goal

pub loop-place-preserved : goal.loop-place-preserved
loop-place-preserved g c =
    c.set.ensures ∙ ap (set (g.R.Row.literals c.loop-place.row) c.loop-place.place) c.place_from.ensures
    ∙ fill_step literal_of c.args.characters.now (replicate (length c.args.characters.now) None) _ c.loop-place.place Zero c.loop-place-test.true (length-replicate (length c.args.characters.now) None) c.loop-place.invariant
