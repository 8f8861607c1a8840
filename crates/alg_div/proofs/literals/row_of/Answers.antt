use Rattle.std.proofs.Common.{Option, Bool, None, List, set, get_or, replicate, length, ap, ◌∙◌}
use Rattle.std.proofs.lemmas.List.{length-replicate}
use Rattle.alg_div.proofs.Cubes.{fill_more}
use Rattle.alg_div.proofs.literals.row_of.Goals as goal

pub loop-place-preserved : goal.loop-place-preserved
loop-place-preserved g c =
    c.set.ensures ∙ ap (λ (x : List (Option Bool)). set x c.loop-place.place (get_or c.args.literals.now c.loop-place.place None)) c.loop-place.invariant
    ∙ fill_more c.args.literals.now (replicate (length c.args.literals.now) None) c.loop-place.place None c.loop-place-test.true (length-replicate (length c.args.literals.now) None)
