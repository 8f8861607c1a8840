use Rattle.std.proofs.Common.{◌∙◌}
use Rattle.std.proofs.lemmas.Slice.Zip.{Zip-more, either_empty_from_Zip}
use Rattle.cover_names.proofs.Over.{over_more, over_all}
use Rattle.cover_names.proofs.cubes.cube_over.Goals as goal

pub loop-name-preserved : goal.loop-name-preserved
loop-name-preserved c =
    let (first, second) = Zip-more c.loop-name.name-iterator c.next.new.self c.next.result (c.in-Some.name, c.in-Some.place) c.in-Some.is c.next.ensures.steps in
    over_more c.in-Some.name.now c.in-Some.place.now _ _ _ _ _ _ _ c.in_ok-add_literal.ensures first second c.loop-name.invariant

pub returns : goal.returns
returns c =
    c.from_vec.ensures
    ∙ over_all _ _ _ _ (either_empty_from_Zip c.loop-name.name-iterator c.next.new.self c.next.result c.in-None.is c.next.ensures.steps) c.loop-name.invariant
