use Rattle.std.proofs.lemmas.Slice.Zip.{Zip-more, either_empty_from_Zip}
use Rattle.map_net.proofs.Leaving.{left_more, left_all}
use Rattle.map_net.proofs.left.tables_left.Goals as goal

pub loop-fate-preserved : goal.loop-fate-preserved
loop-fate-preserved c =
    let (first, second) = Zip-more c.loop-fate.fate-iterator c.next.new.self c.next.result
    (c.in-Some.fate, c.in-Some.table) c.in-Some.is c.next.ensures.steps in
    left_more c.args.leaves.now c.in-Some.fate.now c.in-Some.table.now _ _ _ _ _ _ _ _ _
    c.in_ok-rest.ensures.left c.in_ok-rest.ensures.rest first second
    c.loop-fate.invariant

pub returns : goal.returns
returns c =
    left_all _ _ _ _ _ _ (either_empty_from_Zip c.loop-fate.fate-iterator c.next.new.self
    c.next.result c.in-None.is c.next.ensures.steps) c.loop-fate.invariant
