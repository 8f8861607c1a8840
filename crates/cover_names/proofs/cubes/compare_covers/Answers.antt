use Rattle.std.proofs.Common.{length, nat_cmp, ap₂, sym, ◌∙◌}
use Rattle.std.specs.Iterator.Adapters.{zip_first, zip_second}
use Rattle.std.specs.Slice.Iter.{iter_rest}
use Rattle.std.proofs.lemmas.Slice.Zip.{either_empty_from_Zip}
use Rattle.cover_names.specs.Literals.{cube_cmp}
use Rattle.cover_names.proofs.Orders.{compared_all}
use Rattle.cover_names.proofs.cubes.compare_covers.Goals as goal

pub returns : goal.returns
returns c =
    c.cmp.ensures ∙ ap₂ nat_cmp c.len.ensures c.len-2.ensures
    ∙ sym (compared_all cube_cmp (iter_rest (zip_first c.loop-cube.cube-iterator)) (iter_rest (zip_second c.loop-cube.cube-iterator)) (length c.args.one.now) (length c.args.other.now)
    (either_empty_from_Zip c.loop-cube.cube-iterator c.next.new.self c.next.result c.in-None.is c.next.ensures.steps) c.loop-cube.invariant.lengths)
    ∙ c.loop-cube.invariant.order
