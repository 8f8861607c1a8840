use Rattle.cube_packed.proofs.PlaneMasks.{masks_long, without_row}
use Rattle.cube_packed.proofs.row.PackedRowRow.without.Goals as goal

pub append_without-requires : goal.append_without-requires
append_without-requires c = (masks_long c.args.self.now c.args.mask.now c.planes.result.0.now c.planes.result.1.now c.planes-2.result.0.now c.planes-2.result.1.now c.as_slice.result.now c.in_ok-masks.masks.items c.requires c.planes.ensures.cube c.planes-2.ensures.cube c.as_slice.ensures c.in_ok-masks.ensures).0

pub append_without-requires-2 : goal.append_without-requires-2
append_without-requires-2 c = (masks_long c.args.self.now c.args.mask.now c.planes.result.0.now c.planes.result.1.now c.planes-2.result.0.now c.planes-2.result.1.now c.as_slice-2.result.now c.in_ok-masks.masks.items c.requires c.planes.ensures.cube c.planes-2.ensures.cube c.as_slice-2.ensures c.in_ok-masks.ensures).1

pub invariant_of-result : goal.invariant_of-result
invariant_of-result c =
    (without_row c.width.result c.args.self.now c.args.mask.now c.planes.result.0.now c.planes.result.1.now c.planes-2.result.0.now c.planes-2.result.1.now c.as_slice.result.now c.as_slice-2.result.now c.in_ok-masks.masks.items
    c.in_ok-words.words.items c.append_without.new.made.items c.append_without-2.new.made.items c.width.ensures c.requires c.planes.ensures.literals c.planes-2.ensures.literals c.planes.ensures.cube c.planes-2.ensures.cube
    c.as_slice.ensures c.as_slice-2.ensures c.in_ok-masks.ensures c.append_without-2.ensures.fit c.in_ok-words.ensures.items c.in_ok-append_without.ensures.words c.in_ok-append_without-2.ensures.words).1

pub returns : goal.returns
returns c =
    (without_row c.width.result c.args.self.now c.args.mask.now c.planes.result.0.now c.planes.result.1.now c.planes-2.result.0.now c.planes-2.result.1.now c.as_slice.result.now c.as_slice-2.result.now c.in_ok-masks.masks.items
    c.in_ok-words.words.items c.append_without.new.made.items c.append_without-2.new.made.items c.width.ensures c.requires c.planes.ensures.literals c.planes-2.ensures.literals c.planes.ensures.cube c.planes-2.ensures.cube
    c.as_slice.ensures c.as_slice-2.ensures c.in_ok-masks.ensures c.append_without-2.ensures.fit c.in_ok-words.ensures.items c.in_ok-append_without.ensures.words c.in_ok-append_without-2.ensures.words).0
