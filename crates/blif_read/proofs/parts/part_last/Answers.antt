use Rattle.blif_read.proofs.PartLast.{front_fits, rest_fits, before_is, behind_is}
use Rattle.blif_read.proofs.parts.part_last.Goals as goal

pub overflow_sub-moved : goal.overflow_sub-moved
overflow_sub-moved c = front_fits c.args.source.now c.args.lines.now c.front_lines-front.result.now c.rest_lines-rest.result.now c.front_lines-front.ensures c.rest_lines-rest.ensures

pub overflow_sub-moved-2 : goal.overflow_sub-moved-2
overflow_sub-moved-2 c = rest_fits c.args.source.now c.args.lines.now c.front_lines-front.result.now c.rest_lines-rest.result.now c.front_lines-front.ensures c.rest_lines-rest.ensures

pub slice_bounds-rotate_left-count : goal.slice_bounds-rotate_left-count
slice_bounds-rotate_left-count c = front_fits c.args.source.now c.args.lines.now c.front_lines-front.result.now c.rest_lines-rest.result.now c.front_lines-front.ensures c.rest_lines-rest.ensures

pub slice_bounds-rotate_left-start : goal.slice_bounds-rotate_left-start
slice_bounds-rotate_left-start c = front_fits c.args.source.now c.args.lines.now c.front_lines-front.result.now c.rest_lines-rest.result.now c.front_lines-front.ensures c.rest_lines-rest.ensures

pub returns-clause-beside : goal.returns-clause-beside
returns-clause-beside c =
    before_is c.args.source.now c.args.lines.now c.front_lines-front.result.now c.rest_lines-rest.result.now c.front_lines-front.ensures c.rest_lines-rest.ensures
    c.rotate_left.new.self c.rotate_left.ensures.after

pub returns-clause-part : goal.returns-clause-part
returns-clause-part c =
    behind_is c.args.source.now c.args.lines.now c.front_lines-front.result.now c.rest_lines-rest.result.now c.front_lines-front.ensures c.rest_lines-rest.ensures
    c.rotate_left.new.self c.rotate_left.ensures.after
