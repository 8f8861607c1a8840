use Rattle.std.proofs.Common.{◌-◌, arith, ◌∙◌}
use Rattle.sis_text.specs.Entries.{entry_at}
use Rattle.blif_models.specs.Files.{lines_at}
use Rattle.blif_models.specs.Contexts.{library_in, models_in, text_in}
use Rattle.blif_models.proofs.Flattening.{flat_zero, flat_begins, flat_goes_on, flat_ends, place_within}
use Rattle.blif_models.proofs.flat.+flat.Goals as goal

pub flat_lines-returns-then-depth-eq0 : goal.flat_lines-returns-then-depth-eq0
flat_lines-returns-then-depth-eq0 t c =
    c.new-flat.ensures.items
    ∙ flat_zero (library_in c.args.models.now) (models_in c.args.models.now) c.args.depth (lines_at (text_in c.args.models.now) c.args.lines.now) c.if-depth-eq0.true

pub flat_lines-loop-line-init : goal.flat_lines-loop-line-init
flat_lines-loop-line-init t c = (
  omega arith,
  flat_begins (library_in c.args.models.now) (models_in c.args.models.now) c.args.depth (lines_at (text_in c.args.models.now) c.args.lines.now) c.new-flat.result.items c.new-flat.ensures.items c.if-depth-eq0.false,
)

pub flat_lines-loop-line-preserved : goal.flat_lines-loop-line-preserved
flat_lines-loop-line-preserved t c = (
  place_within (entry_at (text_in c.args.models.now) c.line-item.result) c.loop-line.place c.loop-line.line-index c.place_after-place.result c.loop-line.invariant.0 c.place_after-place.ensures,
  flat_goes_on (library_in c.args.models.now) (models_in c.args.models.now) (c.args.depth - 1) c.loop-line.place c.place_after-place.result (text_in c.args.models.now) c.args.lines.now c.loop-line.line-index c.line-item.result
      c.loop-line.flat.items c.add_flat.new.flat.items _ c.loop-line-test.true c.line-item.is c.in_ok-add_flat.ensures c.place_after-place.ensures c.loop-line.invariant.1,
)

pub flat_lines-returns : goal.flat_lines-returns
flat_lines-returns t c =
    flat_ends (library_in c.args.models.now) (models_in c.args.models.now) (c.args.depth - 1) c.loop-line.place (text_in c.args.models.now) c.args.lines.now c.loop-line.line-index c.loop-line.flat.items _
    c.loop-line-test.false c.loop-line.invariant.1
