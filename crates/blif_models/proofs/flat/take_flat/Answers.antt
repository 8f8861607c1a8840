use Rattle.std.proofs.Common.{◌+◌, List, drop, ap, arith}
use Rattle.std.proofs.lemmas.Result.{err_from_is_err_and}
use Rattle.sis_text.specs.Entries.{Entry, entry_at}
use Rattle.blif_lines.specs.Steps.{take_entries}
use Rattle.blif_models.specs.Files.{lines_at}
use Rattle.blif_models.specs.Tables.{item_lines, lines_from, staying}
use Rattle.blif_models.specs.Contexts.{library_in, models_in, text_in}
use Rattle.blif_models.specs.declared.limits.TheConstants.{MAX_DEPTH}
use Rattle.blif_models.proofs.Feeding.{part_taken, part_fails, none_left, staying_split, staying_none}
use Rattle.blif_models.proofs.Flattening.{flat_whole, from_left, from_next, from_end, place_within}
use Rattle.blif_models.proofs.flat.take_flat.Goals as goal

pub loop-line-init : goal.loop-line-init
loop-line-init c = (
  omega arith,
  ap (λ (lines : List Entry). take_entries (library_in c.args.models.now) c.args.draft.now (staying lines))
      (flat_whole (library_in c.args.models.now) (models_in c.args.models.now) (lines_at (text_in c.args.models.now) c.args.lines.now)),
)

pub returns-in_err-take_item : goal.returns-in_err-take_item
returns-in_err-take_item c =
    let p = err_from_is_err_and c.from_residual.result c.from_residual.ensures.1 in
    let library = library_in c.args.models.now in
    let models = models_in c.args.models.now in
    let text = text_in c.args.models.now in
    let i = c.loop-line.line-index in
    let line = entry_at text c.line-item.result in
    rw (p.1, p.2) (part_fails library c.in_err-take_item.field-0.0 c.loop-line.draft c.take_item.new.draft _ _ (staying (lines_from library models MAX_DEPTH c.loop-line.place (drop i (lines_at text c.args.lines.now)))) _
    (staying_split _ _ _ (from_left library models MAX_DEPTH c.loop-line.place text c.args.lines.now i c.line-item.result c.loop-line-test.true c.line-item.is)) c.in_err-take_item.ensures c.loop-line.invariant.1)

pub loop-line-preserved : goal.loop-line-preserved
loop-line-preserved c =
    let library = library_in c.args.models.now in
    let models = models_in c.args.models.now in
    let text = text_in c.args.models.now in
    let i = c.loop-line.line-index in
    let line = entry_at text c.line-item.result in (
      place_within line c.loop-line.place i c.place_after-place.result c.loop-line.invariant.0 c.place_after-place.ensures,
      part_taken library c.loop-line.draft c.take_item.new.draft (staying (item_lines library models MAX_DEPTH c.loop-line.place line))
          (staying (lines_from library models MAX_DEPTH c.place_after-place.result (drop (i + 1) (lines_at text c.args.lines.now)))) (staying (lines_from library models MAX_DEPTH c.loop-line.place (drop i (lines_at text c.args.lines.now)))) _
          (staying_split _ _ _ (from_next library models MAX_DEPTH c.loop-line.place c.place_after-place.result text c.args.lines.now i c.line-item.result c.loop-line-test.true c.line-item.is c.place_after-place.ensures))
          c.in_ok-take_item.ensures c.loop-line.invariant.1,
    )

pub returns : goal.returns
returns c =
    let library = library_in c.args.models.now in
    let models = models_in c.args.models.now in
    let text = text_in c.args.models.now in
    none_left library c.loop-line.draft (staying (lines_from library models MAX_DEPTH c.loop-line.place (drop c.loop-line.line-index (lines_at text c.args.lines.now)))) _
    (staying_none _ (from_end library models MAX_DEPTH c.loop-line.place text c.args.lines.now c.loop-line.line-index c.loop-line-test.false)) c.loop-line.invariant.1
