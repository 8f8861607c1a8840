use Rattle.std.proofs.Common.{refl}
use Rattle.std.specs.Prelude.{[], slice_index_or}
use Rattle.blif_models.proofs.Rounds.{part_by}
use Rattle.blif_models.proofs.sizes.part.Goals as goal

pub returns : goal.returns
returns c =
    part_by c.args.file.now.text (slice_index_or c.args.file.now.models c.args.place []) c.lines-lines.result.now c.body.result.now _ c.min.result
    c.lines-lines.ensures c.body.ensures c.min.ensures refl
