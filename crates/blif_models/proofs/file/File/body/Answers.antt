use Rattle.std.proofs.Common.{◌∙◌, ap, [], slice_index_or}
use Rattle.blif_models.specs.Files.{models_at}
use Rattle.blif_models.proofs.LineRuns.{body_at}
use Rattle.blif_models.proofs.file.File.body.Goals as goal

pub returns : goal.returns
returns c =
    rw (← c.self.view_is)
    (c.lines_in.ensures c.self.inside.text.now ∙ ap (λ bodies. slice_index_or (models_at c.self.inside.text.now bodies) c.args.place []) c.as_slice.ensures.value
    ∙ body_at _ _ c.args.place c.self.invariant.0)
