use Rattle.std.proofs.Common.{◌+◌, ap}
use Rattle.std.proofs.lemmas.Result.{err_from_is_err_and}
use Rattle.blif_models.specs.Files.{lines_at}
use Rattle.blif_models.specs.Made.{made_in}
use Rattle.blif_models.specs.Instances.{frames_in}
use Rattle.blif_models.specs.Contexts.{library_in, models_in, text_in}
use Rattle.blif_models.specs.declared.limits.TheConstants.{MAX_DEPTH}
use Rattle.blif_models.proofs.Making.{all_made, none_made, outer_none}
use Rattle.blif_models.proofs.made.made_names.Goals as goal

pub returns-in_err-make_in : goal.returns-in_err-make_in
returns-in_err-make_in c =
    let p = err_from_is_err_and c.from_residual.result c.from_residual.ensures.1 in
    let names = made_in (library_in c.args.models.now) (models_in c.args.models.now) (MAX_DEPTH + 1) (lines_at (text_in c.args.models.now) c.args.lines.now) in
    let failed = rw (outer_none (frames_in c.new-frames.result.items) names (ap frames_in c.new-frames.ensures.items)) at c.in_err-make_in.ensures.made in
    rw (p.1, p.2) (none_made c.in_err-make_in.field-0.0 c.new-made.result c.make_in.new.made names c.new-made.ensures failed)

pub returns : goal.returns
returns c =
    let names = made_in (library_in c.args.models.now) (models_in c.args.models.now) (MAX_DEPTH + 1) (lines_at (text_in c.args.models.now) c.args.lines.now) in
    let done = rw (outer_none (frames_in c.new-frames.result.items) names (ap frames_in c.new-frames.ensures.items)) at c.in_ok-make_in.ensures.made in
    all_made c.new-made.result c.make_in.new.made names c.new-made.ensures done
