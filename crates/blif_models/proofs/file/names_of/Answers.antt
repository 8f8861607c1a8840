use Rattle.blif_models.specs.Files.{place_of}
use Rattle.blif_models.proofs.ModelNames.{names_more}
use Rattle.blif_models.proofs.file.names_of.Goals as goal

pub loop-place-preserved : goal.loop-place-preserved
loop-place-preserved c =
    names_more c.args.text.now c.args.models.now c.loop-place.place c.index-models-place.result c.name_of.result.now (place_of c.loop-place.names) (place_of c.note.new.names) c.loop-place-test.true
    c.index-models-place.is c.name_of.ensures c.loop-place.invariant c.in_ok-note.ensures
