use Rattle.std.proofs.Common.{◌∙◌, sym}
use Rattle.blif_models.specs.Files.{place_of}
use Rattle.blif_models.proofs.ModelNames.{not_there, noted}
use Rattle.blif_models.proofs.file.note.Goals as goal

pub returns : goal.returns
returns c =
    noted (place_of c.args.names.now) (place_of c.insert.new.self) c.args.name.now c.args.place (not_there (place_of c.args.names.now c.args.name.now) (sym c.contains_key.ensures ∙ c.if-contains_key.false))
    (λ query. c.in_ok-_place.ensures.updates.0 (record { ref_ptr = (0, 0); now = query }))
