use Rattle.std.proofs.Common.{option_copied}
use Rattle.line_words.specs.LineWords.{texts}
use Rattle.blif_models.specs.Flat.{added}
use Rattle.blif_models.proofs.Feeding.{alone}
use Rattle.blif_models.proofs.first_model.take_added.Goals as goal

pub returns : goal.returns
returns c = alone (option_copied c.args.library) c.take.result c.args.draft.now c.take.new.self (added (texts c.args.words.now)) c.take.ensures
