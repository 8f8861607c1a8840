use Rattle.std.proofs.Common.{◌∙◌, ap}
use Rattle.circuit_model.specs.Names.{has}
use Rattle.circuit_checks.proofs.Naming.{held}
use Rattle.blif_models.proofs.word_set.WordSet.holds.Goals as goal

pub returns : goal.returns
returns c = c.contains.ensures ∙ held c.args.word.now c.self.inside.words.keys ∙ ap (λ words. has words c.args.word.now) c.self.view_is
