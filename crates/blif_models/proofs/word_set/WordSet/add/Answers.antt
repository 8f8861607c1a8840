use Rattle.std.proofs.Common.{◌∙◌, ap}
use Rattle.circuit_checks.specs.Sets.{with_name}
use Rattle.circuit_checks.proofs.Naming.{put_held}
use Rattle.circuit_tables.specs.Listing.{names_with}
use Rattle.blif_models.proofs.word_set.WordSet.add.Goals as goal

pub returns : goal.returns
unfolding with_name names_with
returns c =
    put_held c.self.inside.words.keys c.args.word c.insert.new.self.keys c.in_ok-_new.ensures.keys
    ∙ ap (λ words. with_name words c.args.word.now) c.self.view_is
