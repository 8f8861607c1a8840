use Rattle.std.proofs.Common.{Some, None, refl, ◌∙◌}
use Rattle.line_words.specs.LineWords.{texts}
use Rattle.blif_lines.proofs.PairNames.{model_then_pairs}
use Rattle.blif_lines.proofs.subckt_words.long_subckt_name.Goals as goal

pub returns-in-None : goal.returns-in-None
returns-in-None c =
    c.long_pair_name.ensures
    ∙ model_then_pairs (texts c.args.words.now) c.first_word.result.now (texts c.other_words.result.now) None c.first_word.ensures c.other_words.ensures c.in-None.ensures

pub returns-in-Some : goal.returns-in-Some
returns-in-Some c = model_then_pairs (texts c.args.words.now) c.first_word.result.now _ (Some c.in-Some.len) c.first_word.ensures refl c.in-Some.ensures
