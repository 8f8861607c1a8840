use Rattle.std.proofs.Common.{List, ℕ, ap, ◌∙◌}
use Rattle.std.specs.Borrow.{Bor}
use Rattle.std.specs.Option.{option_and_then}
use Rattle.line_words.specs.LineWords.{long_name}
use Rattle.blif_lines.specs.Lines.{pair_names}
use Rattle.blif_lines.proofs.PairNames.{long_found}
use Rattle.blif_lines.proofs.subckt_words.long_pair_name.Goals as goal

pub returns-in-None : goal.returns-in-None
returns-in-None c = ap (option_and_then (λ (word : Bor (List ℕ)). long_name (pair_names word.now))) c.in-None.ensures ∙ long_found c.args.words.now

pub returns-in-Some : goal.returns-in-Some
returns-in-Some c =
    c.long_in_pair.ensures
    ∙ (ap (option_and_then (λ (word : Bor (List ℕ)). long_name (pair_names word.now))) c.in-Some.ensures ∙ long_found c.args.words.now)
