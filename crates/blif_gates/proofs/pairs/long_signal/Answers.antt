use Rattle.std.proofs.Common.{Some, List, ℕ, length, ap, ◌∙◌}
use Rattle.std.specs.Borrow.{Bor}
use Rattle.std.specs.Option.{option_map}
use Rattle.blif_gates.specs.GateLines.{signal_in}
use Rattle.blif_gates.proofs.Texts.{long_found}
use Rattle.blif_gates.proofs.pairs.long_signal.Goals as goal

pub returns-in-None : goal.returns-in-None
returns-in-None c = ap (option_map (λ (word : Bor (List ℕ)). length (signal_in word.now))) c.in-None.ensures ∙ long_found c.args.words.now

pub returns-in-Some : goal.returns-in-Some
returns-in-Some c = ap (λ (signal : List ℕ). Some (length signal)) c.signal_in.ensures ∙ (ap (option_map (λ (word : Bor (List ℕ)). length (signal_in word.now))) c.in-Some.ensures ∙ long_found c.args.words.now)
