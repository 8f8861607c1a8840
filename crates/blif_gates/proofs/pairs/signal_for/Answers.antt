use Rattle.std.proofs.Common.{Option, List, ℕ, [], ap, ◌∙◌}
use Rattle.std.specs.Borrow.{Bor}
use Rattle.std.specs.Option.{option_map_or}
use Rattle.blif_gates.specs.GateLines.{signal_in}
use Rattle.blif_gates.proofs.Texts.{signal_found}
use Rattle.blif_gates.proofs.pairs.signal_for.Goals as goal

pub returns-in-None : goal.returns-in-None
returns-in-None c =
    c.as_slice.ensures
    ∙ (ap (λ (found : Option (Bor (List ℕ))). option_map_or (λ (word : Bor (List ℕ)). signal_in word.now) found []) c.in-None.ensures
    ∙ signal_found c.args.words.now c.args.pin.now)

pub returns-in-Some : goal.returns-in-Some
returns-in-Some c =
    c.signal_in.ensures
    ∙ (ap (λ (found : Option (Bor (List ℕ))). option_map_or (λ (word : Bor (List ℕ)). signal_in word.now) found []) c.in-Some.ensures
    ∙ signal_found c.args.words.now c.args.pin.now)
