use Rattle.std.proofs.Common.{◌∙◌, ap, ◌||◌, List, ℕ}
use Rattle.circuit_model.specs.Names.{has}
use Rattle.circuit_checks.specs.NameChecks.{first_listed_twice, is_twice}
use Rattle.circuit_checks.proofs.Naming.{find_alike}
use Rattle.circuit_checks.proofs.name_check.first_listed_twice.Goals as goal

pub returns : goal.returns
unfolding first_listed_twice
returns c =
    c.first_of_either-found.ensures
    ∙ find_alike (λ (name : List ℕ). has c.in_ok-input_twice.input_twice name || has c.in_ok-output_twice.output_twice name)
    (λ (name : List ℕ). is_twice c.args.inputs.now name || is_twice c.args.outputs.now name)
    (λ name.
    ap (λ b. b || has c.in_ok-output_twice.output_twice name) (c.in_ok-input_twice.ensures name)
    ∙ ap (λ b. is_twice c.args.inputs.now name || b) (c.in_ok-output_twice.ensures name))
    c.args.in_order.now
