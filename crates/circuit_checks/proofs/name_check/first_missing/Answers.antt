use Rattle.std.proofs.Common.{◌∙◌, ap, not, List, ℕ}
use Rattle.circuit_model.specs.Names.{has}
use Rattle.circuit_checks.specs.NameChecks.{first_missing}
use Rattle.circuit_checks.proofs.Naming.{find_alike}
use Rattle.circuit_checks.proofs.name_check.first_missing.Goals as goal

pub returns : goal.returns
unfolding first_missing
returns c =
    c.first_outside-found.ensures
    ∙ find_alike (λ (name : List ℕ). not (has c.in_ok-set.set name)) (λ (name : List ℕ). not (has c.args.known.now name))
    (λ name. ap not (c.in_ok-set.ensures name)) c.args.names.now
