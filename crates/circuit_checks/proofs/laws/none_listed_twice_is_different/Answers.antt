use Rattle.std.proofs.Common.{◌≡◌, true}
use Rattle.circuit_model.specs.Names.{has}
use Rattle.circuit_checks.proofs.Bridges.{inputs_from_listed, outputs_from_listed, listed_from_different, all_front, all_back}
use Rattle.circuit_checks.proofs.laws.none_listed_twice_is_different.Goals as goal

pub returns : goal.returns
returns c = λ inputs outputs in_order m. (
  (λ h. (
    inputs_from_listed inputs outputs in_order (all_front (λ name. has in_order name ≡ true) inputs outputs m) h,
    outputs_from_listed inputs outputs in_order (all_back (λ name. has in_order name ≡ true) inputs outputs m) h,
  )),
  (λ d. listed_from_different inputs outputs in_order d.0 d.1),
)
