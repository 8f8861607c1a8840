-- What is kept from each state to the next is kept from the first to the last; and chains from one
-- state have one end.
use Rattle.std.proofs.Common.{◌≡◌, Option, Some, None, [], ◌∷◌, refl, sym, ◌∙◌}
use Rattle.std.proofs.lemmas.Option.{none-some, same_Some}
use Rattle.circuit_laws.specs.Chains.{Chain}
use Rattle.circuit_laws.proofs.Greedy.{ends_one}

pub chain_none : {N : Type 0} (step : N → Option N) (from : N) → step from ≡ None → Chain step from from
chain_none step from none = record { reached = record { between = []; steps = refl }; done = none }

-- a step in front of a chain
pub chain_before : {N : Type 0} (step : N → Option N) (from next last : N) → step from ≡ Some next → Chain step next last → Chain step from last
chain_before step from next last one chain = record { reached = record { between = next ∷ chain.reached.between; steps = (one, chain.reached.steps) }; done = chain.done }

pub chain_same : {N : Type 0} (step : N → Option N) (from first second : N) → Chain step from first → Chain step from second → first ≡ second
chain_same step from first second one other =
    ends_one (λ x y. step x ≡ Some y) (λ x y z a b. same_Some y z (sym a ∙ b)) (λ x. step x ≡ None) (λ x none y some. none-some y (sym none ∙ some)) from first second one other
