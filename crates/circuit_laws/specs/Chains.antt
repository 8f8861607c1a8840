-- Chains of a step function, which returns the next state, if there is one: the steps of a command
-- that leaves nothing to choose. Source: Brayton, Rudell, Sangiovanni-Vincentelli and Wang, "MIS: A
-- Multiple-Level Logic Optimization System" (1987): a command applies an operation again and again
-- until none applies.
use Rattle.std.specs.Prelude.{◌≡◌, Option, Some, None, List}
use Rattle.circuit_laws.specs.Greedy.{Follows, HasEnd}

-- a list of states leads from one state to another: each is what the step function returns for the
-- one before
abbrev pub Leads : {N : Type 0} → (N → Option N) → List N → N → N → Type 0
Leads step between from to = Follows (λ x y. step x ≡ Some y) between from to

-- steps lead from one state to another, at which no step applies
abbrev pub Chain : {N : Type 0} → (N → Option N) → N → N → Type 0
Chain step from to = HasEnd (λ x y. step x ≡ Some y) (λ x. step x ≡ None) from to
