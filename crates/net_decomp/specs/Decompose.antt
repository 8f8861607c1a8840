-- The result of decomposing a network: the decomposed network, or that there is no room.
-- Source: the SIS report (UCB/ERL M92/41), `decomp` and `tech_decomp`. The limit of `MAX_NODES`
-- nodes is the project's own.
use Rattle.std.specs.Prelude.{Result, Ok, Err}
use Rattle.circuit_model.specs.declared.circuit.Circuit.{Circuit}
use Rattle.net_decomp.specs.Decomposed.{IsDecomposed, IsFull}
use Rattle.net_decomp.specs.declared.rule.Rule.{Rule}
use Rattle.net_core.specs.declared.adding.AddFault.{AddFault}
use Rattle.net_core.specs.declared.adding.AddFault.TheVariants.{NodeLimit, Memory}

-- a network is decomposed; or its steps lead to one that has no room for the next parts; running
-- out of memory needs no cause
abbrev pub HasDecomposed : Rule → Circuit → Result Circuit AddFault → Type 0
HasDecomposed rule old (Ok new) = IsDecomposed rule old new
HasDecomposed rule old (Err NodeLimit) = IsFull rule old
HasDecomposed rule old (Err Memory) = Unit {0}
