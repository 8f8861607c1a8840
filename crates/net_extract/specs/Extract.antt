-- The result of extraction from a network: the network in which no candidate saves literals; or a
-- refusal, with the first table that has too many kernels, or because there is no room for another
-- table. Source: the SIS report (UCB/ERL M92/41), `fx`, `gkx` and `gcx`. The limits are the
-- project's own.
use Rattle.std.specs.Prelude.{Result, Ok, Err}
use Rattle.circuit_model.specs.declared.circuit.Circuit.{Circuit}
use Rattle.net_candidates.specs.Extracting.{IsExtracted, IsFull, IsUnlistable}
use Rattle.net_candidates.specs.declared.rule.Rule.{Rule}
use Rattle.net_extract.specs.declared.fault.ExtractFault.{ExtractFault}
use Rattle.net_extract.specs.declared.fault.ExtractFault.TheVariants.{KernelLimit, NodeLimit, Memory}

-- the network after extraction; or its steps lead to a first table with too many kernels, or to a
-- network without room for the next table; running out of memory needs no cause
abbrev pub HasExtracted : Rule → Circuit → Result Circuit ExtractFault → Type 0
HasExtracted rule old (Ok new) = IsExtracted rule old new
HasExtracted rule old (Err (KernelLimit name)) = IsUnlistable rule old name
HasExtracted rule old (Err NodeLimit) = IsFull rule old
HasExtracted rule old (Err Memory) = Unit {0}
