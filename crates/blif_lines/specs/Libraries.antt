-- A library that may be missing. Source: the genlib format of SIS (UCB/ERL M92/41). Without a
-- library each line of a gate is refused.
use Rattle.std.specs.Prelude.{Option, Some, None, List}
use Rattle.genlib_format.specs.declared.gate.Gate.{Gate}
use Rattle.genlib_format.specs.Soundness.{IsSoundGates}

-- a library is sound if there is one
abbrev pub IsSoundLibrary : Option (List Gate) → Type 0
IsSoundLibrary None = Unit {0}
IsSoundLibrary (Some gates) = IsSoundGates gates
