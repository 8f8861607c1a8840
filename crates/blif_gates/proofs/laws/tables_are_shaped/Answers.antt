use Rattle.std.proofs.Common.{subst}
use Rattle.circuit_model.specs.Soundness.{IsShaped}
use Rattle.blif_gates.proofs.Told.{told, shaped}
use Rattle.blif_gates.proofs.laws.tables_are_shaped.Goals as goal

pub returns : goal.returns
returns c library cell words table e = let t = told library cell words table e in subst IsShaped t.is (shaped t.gate words)
