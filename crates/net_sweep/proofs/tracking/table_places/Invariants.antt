use Rattle.std.proofs.Common.{take, bytes_eq}
use Rattle.indexmap.specs.IndexMap.{get}
use Rattle.circuit_model.specs.Soundness.{outputs_of}
use Rattle.net_sweep.specs.Latches.{IsPlaced}
use Rattle.net_sweep.proofs.tracking.table_places.Given as goal

abbrev pub invariant-loop-place : goal.invariant-loop-place
invariant-loop-place l = IsPlaced (get bytes_eq l.places) (outputs_of (take l.place l.tables))
