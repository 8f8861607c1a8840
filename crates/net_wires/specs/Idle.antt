-- A table without fanout, and the circuit in which it is the constant 0: the end of sweep does not
-- depend on such a table's rows. Source: the SIS manual (UCB/ERL M92/41), `sweep`: nodes that do
-- not fan out to outputs or latches that matter are removed.
use Rattle.std.specs.Prelude.{◌≡◌, ℕ, true, false, List}
use Rattle.circuit_model.specs.Names.{has}
use Rattle.circuit_model.specs.Soundness.{outputs_of}
use Rattle.circuit_model.specs.declared.circuit.Circuit.{Circuit}
use Rattle.circuit_laws.specs.Edits.{is_read, is_root, with_replaced, constant_table}

-- some table drives the signal, and nothing reads it: no table and not the don't-care part, and it
-- is no output and no latch's input
pub record IsIdle (circuit : Circuit) (name : List ℕ) : Type 0 where
  pub driven : has (outputs_of circuit.tables) name ≡ true
  pub unread : is_read circuit name ≡ false
  pub unasked : is_root circuit name ≡ false

-- the circuit in which the table of a signal is the constant 0
abbrev pub with_emptied : Circuit → List ℕ → Circuit
with_emptied circuit name = with_replaced circuit (constant_table name false)
