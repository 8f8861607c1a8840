-- What steps of sweep keep of a circuit. Source: De Micheli, "Synthesis and Optimization of Digital
-- Circuits", chapters 8 and 9 (equivalent networks; removal of registers that hold a constant);
-- BLIF appendix of the SIS report (UCB/ERL M92/41) for latches.
use Rattle.std.specs.Prelude.{◌≡◌, ℕ, ◌+◌, ◌≤◌, Bool, true, false, ◌&&◌, Some, List, length, map, bytes_eq}
use Rattle.std.specs.List.{AllByRecursion, list_any}
use Rattle.circuit_model.specs.Names.{has, all_different}
use Rattle.circuit_model.specs.Runs.{bit_of, latch_outputs, next_state, Refines}
use Rattle.circuit_model.specs.Soundness.{IsSound}
use Rattle.circuit_model.specs.declared.circuit.Table.{Table}
use Rattle.circuit_model.specs.declared.circuit.Latch.{Latch}
use Rattle.circuit_model.specs.declared.circuit.Circuit.{Circuit}
use Rattle.circuit_laws.specs.Edits.{timing_with}
use Rattle.circuit_laws.specs.Left.{ConstantLatch, KeepsLeft}
use Rattle.circuit_laws.specs.Same.{IsAssignment}
use Rattle.net_wires.specs.Rules.{starts_at}

-- whether a latch of that name may start at that bit and need not start at the other one
abbrev pub may_begin : Circuit → ConstantLatch → Bool
may_begin circuit held = list_any (λ (latch : Latch). bytes_eq held.0 latch.output && starts_at latch.init held.1) circuit.latches

-- the given latches have their bits in a state
abbrev pub HaveBits : Circuit → List ConstantLatch → List Bool → Type 0
HaveBits circuit held state = AllByRecursion (λ (latch : ConstantLatch). bit_of (latch_outputs circuit) state latch.0 ≡ Some latch.1) held

-- the new circuit is sound and refines the old one; each remaining signal keeps its value at each
-- leaf assignment in which the latches of `held` have their bits. These latches are different, and
-- each may start at its bit and need not start at the other one; once they have their bits they
-- keep them at each step; and they are no latches any more.
pub record IsKept (old new : Circuit) : Type 0 where
  pub sound : IsSound new
  pub refines : Refines old new
  pub held : List ConstantLatch
  pub different : all_different (map (λ (latch : ConstantLatch). latch.0) held) ≡ true
  pub begun : AllByRecursion (λ (latch : ConstantLatch). may_begin old latch ≡ true) held
  pub stays : (state row : List Bool) → IsAssignment old state row → HaveBits old held state → HaveBits old held (next_state old state row)
  pub gone : AllByRecursion (λ (latch : ConstantLatch). has (latch_outputs new) latch.0 ≡ false) held
  pub left : KeepsLeft held old new

-- the name, the ports, the clocks and the don't-care part stay, and so does the timing as long as
-- there is a latch
pub record KeepsFrame (old new : Circuit) : Type 0 where
  pub name : new.name ≡ old.name
  pub inputs : new.inputs ≡ old.inputs
  pub outputs : new.outputs ≡ old.outputs
  pub clocks : new.clocks ≡ old.clocks
  pub timing : new.timing ≡ timing_with new.latches old.timing
  pub dont_care : new.dont_care ≡ old.dont_care

-- there are no more tables and latches together, and no table has more rows or inputs than the
-- largest had, except that a constant 1 has one row
pub record IsNoLarger (old new : Circuit) : Type 0 where
  pub nodes : length new.tables + length new.latches ≤ length old.tables + length old.latches
  pub rows : (most : ℕ) → 1 ≤ most → AllByRecursion (λ (table : Table). length table.rows ≤ most) old.tables
      → AllByRecursion (λ (table : Table). length table.rows ≤ most) new.tables
  pub inputs : (most : ℕ) → AllByRecursion (λ (table : Table). length table.inputs ≤ most) old.tables
      → AllByRecursion (λ (table : Table). length table.inputs ≤ most) new.tables
