-- Which indices an elimination touches: its own, those of its fanouts, and those of the tables that
-- drive inputs of these. The value of any other table stays. No public clause needs these
-- definitions.
-- Source: Brayton, Rudell, Sangiovanni-Vincentelli and Wang, "MIS: A Multiple-Level Logic
-- Optimization System" (1987); De Micheli, "Synthesis and Optimization of Digital Circuits",
-- chapter 8 (the value of a vertex changes with its fanout and its literals).
use Rattle.std.specs.Prelude.{◌≡◌, ℕ, ℤ, true, false, Option, Some, List}
use Rattle.circuit_model.specs.Names.{has}
use Rattle.circuit_model.specs.declared.circuit.Table.{Table}
use Rattle.net_readers.specs.Fanouts.{is_in}
use Rattle.net_work.specs.Placed.{Placed, table_at}
use Rattle.net_work.specs.Slots.{inputs_at}
use Rattle.net_elim.specs.Waiting.{worth_at, waits_at}

-- indices to which those of the tables that drive some names were added
pub record IsGrown (slots : List (Option Table)) (names : List (List ℕ)) (before after : List ℕ) : Type 0 where
  pub more : (at : ℕ) → is_in before at ≡ true → is_in after at ≡ true
  pub drivers : (at : ℕ) (table : Table) → table_at slots at ≡ Some table → has names table.output ≡ true → is_in after at ≡ true

-- indices include a given one, and those of the tables that drive inputs of its table
pub record IsCovered (slots : List (Option Table)) (places : List ℕ) (place : ℕ) : Type 0 where
  pub own : is_in places place ≡ true
  pub drivers : (at : ℕ) (table : Table) → table_at slots at ≡ Some table → has (inputs_at slots place) table.output ≡ true → is_in places at ≡ true

-- indices to which another one was added, and those of the tables that drive inputs of its table
pub record IsJoined (slots : List (Option Table)) (place : ℕ) (before after : List ℕ) : Type 0 where
  pub more : (at : ℕ) → is_in before at ≡ true → is_in after at ≡ true
  pub covered : IsCovered slots after place

-- indices include all that the elimination of the table at an index touches
pub record AreTouched (slots : List (Option Table)) (name : List ℕ) (place : ℕ) (places : List ℕ) : Type 0 where
  pub own : IsCovered slots places place
  pub readers : (at : ℕ) → has (inputs_at slots at) name ≡ true → IsCovered slots places at

-- the values at some indices become those of the tables there, and all others stay
pub record AreRenewed (threshold : ℤ) (placed : Placed) (places : List ℕ) (before after : List (ℕ × ℤ)) : Type 0 where
  pub there : (at : ℕ) → is_in places at ≡ true → waits_at after at ≡ worth_at threshold placed at
  pub others : (at : ℕ) → is_in places at ≡ false → waits_at after at ≡ waits_at before at
