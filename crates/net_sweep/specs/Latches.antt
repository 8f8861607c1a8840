-- Latches copied out of a circuit, whose own list is ignored from then on, into slots that stay, so
-- that one can be removed without moving the others; and what is maintained to find those that
-- always hold one bit. Source: De Micheli, "Synthesis and Optimization of Digital Circuits",
-- chapter 9 (removal of registers that hold a constant); the SIS manual (UCB/ERL M92/41), `sweep`.
use Rattle.std.specs.Prelude.{◌≡◌, ℕ, Bool, true, Option, Some, None, is_some, List, [], ◌∷◌, find, slice_get, bytes_eq}
use Rattle.std.specs.Ordering.{nat_cmp}
use Rattle.std.specs.BTreeSet.{contains}
use Rattle.indexmap.specs.IndexMap.{get}
use Rattle.circuit_model.specs.Names.{has}
use Rattle.circuit_model.specs.Soundness.{outputs_of}
use Rattle.circuit_model.specs.declared.circuit.Latch.{Latch}
use Rattle.circuit_model.specs.declared.circuit.Circuit.{Circuit}
use Rattle.circuit_laws.specs.Edits.{timing_with}
use Rattle.net_wires.specs.Needed.{dont_care_reads}
use Rattle.net_wires.specs.Rules.{fixed_bit}
use Rattle.net_sweep.specs.Settled.{listed, table_step, IsNext, AreWaiting}
use Rattle.net_readers.specs.Fanouts.{is_in}
use Rattle.net_sweep.specs.declared.latches.TrackedLatches.{TrackedLatches}
use Rattle.net_sweep.specs.declared.steps.Step.{Step}
use Rattle.net_sweep.specs.declared.steps.Step.TheVariants.{Apply, Fix}

-- the remaining latches in slots, in order
unfoldable pub left_at : List (Option Latch) → List Latch
left_at [] = []
left_at (None ∷ slots) = left_at slots
left_at (Some latch ∷ slots) = latch ∷ left_at slots

-- the circuit with these latches; it has timing only if there is one
abbrev pub with_latches : Circuit → List Latch → Circuit
with_latches circuit latches = record circuit { latches = latches; timing = timing_with latches circuit.timing }

-- the bit that the latch of a slot always holds, if there is one
abbrev pub slot_bit : Circuit → Option Latch → Option Bool
slot_bit circuit None = None
slot_bit circuit (Some latch) = fixed_bit circuit latch

-- whether there is such a bit
abbrev pub is_fixed : Circuit → Option Latch → Bool
is_fixed circuit slot = is_some (slot_bit circuit slot)

-- the index and the bit of the first latch that always holds one bit, if there is one
abbrev pub IsFirstFixed : Circuit → List (Option Latch) → Option (ℕ × Bool) → Type 0
IsFirstFixed circuit slots None = find (is_fixed circuit) slots ≡ None
IsFirstFixed circuit slots (Some (place, bit)) =
    (latch : Latch) × (slice_get slots place ≡ Some (Some latch)) × (fixed_bit circuit latch ≡ Some bit) × (find (is_fixed circuit) slots ≡ Some (Some latch))

-- each name leads to its index, and no other name leads anywhere
pub record IsPlaced (places : List ℕ → Option ℕ) (names : List (List ℕ)) : Type 0 where
  pub placed : (place : ℕ) (name : List ℕ) → slice_get names place ≡ Some name → places name ≡ Some place
  pub only : (name : List ℕ) (place : ℕ) → places name ≡ Some place → slice_get names place ≡ Some name

-- each latch is listed under its input
abbrev pub AreInFanout : (List ℕ → Option (List ℕ)) → List (Option Latch) → Type 0
AreInFanout lists slots = (place : ℕ) (latch : Latch) → slice_get slots place ≡ Some (Some latch) → is_in (listed (lists latch.input)) place ≡ true

-- what is maintained beside a circuit is right. The names of its tables lead to their indices, the
-- leaves are those that its don't-care part reads, and the latches are listed under their inputs.
-- Each output has a list, and each latch that always holds one bit is in the worklist.
pub record IsBeside (slots : List (Option Latch)) (lists : List ℕ → Option (List ℕ)) (places : List ℕ → Option ℕ) (leaves : List (List ℕ)) (waits : ℕ → Bool) (circuit : Circuit) : Type 0 where
  pub placed : IsPlaced places (outputs_of circuit.tables)
  pub read : (name : List ℕ) → has leaves name ≡ dont_care_reads circuit name
  pub fanout : AreInFanout lists slots
  pub asked : (name : List ℕ) → has circuit.outputs name ≡ true → is_some (lists name) ≡ true
  pub waiting : AreWaiting (is_fixed circuit) waits slots

-- what `TrackedLatches` holds is right for a circuit
abbrev pub IsReady : TrackedLatches → Circuit → Type 0
IsReady tracked circuit =
    IsBeside tracked.slots.items (get bytes_eq tracked.fanout) (get bytes_eq tracked.table_places) tracked.leaves_read.keys (contains nat_cmp tracked.waiting) circuit

-- the next step of the first five rules, if there is one
abbrev pub IsNextStep : Circuit → List (Option Latch) → Option Step → Type 0
IsNextStep circuit slots None = (table_step circuit ≡ None) × (find (is_fixed circuit) slots ≡ None)
IsNextStep circuit slots (Some (Apply rule place)) = IsNext circuit (Some (rule, place))
IsNextStep circuit slots (Some (Fix place bit)) = (table_step circuit ≡ None) × IsFirstFixed circuit slots (Some (place, bit))
