-- The indices of the table and of the latch of a signal. Source: BLIF appendix of the SIS report
-- (UCB/ERL M92/41): signals are known by their names alone.
use Rattle.std.specs.Prelude.{◌≡◌, ℕ, Option, None, List, find, slice_get, bytes_eq}
use Rattle.std.specs.Option.{option_map_or}
use Rattle.circuit_model.specs.Values.{driver}
use Rattle.circuit_model.specs.declared.circuit.Table.{Table}
use Rattle.circuit_model.specs.declared.circuit.Latch.{Latch}

-- the latch of a signal: the first with that output
unfoldable pub holder : List Latch → List ℕ → Option Latch
holder latches signal = find (λ (latch : Latch). bytes_eq signal latch.output) latches

-- the item at an index, if there is one
abbrev pub item_at : {X : Type 0} → List X → Option ℕ → Option X
item_at items place = option_map_or (slice_get items) place None

-- the indices lead from each signal to its table
abbrev pub LeadsToTables : (List ℕ → Option ℕ) → List Table → Type 0
LeadsToTables places tables = (signal : List ℕ) → item_at tables (places signal) ≡ driver tables signal

-- the indices lead from each signal to its latch
abbrev pub LeadsToLatches : (List ℕ → Option ℕ) → List Latch → Type 0
LeadsToLatches places latches = (signal : List ℕ) → item_at latches (places signal) ≡ holder latches signal
