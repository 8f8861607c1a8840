-- Worked rows: the results of the edits on small circuits.
use Rattle.std.proofs.Common.{◌≡◌, ℕ, true, false, Option, Some, None, List, [], ◌∷◌, codes, refl}
use Rattle.circuit_model.specs.declared.circuit.Tri.TheVariants.{Zero}
use Rattle.circuit_model.specs.declared.circuit.Kind.TheVariants.{Re}
use Rattle.circuit_model.specs.declared.circuit.Table.{Table}
use Rattle.circuit_model.specs.declared.circuit.Latch.{Latch}
use Rattle.circuit_model.specs.declared.circuit.Timing.{Timing}
use Rattle.circuit_model.specs.declared.circuit.Circuit.{Circuit}
use Rattle.circuit_laws.specs.Edits.{replaced, with_added, with_kept, with_removed, with_fixed, tables_kept, latches_kept, is_read}

-- `.latch k q 2`, `.names k / 1`, output q
abbrev held : List Latch → Option Timing → List Table → Circuit
held latches timing tables = record {
  name = codes "m";
  inputs = [];
  outputs = codes "q" ∷ [];
  clocks = [];
  timing = timing;
  latches = latches;
  tables = tables;
  dont_care = [];
}

abbrev one_of : List ℕ → Table
one_of name = record { inputs = []; output = name; rows = [] ∷ []; phase = true }

abbrev held_before : Circuit
held_before = held (record { input = codes "k"; output = codes "q"; init = 2 } ∷ []) (Some record { kind = Re; control = None }) (one_of (codes "k") ∷ [])

-- the latch becomes `.names q / 1` and the timing is removed; then nothing reads k, and it is
-- removed
row_fixed : with_fixed held_before (codes "q") true ≡ held [] None (one_of (codes "k") ∷ one_of (codes "q") ∷ [])
unfolding with_fixed with_added with_kept tables_kept latches_kept
row_fixed = refl

row_unread : is_read (with_fixed held_before (codes "q") true) (codes "k") ≡ false
unfolding is_read with_fixed with_added with_kept tables_kept latches_kept
row_unread = refl

row_removed : with_removed (with_fixed held_before (codes "q") true) (codes "k") ≡ held [] None (one_of (codes "q") ∷ [])
unfolding with_fixed with_added with_kept tables_kept latches_kept
row_removed = refl

-- the table of k is replaced by an inverter of q, at the same position
abbrev inverter : List ℕ → List ℕ → Table
inverter input output = record { inputs = input ∷ []; output = output; rows = (Zero ∷ []) ∷ []; phase = true }

row_replaced : replaced (one_of (codes "k") ∷ one_of (codes "p") ∷ []) (inverter (codes "q") (codes "k")) ≡ inverter (codes "q") (codes "k") ∷ one_of (codes "p") ∷ []
unfolding replaced
row_replaced = refl
