-- The signals that tables and latches read, and the closure of names under reading. Source: De
-- Micheli, "Synthesis and Optimization of Digital Circuits", chapter 8 (logic networks: fan-in).
use Rattle.std.specs.Prelude.{◌≡◌, ℕ, Bool, true, List, [], ◌∷◌, ◌++◌, map, flat_map, bytes_eq, if◌then◌else◌}
use Rattle.circuit_model.specs.Names.{has}
use Rattle.circuit_model.specs.declared.circuit.Table.{Table}
use Rattle.circuit_model.specs.declared.circuit.Latch.{Latch}

-- the inputs of the tables of a name
unfoldable pub read_by_tables : List ℕ → List Table → List (List ℕ)
read_by_tables name tables = flat_map (λ (table : Table). if bytes_eq name table.output then table.inputs else []) tables

-- the inputs of the latches of a name
unfoldable pub read_by_latches : List ℕ → List Latch → List (List ℕ)
read_by_latches name latches = flat_map (λ (latch : Latch). if bytes_eq name latch.output then latch.input ∷ [] else []) latches

-- the outputs of latches
abbrev pub held_by : List Latch → List (List ℕ)
held_by latches = map (λ (latch : Latch). latch.output) latches

-- the least set of names that contains the roots and, with each name, all that it reads: each test
-- that passes the roots, and with a name all that it reads, passes the set
pub record IsReached (roots : List (List ℕ)) (tables : List Table) (latches : List Latch) (names : List (List ℕ)) : Type 0 where
  pub holds_roots : (name : List ℕ) → has roots name ≡ true → has names name ≡ true
  pub goes_on : (name other : List ℕ) → has names name ≡ true → has (read_by_tables name tables ++ read_by_latches name latches) other ≡ true → has names other ≡ true
  pub no_more : (test : List ℕ → Bool) → ((name : List ℕ) → has roots name ≡ true → test name ≡ true)
      → ((name other : List ℕ) → test name ≡ true → has (read_by_tables name tables ++ read_by_latches name latches) other ≡ true → test other ≡ true)
      → (name : List ℕ) → has names name ≡ true → test name ≡ true
