-- Valuations: a bit for each signal, and those that agree with the tables. Source: De Micheli,
-- "Synthesis and Optimization of Digital Circuits", chapter 8: a logic network is a set of
-- equations, one for each local function, which the values of its signals solve.
use Rattle.std.specs.Prelude.{◌≡◌, ℕ, Bool, Some, List, unwrap_or}
use Rattle.circuit_model.specs.Values.{Leaves, driver, driven_value}
use Rattle.circuit_model.specs.declared.circuit.Table.{Table}

-- the value that the equations give a signal, if the other signals have these values: a leaf's own
-- bit; the value of the table that drives it; else false
abbrev pub due : List Table → Leaves → (List ℕ → Bool) → List ℕ → Bool
due tables leaves value signal = unwrap_or (leaves signal) (driven_value (driver tables signal) value)

-- each signal has the value that the equations give it
abbrev pub IsValued : List Table → Leaves → (List ℕ → Bool) → Type 0
IsValued tables leaves value = (signal : List ℕ) → value signal ≡ due tables leaves value signal

-- each driven signal has its table's value; the other signals may have any value
abbrev pub Obeys : List Table → (List ℕ → Bool) → Type 0
Obeys tables value =
    (signal : List ℕ) (table : Table) → driver tables signal ≡ Some table → value signal ≡ driven_value (Some table) value
