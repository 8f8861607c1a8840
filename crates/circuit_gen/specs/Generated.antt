-- The circuit of a seed and a number of tables: tables of two inputs each, drawn one after the
-- other, and eight latches.
-- Source: the parts are those of the BLIF appendix of the SIS report (UCB/ERL M92/41); the rule is
-- the project's own, for trials. Signals have numbers: the 16 inputs come first, then the outputs
-- of the 8 latches, then those of the tables.
use Rattle.std.specs.Prelude.{ℕ, zero, suc, ◌+◌, ◌-◌, ◌%◌, ◌==◌, nat_lt, Bool, true, false, None, List, [], ◌∷◌, ◌++◌, map, decimal, codes, if◌then◌else◌}
use Rattle.std.specs.List.{range_with_len}
use Rattle.circuit_model.specs.declared.circuit.Tri.{Tri}
use Rattle.circuit_model.specs.declared.circuit.Tri.TheVariants.{One, Zero, Free}
use Rattle.circuit_model.specs.declared.circuit.Table.{Table}
use Rattle.circuit_model.specs.declared.circuit.Latch.{Latch}
use Rattle.circuit_model.specs.declared.circuit.Circuit.{Circuit}
use Rattle.circuit_gen.specs.Draws.{next, drawn}
use Rattle.circuit_gen.specs.declared.gates.Gate.{Gate}
use Rattle.circuit_gen.specs.declared.gates.Gate.TheVariants.{And, Nand, Or, Xor}

-- the name of a signal: `i` and its number for an input, `l` for a latch, `t` for a table, each
-- counted from 0
unfoldable pub signal : ℕ → List ℕ
signal number =
    if nat_lt number 16
    then codes "i" ++ decimal number
    else if nat_lt number 24 then codes "l" ++ decimal (number - 16)
    else codes "t" ++ decimal (number - 24)

-- the names of `count` signals from a number on
abbrev pub signals : ℕ → ℕ → List (List ℕ)
signals first count = map signal (range_with_len first count)

-- the four gates
abbrev pub gate_of : ℕ → Gate
gate_of number =
    if number == 0 then And
    else if number == 1 then Nand
    else if number == 2 then Or
    else Xor

-- the rows of a gate, and its phase
abbrev pub rows_of : Gate → List (List Tri)
rows_of And = (One ∷ One ∷ []) ∷ []
rows_of Nand = (One ∷ One ∷ []) ∷ []
rows_of Or = (One ∷ Free ∷ []) ∷ (Free ∷ One ∷ []) ∷ []
rows_of Xor = (One ∷ Zero ∷ []) ∷ (Zero ∷ One ∷ []) ∷ []

abbrev pub phase_of : Gate → Bool
phase_of Nand = false
phase_of other = true

-- the table of an index: a gate over two signals
abbrev pub gate_table : ℕ → ℕ → ℕ → Gate → Table
gate_table place first second gate = record {
  inputs = signal first ∷ signal second ∷ [];
  output = signal (24 + place);
  rows = rows_of gate;
  phase = phase_of gate;
}

-- the second signal that is drawn, or the one after the first if the first was drawn again
abbrev pub second_of : ℕ → ℕ → ℕ → ℕ
second_of bound first second = if second == first then (first + 1) % bound else second

-- the table of an index, drawn after a number: two signals of those before it, then its gate
unfoldable pub table_behind : ℕ → ℕ → Table
table_behind number place =
    let first = drawn (next number) (24 + place) in
    let second = drawn (next (next number)) (24 + place) in
    gate_table place first (second_of (24 + place) first second)
    (gate_of (drawn (next (next (next number))) 4))

-- the last number before those of an index, by the seed: each table takes three
unfoldable pub number_at : ℕ → ℕ → ℕ
number_at seed zero = seed
number_at seed (suc place) = next (next (next (number_at seed place)))

-- the table of an index, by the seed
abbrev pub table_at : ℕ → ℕ → Table
table_at seed place = table_behind (number_at seed place) place

-- the latch of an index: its input is the signal of this index among the last eight
abbrev pub latch_at : ℕ → ℕ → Latch
latch_at tables place =
    record { input = signal (16 + tables + place); output = signal (16 + place); init = 0 }

-- the circuit: the outputs are the last eight signals, which are tables if there are at least eight
unfoldable pub generated : ℕ → ℕ → Circuit
generated seed tables = record {
  name = codes "gen";
  inputs = signals 0 16;
  outputs = signals (16 + tables) 8;
  clocks = [];
  timing = None;
  latches = map (latch_at tables) (range_with_len 0 8);
  tables = map (table_at seed) (range_with_len 0 tables);
  dont_care = [];
}
