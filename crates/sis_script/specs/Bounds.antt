-- The bounds of the numbers that commands take, and the defaults if no number is given. Source: the
-- SIS manual's `eliminate` and `tech_decomp` (UCB/ERL M92/41); the greatest numbers, and `gen`, are
-- this program's own.
use Rattle.std.specs.Prelude.{ℕ, ◌-◌, ◌^◌}
use Rattle.sis_base.specs.declared.limits.TheConstants.{MAX_ROWS, MAX_INPUTS}

-- the greatest number of rows that `eliminate` can be asked to allow in a table: as many as a table
-- may have here
abbrev pub most_rows : ℕ
most_rows = MAX_ROWS

-- the number of rows that `eliminate` allows in a table by default
abbrev pub usual_rows : ℕ
usual_rows = 1000

-- the least number of inputs to which `tech_decomp` can be asked to limit a table
abbrev pub least_inputs : ℕ
least_inputs = 2

-- the greatest number of inputs to which `tech_decomp` can be asked to limit a table: as many as
-- one may have here
abbrev pub most_inputs : ℕ
most_inputs = MAX_INPUTS

-- the number of inputs to which `tech_decomp` limits a table by default
abbrev pub usual_inputs : ℕ
usual_inputs = 2

-- the greatest seed of `gen`
abbrev pub most_seed : ℕ
most_seed = 2 ^ 64 - 1

-- the least and the greatest number of tables of the circuit that `gen` makes
abbrev pub least_tables : ℕ
least_tables = 8

abbrev pub most_tables : ℕ
most_tables = 20000
