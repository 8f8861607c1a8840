-- What the division of one table by another one saves. No public clause needs these definitions.
-- Source: Brayton, Rudell, Sangiovanni-Vincentelli and Wang, "MIS: A Multiple-Level Logic
-- Optimization System" (1987); the SIS report (UCB/ERL M92/41), `resub`. The limit of `MAX_INPUTS`
-- inputs is the project's own.
use Rattle.std.specs.Prelude.{ℕ, ◌-◌, ◌==◌, ltb, Bool, ◌||◌, if◌then◌else◌, Option, Some, None, List, length}
use Rattle.std.specs.List.{list_all}
use Rattle.circuit_model.specs.Names.{has}
use Rattle.circuit_model.specs.Counts.{literals_of_table}
use Rattle.circuit_model.specs.declared.circuit.Table.{Table}
use Rattle.cover_names.specs.Literals.{Cube}
use Rattle.cover_names.specs.declared.literal.Literal.{Literal}
use Rattle.net_work.specs.Placed.{table_at}
use Rattle.net_resub.specs.Resubbed.{resubbed}
use Rattle.sis_base.specs.declared.limits.TheConstants.{MAX_INPUTS}

-- how many literals are saved if a table is divided by another one; 0 if it already reads that
-- one's signal, or becomes too wide
unfoldable pub saving_of : Table → Table → ℕ
saving_of by table =
    if has table.inputs by.output || ltb MAX_INPUTS (length (resubbed by table).inputs) then 0 else literals_of_table table - literals_of_table (resubbed by table)

-- the same for optional tables
abbrev pub saving_between : Option Table → Option Table → ℕ
saving_between None by = 0
saving_between (Some table) None = 0
saving_between (Some table) (Some by) = saving_of by table

-- the same for the tables at two indices, the divided one's first; a table does not divide itself
unfoldable pub saving_at : List (Option Table) → ℕ → ℕ → ℕ
saving_at slots place by = if place == by then 0 else saving_between (table_at slots place) (table_at slots by)

-- whether the literals of a cube have names among the given ones
abbrev pub is_cube_over : List (List ℕ) → Cube → Bool
is_cube_over names cube = list_all (λ (literal : Literal). has names literal.name) cube
