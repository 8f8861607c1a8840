-- The first fault of the tables of a don't-care part: the first name that breaks a rule. Source:
-- BLIF appendix of the SIS report (UCB/ERL M92/41), `.exdc`: tables over the primary inputs and the
-- latches' outputs, each known by its output. The report takes the rules for granted that no two
-- tables have one output, that each name is known, and that none leads back to itself; their
-- wording here is the project's own.
use Rattle.std.specs.Prelude.{ℕ, Option, Some, None, List, [], ◌∷◌, ◌++◌, if◌then◌else◌}
use Rattle.std.specs.Option.{option_or}
use Rattle.circuit_model.specs.Names.{has}
use Rattle.circuit_model.specs.Soundness.{outputs_of}
use Rattle.circuit_model.specs.declared.circuit.Table.{Table}
use Rattle.circuit_checks.specs.NameChecks.{first_missing}
use Rattle.circuit_checks.specs.Cycles.{is_on_cycle}

-- the name by which a table of a part over some leaves breaks a rule, given the outputs of the
-- tables before it. It is its output, if one before it has that too; else the first name that it
-- reads that is neither an output of the part nor a leaf; else its output, if it is reached from
-- itself. A name that two tables drive leads to the first.
unfoldable pub bad_part_name : List (List ℕ) → List Table → List (List ℕ) → Table → Option (List ℕ)
bad_part_name leaves part before table =
    if has before table.output then Some table.output
    else option_or (first_missing (outputs_of part ++ leaves) table.inputs) (if is_on_cycle part table.output then Some table.output else None)

-- the name by which the first wrong table of a list breaks a rule, given the outputs of the tables
-- before the list
unfoldable pub bad_name_behind : List (List ℕ) → List Table → List (List ℕ) → List Table → Option (List ℕ)
bad_name_behind leaves part before [] = None
bad_name_behind leaves part before (table ∷ tables) =
    option_or (bad_part_name leaves part before table) (bad_name_behind leaves part (before ++ table.output ∷ []) tables)

-- the name by which the first wrong table of a part over some leaves breaks a rule
abbrev pub first_bad_part_name : List (List ℕ) → List Table → Option (List ℕ)
first_bad_part_name leaves part = bad_name_behind leaves part [] part
