-- Rows that clash: they share an input point and a state, and specify a next state or an output
-- differently. Source: De Micheli, "Synthesis and Optimization of Digital Circuits", chapter 9: a
-- state table gives at most one next state and one value of each output for a state and an input.
use Rattle.std.specs.Prelude.{ℕ, ◌+◌, Bool, true, false, not, ◌&&◌, ◌==◌, Option, Some, None, List, [], ◌∷◌, ◌++◌, length, if◌then◌else◌}
use Rattle.std.specs.Option.{option_map, option_or}
use Rattle.circuit_model.specs.declared.circuit.Tri.{Tri}
use Rattle.circuit_model.specs.declared.circuit.Tri.TheVariants.{Zero, One, Free}
use Rattle.circuit_model.specs.declared.machine.Clash.{Clash}
use Rattle.circuit_model.specs.declared.machine.MachineRow.{MachineRow}

-- whether two characters may be one bit: they are the same, or one is a dash
abbrev pub may_agree : Tri → Tri → Bool
may_agree Free other = true
may_agree Zero One = false
may_agree Zero other = true
may_agree One Zero = false
may_agree One other = true

-- whether two lists of characters have a point in common
unfoldable pub agree_all : List Tri → List Tri → Bool
agree_all [] others = true
agree_all (first ∷ firsts) [] = true
agree_all (first ∷ firsts) (other ∷ others) = may_agree first other && agree_all firsts others

-- whether two states may be one: they are the same, or one is unspecified
abbrev pub may_be_one : Option ℕ → Option ℕ → Bool
may_be_one None other = true
may_be_one (Some state) None = true
may_be_one (Some state) (Some other) = state == other

-- whether two rows clash
unfoldable pub clash : MachineRow → MachineRow → Bool
clash row other =
    may_be_one row.current other.current && agree_all row.input other.input
    && not (may_be_one row.next other.next && agree_all row.output other.output)

-- the index of the first of some rows, counted from `place`, that clashes with a row
unfoldable pub clash_with : ℕ → List MachineRow → MachineRow → Option ℕ
clash_with place [] row = None
clash_with place (earlier ∷ rows) row = if clash earlier row then Some place else clash_with (place + 1) rows row

-- the first row after some rows that clashes with an earlier one, with the first that it clashes
-- with
unfoldable pub clash_behind : List MachineRow → List MachineRow → Option Clash
clash_behind front [] = None
clash_behind front (row ∷ rows) =
    option_or (option_map (λ earlier. record { earlier = earlier; later = length front }) (clash_with 0 front row))
    (clash_behind (front ++ row ∷ []) rows)

-- the first row that clashes with an earlier one, with the first that it clashes with
abbrev pub first_clash : List MachineRow → Option Clash
first_clash rows = clash_behind [] rows
