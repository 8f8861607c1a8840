-- Rows in groups by their current states, so that a row is compared with few others: a group for
-- the rows of every state, and one for each remainder of a state's number. Only clauses of private
-- functions cite this module.
use Rattle.std.specs.Prelude.{◌≡◌, ℕ, ◌+◌, ◌%◌, ◌≤◌, ◌==◌, nat_le, Bool, false, Option, Some, None, List, [], ◌∷◌, length, take, slice_get, slice_index_or, if◌then◌else◌}
use Rattle.circuit_model.specs.declared.machine.MachineRow.{MachineRow}
use Rattle.circuit_model.specs.Clashes.{clash}

-- the group of a current state, if there are so many groups of states
abbrev pub group_of : ℕ → Option ℕ → ℕ
group_of count None = count
group_of count (Some state) = state % count

-- the indices of the rows of a group, counting from `place`
unfoldable pub places_in : ℕ → ℕ → ℕ → List MachineRow → List ℕ
places_in count group place [] = []
places_in count group place (row ∷ rows) =
    if group_of count row.current == group then place ∷ places_in count group (place + 1) rows else places_in count group (place + 1) rows

-- whether there is a row, and it clashes with another one
abbrev pub may_clash : Option MachineRow → MachineRow → Bool
may_clash None row = false
may_clash (Some earlier) row = clash earlier row

-- whether the row of an index clashes with a row
abbrev pub clash_at : List MachineRow → MachineRow → ℕ → Bool
clash_at rows row place = may_clash (slice_get rows place) row

-- the lesser of two indices
abbrev pub lesser : Option ℕ → Option ℕ → Option ℕ
lesser None other = other
lesser (Some place) None = Some place
lesser (Some place) (Some other) = if nat_le place other then Some place else Some other

-- lists of indices are the groups of the first rows
pub record AreGroups (rows : List MachineRow) (count : ℕ) (groups : List (List ℕ)) : Type 0 where
  pub size : length groups ≡ length rows + 1
  pub each : (group : ℕ) → group ≤ length rows → slice_index_or groups group [] ≡ places_in (length rows) group 0 (take count rows)
