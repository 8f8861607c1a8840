-- Gates in order, found by their names.
-- Source: the genlib format of SIS (UCB/ERL M92/41): a gate is known by its name.
use Rattle.std.specs.Prelude.{◌≡◌, ℕ, suc, Option, Some, None, option_map, List, [], ◌∷◌, bytes_eq, if◌then◌else◌}
use Rattle.genlib_format.specs.declared.gate.Gate.{Gate}

-- the index of the first gate of a name
unfoldable pub place_of : List Gate → List ℕ → Option ℕ
place_of [] name = None
place_of (gate ∷ gates) name = if bytes_eq name gate.cell then Some 0 else option_map suc (place_of gates name)

-- an index leads each name to its first gate
unfoldable pub IsIndex : List Gate → (List ℕ → Option ℕ) → Type 0
IsIndex gates index = (name : List ℕ) → index name ≡ place_of gates name
