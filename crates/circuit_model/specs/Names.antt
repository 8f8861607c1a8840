-- Tests on names: whether a name is among some, whether names are all different.
-- Source: BLIF appendix of the SIS report (UCB/ERL M92/41): signals are known by their names alone.
use Rattle.std.specs.Prelude.{ℕ, Bool, true, not, ◌&&◌, List, [], ◌∷◌, bytes_eq}
use Rattle.std.specs.List.{list_any}

-- whether a name is among some names
abbrev pub has : List (List ℕ) → List ℕ → Bool
has names name = list_any (bytes_eq name) names

-- whether no name occurs twice
unfoldable pub all_different : List (List ℕ) → Bool
all_different [] = true
all_different (name ∷ names) = not (has names name) && all_different names
