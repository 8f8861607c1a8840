-- Which covers a change of tables may concern: those each of whose cubes is contained in a row of a
-- table that changed, before or after the change.
-- Source: Brayton, Rudell, Sangiovanni-Vincentelli and Wang, "MIS: A Multiple-Level Logic
-- Optimization System" (1987): weak division. A cover divides a table only if each of its cubes is
-- contained in a row of the table.
use Rattle.std.specs.Prelude.{◌≡◌, ℕ, ◌&&◌, ◌||◌, not, Bool, true, false, Option, Some, List, [], ◌∷◌, map, bytes_eq}
use Rattle.std.specs.Global.{Vec}
use Rattle.std.specs.List.{list_any, list_all}
use Rattle.circuit_model.specs.declared.circuit.Table.{Table}
use Rattle.net_candidates.specs.Candidates.{same_literal}
use Rattle.net_candidates.specs.Pairs.{has_all}
use Rattle.cover_names.specs.Literals.{Cube, NamedCover}
use Rattle.cover_names.specs.declared.literal.Literal.{Literal}
use Rattle.alg_tables.specs.Dividing.{divided}

-- whether no name occurs twice in a cube
abbrev pub is_apart : Cube → Bool
is_apart [] = true
is_apart (literal ∷ cube) = not (list_any (λ (other : Literal). bytes_eq literal.name other.name) cube) && is_apart cube

-- whether a cube is contained in one of some rows; one in which a name occurs twice counts as
-- contained
abbrev pub is_contained : List Cube → Cube → Bool
is_contained rows cube = not (is_apart cube) || list_any (has_all cube) rows

-- whether rows meet a cover: each of its cubes is contained in one of them
abbrev pub is_met : List Cube → NamedCover → Bool
is_met rows cover = list_all (is_contained rows) cover

-- a cover that is not met now was not met before, and does not divide two tables
abbrev pub IsAside : (NamedCover → Bool) → (NamedCover → Bool) → Table → Table → Type 0
IsAside met new_met old new = (cover : NamedCover) → new_met cover ≡ false
    → (met cover ≡ false) × ((name : List ℕ) → divided name true cover old ≡ old) × ((name : List ℕ) → divided name true cover new ≡ new)

-- ---- how it is found out; no public clause needs these definitions

-- whether two marks are set
abbrev pub both : Bool → Bool → Bool
both mark other = mark && other

-- marks that are kept for literals say which rows have them
abbrev pub AreMarks : List Cube → (Literal → Option (Vec Bool)) → Type 0
AreMarks rows marks = (literal : Literal) (kept : Vec Bool) → marks literal ≡ Some kept → kept.items ≡ map (list_any (same_literal literal)) rows
