-- Literals as cube characters, and back.
use Rattle.std.proofs.Common.{◌≡◌, Bool, true, false, List, [], ◌∷◌, Option, Some, None, map, refl, sym, ◌∙◌, ap}
use Rattle.circuit_model.specs.declared.circuit.Tri.{Tri}
use Rattle.circuit_model.specs.declared.circuit.Tri.TheVariants.{Zero, One, Free}
use Rattle.circuit_model.specs.Values.{literal_of}
use Rattle.blif_gates.specs.GateLines.{character_for}

character_back : (character : Tri) → character_for (literal_of character) ≡ character
character_back Zero = refl
character_back One = refl
character_back Free = refl

row_back : (row : List Tri) → map character_for (map literal_of row) ≡ row
row_back [] = refl
row_back (character ∷ row) = rw (character_back character, row_back row) refl

rows_back : (rows : List (List Tri)) → map (map character_for) (map (map literal_of) rows) ≡ rows
rows_back [] = refl
rows_back (row ∷ rows) = rw (row_back row, rows_back rows) refl

-- rows are the characters of their literals
pub rows_are : (rows : List (List Tri)) (list : List (List (Option Bool))) → map (map literal_of) rows ≡ list → rows ≡ map (map character_for) list
rows_are rows list e = sym (rows_back rows) ∙ ap (map (map character_for)) e

literal_back : (literal : Option Bool) → literal_of (character_for literal) ≡ literal
literal_back None = refl
literal_back (Some false) = refl
literal_back (Some true) = refl

places_back : (row : List (Option Bool)) → map literal_of (map character_for row) ≡ row
places_back [] = refl
places_back (literal ∷ row) = rw (literal_back literal, places_back row) refl

pub literals_back : (list : List (List (Option Bool))) → map (map literal_of) (map (map character_for) list) ≡ list
literals_back [] = refl
literals_back (row ∷ list) = rw (places_back row, literals_back list) refl
