-- Steps of the loops of the body.
use Rattle.std.specs.Prelude.{◌≡◌, ℕ, ◌+◌, ◌<◌, ◌≤◌, Option, Some, None, List, [], ◌∷◌, ◌++◌, map, length, bytes_eq, option_to_list, if◌then◌else◌}
use Rattle.std.specs.List.{position_or_len, filter_map, cons_option}
use Rattle.std.specs.Option.{option_map_or}
use Rattle.std.proofs.Common.{refl, sym, ◌∙◌, ap, get_or, set, take, drop}
use Rattle.std.proofs.lemmas.List.{drop_more, drop_all, take_more, map-append}
use Rattle.std.proofs.lemmas.List.Elements.{filter_map-append}
use Rattle.circuit_model.specs.Names.{has}
use Rattle.circuit_model.specs.declared.circuit.Tri.{Tri}
use Rattle.circuit_model.specs.declared.circuit.Tri.TheVariants.{Zero, Free}
use Rattle.circuit_tables.specs.Folding.{merged}
use Rattle.circuit_tables.specs.Listing.{names_with, merge_row}
use Rattle.circuit_tables.proofs.Once.{place_stays}

pub merge_short : (out : List Tri) (places : List ℕ) (row : List Tri) (i : ℕ) → length row ≤ i → merge_row out (drop i places) (drop i row) ≡ Some out
unfolding merge_row
merge_short out places row i h = rw (drop_all i row h) (none out (drop i places))
  where
    none : (list : List Tri) (ps : List ℕ) → merge_row list ps [] ≡ Some list
    none list [] = refl
    none list (p ∷ ps) = refl

pub merge_done : (out : List Tri) (places : List ℕ) (row : List Tri) (i : ℕ) → length places ≤ i → merge_row out (drop i places) (drop i row) ≡ Some out
unfolding merge_row
merge_done out places row i h = rw (drop_all i places h) refl

pub merge_more : (out : List Tri) (places : List ℕ) (row : List Tri) (i : ℕ) (here : Tri) (both : Option Tri) → i < length places → i < length row
    → here ≡ get_or out (get_or places i 0) Free → both ≡ merged here (get_or row i Zero)
    → merge_row out (drop i places) (drop i row) ≡ option_map_or (λ u. merge_row (set out (get_or places i 0) u) (drop (i + 1) places) (drop (i + 1) row)) both None
unfolding merge_row
merge_more out places row i here both h k e b = rw (drop_more places i 0 h, drop_more row i Zero k, b, e) refl

-- a name is added if it is new
pub names_more : (known new all inputs : List (List ℕ)) (i : ℕ) (name seen : List ℕ) → i < length inputs → name ≡ get_or inputs i name → seen ≡ name
    → new ≡ (if has known seen then known else known ++ seen ∷ []) → names_with known (drop i inputs) ≡ all → names_with new (drop (i + 1) inputs) ≡ all
unfolding names_with
names_more known new all inputs i name seen h e s n before =
    let put : new ≡ (if has known name then known else known ++ name ∷ []) = n ∙ ap (λ (other : List ℕ). if has known other then known else known ++ other ∷ []) s in
    let more : drop i inputs ≡ name ∷ drop (i + 1) inputs = rw (drop_more inputs i name h, ← e) refl in
    ap (λ (names : List (List ℕ)). names_with names (drop (i + 1) inputs)) put ∙ (sym (ap (names_with known) more) ∙ before)

place_more : (known all inputs : List (List ℕ)) (i : ℕ) (name : List ℕ) → i < length inputs → name ≡ get_or inputs i name
    → names_with known (drop i inputs) ≡ all → position_or_len (bytes_eq name) known ≡ position_or_len (bytes_eq name) all
place_more known all inputs i name h e before =
    let more : drop i inputs ≡ name ∷ drop (i + 1) inputs = rw (drop_more inputs i name h, ← e) refl in
    sym (place_stays known (drop (i + 1) inputs) name) ∙ ap (position_or_len (bytes_eq name)) (sym (ap (names_with known) more) ∙ before)

pub places_more : (known all inputs : List (List ℕ)) (i : ℕ) (name seen : List ℕ) (made new : List ℕ) (place : ℕ) → i < length inputs → name ≡ get_or inputs i name → seen ≡ name
    → place ≡ position_or_len (bytes_eq seen) known → new ≡ made ++ place ∷ [] → names_with known (drop i inputs) ≡ all
    → made ≡ map (λ other. position_or_len (bytes_eq other) all) (take i inputs)
    → new ≡ map (λ other. position_or_len (bytes_eq other) all) (take (i + 1) inputs)
places_more known all inputs i name seen made new place h e s p n before so_far =
    let here : place ≡ position_or_len (bytes_eq name) all = p ∙ (ap (λ (other : List ℕ). position_or_len (bytes_eq other) known) s ∙ place_more known all inputs i name h e before) in
    let more : take (i + 1) inputs ≡ take i inputs ++ name ∷ [] = rw (take_more inputs i name h, ← e) refl in
    rw (n, so_far, here, more) (sym (map-append (λ (other : List ℕ). position_or_len (bytes_eq other) all) (take i inputs) (name ∷ [])))

pub rows_more : (merge : List Tri → Option (List Tri)) (rows made new : List (List Tri)) (i : ℕ) (row seen : List Tri) (merged_row : Option (List Tri)) → i < length rows → row ≡ get_or rows i row → seen ≡ row
    → merged_row ≡ merge seen → new ≡ made ++ option_to_list merged_row → made ≡ filter_map merge (take i rows) → new ≡ filter_map merge (take (i + 1) rows)
rows_more merge rows made new i row seen merged_row h e s m n so_far =
    let more : take (i + 1) rows ≡ take i rows ++ row ∷ [] = rw (take_more rows i row h, ← e) refl in
    let here : merged_row ≡ merge row = m ∙ ap merge s in
    rw (n, so_far, here, more) (ap (λ (list : List (List Tri)). filter_map merge (take i rows) ++ list) (one (merge row)) ∙ sym (filter_map-append merge (take i rows) (row ∷ [])))
  where
    one : (o : Option (List Tri)) → option_to_list o ≡ cons_option o []
    one None = refl
    one (Some r) = refl

pub names_done : (known inputs : List (List ℕ)) (i : ℕ) → length inputs ≤ i → names_with known (drop i inputs) ≡ known
unfolding names_with
names_done known inputs i h = rw (drop_all i inputs h) refl
