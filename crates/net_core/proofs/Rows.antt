-- The characters and the literals of rows: each determines the other, and a loop that fills a row.
use Rattle.std.proofs.Common.{◌≡◌, ℕ, ◌<◌, ◌+◌, zero, suc, Bool, true, false, Option, Some, None, List, [], ◌∷◌, ◌++◌, length, get_or, set, take, drop, map, refl, sym, ap, ◌∙◌, arith}
use Rattle.std.proofs.lemmas.List.{length-map, get_or-map}
use Rattle.sis_base.specs.Rows.{HasWidth}
use Rattle.circuit_model.specs.declared.circuit.Tri.{Tri}
use Rattle.circuit_model.specs.declared.circuit.Tri.TheVariants.{Zero, One, Free}
use Rattle.circuit_model.specs.declared.circuit.Table.{Table}
use Rattle.circuit_model.specs.Values.{literal_of}
use Rattle.net_core.specs.Tables.{character_of, places_of, characters_of, HasCharacters, named, covered}

-- a loop that fills a list from the front
pub fill_more : {X : Type 0} (xs ys : List X) (i : ℕ) (d : X) → i < length xs → length ys ≡ length xs → set (take i xs ++ drop i ys) i (get_or xs i d) ≡ take (suc i) xs ++ drop (suc i) ys
fill_more [] ys i d h e = absurd (omega arith)
fill_more (x ∷ xs) [] i d h e = absurd (omega arith)
fill_more (x ∷ xs) (y ∷ ys) zero d h e = refl
fill_more {X} (x ∷ xs) (y ∷ ys) (suc i) d h e = ap (λ (zs : List X). x ∷ zs) (fill_more xs ys i d (omega arith) (omega arith))

-- the same under a map, a step of the loop
pub fill_step : {X Y : Type 0} (f : X → Y) (xs : List X) (ys row : List Y) (i : ℕ) (d : X) → i < length xs → length ys ≡ length xs → row ≡ take i (map f xs) ++ drop i ys
    → set row i (f (get_or xs i d)) ≡ take (i + 1) (map f xs) ++ drop (i + 1) ys
fill_step {X} {Y} f xs ys row i d h e k =
    let at : f (get_or xs i d) ≡ get_or (map f xs) i (f d) = sym (get_or-map f xs i d (f d) h) in
    let n : i + 1 ≡ suc i = omega arith in
    rw (k, at, n) (fill_more (map f xs) ys i (f d) (omega (arith, length-map xs f)) (omega (arith, length-map xs f)))

pub character_back : (c : Tri) → character_of (literal_of c) ≡ c
character_back Zero = refl
character_back One = refl
character_back Free = refl

pub place_back : (p : Option Bool) → literal_of (character_of p) ≡ p
place_back None = refl
place_back (Some true) = refl
place_back (Some false) = refl

pub characters_back : (row : List Tri) → characters_of (places_of row) ≡ row
characters_back [] = refl
characters_back (c ∷ row) = rw (character_back c, characters_back row) refl

pub places_back : (row : List (Option Bool)) → places_of (characters_of row) ≡ row
places_back [] = refl
places_back (p ∷ row) = rw (place_back p, places_back row) refl

pub all_characters_back : (rows : List (List Tri)) → map characters_of (map places_of rows) ≡ rows
all_characters_back [] = refl
all_characters_back (row ∷ rows) = rw (characters_back row, all_characters_back rows) refl

pub all_places_back : (rows : List (List (Option Bool))) → map places_of (map characters_of rows) ≡ rows
all_places_back [] = refl
all_places_back (row ∷ rows) = rw (places_back row, all_places_back rows) refl

pub width_of_characters : (w : ℕ) (rows : List (List Tri)) → HasCharacters w rows → HasWidth w (map places_of rows)
unfolding HasWidth
width_of_characters w [] h = tt
width_of_characters w (row ∷ rows) h = (length-map row literal_of ∙ h.0, width_of_characters w rows h.1)

pub written_back : (R : Type 0) (t : Table) → named t.output (covered {R = R} t) ≡ t
unfolding named covered
written_back R t = ap (λ (rows : List (List Tri)). record t { rows = rows }) (all_characters_back t.rows)
