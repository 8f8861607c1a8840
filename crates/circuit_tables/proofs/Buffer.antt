-- A row merged into a buffer of dashes, in the columns of its inputs, is what the row asks of each
-- name.
use Rattle.std.specs.Prelude.{◌≡◌, ℕ, zero, suc, ◌+◌, Bool, true, false, not, ◌&&◌, ◌||◌, Option, Some, None, List, [], ◌∷◌, map, length, bytes_eq, if◌then◌else◌}
use Rattle.std.specs.List.{AllByRecursion, filter_map, position_or_len, cons_option}
use Rattle.std.specs.Option.{option_map, option_map_or}
use Rattle.std.proofs.Common.{refl, sym, ◌∙◌, ap, arith, get_or, set}
use Rattle.std.proofs.lemmas.List.{length-map, length-set}
use Rattle.circuit_model.specs.Names.{has, all_different}
use Rattle.circuit_model.specs.declared.circuit.Tri.{Tri}
use Rattle.circuit_model.specs.declared.circuit.Tri.TheVariants.{Zero, One, Free}
use Rattle.circuit_tables.specs.Folding.{merged, all_merged, under, each_once, asked_of, folded_rows}
use Rattle.circuit_tables.specs.Listing.{places_of, merge_row, dashes_of, merged_rows}
use Rattle.circuit_tables.proofs.Once.{has-each_once, different-each_once, same_name, itself, first_place, and_left, and_right}

-- what characters ask for together with one that is there already
with_all : Tri → List Tri → Option Tri
with_all character [] = Some character
with_all character (other ∷ others) = option_map_or (λ both. with_all both others) (merged character other) None

with_later : (first second : Tri) (rest : Option Tri)
    → option_map_or (λ both. option_map_or (merged both) rest None) (merged first second) None
    ≡ option_map_or (merged first) (option_map_or (merged second) rest None) None
with_later Free second rest = by (option_map_or (merged second) rest None)
  where
    by : (o : Option Tri) → o ≡ option_map_or (merged Free) o None
    by None = refl
    by (Some t) = refl
with_later Zero Free None = refl
with_later Zero Free (Some t) = refl
with_later Zero Zero None = refl
with_later Zero Zero (Some Free) = refl
with_later Zero Zero (Some Zero) = refl
with_later Zero Zero (Some One) = refl
with_later Zero One None = refl
with_later Zero One (Some Free) = refl
with_later Zero One (Some Zero) = refl
with_later Zero One (Some One) = refl
with_later One Free None = refl
with_later One Free (Some t) = refl
with_later One Zero None = refl
with_later One Zero (Some Free) = refl
with_later One Zero (Some Zero) = refl
with_later One Zero (Some One) = refl
with_later One One None = refl
with_later One One (Some Free) = refl
with_later One One (Some Zero) = refl
with_later One One (Some One) = refl

with_merged : (character : Tri) (others : List Tri) → with_all character others ≡ option_map_or (merged character) (all_merged others) None
unfolding with_all
with_merged Free [] = refl
with_merged Zero [] = refl
with_merged One [] = refl
with_merged character (other ∷ others) = by (merged character other) (λ both. with_merged both others) ∙ with_later character other (all_merged others)
  where
    by : (made : Option Tri) → ((both : Tri) → with_all both others ≡ option_map_or (merged both) (all_merged others) None)
        → option_map_or (λ both. with_all both others) made None ≡ option_map_or (λ both. option_map_or (merged both) (all_merged others) None) made None
    by None h = refl
    by (Some both) h = h both

-- what a row asks of names together with the characters that are in their columns
asked_with : List Tri → List (List ℕ) → List Tri → List (List ℕ) → Option (List Tri)
asked_with out inputs row [] = Some []
asked_with [] inputs row (name ∷ names) = Some []
asked_with (character ∷ out) inputs row (name ∷ names) =
    option_map_or (λ both. option_map (λ others. both ∷ others) (asked_with out inputs row names)) (with_all character (under name inputs row)) None

asked_nothing : (out : List Tri) (row : List Tri) (names : List (List ℕ)) → length out ≡ length names → asked_with out [] row names ≡ Some out
unfolding under asked_with with_all
asked_nothing [] row [] e = refl
asked_nothing (character ∷ out) row [] e = absurd (omega (arith, e))
asked_nothing [] row (name ∷ names) e = absurd (omega (arith, e))
asked_nothing (character ∷ out) row (name ∷ names) e = rw (asked_nothing out row names (omega (arith, e))) refl

asked_short : (out : List Tri) (input : List ℕ) (inputs names : List (List ℕ)) → length out ≡ length names → asked_with out (input ∷ inputs) [] names ≡ Some out
unfolding under asked_with with_all
asked_short [] input inputs [] e = refl
asked_short (character ∷ out) input inputs [] e = absurd (omega (arith, e))
asked_short [] input inputs (name ∷ names) e = absurd (omega (arith, e))
asked_short (character ∷ out) input inputs (name ∷ names) e = rw (asked_short out input inputs names (omega (arith, e))) refl

-- names that are not the input are asked by the others alone
asked_past : (out : List Tri) (input : List ℕ) (inputs : List (List ℕ)) (character : Tri) (row : List Tri) (names : List (List ℕ)) → has names input ≡ false
    → asked_with out (input ∷ inputs) (character ∷ row) names ≡ asked_with out inputs row names
unfolding under asked_with
asked_past out input inputs character row [] h = refl
asked_past [] input inputs character row (name ∷ names) h = refl
asked_past (place ∷ out) input inputs character row (name ∷ names) h =
    rw (left (bytes_eq input name) (has names input) h, asked_past out input inputs character row names (right (bytes_eq input name) (has names input) h)) refl
  where
    left : (a b : Bool) → (a || b) ≡ false → a ≡ false
    left true b e = e
    left false b e = refl

    right : (a b : Bool) → (a || b) ≡ false → b ≡ false
    right true b e = absurd (let no : true ≡ false = e in cc)
    right false b e = e

-- the first input's character is merged into its column
asked_step : (out : List Tri) (input : List ℕ) (inputs : List (List ℕ)) (character : Tri) (row : List Tri) (names : List (List ℕ))
    → length out ≡ length names → all_different names ≡ true → has names input ≡ true
    → asked_with out (input ∷ inputs) (character ∷ row) names
    ≡ option_map_or (λ both. asked_with (set out (position_or_len (bytes_eq input) names) both) inputs row names) (merged (get_or out (position_or_len (bytes_eq input) names) Free) character) None
unfolding under all_different asked_with with_all
asked_step out input inputs character row [] e d h = absurd (let no : false ≡ true = h in cc)
asked_step [] input inputs character row (name ∷ names) e d h = absurd (omega (arith, e))
asked_step (place ∷ out) input inputs character row (name ∷ names) e d h =
    by (bytes_eq input name) refl (λ k. asked_step out input inputs character row names (omega (arith, e)) (and_right (not (has names name)) (all_different names) d) k)
  where
    fresh : (b : Bool) → not b ≡ true → b ≡ false
    fresh true k = sym k
    fresh false k = refl

    new : bytes_eq input name ≡ true → has names input ≡ false
    new k = ap (has names) (same_name input name k) ∙ fresh (has names name) (and_left (not (has names name)) (all_different names) d)

    here : (made : Option Tri)
        → option_map_or (λ both. option_map (λ others. both ∷ others) (asked_with out inputs row names)) (option_map_or (λ both. with_all both (under name inputs row)) made None) None
        ≡ option_map_or (λ both. asked_with (both ∷ out) inputs row (name ∷ names)) made None
    here None = refl
    here (Some both) = refl

    there : (made : Option Tri) (found : Option Tri)
        → option_map_or (λ both. option_map (λ others. both ∷ others) (option_map_or (λ u. asked_with (set out (position_or_len (bytes_eq input) names) u) inputs row names) made None)) found None
        ≡ option_map_or (λ u. option_map_or (λ both. option_map (λ others. both ∷ others) (asked_with (set out (position_or_len (bytes_eq input) names) u) inputs row names)) found None) made None
    there None None = refl
    there None (Some both) = refl
    there (Some u) found = refl

    by : (t : Bool) → bytes_eq input name ≡ t
        → (has names input ≡ true → asked_with out (input ∷ inputs) (character ∷ row) names
        ≡ option_map_or (λ both. asked_with (set out (position_or_len (bytes_eq input) names) both) inputs row names) (merged (get_or out (position_or_len (bytes_eq input) names) Free) character) None)
        → asked_with (place ∷ out) (input ∷ inputs) (character ∷ row) (name ∷ names)
        ≡ option_map_or (λ both. asked_with (set (place ∷ out) (position_or_len (bytes_eq input) (name ∷ names)) both) inputs row (name ∷ names))
        (merged (get_or (place ∷ out) (position_or_len (bytes_eq input) (name ∷ names)) Free) character) None
    by true k rest = rw (k, asked_past out input inputs character row names (new k)) (here (merged place character))
    by false k rest = rw (first_place name names input k, k, rest (other k))
        (there (merged (get_or out (position_or_len (bytes_eq input) names) Free) character) (with_all place (under name inputs row)))
      where
        other : bytes_eq input name ≡ false → has names input ≡ true
        other f = behind (bytes_eq input name) (has names input) f h
          where
            behind : (a b : Bool) → a ≡ false → (a || b) ≡ true → b ≡ true
            behind false b f h = h
            behind true b f h = absurd (let no : true ≡ false = f in cc)

-- the whole row
asked_merged : (inputs : List (List ℕ)) (row out : List Tri) (names : List (List ℕ)) → length out ≡ length names → all_different names ≡ true
    → AllByRecursion (λ input. has names input ≡ true) inputs
    → merge_row out (map (λ input. position_or_len (bytes_eq input) names) inputs) row ≡ asked_with out inputs row names
unfolding merge_row
asked_merged [] row out names e d h = sym (asked_nothing out row names e)
asked_merged (input ∷ inputs) [] out names e d h = sym (asked_short out input inputs names e)
asked_merged (input ∷ inputs) (character ∷ row) out names e d h =
    by (merged (get_or out (position_or_len (bytes_eq input) names) Free) character)
    (λ both. asked_merged inputs row (set out (position_or_len (bytes_eq input) names) both) names (length-set out (position_or_len (bytes_eq input) names) both ∙ e) d h.1)
    ∙ sym (asked_step out input inputs character row names e d h.0)
  where
    by : (made : Option Tri)
        → ((both : Tri) → merge_row (set out (position_or_len (bytes_eq input) names) both) (map (λ (other : List ℕ). position_or_len (bytes_eq other) names) inputs) row
        ≡ asked_with (set out (position_or_len (bytes_eq input) names) both) inputs row names)
        → option_map_or (λ both. merge_row (set out (position_or_len (bytes_eq input) names) both) (map (λ (other : List ℕ). position_or_len (bytes_eq other) names) inputs) row) made None
        ≡ option_map_or (λ both. asked_with (set out (position_or_len (bytes_eq input) names) both) inputs row names) made None
    by None more = refl
    by (Some both) more = more both

asked_dashes : (inputs : List (List ℕ)) (row : List Tri) (names : List (List ℕ)) → asked_with (dashes_of names) inputs row names ≡ asked_of inputs row names
unfolding asked_of asked_with
asked_dashes inputs row [] = refl
asked_dashes inputs row (name ∷ names) = rw (with_merged Free (under name inputs row), asked_dashes inputs row names) (by (all_merged (under name inputs row)))
  where
    by : (found : Option Tri)
        → option_map_or (λ both. option_map (λ others. both ∷ others) (asked_of inputs row names)) (option_map_or (merged Free) found None) None
        ≡ option_map_or (λ character. option_map (λ others. character ∷ others) (asked_of inputs row names)) found None
    by None = refl
    by (Some character) = refl

pub all_there : (inputs names : List (List ℕ)) → ((name : List ℕ) → has inputs name ≡ true → has names name ≡ true) → AllByRecursion (λ name. has names name ≡ true) inputs
all_there [] names h = tt
all_there (name ∷ inputs) names h = (h name here, all_there inputs names (λ other k. h other (later other k)))
  where
    here : has (name ∷ inputs) name ≡ true
    here = rw (itself name) refl

    later : (other : List ℕ) → has inputs other ≡ true → has (name ∷ inputs) other ≡ true
    later other k = by (bytes_eq other name)
      where
        by : (b : Bool) → (b || has inputs other) ≡ true
        by true = refl
        by false = k

pub row_merged : (inputs : List (List ℕ)) (row : List Tri) → merge_row (dashes_of (each_once inputs)) (places_of inputs) row ≡ asked_of inputs row (each_once inputs)
unfolding places_of
row_merged inputs row =
    asked_merged inputs row (dashes_of (each_once inputs)) (each_once inputs) (length-map (each_once inputs) (λ (name : List ℕ). Free)) (different-each_once inputs)
    (all_there inputs (each_once inputs) (λ name h. has-each_once inputs name ∙ h))
    ∙ asked_dashes inputs row (each_once inputs)

pub rows_merged : (inputs : List (List ℕ)) (rows : List (List Tri)) → merged_rows inputs rows ≡ folded_rows inputs rows
unfolding merged_rows folded_rows
rows_merged inputs [] = refl
rows_merged inputs (row ∷ rows) = rw (row_merged inputs row, rows_merged inputs rows) refl
