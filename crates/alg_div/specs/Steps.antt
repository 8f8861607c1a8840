-- The steps of a division: the support of the divisor, cubes without it, and the rows of a sum by
-- their first positions. No public clause of `divide` needs these definitions; `literals_in` and
-- `strip` occur in those of the calls on rows as vectors. Source: Brayton, Rudell,
-- Sangiovanni-Vincentelli, Wang, "MIS: A Multiple-Level Logic Optimization System" (1987).
use Rattle.std.specs.Prelude.{◌≡◌, ℕ, ◌<◌, Bool, if◌then◌else◌, IfSome, Option, Some, None, List, [], ◌∷◌, map, replicate}
use Rattle.std.specs.HashMap.{HashMap, get_by}
use Rattle.std.specs.declared.vec.Vec.{Vec}
use Rattle.std.specs.List.{position_from}
use Rattle.alg_div.specs.Cubes.{Has, times, row_eq}
use Rattle.alg_div.specs.Quotient.{IsTerm, Rises}

-- rows as lists of literals
abbrev pub literals_in : {Y : Type 0} → List (Vec (Option Bool) Y) → List (List (Option Bool))
literals_in rows = map (λ literals. literals.items) rows

-- a dash if the mask has a literal, else the literal
abbrev pub without : Option Bool → Option Bool → Option Bool
without None literal = literal
without (Some mask) literal = None

-- a row without its literals in the columns where the mask has one
unfoldable pub strip : List (Option Bool) → List (Option Bool) → List (Option Bool)
strip [] row = row
strip (mask ∷ masks) [] = []
strip (mask ∷ masks) (literal ∷ literals) = without mask literal ∷ strip masks literals

-- the support of rows, with that of a mask
unfoldable pub support_from : List (Option Bool) → List (List (Option Bool)) → List (Option Bool)
support_from mask [] = mask
support_from mask (row ∷ rows) = support_from (times mask row) rows

-- the support of rows of a width: a literal in each column where some row has one
abbrev pub support : ℕ → List (List (Option Bool)) → List (Option Bool)
support width rows = support_from (replicate width None) rows

-- the number to which a map from rows to numbers maps a row
abbrev pub number_in : {Y S : Type 0} → HashMap (Vec (Option Bool) Y) ℕ S → List (Option Bool) → Option ℕ
number_in index row = get_by (λ key. row_eq row key.items) index

-- the number; if there is none and the test holds, the given one
abbrev pub or_last : Option ℕ → Bool → ℕ → Option ℕ
or_last (Some i) t n = Some i
or_last None t n = if t then Some n else None

-- the map, if there is one, has each row at its first index
abbrev pub AreFirst : {Y S : Type 0} → Option (HashMap (Vec (Option Bool) Y) ℕ S)
    → List (List (Option Bool)) → Type 0
AreFirst indices rows = IfSome indices (λ index. (row : List (Option Bool))
    → number_in index row ≡ position_from (row_eq row) 0 rows)

-- all products of a cube with the given ones are rows of f
abbrev pub HasProducts : List (List (Option Bool)) → List (Option Bool)
    → List (List (Option Bool)) → Type 0
HasProducts f cube rows = (row : List (Option Bool)) → Has row rows → Has (times cube row) f

-- a cube of the quotient whose product with k has its first occurrence in f at index i
abbrev pub IsTermAt : ℕ → List (List (Option Bool)) → List (Option Bool) → List (List (Option Bool)) → ℕ → List (Option Bool) → Type 0
IsTermAt width f k d i cube = IsTerm width f d cube × (position_from (row_eq (times cube k)) 0 f ≡ Some i)

-- the only such cube, or none if there is none
abbrev pub IsTheTerm : ℕ → List (List (Option Bool)) → List (Option Bool) → List (List (Option Bool)) → ℕ → Option (List (Option Bool)) → Type 0
IsTheTerm width f k d i None = (cube : List (Option Bool)) → IsTermAt width f k d i cube → ⊥
IsTheTerm width f k d i (Some cube) = IsTermAt width f k d i cube

-- the quotient's cubes that come from the rows before index i
pub record IsPart (width : ℕ) (f : List (List (Option Bool))) (k : List (Option Bool)) (d : List (List (Option Bool))) (i : ℕ) (q : List (List (Option Bool))) : Type 0 where
  pub only : (cube : List (Option Bool)) → Has cube q → IsTerm width f d cube
  pub every : (cube : List (Option Bool)) (j : ℕ) → IsTermAt width f k d j cube → j < i → Has cube q
  pub order : Rises 0 i (λ cube. position_from (row_eq (times cube k)) 0 f) q
