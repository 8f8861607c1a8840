-- Which indices are listed under literals, and how often. No public clause needs these definitions.
-- Source: the project's own.
use Rattle.std.specs.Prelude.{◌≤◌, ◌==◌, ℕ, Bool, Option, Some, None, List, [], length, filter}
use Rattle.std.specs.declared.vec.Vec.{Vec}
use Rattle.indexmap.specs.IndexMap.{IndexMap, get}
use Rattle.net_candidates.specs.Candidates.{same_literal}
use Rattle.cover_names.specs.Literals.{Cube}
use Rattle.cover_names.specs.declared.literal.Literal.{Literal}

abbrev pub places_in : {Y : Type 0} → Option (Vec ℕ Y) → List ℕ
places_in None = []
places_in (Some places) = places.items

-- the indices listed under a literal
abbrev pub told : {Y S : Type 0} → IndexMap Literal (Vec ℕ Y) S → Literal → List ℕ
told spots literal = places_in (get same_literal spots literal)

-- the number of items that pass a test
abbrev pub many : {X : Type 0} → (X → Bool) → List X → ℕ
many test items = length (filter test items)

-- an index is listed under each literal at least as often as a cube has it, and what was listed
-- before still is
pub record AreTold (cube : Cube) (place : ℕ) (old new : Literal → List ℕ) : Type 0 where
  pub here : (other : Literal) → many (λ literal. same_literal literal other) cube ≤ many (λ at. at == place) (new other)
  pub still : (other : Literal) (place : ℕ) → many (λ at. at == place) (old other) ≤ many (λ at. at == place) (new other)
