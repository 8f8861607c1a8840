-- What each two items of a list make, the earlier one first, what two cubes and two literals make,
-- and what cubes share. No public clause needs these definitions: they say how the candidates are
-- listed. Source: Rajski and Vasudevamurthy (IEEE Transactions on CAD 11, 1992).
use Rattle.std.specs.Prelude.{◌≡◌, ◌⊎◌, if◌then◌else◌, Bool, Option, Some, None, ℕ, List, [], ◌∷◌, ◌++◌, flat_map, length, slice_get}
use Rattle.std.specs.List.{filter_map, list_all, list_any}
use Rattle.std.proofs.Common.{ltb}
use Rattle.net_candidates.specs.Candidates.{same_literal, own, shared}
use Rattle.cover_names.specs.Literals.{Cube, NamedCover, cube_cmp, sorted}
use Rattle.cover_names.specs.declared.literal.Literal.{Literal}

abbrev pub made_by_pairs : {X Y : Type 0} → (X → X → Option Y) → List X → List Y
made_by_pairs gives [] = []
made_by_pairs gives (one ∷ others) = filter_map (gives one) others ++ made_by_pairs gives others

-- the sum of two cubes, if both have a literal
abbrev pub sum_from : Cube → Cube → Option NamedCover
sum_from [] right = None
sum_from (literal ∷ left) [] = None
sum_from (literal ∷ left) (other ∷ right) = Some (sorted cube_cmp ((literal ∷ left) ∷ (other ∷ right) ∷ []))

-- the sum of what each of two cubes has that the other lacks
abbrev pub sum_of : Cube → Cube → Option NamedCover
sum_of one other = sum_from (own one other) (own other one)

-- the product of two literals
abbrev pub product_of : Literal → Literal → Option NamedCover
product_of one other = Some ((one ∷ other ∷ []) ∷ [])

-- what two cubes share, if it is two literals or more
abbrev pub shared_of : Cube → Cube → Option NamedCover
shared_of one other = if ltb (length (shared one other)) 2 then None else Some (shared one other ∷ [])

-- what a cube shares with the earlier one at an index
abbrev pub found_with : Option Cube → Cube → Option NamedCover
found_with None cube = None
found_with (Some other) cube = shared_of other cube

abbrev pub shared_at : List Cube → Cube → ℕ → Option NamedCover
shared_at earlier cube at = found_with (slice_get earlier at) cube

-- what each of some cubes shares with each of some others
abbrev pub shared_by_each : List Cube → List Cube → List NamedCover
shared_by_each others cubes = flat_map (λ (cube : Cube). filter_map (shared_of cube) others) cubes

-- whether a cube has all literals of another one
abbrev pub has_all : Cube → Cube → Bool
has_all cube one = list_all (λ (literal : Literal). list_any (same_literal literal) one) cube

-- what a cube shares with one of some others is a cube
abbrev pub IsSharedWithSome : List Cube → Cube → Cube → Type 0
IsSharedWithSome [] one cube = ⊥
IsSharedWithSome (other ∷ others) one cube = (shared one other ≡ cube) ⊎ IsSharedWithSome others one cube

-- what two of some cubes share, the earlier one first, is a cube
abbrev pub IsSharedByTwo : List Cube → Cube → Type 0
IsSharedByTwo [] cube = ⊥
IsSharedByTwo (one ∷ others) cube = IsSharedWithSome others one cube ⊎ IsSharedByTwo others cube
