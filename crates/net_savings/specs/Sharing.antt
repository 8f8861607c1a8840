-- What rows of tables at two indices share, and for which indices it is listed.
-- Source: the SIS report (UCB/ERL M92/41), `gcx`: the candidates are the cubes that two rows of the
-- circuit share.
use Rattle.std.specs.Prelude.{◌≡◌, ◌≢◌, ◌⊎◌, ℕ, ◌≤◌, Option, Some, None, List, [], ◌∷◌, length}
use Rattle.circuit_model.specs.declared.circuit.Table.{Table}
use Rattle.alg_div.specs.Cubes.{Has}
use Rattle.net_candidates.specs.Candidates.{ArePair, shared, cubes_of, literals_in}
use Rattle.net_candidates.specs.declared.rule.Rule.{Rule}
use Rattle.net_candidates.specs.declared.rule.Rule.TheVariants.{Fx, Gkx, Gcx}
use Rattle.cover_names.specs.Literals.{Cube, NamedCover}
use Rattle.net_work.specs.Placed.{table_at}
use Rattle.net_savings.specs.Listing.{IsListed}

-- the cubes of the rows of a table; none if there is no table
abbrev pub cubes_in : Option Table → List Cube
cubes_in None = []
cubes_in (Some table) = cubes_of table

-- two rows share a cover, a cube of two literals or more: one row of the first table and one of the
-- second, if these are at two indices; two rows of the table, if they are at one
pub record AreSharers (one other : ℕ) (first second : Option Table) (cover : NamedCover) : Type 0 where
  pub row : Cube
  pub another : Cube
  pub rows : ((one ≢ other) × Has row (cubes_in first) × Has another (cubes_in second)) ⊎ ((one ≡ other) × ArePair (cubes_in first) row another)
  pub two : 2 ≤ length (shared row another)
  pub is : cover ≡ shared row another ∷ []

-- tables at two indices give a cover together, if a rule asks for what rows share
abbrev pub IsSharedBy : Rule → List (Option Table) → ℕ → ℕ → NamedCover → Type 0
IsSharedBy Fx slots one other cover = ⊥
IsSharedBy Gkx slots one other cover = ⊥
IsSharedBy Gcx slots one other cover = AreSharers one other (table_at slots one) (table_at slots other) cover

-- covers with a literal each, among them all that the table at an index gives together with itself
-- and with those that are listed
pub record AreSharedHere (rule : Rule) (slots : List (Option Table)) (own : List (Option (List NamedCover))) (place : ℕ) (covers : List NamedCover) : Type 0 where
  pub some : (cover : NamedCover) → Has cover covers → 1 ≤ literals_in cover
  pub here : (cover : NamedCover) → IsSharedBy rule slots place place cover → Has cover covers
  pub there : (other : ℕ) (cover : NamedCover) → IsListed own other → IsSharedBy rule slots place other cover → Has cover covers
