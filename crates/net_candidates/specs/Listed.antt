-- The candidates of one table, and those that cubes share: what extraction may choose from, split
-- by origin.
-- Source: Rajski and Vasudevamurthy (IEEE Transactions on CAD 11, 1992); Brayton and McMullen, "The
-- Decomposition and Factorization of Boolean Expressions" (1982); De Micheli, "Synthesis and
-- Optimization of Digital Circuits", chapter 8.
use Rattle.std.specs.Prelude.{◌≡◌, ◌⊎◌, ◌≤◌, List, [], ◌∷◌, length}
use Rattle.alg_div.specs.Cubes.{Has}
use Rattle.circuit_model.specs.declared.circuit.Table.{Table}
use Rattle.net_candidates.specs.Candidates.{ArePair, shared, IsDivisorOfTwoCubes, IsCubeOfTwoLiterals, IsKernelOf}
use Rattle.net_candidates.specs.declared.rule.Rule.{Rule}
use Rattle.net_candidates.specs.declared.rule.Rule.TheVariants.{Fx, Gkx, Gcx}
use Rattle.cover_names.specs.Literals.{Cube, NamedCover}

-- what one table gives by itself
abbrev pub IsOwn : Rule → Table → NamedCover → Type 0
IsOwn Fx table cover = IsDivisorOfTwoCubes table cover ⊎ IsCubeOfTwoLiterals table cover
IsOwn Gkx table cover = IsKernelOf table cover
IsOwn Gcx table cover = ⊥

-- what two of some cubes share, if it is two literals or more
pub record IsSharedOf (cubes : List Cube) (cover : NamedCover) : Type 0 where
  pub one : Cube
  pub other : Cube
  pub pair : ArePair cubes one other
  pub two : 2 ≤ length (shared one other)
  pub is : cover ≡ shared one other ∷ []

-- what one of some cubes shares with one of some others, or with a later one of the cubes, if it is
-- two literals or more
pub record IsSharedWith (cubes others : List Cube) (cover : NamedCover) : Type 0 where
  pub one : Cube
  pub other : Cube
  pub pair : (Has one cubes × Has other others) ⊎ ArePair cubes one other
  pub two : 2 ≤ length (shared one other)
  pub is : cover ≡ shared one other ∷ []
