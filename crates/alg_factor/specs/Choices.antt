-- How the literal in most rows is found: the best so far, over the literals by rank. No public
-- clause needs these definitions. Source: Brayton et al., "MIS: A Multiple-Level Logic Optimization
-- System" (best literal).
use Rattle.std.specs.Prelude.{◌≡◌, ℕ, ◌<◌, ◌≤◌, ltb, Bool, if◌then◌else◌, Option, Some, None, List}
use Rattle.cube_cover.specs.Literals.{literal_occurrences}
use Rattle.alg_factor.specs.Forms.{rank}
use Rattle.alg_factor.specs.declared.choice.Best.{Best}

-- the best literal, with its count, among those of a rank below a bound
pub record IsBestOf (bound : ℕ) (rows : List (List (Option Bool))) (best : Best) : Type 0 where
  pub count : best.count ≡ literal_occurrences best.place best.bit rows
  pub two : 2 ≤ best.count
  pub below : rank best.place best.bit < bound
  pub most : (i : ℕ) (b : Bool) → rank i b < bound → literal_occurrences i b rows ≤ best.count
  pub first : (i : ℕ) (b : Bool) → rank i b < rank best.place best.bit → literal_occurrences i b rows < best.count

-- the best literal below the bound; none if none of them occurs in two rows
abbrev pub IsBest : ℕ → List (List (Option Bool)) → Option Best → Type 0
IsBest bound rows None = (i : ℕ) (b : Bool) → rank i b < bound → literal_occurrences i b rows < 2
IsBest bound rows (Some best) = IsBestOf bound rows best

-- the next one only if it occurs in two rows, and in more than the earlier one
abbrev pub greater : Option Best → Best → Option Best
greater None next = if ltb next.count 2 then None else Some next
greater (Some best) next = if ltb best.count next.count then Some next else Some best
