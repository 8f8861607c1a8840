-- Indices that are visited once and twice. No public clause needs these definitions.
-- Source: the project's own.
use Rattle.std.specs.Prelude.{◌≡◌, ◌≤◌, ◌==◌, ℕ, Bool, true, Option, Some, None, List, ◌++◌, slice_get}
use Rattle.net_candidates.specs.Spots.{many}

abbrev pub marked_by : Option ℕ → ℕ → Bool
marked_by None mark = true
marked_by (Some found) mark = found == mark

-- whether an index has a mark; one without any counts as marked
abbrev pub is_marked : List ℕ → ℕ → ℕ → Bool
is_marked marks mark at = marked_by (slice_get marks at) mark

-- of the indices that are visited, those visited once are marked, and those visited twice are
-- partners
pub record AreMet (met : List ℕ) (marked partners : ℕ → Bool) : Type 0 where
  pub once : (at : ℕ) → 1 ≤ many (λ place. place == at) met → marked at ≡ true
  pub twice : (at : ℕ) → 2 ≤ many (λ place. place == at) met → partners at ≡ true

-- more indices are visited, after those visited before
pub record AreMetNext (places : List ℕ) (marked marked_then partners partners_then : ℕ → Bool) : Type 0 where
  pub more : (met : List ℕ) → AreMet met marked partners → AreMet (met ++ places) marked_then partners_then
