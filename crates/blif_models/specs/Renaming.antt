-- Pairs looked up by their formals, as the code keeps them. Source: BLIF appendix of the SIS report
-- (UCB/ERL M92/41), `.subckt`: a formal is its actual; of two pairs of one formal the first counts.
-- Only clauses of this crate's own functions cite this module.
use Rattle.std.specs.Prelude.{◌≡◌, ℕ, Option, List, find, bytes_eq, option_map}
use Rattle.std.specs.Borrow.{Bor}
use Rattle.indexmap.specs.IndexMap.{IndexMap, get_by}
use Rattle.blif_gates.specs.GateLines.{pin_in, signal_in}

-- the actual of a formal, by pairs; none if it is no formal
unfoldable pub actual_of : List (List ℕ) → List ℕ → Option (List ℕ)
actual_of pairs formal = option_map signal_in (find (λ pair. bytes_eq formal (pin_in pair)) pairs)

-- what an index of words by words has at a word
abbrev pub looked_up : {S : Type 0} → IndexMap (Bor (List ℕ)) (Bor (List ℕ)) S → List ℕ → Option (List ℕ)
looked_up index word = option_map (λ (found : Bor (List ℕ)). found.now) (get_by (λ (key : Bor (List ℕ)). bytes_eq word key.now) index)

-- an index has the actual of each formal
abbrev pub IsIndex : List (List ℕ) → (List ℕ → Option (List ℕ)) → Type 0
IsIndex pairs index = (formal : List ℕ) → index formal ≡ actual_of pairs formal
