-- When the pairs of a line name each pin of a gate and its output once.
-- Source: the BLIF appendix of the SIS report (UCB/ERL M92/41), `.gate`.
use Rattle.std.specs.Prelude.{◌≡◌, ℕ, true, List, ◌∷◌}
use Rattle.std.specs.List.{list_all}
use Rattle.circuit_model.specs.Names.{has, all_different}
use Rattle.genlib_format.specs.declared.gate.Gate.{Gate}
use Rattle.blif_gates.specs.GateLines.{is_pair, pins_of}

-- all words are pairs, no two of them name one pin, and what they name are exactly the output and
-- the pins
pub record NamesEachOnce (gate : Gate) (words : List (List ℕ)) : Type 0 where
  pub pairs : list_all is_pair words ≡ true
  pub once : all_different (pins_of words) ≡ true
  pub named : (name : List ℕ) → has (pins_of words) name ≡ has (gate.output ∷ gate.pins) name
