-- When the head of a machine is sound: what holds of each one that is read. Source: BLIF appendix
-- of the SIS report (UCB/ERL M92/41): a model's ports are known by their names, and no port occurs
-- twice. The limit on names is the project's own.
use Rattle.std.specs.Prelude.{◌≡◌, ℕ, ◌≤◌, true, List, [], ◌∷◌, ◌++◌, length, unwrap_or}
use Rattle.std.specs.List.{AllByRecursion}
use Rattle.sis_base.specs.Written.{is_word}
use Rattle.circuit_model.specs.Names.{all_different}
use Rattle.blif_lines.specs.declared.content.Head.{Head}
use Rattle.sis_base.specs.declared.limits.TheConstants.{MAX_NAME}

-- the ports that a head lists
abbrev pub listed_ports_of : Head → List (List ℕ)
listed_ports_of head = unwrap_or head.inputs [] ++ unwrap_or head.outputs []

-- each name is a word, and no port occurs twice
pub record IsSoundHead (head : Head) : Type 0 where
  pub words : AllByRecursion (λ (name : List ℕ). is_word name ≡ true) (head.name ∷ listed_ports_of head)
  pub once : all_different (listed_ports_of head) ≡ true

-- each name has at most `MAX_NAME` bytes
pub record HasShortHead (head : Head) : Type 0 where
  pub names : AllByRecursion (λ (name : List ℕ). length name ≤ MAX_NAME) (head.name ∷ listed_ports_of head)
