-- Mapping a circuit by a library has one answer, but for want of memory.
use Rattle.std.proofs.Common.{◌≡◌, ◌⊎◌, List, refl, ap, inl, inr, arith}
use Rattle.std.specs.declared.result.Result.{Result}
use Rattle.std.specs.declared.result.Result.TheVariants.{Ok, Err}
use Rattle.circuit_model.specs.Soundness.{IsSound}
use Rattle.circuit_model.specs.declared.circuit.Circuit.{Circuit}
use Rattle.circuit_laws.proofs.Ranks.{acyclic_rank}
use Rattle.genlib_format.specs.Soundness.{IsSoundGates}
use Rattle.genlib_format.specs.declared.gate.Gate.{Gate}
use Rattle.subject_tree.specs.Roots.{IsTooLarge}
use Rattle.subject_tree.proofs.Growing.{trees_only}
use Rattle.tree_cover.proofs.GateValuing.{usable_use_pins}
use Rattle.tree_cover.proofs.EachGate.{gates_usable}
use Rattle.netlist.specs.declared.mapped.Mapped.{Mapped}
use Rattle.map_net.specs.declared.mapping.MapFault.{MapFault}
use Rattle.map_net.specs.declared.mapping.MapFault.TheVariants.{NoInverter, NoNand, TreeLimit}
use Rattle.map_net.specs.declared.mapping.MapFault.TheVariants.{NodeLimit, Memory}
use Rattle.map_net.specs.Mapping.{IsMapped, HasTooManyNodes, Maps}
use Rattle.map_net.proofs.Single.{HasOne, nodes_one, not_too_large, netlists_one}

module _ (circuit : Circuit) (library : List Gate) (has_one : HasOne circuit library) where
  -- a circuit with a netlist has not too many nodes
  not_too_many : (mapped : Mapped) → IsMapped circuit library mapped
      → HasTooManyNodes circuit library → ⊥
  not_too_many mapped is (covering, are, many) = omega
      (arith, many, is.few, nodes_one circuit library has_one is.covering covering is.covered are)

  not_large : (mapped : Mapped) → IsMapped circuit library mapped → IsTooLarge circuit → ⊥
  not_large mapped is = not_too_large circuit library has_one is.covering is.covered

  many_not_large : HasTooManyNodes circuit library → IsTooLarge circuit → ⊥
  many_not_large (covering, are, many) = not_too_large circuit library has_one covering are

  pub answers_one : (one other : Result Mapped MapFault) → Maps circuit library one
      → Maps circuit library other
      → (one ≡ other) ⊎ ((one ≡ Err Memory) ⊎ (other ≡ Err Memory))
  answers_one (Err Memory) other h k = inr (inl refl)
  answers_one one (Err Memory) h k = inr (inr refl)
  answers_one (Ok mapped) (Ok own) (i, n, is) (j, m, are) =
      inl (ap (λ (made : Mapped). Ok made)
      (netlists_one circuit library has_one mapped own is are))
  answers_one (Ok mapped) (Err NoInverter) (i, n, is) lacks = absurd (lacks i)
  answers_one (Ok mapped) (Err NoNand) (i, n, is) (j, lacks) = absurd (lacks n)
  answers_one (Ok mapped) (Err TreeLimit) (i, n, is) (j, m, large) =
      absurd (not_large mapped is large)
  answers_one (Ok mapped) (Err NodeLimit) (i, n, is) (j, m, many) =
      absurd (not_too_many mapped is many)
  answers_one (Err NoInverter) (Ok own) lacks (j, m, are) = absurd (lacks j)
  answers_one (Err NoInverter) (Err NoInverter) lacks k = inl refl
  answers_one (Err NoInverter) (Err NoNand) lacks (j, none) = absurd (lacks j)
  answers_one (Err NoInverter) (Err TreeLimit) lacks (j, m, large) = absurd (lacks j)
  answers_one (Err NoInverter) (Err NodeLimit) lacks (j, m, many) = absurd (lacks j)
  answers_one (Err NoNand) (Ok own) (i, lacks) (j, m, are) = absurd (lacks m)
  answers_one (Err NoNand) (Err NoInverter) (i, lacks) none = absurd (none i)
  answers_one (Err NoNand) (Err NoNand) h k = inl refl
  answers_one (Err NoNand) (Err TreeLimit) (i, lacks) (j, m, large) = absurd (lacks m)
  answers_one (Err NoNand) (Err NodeLimit) (i, lacks) (j, m, many) = absurd (lacks m)
  answers_one (Err TreeLimit) (Ok own) (i, n, large) (j, m, are) = absurd (not_large own are large)
  answers_one (Err TreeLimit) (Err NoInverter) (i, n, large) none = absurd (none i)
  answers_one (Err TreeLimit) (Err NoNand) (i, n, large) (j, none) = absurd (none n)
  answers_one (Err TreeLimit) (Err TreeLimit) h k = inl refl
  answers_one (Err TreeLimit) (Err NodeLimit) (i, n, large) (j, m, many) =
      absurd (many_not_large many large)
  answers_one (Err NodeLimit) (Ok own) (i, n, many) (j, m, are) = absurd (not_too_many own are many)
  answers_one (Err NodeLimit) (Err NoInverter) (i, n, many) none = absurd (none i)
  answers_one (Err NodeLimit) (Err NoNand) (i, n, many) (j, none) = absurd (none n)
  answers_one (Err NodeLimit) (Err TreeLimit) (i, n, many) (j, m, large) =
      absurd (many_not_large many large)
  answers_one (Err NodeLimit) (Err NodeLimit) h k = inl refl

-- a sound circuit has one choice of the trees of signals, and the gates of a sound library have
-- their pins in each pattern
pub sound_one : (circuit : Circuit) (library : List Gate) → IsSound circuit
    → IsSoundGates library → HasOne circuit library
sound_one circuit library sound well = record {
  trees = λ one other are into. trees_only circuit one other
      (acyclic_rank circuit.tables sound.acyclic) are into;
  pins = λ shapes gates have. usable_use_pins shapes gates
      (gates_usable shapes library gates have well.each);
}
