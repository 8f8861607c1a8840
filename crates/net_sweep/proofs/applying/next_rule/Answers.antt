use Rattle.std.proofs.Common.{◌≡◌, ℕ, Option, None, subst}
use Rattle.circuit_model.specs.declared.circuit.Circuit.{Circuit}
use Rattle.net_sweep.specs.declared.queues.Rule.{Rule}
use Rattle.net_sweep.specs.declared.queues.Rule.TheVariants.{TidyTable, WriteConstant, PropagateConstant, CollapseSingleInput}
use Rattle.net_sweep.specs.Settled.{IsFirst}
use Rattle.net_sweep.specs.Settled.{passes}
use Rattle.net_sweep.proofs.Changing.{next_tidy, next_constant, next_propagate, next_collapse, next_none, marked_for_each}
use Rattle.net_sweep.proofs.applying.next_rule.Goals as goal

moved : (rule : Rule) (circuit : Circuit) (o p : Option ℕ) → IsFirst (passes rule circuit.tables) circuit.tables o → o ≡ p → IsFirst (passes rule circuit.tables) circuit.tables p
moved rule circuit o p h e = subst (λ (q : Option ℕ). IsFirst (passes rule circuit.tables) circuit.tables q) e h

pub first_place-requires-clause-candidates : goal.first_place-requires-clause-candidates
first_place-requires-clause-candidates g c = c.requires.candidates TidyTable

pub returns-in-Some-clause-next : goal.returns-in-Some-clause-next
returns-in-Some-clause-next g c =
    next_tidy c.args.aliased.now c.in-Some.place
    (moved TidyTable c.args.aliased.now _ _ c.in_ok-place.ensures.first c.in-Some.is)

pub returns-in-Some-clause-candidates : goal.returns-in-Some-clause-candidates
returns-in-Some-clause-candidates g c =
    marked_for_each _ c.args.aliased.now.tables c.in_ok-place.ensures.candidates (c.requires.candidates WriteConstant) (c.requires.candidates PropagateConstant) (c.requires.candidates CollapseSingleInput)

pub first_place-requires-2-clause-candidates : goal.first_place-requires-2-clause-candidates
first_place-requires-2-clause-candidates g c = c.requires.candidates WriteConstant

pub returns-in-Some-2-clause-next : goal.returns-in-Some-2-clause-next
returns-in-Some-2-clause-next g c =
    next_constant c.args.aliased.now c.in-Some-2.place (moved TidyTable c.args.aliased.now _ None c.in_ok-place.ensures.first c.in_default.is)
    (moved WriteConstant c.args.aliased.now _ _ c.in_ok-place-2.ensures.first c.in-Some-2.is)

pub returns-in-Some-2-clause-candidates : goal.returns-in-Some-2-clause-candidates
returns-in-Some-2-clause-candidates g c =
    marked_for_each _ c.args.aliased.now.tables c.in_ok-place.ensures.candidates c.in_ok-place-2.ensures.candidates (c.requires.candidates PropagateConstant) (c.requires.candidates CollapseSingleInput)

pub first_place-requires-3-clause-candidates : goal.first_place-requires-3-clause-candidates
first_place-requires-3-clause-candidates g c = c.requires.candidates PropagateConstant

pub returns-in-Some-3-clause-next : goal.returns-in-Some-3-clause-next
returns-in-Some-3-clause-next g c =
    next_propagate c.args.aliased.now c.in-Some-3.place (moved TidyTable c.args.aliased.now _ None c.in_ok-place.ensures.first c.in_default.is) (moved WriteConstant c.args.aliased.now _ None c.in_ok-place-2.ensures.first c.in_default-2.is)
    (moved PropagateConstant c.args.aliased.now _ _ c.in_ok-place-3.ensures.first c.in-Some-3.is)

pub returns-in-Some-3-clause-candidates : goal.returns-in-Some-3-clause-candidates
returns-in-Some-3-clause-candidates g c =
    marked_for_each _ c.args.aliased.now.tables c.in_ok-place.ensures.candidates c.in_ok-place-2.ensures.candidates c.in_ok-place-3.ensures.candidates (c.requires.candidates CollapseSingleInput)

pub first_place-requires-4-clause-candidates : goal.first_place-requires-4-clause-candidates
first_place-requires-4-clause-candidates g c = c.requires.candidates CollapseSingleInput

pub returns-in-Some-4-clause-next : goal.returns-in-Some-4-clause-next
returns-in-Some-4-clause-next g c =
    next_collapse c.args.aliased.now c.in-Some-4.place (moved TidyTable c.args.aliased.now _ None c.in_ok-place.ensures.first c.in_default.is) (moved WriteConstant c.args.aliased.now _ None c.in_ok-place-2.ensures.first c.in_default-2.is) (moved PropagateConstant c.args.aliased.now _ None c.in_ok-place-3.ensures.first c.in_default-3.is)
    (moved CollapseSingleInput c.args.aliased.now _ _ c.in_ok-place-4.ensures.first c.in-Some-4.is)

pub returns-in-Some-4-clause-candidates : goal.returns-in-Some-4-clause-candidates
returns-in-Some-4-clause-candidates g c =
    marked_for_each _ c.args.aliased.now.tables c.in_ok-place.ensures.candidates c.in_ok-place-2.ensures.candidates c.in_ok-place-3.ensures.candidates c.in_ok-place-4.ensures.candidates

pub returns-clause-next : goal.returns-clause-next
returns-clause-next g c = next_none c.args.aliased.now (moved TidyTable c.args.aliased.now _ None c.in_ok-place.ensures.first c.in_default.is) (moved WriteConstant c.args.aliased.now _ None c.in_ok-place-2.ensures.first c.in_default-2.is) (moved PropagateConstant c.args.aliased.now _ None c.in_ok-place-3.ensures.first c.in_default-3.is) (moved CollapseSingleInput c.args.aliased.now _ None c.in_ok-place-4.ensures.first c.in_default-4.is)

pub returns-clause-candidates : goal.returns-clause-candidates
returns-clause-candidates g c = marked_for_each _ c.args.aliased.now.tables c.in_ok-place.ensures.candidates c.in_ok-place-2.ensures.candidates c.in_ok-place-3.ensures.candidates c.in_ok-place-4.ensures.candidates
