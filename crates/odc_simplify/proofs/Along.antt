-- Steps, one after the other: the rest of an order ends with the circuit with which the whole order
-- ends.
use Rattle.std.proofs.Common.{◌≡◌, ℕ, ◌<◌, ◌≤◌, ◌+◌, true, List, [], ◌∷◌, length, drop}
use Rattle.std.proofs.Common.{get_or, refl, sym, ap, ◌∙◌, subst, inl, inr}
use Rattle.std.proofs.lemmas.List.{drop_more, at_drop_all}
use Rattle.circuit_model.specs.Names.{has}
use Rattle.circuit_model.specs.Soundness.{outputs_of}
use Rattle.circuit_model.specs.declared.circuit.Circuit.{Circuit}
use Rattle.circuit_laws.proofs.Names.{has_head, has_tail}
use Rattle.sdc_simplify.specs.Simplified.{with_minimum}
use Rattle.odc_simplify.specs.Full.{is_dont_care}
use Rattle.odc_simplify.specs.Turns.{Passes, PassAlong, IsTurnFault, IsFaultAlong, IsFullFault}
use Rattle.odc_simplify.specs.Turns.{AreTurned, IsUnderway}
use Rattle.odc_simplify.specs.declared.fault.FullFault.{FullFault}
use Rattle.odc_simplify.specs.declared.fault.FullFault.TheVariants.{CubeLimit, TooBig, Memory}

pub underway_first : (limit : ℕ) (names : List (List ℕ)) (circuit : Circuit)
    → ((name : List ℕ) → has names name ≡ true → has (outputs_of circuit.tables) name ≡ true)
    → IsUnderway limit limit names names circuit circuit
underway_first limit names circuit driven = record {
  same = refl;
  driven = driven;
  end_same = refl;
  passed = λ h. h;
  faults = λ fault h. h;
}

-- the step of the next signal
turn_done : (limit : ℕ) (names rest : List (List ℕ)) (before now : Circuit) (name : List ℕ)
    → IsUnderway limit limit names (name ∷ rest) before now → Passes limit now name
    → outputs_of (with_minimum is_dont_care now name).tables ≡ outputs_of now.tables
    → IsUnderway limit limit names rest before (with_minimum is_dont_care now name)
unfolding PassAlong IsFaultAlong
turn_done limit names rest before now name along passes signals = record {
  same = refl;
  driven = λ other among.
      ap (λ (outputs : List (List ℕ)). has outputs other) signals
      ∙ along.driven other (has_tail name rest other among);
  end_same = along.end_same;
  passed = λ h. along.passed (passes, h);
  faults = λ fault h. along.faults fault (inr (passes, h));
}

-- the step of a signal at a position of the order
module _ (limit later : ℕ) (names : List (List ℕ)) (i : ℕ) (name d : List ℕ) (before now : Circuit)
    (low : i < length names) (there : name ≡ get_or names i d)
    (along : IsUnderway limit later names (drop i names) before now) where
  abbrev rest : List (List ℕ)
  rest = drop (i + 1) names

  next : IsUnderway limit limit names (name ∷ rest) before now
  next = subst (λ (l : ℕ). IsUnderway limit l names (name ∷ rest) before now) along.same
      (subst (λ (left : List (List ℕ)). IsUnderway limit later names left before now)
      (drop_more names i d low ∙ ap (λ (first : List ℕ). first ∷ rest) (sym there)) along)

  pub turn_due : has (outputs_of now.tables) name ≡ true
  turn_due = next.driven name (has_head name rest)

  pub turn_more : (after : ℕ) (new : Circuit) → after ≡ later
      → new ≡ with_minimum is_dont_care now name
      → outputs_of new.tables ≡ outputs_of now.tables → Passes later now name
      → IsUnderway limit after names (drop (i + 1) names) before new
  turn_more after new stays made signals passes =
      subst (λ (l : ℕ). IsUnderway limit l names rest before new) (sym (stays ∙ along.same))
      (subst (λ (c : Circuit). IsUnderway limit limit names rest before c) (sym made)
      (turn_done limit names rest before now name next
      (subst (λ (l : ℕ). Passes l now name) along.same passes)
      (ap (λ (c : Circuit). outputs_of c.tables) (sym made) ∙ signals)))

  pub turn_stopped : (fault : FullFault) → IsTurnFault later now name fault
      → IsFaultAlong limit before names fault
  unfolding IsFaultAlong
  turn_stopped fault failed =
      next.faults fault (inl (subst (λ (l : ℕ). IsTurnFault l now name fault) along.same failed))

-- at the end of the order
pub turns_done : (limit later : ℕ) (names : List (List ℕ)) (i : ℕ) (before now : Circuit)
    → IsUnderway limit later names (drop i names) before now → length names ≤ i
    → AreTurned limit before names now
unfolding PassAlong
turns_done limit later names i before now along done = record {
  passed = last.passed tt;
  made = sym last.end_same;
}
  where
    last : IsUnderway limit later names [] before now
    last = subst (λ (left : List (List ℕ)). IsUnderway limit later names left before now)
        (at_drop_all (λ (left : List (List ℕ)). left) names i done) along

pub full_fault : (limit : ℕ) (circuit : Circuit) (names : List (List ℕ)) (fault : FullFault)
    → IsFaultAlong limit circuit names fault → IsFullFault limit circuit names fault
full_fault limit circuit names (CubeLimit blamed) h = h
full_fault limit circuit names (TooBig blamed) h = h
full_fault limit circuit names Memory h = tt
