-- Tables are replaced by their minima under their don't-cares: the circuit stays sound, and the
-- same to whoever drives and watches it.
use Rattle.std.proofs.Common.{◌≡◌, ℕ, Bool, true, false, not, Option, Some, None, List, [], ◌∷◌, map, fold}
use Rattle.std.proofs.Common.{refl, sym, ap, ◌∙◌, subst, inl, inr, ◌⊎◌, ◌↔◌}
use Rattle.std.specs.List.{AllByRecursion}
use Rattle.std.specs.Option.{option_map_or}
use Rattle.std.proofs.lemmas.Bool.{false≢true}
use Rattle.circuit_model.specs.Names.{has}
use Rattle.circuit_model.specs.Runs.{value_in, Refines}
use Rattle.circuit_model.specs.Soundness.{given, outputs_of, IsAcyclic, IsShaped, IsSound}
use Rattle.circuit_model.specs.Values.{Leaves, driver, driven_value, signal_value}
use Rattle.circuit_model.specs.declared.circuit.Table.{Table}
use Rattle.circuit_model.specs.declared.circuit.Circuit.{Circuit}
use Rattle.circuit_laws.specs.Edits.{replaced, with_tables, with_replaced}
use Rattle.circuit_laws.specs.Fitting.{IsFitting}
use Rattle.circuit_laws.specs.Same.{IsAssignment}
use Rattle.circuit_laws.proofs.Drivers.{driver_name, driver_all, driver_reads, driver_output}
use Rattle.circuit_laws.proofs.Drivers.{output_driver, outputs-replaced}
use Rattle.circuit_laws.proofs.Mapped.{live_reads}
use Rattle.circuit_laws.proofs.Names.{all_from_has}
use Rattle.circuit_laws.proofs.Paths.{narrowed_acyclic}
use Rattle.circuit_laws.proofs.Same.{same_itself, same_through, same_refines}
use Rattle.circuit_laws.proofs.Sound.{sound_settled, sound_replaced}
use Rattle.circuit_order.specs.Order.{order_of}
use Rattle.cube_cover.proofs.Points.{bool_cases}
use Rattle.net_func.specs.Signals.{own_function, is_seen}
use Rattle.sdc_simplify.specs.Minimized.{minimized}
use Rattle.sdc_simplify.specs.Simplified.{with_minimum}
use Rattle.sdc_simplify.proofs.Minimal.{minimized_value, minimized_output, minimized_reads, minimized_once, minimized_shaped}
use Rattle.odc_simplify.specs.Full.{leaf_count, is_dont_care, fully_simplified, IsKept}
use Rattle.odc_simplify.specs.Seen.{IsOver, values, seen_at}
use Rattle.odc_simplify.proofs.Leaves.{point_of, leaves_there, leaves_agree, own_agrees, seen_agrees}
use Rattle.odc_simplify.proofs.Points.{seen_here, seen_found}
use Rattle.odc_simplify.proofs.Unseen.{unseen_same}

-- the functions of a circuit look at its leaves alone
pub own_over : (circuit : Circuit) (signal : List ℕ)
    → IsOver (leaf_count circuit) (own_function circuit signal)
own_over circuit signal one other same =
    own_agrees circuit signal one other (leaves_agree circuit one other same)

pub inputs_over : (circuit : Circuit) (names : List (List ℕ))
    → AllByRecursion (IsOver (leaf_count circuit)) (map (own_function circuit) names)
inputs_over circuit [] = tt
inputs_over circuit (name ∷ names) = (own_over circuit name, inputs_over circuit names)

pub seen_over : (circuit : Circuit) (name : List ℕ)
    → IsOver (leaf_count circuit) (is_seen circuit name)
seen_over circuit name one other same =
    seen_agrees circuit name one other (leaves_agree circuit one other same)

-- the bits that a valuation gives to names
pub values_of_names : (circuit : Circuit) (names : List (List ℕ)) (leaves : ℕ → Bool)
    → values (map (own_function circuit) names) leaves
    ≡ map (λ name. own_function circuit name leaves) names
values_of_names circuit [] leaves = refl
values_of_names circuit (name ∷ names) leaves =
    ap (λ (bits : List Bool). own_function circuit name leaves ∷ bits)
    (values_of_names circuit names leaves)

not_true : (b : Bool) → not b ≡ true → b ≡ false
not_true true h = sym h
not_true false h = refl

not_false : (b : Bool) → b ≡ false → not b ≡ true
not_false true h = cc
not_false false h = refl

-- a point is a don't-care exactly if the signal is observable at no bits of the leaves that give
-- the point
pub dont_care_at : (circuit : Circuit) (table : Table) (leaves : ℕ → Bool)
    → is_dont_care circuit table (map (λ input. own_function circuit input leaves) table.inputs)
    ≡ true
    → is_seen circuit table.output leaves ≡ false
unfolding is_dont_care
dont_care_at circuit table leaves free = cases (bool_cases (is_seen circuit table.output leaves))
  where
    point : List Bool
    point = map (λ input. own_function circuit input leaves) table.inputs

    cases : (is_seen circuit table.output leaves ≡ true) ⊎ (is_seen circuit table.output leaves
        ≡ false)
        → is_seen circuit table.output leaves ≡ false
    cases (inr unseen) = unseen
    cases (inl seen) =
        let there : seen_at (leaf_count circuit) (map (own_function circuit) table.inputs)
        (is_seen circuit table.output) (values (map (own_function circuit) table.inputs) leaves)
        ≡ true
        = seen_here (leaf_count circuit) (map (own_function circuit) table.inputs)
        (is_seen circuit table.output) leaves (seen_over circuit table.output)
        (inputs_over circuit table.inputs) seen in
        let here : seen_at (leaf_count circuit) (map (own_function circuit) table.inputs)
        (is_seen circuit table.output) point ≡ true
        = ap (seen_at (leaf_count circuit) (map (own_function circuit) table.inputs)
        (is_seen circuit table.output)) (sym
        (values_of_names circuit table.inputs leaves)) ∙ there in
        absurd (false≢true (sym (not_true _ free) ∙ here))

pub dont_care_where : (circuit : Circuit) (table : Table) (point : List Bool)
    → ((leaves : ℕ → Bool) → map (λ input. own_function circuit input leaves) table.inputs ≡ point
    → is_seen circuit table.output leaves ≡ false)
    → is_dont_care circuit table point ≡ true
unfolding is_dont_care
dont_care_where circuit table point hidden =
    cases (bool_cases (seen_at (leaf_count circuit) (map (own_function circuit) table.inputs)
    (is_seen circuit table.output) point))
  where
    cases : (seen_at (leaf_count circuit) (map (own_function circuit) table.inputs)
        (is_seen circuit table.output) point ≡ true)
        ⊎ (seen_at (leaf_count circuit) (map (own_function circuit) table.inputs)
        (is_seen circuit table.output) point ≡ false)
        → not (seen_at (leaf_count circuit) (map (own_function circuit) table.inputs)
        (is_seen circuit table.output) point) ≡ true
    cases (inr unseen) = not_false _ unseen
    cases (inl seen) =
        let (leaves, there, is) = seen_found (leaf_count circuit)
        (map (own_function circuit) table.inputs) (is_seen circuit table.output) point seen in
        absurd (false≢true
        (sym (hidden leaves (sym (values_of_names circuit table.inputs leaves) ∙ is)) ∙ there))

-- what tables read at a leaf assignment
bits_there : (circuit : Circuit) (names : List (List ℕ)) (state row : List Bool)
    → IsAssignment circuit state row
    → map (λ input. own_function circuit input (point_of state row)) names
    ≡ map (value_in circuit state row) names
unfolding value_in
bits_there circuit [] state row wide = refl
bits_there circuit (name ∷ names) state row wide =
    ap (λ (leaves : Leaves). signal_value circuit.tables leaves name
    ∷ map (λ input. own_function circuit input (point_of state row)) names)
    (leaves_there circuit state row wide)
    ∙ ap (λ (bits : List Bool). value_in circuit state row name ∷ bits)
    (bits_there circuit names state row wide)

-- the minimum of a table of a sound circuit
module _ (circuit : Circuit) (name : List ℕ) (table : Table) (sound : IsSound circuit)
    (at : driver circuit.tables name ≡ Some table) where
  abbrev least : Table
  least = minimized table (is_dont_care circuit table)

  output_is : least.output ≡ table.output
  output_is = minimized_output table (is_dont_care circuit table)

  least_at : driver circuit.tables least.output ≡ Some table
  least_at =
      ap (driver circuit.tables) (output_is ∙ driver_name circuit.tables name table at) ∙ at

  reads : (other : List ℕ) → has least.inputs other ≡ true → has table.inputs other ≡ true
  reads = minimized_reads table (is_dont_care circuit table)

  shaped : IsShaped table
  shaped = driver_all IsShaped circuit.tables sound.shaped name table at

  pub least_fits : IsFitting circuit least
  least_fits = record {
    live = all_from_has (λ input. has (given circuit) input ≡ true) least.inputs
        (λ input among.
        live_reads circuit sound input
        (driver_reads circuit.tables name table input at (reads input among)));
    once = minimized_once table (is_dont_care circuit table);
    shaped = minimized_shaped table (is_dont_care circuit table) shaped.0;
  }

  pub least_acyclic : IsAcyclic (replaced circuit.tables least)
  least_acyclic = narrowed_acyclic circuit.tables table least sound.acyclic least_at reads

  hidden : (state row : List Bool) → IsAssignment circuit state row
      → (driven_value (Some least) (value_in circuit state row)
      ≡ driven_value (Some table) (value_in circuit state row) → ⊥)
      → is_seen circuit least.output (point_of state row) ≡ false
  hidden state row wide other =
      ap (λ (signal : List ℕ). is_seen circuit signal (point_of state row)) output_is
      ∙ cases (bool_cases (is_dont_care circuit table (map
      (value_in circuit state row) table.inputs)))
    where
      cases : (is_dont_care circuit table (map (value_in circuit state row) table.inputs) ≡ true)
          ⊎ (is_dont_care circuit table (map (value_in circuit state row) table.inputs) ≡ false)
          → is_seen circuit table.output (point_of state row) ≡ false
      cases (inl free) =
          dont_care_at circuit table (point_of state row)
          (ap (is_dont_care circuit table) (bits_there circuit table.inputs state row wide) ∙ free)
      cases (inr care) =
          absurd (other (minimized_value table (is_dont_care circuit table)
          (value_in circuit state row) shaped.0 care))

  pub least_kept : IsKept circuit (with_replaced circuit least)
  unfolding with_replaced
  least_kept = record {
    sound = sound_replaced circuit least sound
        (driver_output circuit.tables least.output table least_at) least_fits least_acyclic;
    rest = refl;
    signals = outputs-replaced circuit.tables least;
    same = unseen_same circuit table least (sound_settled circuit sound) least_at reads hidden;
  }

-- nothing changes, and one change after the other
pub kept_itself : (circuit : Circuit) → IsSound circuit → IsKept circuit circuit
kept_itself circuit sound =
    record { sound = sound; rest = refl; signals = refl; same = same_itself circuit }

pub kept_through : (first second third : Circuit) → IsKept first second → IsKept second third
    → IsKept first third
kept_through first second third before after = record {
  sound = after.sound;
  rest = after.rest ∙ ap (λ (circuit : Circuit). with_tables circuit third.tables) before.rest;
  signals = after.signals ∙ before.signals;
  same = same_through first second third before.same after.same;
}

-- one step, and all of them
pub turn_kept : (circuit : Circuit) (name : List ℕ) → IsSound circuit
    → IsKept circuit (with_minimum is_dont_care circuit name)
unfolding with_minimum
turn_kept circuit name sound = cases (driver circuit.tables name) refl
  where
    cases : (found : Option Table) → driver circuit.tables name ≡ found
        → IsKept circuit (option_map_or
        (λ table. with_replaced circuit (minimized table
        (is_dont_care circuit table))) found circuit)
    cases None at = kept_itself circuit sound
    cases (Some table) at = least_kept circuit name table sound at

-- the table that is made in a step may replace the old one, and the circuit is then that of the
-- step
module _ (circuit : Circuit) (name : List ℕ) (made : Table) (sound : IsSound circuit)
    (driven : has (outputs_of circuit.tables) name ≡ true)
    (is : (table : Table) → driver circuit.tables name ≡ Some table
    → made ≡ minimized table (is_dont_care circuit table)) where
  pub made_fits : IsFitting circuit made
  made_fits =
      let (table, at) = output_driver circuit.tables name driven in
      subst (IsFitting circuit) (sym (is table at)) (least_fits circuit name table sound at)

  pub made_acyclic : IsAcyclic (replaced circuit.tables made)
  made_acyclic =
      let (table, at) = output_driver circuit.tables name driven in
      subst (λ (t : Table). IsAcyclic (replaced circuit.tables t)) (sym (is table at))
      (least_acyclic circuit name table sound at)

  pub made_output : made.output ≡ name
  made_output =
      let (table, at) = output_driver circuit.tables name driven in
      ap (λ (t : Table). t.output) (is table at)
      ∙ minimized_output table (is_dont_care circuit table)
      ∙ driver_name circuit.tables name table at

  pub made_reads : (old : Table) → driver circuit.tables made.output ≡ Some old
      → (input : List ℕ) → has made.inputs input ≡ true → has old.inputs input ≡ true
  made_reads old at input among =
      let there : driver circuit.tables name ≡ Some old =
      ap (driver circuit.tables) (sym made_output) ∙ at in
      minimized_reads old (is_dont_care circuit old) input
      (subst (λ (t : Table). has t.inputs input ≡ true) (is old there) among)

  pub made_turned : with_replaced circuit made ≡ with_minimum is_dont_care circuit name
  unfolding with_minimum
  made_turned =
      let (table, at) = output_driver circuit.tables name driven in
      ap (with_replaced circuit) (is table at)
      ∙ sym (ap (λ (found : Option Table). option_map_or (λ t. with_replaced circuit
      (minimized t (is_dont_care circuit t))) found circuit) at)

  pub made_signals : (new : Circuit) → new ≡ with_replaced circuit made
      → outputs_of new.tables ≡ outputs_of circuit.tables
  made_signals new put =
      ap (λ (c : Circuit). outputs_of c.tables) (put ∙ made_turned)
      ∙ (turn_kept circuit name sound).signals

turns_kept : (names : List (List ℕ)) (circuit : Circuit) → IsSound circuit
    → IsKept circuit (fold (with_minimum is_dont_care) circuit names)
turns_kept [] circuit sound = kept_itself circuit sound
turns_kept (name ∷ names) circuit sound =
    let turn : IsKept circuit
    (with_minimum is_dont_care circuit name) = turn_kept circuit name sound in
    kept_through circuit (with_minimum is_dont_care circuit name)
    (fold (with_minimum is_dont_care) (with_minimum is_dont_care circuit name) names) turn
    (turns_kept names (with_minimum is_dont_care circuit name) turn.sound)

pub fully_kept : (circuit : Circuit) → IsSound circuit → IsKept circuit (fully_simplified circuit)
unfolding fully_simplified
fully_kept circuit sound = turns_kept (order_of circuit.tables) circuit sound

pub fully_refines : (circuit : Circuit) → IsSound circuit
    → Refines circuit (fully_simplified circuit)
fully_refines circuit sound =
    same_refines circuit (fully_simplified circuit) (fully_kept circuit sound).same

pub dont_care_is : (circuit : Circuit) (table : Table) (point : List Bool)
    → (is_dont_care circuit table point ≡ true)
    ↔ ((leaves : ℕ → Bool) → map (λ input. own_function circuit input leaves) table.inputs ≡ point
    → is_seen circuit table.output leaves ≡ false)
dont_care_is circuit table point = (
  λ free leaves is. dont_care_at circuit table leaves (ap (is_dont_care circuit table) is ∙ free),
  dont_care_where circuit table point,
)
