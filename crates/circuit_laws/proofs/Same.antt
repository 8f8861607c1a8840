-- Circuits that are the same to an outside observer.
use Rattle.std.proofs.Common.{◌≡◌, ℕ, Bool, true, false, Option, List, [], ◌∷◌, map, length, if◌then◌else◌, refl, sym, ap, ap₂, ◌∙◌, subst}
use Rattle.std.proofs.lemmas.List.{length-map}
use Rattle.std.specs.List.{AllByRecursion, AllZip}
use Rattle.std.specs.Option.{option_or}
use Rattle.circuit_model.specs.Names.{has}
use Rattle.circuit_model.specs.Values.{Leaves, is_free_under}
use Rattle.circuit_model.specs.Runs.{bit_of, leaves_of, value_in, is_free, tri_of, output_at, outputs_at, next_state, IsStart, may_start, Refines}
use Rattle.circuit_model.specs.Soundness.{given, latch_inputs}
use Rattle.circuit_model.specs.declared.circuit.Tri.TheVariants.{Free}
use Rattle.circuit_model.specs.declared.circuit.Table.{Table}
use Rattle.circuit_model.specs.declared.circuit.Latch.{Latch}
use Rattle.circuit_model.specs.declared.circuit.Circuit.{Circuit}
use Rattle.circuit_laws.specs.Edits.{with_tables}
use Rattle.circuit_laws.specs.Same.{IsAssignment, IsSame, KeepsValues}
use Rattle.circuit_laws.proofs.Names.{all_from_has}
use Rattle.circuit_laws.proofs.Simulated.{simulated, start_long}

pub assigned : (old new : Circuit) → old.latches ≡ new.latches → old.inputs ≡ new.inputs → (state row : List Bool) → IsAssignment old state row → IsAssignment new state row
assigned old new latches inputs state row a = (a.0 ∙ ap length latches, a.1 ∙ ap length inputs)

pub same_itself : (circuit : Circuit) → IsSame circuit circuit
same_itself circuit = record {
  inputs = refl;
  outputs = refl;
  latches = refl;
  dont_care = refl;
  shows = λ state row a. refl;
  takes = λ state row a. refl;
}

pub same_turned : (old new : Circuit) → IsSame old new → IsSame new old
same_turned old new same = record {
  inputs = sym same.inputs;
  outputs = sym same.outputs;
  latches = sym same.latches;
  dont_care = sym same.dont_care;
  shows = λ state row a. sym (same.shows state row (assigned new old (sym same.latches) (sym same.inputs) state row a));
  takes = λ state row a. sym (same.takes state row (assigned new old (sym same.latches) (sym same.inputs) state row a));
}

pub same_through : (first second third : Circuit) → IsSame first second → IsSame second third → IsSame first third
same_through first second third p q = record {
  inputs = p.inputs ∙ q.inputs;
  outputs = p.outputs ∙ q.outputs;
  latches = p.latches ∙ q.latches;
  dont_care = p.dont_care ∙ q.dont_care;
  shows = λ state row a. p.shows state row a ∙ q.shows state row (assigned first second p.latches p.inputs state row a);
  takes = λ state row a. p.takes state row a ∙ q.takes state row (assigned first second p.latches p.inputs state row a);
}

-- the state after a step has a bit for each latch
pub next_long : (circuit : Circuit) (state row : List Bool) → length (next_state circuit state row) ≡ length circuit.latches
unfolding next_state
next_long circuit state row = length-map circuit.latches (λ (latch : Latch). value_in circuit state row latch.input)

abbrev AreOne : Circuit → List Bool → List Bool → Type 0
AreOne circuit start state = (start ≡ state) × (length state ≡ length circuit.latches)

pub same_refines : (old new : Circuit) → IsSame old new → Refines old new
unfolding IsStart
same_refines old new same =
    simulated (AreOne new) old new same.inputs same.outputs
    (λ state begins. (state, subst (λ (latches : List Latch). AllZip (λ (latch : Latch) bit. may_start latch.init bit) latches state) (sym same.latches) begins, (refl, start_long new state begins)))
    (λ start state row related wide.
    let a : IsAssignment old start row = (ap length related.0 ∙ related.1 ∙ ap length (sym same.latches), wide ∙ ap length (sym same.inputs)) in record {
      shows = same.shows start row a ∙ ap (λ (s : List Bool). outputs_at new s row) related.0;
      stays = (same.takes start row a ∙ ap (λ (s : List Bool). next_state new s row) related.0, next_long new state row);
    })

pub same_refined : (old new : Circuit) → IsSame old new → Refines new old
same_refined old new same = same_refines new old (same_turned old new same)

-- signals keep their values
pub keeps_itself : (circuit : Circuit) → KeepsValues circuit circuit
keeps_itself circuit = record { kept = λ state row a signal here there. refl }

pub keeps_through : (first second third : Circuit) → first.inputs ≡ second.inputs → first.latches ≡ second.latches
    → ((signal : List ℕ) → has (given first) signal ≡ true → has (given third) signal ≡ true → has (given second) signal ≡ true)
    → KeepsValues first second → KeepsValues second third → KeepsValues first third
keeps_through first second third inputs latches among p q = record {
  kept = λ state row a signal here there.
      let between : has (given second) signal ≡ true = among signal here there in
      p.kept state row a signal here between ∙ q.kept state row (assigned first second latches inputs state row a) signal between there;
}

-- the leaves' bits depend on the inputs and latches alone, and so does which outputs are free
pub leaves_same : (old new : Circuit) → old.inputs ≡ new.inputs → old.latches ≡ new.latches → (state row : List Bool) → leaves_of old state row ≡ leaves_of new state row
unfolding leaves_of
leaves_same old new inputs latches state row =
    ap₂ {C = List ℕ → Option Bool} (λ (names : List (List ℕ)) (all : List Latch) (name : List ℕ). option_or (bit_of names row name) (bit_of (map (λ (latch : Latch). latch.output) all) state name)) inputs latches

pub free_same : (old new : Circuit) → old.inputs ≡ new.inputs → old.latches ≡ new.latches → old.dont_care ≡ new.dont_care
    → (state row : List Bool) (output : List ℕ) → is_free old state row output ≡ is_free new state row output
unfolding is_free
free_same old new inputs latches dont_care state row output =
    ap₂ (λ (part : List Table) (leaves : Leaves). is_free_under part leaves output) dont_care (leaves_same old new inputs latches state row)

-- lists of what is computed of names and of latches
map_names : {X : Type 0} (f g : List ℕ → X) (names : List (List ℕ)) → ((name : List ℕ) → has names name ≡ true → f name ≡ g name) → map f names ≡ map g names
map_names f g names h = by_all names (all_from_has (λ name. f name ≡ g name) names h)
  where
    by_all : (xs : List (List ℕ)) → AllByRecursion (λ name. f name ≡ g name) xs → map f xs ≡ map g xs
    by_all [] all = refl
    by_all (x ∷ xs) all = rw (all.0, by_all xs all.1) refl

map_latches : (f g : List ℕ → Bool) (latches : List Latch) → ((name : List ℕ) → has (map (λ (latch : Latch). latch.input) latches) name ≡ true → f name ≡ g name)
    → map (λ (latch : Latch). f latch.input) latches ≡ map (λ (latch : Latch). g latch.input) latches
map_latches f g latches h = by_all latches (all_from_has (λ name. f name ≡ g name) (map (λ (latch : Latch). latch.input) latches) h)
  where
    by_all : (xs : List Latch) → AllByRecursion (λ name. f name ≡ g name) (map (λ (latch : Latch). latch.input) xs) → map (λ (latch : Latch). f latch.input) xs ≡ map (λ (latch : Latch). g latch.input) xs
    by_all [] all = refl
    by_all (x ∷ xs) all = rw (all.0, by_all xs all.1) refl

-- outputs that have one value wherever they are not free show the same
pub output_same : (free : Bool) (f g : Bool) → (free ≡ false → f ≡ g) → (if free then Free else tri_of f) ≡ (if free then Free else tri_of g)
output_same true f g h = refl
output_same false f g h = ap tri_of (h refl)

pub outputs_same : (old new : Circuit) → old.outputs ≡ new.outputs → (start state row : List Bool)
    → ((output : List ℕ) → has old.outputs output ≡ true → is_free old start row output ≡ is_free new state row output)
    → ((output : List ℕ) → has old.outputs output ≡ true → is_free old start row output ≡ false → value_in old start row output ≡ value_in new state row output)
    → outputs_at old start row ≡ outputs_at new state row
unfolding outputs_at output_at
outputs_same old new outputs start state row frees values =
    map_names (output_at old start row) (output_at new state row) old.outputs
    (λ output among.
    output_same (is_free old start row output) (value_in old start row output) (value_in new state row output) (values output among)
    ∙ ap (λ (free : Bool). if free then Free else tri_of (value_in new state row output)) (frees output among))
    ∙ ap (map (output_at new state row)) outputs

pub next_same : (old new : Circuit) (start state row : List Bool) → old.latches ≡ new.latches
    → ((signal : List ℕ) → has (latch_inputs old) signal ≡ true → value_in old start row signal ≡ value_in new state row signal)
    → next_state old start row ≡ next_state new state row
unfolding next_state
next_same old new start state row latches values =
    map_latches (value_in old start row) (value_in new state row) old.latches values
    ∙ ap (map (λ (latch : Latch). value_in new state row latch.input)) latches

-- other tables: the circuit is the same if its outputs that are not free and its latch inputs have
-- their values
pub same_where : (circuit : Circuit) (tables : List Table)
    → ((state row : List Bool) → IsAssignment circuit state row → (output : List ℕ) → has circuit.outputs output ≡ true → is_free circuit state row output ≡ false
    → value_in circuit state row output ≡ value_in (with_tables circuit tables) state row output)
    → ((state row : List Bool) → IsAssignment circuit state row → (signal : List ℕ) → has (latch_inputs circuit) signal ≡ true
    → value_in circuit state row signal ≡ value_in (with_tables circuit tables) state row signal)
    → IsSame circuit (with_tables circuit tables)
same_where circuit tables outputs inputs = record {
  inputs = refl;
  outputs = refl;
  latches = refl;
  dont_care = refl;
  shows = λ state row a.
      outputs_same circuit (with_tables circuit tables) refl state state row
      (λ output among. free_same circuit (with_tables circuit tables) refl refl refl state row output)
      (outputs state row a);
  takes = λ state row a. next_same circuit (with_tables circuit tables) state state row refl (inputs state row a);
}
