-- A circuit stays sound if a latch that always holds one bit becomes a table.
use Rattle.std.proofs.Common.{◌≡◌, ℕ, ◌≤◌, Bool, true, false, Some, ◌&&◌, List, [], ◌∷◌, ◌++◌, codes, append_assoc, refl, sym, ap, ◌∙◌, subst, inl, inr, ◌⊎◌}
use Rattle.std.specs.List.{AllByRecursion}
use Rattle.std.proofs.lemmas.Bool.{false≢true}
use Rattle.sis_base.specs.Written.{is_word}
use Rattle.circuit_model.specs.Names.{has, all_different}
use Rattle.circuit_model.specs.Runs.{bit_of, latch_outputs, value_in, Refines}
use Rattle.circuit_model.specs.Soundness.{outputs_of, latch_inputs, control_of, leaf_names, table_inputs, given, taken, IsShaped, IsSound}
use Rattle.circuit_model.specs.declared.circuit.Table.{Table}
use Rattle.circuit_model.specs.declared.circuit.Latch.{Latch}
use Rattle.circuit_model.specs.declared.circuit.Circuit.{Circuit}
use Rattle.circuit_laws.specs.Edits.{tables_kept, latches_kept, with_kept, with_added, with_fixed, is_other, constant_table}
use Rattle.circuit_laws.specs.Fixed.{IsFixed}
use Rattle.circuit_laws.specs.Kept.{bits_kept}
use Rattle.circuit_laws.proofs.Names.{name_cases, has_front, has_back, has_none, has_head, has_not, all_has, different_apart, different_none}
use Rattle.circuit_laws.proofs.Kept.{all_weaker, has_latches_kept}
use Rattle.circuit_laws.proofs.Fixed.{own_fails, other_passes, fixed_tables, fixed_acyclic, fixed_values, fixed_refines}
use Rattle.circuit_laws.proofs.Sound.{IsWord, HasWords, words_parts, parts_words, kept_words, kept_different, given_kept, known_kept, undriven_kept, timing_all, timing_has, timing_none, flat_kept, flat_added, kept_names, sound_settled, one_more, given-added, outputs-added, control_added, all_append, all_parts, all_filter}

constant_shaped : (name : List ℕ) (bit : Bool) → IsShaped (constant_table name bit)
constant_shaped name true = ((refl, tt), λ none. refl)
constant_shaped name false = (tt, λ none. refl)

-- the latch's name is no input's
pub fixed_apart : (circuit : Circuit) (name : List ℕ) (bit : Bool) → IsSound circuit → IsFixed circuit name bit → has circuit.inputs name ≡ false
unfolding given
fixed_apart circuit name bit sound fixed =
    has_not circuit.inputs name (λ among.
    (different_apart circuit.inputs (latch_outputs circuit ++ outputs_of circuit.tables) sound.one_driver).between name among (has_front (latch_outputs circuit) (outputs_of circuit.tables) name fixed.latch))

-- without the latch, nothing drives its name
freed : (circuit : Circuit) (name : List ℕ) → has circuit.inputs name ≡ false → has (given (with_kept circuit (is_other name))) name ≡ false
unfolding given with_kept
freed circuit name apart =
    has_none circuit.inputs (latch_outputs (with_kept circuit (is_other name)) ++ outputs_of (tables_kept (is_other name) circuit.tables)) name apart
    (has_none (latch_outputs (with_kept circuit (is_other name))) (outputs_of (tables_kept (is_other name) circuit.tables)) name
    (has_latches_kept (is_other name) circuit.latches name ∙ ap (λ (b : Bool). b && has (latch_outputs circuit) name) (own_fails name))
    (fixed_tables circuit name))

fixed_words : (circuit : Circuit) (name : List ℕ) (bit : Bool) → is_word name ≡ true → HasWords circuit → HasWords (with_fixed circuit name bit)
unfolding with_fixed with_added
fixed_words circuit name bit word w =
    let k = kept_words circuit (is_other name) w in record {
      name = k.name;
      inputs = k.inputs;
      outputs = k.outputs;
      clocks = k.clocks;
      control = k.control;
      latch_outputs = k.latch_outputs;
      latch_inputs = k.latch_inputs;
      tables = flat_added IsWord (λ (t : Table). t.output ∷ t.inputs) (with_kept circuit (is_other name)).tables (constant_table name bit) k.tables (word, tt);
      dont_care = k.dont_care;
    }

-- what is read is the name itself, or stays driven
still_given : (circuit : Circuit) (name other : List ℕ) → has (given circuit) other ≡ true → has (given (with_kept circuit (is_other name)) ++ name ∷ []) other ≡ true
still_given circuit name other h =
    elim (name_cases other name) as (λ _. has (given (with_kept circuit (is_other name)) ++ name ∷ []) other ≡ true) [
      | inl own ↦ has_back (given (with_kept circuit (is_other name))) (name ∷ []) other (subst (λ (x : List ℕ). has (name ∷ []) x ≡ true) (sym own) (has_head name []))
      | inr off ↦ has_front (given (with_kept circuit (is_other name))) (name ∷ []) other (given_kept circuit (is_other name) other (other_passes name other off) h)
    ]

fixed_driven : (circuit : Circuit) (name : List ℕ) (bit : Bool) → IsSound circuit
    → AllByRecursion (λ other. has (given (with_kept circuit (is_other name)) ++ name ∷ []) other ≡ true) (taken (with_fixed circuit name bit))
unfolding taken with_fixed with_added with_kept latches_kept
fixed_driven circuit name bit sound =
    let parts = all_parts (λ other. has (given circuit) other ≡ true) (table_inputs circuit.tables) (latch_inputs circuit ++ circuit.outputs) sound.driven in
    let others = all_parts (λ other. has (given circuit) other ≡ true) (latch_inputs circuit) circuit.outputs parts.1 in
    all_weaker (λ other. has (given circuit) other ≡ true) (λ other. has (given (with_kept circuit (is_other name)) ++ name ∷ []) other ≡ true) (still_given circuit name)
    (table_inputs (tables_kept (is_other name) circuit.tables ++ constant_table name bit ∷ []) ++ (latch_inputs (with_kept circuit (is_other name)) ++ circuit.outputs))
    (all_append (λ other. has (given circuit) other ≡ true) (table_inputs (tables_kept (is_other name) circuit.tables ++ constant_table name bit ∷ [])) (latch_inputs (with_kept circuit (is_other name)) ++ circuit.outputs)
    (flat_added (λ other. has (given circuit) other ≡ true) (λ (t : Table). t.inputs) (tables_kept (is_other name) circuit.tables) (constant_table name bit)
    (flat_kept (λ other. has (given circuit) other ≡ true) (λ (t : Table). t.inputs) (is_other name) circuit.tables parts.0) tt)
    (all_append (λ other. has (given circuit) other ≡ true) (latch_inputs (with_kept circuit (is_other name))) circuit.outputs
    (kept_names (λ other. has (given circuit) other ≡ true) (λ (l : Latch). l.input) (λ (l : Latch). is_other name l.output) circuit.latches others.0) others.1))

-- the control is another signal
control_free : (circuit : Circuit) (name : List ℕ) (bit : Bool) → IsSound circuit → IsFixed circuit name bit → has (control_of circuit.timing) name ≡ false
control_free circuit name bit sound fixed =
    has_not (control_of circuit.timing) name (λ among.
    false≢true (sym (all_has (λ x. has (latch_outputs circuit ++ outputs_of circuit.tables) x ≡ false) (control_of circuit.timing) sound.control_undriven name among)
    ∙ has_front (latch_outputs circuit) (outputs_of circuit.tables) name fixed.latch))

pub sound_fixed : (circuit : Circuit) (name : List ℕ) (bit : Bool) → IsSound circuit → IsFixed circuit name bit → IsSound (with_fixed circuit name bit)
unfolding with_fixed with_added with_kept tables_kept latches_kept
sound_fixed circuit name bit sound fixed = record {
  words = parts_words (with_fixed circuit name bit)
      (fixed_words circuit name bit (all_has IsWord (latch_outputs circuit) (words_parts circuit sound.words).latch_outputs name fixed.latch) (words_parts circuit sound.words));
  inputs_once = sound.inputs_once;
  outputs_once = sound.outputs_once;
  one_driver =
      ap all_different (given-added (with_kept circuit (is_other name)) (constant_table name bit))
      ∙ one_more (given (with_kept circuit (is_other name))) name (kept_different circuit (is_other name) sound.one_driver) (freed circuit name (fixed_apart circuit name bit sound fixed));
  driven =
      subst (λ (names : List (List ℕ)). AllByRecursion (λ other. has names other ≡ true) (taken (with_fixed circuit name bit)))
      (sym (given-added (with_kept circuit (is_other name)) (constant_table name bit))) (fixed_driven circuit name bit sound);
  inits = all_filter (λ (l : Latch). l.init ≤ 3) (λ (l : Latch). is_other name l.output) circuit.latches sound.inits;
  untimed_without_latches = λ none. timing_none (latches_kept (is_other name) circuit.latches) circuit.timing none;
  shaped = all_append IsShaped (tables_kept (is_other name) circuit.tables) (constant_table name bit ∷ [])
      (all_filter IsShaped (λ (t : Table). is_other name t.output) circuit.tables sound.shaped) (constant_shaped name bit, tt);
  table_inputs_once = all_append (λ (t : Table). all_different t.inputs ≡ true) (tables_kept (is_other name) circuit.tables) (constant_table name bit ∷ [])
      (all_filter (λ (t : Table). all_different t.inputs ≡ true) (λ (t : Table). is_other name t.output) circuit.tables sound.table_inputs_once) (different_none, tt);
  acyclic = fixed_acyclic circuit name bit sound.acyclic;
  control_undriven =
      subst (λ (names : List (List ℕ)). AllByRecursion (λ other. has names other ≡ false) (control_of (with_kept circuit (is_other name)).timing))
      (append_assoc (latch_outputs (with_kept circuit (is_other name))) (outputs_of (tables_kept (is_other name) circuit.tables)) (name ∷ [])
      ∙ ap (λ (names : List (List ℕ)). latch_outputs (with_kept circuit (is_other name)) ++ names) (sym (outputs-added (tables_kept (is_other name) circuit.tables) (constant_table name bit))))
      (control_added (latch_outputs (with_kept circuit (is_other name)) ++ outputs_of (tables_kept (is_other name) circuit.tables)) name (control_of (with_kept circuit (is_other name)).timing)
      (timing_all (λ other. has (latch_outputs (with_kept circuit (is_other name)) ++ outputs_of (tables_kept (is_other name) circuit.tables)) other ≡ false) (latches_kept (is_other name) circuit.latches) circuit.timing
      (all_weaker (λ other. has (latch_outputs circuit ++ outputs_of circuit.tables) other ≡ false)
      (λ other. has (latch_outputs (with_kept circuit (is_other name)) ++ outputs_of (tables_kept (is_other name) circuit.tables)) other ≡ false)
      (undriven_kept circuit (is_other name)) (control_of circuit.timing) sound.control_undriven))
      (timing_has (latches_kept (is_other name) circuit.latches) circuit.timing name (control_free circuit name bit sound fixed)));
  control_not_nil = timing_has (latches_kept (is_other name) circuit.latches) circuit.timing (codes "NIL") sound.control_not_nil;
  dont_care_once = sound.dont_care_once;
  dont_care_known = known (table_inputs circuit.dont_care) fixed.unread sound.dont_care_known;
  dont_care_acyclic = sound.dont_care_acyclic;
  dont_care_shaped = sound.dont_care_shaped;
}
  where
    known : (names : List (List ℕ)) → AllByRecursion (λ other. (has (outputs_of circuit.dont_care) other ≡ true) ⊎ (is_other name other ≡ true)) names
        → AllByRecursion (λ other. has (outputs_of circuit.dont_care ++ leaf_names circuit) other ≡ true) names
        → AllByRecursion (λ other. has (outputs_of circuit.dont_care ++ leaf_names (with_kept circuit (is_other name))) other ≡ true) names
    known [] p q = tt
    known (first ∷ names) p q = (known_kept circuit (is_other name) first p.0 q.0, known names p.1 q.1)

-- in a sound circuit
pub sound_refines : (circuit : Circuit) (name : List ℕ) (bit : Bool) → IsSound circuit → IsFixed circuit name bit → Refines circuit (with_fixed circuit name bit)
sound_refines circuit name bit sound fixed = fixed_refines circuit name bit (sound_settled circuit sound) (fixed_apart circuit name bit sound fixed) fixed

pub sound_values : (circuit : Circuit) (name : List ℕ) (bit : Bool) → IsSound circuit → IsFixed circuit name bit → (state row : List Bool) → bit_of (latch_outputs circuit) state name ≡ Some bit
    → (signal : List ℕ) → value_in circuit state row signal ≡ value_in (with_fixed circuit name bit) (bits_kept (is_other name) circuit.latches state) row signal
sound_values circuit name bit sound fixed state row bound signal = fixed_values circuit name bit sound.acyclic (fixed_apart circuit name bit sound fixed) state row bound signal
