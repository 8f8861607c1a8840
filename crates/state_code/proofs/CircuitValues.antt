-- What the circuit's signals are worth where the latches hold the code of a state: what the taken
-- rows specify.
use Rattle.std.proofs.Common.{◌≡◌, ℕ, zero, suc, ◌+◌, ◌<◌, ◌≤◌, Bool, true, false, ◌&&◌, cond, Option, Some, None, unwrap_or, List, [], ◌∷◌, ◌++◌, map, filter, length, get_or, bytes_eq, refl, sym, ap, ◌∙◌, subst, arith}
use Rattle.std.specs.List.{AllByRecursion, AllZip, list_any, range_with_len}
use Rattle.std.specs.Option.{option_or}
use Rattle.std.proofs.lemmas.List.{map-append, length-map}
use Rattle.std.proofs.lemmas.List.FromFn.{length-map-range_with_len}
use Rattle.std.proofs.lemmas.Option.{none-some}
use Rattle.std.proofs.Math.Bool.{and_comm}
use Rattle.sis_base.specs.Rows.{agrees, matches, some_matches, value_by_phase}
use Rattle.sis_base.specs.declared.limits.TheConstants.{MAX_INPUTS}
use Rattle.circuit_model.specs.Names.{has, all_different}
use Rattle.circuit_model.specs.Behaviors.{Meets, RefinesAs}
use Rattle.circuit_model.specs.Values.{literal_of, table_value, driver, driven_value, is_free_under}
use Rattle.circuit_model.specs.Runs.{bit_of, latch_outputs, leaves_of, value_in, tri_of, is_free, output_at, outputs_at, next_state, IsStart, of_circuit}
use Rattle.circuit_model.specs.Soundness.{IsSound}
use Rattle.circuit_model.specs.MachineSoundness.{IsSoundMachine, IsShaped}
use Rattle.circuit_model.specs.MachineRuns.{holds_in, is_taken, specified, taken, outputs_from, next_from}
use Rattle.circuit_model.specs.MachineBehaviors.{of_machine}
use Rattle.circuit_model.specs.declared.circuit.Tri.{Tri}
use Rattle.circuit_model.specs.declared.circuit.Tri.TheVariants.{Free}
use Rattle.circuit_model.specs.declared.circuit.Table.{Table}
use Rattle.circuit_model.specs.declared.circuit.Latch.{Latch}
use Rattle.circuit_model.specs.declared.circuit.Circuit.{Circuit}
use Rattle.circuit_model.specs.declared.machine.Machine.{Machine}
use Rattle.circuit_model.specs.declared.machine.MachineRow.{MachineRow}
use Rattle.circuit_tables.proofs.Tidied.{tidied_value}
use Rattle.circuit_laws.proofs.Among.{own_drivers}
use Rattle.circuit_laws.proofs.Kept.{all_weaker}
use Rattle.circuit_laws.proofs.Names.{AreApart, different_apart, different_head, different_tail, name_itself, same_name, has_not}
use Rattle.circuit_laws.proofs.Sound.{all_parts, all_filter, sound_settled}
use Rattle.circuit_laws.proofs.Tables.{bit_none, value_due, value_obeys}
use Rattle.state_code.specs.declared.codes.Style.{Style}
use Rattle.state_code.specs.declared.tables.Part.{Part}
use Rattle.state_code.specs.declared.tables.Part.TheVariants.{Next, Output}
use Rattle.state_code.specs.Codes.{code_width, code_bit, code_of, width_of, leaf_count}
use Rattle.state_code.specs.Encoded.{state_names, next_names, code_character, coded_row, specifies_one, table_of, tables_from, encoded}
use Rattle.state_code.proofs.CodesApart.{code_met, any_met}
use Rattle.state_code.proofs.Parts.{latches_start, raw_table, table_drives}
use Rattle.state_code.proofs.Taken.{IsBelow, HasBelow, states_below, sound_apart, taken_agreed, AreAgreed, next_told, next_below, length-specified, output_told}
use Rattle.state_code.proofs.CircuitSound.{states_long, nexts_long, same_long, leaves_differ, drive, take, own_inputs, own_outputs, own_tables, outputs, driven_differ, encoded_sound}
use Rattle.state_code.proofs.Simulated.{IsCoding, codings_refine}

-- bits at names

bits_read : (value : List ℕ → Bool) (names : List (List ℕ)) (bits : List Bool)
    → all_different names ≡ true → length names ≡ length bits
    → ((name : List ℕ) (bit : Bool) → bit_of names bits name ≡ Some bit → value name ≡ bit)
    → map value names ≡ bits
unfolding bit_of
bits_read value [] [] different long h = refl
bits_read value [] (bit ∷ bits) different long h = absurd (omega arith)
bits_read value (first ∷ names) [] different long h = absurd (omega arith)
bits_read value (first ∷ names) (bit ∷ bits) different long h =
    rw (own, bits_read value names bits (different_tail first names different) (omega arith) others)
    refl
  where
    own : value first ≡ bit
    own = h first bit (rw (name_itself first) refl)

    others : (name : List ℕ) (one : Bool) → bit_of names bits name ≡ Some one → value name ≡ one
    others name one at = cases (bytes_eq name first) refl
      where
        cases : (b : Bool) → bytes_eq name first ≡ b → value name ≡ one
        cases true same =
            let here : bit_of names bits first ≡ Some one =
            subst (λ (n : List ℕ). bit_of names bits n ≡ Some one) (same_name name first same)
            at in
            absurd (none-some one
            (sym (bit_none names bits first (different_head first names different)) ∙ here))
        cases false other = h name one (rw other at)

bit_there : (names : List (List ℕ)) (bits : List Bool) (name : List ℕ) (bit : Bool)
    → bit_of names bits name ≡ Some bit → has names name ≡ true
bit_there names bits name bit at = cases (has names name) refl
  where
    cases : (b : Bool) → has names name ≡ b → has names name ≡ true
    cases true e = e
    cases false e = absurd (none-some bit (sym (bit_none names bits name e) ∙ at))

-- rows with codes

matches_append : (row other : List (Option Bool)) (point bits : List Bool)
    → length point ≡ length row
    → matches (row ++ other) (point ++ bits) ≡ (matches row point && matches other bits)
unfolding matches
matches_append [] other [] bits e = refl
matches_append [] other (bit ∷ point) bits e = absurd (omega arith)
matches_append (place ∷ row) other [] bits e = absurd (omega arith)
matches_append (place ∷ row) other (bit ∷ point) bits e =
    cases (agrees place bit) (matches_append row other point bits (omega arith))
  where
    cases : (t : Bool) → matches (row ++ other) (point ++ bits)
        ≡ (matches row point && matches other bits)
        → (t && matches (row ++ other) (point ++ bits)) ≡ ((t && matches row point) && matches other
        bits)
    cases true rest = rest
    cases false rest = refl

current_met : (style : Style) (states place : ℕ) (current : Option ℕ) → place < states
    → IsBelow states current
    → matches (map literal_of
    (map (code_character style current) (range_with_len 0 (code_width style states))))
    (code_of style (code_width style states) place) ≡ holds_in current place
current_met style states place None inside below =
    any_met style 0 (code_width style states) (code_of style (code_width style states) place)
current_met style states place (Some current) inside below =
    code_met style states current place below inside

row_met : (style : Style) (states place : ℕ) (point : List Bool) (row : MachineRow) → place < states
    → length row.input ≡ length point → IsBelow states row.current
    → matches (map literal_of (coded_row style (code_width style states) row))
    (point ++ code_of style (code_width style states) place) ≡ is_taken place point row
unfolding is_taken
row_met style states place point row inside long below =
    let asked : List Tri =
    map (code_character style row.current) (range_with_len 0 (code_width style states)) in
    let code : List Bool = code_of style (code_width style states) place in
    ap (λ (places : List (Option Bool)). matches places (point ++ code))
    (map-append literal_of row.input asked)
    ∙ (matches_append (map literal_of row.input) (map literal_of asked) point code (sym long
    ∙ sym (length-map row.input literal_of))
    ∙ (ap (λ b. matches (map literal_of row.input) point && b)
    (current_met style states place row.current inside below)
    ∙ and_comm (matches (map literal_of row.input) point) (holds_in row.current place)))

rows_met : (style : Style) (states place : ℕ) (point : List Bool) (test : MachineRow
    → Bool) (rows : List MachineRow) → place < states
    → AllByRecursion (λ (row : MachineRow). (length row.input ≡ length point) × IsBelow states
    row.current) rows
    → some_matches (map (map literal_of) (map (coded_row style (code_width style states))
    (filter test rows))) (point ++ code_of style (code_width style states) place)
    ≡ list_any test (filter (is_taken place point) rows)
unfolding some_matches
rows_met style states place point test [] inside h = refl
rows_met style states place point test (row ∷ rows) inside h =
    cases (test row) (is_taken place point row) refl refl
    (rows_met style states place point test rows inside h.1)
  where
    met : matches (map literal_of (coded_row style (code_width style states) row))
        (point ++ code_of style (code_width style states) place) ≡ is_taken place point row
    met = row_met style states place point row inside h.0.0 h.0.1

    cases : (t k : Bool) → test row ≡ t → is_taken place point row ≡ k
        → some_matches (map (map literal_of) (map (coded_row style (code_width style states))
        (filter test rows))) (point ++ code_of style (code_width style states) place) ≡ list_any
        test (filter (is_taken place point) rows)
        → some_matches (map (map literal_of) (map (coded_row style (code_width style states))
        (cond t (row ∷ filter test rows) (filter test rows))))
        (point ++ code_of style (code_width style states) place)
        ≡ list_any test (cond k (row ∷ filter (is_taken place point) rows)
        (filter (is_taken place point) rows))
    cases true true told is rest = rw (met, is, told) refl
    cases true false told is rest = rw (met, is) rest
    cases false true told is rest = rw told rest
    cases false false told is rest = rest

-- lists by index

zip_places : {A B : Type 0} (R : A → B → Type 0) (f : ℕ → B) (d : A) (xs : List A) (from : ℕ)
    → ((i : ℕ) → i < length xs → R (get_or xs i d) (f (from + i)))
    → AllZip R xs (map f (range_with_len from (length xs)))
zip_places R f d [] from h = tt
zip_places R f d (x ∷ xs) from h =
    let none : from + 0 ≡ from = omega arith in (
      subst (λ n. R x (f n)) none (h 0 (omega arith)),
      zip_places R f d xs (from + 1) (λ i below. let e : from + suc i ≡ from + 1 + i =
          omega arith in subst (λ n. R (get_or xs i d) (f n)) e (h (suc i) (omega (arith, below)))),
    )

range_same : {B : Type 0} (f g : ℕ → B) (from count : ℕ) → ((i : ℕ) → f i ≡ g i)
    → map f (range_with_len from count) ≡ map g (range_with_len from count)
range_same f g from zero h = refl
range_same f g from (suc count) h = rw (h from, range_same f g (from + 1) count h) refl

map_twice : (f : ℕ → Bool) (from count : ℕ)
    → map tri_of (map f (range_with_len from count)) ≡ map (λ i. tri_of (f i))
    (range_with_len from count)
map_twice f from zero = refl
map_twice f from (suc count) =
    ap (λ (rest : List Tri). tri_of (f from) ∷ rest) (map_twice f (from + 1) count)

over_inputs : (f : List ℕ → Bool) (latches : List Latch)
    → map (λ (latch : Latch). f latch.input) latches ≡ map f
    (map (λ (latch : Latch). latch.input) latches)
over_inputs f [] = refl
over_inputs f (latch ∷ latches) =
    ap (λ (rest : List Bool). f latch.input ∷ rest) (over_inputs f latches)

module _ (style : Style) (machine : Machine) (sound : IsSoundMachine machine)
    (few : leaf_count style machine ≤ MAX_INPUTS) where
  abbrev states : List (List ℕ)
  states = state_names style machine

  abbrev nexts : List (List ℕ)
  nexts = next_names style machine

  abbrev circuit : Circuit
  circuit = encoded style machine

  abbrev code : ℕ → List Bool
  code place = code_of style (width_of style machine) place

  circuit_sound : IsSound circuit
  circuit_sound = encoded_sound style machine sound few

  -- what is known of each row
  abbrev IsRow : List Bool → MachineRow → Type 0
  IsRow point row = (length row.input ≡ length point) × IsBelow (length machine.states) row.current

  below : AllByRecursion (HasBelow (length machine.states)) machine.rows
  below = states_below (length machine.states) machine.rows sound.in_order

  both : (point : List Bool) → length point ≡ length machine.inputs → (rows : List MachineRow)
      → AllByRecursion (IsShaped machine) rows
      → AllByRecursion (HasBelow (length machine.states)) rows → AllByRecursion (IsRow point) rows
  both point wide [] shaped known = tt
  both point wide (row ∷ rows) shaped known =
      ((shaped.0.input ∙ sym wide, known.0.current), both point wide rows shaped.1 known.1)

  -- a step from a state under an input row
  module _ (place : ℕ) (point : List Bool) (inside : place < length machine.states)
      (wide : length point ≡ length machine.inputs) where
    abbrev value : List ℕ → Bool
    value = value_in circuit (code place) point

    code_long : length (code place) ≡ length states
    code_long = length-map-range_with_len (code_bit style place) 0 (width_of style machine)
        ∙ sym (states_long style machine sound few)

    leaf_names : AreApart machine.inputs states
    leaf_names = different_apart machine.inputs states (leaves_differ style machine sound few)

    input_bit : (name : List ℕ) (bit : Bool) → bit_of machine.inputs point name ≡ Some bit
        → value name ≡ bit
    unfolding leaves_of
    input_bit name bit at =
        value_due circuit circuit_sound.acyclic (code place) point name
        ∙ ap (λ (found : Option Bool). unwrap_or
        (option_or found (bit_of (latch_outputs circuit) (code place) name))
        (driven_value (driver circuit.tables name) value))
        (ap (λ (names : List (List ℕ)). bit_of names point name)
        (own_inputs style machine sound few) ∙ at)

    state_bit : (name : List ℕ) (bit : Bool) → bit_of states (code place) name ≡ Some bit
        → value name ≡ bit
    unfolding leaves_of
    state_bit name bit at =
        let apart : has machine.inputs name ≡ false =
        has_not machine.inputs name
        (λ input. leaf_names.between name input (bit_there states (code place) name bit at)) in
        let none : bit_of circuit.inputs point name ≡ None =
        ap (λ (names : List (List ℕ)). bit_of names point name)
        (own_inputs style machine sound few) ∙ bit_none machine.inputs point name apart in
        let here : bit_of (latch_outputs circuit) (code place) name ≡ Some bit =
        ap (λ (names : List (List ℕ)). bit_of names (code place) name)
        (drive style machine sound few) ∙ at in
        value_due circuit circuit_sound.acyclic (code place) point name
        ∙ (ap (λ (found : Option Bool). unwrap_or
        (option_or found (bit_of (latch_outputs circuit) (code place) name))
        (driven_value (driver circuit.tables name) value)) none
        ∙ ap (λ (found : Option Bool). unwrap_or found (driven_value (driver circuit.tables name)
        value)) here)

    leaves_read : map value (machine.inputs ++ states) ≡ point ++ code place
    leaves_read =
        map-append value machine.inputs states
        ∙ (ap (λ (bits : List Bool). bits ++ map value states)
        (bits_read value machine.inputs point leaf_names.front (sym wide) input_bit)
        ∙ ap (λ (bits : List Bool). point ++ bits)
        (bits_read value states (code place) leaf_names.back (sym code_long) state_bit))

    -- what a table is worth: whether some taken row specifies 1
    abbrev told : Part → ℕ → Bool
    told part k = list_any (specifies_one style part k) (taken machine place point)

    table_told : (part : Part) (k : ℕ) (name : List ℕ)
        → driven_value (Some (table_of style machine part k name)) value ≡ told part k
    unfolding table_of taken table_value value_by_phase
    table_told part k name =
        tidied_value (raw_table style machine part k name) value
        ∙ (ap (table_value (raw_table style machine part k name)) leaves_read
        ∙ rows_met style (length machine.states) place point (specifies_one style part k)
        machine.rows inside (both point wide machine.rows sound.shaped below))

    obeys : AllByRecursion (λ (table : Table). value table.output ≡ driven_value (Some table) value)
        circuit.tables
    obeys =
        all_weaker (λ (table : Table). driver circuit.tables table.output ≡ Some table)
        (λ (table : Table). value table.output ≡ driven_value (Some table) value)
        (λ table at. value_obeys circuit (sound_settled circuit circuit_sound) (code place) point
        table.output table at) circuit.tables
        (own_drivers circuit.tables (ap all_different (outputs style machine sound few)
        ∙ driven_differ style machine sound few))

    listed : (part : Part) (k : ℕ) (names : List (List ℕ))
        → AllByRecursion (λ (table : Table). value table.output ≡ driven_value (Some table) value)
        (tables_from style machine part k names)
        → map value names ≡ map (told part) (range_with_len k (length names))
    unfolding tables_from
    listed part k [] h = refl
    listed part k (name ∷ names) h =
        let own : value name ≡ told part k = ap value (sym (table_drives style machine part k name))
        ∙ (h.0 ∙ table_told part k name) in
        rw (own, listed part (k + 1) names h.1) refl

    parts : AllByRecursion (λ (table : Table). value table.output ≡ driven_value (Some table) value)
        (tables_from style machine Next 0 nexts)
        × AllByRecursion (λ (table : Table). value table.output ≡ driven_value (Some table) value)
        (tables_from style machine Output 0 machine.outputs)
    parts = all_parts (λ (table : Table). value table.output ≡ driven_value (Some table) value)
        (tables_from style machine Next 0 nexts)
        (tables_from style machine Output 0 machine.outputs)
        (subst (λ (tables : List Table). AllByRecursion
        (λ (table : Table). value table.output ≡ driven_value (Some table) value) tables)
        (own_tables style machine sound few) obeys)

    -- the rows that are taken
    agreed : AreAgreed (taken machine place point)
    unfolding taken
    agreed =
        taken_agreed place point machine.rows
        (all_weaker (IsShaped machine) (λ (row : MachineRow). length row.input ≡ length point)
        (λ row shaped. shaped.input ∙ sym wide) machine.rows sound.shaped)
        (sound_apart machine.rows sound.apart)

    outputs_wide : AllByRecursion (λ (row : MachineRow). length row.output ≡ length machine.outputs)
        (taken machine place point)
    unfolding taken
    outputs_wide =
        all_filter (λ (row : MachineRow). length row.output ≡ length machine.outputs)
        (is_taken place point) machine.rows
        (all_weaker (IsShaped machine) (λ (row : MachineRow). length row.output ≡ length
        machine.outputs) (λ row shaped. shaped.output) machine.rows sound.shaped)

    -- what is shown
    not_free : (name : List ℕ) → is_free circuit (code place) point name ≡ false
    unfolding is_free is_free_under driver encoded
    not_free name = refl

    shown_bits : (names : List (List ℕ))
        → map (output_at circuit (code place) point) names ≡ map tri_of (map value names)
    unfolding output_at
    shown_bits [] = refl
    shown_bits (name ∷ names) = rw (not_free name, shown_bits names) refl

    shown : outputs_at circuit (code place) point ≡ map (λ k. tri_of (told Output k))
        (range_with_len 0 (length machine.outputs))
    unfolding outputs_at
    shown =
        ap (map (output_at circuit (code place) point)) (own_outputs style machine sound few)
        ∙ (shown_bits machine.outputs
        ∙ (ap (map tri_of) (listed Output 0 machine.outputs parts.1)
        ∙ map_twice (told Output) 0 (length machine.outputs)))

    shows : AllZip Meets (outputs_from machine place point) (outputs_at circuit (code place) point)
    unfolding outputs_from
    shows =
        let asked : List Tri = specified (length machine.outputs) (taken machine place point) in
        let long : length asked ≡ length machine.outputs =
        length-specified (length machine.outputs) (taken machine place point) outputs_wide in
        subst (λ (bits : List Tri). AllZip Meets asked bits)
        (ap (λ n. map (λ k. tri_of (told Output k)) (range_with_len 0 n)) long ∙ sym shown)
        (zip_places Meets (λ k. tri_of (told Output k)) Free asked 0 (λ i within.
        let none : i ≡ 0 + i = omega arith in
        subst (λ k. Meets (get_or asked i Free) (tri_of (told Output k))) none
        (output_told style (length machine.outputs) i (taken machine place point) agreed
        outputs_wide)))

    -- the next state
    next_values : next_state circuit (code place) point ≡ map (told Next)
        (range_with_len 0 (width_of style machine))
    unfolding next_state
    next_values =
        over_inputs value circuit.latches
        ∙ (ap (map value) (take style machine sound few)
        ∙ (listed Next 0 nexts parts.0
        ∙ ap (λ n. map (told Next) (range_with_len 0 n)) (nexts_long style machine sound few)))

    moves : (next : ℕ) → next_from machine place point ≡ Some next
        → next_state circuit (code place) point ≡ code next
    unfolding next_from
    moves next e =
        next_values ∙ range_same (told Next) (code_bit style next) 0 (width_of style machine)
        (λ k. next_told style k next (taken machine place point) agreed e)

    stays : (next : ℕ) → next_from machine place point ≡ Some next → next < length machine.states
    unfolding next_from taken
    stays next e =
        next_below (length machine.states) next (filter (is_taken place point) machine.rows)
        (all_filter (HasBelow (length machine.states)) (is_taken place point) machine.rows below) e

  starts : (state : List Bool) → IsStart circuit state → state ≡ code machine.reset
  unfolding IsStart encoded
  starts state begins =
      latches_start style machine.reset 0 nexts states state (same_long style machine sound few)
      begins
      ∙ ap (λ n. map (code_bit style machine.reset) (range_with_len 0 n))
      (nexts_long style machine sound few)

  input_wide : (point : List Bool) → length point ≡ length circuit.inputs
      → length point ≡ length machine.inputs
  input_wide point wide = wide ∙ ap length (own_inputs style machine sound few)

  coding : IsCoding machine circuit code
  coding = record {
    inputs = sym (own_inputs style machine sound few);
    outputs = sym (own_outputs style machine sound few);
    reset = sound.reset;
    starts = starts;
    shows = λ place point inside wide. shows place point inside (input_wide point wide);
    stays = λ place next point inside wide e. stays place point inside (input_wide point wide) next
        e;
    moves = λ place next point inside wide e. moves place point inside (input_wide point wide) next
        e;
  }

  pub encoded_refines : RefinesAs (of_machine machine) (of_circuit (encoded style machine))
  encoded_refines = codings_refine machine circuit code coding
