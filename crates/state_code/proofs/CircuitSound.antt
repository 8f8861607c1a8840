-- The circuit of a sound machine that is not too wide is sound.
use Rattle.std.proofs.Common.{◌≡◌, ℕ, ◌+◌, ◌^◌, ◌<◌, ◌≤◌, true, false, cond, List, [], ◌∷◌, ◌++◌, length, append_assoc, refl, sym, ap, ◌∙◌, subst, inl, inr, arith, length-append}
use Rattle.std.specs.Prelude.{codes}
use Rattle.std.specs.List.{AllByRecursion}
use Rattle.std.proofs.lemmas.Bool.{false≢true}
use Rattle.std.proofs.lemmas.Option.{none-some}
use Rattle.sis_base.specs.Written.{is_word}
use Rattle.sis_base.specs.declared.limits.TheConstants.{MAX_INPUTS}
use Rattle.circuit_model.specs.Names.{has, all_different}
use Rattle.circuit_model.specs.Values.{driver}
use Rattle.circuit_model.specs.Runs.{latch_outputs}
use Rattle.circuit_model.specs.Soundness.{outputs_of, latch_inputs, names_of, table_inputs, given, taken, IsAcyclic, IsShaped, IsSound}
use Rattle.circuit_model.specs.MachineSoundness.{IsSoundMachine, IsShaped as IsShapedRow}
use Rattle.circuit_model.specs.declared.circuit.Table.{Table}
use Rattle.circuit_model.specs.declared.machine.Machine.{Machine}
use Rattle.circuit_model.specs.declared.machine.MachineRow.{MachineRow}
use Rattle.circuit_laws.proofs.Drivers.{driver_all, driver_name}
use Rattle.circuit_laws.proofs.Kept.{all_weaker}
use Rattle.circuit_laws.proofs.Names.{AreApart, different_apart, apart_different, different_none, all_has, all_from_has, has_front, has_back, has_either, has_neither, has_not}
use Rattle.circuit_laws.proofs.Ranks.{rank_acyclic}
use Rattle.circuit_laws.proofs.Sound.{IsWord, HasWords, all_append, all_parts, parts_words, names_each}
use Rattle.state_code.specs.declared.codes.Style.{Style}
use Rattle.state_code.specs.declared.tables.Part.{Part}
use Rattle.state_code.specs.declared.tables.Part.TheVariants.{Next, Output}
use Rattle.state_code.specs.Codes.{width_of, leaf_count}
use Rattle.state_code.specs.Encoded.{state_names, next_names, table_of, tables_from, encoded}
use Rattle.state_code.specs.Naming.{free_names}
use Rattle.state_code.proofs.FreeNames.{numbered_word, length-free, each_free, free_differ, free_unused, states_nexts}
use Rattle.state_code.proofs.Parts.{latches_drive, latches_take, latches_begin, table_drives, tables_drive, each_table, table_shaped, table_once, table_reads}

no_cycle : IsAcyclic []
unfolding driver
no_cycle = rank_acyclic [] (record {
  rank = λ name. 0;
  falls =
      λ name table at. absurd (none-some table at);
})

module _ (style : Style) (machine : Machine) (sound : IsSoundMachine machine)
    (few : leaf_count style machine ≤ MAX_INPUTS) where
  abbrev ports : List (List ℕ)
  ports = machine.inputs ++ machine.outputs

  abbrev states : List (List ℕ)
  states = state_names style machine

  abbrev nexts : List (List ℕ)
  nexts = next_names style machine

  room : width_of style machine + length ports ≤ 2 ^ 64
  room = let all = length-append machine.inputs machine.outputs in let outputs =
      sound.few_outputs in omega arith

  pub states_long : length states ≡ width_of style machine
  states_long = length-free (codes "st_") ports (width_of style machine) room

  pub nexts_long : length nexts ≡ width_of style machine
  nexts_long = length-free (codes "nx_") ports (width_of style machine) room

  pub same_long : length nexts ≡ length states
  same_long = nexts_long ∙ sym states_long

  -- no name occurs twice
  port_names : AreApart machine.inputs machine.outputs
  port_names = different_apart machine.inputs machine.outputs sound.ports_once

  pub leaves_differ : all_different (machine.inputs ++ states) ≡ true
  leaves_differ = apart_different machine.inputs states (record {
    front = port_names.front;
    back = free_differ (codes "st_") ports (width_of style machine) room;
    between = λ name input state.
        false≢true (sym (has_neither machine.inputs machine.outputs name
        (free_unused (codes "st_") ports (width_of style machine) room name state)).0 ∙ input);
  })

  pub driven_differ : all_different (nexts ++ machine.outputs) ≡ true
  driven_differ = apart_different nexts machine.outputs (record {
    front = free_differ (codes "nx_") ports (width_of style machine) room;
    back = port_names.back;
    between = λ name next output.
        false≢true (sym (has_neither machine.inputs machine.outputs name
        (free_unused (codes "nx_") ports (width_of style machine) room name next)).1 ∙ output);
  })

  leaf_undriven : (name : List ℕ) → has (machine.inputs ++ states) name ≡ true
      → has (nexts ++ machine.outputs) name ≡ true → ⊥
  leaf_undriven name leaf other =
      elim (has_either machine.inputs states name leaf) as (λ _. ⊥) [
        | inl input ↦
            elim (has_either nexts machine.outputs name other) as (λ _. ⊥) [
              | inl next ↦ false≢true
                  (sym (has_neither machine.inputs machine.outputs name
                  (free_unused (codes "nx_") ports (width_of style machine) room name next)).0
                  ∙ input)
              | inr output ↦ port_names.between name input output
            ]
        | inr state ↦
            elim (has_either nexts machine.outputs name other) as (λ _. ⊥) [
              | inl next ↦ states_nexts ports (width_of style machine) room name state next
              | inr output ↦ false≢true
                  (sym (has_neither machine.inputs machine.outputs name
                  (free_unused (codes "st_") ports (width_of style machine) room name state)).1
                  ∙ output)
            ]
      ]

  all_differ : all_different ((machine.inputs ++ states) ++ (nexts ++ machine.outputs)) ≡ true
  all_differ = apart_different (machine.inputs ++ states) (nexts ++ machine.outputs)
      (record { front = leaves_differ; back = driven_differ; between = leaf_undriven })

  -- what the circuit is made of
  pub drive : latch_outputs (encoded style machine) ≡ states
  unfolding encoded
  drive = latches_drive style machine.reset 0 nexts states same_long

  pub take : latch_inputs (encoded style machine) ≡ nexts
  unfolding encoded
  take = latches_take style machine.reset 0 nexts states same_long

  outputs-append : (tables others : List Table)
      → outputs_of (tables ++ others) ≡ outputs_of tables ++ outputs_of others
  outputs-append [] others = refl
  outputs-append (table ∷ tables) others = ap (λ (names : List (List ℕ)). table.output ∷ names)
      (outputs-append tables others)

  pub outputs : outputs_of (encoded style machine).tables ≡ nexts ++ machine.outputs
  unfolding encoded
  outputs =
      outputs-append (tables_from style machine Next 0 nexts)
      (tables_from style machine Output 0 machine.outputs)
      ∙ (ap (λ (names : List (List ℕ)). names ++ outputs_of
      (tables_from style machine Output 0 machine.outputs))
      (tables_drive style machine Next 0 nexts)
      ∙ ap (λ (names : List (List ℕ)). nexts ++ names)
      (tables_drive style machine Output 0 machine.outputs))

  pub own_inputs : (encoded style machine).inputs ≡ machine.inputs
  unfolding encoded
  own_inputs = refl

  pub own_outputs : (encoded style machine).outputs ≡ machine.outputs
  unfolding encoded
  own_outputs = refl

  pub own_tables : (encoded style machine).tables ≡ tables_from style machine Next 0 nexts
      ++ tables_from style machine Output 0 machine.outputs
  unfolding encoded
  own_tables = refl

  pub given_are : given (encoded style machine) ≡ (machine.inputs ++ states)
      ++ (nexts ++ machine.outputs)
  unfolding given
  given_are =
      ap (λ (names : List (List ℕ)). (encoded style machine).inputs
      ++ (names ++ outputs_of (encoded style machine).tables)) drive
      ∙ (ap (λ (names : List (List ℕ)). (encoded style machine).inputs ++ (states ++ names)) outputs
      ∙ (ap (λ (names : List (List ℕ)). names ++ (states ++ (nexts ++ machine.outputs))) own_inputs
      ∙ sym (append_assoc machine.inputs states (nexts ++ machine.outputs))))

  is_given : (name : List ℕ)
      → has ((machine.inputs ++ states) ++ (nexts ++ machine.outputs)) name ≡ true
      → has (given (encoded style machine)) name ≡ true
  is_given name among = ap (λ (names : List (List ℕ)). has names name) given_are ∙ among

  -- what holds of each table
  inputs_long : AllByRecursion (λ (row : MachineRow). length row.input ≡ length machine.inputs)
      machine.rows
  inputs_long = all_weaker (IsShapedRow machine) (λ (row : MachineRow). length row.input ≡ length
      machine.inputs) (λ row shaped. shaped.input) machine.rows sound.shaped

  pub each : (P : Table → Type 0) (Q : List ℕ → Type 0) → ((part : Part) (place : ℕ) (name : List ℕ)
      → Q name → P (table_of style machine part place name))
      → AllByRecursion Q nexts → AllByRecursion Q machine.outputs
      → AllByRecursion P (encoded style machine).tables
  unfolding encoded
  each P Q h some others =
      all_append P (tables_from style machine Next 0 nexts)
      (tables_from style machine Output 0 machine.outputs)
      (each_table P Q style machine Next (h Next) 0 nexts some)
      (each_table P Q style machine Output (h Output) 0 machine.outputs others)

  anyway : (names : List (List ℕ)) → AllByRecursion (λ name. Unit {0}) names
  anyway names = all_from_has (λ name. Unit {0}) names (λ name among. tt)

  pub each_one : (P : Table → Type 0) → ((part : Part) (place : ℕ) (name : List ℕ)
      → P (table_of style machine part place name))
      → AllByRecursion P (encoded style machine).tables
  each_one P h = each P (λ name. Unit {0}) (λ part place name _. h part place name) (anyway nexts)
      (anyway machine.outputs)

  -- tables read inputs and state bits, and drive neither
  rank : List ℕ → ℕ
  rank name = cond (has (machine.inputs ++ states) name) 0 1

  leaf_rank : (name : List ℕ) → has (machine.inputs ++ states) name ≡ true → rank name ≡ 0
  unfolding rank
  leaf_rank name leaf = rw leaf refl

  driven_rank : (name : List ℕ) → has (nexts ++ machine.outputs) name ≡ true → rank name ≡ 1
  unfolding rank
  driven_rank name driven = let no : has (machine.inputs ++ states) name ≡ false =
      has_not (machine.inputs ++ states) name (λ leaf. leaf_undriven name leaf driven) in rw no refl

  falls : (part : Part) (place : ℕ) (name : List ℕ) → has (nexts ++ machine.outputs) name ≡ true
      → AllByRecursion (λ input. rank input < rank (table_of style machine part place name).output)
      (table_of style machine part place name).inputs
  falls part place name driven =
      table_reads (λ input. rank input < rank (table_of style machine part place name).output) style
      machine part place name (λ input leaf.
      let low : rank input ≡ 0 = leaf_rank input leaf in
      let high : rank (table_of style machine part place name).output ≡ 1 =
      ap rank (table_drives style machine part place name)
      ∙ driven_rank name driven in omega arith)

  acyclic : IsAcyclic (encoded style machine).tables
  acyclic = rank_acyclic (encoded style machine).tables (record {
    rank = rank;
    falls = λ signal table at.
        subst (λ (output : List ℕ). AllByRecursion (λ input. rank input < rank output) table.inputs)
        (driver_name (encoded style machine).tables signal table at)
        (driver_all (λ (t : Table). AllByRecursion (λ input. rank input < rank t.output) t.inputs)
        (encoded style machine).tables all signal table at);
  })
    where
      all : AllByRecursion (λ (t : Table). AllByRecursion (λ input. rank input < rank t.output)
          t.inputs) (encoded style machine).tables
      all = each (λ (t : Table). AllByRecursion (λ input. rank input < rank t.output) t.inputs)
          (λ name. has (nexts ++ machine.outputs) name ≡ true) falls
          (all_from_has (λ name. has (nexts ++ machine.outputs) name ≡ true) nexts
          (λ name among. has_front nexts machine.outputs name among))
          (all_from_has (λ name. has (nexts ++ machine.outputs) name ≡ true) machine.outputs
          (λ name among. has_back nexts machine.outputs name among))

  -- names are words
  record PortWords : Type 0 where
    name : IsWord machine.name
    inputs : AllByRecursion IsWord machine.inputs
    outputs : AllByRecursion IsWord machine.outputs

  port_words : PortWords
  port_words =
      let first = all_parts IsWord machine.inputs (machine.outputs ++ machine.states)
      sound.words.1 in
      let second = all_parts IsWord machine.outputs machine.states first.1 in
      record { name = sound.words.0; inputs = first.0; outputs = second.0 }

  free_words : (prefix : List ℕ) → is_word prefix ≡ true
      → AllByRecursion IsWord (free_names prefix ports (width_of style machine))
  free_words prefix word = each_free IsWord prefix ports (width_of style machine) room
      (λ n below free. numbered_word prefix n word below)

  state_words : AllByRecursion IsWord states
  unfolding is_word
  state_words = free_words (codes "st_") refl

  next_words : AllByRecursion IsWord nexts
  unfolding is_word
  next_words = free_words (codes "nx_") refl

  table_words : AllByRecursion IsWord (names_of (encoded style machine).tables)
  table_words =
      names_each IsWord (λ (t : Table). t.output ∷ t.inputs) (encoded style machine).tables
      (each (λ (t : Table). AllByRecursion IsWord (t.output ∷ t.inputs)) IsWord
      (λ part place name word. (
        subst IsWord (sym (table_drives style machine part place name)) word,
        table_reads IsWord style machine part place name (all_has IsWord (machine.inputs ++ states)
            (all_append IsWord machine.inputs states port_words.inputs state_words)),
      )) next_words port_words.outputs)

  has_words : HasWords (encoded style machine)
  unfolding encoded
  has_words = record {
    name = port_words.name;
    inputs = port_words.inputs;
    outputs = port_words.outputs;
    clocks = tt;
    control = tt;
    latch_outputs = subst (λ (names : List (List ℕ)). AllByRecursion IsWord names) (sym drive)
        state_words;
    latch_inputs = subst (λ (names : List (List ℕ)). AllByRecursion IsWord names) (sym take)
        next_words;
    tables = table_words;
    dont_care = tt;
  }

  -- what is taken is driven
  abbrev IsGiven : List ℕ → Type 0
  IsGiven name = has (given (encoded style machine)) name ≡ true

  driven : AllByRecursion (λ name. has (given (encoded style machine)) name ≡ true)
      (taken (encoded style machine))
  unfolding taken
  driven =
      all_append IsGiven (table_inputs (encoded style machine).tables)
      (latch_inputs (encoded style machine) ++ (encoded style machine).outputs)
      (names_each IsGiven (λ (t : Table). t.inputs) (encoded style machine).tables
      (each_one (λ (t : Table). AllByRecursion IsGiven t.inputs) (λ part place name.
      table_reads IsGiven style machine part place name
      (λ input leaf. is_given input
      (has_front (machine.inputs ++ states) (nexts ++ machine.outputs) input leaf)))))
      (all_append IsGiven (latch_inputs (encoded style machine)) (encoded style machine).outputs
      (subst (λ (names : List (List ℕ)). AllByRecursion IsGiven names) (sym take)
      (all_from_has IsGiven nexts
      (λ name among. is_given name
      (has_back (machine.inputs ++ states) (nexts ++ machine.outputs) name
      (has_front nexts machine.outputs name among)))))
      ports_driven)
    where
      ports_driven : AllByRecursion IsGiven (encoded style machine).outputs
      ports_driven =
          subst (λ (names : List (List ℕ)). AllByRecursion IsGiven names) (sym own_outputs)
          (all_from_has IsGiven machine.outputs
          (λ name among. is_given name
          (has_back (machine.inputs ++ states) (nexts ++ machine.outputs) name
          (has_back nexts machine.outputs name among))))

  pub encoded_sound : IsSound (encoded style machine)
  unfolding encoded
  encoded_sound = record {
    words = parts_words (encoded style machine) has_words;
    inputs_once = port_names.front;
    outputs_once = port_names.back;
    one_driver = ap all_different given_are ∙ all_differ;
    driven = driven;
    inits = latches_begin style machine.reset 0 nexts states;
    untimed_without_latches = λ none. refl;
    shaped = each_one IsShaped (λ part place name. table_shaped style machine part place name
        states_long inputs_long);
    table_inputs_once = each_one (λ (t : Table). all_different t.inputs ≡ true)
        (λ part place name. table_once style machine part place name);
    acyclic = acyclic;
    control_undriven = tt;
    control_not_nil = refl;
    dont_care_once = different_none;
    dont_care_known = tt;
    dont_care_acyclic = no_cycle;
    dont_care_shaped = tt;
  }
