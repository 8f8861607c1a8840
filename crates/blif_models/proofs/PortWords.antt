-- The lines that are added to the first model have words: its ports, and the clocks of the models
-- that are used.
use Rattle.std.specs.Prelude.{◌≡◌, ℕ, suc, zero, ◌+◌, Bool, true, false, List, [], ◌∷◌, ◌++◌, map, drop, flat_map, length, codes, Option, slice_index_or, if◌then◌else◌}
use Rattle.std.specs.List.{AllByRecursion, filter, range_with_len}
use Rattle.std.proofs.Common.{refl}
use Rattle.sis_base.specs.Written.{is_word}
use Rattle.sis_text.specs.Entries.{Entry}
use Rattle.circuit_model.specs.Names.{has}
use Rattle.line_words.specs.LineWords.{other_words}
use Rattle.genlib_format.specs.declared.gate.Gate.{Gate as TheGate}
use Rattle.blif_gates.specs.GateLines.{is_pair, pin_in, signal_in}
use Rattle.kiss_format.proofs.Mentions.{all_kept as all_filtered}
use Rattle.blif_lines.specs.declared.keyword.Keyword.{Keyword}
use Rattle.blif_lines.specs.declared.keyword.Keyword.TheVariants.{Model, Inputs, Outputs, Clock, Names, Latch, Gate, Subckt, StartKiss, DontCare, End, Skipped, Row, Other}
use Rattle.blif_lines.specs.Keyword.{kind_of}
use Rattle.blif_lines.specs.Lines.{is_none}
use Rattle.blif_lines.specs.Reader.{model_lines, part_lines, of_lines, listed_inputs, listed_outputs, listed_clocks, clocks_in, lists_inputs, lists_outputs, read_within, driven_by, gate_tables, names_beside, listed_or}
use Rattle.blif_lines.proofs.Gates.{gate_names_are_words, gate_inputs_have, gate_outputs_have}
use Rattle.blif_lines.proofs.NameLists.{all_append, all_kept, all_map, all_taken, others_have}
use Rattle.blif_lines.proofs.Named.{IsWord, last_has, latch_input_has, latch_output_has, latch_words_have, beside_have}
use Rattle.blif_lines.proofs.WhatIsRead.{AreWordLines}
use Rattle.blif_models.specs.Models.{is_instance, model_of, pairs_of, model_graph, is_used, used_models}
use Rattle.blif_models.specs.Ports.{Ports, own_outputs, actuals_of, reads_with, drives_with, ports_with, ports_at}
use Rattle.blif_models.specs.Flat.{stays, added, flat_lines, port_lines, clock_line, flat_model}
use Rattle.blif_models.specs.declared.limits.TheConstants.{MAX_DEPTH}
use Rattle.blif_models.proofs.FlatWords.{HasWords, HasWordActual, actuals_are_words, each_flat, model_words, flat_words}

-- a `.names` line has a word after the first
abbrev pub NamesSome : Entry → Type 0
NamesSome line = kind_of line ≡ Names → is_none (other_words line.words) ≡ false

-- a line of words, which names a table's signals if it is a table's
pub record IsProperLine (line : Entry) : Type 0 where
  pub words : HasWords line
  pub some : NamesSome line

abbrev pub AreProperLines : List Entry → Type 0
AreProperLines lines = AllByRecursion IsProperLine lines

-- what a line lists, reads and drives
abbrev Words : List (List ℕ) → Type 0
Words names = AllByRecursion IsWord names

listed_words : (kind : Keyword) (words : List (List ℕ)) → Words words → Words (listed_inputs kind words) × (Words (listed_outputs kind words) × Words (listed_clocks kind words))
listed_words Model words a = (tt, (tt, tt))
listed_words Inputs words a = (a, (tt, tt))
listed_words Outputs words a = (tt, (a, tt))
listed_words Clock words a = (tt, (tt, a))
listed_words Names words a = (tt, (tt, tt))
listed_words Latch words a = (tt, (tt, tt))
listed_words Gate words a = (tt, (tt, tt))
listed_words Subckt words a = (tt, (tt, tt))
listed_words StartKiss words a = (tt, (tt, tt))
listed_words DontCare words a = (tt, (tt, tt))
listed_words End words a = (tt, (tt, tt))
listed_words Skipped words a = (tt, (tt, tt))
listed_words Row words a = (tt, (tt, tt))
listed_words Other words a = (tt, (tt, tt))

line_signals : (library : Option (List TheGate)) (kind : Keyword) (words : List (List ℕ)) → (kind ≡ Names → is_none words ≡ false) → Words words → Words (read_within library kind words) × Words (driven_by library kind words)
line_signals library Names words some a = (all_taken IsWord _ words a, (last_has IsWord words a (some refl), tt))
line_signals library Latch words some a =
    (latch_input_has IsWord words (latch_words_have IsWord words a), latch_output_has IsWord words (latch_words_have IsWord words a))
line_signals library Gate words some a =
    (gate_inputs_have IsWord library words (gate_names_are_words library words a), gate_outputs_have IsWord (gate_tables library words) (gate_names_are_words library words a))
line_signals library Model words some a = (tt, tt)
line_signals library Inputs words some a = (tt, tt)
line_signals library Outputs words some a = (tt, tt)
line_signals library Clock words some a = (tt, tt)
line_signals library Subckt words some a = (tt, tt)
line_signals library StartKiss words some a = (tt, tt)
line_signals library DontCare words some a = (tt, tt)
line_signals library End words some a = (tt, tt)
line_signals library Skipped words some a = (tt, tt)
line_signals library Row words some a = (tt, tt)
line_signals library Other words some a = (tt, tt)

-- the actuals of pairs
actual_words : (ports words : List (List ℕ)) → Words words → Words (actuals_of ports (filter is_pair words))
unfolding actuals_of
actual_words ports words a =
    all_map HasWordActual IsWord signal_in (filter (λ (pair : List ℕ). has ports (pin_in pair)) (filter is_pair words)) (λ pair w. w)
    (all_filtered HasWordActual (λ (pair : List ℕ). has ports (pin_in pair)) (filter is_pair words) (actuals_are_words words a))

pair_words : (ports : List (List ℕ)) (line : Entry) → HasWords line → Words (actuals_of ports (pairs_of line))
pair_words ports line a = actual_words ports (other_words (other_words line.words)) (others_have IsWord (other_words line.words) (others_have IsWord line.words a))

-- the signals that lines read and drive, by the ports of each model
module _ (library : Option (List TheGate)) (ports_of : List ℕ → Ports) where
  read_words : (line : Entry) → IsProperLine line → Words (reads_with library ports_of line)
  read_words line p = by (is_instance line)
    where
      by : (b : Bool) → Words (if b then actuals_of (ports_of (model_of line)).inputs (pairs_of line) else read_within library (kind_of line) (other_words line.words))
      by true = pair_words (ports_of (model_of line)).inputs line p.words
      by false = (line_signals library (kind_of line) (other_words line.words) p.some (others_have IsWord line.words p.words)).0

  drive_words : (line : Entry) → IsProperLine line → Words (drives_with library ports_of line)
  drive_words line p = by (is_instance line)
    where
      by : (b : Bool) → Words (if b then actuals_of (own_outputs (ports_of (model_of line))) (pairs_of line) else driven_by library (kind_of line) (other_words line.words))
      by true = pair_words (own_outputs (ports_of (model_of line))) line p.words
      by false = (line_signals library (kind_of line) (other_words line.words) p.some (others_have IsWord line.words p.words)).1

  input_words_with : (lines : List Entry) → AreProperLines lines → Words (ports_with library ports_of lines).inputs
  unfolding ports_with
  input_words_with lines a = by (lists_inputs lines)
    where
      by : (b : Bool) → Words (listed_or b (of_lines listed_inputs lines) (names_beside (flat_map (drives_with library ports_of) lines) (flat_map (reads_with library ports_of) lines)))
      by true = each_flat IsProperLine IsWord _ lines (λ line p. (listed_words (kind_of line) (other_words line.words) (others_have IsWord line.words p.words)).0) a
      by false = beside_have IsWord (flat_map (drives_with library ports_of) lines) (flat_map (reads_with library ports_of) lines) (each_flat IsProperLine IsWord (reads_with library ports_of) lines read_words a)

  output_words_with : (lines : List Entry) → AreProperLines lines → Words (ports_with library ports_of lines).outputs
  unfolding ports_with
  output_words_with lines a = by (lists_outputs lines)
    where
      by : (b : Bool) → Words (listed_or b (of_lines listed_outputs lines) (names_beside (flat_map (reads_with library ports_of) lines) (flat_map (drives_with library ports_of) lines)))
      by true = each_flat IsProperLine IsWord _ lines (λ line p. (listed_words (kind_of line) (other_words line.words) (others_have IsWord line.words p.words)).1.0) a
      by false = beside_have IsWord (flat_map (reads_with library ports_of) lines) (flat_map (drives_with library ports_of) lines) (each_flat IsProperLine IsWord (drives_with library ports_of) lines drive_words a)

clock_words : (lines : List Entry) → AreWordLines lines → Words (clocks_in lines)
unfolding clocks_in
clock_words lines a = each_flat HasWords IsWord _ lines (λ line words. (listed_words (kind_of line) (other_words line.words) (others_have IsWord line.words words)).1.1) a

-- the lines that are added
port_line_words : (library : Option (List TheGate)) (models : List (List Entry)) (lines : List Entry) → AreProperLines lines → AreWordLines (port_lines library models lines)
unfolding ports_at is_word
port_line_words library models lines a = all_append HasWords (inputs (lists_inputs lines)) (outputs (lists_outputs lines)) (by_inputs (lists_inputs lines)) (by_outputs (lists_outputs lines))
  where
    ports : Ports
    ports = ports_at library models (MAX_DEPTH + 1) lines

    inputs : Bool → List Entry
    inputs b = if b then [] else added (codes ".inputs" ∷ ports.inputs) ∷ []

    outputs : Bool → List Entry
    outputs b = if b then [] else added (codes ".outputs" ∷ ports.outputs) ∷ []

    by_inputs : (b : Bool) → AreWordLines (inputs b)
    by_inputs true = tt
    by_inputs false = ((refl, input_words_with library _ lines a), tt)

    by_outputs : (b : Bool) → AreWordLines (outputs b)
    by_outputs true = tt
    by_outputs false = ((refl, output_words_with library _ lines a), tt)

-- a model of those at indices
pub model_at : (P : List Entry → Type 0) → P [] → (models : List (List Entry)) (place : ℕ) → AllByRecursion P models → P (slice_index_or models place [])
model_at P none [] place a = none
model_at P none (model ∷ models) zero a = a.0
model_at P none (model ∷ models) (suc place) a = model_at P none models place a.1

each_at : (P : List Entry → Type 0) → P [] → (models : List (List Entry)) → AllByRecursion P models → (places : List ℕ) → AllByRecursion P (map (λ place. slice_index_or models place []) places)
each_at P none models a [] = tt
each_at P none models a (place ∷ places) = (model_at P none models place a, each_at P none models a places)

clock_line_words : (models : List (List Entry)) (lines : List Entry) → AllByRecursion AreWordLines models → HasWords (clock_line models lines)
unfolding used_models is_word
clock_line_words models lines a = (
  refl,
  beside_have IsWord (clocks_in lines) (flat_map (λ (model : List Entry). clocks_in (model_lines model)) (used_models models))
      (each_flat AreWordLines IsWord (λ (model : List Entry). clocks_in (model_lines model)) (used_models models) (λ model words. clock_words (model_lines model) (model_words model words))
      (each_at AreWordLines tt models a (filter (is_used (model_graph models)) (range_with_len 0 (length models))))),
)

-- the lines of a model and of its don't-care part
proper_model : (lines : List Entry) → AreProperLines lines → AreProperLines (model_lines lines)
unfolding model_lines
proper_model lines a = all_taken IsProperLine _ lines a

pub all_dropped : {A : Type 0} (P : A → Type 0) (count : ℕ) (xs : List A) → AllByRecursion P xs → AllByRecursion P (drop count xs)
all_dropped P zero xs a = a
all_dropped P (suc count) [] a = tt
all_dropped P (suc count) (x ∷ xs) a = all_dropped P count xs a.1

part_words : (lines : List Entry) → AreWordLines lines → AreWordLines (part_lines lines)
unfolding part_lines
part_words lines a = all_dropped HasWords (length (model_lines lines)) lines a

pub words_of_proper : (lines : List Entry) → AreProperLines lines → AreWordLines lines
words_of_proper lines a = all_kept IsProperLine HasWords lines (λ line p. p.words) a

-- the whole
pub flat_model_words : (library : Option (List TheGate)) (models : List (List Entry)) (model : List Entry) → AllByRecursion AreWordLines models → AreProperLines model → AreWordLines (flat_model library models model)
unfolding flat_model
flat_model_words library models model known a =
    let own = model_lines model in
    let words = words_of_proper model a in
    let flat = filter (λ (line : Entry). stays (kind_of line)) (flat_lines library models (MAX_DEPTH + 1) own) in
    all_append HasWords (flat ++ port_lines library models own) (clock_line models own ∷ part_lines model)
    (all_append HasWords flat (port_lines library models own)
    (all_filtered HasWords (λ (line : Entry). stays (kind_of line)) (flat_lines library models (MAX_DEPTH + 1) own) (flat_words library models (MAX_DEPTH + 1) own known (model_words model words)))
    (port_line_words library models own (proper_model model a)))
    (clock_line_words models own known, part_words model words)
