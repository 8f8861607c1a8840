-- What holds of the table that a line says.
use Rattle.std.proofs.Common.{◌≡◌, ℕ, zero, suc, ◌≤◌, Bool, true, false, ◌||◌, if◌then◌else◌, cond, Option, Some, None, List, [], ◌∷◌, length, map, find, drop, bytes_eq, refl, sym, ◌∙◌, ap, subst}
use Rattle.std.specs.Prelude.{Result, Ok, Err}
use Rattle.std.specs.List.{AllByRecursion, list_all}
use Rattle.std.specs.Option.{option_map_or}
use Rattle.std.proofs.lemmas.List.{length-map}
use Rattle.std.proofs.lemmas.Bool.{false≢true, or_left, or_right, and_from}
use Rattle.sis_base.specs.Rows.{HasWidth, some_matches, value_by_phase}
use Rattle.sis_base.specs.Written.{is_word_byte, is_word}
use Rattle.circuit_model.specs.Names.{has}
use Rattle.circuit_model.specs.Values.{table_value}
use Rattle.circuit_model.specs.Soundness.{IsShaped}
use Rattle.circuit_model.specs.declared.circuit.Tri.{Tri}
use Rattle.circuit_model.specs.declared.circuit.Table.{Table}
use Rattle.cube_cover.proofs.Points.{and_left, and_right}
use Rattle.cover_ops.specs.Shannon.{shannon}
use Rattle.cover_ops.proofs.Expansion.{value_shannon}
use Rattle.cover_ops.proofs.Joins.{HasWidth-shannon}
use Rattle.circuit_tables.proofs.Once.{itself}
use Rattle.genlib_expr.specs.Formula.{formula_of}
use Rattle.genlib_expr.specs.Functions.{function_of}
use Rattle.genlib_format.specs.declared.gate.Gate.{Gate}
use Rattle.genlib_format.specs.Words.{behind}
use Rattle.genlib_format.specs.Reader.{gate_named}
use Rattle.genlib_format.specs.Soundness.{IsSoundGate}
use Rattle.blif_gates.specs.declared.reading.GateFault.{GateFault}
use Rattle.blif_gates.specs.declared.reading.GateFault.TheVariants.{BadPins}
use Rattle.blif_gates.specs.GateLines.{pin_in, signal_in, is_pair, pins_of, signals_of, is_pairing, signal_for, character_for, gate_rows, gate_table, read_found, read_gate}
use Rattle.blif_gates.proofs.Characters.{literals_back}
use Rattle.sis_base.specs.declared.limits.TheConstants.{MAX_PINS}

-- a table is that of a gate of the cell's name, with which the words pair
pub record IsTold (library : List Gate) (cell : List ℕ) (words : List (List ℕ)) (table : Table) : Type 0 where
  pub gate : Gate
  pub named : gate_named library cell ≡ Some gate
  pub pairs : is_pairing gate words ≡ true
  pub is : gate_table gate words ≡ table

abbrev good : Table → Result Table GateFault
good table = Ok table

abbrev table_or : Result Table GateFault → Table → Table
table_or (Ok table) other = table
table_or (Err fault) other = other

same_table : (a b : Table) → good a ≡ good b → a ≡ b
same_table a b e = ap (λ (answer : Result Table GateFault). table_or answer a) e

pub told : (library : List Gate) (cell : List ℕ) (words : List (List ℕ)) (table : Table) → read_gate library cell words ≡ Ok table → IsTold library cell words table
unfolding read_gate
told library cell words table e = by (gate_named library cell) refl e
  where
    chosen : (gate : Gate) → gate_named library cell ≡ Some gate → (b : Bool) → is_pairing gate words ≡ b → (if b then good (gate_table gate words) else Err BadPins) ≡ good table → IsTold library cell words table
    chosen gate f true p h = record { gate = gate; named = f; pairs = p; is = same_table (gate_table gate words) table h }
    chosen gate f false p h = absurd (let off = h in cc)

    by : (found : Option Gate) → gate_named library cell ≡ found → read_found found words ≡ good table → IsTold library cell words table
    by None f h = absurd (let off = h in cc)
    by (Some gate) f h = chosen gate f (is_pairing gate words) refl h

-- a gate that is found is one of the gates
pub sound_found : (gates : List Gate) (name : List ℕ) (gate : Gate) → AllByRecursion IsSoundGate gates → gate_named gates name ≡ Some gate → IsSoundGate gate
unfolding gate_named
sound_found [] name gate all e = absurd (let off = e in cc)
sound_found (first ∷ gates) name gate all e = by (bytes_eq name first.cell) e (λ h. sound_found gates name gate all.1 h)
  where
    own : first ≡ gate → IsSoundGate gate
    own h = subst IsSoundGate h all.0

    gate_or : Option Gate → Gate
    gate_or None = first
    gate_or (Some found) = found

    by : (b : Bool) → cond b (Some first) (gate_named gates name) ≡ Some gate → (gate_named gates name ≡ Some gate → IsSoundGate gate) → IsSoundGate gate
    by true h rest = own (ap gate_or h)
    by false h rest = rest h

-- rows are as wide as their literals
characters_wide : (width : ℕ) (list : List (List (Option Bool))) → HasWidth width list → AllByRecursion (λ (row : List Tri). length row ≡ width) (map (map character_for) list)
unfolding HasWidth
characters_wide width [] h = tt
characters_wide width (row ∷ list) h = (length-map row character_for ∙ h.0, characters_wide width list h.1)

pub shaped : (gate : Gate) (words : List (List ℕ)) → IsShaped (gate_table gate words)
unfolding gate_table gate_rows
shaped gate words =
    let wide : AllByRecursion (λ (row : List Tri). length row ≡ length gate.pins) (map (map character_for) (shannon (length gate.pins) (function_of (formula_of gate.expr))))
    = characters_wide (length gate.pins) _ (HasWidth-shannon (length gate.pins) (function_of (formula_of gate.expr))) in
    (subst (λ (n : ℕ). AllByRecursion (λ (row : List Tri). length row ≡ n) (map (map character_for) (shannon (length gate.pins) (function_of (formula_of gate.expr))))) (sym (length-map gate.pins (signal_for words))) wide, λ e. refl)

pub few : (gate : Gate) (words : List (List ℕ)) → IsSoundGate gate → length (gate_table gate words).inputs ≤ MAX_PINS
unfolding gate_table
few gate words sound = subst (λ (n : ℕ). n ≤ MAX_PINS) (sym (length-map gate.pins (signal_for words))) sound.few

pub valued : (gate : Gate) (words : List (List ℕ)) (point : List Bool) → length point ≡ length gate.pins → table_value (gate_table gate words) point ≡ function_of (formula_of gate.expr) point
unfolding table_value gate_table gate_rows value_by_phase
valued gate words point e =
    ap (λ (list : List (List (Option Bool))). some_matches list point) (literals_back (shannon (length gate.pins) (function_of (formula_of gate.expr))))
    ∙ value_shannon (length gate.pins) (function_of (formula_of gate.expr)) point e

-- what holds of each signal of some words holds of the signal of each pin that they name
held : (P : List ℕ → Type 0) (words : List (List ℕ)) (pin : List ℕ) → AllByRecursion (λ word. P (signal_in word)) words → has (pins_of words) pin ≡ true → P (signal_for words pin)
unfolding signal_for
held P [] pin all h = absurd (false≢true h)
held P (word ∷ words) pin all h = by (bytes_eq pin (pin_in word)) h (λ k. held P words pin all.1 k)
  where
    by : (b : Bool) → (b || has (pins_of words) pin) ≡ true → (has (pins_of words) pin ≡ true → P (option_map_or signal_in (find (λ (w : List ℕ). bytes_eq pin (pin_in w)) words) []))
        → P (option_map_or signal_in (cond b (Some word) (find (λ (w : List ℕ). bytes_eq pin (pin_in w)) words)) [])
    by true k rest = all.0
    by false k rest = rest k

each_held : (P : List ℕ → Type 0) (words pins : List (List ℕ)) → AllByRecursion (λ word. P (signal_in word)) words → list_all (has (pins_of words)) pins ≡ true → AllByRecursion P (map (signal_for words) pins)
each_held P words [] all h = tt
each_held P words (pin ∷ pins) all h = (held P words pin all (and_left _ _ h), each_held P words pins all (and_right _ _ h))

table_held : (P : List ℕ → Type 0) (gate : Gate) (words : List (List ℕ)) → AllByRecursion (λ word. P (signal_in word)) words → is_pairing gate words ≡ true → AllByRecursion P ((gate_table gate words).output ∷ (gate_table gate words).inputs)
unfolding is_pairing gate_table
table_held P gate words all h =
    let named = and_right _ _ (and_right _ _ h) in
    (held P words gate.output all (and_right _ _ named), each_held P words gate.pins all (and_left _ _ named))

-- a signal of a word is a word
pub all_dropped : (n : ℕ) (bytes : List ℕ) → list_all is_word_byte bytes ≡ true → list_all is_word_byte (drop n bytes) ≡ true
all_dropped zero bytes h = h
all_dropped (suc n) [] h = refl
all_dropped (suc n) (byte ∷ bytes) h = all_dropped n bytes (and_right _ _ h)

pub signal_word : (word : List ℕ) → is_word word ≡ true → is_pair word ≡ true → is_word (signal_in word) ≡ true
unfolding is_word behind
signal_word word w p = and_from _ _ p (all_dropped _ word (and_right _ _ w))

signal_words : (words : List (List ℕ)) → AllByRecursion (λ word. is_word word ≡ true) words → list_all is_pair words ≡ true → AllByRecursion (λ word. is_word (signal_in word) ≡ true) words
signal_words [] all h = tt
signal_words (word ∷ words) all h = (signal_word word all.0 (and_left _ _ h), signal_words words all.1 (and_right _ _ h))

pub named_by_words : (gate : Gate) (words : List (List ℕ)) → AllByRecursion (λ word. is_word word ≡ true) words → is_pairing gate words ≡ true
    → AllByRecursion (λ name. is_word name ≡ true) ((gate_table gate words).output ∷ (gate_table gate words).inputs)
unfolding is_pairing
named_by_words gate words all h = table_held (λ name. is_word name ≡ true) gate words (signal_words words all (and_left _ _ (and_right _ _ h))) h

-- each signal of some words is among them
among : (all words : List (List ℕ)) → ((name : List ℕ) → has (signals_of words) name ≡ true → has all name ≡ true) → AllByRecursion (λ word. has all (signal_in word) ≡ true) words
among all [] h = tt
among all (word ∷ words) h =
    (h (signal_in word) (or_left (bytes_eq (signal_in word) (signal_in word)) (has (signals_of words) (signal_in word)) (itself (signal_in word))), among all words (λ name k. h name (or_right (bytes_eq name (signal_in word)) (has (signals_of words) name) k)))

pub named_by_signals : (gate : Gate) (words : List (List ℕ)) → is_pairing gate words ≡ true → AllByRecursion (λ name. has (signals_of words) name ≡ true) ((gate_table gate words).output ∷ (gate_table gate words).inputs)
named_by_signals gate words h = table_held (λ name. has (signals_of words) name ≡ true) gate words (among (signals_of words) words (λ name k. k)) h
