-- The text of a sound netlist is read, with its library, as its circuit.
use Rattle.std.proofs.Common.{◌≡◌, ℕ, ◌+◌, Bool, true, false, ◌&&◌, ◌==◌, cond, Option, Some, None, List, [], ◌∷◌, ◌++◌, length, take, map, bytes_eq, refl, sym, ◌∙◌, ap, subst}
use Rattle.std.specs.Prelude.{Result, Ok, Err, slice_index_or}
use Rattle.std.specs.List.{AllByRecursion, list_all, cons_option}
use Rattle.std.proofs.Math.Seq.{take-append_seam, get_or-append_seam}
use Rattle.std.proofs.lemmas.Bool.{or_left, or_right, eq-eqb, and_from}
use Rattle.std.proofs.lemmas.List.{length-append, length-map, map-append}
use Rattle.sis_text.specs.Entries.{entries_of}
use Rattle.circuit_model.specs.Names.{has, all_different}
use Rattle.circuit_model.specs.Soundness.{IsSound}
use Rattle.circuit_model.specs.Counts.{IsWithinLimits}
use Rattle.circuit_model.specs.declared.circuit.Tri.{Tri}
use Rattle.circuit_model.specs.declared.circuit.Table.{Table}
use Rattle.circuit_model.specs.declared.circuit.Circuit.{Circuit}
use Rattle.circuit_model.specs.declared.machine.Spec.TheVariants as spec
use Rattle.circuit_checks.specs.NameChecks.{first_again}
use Rattle.circuit_checks.proofs.Bridges.{different_from_again}
use Rattle.circuit_checks.proofs.Naming.{has_append}
use Rattle.circuit_tables.specs.Folding.{folded}
use Rattle.circuit_tables.proofs.Once.{itself}
use Rattle.circuit_tables.proofs.Folded.{folded_output}
use Rattle.genlib_format.specs.Gates.{is_gate_name}
use Rattle.genlib_format.specs.Reader.{gate_named}
use Rattle.genlib_format.specs.Soundness.{IsSoundGate, IsName as IsGateName, IsSoundGates}
use Rattle.genlib_format.specs.declared.gate.Gate.{Gate}
use Rattle.blif_gates.specs.declared.reading.GateFault.{GateFault}
use Rattle.blif_gates.specs.declared.reading.GateFault.TheVariants.{BadPins}
use Rattle.blif_gates.specs.GateLines.{is_pair, pins_of as named_pins, is_pairing, signal_for, gate_rows, gate_table, read_found, read_gate}
use Rattle.blif_gates.proofs.Told.{sound_found}
use Rattle.blif_gates.proofs.NamedOnce.{all_among as all_had}
use Rattle.netlist.specs.Netlists.{pins_of, signals_of, cell_table, placed_tables, circuit_of, IsPlaced, IsSoundNetlist}
use Rattle.netlist.specs.Lines.{pair_word, netlist_text_of}
use Rattle.netlist.specs.declared.mapped.Connection.{Connection}
use Rattle.netlist.specs.declared.mapped.Placed.{Placed}
use Rattle.netlist.specs.declared.mapped.Mapped.{Mapped}
use Rattle.netlist.proofs.Cells.{placed_has_table}
use Rattle.blif_lines.specs.Limits.{HasShortNames}
use Rattle.blif_lines.specs.Lines.{cell_fault}
use Rattle.blif_lines.specs.Reader.{right_table, gate_tables}
use Rattle.blif_lines.proofs.NameLists.{all_append, all_front, all_kept, all_among, all_of_has, same_name}
use Rattle.blif_read.specs.Reader.{read_lines}
use Rattle.blif_write.proofs.Words.{OfTable, OfNames, IsName, gate_words, of_names}
use Rattle.blif_write.proofs.NoFaults.{IsShort, IsKnown}
use Rattle.blif_write.proofs.Said.{said_tables}
use Rattle.blif_write.proofs.GateTables.{KeepsReads, phase_keeps}
use Rattle.blif_write.proofs.Pairs.{IsPlain, name_is_word, name_is_plain, pairs_are_words, pins_back, signals_back, are_pairs, signals_found}
use Rattle.blif_write.proofs.ReadAgain.{whole, whole_read}

-- a gate that is found has the name that was looked for
named_so : (gates : List Gate) (name : List ℕ) (gate : Gate) → gate_named gates name ≡ Some gate
    → name ≡ gate.cell
unfolding gate_named
named_so [] name gate e = absurd (let off = e in cc)
named_so (first ∷ gates) name gate e = by (bytes_eq name first.cell) refl e
    (λ h. named_so gates name gate h)
  where
    gate_or : Option Gate → Gate
    gate_or None = first
    gate_or (Some found) = found

    by : (b : Bool) → bytes_eq name first.cell ≡ b
        → cond b (Some first) (gate_named gates name) ≡ Some gate
        → (gate_named gates name ≡ Some gate → name ≡ gate.cell) → name ≡ gate.cell
    by true same h rest = same_name name first.cell same
        ∙ ap (λ (one : Gate). one.cell) (ap gate_or h)
    by false same h rest = rest h

-- what a sound library says of a placed gate: its cell is sound, and its pins are plain and
-- different
pub record IsFit (library : List Gate) (placed : Placed)
    (by : IsPlaced library placed) : Type 0 where
  pub sound : IsSoundGate by.gate
  pub cell : IsName placed.cell
  pub plain : AllByRecursion IsPlain (pins_of placed)
  pub different : all_different (pins_of placed) ≡ true

none_again : (known : List (List ℕ)) (name : List ℕ) → has known name ≡ false
    → first_again known (name ∷ []) ≡ None
unfolding first_again
none_again known name h = ap (λ (b : Bool). cond b (Some name) None) h

fits : (library : List Gate) (placed : Placed) (by : IsPlaced library placed) → IsSoundGates library
    → IsFit library placed by
fits library placed by known =
    let sound : IsSoundGate by.gate = sound_found library placed.cell by.gate known.each by.known in
    let plain : AllByRecursion IsPlain (by.gate.pins ++ by.gate.output ∷ []) =
    all_append IsPlain by.gate.pins (by.gate.output ∷ [])
    (all_kept IsGateName IsPlain by.gate.pins (λ name named. name_is_plain name named.0) sound.pins)
    (name_is_plain by.gate.output sound.output.0, tt) in
    let different : all_different (by.gate.pins ++ by.gate.output ∷ []) ≡ true =
    different_from_again by.gate.pins (by.gate.output ∷ []) sound.different
    (none_again by.gate.pins by.gate.output sound.inner) in
    record {
      sound = sound;
      cell = name_is_word placed.cell
          (ap is_gate_name (named_so library placed.cell by.gate by.known) ∙ sound.cell.0);
      plain = subst (AllByRecursion IsPlain) (sym by.pins) plain;
      different = ap all_different by.pins ∙ different;
    }

-- the signals at the pins, and the one after them
signals_are : (library : List Gate) (placed : Placed) (by : IsPlaced library placed)
    → IsFit library placed by
    → map (signal_for (map pair_word placed.pins)) by.gate.pins
    ++ signal_for (map pair_word placed.pins) by.gate.output ∷ [] ≡ signals_of placed
signals_are library placed by fit =
    let signal = signal_for (map pair_word placed.pins) in
    sym (map-append signal by.gate.pins (by.gate.output ∷ [])) ∙ ap (map signal) (sym by.pins)
    ∙ signals_found placed.pins fit.plain fit.different

pins_taken : (library : List Gate) (placed : Placed) (by : IsPlaced library placed)
    → IsFit library placed by
    → take (length by.gate.pins) (signals_of placed)
    ≡ map (signal_for (map pair_word placed.pins)) by.gate.pins
pins_taken library placed by fit =
    let signal = signal_for (map pair_word placed.pins) in
    let inputs = map signal by.gate.pins in
    ap (take (length by.gate.pins)) (sym (signals_are library placed by fit))
    ∙ ap (λ (n : ℕ). take n (inputs ++ signal by.gate.output ∷ []))
    (sym (length-map by.gate.pins signal))
    ∙ take-append_seam inputs (signal by.gate.output ∷ [])

last_taken : (library : List Gate) (placed : Placed) (by : IsPlaced library placed)
    → IsFit library placed by
    → slice_index_or (signals_of placed) (length by.gate.pins) []
    ≡ signal_for (map pair_word placed.pins) by.gate.output
last_taken library placed by fit =
    let signal = signal_for (map pair_word placed.pins) in
    let inputs = map signal by.gate.pins in
    ap (λ (names : List (List ℕ)). slice_index_or names (length by.gate.pins) [])
    (sym (signals_are library placed by fit))
    ∙ ap (λ (n : ℕ). slice_index_or (inputs ++ signal by.gate.output ∷ []) n [])
    (sym (length-map by.gate.pins signal))
    ∙ get_or-append_seam inputs (signal by.gate.output) [] []

-- the table that the words of its line say
abbrev table_with : List (List ℕ) → List ℕ → List (List Tri) → Table
table_with inputs output rows =
    record { inputs = inputs; output = output; rows = rows; phase = true }

same_table : (inputs others : List (List ℕ)) (output other : List ℕ) (rows : List (List Tri))
    → inputs ≡ others → output ≡ other
    → table_with inputs output rows ≡ table_with others other rows
same_table inputs others output other rows a b = rw (a, b) refl

line_table : (library : List Gate) (placed : Placed) (by : IsPlaced library placed)
    → IsFit library placed by
    → gate_table by.gate (map pair_word placed.pins) ≡ cell_table by.gate (signals_of placed)
unfolding gate_table cell_table
line_table library placed by fit =
    let signal = signal_for (map pair_word placed.pins) in
    same_table (map signal by.gate.pins) (take (length by.gate.pins) (signals_of placed))
    (signal by.gate.output) (slice_index_or (signals_of placed) (length by.gate.pins) [])
    (gate_rows by.gate)
    (sym (pins_taken library placed by fit)) (sym (last_taken library placed by fit))

-- the words pair with the cell
among_front : (names more all : List (List ℕ)) → all ≡ names ++ more
    → list_all (has all) names ≡ true
among_front names more all e =
    all_had all names (λ name there. ap (λ (known : List (List ℕ)). has known name) e
    ∙ has_append names more name ∙ or_left (has names name) (has more name) there)

last_among : (names : List (List ℕ)) (last : List ℕ) (all : List (List ℕ))
    → all ≡ names ++ last ∷ [] → has all last ≡ true
last_among names last all e =
    ap (λ (known : List (List ℕ)). has known last) e ∙ has_append names (last ∷ []) last
    ∙ or_right (has names last) (has (last ∷ []) last)
    (or_left (bytes_eq last last) false (itself last))

line_pairs : (library : List Gate) (placed : Placed) (by : IsPlaced library placed)
    → IsFit library placed by → AllByRecursion IsName (signals_of placed)
    → is_pairing by.gate (map pair_word placed.pins) ≡ true
unfolding is_pairing
line_pairs library placed by fit words =
    let line = map pair_word placed.pins in
    let named : named_pins line ≡ by.gate.pins ++ by.gate.output ∷ [] =
    pins_back placed.pins fit.plain ∙ by.pins in
    let count : length line ≡ length by.gate.pins + 1 =
    length-map placed.pins pair_word ∙ sym (length-map placed.pins (λ (c : Connection). c.pin))
    ∙ ap (λ (names : List (List ℕ)). length names) by.pins
    ∙ length-append by.gate.pins (by.gate.output ∷ []) in
    and_from (length line == length by.gate.pins + 1)
    (list_all is_pair line &&
    (list_all (has (named_pins line)) by.gate.pins && has (named_pins line) by.gate.output))
    (eq-eqb (length line) (length by.gate.pins + 1) count)
    (and_from (list_all is_pair line)
    (list_all (has (named_pins line)) by.gate.pins && has (named_pins line) by.gate.output)
    (are_pairs placed.pins fit.plain words)
    (and_from (list_all (has (named_pins line)) by.gate.pins) (has (named_pins line) by.gate.output)
    (among_front by.gate.pins (by.gate.output ∷ []) (named_pins line) named)
    (last_among by.gate.pins by.gate.output (named_pins line) named)))

abbrev good : Table → Result Table GateFault
good table = Ok table

line_read : (library : List Gate) (placed : Placed) (by : IsPlaced library placed)
    → IsFit library placed by → AllByRecursion IsName (signals_of placed)
    → read_gate library placed.cell (map pair_word placed.pins)
    ≡ Ok (cell_table by.gate (signals_of placed))
unfolding read_gate
line_read library placed by fit words =
    let line = map pair_word placed.pins in
    ap (λ (found : Option Gate). read_found found line) by.known
    ∙ ap (λ (b : Bool). cond b (good (gate_table by.gate line)) (Err BadPins))
    (line_pairs library placed by fit words)
    ∙ ap good (line_table library placed by fit)

-- a cell between signals, by its parts
cell_keeps : (gate : Gate) (signals : List (List ℕ)) → KeepsReads (cell_table gate signals)
unfolding cell_table
cell_keeps gate signals = phase_keeps (cell_table gate signals) refl

cell_inputs : (gate : Gate) (signals : List (List ℕ))
    → (cell_table gate signals).inputs ≡ take (length gate.pins) signals
unfolding cell_table
cell_inputs gate signals = refl

cell_output : (gate : Gate) (signals : List (List ℕ))
    → (cell_table gate signals).output ≡ slice_index_or signals (length gate.pins) []
unfolding cell_table
cell_output gate signals = refl

-- the library knows each gate, where the names of its folded table are words and short
signals_have : (P : List ℕ → Type 0) (library : List Gate) (placed : Placed)
    (by : IsPlaced library placed) → IsFit library placed by
    → OfTable P (folded (cell_table by.gate (signals_of placed)))
    → AllByRecursion P (signals_of placed)
signals_have P library placed by fit h =
    let table = cell_table by.gate (signals_of placed) in
    let signal = signal_for (map pair_word placed.pins) in
    let inputs : AllByRecursion P table.inputs =
    all_of_has P table.inputs
    (λ name there. all_among P (folded table).inputs name h.1
    (cell_keeps by.gate (signals_of placed) name ∙ there)) in
    let output : P table.output = subst P (folded_output table) h.0 in
    subst (AllByRecursion P) (signals_are library placed by fit)
    (all_append P (map signal by.gate.pins) (signal by.gate.output ∷ [])
    (subst (AllByRecursion P)
    (cell_inputs by.gate (signals_of placed) ∙ pins_taken library placed by fit) inputs) (
      subst P (cell_output by.gate (signals_of placed)
          ∙ last_taken library placed by fit) output,
      tt,
    ))

line_known : (library : List Gate) (placed : Placed) (by : IsPlaced library placed)
    → IsFit library placed by → OfTable IsName (folded (cell_table by.gate (signals_of placed)))
    → OfTable IsShort (folded (cell_table by.gate (signals_of placed)))
    → IsKnown (Some library) placed
line_known library placed by fit words short =
    let are_words : AllByRecursion IsName (signals_of placed) =
    signals_have IsName library placed by fit words in
    record {
      right = λ number. ap (cell_fault number) (line_read library placed by fit are_words);
      words = (fit.cell, pairs_are_words placed.pins fit.plain are_words);
      short = subst (AllByRecursion IsShort) (sym (signals_back placed.pins fit.plain))
          (signals_have IsShort library placed by fit short);
    }

-- all gates
placed_more : (library : List Gate) (placed : Placed) (gates : List Placed)
    (by : IsPlaced library placed)
    → placed_tables library (placed ∷ gates)
    ≡ folded (cell_table by.gate (signals_of placed)) ∷ placed_tables library gates
unfolding placed_tables
placed_more library placed gates by =
    ap (λ (made : Option Table). cons_option made (placed_tables library gates))
    (placed_has_table library placed by)

all_known : (library : List Gate) (gates : List Placed) → IsSoundGates library
    → AllByRecursion (IsPlaced library) gates
    → AllByRecursion (OfTable IsName) (placed_tables library gates)
    → AllByRecursion (OfTable IsShort) (placed_tables library gates)
    → AllByRecursion (IsKnown (Some library)) gates
all_known library [] known by words short = tt
all_known library (placed ∷ gates) known by words short =
    let more = placed_more library placed gates by.0 in
    let of_words = subst (AllByRecursion (OfTable IsName)) more words in
    let of_short = subst (AllByRecursion (OfTable IsShort)) more short in (
      line_known library placed by.0 (fits library placed by.0 known) of_words.0 of_short.0,
      all_known library gates known by.1 of_words.1 of_short.1,
    )

all_told : (library : List Gate) (gates : List Placed) → IsSoundGates library
    → AllByRecursion (IsPlaced library) gates
    → AllByRecursion (OfTable IsName) (placed_tables library gates)
    → map folded (said_tables (Some library) gates) ≡ placed_tables library gates
unfolding placed_tables
all_told library [] known by words = refl
all_told library (placed ∷ gates) known by words =
    let fit = fits library placed by.0 known in
    let more = placed_more library placed gates by.0 in
    let of_words = subst (AllByRecursion (OfTable IsName)) more words in
    let one : gate_tables (Some library) (gate_words placed)
    ≡ cell_table by.0.gate (signals_of placed) ∷ [] =
    ap right_table (line_read library placed by.0 fit
    (signals_have IsName library placed by.0 fit of_words.0)) in
    ap (λ (own : List Table). map folded (own ++ said_tables (Some library) gates)) one
    ∙ ap (λ (tables : List Table). folded (cell_table by.0.gate (signals_of placed)) ∷ tables)
    (all_told library gates known by.1 of_words.1)
    ∙ sym more

-- a sound netlist
whole_is : (library : List Gate) (mapped : Mapped)
    → map folded (said_tables (Some library) mapped.gates) ≡ placed_tables library mapped.gates
    → whole (Some library) mapped.gates mapped.base ≡ circuit_of library mapped
unfolding circuit_of
whole_is library mapped e = ap with_tables e
  where
    with_tables : List Table → Circuit
    with_tables tables = record mapped.base { tables = tables ++ mapped.base.tables }

tables_have : (P : List ℕ → Type 0) (library : List Gate) (mapped : Mapped)
    → OfNames P (circuit_of library mapped)
    → AllByRecursion (OfTable P) (placed_tables library mapped.gates)
unfolding circuit_of
tables_have P library mapped h = all_front (OfTable P)
    (placed_tables library mapped.gates) mapped.base.tables h.tables

pub netlist_read : (library : List Gate) (mapped : Mapped) → IsSoundGates library
    → IsSoundNetlist library mapped → IsWithinLimits (circuit_of library mapped)
    → HasShortNames (circuit_of library mapped)
    → read_lines (Some library) (entries_of (netlist_text_of mapped))
    ≡ Ok (spec.Circuit (circuit_of library mapped))
unfolding netlist_text_of
netlist_read library mapped known sound limits short =
    let words = tables_have IsName library mapped
    (of_names IsName (circuit_of library mapped) sound.circuit.words) in
    let shorts = tables_have IsShort library mapped
    (of_names IsShort (circuit_of library mapped) short.names) in
    let is = whole_is library mapped (all_told library mapped.gates known sound.gates words) in
    whole_read (Some library) mapped.gates mapped.base
    (all_known library mapped.gates known sound.gates words shorts)
    (subst IsSound (sym is) sound.circuit) (subst IsWithinLimits (sym is) limits)
    (subst HasShortNames (sym is) short)
    ∙ ap (λ (circuit : Circuit). Ok (spec.Circuit circuit)) is
