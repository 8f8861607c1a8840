-- What is read is sound.
use Rattle.std.proofs.Common.{◌≡◌, ℕ, zero, suc, ◌≤◌, not, nat_lt, Bool, true, false, if◌then◌else◌}
use Rattle.std.proofs.Common.{is_none, unwrap_or, Option, Some, None, option_map, Result, Ok, Err}
use Rattle.std.proofs.Common.{List, [], ◌∷◌, ◌++◌, length, find, slice_get, refl, ◌∙◌, ap, subst}
use Rattle.std.proofs.Common.{arith, IfOk}
use Rattle.std.specs.List.{AllByRecursion}
use Rattle.std.proofs.lemmas.Bool.Decides.{nat_tests}
use Rattle.std.proofs.lemmas.List.{length-map}
use Rattle.circuit_model.specs.Names.{has, all_different}
use Rattle.circuit_tables.proofs.Once.{different-each_once}
use Rattle.circuit_tables.specs.Folding.{each_once}
use Rattle.genlib_expr.specs.Text.{words_of, is_name, pins_in, pins_of, depth_of}
use Rattle.std.specs.List.{filter}
use Rattle.genlib_format.specs.declared.gates.GateLines.{GateLines}
use Rattle.genlib_format.specs.declared.entries.Entry.{Entry}
use Rattle.genlib_format.specs.declared.entries.Entry.TheVariants as entry
use Rattle.genlib_format.specs.declared.gate.Gate.{Gate}
use Rattle.genlib_format.specs.declared.fault.LibFault.{LibFault}
use Rattle.genlib_format.specs.declared.fault.LibFault.TheVariants.{BadExpr, BadPin, GateTwice}
use Rattle.genlib_format.specs.declared.fault.LibFault.TheVariants.{Limit}
use Rattle.genlib_format.specs.declared.fault.LimitKind.TheVariants as limit
use Rattle.sis_text.specs.declared.read_fault.ReadFault.{ReadFault}
use Rattle.sis_text.specs.declared.read_fault.ReadFault.TheVariants as read_fault
use Rattle.genlib_format.specs.Words.{words_in}
use Rattle.genlib_format.specs.Entries.{entries_of}
use Rattle.genlib_format.specs.Spelling.{nodes_in}
use Rattle.genlib_format.specs.Faults.{when, first_of, number_fault, expression_fault, long_name}
use Rattle.genlib_format.specs.Faults.{limit_fault, wrong_name, pin_fault, lines_fault}
use Rattle.genlib_format.specs.Reader.{block_for, gate_of, gate_named, is_same_cell, with_blocks}
use Rattle.genlib_format.specs.Reader.{twice_fault, settled, entry_fault, gates_with, onward}
use Rattle.genlib_format.specs.Reader.{read_entries, library_of}
use Rattle.genlib_format.specs.Answers.{Reads}
use Rattle.genlib_format.specs.Soundness.{IsName, mentions, IsSoundGate, IsOneCell, IsSoundGates}
use Rattle.genlib_format.proofs.WellNamed.{IsNamed, HasNames, IsFit, all_named, pins_fit}
use Rattle.genlib_expr.specs.declared.node.Node.{Node}
use Rattle.genlib_expr.specs.Formula.{ArePostfix}
use Rattle.genlib_format.proofs.Mentions.{pins_mentioned, nodes_ordered}
use Rattle.genlib_format.proofs.Bounds.{number_below, blocks_short}
use Rattle.genlib_format.proofs.Cells.{one_settled, cells_more, new_joins, known_joins, placed}
use Rattle.sis_base.specs.declared.limits.TheConstants.{MAX_NAME, MAX_NESTING, MAX_PINS}

none_first : {A : Type 0} (o : Option A) (os : List (Option A)) → first_of (o ∷ os) ≡ None
    → (o ≡ None) × (first_of os ≡ None)
unfolding first_of
none_first None os e = (refl, e)
none_first (Some cause) os e = absurd (let off = e in cc)

not_when : (test : Bool) (fault : LibFault) → when test fault ≡ None → test ≡ false
not_when true fault e = absurd (let off = e in cc)
not_when false fault e = refl

le_false : (m n : ℕ) → nat_lt m n ≡ false → n ≤ m
le_false m n e = grind (arith, nat_tests)

none_mapped : {A B : Type 0} (f : A → B) (o : Option A) → option_map f o ≡ None → o ≡ None
none_mapped f None e = refl
none_mapped f (Some x) e = absurd (let off = e in cc)

-- short names
IsLimited : List ℕ → Type 0
IsLimited name = length name ≤ MAX_NAME

all_limited : (names : List (List ℕ)) → find (λ name. nat_lt MAX_NAME (length name)) names ≡ None
    → AllByRecursion IsLimited names
unfolding IsLimited
all_limited [] e = tt
all_limited (name ∷ names) e = by (nat_lt MAX_NAME (length name)) refl e (λ h. all_limited names h)
  where
    by : (b : Bool) → nat_lt MAX_NAME (length name) ≡ b
        → (if b then Some name else find (λ name. nat_lt MAX_NAME (length name)) names) ≡ None
        → (find (λ name. nat_lt MAX_NAME (length name)) names ≡ None → AllByRecursion IsLimited names)
        → AllByRecursion IsLimited (name ∷ names)
    by true t h rest = absurd (let off = h in cc)
    by false t h rest = (le_false MAX_NAME (length name) t, rest h)

all_names : (names : List (List ℕ)) → AllByRecursion IsFit names → AllByRecursion IsLimited names
    → AllByRecursion IsName names
unfolding IsLimited
all_names [] fit short = tt
all_names (name ∷ names) fit short = ((fit.0, short.0), all_names names fit.1 short.1)

some_none : (b : Bool) (name : List ℕ) → (if b then Some name else None) ≡ None → b ≡ false
some_none true name e = absurd (let off = e in cc)
some_none false name e = refl

-- what the faults of an entry leave
record IsGood (lines : GateLines) : Type 0 where
  pub limited : AllByRecursion IsLimited (lines.cell ∷ lines.output ∷ pins_of lines.text)
  pub few : length (pins_of lines.text) ≤ MAX_PINS
  pub inner : has (pins_of lines.text) lines.output ≡ false
  pub spelled : is_none (nodes_in lines.text) ≡ false

good_lines : (lines : GateLines) → lines_fault lines ≡ None → IsGood lines
unfolding lines_fault expression_fault limit_fault pin_fault long_name wrong_name
good_lines lines e =
    let a = none_first (number_fault lines) _ e in
    let b = none_first (expression_fault lines) _ a.1 in
    let c = none_first (limit_fault lines) _ b.1 in
    let d = none_first (pin_fault lines) _ c.1 in
    let names = none_first (long_name (lines.cell ∷ lines.output ∷ pins_of lines.text)) _ c.0 in
    let depth =
    none_first (when (nat_lt MAX_NESTING (depth_of lines.text)) (Limit limit.Depth (depth_of lines.text)))
    _ names.1 in
    let many =
    none_first (when (nat_lt MAX_PINS (length (pins_of lines.text)))
    (Limit limit.Pins (length (pins_of lines.text))))
    _ depth.1 in
    let wrong =
    none_mapped (λ name. BadPin name)
    (wrong_name lines.output (pins_of lines.text) lines.pins) d.0 in
    let own =
    none_first
    (if has (pins_of lines.text) lines.output then Some lines.output else None) _ wrong in
    record {
      limited =
          all_limited (lines.cell ∷ lines.output ∷ pins_of lines.text) (none_mapped _ _ names.0);
      few = le_false MAX_PINS (length (pins_of lines.text)) (not_when _ _ many.0);
      inner = some_none _ lines.output own.0;
      spelled = not_when (is_none (nodes_in lines.text)) (BadExpr lines.line) b.0;
    }

pins_different : (text : List ℕ) → all_different (pins_of text) ≡ true
unfolding pins_in
pins_different text = different-each_once (filter is_name (words_of text))

ordered : (text : List ℕ) (o : Option (List Node)) → nodes_in text ≡ o → is_none o ≡ false
    → ArePostfix (unwrap_or o [])
ordered text None is some = absurd (let off = some in cc)
ordered text (Some nodes) is some = nodes_ordered text nodes is

mentioned : (text : List ℕ) (o : Option (List Node)) → nodes_in text ≡ o → is_none o ≡ false
    → each_once (mentions (pins_of text) (unwrap_or o [])) ≡ pins_of text
mentioned text None is some = absurd (let off = some in cc)
mentioned text (Some nodes) is some = pins_mentioned text nodes is

sound_gate : (lines : GateLines) → IsNamed lines → lines_fault lines ≡ None
    → IsSoundGate (gate_of lines)
unfolding gate_of IsLimited
sound_gate lines named e =
    let good = good_lines lines e in
    record {
      cell = (named.cell, good.limited.0);
      output = (named.output, good.limited.1.0);
      pins = all_names (pins_of lines.text) (pins_fit lines.text) good.limited.1.1;
      different = pins_different lines.text;
      few = good.few;
      order = ordered lines.text (nodes_in lines.text) refl good.spelled;
      mentioned = mentioned lines.text (nodes_in lines.text) refl good.spelled;
      inner = good.inner;
      delays = length-map (pins_of lines.text) (block_for lines.pins);
      area = number_below lines.area;
      short = blocks_short lines.pins (pins_of lines.text);
    }

each_at : (gates : List Gate) (i : ℕ) (gate : Gate) → AllByRecursion IsSoundGate gates
    → slice_get gates i ≡ Some gate → IsSoundGate gate
each_at [] i gate all at = absurd (let off = at in cc)
each_at (first ∷ gates) zero gate all at =
    subst IsSoundGate (let one : Some first ≡ Some gate = at in cc) all.0
each_at (first ∷ gates) (suc i) gate all at = each_at gates i gate all.1 at

each_more : (gates : List Gate) (last : Gate) → AllByRecursion IsSoundGate gates → IsSoundGate last
    → AllByRecursion IsSoundGate (gates ++ last ∷ [])
each_more [] last all sound = (sound, tt)
each_more (gate ∷ gates) last all sound = (all.0, each_more gates last all.1 sound)

-- a sound gate with the delays of a sound first one
sound_settled : (first gate : Gate) → IsSoundGate first → IsSoundGate gate
    → IsOneCell first (with_blocks gate first) → IsSoundGate (with_blocks gate first)
sound_settled first gate one sound cell = record {
  cell = sound.cell;
  output = sound.output;
  pins = sound.pins;
  different = sound.different;
  few = sound.few;
  order = sound.order;
  mentioned = sound.mentioned;
  inner = sound.inner;
  delays = one.delays ∙ ap length cell.pins;
  area = sound.area;
  short = one.short;
}

-- one gate more
sound_with : (gates : List Gate) (gate : Gate) (o : Option Gate) → gate_named gates gate.cell ≡ o
    → IsSoundGates gates → IsSoundGate gate → twice_fault o gate ≡ None
    → IsSoundGates (gates ++ settled o gate ∷ [])
sound_with gates gate None is sound alone e =
    record {
      each = each_more gates gate sound.each alone;
      cells = cells_more gates gate sound.cells (new_joins gates gate is);
    }
sound_with gates gate (Some first) is sound alone e =
    let p = placed gates gate.cell first is in
    let one : IsOneCell first (with_blocks gate first) =
    one_settled first gate (passed (is_same_cell first gate)
    (not_when (not (is_same_cell first gate)) (GateTwice gate.cell) e)) in
    record {
      each =
          each_more gates (with_blocks gate first) sound.each
          (sound_settled first gate (each_at gates p.place first sound.each p.at) alone one);
      cells =
          cells_more gates (with_blocks gate first) sound.cells
          (known_joins gates (with_blocks gate first) first sound.cells is one);
    }
  where
    passed : (b : Bool) → not b ≡ false → b ≡ true
    passed true h = refl
    passed false h = absurd (let off = h in cc)

sound_lines : (gates : List Gate) (lines : GateLines) → IsNamed lines → IsSoundGates gates
    → lines_fault lines ≡ None → twice_fault (gate_named gates lines.cell) (gate_of lines) ≡ None
    → IsSoundGates (gates ++ settled (gate_named gates lines.cell) (gate_of lines) ∷ [])
unfolding gate_of
sound_lines gates lines named sound none alone =
    sound_with gates (gate_of lines) (gate_named gates lines.cell) refl sound
    (sound_gate lines named none) alone

sound_entry : (count : ℕ) (gates : List Gate) (e : Entry) → HasNames e → IsSoundGates gates
    → entry_fault count gates e ≡ None → IsSoundGates (gates_with gates e)
unfolding entry_fault gates_with
sound_entry count gates (entry.Misshapen line) named sound none = sound
sound_entry count gates entry.Latch named sound none = sound
sound_entry count gates (entry.Gate lines) named sound none =
    let a = none_first (lines_fault lines) _ none in
    let b = none_first (twice_fault (gate_named gates lines.cell) (gate_of lines)) _ a.1 in
    sound_lines gates lines named sound a.0 b.0

pub entries_sound : (count : ℕ) (gates : List Gate) (entries : List Entry) (made : List Gate)
    → AllByRecursion HasNames entries → IsSoundGates gates → read_entries count gates entries ≡ Ok made
    → IsSoundGates made
unfolding read_entries
entries_sound count gates [] made named sound e =
    subst IsSoundGates (let one : Ok gates ≡ Ok made = e in cc) sound
entries_sound count gates (first ∷ entries) made named sound e =
    by (entry_fault count gates first) refl e
    (λ s h. entries_sound (suc count) (gates_with gates first) entries made named.1 s h)
  where
    by : (o : Option LibFault) → entry_fault count gates first ≡ o
        → onward o (read_entries (suc count) (gates_with gates first) entries) ≡ Ok made
        → (IsSoundGates (gates_with gates first)
        → read_entries (suc count) (gates_with gates first) entries ≡ Ok made → IsSoundGates made)
        → IsSoundGates made
    by None is h rest = rest (sound_entry count gates first named.0 sound is) h
    by (Some fault) is h rest = absurd (let off = h in cc)

nothing_sound : IsSoundGates []
nothing_sound =
    record { each = tt; cells = λ i j gate other at there e. absurd (let off = at in cc) }

-- what a file is read as is sound
pub library_sound : (bytes : List ℕ) (r : Result (List Gate) (ReadFault LibFault))
    → Reads r (library_of bytes)
    → IfOk r IsSoundGates
unfolding library_of
library_sound bytes (Ok gates) e =
    entries_sound 0 [] (entries_of (words_in bytes)) gates
    (all_named (words_in bytes)) nothing_sound e
library_sound bytes (Err (read_fault.Fault fault)) e = tt
library_sound bytes (Err read_fault.Memory) e = tt
