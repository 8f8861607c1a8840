-- Entries, one by one.
use Rattle.std.proofs.Common.{◌≡◌, ℕ, suc, ◌+◌, Option, Some, None, Result, Ok, Err, List, [], ◌∷◌, ◌++◌, length, sym, ◌∙◌, ap, arith}
use Rattle.genlib_format.specs.declared.entries.Entry.{Entry}
use Rattle.genlib_format.specs.declared.entries.Entry.TheVariants as the_entry
use Rattle.genlib_format.specs.declared.gates.GateLines.{GateLines}
use Rattle.genlib_format.specs.declared.gate.Gate.{Gate}
use Rattle.genlib_format.specs.declared.fault.LibFault.{LibFault}
use Rattle.sis_text.specs.declared.read_fault.ReadFault.{ReadFault}
use Rattle.sis_text.specs.declared.read_fault.ReadFault.TheVariants as read_fault
use Rattle.genlib_format.specs.Answers.{Leaves, Reads}
use Rattle.genlib_format.specs.Faults.{first_of, lines_fault}
use Rattle.genlib_format.specs.Reader.{gate_of, gate_named, twice_fault, settled, one_too_many, entry_fault, gates_with, onward, read_entries}

pub entry_taken : (count : ℕ) (gates new : List Gate) (entry : Entry) (rest : List Entry) → entry_fault count gates entry ≡ None → new ≡ gates_with gates entry
    → read_entries (count + 1) new rest ≡ read_entries count gates (entry ∷ rest)
unfolding read_entries
entry_taken count gates new entry rest none is =
    let next : count + 1 ≡ suc count = omega arith in
    ap (λ (n : ℕ). read_entries n new rest) next ∙ ap (λ (gs : List Gate). read_entries (suc count) gs rest) is
    ∙ sym (ap (λ (o : Option LibFault). onward o (read_entries (suc count) (gates_with gates entry) rest)) none)

pub entry_refused : (count : ℕ) (gates : List Gate) (entry : Entry) (rest : List Entry) (fault : LibFault) → entry_fault count gates entry ≡ Some fault → read_entries count gates (entry ∷ rest) ≡ Err fault
unfolding read_entries
entry_refused count gates entry rest fault is = ap (λ (o : Option LibFault). onward o (read_entries (suc count) (gates_with gates entry) rest)) is

pub entries_go_on : (count : ℕ) (gates new : List Gate) (entry : Entry) (rest items : List Entry) → items ≡ entry ∷ rest → (entry_fault count gates entry ≡ None) × (new ≡ gates_with gates entry)
    → read_entries (count + 1) new rest ≡ read_entries count gates items
entries_go_on count gates new entry rest items is value = entry_taken count gates new entry rest value.0 value.1 ∙ ap (read_entries count gates) (sym is)

pub entries_fail : (fault : ReadFault LibFault) (count : ℕ) (gates new : List Gate) (entry : Entry) (rest items : List Entry) (all : Result (List Gate) LibFault) → items ≡ entry ∷ rest
    → Leaves (Err fault) new (entry_fault count gates entry) (gates_with gates entry) → read_entries count gates items ≡ all → Reads (Err fault) all
entries_fail (read_fault.Fault fault) count gates new entry rest items all is value so = sym so ∙ ap (read_entries count gates) is ∙ entry_refused count gates entry rest fault value
entries_fail read_fault.Memory count gates new entry rest items all is value so = tt

pub entries_end : (count : ℕ) (gates : List Gate) (items : List Entry) (all : Result (List Gate) LibFault) → length items ≡ 0 → read_entries count gates items ≡ all → all ≡ Ok gates
unfolding read_entries
entries_end count gates [] all e so = sym so
entries_end count gates (item ∷ items) all e so = absurd (omega (arith, e))

-- what is wrong with a gate that is good by itself
gate_judged : (count : ℕ) (gates : List Gate) (lines : GateLines) (gate : Gate) → lines_fault lines ≡ None → gate ≡ gate_of lines
    → entry_fault count gates (the_entry.Gate lines) ≡ first_of (twice_fault (gate_named gates gate.cell) gate ∷ one_too_many count ∷ [])
unfolding entry_fault gate_of first_of
gate_judged count gates lines gate none is =
    ap (λ (o : Option LibFault). first_of (o ∷ twice_fault (gate_named gates lines.cell) (gate_of lines) ∷ one_too_many count ∷ [])) none
    ∙ sym (ap (λ (g : Gate). first_of (twice_fault (gate_named gates g.cell) g ∷ one_too_many count ∷ [])) is)

pub gate_wrong : (count : ℕ) (gates : List Gate) (lines : GateLines) (fault : LibFault) → lines_fault lines ≡ Some fault → entry_fault count gates (the_entry.Gate lines) ≡ Some fault
unfolding entry_fault first_of
gate_wrong count gates lines fault e = ap (λ (o : Option LibFault). first_of (o ∷ twice_fault (gate_named gates lines.cell) (gate_of lines) ∷ one_too_many count ∷ [])) e

pub gate_refused : (count : ℕ) (gates : List Gate) (lines : GateLines) (gate : Gate) (fault : LibFault) → lines_fault lines ≡ None → gate ≡ gate_of lines
    → Some fault ≡ first_of (twice_fault (gate_named gates gate.cell) gate ∷ one_too_many count ∷ []) → entry_fault count gates (the_entry.Gate lines) ≡ Some fault
gate_refused count gates lines gate fault none is e = gate_judged count gates lines gate none is ∙ sym e

pub gate_accepted : (count : ℕ) (gates : List Gate) (lines : GateLines) (gate : Gate) → lines_fault lines ≡ None → gate ≡ gate_of lines
    → None ≡ first_of (twice_fault (gate_named gates gate.cell) gate ∷ one_too_many count ∷ []) → entry_fault count gates (the_entry.Gate lines) ≡ None
gate_accepted count gates lines gate none is e = gate_judged count gates lines gate none is ∙ sym e

pub gate_put : (gates new : List Gate) (lines : GateLines) (gate : Gate) → gate ≡ gate_of lines → new ≡ gates ++ settled (gate_named gates gate.cell) gate ∷ [] → new ≡ gates_with gates (the_entry.Gate lines)
unfolding gates_with gate_of
gate_put gates new lines gate is e = e ∙ ap (λ (g : Gate). gates ++ settled (gate_named gates g.cell) g ∷ []) is
