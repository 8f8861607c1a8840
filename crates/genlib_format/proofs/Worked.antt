-- Worked lines of pins: the phase is one of three, and each of the six words after it is a number.
use Rattle.std.proofs.Common.{◌≡◌, ℕ, Result, Ok, Err, List, [], ◌∷◌, ◌++◌, refl}
use Rattle.std.specs.Prelude.{codes}
use Rattle.sis_text.specs.Decimals.{number_of, whole_part, fraction_part, are_parts, decimal_of}
use Rattle.sis_text.specs.Words.{word_len}
use Rattle.sis_text.specs.Words.{words_from as spans_from}
use Rattle.genlib_format.specs.declared.gate.Gate.{Gate}
use Rattle.genlib_format.specs.declared.fault.LibFault.{LibFault}
use Rattle.genlib_format.specs.declared.fault.LibFault.TheVariants.{BadEntry, BadNumber}
use Rattle.genlib_format.specs.Words.{before, behind, lined, line_words, words_from, words_in}
use Rattle.genlib_format.specs.Statements.{has_end, text_of, left_behind, ended, statement_at}
use Rattle.genlib_format.specs.Pins.{is_phase, begins_pin, and_pins, pin_at, pins_at}
use Rattle.genlib_format.specs.Gates.{is_gate_name, name_in, unquoted, only_name, output_of}
use Rattle.genlib_format.specs.Gates.{with_pins_at, with_statement_at, gate_at}
use Rattle.genlib_format.specs.Entries.{entry_from, entry_at, entries_within, entries_of}
use Rattle.genlib_format.specs.Faults.{first_of, number_fault, lines_fault}
use Rattle.genlib_format.specs.Reader.{entry_fault, read_entries, library_of}

-- the words of the file `GATE g 1 O=a; PIN a ..`, and what it is read as
of_pin : List ℕ → Result (List Gate) LibFault
of_pin rest = library_of (codes "GATE g 1 O=a;" ++ 10 ∷ codes "PIN a " ++ rest)

-- no phase, also where a number is wrong, and a word too few
no_phase :
    (of_pin (codes "INVERT 1 999 1 0 1 0") ≡ Err (BadEntry 1))
    × (of_pin (codes "inv 1 999 1 0 1 0") ≡ Err (BadEntry 1))
    × (of_pin (codes "INVERT x 999 1 0 1 0") ≡ Err (BadEntry 1))
    × (of_pin (codes "INV 1 999 1 0 1") ≡ Err (BadEntry 1))
unfolding of_pin words_in words_from line_words lined before behind spans_from word_len entries_of
    entries_within entry_at entry_from gate_at with_statement_at with_pins_at statement_at ended
    text_of left_behind has_end output_of only_name name_in is_gate_name unquoted pins_at pin_at
    and_pins is_phase begins_pin decimal_of are_parts whole_part fraction_part number_of
    library_of read_entries entry_fault lines_fault number_fault first_of
no_phase = (refl, refl, refl, refl)

-- the load, the greatest load, the delays and the fanouts
no_number :
    (of_pin (codes "INV x 999 1 0 1 0") ≡ Err (BadNumber 1))
    × (of_pin (codes "NONINV 1 -1 1 0 1 0") ≡ Err (BadNumber 1))
    × (of_pin (codes "UNKNOWN 1 999 1e3 0 1 0") ≡ Err (BadNumber 1))
    × (of_pin (codes "INV 1 999 1 .0000001 1 0") ≡ Err (BadNumber 1))
    × (of_pin (codes "NONINV 1 999 1 0 1234567890 0") ≡ Err (BadNumber 1))
    × (of_pin (codes "UNKNOWN 1 999 1 0 1 .") ≡ Err (BadNumber 1))
unfolding of_pin words_in words_from line_words lined before behind spans_from word_len entries_of
    entries_within entry_at entry_from gate_at with_statement_at with_pins_at statement_at ended
    text_of left_behind has_end output_of only_name name_in is_gate_name unquoted pins_at pin_at
    and_pins is_phase begins_pin decimal_of are_parts whole_part fraction_part number_of
    library_of read_entries entry_fault lines_fault number_fault first_of
no_number = (refl, refl, refl, refl, refl, refl)
