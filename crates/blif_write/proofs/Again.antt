-- The text of a circuit that was read is read as the same circuit.
use Rattle.std.proofs.Common.{◌≡◌, ℕ, Option, Ok, List}
use Rattle.sis_text.specs.Entries.{entries_of}
use Rattle.circuit_model.specs.declared.circuit.Circuit.{Circuit}
use Rattle.circuit_model.specs.Text.{text_of}
use Rattle.circuit_model.specs.declared.machine.Spec.TheVariants as spec
use Rattle.genlib_format.specs.declared.gate.Gate.{Gate}
use Rattle.blif_lines.specs.Libraries.{IsSoundLibrary}
use Rattle.blif_lines.proofs.ProperWords.{proper_words}
use Rattle.blif_read.specs.Reader.{read_lines}
use Rattle.blif_read.proofs.WhatIsRead.{spec_sound, spec_small, spec_short}
use Rattle.blif_write.proofs.ReadAgain.{text_read}

pub read_again : (library other : Option (List Gate)) (source : List ℕ) (circuit : Circuit) → IsSoundLibrary library → read_lines library (entries_of source) ≡ Ok (spec.Circuit circuit)
    → read_lines other (entries_of (text_of circuit)) ≡ Ok (spec.Circuit circuit)
read_again library other source circuit known h =
    let lines = entries_of source in
    text_read other circuit (spec_sound library lines (spec.Circuit circuit) (proper_words source) h) (spec_small library lines (spec.Circuit circuit) known h) (spec_short library lines (spec.Circuit circuit) h)
