-- What a file is read as, by the lines beside its KISS2 part and those of the part.
use Rattle.std.specs.Prelude.{◌≡◌, not, Option, List, take_while}
use Rattle.std.proofs.Common.{◌∙◌, ap}
use Rattle.sis_text.specs.Entries.{Entry}
use Rattle.genlib_format.specs.declared.gate.Gate.{Gate as TheGate}
use Rattle.blif_models.specs.Reader.{read_models}
use Rattle.blif_read.specs.Parts.{ends_kiss, kiss_lines, ended_lines, lines_beside}
use Rattle.blif_read.specs.Reader.{spec_with, read_lines}
use Rattle.blif_read.proofs.PartLast.{part_before_end}

pub read_beside : (library : Option (List TheGate)) (lines models part behind : List Entry) → models ≡ lines_beside lines → behind ≡ ended_lines lines
    → part ≡ take_while (λ (line : Entry). not (ends_kiss line)) behind → spec_with part (read_models library models) ≡ read_lines library lines
unfolding read_lines
read_beside library lines models part behind m b p =
    ap (λ (rows : List Entry). spec_with rows (read_models library models)) (p ∙ ap (take_while (λ (line : Entry). not (ends_kiss line))) b ∙ part_before_end lines)
    ∙ ap (λ (beside : List Entry). spec_with (kiss_lines lines) (read_models library beside)) m
