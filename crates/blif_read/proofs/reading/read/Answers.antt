use Rattle.std.specs.Prelude.{option_copied}
use Rattle.sis_text.specs.Entries.{entries_of}
use Rattle.blif_lines.proofs.ProperWords.{proper_words}
use Rattle.blif_read.specs.Limits.{IsSoundSpec, IsSmallSpec, HasShortSpec}
use Rattle.blif_read.specs.Reader.{read_lines}
use Rattle.blif_read.proofs.WhatIsRead.{reads_hold, spec_sound, spec_small, spec_short}
use Rattle.blif_read.proofs.reading.read.Goals as goal

pub returns-clause-sound : goal.returns-clause-sound
returns-clause-sound c =
    reads_hold IsSoundSpec c.read_text.result (read_lines (option_copied c.args.library) (entries_of c.args.bytes.now)) c.read_text.ensures
    (λ read e. spec_sound (option_copied c.args.library) (entries_of c.args.bytes.now) read (proper_words c.args.bytes.now) e)

pub returns-clause-limits : goal.returns-clause-limits
returns-clause-limits c = λ sound.
    reads_hold IsSmallSpec c.read_text.result (read_lines (option_copied c.args.library) (entries_of c.args.bytes.now)) c.read_text.ensures
    (λ read e. spec_small (option_copied c.args.library) (entries_of c.args.bytes.now) read sound e)

pub returns-clause-short : goal.returns-clause-short
returns-clause-short c =
    reads_hold HasShortSpec c.read_text.result (read_lines (option_copied c.args.library) (entries_of c.args.bytes.now)) c.read_text.ensures
    (λ read e. spec_short (option_copied c.args.library) (entries_of c.args.bytes.now) read e)
