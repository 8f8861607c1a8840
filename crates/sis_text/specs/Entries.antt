-- Logical lines and pieces of scripts with the bytes of their words instead of spans, as readers
-- and writers use them. Source: "Berkeley Logic Interchange Format (BLIF)", appendix of the SIS
-- report (UCB/ERL M92/41).
use Rattle.std.specs.Prelude.{ℕ, List, map}
use Rattle.sis_text.specs.declared.places.Line.{Line}
use Rattle.sis_text.specs.Words.{bytes_at}
use Rattle.sis_text.specs.Lines.{lines_of}
use Rattle.sis_text.specs.Pieces.{pieces_of}

-- a line with its number and its words, each by its bytes
pub record Entry : Type 0 where
  pub number : ℕ
  pub words : List (List ℕ)

-- a line of spans of a text, with the bytes of the spans
abbrev pub entry_at : List ℕ → Line → Entry
entry_at source line = record { number = line.number; words = map (bytes_at source) line.words }

-- the logical lines of a text that have words
unfoldable pub entries_of : List ℕ → List Entry
entries_of source = map (entry_at source) (lines_of source)

-- the pieces of a script that have words
unfoldable pub script_entries_of : List ℕ → List Entry
script_entries_of source = map (entry_at source) (pieces_of source)
