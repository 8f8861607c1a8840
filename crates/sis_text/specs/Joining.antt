-- The state of the walk that joins lines: an open line, if there is one, which takes the words of
-- the next. Only clauses of private functions cite this module. Source: "Berkeley Logic Interchange
-- Format (BLIF)", appendix of the SIS report (UCB/ERL M92/41).
use Rattle.std.specs.Prelude.{ℕ, Option, Some, None, List, []}
use Rattle.sis_text.specs.declared.places.Line.{Line}
use Rattle.sis_text.specs.Lines.{prepend}

-- the open line, or one without words and with this number
unfoldable pub current_line : Option Line → ℕ → Line
current_line None number = record { number = number; words = [] }
current_line (Some begun) number = begun

-- the lines, the first of which is joined to the open line
unfoldable pub resume : Option Line → List Line → List Line
resume None lines = lines
resume (Some begun) lines = prepend begun.number begun.words lines
