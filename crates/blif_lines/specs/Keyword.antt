-- What a logical line is, by its first word. Source: BLIF appendix of the SIS report (UCB/ERL
-- M92/41): a line that begins with `.` is a declaration, any other one a row of a table.
use Rattle.std.specs.Prelude.{ℕ, Bool, true, false, List, [], ◌∷◌, bytes_eq, codes, if◌then◌else◌}
use Rattle.circuit_model.specs.Names.{has}
use Rattle.sis_text.specs.Words.{begins_with}
use Rattle.sis_text.specs.Entries.{Entry}
use Rattle.line_words.specs.LineWords.{first_word}
use Rattle.blif_lines.specs.declared.keyword.Keyword.{Keyword}
use Rattle.blif_lines.specs.declared.keyword.Keyword.TheVariants.{Model, Inputs, Outputs, Clock, Names, Latch, Gate, Subckt, StartKiss, DontCare, End, Skipped, Row, Other}

-- the words whose lines are skipped: they describe areas, delays, loads, events, the order of
-- latches and state codes, none of which is kept
unfoldable pub skipped_words : List (List ℕ)
skipped_words =
    codes ".latch_order" ∷ codes ".code" ∷ codes ".area" ∷ codes ".delay" ∷ codes ".wire_load_slope" ∷ codes ".wire"
    ∷ codes ".input_arrival" ∷ codes ".default_input_arrival" ∷ codes ".output_required" ∷ codes ".default_output_required"
    ∷ codes ".input_drive" ∷ codes ".default_input_drive" ∷ codes ".output_load" ∷ codes ".default_output_load"
    ∷ codes ".max_input_load" ∷ codes ".default_max_input_load" ∷ codes ".cycle" ∷ codes ".clock_event" ∷ []

-- the kind of a line by its first word; `.end_kiss` is not a word of a model, since the line that
-- ends a KISS2 part is not among its lines
unfoldable pub keyword_of : List ℕ → Keyword
keyword_of word =
    if bytes_eq word (codes ".model") then Model
    else (if bytes_eq word (codes ".inputs") then Inputs
    else (if bytes_eq word (codes ".outputs") then Outputs
    else (if bytes_eq word (codes ".clock") then Clock
    else (if bytes_eq word (codes ".names") then Names
    else (if bytes_eq word (codes ".latch") then Latch
    else (if bytes_eq word (codes ".gate") then Gate
    else (if bytes_eq word (codes ".subckt") then Subckt
    else (if bytes_eq word (codes ".start_kiss") then StartKiss
    else (if bytes_eq word (codes ".exdc") then DontCare
    else (if bytes_eq word (codes ".end") then End
    else (if has skipped_words word then Skipped
    else (if begins_with 46 word then Other else Row))))))))))))

-- the kind of a line
unfoldable pub kind_of : Entry → Keyword
kind_of line = keyword_of (first_word line.words)

-- whether a kind is that of rows
abbrev pub is_row_kind : Keyword → Bool
is_row_kind Row = true
is_row_kind kind = false

-- whether a line is a row
abbrev pub is_row : Entry → Bool
is_row line = is_row_kind (kind_of line)
