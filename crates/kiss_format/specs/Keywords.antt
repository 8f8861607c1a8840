-- What a logical line of a KISS2 table is, by its first word. Source: SIS report (UCB/ERL M92/41),
-- KISS2 tables: a line that begins with `.` is a header or the end, any other one a row.
use Rattle.std.specs.Prelude.{ℕ, Bool, true, false, not, List, ◌||◌, bytes_eq, codes, if◌then◌else◌}
use Rattle.std.specs.List.{take_while}
use Rattle.sis_text.specs.Words.{begins_with}
use Rattle.sis_text.specs.Entries.{Entry}
use Rattle.line_words.specs.LineWords.{first_word}
use Rattle.kiss_format.specs.declared.keyword.Keyword.{Keyword}
use Rattle.kiss_format.specs.declared.keyword.Keyword.TheVariants.{Inputs, Outputs, Products, States, Reset, End, Row, Other}

-- the kind of a line by its first word
unfoldable pub keyword_of : List ℕ → Keyword
keyword_of word =
    if bytes_eq word (codes ".i") then Inputs
    else (if bytes_eq word (codes ".o") then Outputs
    else (if bytes_eq word (codes ".p") then Products
    else (if bytes_eq word (codes ".s") then States
    else (if bytes_eq word (codes ".r") then Reset
    else (if bytes_eq word (codes ".e") || bytes_eq word (codes ".end") then End
    else (if begins_with 46 word then Other else Row))))))

-- the kind of a line
unfoldable pub kind_of : Entry → Keyword
kind_of line = keyword_of (first_word line.words)

-- whether a kind is that of an end
abbrev pub is_end_kind : Keyword → Bool
is_end_kind End = true
is_end_kind kind = false

-- whether a kind is that of the number of inputs
abbrev pub is_inputs_kind : Keyword → Bool
is_inputs_kind Inputs = true
is_inputs_kind kind = false

-- whether a kind is that of the number of outputs
abbrev pub is_outputs_kind : Keyword → Bool
is_outputs_kind Outputs = true
is_outputs_kind kind = false

-- the lines that are read: those before the first end
unfoldable pub before_end : List Entry → List Entry
before_end lines = take_while (λ line. not (is_end_kind (kind_of line))) lines
