-- The entry of a gate. Source: the genlib format of SIS (UCB/ERL M92/41): `GATE cell area
-- output=expression;` and the lines of its pins. The cell may be in double quotes, which are
-- dropped.
use Rattle.std.specs.Prelude.{ℕ, ◌-◌, ◌==◌, ◌&&◌, not, nat_lt, Bool, if◌then◌else◌, Option, Some, None, List, [], ◌∷◌, length, take, drop, map, get_or, option_map}
use Rattle.std.specs.List.{list_all}
use Rattle.std.specs.Option.{option_map_or}
use Rattle.sis_base.specs.Written.{is_empty}
use Rattle.sis_text.specs.Words.{bytes_at}
use Rattle.sis_text.specs.Words.{words_of}
use Rattle.genlib_expr.specs.Text.{is_name_byte}
use Rattle.genlib_format.specs.declared.words.Lined.{Lined}
use Rattle.genlib_format.specs.declared.gates.GateLines.{GateLines}
use Rattle.genlib_format.specs.Words.{before, behind}
use Rattle.genlib_format.specs.Statements.{Part, statement_at}
use Rattle.genlib_format.specs.Pins.{pins_at}

-- a name: at least one byte, no blank, no line end and no mark of an expression
unfoldable pub is_gate_name : List ℕ → Bool
is_gate_name bytes = not (is_empty bytes) && list_all is_name_byte bytes

-- a word that is a name
unfoldable pub name_in : List ℕ → Option (List ℕ)
name_in word = if is_gate_name word then Some word else None

-- a word without the double quotes around it, if it has both
unfoldable pub unquoted : List ℕ → List ℕ
unquoted word =
    if nat_lt 1 (length word) && get_or word 0 0 == 34 && get_or word (length word - 1) 0 == 34
    then take (length word - 1 - 1) (drop 1 word)
    else word

-- the name that is the only word
unfoldable pub only_name : List (List ℕ) → Option (List ℕ)
only_name (word ∷ []) = name_in word
only_name words = None

-- the output of a statement: the only word before its first `=`
unfoldable pub output_of : List ℕ → Option (List ℕ)
output_of statement =
    if nat_lt (length (before 61 statement)) (length statement)
    then only_name (map (bytes_at (before 61 statement)) (words_of (before 61 statement)))
    else None

-- a gate whose cell, area, statement and output are read, with the lines of its pins
unfoldable pub with_pins_at : ℕ → List ℕ → List ℕ → Part (List ℕ) → List ℕ → Option (Part GateLines)
with_pins_at line cell area statement output =
    option_map (λ pins. record { made = record { line = line; cell = cell; area = area; output = output; text = behind 61 statement.made; pins = pins.made }; rest = pins.rest }) (pins_at statement.rest)

-- a gate whose cell and area are read
unfoldable pub with_statement_at : ℕ → List ℕ → List Lined → List ℕ → Option (Part GateLines)
with_statement_at line area words cell =
    option_map_or (λ statement. option_map_or (with_pins_at line cell area statement) (output_of statement.made) None) (statement_at words) None

-- the entry of a gate, from the word GATE on; none if it does not have the right shape
unfoldable pub gate_at : List Lined → Option (Part GateLines)
gate_at (gate ∷ cell ∷ area ∷ words) = option_map_or (with_statement_at gate.line area.word words) (name_in (unquoted cell.word)) None
gate_at words = None
