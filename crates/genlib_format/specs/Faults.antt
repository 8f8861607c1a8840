-- What is wrong with the entry of a gate. Source: the genlib format of SIS (UCB/ERL M92/41): area,
-- loads and delays are numbers, each pin of the expression has one PIN line, and one line with the
-- name `*` is for all pins without one of their own. The order of the causes and the limits are the
-- project's own.
use Rattle.std.specs.Prelude.{ℕ, Bool, not, ◌&&◌, ◌||◌, nat_lt, is_none, if◌then◌else◌}
use Rattle.std.specs.Prelude.{Option, Some, None, List, [], ◌∷◌, ◌++◌, length, find, option_map}
use Rattle.std.specs.Prelude.{bytes_eq, codes}
use Rattle.std.specs.List.{list_all, list_any}
use Rattle.circuit_model.specs.Names.{has}
use Rattle.genlib_expr.specs.Text.{pins_of, depth_of}
use Rattle.genlib_format.specs.declared.gates.GateLines.{GateLines}
use Rattle.genlib_format.specs.declared.pins.PinLine.{PinLine}
use Rattle.genlib_format.specs.Pins.{is_number}
use Rattle.genlib_format.specs.Spelling.{nodes_in}
use Rattle.genlib_format.specs.declared.fault.LimitKind.TheVariants as limit
use Rattle.genlib_format.specs.declared.fault.LibFault.{LibFault}
use Rattle.genlib_format.specs.declared.fault.LibFault.TheVariants.{BadNumber, BadExpr, BadPin}
use Rattle.genlib_format.specs.declared.fault.LibFault.TheVariants.{Limit}
use Rattle.sis_base.specs.declared.limits.TheConstants.{MAX_NAME, MAX_NESTING, MAX_PINS}

-- a fault if a test holds
abbrev pub when : Bool → LibFault → Option LibFault
when test fault = if test then Some fault else None

-- the first cause that holds
unfoldable pub first_of : {A : Type 0} → List (Option A) → Option A
first_of [] = None
first_of (None ∷ causes) = first_of causes
first_of (Some cause ∷ causes) = Some cause

-- a number is missing: the area, or one of the six of a pin
unfoldable pub number_fault : GateLines → Option LibFault
number_fault lines =
    let good = is_number lines.area && list_all (λ (pin : PinLine). pin.is_numeric) lines.pins in
    when (not good) (BadNumber lines.line)

-- the text spells no expression
unfoldable pub expression_fault : GateLines → Option LibFault
expression_fault lines = when (is_none (nodes_in lines.text)) (BadExpr lines.line)

-- the first name of more than `MAX_NAME` bytes, by its length
unfoldable pub long_name : List (List ℕ) → Option LibFault
long_name names =
    option_map (λ (name : List ℕ). Limit limit.Name (length name))
    (find (λ name. nat_lt MAX_NAME (length name)) names)

-- a name of more than `MAX_NAME` bytes, more than `MAX_NESTING` nested parentheses, more than
-- `MAX_PINS` pins
unfoldable pub limit_fault : GateLines → Option LibFault
limit_fault lines = first_of
    (long_name (lines.cell ∷ lines.output ∷ pins_of lines.text)
    ∷ when (nat_lt MAX_NESTING (depth_of lines.text)) (Limit limit.Depth (depth_of lines.text))
    ∷ when (nat_lt MAX_PINS (length (pins_of lines.text)))
    (Limit limit.Pins (length (pins_of lines.text)))
    ∷ [])

-- the name of the line for all pins without a line of their own
abbrev pub star : List ℕ
star = codes "*"

-- whether a line has a name
abbrev pub is_named : List ℕ → PinLine → Bool
is_named name line = bytes_eq name line.name

-- whether a name has a line
abbrev pub has_line : List PinLine → List ℕ → Bool
has_line lines name = list_any (is_named name) lines

-- the first name of a line that is neither `*` nor a pin, or that an earlier line has
unfoldable pub wrong_line : List PinLine → List (List ℕ) → List PinLine → Option (List ℕ)
wrong_line before pins [] = None
wrong_line before pins (line ∷ lines) =
    if not (bytes_eq star line.name || has pins line.name) || has_line before line.name
    then Some line.name
    else wrong_line (before ++ line ∷ []) pins lines

-- the first pin without a line, if no line is for all others
unfoldable pub bare_pin : List PinLine → List (List ℕ) → Option (List ℕ)
bare_pin lines pins =
    if has_line lines star then None else find (λ pin. not (has_line lines pin)) pins

-- the first name that is wrong: the output as a pin, a line's name, a pin without a line
unfoldable pub wrong_name : List ℕ → List (List ℕ) → List PinLine → Option (List ℕ)
wrong_name output pins lines = first_of
    ((if has pins output then Some output else None)
    ∷ wrong_line [] pins lines
    ∷ bare_pin lines pins
    ∷ [])

unfoldable pub pin_fault : GateLines → Option LibFault
pin_fault lines =
    option_map (λ name. BadPin name) (wrong_name lines.output (pins_of lines.text) lines.pins)

-- what is wrong with the entry of a gate, whatever precedes it
unfoldable pub lines_fault : GateLines → Option LibFault
lines_fault lines = first_of
    (number_fault lines ∷ expression_fault lines ∷ limit_fault lines ∷ pin_fault lines ∷ [])
