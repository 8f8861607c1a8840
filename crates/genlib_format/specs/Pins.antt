-- The lines of a gate's pins.
-- Source: the genlib format of SIS (UCB/ERL M92/41): `PIN name phase load maxload rise-block
-- rise-fanout fall-block fall-fanout`, any number, where the phase is `INV`, `NONINV` or `UNKNOWN`.
use Rattle.std.specs.Prelude.{ℕ, ◌||◌, Bool, false, is_some, if◌then◌else◌, Option, Some, None}
use Rattle.std.specs.Prelude.{List, [], ◌∷◌, ◌++◌, option_map, bytes_eq, codes}
use Rattle.std.specs.List.{list_all}
use Rattle.sis_text.specs.Decimals.{decimal_of}
use Rattle.genlib_format.specs.declared.words.Lined.{Lined}
use Rattle.genlib_format.specs.declared.pins.PinLine.{PinLine}
use Rattle.genlib_format.specs.Statements.{Part}

-- whether a word is a phase
unfoldable pub is_phase : List ℕ → Bool
is_phase word =
    bytes_eq word (codes "INV") || bytes_eq word (codes "NONINV") || bytes_eq word (codes "UNKNOWN")

-- whether a word is a number
abbrev pub is_number : List ℕ → Bool
is_number word = is_some (decimal_of word)

-- whether all words are numbers
abbrev pub are_numbers : List Lined → Bool
are_numbers words = list_all (λ lined. is_number lined.word) words

-- whether the next word is PIN
unfoldable pub begins_pin : List Lined → Bool
begins_pin [] = false
begins_pin (lined ∷ words) = bytes_eq lined.word (codes "PIN")

-- no pins, nothing read
abbrev pub no_pins : List Lined → Part (List PinLine)
no_pins words = record { made = []; rest = words }

-- pins appended to others
abbrev pub with_pins : List PinLine → Part (List PinLine) → Part (List PinLine)
with_pins pins part = record { made = pins ++ part.made; rest = part.rest }

-- pins with one more in front
abbrev pub with_pin : PinLine → Part (List PinLine) → Part (List PinLine)
with_pin pin part = record { made = pin ∷ part.made; rest = part.rest }

-- a pin and those after it; none if either is none
unfoldable pub and_pins : Option PinLine → Option (Part (List PinLine))
    → Option (Part (List PinLine))
and_pins None part = None
and_pins (Some pin) part = option_map (with_pin pin) part

-- the pin of a line: the word PIN, a name, a phase and six numbers, which `number_fault` judges;
-- none if words are missing or the phase is not one
unfoldable pub pin_at : List Lined → Option PinLine
pin_at (pin ∷ name ∷ phase ∷ load ∷ max ∷ rise ∷ rise_fanout ∷ fall ∷ fall_fanout ∷ words) =
    let numbers = load ∷ max ∷ rise ∷ rise_fanout ∷ fall ∷ fall_fanout ∷ [] in
    if is_phase phase.word
    then Some (record {
      name = name.word;
      rise = rise.word;
      fall = fall.word;
      is_numeric = are_numbers numbers;
    })
    else None
pin_at words = None

-- the lines of pins at the front, as long as PIN begins one; none if one is not a pin's
unfoldable pub pins_at : List Lined → Option (Part (List PinLine))
pins_at (pin ∷ name ∷ phase ∷ load ∷ max ∷ rise ∷ rise_fanout ∷ fall ∷ fall_fanout ∷ words) =
    let line = pin ∷ name ∷ phase ∷ load ∷ max ∷ rise ∷ rise_fanout ∷ fall ∷ fall_fanout ∷ [] in
    if begins_pin line
    then and_pins (pin_at line) (pins_at words)
    else Some (no_pins (line ++ words))
pins_at words = if begins_pin words then None else Some (no_pins words)
