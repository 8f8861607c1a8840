-- The lines of pins, one by one.
use Rattle.std.proofs.Common.{◌≡◌, ◌<◌, ◌≤◌, Bool, true, false, if◌then◌else◌, Option, Some, None}
use Rattle.std.proofs.Common.{List, [], ◌∷◌, ◌++◌, length, take, drop, get_or, option_map, refl}
use Rattle.std.proofs.Common.{sym, ◌∙◌, ap, arith}
use Rattle.std.proofs.lemmas.List.{append_assoc}
use Rattle.genlib_format.specs.declared.words.Lined.{Lined}
use Rattle.genlib_format.specs.declared.pins.PinLine.{PinLine}
use Rattle.genlib_format.specs.Statements.{Part}
use Rattle.genlib_format.specs.Pins.{is_phase, are_numbers, begins_pin, no_pins, with_pins}
use Rattle.genlib_format.specs.Pins.{with_pin, and_pins, pin_at, pins_at}

-- the pin of nine words and more, by their indices
abbrev pub pin_by : List Lined → Lined → PinLine
pin_by words o = record {
  name = (get_or words 1 o).word;
  rise = (get_or words 5 o).word;
  fall = (get_or words 7 o).word;
  is_numeric = are_numbers (take 6 (drop 3 words));
}

pin_told : (words : List Lined) (o : Lined) → 9 ≤ length words
    → pin_at words ≡ (if is_phase (get_or words 2 o).word then Some (pin_by words o) else None)
unfolding pin_at
pin_told (a ∷ b ∷ c ∷ d ∷ e ∷ f ∷ g ∷ h ∷ i ∷ words) o le = refl
pin_told [] o le = absurd (omega arith)
pin_told (a ∷ []) o le = absurd (omega arith)
pin_told (a ∷ b ∷ []) o le = absurd (omega arith)
pin_told (a ∷ b ∷ c ∷ []) o le = absurd (omega arith)
pin_told (a ∷ b ∷ c ∷ d ∷ []) o le = absurd (omega arith)
pin_told (a ∷ b ∷ c ∷ d ∷ e ∷ []) o le = absurd (omega arith)
pin_told (a ∷ b ∷ c ∷ d ∷ e ∷ f ∷ []) o le = absurd (omega arith)
pin_told (a ∷ b ∷ c ∷ d ∷ e ∷ f ∷ g ∷ []) o le = absurd (omega arith)
pin_told (a ∷ b ∷ c ∷ d ∷ e ∷ f ∷ g ∷ h ∷ []) o le = absurd (omega arith)

pin_if : (words : List Lined) (o : Lined) (b : Bool) → 9 ≤ length words
    → is_phase (get_or words 2 o).word ≡ b
    → pin_at words ≡ (if b then Some (pin_by words o) else None)
pin_if words o b le phase =
    pin_told words o le ∙ ap (λ (t : Bool). if t then Some (pin_by words o) else None) phase

pub pin_read : (words : List Lined) (o : Lined) → 9 ≤ length words
    → is_phase (get_or words 2 o).word ≡ true
    → pin_at words ≡ Some (record {
      name = (get_or words 1 o).word;
      rise = (get_or words 5 o).word;
      fall = (get_or words 7 o).word;
      is_numeric = are_numbers (take 6 (drop 3 words));
    })
pin_read words o = pin_if words o true

pub no_phase : (words : List Lined) (o : Lined) → 9 ≤ length words
    → is_phase (get_or words 2 o).word ≡ false → pin_at words ≡ None
no_phase words o = pin_if words o false

pub pin_short : (words : List Lined) → length words < 9 → pin_at words ≡ None
unfolding pin_at
pin_short (a ∷ b ∷ c ∷ d ∷ e ∷ f ∷ g ∷ h ∷ i ∷ words) lt = absurd (omega arith)
pin_short [] lt = refl
pin_short (a ∷ []) lt = refl
pin_short (a ∷ b ∷ []) lt = refl
pin_short (a ∷ b ∷ c ∷ []) lt = refl
pin_short (a ∷ b ∷ c ∷ d ∷ []) lt = refl
pin_short (a ∷ b ∷ c ∷ d ∷ e ∷ []) lt = refl
pin_short (a ∷ b ∷ c ∷ d ∷ e ∷ f ∷ []) lt = refl
pin_short (a ∷ b ∷ c ∷ d ∷ e ∷ f ∷ g ∷ []) lt = refl
pin_short (a ∷ b ∷ c ∷ d ∷ e ∷ f ∷ g ∷ h ∷ []) lt = refl

pub pins_done : (words : List Lined) → begins_pin words ≡ false
    → pins_at words ≡ Some (no_pins words)
unfolding begins_pin pins_at
pins_done (a ∷ b ∷ c ∷ d ∷ e ∷ f ∷ g ∷ h ∷ i ∷ words) other = rw other refl
pins_done [] other = refl
pins_done (a ∷ []) other = rw other refl
pins_done (a ∷ b ∷ []) other = rw other refl
pins_done (a ∷ b ∷ c ∷ []) other = rw other refl
pins_done (a ∷ b ∷ c ∷ d ∷ []) other = rw other refl
pins_done (a ∷ b ∷ c ∷ d ∷ e ∷ []) other = rw other refl
pins_done (a ∷ b ∷ c ∷ d ∷ e ∷ f ∷ []) other = rw other refl
pins_done (a ∷ b ∷ c ∷ d ∷ e ∷ f ∷ g ∷ []) other = rw other refl
pins_done (a ∷ b ∷ c ∷ d ∷ e ∷ f ∷ g ∷ h ∷ []) other = rw other refl

pub pins_cut : (words : List Lined) → begins_pin words ≡ true → pin_at words ≡ None
    → pins_at words ≡ None
unfolding begins_pin pin_at pins_at and_pins
pins_cut (a ∷ b ∷ c ∷ d ∷ e ∷ f ∷ g ∷ h ∷ i ∷ words) begun none =
    rw begun (ap (λ (o : Option PinLine). and_pins o (pins_at words)) none)
pins_cut [] begun none = absurd (let off = begun in cc)
pins_cut (a ∷ []) begun none = rw begun refl
pins_cut (a ∷ b ∷ []) begun none = rw begun refl
pins_cut (a ∷ b ∷ c ∷ []) begun none = rw begun refl
pins_cut (a ∷ b ∷ c ∷ d ∷ []) begun none = rw begun refl
pins_cut (a ∷ b ∷ c ∷ d ∷ e ∷ []) begun none = rw begun refl
pins_cut (a ∷ b ∷ c ∷ d ∷ e ∷ f ∷ []) begun none = rw begun refl
pins_cut (a ∷ b ∷ c ∷ d ∷ e ∷ f ∷ g ∷ []) begun none = rw begun refl
pins_cut (a ∷ b ∷ c ∷ d ∷ e ∷ f ∷ g ∷ h ∷ []) begun none = rw begun refl

pins_more : (words : List Lined) (pin : PinLine) → begins_pin words ≡ true → pin_at words ≡ Some pin
    → pins_at words ≡ option_map (with_pin pin) (pins_at (drop 9 words))
unfolding begins_pin pin_at pins_at and_pins
pins_more (a ∷ b ∷ c ∷ d ∷ e ∷ f ∷ g ∷ h ∷ i ∷ words) pin begun same =
    rw begun (ap (λ (o : Option PinLine). and_pins o (pins_at words)) same)
pins_more [] pin begun same = absurd (let off = same in cc)
pins_more (a ∷ []) pin begun same = absurd (let off = same in cc)
pins_more (a ∷ b ∷ []) pin begun same = absurd (let off = same in cc)
pins_more (a ∷ b ∷ c ∷ []) pin begun same = absurd (let off = same in cc)
pins_more (a ∷ b ∷ c ∷ d ∷ []) pin begun same = absurd (let off = same in cc)
pins_more (a ∷ b ∷ c ∷ d ∷ e ∷ []) pin begun same = absurd (let off = same in cc)
pins_more (a ∷ b ∷ c ∷ d ∷ e ∷ f ∷ []) pin begun same = absurd (let off = same in cc)
pins_more (a ∷ b ∷ c ∷ d ∷ e ∷ f ∷ g ∷ []) pin begun same = absurd (let off = same in cc)
pins_more (a ∷ b ∷ c ∷ d ∷ e ∷ f ∷ g ∷ h ∷ []) pin begun same = absurd (let off = same in cc)

joined_on : (so_far : List PinLine) (pin : PinLine) (o : Option (Part (List PinLine)))
    → option_map (with_pins (so_far ++ pin ∷ [])) o
    ≡ option_map (with_pins so_far) (option_map (with_pin pin) o)
joined_on so_far pin None = refl
joined_on so_far pin (Some part) =
    ap (λ (pins : List PinLine). Some (record { made = pins; rest = part.rest }))
    (append_assoc so_far (pin ∷ []) part.made)

pub pins_first : (o : Option (Part (List PinLine))) → option_map (with_pins []) o ≡ o
pins_first None = refl
pins_first (Some part) = refl

-- one pin more
pub pins_step : (so_far : List PinLine) (words : List Lined) (pin : PinLine)
    → begins_pin words ≡ true → pin_at words ≡ Some pin
    → option_map (with_pins (so_far ++ pin ∷ [])) (pins_at (drop 9 words))
    ≡ option_map (with_pins so_far) (pins_at words)
pins_step so_far words pin begun same =
    joined_on so_far pin (pins_at (drop 9 words))
    ∙ sym (ap (option_map (with_pins so_far)) (pins_more words pin begun same))
