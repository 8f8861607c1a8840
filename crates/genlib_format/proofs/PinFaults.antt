-- The lines of pins, one by one.
use Rattle.std.proofs.Common.{◌≡◌, ℕ, ◌+◌, ◌<◌, ◌≤◌, Bool, true, false, not, ◌||◌, if◌then◌else◌, Some, None, List, length, take, drop, get_or, bytes_eq, refl, sym, ◌∙◌, ap}
use Rattle.std.proofs.lemmas.List.{drop_more, drop_all, take_more}
use Rattle.circuit_model.specs.Names.{has}
use Rattle.genlib_format.specs.declared.pins.PinLine.{PinLine}
use Rattle.genlib_format.specs.Faults.{star, has_line, wrong_line}

-- whether the name of a line after others is wrong
abbrev pub is_wrong : List PinLine → List (List ℕ) → List ℕ → Bool
is_wrong before pins name = not (bytes_eq star name || has pins name) || has_line before name

line_next : (i : ℕ) (pins : List (List ℕ)) (lines : List PinLine) (line : PinLine) → i < length lines → line ≡ get_or lines i line
    → wrong_line (take i lines) pins (drop i lines) ≡ (if is_wrong (take i lines) pins line.name then Some line.name else wrong_line (take (i + 1) lines) pins (drop (i + 1) lines))
unfolding wrong_line
line_next i pins lines line h e = rw (drop_more lines i line h, take_more lines i line h, ← e) refl

pub line_wrong : (i : ℕ) (pins : List (List ℕ)) (lines : List PinLine) (line : PinLine) → i < length lines → line ≡ get_or lines i line
    → is_wrong (take i lines) pins line.name ≡ true → wrong_line (take i lines) pins (drop i lines) ≡ Some line.name
line_wrong i pins lines line h e wrong = line_next i pins lines line h e ∙ ap (λ (b : Bool). if b then Some line.name else wrong_line (take (i + 1) lines) pins (drop (i + 1) lines)) wrong

pub line_right : (i : ℕ) (pins : List (List ℕ)) (lines : List PinLine) (line : PinLine) → i < length lines → line ≡ get_or lines i line
    → is_wrong (take i lines) pins line.name ≡ false → wrong_line (take (i + 1) lines) pins (drop (i + 1) lines) ≡ wrong_line (take i lines) pins (drop i lines)
line_right i pins lines line h e right = sym (line_next i pins lines line h e ∙ ap (λ (b : Bool). if b then Some line.name else wrong_line (take (i + 1) lines) pins (drop (i + 1) lines)) right)

pub lines_done : (i : ℕ) (before : List PinLine) (pins : List (List ℕ)) (lines : List PinLine) → length lines ≤ i → wrong_line before pins (drop i lines) ≡ None
unfolding wrong_line
lines_done i before pins lines h = rw (drop_all i lines h) refl
