-- Each entry takes a word at least, so as many entries as there are words take them all.
use Rattle.std.proofs.Common.{◌≡◌, ℕ, zero, suc, ◌+◌, ◌-◌, ◌≤◌, Bool, true, false, not, ◌||◌}
use Rattle.std.proofs.Common.{if◌then◌else◌, Option, Some, None, option_map, List, [], ◌∷◌, length}
use Rattle.std.proofs.Common.{drop, refl, ap, subst, arith}
use Rattle.std.specs.List.{take_while}
use Rattle.std.specs.Option.{option_map_or}
use Rattle.std.proofs.lemmas.List.{length-drop}
use Rattle.sis_base.specs.Written.{is_empty}
use Rattle.genlib_format.specs.declared.words.Lined.{Lined}
use Rattle.genlib_format.specs.declared.gates.GateLines.{GateLines}
use Rattle.genlib_format.specs.declared.pins.PinLine.{PinLine}
use Rattle.genlib_format.specs.Words.{behind}
use Rattle.genlib_format.specs.Statements.{Part, whole_words, text_of, left_behind, ended}
use Rattle.genlib_format.specs.Statements.{statement_at}
use Rattle.genlib_format.specs.Pins.{begins_pin, no_pins, with_pin, and_pins, pin_at, pins_at}
use Rattle.genlib_format.specs.Gates.{name_in, unquoted, output_of, with_pins_at, with_statement_at}
use Rattle.genlib_format.specs.Gates.{gate_at}
use Rattle.genlib_format.specs.Entries.{is_gate, is_latch, from_entry, gate_entry, latch_entry}
use Rattle.genlib_format.specs.Entries.{other_entry, entry_from, entry_at}
use Rattle.genlib_format.specs.Taken.{words_left}

none_some : {A : Type 0} {x : A} → None ≡ Some x → ⊥
none_some e = cc

same_part : {A : Type 0} {x y : A} → Some x ≡ Some y → x ≡ y
same_part e = cc

drop_shorter : {A : Type 0} (n : ℕ) (xs : List A) → length (drop n xs) ≤ length xs
drop_shorter n xs =
    let e : length (drop n xs) ≡ length xs - n = length-drop n xs in omega (arith, e)

-- at most so many words are left
abbrev Within : {A : Type 0} → ℕ → Part A → Type 0
Within n part = length part.rest ≤ n

left_shorter : (lined : Lined) (words : List Lined)
    → length (left_behind lined words) ≤ 1 + length words
unfolding left_behind
left_shorter lined words =
    by (is_empty (behind 59 lined.word)) (record { line = lined.line; word = behind 59 lined.word })
  where
    by : (b : Bool) (first : Lined) → length (if b then words else first ∷ words) ≤ 1 + length words
    by true first = omega arith
    by false first = omega arith

ended_shorter : (front : List ℕ) (words : List Lined) (part : Part (List ℕ))
    → ended front words ≡ Some part → Within (length words) part
unfolding ended
ended_shorter front [] part e = absurd (none_some e)
ended_shorter front (lined ∷ words) part e =
    let less = left_shorter lined words in
    subst (λ (p : Part (List ℕ)). length p.rest ≤ length (lined ∷ words)) (same_part e)
    (omega (arith, less))

statement_shorter : (words : List Lined) (part : Part (List ℕ)) → statement_at words ≡ Some part
    → Within (length words) part
unfolding statement_at
statement_shorter words part e =
    let less =
    ended_shorter (text_of (whole_words words))
    (drop (length (whole_words words)) words) part e in
    let fewer = drop_shorter (length (whole_words words)) words in
    omega (arith, less, fewer)

rest_is : (b : Bool) (words : List Lined) (part : Part (List PinLine))
    → (if b then None else Some (no_pins words)) ≡ Some part → Within (length words) part
rest_is true words part e = absurd (none_some e)
rest_is false words part e =
    subst (λ (p : Part (List PinLine)). length p.rest ≤ length words) (same_part e) (omega arith)

pin_shorter : (n : ℕ) (pin : PinLine) (o : Option (Part (List PinLine)))
    (part : Part (List PinLine))
    → ((p : Part (List PinLine)) → o ≡ Some p → Within n p)
    → option_map (with_pin pin) o ≡ Some part → Within n part
pin_shorter n pin None part all e = absurd (none_some e)
pin_shorter n pin (Some p) part all e =
    subst (λ (q : Part (List PinLine)). length q.rest ≤ n) (same_part e) (all p refl)

pins_shorter : (words : List Lined) (part : Part (List PinLine)) → pins_at words ≡ Some part
    → Within (length words) part
unfolding and_pins pins_at
pins_shorter (a ∷ b ∷ c ∷ d ∷ e ∷ f ∷ g ∷ h ∷ i ∷ words) part is =
    let line = a ∷ b ∷ c ∷ d ∷ e ∷ f ∷ g ∷ h ∷ i ∷ [] in
    by (begins_pin line) (pin_at line) is (λ p k. pins_shorter words p k)
  where
    by : (t : Bool) (o : Option PinLine)
        → (if t then and_pins o (pins_at words)
        else Some (no_pins (a ∷ b ∷ c ∷ d ∷ e ∷ f ∷ g ∷ h ∷ i ∷ words))) ≡ Some part
        → ((p : Part (List PinLine)) → pins_at words ≡ Some p → Within (length words) p)
        → Within (length (a ∷ b ∷ c ∷ d ∷ e ∷ f ∷ g ∷ h ∷ i ∷ words)) part
    by true None k rest = absurd (none_some k)
    by true (Some pin) k rest =
        let less = pin_shorter (length words) pin (pins_at words) part rest k in
        omega (arith, less)
    by false o k rest = rest_is false (a ∷ b ∷ c ∷ d ∷ e ∷ f ∷ g ∷ h ∷ i ∷ words) part k
pins_shorter [] part is = rest_is (begins_pin []) [] part is
pins_shorter (a ∷ []) part is = rest_is (begins_pin (a ∷ [])) (a ∷ []) part is
pins_shorter (a ∷ b ∷ []) part is = rest_is (begins_pin (a ∷ b ∷ [])) (a ∷ b ∷ []) part is
pins_shorter (a ∷ b ∷ c ∷ []) part is =
    rest_is (begins_pin (a ∷ b ∷ c ∷ [])) (a ∷ b ∷ c ∷ []) part is
pins_shorter (a ∷ b ∷ c ∷ d ∷ []) part is =
    rest_is (begins_pin (a ∷ b ∷ c ∷ d ∷ [])) (a ∷ b ∷ c ∷ d ∷ []) part is
pins_shorter (a ∷ b ∷ c ∷ d ∷ e ∷ []) part is =
    rest_is (begins_pin (a ∷ b ∷ c ∷ d ∷ e ∷ [])) (a ∷ b ∷ c ∷ d ∷ e ∷ []) part is
pins_shorter (a ∷ b ∷ c ∷ d ∷ e ∷ f ∷ []) part is =
    rest_is (begins_pin (a ∷ b ∷ c ∷ d ∷ e ∷ f ∷ [])) (a ∷ b ∷ c ∷ d ∷ e ∷ f ∷ []) part is
pins_shorter (a ∷ b ∷ c ∷ d ∷ e ∷ f ∷ g ∷ []) part is =
    rest_is (begins_pin (a ∷ b ∷ c ∷ d ∷ e ∷ f ∷ g ∷ [])) (a ∷ b ∷ c ∷ d ∷ e ∷ f ∷ g ∷ []) part is
pins_shorter (a ∷ b ∷ c ∷ d ∷ e ∷ f ∷ g ∷ h ∷ []) part is =
    rest_is (begins_pin (a ∷ b ∷ c ∷ d ∷ e ∷ f ∷ g ∷ h ∷ []))
    (a ∷ b ∷ c ∷ d ∷ e ∷ f ∷ g ∷ h ∷ []) part is

with_pins_shorter : (line : ℕ) (cell area : List ℕ) (statement : Part (List ℕ)) (output : List ℕ)
    (part : Part GateLines)
    → with_pins_at line cell area statement output ≡ Some part → Within (length statement.rest) part
unfolding with_pins_at
with_pins_shorter line cell area statement output part e = by (pins_at statement.rest) refl e
  where
    by : (p : Option (Part (List PinLine))) → pins_at statement.rest ≡ p
        → option_map (λ pins. record {
          made = record {
            line = line;
            cell = cell;
            area = area;
            output = output;
            text = behind 61 statement.made;
            pins = pins.made;
          };
          rest = pins.rest;
        }) p
        ≡ Some part
        → Within (length statement.rest) part
    by None is h = absurd (none_some h)
    by (Some pins) is h =
        subst (λ (q : Part GateLines). length q.rest ≤ length statement.rest) (same_part h)
        (pins_shorter statement.rest pins is)

with_output_shorter : (line : ℕ) (cell area : List ℕ) (statement : Part (List ℕ))
    (output : Option (List ℕ)) (part : Part GateLines)
    → option_map_or (with_pins_at line cell area statement) output None ≡ Some part
    → Within (length statement.rest) part
with_output_shorter line cell area statement None part e = absurd (none_some e)
with_output_shorter line cell area statement (Some output) part e =
    with_pins_shorter line cell area statement output part e

with_statement_shorter : (line : ℕ) (area : List ℕ) (words : List Lined) (cell : List ℕ)
    (part : Part GateLines)
    → with_statement_at line area words cell ≡ Some part → Within (length words) part
unfolding with_statement_at
with_statement_shorter line area words cell part e = by (statement_at words) refl e
  where
    by : (s : Option (Part (List ℕ))) → statement_at words ≡ s
        → option_map_or (λ statement. option_map_or (with_pins_at line cell area statement)
        (output_of statement.made) None) s None ≡ Some part
        → Within (length words) part
    by None is h = absurd (none_some h)
    by (Some statement) is h =
        let less = with_output_shorter line cell area statement (output_of statement.made) part h in
        let fewer = statement_shorter words statement is in
        omega (arith, less, fewer)

gate_shorter : (first : Lined) (words : List Lined) (part : Part GateLines)
    → gate_at (first ∷ words) ≡ Some part → Within (length words) part
unfolding gate_at
gate_shorter gate [] part e = absurd (none_some e)
gate_shorter gate (cell ∷ []) part e = absurd (none_some e)
gate_shorter gate (cell ∷ area ∷ words) part e = by (name_in (unquoted cell.word)) e
  where
    by : (n : Option (List ℕ))
        → option_map_or (with_statement_at gate.line area.word words) n None ≡ Some part
        → Within (length (cell ∷ area ∷ words)) part
    by None h = absurd (none_some h)
    by (Some name) h =
        let less = with_statement_shorter gate.line area.word words name part h in
        omega (arith, less)

gate_entry_shorter : (n line : ℕ) (o : Option (Part GateLines))
    → ((part : Part GateLines) → o ≡ Some part → Within n part) → Within n (gate_entry line o)
gate_entry_shorter n line None h = omega arith
gate_entry_shorter n line (Some part) h = h part refl

latch_shorter : (words : List Lined) → length (from_entry words) ≤ length words
unfolding from_entry
latch_shorter words =
    drop_shorter (length (take_while (λ word. not (is_gate word || is_latch word)) words)) words

entry_shorter : (first : Lined) (words : List Lined)
    → Within (length words) (entry_from first words)
unfolding entry_from
entry_shorter first words = by (is_gate first) (is_latch first)
  where
    by : (g l : Bool)
        → Within (length words) (if g then gate_entry first.line (gate_at (first ∷ words))
        else (if l then latch_entry words else other_entry first.line))
    by true l =
        gate_entry_shorter (length words) first.line (gate_at (first ∷ words))
        (λ part e. gate_shorter first words part e)
    by false true = latch_shorter words
    by false false = omega arith

pub none_left : (count : ℕ) (words : List Lined) → length words ≤ count
    → words_left count words ≡ []
unfolding words_left entry_at
none_left zero [] h = refl
none_left zero (first ∷ words) h = absurd (omega (arith, h))
none_left (suc count) [] h = refl
none_left (suc count) (first ∷ words) h =
    let less = entry_shorter first words in
    none_left count (entry_from first words).rest (omega (arith, h, less))

pub all_taken : (words : List Lined) → words_left (length words) words ≡ []
all_taken words = none_left (length words) words (omega arith)
