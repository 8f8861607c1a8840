-- A pin and its signal as one word, and that such words are read as they were.
use Rattle.std.proofs.Common.{◌≡◌, ℕ, ◌+◌, ◌==◌, Bool, true, false, not, ◌||◌, cond, Some, List, [], ◌∷◌, ◌++◌, length, drop, map, find, bytes_eq, codes, refl, sym, ◌∙◌, ap}
use Rattle.std.specs.List.{AllByRecursion, list_all}
use Rattle.std.specs.Option.{option_map_or}
use Rattle.std.proofs.Math.Seq.{drop-append-add}
use Rattle.std.proofs.lemmas.Bool.{or_parts, not-true, and_from}
use Rattle.std.proofs.lemmas.List.{append_assoc}
use Rattle.std.proofs.lemmas.List.Sums.{take_while-cons}
use Rattle.sis_base.specs.Written.{is_blank, is_empty, is_word_byte, is_word}
use Rattle.circuit_model.specs.Names.{has, all_different}
use Rattle.circuit_tables.proofs.Once.{itself, bytes_eq-sym}
use Rattle.genlib_expr.specs.Text.{is_mark, is_name_byte}
use Rattle.genlib_format.specs.Words.{before, behind}
use Rattle.genlib_format.specs.Gates.{is_gate_name}
use Rattle.netlist.specs.Lines.{pair_word}
use Rattle.netlist.specs.declared.mapped.Connection.{Connection}
use Rattle.blif_gates.specs.GateLines.{pin_in, signal_in, is_pair, pins_of, signals_of, signal_for}
use Rattle.blif_lines.proofs.NameLists.{and_left, and_right}
use Rattle.blif_write.proofs.Words.{IsName}

-- a byte of a name is not `=`, and may occur in a word
second_of : (a b c d e f g h i : Bool) → (a || b || c || d || e || f || g || h || i) ≡ false
    → b ≡ false
second_of a b c d e f g h i none =
    let seven = or_parts (a || b || c || d || e || f || g || h) i none in
    let six = or_parts (a || b || c || d || e || f || g) h seven.0 in
    let five = or_parts (a || b || c || d || e || f) g six.0 in
    let four = or_parts (a || b || c || d || e) f five.0 in
    let three = or_parts (a || b || c || d) e four.0 in
    let two = or_parts (a || b || c) d three.0 in
    let one = or_parts (a || b) c two.0 in
    (or_parts a b one.0).1

last_of : (a b c d e f g h i : Bool) → (a || b || c || d || e || f || g || h || i) ≡ false
    → i ≡ false
last_of a b c d e f g h i none = (or_parts (a || b || c || d || e || f || g || h) i none).1

unmarked : (byte : ℕ) → is_name_byte byte ≡ true → is_mark byte ≡ false
unmarked byte h = (or_parts (is_blank byte || byte == 10) (is_mark byte)
    (not-true (is_blank byte || byte == 10 || is_mark byte) h)).1

no_equals : (byte : ℕ) → is_name_byte byte ≡ true → (byte == 61) ≡ false
no_equals byte h =
    last_of (byte == 33) (byte == 35) (byte == 39) (byte == 40) (byte == 41) (byte == 42)
    (byte == 43) (byte == 59) (byte == 61) (unmarked byte h)

in_word : (byte : ℕ) → is_name_byte byte ≡ true → is_word_byte byte ≡ true
in_word byte h =
    let hash : (byte == 35) ≡ false =
    second_of (byte == 33) (byte == 35) (byte == 39) (byte == 40) (byte == 41) (byte == 42)
    (byte == 43) (byte == 59) (byte == 61) (unmarked byte h) in
    let parts = or_parts (is_blank byte || byte == 10) (is_mark byte)
    (not-true (is_blank byte || byte == 10 || is_mark byte) h) in
    ap (λ (b : Bool). not (b || byte == 35)) parts.0 ∙ ap not hash

all_in_word : (name : List ℕ) → list_all is_name_byte name ≡ true
    → list_all is_word_byte name ≡ true
all_in_word [] h = refl
all_in_word (byte ∷ name) h = and_from (is_word_byte byte) (list_all is_word_byte name)
    (in_word byte (and_left _ _ h)) (all_in_word name (and_right _ _ h))

-- a name of a library is a word
pub name_is_word : (name : List ℕ) → is_gate_name name ≡ true → is_word name ≡ true
unfolding is_gate_name is_word
name_is_word name h = and_from (not (is_empty name)) (list_all is_word_byte name) (and_left _ _ h)
    (all_in_word name (and_right _ _ h))

-- names without a byte that parts them
abbrev pub IsPlain : List ℕ → Type 0
IsPlain name = list_all is_name_byte name ≡ true

pub name_is_plain : (name : List ℕ) → is_gate_name name ≡ true → IsPlain name
unfolding is_gate_name
name_is_plain name h = and_right (not (is_empty name)) (list_all is_name_byte name) h

-- a pair is a word
pair_is : (connection : Connection)
    → pair_word connection ≡ connection.pin ++ 61 ∷ connection.signal
pair_is connection = append_assoc connection.pin (codes "=") connection.signal

bytes_both : (front back : List ℕ) → list_all is_word_byte front ≡ true
    → list_all is_word_byte back ≡ true → list_all is_word_byte (front ++ 61 ∷ back) ≡ true
bytes_both [] back f b = b
bytes_both (byte ∷ front) back f b = and_from (is_word_byte byte)
    (list_all is_word_byte (front ++ 61 ∷ back)) (and_left _ _ f)
    (bytes_both front back (and_right _ _ f) b)

some_bytes : (front back : List ℕ) → not (is_empty (front ++ 61 ∷ back)) ≡ true
some_bytes [] back = refl
some_bytes (byte ∷ front) back = refl

pair_is_word : (connection : Connection) → IsPlain connection.pin → IsName connection.signal
    → IsName (pair_word connection)
unfolding is_word
pair_is_word connection plain word =
    ap is_word (pair_is connection)
    ∙ and_from (not (is_empty (connection.pin ++ 61 ∷ connection.signal)))
    (list_all is_word_byte (connection.pin ++ 61 ∷ connection.signal))
    (some_bytes connection.pin connection.signal)
    (bytes_both connection.pin connection.signal (all_in_word connection.pin plain)
    (and_right _ _ word))

pub pairs_are_words : (pins : List Connection)
    → AllByRecursion IsPlain (map (λ (c : Connection). c.pin) pins)
    → AllByRecursion IsName (map (λ (c : Connection). c.signal) pins)
    → AllByRecursion IsName (map pair_word pins)
pairs_are_words [] plain words = tt
pairs_are_words (connection ∷ pins) plain words =
    (pair_is_word connection plain.0 words.0, pairs_are_words pins plain.1 words.1)

-- a pair is parted at its first `=`
front_back : (pin signal : List ℕ) → IsPlain pin → before 61 (pin ++ 61 ∷ signal) ≡ pin
unfolding before
front_back [] signal plain = take_while-cons (λ (byte : ℕ). not (byte == 61)) 61 signal
front_back (byte ∷ pin) signal plain =
    take_while-cons (λ (byte : ℕ). not (byte == 61)) byte (pin ++ 61 ∷ signal)
    ∙ ap (λ (b : Bool). cond (not b) (byte ∷ before 61 (pin ++ 61 ∷ signal)) [])
    (no_equals byte (and_left _ _ plain))
    ∙ ap (λ more. byte ∷ more) (front_back pin signal (and_right _ _ plain))

pin_back : (connection : Connection) → IsPlain connection.pin
    → pin_in (pair_word connection) ≡ connection.pin
pin_back connection plain = ap (before 61) (pair_is connection)
    ∙ front_back connection.pin connection.signal plain

signal_back : (connection : Connection) → IsPlain connection.pin
    → signal_in (pair_word connection) ≡ connection.signal
unfolding behind
signal_back connection plain =
    ap signal_in (pair_is connection)
    ∙ ap (λ (front : List ℕ). drop (length front + 1) (connection.pin ++ 61 ∷ connection.signal))
    (front_back connection.pin connection.signal plain)
    ∙ drop-append-add connection.pin (61 ∷ connection.signal) 1

pub pins_back : (pins : List Connection)
    → AllByRecursion IsPlain (map (λ (c : Connection). c.pin) pins)
    → pins_of (map pair_word pins) ≡ map (λ (c : Connection). c.pin) pins
pins_back [] plain = refl
pins_back (connection ∷ pins) plain = rw (pin_back connection plain.0, pins_back pins plain.1) refl

pub signals_back : (pins : List Connection)
    → AllByRecursion IsPlain (map (λ (c : Connection). c.pin) pins)
    → signals_of (map pair_word pins) ≡ map (λ (c : Connection). c.signal) pins
signals_back [] plain = refl
signals_back (connection ∷ pins) plain = rw
    (signal_back connection plain.0, signals_back pins plain.1) refl

pub are_pairs : (pins : List Connection)
    → AllByRecursion IsPlain (map (λ (c : Connection). c.pin) pins)
    → AllByRecursion IsName (map (λ (c : Connection). c.signal) pins)
    → list_all is_pair (map pair_word pins) ≡ true
unfolding is_word
are_pairs [] plain words = refl
are_pairs (connection ∷ pins) plain words =
    and_from (is_pair (pair_word connection)) (list_all is_pair (map pair_word pins))
    (ap (λ (signal : List ℕ). not (is_empty signal)) (signal_back connection plain.0)
    ∙ and_left _ _ words.0) (are_pairs pins plain.1 words.1)

-- the signal of each pin, where pins are different
passed : (word name : List ℕ) (words : List (List ℕ)) → bytes_eq name (pin_in word) ≡ false
    → signal_for (word ∷ words) name ≡ signal_for words name
unfolding signal_for
passed word name words other =
    ap (λ (b : Bool). option_map_or signal_in
    (cond b (Some word) (find (λ (w : List ℕ). bytes_eq name (pin_in w)) words)) []) other

all_passed : (word : List ℕ) (words names : List (List ℕ)) → has names (pin_in word) ≡ false
    → map (signal_for (word ∷ words)) names ≡ map (signal_for words) names
all_passed word words [] h = refl
all_passed word words (name ∷ names) h =
    let parts = or_parts (bytes_eq (pin_in word) name) (has names (pin_in word)) h in
    rw (
      passed word name words
          (bytes_eq-sym name (pin_in word) ∙ parts.0),
      all_passed word words names parts.1,
    ) refl

found_here : (word name : List ℕ) (words : List (List ℕ)) → name ≡ pin_in word
    → signal_for (word ∷ words) name ≡ signal_in word
unfolding signal_for
found_here word name words e =
    ap (λ (b : Bool). option_map_or signal_in
    (cond b (Some word) (find (λ (w : List ℕ). bytes_eq name (pin_in w)) words)) [])
    (ap (bytes_eq name) (sym e) ∙ itself name)

pub signals_found : (pins : List Connection)
    → AllByRecursion IsPlain (map (λ (c : Connection). c.pin) pins)
    → all_different (map (λ (c : Connection). c.pin) pins) ≡ true
    → map (signal_for (map pair_word pins)) (map (λ (c : Connection). c.pin) pins)
    ≡ map (λ (c : Connection). c.signal) pins
unfolding all_different
signals_found [] plain different = refl
signals_found (connection ∷ pins) plain different =
    let word = pair_word connection in
    let words = map pair_word pins in
    let names = map (λ (c : Connection). c.pin) pins in
    let pin = pin_back connection plain.0 in
    let new : has names (pin_in word) ≡ false = ap (has names) pin
    ∙ not-true (has names connection.pin) (and_left _ _ different) in
    let first : signal_for (word ∷ words) connection.pin
    ≡ connection.signal = found_here word connection.pin words (sym pin)
    ∙ signal_back connection plain.0 in
    ap (λ (signal : List ℕ). signal ∷ map (signal_for (word ∷ words)) names) first
    ∙ ap (λ (more : List (List ℕ)). connection.signal ∷ more)
    (all_passed word words names new ∙ signals_found pins plain.1 (and_right _ _ different))
