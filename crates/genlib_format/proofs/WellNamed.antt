-- The names that are read have the form of names.
use Rattle.std.proofs.Common.{◌≡◌, ℕ, zero, suc, Bool, true, false, cond, not, ◌&&◌, if◌then◌else◌, Option, Some, None, option_map, option_to_list, List, [], ◌∷◌, ◌++◌, filter, map, bytes_eq, refl, sym, ◌∙◌, ap, subst}
use Rattle.std.specs.List.{AllByRecursion, list_all, take_while}
use Rattle.std.specs.Option.{option_map_or}
use Rattle.std.proofs.lemmas.List.Sums.{take_while-cons}
use Rattle.sis_base.specs.Written.{is_empty}
use Rattle.sis_text.specs.Words.{bytes_at}
use Rattle.sis_text.specs.Words.{words_of}
use Rattle.circuit_tables.specs.Folding.{each_once}
use Rattle.genlib_expr.specs.declared.token.Token.TheVariants.{Bang, Quote, Star, Plus, Open, Close, Other}
use Rattle.genlib_expr.specs.Text.{is_mark, is_name_byte, word_at, words_from, mark_token, fixed_token, is_name, pins_in, pins_of}
use Rattle.genlib_expr.specs.Text.{is_none}
use Rattle.genlib_format.specs.declared.words.Lined.{Lined}
use Rattle.genlib_format.specs.declared.gates.GateLines.{GateLines}
use Rattle.genlib_format.specs.declared.pins.PinLine.{PinLine}
use Rattle.genlib_format.specs.declared.entries.Entry.{Entry}
use Rattle.genlib_format.specs.declared.entries.Entry.TheVariants.{Gate, Latch, Misshapen}
use Rattle.genlib_format.specs.Words.{before, behind}
use Rattle.genlib_format.specs.Statements.{Part, statement_at}
use Rattle.genlib_format.specs.Pins.{pins_at}
use Rattle.genlib_format.specs.Gates.{is_gate_name, name_in, unquoted, only_name, output_of, with_pins_at, with_statement_at, gate_at}
use Rattle.genlib_format.specs.Entries.{is_gate, is_latch, gate_entry, latch_entry, other_entry, entry_from, entry_at, entries_within, entries_of}

-- cell and output of a gate are names
pub record IsNamed (lines : GateLines) : Type 0 where
  pub cell : is_gate_name lines.cell ≡ true
  pub output : is_gate_name lines.output ≡ true

abbrev pub HasNames : Entry → Type 0
HasNames (Gate lines) = IsNamed lines
HasNames Latch = Unit {0}
HasNames (Misshapen line) = Unit {0}

none_is_some : {A : Type 0} {x : A} → None ≡ Some x → ⊥
none_is_some e = cc

same_part : {A : Type 0} {x y : A} → Some x ≡ Some y → x ≡ y
same_part e = cc

name_named : (word name : List ℕ) → name_in word ≡ Some name → is_gate_name name ≡ true
unfolding name_in
name_named word name e = by (is_gate_name word) refl e
  where
    by : (b : Bool) → is_gate_name word ≡ b → (if b then Some word else None) ≡ Some name → is_gate_name name ≡ true
    by true t h = subst (λ (n : List ℕ). is_gate_name n ≡ true) (same_part h) t
    by false t h = absurd (none_is_some h)

only_named : (words : List (List ℕ)) (name : List ℕ) → only_name words ≡ Some name → is_gate_name name ≡ true
unfolding only_name
only_named [] name e = absurd (none_is_some e)
only_named (word ∷ []) name e = name_named word name e
only_named (word ∷ next ∷ words) name e = absurd (none_is_some e)

maybe_named : (b : Bool) (words : List (List ℕ)) (name : List ℕ) → (if b then only_name words else None) ≡ Some name → is_gate_name name ≡ true
maybe_named true words name e = only_named words name e
maybe_named false words name e = absurd (none_is_some e)

output_named : (statement name : List ℕ) → output_of statement ≡ Some name → is_gate_name name ≡ true
unfolding output_of
output_named statement name e = maybe_named _ (map (bytes_at (before 61 statement)) (words_of (before 61 statement))) name e

with_pins_named : (line : ℕ) (cell area : List ℕ) (statement : Part (List ℕ)) (output : List ℕ) (part : Part GateLines) → is_gate_name cell ≡ true → is_gate_name output ≡ true
    → with_pins_at line cell area statement output ≡ Some part → IsNamed part.made
unfolding with_pins_at
with_pins_named line cell area statement output part c o e = by (pins_at statement.rest) e
  where
    by : (p : Option (Part (List PinLine)))
        → option_map (λ pins. record { made = record { line = line; cell = cell; area = area; output = output; text = behind 61 statement.made; pins = pins.made }; rest = pins.rest }) p ≡ Some part → IsNamed part.made
    by None h = absurd (none_is_some h)
    by (Some pins) h = subst (λ (q : Part GateLines). IsNamed q.made) (same_part h) (record { cell = c; output = o })

with_output_named : (line : ℕ) (cell area : List ℕ) (statement : Part (List ℕ)) (output : Option (List ℕ)) (part : Part GateLines) → is_gate_name cell ≡ true → output_of statement.made ≡ output
    → option_map_or (with_pins_at line cell area statement) output None ≡ Some part → IsNamed part.made
with_output_named line cell area statement None part c o e = absurd (none_is_some e)
with_output_named line cell area statement (Some output) part c o e = with_pins_named line cell area statement output part c (output_named statement.made output o) e

with_statement_named : (line : ℕ) (area : List ℕ) (words : List Lined) (cell : List ℕ) (part : Part GateLines) → is_gate_name cell ≡ true → with_statement_at line area words cell ≡ Some part → IsNamed part.made
unfolding with_statement_at
with_statement_named line area words cell part c e = by (statement_at words) e
  where
    by : (s : Option (Part (List ℕ))) → option_map_or (λ statement. option_map_or (with_pins_at line cell area statement) (output_of statement.made) None) s None ≡ Some part → IsNamed part.made
    by None h = absurd (none_is_some h)
    by (Some statement) h = with_output_named line cell area statement (output_of statement.made) part c refl h

gate_named : (words : List Lined) (part : Part GateLines) → gate_at words ≡ Some part → IsNamed part.made
unfolding gate_at
gate_named [] part e = absurd (none_is_some e)
gate_named (gate ∷ []) part e = absurd (none_is_some e)
gate_named (gate ∷ cell ∷ []) part e = absurd (none_is_some e)
gate_named (gate ∷ cell ∷ area ∷ words) part e = by (name_in (unquoted cell.word)) refl e
  where
    by : (n : Option (List ℕ)) → name_in (unquoted cell.word) ≡ n → option_map_or (with_statement_at gate.line area.word words) n None ≡ Some part → IsNamed part.made
    by None is h = absurd (none_is_some h)
    by (Some name) is h = with_statement_named gate.line area.word words name part (name_named (unquoted cell.word) name is) h

gate_entry_named : (line : ℕ) (o : Option (Part GateLines)) → ((part : Part GateLines) → o ≡ Some part → IsNamed part.made) → HasNames (gate_entry line o).made
gate_entry_named line None h = tt
gate_entry_named line (Some part) h = h part refl

entry_named : (first : Lined) (words : List Lined) → HasNames (entry_from first words).made
unfolding entry_from
entry_named first words = by (is_gate first) (is_latch first)
  where
    by : (g l : Bool) → HasNames (if g then gate_entry first.line (gate_at (first ∷ words)) else (if l then latch_entry words else other_entry first.line)).made
    by true l = gate_entry_named first.line (gate_at (first ∷ words)) (λ part e. gate_named (first ∷ words) part e)
    by false true = tt
    by false false = tt

entries_named : (count : ℕ) (words : List Lined) → AllByRecursion HasNames (entries_within count words)
unfolding entries_within entry_at
entries_named zero words = tt
entries_named (suc count) [] = tt
entries_named (suc count) (first ∷ words) = (entry_named first words, entries_named count (entry_from first words).rest)

pub all_named : (words : List Lined) → AllByRecursion HasNames (entries_of words)
unfolding entries_of
all_named words = entries_named _ words

-- the names of an expression

taken_front : (p : ℕ → Bool) (byte : ℕ) (rest : List ℕ) → p byte ≡ true → take_while p (byte ∷ rest) ≡ byte ∷ take_while p rest
taken_front p byte rest e = take_while-cons p byte rest ∙ ap (λ (b : Bool). cond b (byte ∷ take_while p rest) []) e

taken_none : (p : ℕ → Bool) (byte : ℕ) (rest : List ℕ) → p byte ≡ false → take_while p (byte ∷ rest) ≡ []
taken_none p byte rest e = take_while-cons p byte rest ∙ ap (λ (b : Bool). cond b (byte ∷ take_while p rest) []) e

all_front : (p : ℕ → Bool) (byte : ℕ) (rest : List ℕ) → p byte ≡ true → list_all p rest ≡ true → list_all p (byte ∷ rest) ≡ true
all_front p byte rest e all = rw e all

all_taken : (p : ℕ → Bool) (bytes : List ℕ) → list_all p (take_while p bytes) ≡ true
all_taken p [] = refl
all_taken p (byte ∷ bytes) = by (p byte) refl (all_taken p bytes)
  where
    by : (b : Bool) → p byte ≡ b → list_all p (take_while p bytes) ≡ true → list_all p (take_while p (byte ∷ bytes)) ≡ true
    by true e rest = subst (λ (xs : List ℕ). list_all p xs ≡ true) (sym (taken_front p byte bytes e)) (all_front p byte (take_while p bytes) e rest)
    by false e rest = subst (λ (xs : List ℕ). list_all p xs ≡ true) (sym (taken_none p byte bytes e)) refl

taken_names : (bytes : List ℕ) → list_all is_name_byte (take_while is_name_byte bytes) ≡ true
taken_names bytes = all_taken is_name_byte bytes

-- a word that is a name has the form of one
Fits : List ℕ → Type 0
Fits word = is_name word ≡ true → is_gate_name word ≡ true

marked : (a b c d e f m : Bool) → m ≡ true
    → is_none (if a then Some Bang else (if b then Some Quote else (if c then Some Star else (if d then Some Plus else (if e then Some Open else (if f then Some Close else (if m then Some Other else None))))))) ≡ false
marked true b c d e f m h = refl
marked false true c d e f m h = refl
marked false false true d e f m h = refl
marked false false false true e f m h = refl
marked false false false false true f m h = refl
marked false false false false false true m h = refl
marked false false false false false false m h = rw h refl

mark_fits : (byte : ℕ) → is_mark byte ≡ true → Fits (byte ∷ [])
unfolding Fits fixed_token mark_token
mark_fits byte m named = absurd (let off = sym named ∙ marked _ _ _ _ _ _ (is_mark byte) m in cc)

byte_fits : (byte : ℕ) (rest : List ℕ) → is_name_byte byte ≡ true → Fits (take_while is_name_byte (byte ∷ rest))
unfolding Fits is_gate_name
byte_fits byte rest e named =
    subst (λ (word : List ℕ). (not (is_empty word) && list_all is_name_byte word) ≡ true) (sym (taken_front is_name_byte byte rest e)) (all_front is_name_byte byte (take_while is_name_byte rest) e (taken_names rest))

word_fits : (inside : Bool) (bytes : List ℕ) → AllByRecursion Fits (option_to_list (word_at inside bytes))
unfolding word_at
word_fits inside [] = tt
word_fits inside (byte ∷ rest) = by (is_mark byte) (is_name_byte byte) inside refl refl
  where
    by : (m n i : Bool) → is_mark byte ≡ m → is_name_byte byte ≡ n
        → AllByRecursion Fits (option_to_list (if m then Some (byte ∷ []) else (if n && not i then Some (take_while is_name_byte (byte ∷ rest)) else None)))
    by true n i e d = (mark_fits byte e, tt)
    by false true true e d = tt
    by false true false e d = (byte_fits byte rest d, tt)
    by false false i e d = tt

all_both : {A : Type 0} (P : A → Type 0) (xs ys : List A) → AllByRecursion P xs → AllByRecursion P ys → AllByRecursion P (xs ++ ys)
all_both P [] ys p q = q
all_both P (x ∷ xs) ys p q = (p.0, all_both P xs ys p.1 q)

words_fit : (inside : Bool) (bytes : List ℕ) → AllByRecursion Fits (words_from inside bytes)
unfolding words_from
words_fit inside [] = tt
words_fit inside (byte ∷ rest) = all_both Fits (option_to_list (word_at inside (byte ∷ rest))) (words_from (is_name_byte byte) rest) (word_fits inside (byte ∷ rest)) (words_fit (is_name_byte byte) rest)

-- a name that has the form of one
abbrev pub IsFit : List ℕ → Type 0
IsFit name = is_gate_name name ≡ true

names_fit : (words : List (List ℕ)) → AllByRecursion Fits words → AllByRecursion IsFit (filter is_name words)
unfolding Fits
names_fit [] all = tt
names_fit (word ∷ words) all = by (is_name word) refl (names_fit words all.1)
  where
    by : (b : Bool) → is_name word ≡ b → AllByRecursion IsFit (filter is_name words) → AllByRecursion IsFit (if b then word ∷ filter is_name words else filter is_name words)
    by true e rest = (all.0 e, rest)
    by false e rest = rest

all_filter : (P : List ℕ → Type 0) (p : List ℕ → Bool) (names : List (List ℕ)) → AllByRecursion P names → AllByRecursion P (filter p names)
all_filter P p [] all = tt
all_filter P p (name ∷ names) all = by (p name) (all_filter P p names all.1)
  where
    by : (b : Bool) → AllByRecursion P (filter p names) → AllByRecursion P (if b then name ∷ filter p names else filter p names)
    by true rest = (all.0, rest)
    by false rest = rest

all_once : (P : List ℕ → Type 0) (names : List (List ℕ)) → AllByRecursion P names → AllByRecursion P (each_once names)
unfolding each_once
all_once P [] all = tt
all_once P (name ∷ names) all = (all.0, all_filter P (λ other. not (bytes_eq name other)) (each_once names) (all_once P names all.1))

pub pins_fit : (text : List ℕ) → AllByRecursion IsFit (pins_of text)
unfolding pins_in
pins_fit text = all_once IsFit (filter is_name (words_from false text)) (names_fit (words_from false text) (words_fit false text))
