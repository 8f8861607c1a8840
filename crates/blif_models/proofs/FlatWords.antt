-- The lines of the flat model have words if those of the file do: the names of the signals of
-- instances are words.
use Rattle.std.specs.Prelude.{◌≡◌, ℕ, zero, suc, ◌+◌, ◌/◌, ◌%◌, ◌<◌, ◌==◌, nat_lt, Bool, true, false, not, ◌||◌, Option, Some, None, option_map, List, [], ◌∷◌, ◌++◌, map, take, find, flat_map, length, unwrap_or, bytes_eq, codes, decimal, if◌then◌else◌}
use Rattle.std.specs.Fmt.{digits, digits_onto}
use Rattle.std.specs.List.{AllByRecursion, filter, list_all, prefix_len}
use Rattle.std.proofs.Common.{refl, sym, ◌∙◌, subst, arith}
use Rattle.std.proofs.lemmas.Bool.{and_from, lt-ltb}
use Rattle.std.proofs.lemmas.Bool.Decides.{nat_tests}
use Rattle.std.proofs.lemmas.List.Folds.{list_all-append}
use Rattle.sis_base.specs.Written.{is_word_byte, is_empty, is_word}
use Rattle.sis_text.specs.Entries.{Entry}
use Rattle.circuit_model.specs.Names.{has}
use Rattle.line_words.specs.LineWords.{first_word, other_words}
use Rattle.genlib_format.specs.Words.{before, behind}
use Rattle.genlib_format.specs.declared.gate.Gate.{Gate as TheGate}
use Rattle.blif_gates.specs.GateLines.{is_pair, pin_in, signal_in}
use Rattle.blif_gates.proofs.Told.{signal_word, all_dropped as bytes_dropped}
use Rattle.blif_lines.specs.declared.keyword.Keyword.{Keyword}
use Rattle.blif_lines.specs.declared.keyword.Keyword.TheVariants.{Model, Inputs, Outputs, Clock, Names, Latch, Gate, Subckt, StartKiss, DontCare, End, Skipped, Row, Other}
use Rattle.blif_lines.specs.Keyword.{keyword_of, skipped_words, kind_of}
use Rattle.blif_lines.specs.Lines.{begins_part}
use Rattle.blif_lines.specs.Reader.{model_lines, model_name}
use Rattle.blif_lines.proofs.NameLists.{and_left, and_right, all_append, all_map, all_taken, others_have}
use Rattle.blif_lines.proofs.Named.{IsWord}
use Rattle.blif_lines.proofs.WhatIsRead.{AreWordLines}
use Rattle.blif_models.specs.Models.{is_instance, model_of, body_of, size_of}
use Rattle.blif_models.specs.Flat.{Instance, path_word, outside, control_outside, latch_outside, pair_outside, gate_outside, with_words, line_outside, lines_outside, numbered, instance_of, from_instances, flat_lines}
use Rattle.blif_models.specs.Renaming.{actual_of}
use Rattle.blif_models.proofs.Outside.{outside_formal, outside_other}

-- words by their bytes

abbrev IsText : List ℕ → Type 0
IsText bytes = list_all is_word_byte bytes ≡ true

text_of_word : (word : List ℕ) → IsWord word → IsText word
unfolding is_word
text_of_word word w = and_right (not (is_empty word)) (list_all is_word_byte word) w

texts_joined : (xs ys : List ℕ) → IsText xs → IsText ys → IsText (xs ++ ys)
texts_joined xs ys x y = list_all-append is_word_byte xs ys ∙ and_from (list_all is_word_byte xs) (list_all is_word_byte ys) x y

text_taken : (count : ℕ) (bytes : List ℕ) → IsText bytes → IsText (take count bytes)
text_taken zero bytes t = refl
text_taken (suc count) [] t = refl
text_taken (suc count) (byte ∷ bytes) t =
    and_from (is_word_byte byte) (list_all is_word_byte (take count bytes)) (and_left (is_word_byte byte) (list_all is_word_byte bytes) t)
    (text_taken count bytes (and_right (is_word_byte byte) (list_all is_word_byte bytes) t))

-- a word between others makes one word
word_around : (front middle back : List ℕ) → IsText front → IsWord middle → IsText back → IsWord (front ++ middle ++ back)
unfolding is_word
word_around front [] back f m b = absurd (let off : false ≡ true = m in cc)
word_around [] (byte ∷ middle) back f m b = texts_joined (byte ∷ middle) back m b
word_around (first ∷ front) (byte ∷ middle) back f m b = texts_joined ((first ∷ front) ++ byte ∷ middle) back (texts_joined (first ∷ front) (byte ∷ middle) f m) b

digit_byte : (n : ℕ) → n < 10 → is_word_byte (48 + n) ≡ true
digit_byte n few = grind (arith, nat_tests)

digits_text : (count n : ℕ) (digits : List ℕ) → IsText digits → IsText (digits_onto count 10 false n digits)
digits_text zero n digits t = t
digits_text (suc count) n digits t = by (n / 10 == 0) (digits_text count (n / 10) (last ∷ digits) more)
  where
    last : ℕ
    last = if nat_lt (n % 10) 10 then 48 + n % 10 else 87 + n % 10

    more : IsText (last ∷ digits)
    more = let few : n % 10 < 10 = omega arith in rw (lt-ltb (n % 10) 10 few, digit_byte (n % 10) few) t

    by : (b : Bool) → IsText (digits_onto count 10 false (n / 10) (last ∷ digits)) → IsText (if b then last ∷ digits else digits_onto count 10 false (n / 10) (last ∷ digits))
    by true rest = more
    by false rest = rest

decimal_text : (n : ℕ) → IsText (decimal n)
unfolding digits
decimal_text n = digits_text 64 n [] refl

-- a pair's two sides
pin_text : (pair : List ℕ) → IsText pair → IsText (pin_in pair)
unfolding before
pin_text pair t = text_taken (prefix_len (λ (byte : ℕ). not (byte == 61)) pair) pair t

signal_text : (pair : List ℕ) → IsText pair → IsText (signal_in pair)
unfolding behind
signal_text pair t = bytes_dropped (length (pin_in pair) + 1) pair t

-- the actuals of pairs are words
abbrev pub HasWordActual : List ℕ → Type 0
HasWordActual pair = IsWord (signal_in pair)

pub actuals_are_words : (words : List (List ℕ)) → AllByRecursion IsWord words → AllByRecursion HasWordActual (filter is_pair words)
actuals_are_words [] a = tt
actuals_are_words (word ∷ words) a = by (is_pair word) refl (actuals_are_words words a.1)
  where
    by : (b : Bool) → is_pair word ≡ b → AllByRecursion HasWordActual (filter is_pair words) → AllByRecursion HasWordActual (if b then word ∷ filter is_pair words else filter is_pair words)
    by true e rest = (signal_word word a.0 e, rest)
    by false e rest = rest

actual_is_word : (pairs : List (List ℕ)) (formal actual : List ℕ) → AllByRecursion HasWordActual pairs → actual_of pairs formal ≡ Some actual → IsWord actual
unfolding actual_of
actual_is_word [] formal actual a e = absurd (let off = e in cc)
actual_is_word (pair ∷ pairs) formal actual a e = by (bytes_eq formal (pin_in pair)) e (actual_is_word pairs formal actual a.1)
  where
    by : (b : Bool) → option_map signal_in (if b then Some pair else find (λ (one : List ℕ). bytes_eq formal (pin_in one)) pairs) ≡ Some actual
        → (option_map signal_in (find (λ (one : List ℕ). bytes_eq formal (pin_in one)) pairs) ≡ Some actual → IsWord actual) → IsWord actual
    by true f rest = subst IsWord (let same : signal_in pair ≡ actual = cc in same) a.0
    by false f rest = rest f

-- an instance whose names are words
record HasWordNames (instance : Instance) : Type 0 where
  path : IsText instance.path
  actuals : AllByRecursion HasWordActual instance.pairs

-- what a signal is named outside is a word
word_outside : (instance : Instance) (signal : List ℕ) → HasWordNames instance → IsText signal → IsWord (outside instance signal)
unfolding is_word
word_outside instance signal names t = by (actual_of instance.pairs signal) refl
  where
    dot : IsWord (codes ".")
    dot = refl

    by : (found : Option (List ℕ)) → actual_of instance.pairs signal ≡ found → IsWord (outside instance signal)
    by (Some actual) e = subst IsWord (sym (outside_formal instance signal actual (sym e))) (actual_is_word instance.pairs signal actual names.actuals e)
    by None e = subst IsWord (sym (outside_other instance signal (sym e))) (word_around instance.path (codes ".") signal names.path dot t)

words_outside : (instance : Instance) (signals : List (List ℕ)) → HasWordNames instance → AllByRecursion IsWord signals → AllByRecursion IsWord (map (outside instance) signals)
words_outside instance signals names a = all_map IsWord IsWord (outside instance) signals (λ signal w. word_outside instance signal names (text_of_word signal w)) a

control_word : (instance : Instance) (control : List ℕ) → HasWordNames instance → IsWord control → IsWord (control_outside instance control)
unfolding control_outside
control_word instance control names w = by (bytes_eq control (codes "NIL") || not (has instance.controls control))
  where
    by : (b : Bool) → IsWord (if b then control else outside instance control)
    by true = w
    by false = word_outside instance control names (text_of_word control w)

latch_words : (instance : Instance) (words : List (List ℕ)) → HasWordNames instance → AllByRecursion IsWord words → AllByRecursion IsWord (latch_outside instance words)
latch_words instance [] names a = tt
latch_words instance (input ∷ []) names a = (word_outside instance input names (text_of_word input a.0), tt)
latch_words instance (input ∷ output ∷ []) names a =
    (word_outside instance input names (text_of_word input a.0), (word_outside instance output names (text_of_word output a.1.0), tt))
latch_words instance (input ∷ output ∷ kind ∷ []) names a =
    (word_outside instance input names (text_of_word input a.0), (word_outside instance output names (text_of_word output a.1.0), a.1.1))
latch_words instance (input ∷ output ∷ kind ∷ control ∷ words) names a = (
  word_outside instance input names (text_of_word input a.0),
  (word_outside instance output names (text_of_word output a.1.0), (a.1.1.0, (control_word instance control names a.1.1.1.0, a.1.1.1.1))),
)

pair_word : (instance : Instance) (pair : List ℕ) → HasWordNames instance → IsWord pair → IsWord (pair_outside instance pair)
unfolding is_word
pair_word instance pair names w =
    let text = text_of_word pair w in
    word_around (pin_in pair) (codes "=") (outside instance (signal_in pair)) (pin_text pair text) refl
    (text_of_word (outside instance (signal_in pair)) (word_outside instance (signal_in pair) names (signal_text pair text)))

gate_words : (instance : Instance) (words : List (List ℕ)) → HasWordNames instance → AllByRecursion IsWord words → AllByRecursion IsWord (gate_outside instance words)
gate_words instance [] names a = tt
gate_words instance (cell ∷ pairs) names a = (a.0, all_map IsWord IsWord (pair_outside instance) pairs (λ pair w. pair_word instance pair names w) a.1)

-- the lines of an instance outside

first_is_word : (words : List (List ℕ)) → AllByRecursion IsWord words → (keyword_of (first_word words) ≡ Row → ⊥) → IsWord (first_word words)
unfolding keyword_of skipped_words
first_is_word [] a other = absurd (other refl)
first_is_word (word ∷ words) a other = a.0

-- the words of a line after the first, others in their place
with_line_words : (line : Entry) (kind : Keyword) (words : List (List ℕ)) → kind_of line ≡ kind → (kind ≡ Row → ⊥) → AllByRecursion IsWord line.words → AllByRecursion IsWord words → AreWordLines (with_words line words ∷ [])
unfolding kind_of
with_line_words line kind words e other a b = ((first_is_word line.words a (λ row. other (sym e ∙ row)), b), tt)

line_words : (instance : Instance) (line : Entry) (kind : Keyword) → kind_of line ≡ kind → HasWordNames instance → AllByRecursion IsWord line.words → AreWordLines (line_outside instance kind line)
line_words instance line Names e names a = with_line_words line Names _ e (λ row. (let off : Names ≡ Row = row in cc)) a (words_outside instance (other_words line.words) names (others_have IsWord line.words a))
line_words instance line Latch e names a = with_line_words line Latch _ e (λ row. (let off : Latch ≡ Row = row in cc)) a (latch_words instance (other_words line.words) names (others_have IsWord line.words a))
line_words instance line Gate e names a = with_line_words line Gate _ e (λ row. (let off : Gate ≡ Row = row in cc)) a (gate_words instance (other_words line.words) names (others_have IsWord line.words a))
line_words instance line Row e names a = (a, tt)
line_words instance line Model e names a = tt
line_words instance line Inputs e names a = tt
line_words instance line Outputs e names a = tt
line_words instance line Clock e names a = tt
line_words instance line Subckt e names a = tt
line_words instance line StartKiss e names a = tt
line_words instance line DontCare e names a = tt
line_words instance line End e names a = tt
line_words instance line Skipped e names a = tt
line_words instance line Other e names a = tt

pub each_flat : {A B : Type 0} (P : A → Type 0) (Q : B → Type 0) (f : A → List B) (xs : List A) → ((x : A) → P x → AllByRecursion Q (f x)) → AllByRecursion P xs → AllByRecursion Q (flat_map f xs)
each_flat P Q f [] h a = tt
each_flat P Q f (x ∷ xs) h a = all_append Q (f x) (flat_map f xs) (h x a.0) (each_flat P Q f xs h a.1)

abbrev pub HasWords : Entry → Type 0
HasWords line = AllByRecursion IsWord line.words

put_words : (instance : Instance) (lines : List Entry) → HasWordNames instance → AreWordLines lines → AreWordLines (lines_outside instance lines)
unfolding lines_outside
put_words instance lines names a = each_flat HasWords HasWords (λ line. line_outside instance (kind_of line) line) lines (λ line words. line_words instance line (kind_of line) refl names words) a

-- the lines of models and of bodies

pub model_words : (lines : List Entry) → AreWordLines lines → AreWordLines (model_lines lines)
unfolding model_lines
model_words lines a = all_taken HasWords (prefix_len (λ (line : Entry). not (begins_part (kind_of line))) lines) lines a

found_words : (test : List Entry → Bool) (models : List (List Entry)) → AllByRecursion AreWordLines models → AreWordLines (unwrap_or (find test models) [])
found_words test [] a = tt
found_words test (model ∷ models) a = by (test model) (found_words test models a.1)
  where
    by : (b : Bool) → AreWordLines (unwrap_or (find test models) []) → AreWordLines (unwrap_or (if b then Some model else find test models) [])
    by true rest = a.0
    by false rest = rest

body_words : (models : List (List Entry)) (name : List ℕ) → AllByRecursion AreWordLines models → AreWordLines (body_of models name)
unfolding body_of
body_words models name a = model_words (unwrap_or (find (λ (model : List Entry). bytes_eq name (model_name model)) models) []) (found_words (λ (model : List Entry). bytes_eq name (model_name model)) models a)

-- an instance's names are words

first_text : (words : List (List ℕ)) → AllByRecursion IsWord words → IsText (first_word words)
first_text [] a = refl
first_text (word ∷ words) a = text_of_word word a.0

path_text : (name : List ℕ) (place : ℕ) → IsText name → IsText (path_word name place)
path_text name place t =
    texts_joined (name ++ codes "[" ++ decimal place) (codes "]") (texts_joined (name ++ codes "[") (decimal place) (texts_joined name (codes "[") t refl) (decimal_text place)) refl

instance_names : (library : Option (List TheGate)) (models : List (List Entry)) (place : ℕ) (line : Entry) (lines : List Entry) → HasWords line → HasWordNames (instance_of library models place line lines)
instance_names library models place line lines a = record {
  path = path_text (model_of line) place (first_text (other_words line.words) (others_have IsWord line.words a));
  actuals = actuals_are_words (other_words (other_words line.words)) (others_have IsWord (other_words line.words) (others_have IsWord line.words a));
}

-- the lines of a model with those of its instances

numbered_words : (place : ℕ) (lines : List Entry) → AreWordLines lines → AllByRecursion (λ (item : ℕ × Entry). HasWords item.1) (numbered place lines)
unfolding numbered
numbered_words place [] a = tt
numbered_words place (line ∷ lines) a = (a.0, numbered_words (if is_instance line then place + 1 else place) lines a.1)

pub flat_words : (library : Option (List TheGate)) (models : List (List Entry)) (depth : ℕ) (lines : List Entry) → AllByRecursion AreWordLines models → AreWordLines lines → AreWordLines (flat_lines library models depth lines)
unfolding flat_lines from_instances
flat_words library models zero lines known a = tt
flat_words library models (suc depth) lines known a =
    each_flat (λ (item : ℕ × Entry). HasWords item.1) HasWords _ (numbered 0 lines) (λ item words. by (λ body own. flat_words library models depth body known own) item words (is_instance item.1) (size_of models (model_of item.1) == 0)) (numbered_words 0 lines a)
  where
    inner : Entry → List Entry
    inner line = flat_lines library models depth (body_of models (model_of line))

    by : ((body : List Entry) → AreWordLines body → AreWordLines (flat_lines library models depth body)) → (item : ℕ × Entry) → HasWords item.1 → (b none : Bool)
        → AreWordLines (if not b then item.1 ∷ [] else (if none then [] else lines_outside (instance_of library models item.0 item.1 (inner item.1)) (inner item.1)))
    by within item words false none = (words, tt)
    by within item words true true = tt
    by within item words true false =
        put_words (instance_of library models item.0 item.1 (inner item.1)) (inner item.1) (instance_names library models item.0 item.1 (inner item.1) words)
        (within (body_of models (model_of item.1)) (body_words models (model_of item.1) known))
