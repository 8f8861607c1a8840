-- The lines of a KISS2 part, and those beside it, as runs of the lines of a text.
use Rattle.std.specs.Prelude.{◌≡◌, ℕ, ◌+◌, ◌≤◌, length, take, drop, take_while, map, bytes_eq, codes, Bool, true, false, cond, List, [], ◌∷◌, if◌then◌else◌}
use Rattle.std.specs.List.{prefix_len, take-map, drop-map}
use Rattle.std.proofs.Common.{refl, sym, ◌∙◌, ap, subst, arith}
use Rattle.std.proofs.lemmas.List.{take_all, drop_all}
use Rattle.std.proofs.lemmas.List.Folds.{length-prefix_len}
use Rattle.std.proofs.lemmas.Slice.Eq.{bytes_eq-Decides}
use Rattle.sis_text.specs.declared.places.Line.{Line}
use Rattle.sis_text.specs.Entries.{Entry, entry_at}
use Rattle.blif_lines.specs.Keyword.{keyword_of}
use Rattle.blif_lines.specs.Lines.{begins_kiss}
use Rattle.blif_lines.specs.declared.keyword.Keyword.TheVariants.{Model, Inputs, Outputs, Clock, Names, Latch, Gate, Subckt, DontCare, End, Skipped, Row, Other}

other_begins : (a b c d e f g h i j k l : Bool) → begins_kiss
    (if a then Model else (if b then Inputs else (if c then Outputs else (if d then Clock else (if e then Names else (if f then Latch else (if g then Gate
    else (if h then Subckt else (if i then DontCare else (if j then End else (if k then Skipped else (if l then Other else Row)))))))))))) ≡ false
other_begins true b c d e f g h i j k l = refl
other_begins false true c d e f g h i j k l = refl
other_begins false false true d e f g h i j k l = refl
other_begins false false false true e f g h i j k l = refl
other_begins false false false false true f g h i j k l = refl
other_begins false false false false false true g h i j k l = refl
other_begins false false false false false false true h i j k l = refl
other_begins false false false false false false false true i j k l = refl
other_begins false false false false false false false false true j k l = refl
other_begins false false false false false false false false false true k l = refl
other_begins false false false false false false false false false false true l = refl
other_begins false false false false false false false false false false false true = refl
other_begins false false false false false false false false false false false false = refl

start_begins : begins_kiss (keyword_of (codes ".start_kiss")) ≡ true
unfolding keyword_of
start_begins = refl

-- a line begins a KISS2 part by its first word
pub begins_by_word : (word : List ℕ) → bytes_eq word (codes ".start_kiss") ≡ begins_kiss (keyword_of word)
unfolding keyword_of
begins_by_word word = by (bytes_eq word (codes ".start_kiss")) refl
  where
    by : (b : Bool) → bytes_eq word (codes ".start_kiss") ≡ b → b ≡ begins_kiss (keyword_of word)
    by true e = subst (λ one. true ≡ begins_kiss (keyword_of one)) (sym ((bytes_eq-Decides word (codes ".start_kiss")).0 e)) (sym start_begins)
    by false e = rw e (sym (other_begins _ _ _ _ _ _ _ _ _ _ _ _))

-- all lines come before an index past the last, and none after it
pub all_to : (lines : List Line) (place : ℕ) → length lines ≤ place → lines ≡ take (place + 1) lines
all_to lines place h = sym (take_all (place + 1) lines (omega (arith, h)))

pub none_behind : (lines : List Line) (place : ℕ) → length lines ≤ place → [] ≡ drop (place + 1) lines
none_behind lines place h = sym (drop_all (place + 1) lines (omega (arith, h)))

prefix_map : {A B : Type 0} (f : A → B) (test : B → Bool) (items : List A) → prefix_len test (map f items) ≡ prefix_len (λ item. test (f item)) items
prefix_map f test [] = refl
prefix_map f test (item ∷ items) = ap (λ n. cond (test (f item)) (1 + n) 0) (prefix_map f test items)

count_as_entries : (test : Entry → Bool) (source : List ℕ) (lines : List Line) →
    length (take_while (λ (line : Line). test (entry_at source line)) lines) ≡ length (take_while test (map (entry_at source) lines))
count_as_entries test source lines =
    length-prefix_len (λ (line : Line). test (entry_at source line)) lines
    ∙ sym (prefix_map (entry_at source) test lines)
    ∙ sym (length-prefix_len test (map (entry_at source) lines))

pub before_as_entries : (test : Entry → Bool) (source : List ℕ) (lines : List Line) →
    map (entry_at source) (take (length (take_while (λ (line : Line). test (entry_at source line)) lines)) lines) ≡ take_while test (map (entry_at source) lines)
before_as_entries test source lines =
    ap (λ n. map (entry_at source) (take n lines)) (length-prefix_len (λ (line : Line). test (entry_at source line)) lines ∙ sym (prefix_map (entry_at source) test lines))
    ∙ sym (take-map (entry_at source) (prefix_len test (map (entry_at source) lines)) lines)

pub to_as_entries : (test : Entry → Bool) (source : List ℕ) (lines : List Line) →
    map (entry_at source) (take (length (take_while (λ (line : Line). test (entry_at source line)) lines) + 1) lines)
    ≡ take (length (take_while test (map (entry_at source) lines)) + 1) (map (entry_at source) lines)
to_as_entries test source lines =
    ap (λ n. map (entry_at source) (take (n + 1) lines)) (count_as_entries test source lines)
    ∙ sym (take-map (entry_at source) (length (take_while test (map (entry_at source) lines)) + 1) lines)

pub behind_as_entries : (test : Entry → Bool) (source : List ℕ) (lines : List Line) →
    map (entry_at source) (drop (length (take_while (λ (line : Line). test (entry_at source line)) lines) + 1) lines)
    ≡ drop (length (take_while test (map (entry_at source) lines)) + 1) (map (entry_at source) lines)
behind_as_entries test source lines =
    ap (λ n. map (entry_at source) (drop (n + 1) lines)) (count_as_entries test source lines)
    ∙ sym (drop-map (entry_at source) (length (take_while test (map (entry_at source) lines)) + 1) lines)
