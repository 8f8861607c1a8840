-- Words in sets: the signals that the lines of a model read or drive, and its ports, each once.
use Rattle.std.specs.Prelude.{◌≡◌, ℕ, ◌+◌, ◌<◌, Bool, true, false, not, ◌&&◌, ◌||◌, cond, Option, List, [], ◌∷◌, ◌++◌, map, take, flat_map, length, bytes_eq, if◌then◌else◌}
use Rattle.std.specs.Borrow.{Bor}
use Rattle.std.specs.List.{filter, list_any}
use Rattle.std.specs.Cmp.Lexicographic.{pointwise}
use Rattle.std.proofs.Common.{refl, sym, ◌∙◌, ap, get_or}
use Rattle.std.proofs.lemmas.List.Elements.{filter-append, filter_agree}
use Rattle.std.proofs.lemmas.List.{take_more, map-append}
use Rattle.std.proofs.lemmas.Grind.{flat_map-append}
use Rattle.sis_text.specs.Words.{bytes_at}
use Rattle.sis_text.specs.Entries.{Entry, entry_at}
use Rattle.sis_text.specs.declared.places.Line.{Line}
use Rattle.circuit_model.specs.Names.{has}
use Rattle.circuit_tables.specs.Folding.{each_once}
use Rattle.circuit_tables.specs.Listing.{names_with}
use Rattle.circuit_tables.proofs.Once.{same_name, has-each_once, listed_once}
use Rattle.line_words.specs.LineWords.{texts, first_word, other_words}
use Rattle.genlib_format.specs.declared.gate.Gate.{Gate as TheGate}
use Rattle.blif_gates.specs.GateLines.{is_pair, pin_in, signal_in, signals_of}
use Rattle.blif_lines.specs.declared.keyword.Keyword.{Keyword}
use Rattle.blif_lines.specs.declared.keyword.Keyword.TheVariants.{Model, Inputs, Outputs, Clock, Names, Latch, Gate, Subckt, StartKiss, DontCare, End, Skipped, Row, Other}
use Rattle.blif_lines.specs.Keyword.{keyword_of, kind_of}
use Rattle.blif_lines.specs.Reader.{of_lines, lists_inputs, lists_outputs, read_within, driven_by, is_instance_kind, names_beside}
use Rattle.blif_lines.proofs.Beside.{once_filtered}
use Rattle.blif_models.specs.Models.{model_of, pairs_of}
use Rattle.blif_models.specs.Ports.{Ports, own_outputs, actuals_of, ports_with}
use Rattle.blif_models.specs.PortTables.{no_ports}
use Rattle.blif_models.specs.Sides.{other_side, ports_on, formals_on, signals_as, signals_with, listed_on, is_kind_on, lists_on}
use Rattle.blif_models.specs.declared.side.Side.{Side}
use Rattle.blif_models.specs.declared.side.Side.TheVariants as side

-- names added to a set

pub with_both : (known names more : List (List ℕ)) → names_with known (names ++ more) ≡ names_with (names_with known names) more
unfolding names_with
with_both known [] more = refl
with_both known (name ∷ names) more = with_both (if has known name then known else known ++ name ∷ []) names more

-- the loops: what one item more adds
pub set_more_at : {A : Type 0} (adds : List A → List (List ℕ)) → ((xs ys : List A) → adds (xs ++ ys) ≡ adds xs ++ adds ys) → (xs : List A) (i : ℕ) (d : A) (first set put : List (List ℕ))
    → i < length xs → set ≡ names_with first (adds (take i xs)) → put ≡ names_with set (adds (get_or xs i d ∷ [])) → put ≡ names_with first (adds (take (i + 1) xs))
set_more_at {A = A} adds both xs i d first set put lt e p =
    p ∙ ap (λ (known : List (List ℕ)). names_with known (adds (get_or xs i d ∷ []))) e
    ∙ sym (with_both first (adds (take i xs)) (adds (get_or xs i d ∷ [])))
    ∙ ap (names_with first) (sym (both (take i xs) (get_or xs i d ∷ [])))
    ∙ ap (λ (list : List A). names_with first (adds list)) (sym (take_more xs i d lt))

pub set_more : {A : Type 0} (adds : List A → List (List ℕ)) → ((xs ys : List A) → adds (xs ++ ys) ≡ adds xs ++ adds ys) → (xs : List A) (i : ℕ) (x : A) (first set put : List (List ℕ))
    → i < length xs → x ≡ get_or xs i x → set ≡ names_with first (adds (take i xs)) → put ≡ names_with set (adds (x ∷ [])) → put ≡ names_with first (adds (take (i + 1) xs))
set_more {A = A} adds both xs i x first set put lt is e p =
    set_more_at adds both xs i x first set put lt e (p ∙ ap (λ (one : A). names_with set (adds (one ∷ []))) is)

pub texts_both : (xs ys : List (Bor (List ℕ))) → texts (xs ++ ys) ≡ texts xs ++ texts ys
texts_both xs ys = map-append (λ (word : Bor (List ℕ)). word.now) xs ys

pub actuals_both : (ports : List (List ℕ)) (xs ys : List (Bor (List ℕ)))
    → actuals_of ports (filter is_pair (texts (xs ++ ys))) ≡ actuals_of ports (filter is_pair (texts xs)) ++ actuals_of ports (filter is_pair (texts ys))
unfolding actuals_of
actuals_both ports xs ys =
    ap (λ words. signals_of (filter (λ pair. has ports (pin_in pair)) (filter is_pair words))) (texts_both xs ys)
    ∙ ap (λ words. signals_of (filter (λ pair. has ports (pin_in pair)) words)) (filter-append is_pair (texts xs) (texts ys))
    ∙ ap signals_of (filter-append (λ pair. has ports (pin_in pair)) (filter is_pair (texts xs)) (filter is_pair (texts ys)))
    ∙ map-append signal_in (filter (λ pair. has ports (pin_in pair)) (filter is_pair (texts xs))) (filter (λ pair. has ports (pin_in pair)) (filter is_pair (texts ys)))

pub reads_both : (inputs : List (List ℕ)) (xs ys : List (Bor (List ℕ)))
    → filter (has inputs) (signals_of (texts (xs ++ ys))) ≡ filter (has inputs) (signals_of (texts xs)) ++ filter (has inputs) (signals_of (texts ys))
reads_both inputs xs ys =
    ap (λ words. filter (has inputs) (signals_of words)) (texts_both xs ys)
    ∙ ap (filter (has inputs)) (map-append signal_in (texts xs) (texts ys))
    ∙ filter-append (has inputs) (signals_of (texts xs)) (signals_of (texts ys))

pub beside_both : (others : List (List ℕ)) (xs ys : List (Bor (List ℕ)))
    → filter (λ one. not (has others one)) (texts (xs ++ ys)) ≡ filter (λ one. not (has others one)) (texts xs) ++ filter (λ one. not (has others one)) (texts ys)
beside_both others xs ys = ap (filter (λ one. not (has others one))) (texts_both xs ys) ∙ filter-append (λ one. not (has others one)) (texts xs) (texts ys)

pub lines_both : (adds : Entry → List (List ℕ)) (text : List ℕ) (xs ys : List Line)
    → flat_map adds (map (entry_at text) (xs ++ ys)) ≡ flat_map adds (map (entry_at text) xs) ++ flat_map adds (map (entry_at text) ys)
lines_both adds text xs ys =
    ap (flat_map adds) (map-append (entry_at text) xs ys) ∙ flat_map-append adds (map (entry_at text) xs) (map (entry_at text) ys)

-- a set that was empty
pub all_put : (set names : List (List ℕ)) → set ≡ names_with [] names → set ≡ each_once names
all_put set names e = e ∙ listed_once names

-- tests

filtered : (test : List ℕ → Bool) (names : List (List ℕ)) (name : List ℕ) → has (filter (λ one. not (test one)) names) name ≡ (has names name && not (test name))
filtered test [] name = refl
filtered test (first ∷ names) name = by (test first) refl (bytes_eq name first) refl (filtered test names name)
  where
    by : (t : Bool) → test first ≡ t → (b : Bool) → bytes_eq name first ≡ b → has (filter (λ one. not (test one)) names) name ≡ (has names name && not (test name))
        → has (cond (not t) (first ∷ filter (λ one. not (test one)) names) (filter (λ one. not (test one)) names)) name ≡ ((b || has names name) && not (test name))
    by true h true same rest =
        let it : test name ≡ true = ap test (same_name name first same) ∙ h in
        rest ∙ rw it (none (has names name))
      where
        none : (a : Bool) → (a && false) ≡ false
        none true = refl
        none false = refl
    by true h false same rest = rest
    by false h true same rest =
        let it : test name ≡ false = ap test (same_name name first same) ∙ h in
        rw (same, it) refl
    by false h false same rest = rw same rest

pub has_own : (ports : Ports) (name : List ℕ) → has (own_outputs ports) name ≡ (has ports.outputs name && not (has ports.inputs name))
has_own ports name = filtered (has ports.inputs) ports.outputs name

pub lists_by : (place : Side) (text : List ℕ) (lines : List Line) → list_any (λ line. is_kind_on place (kind_of (entry_at text line))) lines ≡ lists_on place (map (entry_at text) lines)
unfolding lists_inputs lists_outputs
lists_by side.Inputs text [] = refl
lists_by side.Inputs text (line ∷ lines) = ap (λ (b : Bool). is_kind_on side.Inputs (kind_of (entry_at text line)) || b) (lists_by side.Inputs text lines)
lists_by side.Outputs text [] = refl
lists_by side.Outputs text (line ∷ lines) = ap (λ (b : Bool). is_kind_on side.Outputs (kind_of (entry_at text line)) || b) (lists_by side.Outputs text lines)

-- lines

-- a line says the same by its kind
pub line_as : (place : Side) (library : Option (List TheGate)) (ports_of : List ℕ → Ports) (line : Entry) → signals_as place library ports_of (kind_of line) (other_words line.words) ≡ signals_with place library ports_of line
line_as side.Inputs library ports_of line = by (kind_of line)
  where
    by : (kind : Keyword) → signals_as side.Inputs library ports_of kind (other_words line.words)
        ≡ (if is_instance_kind kind then actuals_of (ports_of (model_of line)).inputs (pairs_of line) else read_within library kind (other_words line.words))
    by Model = refl
    by Inputs = refl
    by Outputs = refl
    by Clock = refl
    by Names = refl
    by Latch = refl
    by Gate = refl
    by Subckt = refl
    by StartKiss = refl
    by DontCare = refl
    by End = refl
    by Skipped = refl
    by Row = refl
    by Other = refl
line_as side.Outputs library ports_of line = by (kind_of line)
  where
    by : (kind : Keyword) → signals_as side.Outputs library ports_of kind (other_words line.words)
        ≡ (if is_instance_kind kind then actuals_of (own_outputs (ports_of (model_of line))) (pairs_of line) else driven_by library kind (other_words line.words))
    by Model = refl
    by Inputs = refl
    by Outputs = refl
    by Clock = refl
    by Names = refl
    by Latch = refl
    by Gate = refl
    by Subckt = refl
    by StartKiss = refl
    by DontCare = refl
    by End = refl
    by Skipped = refl
    by Row = refl
    by Other = refl

pub line_by_words : (text : List ℕ) (line : Line) (words : List (List ℕ)) (place : Side) (library : Option (List TheGate)) (ports_of : List ℕ → Ports) (kind : Keyword) (first : List ℕ) (others : List (List ℕ))
    → words ≡ map (bytes_at text) line.words → kind ≡ keyword_of first → first ≡ first_word words → others ≡ other_words words
    → signals_as place library ports_of kind others ≡ signals_with place library ports_of (entry_at text line)
unfolding kind_of
line_by_words text line words place library ports_of kind first others w k f o =
    rw (k, f, o, w) (line_as place library ports_of (entry_at text line))

-- the ports that a line lists
pub listed_if : (place : Side) (kind : Keyword) (words : List (List ℕ)) → listed_on place kind words ≡ (if is_kind_on place kind then words else [])
listed_if side.Inputs Model words = refl
listed_if side.Inputs Inputs words = refl
listed_if side.Inputs Outputs words = refl
listed_if side.Inputs Clock words = refl
listed_if side.Inputs Names words = refl
listed_if side.Inputs Latch words = refl
listed_if side.Inputs Gate words = refl
listed_if side.Inputs Subckt words = refl
listed_if side.Inputs StartKiss words = refl
listed_if side.Inputs DontCare words = refl
listed_if side.Inputs End words = refl
listed_if side.Inputs Skipped words = refl
listed_if side.Inputs Row words = refl
listed_if side.Inputs Other words = refl
listed_if side.Outputs Model words = refl
listed_if side.Outputs Inputs words = refl
listed_if side.Outputs Outputs words = refl
listed_if side.Outputs Clock words = refl
listed_if side.Outputs Names words = refl
listed_if side.Outputs Latch words = refl
listed_if side.Outputs Gate words = refl
listed_if side.Outputs Subckt words = refl
listed_if side.Outputs StartKiss words = refl
listed_if side.Outputs DontCare words = refl
listed_if side.Outputs End words = refl
listed_if side.Outputs Skipped words = refl
listed_if side.Outputs Row words = refl
listed_if side.Outputs Other words = refl

-- a line that is none of a table, a latch, a gate and an instance
pub no_signals : (place : Side) (library : Option (List TheGate)) (ports_of : List ℕ → Ports) (kind : Keyword) (words set : List (List ℕ))
    → (kind ≡ Names → ⊥) → (kind ≡ Latch → ⊥) → (kind ≡ Gate → ⊥) → (kind ≡ Subckt → ⊥) → set ≡ names_with set (signals_as place library ports_of kind words)
unfolding names_with
no_signals side.Inputs library ports_of Model words set n l g s = refl
no_signals side.Inputs library ports_of Inputs words set n l g s = refl
no_signals side.Inputs library ports_of Outputs words set n l g s = refl
no_signals side.Inputs library ports_of Clock words set n l g s = refl
no_signals side.Inputs library ports_of Names words set n l g s = absurd (n refl)
no_signals side.Inputs library ports_of Latch words set n l g s = absurd (l refl)
no_signals side.Inputs library ports_of Gate words set n l g s = absurd (g refl)
no_signals side.Inputs library ports_of Subckt words set n l g s = absurd (s refl)
no_signals side.Inputs library ports_of StartKiss words set n l g s = refl
no_signals side.Inputs library ports_of DontCare words set n l g s = refl
no_signals side.Inputs library ports_of End words set n l g s = refl
no_signals side.Inputs library ports_of Skipped words set n l g s = refl
no_signals side.Inputs library ports_of Row words set n l g s = refl
no_signals side.Inputs library ports_of Other words set n l g s = refl
no_signals side.Outputs library ports_of Model words set n l g s = refl
no_signals side.Outputs library ports_of Inputs words set n l g s = refl
no_signals side.Outputs library ports_of Outputs words set n l g s = refl
no_signals side.Outputs library ports_of Clock words set n l g s = refl
no_signals side.Outputs library ports_of Names words set n l g s = absurd (n refl)
no_signals side.Outputs library ports_of Latch words set n l g s = absurd (l refl)
no_signals side.Outputs library ports_of Gate words set n l g s = absurd (g refl)
no_signals side.Outputs library ports_of Subckt words set n l g s = absurd (s refl)
no_signals side.Outputs library ports_of StartKiss words set n l g s = refl
no_signals side.Outputs library ports_of DontCare words set n l g s = refl
no_signals side.Outputs library ports_of End words set n l g s = refl
no_signals side.Outputs library ports_of Skipped words set n l g s = refl
no_signals side.Outputs library ports_of Row words set n l g s = refl
no_signals side.Outputs library ports_of Other words set n l g s = refl

pub not_listed : (place : Side) (kind : Keyword) (words set : List (List ℕ)) (test : Bool) → test ≡ is_kind_on place kind → test ≡ false → set ≡ names_with set (listed_on place kind words)
unfolding names_with
not_listed place kind words set test t f =
    let none : listed_on place kind words ≡ [] = listed_if place kind words ∙ ap (λ (b : Bool). if b then words else []) (sym t ∙ f) in
    rw none refl

-- an instance of a model that is not in the file
pub no_actuals : (place : Side) (words : List (List ℕ)) → actuals_of (formals_on place no_ports) words ≡ []
unfolding actuals_of
no_actuals side.Inputs [] = refl
no_actuals side.Inputs (word ∷ words) = no_actuals side.Inputs words
no_actuals side.Outputs [] = refl
no_actuals side.Outputs (word ∷ words) = no_actuals side.Outputs words

-- ports

-- names that are found in sets
pub beside_once : (others names : List (List ℕ)) → names_beside (each_once others) (each_once names) ≡ each_once (names_beside others names)
unfolding names_beside
beside_once others names =
    ap each_once
    (filter_agree (λ name. not (has (each_once others) name)) (λ name. not (has others name)) (λ name. ap not (has-each_once others name)) (each_once names)
    ∙ once_filtered (λ name. not (has others name)) names)

-- the ports of a side, listed or found
pub side_listed : (place : Side) (library : Option (List TheGate)) (ports_of : List ℕ → Ports) (lines : List Entry) → lists_on place lines ≡ true
    → ports_on place (ports_with library ports_of lines) ≡ of_lines (listed_on place) lines
unfolding ports_with
side_listed side.Inputs library ports_of lines e = rw e refl
side_listed side.Outputs library ports_of lines e = rw e refl

pub side_found : (place : Side) (library : Option (List TheGate)) (ports_of : List ℕ → Ports) (lines : List Entry) → lists_on place lines ≡ false
    → ports_on place (ports_with library ports_of lines) ≡ names_beside (flat_map (signals_with (other_side place) library ports_of) lines) (flat_map (signals_with place library ports_of) lines)
unfolding ports_with
side_found side.Inputs library ports_of lines e = rw e refl
side_found side.Outputs library ports_of lines e = rw e refl

pub found_ports : (place other : Side) (library : Option (List TheGate)) (ports_of : List ℕ → Ports) (lines : List Entry) (others words : List (List ℕ)) → other ≡ other_side place
    → others ≡ each_once (flat_map (signals_with other library ports_of) lines) → words ≡ each_once (flat_map (signals_with place library ports_of) lines) → lists_on place lines ≡ false
    → names_beside others words ≡ each_once (ports_on place (ports_with library ports_of lines))
found_ports place other library ports_of lines others words e o w f =
    ap (λ (names : List (List ℕ)). names_beside names words) (o ∙ ap (λ (one : Side). each_once (flat_map (signals_with one library ports_of) lines)) e)
    ∙ ap (names_beside (each_once (flat_map (signals_with (other_side place) library ports_of) lines))) w
    ∙ beside_once (flat_map (signals_with (other_side place) library ports_of) lines) (flat_map (signals_with place library ports_of) lines)
    ∙ ap each_once (sym (side_found place library ports_of lines f))

-- sets that are the same
pub texts_same : (words others : List (Bor (List ℕ))) → pointwise (λ (a b : Bor (List ℕ)). bytes_eq a.now b.now) words others ≡ true → texts words ≡ texts others
texts_same [] [] e = refl
texts_same [] (other ∷ others) e = absurd (let off = e in cc)
texts_same (word ∷ words) [] e = absurd (let off = e in cc)
texts_same (word ∷ words) (other ∷ others) e = by (bytes_eq word.now other.now) refl (texts_same words others) e
  where
    by : (b : Bool) → bytes_eq word.now other.now ≡ b → (pointwise (λ (a b : Bor (List ℕ)). bytes_eq a.now b.now) words others ≡ true → texts words ≡ texts others)
        → (b && pointwise (λ (a b : Bor (List ℕ)). bytes_eq a.now b.now) words others) ≡ true → word.now ∷ texts words ≡ other.now ∷ texts others
    by true h rest f = ap (λ (name : List ℕ). name ∷ texts words) (same_name word.now other.now h) ∙ ap (λ list. other.now ∷ list) (rest f)
    by false h rest f = absurd (let off = f in cc)
