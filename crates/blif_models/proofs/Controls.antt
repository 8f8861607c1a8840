-- The signals after which a control is named, as a set: which names it has, and that nothing else
-- counts.
use Rattle.std.proofs.Common.{◌≡◌, ℕ, ◌+◌, ◌<◌, Bool, true, false, not, ◌||◌, if◌then◌else◌, Option, Some, List, [], ◌∷◌, ◌++◌, length, get_or, take, bytes_eq, codes, refl, sym, ap, ◌∙◌}
use Rattle.std.specs.Borrow.{Bor}
use Rattle.std.specs.Option.{option_to_list}
use Rattle.std.proofs.lemmas.List.{take_more, map-append, append-nil}
use Rattle.std.proofs.lemmas.Grind.{flat_map-append}
use Rattle.circuit_model.specs.Names.{has}
use Rattle.circuit_checks.specs.Sets.{with_name, Alike}
use Rattle.circuit_checks.proofs.Naming.{has_append, has_with}
use Rattle.sis_text.specs.Entries.{Entry}
use Rattle.line_words.specs.LineWords.{texts, other_words}
use Rattle.genlib_format.specs.declared.gate.Gate.{Gate as TheGate}
use Rattle.blif_gates.specs.GateLines.{pins_of, signal_for}
use Rattle.blif_lines.specs.declared.keyword.Keyword.{Keyword}
use Rattle.blif_lines.specs.declared.keyword.Keyword.TheVariants.{Names, Latch, Gate, Row}
use Rattle.blif_lines.specs.Keyword.{kind_of}
use Rattle.blif_lines.specs.Reader.{driven_by, drives_in}
use Rattle.blif_models.specs.Flat.{Instance, outside, control_outside, latch_outside, line_outside, lines_outside, with_words}
use Rattle.blif_models.specs.Tables.{Adds, HoldsFor, is_timed, some_timed}

or_false : (b : Bool) → b ≡ (b || false)
or_false true = refl
or_false false = refl

or_assoc : (a b c : Bool) → ((a || b) || c) ≡ (a || (b || c))
or_assoc true b c = refl
or_assoc false b c = refl

pub adds_nothing : (old : List (List ℕ)) → Adds old old []
adds_nothing old name = or_false (has old name)

pub adds_one : (old new : List (List ℕ)) (one : List ℕ) → new ≡ with_name old one → Adds old new (one ∷ [])
adds_one old new one is name =
    ap (λ (set : List (List ℕ)). has set name) is ∙ has_with old one name ∙ ap (λ (b : Bool). has old name || b) (or_false (bytes_eq name one))

pub adds_some : (old new names : List (List ℕ)) (driven : Option (List ℕ)) (one : List ℕ) → driven ≡ Some one → option_to_list driven ≡ names → new ≡ with_name old one
    → Adds old new names
adds_some old new names driven one some is more name =
    adds_one old new one more name
    ∙ ap (λ (list : List (List ℕ)). has old name || has list name) (sym (ap (λ (o : Option (List ℕ)). option_to_list o) some) ∙ is)

pub adds_more : (old mid new some more : List (List ℕ)) → Adds old mid some → Adds mid new more → Adds old new (some ++ more)
adds_more old mid new some more first next name =
    next name
    ∙ ap (λ (b : Bool). b || has more name) (first name)
    ∙ or_assoc (has old name) (has some name) (has more name)
    ∙ ap (λ (b : Bool). has old name || b) (sym (has_append some more name))

-- other names that are alike
front_alike : (set front other back : List (List ℕ)) → Alike set (front ++ back) → Alike front other → Alike set (other ++ back)
front_alike set front other back alike same name =
    alike name ∙ has_append front back name ∙ ap (λ (b : Bool). b || has back name) (same name) ∙ sym (has_append other back name)

-- other names that are alike, where they are looked up
pub front_holds : (lines : List Entry) (set front other back : List (List ℕ)) → HoldsFor lines set (front ++ back) → Alike front other → HoldsFor lines set (other ++ back)
front_holds lines set front other back holds same timed = front_alike set front other back (holds timed) same

-- one more input
pub input_added : (words : List (Bor (List ℕ))) (i : ℕ) (d : Bor (List ℕ)) (copied : List ℕ) (old mid new : List (List ℕ)) → i < length words
    → copied ≡ (get_or words i d).now → new ≡ with_name mid copied → Adds old mid (texts (take i words)) → Adds old new (texts (take (i + 1) words))
input_added words i d copied old mid new lt same put begun =
    rw (take_more words i d lt, map-append (λ (word : Bor (List ℕ)). word.now) (take i words) (get_or words i d ∷ []))
    (adds_more old mid new (texts (take i words)) ((get_or words i d).now ∷ []) begun
    (adds_one mid new (get_or words i d).now (put ∙ ap (with_name mid) same)))

-- the signals of one more line
pub drives_added : (library : Option (List TheGate)) (lines : List Entry) (i : ℕ) (line : Entry) (old mid new : List (List ℕ)) → i < length lines → line ≡ get_or lines i line
    → Adds mid new (driven_by library (kind_of line) (other_words line.words)) → Adds old mid (drives_in library (take i lines)) → Adds old new (drives_in library (take (i + 1) lines))
unfolding drives_in
drives_added library lines i line old mid new lt is put begun =
    let more : take (i + 1) lines ≡ take i lines ++ line ∷ [] = take_more lines i line lt ∙ ap (λ (one : Entry). take i lines ++ one ∷ []) (sym is) in
    let split : drives_in library (take (i + 1) lines) ≡ drives_in library (take i lines) ++ driven_by library (kind_of line) (other_words line.words) =
    ap (drives_in library) more
    ∙ flat_map-append (λ (one : Entry). driven_by library (kind_of one) (other_words one.words)) (take i lines) (line ∷ [])
    ∙ ap (λ (rest : List (List ℕ)). drives_in library (take i lines) ++ rest) (append-nil (driven_by library (kind_of line) (other_words line.words))) in
    rw split (adds_more old mid new (drives_in library (take i lines)) (driven_by library (kind_of line) (other_words line.words)) begun put)

-- no signal before the first line
pub drives_begin : (library : Option (List TheGate)) (old : List (List ℕ)) → Adds old old (drives_in library [])
unfolding drives_in
drives_begin library old = adds_nothing old

-- all of them
pub controls_all : (start mid new inputs drives : List (List ℕ)) → start ≡ [] → Adds start mid inputs → Adds mid new drives → Alike new (inputs ++ drives)
controls_all start mid new inputs drives empty first next name =
    adds_more start mid new inputs drives first next name ∙ ap (λ (set : List (List ℕ)). has set name || has (inputs ++ drives) name) empty

-- which names a list of controls has is all that counts
module _ (path : List ℕ) (pairs one other : List (List ℕ)) (alike : Alike one other) where
  abbrev here : Instance
  here = record { path = path; pairs = pairs; controls = one }

  abbrev there : Instance
  there = record { path = path; pairs = pairs; controls = other }

  control_alike : (control : List ℕ) → control_outside here control ≡ control_outside there control
  unfolding control_outside outside
  control_alike control =
      ap (λ (b : Bool). if bytes_eq control (codes "NIL") || not b then control else (if has (pins_of pairs) control then signal_for pairs control else path ++ codes "." ++ control))
      (alike control)

  latch_alike : (words : List (List ℕ)) → latch_outside here words ≡ latch_outside there words
  unfolding outside
  latch_alike [] = refl
  latch_alike (input ∷ []) = refl
  latch_alike (input ∷ output ∷ []) = refl
  latch_alike (input ∷ output ∷ kind ∷ []) = refl
  latch_alike (input ∷ output ∷ kind ∷ control ∷ words) =
      ap (λ (name : List ℕ). outside here input ∷ outside here output ∷ kind ∷ name ∷ words) (control_alike control)

  line_alike : (kind : Keyword) (line : Entry) → line_outside here kind line ≡ line_outside there kind line
  unfolding outside
  line_alike Names line = refl
  line_alike Latch line = ap (λ (words : List (List ℕ)). with_words line words ∷ []) (latch_alike (other_words line.words))
  line_alike Gate line = refl
  line_alike Row line = refl
  line_alike kind line = refl

  lines_alike : (lines : List Entry) → lines_outside here lines ≡ lines_outside there lines
  unfolding lines_outside
  lines_alike [] = refl
  lines_alike (line ∷ lines) =
      ap (λ (front : List Entry). front ++ lines_outside here lines) (line_alike (kind_of line) line)
      ∙ ap (λ (rest : List Entry). line_outside there (kind_of line) line ++ rest) (lines_alike lines)

-- without a latch that has a control, no list of controls counts
module _ (path : List ℕ) (pairs one other : List (List ℕ)) where
  abbrev first : Instance
  first = record { path = path; pairs = pairs; controls = one }

  abbrev second : Instance
  second = record { path = path; pairs = pairs; controls = other }

  latch_untimed : (words : List (List ℕ)) → is_timed Latch words ≡ false → latch_outside first words ≡ latch_outside second words
  unfolding outside
  latch_untimed [] e = refl
  latch_untimed (input ∷ []) e = refl
  latch_untimed (input ∷ output ∷ []) e = refl
  latch_untimed (input ∷ output ∷ kind ∷ []) e = refl
  latch_untimed (input ∷ output ∷ kind ∷ control ∷ words) e = absurd (let off = e in cc)

  line_untimed : (kind : Keyword) (line : Entry) → is_timed kind (other_words line.words) ≡ false → line_outside first kind line ≡ line_outside second kind line
  unfolding outside
  line_untimed Names line e = refl
  line_untimed Latch line e = ap (λ (words : List (List ℕ)). with_words line words ∷ []) (latch_untimed (other_words line.words) e)
  line_untimed Gate line e = refl
  line_untimed Row line e = refl
  line_untimed kind line e = refl

  lines_untimed : (lines : List Entry) → some_timed lines ≡ false → lines_outside first lines ≡ lines_outside second lines
  unfolding lines_outside some_timed
  lines_untimed [] e = refl
  lines_untimed (line ∷ lines) e = by (is_timed (kind_of line) (other_words line.words)) refl e (λ none. lines_untimed lines none)
    where
      by : (b : Bool) → is_timed (kind_of line) (other_words line.words) ≡ b → (b || some_timed lines) ≡ false → (some_timed lines ≡ false → lines_outside first lines ≡ lines_outside second lines)
          → lines_outside first (line ∷ lines) ≡ lines_outside second (line ∷ lines)
      by true is none rest = absurd (let off = none in cc)
      by false is none rest =
          ap (λ (front : List Entry). front ++ lines_outside first lines) (line_untimed (kind_of line) line is)
          ∙ ap (λ (back : List Entry). line_outside second (kind_of line) line ++ back) (rest none)

  -- the names that are looked up are all that counts
  pub lines_hold : (lines : List Entry) → HoldsFor lines one other → lines_outside first lines ≡ lines_outside second lines
  lines_hold lines holds = by (some_timed lines) refl
    where
      by : (b : Bool) → some_timed lines ≡ b → lines_outside first lines ≡ lines_outside second lines
      by true is = lines_alike path pairs one other (holds is) lines
      by false is = lines_untimed lines is
