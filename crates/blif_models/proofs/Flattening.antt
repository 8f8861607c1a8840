-- The lines of a model, item by item.
use Rattle.std.proofs.Common.{◌≡◌, ℕ, zero, suc, ◌+◌, ◌-◌, ◌<◌, ◌≤◌, Bool, true, false, if◌then◌else◌, Option, List, [], ◌∷◌, ◌++◌, length, get_or, drop, map, refl, sym, ap, ◌∙◌, append_assoc, arith}
use Rattle.std.proofs.lemmas.List.{drop_all, append-nil}
use Rattle.std.specs.List.{drop-map}
use Rattle.circuit_checks.specs.Sets.{Alike}
use Rattle.kiss_format.proofs.Walk.{entries_left}
use Rattle.sis_text.specs.declared.places.Line.{Line}
use Rattle.sis_text.specs.Entries.{Entry, entry_at}
use Rattle.genlib_format.specs.declared.gate.Gate.{Gate as TheGate}
use Rattle.blif_lines.specs.Reader.{drives_in}
use Rattle.blif_models.specs.Files.{lines_at}
use Rattle.blif_models.specs.Models.{is_instance, model_of, pairs_of}
use Rattle.blif_models.specs.Ports.{ports_of}
use Rattle.blif_models.specs.Flat.{Instance, path_word, lines_outside, numbered, from_instances, flat_lines}
use Rattle.blif_models.specs.Tables.{HoldsFor, put_lines, item_lines, place_after, lines_from}
use Rattle.blif_models.specs.declared.limits.TheConstants.{MAX_DEPTH}
use Rattle.blif_models.proofs.Controls.{front_holds, lines_hold}

module _ (library : Option (List TheGate)) (models : List (List Entry)) where
  -- a model as its items
  pub flat_from : (depth : ℕ) (lines : List Entry) → flat_lines library models (suc depth) lines ≡ lines_from library models depth 0 lines
  unfolding flat_lines from_instances lines_from
  flat_from depth lines = refl

  pub flat_zero : (depth : ℕ) (lines : List Entry) → depth ≡ 0 → [] ≡ flat_lines library models depth lines
  unfolding flat_lines
  flat_zero depth lines e = sym (ap (λ (d : ℕ). flat_lines library models d lines) e)

  flat_some : (depth : ℕ) (lines : List Entry) → (depth ≡ 0 → ⊥) → flat_lines library models depth lines ≡ lines_from library models (depth - 1) 0 lines
  flat_some zero lines h = absurd (h refl)
  flat_some (suc depth) lines h =
      let same : depth ≡ suc depth - 1 = omega arith in
      flat_from depth lines ∙ ap (λ (d : ℕ). lines_from library models d 0 lines) same

  -- one item more
  from_more : (depth place : ℕ) (line : Entry) (lines : List Entry)
      → lines_from library models depth place (line ∷ lines) ≡ item_lines library models depth place line ++ lines_from library models depth (place_after place line) lines
  unfolding lines_from numbered
  from_more depth place line lines = refl

  from_none : (depth place : ℕ) → lines_from library models depth place [] ≡ []
  unfolding lines_from numbered
  from_none depth place = refl

  pub from_left : (depth place : ℕ) (text : List ℕ) (lines : List Line) (i : ℕ) (line : Line) → i < length lines → line ≡ get_or lines i line
      → lines_from library models depth place (drop i (lines_at text lines))
      ≡ item_lines library models depth place (entry_at text line) ++ lines_from library models depth (place_after place (entry_at text line)) (drop (i + 1) (lines_at text lines))
  from_left depth place text lines i line lt is =
      ap (lines_from library models depth place) (entries_left text lines i line lt is) ∙ from_more depth place (entry_at text line) (drop (i + 1) (lines_at text lines))

  pub from_next : (depth place next : ℕ) (text : List ℕ) (lines : List Line) (i : ℕ) (line : Line) → i < length lines → line ≡ get_or lines i line
      → next ≡ place_after place (entry_at text line)
      → lines_from library models depth place (drop i (lines_at text lines))
      ≡ item_lines library models depth place (entry_at text line) ++ lines_from library models depth next (drop (i + 1) (lines_at text lines))
  from_next depth place next text lines i line lt is step =
      from_left depth place text lines i line lt is
      ∙ ap (λ (n : ℕ). item_lines library models depth place (entry_at text line) ++ lines_from library models depth n (drop (i + 1) (lines_at text lines))) (sym step)

  pub from_end : (depth place : ℕ) (text : List ℕ) (lines : List Line) (i : ℕ) → length lines ≤ i → lines_from library models depth place (drop i (lines_at text lines)) ≡ []
  from_end depth place text lines i ge =
      ap (lines_from library models depth place) (drop-map (entry_at text) i lines ∙ ap (map (entry_at text)) (drop_all i lines ge)) ∙ from_none depth place

  -- the loop over the lines of a model
  pub flat_goes_on : (depth place next : ℕ) (text : List ℕ) (lines : List Line) (i : ℕ) (line : Line) (flat after whole : List Entry) → i < length lines → line ≡ get_or lines i line
      → after ≡ flat ++ item_lines library models depth place (entry_at text line) → next ≡ place_after place (entry_at text line)
      → flat ++ lines_from library models depth place (drop i (lines_at text lines)) ≡ whole → after ++ lines_from library models depth next (drop (i + 1) (lines_at text lines)) ≡ whole
  flat_goes_on depth place next text lines i line flat after whole lt is put step begun =
      ap (λ (front : List Entry). front ++ lines_from library models depth next (drop (i + 1) (lines_at text lines))) put
      ∙ ap (λ (n : ℕ). (flat ++ item_lines library models depth place (entry_at text line)) ++ lines_from library models depth n (drop (i + 1) (lines_at text lines))) step
      ∙ append_assoc flat (item_lines library models depth place (entry_at text line)) (lines_from library models depth (place_after place (entry_at text line)) (drop (i + 1) (lines_at text lines)))
      ∙ ap (λ (rest : List Entry). flat ++ rest) (sym (from_left depth place text lines i line lt is))
      ∙ begun

  pub flat_begins : (depth : ℕ) (lines flat : List Entry) → flat ≡ [] → (depth ≡ 0 → ⊥) → flat ++ lines_from library models (depth - 1) 0 lines ≡ flat_lines library models depth lines
  flat_begins depth lines flat none h = ap (λ (front : List Entry). front ++ lines_from library models (depth - 1) 0 lines) none ∙ sym (flat_some depth lines h)

  pub flat_ends : (depth place : ℕ) (text : List ℕ) (lines : List Line) (i : ℕ) (flat whole : List Entry) → length lines ≤ i
      → flat ++ lines_from library models depth place (drop i (lines_at text lines)) ≡ whole → flat ≡ whole
  flat_ends depth place text lines i flat whole ge begun =
      sym (append-nil flat)
      ∙ ap (λ (rest : List Entry). flat ++ rest) (sym (from_end depth place text lines i ge))
      ∙ begun

  pub flat_whole : (lines : List Entry) → lines_from library models MAX_DEPTH 0 lines ≡ flat_lines library models (MAX_DEPTH + 1) lines
  flat_whole lines = sym (flat_from MAX_DEPTH lines)

  -- the lines of an instance, with a set of the signals after which a control is named
  pub put_by : (instance : Instance) (place : ℕ) (line : Entry) (inner : List Entry) (set inputs : List (List ℕ))
      → instance ≡ record { path = path_word (model_of line) place; pairs = pairs_of line; controls = set }
      → HoldsFor inner set (inputs ++ drives_in library inner) → Alike inputs (ports_of library models (model_of line)).inputs
      → lines_outside instance inner ≡ put_lines library models place line inner
  put_by instance place line inner set inputs is holds ports =
      ap (λ (one : Instance). lines_outside one inner) is
      ∙ lines_hold (path_word (model_of line) place) (pairs_of line) set ((ports_of library models (model_of line)).inputs ++ drives_in library inner) inner
      (front_holds inner set inputs (ports_of library models (model_of line)).inputs (drives_in library inner) holds ports)

-- the number of instances so far
pub place_within : (line : Entry) (place i next : ℕ) → place ≤ i → next ≡ place_after place line → next ≤ i + 1
place_within line place i next le e = by (is_instance line) e
  where
    by : (b : Bool) → next ≡ (if b then place + 1 else place) → next ≤ i + 1
    by true same = omega (arith, same)
    by false same = omega (arith, same)
