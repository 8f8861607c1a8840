-- Names made in parts, and what is made in all.
use Rattle.std.proofs.Common.{◌≡◌, ℕ, zero, suc, ◌+◌, ◌-◌, ◌<◌, ◌≤◌, ◌==◌, nat_lt, Bool, true, false, not, cond, if◌then◌else◌, Option, Some, None, option_map, Result, Ok, Err, List, [], ◌∷◌, ◌++◌, length, get_or, take, drop, map, find, refl, sym, ap, ◌∙◌, append_assoc, subst, arith}
use Rattle.std.specs.List.{filter, drop-map, take-map}
use Rattle.std.proofs.lemmas.List.{drop_more, drop_all, append-nil, map-append, take_more, take_all, take-append-le, length-map}
use Rattle.kiss_format.proofs.Walk.{entries_left}
use Rattle.sis_text.specs.declared.places.Line.{Line}
use Rattle.sis_text.specs.Entries.{Entry, entry_at}
use Rattle.line_words.specs.LineWords.{long_name}
use Rattle.genlib_format.specs.declared.gate.Gate.{Gate as TheGate}
use Rattle.blif_lines.specs.declared.fault.LimitKind.TheVariants as limit
use Rattle.blif_lines.specs.declared.fault.BlifFault.{BlifFault}
use Rattle.blif_lines.specs.declared.fault.BlifFault.TheVariants.{Limit}
use Rattle.sis_text.specs.declared.read_fault.ReadFault.{ReadFault}
use Rattle.sis_text.specs.declared.read_fault.ReadFault.TheVariants.{Fault, Memory}
use Rattle.blif_lines.specs.Lines.{long_fault}
use Rattle.blif_lines.specs.Reader.{unless}
use Rattle.blif_models.specs.Files.{lines_at}
use Rattle.blif_models.specs.Models.{is_instance, model_of, body_of, size_of}
use Rattle.blif_models.specs.Flat.{Instance, is_formal, outside, numbered, from_instances, instance_of, flat_lines}
use Rattle.blif_models.specs.Made.{signals_in, made_by, made_in}
use Rattle.blif_models.specs.Instances.{instance_in, frames_in}
use Rattle.blif_models.specs.declared.instance.Instance.{Instance as Kept}
use Rattle.blif_models.specs.Tables.{place_after}
use Rattle.blif_models.specs.Makings.{after_made, make_one, make_all, Makes, IsMade, outside_all, own_names, bare_instance, item_names, names_from}
use Rattle.sis_base.specs.declared.limits.TheConstants.{MAX_NAME}

-- names after others are made after them
made_behind : (front back made : List (List ℕ)) → make_all made (front ++ back) ≡ after_made (make_all made front) (λ next. make_all next back)
unfolding make_all
made_behind [] back made = refl
made_behind (name ∷ front) back made = by (make_one made name) (λ next. made_behind front back next)
  where
    by : (step : Result (List (List ℕ)) BlifFault) → ((next : List (List ℕ)) → make_all next (front ++ back) ≡ after_made (make_all next front) (λ last. make_all last back))
        → after_made step (λ next. make_all next (front ++ back)) ≡ after_made (after_made step (λ next. make_all next front)) (λ next. make_all next back)
    by (Ok next) rest = rest next
    by (Err fault) rest = refl

-- a part that is made
pub part_made : (made next front back all : List (List ℕ)) (whole : Result (List (List ℕ)) BlifFault) → all ≡ front ++ back → make_all made front ≡ Ok next → make_all made all ≡ whole
    → make_all next back ≡ whole
part_made made next front back all whole split taken begun =
    sym (ap (λ (r : Result (List (List ℕ)) BlifFault). after_made r (λ last. make_all last back)) taken)
    ∙ sym (made_behind front back made)
    ∙ sym (ap (make_all made) split)
    ∙ begun

-- a part with a name that is too long
front_unmade : (fault : ReadFault BlifFault) (made next front back : List (List ℕ)) → Makes (Err fault) next (make_all made front) → Makes (Err fault) next (make_all made (front ++ back))
front_unmade (Fault fault) made next front back h =
    made_behind front back made ∙ ap (λ (r : Result (List (List ℕ)) BlifFault). after_made r (λ last. make_all last back)) h
front_unmade Memory made next front back h = tt

pub part_unmade : (fault : ReadFault BlifFault) (made next front back all : List (List ℕ)) (whole : Result (List (List ℕ)) BlifFault) → all ≡ front ++ back
    → Makes (Err fault) next (make_all made front) → make_all made all ≡ whole → Makes (Err fault) next whole
part_unmade fault made next front back all whole split failed begun =
    subst (Makes (Err fault) next) (sym (ap (make_all made) split) ∙ begun) (front_unmade fault made next front back failed)

-- the last part
pub rest_made : (answer : Result (Unit {0}) (ReadFault BlifFault)) (made mid next front back all : List (List ℕ)) → all ≡ front ++ back → make_all made front ≡ Ok mid
    → Makes answer next (make_all mid back) → Makes answer next (make_all made all)
rest_made answer made mid next front back all split taken last =
    subst (Makes answer next)
    (sym (ap (make_all made) split ∙ made_behind front back made ∙ ap (λ (r : Result (List (List ℕ)) BlifFault). after_made r (λ one. make_all one back)) taken)) last

-- nothing left
pub none_unmade : (made all : List (List ℕ)) (whole : Result (List (List ℕ)) BlifFault) → all ≡ [] → make_all made all ≡ whole → whole ≡ Ok made
unfolding make_all
none_unmade made all whole none begun = sym begun ∙ ap (make_all made) none

pub nothing_made : (made all : List (List ℕ)) → all ≡ [] → make_all made all ≡ Ok made
unfolding make_all
nothing_made made all none = ap (make_all made) none

-- a name alone
pub alone_made : (answer : Result (Unit {0}) (ReadFault BlifFault)) (made next all : List (List ℕ)) (name : List ℕ) → all ≡ name ∷ [] → Makes answer next (make_one made name)
    → Makes answer next (make_all made all)
unfolding make_all
alone_made answer made next all name is took = subst (Makes answer next) (sym (ap (make_all made) is ∙ by (make_one made name))) took
  where
    by : (step : Result (List (List ℕ)) BlifFault) → after_made step (λ (last : List (List ℕ)). Ok last) ≡ step
    by (Ok last) = refl
    by (Err fault) = refl

-- all of them
made_unless : (names made : List (List ℕ)) → make_all made names ≡ unless (long_fault names) (made ++ names)
unfolding make_all make_one long_name
made_unless [] made = ap (λ (list : List (List ℕ)). Ok list) (sym (append-nil made))
made_unless (name ∷ names) made =
    by (nat_lt MAX_NAME (length name)) (find (λ (one : List ℕ). nat_lt MAX_NAME (length one)) names)
    (made_unless names (made ++ name ∷ []) ∙ ap (unless (long_fault names)) (append_assoc made (name ∷ []) names))
  where
    by : (b : Bool) (found : Option (List ℕ))
        → make_all (made ++ name ∷ []) names ≡ unless (option_map (λ (len : ℕ). Limit limit.Name len) (option_map (λ (one : List ℕ). length one) found)) (made ++ name ∷ names)
        → after_made (if b then Err (Limit limit.Name (length name)) else Ok (made ++ name ∷ [])) (λ next. make_all next names)
        ≡ unless (option_map (λ (len : ℕ). Limit limit.Name len) (option_map (λ (one : List ℕ). length one) (cond b (Some name) found))) (made ++ name ∷ names)
    by true found e = refl
    by false found e = e

pub all_made : (start made names : List (List ℕ)) → start ≡ [] → make_all start names ≡ Ok made → (made ≡ names) × (long_fault names ≡ None)
all_made start made names none e =
    by (long_fault names) refl (sym (made_unless names start ∙ ap (λ (front : List (List ℕ)). unless (long_fault names) (front ++ names)) none) ∙ e)
  where
    by : (o : Option BlifFault) → long_fault names ≡ o → unless o names ≡ Ok made → (made ≡ names) × (long_fault names ≡ None)
    by None is same = (let back = sym same in cc, is)
    by (Some fault) is same = absurd (let off = same in cc)

pub none_made : (fault : ReadFault BlifFault) (start next names : List (List ℕ)) → start ≡ [] → Makes (Err fault) next (make_all start names) → IsMade (Err fault) names
none_made (Fault fault) start next names none e =
    by (long_fault names) refl (sym (made_unless names start ∙ ap (λ (front : List (List ℕ)). unless (long_fault names) (front ++ names)) none) ∙ e)
  where
    by : (o : Option BlifFault) → long_fault names ≡ o → unless o names ≡ Err fault → long_fault names ≡ Some fault
    by None is same = absurd (let off = same in cc)
    by (Some one) is same = is ∙ (let back = same in cc)
none_made Memory start next names none e = tt

-- the instance last of those around
pub outside_last : (frames : List Instance) (last : Instance) (name : List ℕ) → outside_all (frames ++ last ∷ []) name ≡ outside_all frames (outside last name)
unfolding outside_all
outside_last [] last name = refl
outside_last (frame ∷ frames) last name = ap (outside frame) (outside_last frames last name)

pub outside_done : (name : List ℕ) → outside_all [] name ≡ name
unfolding outside_all
outside_done name = refl

map_map : (f g : List ℕ → List ℕ) (names : List (List ℕ)) → map f (map g names) ≡ map (λ name. f (g name)) names
map_map f g [] = refl
map_map f g (name ∷ names) = ap (λ (rest : List (List ℕ)). f (g name) ∷ rest) (map_map f g names)

map_same : (f g : List ℕ → List ℕ) → ((name : List ℕ) → f name ≡ g name) → (names : List (List ℕ)) → map f names ≡ map g names
map_same f g h [] = refl
map_same f g h (name ∷ names) = rw (h name, map_same f g h names) refl

-- the own signals of an instance
own_append : (frames : List Instance) (instance : Instance) (front back : List (List ℕ)) → own_names frames instance (front ++ back) ≡ own_names frames instance front ++ own_names frames instance back
own_append frames instance [] back = refl
own_append frames instance (name ∷ front) back = by (is_formal instance name) (own_append frames instance front back)
  where
    named : List (List ℕ) → List (List ℕ)
    named = λ names. map (λ signal. outside_all frames (outside instance signal)) names

    by : (b : Bool) → own_names frames instance (front ++ back) ≡ own_names frames instance front ++ own_names frames instance back
        → map (λ signal. outside_all frames (outside instance signal)) (if not b then name ∷ filter (λ signal. not (is_formal instance signal)) (front ++ back) else filter (λ signal. not (is_formal instance signal)) (front ++ back))
        ≡ map (λ signal. outside_all frames (outside instance signal)) (if not b then name ∷ filter (λ signal. not (is_formal instance signal)) front else filter (λ signal. not (is_formal instance signal)) front)
        ++ own_names frames instance back
    by true e = e
    by false e = ap (λ (rest : List (List ℕ)). outside_all frames (outside instance name) ∷ rest) e

pub own_left : (frames : List Instance) (instance : Instance) (signals : List (List ℕ)) (i : ℕ) (signal : List ℕ) → i < length signals → signal ≡ get_or signals i signal
    → own_names frames instance (drop i signals) ≡ own_names frames instance (signal ∷ []) ++ own_names frames instance (drop (i + 1) signals)
own_left frames instance signals i signal lt is =
    ap (own_names frames instance) (drop_more signals i signal lt ∙ ap (λ (one : List ℕ). one ∷ drop (i + 1) signals) (sym is))
    ∙ own_append frames instance (signal ∷ []) (drop (i + 1) signals)

pub own_end : (frames : List Instance) (instance : Instance) (signals : List (List ℕ)) (i : ℕ) → length signals ≤ i → own_names frames instance (drop i signals) ≡ []
own_end frames instance signals i ge = ap (own_names frames instance) (drop_all i signals ge)

pub own_formal : (frames : List Instance) (instance : Instance) (signal : List ℕ) → is_formal instance signal ≡ true → own_names frames instance (signal ∷ []) ≡ []
own_formal frames instance signal e = rw e refl

pub own_other : (frames : List Instance) (instance : Instance) (signal : List ℕ) → is_formal instance signal ≡ false
    → own_names frames instance (signal ∷ []) ≡ outside_all frames (outside instance signal) ∷ []
own_other frames instance signal e = rw e refl

module _ (library : Option (List TheGate)) (models : List (List Entry)) where
  made_from : (depth : ℕ) (lines : List Entry) → made_in library models (suc depth) lines ≡ names_from library models depth 0 lines
  unfolding made_in from_instances names_from
  made_from depth lines = refl

  pub made_zero : (depth : ℕ) (lines : List Entry) → depth ≡ 0 → made_in library models depth lines ≡ []
  unfolding made_in
  made_zero depth lines e = ap (λ (d : ℕ). made_in library models d lines) e

  pub made_some : (depth : ℕ) (lines : List Entry) → (depth ≡ 0 → ⊥) → made_in library models depth lines ≡ names_from library models (depth - 1) 0 lines
  made_some zero lines h = absurd (h refl)
  made_some (suc depth) lines h =
      let same : depth ≡ suc depth - 1 = omega arith in
      made_from depth lines ∙ ap (λ (d : ℕ). names_from library models d 0 lines) same

  names_more : (depth place : ℕ) (line : Entry) (lines : List Entry)
      → names_from library models depth place (line ∷ lines) ≡ item_names library models depth place line ++ names_from library models depth (place_after place line) lines
  unfolding names_from numbered
  names_more depth place line lines = refl

  names_none : (depth place : ℕ) → names_from library models depth place [] ≡ []
  unfolding names_from numbered
  names_none depth place = refl

  pub names_left : (frames : List Instance) (depth place next : ℕ) (text : List ℕ) (lines : List Line) (i : ℕ) (line : Line) → i < length lines → line ≡ get_or lines i line
      → next ≡ place_after place (entry_at text line)
      → map (outside_all frames) (names_from library models depth place (drop i (lines_at text lines)))
      ≡ map (outside_all frames) (item_names library models depth place (entry_at text line)) ++ map (outside_all frames) (names_from library models depth next (drop (i + 1) (lines_at text lines)))
  names_left frames depth place next text lines i line lt is step =
      ap (λ (left : List Entry). map (outside_all frames) (names_from library models depth place left)) (entries_left text lines i line lt is)
      ∙ ap (map (outside_all frames)) (names_more depth place (entry_at text line) (drop (i + 1) (lines_at text lines)))
      ∙ map-append (outside_all frames) (item_names library models depth place (entry_at text line)) (names_from library models depth (place_after place (entry_at text line)) (drop (i + 1) (lines_at text lines)))
      ∙ ap (λ (n : ℕ). map (outside_all frames) (item_names library models depth place (entry_at text line)) ++ map (outside_all frames) (names_from library models depth n (drop (i + 1) (lines_at text lines)))) (sym step)

  pub names_end : (frames : List Instance) (depth place : ℕ) (text : List ℕ) (lines : List Line) (i : ℕ) → length lines ≤ i
      → map (outside_all frames) (names_from library models depth place (drop i (lines_at text lines))) ≡ []
  names_end frames depth place text lines i ge =
      ap (λ (left : List Entry). map (outside_all frames) (names_from library models depth place left)) (drop-map (entry_at text) i lines ∙ ap (map (entry_at text)) (drop_all i lines ge))
      ∙ ap (map (outside_all frames)) (names_none depth place)

  -- what a line adds
  pub names_other : (depth place : ℕ) (line : Entry) → is_instance line ≡ false → item_names library models depth place line ≡ []
  names_other depth place line e = rw e refl

  pub names_empty : (depth place : ℕ) (line : Entry) → is_instance line ≡ true → (size_of models (model_of line) == 0) ≡ true → item_names library models depth place line ≡ []
  names_empty depth place line e size = rw (e, size) refl

  names_put : (depth place : ℕ) (line : Entry) (body : List Entry) → is_instance line ≡ true → (size_of models (model_of line) == 0) ≡ false → body ≡ body_of models (model_of line)
      → item_names library models depth place line ≡ made_by (instance_of library models place line (flat_lines library models depth body)) (signals_in body) (made_in library models depth body)
  names_put depth place line body e size is = rw (e, size, is) refl

  -- an instance's own names, then those within it
  made_split : (frames : List Instance) (place : ℕ) (line : Entry) (inner : List Entry) (own within : List (List ℕ))
      → map (outside_all frames) (made_by (instance_of library models place line inner) own within)
      ≡ own_names frames (bare_instance place line) own ++ map (outside_all (frames ++ bare_instance place line ∷ [])) within
  unfolding made_by outside
  made_split frames place line inner own within =
      ap (map (outside_all frames)) (map-append (outside (bare_instance place line)) kept within)
      ∙ map-append (outside_all frames) (map (outside (bare_instance place line)) kept) (map (outside (bare_instance place line)) within)
      ∙ ap (λ (front : List (List ℕ)). front ++ map (outside_all frames) (map (outside (bare_instance place line)) within)) (map_map (outside_all frames) (outside (bare_instance place line)) kept)
      ∙ ap (λ (back : List (List ℕ)). own_names frames (bare_instance place line) own ++ back) (
      map_map (outside_all frames) (outside (bare_instance place line)) within
      ∙ map_same (λ name. outside_all frames (outside (bare_instance place line) name)) (outside_all (frames ++ bare_instance place line ∷ [])) (λ name. sym (outside_last frames (bare_instance place line) name)) within
      )
    where
      kept : List (List ℕ)
      kept = filter (λ signal. not (is_formal (bare_instance place line) signal)) own

  pub names_split : (frames : List Instance) (depth place : ℕ) (line : Entry) (body : List Entry) → is_instance line ≡ true → (size_of models (model_of line) == 0) ≡ false → body ≡ body_of models (model_of line)
      → map (outside_all frames) (item_names library models depth place line)
      ≡ own_names frames (bare_instance place line) (signals_in body) ++ map (outside_all (frames ++ bare_instance place line ∷ [])) (made_in library models depth body)
  names_split frames depth place line body e size is =
      ap (map (outside_all frames)) (names_put depth place line body e size is)
      ∙ made_split frames place line (flat_lines library models depth body) (signals_in body) (made_in library models depth body)

-- one instance further out
pub frame_more : (frames : List Kept) (left next : ℕ) (frame : Kept) (name outer whole : List ℕ) → next + 1 ≡ left → left ≤ length frames → frame ≡ get_or frames next frame
    → outer ≡ outside (instance_in frame) name → outside_all (frames_in (take left frames)) name ≡ whole → outside_all (frames_in (take next frames)) outer ≡ whole
frame_more frames left next frame name outer whole step within is put begun =
    ap (outside_all (frames_in (take next frames))) put
    ∙ sym (outside_last (frames_in (take next frames)) (instance_in frame) name)
    ∙ ap (λ (some : List Instance). outside_all some name) (sym more)
    ∙ begun
  where
    more : frames_in (take left frames) ≡ frames_in (take next frames) ++ instance_in frame ∷ []
    more =
        let lt : next < length frames = omega arith in
        ap (λ (n : ℕ). frames_in (take n frames)) (sym step)
        ∙ ap frames_in (take_more frames next frame lt)
        ∙ map-append instance_in (take next frames) (get_or frames next frame ∷ [])
        ∙ ap (λ (one : Kept). frames_in (take next frames) ++ instance_in one ∷ []) (sym is)

pub frame_none : (frames : List Kept) (left : ℕ) (name whole : List ℕ) → left ≤ 0 → outside_all (frames_in (take left frames)) name ≡ whole → name ≡ whole
frame_none frames left name whole none begun =
    let zero : left ≡ 0 = omega arith in
    sym (outside_done name) ∙ ap (λ (n : ℕ). outside_all (frames_in (take n frames)) name) (sym zero) ∙ begun

pub frame_begins : (frames : List Kept) (left : ℕ) (name signal : List ℕ) → left ≡ length frames → name ≡ signal
    → (left ≤ length frames) × (outside_all (frames_in (take left frames)) name ≡ outside_all (frames_in frames) signal)
frame_begins frames left name signal many is =
    let most : length frames ≤ left = omega (arith, many) in (
      omega (arith, many),
      ap (λ (some : List Kept). outside_all (frames_in some) name) (take_all left frames most) ∙ ap (outside_all (frames_in frames)) is,
    )

-- an own signal of an instance
pub signal_made : (answer : Result (Unit {0}) (ReadFault BlifFault)) (frames : List Instance) (instance : Instance) (signal name : List ℕ) (made next : List (List ℕ)) → is_formal instance signal ≡ false
    → name ≡ outside_all frames (outside instance signal) → Makes answer next (make_one made name) → Makes answer next (make_all made (own_names frames instance (signal ∷ [])))
signal_made answer frames instance signal name made next e is took =
    alone_made answer made next (own_names frames instance (signal ∷ [])) name (own_other frames instance signal e ∙ ap (λ (one : List ℕ). one ∷ []) (sym is)) took

-- no instance around
pub outer_none : (frames : List Instance) (names : List (List ℕ)) → frames ≡ [] → map (outside_all frames) names ≡ names
unfolding outside_all
outer_none frames names none = ap (λ (some : List Instance). map (outside_all some) names) none ∙ all names
  where
    all : (list : List (List ℕ)) → map (outside_all []) list ≡ list
    all [] = refl
    all (name ∷ list) = ap (λ (rest : List (List ℕ)). name ∷ rest) (all list)

-- both parts are made
pub both_made : (made mid next front back all : List (List ℕ)) → all ≡ front ++ back → make_all made front ≡ Ok mid → make_all mid back ≡ Ok next → make_all made all ≡ Ok next
both_made made mid next front back all split taken last =
    ap (make_all made) split ∙ made_behind front back made ∙ ap (λ (r : Result (List (List ℕ)) BlifFault). after_made r (λ one. make_all one back)) taken ∙ last

-- the instances around, after the last is taken off
pub frames_cut : (frames rest cut : List Kept) (count : ℕ) (last : Instance) → cut ≡ take count rest → count ≡ length frames → frames_in rest ≡ frames_in frames ++ last ∷ []
    → frames_in cut ≡ frames_in frames
frames_cut frames rest cut count last is many grown =
    let most : count ≤ length (frames_in frames) = omega (arith, many, length-map frames instance_in) in
    let least : length (frames_in frames) ≤ count = omega (arith, many, length-map frames instance_in) in
    ap frames_in is
    ∙ sym (take-map instance_in count rest)
    ∙ ap (take count) grown
    ∙ take-append-le count (frames_in frames) (last ∷ []) most
    ∙ take_all count (frames_in frames) least
