-- A step at a table of single literals: its first literals become the part; the others, with the
-- literal of the part's signal, become the rewritten table.
use Rattle.std.proofs.Common.{◌≡◌, ℕ, ◌+◌, ◌<◌, ◌≤◌, zero, suc, Bool, true, false, eqb, ltb, leb, Option, Some, None, List, [], ◌∷◌, ◌++◌, length, map, take, drop, replicate, set, refl, sym, ap, ap₂, ◌∙◌, subst, arith}
use Rattle.std.specs.List.{AllByRecursion, list_any}
use Rattle.std.proofs.lemmas.Bool.{false≢true, or_from, lt-leb, lt-ltb}
use Rattle.std.proofs.lemmas.List.{map-append, length-append, length-map, length-set, length-replicate, length-take-le, take-append-drop, set-append_left}
use Rattle.std.proofs.Math.Seq.{take-append_seam, drop-append_seam}
use Rattle.sis_base.specs.Rows.{HasWidth}
use Rattle.circuit_model.specs.Names.{has, all_different}
use Rattle.circuit_model.specs.declared.circuit.Tri.{Tri}
use Rattle.circuit_model.specs.declared.circuit.Tri.TheVariants.{One, Free}
use Rattle.circuit_model.specs.declared.circuit.Table.{Table}
use Rattle.circuit_laws.proofs.Names.{has_not}
use Rattle.circuit_laws.proofs.Sound.{all_parts, one_more}
use Rattle.circuit_tables.specs.Tidy.{rows_differ, used_places, some_row_or_phase_one, chosen, narrowed, tidied}
use Rattle.circuit_tables.proofs.Tidied.{chosen_has, tidied_once, tidied_shaped, tidied_tidy, tidy_parts}
use Rattle.cube_cover.specs.Literals.{row_literals, all_dashes, some_dashes}
use Rattle.net_core.specs.Tables.{characters_of, places_of, character_of}
use Rattle.net_core.proofs.Rows.{all_characters_back, characters_back, places_back, width_of_characters}
use Rattle.net_decomp.specs.Partings.{Parting, rows_of, part_table, parted_table}
use Rattle.net_decomp.specs.Rules.{padded, signal_row, is_long, sum_parting, is_gate, gate_parting, IsDecomposable}
use Rattle.net_decomp.specs.declared.rule.Rule.{Rule}
use Rattle.net_decomp.specs.declared.rule.Rule.TheVariants.{Gates}
use Rattle.net_decomp.specs.declared.sums.Literal.{Literal}
use Rattle.net_decomp.specs.Sums.{single_row, sum_rows, sum_table, IsBelow}
use Rattle.net_decomp.proofs.Counted.{none_dashes}
use Rattle.net_decomp.proofs.TidyRows.{within_itself, used_length, only_narrowed, tidied_chosen, AreLong, wider, signal, wider_differ, differ_parts, chosen_behind, chosen_wider, within_wider, AreOnes, ones_chosen, part_within}

-- single literals, over one more name
abbrev dashes : ℕ → List (Option Bool)
dashes width = replicate width None

dashes_more : (width : ℕ) → dashes (suc width) ≡ dashes width ++ None ∷ []
dashes_more zero = refl
dashes_more (suc width) = ap (λ (row : List (Option Bool)). None ∷ row) (dashes_more width)

dashes_length : (width : ℕ) → length (dashes width) ≡ width
dashes_length width = length-replicate width None

pub dashes_characters : (width : ℕ) → characters_of (dashes width) ≡ replicate width Free
dashes_characters zero = refl
dashes_characters (suc width) = ap (λ (row : List Tri). Free ∷ row) (dashes_characters width)

dashes_count : (width : ℕ) → row_literals (dashes width) ≡ 0
unfolding row_literals
dashes_count zero = refl
dashes_count (suc width) = ap (λ (n : ℕ). 0 + n) (dashes_count width)

single_more : (width : ℕ) (literal : Literal) → IsBelow width literal → single_row (suc width) literal ≡ single_row width literal ++ None ∷ []
single_more width literal below =
    ap (λ (row : List (Option Bool)). set row literal.place (Some literal.bit)) (dashes_more width)
    ∙ set-append_left (dashes width) (None ∷ []) literal.place (Some literal.bit) (omega (arith, below, dashes_length width))

single_wider : (width : ℕ) (literal : Literal) → IsBelow width literal → characters_of (single_row (suc width) literal) ≡ wider (characters_of (single_row width literal))
single_wider width literal below = ap (λ (row : List (Option Bool)). characters_of row) (single_more width literal below) ∙ map-append character_of (single_row width literal) (None ∷ [])

signal_last : (width : ℕ) → set (dashes (suc width)) width (Some true) ≡ dashes width ++ Some true ∷ []
signal_last zero = refl
signal_last (suc width) = ap (λ (row : List (Option Bool)). None ∷ row) (signal_last width)

signal_characters : (width : ℕ) → characters_of (dashes width ++ Some true ∷ []) ≡ signal width
signal_characters width = map-append character_of (dashes width) (Some true ∷ []) ∙ ap (λ (row : List Tri). row ++ One ∷ []) (dashes_characters width)

-- the rows of literals, in characters
abbrev pub drawn : ℕ → List Literal → List (List Tri)
drawn width literals = map characters_of (sum_rows width literals)

abbrev pub last_literal : ℕ → Literal
last_literal width = record { place = width; bit = true }

pub drawn_wider : (width : ℕ) (literals : List Literal) → AllByRecursion (IsBelow width) literals → drawn (suc width) (literals ++ last_literal width ∷ []) ≡ map wider (drawn width literals) ++ signal width ∷ []
drawn_wider width [] below = ap (λ (row : List Tri). row ∷ []) (ap (λ (row : List (Option Bool)). characters_of row) (signal_last width) ∙ signal_characters width)
drawn_wider width (literal ∷ literals) below = rw (single_wider width literal below.0, drawn_wider width literals below.1) refl

pub drawn_long : (width : ℕ) (literals : List Literal) → AreLong width (drawn width literals)
drawn_long width [] = tt
drawn_long width (literal ∷ literals) = (
  length-map (single_row width literal) character_of ∙ length-set (dashes width) literal.place (Some literal.bit) ∙ dashes_length width,
  drawn_long width literals,
)

single_count : (width place : ℕ) (bit : Bool) → place < width → row_literals (set (dashes width) place (Some bit)) ≡ 1
unfolding row_literals
single_count zero place bit below = absurd (omega (arith, below))
single_count (suc width) zero bit below = ap (λ (n : ℕ). 1 + n) (dashes_count width)
single_count (suc width) (suc place) bit below = ap (λ (n : ℕ). 0 + n) (single_count width place bit (omega (arith, below)))

drawn_ones : (width : ℕ) (literals : List Literal) → AllByRecursion (IsBelow width) literals → AreOnes (drawn width literals)
drawn_ones width [] below = tt
drawn_ones width (literal ∷ literals) below = (
  ap (λ (row : List (Option Bool)). row_literals row) (places_back (single_row width literal)) ∙ single_count width literal.place literal.bit below.0,
  drawn_ones width literals below.1,
)

pub drawn_parts : (width most : ℕ) (literals : List Literal) → drawn width (take most literals) ++ drawn width (drop most literals) ≡ drawn width literals
drawn_parts width most literals =
    sym (map-append characters_of (sum_rows width (take most literals)) (sum_rows width (drop most literals)))
    ∙ ap (λ (rows : List (List (Option Bool))). map characters_of rows) (sym (map-append (single_row width) (take most literals) (drop most literals)))
    ∙ ap (drawn width) (take-append-drop most literals)

-- how rows of one literal each are decomposed
abbrev OneEach : List (List (Option Bool)) → Type 0
OneEach rows = AllByRecursion (λ (row : List (Option Bool)). row_literals row ≡ 1) rows

no_dashes : (rows : List (List (Option Bool))) → OneEach rows → some_dashes rows ≡ false
unfolding some_dashes
no_dashes [] ones = refl
no_dashes (row ∷ rows) ones = or_from (all_dashes row) (some_dashes rows) (none_dashes row ∙ ap (λ (n : ℕ). eqb n 0) ones.0) (no_dashes rows ones.1)

no_long : (rows : List (List (Option Bool))) → OneEach rows → list_any is_long rows ≡ false
no_long [] ones = refl
no_long (row ∷ rows) ones = or_from (is_long row) (list_any is_long rows) (ap (λ (n : ℕ). ltb 1 n) ones.0) (no_long rows ones.1)

sum_no_gate : (products most : ℕ) (rows : List (List (Option Bool))) → 2 ≤ most → most < length rows → is_gate products most rows ≡ false
unfolding is_gate
sum_no_gate products most rows two more =
    let several : leb (length rows) 1 ≡ false = lt-leb (length rows) 1 (omega (arith, two, more)) in
    let many : leb (length rows) most ≡ false = lt-leb (length rows) most more in
    rw (several, many) refl

sum_parted : (products most width : ℕ) (rows : List (List (Option Bool))) → OneEach rows → 2 ≤ most → most < length rows → gate_parting products most width rows ≡ sum_parting width most rows
unfolding gate_parting
sum_parted products most width rows ones two more =
    let several : ltb 1 (length rows) ≡ true = lt-ltb 1 (length rows) (omega (arith, two, more)) in
    rw (no_dashes rows ones, several, no_long rows ones) refl

ones_placed : (rows : List (List Tri)) → AreOnes rows → OneEach (map places_of rows)
ones_placed [] ones = tt
ones_placed (row ∷ rows) ones = (ones.0, ones_placed rows ones.1)

parted_characters : (width : ℕ) (rows : List (List Tri)) → map characters_of (map (padded 1) (map places_of rows) ++ signal_row width 1 0 ∷ []) ≡ map wider rows ++ signal width ∷ []
parted_characters width [] = ap (λ (row : List Tri). row ∷ []) (signal_characters width)
parted_characters width (row ∷ rows) =
    rw (map-append character_of (places_of row) (None ∷ []) ∙ ap wider (characters_back row), parted_characters width rows) refl

some_row : (rows : List (List Tri)) (phase : Bool) → 1 ≤ length rows → some_row_or_phase_one rows phase ≡ true
some_row [] phase h = absurd (omega (arith, h))
some_row (row ∷ rows) phase h = refl

-- how a table is decomposed, if there is one part
pub record HasOnePart (rule : Rule) (table : Table) : Type 0 where
  pub parting : Parting
  pub part : List (List (Option Bool))
  pub due : IsDecomposable rule table parting
  pub parts : parting.parts ≡ part ∷ []
  pub wide : HasWidth (length table.inputs) (rows_of table)

-- the part and the rewritten table of such a step
pub record IsSumStep (rule : Rule) (table : Table) (name : List ℕ) (made rest : Table) : Type 0 where
  pub one : HasOnePart rule table
  pub made_is : part_table table one.part name ≡ made
  pub rest_is : parted_table table (name ∷ []) one.parting.rows ≡ rest

abbrev over : List (List ℕ) → List ℕ → Bool → List (List Tri) → Table
over names output phase rows = record { inputs = names; output = output; rows = rows; phase = phase }

abbrev sum_of : ℕ → List (List (Option Bool)) → List (List (Option Bool)) → Parting
sum_of width part others = record { parts = part ∷ []; rows = map (padded 1) others ++ signal_row width 1 0 ∷ [] }

module _ (names : List (List ℕ)) (output : List ℕ) (phase : Bool) (products most : ℕ) (front rest : List (List Tri)) (different : all_different names ≡ true)
    (long : AreLong (length names) (front ++ rest)) (ones : AreOnes (front ++ rest)) (differ : rows_differ (front ++ rest) ≡ true) (two : 2 ≤ most) (many : length front ≡ most) (more : 1 ≤ length rest) where
  abbrev marks : List Bool
  marks = used_places names (front ++ rest)

  abbrev kept : List (List ℕ)
  kept = chosen marks names

  abbrev first : List (List Tri)
  first = map (chosen marks) front

  abbrev last : List (List Tri)
  last = map (chosen marks) rest

  abbrev narrow : Table
  narrow = over kept output phase (map (chosen marks) (front ++ rest))

  some : some_row_or_phase_one (front ++ rest) phase ≡ true
  some = some_row (front ++ rest) phase (omega (arith, length-append front rest, more))

  narrow_is : tidied (over names output phase (front ++ rest)) ≡ narrow
  unfolding narrowed
  narrow_is = only_narrowed (over names output phase (front ++ rest)) different differ some

  split : map (chosen marks) (front ++ rest) ≡ first ++ last
  split = map-append (chosen marks) front rest

  kept_different : all_different kept ≡ true
  kept_different = ap (λ (t : Table). all_different t.inputs) (sym narrow_is) ∙ tidied_once (over names output phase (front ++ rest))

  both_differ : (rows_differ first ≡ true) × (rows_differ last ≡ true)
  both_differ =
      differ_parts first last
      (ap rows_differ (sym split) ∙ ap (λ (t : Table). rows_differ t.rows) (sym narrow_is)
      ∙ (tidy_parts (tidied (over names output phase (front ++ rest))) (tidied_tidy (over names output phase (front ++ rest)) long)).differ)

  narrow_long : AreLong (length kept) narrow.rows
  narrow_long = subst (λ (t : Table). AreLong (length t.inputs) t.rows) narrow_is (tidied_shaped (over names output phase (front ++ rest)) long).0

  last_long : AreLong (length kept) last
  last_long = (all_parts (λ (row : List Tri). length row ≡ length kept) first last (subst (AreLong (length kept)) split narrow_long)).1

  rest_long : AreLong (length names) rest
  rest_long = (all_parts (λ (row : List Tri). length row ≡ length names) front rest long).1

  first_many : length (map places_of first) ≡ most
  first_many = length-map first places_of ∙ length-map front (chosen marks) ∙ many

  rows_split : rows_of narrow ≡ map places_of first ++ map places_of last
  rows_split = ap (λ (rows : List (List Tri)). map places_of rows) split ∙ map-append places_of first last

  rows_more : most < length (rows_of narrow)
  rows_more =
      let all : length (rows_of narrow) ≡ length (front ++ rest) = length-map narrow.rows places_of ∙ length-map (front ++ rest) (chosen marks) in
      omega (arith, all, length-append front rest, many, more)

  rows_ones : OneEach (rows_of narrow)
  rows_ones = ones_placed narrow.rows (ones_chosen marks names (front ++ rest) long (within_itself marks) ones)

  parting_is : gate_parting products most (length kept) (rows_of narrow) ≡ sum_of (length kept) (map places_of first) (map places_of last)
  unfolding sum_parting
  parting_is =
      sum_parted products most (length kept) (rows_of narrow) rows_ones two rows_more
      ∙ ap (λ (rows : List (List (Option Bool))). sum_of (length kept) (take most rows) (drop most rows)) rows_split
      ∙ ap₂ (sum_of (length kept))
      (ap (λ (n : ℕ). take n (map places_of first ++ map places_of last)) (sym first_many) ∙ take-append_seam (map places_of first) (map places_of last))
      (ap (λ (n : ℕ). drop n (map places_of first ++ map places_of last)) (sym first_many) ∙ drop-append_seam (map places_of first) (map places_of last))

  narrow_due : HasOnePart (Gates products most) narrow
  narrow_due = record {
    parting = sum_of (length kept) (map places_of first) (map places_of last);
    part = map places_of first;
    due = (sum_no_gate products most (rows_of narrow) two rows_more, sym parting_is);
    parts = refl;
    wide = width_of_characters (length kept) narrow.rows narrow_long;
  }

  pub rows_due : HasOnePart (Gates products most) (tidied (over names output phase (front ++ rest)))
  rows_due = subst (HasOnePart (Gates products most)) (sym narrow_is) narrow_due

  made_of : (name : List ℕ) → part_table narrow (map places_of first) name ≡ tidied (over names name true front)
  unfolding part_table
  made_of name =
      ap (λ (rows : List (List Tri)). tidied (over kept name true rows)) (all_characters_back first)
      ∙ tidied_chosen names name front true marks different kept_different (differ_parts front rest differ).0 both_differ.0 (some_row front true (omega (arith, many, two))) (part_within names front rest).0

  rest_of : (name : List ℕ) → has names name ≡ false → parted_table narrow (name ∷ []) (map (padded 1) (map places_of last) ++ signal_row (length kept) 1 0 ∷ [])
      ≡ tidied (over (names ++ name ∷ []) output phase (map wider rest ++ signal (length names) ∷ []))
  unfolding parted_table
  rest_of name free =
      let lengths : length marks ≡ length names = used_length names (front ++ rest) in
      let rows : map (chosen (marks ++ true ∷ [])) (map wider rest ++ signal (length names) ∷ []) ≡ map wider last ++ signal (length kept) ∷ [] = chosen_wider marks names rest lengths rest_long in
      let inputs : chosen (marks ++ true ∷ []) (names ++ name ∷ []) ≡ kept ++ name ∷ [] = chosen_behind marks names name lengths in
      let apart : all_different (kept ++ name ∷ []) ≡ true = one_more kept name kept_different (has_not kept name (λ h. false≢true (sym free ∙ chosen_has marks names name h))) in
      ap (λ (made : List (List Tri)). tidied (over (kept ++ name ∷ []) output phase made)) (parted_characters (length kept) last ∙ sym rows)
      ∙ ap (λ (made : List (List ℕ)). tidied (over made output phase (map (chosen (marks ++ true ∷ [])) (map wider rest ++ signal (length names) ∷ [])))) (sym inputs)
      ∙ tidied_chosen (names ++ name ∷ []) output (map wider rest ++ signal (length names) ∷ []) phase (marks ++ true ∷ [])
      (one_more names name different free) (ap all_different inputs ∙ apart)
      (wider_differ (length names) rest rest_long (differ_parts front rest differ).1) (ap rows_differ rows ∙ wider_differ (length kept) last last_long both_differ.1)
      (some_row (map wider rest ++ signal (length names) ∷ []) phase (omega (arith, length-append (map wider rest) (signal (length names) ∷ []))))
      (within_wider names name rest marks rest_long (part_within names front rest).1)

  pub rows_step : (name : List ℕ) → has names name ≡ false
      → IsSumStep (Gates products most) (tidied (over names output phase (front ++ rest))) name (tidied (over names name true front))
      (tidied (over (names ++ name ∷ []) output phase (map wider rest ++ signal (length names) ∷ [])))
  unfolding narrow_due
  rows_step name free =
      subst (λ (t : Table). IsSumStep (Gates products most) t name (tidied (over names name true front)) (tidied (over (names ++ name ∷ []) output phase (map wider rest ++ signal (length names) ∷ []))))
      (sym narrow_is) (record { one = narrow_due; made_is = made_of name; rest_is = rest_of name free })

-- the same for lists of literals
module _ (names : List (List ℕ)) (output : List ℕ) (phase : Bool) (products most : ℕ) (literals : List Literal) (different : all_different names ≡ true)
    (below : AllByRecursion (IsBelow (length names)) literals) (differ : rows_differ (drawn (length names) literals) ≡ true) (two : 2 ≤ most) (more : most < length literals) where
  abbrev front : List (List Tri)
  front = drawn (length names) (take most literals)

  abbrev rest : List (List Tri)
  rest = drawn (length names) (drop most literals)

  whole : front ++ rest ≡ drawn (length names) literals
  whole = drawn_parts (length names) most literals

  drawn_length : (list : List Literal) → length (drawn (length names) list) ≡ length list
  drawn_length list = length-map (sum_rows (length names) list) characters_of ∙ length-map list (single_row (length names))

  front_many : length front ≡ most
  front_many = drawn_length (take most literals) ∙ length-take-le most literals (omega (arith, more))

  rest_some : 1 ≤ length rest
  rest_some =
      let all : length front + length rest ≡ length (drawn (length names) literals) = sym (length-append front rest) ∙ ap length whole in
      omega (arith, all, drawn_length literals, front_many, more)

  whole_long : AreLong (length names) (front ++ rest)
  whole_long = subst (AreLong (length names)) (sym whole) (drawn_long (length names) literals)

  whole_ones : AreOnes (front ++ rest)
  whole_ones = subst AreOnes (sym whole) (drawn_ones (length names) literals below)

  whole_differ : rows_differ (front ++ rest) ≡ true
  whole_differ = ap rows_differ whole ∙ differ

  table_is : tidied (over names output phase (front ++ rest)) ≡ sum_table names output phase literals
  table_is = ap (λ (rows : List (List Tri)). tidied (over names output phase rows)) whole

  pub literals_due : HasOnePart (Gates products most) (sum_table names output phase literals)
  literals_due = subst (HasOnePart (Gates products most)) table_is (rows_due names output phase products most front rest different whole_long whole_ones whole_differ two front_many rest_some)

  rest_below : AllByRecursion (IsBelow (length names)) (drop most literals)
  rest_below = (all_parts (IsBelow (length names)) (take most literals) (drop most literals) (subst (AllByRecursion (IsBelow (length names))) (sym (take-append-drop most literals)) below)).1

  pub rest_drawn : (name : List ℕ) → drawn (length (names ++ name ∷ [])) (drop most literals ++ last_literal (length names) ∷ []) ≡ map wider rest ++ signal (length names) ∷ []
  rest_drawn name =
      let longer : length (names ++ name ∷ []) ≡ suc (length names) = omega (arith, length-append names (name ∷ [])) in
      ap (λ (n : ℕ). drawn n (drop most literals ++ last_literal (length names) ∷ [])) longer ∙ drawn_wider (length names) (drop most literals) rest_below

  pub rest_differ : (name : List ℕ) → rows_differ (drawn (length (names ++ name ∷ [])) (drop most literals ++ last_literal (length names) ∷ [])) ≡ true
  rest_differ name =
      ap rows_differ (rest_drawn name)
      ∙ wider_differ (length names) rest (all_parts (λ (row : List Tri). length row ≡ length names) front rest whole_long).1 (differ_parts front rest whole_differ).1

  pub literals_step : (name : List ℕ) → has names name ≡ false
      → IsSumStep (Gates products most) (sum_table names output phase literals) name (sum_table names name true (take most literals))
      (sum_table (names ++ name ∷ []) output phase (drop most literals ++ last_literal (length names) ∷ []))
  literals_step name free =
      subst (λ (t : Table). IsSumStep (Gates products most) t name (sum_table names name true (take most literals)) (sum_table (names ++ name ∷ []) output phase (drop most literals ++ last_literal (length names) ∷ [])))
      table_is
      (subst (λ (rows : List (List Tri)). IsSumStep (Gates products most) (tidied (over names output phase (front ++ rest))) name (tidied (over names name true front)) (tidied (over (names ++ name ∷ []) output phase rows)))
      (sym (rest_drawn name)) (rows_step names output phase products most front rest different whole_long whole_ones whole_differ two front_many rest_some name free))
