-- The normal form of a table over some of its columns. If the other columns have no literal, it is
-- the normal form of the whole table; so it is after rows are removed and a column is added.
use Rattle.std.proofs.Common.{◌≡◌, ℕ, ◌+◌, suc, Bool, true, false, not, ◌&&◌, ◌||◌, if◌then◌else◌, List, [], ◌∷◌, ◌++◌, length, map, replicate, refl, sym, ap, ◌∙◌, subst, arith}
use Rattle.std.specs.List.{AllByRecursion, list_any, filter}
use Rattle.std.proofs.lemmas.Bool.{false≢true, and_parts, and_from, or_left, or_right, or_parts, not_from_false, not-true}
use Rattle.std.proofs.lemmas.List.{map-append, length-replicate}
use Rattle.std.proofs.lemmas.List.Folds.{list_any-append}
use Rattle.std.proofs.Math.Bool.{and-false}
use Rattle.circuit_model.specs.Names.{all_different}
use Rattle.circuit_model.specs.Counts.{is_literal}
use Rattle.circuit_model.specs.Values.{literal_of}
use Rattle.circuit_model.specs.declared.circuit.Tri.{Tri}
use Rattle.circuit_model.specs.declared.circuit.Tri.TheVariants.{Zero, One, Free}
use Rattle.circuit_model.specs.declared.circuit.Table.{Table}
use Rattle.circuit_tables.specs.Tidy.{same_place, same_row, rows_differ, front_place, behind_front, used_places, some_row_or_phase_one, rows_once, chosen, narrowed, tidied}
use Rattle.circuit_tables.proofs.Tidied.{chosen_nil, tidied_is}
use Rattle.cube_cover.specs.Literals.{row_literals, literal_number}
use Rattle.net_core.specs.Tables.{places_of}

-- each mark of one list is a mark of another
abbrev pub Within : List Bool → List Bool → Type 0
Within [] [] = Unit {0}
Within [] (mark ∷ marks) = ⊥
Within (first ∷ used) [] = ⊥
Within (first ∷ used) (mark ∷ marks) = (first ≡ true → mark ≡ true) × Within used marks

pub within_itself : (marks : List Bool) → Within marks marks
within_itself [] = tt
within_itself (mark ∷ marks) = (λ h. h, within_itself marks)

within_through : (a b c : List Bool) → Within a b → Within b c → Within a c
within_through [] [] [] h k = tt
within_through [] [] (z ∷ c) h k = absurd k
within_through [] (y ∷ b) c h k = absurd h
within_through (x ∷ a) [] c h k = absurd h
within_through (x ∷ a) (y ∷ b) [] h k = absurd k
within_through (x ∷ a) (y ∷ b) (z ∷ c) h k = (λ e. k.0 (h.0 e), within_through a b c h.1 k.1)

-- the columns that some of the rows use, and those that all rows use
abbrev has_front : List Tri → Bool
has_front row = is_literal (front_place row)

pub used_left : (inputs : List (List ℕ)) (a b : List (List Tri)) → Within (used_places inputs a) (used_places inputs (a ++ b))
unfolding used_places
used_left [] a b = tt
used_left (input ∷ inputs) a b = (
  λ h. list_any-append (λ (row : List Tri). has_front row) a b ∙ or_left (list_any (λ (row : List Tri). has_front row) a) (list_any (λ (row : List Tri). has_front row) b) h,
  subst (λ (rows : List (List Tri)). Within (used_places inputs (map behind_front a)) (used_places inputs rows)) (sym (map-append behind_front a b)) (used_left inputs (map behind_front a) (map behind_front b)),
)

pub used_right : (inputs : List (List ℕ)) (a b : List (List Tri)) → Within (used_places inputs b) (used_places inputs (a ++ b))
unfolding used_places
used_right [] a b = tt
used_right (input ∷ inputs) a b = (
  λ h. list_any-append (λ (row : List Tri). has_front row) a b ∙ or_right (list_any (λ (row : List Tri). has_front row) a) (list_any (λ (row : List Tri). has_front row) b) h,
  subst (λ (rows : List (List Tri)). Within (used_places inputs (map behind_front b)) (used_places inputs rows)) (sym (map-append behind_front a b)) (used_right inputs (map behind_front a) (map behind_front b)),
)

pub used_length : (inputs : List (List ℕ)) (rows : List (List Tri)) → length (used_places inputs rows) ≡ length inputs
unfolding used_places
used_length [] rows = refl
used_length (input ∷ inputs) rows = ap suc (used_length inputs (map behind_front rows))

-- the used columns among those that are kept
front_kept : (marks : List Bool) (rows : List (List Tri)) → list_any (λ (row : List Tri). has_front row) (map (chosen (true ∷ marks)) rows) ≡ list_any (λ (row : List Tri). has_front row) rows
unfolding chosen
front_kept marks [] = refl
front_kept marks ([] ∷ rows) = front_kept marks rows
front_kept marks ((place ∷ row) ∷ rows) = ap (λ (b : Bool). is_literal place || b) (front_kept marks rows)

behind_kept : (marks : List Bool) (rows : List (List Tri)) → map behind_front (map (chosen (true ∷ marks)) rows) ≡ map (chosen marks) (map behind_front rows)
unfolding chosen
behind_kept marks [] = refl
behind_kept marks ([] ∷ rows) = rw (behind_kept marks rows) (ap (λ (r : List Tri). r ∷ map (chosen marks) (map behind_front rows)) (sym (chosen_nil marks)))
behind_kept marks ((place ∷ row) ∷ rows) = ap (λ (rest : List (List Tri)). chosen marks row ∷ rest) (behind_kept marks rows)

behind_left_out : (marks : List Bool) (rows : List (List Tri)) → map (chosen (false ∷ marks)) rows ≡ map (chosen marks) (map behind_front rows)
unfolding chosen
behind_left_out marks [] = refl
behind_left_out marks ([] ∷ rows) = rw (behind_left_out marks rows) (ap (λ (r : List Tri). r ∷ map (chosen marks) (map behind_front rows)) (sym (chosen_nil marks)))
behind_left_out marks ((place ∷ row) ∷ rows) = ap (λ (rest : List (List Tri)). chosen marks row ∷ rest) (behind_left_out marks rows)

used_of_chosen : (marks : List Bool) (inputs : List (List ℕ)) (rows : List (List Tri)) → used_places (chosen marks inputs) (map (chosen marks) rows) ≡ chosen marks (used_places inputs rows)
unfolding chosen used_places
used_of_chosen [] inputs rows = refl
used_of_chosen (mark ∷ marks) [] rows = refl
used_of_chosen (true ∷ marks) (input ∷ inputs) rows =
    ap (λ (b : Bool). b ∷ used_places (chosen marks inputs) (map behind_front (map (chosen (true ∷ marks)) rows))) (front_kept marks rows)
    ∙ ap (λ (bs : List Bool). list_any (λ (row : List Tri). has_front row) rows ∷ bs)
    (ap (used_places (chosen marks inputs)) (behind_kept marks rows) ∙ used_of_chosen marks inputs (map behind_front rows))
used_of_chosen (false ∷ marks) (input ∷ inputs) rows = ap (used_places (chosen marks inputs)) (behind_left_out marks rows) ∙ used_of_chosen marks inputs (map behind_front rows)

chosen_twice : {A : Type 0} (used marks : List Bool) (xs : List A) → Within used marks → chosen (chosen marks used) (chosen marks xs) ≡ chosen used xs
unfolding chosen
chosen_twice [] [] xs h = refl
chosen_twice [] (mark ∷ marks) xs h = absurd h
chosen_twice (first ∷ used) [] xs h = absurd h
chosen_twice (first ∷ used) (mark ∷ marks) [] h = chosen_nil (chosen (mark ∷ marks) (first ∷ used))
chosen_twice {A} (first ∷ used) (mark ∷ marks) (x ∷ xs) h = cases first mark h.0 (chosen_twice used marks xs h.1)
  where
    cases : (s t : Bool) → (s ≡ true → t ≡ true) → chosen (chosen marks used) (chosen marks xs) ≡ chosen used xs → chosen (chosen (t ∷ marks) (s ∷ used)) (chosen (t ∷ marks) (x ∷ xs)) ≡ chosen (s ∷ used) (x ∷ xs)
    cases true true k rest = ap (λ (l : List A). x ∷ l) rest
    cases false true k rest = rest
    cases false false k rest = rest
    cases true false k rest = absurd (false≢true (k refl))

rows_twice : (used marks : List Bool) (rows : List (List Tri)) → Within used marks → map (chosen (chosen marks used)) (map (chosen marks) rows) ≡ map (chosen used) rows
rows_twice used marks [] h = refl
rows_twice used marks (row ∷ rows) h = rw (chosen_twice used marks row h, rows_twice used marks rows h) refl

narrowed_chosen : (names : List (List ℕ)) (name : List ℕ) (rows : List (List Tri)) (phase : Bool) (marks : List Bool) → Within (used_places names rows) marks
    → narrowed (record { inputs = chosen marks names; output = name; rows = map (chosen marks) rows; phase = phase }) ≡ narrowed (record { inputs = names; output = name; rows = rows; phase = phase })
unfolding narrowed
narrowed_chosen names name rows phase marks h =
    rw (used_of_chosen marks names rows, chosen_twice (used_places names rows) marks names h, rows_twice (used_places names rows) marks rows h) refl

-- rows that are different are all kept
apart_filter : (row : List Tri) (rows : List (List Tri)) → list_any (same_row row) rows ≡ false → filter (λ other. not (same_row row other)) rows ≡ rows
apart_filter row [] h = refl
apart_filter row (first ∷ rows) h = let p = or_parts (same_row row first) (list_any (same_row row) rows) h in cases (same_row row first) p.0 (apart_filter row rows p.1)
  where
    cases : (t : Bool) → t ≡ false → filter (λ other. not (same_row row other)) rows ≡ rows
        → (if not t then first ∷ filter (λ other. not (same_row row other)) rows else filter (λ other. not (same_row row other)) rows) ≡ first ∷ rows
    cases true e rest = absurd (false≢true (sym e))
    cases false e rest = ap (λ (more : List (List Tri)). first ∷ more) rest

once_same : (rows : List (List Tri)) → rows_differ rows ≡ true → rows_once rows ≡ rows
unfolding rows_differ rows_once
once_same [] h = refl
once_same (row ∷ rows) h =
    let p = and_parts (not (list_any (same_row row) rows)) (rows_differ rows) h in
    ap (λ (rest : List (List Tri)). row ∷ filter (λ other. not (same_row row other)) rest) (once_same rows p.1)
    ∙ ap (λ (rest : List (List Tri)). row ∷ rest) (apart_filter row rows (not-true (list_any (same_row row) rows) p.0))

pub only_narrowed : (table : Table) → all_different table.inputs ≡ true → rows_differ table.rows ≡ true → some_row_or_phase_one table.rows table.phase ≡ true → tidied table ≡ narrowed table
only_narrowed table once differ some = tidied_is table once some ∙ ap (λ (rows : List (List Tri)). narrowed (record table { rows = rows })) (once_same table.rows differ)

some_mapped : (f : List Tri → List Tri) (rows : List (List Tri)) (phase : Bool) → some_row_or_phase_one rows phase ≡ true → some_row_or_phase_one (map f rows) phase ≡ true
some_mapped f [] phase h = h
some_mapped f (row ∷ rows) phase h = refl

pub tidied_chosen : (names : List (List ℕ)) (name : List ℕ) (rows : List (List Tri)) (phase : Bool) (marks : List Bool) → all_different names ≡ true → all_different (chosen marks names) ≡ true
    → rows_differ rows ≡ true → rows_differ (map (chosen marks) rows) ≡ true → some_row_or_phase_one rows phase ≡ true → Within (used_places names rows) marks
    → tidied (record { inputs = chosen marks names; output = name; rows = map (chosen marks) rows; phase = phase }) ≡ tidied (record { inputs = names; output = name; rows = rows; phase = phase })
tidied_chosen names name rows phase marks once few differ apart some h =
    only_narrowed (record { inputs = chosen marks names; output = name; rows = map (chosen marks) rows; phase = phase }) few apart (some_mapped (chosen marks) rows phase some)
    ∙ narrowed_chosen names name rows phase marks h
    ∙ sym (only_narrowed (record { inputs = names; output = name; rows = rows; phase = phase }) once differ some)

-- rows of one length
abbrev pub AreLong : ℕ → List (List Tri) → Type 0
AreLong width rows = AllByRecursion (λ (row : List Tri). length row ≡ width) rows

-- a row with one more column, and the row whose only literal is in that column
abbrev pub wider : List Tri → List Tri
wider row = row ++ Free ∷ []

abbrev pub signal : ℕ → List Tri
signal width = replicate width Free ++ One ∷ []

wider_same : (a b : List Tri) → length a ≡ length b → same_row (wider a) (wider b) ≡ same_row a b
unfolding same_row
wider_same [] [] e = refl
wider_same [] (y ∷ b) e = absurd (omega arith)
wider_same (x ∷ a) [] e = absurd (omega arith)
wider_same (x ∷ a) (y ∷ b) e = ap (λ (t : Bool). same_place x y && t) (wider_same a b (omega arith))

signal_apart : (a : List Tri) → same_row (wider a) (signal (length a)) ≡ false
unfolding same_row
signal_apart [] = refl
signal_apart (x ∷ a) = ap (λ (t : Bool). same_place x Free && t) (signal_apart a) ∙ and-false (same_place x Free)

wider_among : (width : ℕ) (row : List Tri) (rows : List (List Tri)) → length row ≡ width → AreLong width rows → list_any (same_row (wider row)) (map wider rows ++ signal width ∷ []) ≡ list_any (same_row row) rows
wider_among width row [] e all = ap (λ (b : Bool). b || false) (subst (λ (n : ℕ). same_row (wider row) (signal n) ≡ false) e (signal_apart row))
wider_among width row (first ∷ rows) e all = rw (wider_same row first (e ∙ sym all.0), wider_among width row rows e all.1) refl

pub wider_differ : (width : ℕ) (rows : List (List Tri)) → AreLong width rows → rows_differ rows ≡ true → rows_differ (map wider rows ++ signal width ∷ []) ≡ true
unfolding rows_differ
wider_differ width [] all h = refl
wider_differ width (row ∷ rows) all h =
    let p = and_parts (not (list_any (same_row row) rows)) (rows_differ rows) h in
    and_from (not (list_any (same_row (wider row)) (map wider rows ++ signal width ∷ []))) (rows_differ (map wider rows ++ signal width ∷ []))
    (ap (λ (b : Bool). not b) (wider_among width row rows all.0 all.1) ∙ p.0) (wider_differ width rows all.1 p.1)

pub differ_parts : (a b : List (List Tri)) → rows_differ (a ++ b) ≡ true → (rows_differ a ≡ true) × (rows_differ b ≡ true)
unfolding rows_differ
differ_parts [] b h = (refl, h)
differ_parts (row ∷ a) b h =
    let p = and_parts (not (list_any (same_row row) (a ++ b))) (rows_differ (a ++ b)) h in
    let rest = differ_parts a b p.1 in
    let q = or_parts (list_any (same_row row) a) (list_any (same_row row) b) (sym (list_any-append (same_row row) a b) ∙ not-true (list_any (same_row row) (a ++ b)) p.0) in
    (and_from (not (list_any (same_row row) a)) (rows_differ a) (not_from_false (list_any (same_row row) a) q.0) rest.0, rest.1)

-- the columns that are kept, and one more
pub chosen_behind : {A : Type 0} (marks : List Bool) (xs : List A) (x : A) → length marks ≡ length xs → chosen (marks ++ true ∷ []) (xs ++ x ∷ []) ≡ chosen marks xs ++ x ∷ []
unfolding chosen
chosen_behind [] [] x e = refl
chosen_behind [] (y ∷ xs) x e = absurd (omega arith)
chosen_behind (mark ∷ marks) [] x e = absurd (omega arith)
chosen_behind {A} (mark ∷ marks) (y ∷ xs) x e = cases mark (chosen_behind marks xs x (omega arith))
  where
    cases : (s : Bool) → chosen (marks ++ true ∷ []) (xs ++ x ∷ []) ≡ chosen marks xs ++ x ∷ [] → chosen ((s ∷ marks) ++ true ∷ []) ((y ∷ xs) ++ x ∷ []) ≡ chosen (s ∷ marks) (y ∷ xs) ++ x ∷ []
    cases true rest = ap (λ (l : List A). y ∷ l) rest
    cases false rest = rest

chosen_dashes : {A : Type 0} (marks : List Bool) (xs : List A) → length marks ≡ length xs → chosen marks (replicate (length xs) Free) ≡ replicate (length (chosen marks xs)) Free
unfolding chosen
chosen_dashes [] [] e = refl
chosen_dashes [] (y ∷ xs) e = absurd (omega arith)
chosen_dashes (mark ∷ marks) [] e = absurd (omega arith)
chosen_dashes {A} (mark ∷ marks) (y ∷ xs) e = cases mark (chosen_dashes marks xs (omega arith))
  where
    cases : (s : Bool) → chosen marks (replicate (length xs) Free) ≡ replicate (length (chosen marks xs)) Free → chosen (s ∷ marks) (replicate (length (y ∷ xs)) Free) ≡ replicate (length (chosen (s ∷ marks) (y ∷ xs))) Free
    cases true rest = ap (λ (l : List Tri). Free ∷ l) rest
    cases false rest = rest

pub chosen_wider : (marks : List Bool) (names : List (List ℕ)) (rows : List (List Tri)) → length marks ≡ length names → AreLong (length names) rows
    → map (chosen (marks ++ true ∷ [])) (map wider rows ++ signal (length names) ∷ []) ≡ map wider (map (chosen marks) rows) ++ signal (length (chosen marks names)) ∷ []
chosen_wider marks names [] e all =
    ap (λ (r : List Tri). r ∷ [])
    (chosen_behind marks (replicate (length names) Free) One (e ∙ sym (length-replicate (length names) Free)) ∙ ap (λ (r : List Tri). r ++ One ∷ []) (chosen_dashes marks names e))
chosen_wider marks names (row ∷ rows) e all = rw (chosen_behind marks row Free (e ∙ sym all.0), chosen_wider marks names rows e all.1) refl

-- the used columns, and one more
front_wider : (width : ℕ) (rows : List (List Tri)) → AreLong (suc width) rows
    → list_any (λ (row : List Tri). has_front row) (map wider rows ++ signal (suc width) ∷ []) ≡ list_any (λ (row : List Tri). has_front row) rows
front_wider width [] all = refl
front_wider width ([] ∷ rows) all = absurd (omega (arith, all.0))
front_wider width ((place ∷ row) ∷ rows) all = ap (λ (b : Bool). is_literal place || b) (front_wider width rows all.1)

behind_wider : (width : ℕ) (rows : List (List Tri)) → AreLong (suc width) rows → map behind_front (map wider rows ++ signal (suc width) ∷ []) ≡ map wider (map behind_front rows) ++ signal width ∷ []
behind_wider width [] all = refl
behind_wider width ([] ∷ rows) all = absurd (omega (arith, all.0))
behind_wider width ((place ∷ row) ∷ rows) all = ap (λ (rest : List (List Tri)). wider row ∷ rest) (behind_wider width rows all.1)

behind_long : (width : ℕ) (rows : List (List Tri)) → AreLong (suc width) rows → AreLong width (map behind_front rows)
behind_long width [] all = tt
behind_long width ([] ∷ rows) all = absurd (omega (arith, all.0))
behind_long width ((place ∷ row) ∷ rows) all = (omega (arith, all.0), behind_long width rows all.1)

pub within_wider : (names : List (List ℕ)) (name : List ℕ) (rows : List (List Tri)) (marks : List Bool) → AreLong (length names) rows → Within (used_places names rows) marks
    → Within (used_places (names ++ name ∷ []) (map wider rows ++ signal (length names) ∷ [])) (marks ++ true ∷ [])
unfolding used_places
within_wider [] name rows [] all h = (λ e. refl, tt)
within_wider [] name rows (mark ∷ marks) all h = absurd h
within_wider (input ∷ names) name rows [] all h = absurd h
within_wider (input ∷ names) name rows (mark ∷ marks) all h = (
  λ e. h.0 (sym (front_wider (length names) rows all) ∙ e),
  subst (λ (more : List (List Tri)). Within (used_places (names ++ name ∷ []) more) (marks ++ true ∷ [])) (sym (behind_wider (length names) rows all))
      (within_wider names name (map behind_front rows) marks (behind_long (length names) rows all) h.1),
)

-- the number of literals of a row is kept
count_chosen : (marks : List Bool) (names : List (List ℕ)) (row : List Tri) → length row ≡ length names → Within (used_places names (row ∷ [])) marks
    → row_literals (places_of (chosen marks row)) ≡ row_literals (places_of row)
unfolding chosen used_places row_literals
count_chosen [] [] [] e h = refl
count_chosen [] [] (place ∷ row) e h = absurd (omega arith)
count_chosen [] (input ∷ names) row e h = absurd h
count_chosen (mark ∷ marks) [] row e h = absurd h
count_chosen (mark ∷ marks) (input ∷ names) [] e h = absurd (omega arith)
count_chosen (mark ∷ marks) (input ∷ names) (place ∷ row) e h = cases mark place (λ k. h.0 (or_left (is_literal place) false k)) (count_chosen marks names row (omega arith) h.1)
  where
    cases : (s : Bool) (c : Tri) → (is_literal c ≡ true → s ≡ true) → row_literals (places_of (chosen marks row)) ≡ row_literals (places_of row)
        → row_literals (places_of (chosen (s ∷ marks) (c ∷ row))) ≡ row_literals (places_of (c ∷ row))
    cases true c k rest = ap (λ (n : ℕ). literal_number (literal_of c) + n) rest
    cases false Free k rest = rest ∙ (let e : row_literals (places_of row) ≡ 0 + row_literals (places_of row) = omega arith in e)
    cases false Zero k rest = absurd (false≢true (k refl))
    cases false One k rest = absurd (false≢true (k refl))

-- rows of one literal each
abbrev pub AreOnes : List (List Tri) → Type 0
AreOnes rows = AllByRecursion (λ (row : List Tri). row_literals (places_of row) ≡ 1) rows

pub ones_chosen : (marks : List Bool) (names : List (List ℕ)) (rows : List (List Tri)) → AreLong (length names) rows → Within (used_places names rows) marks → AreOnes rows → AreOnes (map (chosen marks) rows)
ones_chosen marks names [] long h ones = tt
ones_chosen marks names (row ∷ rows) long h ones = (
  count_chosen marks names row long.0 (within_through (used_places names (row ∷ [])) (used_places names (row ∷ rows)) marks (used_left names (row ∷ []) rows) h) ∙ ones.0,
  ones_chosen marks names rows long.1 (within_through (used_places names rows) (used_places names (row ∷ rows)) marks (used_right names (row ∷ []) rows) h) ones.1,
)

-- the columns that the first rows use, and those that the other rows use
pub part_within : (names : List (List ℕ)) (a b : List (List Tri)) → Within (used_places names a) (used_places names (a ++ b)) × Within (used_places names b) (used_places names (a ++ b))
part_within names a b = (used_left names a b, used_right names a b)
