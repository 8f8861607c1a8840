-- Rows that stay rows while a table is narrowed, against the characters of its written form.
use Rattle.std.proofs.Common.{◌≡◌, ℕ, ◌+◌, ◌<◌, ◌≤◌, zero, suc, Bool, true, false, ◌||◌, Option, None, List, [], ◌∷◌, ◌++◌, length, get_or, map, take, drop, if◌then◌else◌, eqb, refl, sym, ap, ◌∙◌, subst, arith}
use Rattle.std.specs.List.{list_any, range_with_len}
use Rattle.std.proofs.lemmas.List.{length-map, map-append, take_more, drop_more, drop_all, append_assoc, append-nil, ext_get_or}
use Rattle.std.proofs.lemmas.List.FromFn.{length-range_with_len, get_or-range_with_len, get_or-map-range_with_len, length-map-range_with_len}
use Rattle.sis_base.specs.Rows.{HasWidth}
use Rattle.circuit_model.specs.Counts.{is_literal}
use Rattle.circuit_model.specs.Names.{all_different}
use Rattle.circuit_model.specs.declared.circuit.Tri.{Tri}
use Rattle.circuit_model.specs.declared.circuit.Tri.TheVariants.{Free}
use Rattle.circuit_model.specs.declared.circuit.Table.{Table}
use Rattle.circuit_tables.specs.Folding.{each_once, folded_rows, with_rows, folded}
use Rattle.circuit_tables.specs.Tidy.{chosen, narrowed, rows_once, some_row_or_phase_one, tidied, used_places}
use Rattle.circuit_tables.proofs.Once.{each_once-different}
use Rattle.circuit_tables.proofs.Steps.{all_once, used_begun, used_more, used_done}
use Rattle.circuit_tables.proofs.Tidied.{once_all, chosen_small, tidied_is, used_long}
use Rattle.net_core.specs.declared.table.CoverTable.{CoverTable}
use Rattle.net_core.specs.Tables.{character_of, characters_of, named, HasCharacters}
use Rattle.net_core.proofs.Tidied.{characters_wide}

-- ---- columns with a literal
character_at : (row : List (Option Bool)) (i : ℕ)
    → get_or (characters_of row) i Free ≡ character_of (get_or row i None)
character_at [] i = refl
character_at (l ∷ row) zero = refl
character_at (l ∷ row) (suc i) = character_at row i

-- some row of those from one on has a literal in a column
abbrev pub any_used : {X : Type 0} → (X → List (Option Bool)) → List X → ℕ → Bool
any_used f rows place =
    list_any (λ (row : List Tri). is_literal (get_or row place Free)) (map characters_of (map f rows))

used_from : {X : Type 0} (f : X → List (Option Bool)) (rows : List X) (i place : ℕ) (row : X)
    → i < length rows → row ≡ get_or rows i row
    → any_used f (drop i rows) place ≡ (is_literal (character_of (get_or (f row) place None)) || any_used f (drop (i + 1) rows) place)
used_from f rows i place row lt e =
    ap (λ l. any_used f l place) (drop_more rows i row lt)
    ∙ ap (λ x. any_used f (x ∷ drop (i + 1) rows) place) (sym e)
    ∙ ap (λ c. is_literal c || any_used f (drop (i + 1) rows) place) (character_at (f row) place)

pub used_here : {X : Type 0} (f : X → List (Option Bool)) (rows : List X) (i place : ℕ) (row : X)
    → i < length rows → row ≡ get_or rows i row
    → true ≡ is_literal (character_of (get_or (f row) place None))
    → true ≡ any_used f (drop i rows) place
used_here f rows i place row lt e h =
    sym (used_from f rows i place row lt e ∙ ap (λ b. b || any_used f (drop (i + 1) rows) place) (sym h))

pub used_later : {X : Type 0} (f : X → List (Option Bool)) (rows : List X) (i place : ℕ) (row : X)
    → i < length rows → row ≡ get_or rows i row
    → false ≡ is_literal (character_of (get_or (f row) place None))
    → any_used f (drop (i + 1) rows) place ≡ any_used f (drop i rows) place
used_later f rows i place row lt e h =
    sym (used_from f rows i place row lt e ∙ ap (λ b. b || any_used f (drop (i + 1) rows) place) (sym h))

pub used_nowhere : {X : Type 0} (f : X → List (Option Bool)) (rows : List X) (i place : ℕ)
    → length rows ≤ i → false ≡ any_used f (drop i rows) place
used_nowhere f rows i place le = sym (ap (λ l. any_used f l place) (drop_all i rows le))

chosen_step : {X : Type 0} (mark : Bool) (marks : List Bool) (x : X) (xs : List X)
    → chosen (mark ∷ marks) (x ∷ xs) ≡ (if mark then x ∷ chosen marks xs else chosen marks xs)
unfolding chosen
chosen_step true marks x xs = refl
chosen_step false marks x xs = refl

-- the columns from one on that have a literal
unfoldable pub columns_from : List (List ℕ) → List (List Tri) → ℕ → List ℕ
columns_from inputs rows i =
    chosen (used_places (drop i inputs) (map (drop i) rows)) (drop i (range_with_len 0 (length inputs)))

pub columns_first : (inputs : List (List ℕ)) (rows : List (List Tri))
    → columns_from inputs rows 0 ≡ chosen (used_places inputs rows) (range_with_len 0 (length inputs))
unfolding columns_from
columns_first inputs rows =
    ap (λ marks. chosen marks (range_with_len 0 (length inputs))) (used_begun inputs rows)

columns_more : (inputs : List (List ℕ)) (rows : List (List Tri)) (i : ℕ) → i < length inputs
    → columns_from inputs rows i ≡ (if list_any (λ (row : List Tri). is_literal (get_or row i Free)) rows then i ∷ columns_from inputs rows (i + 1) else columns_from inputs rows (i + 1))
unfolding columns_from
columns_more inputs rows i lt =
    let long : i < length (range_with_len 0 (length inputs)) = omega (arith, length-range_with_len 0 (length inputs)) in
    let item : get_or (range_with_len 0 (length inputs)) i 0 ≡ i = omega (arith, get_or-range_with_len 0 (length inputs) i 0 lt) in
    rw (used_more inputs rows i lt, drop_more (range_with_len 0 (length inputs)) i 0 long, item) (chosen_step (list_any (λ (row : List Tri). is_literal (get_or row i Free)) rows) _ i _)

pub column_used : (inputs : List (List ℕ)) (rows : List (List Tri)) (i : ℕ) (made new whole : List ℕ) (mark : Bool)
    → i < length inputs
    → mark ≡ list_any (λ (row : List Tri). is_literal (get_or row i Free)) rows → mark ≡ true
    → new ≡ made ++ i ∷ [] → made ++ columns_from inputs rows i ≡ whole
    → new ++ columns_from inputs rows (i + 1) ≡ whole
column_used inputs rows i made new whole mark lt m t n inv =
    ap (λ l. l ++ columns_from inputs rows (i + 1)) n
    ∙ append_assoc made (i ∷ []) (columns_from inputs rows (i + 1))
    ∙ ap (λ l. made ++ l) (sym (columns_more inputs rows i lt ∙ ap (λ b. if b then i ∷ columns_from inputs rows (i + 1) else columns_from inputs rows (i + 1)) (sym m ∙ t)))
    ∙ inv

pub column_unused : (inputs : List (List ℕ)) (rows : List (List Tri)) (i : ℕ) (made whole : List ℕ) (mark : Bool)
    → i < length inputs
    → mark ≡ list_any (λ (row : List Tri). is_literal (get_or row i Free)) rows → mark ≡ false
    → made ++ columns_from inputs rows i ≡ whole → made ++ columns_from inputs rows (i + 1) ≡ whole
column_unused inputs rows i made whole mark lt m t inv =
    ap (λ l. made ++ l) (sym (columns_more inputs rows i lt ∙ ap (λ b. if b then i ∷ columns_from inputs rows (i + 1) else columns_from inputs rows (i + 1)) (sym m ∙ t)))
    ∙ inv

pub columns_done : (inputs : List (List ℕ)) (rows : List (List Tri)) (i : ℕ) (made whole : List ℕ)
    → length inputs ≤ i → made ++ columns_from inputs rows i ≡ whole → made ≡ whole
unfolding columns_from chosen
columns_done inputs rows i made whole le inv =
    sym (append-nil made) ∙ ap (λ l. made ++ l) (sym (rw (used_done inputs rows i le) refl)) ∙ inv

-- ---- what stands in the columns that are kept
map_chosen : {X Y : Type 0} (f : X → Y) (marks : List Bool) (xs : List X)
    → map f (chosen marks xs) ≡ chosen marks (map f xs)
unfolding chosen
map_chosen f [] xs = refl
map_chosen f (mark ∷ marks) [] = refl
map_chosen f (true ∷ marks) (x ∷ xs) = ap (λ l. f x ∷ l) (map_chosen f marks xs)
map_chosen f (false ∷ marks) (x ∷ xs) = map_chosen f marks xs

all_at : {X : Type 0} (xs : List X) (d : X)
    → map (λ i. get_or xs i d) (range_with_len 0 (length xs)) ≡ xs
all_at xs d =
    ext_get_or d (map (λ i. get_or xs i d) (range_with_len 0 (length xs))) xs (length-map-range_with_len (λ i. get_or xs i d) 0 (length xs))
    (λ i lt. get_or-map-range_with_len (λ i. get_or xs i d) 0 (length xs) i i d (omega (arith, length-map-range_with_len (λ i. get_or xs i d) 0 (length xs))) (omega arith))

kept_is : {X : Type 0} (marks : List Bool) (xs : List X) (d : X) (n : ℕ) → length xs ≡ n
    → map (λ i. get_or xs i d) (chosen marks (range_with_len 0 n)) ≡ chosen marks xs
kept_is marks xs d n e =
    map_chosen (λ i. get_or xs i d) marks (range_with_len 0 n)
    ∙ ap (λ k. chosen marks (map (λ i. get_or xs i d) (range_with_len 0 k))) (sym e)
    ∙ ap (chosen marks) (all_at xs d)

kept_row : (marks : List Bool) (row : List (Option Bool)) (n : ℕ) → length row ≡ n
    → characters_of (map (λ i. get_or row i None) (chosen marks (range_with_len 0 n))) ≡ chosen marks (characters_of row)
kept_row marks row n e =
    ap characters_of (kept_is marks row None n e) ∙ map_chosen character_of marks row

kept_rows : {X : Type 0} (f : X → List (Option Bool)) (marks : List Bool) (rows : List X) (n : ℕ)
    → HasWidth n (map f rows)
    → map characters_of (map (λ row. map (λ i. get_or (f row) i None) (chosen marks (range_with_len 0 n))) rows) ≡ map (chosen marks) (map characters_of (map f rows))
unfolding HasWidth
kept_rows f marks [] n h = refl
kept_rows f marks (row ∷ rows) n h =
    rw (kept_row marks (f row) n h.0, kept_rows f marks rows n h.1) refl

-- the columns that are kept are columns
kept_each : (P : ℕ → Type 0) (marks : List Bool) (xs : List ℕ)
    → ((i : ℕ) → i < length xs → P (get_or xs i 0)) → (i : ℕ) → i < length (chosen marks xs)
    → P (get_or (chosen marks xs) i 0)
unfolding chosen
kept_each P [] xs h i lt = absurd (omega arith)
kept_each P (mark ∷ marks) [] h i lt = absurd (omega arith)
kept_each P (true ∷ marks) (x ∷ xs) h zero lt = h 0 (omega arith)
kept_each P (true ∷ marks) (x ∷ xs) h (suc i) lt =
    kept_each P marks xs (λ j le. h (suc j) (omega arith)) i (omega arith)
kept_each P (false ∷ marks) (x ∷ xs) h i lt =
    kept_each P marks xs (λ j le. h (suc j) (omega arith)) i lt

pub kept_below : (marks : List Bool) (n : ℕ) (places : List ℕ)
    → places ≡ chosen marks (range_with_len 0 n) → (i : ℕ) → i < length places
    → get_or places i 0 < n
kept_below marks n places e =
    subst (λ (l : List ℕ). (i : ℕ) → i < length l → get_or l i 0 < n) (sym e)
    (kept_each (λ j. j < n) marks (range_with_len 0 n) (λ i lt. omega (arith, get_or-range_with_len 0 n i 0 (omega (arith, length-range_with_len 0 n)), length-range_with_len 0 n)))

-- all columns are kept
full_is : {X Y : Type 0} (marks : List Bool) (xs : List X) (ys : List Y)
    → length marks ≡ length xs → length xs ≡ length ys → length (chosen marks xs) ≡ length xs
    → chosen marks ys ≡ ys
unfolding chosen
full_is [] [] [] m e h = refl
full_is [] [] (y ∷ ys) m e h = absurd (omega arith)
full_is [] (x ∷ xs) ys m e h = absurd (omega arith)
full_is (mark ∷ marks) [] ys m e h = absurd (omega arith)
full_is (mark ∷ marks) (x ∷ xs) [] m e h = absurd (omega arith)
full_is (true ∷ marks) (x ∷ xs) (y ∷ ys) m e h =
    ap (λ l. y ∷ l) (full_is marks xs ys (omega arith) (omega arith) (omega arith))
full_is (false ∷ marks) (x ∷ xs) (y ∷ ys) m e h = absurd (omega (arith, chosen_small marks xs))

full_rows : (marks : List Bool) (xs : List ℕ) (rows : List (List (Option Bool)))
    → length marks ≡ length xs → HasWidth (length xs) rows → length (chosen marks xs) ≡ length xs
    → map (chosen marks) (map characters_of rows) ≡ map characters_of rows
unfolding HasWidth
full_rows marks xs [] m w h = refl
full_rows marks xs (row ∷ rows) m w h =
    rw (full_is marks xs (characters_of row) m (sym (length-map row character_of ∙ w.0)) h, full_rows marks xs rows m w.1 h) refl

-- a loop that makes a row of each row
pub made_more : {X Y : Type 0} (f h : X → Y) (rows made new : List X) (i : ℕ) (row item : X)
    → i < length rows → row ≡ get_or rows i row → f item ≡ h row → new ≡ made ++ item ∷ []
    → map f made ≡ map h (take i rows)
    → map f new ≡ map h (take (i + 1) rows)
made_more f h rows made new i row item lt e k n inv =
    ap (map f) n ∙ map-append f made (item ∷ []) ∙ ap (λ l. l ++ f item ∷ []) inv
    ∙ ap (λ x. map h (take i rows) ++ x ∷ []) (k ∙ ap h e)
    ∙ sym (ap (map h) (take_more rows i row lt) ∙ map-append h (take i rows) (get_or rows i row ∷ []))

-- ---- the table that is made
pub narrow_full : (inputs : List (List ℕ)) (rows : List (List (Option Bool))) (phase : Bool) (name : List ℕ) (places : List ℕ)
    → HasWidth (length inputs) rows
    → places ≡ chosen (used_places inputs (map characters_of rows)) (range_with_len 0 (length inputs))
    → length places ≡ length inputs
    → record { inputs = inputs; output = name; rows = map characters_of rows; phase = phase } ≡ narrowed (record { inputs = inputs; output = name; rows = map characters_of rows; phase = phase })
unfolding narrowed
narrow_full inputs rows phase name places w e h =
    let marks = used_places inputs (map characters_of rows) in
    let long : length (range_with_len 0 (length inputs)) ≡ length inputs = length-range_with_len 0 (length inputs) in
    let m : length marks ≡ length (range_with_len 0 (length inputs)) = used_long inputs (map characters_of rows) ∙ sym long in
    let all : length (chosen marks (range_with_len 0 (length inputs))) ≡ length (range_with_len 0 (length inputs)) = sym (ap length e) ∙ h ∙ sym long in
    sym (rw (full_is marks (range_with_len 0 (length inputs)) inputs m long all, full_rows marks (range_with_len 0 (length inputs)) rows m (subst (λ (n : ℕ). HasWidth n rows) (sym long) w) all) refl)

pub narrow_kept : {X : Type 0} (f : X → List (Option Bool)) (inputs names : List (List ℕ)) (rows : List X) (kept : List (List (Option Bool))) (phase : Bool) (name : List ℕ) (places : List ℕ)
    → HasWidth (length inputs) (map f rows)
    → places ≡ chosen (used_places inputs (map characters_of (map f rows))) (range_with_len 0 (length inputs))
    → names ≡ map (λ i. get_or inputs i []) places
    → kept ≡ map (λ row. map (λ i. get_or (f row) i None) places) rows
    → record { inputs = names; output = name; rows = map characters_of kept; phase = phase } ≡ narrowed (record { inputs = inputs; output = name; rows = map characters_of (map f rows); phase = phase })
unfolding narrowed
narrow_kept f inputs names rows kept phase name places w e n k =
    let marks = used_places inputs (map characters_of (map f rows)) in
    let first : names ≡ chosen marks inputs = n ∙ ap (map (λ i. get_or inputs i [])) e ∙ kept_is marks inputs [] (length inputs) refl in
    let second : map characters_of kept ≡ map (chosen marks) (map characters_of (map f rows)) =
    ap (map characters_of) (k ∙ ap (λ (l : List ℕ). map (λ row. map (λ i. get_or (f row) i None) l) rows) e)
    ∙ kept_rows f marks rows (length inputs) w in
    rw (first, second) refl

all_wide : {X : Type 0} (f : X → List (Option Bool)) (places : List ℕ) (rows : List X)
    → HasWidth (length places) (map (λ row. map (λ i. get_or (f row) i None) places) rows)
unfolding HasWidth
all_wide f places [] = tt
all_wide f places (row ∷ rows) =
    (length-map places (λ i. get_or (f row) i None), all_wide f places rows)

pub kept_wide : {X : Type 0} (f : X → List (Option Bool)) (rows : List X) (places : List ℕ) (kept : List (List (Option Bool)))
    → kept ≡ map (λ row. map (λ i. get_or (f row) i None) places) rows
    → HasWidth (length places) kept
kept_wide f rows places kept e = subst (HasWidth (length places)) (sym e) (all_wide f places rows)

-- ---- rows once have the width of all
pub characters_more : {X : Type 0} (f : X → List (Option Bool)) (rows : List X) (i : ℕ) (row : X)
    → i < length rows → row ≡ get_or rows i row
    → drop i (map characters_of (map f rows)) ≡ characters_of (f row) ∷ drop (i + 1) (map characters_of (map f rows))
characters_more {X} f rows i row lt e =
    let n : i + 1 ≡ suc i = omega arith in at rows i lt e
    ∙ ap (λ k. characters_of (f row) ∷ drop k (map characters_of (map f rows))) (sym n)
  where
    at : (rows : List X) (i : ℕ) → i < length rows → row ≡ get_or rows i row
        → drop i (map characters_of (map f rows)) ≡ characters_of (f row) ∷ drop (suc i) (map characters_of (map f rows))
    at [] i lt e = absurd (omega arith)
    at (first ∷ rows) zero lt e = ap (λ x. characters_of (f x) ∷ map characters_of (map f rows)) (sym e)
    at (first ∷ rows) (suc i) lt e = at rows i (omega arith) e

pub characters_end : {X : Type 0} (f : X → List (Option Bool)) (rows : List X) (i : ℕ)
    → length rows ≤ i → length (drop i (map characters_of (map f rows))) ≡ 0
characters_end f rows i le =
    ap length (drop_all i (map characters_of (map f rows)) (omega (arith, length-map (map f rows) characters_of, length-map rows f)))

wide_back : (w : ℕ) (rows : List (List (Option Bool))) → HasCharacters w (map characters_of rows)
    → HasWidth w rows
unfolding HasWidth
wide_back w [] h = tt
wide_back w (row ∷ rows) h = (sym (length-map row character_of) ∙ h.0, wide_back w rows h.1)

pub once_wide : (w : ℕ) (rows made : List (List (Option Bool))) → HasWidth w rows
    → map characters_of made ≡ rows_once (map characters_of rows) → HasWidth w made
once_wide w rows made h e =
    wide_back w made (subst (HasCharacters w) (sym e) (once_all (λ row. length row ≡ w) (map characters_of rows) (characters_wide w rows h)))

-- ---- names that are folded
folded_inputs : (names : List (List ℕ)) (output : List ℕ)
    → (folded (record { inputs = names; output = output; rows = []; phase = true })).inputs ≡ each_once names
unfolding folded with_rows folded_rows
folded_inputs names output = by (all_different names) refl
  where
    by : (b : Bool) → all_different names ≡ b
        → (folded (record { inputs = names; output = output; rows = []; phase = true })).inputs ≡ each_once names
    by true h = rw h (sym (each_once-different names h))
    by false h = rw h refl

pub folded_names : (names copied : List (List ℕ)) (output : List ℕ) (rows : List (List Tri)) (made : Table) (n : ℕ)
    → copied ≡ names → rows ≡ []
    → made ≡ folded (record { inputs = copied; output = output; rows = rows; phase = true })
    → n ≡ length made.inputs → eqb n (length names) ≡ all_different names
folded_names names copied output rows made n c r m e =
    ap (λ k. eqb k (length names)) e
    ∙ all_once names made.inputs (ap (λ (t : Table). t.inputs) m ∙ ap (λ (l : List (List ℕ)). (folded (record { inputs = l; output = output; rows = rows; phase = true })).inputs) c ∙ ap (λ (l : List (List Tri)). (folded (record { inputs = names; output = output; rows = l; phase = true })).inputs) r ∙ folded_inputs names output)

-- ---- a table that is not folded and has a row or phase 1
pub tidied_rows : {R : Type 0} (table : CoverTable R) (name : List ℕ) (made : List (List Tri))
    → all_different table.inputs ≡ true
    → some_row_or_phase_one (map characters_of table.cover.rows) table.phase ≡ true
    → made ≡ rows_once (map characters_of table.cover.rows)
    → narrowed (record { inputs = table.inputs; output = name; rows = made; phase = table.phase }) ≡ tidied (named name table)
unfolding named
tidied_rows table name made once some e =
    ap (λ (rows : List (List Tri)). narrowed (record { inputs = table.inputs; output = name; rows = rows; phase = table.phase })) e
    ∙ sym (tidied_is (named name table) once some)
