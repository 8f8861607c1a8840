-- Properties of tidy tables.
use Rattle.std.proofs.Common.{◌≡◌, ℕ, suc, ◌+◌, ◌<◌, ◌≤◌, Bool, true, false, not, ◌&&◌, ◌||◌, if◌then◌else◌, List, [], ◌∷◌, ◌++◌, length, map, bytes_eq, refl, sym, ap, ◌∙◌, subst, arith, inl, inr}
use Rattle.std.specs.List.{AllByRecursion, list_any, list_all, filter}
use Rattle.std.proofs.lemmas.Bool.{false≢true, and_parts, and_from, or_left, or_right, or_cases, or_from, or_parts, not_from_false, not-true, false_from_ne_true, cases_eq}
use Rattle.std.proofs.lemmas.List.{length-map}
use Rattle.std.proofs.lemmas.List.Folds.{list_any-append}
use Rattle.std.proofs.Math.Bool.{or-false, or_assoc}
use Rattle.sis_base.specs.Rows.{agrees, matches, some_matches, value_by_phase, phase_value}
use Rattle.circuit_model.specs.Names.{has, all_different}
use Rattle.circuit_model.specs.Counts.{is_literal}
use Rattle.circuit_model.specs.Values.{literal_of, table_value}
use Rattle.circuit_model.specs.Soundness.{IsShaped}
use Rattle.circuit_model.specs.declared.circuit.Tri.{Tri}
use Rattle.circuit_model.specs.declared.circuit.Tri.TheVariants.{Zero, One, Free}
use Rattle.circuit_model.specs.declared.circuit.Table.{Table}
use Rattle.circuit_tables.specs.Folding.{each_once, folded_rows, with_rows, constant_one, folded}
use Rattle.circuit_tables.specs.Tidy.{IsWide, same_place, same_row, rows_differ, front_place, behind_front, used_places, some_row_or_phase_one, is_tidy, rows_once, chosen, narrowed, with_phase_one, with_rows_once, tidied}
use Rattle.circuit_tables.proofs.Merging.{widths_folded}
use Rattle.circuit_tables.proofs.Folded.{folded_value, folded_once, folded_output, folded_reads, folded_same, folded_shaped, folded_input_count, folded_row_count}

-- lists

all_weaker : {X : Type 0} (P Q : X → Type 0) → ((x : X) → P x → Q x) → (xs : List X) → AllByRecursion P xs → AllByRecursion Q xs
all_weaker P Q h [] all = tt
all_weaker P Q h (x ∷ xs) all = (h x all.0, all_weaker P Q h xs all.1)

all_both : {X : Type 0} (P Q R : X → Type 0) → ((x : X) → P x → Q x → R x) → (xs : List X) → AllByRecursion P xs → AllByRecursion Q xs → AllByRecursion R xs
all_both P Q R h [] p q = tt
all_both P Q R h (x ∷ xs) p q = (h x p.0 q.0, all_both P Q R h xs p.1 q.1)

all_mapped : {X Y : Type 0} (P : Y → Type 0) (f : X → Y) (xs : List X) → AllByRecursion P (map f xs) → AllByRecursion (λ x. P (f x)) xs
all_mapped P f [] all = tt
all_mapped P f (x ∷ xs) all = (all.0, all_mapped P f xs all.1)

all_from_mapped : {X Y : Type 0} (P : Y → Type 0) (f : X → Y) (xs : List X) → AllByRecursion (λ x. P (f x)) xs → AllByRecursion P (map f xs)
all_from_mapped P f [] all = tt
all_from_mapped P f (x ∷ xs) all = (all.0, all_from_mapped P f xs all.1)

any_each : {X : Type 0} (p : X → Bool) (xs : List X) → AllByRecursion (λ x. p x ≡ true → list_any p xs ≡ true) xs
any_each p [] = tt
any_each {X} p (x ∷ xs) = (
  λ h. or_left (p x) (list_any p xs) h,
  all_weaker (λ (y : X). p y ≡ true → list_any p xs ≡ true) (λ (y : X). p y ≡ true → (p x || list_any p xs) ≡ true) (λ y k h. or_right (p x) (list_any p xs) (k h)) xs (any_each p xs),
)

-- equal rows

place_same : (a b : Tri) → same_place a b ≡ true → a ≡ b
place_same Zero Zero h = refl
place_same One One h = refl
place_same Free Free h = refl
place_same Zero One h = absurd (false≢true h)
place_same Zero Free h = absurd (false≢true h)
place_same One Zero h = absurd (false≢true h)
place_same One Free h = absurd (false≢true h)
place_same Free Zero h = absurd (false≢true h)
place_same Free One h = absurd (false≢true h)

place_itself : (a : Tri) → same_place a a ≡ true
place_itself Zero = refl
place_itself One = refl
place_itself Free = refl

pub row_same : (a b : List Tri) → same_row a b ≡ true → a ≡ b
unfolding same_row
row_same [] [] h = refl
row_same [] (y ∷ b) h = absurd (false≢true h)
row_same (x ∷ a) [] h = absurd (false≢true h)
row_same (x ∷ a) (y ∷ b) h =
    let p = and_parts (same_place x y) (same_row a b) h in
    ap (λ (c : Tri). c ∷ a) (place_same x y p.0) ∙ ap (λ (r : List Tri). y ∷ r) (row_same a b p.1)

pub row_itself : (a : List Tri) → same_row a a ≡ true
unfolding same_row
row_itself [] = refl
row_itself (x ∷ a) = and_from (same_place x x) (same_row a a) (place_itself x) (row_itself a)

row_apart : (a b : List Tri) → same_row a b ≡ false → same_row b a ≡ false
row_apart a b h = false_from_ne_true (same_row b a) (λ e. false≢true (sym h ∙ subst (λ (r : List Tri). same_row a r ≡ true) (sym (row_same b a e)) (row_itself a)))

-- rows once

abbrev some_fits : List (List Tri) → List Bool → Bool
some_fits rows point = some_matches (map (map literal_of) rows) point

among_fits : (rows : List (List Tri)) (row : List Tri) (point : List Bool) → list_any (same_row row) rows ≡ true → matches (map literal_of row) point ≡ true → some_fits rows point ≡ true
unfolding some_matches
among_fits [] row point h k = absurd (false≢true h)
among_fits (first ∷ rows) row point h k =
    elim (or_cases (same_row row first) (list_any (same_row row) rows) h) as (λ _. (matches (map literal_of first) point || some_fits rows point) ≡ true) [
      | inl e ↦ or_left (matches (map literal_of first) point) (some_fits rows point) (subst (λ (r : List Tri). matches (map literal_of r) point ≡ true) (row_same row first e) k)
      | inr m ↦ or_right (matches (map literal_of first) point) (some_fits rows point) (among_fits rows row point m k)
    ]

fits_push : (front : List (List Tri)) (row : List Tri) (point : List Bool) → some_fits (front ++ row ∷ []) point ≡ (some_fits front point || matches (map literal_of row) point)
unfolding some_matches
fits_push [] row point = or-false (matches (map literal_of row) point)
fits_push (first ∷ front) row point =
    ap (λ (b : Bool). matches (map literal_of first) point || b) (fits_push front row point)
    ∙ sym (or_assoc (matches (map literal_of first) point) (some_fits front point) (matches (map literal_of row) point))

-- the rows after some rows, without those that equal an earlier row
unfoldable pub rows_behind : List (List Tri) → List (List Tri) → List (List Tri)
rows_behind front [] = []
rows_behind front (row ∷ rows) = if list_any (same_row row) front then rows_behind front rows else row ∷ rows_behind (front ++ row ∷ []) rows

behind_fits : (front rows : List (List Tri)) (point : List Bool) → (some_fits front point || some_fits (rows_behind front rows) point) ≡ (some_fits front point || some_fits rows point)
unfolding rows_behind some_matches
behind_fits front [] point = refl
behind_fits front (row ∷ rows) point = cases (list_any (same_row row) front) refl (behind_fits front rows point) (behind_fits (front ++ row ∷ []) rows point)
  where
    absorb : (a m s : Bool) → (m ≡ true → a ≡ true) → (a || s) ≡ (a || (m || s))
    absorb true m s h = refl
    absorb false true s h = absurd (false≢true (h refl))
    absorb false false s h = refl

    cases : (t : Bool) → list_any (same_row row) front ≡ t
        → (some_fits front point || some_fits (rows_behind front rows) point) ≡ (some_fits front point || some_fits rows point)
        → (some_fits (front ++ row ∷ []) point || some_fits (rows_behind (front ++ row ∷ []) rows) point) ≡ (some_fits (front ++ row ∷ []) point || some_fits rows point)
        → (some_fits front point || some_fits (if t then rows_behind front rows else row ∷ rows_behind (front ++ row ∷ []) rows) point)
        ≡ (some_fits front point || (matches (map literal_of row) point || some_fits rows point))
    cases true e same more = same ∙ absorb (some_fits front point) (matches (map literal_of row) point) (some_fits rows point) (λ m. among_fits front row point e m)
    cases false e same more =
        sym (or_assoc (some_fits front point) (matches (map literal_of row) point) (some_fits (rows_behind (front ++ row ∷ []) rows) point))
        ∙ ap (λ (b : Bool). b || some_fits (rows_behind (front ++ row ∷ []) rows) point) (sym (fits_push front row point))
        ∙ more
        ∙ ap (λ (b : Bool). b || some_fits rows point) (fits_push front row point)
        ∙ or_assoc (some_fits front point) (matches (map literal_of row) point) (some_fits rows point)

behind_all : (P : List Tri → Type 0) (front rows : List (List Tri)) → AllByRecursion P rows → AllByRecursion P (rows_behind front rows)
unfolding rows_behind
behind_all P front [] all = tt
behind_all P front (row ∷ rows) all = cases (list_any (same_row row) front) (behind_all P front rows all.1) (behind_all P (front ++ row ∷ []) rows all.1)
  where
    cases : (t : Bool) → AllByRecursion P (rows_behind front rows) → AllByRecursion P (rows_behind (front ++ row ∷ []) rows)
        → AllByRecursion P (if t then rows_behind front rows else row ∷ rows_behind (front ++ row ∷ []) rows)
    cases true same more = same
    cases false same more = (all.0, more)

among_push : (front : List (List Tri)) (last row : List Tri) → list_any (same_row row) (front ++ last ∷ []) ≡ (list_any (same_row row) front || same_row row last)
among_push front last row = list_any-append (same_row row) front (last ∷ []) ∙ ap (λ (b : Bool). list_any (same_row row) front || b) (or-false (same_row row last))

behind_new : (front rows : List (List Tri)) (row : List Tri) → list_any (same_row row) front ≡ true → list_any (same_row row) (rows_behind front rows) ≡ false
unfolding rows_behind
behind_new front [] row h = refl
behind_new front (first ∷ rows) row h =
    cases (list_any (same_row first) front) refl (behind_new front rows row h)
    (behind_new (front ++ first ∷ []) rows row (among_push front first row ∙ or_left (list_any (same_row row) front) (same_row row first) h))
  where
    cases : (t : Bool) → list_any (same_row first) front ≡ t → list_any (same_row row) (rows_behind front rows) ≡ false
        → list_any (same_row row) (rows_behind (front ++ first ∷ []) rows) ≡ false
        → list_any (same_row row) (if t then rows_behind front rows else first ∷ rows_behind (front ++ first ∷ []) rows) ≡ false
    cases true e same more = same
    cases false e same more =
        or_from (same_row row first) (list_any (same_row row) (rows_behind (front ++ first ∷ []) rows))
        (false_from_ne_true (same_row row first) (λ k. false≢true (sym e ∙ subst (λ (r : List Tri). list_any (same_row r) front ≡ true) (row_same row first k) h))) more

behind_differ : (front rows : List (List Tri)) → rows_differ (rows_behind front rows) ≡ true
unfolding rows_behind rows_differ
behind_differ front [] = refl
behind_differ front (row ∷ rows) =
    cases (list_any (same_row row) front) (behind_differ front rows) (behind_differ (front ++ row ∷ []) rows)
    (behind_new (front ++ row ∷ []) rows row (among_push front row row ∙ or_right (list_any (same_row row) front) (same_row row row) (row_itself row)))
  where
    cases : (t : Bool) → rows_differ (rows_behind front rows) ≡ true → rows_differ (rows_behind (front ++ row ∷ []) rows) ≡ true
        → list_any (same_row row) (rows_behind (front ++ row ∷ []) rows) ≡ false
        → rows_differ (if t then rows_behind front rows else row ∷ rows_behind (front ++ row ∷ []) rows) ≡ true
    cases true same more new = same
    cases false same more new =
        and_from (not (list_any (same_row row) (rows_behind (front ++ row ∷ []) rows))) (rows_differ (rows_behind (front ++ row ∷ []) rows))
        (not_from_false (list_any (same_row row) (rows_behind (front ++ row ∷ []) rows)) new) more

none_each : (row : List Tri) (rows : List (List Tri)) → list_any (same_row row) rows ≡ false → AllByRecursion (λ (other : List Tri). same_row other row ≡ false) rows
none_each row [] h = tt
none_each row (first ∷ rows) h =
    let p = or_parts (same_row row first) (list_any (same_row row) rows) h in (row_apart row first p.0, none_each row rows p.1)

behind_same : (front rows : List (List Tri)) → AllByRecursion (λ (row : List Tri). list_any (same_row row) front ≡ false) rows → rows_differ rows ≡ true → rows_behind front rows ≡ rows
unfolding rows_behind rows_differ
behind_same front [] new h = refl
behind_same front (row ∷ rows) new h =
    let p = and_parts (not (list_any (same_row row) rows)) (rows_differ rows) h in
    cases (list_any (same_row row) front) new.0
    (behind_same (front ++ row ∷ []) rows
    (all_both (λ (r : List Tri). list_any (same_row r) front ≡ false) (λ (r : List Tri). same_row r row ≡ false) (λ (r : List Tri). list_any (same_row r) (front ++ row ∷ []) ≡ false)
    (λ r old apart. among_push front row r ∙ or_from (list_any (same_row r) front) (same_row r row) old apart) rows new.1
    (none_each row rows (not-true (list_any (same_row row) rows) p.0))) p.1)
  where
    cases : (t : Bool) → t ≡ false → rows_behind (front ++ row ∷ []) rows ≡ rows → (if t then rows_behind front rows else row ∷ rows_behind (front ++ row ∷ []) rows) ≡ row ∷ rows
    cases true e more = absurd (false≢true (sym e))
    cases false e more = ap (λ (rest : List (List Tri)). row ∷ rest) more

all_unit : (P : List Tri → Type 0) → ((row : List Tri) → P row) → (rows : List (List Tri)) → AllByRecursion P rows
all_unit P h [] = tt
all_unit P h (row ∷ rows) = (h row, all_unit P h rows)

-- they are the rows once, without those before them

abbrev is_new : List (List Tri) → List Tri → Bool
is_new front row = not (list_any (same_row row) front)

abbrev is_other : List Tri → List Tri → Bool
is_other row other = not (same_row row other)

filter_known : (front : List (List Tri)) (row : List Tri) → list_any (same_row row) front ≡ true → (rows : List (List Tri)) → filter (is_new front) (filter (is_other row) rows) ≡ filter (is_new front) rows
filter_known front row e [] = refl
filter_known front row e (one ∷ rows) = by (same_row row one) refl (filter_known front row e rows)
  where
    by : (s : Bool) → same_row row one ≡ s → filter (is_new front) (filter (is_other row) rows) ≡ filter (is_new front) rows
        → filter (is_new front) (if not s then one ∷ filter (is_other row) rows else filter (is_other row) rows) ≡ filter (is_new front) (one ∷ rows)
    by true is rest =
        rest ∙ sym (ap (λ b. if not b then one ∷ filter (is_new front) rows else filter (is_new front) rows) (subst (λ (r : List Tri). list_any (same_row r) front ≡ true) (row_same row one is) e))
    by false is rest = ap (λ more. if is_new front one then one ∷ more else more) rest

row_turned : (row other : List Tri) → same_row row other ≡ same_row other row
row_turned row other = by (same_row row other) (same_row other row) refl refl
  where
    by : (s t : Bool) → same_row row other ≡ s → same_row other row ≡ t → s ≡ t
    by true true e d = refl
    by false false e d = refl
    by true false e d = sym (subst (λ (r : List Tri). same_row r row ≡ true) (row_same row other e) (row_itself row)) ∙ d
    by false true e d = sym e ∙ subst (λ (r : List Tri). same_row r other ≡ true) (row_same other row d) (row_itself other)

filter_pushed : (front : List (List Tri)) (row : List Tri) (rows : List (List Tri)) → filter (is_new (front ++ row ∷ [])) rows ≡ filter (is_new front) (filter (is_other row) rows)
filter_pushed front row [] = refl
filter_pushed front row (one ∷ rows) =
    ap (λ b. if not b then one ∷ filter (is_new (front ++ row ∷ [])) rows else filter (is_new (front ++ row ∷ [])) rows) (among_push front row one ∙ ap (λ b. list_any (same_row one) front || b) (row_turned one row))
    ∙ by (list_any (same_row one) front) (same_row row one) refl (filter_pushed front row rows)
  where
    by : (a s : Bool) → list_any (same_row one) front ≡ a → filter (is_new (front ++ row ∷ [])) rows ≡ filter (is_new front) (filter (is_other row) rows)
        → (if not (a || s) then one ∷ filter (is_new (front ++ row ∷ [])) rows else filter (is_new (front ++ row ∷ [])) rows)
        ≡ filter (is_new front) (if not s then one ∷ filter (is_other row) rows else filter (is_other row) rows)
    by true true e rest = rest
    by false true e rest = rest
    by true false e rest = rest ∙ sym (ap (λ b. if not b then one ∷ filter (is_new front) (filter (is_other row) rows) else filter (is_new front) (filter (is_other row) rows)) e)
    by false false e rest =
        ap (λ (more : List (List Tri)). one ∷ more) rest
        ∙ sym (ap (λ b. if not b then one ∷ filter (is_new front) (filter (is_other row) rows) else filter (is_new front) (filter (is_other row) rows)) e)

behind_is : (front rows : List (List Tri)) → rows_behind front rows ≡ filter (is_new front) (rows_once rows)
unfolding rows_behind rows_once
behind_is front [] = refl
behind_is front (row ∷ rows) = cases (list_any (same_row row) front) refl (behind_is front rows) (behind_is (front ++ row ∷ []) rows)
  where
    cases : (t : Bool) → list_any (same_row row) front ≡ t → rows_behind front rows ≡ filter (is_new front) (rows_once rows)
        → rows_behind (front ++ row ∷ []) rows ≡ filter (is_new (front ++ row ∷ [])) (rows_once rows)
        → (if t then rows_behind front rows else row ∷ rows_behind (front ++ row ∷ []) rows)
        ≡ (if not t then row ∷ filter (is_new front) (filter (is_other row) (rows_once rows)) else filter (is_new front) (filter (is_other row) (rows_once rows)))
    cases true e same more = same ∙ sym (filter_known front row e (rows_once rows))
    cases false e same more = ap (λ (rest : List (List Tri)). row ∷ rest) (more ∙ filter_pushed front row (rows_once rows))

filter_all : (rows : List (List Tri)) → filter (is_new []) rows ≡ rows
filter_all [] = refl
filter_all (row ∷ rows) = ap (λ (rest : List (List Tri)). row ∷ rest) (filter_all rows)

pub behind_none : (rows : List (List Tri)) → rows_behind [] rows ≡ rows_once rows
behind_none rows = behind_is [] rows ∙ filter_all (rows_once rows)

once_fits : (rows : List (List Tri)) (point : List Bool) → some_fits (rows_once rows) point ≡ some_fits rows point
unfolding some_matches
once_fits rows point = ap (λ (made : List (List Tri)). some_fits made point) (sym (behind_none rows)) ∙ behind_fits [] rows point

pub once_all : (P : List Tri → Type 0) (rows : List (List Tri)) → AllByRecursion P rows → AllByRecursion P (rows_once rows)
once_all P rows all = subst (AllByRecursion P) (behind_none rows) (behind_all P [] rows all)

pub once_differ : (rows : List (List Tri)) → rows_differ (rows_once rows) ≡ true
once_differ rows = subst (λ (made : List (List Tri)). rows_differ made ≡ true) (behind_none rows) (behind_differ [] rows)

once_stays : (rows : List (List Tri)) → rows_differ rows ≡ true → rows_once rows ≡ rows
once_stays rows h = sym (behind_none rows) ∙ behind_same [] rows (all_unit (λ (row : List Tri). list_any (same_row row) [] ≡ false) (λ row. refl) rows) h

-- columns with a literal

abbrev Covers : List Bool → List Tri → Type 0
Covers [] row = Unit {0}
Covers (mark ∷ marks) [] = Unit {0}
Covers (mark ∷ marks) (place ∷ row) = (is_literal place ≡ true → mark ≡ true) × Covers marks row

covers_used : (inputs : List (List ℕ)) (rows : List (List Tri)) → AllByRecursion (Covers (used_places inputs rows)) rows
unfolding used_places
covers_used [] rows = all_unit (Covers []) (λ row. tt) rows
covers_used (input ∷ inputs) rows =
    all_both (λ (row : List Tri). is_literal (front_place row) ≡ true → list_any (λ (other : List Tri). is_literal (front_place other)) rows ≡ true)
    (λ (row : List Tri). Covers (used_places inputs (map behind_front rows)) (behind_front row))
    (Covers (list_any (λ (other : List Tri). is_literal (front_place other)) rows ∷ used_places inputs (map behind_front rows)))
    (λ row here behind. joined row (list_any (λ (other : List Tri). is_literal (front_place other)) rows) (used_places inputs (map behind_front rows)) here behind)
    rows (any_each (λ (other : List Tri). is_literal (front_place other)) rows)
    (all_mapped (Covers (used_places inputs (map behind_front rows))) behind_front rows (covers_used inputs (map behind_front rows)))
  where
    joined : (row : List Tri) (mark : Bool) (marks : List Bool) → (is_literal (front_place row) ≡ true → mark ≡ true) → Covers marks (behind_front row) → Covers (mark ∷ marks) row
    joined [] mark marks here behind = tt
    joined (place ∷ row) mark marks here behind = (here, behind)

pub used_long : (inputs : List (List ℕ)) (rows : List (List Tri)) → length (used_places inputs rows) ≡ length inputs
unfolding used_places
used_long [] rows = refl
used_long (input ∷ inputs) rows = ap suc (used_long inputs (map behind_front rows))

chosen_matches : (marks : List Bool) (names : List (List ℕ)) (row : List Tri) (value : List ℕ → Bool) → length marks ≡ length names → Covers marks row
    → matches (map literal_of (chosen marks row)) (map value (chosen marks names)) ≡ matches (map literal_of row) (map value names)
unfolding matches chosen
chosen_matches [] [] [] value e h = refl
chosen_matches [] [] (place ∷ row) value e h = refl
chosen_matches [] (name ∷ names) row value e h = absurd (omega arith)
chosen_matches (mark ∷ marks) [] row value e h = absurd (omega arith)
chosen_matches (mark ∷ marks) (name ∷ names) [] value e h = refl
chosen_matches (mark ∷ marks) (name ∷ names) (place ∷ row) value e h = cases mark place h.0 (chosen_matches marks names row value (omega arith) h.1)
  where
    cases : (m : Bool) (c : Tri) → (is_literal c ≡ true → m ≡ true)
        → matches (map literal_of (chosen marks row)) (map value (chosen marks names)) ≡ matches (map literal_of row) (map value names)
        → matches (map literal_of (chosen (m ∷ marks) (c ∷ row))) (map value (chosen (m ∷ marks) (name ∷ names))) ≡ (agrees (literal_of c) (value name) && matches (map literal_of row) (map value names))
    cases true c k rest = ap (λ (b : Bool). agrees (literal_of c) (value name) && b) rest
    cases false Free k rest = rest
    cases false Zero k rest = absurd (false≢true (k refl))
    cases false One k rest = absurd (false≢true (k refl))

all_chosen : (marks : List Bool) (names : List (List ℕ)) (value : List ℕ → Bool) (rows : List (List Tri)) → length marks ≡ length names → AllByRecursion (Covers marks) rows
    → some_fits (map (chosen marks) rows) (map value (chosen marks names)) ≡ some_fits rows (map value names)
unfolding some_matches
all_chosen marks names value [] e h = refl
all_chosen marks names value (row ∷ rows) e h = rw (chosen_matches marks names row value e h.0, all_chosen marks names value rows e h.1) refl

chosen_long : {A B : Type 0} (marks : List Bool) (xs : List A) (ys : List B) → length xs ≡ length ys → length (chosen marks xs) ≡ length (chosen marks ys)
unfolding chosen
chosen_long [] xs ys e = refl
chosen_long (mark ∷ marks) [] [] e = refl
chosen_long (mark ∷ marks) [] (y ∷ ys) e = absurd (omega arith)
chosen_long (mark ∷ marks) (x ∷ xs) [] e = absurd (omega arith)
chosen_long (true ∷ marks) (x ∷ xs) (y ∷ ys) e = ap suc (chosen_long marks xs ys (omega arith))
chosen_long (false ∷ marks) (x ∷ xs) (y ∷ ys) e = chosen_long marks xs ys (omega arith)

pub chosen_has : (marks : List Bool) (names : List (List ℕ)) (name : List ℕ) → has (chosen marks names) name ≡ true → has names name ≡ true
unfolding chosen
chosen_has [] names name h = absurd (false≢true h)
chosen_has (mark ∷ marks) [] name h = absurd (false≢true h)
chosen_has (true ∷ marks) (first ∷ names) name h =
    elim (or_cases (bytes_eq name first) (has (chosen marks names) name) h) as (λ _. (bytes_eq name first || has names name) ≡ true) [
      | inl e ↦ or_left (bytes_eq name first) (has names name) e
      | inr m ↦ or_right (bytes_eq name first) (has names name) (chosen_has marks names name m)
    ]
chosen_has (false ∷ marks) (first ∷ names) name h = or_right (bytes_eq name first) (has names name) (chosen_has marks names name h)

chosen_different : (marks : List Bool) (names : List (List ℕ)) → all_different names ≡ true → all_different (chosen marks names) ≡ true
unfolding chosen all_different
chosen_different [] names h = refl
chosen_different (mark ∷ marks) [] h = refl
chosen_different (true ∷ marks) (first ∷ names) h =
    let p = and_parts (not (has names first)) (all_different names) h in
    and_from (not (has (chosen marks names) first)) (all_different (chosen marks names))
    (not_from_false (has (chosen marks names) first) (false_from_ne_true (has (chosen marks names) first) (λ k. false≢true (sym (not-true (has names first) p.0) ∙ chosen_has marks names first k))))
    (chosen_different marks names p.1)
chosen_different (false ∷ marks) (first ∷ names) h = chosen_different marks names (and_parts (not (has names first)) (all_different names) h).1

pub chosen_nil : {A : Type 0} (marks : List Bool) → chosen {A = A} marks [] ≡ []
unfolding chosen
chosen_nil [] = refl
chosen_nil (mark ∷ marks) = refl

front_true : (marks : List Bool) (rows : List (List Tri))
    → list_any (λ (row : List Tri). is_literal (front_place row)) (map (chosen (true ∷ marks)) rows) ≡ list_any (λ (row : List Tri). is_literal (front_place row)) rows
unfolding chosen
front_true marks [] = refl
front_true marks ([] ∷ rows) = front_true marks rows
front_true marks ((place ∷ row) ∷ rows) = ap (λ (b : Bool). is_literal place || b) (front_true marks rows)

behind_true : (marks : List Bool) (rows : List (List Tri)) → map behind_front (map (chosen (true ∷ marks)) rows) ≡ map (chosen marks) (map behind_front rows)
unfolding chosen
behind_true marks [] = refl
behind_true marks ([] ∷ rows) = rw (behind_true marks rows) (ap (λ (r : List Tri). r ∷ map (chosen marks) (map behind_front rows)) (sym (chosen_nil marks)))
behind_true marks ((place ∷ row) ∷ rows) = ap (λ (rest : List (List Tri)). chosen marks row ∷ rest) (behind_true marks rows)

behind_false : (marks : List Bool) (rows : List (List Tri)) → map (chosen (false ∷ marks)) rows ≡ map (chosen marks) (map behind_front rows)
unfolding chosen
behind_false marks [] = refl
behind_false marks ([] ∷ rows) = rw (behind_false marks rows) (ap (λ (r : List Tri). r ∷ map (chosen marks) (map behind_front rows)) (sym (chosen_nil marks)))
behind_false marks ((place ∷ row) ∷ rows) = ap (λ (rest : List (List Tri)). chosen marks row ∷ rest) (behind_false marks rows)

used_chosen : (marks : List Bool) (inputs : List (List ℕ)) (rows : List (List Tri)) → used_places (chosen marks inputs) (map (chosen marks) rows) ≡ chosen marks (used_places inputs rows)
unfolding chosen used_places
used_chosen [] inputs rows = refl
used_chosen (mark ∷ marks) [] rows = refl
used_chosen (true ∷ marks) (input ∷ inputs) rows =
    ap (λ (b : Bool). b ∷ used_places (chosen marks inputs) (map behind_front (map (chosen (true ∷ marks)) rows))) (front_true marks rows)
    ∙ ap (λ (bs : List Bool). list_any (λ (row : List Tri). is_literal (front_place row)) rows ∷ bs)
    (ap (used_places (chosen marks inputs)) (behind_true marks rows) ∙ used_chosen marks inputs (map behind_front rows))
used_chosen (false ∷ marks) (input ∷ inputs) rows = ap (used_places (chosen marks inputs)) (behind_false marks rows) ∙ used_chosen marks inputs (map behind_front rows)

all_marked : (marks : List Bool) → list_all (λ used. used) (chosen marks marks) ≡ true
unfolding chosen
all_marked [] = refl
all_marked (true ∷ marks) = all_marked marks
all_marked (false ∷ marks) = skip marks
  where
    skip : (some : List Bool) → list_all (λ used. used) (chosen some some) ≡ true
    skip [] = refl
    skip (true ∷ some) = skip some
    skip (false ∷ some) = skip some

chosen_all : {A : Type 0} (marks : List Bool) (xs : List A) → list_all (λ used. used) marks ≡ true → length marks ≡ length xs → chosen marks xs ≡ xs
unfolding chosen
chosen_all [] [] h e = refl
chosen_all [] (x ∷ xs) h e = absurd (omega arith)
chosen_all (mark ∷ marks) [] h e = refl
chosen_all {A} (true ∷ marks) (x ∷ xs) h e = ap (λ (rest : List A). x ∷ rest) (chosen_all marks xs h (omega arith))
chosen_all (false ∷ marks) (x ∷ xs) h e = absurd (false≢true h)

chosen_same : (marks : List Bool) (a b : List Tri) → length a ≡ length marks → length b ≡ length marks → Covers marks a → Covers marks b → same_row (chosen marks a) (chosen marks b) ≡ same_row a b
unfolding chosen same_row
chosen_same [] [] [] d e h k = refl
chosen_same [] [] (y ∷ b) d e h k = absurd (omega arith)
chosen_same [] (x ∷ a) b d e h k = absurd (omega arith)
chosen_same (mark ∷ marks) [] b d e h k = absurd (omega arith)
chosen_same (mark ∷ marks) (x ∷ a) [] d e h k = absurd (omega arith)
chosen_same (mark ∷ marks) (x ∷ a) (y ∷ b) d e h k = cases mark x y h.0 k.0 (chosen_same marks a b (omega arith) (omega arith) h.1 k.1)
  where
    cases : (m : Bool) (x y : Tri) → (is_literal x ≡ true → m ≡ true) → (is_literal y ≡ true → m ≡ true) → same_row (chosen marks a) (chosen marks b) ≡ same_row a b
        → same_row (chosen (m ∷ marks) (x ∷ a)) (chosen (m ∷ marks) (y ∷ b)) ≡ (same_place x y && same_row a b)
    cases true x y p q rest = ap (λ (t : Bool). same_place x y && t) rest
    cases false Free Free p q rest = rest
    cases false Free Zero p q rest = absurd (false≢true (q refl))
    cases false Free One p q rest = absurd (false≢true (q refl))
    cases false Zero y p q rest = absurd (false≢true (p refl))
    cases false One y p q rest = absurd (false≢true (p refl))

abbrev Narrows : List Bool → List Tri → Type 0
Narrows marks row = (length row ≡ length marks) × Covers marks row

chosen_among : (marks : List Bool) (row : List Tri) (rows : List (List Tri)) → Narrows marks row → AllByRecursion (Narrows marks) rows
    → list_any (same_row (chosen marks row)) (map (chosen marks) rows) ≡ list_any (same_row row) rows
chosen_among marks row [] h all = refl
chosen_among marks row (first ∷ rows) h all = rw (chosen_same marks row first h.0 all.0.0 h.1 all.0.1, chosen_among marks row rows h all.1) refl

chosen_differ : (marks : List Bool) (rows : List (List Tri)) → AllByRecursion (Narrows marks) rows → rows_differ (map (chosen marks) rows) ≡ rows_differ rows
unfolding rows_differ
chosen_differ marks [] all = refl
chosen_differ marks (row ∷ rows) all = rw (chosen_among marks row rows all.0 all.1, chosen_differ marks rows all.1) refl

-- tables by parts

pub record IsTidy (table : Table) : Type 0 where
  pub once : all_different table.inputs ≡ true
  pub used : list_all (λ used. used) (used_places table.inputs table.rows) ≡ true
  pub differ : rows_differ table.rows ≡ true
  pub some : some_row_or_phase_one table.rows table.phase ≡ true

pub tidy_parts : (table : Table) → is_tidy table ≡ true → IsTidy table
unfolding is_tidy
tidy_parts table h =
    let p = by (all_different table.inputs) (list_all (λ used. used) (used_places table.inputs table.rows)) (rows_differ table.rows) (some_row_or_phase_one table.rows table.phase) h in
    record { once = p.0; used = p.1; differ = p.2; some = p.3 }
  where
    by : (a b c d : Bool) → (a && b && c && d) ≡ true → (a ≡ true) × (b ≡ true) × (c ≡ true) × (d ≡ true)
    by true true true true e = (refl, refl, refl, refl)
    by false b c d e = absurd (false≢true e)
    by true false c d e = absurd (false≢true e)
    by true true false d e = absurd (false≢true e)
    by true true true false e = absurd (false≢true e)

pub parts_tidy : (table : Table) → IsTidy table → is_tidy table ≡ true
unfolding is_tidy
parts_tidy table p = rw (p.once, p.used, p.differ, p.some) refl

folded_wide : (table : Table) → IsWide table → IsWide (folded table)
unfolding folded with_rows
folded_wide table wide = cases (all_different table.inputs) (by (folded_rows table.inputs table.rows) (widths_folded table.inputs table.rows))
  where
    by : (rows : List (List Tri)) → AllByRecursion (λ (row : List Tri). length row ≡ length (each_once table.inputs)) rows → IsWide (with_rows table rows)
    by [] widths = none table.phase
      where
        none : (t : Bool) → IsWide (if t then record table { inputs = each_once table.inputs; rows = [] } else constant_one table.output)
        none true = tt
        none false = (refl, tt)
    by (row ∷ rows) widths = widths

    cases : (t : Bool) → IsWide (with_rows table (folded_rows table.inputs table.rows)) → IsWide (if t then table else with_rows table (folded_rows table.inputs table.rows))
    cases true other = wide
    cases false other = other

-- a table is given phase 1 where it has no row
phases : (P : Table → Type 0) (table : Table) → (some_row_or_phase_one table.rows table.phase ≡ true → P table) → (table.rows ≡ [] → table.phase ≡ false → P (constant_one table.output)) → P (with_phase_one table)
unfolding with_phase_one
phases P table same one = cases (some_row_or_phase_one table.rows table.phase) refl
  where
    lost : (rows : List (List Tri)) (phase : Bool) → some_row_or_phase_one rows phase ≡ false → (rows ≡ []) × (phase ≡ false)
    lost [] phase e = (refl, e)
    lost (row ∷ rows) phase e = absurd (false≢true (sym e))

    cases : (t : Bool) → some_row_or_phase_one table.rows table.phase ≡ t → P (if t then table else constant_one table.output)
    cases true e = same e
    cases false e = let p = lost table.rows table.phase e in one p.0 p.1

abbrev ready : Table → Table
ready table = with_phase_one (folded table)

lost_value : (made : Table) (value : List ℕ → Bool) → made.rows ≡ [] → made.phase ≡ false → table_value (constant_one made.output) (map value (constant_one made.output).inputs) ≡ table_value made (map value made.inputs)
unfolding table_value value_by_phase some_matches matches
lost_value made value none zero_phase = rw (none, zero_phase) refl

ready_value : (table : Table) (value : List ℕ → Bool) → table_value (ready table) (map value (ready table).inputs) ≡ table_value table (map value table.inputs)
ready_value table value =
    phases (λ (made : Table). table_value made (map value made.inputs) ≡ table_value table (map value table.inputs)) (folded table) (λ e. folded_value table value)
    (λ none zero_phase. lost_value (folded table) value none zero_phase ∙ folded_value table value)

ready_wide : (table : Table) → IsWide table → IsWide (ready table)
ready_wide table wide = phases IsWide (folded table) (λ e. folded_wide table wide) (λ none zero_phase. (refl, tt))

ready_some : (table : Table) → some_row_or_phase_one (ready table).rows (ready table).phase ≡ true
ready_some table = phases (λ (made : Table). some_row_or_phase_one made.rows made.phase ≡ true) (folded table) (λ e. e) (λ none zero_phase. refl)

ready_once : (table : Table) → all_different (ready table).inputs ≡ true
unfolding all_different
ready_once table = phases (λ (made : Table). all_different made.inputs ≡ true) (folded table) (λ e. folded_once table) (λ none zero_phase. refl)

ready_output : (table : Table) → (ready table).output ≡ table.output
ready_output table = phases (λ (made : Table). made.output ≡ table.output) (folded table) (λ e. folded_output table) (λ none zero_phase. folded_output table)

ready_reads : (table : Table) (name : List ℕ) → has (ready table).inputs name ≡ true → has table.inputs name ≡ true
ready_reads table name = phases (λ (made : Table). has made.inputs name ≡ true → has table.inputs name ≡ true) (folded table) (λ e. folded_reads table name) (λ none zero_phase h. absurd (false≢true h))

-- tidied tables

once_value : (table : Table) (point : List Bool) → table_value (with_rows_once table) point ≡ table_value table point
unfolding table_value value_by_phase some_matches
once_value table point = ap (phase_value table.phase) (once_fits table.rows point)

narrowed_value : (table : Table) (value : List ℕ → Bool) → table_value (narrowed table) (map value (narrowed table).inputs) ≡ table_value table (map value table.inputs)
unfolding table_value value_by_phase narrowed
narrowed_value table value =
    ap (phase_value table.phase)
    (all_chosen (used_places table.inputs table.rows) table.inputs value table.rows (used_long table.inputs table.rows) (covers_used table.inputs table.rows))

pub tidied_value : (table : Table) (value : List ℕ → Bool) → table_value (tidied table) (map value (tidied table).inputs) ≡ table_value table (map value table.inputs)
unfolding tidied
tidied_value table value =
    narrowed_value (with_rows_once (ready table)) value ∙ once_value (ready table) (map value (ready table).inputs) ∙ ready_value table value

pub tidied_output : (table : Table) → (tidied table).output ≡ table.output
unfolding tidied narrowed
tidied_output table = ready_output table

pub tidied_reads : (table : Table) (name : List ℕ) → has (tidied table).inputs name ≡ true → has table.inputs name ≡ true
unfolding tidied narrowed
tidied_reads table name h =
    ready_reads table name (chosen_has (used_places (ready table).inputs (rows_once (ready table).rows)) (ready table).inputs name h)

pub tidied_once : (table : Table) → all_different (tidied table).inputs ≡ true
unfolding tidied narrowed
tidied_once table = chosen_different (used_places (ready table).inputs (rows_once (ready table).rows)) (ready table).inputs (ready_once table)

map_some : (f : List Tri → List Tri) (rows : List (List Tri)) (phase : Bool) → some_row_or_phase_one (map f rows) phase ≡ some_row_or_phase_one rows phase
map_some f [] phase = refl
map_some f (row ∷ rows) phase = refl

once_some : (rows : List (List Tri)) (phase : Bool) → some_row_or_phase_one (rows_once rows) phase ≡ some_row_or_phase_one rows phase
unfolding rows_once
once_some [] phase = refl
once_some (row ∷ rows) phase = refl

pub some_shaped : (rows : List (List Tri)) (phase : Bool) → some_row_or_phase_one rows phase ≡ true → rows ≡ [] → phase ≡ true
some_shaped [] phase h e = h
some_shaped (row ∷ rows) phase h e = absurd (let no : row ∷ rows ≡ [] = e in cc)

narrowed_wide : (table : Table) → IsWide table → IsWide (narrowed table)
unfolding narrowed
narrowed_wide table wide =
    all_from_mapped (λ (row : List Tri). length row ≡ length (chosen (used_places table.inputs table.rows) table.inputs)) (chosen (used_places table.inputs table.rows)) table.rows
    (all_weaker (λ (row : List Tri). length row ≡ length table.inputs)
    (λ (row : List Tri). length (chosen (used_places table.inputs table.rows) row) ≡ length (chosen (used_places table.inputs table.rows) table.inputs))
    (λ row e. chosen_long (used_places table.inputs table.rows) row table.inputs e) table.rows wide)

tidied_some : (table : Table) → some_row_or_phase_one (tidied table).rows (tidied table).phase ≡ true
unfolding tidied narrowed
tidied_some table =
    map_some (chosen (used_places (ready table).inputs (rows_once (ready table).rows))) (rows_once (ready table).rows) (ready table).phase
    ∙ once_some (ready table).rows (ready table).phase ∙ ready_some table

pub tidied_shaped : (table : Table) → IsWide table → IsShaped (tidied table)
unfolding tidied
tidied_shaped table wide = (
  narrowed_wide (with_rows_once (ready table)) (once_all (λ (row : List Tri). length row ≡ length (ready table).inputs) (ready table).rows (ready_wide table wide)),
  some_shaped (tidied table).rows (tidied table).phase (tidied_some table),
)

narrowed_used : (table : Table) → list_all (λ used. used) (used_places (narrowed table).inputs (narrowed table).rows) ≡ true
unfolding narrowed
narrowed_used table = ap (list_all (λ used. used)) (used_chosen (used_places table.inputs table.rows) table.inputs table.rows) ∙ all_marked (used_places table.inputs table.rows)

narrowed_differ : (table : Table) → IsWide table → rows_differ table.rows ≡ true → rows_differ (narrowed table).rows ≡ true
unfolding narrowed
narrowed_differ table wide h =
    chosen_differ (used_places table.inputs table.rows) table.rows
    (all_both (λ (row : List Tri). length row ≡ length table.inputs) (Covers (used_places table.inputs table.rows)) (Narrows (used_places table.inputs table.rows))
    (λ row e k. (e ∙ sym (used_long table.inputs table.rows), k)) table.rows wide (covers_used table.inputs table.rows)) ∙ h

pub tidied_tidy : (table : Table) → IsWide table → is_tidy (tidied table) ≡ true
unfolding tidied
tidied_tidy table wide =
    parts_tidy (tidied table) (record {
      once = tidied_once table;
      used = narrowed_used (with_rows_once (ready table));
      differ = narrowed_differ (with_rows_once (ready table))
          (once_all (λ (row : List Tri). length row ≡ length (ready table).inputs) (ready table).rows (ready_wide table wide)) (once_differ (ready table).rows);
      some = tidied_some table;
    })

narrowed_same : (table : Table) → IsWide table → list_all (λ used. used) (used_places table.inputs table.rows) ≡ true → narrowed table ≡ table
unfolding narrowed
narrowed_same table wide h =
    rw (chosen_all (used_places table.inputs table.rows) table.inputs h (used_long table.inputs table.rows), all_same table.rows wide) refl
  where
    all_same : (rows : List (List Tri)) → AllByRecursion (λ (row : List Tri). length row ≡ length table.inputs) rows → map (chosen (used_places table.inputs table.rows)) rows ≡ rows
    all_same [] all = refl
    all_same (row ∷ rows) all =
        rw (chosen_all (used_places table.inputs table.rows) row h (used_long table.inputs table.rows ∙ sym all.0), all_same rows all.1) refl

pub tidied_same : (table : Table) → IsWide table → is_tidy table ≡ true → tidied table ≡ table
unfolding tidied with_phase_one
tidied_same table wide h =
    let p = tidy_parts table h in
    let one : with_phase_one (folded table) ≡ table = rw (folded_same table p.once, p.some) refl in
    ap (λ (made : Table). narrowed (with_rows_once made)) one
    ∙ ap (λ (rows : List (List Tri)). narrowed (record table { rows = rows })) (once_stays table.rows p.differ)
    ∙ narrowed_same table wide p.used

-- the name of a table has no part in it

folded_renamed : (table : Table) (name : List ℕ) → folded (record table { output = name }) ≡ record (folded table) { output = name }
unfolding folded with_rows
folded_renamed table name = cases (all_different table.inputs) (folded_rows table.inputs table.rows)
  where
    none : (t : Bool)
        → (if t then record table { inputs = each_once table.inputs; rows = []; output = name } else constant_one name)
        ≡ record (if t then record table { inputs = each_once table.inputs; rows = [] } else constant_one table.output) { output = name }
    none true = refl
    none false = refl

    cases : (t : Bool) (rows : List (List Tri))
        → (if t then record table { output = name } else with_rows (record table { output = name }) rows) ≡ record (if t then table else with_rows table rows) { output = name }
    cases true rows = refl
    cases false [] = none table.phase
    cases false (row ∷ rows) = refl

phase_renamed : (table : Table) (name : List ℕ) → with_phase_one (record table { output = name }) ≡ record (with_phase_one table) { output = name }
unfolding with_phase_one
phase_renamed table name = cases (some_row_or_phase_one table.rows table.phase)
  where
    cases : (t : Bool) → (if t then record table { output = name } else constant_one name) ≡ record (if t then table else constant_one table.output) { output = name }
    cases true = refl
    cases false = refl

pub tidied_renamed : (table : Table) (name : List ℕ) → tidied (record table { output = name }) ≡ record (tidied table) { output = name }
unfolding tidied narrowed
tidied_renamed table name =
    ap (λ (made : Table). narrowed (with_rows_once made)) (ap with_phase_one (folded_renamed table name) ∙ phase_renamed (folded table) name)

-- how large tidied tables are

pub chosen_small : {A : Type 0} (marks : List Bool) (xs : List A) → length (chosen marks xs) ≤ length xs
unfolding chosen
chosen_small [] xs = omega arith
chosen_small (mark ∷ marks) [] = omega arith
chosen_small (true ∷ marks) (x ∷ xs) = let h : length (chosen marks xs) ≤ length xs = chosen_small marks xs in omega arith
chosen_small (false ∷ marks) (x ∷ xs) = let h : length (chosen marks xs) ≤ length xs = chosen_small marks xs in omega arith

chosen_less : {A : Type 0} (marks : List Bool) (xs : List A) → list_all (λ used. used) marks ≡ false → length marks ≡ length xs → length (chosen marks xs) < length xs
unfolding chosen
chosen_less [] xs h e = absurd (false≢true (sym h))
chosen_less (mark ∷ marks) [] h e = absurd (omega arith)
chosen_less (true ∷ marks) (x ∷ xs) h e = let k : length (chosen marks xs) < length xs = chosen_less marks xs h (omega arith) in omega arith
chosen_less (false ∷ marks) (x ∷ xs) h e = let k : length (chosen marks xs) ≤ length xs = chosen_small marks xs in omega arith

behind_small : (front rows : List (List Tri)) → length (rows_behind front rows) ≤ length rows
unfolding rows_behind
behind_small front [] = omega arith
behind_small front (row ∷ rows) = cases (list_any (same_row row) front) (behind_small front rows) (behind_small (front ++ row ∷ []) rows)
  where
    cases : (t : Bool) → length (rows_behind front rows) ≤ length rows → length (rows_behind (front ++ row ∷ []) rows) ≤ length rows
        → length (if t then rows_behind front rows else row ∷ rows_behind (front ++ row ∷ []) rows) ≤ suc (length rows)
    cases true h k = omega arith
    cases false h k = omega arith

behind_full : (front rows : List (List Tri)) → length (rows_behind front rows) ≡ length rows → rows_behind front rows ≡ rows
unfolding rows_behind
behind_full front [] e = refl
behind_full front (row ∷ rows) e = cases (list_any (same_row row) front) e (behind_small front rows) (λ d. behind_full (front ++ row ∷ []) rows d)
  where
    cases : (t : Bool) → length (if t then rows_behind front rows else row ∷ rows_behind (front ++ row ∷ []) rows) ≡ suc (length rows) → length (rows_behind front rows) ≤ length rows
        → (length (rows_behind (front ++ row ∷ []) rows) ≡ length rows → rows_behind (front ++ row ∷ []) rows ≡ rows)
        → (if t then rows_behind front rows else row ∷ rows_behind (front ++ row ∷ []) rows) ≡ row ∷ rows
    cases true d h more = absurd (omega arith)
    cases false d h more = ap (λ (rest : List (List Tri)). row ∷ rest) (more (omega arith))

-- inputs and rows of a table
abbrev pub size_of : Table → ℕ
size_of table = length table.inputs + length table.rows

pub once_small : (rows : List (List Tri)) → length (rows_once rows) ≤ length rows
once_small rows = subst (λ (made : List (List Tri)). length made ≤ length rows) (behind_none rows) (behind_small [] rows)

once_full : (rows : List (List Tri)) → length (rows_once rows) ≡ length rows → rows_once rows ≡ rows
once_full rows e = sym (behind_none rows) ∙ behind_full [] rows (ap length (behind_none rows) ∙ e)

narrowed_small : (table : Table) → size_of (narrowed (with_rows_once table)) ≤ size_of table
unfolding narrowed
narrowed_small table =
    let inputs : length (chosen (used_places table.inputs (rows_once table.rows)) table.inputs) ≤ length table.inputs = chosen_small (used_places table.inputs (rows_once table.rows)) table.inputs in
    let rows : length (map (chosen (used_places table.inputs (rows_once table.rows))) (rows_once table.rows)) ≡ length (rows_once table.rows) =
    length-map (rows_once table.rows) (chosen (used_places table.inputs (rows_once table.rows))) in
    let once : length (rows_once table.rows) ≤ length table.rows = once_small table.rows in
    omega arith

-- where an input has no literal, the table is smaller
pub narrowed_fewer : (table : Table) → list_all (λ used. used) (used_places table.inputs (rows_once table.rows)) ≡ false → size_of (narrowed (with_rows_once table)) < size_of table
unfolding narrowed
narrowed_fewer table h =
    let inputs : length (chosen (used_places table.inputs (rows_once table.rows)) table.inputs) < length table.inputs =
    chosen_less (used_places table.inputs (rows_once table.rows)) table.inputs h (used_long table.inputs (rows_once table.rows)) in
    let rows : length (map (chosen (used_places table.inputs (rows_once table.rows))) (rows_once table.rows)) ≡ length (rows_once table.rows) =
    length-map (rows_once table.rows) (chosen (used_places table.inputs (rows_once table.rows))) in
    let once : length (rows_once table.rows) ≤ length table.rows = once_small table.rows in
    omega arith

-- the case that a row occurs twice
narrowed_shorter : (table : Table) → (length (rows_once table.rows) ≡ length table.rows → ⊥) → size_of (narrowed (with_rows_once table)) < size_of table
unfolding narrowed
narrowed_shorter table n =
    let inputs : length (chosen (used_places table.inputs (rows_once table.rows)) table.inputs) ≤ length table.inputs = chosen_small (used_places table.inputs (rows_once table.rows)) table.inputs in
    let rows : length (map (chosen (used_places table.inputs (rows_once table.rows))) (rows_once table.rows)) ≡ length (rows_once table.rows) =
    length-map (rows_once table.rows) (chosen (used_places table.inputs (rows_once table.rows))) in
    let once : length (rows_once table.rows) ≤ length table.rows = once_small table.rows in
    omega arith

pub shaped_some : (rows : List (List Tri)) (phase : Bool) → (rows ≡ [] → phase ≡ true) → some_row_or_phase_one rows phase ≡ true
shaped_some [] phase h = h refl
shaped_some (row ∷ rows) phase h = refl

pub phase_kept : (table : Table) → some_row_or_phase_one table.rows table.phase ≡ true → with_phase_one table ≡ table
unfolding with_phase_one
phase_kept table h = rw h refl

pub phase_lost : (table : Table) → some_row_or_phase_one table.rows table.phase ≡ false → with_phase_one table ≡ constant_one table.output
unfolding with_phase_one
phase_lost table h = rw h refl

-- of a table with a shape, tidying makes no larger one
pub tidied_small : (table : Table) → IsShaped table → size_of (tidied table) ≤ size_of table
unfolding tidied
tidied_small table shaped =
    let made : IsShaped (folded table) = folded_shaped table shaped in
    let same : ready table ≡ folded table = phase_kept (folded table) (shaped_some (folded table).rows (folded table).phase made.1) in
    let narrow : size_of (narrowed (with_rows_once (ready table))) ≤ size_of (ready table) = narrowed_small (ready table) in
    let here : size_of (ready table) ≡ size_of (folded table) = ap size_of same in
    let inputs : length (folded table).inputs ≤ length table.inputs = folded_input_count table in
    let rows : length (folded table).rows ≤ length table.rows = folded_row_count table shaped in
    omega arith

pub tidied_is : (table : Table) → all_different table.inputs ≡ true → some_row_or_phase_one table.rows table.phase ≡ true → tidied table ≡ narrowed (with_rows_once table)
unfolding tidied
tidied_is table once some = ap (λ (made : Table). narrowed (with_rows_once made)) (ap with_phase_one (folded_same table once) ∙ phase_kept table some)

pub tidied_lost : (table : Table) → all_different table.inputs ≡ true → some_row_or_phase_one table.rows table.phase ≡ false → tidied table ≡ narrowed (with_rows_once (constant_one table.output))
unfolding tidied
tidied_lost table once none = ap (λ (made : Table). narrowed (with_rows_once made)) (ap with_phase_one (folded_same table once) ∙ phase_lost table none)

pub lost_small : (table : Table) → all_different table.inputs ≡ true → some_row_or_phase_one table.rows table.phase ≡ false → size_of (tidied table) ≤ 1
lost_small table once none =
    let is : size_of (tidied table) ≡ size_of (narrowed (with_rows_once (constant_one table.output))) = ap size_of (tidied_lost table once none) in
    let small : size_of (narrowed (with_rows_once (constant_one table.output))) ≤ 1 = narrowed_small (constant_one table.output) in
    omega arith

-- of a table that is not tidy it makes a smaller one
pub tidied_smaller : (table : Table) → IsShaped table → all_different table.inputs ≡ true → is_tidy table ≡ false → size_of (tidied table) < size_of table
tidied_smaller table shaped once untidy =
    let some : some_row_or_phase_one table.rows table.phase ≡ true = shaped_some table.rows table.phase shaped.1 in
    let is : size_of (tidied table) ≡ size_of (narrowed (with_rows_once table)) = ap size_of (tidied_is table once some) in
    let less : size_of (narrowed (with_rows_once table)) < size_of table =
    elim (cases_eq (length (rows_once table.rows)) (length table.rows)) as (λ _. size_of (narrowed (with_rows_once table)) < size_of table) [
      | inl full ↦ narrowed_fewer table (false_from_ne_true (list_all (λ used. used) (used_places table.inputs (rows_once table.rows))) (λ used.
          let same : rows_once table.rows ≡ table.rows = once_full table.rows full in
          false≢true (sym untidy ∙ parts_tidy table (record {
            once = once;
            used = subst (λ (rows : List (List Tri)). list_all (λ used. used) (used_places table.inputs rows) ≡ true) same used;
            differ = subst (λ (rows : List (List Tri)). rows_differ rows ≡ true) same (once_differ table.rows);
            some = some;
          }))))
      | inr fewer ↦ narrowed_shorter table fewer
    ] in
    omega arith
