-- The loops over rows and inputs: rows as texts, inputs with literals, distinct rows, marked items.
use Rattle.std.proofs.Common.{◌≡◌, ℕ, zero, suc, ◌+◌, ◌<◌, ◌≤◌, Bool, true, false, ◌||◌, eqb, if◌then◌else◌, List, [], ◌∷◌, ◌++◌, length, get_or, drop, map, bytes_eq, refl, sym, ap, ◌∙◌, arith}
use Rattle.std.specs.List.{list_any}
use Rattle.std.proofs.lemmas.Bool.{false≢true}
use Rattle.std.proofs.lemmas.Bool.Decides.{nat_tests}
use Rattle.std.proofs.lemmas.List.{drop_more, drop_all, append_assoc, append-nil, map-append}
use Rattle.circuit_model.specs.Names.{has, all_different}
use Rattle.circuit_model.specs.Counts.{is_literal}
use Rattle.circuit_model.specs.declared.circuit.Tri.{Tri}
use Rattle.circuit_model.specs.declared.circuit.Tri.TheVariants.{Zero, One, Free}
use Rattle.circuit_tables.specs.Folding.{each_once}
use Rattle.circuit_tables.specs.Tidy.{row_text, same_row, rows_differ, used_places, chosen, front_place, behind_front}
use Rattle.circuit_tables.proofs.Once.{same_name, itself, bytes_eq-sym, full-each_once, each_once-different}
use Rattle.circuit_tables.proofs.Tidied.{rows_behind, row_same, row_itself, chosen_nil}

-- rows as texts
tri_back : ℕ → Tri
tri_back n = if eqb n 48 then Zero else (if eqb n 49 then One else Free)

text_back : (row : List Tri) → map tri_back (row_text row) ≡ row
unfolding tri_back
text_back [] = refl
text_back (Zero ∷ row) = ap (λ (r : List Tri). Zero ∷ r) (text_back row)
text_back (One ∷ row) = ap (λ (r : List Tri). One ∷ r) (text_back row)
text_back (Free ∷ row) = ap (λ (r : List Tri). Free ∷ r) (text_back row)

pub same_text : (row other : List Tri) → bytes_eq (row_text row) (row_text other) ≡ same_row row other
same_text row other = cases (bytes_eq (row_text row) (row_text other)) refl (same_row row other) refl
  where
    cases : (b : Bool) → bytes_eq (row_text row) (row_text other) ≡ b → (s : Bool) → same_row row other ≡ s → b ≡ s
    cases true e true f = refl
    cases false e false f = refl
    cases true e false f =
        let same : row ≡ other = sym (text_back row) ∙ (ap (map tri_back) (same_name (row_text row) (row_text other) e) ∙ text_back other) in
        absurd (false≢true (sym f ∙ (ap (same_row row) (sym same) ∙ row_itself row)))
    cases false e true f =
        let same : row ≡ other = row_same row other f in
        absurd (false≢true (sym e ∙ (ap (λ (r : List Tri). bytes_eq (row_text row) (row_text r)) (sym same) ∙ itself (row_text row))))

pub has_text : (rows : List (List Tri)) (row : List Tri) → has (map row_text rows) (row_text row) ≡ list_any (same_row row) rows
has_text [] row = refl
has_text (other ∷ rows) row = rw (same_text row other, has_text rows row) refl

pub texts_differ : (rows : List (List Tri)) → all_different (map row_text rows) ≡ rows_differ rows
unfolding all_different rows_differ
texts_differ [] = refl
texts_differ (row ∷ rows) = rw (has_text rows row, texts_differ rows) refl

-- names that are counted once
pub all_once : (names once : List (List ℕ)) → once ≡ each_once names → eqb (length once) (length names) ≡ all_different names
all_once names once e = cases (all_different names) refl
  where
    cases : (b : Bool) → all_different names ≡ b → eqb (length once) (length names) ≡ b
    cases true d = let l : length once ≡ length names = ap length (e ∙ each_once-different names d) in rw l (same (length names))
      where
        same : (n : ℕ) → eqb n n ≡ true
        same n = grind (arith, nat_tests)
    cases false d = by (eqb (length once) (length names)) refl
      where
        by : (b : Bool) → eqb (length once) (length names) ≡ b → b ≡ false
        by false f = refl
        by true f = let l : length once ≡ length names = grind (arith, nat_tests) in absurd (false≢true (sym d ∙ full-each_once names (ap length (sym e) ∙ l)))

-- inputs with literals
front_drop : (row : List Tri) (i : ℕ) → front_place (drop i row) ≡ get_or row i Free
front_drop [] zero = refl
front_drop [] (suc i) = refl
front_drop (c ∷ row) zero = refl
front_drop (c ∷ row) (suc i) = front_drop row i

behind_next : (row : List Tri) (i : ℕ) → behind_front (drop i row) ≡ drop (suc i) row
behind_next [] zero = refl
behind_next [] (suc i) = refl
behind_next (c ∷ row) zero = refl
behind_next (c ∷ row) (suc i) = behind_next row i

behind_drop : (row : List Tri) (i : ℕ) → behind_front (drop i row) ≡ drop (i + 1) row
behind_drop row i = let e : i + 1 ≡ suc i = omega arith in behind_next row i ∙ ap (λ (n : ℕ). drop n row) (sym e)

any_front : (rows : List (List Tri)) (i : ℕ) → list_any (λ (row : List Tri). is_literal (front_place row)) (map (drop i) rows) ≡ list_any (λ (row : List Tri). is_literal (get_or row i Free)) rows
any_front [] i = refl
any_front (row ∷ rows) i = rw (front_drop row i, any_front rows i) refl

all_behind : (rows : List (List Tri)) (i : ℕ) → map behind_front (map (drop i) rows) ≡ map (drop (i + 1)) rows
all_behind [] i = refl
all_behind (row ∷ rows) i = rw (behind_drop row i, all_behind rows i) refl

pub used_more : (inputs : List (List ℕ)) (rows : List (List Tri)) (i : ℕ) → i < length inputs
    → used_places (drop i inputs) (map (drop i) rows) ≡ list_any (λ (row : List Tri). is_literal (get_or row i Free)) rows ∷ used_places (drop (i + 1) inputs) (map (drop (i + 1)) rows)
unfolding used_places
used_more inputs rows i lt = rw (drop_more inputs i [] lt, any_front rows i, all_behind rows i) refl

pub used_done : (inputs : List (List ℕ)) (rows : List (List Tri)) (i : ℕ) → length inputs ≤ i → used_places (drop i inputs) (map (drop i) rows) ≡ []
unfolding used_places
used_done inputs rows i le = rw (drop_all i inputs le) refl

pub used_begun : (inputs : List (List ℕ)) (rows : List (List Tri)) → used_places (drop 0 inputs) (map (drop 0) rows) ≡ used_places inputs rows
used_begun inputs rows = ap (used_places inputs) (none rows)
  where
    none : (rows : List (List Tri)) → map (drop 0) rows ≡ rows
    none [] = refl
    none (row ∷ rows) = ap (λ (rs : List (List Tri)). row ∷ rs) (none rows)

pub marks_next : (whole rest now made new : List Bool) (mark : Bool) → made ++ now ≡ whole → now ≡ mark ∷ rest → new ≡ made ++ mark ∷ [] → new ++ rest ≡ whole
marks_next whole rest now made new mark inv more n = rw n (append_assoc made (mark ∷ []) rest) ∙ (ap (λ (r : List Bool). made ++ r) (sym more) ∙ inv)

pub marks_all : (whole now made : List Bool) → made ++ now ≡ whole → now ≡ [] → made ≡ whole
marks_all whole now made inv done = sym (append-nil made) ∙ (ap (λ (r : List Bool). made ++ r) (sym done) ∙ inv)

-- distinct rows: one more is appended to those made so far, if it is new
pub once_next : (whole made new : List (List Tri)) (row : List Tri) (rows now : List (List Tri)) (seen : Bool) → now ≡ row ∷ rows → seen ≡ has (map row_text made) (row_text row) → new ≡ made ++ (if seen then [] else row ∷ [])
    → made ++ rows_behind made now ≡ whole → new ++ rows_behind new rows ≡ whole
unfolding rows_behind
once_next whole made new row rows now seen more s n inv = rw n (by seen refl)
  where
    rest : Bool → List (List Tri)
    rest b = if b then rows_behind made rows else row ∷ rows_behind (made ++ row ∷ []) rows

    step : (b : Bool) → seen ≡ b → made ++ rest b ≡ whole
    step b e = ap (λ (c : Bool). made ++ rest c) (sym e ∙ (s ∙ has_text made row)) ∙ (ap (λ (rs : List (List Tri)). made ++ rows_behind made rs) (sym more) ∙ inv)

    by : (b : Bool) → seen ≡ b → (made ++ (if b then [] else row ∷ [])) ++ rows_behind (made ++ (if b then [] else row ∷ [])) rows ≡ whole
    by true e = ap (λ (m : List (List Tri)). m ++ rows_behind m rows) (append-nil made) ∙ step true e
    by false e = append_assoc made (row ∷ []) (rows_behind (made ++ row ∷ []) rows) ∙ step false e

pub once_done : (whole made now : List (List Tri)) → length now ≡ 0 → made ++ rows_behind made now ≡ whole → made ≡ whole
unfolding rows_behind
once_done whole made [] none inv = sym (append-nil made) ∙ inv
once_done whole made (row ∷ rows) none inv = absurd (omega arith)

-- what is seen is what is made
has-push : (texts : List (List ℕ)) (text q : List ℕ) → has (texts ++ text ∷ []) q ≡ (bytes_eq q text || has texts q)
has-push [] text q = refl
has-push (first ∷ texts) text q = rw (has-push texts text q) (swap (bytes_eq q first) (bytes_eq q text) (has texts q))
  where
    swap : (a b c : Bool) → (a || (b || c)) ≡ (b || (a || c))
    swap true true c = refl
    swap true false c = refl
    swap false b c = refl

pub seen_next : (made new : List (List Tri)) (row : List Tri) (text : List ℕ) (seen before after : Bool) → seen ≡ has (map row_text made) (row_text row) → new ≡ made ++ (if seen then [] else row ∷ [])
    → before ≡ has (map row_text made) text → after ≡ (bytes_eq (row_text row) text || before) → after ≡ has (map row_text new) text
seen_next made new row text seen before after s n b a = a ∙ rw (b, n) (by seen s)
  where
    or_same : (x y : Bool) → (x ≡ true → y ≡ true) → (x || y) ≡ y
    or_same true y h = sym (h refl)
    or_same false y h = refl

    by : (t : Bool) → t ≡ has (map row_text made) (row_text row) → (bytes_eq (row_text row) text || has (map row_text made) text) ≡ has (map row_text (made ++ (if t then [] else row ∷ []))) text
    by true e =
        or_same (bytes_eq (row_text row) text) (has (map row_text made) text) (λ h. ap (has (map row_text made)) (sym (same_name (row_text row) text h)) ∙ sym e)
        ∙ ap (λ (m : List (List Tri)). has (map row_text m) text) (sym (append-nil made))
    by false e =
        ap (λ (x : Bool). x || has (map row_text made) text) (bytes_eq-sym (row_text row) text)
        ∙ (sym (has-push (map row_text made) (row_text row) text) ∙ ap (λ (ts : List (List ℕ)). has ts text) (sym (map-append row_text made (row ∷ []))))

-- the items that are marked
pub chosen_more : {X : Type 0} (marks : List Bool) (items : List X) (i : ℕ) (x : X) → i < length items → x ≡ get_or items i x
    → chosen (drop i marks) (drop i items) ≡ (if get_or marks i false then x ∷ [] else []) ++ chosen (drop (i + 1) marks) (drop (i + 1) items)
unfolding chosen
chosen_more {X} marks items i x lt h =
    let e : i + 1 ≡ suc i = omega arith in
    let b : drop i items ≡ x ∷ drop (i + 1) items = drop_more items i x lt ∙ ap (λ (z : X). z ∷ drop (i + 1) items) (sym h) in
    rw b (at marks i (drop (i + 1) items) ∙ ap (λ (n : ℕ). (if get_or marks i false then x ∷ [] else []) ++ chosen (drop n marks) (drop (i + 1) items)) (sym e))
  where
    at : (marks : List Bool) (i : ℕ) (rest : List X) → chosen (drop i marks) (x ∷ rest) ≡ (if get_or marks i false then x ∷ [] else []) ++ chosen (drop (suc i) marks) rest
    at [] zero rest = refl
    at [] (suc i) rest = refl
    at (true ∷ marks) zero rest = refl
    at (false ∷ marks) zero rest = refl
    at (mark ∷ marks) (suc i) rest = at marks i rest

pub chosen_done : {X : Type 0} (marks : List Bool) (items : List X) (i : ℕ) → length items ≤ i → chosen (drop i marks) (drop i items) ≡ []
chosen_done marks items i h = rw (drop_all i items h) (chosen_nil (drop i marks))

-- the item at an index is the same whatever the default past the end
pub get_again : {A : Type 0} (items : List A) (i : ℕ) (other : A) → get_or items i other ≡ get_or items i (get_or items i other)
get_again [] i other = refl
get_again (item ∷ items) zero other = refl
get_again (item ∷ items) (suc i) other = get_again items i other
