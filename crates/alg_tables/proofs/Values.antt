-- The value of a composed table: from the columns of its inputs to their names.
use Rattle.std.proofs.Common.{◌≡◌, ◌≢◌, ℕ, ◌+◌, ◌-◌, ◌<◌, ◌≤◌, zero, suc, Bool, true, false, not, cond, ltb, if◌then◌else◌, Option, Some, None, List, [], ◌∷◌, ◌++◌, length, get_or, take, drop, map, bytes_eq, position, refl, sym, ap, ap₂, ◌∙◌, subst, arith}
use Rattle.std.proofs.lemmas.Bool.{ltb-true, ltb-false}
use Rattle.std.proofs.lemmas.List.{length-map, length-append, length-take-le, length-drop, map-append, append_assoc, get_or_append_left, get_or-append_right, get_or-take, get_or-drop, get_or-map}
use Rattle.sis_base.specs.Rows.{some_matches, phase_value, value_by_phase}
use Rattle.circuit_model.specs.Names.{has, all_different}
use Rattle.circuit_model.specs.Values.{table_value, driven_value}
use Rattle.circuit_model.specs.declared.circuit.Table.{Table}
use Rattle.cube_cover.specs.Covers.{Shape}
use Rattle.cover_ops.specs.Composed.{AreEntries, count_new, outer_place, targets, composition, inner_point, outer_point}
use Rattle.cover_ops.proofs.Compositions.{value-composition}
use Rattle.net_core.proofs.Rows.{all_places_back, width_of_characters}
use Rattle.circuit_tables.specs.Tidy.{IsWide}
use Rattle.alg_tables.specs.Taking.{shape_of, entries, lacking, joined, composed_at}
use Rattle.alg_tables.proofs.Places.{IsFound, found, entries_are, count-entries, length-joined}

front_taken : {X : Type 0} (xs ys : List X) (n : ℕ) → length xs ≡ n → take n (xs ++ ys) ≡ xs
front_taken [] ys zero e = refl
front_taken [] ys (suc n) e = absurd (omega (arith, e))
front_taken (x ∷ xs) ys zero e = absurd (omega (arith, e))
front_taken (x ∷ xs) ys (suc n) e = ap (λ zs. x ∷ zs) (front_taken xs ys n (omega (arith, e)))

back_dropped : {X : Type 0} (xs ys : List X) (n : ℕ) → length xs ≡ n → drop n (xs ++ ys) ≡ ys
back_dropped [] ys zero e = refl
back_dropped [] ys (suc n) e = absurd (omega (arith, e))
back_dropped (x ∷ xs) ys zero e = absurd (omega (arith, e))
back_dropped (x ∷ xs) ys (suc n) e = back_dropped xs ys n (omega (arith, e))

pub split_at : {X : Type 0} (xs : List X) (i : ℕ) (d : X) → i < length xs → xs ≡ take i xs ++ get_or xs i d ∷ drop (suc i) xs
split_at [] i d lt = absurd (omega (arith, lt))
split_at (x ∷ xs) zero d lt = refl
split_at (x ∷ xs) (suc i) d lt = ap (λ zs. x ∷ zs) (split_at xs i d (omega (arith, lt)))

drop_head : {X : Type 0} (xs ys : List X) (n : ℕ) (x d : X) → drop n xs ≡ x ∷ ys → get_or xs n d ≡ x
drop_head [] ys zero x d e = absurd (cc)
drop_head [] ys (suc n) x d e = absurd (cc)
drop_head (y ∷ xs) ys zero x d e = cc
drop_head (y ∷ xs) ys (suc n) x d e = drop_head xs ys n x d e

drop_tail : {X : Type 0} (xs ys : List X) (n : ℕ) (x : X) → drop n xs ≡ x ∷ ys → drop (n + 1) xs ≡ ys
drop_tail {X} xs ys n x e = subst (λ (m : ℕ). drop m xs ≡ ys) (let z : suc n ≡ n + 1 = omega arith in z) (by xs n e)
  where
    by : (zs : List X) (m : ℕ) → drop m zs ≡ x ∷ ys → drop (suc m) zs ≡ ys
    by [] zero h = absurd (cc)
    by [] (suc m) h = absurd (cc)
    by (z ∷ zs) zero h = cc
    by (z ∷ zs) (suc m) h = by zs m h

-- the values of the joined inputs, in three parts
joined_values : (value : List ℕ → Bool) (place : ℕ) (names others : List (List ℕ))
    → map value (joined place names others) ≡ map value (take place names) ++ (map value (lacking names others) ++ map value (drop (suc place) names))
joined_values value place names others =
    map-append value (take place names) (lacking names others ++ drop (suc place) names)
    ∙ ap (λ (bits : List Bool). map value (take place names) ++ bits) (map-append value (lacking names others) (drop (suc place) names))

front_long : (value : List ℕ → Bool) (place : ℕ) (names : List (List ℕ)) → place < length names → length (map value (take place names)) ≡ place
front_long value place names lt = length-map (take place names) value ∙ length-take-le place names (omega (arith, lt))

-- the outer table's point is that of its inputs' values
pub outer_values : (value : List ℕ → Bool) (place : ℕ) (names others : List (List ℕ)) → place < length names
    → outer_point place (count_new (entries names others)) (value (get_or names place [])) (map value (joined place names others)) ≡ map value names
outer_values value place names others lt =
    ap₂ (λ (front back : List Bool). front ++ value (get_or names place []) ∷ back) front back
    ∙ sym (ap (map value) (split_at names place [] lt) ∙ map-append value (take place names) (get_or names place [] ∷ drop (suc place) names))
  where
    front : take place (map value (joined place names others)) ≡ map value (take place names)
    front = ap (take place) (joined_values value place names others)
        ∙ front_taken (map value (take place names)) (map value (lacking names others) ++ map value (drop (suc place) names)) place (front_long value place names lt)

    middle : length (map value (lacking names others)) ≡ count_new (entries names others)
    middle = length-map (lacking names others) value ∙ sym (count-entries names others)

    long : length (map value (take place names) ++ map value (lacking names others)) ≡ place + count_new (entries names others)
    long = length-append (map value (take place names)) (map value (lacking names others)) ∙ ap₂ (λ (n m : ℕ). n + m) (front_long value place names lt) middle

    back : drop (place + count_new (entries names others)) (map value (joined place names others)) ≡ map value (drop (suc place) names)
    back = ap (drop (place + count_new (entries names others))) (joined_values value place names others
        ∙ sym (append_assoc (map value (take place names)) (map value (lacking names others)) (map value (drop (suc place) names))))
        ∙ back_dropped (map value (take place names) ++ map value (lacking names others)) (map value (drop (suc place) names)) (place + count_new (entries names others)) long

-- the bit read at the new column of an outer input
outer_read : (value : List ℕ → Bool) (place : ℕ) (names others : List (List ℕ)) → place < length names → (at : ℕ) → at < length names → at ≢ place
    → get_or (map value (joined place names others)) (outer_place place (count_new (entries names others)) at) false ≡ value (get_or names at [])
outer_read value place names others lt at within apart = cases (ltb at place) refl
  where
    added : ℕ
    added = count_new (entries names others)

    front : List Bool
    front = map value (take place names)

    middle : List Bool
    middle = map value (lacking names others)

    back : List Bool
    back = map value (drop (suc place) names)

    middle_long : length middle ≡ added
    middle_long = length-map (lacking names others) value ∙ sym (count-entries names others)

    cases : (b : Bool) → ltb at place ≡ b → get_or (map value (joined place names others)) (if b then at else at + added - 1) false ≡ value (get_or names at [])
    cases true e =
        let below : at < place = ltb-true at place e in
        let long : length front ≡ place = front_long value place names lt in
        let taken : length (take place names) ≡ place = length-take-le place names (omega (arith, lt)) in
        ap (λ (bits : List Bool). get_or bits at false) (joined_values value place names others)
        ∙ get_or_append_left front (middle ++ back) false at (omega (arith, below, long))
        ∙ get_or-map value (take place names) at [] false (omega (arith, below, taken))
        ∙ ap value (get_or-take place names at [] below)
    cases false e =
        let above : place ≤ at = ltb-false at place e in
        let behind : suc place ≤ at = omega (arith, above, apart) in
        let long : length front ≡ place = front_long value place names lt in
        let rest : length (drop (suc place) names) ≡ length names - suc place = length-drop (suc place) names in
        let third : at + added - 1 - place - added ≡ at - suc place = omega (arith, behind) in
        let index : suc place + (at - suc place) ≡ at = omega (arith, behind) in
        ap (λ (bits : List Bool). get_or bits (at + added - 1) false) (joined_values value place names others)
        ∙ get_or-append_right front (middle ++ back) place (at + added - 1) false long (omega (arith, behind))
        ∙ get_or-append_right middle back added (at + added - 1 - place) false middle_long (omega (arith, behind))
        ∙ ap (λ (n : ℕ). get_or back n false) third
        ∙ get_or-map value (drop (suc place) names) (at - suc place) [] false (omega (arith, behind, within, rest))
        ∙ ap value (get_or-drop (suc place) names (at - suc place) [] ∙ ap (λ (n : ℕ). get_or names n []) index)

-- the inner table's point is that of its inputs' values
inner_from : (value : List ℕ → Bool) (place added : ℕ) (names : List (List ℕ)) (point rest : List Bool)
    → ((at : ℕ) → at < length names → at ≢ place → get_or point (outer_place place added at) false ≡ value (get_or names at []))
    → (others : List (List ℕ)) (next : ℕ) → AreEntries (length names) place (entries names others) → drop next point ≡ map value (lacking names others) ++ rest
    → inner_point (targets place added next (entries names others)) point ≡ map value others
unfolding targets AreEntries
inner_from value place added names point rest reads [] next are ends = refl
inner_from value place added names point rest reads (other ∷ others) next are ends =
    cases (position (bytes_eq other) names) (found names other) are ends (λ (n : ℕ). inner_from value place added names point rest reads others n)
  where
    cases : (o : Option ℕ) → IsFound names other o → AreEntries (length names) place (o ∷ entries names others) → drop next point ≡ map value (lacking names (other ∷ others)) ++ rest
        → ((n : ℕ) → AreEntries (length names) place (entries names others) → drop n point ≡ map value (lacking names others) ++ rest
        → inner_point (targets place added n (entries names others)) point ≡ map value others)
        → inner_point (targets place added next (o ∷ entries names others)) point ≡ map value (other ∷ others)
    cases None f all e more =
        let here : drop next point ≡ value other ∷ (map value (lacking names others) ++ rest) =
        e ∙ ap (λ (b : Bool). map value (cond (not b) (other ∷ lacking names others) (lacking names others)) ++ rest) f in
        ap₂ (λ (bit : Bool) (bits : List Bool). bit ∷ bits) (drop_head point (map value (lacking names others) ++ rest) next (value other) false here)
        (more (next + 1) all (drop_tail point (map value (lacking names others) ++ rest) next (value other) here))
    cases (Some at) f all e more =
        let here : drop next point ≡ map value (lacking names others) ++ rest =
        e ∙ ap (λ (b : Bool). map value (cond (not b) (other ∷ lacking names others) (lacking names others)) ++ rest) f.2 in
        ap₂ (λ (bit : Bool) (bits : List Bool). bit ∷ bits) (reads at all.0 all.1 ∙ ap value f.1) (more next all.3 here)

pub inner_values : (value : List ℕ → Bool) (place : ℕ) (names others : List (List ℕ)) → place < length names → AreEntries (length names) place (entries names others)
    → inner_point (targets place (count_new (entries names others)) place (entries names others)) (map value (joined place names others)) ≡ map value others
inner_values value place names others lt are =
    inner_from value place (count_new (entries names others)) names (map value (joined place names others)) (map value (drop (suc place) names)) (outer_read value place names others lt) others place are
    (ap (drop place) (joined_values value place names others)
    ∙ back_dropped (map value (take place names)) (map value (lacking names others) ++ map value (drop (suc place) names)) place (front_long value place names lt))

-- the composed table has the outer table's value if the replaced signal has the inner table's value
pub composed_value : (place : ℕ) (inner outer : Table) (value : List ℕ → Bool) → IsWide inner → IsWide outer → all_different inner.inputs ≡ true → place < length outer.inputs
    → has inner.inputs (get_or outer.inputs place []) ≡ false → value (get_or outer.inputs place []) ≡ driven_value (Some inner) value
    → driven_value (Some (composed_at place inner outer)) value ≡ driven_value (Some outer) value
unfolding table_value composed_at value_by_phase
composed_value place inner outer value inner_wide outer_wide different lt apart is =
    ap (λ (rows : List (List (Option Bool))). value_by_phase outer.phase rows point) (all_places_back made.rows)
    ∙ ap (phase_value outer.phase)
    (value-composition (shape_of outer) place (shape_of inner) inner.phase found_at point (width_of_characters (length outer.inputs) outer.rows outer_wide) (width_of_characters (length inner.inputs) inner.rows inner_wide) lt
    (length-map inner.inputs (λ (name : List ℕ). position (bytes_eq name) outer.inputs)) are
    (length-map (joined place outer.inputs inner.inputs) value ∙ length-joined place outer.inputs inner.inputs lt)
    ∙ ap (some_matches (shape_of outer).rows)
    (ap (λ (bits : List Bool). outer_point place (count_new found_at) (value_by_phase inner.phase (shape_of inner).rows bits) point) (inner_values value place outer.inputs inner.inputs lt are)
    ∙ ap (λ (bit : Bool). outer_point place (count_new found_at) bit point) (sym is)
    ∙ outer_values value place outer.inputs inner.inputs lt))
  where
    found_at : List (Option ℕ)
    found_at = entries outer.inputs inner.inputs

    made : Shape
    made = composition (shape_of outer) place (shape_of inner) inner.phase found_at

    point : List Bool
    point = map value (joined place outer.inputs inner.inputs)

    are : AreEntries (length outer.inputs) place found_at
    are = entries_are outer.inputs inner.inputs place different apart
