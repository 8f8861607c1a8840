-- The computation: names with their indices, one after the other, and the composed table with its
-- limits.
use Rattle.std.proofs.Common.{◌≡◌, ℕ, ◌+◌, ◌-◌, ◌<◌, zero, suc, Bool, true, false, not, ◌&&◌, ◌||◌, cond, ltb, if◌then◌else◌, Option, Some, None, is_none, List, [], ◌∷◌, ◌++◌, length, get_or, take, map, bytes_eq, position, refl, sym, ap, ap₂, ◌∙◌, subst, arith, inl, inr, ◌⊎◌}
use Rattle.std.specs.Option.{option_map_or}
use Rattle.std.proofs.lemmas.Bool.{false≢true, lt-ltb, ltb-true, or_left, or_right, or_from, false_from_ne_true}
use Rattle.std.proofs.lemmas.List.{length-map, get_or-map, append_assoc, take_more}
use Rattle.std.proofs.lemmas.List.Elements.{filter_more}
use Rattle.circuit_model.specs.Names.{has, all_different}
use Rattle.circuit_model.specs.declared.circuit.Tri.{Tri}
use Rattle.circuit_model.specs.declared.circuit.Table.{Table}
use Rattle.circuit_laws.proofs.Names.{name_not, has_apart, different_head, different_tail}
use Rattle.cube_cover.specs.Covers.{Shape}
use Rattle.cover_ops.specs.Shannon.{list_rows}
use Rattle.cover_ops.specs.Composed.{AreEntries, asks, count_new, composition, IsTooLong}
use Rattle.net_core.specs.Tables.{characters_of, named, IsOverInputs}
use Rattle.net_core.specs.declared.table.CoverTable.{CoverTable}
use Rattle.net_core.proofs.Rows.{all_places_back}
use Rattle.circuit_tables.specs.Tidy.{tidied}
use Rattle.alg_tables.specs.declared.taking.ComposeFault.{ComposeFault}
use Rattle.alg_tables.specs.declared.taking.ComposeFault.TheVariants.{CubeLimit, TooWide, Memory}
use Rattle.alg_tables.specs.Taking.{shape_of, entries, lacking, joined, composed_at, composed_into, is_list_long, is_cube_long, refusal_at, take_refusal}
use Rattle.alg_tables.proofs.Places.{IsFound, found, entries_are, length-joined}
use Rattle.alg_tables.proofs.Taken.{has_at}
use Rattle.sis_base.specs.declared.limits.TheConstants.{MAX_INPUTS}

-- one more name in the set
not_before : (names : List (List ℕ)) (i : ℕ) → all_different names ≡ true → i < length names → has (take i names) (get_or names i []) ≡ false
not_before [] i different lt = absurd (omega (arith, lt))
not_before (first ∷ names) zero different lt = refl
not_before (first ∷ names) (suc i) different lt =
    has_apart first (take i names) (get_or names i [])
    (name_not (get_or names i []) first (λ same. false≢true (sym (different_head first names different) ∙ subst (λ (n : List ℕ). has names n ≡ true) same (has_at names i (omega (arith, lt))))))
    (not_before names i (different_tail first names different) (omega (arith, lt)))

default : (names : List (List ℕ)) (i : ℕ) (d e : List ℕ) → i < length names → get_or names i d ≡ get_or names i e
default [] i d e lt = absurd (omega (arith, lt))
default (first ∷ names) zero d e lt = refl
default (first ∷ names) (suc i) d e lt = default names i d e (omega (arith, lt))

pub set_more : (names keys made : List (List ℕ)) (i : ℕ) (name copy : List ℕ) → all_different names ≡ true → i < length names → name ≡ get_or names i name → copy ≡ name → keys ≡ take i names
    → made ≡ (if has keys copy then keys else keys ++ copy ∷ []) → made ≡ take (i + 1) names
set_more names keys made i name copy different lt at same so_far is =
    let own : copy ≡ get_or names i [] = same ∙ at ∙ default names i name [] lt in
    is ∙ ap (λ (b : Bool). if b then keys else keys ++ copy ∷ []) (ap₂ has so_far own ∙ not_before names i different lt)
    ∙ ap₂ (λ (xs : List (List ℕ)) (x : List ℕ). xs ++ x ∷ []) so_far own ∙ sym (take_more names i [] lt)

-- one more of the other names
entry_read : (names others : List (List ℕ)) (i : ℕ) → i < length others → is_none (get_or (entries names others) i None) ≡ not (has names (get_or others i []))
entry_read names others i lt =
    ap (λ (o : Option ℕ). is_none o) (get_or-map (λ (name : List ℕ). position (bytes_eq name) names) others i [] None lt)
    ∙ cases (position (bytes_eq (get_or others i [])) names) (found names (get_or others i []))
  where
    cases : (o : Option ℕ) → IsFound names (get_or others i []) o → is_none o ≡ not (has names (get_or others i []))
    cases None f = sym (ap not f)
    cases (Some at) f = sym (ap not f.2)

pub lacking_more : (names others start now made : List (List ℕ)) (i : ℕ) (name : List ℕ) (place : Option ℕ) → i < length others → name ≡ get_or others i name
    → place ≡ get_or (entries names others) i None → now ≡ start ++ lacking names (take i others) → made ≡ now ++ (if is_none place then name ∷ [] else [])
    → made ≡ start ++ lacking names (take (i + 1) others)
lacking_more names others start now made i name place lt at reads so_far is =
    let own : name ≡ get_or others i [] = at ∙ default others i name [] lt in
    is
    ∙ ap₂ (λ (xs ys : List (List ℕ)). xs ++ ys) so_far
    (ap₂ (λ (b : Bool) (x : List ℕ). if b then x ∷ [] else []) (ap (λ (o : Option ℕ). is_none o) reads ∙ entry_read names others i lt) own)
    ∙ append_assoc start (lacking names (take i others)) (cond (not (has names (get_or others i []))) (get_or others i [] ∷ []) [])
    ∙ ap (λ (xs : List (List ℕ)). start ++ xs) (sym (filter_more (λ (n : List ℕ). not (has names n)) others i [] lt))

-- the entries of the inputs as they are
pub entries_placed : (names others first second : List (List ℕ)) (places : List (Option ℕ)) → first ≡ names → second ≡ others → places ≡ entries first second → places ≡ entries names others
entries_placed names others first second places a b is = is ∙ ap₂ entries a b

pub joined_placed : (place : ℕ) (names others first second made : List (List ℕ)) → first ≡ names → second ≡ others → made ≡ joined place first second → made ≡ joined place names others
joined_placed place names others first second made a b is = is ∙ ap₂ (joined place) a b

pub entries_good : (names others : List (List ℕ)) (places : List (Option ℕ)) (place : ℕ) → all_different others ≡ true → has others (get_or names place []) ≡ false → places ≡ entries names others
    → AreEntries (length names) place places
entries_good names others places place once apart is = subst (AreEntries (length names) place) (sym is) (entries_are names others place once apart)

-- the composed table
named_shape : {R : Type 0} (table : CoverTable R) (name : List ℕ) → IsOverInputs table → shape_of (named name table) ≡ table.cover
unfolding named
named_shape table name over = ap₂ (λ (width : ℕ) (rows : List (List (Option Bool))). record { width = width; rows = rows }) (sym over) (all_places_back table.cover.rows)

pub composed_named : {R : Type 0} (place : ℕ) (inner outer : CoverTable R) (inputs : List (List ℕ)) (cover : Shape) (places : List (Option ℕ)) (name output : List ℕ) → IsOverInputs inner → IsOverInputs outer
    → places ≡ entries outer.inputs inner.inputs → inputs ≡ joined place outer.inputs inner.inputs → cover ≡ composition outer.cover place inner.cover inner.phase places
    → named {R = R} output (record { inputs = inputs; cover = cover; phase = outer.phase }) ≡ composed_at place (named name inner) (named output outer)
unfolding named composed_at
composed_named place inner outer inputs cover places name output inner_over outer_over at is made =
    ap₂ (λ (names : List (List ℕ)) (rows : List (List Tri)). record { inputs = names; output = output; rows = rows; phase = outer.phase }) is
    (ap (λ (shape : Shape). map characters_of shape.rows)
    (made ∙ ap (composition outer.cover place inner.cover inner.phase) at
    ∙ ap₂ (λ (first second : Shape). composition first place second inner.phase (entries outer.inputs inner.inputs)) (sym (named_shape outer output outer_over)) (sym (named_shape inner name inner_over))))

pub composed_over : {R : Type 0} (place : ℕ) (inner outer : CoverTable R) (inputs : List (List ℕ)) (cover : Shape) (places : List (Option ℕ)) → IsOverInputs outer → place < length outer.inputs
    → places ≡ entries outer.inputs inner.inputs → inputs ≡ joined place outer.inputs inner.inputs → cover ≡ composition outer.cover place inner.cover inner.phase places → cover.width ≡ length inputs
composed_over place inner outer inputs cover places over lt at is made =
    ap (λ (shape : Shape). shape.width) made ∙ ap₂ (λ (width : ℕ) (ps : List (Option ℕ)). width + count_new ps - 1) over at
    ∙ sym (ap length is ∙ length-joined place outer.inputs inner.inputs lt)

-- when a list or the result is too long
cube_test : {R : Type 0} (list_limit row_limit place : ℕ) (inner outer : CoverTable R) (places : List (Option ℕ)) (name output : List ℕ) → IsOverInputs inner → IsOverInputs outer → places ≡ entries outer.inputs inner.inputs
    → is_cube_long list_limit row_limit place (named name inner) (named output outer)
    ≡ ((asks place (not inner.phase) outer.cover.rows && ltb list_limit (length (list_rows inner.cover.width false inner.cover.rows)))
    || ltb row_limit (length (composition outer.cover place inner.cover inner.phase places).rows))
unfolding named composed_at is_list_long
cube_test list_limit row_limit place inner outer places name output inner_over outer_over at =
    ap (λ (n : ℕ). is_list_long list_limit place (named name inner) (named output outer) || ltb row_limit n)
    (length-map (composition (shape_of (named output outer)) place (shape_of (named name inner)) inner.phase (entries outer.inputs inner.inputs)).rows characters_of)
    ∙ ap₂ (λ (first second : Shape). (asks place (not inner.phase) first.rows && ltb list_limit (length (list_rows second.width false second.rows)))
    || ltb row_limit (length (composition first place second inner.phase (entries outer.inputs inner.inputs)).rows)) (named_shape outer output outer_over) (named_shape inner name inner_over)
    ∙ ap (λ (ps : List (Option ℕ)). (asks place (not inner.phase) outer.cover.rows && ltb list_limit (length (list_rows inner.cover.width false inner.cover.rows)))
    || ltb row_limit (length (composition outer.cover place inner.cover inner.phase ps).rows)) (sym at)

long_test : (a : Bool) (n m k l : ℕ) → ((a ≡ true) × (n < m)) ⊎ (k < l) → ((a && ltb n m) || ltb k l) ≡ true
long_test a n m k l (inl h) = or_left (a && ltb n m) (ltb k l) (rw (h.0, lt-ltb n m h.1) refl)
long_test a n m k l (inr h) = or_right (a && ltb n m) (ltb k l) (lt-ltb k l h)

short_test : (a : Bool) (n m k l : ℕ) → (((a ≡ true) × (n < m)) ⊎ (k < l) → ⊥) → ((a && ltb n m) || ltb k l) ≡ false
short_test a n m k l none =
    or_from (a && ltb n m) (ltb k l) (cases a refl (ltb n m) refl) (false_from_ne_true (ltb k l) (λ h. none (inr (ltb-true k l h))))
  where
    cases : (t : Bool) → a ≡ t → (b : Bool) → ltb n m ≡ b → (t && b) ≡ false
    cases true is true e = absurd (none (inl (is, ltb-true n m e)))
    cases true is false e = refl
    cases false is b e = refl

composed_long : {R : Type 0} (list_limit row_limit place : ℕ) (inner outer : CoverTable R) (places : List (Option ℕ)) → IsOverInputs inner → IsOverInputs outer → places ≡ entries outer.inputs inner.inputs
    → IsTooLong list_limit row_limit outer.cover place inner.cover inner.phase places → (name output : List ℕ) → is_cube_long list_limit row_limit place (named name inner) (named output outer) ≡ true
composed_long list_limit row_limit place inner outer places inner_over outer_over at long name output =
    cube_test list_limit row_limit place inner outer places name output inner_over outer_over at
    ∙ long_test (asks place (not inner.phase) outer.cover.rows) list_limit (length (list_rows inner.cover.width false inner.cover.rows)) row_limit
    (length (composition outer.cover place inner.cover inner.phase places).rows) long

composed_short : {R : Type 0} (list_limit row_limit place : ℕ) (inner outer : CoverTable R) (places : List (Option ℕ)) → IsOverInputs inner → IsOverInputs outer → places ≡ entries outer.inputs inner.inputs
    → (IsTooLong list_limit row_limit outer.cover place inner.cover inner.phase places → ⊥) → (name output : List ℕ) → is_cube_long list_limit row_limit place (named name inner) (named output outer) ≡ false
composed_short list_limit row_limit place inner outer places inner_over outer_over at short name output =
    cube_test list_limit row_limit place inner outer places name output inner_over outer_over at
    ∙ short_test (asks place (not inner.phase) outer.cover.rows) list_limit (length (list_rows inner.cover.width false inner.cover.rows)) row_limit
    (length (composition outer.cover place inner.cover inner.phase places).rows) short

-- the refusal by its two tests
refusal_is : (list_limit row_limit place width : ℕ) (inner outer : Table) (long : Bool) → is_cube_long list_limit row_limit place inner outer ≡ long → length (composed_at place inner outer).inputs ≡ width
    → refusal_at list_limit row_limit place inner outer ≡ (if long then Some CubeLimit else (if ltb MAX_INPUTS width then Some (TooWide width) else None))
refusal_is list_limit row_limit place width inner outer long test wide =
    ap₂ (λ (b : Bool) (n : ℕ). if b then Some CubeLimit else (if ltb MAX_INPUTS n then Some (TooWide n) else None)) test wide

pub refusal_long : {R : Type 0} (list_limit row_limit place : ℕ) (inner outer : CoverTable R) (places : List (Option ℕ)) (fault : ComposeFault) → IsOverInputs inner → IsOverInputs outer
    → places ≡ entries outer.inputs inner.inputs → (fault ≡ Memory) ⊎ ((fault ≡ CubeLimit) × IsTooLong list_limit row_limit outer.cover place inner.cover inner.phase places)
    → (fault ≡ Memory) ⊎ ((name output : List ℕ) → refusal_at list_limit row_limit place (named name inner) (named output outer) ≡ Some fault)
refusal_long list_limit row_limit place inner outer places fault inner_over outer_over at (inl memory) = inl memory
refusal_long list_limit row_limit place inner outer places fault inner_over outer_over at (inr long) = inr (λ name output.
    refusal_is list_limit row_limit place _ (named name inner) (named output outer) true (composed_long list_limit row_limit place inner outer places inner_over outer_over at long.1 name output) refl
    ∙ ap (λ (f : ComposeFault). Some f) (sym long.0))

pub refusal_short : {R : Type 0} (list_limit row_limit place width : ℕ) (inner outer : CoverTable R) (inputs : List (List ℕ)) (places : List (Option ℕ)) (wide : Bool) → IsOverInputs inner → IsOverInputs outer
    → places ≡ entries outer.inputs inner.inputs → (IsTooLong list_limit row_limit outer.cover place inner.cover inner.phase places → ⊥) → inputs ≡ joined place outer.inputs inner.inputs → width ≡ length inputs
    → ltb MAX_INPUTS width ≡ wide → (name output : List ℕ) → refusal_at list_limit row_limit place (named name inner) (named output outer) ≡ (if wide then Some (TooWide width) else None)
unfolding named composed_at
refusal_short list_limit row_limit place width inner outer inputs places wide inner_over outer_over at short is long test name output =
    refusal_is list_limit row_limit place width (named name inner) (named output outer) false (composed_short list_limit row_limit place inner outer places inner_over outer_over at short name output) (sym (long ∙ ap length is))
    ∙ ap (λ (b : Bool). if b then Some (TooWide width) else None) test

-- the column in which the table reads the signal, and no column if it does not
pub place_read : (names : List (List ℕ)) (name : List ℕ) (place : ℕ) → position (bytes_eq name) names ≡ Some place → (place < length names) × (get_or names place [] ≡ name)
place_read names name place at = let f = subst (IsFound names name) at (found names name) in (f.0, f.1)

pub taken_there : {R : Type 0} (name output : List ℕ) (inner outer : CoverTable R) (place : ℕ) → position (bytes_eq name) outer.inputs ≡ Some place
    → composed_into (named name inner) (named output outer) ≡ tidied (composed_at place (named name inner) (named output outer))
unfolding named composed_into
taken_there name output inner outer place at = ap (λ (o : Option ℕ). option_map_or (λ p. tidied (composed_at p (named name inner) (named output outer))) o (named output outer)) at

pub taken_nowhere : {R : Type 0} (name output : List ℕ) (inner outer : CoverTable R) → position (bytes_eq name) outer.inputs ≡ None → composed_into (named name inner) (named output outer) ≡ named output outer
unfolding named composed_into
taken_nowhere name output inner outer at = ap (λ (o : Option ℕ). option_map_or (λ p. tidied (composed_at p (named name inner) (named output outer))) o (named output outer)) at

pub refusal_there : {R : Type 0} (list_limit row_limit : ℕ) (name output : List ℕ) (inner outer : CoverTable R) (place : ℕ) → position (bytes_eq name) outer.inputs ≡ Some place
    → take_refusal list_limit row_limit (named name inner) (named output outer) ≡ refusal_at list_limit row_limit place (named name inner) (named output outer)
unfolding named take_refusal
refusal_there list_limit row_limit name output inner outer place at =
    ap (λ (o : Option ℕ). option_map_or (λ p. refusal_at list_limit row_limit p (named name inner) (named output outer)) o None) at

pub refusal_nowhere : {R : Type 0} (list_limit row_limit : ℕ) (name output : List ℕ) (inner outer : CoverTable R) → position (bytes_eq name) outer.inputs ≡ None
    → take_refusal list_limit row_limit (named name inner) (named output outer) ≡ None
unfolding named take_refusal
refusal_nowhere list_limit row_limit name output inner outer at =
    ap (λ (o : Option ℕ). option_map_or (λ p. refusal_at list_limit row_limit p (named name inner) (named output outer)) o None) at

pub apart_there : (names others : List (List ℕ)) (name : List ℕ) (place : ℕ) → position (bytes_eq name) names ≡ Some place → has others name ≡ false → has others (get_or names place []) ≡ false
apart_there names others name place at apart = subst (λ (n : List ℕ). has others n ≡ false) (sym (place_read names name place at).1) apart

pub fault_there : {R : Type 0} (list_limit row_limit : ℕ) (name : List ℕ) (inner outer : CoverTable R) (place : ℕ) (fault : ComposeFault) → position (bytes_eq name) outer.inputs ≡ Some place
    → (fault ≡ Memory) ⊎ ((other output : List ℕ) → refusal_at list_limit row_limit place (named other inner) (named output outer) ≡ Some fault)
    → (fault ≡ Memory) ⊎ ((output : List ℕ) → take_refusal list_limit row_limit (named name inner) (named output outer) ≡ Some fault)
fault_there list_limit row_limit name inner outer place fault at (inl memory) = inl memory
fault_there list_limit row_limit name inner outer place fault at (inr refused) = inr (λ output. refusal_there list_limit row_limit name output inner outer place at ∙ refused name output)
