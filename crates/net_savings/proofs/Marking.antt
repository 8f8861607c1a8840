-- Marks of rows by literals: which rows have all literals of a cube.
use Rattle.std.proofs.Common.{◌≡◌, ℕ, ◌+◌, ◌-◌, ◌<◌, ◌≤◌, zero, suc, ◌&&◌, ◌||◌, if◌then◌else◌, Bool, true, false, Option, Some, None, List, [], ◌∷◌, ◌++◌, cond, map, drop, filter, length, set, take, get_or, replicate, refl, sym, ap, ap₂, ◌∙◌, subst, arith}
use Rattle.std.specs.Global.{Vec}
use Rattle.std.specs.List.{list_all, list_any}
use Rattle.std.proofs.lemmas.List.{drop-drop, drop-set-lt, get_or-drop, take-append-le, take_all, take_more, take_more_set}
use Rattle.std.proofs.lemmas.Simd.{get_or-zip2, length-zip2}
use Rattle.std.specs.Simd.Lanes.{zip2}
use Rattle.std.proofs.lemmas.Option.{none-some, same_Some}
use Rattle.net_candidates.specs.Candidates.{same_literal}
use Rattle.net_candidates.specs.Pairs.{has_all}
use Rattle.net_candidates.specs.Spots.{many}
use Rattle.net_candidates.proofs.Keeping.{same_is}
use Rattle.cover_names.specs.Literals.{Cube, NamedCover}
use Rattle.cover_names.specs.declared.literal.Literal.{Literal}
use Rattle.net_savings.specs.Indexed.{rows_in, marks_in}
use Rattle.net_savings.specs.Meeting.{both, AreMarks}
use Rattle.net_savings.specs.declared.rows.RowSpan.{RowSpan}

-- ---- marks that are set in both of two lists

-- those before a place are kept if both are set, those from it on are as they were
pub record AreKeptTo (old others now : List Bool) (i : ℕ) : Type 0 where
  pub done : take i now ≡ take i (zip2 both old others)
  pub rest : drop i now ≡ drop i old

pub kept_more : (old others now : List Bool) (i : ℕ) (mark : Bool) → length old ≡ length others → length now ≡ length old → i < length old
    → mark ≡ (get_or now i false && get_or others i false) → AreKeptTo old others now i → AreKeptTo old others (set now i mark) (i + 1)
kept_more old others now i mark e d h is t =
    let z = zip2 both old others in
    let long : length z ≡ length old = length-zip2 both old others e in
    let none : i + 0 ≡ i = omega arith in
    let here : get_or now i false ≡ get_or old i false = cc (ap (λ l. get_or l 0 false) t.rest, get_or-drop i now 0 false, get_or-drop i old 0 false) in
    let item : get_or z i false ≡ both (get_or old i false) (get_or others i false) = get_or-zip2 both old others i false false false h (omega arith) in
    let step : take (i + 1) (set now i mark) ≡ take i now ++ mark ∷ [] = take_more_set now i mark (omega arith) in
    let whole : take (i + 1) z ≡ take i z ++ get_or z i false ∷ [] = take_more z i false (omega arith) in
    record {
      done = step ∙ ap (λ l. l ++ mark ∷ []) t.done ∙ ap (λ y. take i z ++ y ∷ []) (is ∙ ap (λ y. both y (get_or others i false)) here ∙ sym item) ∙ sym whole;
      rest = drop-set-lt (i + 1) now i mark (omega arith) ∙ sym (drop-drop 1 i now) ∙ ap (drop 1) t.rest ∙ drop-drop 1 i old;
    }

pub kept_all : (old others now : List Bool) (i : ℕ) → length old ≡ length others → length now ≡ length old → length old ≤ i → AreKeptTo old others now i → now ≡ zip2 both old others
kept_all old others now i e d h t =
    sym (take_all i now (omega arith)) ∙ t.done ∙ take_all i (zip2 both old others) (omega (arith, length-zip2 both old others e))

pub refilled : (n : ℕ) (old new : List Bool) → n ≡ length new → take n (new ++ drop (length new) old) ≡ new
refilled n old new e = take-append-le n new (drop (length new) old) (omega (arith, e)) ∙ take_all n new (omega (arith, e))

-- ---- rows that have all literals of a cube

same_map : {X Z : Type 0} (f g : X → Z) (xs : List X) → ((x : X) → f x ≡ g x) → map f xs ≡ map g xs
same_map f g [] same = refl
same_map f g (x ∷ xs) same = ap₂ (λ z zs. z ∷ zs) (same x) (same_map f g xs same)

both_maps : {X : Type 0} (f g : X → Bool) (xs : List X) → zip2 both (map f xs) (map g xs) ≡ map (λ (x : X). f x && g x) xs
both_maps f g [] = refl
both_maps f g (x ∷ xs) = ap (λ (marks : List Bool). (f x && g x) ∷ marks) (both_maps f g xs)

all_more : {X : Type 0} (test : X → Bool) (xs : List X) (x : X) → list_all test (xs ++ x ∷ []) ≡ (list_all test xs && test x)
all_more test [] x = plain (test x)
  where
    plain : (b : Bool) → (b && true) ≡ b
    plain true = refl
    plain false = refl
all_more test (first ∷ xs) x = ap (λ (b : Bool). test first && b) (all_more test xs x) ∙ moved (test first) (list_all test xs) (test x)
  where
    moved : (a b c : Bool) → (a && (b && c)) ≡ ((a && b) && c)
    moved true b c = refl
    moved false b c = refl

pub all_marked : {X : Type 0} (xs : List X) → replicate (length xs) true ≡ map (λ (x : X). true) xs
all_marked [] = refl
all_marked (x ∷ xs) = ap (λ (marks : List Bool). true ∷ marks) (all_marked xs)

pub holders_next : (rows : List Cube) (cube : Cube) (i : ℕ) (literal d : Literal) (held now : List Bool) → i < length cube → literal ≡ get_or cube i d → held ≡ map (has_all (take i cube)) rows
    → now ≡ zip2 both held (map (list_any (same_literal literal)) rows) → now ≡ map (has_all (take (i + 1) cube)) rows
holders_next rows cube i literal d held now below is before now_is =
    now_is
    ∙ (ap (λ (marks : List Bool). zip2 both marks (map (list_any (same_literal literal)) rows)) before
    ∙ (both_maps (has_all (take i cube)) (list_any (same_literal literal)) rows ∙ same_map (λ (row : Cube). has_all (take i cube) row && list_any (same_literal literal) row) (has_all (take (i + 1) cube)) rows one_more))
  where
    one_more : (row : Cube) → (has_all (take i cube) row && list_any (same_literal literal) row) ≡ has_all (take (i + 1) cube) row
    one_more row =
        sym (all_more (λ (l : Literal). list_any (same_literal l) row) (take i cube) literal)
        ∙ ap (λ (some : Cube). has_all some row) (sym (take_more cube i d below ∙ ap (λ (l : Literal). take i cube ++ l ∷ []) (sym is)))

pub holders_all : (rows : List Cube) (cube : Cube) (i : ℕ) (held : List Bool) → length cube ≤ i → held ≡ map (has_all (take i cube)) rows → held ≡ map (has_all cube) rows
holders_all rows cube i held h before = before ∙ ap (λ (some : Cube). map (has_all some) rows) (take_all i cube h)

pub any_marked : {X : Type 0} (test : X → Bool) (xs : List X) → list_any (λ (mark : Bool). mark) (map test xs) ≡ list_any test xs
any_marked test [] = refl
any_marked test (x ∷ xs) = ap (λ (b : Bool). test x || b) (any_marked test xs)

pub many_marked : {X : Type 0} (test : X → Bool) (xs : List X) → many (λ (mark : Bool). mark) (map test xs) ≡ many test xs
many_marked test [] = refl
many_marked {X} test (x ∷ xs) = cases (test x) refl (many_marked test xs)
  where
    cases : (b : Bool) → test x ≡ b → many (λ (mark : Bool). mark) (map test xs) ≡ many test xs
        → length (cond b (test x ∷ filter (λ (mark : Bool). mark) (map test xs)) (filter (λ (mark : Bool). mark) (map test xs))) ≡ length (cond b (x ∷ filter test xs) (filter test xs))
    cases true e rest = ap suc rest
    cases false e rest = rest

-- ---- marks of the rows of a span

take_map : {X Z : Type 0} (f : X → Z) (n : ℕ) (xs : List X) → take n (map f xs) ≡ map f (take n xs)
take_map f zero xs = refl
take_map f (suc n) [] = refl
take_map f (suc n) (x ∷ xs) = ap (λ zs. f x ∷ zs) (take_map f n xs)

drop_map : {X Z : Type 0} (f : X → Z) (n : ℕ) (xs : List X) → drop n (map f xs) ≡ map f (drop n xs)
drop_map f zero xs = refl
drop_map f (suc n) [] = refl
drop_map f (suc n) (x ∷ xs) = drop_map f n xs

all_mapped : {X Z : Type 0} (f : X → Z) (test : Z → Bool) (xs : List X) → list_all test (map f xs) ≡ list_all (λ (x : X). test (f x)) xs
all_mapped f test [] = refl
all_mapped f test (x ∷ xs) = ap (λ (b : Bool). test (f x) && b) (all_mapped f test xs)

all_same : {X : Type 0} (f g : X → Bool) (xs : List X) → ((x : X) → f x ≡ g x) → list_all f xs ≡ list_all g xs
all_same f g [] same = refl
all_same f g (x ∷ xs) same = ap₂ (λ (a b : Bool). a && b) (same x) (all_same f g xs same)

marked_span : (test : Cube → Bool) (rows : List Cube) (span : RowSpan) → marks_in span (map test rows) ≡ list_any test (rows_in rows span)
marked_span test rows span =
    ap (list_any (λ (mark : Bool). mark)) (ap (take (span.end - span.start)) (drop_map test span.start rows) ∙ take_map test (span.end - span.start) (drop span.start rows))
    ∙ any_marked test (rows_in rows span)

pub marked_each : (rows : List Cube) (span : RowSpan) (cover : NamedCover) (lists : List (Vec Bool)) → map (λ (marks : Vec Bool). marks.items) lists ≡ map (λ (cube : Cube). map (has_all cube) rows) cover
    → list_all (λ (cube : Cube). list_any (has_all cube) (rows_in rows span)) cover ≡ true → list_all (λ (marks : Vec Bool). marks_in span marks.items) lists ≡ true
marked_each rows span cover lists is h =
    sym (all_mapped (λ (marks : Vec Bool). marks.items) (marks_in span) lists)
    ∙ ap (list_all (marks_in span)) is
    ∙ all_mapped (λ (cube : Cube). map (has_all cube) rows) (marks_in span) cover
    ∙ all_same (λ (cube : Cube). marks_in span (map (has_all cube) rows)) (λ (cube : Cube). list_any (has_all cube) (rows_in rows span)) cover (λ cube. marked_span (has_all cube) rows span)
    ∙ h

-- ---- marks that are kept for literals

pub no_marks : (rows : List Cube) (marks : Literal → Option (Vec Bool)) → ((literal : Literal) → marks literal ≡ None) → AreMarks rows marks
no_marks rows marks none = λ literal kept e. absurd (none-some kept (sym (none literal) ∙ e))

pub more_marks : (rows : List Cube) (old new : Literal → Option (Vec Bool)) (key : Literal) (made : Vec Bool) → made.items ≡ map (list_any (same_literal key)) rows
    → ((other : Literal) → new other ≡ (if same_literal key other then Some made else old other)) → AreMarks rows old → AreMarks rows new
more_marks rows old new key made is updates before = λ other kept e. cases other kept (same_literal key other) refl (sym (updates other) ∙ e)
  where
    cases : (other : Literal) (kept : Vec Bool) (b : Bool) → same_literal key other ≡ b → (if b then Some made else old other) ≡ Some kept → kept.items ≡ map (list_any (same_literal other)) rows
    cases other kept true same e =
        subst (λ (l : Literal). kept.items ≡ map (list_any (same_literal l)) rows) (same_is key other same)
        (subst (λ (v : Vec Bool). v.items ≡ map (list_any (same_literal key)) rows) (same_Some made kept e) is)
    cases other kept false same e = before other kept e
