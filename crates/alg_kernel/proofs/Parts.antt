-- The rows that contain a cube, without it; the common literals of rows; and the composition of two
-- such steps.
use Rattle.std.proofs.Common.{◌≡◌, ℕ, ◌<◌, ◌≤◌, zero, suc, Bool, true, false, ◌&&◌, if◌then◌else◌, Option, Some, None, List, [], ◌∷◌, ◌++◌, length, get_or, take, drop, map, refl, sym, ap, ◌∙◌, arith, inl, inr, ◌⊎◌, true≢false}
use Rattle.std.proofs.lemmas.Bool.{and_from}
use Rattle.sis_base.specs.Rows.{HasWidth}
use Rattle.alg_div.specs.Cubes.{Has, times}
use Rattle.alg_div.specs.Steps.{without, strip}
use Rattle.alg_div.proofs.Cubes.{get_or-times, get_or-strip, length-strip, ext}
use Rattle.alg_div.proofs.Terms.{width-has, width-from}
use Rattle.alg_kernel.specs.Kernels.{NoCommon}
use Rattle.cube_cover.specs.Literals.{has_literal, literal_product}
use Rattle.alg_kernel.specs.Search.{within, holds, over, holding_rows, both, both_rows, common_cube_from, common_cube, kernel_at}

some_none : (b : Bool) (x : Option Bool) → x ≡ Some b → x ≡ None → ⊥
some_none b x h k = cc

some_some : (a b : Bool) (x : Option Bool) → x ≡ Some a → x ≡ Some b → a ≡ b
some_some a b x h k = cc

pub and_left : (x y : Bool) → (x && y) ≡ true → x ≡ true
and_left true y h = refl
and_left false y h = h

pub and_right : (x y : Bool) → (x && y) ≡ true → y ≡ true
and_right true y h = h
and_right false y h = cc

-- a place and a literal
pub has_literal-is : (x : Option Bool) (b : Bool) → has_literal x b ≡ true → x ≡ Some b
has_literal-is None b h = cc
has_literal-is (Some true) true h = refl
has_literal-is (Some true) false h = cc
has_literal-is (Some false) true h = cc
has_literal-is (Some false) false h = refl

pub is-has_literal : (x : Option Bool) (b : Bool) → x ≡ Some b → has_literal x b ≡ true
is-has_literal x true h = ap (λ (y : Option Bool). has_literal y true) h
is-has_literal x false h = ap (λ (y : Option Bool). has_literal y false) h

has_literal-none : (b : Bool) → has_literal None b ≡ true → ⊥
has_literal-none b h = cc

within-is : (x y : Option Bool) (b : Bool) → within x y ≡ true → x ≡ Some b → y ≡ Some b
within-is None y b h e = absurd (some_none b None e refl)
within-is (Some a) y b h e = has_literal-is y a h ∙ e

is-within : (x y : Option Bool) → ((b : Bool) → x ≡ Some b → y ≡ Some b) → within x y ≡ true
is-within None y h = refl
is-within (Some a) y h = is-has_literal y a (h a refl)

pub holds-at : (c r : List (Option Bool)) (i : ℕ) (b : Bool) → holds c r ≡ true → get_or c i None ≡ Some b → get_or r i None ≡ Some b
unfolding holds
holds-at [] r i b h e = absurd (some_none b None e refl)
holds-at (x ∷ xs) [] zero b h e = within-is x None b (and_left (within x None) (holds xs []) h) e
holds-at (x ∷ xs) [] (suc i) b h e = holds-at xs [] i b (and_right (within x None) (holds xs []) h) e
holds-at (x ∷ xs) (y ∷ ys) zero b h e = within-is x y b (and_left (within x y) (holds xs ys) h) e
holds-at (x ∷ xs) (y ∷ ys) (suc i) b h e = holds-at xs ys i b (and_right (within x y) (holds xs ys) h) e

pub holds-from : (c r : List (Option Bool)) → ((i : ℕ) (b : Bool) → get_or c i None ≡ Some b → get_or r i None ≡ Some b) → holds c r ≡ true
unfolding holds
holds-from [] r h = refl
holds-from (x ∷ xs) [] h = and_from _ _ (is-within x None (λ b e. h 0 b e)) (holds-from xs [] (λ i b e. h (suc i) b e))
holds-from (x ∷ xs) (y ∷ ys) h = and_from _ _ (is-within x y (λ b e. h 0 b e)) (holds-from xs ys (λ i b e. h (suc i) b e))

-- two tests that hold of the same are equal
pub same-test : (x y : Bool) → (x ≡ true → y ≡ true) → (y ≡ true → x ≡ true) → x ≡ y
same-test true y h k = sym (h refl)
same-test false true h k = k refl
same-test false false h k = refl

-- elements of the rows that have a cube
pub Has-over : (c : List (Option Bool)) (rs : List (List (Option Bool))) (r : List (Option Bool)) → Has r (over c rs) → (s : List (Option Bool)) × Has s rs × (holds c s ≡ true) × (r ≡ strip c s)
unfolding over
Has-over c [] r h = absurd h
Has-over c (row ∷ rows) r h = cases (holds c row) refl h (Has-over c rows r)
  where
    cases : (t : Bool) → holds c row ≡ t → Has r (if t then strip c row ∷ over c rows else over c rows) → (Has r (over c rows) → (s : List (Option Bool)) × Has s rows × (holds c s ≡ true) × (r ≡ strip c s))
        → (s : List (Option Bool)) × Has s (row ∷ rows) × (holds c s ≡ true) × (r ≡ strip c s)
    cases true e k next = elim k as (λ _. (s : List (Option Bool)) × Has s (row ∷ rows) × (holds c s ≡ true) × (r ≡ strip c s)) [ inl q ↦ (row, inl refl, e, q) | inr m ↦ (let p = next m in (p.0, inr p.1, p.2, p.3)) ]
    cases false e k next = let p = next k in (p.0, inr p.1, p.2, p.3)

pub over-has : (c : List (Option Bool)) (rs : List (List (Option Bool))) (s : List (Option Bool)) → Has s rs → holds c s ≡ true → Has (strip c s) (over c rs)
unfolding over
over-has c [] s m h = absurd m
over-has c (row ∷ rows) s m h = cases (holds c row) refl m (λ n. over-has c rows s n h)
  where
    cases : (t : Bool) → holds c row ≡ t → Has s (row ∷ rows) → (Has s rows → Has (strip c s) (over c rows)) → Has (strip c s) (if t then strip c row ∷ over c rows else over c rows)
    cases true e k next = elim k as (λ _. Has (strip c s) (strip c row ∷ over c rows)) [ inl q ↦ inl (ap (strip c) q) | inr n ↦ inr (next n) ]
    cases false e k next = elim k as (λ _. Has (strip c s) (over c rows)) [ inl q ↦ absurd (true≢false (sym h ∙ ap (holds c) q ∙ e)) | inr n ↦ next n ]

pub over-width : (w : ℕ) (c : List (Option Bool)) (rs : List (List (Option Bool))) → HasWidth w rs → HasWidth w (over c rs)
over-width w c rs h = width-from w (over c rs) (λ r m. let p = Has-over c rs r m in ap length p.3 ∙ length-strip c p.0 ∙ width-has w rs p.0 h p.1)

-- elements of the rows with a literal
pub Has-holding_rows : (i : ℕ) (b : Bool) (rs : List (List (Option Bool))) (r : List (Option Bool)) → Has r (holding_rows i b rs) → Has r rs × (get_or r i None ≡ Some b)
unfolding holding_rows
Has-holding_rows i b [] r h = absurd h
Has-holding_rows i b (row ∷ rows) r h = cases (has_literal (get_or row i None) b) refl h (Has-holding_rows i b rows r)
  where
    cases : (t : Bool) → has_literal (get_or row i None) b ≡ t → Has r (if t then row ∷ holding_rows i b rows else holding_rows i b rows) → (Has r (holding_rows i b rows) → Has r rows × (get_or r i None ≡ Some b)) → Has r (row ∷ rows) × (get_or r i None ≡ Some b)
    cases true e k next = elim k as (λ _. Has r (row ∷ rows) × (get_or r i None ≡ Some b)) [ inl q ↦ (inl q, ap (λ (x : List (Option Bool)). get_or x i None) q ∙ has_literal-is (get_or row i None) b e) | inr m ↦ (inr (next m).0, (next m).1) ]
    cases false e k next = (inr (next k).0, (next k).1)

pub holding_rows-has : (i : ℕ) (b : Bool) (rs : List (List (Option Bool))) (r : List (Option Bool)) → Has r rs → get_or r i None ≡ Some b → Has r (holding_rows i b rs)
unfolding holding_rows
holding_rows-has i b [] r m h = absurd m
holding_rows-has i b (row ∷ rows) r m h = cases (has_literal (get_or row i None) b) refl m (λ n. holding_rows-has i b rows r n h)
  where
    cases : (t : Bool) → has_literal (get_or row i None) b ≡ t → Has r (row ∷ rows) → (Has r rows → Has r (holding_rows i b rows)) → Has r (if t then row ∷ holding_rows i b rows else holding_rows i b rows)
    cases true e k next = elim k as (λ _. Has r (row ∷ holding_rows i b rows)) [ inl q ↦ inl q | inr n ↦ inr (next n) ]
    cases false e k next = elim k as (λ _. Has r (holding_rows i b rows)) [ inl q ↦ absurd (true≢false (sym (is-has_literal _ b (sym (ap (λ (x : List (Option Bool)). get_or x i None) q) ∙ h)) ∙ e)) | inr n ↦ next n ]

-- what rows share
both-none : (x : Option Bool) → both x None ≡ None
both-none None = refl
both-none (Some b) = refl

pub get_or-both : (r s : List (Option Bool)) (i : ℕ) → get_or (both_rows r s) i None ≡ both (get_or r i None) (get_or s i None)
unfolding both_rows
get_or-both [] s i = refl
get_or-both (x ∷ xs) [] i = sym (both-none (get_or (x ∷ xs) i None))
get_or-both (x ∷ xs) (y ∷ ys) zero = refl
get_or-both (x ∷ xs) (y ∷ ys) (suc i) = get_or-both xs ys i

pub length-both : (r s : List (Option Bool)) → length r ≡ length s → length (both_rows r s) ≡ length r
unfolding both_rows
length-both [] s e = refl
length-both (x ∷ xs) [] e = absurd (omega arith)
length-both (x ∷ xs) (y ∷ ys) e = ap suc (length-both xs ys (omega arith))

both-is : (x y : Option Bool) (b : Bool) → both x y ≡ Some b → (x ≡ Some b) × (y ≡ Some b)
both-is None y b h = absurd (some_none b None h refl)
both-is (Some a) y b h = cases (has_literal y a) refl h
  where
    cases : (t : Bool) → has_literal y a ≡ t → (if t then Some a else None) ≡ Some b → (Some a ≡ Some b) × (y ≡ Some b)
    cases true e k = (k, has_literal-is y a e ∙ k)
    cases false e k = absurd (some_none b None k refl)

is-both : (x y : Option Bool) (b : Bool) → x ≡ Some b → y ≡ Some b → both x y ≡ Some b
is-both None y b h k = absurd (some_none b None h refl)
is-both (Some a) y b h k = ap (λ (t : Bool). if t then Some a else None) (is-has_literal y a (k ∙ sym h)) ∙ h

from-at : (c : List (Option Bool)) (rs : List (List (Option Bool))) (i : ℕ) (b : Bool) → get_or (common_cube_from c rs) i None ≡ Some b → (get_or c i None ≡ Some b) × ((r : List (Option Bool)) → Has r rs → get_or r i None ≡ Some b)
unfolding common_cube_from
from-at c [] i b h = (h, λ r m. absurd m)
from-at c (row ∷ rows) i b h =
    let p = from-at (both_rows c row) rows i b h in
    let q = both-is (get_or c i None) (get_or row i None) b (sym (get_or-both c row i) ∙ p.0) in
    (q.0, λ r m. elim m as (λ _. get_or r i None ≡ Some b) [ inl e ↦ ap (λ (x : List (Option Bool)). get_or x i None) e ∙ q.1 | inr n ↦ p.1 r n ])

from-all : (c : List (Option Bool)) (rs : List (List (Option Bool))) (i : ℕ) (b : Bool) → get_or c i None ≡ Some b → ((r : List (Option Bool)) → Has r rs → get_or r i None ≡ Some b) → get_or (common_cube_from c rs) i None ≡ Some b
unfolding common_cube_from
from-all c [] i b h k = h
from-all c (row ∷ rows) i b h k = from-all (both_rows c row) rows i b (get_or-both c row i ∙ is-both _ _ b h (k row (inl refl))) (λ r m. k r (inr m))

pub common_cube-at : (rs : List (List (Option Bool))) (i : ℕ) (b : Bool) → get_or (common_cube rs) i None ≡ Some b → (r : List (Option Bool)) → Has r rs → get_or r i None ≡ Some b
common_cube-at [] i b h r m = absurd m
common_cube-at (row ∷ rows) i b h r m = let p = from-at row rows i b h in elim m as (λ _. get_or r i None ≡ Some b) [ inl e ↦ ap (λ (x : List (Option Bool)). get_or x i None) e ∙ p.0 | inr n ↦ p.1 r n ]

pub common_cube-all : (rs : List (List (Option Bool))) (i : ℕ) (b : Bool) → 0 < length rs → ((r : List (Option Bool)) → Has r rs → get_or r i None ≡ Some b) → get_or (common_cube rs) i None ≡ Some b
common_cube-all [] i b lt h = absurd (omega arith)
common_cube-all (row ∷ rows) i b lt h = from-all row rows i b (h row (inl refl)) (λ r m. h r (inr m))

from-length : (w : ℕ) (c : List (Option Bool)) (rs : List (List (Option Bool))) → length c ≡ w → ((r : List (Option Bool)) → Has r rs → length r ≡ w) → length (common_cube_from c rs) ≡ w
unfolding common_cube_from
from-length w c [] e h = e
from-length w c (row ∷ rows) e h = from-length w (both_rows c row) rows (length-both c row (e ∙ sym (h row (inl refl))) ∙ e) (λ r m. h r (inr m))

pub common_cube-length : (w : ℕ) (rs : List (List (Option Bool))) → 0 < length rs → ((r : List (Option Bool)) → Has r rs → length r ≡ w) → length (common_cube rs) ≡ w
common_cube-length w [] lt h = absurd (omega arith)
common_cube-length w (row ∷ rows) lt h = from-length w row rows (h row (inl refl)) (λ r m. h r (inr m))

-- the rows that have a cube, where a test says which they are
pub over-all : (c : List (Option Bool)) (rs : List (List (Option Bool))) → ((r : List (Option Bool)) → Has r rs → holds c r ≡ true) → over c rs ≡ map (strip c) rs
unfolding over
over-all c [] h = refl
over-all c (row ∷ rows) h = ap (λ (t : Bool). if t then strip c row ∷ over c rows else over c rows) (h row (inl refl)) ∙ ap (λ (l : List (List (Option Bool))). strip c row ∷ l) (over-all c rows (λ r m. h r (inr m)))

over-test : (c : List (Option Bool)) (i : ℕ) (b : Bool) (rs : List (List (Option Bool))) → ((r : List (Option Bool)) → Has r rs → holds c r ≡ has_literal (get_or r i None) b) → over c rs ≡ map (strip c) (holding_rows i b rs)
unfolding over holding_rows
over-test c i b [] h = refl
over-test c i b (row ∷ rows) h =
    ap (λ (t : Bool). if t then strip c row ∷ over c rows else over c rows) (h row (inl refl)) ∙ cases (has_literal (get_or row i None) b) (over-test c i b rows (λ r m. h r (inr m)))
  where
    cases : (t : Bool) → over c rows ≡ map (strip c) (holding_rows i b rows) → (if t then strip c row ∷ over c rows else over c rows) ≡ map (strip c) (if t then row ∷ holding_rows i b rows else holding_rows i b rows)
    cases true e = ap (λ (l : List (List (Option Bool))). strip c row ∷ l) e
    cases false e = e

-- the rows with a literal have just what they share
pub kernel-rows : (i : ℕ) (b : Bool) (h : List (List (Option Bool))) → 0 < length (holding_rows i b h) → kernel_at i b h ≡ map (strip (common_cube (holding_rows i b h))) (holding_rows i b h)
kernel-rows i b h lt = over-test (common_cube (holding_rows i b h)) i b h (λ r m. same-test _ _
    (λ t. is-has_literal _ b (holds-at (common_cube (holding_rows i b h)) r i b t (common_cube-all (holding_rows i b h) i b lt (λ s n. (Has-holding_rows i b h s n).1))))
    (λ t. holds-from (common_cube (holding_rows i b h)) r (λ j a e. common_cube-at (holding_rows i b h) j a e r (holding_rows-has i b h r m (has_literal-is _ b t)))))

pub start-rows : (f : List (List (Option Bool))) → over (common_cube f) f ≡ map (strip (common_cube f)) f
start-rows f = over-all (common_cube f) f (λ r m. holds-from (common_cube f) r (λ j a e. common_cube-at f j a e r m))

-- nothing is shared by rows without what they share
map-has : (c : List (Option Bool)) (rs : List (List (Option Bool))) (s : List (Option Bool)) → Has s rs → Has (strip c s) (map (strip c) rs)
map-has c [] s m = absurd m
map-has c (row ∷ rows) s m = elim m as (λ _. Has (strip c s) (map (strip c) (row ∷ rows))) [ inl e ↦ inl (ap (strip c) e) | inr n ↦ inr (map-has c rows s n) ]

without-is : (x y : Option Bool) (b : Bool) → without x y ≡ Some b → (x ≡ None) × (y ≡ Some b)
without-is None y b h = (refl, h)
without-is (Some a) y b h = absurd (some_none b None h refl)

first-of : (rs : List (List (Option Bool))) → 0 < length rs → (r : List (Option Bool)) × Has r rs
first-of [] lt = absurd (omega arith)
first-of (row ∷ rows) lt = (row, inl refl)

pub free-of-common_cube : (g : List (List (Option Bool))) → 0 < length g → NoCommon (map (strip (common_cube g)) g)
free-of-common_cube g lt i b h =
    let first = first-of g lt in
    let gone : get_or (common_cube g) i None ≡ None = (without-is _ _ b (sym (get_or-strip (common_cube g) first.0 i) ∙ h (strip (common_cube g) first.0) (map-has (common_cube g) g first.0 first.1))).0 in
    some_none b _ (common_cube-all g i b lt (λ r m. (without-is _ _ b (sym (get_or-strip (common_cube g) r i) ∙ h (strip (common_cube g) r) (map-has (common_cube g) g r m))).1)) gone

-- one cube after another
strip-strip : (a u r : List (Option Bool)) → strip u (strip a r) ≡ strip (times a u) r
strip-strip a u r = ext (strip u (strip a r)) (strip (times a u) r) (length-strip u (strip a r) ∙ length-strip a r ∙ sym (length-strip (times a u) r)) (λ i. at i)
  where
    places : (x y z : Option Bool) → without y (without x z) ≡ without (literal_product x y) z
    places None y z = refl
    places (Some b) None z = refl
    places (Some b) (Some d) z = refl

    at : (i : ℕ) → get_or (strip u (strip a r)) i None ≡ get_or (strip (times a u) r) i None
    at i = get_or-strip u (strip a r) i ∙ ap (without (get_or u i None)) (get_or-strip a r i) ∙ places (get_or a i None) (get_or u i None) (get_or r i None) ∙ ap (λ (x : Option Bool). without x (get_or r i None)) (sym (get_or-times a u i)) ∙ sym (get_or-strip (times a u) r i)

-- two cubes have no literals in the same column
abbrev pub AreApart : List (Option Bool) → List (Option Bool) → Type 0
AreApart a u = (i : ℕ) (b : Bool) → get_or u i None ≡ Some b → get_or a i None ≡ None

times-some : (x y : Option Bool) (b : Bool) → literal_product x y ≡ Some b → (x ≡ Some b) ⊎ ((x ≡ None) × (y ≡ Some b))
times-some None y b h = inr (refl, h)
times-some (Some a) y b h = inl h

holds-holds : (a u r : List (Option Bool)) → AreApart a u → (holds a r && holds u (strip a r)) ≡ holds (times a u) r
holds-holds a u r apart = same-test _ _
    (λ t. holds-from (times a u) r (λ i b e. elim (times-some (get_or a i None) (get_or u i None) b (sym (get_or-times a u i) ∙ e)) as (λ _. get_or r i None ≡ Some b) [
      | inl h ↦ holds-at a r i b (and_left (holds a r) (holds u (strip a r)) t) h
      | inr h ↦ (without-is (get_or a i None) _ b (sym (get_or-strip a r i) ∙ holds-at u (strip a r) i b (and_right (holds a r) (holds u (strip a r)) t) h.1)).1
    ]))
    (λ t. and_from _ _
    (holds-from a r (λ i b e. holds-at (times a u) r i b t (get_or-times a u i ∙ ap (λ (x : Option Bool). literal_product x (get_or u i None)) e)))
    (holds-from u (strip a r) (λ i b e. get_or-strip a r i ∙ ap (λ (x : Option Bool). without x (get_or r i None)) (apart i b e) ∙ holds-at (times a u) r i b t (get_or-times a u i ∙ ap (λ (x : Option Bool). literal_product x (get_or u i None)) (apart i b e) ∙ e))))

pub over-over : (a u : List (Option Bool)) (f : List (List (Option Bool))) → AreApart a u → over u (over a f) ≡ over (times a u) f
unfolding over
over-over a u [] apart = refl
over-over a u (row ∷ rows) apart = cases (holds a row) refl (over-over a u rows apart)
  where
    cases : (t : Bool) → holds a row ≡ t → over u (over a rows) ≡ over (times a u) rows
        → over u (if t then strip a row ∷ over a rows else over a rows) ≡ (if holds (times a u) row then strip (times a u) row ∷ over (times a u) rows else over (times a u) rows)
    cases true e rest =
        let tests : holds u (strip a row) ≡ holds (times a u) row = ap (λ (t : Bool). t && holds u (strip a row)) (sym e) ∙ holds-holds a u row apart in
        ap (λ (t : Bool). if t then strip u (strip a row) ∷ over u (over a rows) else over u (over a rows)) tests
        ∙ ap (λ (l : List (List (Option Bool))). if holds (times a u) row then strip u (strip a row) ∷ l else l) rest
        ∙ ap (λ (x : List (Option Bool)). if holds (times a u) row then x ∷ over (times a u) rows else over (times a u) rows) (strip-strip a u row)
    cases false e rest =
        let tests : false ≡ holds (times a u) row = ap (λ (t : Bool). t && holds u (strip a row)) (sym e) ∙ holds-holds a u row apart in
        rest ∙ ap (λ (t : Bool). if t then strip (times a u) row ∷ over (times a u) rows else over (times a u) rows) tests

-- the rows with a literal, as they are read in turn
holding_rows-cons : (i : ℕ) (b : Bool) (rows : List (List (Option Bool))) (row : List (Option Bool)) (rest : List (List (Option Bool))) → rows ≡ row ∷ rest → holding_rows i b rows ≡ (if has_literal (get_or row i None) b then row ∷ holding_rows i b rest else holding_rows i b rest)
unfolding holding_rows
holding_rows-cons i b rows row rest e = ap (holding_rows i b) e

pub holding_rows-yes : (i : ℕ) (b : Bool) (rows : List (List (Option Bool))) (row : List (Option Bool)) (rest : List (List (Option Bool))) → rows ≡ row ∷ rest → has_literal (get_or row i None) b ≡ true → holding_rows i b rows ≡ row ∷ holding_rows i b rest
holding_rows-yes i b rows row rest e t = holding_rows-cons i b rows row rest e ∙ ap (λ (x : Bool). if x then row ∷ holding_rows i b rest else holding_rows i b rest) t

pub holding_rows-not : (i : ℕ) (b : Bool) (rows : List (List (Option Bool))) (row : List (Option Bool)) (rest : List (List (Option Bool))) → rows ≡ row ∷ rest → has_literal (get_or row i None) b ≡ false → holding_rows i b rows ≡ holding_rows i b rest
holding_rows-not i b rows row rest e t = holding_rows-cons i b rows row rest e ∙ ap (λ (x : Bool). if x then row ∷ holding_rows i b rest else holding_rows i b rest) t

pub holding_rows-width : (w i : ℕ) (b : Bool) (rows : List (List (Option Bool))) → HasWidth w rows → HasWidth w (holding_rows i b rows)
holding_rows-width w i b rows h = width-from w (holding_rows i b rows) (λ r m. width-has w rows r h (Has-holding_rows i b rows r m).0)

-- a cube among the rows shares with them what they share
same-places : (x y : Option Bool) → ((b : Bool) → x ≡ Some b → y ≡ Some b) → ((b : Bool) → y ≡ Some b → x ≡ Some b) → x ≡ y
same-places None None h k = refl
same-places None (Some b) h k = k b refl
same-places (Some b) y h k = sym (h b refl)

pub common_cube-in : (w : ℕ) (rs : List (List (Option Bool))) (c : List (Option Bool)) → HasWidth w rs → Has c rs → common_cube_from c rs ≡ common_cube rs
common_cube-in w rs c wide m =
    let some : 0 < length rs = has-some rs m in
    ext (common_cube_from c rs) (common_cube rs) (from-length w c rs (width-has w rs c wide m) (λ r n. width-has w rs r wide n) ∙ sym (common_cube-length w rs some (λ r n. width-has w rs r wide n))) (λ i. same-places _ _
    (λ b e. common_cube-all rs i b some (from-at c rs i b e).1)
    (λ b e. from-all c rs i b (common_cube-at rs i b e c m) (common_cube-at rs i b e)))
  where
    has-some : (rs : List (List (Option Bool))) → Has c rs → 0 < length rs
    has-some [] m = absurd m
    has-some (x ∷ xs) m = omega arith

pub common_cube-more : (c : List (Option Bool)) (rows : List (List (Option Bool))) (row : List (Option Bool)) (rest : List (List (Option Bool))) → rows ≡ row ∷ rest → common_cube_from (both_rows c row) rest ≡ common_cube_from c rows
unfolding common_cube_from
common_cube-more c rows row rest e = ap (common_cube_from c) (sym e)

pub common_cube-last : (c : List (Option Bool)) (rows : List (List (Option Bool))) → rows ≡ [] → common_cube_from c rows ≡ c
unfolding common_cube_from
common_cube-last c rows e = ap (common_cube_from c) e

-- a list that is overwritten item by item
pub get_or-filled : {X : Type 0} (xs ys : List X) (i : ℕ) (d : X) → i < length xs → length ys ≡ length xs → get_or (take i xs ++ drop i ys) i d ≡ get_or ys i d
get_or-filled [] ys i d h e = absurd (omega arith)
get_or-filled (x ∷ xs) [] i d h e = absurd (omega arith)
get_or-filled (x ∷ xs) (y ∷ ys) zero d h e = refl
get_or-filled (x ∷ xs) (y ∷ ys) (suc i) d h e = get_or-filled xs ys i d (omega arith) (omega arith)

pub filled-all : {X : Type 0} (xs ys : List X) (i : ℕ) → length xs ≤ i → length ys ≡ length xs → take i xs ++ drop i ys ≡ xs
filled-all [] [] zero h e = refl
filled-all [] [] (suc i) h e = refl
filled-all [] (y ∷ ys) i h e = absurd (omega arith)
filled-all (x ∷ xs) [] i h e = absurd (omega arith)
filled-all (x ∷ xs) (y ∷ ys) zero h e = absurd (omega arith)
filled-all (x ∷ xs) (y ∷ ys) (suc i) h e = ap (λ (l : List _). x ∷ l) (filled-all xs ys i (omega arith) (omega arith))

pub common_cube-wide : (w : ℕ) (rs : List (List (Option Bool))) → 0 < length rs → HasWidth w rs → length (common_cube rs) ≡ w
common_cube-wide w rs some wide = common_cube-length w rs some (λ r n. width-has w rs r wide n)

pub default-other : {X : Type 0} (xs : List X) (i : ℕ) (d e : X) → i < length xs → get_or xs i d ≡ get_or xs i e
default-other [] i d e h = absurd (omega arith)
default-other (x ∷ xs) zero d e h = refl
default-other (x ∷ xs) (suc i) d e h = default-other xs i d e (omega arith)
