-- The kernels that the search finds for the sorted rows are the kernels of the sum.
use Rattle.std.proofs.Common.{◌≡◌, ℕ, ◌<◌, ◌≤◌, Bool, true, false, if◌then◌else◌, Option, Some, None, List, [], ◌∷◌, length, get_or, refl, sym, ap, ◌∙◌, subst, arith, inl, inr, ◌⊎◌, ◌↔◌, Ordering, Equal}
use Rattle.std.specs.Ordering.{bool_cmp, ordering_then}
use Rattle.std.specs.Option.{option_cmp}
use Rattle.std.specs.Cmp.Lexicographic.{slice_cmp}
use Rattle.sis_base.specs.Rows.{HasWidth}
use Rattle.alg_div.specs.Cubes.{Has, times}
use Rattle.alg_div.specs.Steps.{without, strip}
use Rattle.alg_div.specs.Quotient.{IsTerm}
use Rattle.alg_div.proofs.Cubes.{times_none, get_or-times, length-times, get_or-strip, length-strip, ext}
use Rattle.alg_div.proofs.Terms.{width-has, width-from}
use Rattle.alg_kernel.specs.Kernels.{row_cmp, rows_cmp, Ascends, IsKernel, AreKernels, MoreKernels}
use Rattle.cube_cover.specs.Literals.{has_literal, literal_product}
use Rattle.alg_kernel.specs.Search.{holds, over, IsFound, AreFound, MoreFound, AreSame}
use Rattle.alg_kernel.proofs.Orders.{row_total, rows_total, same-ascending, fewer-ascending}
use Rattle.alg_kernel.proofs.Parts.{and_left, and_right, has_literal-is, holds-at, holds-from, Has-over, over-has, over-width}
use Rattle.alg_kernel.proofs.Found.{none-found}
use Rattle.sis_base.specs.declared.limits.TheConstants.{MAX_KERNELS}

some_none : (b : Bool) (x : Option Bool) → x ≡ Some b → x ≡ None → ⊥
some_none b x h k = cc

some-or : (x : Option Bool) → (x ≡ None) ⊎ ((b : Bool) × (x ≡ Some b))
some-or None = inl refl
some-or (Some b) = inr (b, refl)

literal-equal : (b : Bool) (x y : Option Bool) → x ≡ Some b → y ≡ Some b → option_cmp bool_cmp x y ≡ Equal
literal-equal true x y h k = rw (h, k) refl
literal-equal false x y h k = rw (h, k) refl

-- rows with one cube keep their order without it
strip-cmp : (c r s : List (Option Bool)) → holds c r ≡ true → holds c s ≡ true → row_cmp (strip c r) (strip c s) ≡ row_cmp r s
unfolding holds strip
strip-cmp [] r s h k = refl
strip-cmp (x ∷ xs) [] [] h k = refl
strip-cmp (x ∷ xs) [] (z ∷ zs) h k = refl
strip-cmp (x ∷ xs) (y ∷ ys) [] h k = refl
strip-cmp (None ∷ xs) (y ∷ ys) (z ∷ zs) h k = ap (ordering_then (option_cmp bool_cmp y z)) (strip-cmp xs ys zs h k)
strip-cmp (Some b ∷ xs) (y ∷ ys) (z ∷ zs) h k =
    strip-cmp xs ys zs (and_right (has_literal y b) (holds xs ys) h) (and_right (has_literal z b) (holds xs zs) k)
    ∙ ap (λ (o : Ordering). ordering_then o (slice_cmp (option_cmp bool_cmp) ys zs)) (sym (literal-equal b y z (has_literal-is y b (and_left (has_literal y b) (holds xs ys) h)) (has_literal-is z b (and_left (has_literal z b) (holds xs zs) k))))

pub over-ascends : (c : List (Option Bool)) (f : List (List (Option Bool))) → Ascends row_cmp f → Ascends row_cmp (over c f)
unfolding over Ascends
over-ascends c [] h = tt
over-ascends c (row ∷ rows) h = cases (holds c row) refl (over-ascends c rows h.1)
  where
    cases : (t : Bool) → holds c row ≡ t → Ascends row_cmp (over c rows) → Ascends row_cmp (if t then strip c row ∷ over c rows else over c rows)
    cases true e rest = (λ y m. let p = Has-over c rows y m in ap (row_cmp (strip c row)) p.3 ∙ strip-cmp c row p.0 e p.2 ∙ h.0 p.0 p.1, rest)
    cases false e rest = rest

-- the rows with a cube, without it, are the quotient by it
pub over-terms : (w : ℕ) (f : List (List (Option Bool))) (c r : List (Option Bool)) → HasWidth w f → length c ≡ w → Has r (over c f) ↔ IsTerm w f (c ∷ []) r
over-terms w f c r wide len = (forth, back)
  where
    back-at : (x y : Option Bool) → ((b : Bool) → x ≡ Some b → y ≡ None) → without x (literal_product y x) ≡ y
    back-at None y h = times_none y
    back-at (Some b) y h = sym (h b refl)

    forth-at : (x s : Option Bool) → ((b : Bool) → x ≡ Some b → s ≡ Some b) → literal_product (without x s) x ≡ s
    forth-at None s h = times_none s
    forth-at (Some b) s h = sym (h b refl)

    forth : Has r (over c f) → IsTerm w f (c ∷ []) r
    forth m =
        let p = Has-over c f r m in
        let wide-s : length p.0 ≡ w = width-has w f p.0 wide p.1 in
        let whole : times r c ≡ p.0 = ap (λ (x : List (Option Bool)). times x c) p.3 ∙ ext (times (strip c p.0) c) p.0 (length-times (strip c p.0) c (length-strip c p.0 ∙ wide-s ∙ sym len) ∙ length-strip c p.0) (λ i. get_or-times (strip c p.0) c i
        ∙ ap (λ (x : Option Bool). literal_product x (get_or c i None)) (get_or-strip c p.0 i) ∙ forth-at (get_or c i None) (get_or p.0 i None) (λ b e. holds-at c p.0 i b p.2 e)) in
        record {
          wide = ap length p.3 ∙ length-strip c p.0 ∙ wide-s;
          apart = λ k n i b e. elim n as (λ _. get_or r i None ≡ None) [
            | inl same ↦ ap (λ (x : List (Option Bool)). get_or x i None) p.3 ∙ get_or-strip c p.0 i ∙ ap (λ (x : Option Bool). without x (get_or p.0 i None)) (sym (ap (λ (x : List (Option Bool)). get_or x i None) same) ∙ e)
            | inr z ↦ absurd z
          ];
          rows = λ k n. elim n as (λ _. Has (times r k) f) [ inl same ↦ subst (λ (x : List (Option Bool)). Has x f) (sym (ap (times r) same ∙ whole)) p.1 | inr z ↦ absurd z ];
        }

    back : IsTerm w f (c ∷ []) r → Has r (over c f)
    back t =
        let apart : (i : ℕ) (b : Bool) → get_or c i None ≡ Some b → get_or r i None ≡ None = t.apart c (inl refl) in
        let holding_rows : holds c (times r c) ≡ true = holds-from c (times r c) (λ i b e. get_or-times r c i ∙ ap (λ (x : Option Bool). literal_product x (get_or c i None)) (apart i b e) ∙ e) in
        let whole : strip c (times r c) ≡ r = ext (strip c (times r c)) r (length-strip c (times r c) ∙ length-times r c (t.wide ∙ sym len)) (λ i. get_or-strip c (times r c) i ∙ ap (without (get_or c i None)) (get_or-times r c i) ∙ back-at (get_or c i None) (get_or r i None) (apart i)) in
        subst (λ (x : List (Option Bool)). Has x (over c f)) whole (over-has c f (times r c) (t.rows c (inl refl)) holding_rows)

term-same : (w : ℕ) (f g : List (List (Option Bool))) (d : List (List (Option Bool))) (r : List (Option Bool)) → AreSame f g → IsTerm w f d r → IsTerm w g d r
term-same w f g d r same t = record { wide = t.wide; apart = t.apart; rows = λ k m. (same _).0 (t.rows k m) }

pub kernel-from : (w : ℕ) (f g k : List (List (Option Bool))) → AreSame f g → HasWidth w g → Ascends row_cmp g → IsFound w g k → IsKernel w f k
kernel-from w f g k same wide order found = record {
  order = subst (Ascends row_cmp) (sym found.cube.2) (over-ascends found.cube.0 g order);
  quotient = (
    found.cube.0,
    found.cube.1,
    λ r. (
      λ m. term-same w g f (found.cube.0 ∷ []) r (λ x. ((same x).1, (same x).0)) ((over-terms w g found.cube.0 r wide found.cube.1).0 (subst (Has r) found.cube.2 m)),
      λ t. subst (Has r) (sym found.cube.2) ((over-terms w g found.cube.0 r wide found.cube.1).1 (term-same w f g (found.cube.0 ∷ []) r same t)),
    ),
  );
  two = found.free.0;
  free = found.free.1;
}

pub kernel-to : (w : ℕ) (f g k : List (List (Option Bool))) → AreSame f g → HasWidth w g → Ascends row_cmp g → IsKernel w f k → IsFound w g k
kernel-to w f g k same wide order kernel =
    let c : List (Option Bool) = kernel.quotient.0 in
    let len : length c ≡ w = kernel.quotient.1 in
    record {
      cube = (
        c,
        len,
        same-ascending row_cmp row_total k (over c g) kernel.order (over-ascends c g order)
            (λ r m. (over-terms w g c r wide len).1 (term-same w f g (c ∷ []) r same ((kernel.quotient.2 r).0 m)))
            (λ r m. (kernel.quotient.2 r).1 (term-same w g f (c ∷ []) r (λ x. ((same x).1, (same x).0)) ((over-terms w g c r wide len).0 m))),
      );
      free = (kernel.two, kernel.free);
    }

pub all-kernels : (w : ℕ) (f g : List (List (Option Bool))) (ks : List (List (List (Option Bool)))) → AreSame f g → HasWidth w g → Ascends row_cmp g → AreFound w g ks → AreKernels w f ks
all-kernels w f g ks same wide order a = record {
  only = λ k m. kernel-from w f g k same wide order (a.only k m);
  every = λ k h. a.every k (kernel-to w f g k same wide order h);
  order = a.order;
}

pub more-kernels : (w : ℕ) (f g : List (List (Option Bool))) → AreSame f g → HasWidth w g → Ascends row_cmp g → MoreFound w g → MoreKernels MAX_KERNELS w f
more-kernels w f g same wide order (ks, more, rises, from) = (ks, more, rises, λ k m. kernel-from w f g k same wide order (from k m))

-- where there are more, no list of so many has them all
pub not-more : (n w : ℕ) (f : List (List (Option Bool))) (ks : List (List (List (Option Bool)))) → AreKernels w f ks → length ks ≤ n → MoreKernels n w f → ⊥
not-more n w f ks a few (xs, more, rises, from) = omega (arith, few, more, fewer-ascending rows_cmp rows_total xs ks rises a.order (λ k m. a.every k (from k m)))

-- the rising rows have the width
pub same-wide : (w : ℕ) (f g : List (List (Option Bool))) → AreSame f g → HasWidth w f → HasWidth w g
same-wide w f g same wide = width-from w g (λ r m. width-has w f r wide ((same r).1 m))

pub found-wide : (w : ℕ) (g k : List (List (Option Bool))) → HasWidth w g → IsFound w g k → HasWidth w k
found-wide w g k wide found = subst (HasWidth w) (sym found.cube.2) (over-width w found.cube.0 g wide)

-- less than two rows have no kernels
pub no-kernels : (w : ℕ) (g : List (List (Option Bool))) → length g < 2 → AreFound w g []
unfolding Ascends
no-kernels w g few = record { only = λ k m. absurd m; every = λ k found. absurd (none-found w g k few found); order = tt }

-- the same facts at equal values
pub found-moved : (w w' : ℕ) (g g' : List (List (Option Bool))) (ks : List (List (List (Option Bool)))) → w ≡ w' → g ≡ g' → AreFound w g ks → AreFound w' g' ks
found-moved w w' g g' ks a b h = subst (λ (x : List (List (Option Bool))). AreFound w' x ks) b (subst (λ (n : ℕ). AreFound n g ks) a h)

pub more-moved : (w w' : ℕ) (g g' : List (List (Option Bool))) → w ≡ w' → g ≡ g' → MoreFound w g → MoreFound w' g'
more-moved w w' g g' a b h = subst (λ (x : List (List (Option Bool))). MoreFound w' x) b (subst (λ (n : ℕ). MoreFound n g) a h)
