-- Planes without the ones of masks.
use Rattle.std.proofs.Common.{◌≡◌, ℕ, ◌+◌, ◌-◌, ◌/◌, ◌%◌, ◌^◌, ◌<◌, ◌≤◌, min, max, zero, suc, Bool, Option, None, List, [], ◌∷◌, ◌++◌, length, get_or, take, drop, refl, sym, ap, ◌∙◌, subst, arith, bit_or, append_assoc}
use Rattle.std.proofs.lemmas.List.{take_all, take-append-le, drop_at}
use Rattle.std.proofs.lemmas.Nat.Bits.{bit_at_and, bit_at_not, bit_at-lt, bit_at-zero}
use Rattle.std.proofs.lemmas.Simd.{length-zip2}
use Rattle.std.specs.Simd.Lanes.{zip2}
use Rattle.std.specs.Int.{bit_at, bit_not, w64}
use Rattle.cube_cover.specs.Covers.{without_of}
use Rattle.cube_cover.specs.Literals.{literal_without}
use Rattle.cube_cover.proofs.Turned.{length-without_of, without_at}
use Rattle.cube_packed.specs.Planes.{plane_words, plane_bit, literal_of, plane_literals, packed_literals, AreCube, IsPacked, and_not}
use Rattle.cube_packed.proofs.PlaneBits.{joined_bit}
use Rattle.cube_packed.proofs.PlaneLoops.{made_more, made_ends}
use Rattle.cube_packed.proofs.PlaneLiterals.{literal_at, literals_from_at, dash_of}

pub append_more : (old made ws vs : List ℕ) (i : ℕ) → length ws ≡ length vs → i < length ws → made ≡ old ++ take i (zip2 and_not ws vs)
    → made ++ and_not (get_or ws i 0) (get_or vs i 0) ∷ [] ≡ old ++ take (i + 1) (zip2 and_not ws vs)
append_more old made ws vs i e lt h =
    let x = and_not (get_or ws i 0) (get_or vs i 0) in
    ap (λ l. l ++ x ∷ []) h ∙ append_assoc old (take i (zip2 and_not ws vs)) (x ∷ []) ∙ ap (λ l. old ++ l) (made_more and_not (take i (zip2 and_not ws vs)) ws vs i e lt refl)

pub append_ends : (old made ws vs : List ℕ) (i : ℕ) → length ws ≡ length vs → length ws ≤ i → made ≡ old ++ take i (zip2 and_not ws vs) → made ≡ old ++ zip2 and_not ws vs
append_ends old made ws vs i e le h = h ∙ ap (λ l. old ++ l) (made_ends and_not (take i (zip2 and_not ws vs)) ws vs i e le refl)

cleared_at : (ws vs : List ℕ) (k j : ℕ) → length ws ≡ length vs → j < 64 → ((i : ℕ) → get_or vs i 0 < 2 ^ 64) → bit_at (get_or (zip2 and_not ws vs) k 0) j ≡ min (bit_at (get_or ws k 0) j) (1 - bit_at (get_or vs k 0) j)
cleared_at [] vs k j e lt fit = omega (arith, bit_at-zero j)
cleared_at (w ∷ ws) [] k j e lt fit = absurd (omega arith)
cleared_at (w ∷ ws) (v ∷ vs) zero j e lt fit = bit_at_and w (bit_not w64 v) j ∙ ap (min (bit_at w j)) (bit_at_not w64 v j (fit 0) lt)
cleared_at (w ∷ ws) (v ∷ vs) (suc k) j e lt fit = cleared_at ws vs k j (omega arith) lt (λ i. fit (suc i))

cleared_bit : (ws vs : List ℕ) (column : ℕ) → length ws ≡ length vs → ((i : ℕ) → get_or vs i 0 < 2 ^ 64) → plane_bit (zip2 and_not ws vs) column ≡ min (plane_bit ws column) (1 - plane_bit vs column)
cleared_bit ws vs column e fit = cleared_at ws vs (column / 64) (column % 64) e (omega arith) fit

without_by_bits : (p n q m : ℕ) → p < 2 → n < 2 → literal_of (min p (1 - max q m)) (min n (1 - max q m)) ≡ literal_without (literal_of p n) (literal_of q m)
without_by_bits p n zero zero a b =
    let e : min p (1 - max zero zero) ≡ p = omega (arith, a) in
    let f : min n (1 - max zero zero) ≡ n = omega (arith, b) in
    cc
without_by_bits p n zero (suc m) a b = dash_of (min p (1 - max zero (suc m))) (min n (1 - max zero (suc m))) (omega arith) (omega arith)
without_by_bits p n (suc q) m a b = dash_of (min p (1 - max (suc q) m)) (min n (1 - max (suc q) m)) (omega arith) (omega arith)

without_by_planes : (a b : List (Option Bool)) (p n q m : List ℕ) → length a ≡ length b → plane_literals (length a) p n ≡ a → plane_literals (length b) q m ≡ b
    → AreCube (length a) p n → AreCube (length b) q m → ((i : ℕ) → get_or (zip2 bit_or q m) i 0 < 2 ^ 64)
    → (plane_literals (length a) (zip2 and_not p (zip2 bit_or q m)) (zip2 and_not n (zip2 bit_or q m)) ≡ without_of a b) × AreCube (length a) (zip2 and_not p (zip2 bit_or q m)) (zip2 and_not n (zip2 bit_or q m))
without_by_planes a b p n q m e ea eb ca cb fit = (
  literals_from_at (length a) (zip2 and_not p (zip2 bit_or q m)) (zip2 and_not n (zip2 bit_or q m)) (without_of a b) (length-without_of a b e) each,
  record {
    positive_size = length-zip2 and_not p (zip2 bit_or q m) wide ∙ ca.positive_size;
    negative_size = length-zip2 and_not n (zip2 bit_or q m) long ∙ ca.negative_size;
    apart = λ i. omega (arith, cleared_bit p (zip2 bit_or q m) i wide fit, cleared_bit n (zip2 bit_or q m) i long fit, ca.apart i);
    positive_end = λ i le. omega (arith, cleared_bit p (zip2 bit_or q m) i wide fit, ca.positive_end i le);
    negative_end = λ i le. omega (arith, cleared_bit n (zip2 bit_or q m) i long fit, ca.negative_end i le);
  },
)
  where
    pair : length q ≡ length m
    pair = cb.positive_size ∙ sym cb.negative_size

    wide : length p ≡ length (zip2 bit_or q m)
    wide = ca.positive_size ∙ ap plane_words e ∙ sym cb.positive_size ∙ sym (length-zip2 bit_or q m pair)

    long : length n ≡ length (zip2 bit_or q m)
    long = ca.negative_size ∙ ap plane_words e ∙ sym cb.positive_size ∙ sym (length-zip2 bit_or q m pair)

    each : (i : ℕ) → i < length a → literal_of (plane_bit (zip2 and_not p (zip2 bit_or q m)) i) (plane_bit (zip2 and_not n (zip2 bit_or q m)) i) ≡ get_or (without_of a b) i None
    each i lt =
        rw (cleared_bit p (zip2 bit_or q m) i wide fit, cleared_bit n (zip2 bit_or q m) i long fit, joined_bit q m i pair, ← without_at a b i e lt, literal_at a p n ea i lt, literal_at b q m eb i (omega arith))
        (without_by_bits (plane_bit p i) (plane_bit n i) (plane_bit q i) (plane_bit m i) (bit_at-lt _ _) (bit_at-lt _ _))

-- the words of both planes, one after the other
pub without_packed : (a b : List (Option Bool)) (p n q m made : List ℕ) → length a ≡ length b → plane_literals (length a) p n ≡ a → plane_literals (length b) q m ≡ b
    → AreCube (length a) p n → AreCube (length b) q m → ((i : ℕ) → get_or (zip2 bit_or q m) i 0 < 2 ^ 64)
    → made ≡ zip2 and_not p (zip2 bit_or q m) ++ zip2 and_not n (zip2 bit_or q m) → (packed_literals (length a) made ≡ without_of a b) × IsPacked (length a) made
without_packed a b p n q m made e ea eb ca cb fit h =
    let both = without_by_planes a b p n q m e ea eb ca cb fit in
    let x = zip2 and_not p (zip2 bit_or q m) in
    let y = zip2 and_not n (zip2 bit_or q m) in
    let k = plane_words (length a) in
    let front : take k made ≡ x = ap (take k) h ∙ take-append-le k x y (omega (arith, both.1.positive_size)) ∙ take_all k x (omega (arith, both.1.positive_size)) in
    let back : drop k made ≡ y = ap (drop k) h ∙ drop_at x y k both.1.positive_size in
    subst (λ (p : List ℕ). (plane_literals (length a) p (drop k made) ≡ without_of a b) × AreCube (length a) p (drop k made)) (sym front)
    (subst (λ (n : List ℕ). (plane_literals (length a) x n ≡ without_of a b) × AreCube (length a) x n) (sym back) both)

-- the masks have as many words as each plane
pub masks_long : (a b : List (Option Bool)) (p n q m s u : List ℕ) → length a ≡ length b → AreCube (length a) p n → AreCube (length b) q m → s ≡ u → u ≡ zip2 bit_or q m → (length p ≡ length s) × (length n ≡ length s)
masks_long a b p n q m s u e ca cb h k =
    let pair : length q ≡ length m = cb.positive_size ∙ sym cb.negative_size in
    let long : length s ≡ plane_words (length a) = ap length h ∙ ap length k ∙ length-zip2 bit_or q m pair ∙ cb.positive_size ∙ ap plane_words (sym e) in
    (ca.positive_size ∙ sym long, ca.negative_size ∙ sym long)

-- the row that is made
pub without_row : (w : ℕ) (a b : List (Option Bool)) (p n q m s t u start mid made : List ℕ) → w ≡ length a → length a ≡ length b → plane_literals (length a) p n ≡ a → plane_literals (length b) q m ≡ b
    → AreCube (length a) p n → AreCube (length b) q m → s ≡ u → t ≡ u → u ≡ zip2 bit_or q m → ((i : ℕ) → get_or t i 0 < 2 ^ 64)
    → start ≡ [] → mid ≡ start ++ zip2 and_not p s → made ≡ mid ++ zip2 and_not n t → (packed_literals w made ≡ without_of a b) × IsPacked w made
without_row w a b p n q m s t u start mid made ew e ea eb ca cb hs ht hu fit h0 h1 h2 =
    let z = zip2 bit_or q m in
    let whole : made ≡ zip2 and_not p z ++ zip2 and_not n z =
    h2 ∙ ap (λ l. l ++ zip2 and_not n t) (h1 ∙ ap (λ l. l ++ zip2 and_not p s) h0) ∙ ap (λ v. zip2 and_not p v ++ zip2 and_not n t) (hs ∙ hu) ∙ ap (λ v. zip2 and_not p z ++ zip2 and_not n v) (ht ∙ hu) in
    let small : (i : ℕ) → get_or z i 0 < 2 ^ 64 = subst (λ (v : List ℕ). (i : ℕ) → get_or v i 0 < 2 ^ 64) (ht ∙ hu) fit in
    subst (λ (v : ℕ). (packed_literals v made ≡ without_of a b) × IsPacked v made) (sym ew) (without_packed a b p n q m made e ea eb ca cb small whole)
