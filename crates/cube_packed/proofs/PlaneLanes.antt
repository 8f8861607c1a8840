-- Blocks of four words, as lanes.
use Rattle.std.proofs.Common.{◌≡◌, ℕ, ◌+◌, ◌-◌, ◌%◌, ◌≤◌, ◌==◌, zero, suc, Bool, true, false, ◌&&◌, List, [], ◌∷◌, ◌++◌, length, take, drop, refl, sym, ap, ◌∙◌, arith, eq-eqb, eqb-true, bit_and, bit_or, append_assoc}
use Rattle.std.specs.Int.RustNames.{bit_xor}
use Rattle.std.specs.Int.{bit_at}
use Rattle.std.specs.Simd.Lanes.{zip2, fold_l, put_chunk}
use Rattle.std.proofs.Math.Seq.{take-add}
use Rattle.std.proofs.lemmas.Bool.{and_from, and_parts}
use Rattle.std.proofs.lemmas.List.{length-take-le, length-drop, length-append, drop-drop, drop_at, take_rest}
use Rattle.std.proofs.lemmas.Nat.{le_or_l, le_or_r}
use Rattle.std.proofs.lemmas.Nat.Bits.{bit_at_xor, bit_at-lt, bit_at-zero, same_from_bits}
use Rattle.std.proofs.lemmas.Simd.{length-zip2, put_chunk_is, take_more_put_chunk}
use Rattle.cube_packed.specs.Planes.{words_apart, words_within}
use Rattle.cube_packed.proofs.PlaneBits.{same_answers}
use Rattle.cube_packed.proofs.PlaneLoops.{IsJoinedTo, take_zip2, drop_zip2}

grouped : (a b c : Bool) → (a && (b && c)) ≡ ((a && b) && c)
grouped true b c = refl
grouped false b c = refl

and_true : (a : Bool) → a ≡ (a && true)
and_true true = refl
and_true false = refl

-- ---- tests of a block, and then of what is behind it
apart_split : (k : ℕ) (ws vs : List ℕ) → length ws ≡ length vs → words_apart ws vs ≡ (words_apart (take k ws) (take k vs) && words_apart (drop k ws) (drop k vs))
unfolding words_apart
apart_split zero ws vs e = refl
apart_split (suc k) [] vs e = refl
apart_split (suc k) (w ∷ ws) [] e = absurd (omega arith)
apart_split (suc k) (w ∷ ws) (v ∷ vs) e =
    ap (λ b. (bit_and w v == 0) && b) (apart_split k ws vs (omega arith)) ∙ grouped (bit_and w v == 0) (words_apart (take k ws) (take k vs)) (words_apart (drop k ws) (drop k vs))

within_split : (k : ℕ) (ws vs : List ℕ) → length ws ≡ length vs → words_within ws vs ≡ (words_within (take k ws) (take k vs) && words_within (drop k ws) (drop k vs))
unfolding words_within
within_split zero ws vs e = refl
within_split (suc k) [] vs e = refl
within_split (suc k) (w ∷ ws) [] e = absurd (omega arith)
within_split (suc k) (w ∷ ws) (v ∷ vs) e =
    ap (λ b. (bit_and w v == w) && b) (within_split k ws vs (omega arith)) ∙ grouped (bit_and w v == w) (words_within (take k ws) (take k vs)) (words_within (drop k ws) (drop k vs))

-- the test from a block on, by the answer for the block
pub apart_block : (ws vs : List ℕ) (i j : ℕ) (r : Bool) → length ws ≡ length vs → j ≡ i + 4 → r ≡ words_apart (take 4 (drop i ws)) (take 4 (drop i vs))
    → words_apart (drop i ws) (drop i vs) ≡ (r && words_apart (drop j ws) (drop j vs))
apart_block ws vs i j r e d h =
    apart_split 4 (drop i ws) (drop i vs) (omega (arith, length-drop i ws, length-drop i vs))
    ∙ rw (drop-drop 4 i ws, drop-drop 4 i vs, ← d, ← h) refl

pub within_block : (ws vs : List ℕ) (i j : ℕ) (r : Bool) → length ws ≡ length vs → j ≡ i + 4 → r ≡ words_within (take 4 (drop i ws)) (take 4 (drop i vs))
    → words_within (drop i ws) (drop i vs) ≡ (r && words_within (drop j ws) (drop j vs))
within_block ws vs i j r e d h =
    within_split 4 (drop i ws) (drop i vs) (omega (arith, length-drop i ws, length-drop i vs))
    ∙ rw (drop-drop 4 i ws, drop-drop 4 i vs, ← d, ← h) refl

-- a slice from a place on is what is left of the words
pub apart_rest : (ws vs : List ℕ) (i : ℕ) → words_apart (take 4 (take (length ws - i) (drop i ws))) (take 4 (take (length vs - i) (drop i vs))) ≡ words_apart (take 4 (drop i ws)) (take 4 (drop i vs))
apart_rest ws vs i =
    ap (λ (l : List ℕ). words_apart (take 4 l) (take 4 (take (length vs - i) (drop i vs)))) (take_rest ws i) ∙ ap (λ (l : List ℕ). words_apart (take 4 (drop i ws)) (take 4 l)) (take_rest vs i)

pub within_rest : (ws vs : List ℕ) (i : ℕ) → words_within (take 4 (take (length ws - i) (drop i ws))) (take 4 (take (length vs - i) (drop i vs))) ≡ words_within (take 4 (drop i ws)) (take 4 (drop i vs))
within_rest ws vs i =
    ap (λ (l : List ℕ). words_within (take 4 l) (take 4 (take (length vs - i) (drop i vs)))) (take_rest ws i) ∙ ap (λ (l : List ℕ). words_within (take 4 (drop i ws)) (take 4 l)) (take_rest vs i)

-- ---- what the lanes together answer
or_test : (a b : ℕ) → (bit_or a b == 0) ≡ ((a == 0) && (b == 0))
or_test a b =
    same_answers (bit_or a b == 0) ((a == 0) && (b == 0))
    (λ h. let e : bit_or a b ≡ 0 = eqb-true _ _ h in and_from _ _ (eq-eqb a 0 (omega (arith, le_or_l a b))) (eq-eqb b 0 (omega (arith, le_or_r a b))))
    (λ h. let both = and_parts (a == 0) (b == 0) h in let d : a ≡ 0 = eqb-true _ _ both.0 in let e : b ≡ 0 = eqb-true _ _ both.1 in rw (d, e) refl)

xor_test : (a b : ℕ) → (bit_xor a b == 0) ≡ (a == b)
xor_test a b = same_answers (bit_xor a b == 0) (a == b) (λ h. eq-eqb a b (same_from_bits a b (λ i. each i (eqb-true _ _ h)))) (λ h. eq-eqb _ _ (none (eqb-true a b h)))
  where
    each : (i : ℕ) → bit_xor a b ≡ 0 → bit_at a i ≡ bit_at b i
    each i e =
        let x : (bit_at a i + bit_at b i) % 2 ≡ 0 = sym (bit_at_xor a b i) ∙ ap (λ y. bit_at y i) e ∙ bit_at-zero i in
        omega (arith, bit_at-lt a i, bit_at-lt b i)

    none : a ≡ b → bit_xor a b ≡ 0
    none e = same_from_bits (bit_xor a b) 0 (λ i. bit_at_xor a b i ∙ ap (λ y. (bit_at a i + bit_at y i) % 2) (sym e) ∙ omega (arith, bit_at-zero i))

pub folded_apart : (a : ℕ) (ws vs : List ℕ) → (fold_l bit_or a (zip2 bit_and ws vs) == 0) ≡ ((a == 0) && words_apart ws vs)
unfolding words_apart
folded_apart a [] vs = and_true (a == 0)
folded_apart a (w ∷ ws) [] = and_true (a == 0)
folded_apart a (w ∷ ws) (v ∷ vs) =
    folded_apart (bit_or a (bit_and w v)) ws vs ∙ ap (λ b. b && words_apart ws vs) (or_test a (bit_and w v)) ∙ sym (grouped (a == 0) (bit_and w v == 0) (words_apart ws vs))

pub folded_within : (a : ℕ) (ws vs : List ℕ) → (fold_l bit_or a (zip2 bit_xor (zip2 bit_and ws vs) ws) == 0) ≡ ((a == 0) && words_within ws vs)
unfolding words_within
folded_within a [] vs = and_true (a == 0)
folded_within a (w ∷ ws) [] = and_true (a == 0)
folded_within a (w ∷ ws) (v ∷ vs) =
    folded_within (bit_or a (bit_xor (bit_and w v) w)) ws vs
    ∙ ap (λ b. b && words_within ws vs) (or_test a (bit_xor (bit_and w v) w) ∙ ap (λ b. (a == 0) && b) (xor_test (bit_and w v) w))
    ∙ sym (grouped (a == 0) (bit_and w v == w) (words_within ws vs))

-- ---- a block of the product is stored
drop_stored : (i : ℕ) (ws vs : List ℕ) → i + length vs ≤ length ws → drop (i + length vs) (put_chunk i ws vs) ≡ drop (i + length vs) ws
drop_stored i ws vs h =
    ap (drop (i + length vs)) (put_chunk_is i ws vs h ∙ sym (append_assoc (take i ws) vs (drop (length vs) (drop i ws))))
    ∙ drop_at (take i ws ++ vs) (drop (length vs) (drop i ws)) (i + length vs) (length-append (take i ws) vs ∙ omega (arith, length-take-le i ws (omega arith)))
    ∙ drop-drop (length vs) i ws

pub joined_block : (old others now : List ℕ) (i j : ℕ) → length old ≡ length others → length now ≡ length old → j ≡ i + 4 → j ≤ length old
    → IsJoinedTo old others now i → IsJoinedTo old others (put_chunk i now (zip2 bit_or (take 4 (drop i now)) (take 4 (drop i others)))) j
joined_block old others now i j e d g h t =
    let x = take 4 (drop i now) in
    let y = take 4 (drop i others) in
    let ys = zip2 bit_or x y in
    let z = zip2 bit_or old others in
    let wide : length x ≡ 4 = length-take-le 4 (drop i now) (omega (arith, length-drop i now)) in
    let long : length y ≡ 4 = length-take-le 4 (drop i others) (omega (arith, length-drop i others)) in
    let four : length ys ≡ 4 = length-zip2 bit_or x y (wide ∙ sym long) ∙ wide in
    let block : ys ≡ take 4 (drop i z) = ap (λ l. zip2 bit_or (take 4 l) y) t.rest ∙ sym (ap (take 4) (drop_zip2 bit_or i old others e) ∙ take_zip2 bit_or 4 (drop i old) (drop i others)) in
    let end : j ≡ i + length ys = omega arith in
    let past : i + length ys ≡ i + 4 = omega arith in
    record {
      done = take_more_put_chunk i now ys j end (omega arith) ∙ ap (λ l. l ++ ys) t.done ∙ ap (λ l. take i z ++ l) block ∙ sym (take-add i 4 z) ∙ ap (λ k. take k z) (sym g);
      rest = ap (λ k. drop k (put_chunk i now ys)) end ∙ drop_stored i now ys (omega arith) ∙ ap (λ k. drop k now) past ∙ sym (drop-drop 4 i now) ∙ ap (drop 4) t.rest ∙ drop-drop 4 i old ∙ ap (λ k. drop k old) (sym g);
    }
