-- Steps of the loops over the words of planes, and a column that is given a bit.
use Rattle.std.proofs.Common.{◌≡◌, ◌≢◌, ℕ, ◌+◌, ◌*◌, ◌/◌, ◌%◌, ◌^◌, ◌<◌, ◌≤◌, ◌==◌, zero, suc, true, false, ◌&&◌, List, [], ◌∷◌, ◌++◌, length, get_or, set, take, drop, refl, sym, ap, ◌∙◌, arith, ne_eqb, eq-eqb, inl, inr, ◌⊎◌, bit_and, bit_or}
use Rattle.std.proofs.lemmas.Bool.{cases_eq}
use Rattle.std.proofs.lemmas.List.{drop_more, drop_all, take_more, take_more_set, take_all, take-append-le, length-set, drop-set-lt, drop-drop, get_or-drop, get_or-set_same, get_or-set_other}
use Rattle.std.proofs.lemmas.Nat.Bits.{bit_at_set_same, bit_at_set_other, bit_at_clear_same, bit_at_clear_other}
use Rattle.std.proofs.lemmas.Simd.{get_or-zip2, length-zip2}
use Rattle.std.specs.Simd.Lanes.{zip2}
use Rattle.std.specs.Int.{bit_at, bit_not, w64}
use Rattle.std.specs.List.{refill}
use Rattle.cube_packed.specs.Planes.{plane_bit, HasBitSet, words_apart, words_within}

-- tests of what is left of the words
pub apart_more : (ws vs : List ℕ) (i : ℕ) → i < length ws → i < length vs
    → words_apart (drop i ws) (drop i vs) ≡ ((bit_and (get_or ws i 0) (get_or vs i 0) == 0) && words_apart (drop (i + 1) ws) (drop (i + 1) vs))
unfolding words_apart
apart_more ws vs i h k = rw (drop_more ws i 0 h, drop_more vs i 0 k) refl

pub apart_fails : (ws vs : List ℕ) (i : ℕ) → i < length ws → i < length vs → bit_and (get_or ws i 0) (get_or vs i 0) ≢ 0 → words_apart (drop i ws) (drop i vs) ≡ false
apart_fails ws vs i h k e = apart_more ws vs i h k ∙ ap (λ b. b && words_apart (drop (i + 1) ws) (drop (i + 1) vs)) (ne_eqb _ _ e)

pub apart_goes : (ws vs : List ℕ) (i : ℕ) → i < length ws → i < length vs → bit_and (get_or ws i 0) (get_or vs i 0) ≡ 0 → words_apart (drop i ws) (drop i vs) ≡ words_apart (drop (i + 1) ws) (drop (i + 1) vs)
apart_goes ws vs i h k e = apart_more ws vs i h k ∙ ap (λ b. b && words_apart (drop (i + 1) ws) (drop (i + 1) vs)) (eq-eqb _ _ e)

pub apart_ends : (ws vs : List ℕ) (i : ℕ) → length ws ≤ i → words_apart (drop i ws) (drop i vs) ≡ true
unfolding words_apart
apart_ends ws vs i h = rw (drop_all i ws h) refl

pub within_more : (ws vs : List ℕ) (i : ℕ) → i < length ws → i < length vs
    → words_within (drop i ws) (drop i vs) ≡ ((bit_and (get_or ws i 0) (get_or vs i 0) == get_or ws i 0) && words_within (drop (i + 1) ws) (drop (i + 1) vs))
unfolding words_within
within_more ws vs i h k = rw (drop_more ws i 0 h, drop_more vs i 0 k) refl

pub within_fails : (ws vs : List ℕ) (i : ℕ) → i < length ws → i < length vs → bit_and (get_or ws i 0) (get_or vs i 0) ≢ get_or ws i 0 → words_within (drop i ws) (drop i vs) ≡ false
within_fails ws vs i h k e = within_more ws vs i h k ∙ ap (λ b. b && words_within (drop (i + 1) ws) (drop (i + 1) vs)) (ne_eqb _ _ e)

pub within_goes : (ws vs : List ℕ) (i : ℕ) → i < length ws → i < length vs → bit_and (get_or ws i 0) (get_or vs i 0) ≡ get_or ws i 0 → words_within (drop i ws) (drop i vs) ≡ words_within (drop (i + 1) ws) (drop (i + 1) vs)
within_goes ws vs i h k e = within_more ws vs i h k ∙ ap (λ b. b && words_within (drop (i + 1) ws) (drop (i + 1) vs)) (eq-eqb _ _ e)

pub within_ends : (ws vs : List ℕ) (i : ℕ) → length ws ≤ i → words_within (drop i ws) (drop i vs) ≡ true
unfolding words_within
within_ends ws vs i h = rw (drop_all i ws h) refl

-- the halves of words that are made from two lists
module _ (f : ℕ → ℕ → ℕ) where
  pub take_zip2 : (k : ℕ) (ws vs : List ℕ) → take k (zip2 f ws vs) ≡ zip2 f (take k ws) (take k vs)
  take_zip2 zero ws vs = refl
  take_zip2 (suc k) [] vs = refl
  take_zip2 (suc k) (w ∷ ws) [] = refl
  take_zip2 (suc k) (w ∷ ws) (v ∷ vs) = ap (λ l. f w v ∷ l) (take_zip2 k ws vs)

  pub drop_zip2 : (k : ℕ) (ws vs : List ℕ) → length ws ≡ length vs → drop k (zip2 f ws vs) ≡ zip2 f (drop k ws) (drop k vs)
  drop_zip2 zero ws vs e = refl
  drop_zip2 (suc k) [] vs e = refl
  drop_zip2 (suc k) (w ∷ ws) [] e = absurd (omega arith)
  drop_zip2 (suc k) (w ∷ ws) (v ∷ vs) e = drop_zip2 k ws vs (omega arith)

  -- one more word is made
  pub made_more : (made ws vs : List ℕ) (i : ℕ) → length ws ≡ length vs → i < length ws → made ≡ take i (zip2 f ws vs)
      → made ++ f (get_or ws i 0) (get_or vs i 0) ∷ [] ≡ take (i + 1) (zip2 f ws vs)
  made_more made ws vs i e lt h =
      let z = zip2 f ws vs in
      let item : get_or z i 0 ≡ f (get_or ws i 0) (get_or vs i 0) = get_or-zip2 f ws vs i 0 0 0 lt (omega arith) in
      ap (λ l. l ++ f (get_or ws i 0) (get_or vs i 0) ∷ []) h ∙ ap (λ x. take i z ++ x ∷ []) (sym item) ∙ sym (take_more z i 0 (omega (arith, length-zip2 f ws vs e)))

  pub made_ends : (made ws vs : List ℕ) (i : ℕ) → length ws ≡ length vs → length ws ≤ i → made ≡ take i (zip2 f ws vs) → made ≡ zip2 f ws vs
  made_ends made ws vs i e le h = h ∙ take_all i (zip2 f ws vs) (omega (arith, length-zip2 f ws vs e))

-- a word of the product is stored: those before are done, those behind are as they were
pub record IsJoinedTo (old others now : List ℕ) (i : ℕ) : Type 0 where
  pub done : take i now ≡ take i (zip2 bit_or old others)
  pub rest : drop i now ≡ drop i old

pub joined_more : (old others now : List ℕ) (i : ℕ) → length old ≡ length others → length now ≡ length old → i < length old
    → IsJoinedTo old others now i → IsJoinedTo old others (set now i (bit_or (get_or now i 0) (get_or others i 0))) (i + 1)
joined_more old others now i e d h t =
    let x = bit_or (get_or now i 0) (get_or others i 0) in
    let z = zip2 bit_or old others in
    let long : length z ≡ length old = length-zip2 bit_or old others e in
    let none : i + 0 ≡ i = omega arith in
    let here : get_or now i 0 ≡ get_or old i 0 = cc (ap (λ l. get_or l 0 0) t.rest, get_or-drop i now 0 0, get_or-drop i old 0 0) in
    let item : get_or z i 0 ≡ bit_or (get_or old i 0) (get_or others i 0) = get_or-zip2 bit_or old others i 0 0 0 h (omega arith) in
    let step : take (i + 1) (set now i x) ≡ take i now ++ x ∷ [] = take_more_set now i x (omega arith) in
    let whole : take (i + 1) z ≡ take i z ++ get_or z i 0 ∷ [] = take_more z i 0 (omega arith) in
    record {
      done = step ∙ ap (λ l. l ++ x ∷ []) t.done ∙ ap (λ y. take i z ++ y ∷ []) (ap (λ y. bit_or y (get_or others i 0)) here ∙ sym item) ∙ sym whole;
      rest = drop-set-lt (i + 1) now i x (omega arith) ∙ sym (drop-drop 1 i now) ∙ ap (drop 1) t.rest ∙ drop-drop 1 i old;
    }

pub joined_ends : (old others now : List ℕ) (i : ℕ) → length old ≡ length others → length now ≡ length old → length old ≤ i
    → IsJoinedTo old others now i → now ≡ zip2 bit_or old others
joined_ends old others now i e d h t =
    sym (take_all i now (omega arith)) ∙ t.done ∙ take_all i (zip2 bit_or old others) (omega (arith, length-zip2 bit_or old others e))

-- a write of a slice of the same length
pub refill_same : (n : ℕ) (old new : List ℕ) → n ≡ length old → length new ≡ length old → refill n old new ≡ new
refill_same n old new e d = take-append-le n new (drop (length new) old) (omega arith) ∙ take_all n new (omega arith)

-- one bit of a word is set or cleared
place_within : (ws : List ℕ) (column : ℕ) → column < 64 * length ws → column / 64 < length ws
place_within ws column h = omega arith

bit_moved : (ws : List ℕ) (column other x : ℕ) → column < 64 * length ws → other ≢ column
    → ((j : ℕ) → j < 64 → j ≢ column % 64 → bit_at x j ≡ bit_at (get_or ws (column / 64) 0) j)
    → plane_bit (set ws (column / 64) x) other ≡ plane_bit ws other
bit_moved ws column other x h ne keeps = cases (cases_eq (other / 64) (column / 64))
  where
    cases : (other / 64 ≡ column / 64) ⊎ ((other / 64 ≡ column / 64) → ⊥) → plane_bit (set ws (column / 64) x) other ≡ plane_bit ws other
    cases (inl e) =
        let there : get_or (set ws (column / 64) x) (other / 64) 0 ≡ x = ap (λ k. get_or (set ws (column / 64) x) k 0) e ∙ get_or-set_same ws (column / 64) x 0 (place_within ws column h) in
        ap (λ w. bit_at w (other % 64)) there ∙ keeps (other % 64) (omega arith) (λ d. ne (omega arith)) ∙ ap (λ k. bit_at (get_or ws k 0) (other % 64)) (sym e)
    cases (inr d) = ap (λ w. bit_at w (other % 64)) (get_or-set_other ws (column / 64) (other / 64) x 0 d)

pub one_set : (ws : List ℕ) (column : ℕ) → column < 64 * length ws
    → HasBitSet column true ws (set ws (column / 64) (bit_or (get_or ws (column / 64) 0) (1 * 2 ^ (column % 64) % 2 ^ 64)))
one_set ws column h =
    let w = get_or ws (column / 64) 0 in
    let k = column % 64 in
    let x = bit_or w (1 * 2 ^ k % 2 ^ 64) in
    record {
      size = length-set ws (column / 64) x;
      there = ap (λ y. bit_at y k) (get_or-set_same ws (column / 64) x 0 (place_within ws column h)) ∙ bit_at_set_same w64 w k (omega arith);
      elsewhere = λ other ne. bit_moved ws column other x h ne (λ j lt d. bit_at_set_other w64 w k (omega arith) j d);
    }

pub one_cleared : (ws : List ℕ) (column : ℕ) → column < 64 * length ws
    → HasBitSet column false ws (set ws (column / 64) (bit_and (get_or ws (column / 64) 0) (bit_not w64 (1 * 2 ^ (column % 64) % 2 ^ 64))))
one_cleared ws column h =
    let w = get_or ws (column / 64) 0 in
    let k = column % 64 in
    let x = bit_and w (bit_not w64 (1 * 2 ^ k % 2 ^ 64)) in
    record {
      size = length-set ws (column / 64) x;
      there = ap (λ y. bit_at y k) (get_or-set_same ws (column / 64) x 0 (place_within ws column h)) ∙ bit_at_clear_same w64 w k (omega arith);
      elsewhere = λ other ne. bit_moved ws column other x h ne (λ j lt d. bit_at_clear_other w64 w k (omega arith) j lt d);
    }
