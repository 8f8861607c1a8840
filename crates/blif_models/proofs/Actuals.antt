-- The index of pairs by their formals, and its steps.
use Rattle.std.proofs.Common.{◌≡◌, ℕ, ◌+◌, ◌<◌, Bool, true, false, cond, if◌then◌else◌, Option, Some, None, option_map, List, [], ◌∷◌, ◌++◌, length, get_or, take, find, is_some, bytes_eq, refl, sym, ap, ◌∙◌}
use Rattle.std.specs.Borrow.{Bor}
use Rattle.std.specs.Option.{option_or}
use Rattle.std.proofs.lemmas.List.{take_more, map-append}
use Rattle.std.proofs.lemmas.Slice.Eq.{bytes_eq-Decides}
use Rattle.line_words.specs.LineWords.{texts}
use Rattle.blif_gates.specs.GateLines.{pin_in, signal_in}
use Rattle.blif_models.specs.Renaming.{actual_of, IsIndex}

-- what an index has at a word after one more entry
pub set_at : (b : Bool) (found : Bor (List ℕ)) (old : Option (Bor (List ℕ)))
    → option_map (λ (one : Bor (List ℕ)). one.now) (cond b (Some found) old) ≡ (if b then Some found.now else option_map (λ (one : Bor (List ℕ)). one.now) old)
set_at true found old = refl
set_at false found old = refl

-- the actual that a pair gives a word
abbrev pub own_actual : List ℕ → List ℕ → Option (List ℕ)
own_actual pair word = if bytes_eq word (pin_in pair) then Some (signal_in pair) else None

-- a pair whose formal has an actual adds nothing
pub pair_kept : (index : List ℕ → Option (List ℕ)) (formal pair : List ℕ) → formal ≡ pin_in pair → is_some (index formal) ≡ true
    → (word : List ℕ) → index word ≡ option_or (index word) (own_actual pair word)
pair_kept index formal pair is known word = by (bytes_eq word (pin_in pair)) refl
  where
    had : (o : Option (List ℕ)) (other : Option (List ℕ)) → is_some o ≡ true → o ≡ option_or o other
    had (Some one) other e = refl
    had None other e = absurd (let off = e in cc)

    left : (o : Option (List ℕ)) → o ≡ option_or o None
    left (Some one) = refl
    left None = refl

    by : (b : Bool) → bytes_eq word (pin_in pair) ≡ b → index word ≡ option_or (index word) (if b then Some (signal_in pair) else None)
    by true e = had (index word) (Some (signal_in pair)) (ap (λ (w : List ℕ). is_some (index w)) ((bytes_eq-Decides word (pin_in pair)).0 e ∙ sym is) ∙ known)
    by false e = left (index word)

-- a pair of a new formal
pub pair_put : (old new : List ℕ → Option (List ℕ)) (formal pair actual : List ℕ) → formal ≡ pin_in pair → actual ≡ signal_in pair → is_some (old formal) ≡ false
    → ((word : List ℕ) → new word ≡ (if bytes_eq formal word then Some actual else old word))
    → (word : List ℕ) → new word ≡ option_or (old word) (own_actual pair word)
pair_put old new formal pair actual is same fresh told word = told word ∙ by (bytes_eq formal word) refl (bytes_eq word (pin_in pair)) refl
  where
    none : (o : Option (List ℕ)) → is_some o ≡ false → None ≡ o
    none None e = refl
    none (Some one) e = absurd (let off = e in cc)

    had : (o : Option (List ℕ)) (x y : List ℕ) → None ≡ o → x ≡ y → Some x ≡ option_or o (Some y)
    had None x y n e = ap (λ (z : List ℕ). Some z) e
    had (Some one) x y n e = absurd (let off = n in cc)

    left : (o : Option (List ℕ)) → o ≡ option_or o None
    left (Some one) = refl
    left None = refl

    by : (b : Bool) → bytes_eq formal word ≡ b → (d : Bool) → bytes_eq word (pin_in pair) ≡ d
        → (if b then Some actual else old word) ≡ option_or (old word) (if d then Some (signal_in pair) else None)
    by true e true f = had (old word) actual (signal_in pair) (none (old formal) fresh ∙ ap old ((bytes_eq-Decides formal word).0 e)) same
    by true e false f =
        let here : bytes_eq word (pin_in pair) ≡ true = (bytes_eq-Decides word (pin_in pair)).1 (sym ((bytes_eq-Decides formal word).0 e) ∙ is) in
        absurd (let off = sym here ∙ f in cc)
    by false e true f =
        let here : bytes_eq formal word ≡ true = (bytes_eq-Decides formal word).1 (is ∙ sym ((bytes_eq-Decides word (pin_in pair)).0 f)) in
        absurd (let off = sym here ∙ e in cc)
    by false e false f = left (old word)

-- the actual of a word by one pair more
pub actual_more : (pairs : List (List ℕ)) (pair word : List ℕ) → actual_of (pairs ++ pair ∷ []) word ≡ option_or (actual_of pairs word) (own_actual pair word)
unfolding actual_of
actual_more [] pair word = by (bytes_eq word (pin_in pair))
  where
    by : (b : Bool) → option_map signal_in (cond b (Some pair) None) ≡ (if b then Some (signal_in pair) else None)
    by true = refl
    by false = refl
actual_more (first ∷ pairs) pair word =
    by (bytes_eq word (pin_in first)) (find (λ (one : List ℕ). bytes_eq word (pin_in one)) (pairs ++ pair ∷ [])) (find (λ (one : List ℕ). bytes_eq word (pin_in one)) pairs) (actual_more pairs pair word)
  where
    by : (b : Bool) (left right : Option (List ℕ)) → option_map signal_in left ≡ option_or (option_map signal_in right) (own_actual pair word)
        → option_map signal_in (cond b (Some first) left) ≡ option_or (option_map signal_in (cond b (Some first) right)) (own_actual pair word)
    by true left right e = refl
    by false left right e = e

-- no pair, no actual
pub nothing_at : (index : List ℕ → Option (List ℕ)) → ((word : List ℕ) → index word ≡ None) → IsIndex [] index
unfolding actual_of
nothing_at index none word = none word

-- one pair more in the loop over pairs
pub index_more : (pairs : List (Bor (List ℕ))) (i : ℕ) (d : Bor (List ℕ)) (old new : List ℕ → Option (List ℕ)) → i < length pairs
    → IsIndex (texts (take i pairs)) old → ((word : List ℕ) → new word ≡ option_or (old word) (own_actual (get_or pairs i d).now word)) → IsIndex (texts (take (i + 1) pairs)) new
index_more pairs i d old new lt index told word =
    told word
    ∙ ap (λ (o : Option (List ℕ)). option_or o (own_actual (get_or pairs i d).now word)) (index word)
    ∙ sym (actual_more (texts (take i pairs)) (get_or pairs i d).now word)
    ∙ ap (λ (some : List (List ℕ)). actual_of some word) (sym more)
  where
    more : texts (take (i + 1) pairs) ≡ texts (take i pairs) ++ (get_or pairs i d).now ∷ []
    more = ap texts (take_more pairs i d lt) ∙ map-append (λ (one : Bor (List ℕ)). one.now) (take i pairs) (get_or pairs i d ∷ [])

pub some_mapped : (found : Option (Bor (List ℕ))) → is_some found ≡ is_some (option_map (λ (one : Bor (List ℕ)). one.now) found)
some_mapped None = refl
some_mapped (Some one) = refl
