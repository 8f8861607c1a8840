-- An index of gates by their names.
use Rattle.std.proofs.Common.{◌≡◌, ◌<◌, ◌≤◌, ltb, ltb-true, ltb-false, get_or, option_copied, IfSome, arith, ℕ, zero, suc, Bool, true, false, if◌then◌else◌, Option, Some, None, option_map, List, [], ◌∷◌, ◌++◌, length, slice_get, bytes_eq, is_some, refl, sym, ◌∙◌, ap}
use Rattle.std.specs.Borrow.{Bor}
use Rattle.std.proofs.lemmas.Slice.Eq.{bytes_eq-Decides}
use Rattle.genlib_format.specs.declared.gate.Gate.{Gate}
use Rattle.genlib_format.specs.Reader.{gate_named}
use Rattle.genlib_format.specs.Library.{place_of, IsIndex}

same_name : (x y : List ℕ) → bytes_eq x y ≡ true → x ≡ y
same_name x y h = (bytes_eq-Decides x y).0 h

name_is : (x : List ℕ) → bytes_eq x x ≡ true
name_is x = (bytes_eq-Decides x x).1 refl

-- the gate of the index is the first of the name
at_place : Option ℕ → List Gate → Option Gate
at_place None gates = None
at_place (Some i) gates = slice_get gates i

at_next : (o : Option ℕ) (gate : Gate) (gates : List Gate) → at_place (option_map suc o) (gate ∷ gates) ≡ at_place o gates
unfolding at_place
at_next None gate gates = refl
at_next (Some i) gate gates = refl

named_is : (gates : List Gate) (name : List ℕ) → at_place (place_of gates name) gates ≡ gate_named gates name
unfolding at_place place_of gate_named
named_is [] name = refl
named_is (gate ∷ gates) name = by (bytes_eq name gate.cell) refl (named_is gates name)
  where
    by : (b : Bool) → bytes_eq name gate.cell ≡ b → at_place (place_of gates name) gates ≡ gate_named gates name
        → at_place (if b then Some 0 else option_map suc (place_of gates name)) (gate ∷ gates) ≡ (if b then Some gate else gate_named gates name)
    by true e rest = refl
    by false e rest = at_next (place_of gates name) gate gates ∙ rest

pub named_at : (gates : List Gate) (index : List ℕ → Option ℕ) (name : List ℕ) (i : ℕ) → IsIndex gates index → index name ≡ Some i → slice_get gates i ≡ gate_named gates name
unfolding at_place IsIndex
named_at gates index name i is e = ap (λ (o : Option ℕ). at_place o gates) (sym e ∙ is name) ∙ named_is gates name

pub named_none : (gates : List Gate) (index : List ℕ → Option ℕ) (name : List ℕ) → IsIndex gates index → index name ≡ None → gate_named gates name ≡ None
unfolding at_place IsIndex
named_none gates index name is e = sym (ap (λ (o : Option ℕ). at_place o gates) (sym e ∙ is name) ∙ named_is gates name)

-- the index with one more gate
place_more : Option ℕ → Bool → ℕ → Option ℕ
place_more (Some i) test n = Some i
place_more None true n = Some n
place_more None false n = None

more_next : (o : Option ℕ) (test : Bool) (n : ℕ) → option_map suc (place_more o test n) ≡ place_more (option_map suc o) test (suc n)
unfolding place_more
more_next (Some i) test n = refl
more_next None true n = refl
more_next None false n = refl

place_push : (gates : List Gate) (gate : Gate) (name : List ℕ) → place_of (gates ++ gate ∷ []) name ≡ place_more (place_of gates name) (bytes_eq name gate.cell) (length gates)
unfolding place_more place_of
place_push [] gate name = by (bytes_eq name gate.cell)
  where
    by : (b : Bool) → (if b then Some 0 else option_map suc None) ≡ place_more None b 0
    by true = refl
    by false = refl
place_push (first ∷ gates) gate name = by (bytes_eq name first.cell) (place_push gates gate name)
  where
    by : (b : Bool) → place_of (gates ++ gate ∷ []) name ≡ place_more (place_of gates name) (bytes_eq name gate.cell) (length gates)
        → (if b then Some 0 else option_map suc (place_of (gates ++ gate ∷ []) name)) ≡ place_more (if b then Some 0 else option_map suc (place_of gates name)) (bytes_eq name gate.cell) (suc (length gates))
    by true rest = refl
    by false rest = ap (option_map suc) rest ∙ more_next (place_of gates name) (bytes_eq name gate.cell) (length gates)

-- a further gate of a known name leaves the index as it is
pub index_kept : (gates : List Gate) (index : List ℕ → Option ℕ) (gate : Gate) → IsIndex gates index → is_some (index gate.cell) ≡ true → IsIndex (gates ++ gate ∷ []) index
unfolding IsIndex place_more
index_kept gates index gate is known name = is name ∙ by (place_of gates name) (bytes_eq name gate.cell) refl refl ∙ sym (place_push gates gate name)
  where
    by : (o : Option ℕ) (b : Bool) → place_of gates name ≡ o → bytes_eq name gate.cell ≡ b → place_of gates name ≡ place_more (place_of gates name) (bytes_eq name gate.cell) (length gates)
    by (Some i) b e t = rw e refl
    by None false e t = rw (e, t) refl
    by None true e t =
        let gone : is_some (index gate.cell) ≡ false = ap is_some (is gate.cell ∙ ap (place_of gates) (sym (same_name name gate.cell t)) ∙ e) in
        absurd (let off = sym known ∙ gone in cc)

-- a gate of a new name is added to the index
pub index_more : (gates : List Gate) (old new : List ℕ → Option ℕ) (gate : Gate) → IsIndex gates old → is_some (old gate.cell) ≡ false
    → ((other : List ℕ) → new other ≡ (if bytes_eq gate.cell other then Some (length gates) else old other)) → IsIndex (gates ++ gate ∷ []) new
unfolding IsIndex place_more
index_more gates old new gate is fresh told name = told name ∙ by (bytes_eq gate.cell name) refl ∙ sym (place_push gates gate name)
  where
    gone : (o : Option ℕ) → is_some o ≡ false → o ≡ None
    gone None e = refl
    gone (Some i) e = absurd (let off = e in cc)

    turned : (b : Bool) → bytes_eq name gate.cell ≡ b → bytes_eq gate.cell name ≡ false → b ≡ false
    turned false t e = refl
    turned true t e = absurd (let off = sym (ap (bytes_eq gate.cell) (same_name name gate.cell t) ∙ name_is gate.cell) ∙ e in cc)

    kept : (o : Option ℕ) (n : ℕ) → o ≡ place_more o false n
    kept None n = refl
    kept (Some i) n = refl

    by : (b : Bool) → bytes_eq gate.cell name ≡ b → (if b then Some (length gates) else old name) ≡ place_more (place_of gates name) (bytes_eq name gate.cell) (length gates)
    by true e =
        let one : gate.cell ≡ name = same_name gate.cell name e in
        let none : place_of gates name ≡ None = sym (is name) ∙ gone (old name) (ap (λ (n : List ℕ). is_some (old n)) (sym one) ∙ fresh) in
        let own : bytes_eq name gate.cell ≡ true = ap (bytes_eq name) one ∙ name_is name in
        rw (none, own) refl
    by false e = is name ∙ kept (place_of gates name) (length gates) ∙ ap (λ (b : Bool). place_more (place_of gates name) b (length gates)) (sym (turned (bytes_eq name gate.cell) refl e))

pub nothing_indexed : (index : List ℕ → Option ℕ) → ((name : List ℕ) → index name ≡ None) → IsIndex [] index
unfolding IsIndex place_of
nothing_indexed index none name = none name

-- the result of a look-up by index
found_at : (gates : List Gate) (i : ℕ) (gate : Gate) → i < length gates → gate ≡ get_or gates i gate → Some gate ≡ slice_get gates i
found_at [] i gate h e = absurd (omega (arith, h))
found_at (first ∷ gates) zero gate h e = ap (λ (g : Gate). Some g) e
found_at (first ∷ gates) (suc i) gate h e = found_at gates i gate (omega (arith, h)) e

none_at : (gates : List Gate) (i : ℕ) → length gates ≤ i → None ≡ slice_get gates i
none_at [] i h = refl
none_at (first ∷ gates) zero h = absurd (omega (arith, h))
none_at (first ∷ gates) (suc i) h = none_at gates i (omega (arith, h))

pub looked_up : (r : Option (Bor Gate)) (gates : List Gate) (i : ℕ) → is_some r ≡ ltb i (length gates) → IfSome r (λ x. x.now ≡ get_or gates i x.now) → option_copied r ≡ slice_get gates i
looked_up None gates i e h = none_at gates i (ltb-false i (length gates) (sym e))
looked_up (Some x) gates i e h = found_at gates i x.now (ltb-true i (length gates) (sym e)) h
