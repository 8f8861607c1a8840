-- The slots of tables: the tables in order, and that each name leads to its slot, after a push, a
-- write and a removal.
use Rattle.std.proofs.Common.{◌≡◌, ℕ, ◌<◌, ◌+◌, zero, suc, Bool, true, false, ◌||◌, if◌then◌else◌, Option, Some, None, List, [], ◌∷◌, ◌++◌, length, get_or, set, take, drop, bytes_eq, is_some, IfSome, refl, sym, ap, ◌∙◌, subst, arith, inl, inr, ◌⊎◌}
use Rattle.std.specs.List.{slice_get}
use Rattle.std.proofs.lemmas.Bool.{cases_eq}
use Rattle.std.proofs.lemmas.List.{take_more, drop_more, map-append, take-append-drop}
use Rattle.std.proofs.lemmas.Option.{same_Some}
use Rattle.circuit_model.specs.Names.{has, all_different}
use Rattle.circuit_model.specs.Soundness.{outputs_of}
use Rattle.circuit_model.specs.Values.{driver}
use Rattle.circuit_model.specs.declared.circuit.Table.{Table}
use Rattle.circuit_laws.specs.Edits.{replaced, without, tables_kept}
use Rattle.net_core.specs.declared.places.Entry.{Entry}
use Rattle.net_core.specs.Tables.{named, IsOverInputs}
use Rattle.net_core.specs.Places.{written_of, present, IsIndexed, AreOverInputs}
use Rattle.net_core.proofs.Lookups.{has-append, apart_parts, same_name, name_is, name_itself, name_not, apart, get_set_same, get_set_other, get_push_at, get_push_left, get_push_cases, get_at}

pub over_nothing : (R : Type 0) → AreOverInputs {R = R} []
unfolding AreOverInputs
over_nothing R i e h = cc

module _ {R : Type 0} where
  pub present-append : (xs ys : List (Option (Entry R))) → present (xs ++ ys) ≡ present xs ++ present ys
  unfolding present
  present-append [] ys = refl
  present-append (None ∷ xs) ys = present-append xs ys
  present-append (Some e ∷ xs) ys = ap (λ (ts : List Table). written_of e ∷ ts) (present-append xs ys)

  pub present_push : (xs : List (Option (Entry R))) (e : Entry R) → present (xs ++ Some e ∷ []) ≡ present xs ++ written_of e ∷ []
  unfolding present
  present_push xs e = present-append xs (Some e ∷ [])

  -- a name that some table has is in a slot, and a name in a slot is that of a table
  pub place_of_present : (slots : List (Option (Entry R))) (q : List ℕ) → has (outputs_of (present slots)) q ≡ true
      → (i : ℕ) × (e : Entry R) × (slice_get slots i ≡ Some (Some e)) × (e.output ≡ q)
  unfolding present named
  place_of_present [] q h = cc
  place_of_present (None ∷ slots) q h = let (i, e, a, b) = place_of_present slots q h in (suc i, e, a, b)
  place_of_present (Some f ∷ slots) q h = cases (bytes_eq q f.output) refl h (λ k. place_of_present slots q k)
    where
      cases : (b : Bool) → bytes_eq q f.output ≡ b → (b || has (outputs_of (present slots)) q) ≡ true
          → (has (outputs_of (present slots)) q ≡ true → (i : ℕ) × (e : Entry R) × (slice_get slots i ≡ Some (Some e)) × (e.output ≡ q))
          → (i : ℕ) × (e : Entry R) × (slice_get (Some f ∷ slots) i ≡ Some (Some e)) × (e.output ≡ q)
      cases true e h rest = (zero, f, refl, sym (same_name q f.output e))
      cases false e h rest = let (i, e, a, b) = rest h in (suc i, e, a, b)

  pub present_at : (slots : List (Option (Entry R))) (i : ℕ) (e : Entry R) → slice_get slots i ≡ Some (Some e) → has (outputs_of (present slots)) e.output ≡ true
  unfolding present named
  present_at [] i e h = cc
  present_at (None ∷ slots) zero e h = cc
  present_at (None ∷ slots) (suc i) e h = present_at slots i e h
  present_at (Some f ∷ slots) zero e h = rw (name_is e.output f.output (ap (λ (x : Entry R). x.output) (sym (same_Some f e (same_Some (Some f) (Some e) h))))) refl
  present_at (Some f ∷ slots) (suc i) e h = cases (bytes_eq e.output f.output) (present_at slots i e h)
    where
      cases : (b : Bool) → has (outputs_of (present slots)) e.output ≡ true → (b || has (outputs_of (present slots)) e.output) ≡ true
      cases true k = refl
      cases false k = k

  -- the index knows a name exactly where a table has it
  pub known_name : (slots : List (Option (Entry R))) (f : List ℕ → Option ℕ) → IsIndexed slots f → (q : List ℕ) → is_some (f q) ≡ has (outputs_of (present slots)) q
  known_name slots f h q = cases (f q) (has (outputs_of (present slots)) q) refl refl
    where
      cases : (o : Option ℕ) (b : Bool) → f q ≡ o → has (outputs_of (present slots)) q ≡ b → is_some o ≡ b
      cases None false e k = refl
      cases (Some i) true e k = refl
      cases None true e k =
          let (i, t, a, b) = place_of_present slots q k in
          let x : None ≡ Some i = sym e ∙ (ap f (sym b) ∙ h.placed i t a) in absurd cc
      cases (Some i) false e k =
          let (t, a, b) = h.only q i e in
          let x : true ≡ false = sym (present_at slots i t a) ∙ (ap (has (outputs_of (present slots))) b ∙ k) in absurd cc

  -- no other slot has a table of that name
  abbrev pub IsAlone : List (Option (Entry R)) → ℕ → List ℕ → Type 0
  IsAlone slots i q = (j : ℕ) (e : Entry R) → slice_get slots j ≡ Some (Some e) → e.output ≡ q → j ≡ i

  pub alone : (slots : List (Option (Entry R))) (f : List ℕ → Option ℕ) → IsIndexed slots f → (q : List ℕ) (i : ℕ) → f q ≡ Some i → IsAlone slots i q
  alone slots f h q i e j t a b = same_Some j i (sym (h.placed j t a) ∙ (ap f b ∙ e))

  -- no table has the name
  abbrev pub IsAbsent : List (Option (Entry R)) → List ℕ → Type 0
  IsAbsent slots q = (j : ℕ) (e : Entry R) → slice_get slots j ≡ Some (Some e) → e.output ≡ q → ⊥

  pub without_absent : (slots : List (Option (Entry R))) (q : List ℕ) → IsAbsent slots q → without (present slots) q ≡ present slots
  unfolding present tables_kept named
  without_absent [] q h = refl
  without_absent (None ∷ slots) q h = without_absent slots q (λ j e a b. h (suc j) e a b)
  without_absent (Some f ∷ slots) q h =
      let n : bytes_eq q f.output ≡ false = name_not q f.output (λ e. h zero f refl (sym e)) in
      rw (n, without_absent slots q (λ j e a b. h (suc j) e a b)) refl

  pub absent_from_index : (slots : List (Option (Entry R))) (f : List ℕ → Option ℕ) → IsIndexed slots f → (q : List ℕ) → f q ≡ None → IsAbsent slots q
  absent_from_index slots f h q e j t a b = let x : None ≡ Some j = sym e ∙ (ap f (sym b) ∙ h.placed j t a) in cc

  -- a table written over another of its name
  pub present_replaced : (slots : List (Option (Entry R))) (i : ℕ) (old new : Entry R) → slice_get slots i ≡ Some (Some old) → new.output ≡ old.output → IsAlone slots i new.output
      → present (set slots i (Some new)) ≡ replaced (present slots) (written_of new)
  unfolding present replaced named
  present_replaced [] i old new h e a = cc
  present_replaced (None ∷ slots) zero old new h e a = cc
  present_replaced (None ∷ slots) (suc i) old new h e a = present_replaced slots i old new h e (λ j t x y. let k : suc j ≡ suc i = a (suc j) t x y in omega arith)
  present_replaced (Some f ∷ slots) zero old new h e a =
      let s : f.output ≡ old.output = ap (λ (x : Entry R). x.output) (same_Some f old (same_Some (Some f) (Some old) h)) in
      rw (name_is new.output f.output (e ∙ sym s)) refl
  present_replaced (Some f ∷ slots) (suc i) old new h e a =
      let n : bytes_eq new.output f.output ≡ false = name_not new.output f.output (λ k. let z : zero ≡ suc i = a zero f refl (sym k) in omega arith) in
      rw (n, present_replaced slots i old new h e (λ j t x y. let k : suc j ≡ suc i = a (suc j) t x y in omega arith)) refl

  -- a table is removed
  pub present_without : (slots : List (Option (Entry R))) (i : ℕ) (old : Entry R) → slice_get slots i ≡ Some (Some old) → IsAlone slots i old.output
      → present (set slots i None) ≡ without (present slots) old.output
  unfolding present tables_kept named
  present_without [] i old h a = cc
  present_without (None ∷ slots) zero old h a = cc
  present_without (None ∷ slots) (suc i) old h a = present_without slots i old h (λ j t x y. let k : suc j ≡ suc i = a (suc j) t x y in omega arith)
  present_without (Some f ∷ slots) zero old h a =
      let s : f ≡ old = same_Some f old (same_Some (Some f) (Some old) h) in
      let n : bytes_eq old.output f.output ≡ true = name_is old.output f.output (ap (λ (x : Entry R). x.output) (sym s)) in
      let absent : IsAbsent slots old.output = λ j t x y. let z : suc j ≡ zero = a (suc j) t x y in absurd (omega arith) in
      let same : without (present slots) old.output ≡ present slots = without_absent slots old.output absent in
      rw n (sym same)
  present_without (Some f ∷ slots) (suc i) old h a =
      let n : bytes_eq old.output f.output ≡ false = name_not old.output f.output (λ k. let z : zero ≡ suc i = a zero f refl (sym k) in omega arith) in
      rw (n, present_without slots i old h (λ j t x y. let k : suc j ≡ suc i = a (suc j) t x y in omega arith)) refl

  -- the index after a push, a write and a removal
  pub indexed_nothing : (f : List ℕ → Option ℕ) → ((q : List ℕ) → f q ≡ None) → IsIndexed {R = R} [] f
  indexed_nothing f h = record { placed = λ i e k. absurd cc; only = λ q i k. let x : None ≡ Some i = sym (h q) ∙ k in absurd cc }

  pub indexed_push : (slots : List (Option (Entry R))) (f g : List ℕ → Option ℕ) (e : Entry R) → IsIndexed slots f → has (outputs_of (present slots)) e.output ≡ false
      → ((q : List ℕ) → g q ≡ (if bytes_eq e.output q then Some (length slots) else f q)) → IsIndexed (slots ++ Some e ∷ []) g
  indexed_push slots f g e h n k = record {
    placed = λ i t a. elim (get_push_cases slots (Some e) (Some t) i a) [
      | inl b ↦
          let m : bytes_eq e.output t.output ≡ false = name_not e.output t.output (λ s. let x : true ≡ false = sym (present_at slots i t b) ∙ (ap (has (outputs_of (present slots))) (sym s) ∙ n) in cc) in
          k t.output ∙ (ap (λ (z : Bool). if z then Some (length slots) else f t.output) m ∙ h.placed i t b)
      | inr b ↦
          let m : bytes_eq e.output t.output ≡ true = name_is e.output t.output (ap (λ (x : Entry R). x.output) (same_Some e t b.1)) in
          k t.output ∙ (ap (λ (z : Bool). if z then Some (length slots) else f t.output) m ∙ ap (λ (x : ℕ). Some x) (sym b.0))
    ];
    only = λ q i a. only (bytes_eq e.output q) q i refl (sym (k q) ∙ a);
  }
    where
      only : (b : Bool) (q : List ℕ) (i : ℕ) → bytes_eq e.output q ≡ b → (if b then Some (length slots) else f q) ≡ Some i → (t : Entry R) × (slice_get (slots ++ Some e ∷ []) i ≡ Some (Some t)) × (t.output ≡ q)
      only true q i s a =
          let p : length slots ≡ i = same_Some (length slots) i a in
          (e, ap (slice_get (slots ++ Some e ∷ [])) (sym p) ∙ get_push_at slots (Some e), same_name e.output q s)
      only false q i s a = let (t, x, y) = h.only q i a in (t, get_push_left slots (Some e) (Some t) i x, y)

  pub indexed_write : (slots : List (Option (Entry R))) (f : List ℕ → Option ℕ) (i : ℕ) (old new : Entry R) → IsIndexed slots f → slice_get slots i ≡ Some (Some old) → new.output ≡ old.output
      → IsIndexed (set slots i (Some new)) f
  indexed_write slots f i old new h a e = record {
    placed = λ j t b. placed j (cases_eq j i) t b;
    only = λ q j b. only j (cases_eq j i) q b;
  }
    where
      placed : (j : ℕ) → (j ≡ i) ⊎ (j ≡ i → ⊥) → (t : Entry R) → slice_get (set slots i (Some new)) j ≡ Some (Some t) → f t.output ≡ Some j
      placed j (inl z) t b =
          let w : slice_get (set slots i (Some new)) i ≡ Some (Some t) = ap (slice_get (set slots i (Some new))) (sym z) ∙ b in
          let s : new ≡ t = same_Some new t (same_Some (Some new) (Some t) (sym (get_set_same slots i (Some old) (Some new) a) ∙ w)) in
          ap f (ap (λ (x : Entry R). x.output) (sym s) ∙ e) ∙ (h.placed i old a ∙ ap (λ (x : ℕ). Some x) (sym z))
      placed j (inr n) t b = h.placed j t (sym (get_set_other slots i j (Some new) n) ∙ b)

      only : (j : ℕ) → (j ≡ i) ⊎ (j ≡ i → ⊥) → (q : List ℕ) → f q ≡ Some j → (t : Entry R) × (slice_get (set slots i (Some new)) j ≡ Some (Some t)) × (t.output ≡ q)
      only j (inl z) q b =
          let (t, x, y) = h.only q j b in
          let s : old ≡ t = same_Some old t (same_Some (Some old) (Some t) (sym a ∙ (ap (slice_get slots) (sym z) ∙ x))) in
          (new, ap (slice_get (set slots i (Some new))) z ∙ get_set_same slots i (Some old) (Some new) a, e ∙ (ap (λ (u : Entry R). u.output) s ∙ y))
      only j (inr n) q b = let (t, x, y) = h.only q j b in (t, get_set_other slots i j (Some new) n ∙ x, y)

  pub indexed_removal : (slots : List (Option (Entry R))) (f g : List ℕ → Option ℕ) (i : ℕ) (old : Entry R) → IsIndexed slots f → slice_get slots i ≡ Some (Some old)
      → ((q : List ℕ) → g q ≡ (if bytes_eq old.output q then None else f q)) → IsIndexed (set slots i None) g
  indexed_removal slots f g i old h a k = record {
    placed = λ j t b. placed j (cases_eq j i) t b;
    only = λ q j b. only (bytes_eq old.output q) q j refl (sym (k q) ∙ b);
  }
    where
      placed : (j : ℕ) → (j ≡ i) ⊎ (j ≡ i → ⊥) → (t : Entry R) → slice_get (set slots i None) j ≡ Some (Some t) → g t.output ≡ Some j
      placed j (inl z) t b =
          let w : slice_get (set slots i None) i ≡ Some (Some t) = ap (slice_get (set slots i None)) (sym z) ∙ b in
          let s : None ≡ Some t = same_Some None (Some t) (sym (get_set_same slots i (Some old) None a) ∙ w) in absurd cc
      placed j (inr n) t b =
          let c : slice_get slots j ≡ Some (Some t) = sym (get_set_other slots i j None n) ∙ b in
          let m : bytes_eq old.output t.output ≡ false = name_not old.output t.output (λ s. n (same_Some j i (sym (h.placed j t c) ∙ (ap f (sym s) ∙ h.placed i old a)))) in
          k t.output ∙ (ap (λ (z : Bool). if z then None else f t.output) m ∙ h.placed j t c)

      only : (b : Bool) (q : List ℕ) (j : ℕ) → bytes_eq old.output q ≡ b → (if b then None else f q) ≡ Some j → (t : Entry R) × (slice_get (set slots i None) j ≡ Some (Some t)) × (t.output ≡ q)
      only true q j s b = cc
      only false q j s b =
          let (t, x, y) = h.only q j b in
          let n : j ≡ i → ⊥ = λ z. apart old.output q s (ap (λ (u : Entry R). u.output) (same_Some old t (same_Some (Some old) (Some t) (sym a ∙ (ap (slice_get slots) (sym z) ∙ x)))) ∙ y) in
          (t, get_set_other slots i j None n ∙ x, y)

  -- a cover over its inputs in each slot: after a push, a write and a removal, and at the next slot
  -- of a loop
  pub over_push : (slots : List (Option (Entry R))) (e : Entry R) → AreOverInputs slots → IsOverInputs e.table → AreOverInputs (slots ++ Some e ∷ [])
  unfolding AreOverInputs
  over_push slots e h w i t a = elim (get_push_cases slots (Some e) (Some t) i a) [
    | inl b ↦ h i t b
    | inr b ↦ subst (λ (x : Entry R). IsOverInputs x.table) (same_Some e t b.1) w
  ]

  pub over_write : (slots : List (Option (Entry R))) (i : ℕ) (old new : Entry R) → AreOverInputs slots → slice_get slots i ≡ Some (Some old) → IsOverInputs new.table → AreOverInputs (set slots i (Some new))
  unfolding AreOverInputs
  over_write slots i old new h a w j t b = elim (cases_eq j i) [
    | inl z ↦
        let x : Some (Some new) ≡ Some (Some t) = sym (get_set_same slots i (Some old) (Some new) a) ∙ (ap (slice_get (set slots i (Some new))) (sym z) ∙ b) in
        subst (λ (x : Entry R). IsOverInputs x.table) (same_Some new t (same_Some (Some new) (Some t) x)) w
    | inr n ↦ h j t (sym (get_set_other slots i j (Some new) n) ∙ b)
  ]

  pub over_removal : (slots : List (Option (Entry R))) (i : ℕ) (old : Entry R) → AreOverInputs slots → slice_get slots i ≡ Some (Some old) → AreOverInputs (set slots i None)
  unfolding AreOverInputs
  over_removal slots i old h a j t b = elim (cases_eq j i) [
    | inl z ↦
        let w : slice_get (set slots i None) i ≡ Some (Some t) = ap (slice_get (set slots i None)) (sym z) ∙ b in
        let s : None ≡ Some t = same_Some None (Some t) (sym (get_set_same slots i (Some old) None a) ∙ w) in absurd cc
    | inr n ↦ h j t (sym (get_set_other slots i j None n) ∙ b)
  ]

  pub over_at : (slots : List (Option (Entry R))) (i : ℕ) (e : Entry R) → AreOverInputs slots → slice_get slots i ≡ Some (Some e) → IsOverInputs e.table
  unfolding AreOverInputs
  over_at slots i e h a = h i e a

  pub next_over : (slots : List (Option (Entry R))) (i : ℕ) (x : Option (Entry R)) → AreOverInputs slots → i < length slots → x ≡ get_or slots i x → IfSome x (λ stored. IsOverInputs stored.table)
  next_over slots i None h lt e = tt
  next_over slots i (Some stored) h lt e = over_at slots i stored h (get_at slots i (Some stored) lt ∙ ap (λ (x : Option (Entry R)). Some x) (sym e))

  -- tables in slots to which names lead have different names
  not_in_tail : (slots : List (Option (Entry R))) (q : List ℕ) → ((j : ℕ) (e : Entry R) → slice_get slots j ≡ Some (Some e) → e.output ≡ q → ⊥) → has (outputs_of (present slots)) q ≡ false
  not_in_tail slots q h = cases (has (outputs_of (present slots)) q) refl
    where
      cases : (b : Bool) → has (outputs_of (present slots)) q ≡ b → has (outputs_of (present slots)) q ≡ false
      cases true e = let (i, t, a, b) = place_of_present slots q e in absurd (h i t a b)
      cases false e = e

  different : (slots : List (Option (Entry R))) → ((i j : ℕ) (d e : Entry R) → slice_get slots i ≡ Some (Some d) → slice_get slots j ≡ Some (Some e) → d.output ≡ e.output → i ≡ j) → all_different (outputs_of (present slots)) ≡ true
  unfolding present named all_different
  different [] h = refl
  different (None ∷ slots) h = different slots (λ i j d e a b k. let z : suc i ≡ suc j = h (suc i) (suc j) d e a b k in omega arith)
  different (Some f ∷ slots) h =
      let n : has (outputs_of (present slots)) f.output ≡ false = not_in_tail slots f.output (λ j e a b. let z : suc j ≡ zero = h (suc j) zero e f a refl b in absurd (omega arith)) in
      let r : all_different (outputs_of (present slots)) ≡ true = different slots (λ i j d e a b k. let z : suc i ≡ suc j = h (suc i) (suc j) d e a b k in omega arith) in
      rw (n, r) refl

  pub different_indexed : (slots : List (Option (Entry R))) (f : List ℕ → Option ℕ) → IsIndexed slots f → all_different (outputs_of (present slots)) ≡ true
  different_indexed slots f h = different slots (λ i j d e a b k. same_Some i j (sym (h.placed i d a) ∙ (ap f k ∙ h.placed j e b)))

  -- the slots before one, and that one
  pub present_more : (slots : List (Option (Entry R))) (i : ℕ) (x : Option (Entry R)) → i < length slots → x ≡ get_or slots i x → present (take (i + 1) slots) ≡ present (take i slots) ++ present (x ∷ [])
  present_more slots i x lt e = ap present (take_more slots i x lt) ∙ (present-append (take i slots) (get_or slots i x ∷ []) ∙ ap (λ (z : Option (Entry R)). present (take i slots) ++ present (z ∷ [])) (sym e))

  pub entry_named : (e : Entry R) → has (outputs_of (present (Some e ∷ []))) e.output ≡ true
  unfolding present named
  entry_named e = rw (name_itself e.output) refl

  pub next_present_is_new : (slots : List (Option (Entry R))) (i : ℕ) (x : Option (Entry R)) → all_different (outputs_of (present slots)) ≡ true → i < length slots → x ≡ get_or slots i x
      → (q : List ℕ) → has (outputs_of (present (x ∷ []))) q ≡ true → has (outputs_of (present (take i slots))) q ≡ false
  next_present_is_new slots i x d lt e q h =
      let parts : slots ≡ take i slots ++ (x ∷ drop (i + 1) slots) = sym (take-append-drop i slots) ∙ ap (λ (zs : List (Option (Entry R))). take i slots ++ zs) (drop_more slots i x lt ∙ ap (λ (z : Option (Entry R)). z ∷ drop (i + 1) slots) (sym e)) in
      let split : present slots ≡ present (take i slots) ++ (present (x ∷ []) ++ present (drop (i + 1) slots)) =
      ap present parts ∙ (present-append (take i slots) (x ∷ drop (i + 1) slots) ∙ ap (λ (zs : List Table). present (take i slots) ++ zs) (present-append (x ∷ []) (drop (i + 1) slots))) in
      let names : outputs_of (present slots) ≡ outputs_of (present (take i slots)) ++ (outputs_of (present (x ∷ [])) ++ outputs_of (present (drop (i + 1) slots))) =
      ap outputs_of split ∙ (map-append (λ (t : Table). t.output) (present (take i slots)) (present (x ∷ []) ++ present (drop (i + 1) slots))
      ∙ ap (λ (zs : List (List ℕ)). outputs_of (present (take i slots)) ++ zs) (map-append (λ (t : Table). t.output) (present (x ∷ [])) (present (drop (i + 1) slots)))) in
      apart_parts (outputs_of (present (take i slots))) (outputs_of (present (x ∷ [])) ++ outputs_of (present (drop (i + 1) slots))) q (ap all_different (sym names) ∙ d)
      (has-append (outputs_of (present (x ∷ []))) (outputs_of (present (drop (i + 1) slots))) q ∙ ap (λ (b : Bool). b || has (outputs_of (present (drop (i + 1) slots))) q) h)

  -- a name that no table has is driven by none
  pub driver_absent : (slots : List (Option (Entry R))) (q : List ℕ) → IsAbsent slots q → driver (present slots) q ≡ None
  unfolding present named driver
  driver_absent [] q h = refl
  driver_absent (None ∷ slots) q h = driver_absent slots q (λ j e a b. h (suc j) e a b)
  driver_absent (Some f ∷ slots) q h =
      let n : bytes_eq q f.output ≡ false = name_not q f.output (λ e. h zero f refl (sym e)) in
      rw n (driver_absent slots q (λ j e a b. h (suc j) e a b))

  -- the table in a slot drives its name
  pub driver_at : (slots : List (Option (Entry R))) (i : ℕ) (e : Entry R) → slice_get slots i ≡ Some (Some e) → IsAlone slots i e.output → driver (present slots) e.output ≡ Some (written_of e)
  unfolding present named driver
  driver_at [] i e h a = cc
  driver_at (None ∷ slots) zero e h a = cc
  driver_at (None ∷ slots) (suc i) e h a = driver_at slots i e h (λ j t x y. let k : suc j ≡ suc i = a (suc j) t x y in omega arith)
  driver_at (Some f ∷ slots) zero e h a =
      let s : f ≡ e = same_Some f e (same_Some (Some f) (Some e) h) in
      let n : bytes_eq e.output f.output ≡ true = name_is e.output f.output (ap (λ (x : Entry R). x.output) (sym s)) in
      rw n (ap (λ (x : Entry R). Some (written_of x)) s)
  driver_at (Some f ∷ slots) (suc i) e h a =
      let n : bytes_eq e.output f.output ≡ false = name_not e.output f.output (λ k. let z : zero ≡ suc i = a zero f refl (sym k) in omega arith) in
      rw n (driver_at slots i e h (λ j t x y. let k : suc j ≡ suc i = a (suc j) t x y in omega arith))

-- the next of tables with different names is not one of those before it
pub next_is_new : (made : List Table) (x : Table) (rest : List Table)
    → all_different (outputs_of (made ++ x ∷ rest)) ≡ true → has (outputs_of made) x.output ≡ false
next_is_new made x rest d =
    apart_parts (outputs_of made) (x.output ∷ outputs_of rest) x.output
    (ap all_different (sym (map-append (λ (t : Table). t.output) made (x ∷ rest))) ∙ d)
    (ap (λ (b : Bool). b || has (outputs_of rest) x.output) (name_itself x.output))
