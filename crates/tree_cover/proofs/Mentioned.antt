-- The pins of a gate whose pins are the names of its expression are just those of its formula.
use Rattle.std.proofs.Common.{◌≡◌, ℕ, zero, suc, ◌<◌, ◌≤◌, Bool, true, List, [], ◌∷◌, ◌++◌, length, map, slice_index_or, bytes_eq, nat_lt, false, refl, sym, ap, ◌∙◌, subst, inl, inr, ◌⊎◌, ◌↔◌, arith}
use Rattle.std.proofs.lemmas.Bool.{false≢true, or_cases, or_left, or_right}
use Rattle.std.proofs.lemmas.Bool.Decides.{nat_tests}
use Rattle.std.proofs.lemmas.List.{append-nil}
use Rattle.circuit_model.specs.Names.{has, all_different}
use Rattle.circuit_laws.proofs.Names.{same_name, name_itself, name_is, all_has, different_head, different_tail}
use Rattle.circuit_tables.proofs.Once.{has-each_once}
use Rattle.genlib_expr.specs.Formula.{Formula, constant, pin, complement, product, sum, postfix, formula_of}
use Rattle.genlib_expr.specs.declared.node.Node.{Node}
use Rattle.genlib_expr.specs.declared.node.Node.TheVariants as node
use Rattle.genlib_format.specs.declared.gate.Gate.{Gate}
use Rattle.genlib_format.specs.Gates.{is_gate_name}
use Rattle.genlib_format.specs.Soundness.{IsName, pin_places, mentions, IsSoundGate}
use Rattle.pattern_set.specs.Values.{HasPin}
use Rattle.genlib_format.proofs.Mentions.{places_both}

-- a place is among some
Among : ℕ → List ℕ → Type 0
Among place [] = ⊥
Among place (p ∷ ps) = (p ≡ place) ⊎ Among place ps

among_front : (place : ℕ) (xs ys : List ℕ) → Among place xs → Among place (xs ++ ys)
unfolding Among
among_front place [] ys h = absurd h
among_front place (x ∷ xs) ys (inl e) = inl e
among_front place (x ∷ xs) ys (inr h) = inr (among_front place xs ys h)

among_back : (place : ℕ) (xs ys : List ℕ) → Among place ys → Among place (xs ++ ys)
unfolding Among
among_back place [] ys h = h
among_back place (x ∷ xs) ys h = inr (among_back place xs ys h)

among_either : (place : ℕ) (xs ys : List ℕ) → Among place (xs ++ ys) → Among place xs ⊎ Among place ys
unfolding Among
among_either place [] ys h = inr h
among_either place (x ∷ xs) ys (inl e) = inl (inl e)
among_either place (x ∷ xs) ys (inr h) = elim (among_either place xs ys h) as (λ _. Among place (x ∷ xs) ⊎ Among place ys) [ inl a ↦ inl (inr a) | inr b ↦ inr b ]

-- the pins of a formula, in order
leaves : Formula → List ℕ
leaves (constant bit) = []
leaves (pin place) = place ∷ []
leaves (complement e) = leaves e
leaves (product d e) = leaves d ++ leaves e
leaves (sum d e) = leaves d ++ leaves e

two_and_none : (xs ys zs : List Node) (ps qs : List ℕ) → pin_places zs ≡ [] → pin_places xs ≡ ps → pin_places ys ≡ qs → pin_places (xs ++ ys ++ zs) ≡ ps ++ qs
two_and_none xs ys zs ps qs none one other =
    places_both (xs ++ ys) zs ∙ ap (λ (ns : List ℕ). pin_places (xs ++ ys) ++ ns) none ∙ append-nil (pin_places (xs ++ ys)) ∙ places_both xs ys
    ∙ ap (λ (ns : List ℕ). ns ++ pin_places ys) one ∙ ap (λ (ns : List ℕ). ps ++ ns) other

leaves_are : (e : Formula) → pin_places (postfix e) ≡ leaves e
unfolding postfix pin_places leaves
leaves_are (constant bit) = refl
leaves_are (pin place) = refl
leaves_are (complement e) = places_both (postfix e) (node.Not ∷ []) ∙ append-nil (pin_places (postfix e)) ∙ leaves_are e
leaves_are (product d e) = two_and_none (postfix d) (postfix e) (node.And ∷ []) (leaves d) (leaves e) refl (leaves_are d) (leaves_are e)
leaves_are (sum d e) = two_and_none (postfix d) (postfix e) (node.Or ∷ []) (leaves d) (leaves e) refl (leaves_are d) (leaves_are e)

pin_among : (place : ℕ) (e : Formula) → HasPin place e → Among place (leaves e)
unfolding HasPin leaves Among
pin_among place (constant bit) h = absurd h
pin_among place (pin p) h = inl h
pin_among place (complement e) h = pin_among place e h
pin_among place (product d e) (inl h) = among_front place (leaves d) (leaves e) (pin_among place d h)
pin_among place (product d e) (inr h) = among_back place (leaves d) (leaves e) (pin_among place e h)
pin_among place (sum d e) (inl h) = among_front place (leaves d) (leaves e) (pin_among place d h)
pin_among place (sum d e) (inr h) = among_back place (leaves d) (leaves e) (pin_among place e h)

among_pin : (place : ℕ) (e : Formula) → Among place (leaves e) → HasPin place e
unfolding HasPin leaves Among
among_pin place (constant bit) h = absurd h
among_pin place (pin p) (inl e) = e
among_pin place (pin p) (inr h) = elim h [ ]
among_pin place (complement e) h = among_pin place e h
among_pin place (product d e) h = elim (among_either place (leaves d) (leaves e) h) as (λ _. HasPin place d ⊎ HasPin place e) [ inl a ↦ inl (among_pin place d a) | inr b ↦ inr (among_pin place e b) ]
among_pin place (sum d e) h = elim (among_either place (leaves d) (leaves e) h) as (λ _. HasPin place d ⊎ HasPin place e) [ inl a ↦ inl (among_pin place d a) | inr b ↦ inr (among_pin place e b) ]

-- the name at a place
name_at : List (List ℕ) → ℕ → List ℕ
name_at names place = slice_index_or names place []

among_has : (names : List (List ℕ)) (place : ℕ) (places : List ℕ) → Among place places → has (map (name_at names) places) (name_at names place) ≡ true
unfolding Among
among_has names place [] h = absurd h
among_has names place (p ∷ ps) (inl e) =
    or_left (bytes_eq (name_at names place) (name_at names p)) (has (map (name_at names) ps) (name_at names place)) (name_is (name_at names place) (name_at names p) (ap (name_at names) (sym e)))
among_has names place (p ∷ ps) (inr h) =
    or_right (bytes_eq (name_at names place) (name_at names p)) (has (map (name_at names) ps) (name_at names place)) (among_has names place ps h)

has_among : (names : List (List ℕ)) (name : List ℕ) (places : List ℕ) → has (map (name_at names) places) name ≡ true → (place : ℕ) × Among place places × (name ≡ name_at names place)
unfolding Among
has_among names name [] h = absurd (false≢true h)
has_among names name (p ∷ ps) h =
    elim (or_cases (bytes_eq name (name_at names p)) (has (map (name_at names) ps) name) h) as (λ _. (place : ℕ) × Among place (p ∷ ps) × (name ≡ name_at names place)) [
      | inl e ↦ (p, inl refl, same_name name (name_at names p) e)
      | inr k ↦ let (place, among, is) = has_among names name ps k in (place, inr among, is)
    ]

past_end : (names : List (List ℕ)) (place : ℕ) → length names ≤ place → name_at names place ≡ []
unfolding name_at
past_end [] place le = refl
past_end (name ∷ names) zero le = absurd (omega (arith, le))
past_end (name ∷ names) (suc place) le = past_end names place (omega (arith, le))

within_has : (names : List (List ℕ)) (place : ℕ) → place < length names → has names (name_at names place) ≡ true
unfolding name_at
within_has [] place lt = absurd (omega (arith, lt))
within_has (name ∷ names) zero lt = or_left (bytes_eq name name) (has names name) (name_itself name)
within_has (name ∷ names) (suc place) lt = or_right (bytes_eq (name_at names place) name) (has names (name_at names place)) (within_has names place (omega (arith, lt)))

not_behind : (first : List ℕ) (names : List (List ℕ)) (place : ℕ) → all_different (first ∷ names) ≡ true → place < length names → first ≡ name_at names place → ⊥
not_behind first names place different lt e =
    false≢true (sym (different_head first names different) ∙ ap (has names) e ∙ within_has names place lt)

one_place : (names : List (List ℕ)) (p q : ℕ) → all_different names ≡ true → p < length names → q < length names → name_at names p ≡ name_at names q → p ≡ q
unfolding name_at
one_place [] p q different a b e = absurd (omega (arith, a))
one_place (name ∷ names) zero zero different a b e = refl
one_place (name ∷ names) zero (suc q) different a b e = absurd (not_behind name names q different (omega (arith, b)) e)
one_place (name ∷ names) (suc p) zero different a b e = absurd (not_behind name names p different (omega (arith, a)) (sym e))
one_place (name ∷ names) (suc p) (suc q) different a b e = ap suc (one_place names p q (different_tail name names different) (omega (arith, a)) (omega (arith, b)) e)

lt_or_le : (m n : ℕ) → (m < n) ⊎ (n ≤ m)
lt_or_le m n = by (nat_lt m n) refl
  where
    by : (b : Bool) → nat_lt m n ≡ b → (m < n) ⊎ (n ≤ m)
    by true e = inl (grind (arith, nat_tests))
    by false e = inr (grind (arith, nat_tests))

module _ (names : List (List ℕ)) (places : List ℕ) (same : (name : List ℕ) → has (map (name_at names) places) name ≡ has names name) where
  places_within : (has names [] ≡ true → ⊥) → (place : ℕ) → Among place places → place < length names
  places_within none place among = elim (lt_or_le place (length names)) as (λ _. place < length names) [
    | inl lt ↦ lt
    | inr le ↦ absurd (none (sym (ap (has names) (past_end names place le)) ∙ sym (same (name_at names place)) ∙ among_has names place places among))
  ]

  all_placed : (has names [] ≡ true → ⊥) → all_different names ≡ true → (place : ℕ) → place < length names → Among place places
  all_placed none different place lt =
      let (p, among, is) = has_among names (name_at names place) places (same (name_at names place) ∙ within_has names place lt) in
      subst (λ (q : ℕ). Among q places) (sym (one_place names place p different lt (places_within none p among) is)) among

no_name : IsName [] → ⊥
unfolding is_gate_name
no_name is = false≢true is.0

-- the pins of a sound gate are just those of its function
pub pins_exact : (gate : Gate) → IsSoundGate gate → (place : ℕ) → HasPin place (formula_of gate.expr) ↔ (place < length gate.pins)
unfolding name_at
pins_exact gate sound place =
    let e = formula_of gate.expr in
    let nodes : pin_places gate.expr ≡ leaves e = ap pin_places sound.order ∙ leaves_are e in
    let same : (name : List ℕ) → has (map (name_at gate.pins) (leaves e)) name ≡ has gate.pins name =
    λ name. ap (λ (ps : List ℕ). has (map (name_at gate.pins) ps) name) (sym nodes) ∙ sym (has-each_once (mentions gate.pins gate.expr) name) ∙ ap (λ (ns : List (List ℕ)). has ns name) sound.mentioned in
    let none : has gate.pins [] ≡ true → ⊥ = λ h. no_name (all_has IsName gate.pins sound.pins [] h) in (
      λ h. places_within gate.pins (leaves e) same none place (pin_among place e h),
      λ lt. among_pin place e (all_placed gate.pins (leaves e) same none sound.different place lt),
    )
