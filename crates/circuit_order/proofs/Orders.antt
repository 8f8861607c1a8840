-- Names that are in order so far, and what one more name keeps.
use Rattle.std.proofs.Common.{◌≡◌, ℕ, zero, suc, ◌+◌, ◌<◌, ◌≤◌, Bool, true, false, not, ◌||◌, cond, Option, Some, None, List, [], ◌∷◌, ◌++◌, length, find, slice_get, bytes_eq, refl, sym, ap, ◌∙◌, subst, inl, inr, ◌⊎◌, arith}
use Rattle.std.specs.List.{list_all, IsDistinct}
use Rattle.std.specs.Option.{option_map_or}
use Rattle.std.proofs.lemmas.Bool.{false≢true, or_cases, and_parts, and_from, not_from_false, not-true, false_from_ne_true, true_from_ne_false}
use Rattle.std.proofs.lemmas.Option.{same_Some, none-some}
use Rattle.std.proofs.lemmas.List.{length-map, length_push}
use Rattle.std.proofs.lemmas.Cmp.{nat_list_eq_equiv}
use Rattle.std.proofs.lemmas.Map.Made.{length-le_from_is_member}
use Rattle.circuit_model.specs.Names.{has, all_different}
use Rattle.circuit_model.specs.Values.{driver}
use Rattle.circuit_model.specs.Soundness.{outputs_of, IsAcyclic}
use Rattle.circuit_model.specs.declared.circuit.Table.{Table}
use Rattle.circuit_laws.specs.Ranks.{HasRank}
use Rattle.circuit_laws.proofs.Names.{same_name, name_not, all_has, all_from_has, has_head, has_tail, has_append, has_front, apart_different, different_head, different_tail, different_cons, different_none}
use Rattle.circuit_laws.proofs.Places.{placed_name, placed_driver}
use Rattle.circuit_laws.proofs.Drivers.{driver_name, output_driver}
use Rattle.circuit_laws.proofs.Ranks.{acyclic_rank}
use Rattle.circuit_order.specs.Order.{waits, is_ready, order_from, order_of, IsOrdered}

-- lists of names

-- the position of a name in a list with one more name at the end
split_push : {X : Type 0} (xs before after : List X) (x y : X) → xs ++ x ∷ [] ≡ before ++ y ∷ after → ((rest : List X) × (xs ≡ before ++ y ∷ rest)) ⊎ ((before ≡ xs) × (y ≡ x))
split_push [] [] after x y e = inr (refl, cc)
split_push [] (b ∷ []) after x y e = absurd cc
split_push [] (b ∷ c ∷ before) after x y e = absurd cc
split_push (z ∷ xs) [] after x y e = inl (xs, let h : z ≡ y = cc in ap (λ w. w ∷ xs) h)
split_push (z ∷ xs) (b ∷ before) after x y e = elim (split_push xs before after x y cc) [
  | inl there ↦ let (rest, is) = there in let h : z ≡ b = cc in inl (rest, ap (λ w. w ∷ xs) h ∙ ap (λ ws. b ∷ ws) is)
  | inr last ↦ let h : b ≡ z = cc in inr (ap (λ w. w ∷ before) h ∙ ap (λ ws. z ∷ ws) last.0, last.1)
]

has_split : (names : List (List ℕ)) (name : List ℕ) → has names name ≡ true → (before : List (List ℕ)) × (after : List (List ℕ)) × (names ≡ before ++ name ∷ after)
has_split [] name h = absurd (false≢true h)
has_split (first ∷ names) name h = elim (or_cases (bytes_eq name first) (has names name) h) [
  | inl e ↦ ([], names, ap (λ (n : List ℕ). n ∷ names) (sym (same_name name first e)))
  | inr m ↦ let (before, after, is) = has_split names name m in (first ∷ before, after, ap (λ (ns : List (List ℕ)). first ∷ ns) is)
]

pub has_push : (names : List (List ℕ)) (last name : List ℕ) → has (names ++ last ∷ []) name ≡ (has names name || bytes_eq name last)
has_push names last name = has_append names (last ∷ []) name ∙ ap (λ (b : Bool). has names name || b) (alone (bytes_eq name last))
  where
    alone : (b : Bool) → (b || false) ≡ b
    alone true = refl
    alone false = refl

pub different_push : (names : List (List ℕ)) (last : List ℕ) → all_different names ≡ true → has names last ≡ false → all_different (names ++ last ∷ []) ≡ true
different_push names last different new = apart_different names (last ∷ []) (record {
  front = different;
  back = different_cons last [] refl different_none;
  between = λ name among at.
      elim (or_cases (bytes_eq name last) false at) as (λ _. ⊥) [
        | inl e ↦ false≢true (sym new ∙ subst (λ (n : List ℕ). has names n ≡ true) (same_name name last e) among)
        | inr m ↦ false≢true m
      ];
})

pub distinct : (names : List (List ℕ)) → all_different names ≡ true → IsDistinct bytes_eq names
unfolding IsDistinct
distinct [] h = tt
distinct (first ∷ names) h = (
  all_from_has (λ name. bytes_eq first name ≡ false) names (λ name among. name_not first name (λ e. false≢true (sym (different_head first names h) ∙ subst (λ (n : List ℕ). has names n ≡ true) (sym e) among))),
  distinct names (different_tail first names h),
)

fewer : (xs ys : List (List ℕ)) → all_different xs ≡ true → ((name : List ℕ) → has xs name ≡ true → has ys name ≡ true) → length xs ≤ length ys
fewer xs ys different among = length-le_from_is_member nat_list_eq_equiv xs ys (distinct xs different) among

-- the first that passes a test

find_place : {X : Type 0} (test : X → Bool) (xs : List X) (x : X) → find test xs ≡ Some x → (i : ℕ) × (slice_get xs i ≡ Some x) × (test x ≡ true)
find_place test [] x e = absurd (none-some x e)
find_place test (y ∷ xs) x e = cases (test y) refl e (λ at. find_place test xs x at)
  where
    cases : (b : Bool) → test y ≡ b → cond b (Some y) (find test xs) ≡ Some x → (find test xs ≡ Some x → (i : ℕ) × (slice_get xs i ≡ Some x) × (test x ≡ true))
        → (i : ℕ) × (slice_get (y ∷ xs) i ≡ Some x) × (test x ≡ true)
    cases true passes at rest = let same : y ≡ x = same_Some y x at in (0, at, ap test (sym same) ∙ passes)
    cases false fails at rest = let (i, there, passes) = rest at in (suc i, there, passes)

pub find_first : {X : Type 0} (test : X → Bool) (xs : List X) (i : ℕ) (x : X) → slice_get xs i ≡ Some x → test x ≡ true
    → ((j : ℕ) (y : X) → j < i → slice_get xs j ≡ Some y → test y ≡ false) → find test xs ≡ Some x
find_first test [] i x at passes none = absurd (none-some x at)
find_first test (y ∷ xs) zero x at passes none = let same : y ≡ x = same_Some y x at in rw (ap test same, passes) at
find_first test (y ∷ xs) (suc i) x at passes none =
    rw (none 0 y (omega arith) refl) (find_first test xs i x at passes (λ j z lt there. none (suc j) z (omega (arith, lt)) there))

pub find_nowhere : {X : Type 0} (test : X → Bool) (xs : List X) → ((j : ℕ) (y : X) → slice_get xs j ≡ Some y → test y ≡ false) → find test xs ≡ None
find_nowhere test [] none = refl
find_nowhere test (y ∷ xs) none = rw (none 0 y refl) (find_nowhere test xs (λ j z there. none (suc j) z there))

none_found : {X : Type 0} (test : X → Bool) (xs : List X) (i : ℕ) (x : X) → find test xs ≡ None → slice_get xs i ≡ Some x → test x ≡ false
none_found test [] i x e at = absurd (none-some x at)
none_found test (y ∷ xs) i x e at = cases (test y) refl e i at (λ found j there. none_found test xs j x found there)
  where
    cases : (b : Bool) → test y ≡ b → cond b (Some y) (find test xs) ≡ None → (i : ℕ) → slice_get (y ∷ xs) i ≡ Some x
        → (find test xs ≡ None → (j : ℕ) → slice_get xs j ≡ Some x → test x ≡ false) → test x ≡ false
    cases true passes found i at rest = absurd (none-some y (sym found))
    cases false fails found zero at rest = ap test (sym (same_Some y x at)) ∙ fails
    cases false fails found (suc i) at rest = rest found i at

-- waiting and ready

pub waits_listed : (tables : List Table) (listed : List (List ℕ)) (name : List ℕ) → has (outputs_of tables) name ≡ true → waits tables listed name ≡ false → has listed name ≡ true
unfolding waits
waits_listed tables listed name driven h = true_from_ne_false (has listed name) (λ n. false≢true (sym h ∙ and_from (has (outputs_of tables) name) (not (has listed name)) driven (not_from_false (has listed name) n)))

pub listed_waits : (tables : List Table) (listed : List (List ℕ)) (name : List ℕ) → (has (outputs_of tables) name ≡ true → has listed name ≡ true) → waits tables listed name ≡ false
unfolding waits
listed_waits tables listed name h =
    false_from_ne_true (waits tables listed name) (λ w.
    let parts = and_parts (has (outputs_of tables) name) (not (has listed name)) w in
    false≢true (sym (not-true (has listed name) parts.1) ∙ h parts.0))

all_inputs : (test : List ℕ → Bool) (names : List (List ℕ)) → list_all (λ name. not (test name)) names ≡ true → (name : List ℕ) → has names name ≡ true → test name ≡ false
all_inputs test [] all name h = absurd (false≢true h)
all_inputs test (first ∷ names) all name h =
    let parts = and_parts (not (test first)) (list_all (λ n. not (test n)) names) all in
    elim (or_cases (bytes_eq name first) (has names name) h) as (λ _. test name ≡ false) [
      | inl e ↦ ap test (same_name name first e) ∙ not-true (test first) parts.0
      | inr m ↦ all_inputs test names parts.1 name m
    ]

inputs_all : (test : List ℕ → Bool) (names : List (List ℕ)) → ((name : List ℕ) → has names name ≡ true → test name ≡ false) → list_all (λ name. not (test name)) names ≡ true
inputs_all test [] h = refl
inputs_all test (first ∷ names) h =
    and_from (not (test first)) (list_all (λ n. not (test n)) names) (not_from_false (test first) (h first (has_head first names))) (inputs_all test names (λ name m. h name (has_tail first names name m)))

pub ready_new : (tables : List Table) (listed : List (List ℕ)) (table : Table) → is_ready tables listed table ≡ true → has listed table.output ≡ false
unfolding is_ready
ready_new tables listed table h = not-true (has listed table.output) (and_parts (not (has listed table.output)) (list_all (λ input. not (waits tables listed input)) table.inputs) h).0

pub ready_inputs : (tables : List Table) (listed : List (List ℕ)) (table : Table) → is_ready tables listed table ≡ true → (input : List ℕ) → has table.inputs input ≡ true → waits tables listed input ≡ false
unfolding is_ready
ready_inputs tables listed table h = all_inputs (waits tables listed) table.inputs (and_parts (not (has listed table.output)) (list_all (λ input. not (waits tables listed input)) table.inputs) h).1

ready_from : (tables : List Table) (listed : List (List ℕ)) (table : Table) → has listed table.output ≡ false → ((input : List ℕ) → has table.inputs input ≡ true → waits tables listed input ≡ false) → is_ready tables listed table ≡ true
unfolding is_ready
ready_from tables listed table new h = and_from (not (has listed table.output)) (list_all (λ input. not (waits tables listed input)) table.inputs) (not_from_false (has listed table.output) new) (inputs_all (waits tables listed) table.inputs h)

-- names that are in order so far: none occurs twice, each is a table's output, and each comes after
-- what its table reads
pub record IsListing (tables : List Table) (listed : List (List ℕ)) : Type 0 where
  pub once : all_different listed ≡ true
  pub driven : (name : List ℕ) → has listed name ≡ true → has (outputs_of tables) name ≡ true
  pub behind : (before after : List (List ℕ)) (name input : List ℕ) (table : Table) → listed ≡ before ++ name ∷ after → driver tables name ≡ Some table
      → has table.inputs input ≡ true → has (outputs_of tables) input ≡ true → has before input ≡ true

pub listing_begun : (tables : List Table) → IsListing tables []
listing_begun tables = record {
  once = different_none;
  driven = λ name h. absurd (false≢true h);
  behind = λ before after name input table e at reads driven. absurd (never before after name e);
}
  where
    never : (before after : List (List ℕ)) (name : List ℕ) → [] ≡ before ++ name ∷ after → ⊥
    never [] after name e = cc
    never (first ∷ before) after name e = cc

pub listing_more : (tables : List Table) (listed : List (List ℕ)) (i : ℕ) (table : Table) → all_different (outputs_of tables) ≡ true → IsListing tables listed
    → slice_get tables i ≡ Some table → is_ready tables listed table ≡ true → IsListing tables (listed ++ table.output ∷ [])
listing_more tables listed i table different listing at ready = record {
  once = different_push listed table.output listing.once (ready_new tables listed table ready);
  driven = λ name h.
      elim (or_cases (has listed name) (bytes_eq name table.output) (sym (has_push listed table.output name) ∙ h)) as (λ _. has (outputs_of tables) name ≡ true) [
        | inl m ↦ listing.driven name m
        | inr e ↦ subst (λ (n : List ℕ). has (outputs_of tables) n ≡ true) (sym (same_name name table.output e)) (placed_name (λ (t : Table). t.output) tables i table at)
      ];
  behind = λ before after name input other e driven reads known.
      elim (split_push listed before after table.output name e) as (λ _. has before input ≡ true) [
        | inl there ↦ let (rest, is) = there in listing.behind before rest name input other is driven reads known
        | inr last ↦
            let same : table ≡ other = same_Some table other (sym (placed_driver tables i table different at) ∙ (ap (driver tables) (sym last.1) ∙ driven)) in
            let mine : has table.inputs input ≡ true = ap (λ (t : Table). has t.inputs input) same ∙ reads in
            ap (λ (ns : List (List ℕ)). has ns input) last.0 ∙ waits_listed tables listed input known (ready_inputs tables listed table ready input mine)
      ];
}

-- no input of a table whose output is listed waits
pub listed_settled : (tables : List Table) (listed : List (List ℕ)) (i : ℕ) (table : Table) → all_different (outputs_of tables) ≡ true → IsListing tables listed
    → slice_get tables i ≡ Some table → has listed table.output ≡ true → (input : List ℕ) → has table.inputs input ≡ true → waits tables listed input ≡ false
listed_settled tables listed i table different listing at among input reads =
    let (before, after, is) = has_split listed table.output among in
    listed_waits tables listed input (λ known.
    ap (λ (ns : List (List ℕ)). has ns input) is
    ∙ has_front before (table.output ∷ after) input (listing.behind before after table.output input table is (placed_driver tables i table different at) reads known))

-- where a table is not listed yet there is fuel left
pub fuel_left : (tables : List Table) (listed : List (List ℕ)) (name : List ℕ) → IsListing tables listed → has listed name ≡ false → has (outputs_of tables) name ≡ true → length listed < length tables
fuel_left tables listed name listing new driven =
    let few : length (name ∷ listed) ≤ length (outputs_of tables) =
    fewer (name ∷ listed) (outputs_of tables) (different_cons name listed new listing.once) (λ other h.
    elim (or_cases (bytes_eq other name) (has listed other) h) as (λ _. has (outputs_of tables) other ≡ true) [
      | inl e ↦ subst (λ (n : List ℕ). has (outputs_of tables) n ≡ true) (sym (same_name other name e)) driven
      | inr m ↦ listing.driven other m
    ]) in
    omega (arith, few, length-map tables (λ (t : Table). t.output))

-- where no table is ready each is listed whose signal leads to no cycle
stuck : (tables : List Table) (listed : List (List ℕ)) (r : HasRank tables) → find (is_ready tables listed) tables ≡ None
    → (n : ℕ) (name : List ℕ) → r.rank name < n → has (outputs_of tables) name ≡ true → has listed name ≡ true
unfolding driver
stuck tables listed r none zero name low driven = absurd (omega (arith, low))
stuck tables listed r none (suc n) name low driven =
    let (table, at) = output_driver tables name driven in
    let (i, there, same) = find_place (λ (t : Table). bytes_eq name t.output) tables table at in
    let output : table.output ≡ name = driver_name tables name table at in
    true_from_ne_false (has listed name) (λ new.
    false≢true (sym (none_found (is_ready tables listed) tables i table none there)
    ∙ ready_from tables listed table (ap (has listed) output ∙ new) (λ input reads.
    listed_waits tables listed input (λ known.
    let falls : r.rank input < r.rank name = all_has (λ x. r.rank x < r.rank name) table.inputs (r.falls name table at) input reads in
    stuck tables listed r none n input (omega (arith, falls, low)) known))))

finished : (tables : List Table) (listed : List (List ℕ)) → IsListing tables listed → ((name : List ℕ) → has (outputs_of tables) name ≡ true → has listed name ≡ true) → IsOrdered tables listed
finished tables listed listing all = record {
  once = listing.once;
  each = λ name. same (has listed name) (has (outputs_of tables) name) (listing.driven name) (all name);
  behind = listing.behind;
}
  where
    same : (a b : Bool) → (a ≡ true → b ≡ true) → (b ≡ true → a ≡ true) → a ≡ b
    same true b h k = sym (h refl)
    same false true h k = k refl
    same false false h k = refl

ordered_from : (tables : List Table) → all_different (outputs_of tables) ≡ true → HasRank tables → (n : ℕ) (listed : List (List ℕ)) → IsListing tables listed → n + length listed ≡ length tables
    → IsOrdered tables (order_from tables n listed)
unfolding order_from
ordered_from tables different r zero listed listing full =
    finished tables listed listing (λ name driven.
    true_from_ne_false (has listed name) (λ new. absurd (omega (arith, full, fuel_left tables listed name listing new driven))))
ordered_from tables different r (suc n) listed listing left = cases (find (is_ready tables listed) tables) refl (λ names rest. ordered_from tables different r n names rest)
  where
    cases : (found : Option Table) → find (is_ready tables listed) tables ≡ found
        → ((names : List (List ℕ)) → IsListing tables names → n + length names ≡ length tables → IsOrdered tables (order_from tables n names))
        → IsOrdered tables (option_map_or (λ (table : Table). order_from tables n (listed ++ table.output ∷ [])) found listed)
    cases None none more = finished tables listed listing (λ name driven. stuck tables listed r none (suc (r.rank name)) name (omega arith) driven)
    cases (Some table) first more =
        let (i, there, ready) = find_place (is_ready tables listed) tables table first in
        more (listed ++ table.output ∷ []) (listing_more tables listed i table different listing there ready) (omega (arith, left, length_push listed table.output))

pub ordered : (tables : List Table) → all_different (outputs_of tables) ≡ true → IsAcyclic tables → IsOrdered tables (order_of tables)
unfolding order_of
ordered tables different acyclic = ordered_from tables different (acyclic_rank tables acyclic) (length tables) [] (listing_begun tables) (omega arith)
