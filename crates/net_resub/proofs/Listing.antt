-- Indices in lists under names: one more, those under some names, and the indices of tables.
use Rattle.std.proofs.Common.{◌≡◌, ℕ, ◌+◌, ◌-◌, ◌<◌, ◌≤◌, ◌==◌, ◌↔◌, Bool, true, false, ◌||◌, not, Option, Some, None, List, [], ◌∷◌, ◌++◌, length, get_or, slice_get, take, bytes_eq, eqb, ltb, eqb-true, refl, sym, ap, ◌∙◌, subst, inl, inr, arith}
use Rattle.std.specs.Prelude.{IsTrue}
use Rattle.std.specs.List.{last_or}
use Rattle.std.proofs.lemmas.Bool.{false≢true, or_cases, eq-eqb, or_left, or_right, ltb-true, ltb-false, lt-ltb}
use Rattle.std.proofs.lemmas.List.{take_more}
use Rattle.std.proofs.lemmas.List.Folds.{list_any-append}
use Rattle.std.proofs.lemmas.Option.{same_Some}
use Rattle.circuit_model.specs.Names.{has}
use Rattle.circuit_model.specs.declared.circuit.Table.{Table}
use Rattle.circuit_laws.proofs.Names.{same_name, has_either}
use Rattle.net_readers.specs.Fanouts.{is_in}
use Rattle.cover_names.specs.Cubes.{is_over}
use Rattle.net_work.specs.Placed.{table_at}
use Rattle.net_resub.specs.Resubbed.{row_cubes}
use Rattle.net_resub.specs.Listed.{IsNeeded, HasPut, HasPutUnder, AreJoined, IsListed, AreListed, is_under}
use Rattle.net_resub.specs.declared.listed.DivisorLists.{DivisorLists}
use Rattle.net_work.proofs.Indexed.{place_within}

-- indices after others
pub in_append : (xs ys : List ℕ) (at : ℕ) → is_in (xs ++ ys) at ≡ (is_in xs at || is_in ys at)
in_append xs ys at = list_any-append (λ (other : ℕ). eqb other at) xs ys

pub in_front : (xs ys : List ℕ) (at : ℕ) → is_in xs at ≡ true → is_in (xs ++ ys) at ≡ true
in_front xs ys at m = in_append xs ys at ∙ or_left (is_in xs at) (is_in ys at) m

pub in_back : (xs ys : List ℕ) (at : ℕ) → is_in ys at ≡ true → is_in (xs ++ ys) at ≡ true
in_back xs ys at m = in_append xs ys at ∙ or_right (is_in xs at) (is_in ys at) m

pub one_in : (place : ℕ) → is_in (place ∷ []) place ≡ true
one_in place = ap (λ (b : Bool). b || false) (eq-eqb place place refl)

-- the last index of some
last_from : (before : Option ℕ) (x : ℕ) (xs : List ℕ) → last_or before (x ∷ xs) ≡ slice_get (x ∷ xs) (length xs)
last_from before x [] = refl
last_from before x (y ∷ ys) = last_from (Some x) y ys

last_at : (xs : List ℕ) → last_or None xs ≡ slice_get xs (length xs - 1)
last_at [] = refl
last_at (x ∷ xs) = last_from None x xs ∙ ap (slice_get (x ∷ xs)) (omega arith)

pub is_last_told : (xs : List ℕ) (place last : ℕ) → Some last ≡ slice_get xs (length xs - 1) → IsTrue (last == place) ↔ (last_or None xs ≡ Some place)
is_last_told xs place last is = (
  (λ (same : IsTrue (last == place)). last_at xs ∙ (sym is ∙ ap (λ (n : ℕ). Some n) (eqb-true last place same))),
  (λ (ends : last_or None xs ≡ Some place). eq-eqb last place (same_Some last place (is ∙ (sym (last_at xs) ∙ ends)))),
)

last_among : (before : Option ℕ) (x : ℕ) (xs : List ℕ) (place : ℕ) → last_or before (x ∷ xs) ≡ Some place → is_in (x ∷ xs) place ≡ true
last_among before x [] place ends = ap (λ (n : ℕ). is_in (n ∷ []) place) (same_Some x place ends) ∙ one_in place
last_among before x (y ∷ ys) place ends = or_right (eqb x place) (is_in (y ∷ ys) place) (last_among (Some x) y ys place ends)

pub last_in : (xs : List ℕ) (place : ℕ) → last_or None xs ≡ Some place → is_in xs place ≡ true
last_in [] place ends = absurd (let none = ends in cc)
last_in (x ∷ xs) place ends = last_among None x xs place ends

-- those under one more name
joined_more : (under : List ℕ → ℕ → Bool) (names : List (List ℕ)) (name : List ℕ) (before places new : List ℕ) → AreJoined under names before places
    → ((at : ℕ) → is_in new at ≡ (is_in places at || under name at)) → AreJoined under (names ++ name ∷ []) before new
joined_more under names name before places new are told = record {
  more = λ at m. told at ∙ or_left (is_in places at) (under name at) (are.more at m);
  listed = λ at other among m.
      told at
      ∙ elim (has_either names (name ∷ []) other among) as (λ _. (is_in places at || under name at) ≡ true) [
        | inl h ↦ or_left (is_in places at) (under name at) (are.listed at other h m)
        | inr h ↦ or_right (is_in places at) (under name at) (ap (λ (n : List ℕ). under n at) (sym (same other h)) ∙ m)
      ];
}
  where
    same : (other : List ℕ) → has (name ∷ []) other ≡ true → other ≡ name
    same other m = elim (or_cases (bytes_eq other name) false m) as (λ _. other ≡ name) [ inl e ↦ same_name other name e | inr e ↦ absurd (false≢true e) ]

pub joined_next : (under : List ℕ → ℕ → Bool) (names : List (List ℕ)) (i : ℕ) (name : List ℕ) (before places new : List ℕ) → i < length names → name ≡ get_or names i name → AreJoined under (take i names) before places
    → ((at : ℕ) → is_in new at ≡ (is_in places at || under name at)) → AreJoined under (take (i + 1) names) before new
joined_next under names i name before places new below is are told =
    subst (λ (ns : List (List ℕ)). AreJoined under ns before new) (ap (λ (n : List ℕ). take i names ++ n ∷ []) is ∙ sym (take_more names i name below)) (joined_more under (take i names) name before places new are told)

-- one more table
one_more : (test : ℕ → Bool) (slots : List (Option Table)) (old new : DivisorLists) (place : ℕ) → AreListed test slots old
    → ((at : ℕ) (table : Table) → IsListed old at table → IsListed new at table) → ((table : Table) → table_at slots place ≡ Some table → IsListed new place table)
    → AreListed (λ at. test at || place == at) slots new
one_more test slots old new place are still here at table may there = elim (or_cases (test at) (place == at) may) as (λ _. IsListed new at table) [
  | inl before ↦ still at table (are at table before there)
  | inr same ↦ (let e : place ≡ at = eqb-true place at same in subst (λ (n : ℕ). IsListed new n table) e (here table (ap (table_at slots) e ∙ there)))
]

pub unnamed_listed : (test : ℕ → Bool) (slots : List (Option Table)) (old new : DivisorLists) (place : ℕ) (table : Table) → table_at slots place ≡ Some table → is_over [] (row_cubes table) ≡ true → HasPut place old.unnamed.items new.unnamed.items
    → ((name : List ℕ) (at : ℕ) → is_under old name at ≡ true → is_under new name at ≡ true) → AreListed test slots old → AreListed (λ at. test at || place == at) slots new
unnamed_listed test slots old new place table there empty put keeps are = one_more test slots old new place are still here
  where
    still : (at : ℕ) (one : Table) → IsListed old at one → IsListed new at one
    still at one (inl (m, none)) = inl (put.still at m, none)
    still at one (inr (name, needed, under)) = inr (name, needed, keeps name at under)

    here : (one : Table) → table_at slots place ≡ Some one → IsListed new place one
    here one at = inl (put.here, subst (λ (t : Table). is_over [] (row_cubes t) ≡ true) (same_Some table one (sym there ∙ at)) empty)

pub named_listed : (test : ℕ → Bool) (slots : List (Option Table)) (old new : DivisorLists) (place : ℕ) (table : Table) (name : List ℕ) → table_at slots place ≡ Some table → IsNeeded (row_cubes table) name
    → ((at : ℕ) → is_in old.unnamed.items at ≡ true → is_in new.unnamed.items at ≡ true) → HasPutUnder name place (is_under old) (is_under new) → AreListed test slots old
    → AreListed (λ at. test at || place == at) slots new
named_listed test slots old new place table name there needed keeps put are = one_more test slots old new place are still here
  where
    still : (at : ℕ) (one : Table) → IsListed old at one → IsListed new at one
    still at one (inl (m, none)) = inl (keeps at m, none)
    still at one (inr (other, need, under)) = inr (other, need, put.still other at under)

    here : (one : Table) → table_at slots place ≡ Some one → IsListed new place one
    here one at = inr (name, subst (λ (t : Table). IsNeeded (row_cubes t) name) (same_Some table one (sym there ∙ at)) needed, put.here)

-- the tables at the first indices
pub listed_more : (slots : List (Option Table)) (lists : DivisorLists) (count : ℕ) → AreListed (λ at. ltb at count || count == at) slots lists → AreListed (λ at. ltb at (count + 1)) slots lists
listed_more slots lists count are at table below there = are at table (cases (ltb at count) refl) there
  where
    cases : (b : Bool) → ltb at count ≡ b → (b || count == at) ≡ true
    cases true e = refl
    cases false e = let lt = ltb-true at (count + 1) below in let le = ltb-false at count e in eq-eqb count at (omega (arith, lt, le))

pub listed_all : (slots : List (Option Table)) (lists : DivisorLists) (count : ℕ) → length slots ≤ count → AreListed (λ at. ltb at count) slots lists → AreListed (λ at. true) slots lists
listed_all slots lists count long are at table all there = are at table (let below = place_within slots at table there in lt-ltb at count (omega (arith, below, long))) there

pub listed_whole : (slots : List (Option Table)) (lists : DivisorLists) (place : ℕ) → AreListed (λ at. not (place == at) || place == at) slots lists → AreListed (λ at. true) slots lists
listed_whole slots lists place are at table all there = are at table (either (place == at)) there
  where
    either : (b : Bool) → (not b || b) ≡ true
    either true = refl
    either false = refl

pub listed_beside : (slots : List (Option Table)) (lists : DivisorLists) (place : ℕ) → AreListed (λ at. true) slots lists → AreListed (λ at. not (place == at)) slots lists
listed_beside slots lists place are at table other there = are at table refl there
