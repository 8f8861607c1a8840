-- Indices that are listed for names, one name after the other, and what a set says.
use Rattle.std.proofs.Common.{◌≡◌, ℕ, suc, ◌+◌, ◌<◌, ◌≤◌, ◌==◌, Bool, true, false, not, ◌&&◌, ◌||◌, if◌then◌else◌, Option, Some, None, List, [], ◌∷◌, take, length, get_or, set, bytes_eq, inl, inr, refl, sym, ap, ◌∙◌, subst, arith}
use Rattle.std.specs.Prelude.{Result, OnOk, MatchBool}
use Rattle.std.specs.declared.result.Result.TheVariants.{Ok, Err}
use Rattle.std.specs.List.{list_any}
use Rattle.std.specs.Ordering.{nat_cmp, eq_by_cmp}
use Rattle.std.specs.BTreeSet.{BTreeSet, contains}
use Rattle.std.specs.Cmp.{unsigned_tied}
use Rattle.std.proofs.lemmas.Bool.{false≢true, eqb-true, eqb-false, eq-eqb, and_parts}
use Rattle.std.proofs.lemmas.List.{take_all}
use Rattle.std.proofs.lemmas.List.Folds.{list_any_more}
use Rattle.circuit_model.specs.Names.{has}
use Rattle.circuit_laws.proofs.Names.{name_is, name_turned, name_cases}
use Rattle.net_readers.specs.Fanouts.{Inputs, in_set, is_in, with_inputs, AreReaders, HasUntold}

-- an index is listed for each of some names
abbrev pub HasTold : List (List ℕ) → ℕ → (List ℕ → ℕ → Bool) → (List ℕ → ℕ → Bool) → Type 0
HasTold names place before after = (name : List ℕ) (at : ℕ) → after name at ≡ ((has names name && place == at) || before name at)

pub name_swapped : (x y : List ℕ) → bytes_eq x y ≡ bytes_eq y x
name_swapped x y =
    elim (name_cases x y) as (λ _. bytes_eq x y ≡ bytes_eq y x) [
      | inl same ↦ name_is x y same ∙ sym (name_is y x (sym same))
      | inr other ↦ other ∙ sym (name_turned x y other)
    ]

has_more : (names : List (List ℕ)) (i : ℕ) (d name input : List ℕ) → i < length names → input ≡ get_or names i d → has (take (i + 1) names) name ≡ (has (take i names) name || bytes_eq input name)
has_more names i d name input lt is =
    list_any_more (λ other. bytes_eq name other) names i d lt
    ∙ ap (λ (b : Bool). has (take i names) name || b) (ap (bytes_eq name) (sym is) ∙ name_swapped name input)

pub told_more : (names : List (List ℕ)) (i place : ℕ) (d input : List ℕ) (before now after : List ℕ → ℕ → Bool) → i < length names → input ≡ get_or names i d → HasTold (take i names) place before now
    → ((name : List ℕ) (at : ℕ) → after name at ≡ ((bytes_eq input name && place == at) || now name at)) → HasTold (take (i + 1) names) place before after
told_more names i place d input before now after lt is h more name at =
    more name at ∙ (ap (λ (b : Bool). (bytes_eq input name && place == at) || b) (h name at)
    ∙ (by (has (take i names) name) (bytes_eq input name) (place == at) (before name at)
    ∙ ap (λ (b : Bool). (b && place == at) || before name at) (sym (has_more names i d name input lt is))))
  where
    by : (h e p b : Bool) → ((e && p) || ((h && p) || b)) ≡ (((h || e) && p) || b)
    by true true true b = refl
    by true true false b = refl
    by true false true b = refl
    by true false false b = refl
    by false true true b = refl
    by false true false b = refl
    by false false true b = refl
    by false false false b = refl

-- names that were read at an index and are no longer read there are no longer listed

pub untold_none : (now : List (List ℕ)) (place : ℕ) (before : List ℕ → ℕ → Bool) → HasUntold [] now place before before
untold_none now place before = record { others = λ name at apart. refl; gone = λ name h apart. absurd (false≢true h); fewer = λ name h. h }

pub untold_more : (names now : List (List ℕ)) (i place : ℕ) (d input : List ℕ) (moved : Bool) (before mid after : List ℕ → ℕ → Bool) → i < length names → input ≡ get_or names i d → HasUntold (take i names) now place before mid
    → (moved ≡ false → has now input ≡ true)
    → ((name : List ℕ) (at : ℕ) → after name at ≡ (not (moved && (bytes_eq input name && place == at)) && mid name at)) → HasUntold (take (i + 1) names) now place before after
untold_more names now i place d input moved before mid after lt is h stays less = record {
  others = λ name at apart. less name at ∙ (ap (λ (b : Bool). not (moved && (bytes_eq input name && b)) && mid name at) apart ∙ (other moved (bytes_eq input name) (mid name at) ∙ h.others name at apart));
  gone = λ name done away. less name place ∙ here name done away moved refl (bytes_eq input name) refl;
  fewer = λ name k. h.fewer name ((and_parts (not (moved && (bytes_eq input name && place == place))) (mid name place) (sym (less name place) ∙ k)).1);
}
  where
    other : (a e m : Bool) → (not (a && (e && false)) && m) ≡ m
    other true true m = refl
    other true false m = refl
    other false e m = refl

    front : (b : Bool) → (b || false) ≡ true → b ≡ true
    front true k = refl
    front false k = k

    and_none : (a m : Bool) → m ≡ false → (a && m) ≡ false
    and_none true m k = k
    and_none false m k = refl

    here : (name : List ℕ) → has (take (i + 1) names) name ≡ true → has now name ≡ false → (a : Bool) → moved ≡ a → (e : Bool) → bytes_eq input name ≡ e → (not (moved && (bytes_eq input name && place == place)) && mid name place) ≡ false
    here name done away true m true e =
        rw (m, e, eq-eqb place place refl) refl
    here name done away false m true e =
        elim (name_cases input name) as (λ _. (not (moved && (bytes_eq input name && place == place)) && mid name place) ≡ false) [
          | inl same ↦ absurd (false≢true (sym away ∙ subst (λ (n : List ℕ). has now n ≡ true) same (stays m)))
          | inr apart ↦ absurd (false≢true (sym apart ∙ e))
        ]
    here name done away a m false e =
        and_none (not (moved && (bytes_eq input name && place == place))) (mid name place)
        (h.gone name (front (has (take i names) name) (ap (λ (b : Bool). has (take i names) name || b) (sym e) ∙ (sym (has_more names i d name input lt is) ∙ done))) away)

pub untold_all : (names now : List (List ℕ)) (i place : ℕ) (before after : List ℕ → ℕ → Bool) → length names ≤ i → HasUntold (take i names) now place before after → HasUntold names now place before after
untold_all names now i place before after le h = subst (λ (ns : List (List ℕ)). HasUntold ns now place before after) (take_all i names le) h

-- the inputs at an index are replaced by others
pub readers_changed : (inputs : Inputs) (place : ℕ) (names now : List (List ℕ)) (before mid after : List ℕ → ℕ → Bool) → HasUntold names now place before mid → HasTold now place mid after
    → AreReaders before inputs → inputs place ≡ names → AreReaders after (with_inputs inputs place now)
readers_changed inputs place names now before mid after less more all here name at = more name at ∙ by (place == at) refl
  where
    read_before : before name place ≡ has names name
    read_before = all name place ∙ ap (λ (ns : List (List ℕ)). has ns name) here

    away : has now name ≡ false → (b : Bool) → mid name place ≡ b → mid name place ≡ false
    away none true e = absurd (false≢true (sym (less.gone name (sym read_before ∙ less.fewer name e) none) ∙ e))
    away none false e = e

    own : (b : Bool) → has now name ≡ b → ((b && true) || mid name place) ≡ b
    own true e = refl
    own false e = away e (mid name place) refl

    and_false : (b c : Bool) → ((b && false) || c) ≡ c
    and_false true c = refl
    and_false false c = refl

    by : (b : Bool) → (place == at) ≡ b → ((has now name && place == at) || mid name at) ≡ has (if place == at then now else inputs at) name
    by true e =
        ap (λ (b : Bool). (has now name && b) || mid name at) e
        ∙ (subst (λ (n : ℕ). ((has now name && true) || mid name n) ≡ has now name) (eqb-true place at e) (own (has now name) refl)
        ∙ ap (λ (b : Bool). has (if b then now else inputs at) name) (sym e))
    by false e =
        ap (λ (b : Bool). (has now name && b) || mid name at) e
        ∙ (and_false (has now name) (mid name at)
        ∙ (less.others name at e
        ∙ (all name at ∙ ap (λ (b : Bool). has (if b then now else inputs at) name) (sym e))))

-- what a set says

same_any : (place : ℕ) (keys : List ℕ) → list_any (eq_by_cmp nat_cmp place) keys ≡ list_any (λ other. other == place) keys
same_any place [] = refl
same_any place (key ∷ keys) = rw (unsigned_tied place key, turned place key, same_any place keys) refl
  where
    apart : (x y : ℕ) → (x == y) ≡ false → (b : Bool) → (y == x) ≡ b → b ≡ false
    apart x y e true f = absurd (eqb-false x y e (sym (eqb-true y x f)))
    apart x y e false f = refl

    cases : (x y : ℕ) (b : Bool) → (x == y) ≡ b → (x == y) ≡ (y == x)
    cases x y true e = e ∙ sym (eq-eqb y x (sym (eqb-true x y e)))
    cases x y false e = e ∙ sym (apart x y e (y == x) refl)

    turned : (x y : ℕ) → (x == y) ≡ (y == x)
    turned x y = cases x y (x == y) refl

pub set_lists : (set : BTreeSet ℕ) (place : ℕ) → contains nat_cmp set place ≡ is_in set.keys place
set_lists set place = same_any place set.keys

-- whether a set is empty says whether an index is listed
pub some_told : (told : ℕ → Bool) (set : BTreeSet ℕ) (empty : Bool) → ((place : ℕ) → told place ≡ contains nat_cmp set place)
    → (empty ≡ true → length set.keys ≡ 0) → (length set.keys ≡ 0 → empty ≡ true) → MatchBool (not empty) ((place : ℕ) × (told place ≡ true)) ((place : ℕ) → told place ≡ false)
some_told told set empty is there back = by set.keys refl empty refl
  where
    from_keys : (keys : List ℕ) → set.keys ≡ keys → (place : ℕ) → told place ≡ is_in keys place
    from_keys keys e place = is place ∙ (set_lists set place ∙ ap (λ (ks : List ℕ). is_in ks place) e)

    by : (keys : List ℕ) → set.keys ≡ keys → (b : Bool) → empty ≡ b → MatchBool (not b) ((place : ℕ) × (told place ≡ true)) ((place : ℕ) → told place ≡ false)
    by [] e true f = λ place. from_keys [] e place
    by [] e false f = absurd (false≢true (sym f ∙ back (ap length e)))
    by (key ∷ keys) e true f = absurd (let z : suc (length keys) ≡ 0 = ap length (sym e) ∙ there f in omega (arith, z))
    by (key ∷ keys) e false f = (key, from_keys (key ∷ keys) e key ∙ ap (λ (b : Bool). b || is_in keys key) (eq-eqb key key refl))

-- the keys of a set as indices
pub keys_listed : (set : BTreeSet ℕ) (places : List ℕ) → places ≡ set.keys → (place : ℕ) → is_in places place ≡ contains nat_cmp set place
keys_listed set places same place = ap (λ (ps : List ℕ). is_in ps place) same ∙ sym (set_lists set place)

-- what an optional set says
pub told_none_at : (o : Option (BTreeSet ℕ)) → o ≡ None → (place : ℕ) → in_set o place ≡ false
told_none_at o e place = ap (λ (x : Option (BTreeSet ℕ)). in_set x place) e

pub told_some_at : (o : Option (BTreeSet ℕ)) (set : BTreeSet ℕ) → o ≡ Some set → (place : ℕ) → in_set o place ≡ contains nat_cmp set place
told_some_at o set e place = ap (λ (x : Option (BTreeSet ℕ)). in_set x place) e

pub not_moved : (b : Bool) → not b ≡ false → b ≡ true
not_moved true h = refl
not_moved false h = absurd (false≢true (sym h))

-- what holds where a call went well
pub on_ok : {T E : Type 0} (r : Result T E) {A B : Type 0} → (A → B) → OnOk r A → OnOk r B
on_ok (Ok x) f h = f h
on_ok (Err e) f h = tt
