-- The least of tables: the first of least value, and it alone.
use Rattle.std.proofs.Common.{◌≡◌, ℤ, pos, negsuc, Bool, true, false, cond, Option, Some, None, List, [], ◌∷◌, ◌++◌, int_lt, refl, sym, ap, ◌∙◌, subst, arith}
use Rattle.std.specs.List.{AllByRecursion}
use Rattle.std.proofs.lemmas.Bool.{false≢true, le-ltb, ltb-true, ltb-false}
use Rattle.std.proofs.lemmas.Option.{none-some, same_Some}
use Rattle.circuit_model.specs.declared.circuit.Table.{Table}
use Rattle.net_elim.specs.Eliminating.{lesser, least, IsFirstLeast}
use Rattle.net_elim.proofs.Stepping.{all_weaker, least_all, least_none}

-- whole numbers in their order
turned : (a b : ℤ) → int_lt a b ≡ true → int_lt b a ≡ false
turned (pos a) (pos b) h = le-ltb b a (omega (arith, ltb-true a b h))
turned (pos a) (negsuc b) h = absurd (false≢true h)
turned (negsuc a) (pos b) h = refl
turned (negsuc a) (negsuc b) h = le-ltb a b (omega (arith, ltb-true b a h))

through : (a b c : ℤ) → int_lt b c ≡ false → int_lt a b ≡ false → int_lt a c ≡ false
through (pos a) (pos b) (pos c) h k = le-ltb a c (omega (arith, ltb-false b c h, ltb-false a b k))
through (pos a) b (negsuc c) h k = refl
through (pos a) (negsuc b) (pos c) h k = absurd (false≢true (sym h))
through (negsuc a) (pos b) c h k = absurd (false≢true (sym k))
through (negsuc a) (negsuc b) (pos c) h k = absurd (false≢true (sym h))
through (negsuc a) (negsuc b) (negsuc c) h k = le-ltb c a (omega (arith, ltb-false c b h, ltb-false b a k))

under : (a b c : ℤ) → int_lt b c ≡ false → int_lt b a ≡ true → int_lt a c ≡ false
under a b c h k = through a b c h (turned b a k)

all_append : (P : Table → Type 0) (front back : List Table) → AllByRecursion P front → AllByRecursion P back → AllByRecursion P (front ++ back)
all_append P [] back p q = q
all_append P (first ∷ front) back p q = (p.0, all_append P front back p.1 q)

-- the later tables are not chosen if a table is no greater
none_lesser : (value : Table → ℤ) (tables : List Table) (table other : Table) → IsFirstLeast value tables other → int_lt (value other) (value table) ≡ false
    → AllByRecursion (λ third. int_lt (value third) (value table) ≡ false) tables
none_lesser value tables table other least over =
    subst (AllByRecursion (λ third. int_lt (value third) (value table) ≡ false)) (sym least.among)
    (all_append (λ third. int_lt (value third) (value table) ≡ false) least.before (other ∷ least.after)
    (all_weaker (λ third. int_lt (value other) (value third) ≡ true) (λ third. int_lt (value third) (value table) ≡ false) (λ third h. under (value third) (value other) (value table) over h) least.before least.greater)
    (over, all_weaker (λ third. int_lt (value third) (value other) ≡ false) (λ third. int_lt (value third) (value table) ≡ false) (λ third h. through (value third) (value other) (value table) over h) least.after least.no_lesser))

pub least_first : (value : Table → ℤ) (tables : List Table) (table : Table) → least value tables ≡ Some table → IsFirstLeast value tables table
unfolding least
least_first value [] table e = absurd (none-some table e)
least_first value (first ∷ tables) table e =
    subst (IsFirstLeast value (first ∷ tables)) (same_Some (lesser value first (least value tables)) table e)
    (either (least value tables) refl (λ other at. least_first value tables other at))
  where
    pick : (other : Table) → IsFirstLeast value tables other → (b : Bool) → int_lt (value other) (value first) ≡ b → IsFirstLeast value (first ∷ tables) (cond b other first)
    pick other h true under = record {
      before = first ∷ h.before;
      after = h.after;
      among = ap (λ (ts : List Table). first ∷ ts) h.among;
      greater = (under, h.greater);
      no_lesser = h.no_lesser;
    }
    pick other h false over = record { before = []; after = tables; among = refl; greater = tt; no_lesser = none_lesser value tables first other h over }

    either : (later : Option Table) → least value tables ≡ later → ((other : Table) → later ≡ Some other → IsFirstLeast value tables other) → IsFirstLeast value (first ∷ tables) (lesser value first later)
    either None none more = record {
      before = [];
      after = tables;
      among = refl;
      greater = tt;
      no_lesser = subst (AllByRecursion (λ other. int_lt (value other) (value first) ≡ false)) (sym (least_none value tables none)) tt;
    }
    either (Some other) here more = pick other (more other refl) (int_lt (value other) (value first)) refl

-- one that is first and least is found
found_here : (value : Table → ℤ) (table : Table) (after : List Table) → AllByRecursion (λ other. int_lt (value other) (value table) ≡ false) after → least value (table ∷ after) ≡ Some table
unfolding least
found_here value table after none = cases (least value after) (λ other at. least_all (λ third. int_lt (value third) (value table) ≡ false) value after none other at)
  where
    cases : (later : Option Table) → ((other : Table) → later ≡ Some other → int_lt (value other) (value table) ≡ false) → Some (lesser value table later) ≡ Some table
    cases None more = refl
    cases (Some other) more = ap (λ (b : Bool). Some (cond b other table)) (more other refl)

step : (value : Table → ℤ) (first table : Table) (tables : List Table) → least value tables ≡ Some table → int_lt (value table) (value first) ≡ true → least value (first ∷ tables) ≡ Some table
unfolding least
step value first table tables at under =
    ap (λ (later : Option Table). Some (lesser value first later)) at ∙ ap (λ (b : Bool). Some (cond b table first)) under

pub least_only : (value : Table → ℤ) (tables : List Table) (table : Table) → IsFirstLeast value tables table → least value tables ≡ Some table
least_only value tables table h = ap (least value) h.among ∙ by h.before h.greater
  where
    by : (before : List Table) → AllByRecursion (λ other. int_lt (value table) (value other) ≡ true) before → least value (before ++ table ∷ h.after) ≡ Some table
    by [] all = found_here value table h.after h.no_lesser
    by (first ∷ before) all = step value first table (before ++ table ∷ h.after) (by before all.1) all.0
