-- Tables that are added and change, and the totals of what they save together.
use Rattle.std.proofs.Common.{◌≡◌, ℕ, ◌+◌, ◌<◌, ◌≤◌, zero, suc, List, [], ◌∷◌, ◌++◌, length, get_or, sym, ap, subst, arith}
use Rattle.std.specs.List.{AllByRecursion, sum_by}
use Rattle.std.proofs.Math.ListN.{set}
use Rattle.std.proofs.lemmas.List.Sums.{sum_by-cons, sum_by-append, sum_by-set}
use Rattle.circuit_laws.proofs.Sound.{all_append}
use Rattle.net_gains.specs.CodedGains.{gains}
use Rattle.net_gains.specs.Totals.{total_of}
use Rattle.net_gains.specs.Numbers.{tables_in, AreApart, IsCounted}
use Rattle.net_gains.specs.declared.counted.Counted.{Counted}

-- ---- lists of which one item changes

pub all_set : {X : Type 0} (P : X → Type 0) (xs : List X) (place : ℕ) (x : X) → P x → AllByRecursion P xs → AllByRecursion P (set xs place x)
all_set P [] place x it all = tt
all_set P (first ∷ xs) zero x it all = (it, all.1)
all_set P (first ∷ xs) (suc place) x it all = (all.0, all_set P xs place x it all.1)

pub all_at : {X : Type 0} (P : X → Type 0) (xs : List X) (place : ℕ) (d : X) → place < length xs → AllByRecursion P xs → P (get_or xs place d)
all_at P [] place d h all = absurd (omega arith)
all_at P (first ∷ xs) zero d h all = all.0
all_at P (first ∷ xs) (suc place) d h all = all_at P xs place d (omega arith) all.1

pub one_of_sum : {X : Type 0} (f : X → ℕ) (xs : List X) (place : ℕ) (d : X) → place < length xs → f (get_or xs place d) ≤ sum_by f xs
one_of_sum f [] place d h = absurd (omega arith)
one_of_sum f (first ∷ xs) zero d h = omega (arith, sum_by-cons f first xs)
one_of_sum f (first ∷ xs) (suc place) d h = omega (arith, sum_by-cons f first xs, one_of_sum f xs place d (omega arith))

-- ---- totals

pub counted_more : (old new : Counted) (cubes : List (List ℕ)) → IsCounted old → AreApart cubes → tables_in new.tables.items ≡ tables_in old.tables.items ++ cubes ∷ []
    → ((cover : List (List ℕ)) → total_of new.totals cover ≡ total_of old.totals cover + gains cover cubes) → IsCounted new
counted_more old new cubes counted it more told = record {
  apart = subst (AllByRecursion AreApart) (sym more) (all_append AreApart (tables_in old.tables.items) (cubes ∷ []) counted.apart (it, tt));
  totals = λ cover.
      let whole : sum_by (gains cover) (tables_in new.tables.items) ≡ sum_by (gains cover) (tables_in old.tables.items ++ cubes ∷ []) = ap (sum_by (gains cover)) more in
      omega (arith, told cover, counted.totals cover, whole, sum_by-append (gains cover) (tables_in old.tables.items) (cubes ∷ []), sum_by-cons (gains cover) cubes []);
}

pub counted_changed : (old new : Counted) (place : ℕ) (gone cubes : List (List ℕ)) → IsCounted old → AreApart cubes → place < length (tables_in old.tables.items)
    → gone ≡ get_or (tables_in old.tables.items) place [] → tables_in new.tables.items ≡ set (tables_in old.tables.items) place cubes
    → ((cover : List (List ℕ)) → total_of new.totals cover + gains cover gone ≡ total_of old.totals cover + gains cover cubes) → IsCounted new
counted_changed old new place gone cubes counted it within was changed told = record {
  apart = subst (AllByRecursion AreApart) (sym changed) (all_set AreApart (tables_in old.tables.items) place cubes it counted.apart);
  totals = λ cover.
      let whole : sum_by (gains cover) (tables_in new.tables.items) ≡ sum_by (gains cover) (set (tables_in old.tables.items) place cubes) = ap (sum_by (gains cover)) changed in
      let went : gains cover gone ≡ gains cover (get_or (tables_in old.tables.items) place []) = ap (gains cover) was in
      omega (arith, told cover, counted.totals cover, whole, went, sum_by-set (gains cover) (tables_in old.tables.items) place cubes [] within);
}

-- what a table saves is part of the totals
pub counted_enough : (counted : Counted) (place : ℕ) (gone : List (List ℕ)) → IsCounted counted → place < length (tables_in counted.tables.items) → gone ≡ get_or (tables_in counted.tables.items) place []
    → (cover : List (List ℕ)) → gains cover gone ≤ total_of counted.totals cover
counted_enough counted place gone is within was cover =
    let went : gains cover gone ≡ gains cover (get_or (tables_in counted.tables.items) place []) = ap (gains cover) was in
    omega (arith, went, is.totals cover, one_of_sum (gains cover) (tables_in counted.tables.items) place [] within)
