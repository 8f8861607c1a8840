-- Two lists compared pair by pair: what a loop along both finds.
use Rattle.std.proofs.Common.{◌≡◌, ◌<◌, ◌≤◌, ◌+◌, ◌-◌, ℕ, suc, true, false, List, [], ◌∷◌, length, drop, drop-cons, get_or, Less, Equal, Greater, nat_cmp, refl, sym, ap, ap₂, ◌∙◌, arith}
use Rattle.std.specs.Prelude.{min}
use Rattle.std.specs.Cmp.{nat_cmp_is}
use Rattle.std.specs.Ordering.{is_ne, ordering_then}
use Rattle.std.specs.declared.cmp.Ordering.{Ordering}
use Rattle.std.proofs.lemmas.Bool.{false≢true}
use Rattle.std.proofs.lemmas.List.{length-drop}
use Rattle.net_gains.specs.CodedGains.{numbers_cmp}

-- numbers that differ decide, and others leave it to those after them
decides : (order rest : Ordering) → is_ne order ≡ true → order ≡ ordering_then order rest
decides Less rest h = refl
decides Equal rest h = absurd (false≢true h)
decides Greater rest h = refl

defers : (order rest : Ordering) → is_ne order ≡ false → rest ≡ ordering_then order rest
defers Less rest h = absurd (false≢true (sym h))
defers Equal rest h = refl
defers Greater rest h = absurd (false≢true (sym h))

module _ (xs ys : List ℕ) (i d e : ℕ) (lt : i < length xs) (under : i < length ys) where
  pair : ordering_then (nat_cmp (get_or xs i d) (get_or ys i e)) (numbers_cmp (drop (suc i) xs) (drop (suc i) ys)) ≡ numbers_cmp (drop i xs) (drop i ys)
  pair = sym (ap₂ numbers_cmp (drop-cons xs i d lt) (drop-cons ys i e under))

  pub found_here : (order : Ordering) → order ≡ nat_cmp (get_or xs i d) (get_or ys i e) → is_ne order ≡ true → numbers_cmp (drop i xs) (drop i ys) ≡ numbers_cmp xs ys → order ≡ numbers_cmp xs ys
  found_here order is ne h =
      let rest = numbers_cmp (drop (suc i) xs) (drop (suc i) ys) in
      decides order rest ne ∙ (ap (λ (o : Ordering). ordering_then o rest) is ∙ (pair ∙ h))

  pub found_later : (order : Ordering) → order ≡ nat_cmp (get_or xs i d) (get_or ys i e) → is_ne order ≡ false → numbers_cmp (drop i xs) (drop i ys) ≡ numbers_cmp xs ys
      → numbers_cmp (drop (i + 1) xs) (drop (i + 1) ys) ≡ numbers_cmp xs ys
  found_later order is eq h =
      let rest = numbers_cmp (drop (suc i) xs) (drop (suc i) ys) in
      ap (λ (n : ℕ). numbers_cmp (drop n xs) (drop n ys)) (let z : i + 1 ≡ suc i = omega arith in z)
      ∙ (defers order rest eq ∙ (ap (λ (o : Ordering). ordering_then o rest) is ∙ (pair ∙ h)))

-- at the end of the shorter list the lengths decide
pub found_last : (xs ys : List ℕ) (i : ℕ) → i ≤ length xs → i ≤ length ys → min (length xs) (length ys) ≤ i → numbers_cmp (drop i xs) (drop i ys) ≡ nat_cmp (length xs) (length ys)
found_last xs ys i le under end = cases (drop i xs) (drop i ys) (length-drop i xs) (length-drop i ys)
  where
    cases : (us vs : List ℕ) → length us ≡ length xs - i → length vs ≡ length ys - i → numbers_cmp us vs ≡ nat_cmp (length xs) (length ys)
    cases [] [] p q = nat_cmp_is (length xs) (length ys) Equal (omega (arith, le, under, p, q))
    cases [] (v ∷ vs) p q = nat_cmp_is (length xs) (length ys) Less (omega (arith, le, under, p, q))
    cases (u ∷ us) [] p q = nat_cmp_is (length xs) (length ys) Greater (omega (arith, le, under, p, q))
    cases (u ∷ us) (v ∷ vs) p q = absurd (omega (arith, le, under, end, p, q))
