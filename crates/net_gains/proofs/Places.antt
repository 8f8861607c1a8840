-- Positions of names in a list: less than its length, each name at its own; in a rising list in the
-- order of the names.
use Rattle.std.proofs.Common.{◌≡◌, ℕ, ◌+◌, ◌*◌, ◌<◌, zero, suc, Bool, true, false, List, [], ◌∷◌, length, get_or, bytes_eq, Ordering, Less, Equal, Greater, nat_cmp, refl, sym, ap, ap₂, ◌∙◌, subst, arith}
use Rattle.std.specs.Cmp.{nat_cmp_is}
use Rattle.std.specs.Ordering.{bool_cmp, ordering_then, ordering_reverse}
use Rattle.std.proofs.lemmas.Bool.{or_left, or_right}
use Rattle.std.proofs.lemmas.Cmp.{ranked, tied_itself}
use Rattle.std.proofs.lemmas.List.Sums.{passes_at_first}
use Rattle.std.proofs.lemmas.Map.Keys.{Less-from_sorted}
use Rattle.std.proofs.lemmas.Slice.Eq.{bytes_eq-Decides}
use Rattle.circuit_model.specs.Names.{has}
use Rattle.cover_names.specs.Literals.{literal_cmp}
use Rattle.cover_names.specs.declared.literal.Literal.{Literal}
use Rattle.alg_tables.proofs.Divided.{name_order}
use Rattle.circuit_tables.proofs.Once.{place_within}
use Rattle.net_gains.specs.Codes.{name_cmp, AreRising, place_of, bit_number, code_of}

-- ---- positions of names

pub name_at_place : (names : List (List ℕ)) (name other : List ℕ) → has names name ≡ true → get_or names (place_of names name) other ≡ name
name_at_place names name other h =
    sym ((bytes_eq-Decides name (get_or names (place_of names name) other)).0 (passes_at_first (bytes_eq name) names other (place_within names name h)))

pub has_at_place : (names : List (List ℕ)) (place : ℕ) (other : List ℕ) → place < length names → has names (get_or names place other) ≡ true
has_at_place [] place other h = absurd (omega arith)
has_at_place (first ∷ names) zero other h = or_left (bytes_eq first first) (has names first) ((bytes_eq-Decides first first).1 refl)
has_at_place (first ∷ names) (suc place) other h = or_right (bytes_eq (get_or names place other) first) _ (has_at_place names place other (omega arith))

module _ (names : List (List ℕ)) (rising : AreRising names) where
  -- names at different positions of a rising list are in the order of the positions
  at_places : (one other : ℕ) → one < length names → other < length names → name_cmp (get_or names one []) (get_or names other []) ≡ nat_cmp one other
  at_places one other low high = cases (nat_cmp one other) refl
    where
      cases : (o : Ordering) → o ≡ nat_cmp one other → name_cmp (get_or names one []) (get_or names other []) ≡ o
      cases Less e = Less-from_sorted name_cmp names one other [] rising (ranked one other Less e) high
      cases Equal e =
          subst (λ (place : ℕ). name_cmp (get_or names one []) (get_or names place []) ≡ Equal) (ranked one other Equal e) (tied_itself name_order.total (get_or names one []))
      cases Greater e =
          name_order.total.antisymm (get_or names one []) (get_or names other [])
          ∙ ap ordering_reverse (Less-from_sorted name_cmp names other one [] rising (ranked one other Greater e) low)

  pub places_keep_order : (one other : List ℕ) → has names one ≡ true → has names other ≡ true → nat_cmp (place_of names one) (place_of names other) ≡ name_cmp one other
  places_keep_order one other first second =
      sym (at_places (place_of names one) (place_of names other) (place_within names one first) (place_within names other second))
      ∙ ap₂ name_cmp (name_at_place names one [] first) (name_at_place names other [] second)

  pub place_of_name : (place : ℕ) → place < length names → place_of names (get_or names place []) ≡ place
  place_of_name place h =
      ranked (place_of names (get_or names place [])) place Equal
      (sym (tied_itself name_order.total (get_or names place []))
      ∙ ap (λ (name : List ℕ). name_cmp name (get_or names place [])) (sym (name_at_place names (get_or names place []) [] there))
      ∙ at_places (place_of names (get_or names place [])) place (place_within names (get_or names place []) there) h)
    where
      there : has names (get_or names place []) ≡ true
      there = has_at_place names place [] h

-- ---- codes of literals

pub bit_number_small : (bit : Bool) → bit_number bit < 2
bit_number_small true = omega arith
bit_number_small false = omega arith

same_place : (m n : ℕ) (one other : Bool) → m ≡ n → nat_cmp (2 * m + bit_number one) (2 * n + bit_number other) ≡ bool_cmp one other
same_place m n true true e = sym (nat_cmp_is (2 * m + 1) (2 * n + 1) Equal (omega (arith, e)))
same_place m n true false e = sym (nat_cmp_is (2 * m + 1) (2 * n + 0) Greater (omega (arith, e)))
same_place m n false true e = sym (nat_cmp_is (2 * m + 0) (2 * n + 1) Less (omega (arith, e)))
same_place m n false false e = sym (nat_cmp_is (2 * m + 0) (2 * n + 0) Equal (omega (arith, e)))

twice : (m n : ℕ) (one other : Bool) → nat_cmp (2 * m + bit_number one) (2 * n + bit_number other) ≡ ordering_then (nat_cmp m n) (bool_cmp one other)
twice m n one other = cases (nat_cmp m n) refl (bit_number_small one) (bit_number_small other)
  where
    cases : (o : Ordering) → o ≡ nat_cmp m n → bit_number one < 2 → bit_number other < 2
        → nat_cmp (2 * m + bit_number one) (2 * n + bit_number other) ≡ ordering_then o (bool_cmp one other)
    cases Less e low high =
        let lt : m < n = ranked m n Less e in
        sym (nat_cmp_is (2 * m + bit_number one) (2 * n + bit_number other) Less (omega arith))
    cases Equal e low high = same_place m n one other (ranked m n Equal e)
    cases Greater e low high =
        let lt : n < m = ranked m n Greater e in
        sym (nat_cmp_is (2 * m + bit_number one) (2 * n + bit_number other) Greater (omega arith))

pub codes_keep_order : (names : List (List ℕ)) → AreRising names → (one other : Literal) → has names one.name ≡ true → has names other.name ≡ true
    → nat_cmp (code_of names one) (code_of names other) ≡ literal_cmp one other
unfolding code_of
codes_keep_order names rising one other first second =
    twice (place_of names one.name) (place_of names other.name) one.bit other.bit
    ∙ ap (λ (o : Ordering). ordering_then o (bool_cmp one.bit other.bit)) (places_keep_order names rising one.name other.name first second)

pub code_below : (names : List (List ℕ)) (literal : Literal) → has names literal.name ≡ true → code_of names literal < 2 * length names
unfolding code_of
code_below names literal h =
    let low : place_of names literal.name < length names = place_within names literal.name h in
    let bit : bit_number literal.bit < 2 = bit_number_small literal.bit in
    omega arith
