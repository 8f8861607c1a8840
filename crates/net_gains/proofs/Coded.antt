-- Codes carry over all that the orders of literals, cubes and covers decide: what two cubes share,
-- sums of two cubes, and the gains of rows.
use Rattle.std.proofs.Common.{◌≡◌, ℕ, ◌+◌, ◌-◌, ◌*◌, ◌<◌, zero, suc, Bool, true, false, not, ◌&&◌, cond, List, [], ◌∷◌, map, length, nat_eq, nat_cmp, is_eq, Equal, refl, sym, ap, ap₂, ◌∙◌, subst, arith, inl, inr, lt-ltb}
use Rattle.std.specs.Cmp.{Equal-is, unsigned_ties}
use Rattle.std.specs.List.{AllByRecursion, list_any, sum_by}
use Rattle.std.proofs.lemmas.Bool.{and_parts, and_from}
use Rattle.std.proofs.lemmas.Cmp.{nat_cmp_total, ranked}
use Rattle.std.proofs.lemmas.List.{length-map}
use Rattle.std.proofs.lemmas.List.Sums.{sum_by-cons}
use Rattle.circuit_model.specs.Names.{has}
use Rattle.circuit_laws.proofs.Sound.{all_filter}
use Rattle.net_gains.specs.CodedGains.{numbers_cmp, lists_cmp, same_lists, shared as shared_numbers, own as own_numbers, is_one as is_empty, sum_of_two as sum_of_lists, sum_gain as sum_gain_of, product_gain as product_gain_of, gains as gains_of}
use Rattle.net_candidates.specs.Candidates.{same_literal, shared, own, literals_in}
use Rattle.cover_names.specs.Literals.{Cube, NamedCover, literal_cmp, cube_cmp, cover_cmp, sorted}
use Rattle.cover_names.specs.Cubes.{is_over}
use Rattle.cover_names.specs.Orders.{literal_ties}
use Rattle.cover_names.specs.declared.literal.Literal.{Literal}
use Rattle.cover_names.proofs.Back.{has_map}
use Rattle.cover_names.proofs.Members.{Has}
use Rattle.cover_names.proofs.Orders.{IsOrder, lists_order}
use Rattle.net_gains.specs.Gains.{over_pairs, same_cover, is_one, sum_of_two, sum_gain, product_gain, gains}
use Rattle.net_gains.specs.Codes.{AreRising, code_of, codes_of, coded, is_known, is_code, are_codes, are_coded}
use Rattle.net_gains.proofs.Places.{codes_keep_order, code_below}
use Rattle.net_gains.proofs.Carried.{Keeps, all_from_test, test_from_all, all_has, all_sorted, lists_keep, map_sorted, map_filter, map_any, map_sum, some_counts}

pub number_order : IsOrder nat_cmp
number_order = record { total = nat_cmp_total; same = λ x y h. ranked x y Equal (sym h) }

pub numbers_order : IsOrder numbers_cmp
numbers_order = lists_order number_order

pub number_lists_order : IsOrder lists_cmp
number_lists_order = lists_order numbers_order

-- ---- known cubes and covers

abbrev pub Known : List (List ℕ) → Literal → Type 0
Known names literal = has names literal.name ≡ true

abbrev pub KnownCube : List (List ℕ) → Cube → Type 0
KnownCube names cube = AllByRecursion (Known names) cube

abbrev pub KnownCover : List (List ℕ) → NamedCover → Type 0
KnownCover names cover = AllByRecursion (KnownCube names) cover

pub cube_known : (names : List (List ℕ)) (cube : Cube) → is_known names cube ≡ true → KnownCube names cube
cube_known names = all_from_test (λ (literal : Literal). has names literal.name) (Known names) (λ literal h. h)

pub cover_known : (names : List (List ℕ)) (cover : NamedCover) → is_over names cover ≡ true → KnownCover names cover
cover_known names = all_from_test (is_known names) (KnownCube names) (cube_known names)

pub known_cube : (names : List (List ℕ)) (cube : Cube) → KnownCube names cube → is_known names cube ≡ true
known_cube names = test_from_all (λ (literal : Literal). has names literal.name) (Known names) (λ literal h. h)

pub known_cover : (names : List (List ℕ)) (cover : NamedCover) → KnownCover names cover → is_over names cover ≡ true
known_cover names = test_from_all (is_known names) (KnownCube names) (known_cube names)

-- ---- the numbers of known cubes and covers

codes_known : (names : List (List ℕ)) (cube : Cube) → is_known names cube ≡ true → are_codes names (codes_of names cube) ≡ true
codes_known names [] known = refl
codes_known names (literal ∷ cube) known =
    let parts = and_parts (has names literal.name) (is_known names cube) known in
    and_from (is_code names (code_of names literal)) (are_codes names (codes_of names cube))
    (lt-ltb (code_of names literal) (2 * length names) (code_below names literal parts.0)) (codes_known names cube parts.1)

pub coded_known : (names : List (List ℕ)) (cubes : List Cube) → is_over names cubes ≡ true → are_coded names (coded names cubes) ≡ true
coded_known names [] known = refl
coded_known names (cube ∷ cubes) known =
    let parts = and_parts (is_known names cube) (is_over names cubes) known in
    and_from (are_codes names (codes_of names cube)) (are_coded names (coded names cubes)) (codes_known names cube parts.0) (coded_known names cubes parts.1)

-- ---- pairs

-- pairs of the images of known items
pub map_pairs : {X Y : Type 0} (known : X → Type 0) (f : X → Y) (gain : X → X → ℕ) (other : Y → Y → ℕ) → ((x y : X) → known x → known y → other (f x) (f y) ≡ gain x y)
    → (xs : List X) → AllByRecursion known xs → over_pairs other (map f xs) ≡ over_pairs gain xs
unfolding over_pairs
map_pairs known f gain other agree [] all = refl
map_pairs known f gain other agree (x ∷ xs) all =
    ap₂ (λ (m n : ℕ). m + n) (map_sum known f (gain x) (other (f x)) (λ y h. agree x y all.0 h) xs all.1) (map_pairs known f gain other agree xs all.1)

-- a pair whose summand is above 0
pub some_pair : {X : Type 0} (gain : X → X → ℕ) (xs : List X) → 0 < over_pairs gain xs → (x : X) × (y : X) × Has x xs × Has y xs × (0 < gain x y)
unfolding over_pairs
some_pair gain [] h = absurd (omega arith)
some_pair {X} gain (x ∷ xs) h = cases (sum_by (gain x) xs) refl (λ k. some_pair gain xs k)
  where
    cases : (n : ℕ) → sum_by (gain x) xs ≡ n → (0 < over_pairs gain xs → (y : X) × (z : X) × Has y xs × Has z xs × (0 < gain y z))
        → (y : X) × (z : X) × Has y (x ∷ xs) × Has z (x ∷ xs) × (0 < gain y z)
    cases zero e rest = let p = rest (omega (arith, e, h)) in (p.0, p.1, inr p.2, inr p.3, p.4)
    cases (suc n) e rest = let p = some_counts (gain x) xs (omega (arith, e)) in (x, p.0, inl refl, inr p.1, p.2)

-- ---- gains

-- what a sum saves: 0 if a part is empty, or the sum is another one
abbrev pub gain_from : Bool → Bool → Bool → ℕ → ℕ → ℕ → ℕ
gain_from left right same both first second = cond {A = ℕ} (not left && not right && same) (both + first + second - 1) 0

gain_same : {left right same left' right' same' : Bool} {both first second both' first' second' : ℕ} → left ≡ left' → right ≡ right' → same ≡ same' → both ≡ both' → first ≡ first' → second ≡ second'
    → gain_from left right same both first second ≡ gain_from left' right' same' both' first' second'
gain_same {left} {right} {same} {left'} {right'} {same'} {both} {first} {second} {both'} {first'} {second'} a b c d e f =
    ap₂ (λ (x y : Bool). gain_from x y same both first second) a b
    ∙ ap₂ (λ (x : Bool) (n : ℕ). gain_from left' right' x n first second) c d
    ∙ ap₂ (λ (m n : ℕ). gain_from left' right' same' both' m n) e f

test_holds : (test : Bool) (n : ℕ) → 0 < cond {A = ℕ} test n 0 → test ≡ true
test_holds true n h = refl
test_holds false n h = absurd (omega arith)

lists_told : (one other : List (List ℕ)) → same_lists one other ≡ true → one ≡ other
lists_told one other h = number_lists_order.same one other ((Equal-is (lists_cmp one other)).0 h)

sum_told : (numbers : List (List ℕ)) (one other : List ℕ) → 0 < sum_gain_of numbers one other → numbers ≡ sum_of_lists one other
unfolding sum_gain_of
sum_told numbers one other h =
    lists_told numbers (sum_of_lists one other)
    (and_parts (not (is_empty (own_numbers one other)) && not (is_empty (own_numbers other one))) (same_lists numbers (sum_of_lists one other)) (test_holds _ _ h)).1

product_told : (numbers : List (List ℕ)) (one other : ℕ) → 0 < product_gain_of numbers one other → numbers ≡ (one ∷ other ∷ []) ∷ []
unfolding product_gain_of
product_told numbers one other h = lists_told numbers ((one ∷ other ∷ []) ∷ []) (test_holds _ _ h)

module _ (names : List (List ℕ)) (rising : AreRising names) where
  pub literals_keep : Keeps (Known names) literal_cmp nat_cmp (code_of names)
  literals_keep = record { at = λ one other first second. codes_keep_order names rising one other first second }

  pub cubes_keep : Keeps (KnownCube names) cube_cmp numbers_cmp (codes_of names)
  cubes_keep = lists_keep literals_keep

  pub covers_keep : Keeps (KnownCover names) cover_cmp lists_cmp (coded names)
  covers_keep = lists_keep cubes_keep

  codes_tell : (one other : Literal) → Known names one → Known names other → nat_eq (code_of names one) (code_of names other) ≡ same_literal one other
  codes_tell one other first second =
      unsigned_ties (code_of names one) (code_of names other) ∙ ap is_eq (codes_keep_order names rising one other first second) ∙ sym (literal_ties one other)

  stands : (other : Cube) → KnownCube names other → (literal : Literal) → Known names literal
      → list_any (nat_eq (code_of names literal)) (codes_of names other) ≡ list_any (same_literal literal) other
  stands other second literal first =
      map_any (Known names) (code_of names) (same_literal literal) (nat_eq (code_of names literal)) (λ each h. codes_tell literal each first h) other second

  pub codes_shared : (one other : Cube) → KnownCube names one → KnownCube names other → codes_of names (shared one other) ≡ shared_numbers (codes_of names one) (codes_of names other)
  codes_shared one other first second =
      map_filter (Known names) (code_of names) (λ literal. list_any (same_literal literal) other) (λ number. list_any (nat_eq number) (codes_of names other))
      (stands other second) one first

  pub codes_own : (one other : Cube) → KnownCube names one → KnownCube names other → codes_of names (own one other) ≡ own_numbers (codes_of names one) (codes_of names other)
  codes_own one other first second =
      map_filter (Known names) (code_of names) (λ literal. not (list_any (same_literal literal) other)) (λ number. not (list_any (nat_eq number) (codes_of names other)))
      (λ literal h. ap not (stands other second literal h)) one first

  own_known : (one other : Cube) → KnownCube names one → KnownCube names (own one other)
  own_known one other first = all_filter (Known names) (λ literal. not (list_any (same_literal literal) other)) one first

  pub sum_known : (one other : Cube) → KnownCube names one → KnownCube names other → KnownCover names (sum_of_two one other)
  sum_known one other first second =
      all_sorted (KnownCube names) cube_cmp (own one other ∷ own other one ∷ []) (own_known one other first, (own_known other one second, tt))

  pub codes_sum : (one other : Cube) → KnownCube names one → KnownCube names other → coded names (sum_of_two one other) ≡ sum_of_lists (codes_of names one) (codes_of names other)
  codes_sum one other first second =
      map_sorted cubes_keep (own one other ∷ own other one ∷ []) (own_known one other first, (own_known other one second, tt))
      ∙ ap (sorted numbers_cmp) (ap₂ (λ (x y : List ℕ). x ∷ y ∷ []) (codes_own one other first second) (codes_own other one second first))

  codes_empty : (cube : Cube) → is_empty (codes_of names cube) ≡ is_one cube
  codes_empty [] = refl
  codes_empty (literal ∷ cube) = refl

  codes_same : (cover other : NamedCover) → KnownCover names cover → KnownCover names other → same_lists (coded names cover) (coded names other) ≡ same_cover cover other
  codes_same cover other first second = ap is_eq (covers_keep.at cover other first second)

  codes_sum_gain : (cover : NamedCover) → KnownCover names cover → (one other : Cube) → KnownCube names one → KnownCube names other
      → sum_gain_of (coded names cover) (codes_of names one) (codes_of names other) ≡ sum_gain cover one other
  unfolding sum_gain sum_gain_of
  codes_sum_gain cover known one other first second =
      let left : own_numbers (codes_of names one) (codes_of names other) ≡ codes_of names (own one other) = sym (codes_own one other first second) in
      let right : own_numbers (codes_of names other) (codes_of names one) ≡ codes_of names (own other one) = sym (codes_own other one second first) in
      gain_same
      (ap is_empty left ∙ codes_empty (own one other))
      (ap is_empty right ∙ codes_empty (own other one))
      (ap (same_lists (coded names cover)) (sym (codes_sum one other first second)) ∙ codes_same cover (sum_of_two one other) known (sum_known one other first second))
      (ap length (sym (codes_shared one other first second)) ∙ length-map (shared one other) (code_of names))
      (ap length left ∙ length-map (own one other) (code_of names))
      (ap length right ∙ length-map (own other one) (code_of names))

  codes_product_gain : (cover : NamedCover) → KnownCover names cover → (one other : Literal) → Known names one → Known names other
      → product_gain_of (coded names cover) (code_of names one) (code_of names other) ≡ product_gain cover one other
  unfolding product_gain product_gain_of
  codes_product_gain cover known one other first second =
      ap (λ (same : Bool). cond {A = ℕ} same 1 0) (codes_same cover ((one ∷ other ∷ []) ∷ []) known ((first, (second, tt)), tt))

  pub codes_gains : (cover : NamedCover) (cubes : List Cube) → KnownCover names cover → KnownCover names cubes → gains_of (coded names cover) (coded names cubes) ≡ gains cover cubes
  unfolding gains gains_of
  codes_gains cover cubes known all =
      ap₂ (λ (m n : ℕ). m + n)
      (map_pairs (KnownCube names) (codes_of names) (sum_gain cover) (sum_gain_of (coded names cover)) (codes_sum_gain cover known) cubes all)
      (map_sum (KnownCube names) (codes_of names) (over_pairs (product_gain cover)) (over_pairs (product_gain_of (coded names cover)))
      (λ cube h. map_pairs (Known names) (code_of names) (product_gain cover) (product_gain_of (coded names cover)) (codes_product_gain cover known) cube h) cubes all)

  -- a sum of two known cubes, and a product of two literals of one
  coded_sum : (numbers : List (List ℕ)) (cubes : List Cube) → KnownCover names cubes → 0 < over_pairs (sum_gain_of numbers) (coded names cubes) → are_coded names numbers ≡ true
  coded_sum numbers cubes all h =
      let p = some_pair (sum_gain_of numbers) (coded names cubes) h in
      let one = has_map (codes_of names) cubes p.0 p.2 in
      let other = has_map (codes_of names) cubes p.1 p.3 in
      let first : KnownCube names one.0 = all_has (KnownCube names) cubes all one.0 one.1 in
      let second : KnownCube names other.0 = all_has (KnownCube names) cubes all other.0 other.1 in
      let is : numbers ≡ coded names (sum_of_two one.0 other.0) = sum_told numbers p.0 p.1 p.4 ∙ ap₂ sum_of_lists one.2 other.2 ∙ sym (codes_sum one.0 other.0 first second) in
      ap (are_coded names) is ∙ coded_known names (sum_of_two one.0 other.0) (known_cover names (sum_of_two one.0 other.0) (sum_known one.0 other.0 first second))

  coded_product : (numbers : List (List ℕ)) (cubes : List Cube) → KnownCover names cubes → 0 < sum_by (over_pairs (product_gain_of numbers)) (coded names cubes) → are_coded names numbers ≡ true
  coded_product numbers cubes all h =
      let p = some_counts (over_pairs (product_gain_of numbers)) (coded names cubes) h in
      let cube = has_map (codes_of names) cubes p.0 p.1 in
      let known : KnownCube names cube.0 = all_has (KnownCube names) cubes all cube.0 cube.1 in
      let q = some_pair (product_gain_of numbers) p.0 p.2 in
      let one = has_map (code_of names) cube.0 q.0 (subst (Has q.0) cube.2 q.2) in
      let other = has_map (code_of names) cube.0 q.1 (subst (Has q.1) cube.2 q.3) in
      let is : numbers ≡ coded names ((one.0 ∷ other.0 ∷ []) ∷ []) = product_told numbers q.0 q.1 q.4 ∙ ap₂ (λ (m n : ℕ). (m ∷ n ∷ []) ∷ []) one.2 other.2 in
      ap (are_coded names) is
      ∙ coded_known names ((one.0 ∷ other.0 ∷ []) ∷ [])
      (known_cover names ((one.0 ∷ other.0 ∷ []) ∷ []) ((all_has (Known names) cube.0 known one.0 one.1, (all_has (Known names) cube.0 known other.0 other.1, tt)), tt))

  -- what gains in known cubes has numbers of literals
  pub gaining_coded : (numbers : List (List ℕ)) (cubes : List Cube) → KnownCover names cubes → 0 < gains_of numbers (coded names cubes) → are_coded names numbers ≡ true
  unfolding gains_of
  gaining_coded numbers cubes all h = cases (over_pairs (sum_gain_of numbers) (coded names cubes)) refl
    where
      cases : (n : ℕ) → over_pairs (sum_gain_of numbers) (coded names cubes) ≡ n → are_coded names numbers ≡ true
      cases zero e = coded_product numbers cubes all (omega (arith, e, h))
      cases (suc n) e = coded_sum numbers cubes all (omega (arith, e))

-- a coded cover has as many literals as the cover
pub codes_literals : (names : List (List ℕ)) (cover : NamedCover) → literals_in (coded names cover) ≡ literals_in cover
codes_literals names [] = refl
codes_literals names (cube ∷ cover) =
    sum_by-cons length (codes_of names cube) (coded names cover) ∙ ap₂ (λ (m n : ℕ). m + n) (length-map cube (code_of names)) (codes_literals names cover) ∙ sym (sum_by-cons length cube cover)
