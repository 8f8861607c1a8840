-- No signal is reached from itself exactly if a rank falls from each driven signal to its table's
-- inputs; such a rank is the height of a signal, the length of the longest path down from it.
use Rattle.std.proofs.Common.{◌≡◌, ℕ, zero, suc, ◌+◌, ◌<◌, ◌≤◌, max, true, false, Option, Some, None, List, [], ◌∷◌, length, bytes_eq, refl, sym, ap, ◌∙◌, subst, inl, inr, arith}
use Rattle.std.specs.List.{AllByRecursion, IsDistinct}
use Rattle.std.proofs.lemmas.Bool.{false≢true, or_cases, cases_eq}
use Rattle.std.proofs.lemmas.List.{length-map}
use Rattle.std.proofs.lemmas.Cmp.{nat_list_eq_equiv}
use Rattle.std.proofs.lemmas.Map.Made.{length-le_from_is_member}
use Rattle.circuit_model.specs.Names.{has}
use Rattle.circuit_model.specs.Values.{driver}
use Rattle.circuit_model.specs.Soundness.{outputs_of, Leads, IsAcyclic}
use Rattle.circuit_model.specs.declared.circuit.Table.{Table}
use Rattle.circuit_laws.specs.Ranks.{Falls, HasRank}
use Rattle.circuit_laws.proofs.Names.{same_name, name_not, all_has, all_from_has, has_head, has_tail, has_not}
use Rattle.circuit_laws.proofs.Drivers.{driver_output}

-- ways: one more step at the start, one more at the end, two ways joined
pub leads_on : (tables : List Table) (steps : ℕ) (from to next : List ℕ) (table : Table) → Leads tables steps from to
    → driver tables to ≡ Some table → has table.inputs next ≡ true → Leads tables (suc steps) from next
unfolding Leads
leads_on tables zero from to next table way driven reads = (table, ap (driver tables) way ∙ driven, next, reads, refl)
leads_on tables (suc steps) from to next table (first, at, over, read, rest) driven reads =
    (first, at, over, read, leads_on tables steps over to next table rest driven reads)

pub leads_one : (tables : List Table) (from next : List ℕ) (table : Table) → driver tables from ≡ Some table → has table.inputs next ≡ true → Leads tables 1 from next
unfolding Leads
leads_one tables from next table driven reads = (table, driven, next, reads, refl)

pub leads_joined : (tables : List Table) (n m : ℕ) (from over to : List ℕ) → Leads tables n from over → Leads tables m over to → Leads tables (n + m) from to
unfolding Leads
leads_joined tables zero m from over to first rest =
    let e : m ≡ 0 + m = omega arith in subst (λ k. Leads tables k from to) e (subst (λ x. Leads tables m x to) (sym first) rest)
leads_joined tables (suc n) m from over to (table, at, next, read, way) rest =
    let e : suc (n + m) ≡ suc n + m = omega arith in
    subst (λ k. Leads tables k from to) e (table, at, next, read, leads_joined tables n m next over to way rest)

-- a rank falls along each path
pub falls_along : (tables : List Table) (r : HasRank tables) (steps : ℕ) (from to : List ℕ) → Leads tables steps from to → r.rank to + steps ≤ r.rank from
unfolding Leads
falls_along tables r zero from to way = let e : r.rank from ≡ r.rank to = ap r.rank way in omega arith
falls_along tables r (suc steps) from to (table, at, next, read, way) =
    let below : r.rank next < r.rank from = all_has (λ input. r.rank input < r.rank from) table.inputs (r.falls from table at) next read in
    let rest : r.rank to + steps ≤ r.rank next = falls_along tables r steps next to way in
    omega arith

pub rank_acyclic : (tables : List Table) → HasRank tables → IsAcyclic tables
unfolding IsAcyclic
rank_acyclic tables r signal steps way = let f : r.rank signal + suc steps ≤ r.rank signal = falls_along tables r (suc steps) signal signal way in absurd (omega arith)

-- the greatest of some numbers
abbrev pub greatest : (List ℕ → ℕ) → List (List ℕ) → ℕ
greatest f [] = 0
greatest f (x ∷ xs) = max (f x) (greatest f xs)

greatest-at_least : (f : List ℕ → ℕ) (xs : List (List ℕ)) → AllByRecursion (λ x. f x ≤ greatest f xs) xs
greatest-at_least f xs = all_from_has (λ x. f x ≤ greatest f xs) xs (least f xs)
  where
    least : (f : List ℕ → ℕ) (xs : List (List ℕ)) (x : List ℕ) → has xs x ≡ true → f x ≤ greatest f xs
    least f [] x h = absurd (false≢true h)
    least f (y ∷ ys) x h =
        elim (or_cases (bytes_eq x y) (has ys x) h) as (λ _. f x ≤ greatest f (y ∷ ys)) [
          | inl e ↦ let n : f x ≡ f y = ap f (same_name x y e) in omega arith
          | inr m ↦ let n : f x ≤ greatest f ys = least f ys x m in omega arith
        ]

greatest_is : (f : List ℕ → ℕ) (xs : List (List ℕ)) (n : ℕ) → greatest f xs ≡ suc n → (x : List ℕ) × (has xs x ≡ true) × (f x ≡ suc n)
greatest_is f [] n e = absurd (omega arith)
greatest_is f (x ∷ xs) n e =
    elim (cases_eq (f x) (suc n)) as (λ _. (y : List ℕ) × (has (x ∷ xs) y ≡ true) × (f y ≡ suc n)) [
      | inl here ↦ (x, has_head x xs, here)
      | inr other ↦ let (y, among, is) = greatest_is f xs n (omega arith) in (y, has_tail x xs y among, is)
    ]

greatest_same : (f g : List ℕ → ℕ) (xs : List (List ℕ)) → AllByRecursion (λ x. f x ≡ g x) xs → greatest f xs ≡ greatest g xs
greatest_same f g [] h = refl
greatest_same f g (x ∷ xs) h = let a : f x ≡ g x = h.0 in let b : greatest f xs ≡ greatest g xs = greatest_same f g xs h.1 in omega arith

greatest_below : (f : List ℕ → ℕ) (xs : List (List ℕ)) (n : ℕ) → AllByRecursion (λ x. f x ≤ n) xs → greatest f xs ≤ n
greatest_below f [] n h = omega arith
greatest_below f (x ∷ xs) n h = let a : f x ≤ n = h.0 in let b : greatest f xs ≤ n = greatest_below f xs n h.1 in omega arith

-- the length of the longest path down from a signal over driven ones, of at most a number of steps
abbrev pub above : Option Table → (List ℕ → ℕ) → ℕ
above None f = 0
above (Some table) f = suc (greatest f table.inputs)

unfoldable pub height_to : List Table → ℕ → List ℕ → ℕ
height_to tables zero signal = 0
height_to tables (suc steps) signal = above (driver tables signal) (height_to tables steps)

height_bound : (tables : List Table) (n : ℕ) (signal : List ℕ) → height_to tables n signal ≤ n
unfolding height_to
height_bound tables zero signal = omega arith
height_bound tables (suc n) signal = cases (driver tables signal) (height_bound tables n)
  where
    cases : (found : Option Table) → ((x : List ℕ) → height_to tables n x ≤ n) → above found (height_to tables n) ≤ suc n
    cases None bound = omega arith
    cases (Some table) bound =
        let below : greatest (height_to tables n) table.inputs ≤ n =
        greatest_below (height_to tables n) table.inputs n (all_from_has (λ x. height_to tables n x ≤ n) table.inputs (λ x among. bound x)) in
        omega arith

-- a height that is less than what was allowed does not change any more
height_stays : (tables : List Table) (n : ℕ) (signal : List ℕ) → height_to tables n signal < n → height_to tables (suc n) signal ≡ height_to tables n signal
unfolding height_to
height_stays tables zero signal low = absurd (omega arith)
height_stays tables (suc n) signal low = cases (driver tables signal) low (height_stays tables n)
  where
    cases : (found : Option Table) → above found (height_to tables n) < suc n
        → ((x : List ℕ) → height_to tables n x < n → height_to tables (suc n) x ≡ height_to tables n x)
        → above found (height_to tables (suc n)) ≡ above found (height_to tables n)
    cases None low more = refl
    cases (Some table) low more =
        ap suc (greatest_same (height_to tables (suc n)) (height_to tables n) table.inputs
        (all_from_has (λ x. height_to tables (suc n) x ≡ height_to tables n x) table.inputs
        (λ x among.
        let least : height_to tables n x ≤ greatest (height_to tables n) table.inputs =
        all_has (λ y. height_to tables n y ≤ greatest (height_to tables n) table.inputs) table.inputs (greatest-at_least (height_to tables n) table.inputs) x among in
        more x (omega arith))))

-- what a path down has passed: driven names, all different, from each of which a path leads to its
-- end
record HasPassed (tables : List Table) (seen : List (List ℕ)) (signal : List ℕ) : Type 0 where
  distinct : IsDistinct bytes_eq seen
  driven : (name : List ℕ) → has seen name ≡ true → has (outputs_of tables) name ≡ true
  leads : (name : List ℕ) → has seen name ≡ true → (steps : ℕ) × Leads tables (suc steps) name signal

grown : (tables : List Table) (seen : List (List ℕ)) (signal : List ℕ) → IsAcyclic tables → HasPassed tables seen signal → has (outputs_of tables) signal ≡ true
    → IsDistinct bytes_eq (signal ∷ seen) × ((name : List ℕ) → has (signal ∷ seen) name ≡ true → has (outputs_of tables) name ≡ true)
unfolding IsAcyclic IsDistinct
grown tables seen signal acyclic passed driven =
    let new : has seen signal ≡ false = has_not seen signal (λ among. let (steps, way) = passed.leads signal among in acyclic signal steps way) in (
      (all_from_has (λ name. bytes_eq signal name ≡ false) seen (λ name among. name_not signal name (λ e. false≢true (sym new ∙ subst (λ (x : List ℕ). has seen x ≡ true) (sym e) among))), passed.distinct),
      λ name among.
          elim (or_cases (bytes_eq name signal) (has seen name) among) as (λ _. has (outputs_of tables) name ≡ true) [
            | inl e ↦ subst (λ (x : List ℕ). has (outputs_of tables) x ≡ true) (sym (same_name name signal e)) driven
            | inr m ↦ passed.driven name m
          ],
    )

-- names that all differ and are driven are at most as many as the tables
few : (tables : List Table) (names : List (List ℕ)) → IsDistinct bytes_eq names → ((name : List ℕ) → has names name ≡ true → has (outputs_of tables) name ≡ true) → length names ≤ length tables
few tables names distinct driven =
    let among : length names ≤ length (outputs_of tables) = length-le_from_is_member nat_list_eq_equiv names (outputs_of tables) distinct driven in
    let e : length (outputs_of tables) ≡ length tables = length-map tables (λ (table : Table). table.output) in
    omega arith

-- a signal whose height is the bound is the start of a path that passes as many tables
climbs : (tables : List Table) → IsAcyclic tables → (n : ℕ) (signal : List ℕ) (seen : List (List ℕ)) → height_to tables n signal ≡ n → HasPassed tables seen signal → n + length seen ≤ length tables
unfolding height_to
climbs tables acyclic zero signal seen full passed = let b : length seen ≤ length tables = few tables seen passed.distinct passed.driven in omega arith
climbs tables acyclic (suc n) signal seen full passed = cases (driver tables signal) refl full (climbs tables acyclic n)
  where
    cases : (found : Option Table) → driver tables signal ≡ found → above found (height_to tables n) ≡ suc n
        → ((next : List ℕ) (names : List (List ℕ)) → height_to tables n next ≡ n → HasPassed tables names next → n + length names ≤ length tables)
        → suc n + length seen ≤ length tables
    cases None at full more = absurd (omega arith)
    cases (Some table) at full more = by_length n refl (grown tables seen signal acyclic passed (driver_output tables signal table at))
      where
        by_length : (k : ℕ) → n ≡ k
            → IsDistinct bytes_eq (signal ∷ seen) × ((name : List ℕ) → has (signal ∷ seen) name ≡ true → has (outputs_of tables) name ≡ true)
            → suc n + length seen ≤ length tables
        by_length zero e new = let b : length (signal ∷ seen) ≤ length tables = few tables (signal ∷ seen) new.0 new.1 in omega arith
        by_length (suc k) e new =
            let (next, among, is) = greatest_is (height_to tables n) table.inputs k (omega arith) in
            let b : n + length (signal ∷ seen) ≤ length tables = more next (signal ∷ seen) (is ∙ sym e) (record {
              distinct = new.0;
              driven = new.1;
              leads = λ name within.
                  elim (or_cases (bytes_eq name signal) (has seen name) within) as (λ _. (steps : ℕ) × Leads tables (suc steps) name next) [
                    | inl same ↦ (0, leads_one tables name next table (ap (driver tables) (same_name name signal same) ∙ at) among)
                    | inr before ↦ let (steps, way) = passed.leads name before in (suc steps, leads_on tables (suc steps) name signal next table way at among)
                  ];
            }) in
            omega arith

-- the height of a signal in tables that form no cycle
unfoldable pub height : List Table → List ℕ → ℕ
height tables signal = height_to tables (suc (length tables)) signal

pub height_small : (tables : List Table) → IsAcyclic tables → (signal : List ℕ) → height tables signal ≤ length tables
unfolding height IsDistinct
height_small tables acyclic signal =
    elim (cases_eq (height_to tables (suc (length tables)) signal) (suc (length tables))) as (λ _. height_to tables (suc (length tables)) signal ≤ length tables) [
      | inl full ↦
          let b : suc (length tables) + length {A = List ℕ} [] ≤ length tables =
          climbs tables acyclic (suc (length tables)) signal [] full (record { distinct = tt; driven = λ name h. absurd (false≢true h); leads = λ name h. absurd (false≢true h) }) in
          absurd (omega arith)
      | inr other ↦ let b : height_to tables (suc (length tables)) signal ≤ suc (length tables) = height_bound tables (suc (length tables)) signal in omega arith
    ]

pub height_is : (tables : List Table) → IsAcyclic tables → (signal : List ℕ) → height tables signal ≡ above (driver tables signal) (height tables)
unfolding height height_to
height_is tables acyclic signal =
    let small : height tables signal ≤ length tables = height_small tables acyclic signal in
    sym (height_stays tables (suc (length tables)) signal (omega arith))

pub height_falls : (tables : List Table) → IsAcyclic tables → Falls tables (height tables)
height_falls tables acyclic signal table at =
    let is : height tables signal ≡ suc (greatest (height tables) table.inputs) = height_is tables acyclic signal ∙ ap (λ (found : Option Table). above found (height tables)) at in
    all_from_has (λ input. height tables input < height tables signal) table.inputs (λ input among.
    let least : height tables input ≤ greatest (height tables) table.inputs =
    all_has (λ x. height tables x ≤ greatest (height tables) table.inputs) table.inputs (greatest-at_least (height tables) table.inputs) input among in
    omega arith)

pub acyclic_rank : (tables : List Table) → IsAcyclic tables → HasRank tables
acyclic_rank tables acyclic = record { rank = height tables; falls = height_falls tables acyclic }
