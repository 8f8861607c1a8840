-- The state while tables are listed: what the counts and the ready indices say, and what listing
-- one more table does to them.
use Rattle.std.proofs.Common.{◌≡◌, ℕ, zero, suc, ◌+◌, ◌-◌, ◌<◌, ◌≤◌, ◌==◌, Bool, true, false, not, ◌&&◌, ◌||◌, cond, Option, Some, None, List, [], ◌∷◌, ◌++◌, length, map, get_or, find, slice_get, count_by, sum_by, bytes_eq, is_some, refl, sym, ap, ◌∙◌, subst, inl, inr, ◌⊎◌, arith, eq-eqb, ne_eqb, eqb-true}
use Rattle.std.specs.List.{list_all, list_any}
use Rattle.std.specs.Option.{option_map_or}
use Rattle.std.proofs.Math.Path.{fun_ext}
use Rattle.std.proofs.lemmas.Bool.{false≢true, cases_eq, false_from_ne_true}
use Rattle.std.proofs.lemmas.Option.{same_Some, none-some}
use Rattle.std.proofs.lemmas.List.{length-map, length_push, get_or_read_under}
use Rattle.std.proofs.lemmas.List.Sums.{sum_by-cons}
use Rattle.std.proofs.lemmas.List.Folds.{sum_by-zero}
use Rattle.circuit_model.specs.Names.{has, all_different}
use Rattle.circuit_model.specs.Soundness.{outputs_of}
use Rattle.circuit_model.specs.declared.circuit.Table.{Table}
use Rattle.circuit_laws.proofs.Names.{name_itself, name_not, name_cases}
use Rattle.circuit_laws.proofs.Places.{placed_name}
use Rattle.circuit_order.specs.Order.{waits, is_ready, order_from, order_of}
use Rattle.circuit_order.specs.Places.{times, hits, hits_of, placed_count, is_at, is_done, IsIndex}
use Rattle.circuit_order.proofs.Indexing.{within}
use Rattle.circuit_order.proofs.Orders.{IsListing, listing_begun, listing_more, listed_settled, fuel_left, ready_new, ready_inputs, has_push, find_first, find_nowhere}

-- counts

count_same : {X : Type 0} (p q : X → Bool) → ((x : X) → p x ≡ q x) → (xs : List X) → count_by p xs ≡ count_by q xs
count_same p q h xs = ap (λ r. count_by r xs) (fun_ext h)

sum_split : {X : Type 0} (f g h : X → ℕ) → ((x : X) → f x ≡ g x + h x) → (xs : List X) → sum_by f xs ≡ sum_by g xs + sum_by h xs
sum_split f g h e [] = refl
sum_split f g h e (x ∷ xs) = omega (arith, sum_by-cons f x xs, sum_by-cons g x xs, sum_by-cons h x xs, e x, sum_split f g h e xs)

none_counted : {X : Type 0} (p : X → Bool) (xs : List X) → (count_by p xs == 0) ≡ list_all (λ x. not (p x)) xs
none_counted p xs = sum_by-zero (λ x. cond {A = ℕ} (p x) 1 0) xs ∙ ap (λ q. list_all q xs) (fun_ext (λ x. one_or_none (p x)))
  where
    one_or_none : (b : Bool) → (cond {A = ℕ} b 1 0 == 0) ≡ not b
    one_or_none true = refl
    one_or_none false = refl

not_zero : (n : ℕ) → (suc n == 0) ≡ false
not_zero n = ne_eqb (suc n) 0 (λ e. absurd (omega (arith, e)))

some_counted : (i : ℕ) (places : List ℕ) → list_any (λ place. place == i) places ≡ not (times i places == 0)
some_counted i [] = refl
some_counted i (place ∷ places) = cases (place == i) refl (some_counted i places)
  where
    cases : (b : Bool) → (place == i) ≡ b → list_any (λ p. p == i) places ≡ not (times i places == 0) → (b || list_any (λ p. p == i) places) ≡ not (times i (place ∷ places) == 0)
    cases true here rest =
        let one : cond {A = ℕ} (place == i) 1 0 ≡ 1 = ap (λ (b : Bool). cond {A = ℕ} b 1 0) here in
        let more : times i (place ∷ places) ≡ suc (times i places) = omega (arith, sum_by-cons (λ p. cond {A = ℕ} (p == i) 1 0) place places, one) in
        rw (more, not_zero (times i places)) refl
    cases false here rest =
        let none : cond {A = ℕ} (place == i) 1 0 ≡ 0 = ap (λ (b : Bool). cond {A = ℕ} b 1 0) here in
        let same : times i (place ∷ places) ≡ times i places = omega (arith, sum_by-cons (λ p. cond {A = ℕ} (p == i) 1 0) place places, none) in
        rw same rest

-- the index says which names are outputs, and whose

index_known : (tables : List Table) (place : List ℕ → Option ℕ) → IsIndex tables place → (name : List ℕ) → is_some (place name) ≡ has (outputs_of tables) name
index_known tables place index name = cases (place name) refl
  where
    output_place : (ts : List Table) → has (outputs_of ts) name ≡ true → (i : ℕ) × (table : Table) × (slice_get ts i ≡ Some table) × (table.output ≡ name)
    output_place [] h = absurd (false≢true h)
    output_place (first ∷ ts) h = elim (name_cases name first.output) [
      | inl e ↦ (0, first, refl, sym e)
      | inr n ↦ let (i, table, at, is) = output_place ts (sym (ap (λ (b : Bool). b || has (outputs_of ts) name) n) ∙ h) in (suc i, table, at, is)
    ]

    cases : (found : Option ℕ) → place name ≡ found → is_some found ≡ has (outputs_of tables) name
    cases None at =
        sym (false_from_ne_true (has (outputs_of tables) name) (λ h.
        let (i, table, there, is) = output_place tables h in
        none-some i (sym at ∙ (ap place (sym is) ∙ index.placed i table there))))
    cases (Some i) at = let (table, there, is) = index.only name i at in sym (ap (has (outputs_of tables)) (sym is) ∙ placed_name (λ (t : Table). t.output) tables i table there)

index_names : (tables : List Table) (place : List ℕ → Option ℕ) → IsIndex tables place → (p : ℕ) (table : Table) → slice_get tables p ≡ Some table
    → (name : List ℕ) → is_at p (place name) ≡ bytes_eq name table.output
index_names tables place index p table there name = cases (name_cases name table.output)
  where
    other : (found : Option ℕ) → place name ≡ found → bytes_eq name table.output ≡ false → is_at p found ≡ false
    other None at n = refl
    other (Some q) at n = false_from_ne_true (q == p) (λ e.
        let (found, where_found, is) = index.only name q at in
        let same : found ≡ table = same_Some found table (sym where_found ∙ (ap (slice_get tables) (eqb-true q p e) ∙ there)) in
        false≢true (sym n ∙ subst (λ (m : List ℕ). bytes_eq name m ≡ true) (sym is ∙ ap (λ (t : Table). t.output) same) (name_itself name)))

    cases : (name ≡ table.output) ⊎ (bytes_eq name table.output ≡ false) → is_at p (place name) ≡ bytes_eq name table.output
    cases (inl e) =
        let mine : is_at p (place name) ≡ true = ap (is_at p) (ap place e ∙ index.placed p table there) ∙ eq-eqb p p refl in
        let same : bytes_eq name table.output ≡ true = ap (λ (n : List ℕ). bytes_eq n table.output) e ∙ name_itself table.output in
        mine ∙ sym same
    cases (inr n) = other (place name) refl n ∙ sym n

-- how many inputs wait

ready_by_count : (tables : List Table) (listed : List (List ℕ)) (table : Table) → is_ready tables listed table ≡ (not (has listed table.output) && (count_by (waits tables listed) table.inputs == 0))
unfolding is_ready
ready_by_count tables listed table = ap (λ (b : Bool). not (has listed table.output) && b) (sym (none_counted (waits tables listed) table.inputs))

none_waits : (tables : List Table) (listed names : List (List ℕ)) → ((name : List ℕ) → has names name ≡ true → waits tables listed name ≡ false) → count_by (waits tables listed) names ≡ 0
none_waits tables listed [] h = refl
none_waits tables listed (first ∷ names) h =
    let here : cond {A = ℕ} (waits tables listed first) 1 0 ≡ 0 = ap (λ (b : Bool). cond {A = ℕ} b 1 0) (h first (ap (λ (b : Bool). b || has names first) (name_itself first))) in
    let rest : count_by (waits tables listed) names ≡ 0 = none_waits tables listed names (λ name m. h name (tail (bytes_eq name first) (has names name) m)) in
    omega (arith, sum_by-cons (λ (n : List ℕ). cond {A = ℕ} (waits tables listed n) 1 0) first names, here, rest)
  where
    tail : (a b : Bool) → b ≡ true → (a || b) ≡ true
    tail true b e = refl
    tail false b e = e

-- once a table is listed, its readers wait for that much less
waits_less : (tables : List Table) (listed : List (List ℕ)) (last name : List ℕ) → has (outputs_of tables) last ≡ true → has listed last ≡ false
    → cond {A = ℕ} (waits tables listed name) 1 0 ≡ cond {A = ℕ} (waits tables (listed ++ last ∷ []) name) 1 0 + cond {A = ℕ} (bytes_eq name last) 1 0
unfolding waits
waits_less tables listed last name driven new = rw (has_push listed last name) (cases (name_cases name last))
  where
    none : (a : Bool) → (a || true) ≡ true
    none true = refl
    none false = refl

    never : (a : Bool) → (a && false) ≡ false
    never true = refl
    never false = refl

    alone : (a b : Bool) → cond {A = ℕ} (a && not b) 1 0 ≡ cond {A = ℕ} (a && not (b || false)) 1 0 + 0
    alone true true = refl
    alone true false = refl
    alone false b = refl

    cases : (name ≡ last) ⊎ (bytes_eq name last ≡ false)
        → cond {A = ℕ} (has (outputs_of tables) name && not (has listed name)) 1 0
        ≡ cond {A = ℕ} (has (outputs_of tables) name && not (has listed name || bytes_eq name last)) 1 0 + cond {A = ℕ} (bytes_eq name last) 1 0
    cases (inl e) =
        let a : has (outputs_of tables) name ≡ true = ap (has (outputs_of tables)) e ∙ driven in
        let b : has listed name ≡ false = ap (has listed) e ∙ new in
        let c : bytes_eq name last ≡ true = ap (λ (n : List ℕ). bytes_eq n last) e ∙ name_itself last in
        rw (a, b, c) refl
    cases (inr n) = rw n (alone (has (outputs_of tables) name) (has listed name))

count_less : (tables : List Table) (listed : List (List ℕ)) (last : List ℕ) (names : List (List ℕ)) → has (outputs_of tables) last ≡ true → has listed last ≡ false
    → count_by (waits tables listed) names ≡ count_by (waits tables (listed ++ last ∷ [])) names + count_by (λ (name : List ℕ). bytes_eq name last) names
count_less tables listed last names driven new =
    sum_split (λ (n : List ℕ). cond {A = ℕ} (waits tables listed n) 1 0) (λ (n : List ℕ). cond {A = ℕ} (waits tables (listed ++ last ∷ []) n) 1 0) (λ (n : List ℕ). cond {A = ℕ} (bytes_eq n last) 1 0)
    (λ name. waits_less tables listed last name driven new) names

-- the state of the listing

abbrev pub ready_at : List Table → List (List ℕ) → Option Table → Bool
ready_at tables listed None = false
ready_at tables listed (Some table) = is_ready tables listed table

-- the rest of the order is still to be listed
pub record IsLeft (tables : List Table) (listed : List (List ℕ)) : Type 0 where
  pub fuel : ℕ
  pub enough : fuel + length listed ≡ length tables
  pub same : order_from tables fuel listed ≡ order_of tables

pub record IsUnderway (tables : List Table) (listed : List (List ℕ)) (counts : List ℕ) (ready : ℕ → Bool) : Type 0 where
  pub listing : IsListing tables listed
  pub left : IsLeft tables listed
  pub long : length counts ≡ length tables
  pub counted : (i : ℕ) (table : Table) → slice_get tables i ≡ Some table → get_or counts i 0 ≡ count_by (waits tables listed) table.inputs
  pub marked : (i : ℕ) → ready i ≡ ready_at tables listed (slice_get tables i)

-- at first
get_mapped : {X : Type 0} (f : X → ℕ) (xs : List X) (i : ℕ) (x : X) → slice_get xs i ≡ Some x → slice_get (map f xs) i ≡ Some (f x)
get_mapped f [] i x at = absurd (none-some x at)
get_mapped f (y ∷ xs) zero x at = ap (λ z. Some (f z)) (same_Some y x at)
get_mapped f (y ∷ xs) (suc i) x at = get_mapped f xs i x at

get_unmapped : {X : Type 0} (f : X → ℕ) (xs : List X) (i : ℕ) → slice_get xs i ≡ None → slice_get (map f xs) i ≡ None
get_unmapped f [] i at = refl
get_unmapped f (y ∷ xs) zero at = absurd (none-some y (sym at))
get_unmapped f (y ∷ xs) (suc i) at = get_unmapped f xs i at

read_or : (xs : List ℕ) (i x : ℕ) → slice_get xs i ≡ Some x → get_or xs i 0 ≡ x
read_or [] i x at = absurd (none-some x at)
read_or (y ∷ xs) zero x at = same_Some y x at
read_or (y ∷ xs) (suc i) x at = read_or xs i x at

read_within : (xs : List ℕ) (i : ℕ) → i < length xs → slice_get xs i ≡ Some (get_or xs i 0)
read_within [] i lt = absurd (omega (arith, lt))
read_within (y ∷ xs) zero lt = refl
read_within (y ∷ xs) (suc i) lt = read_within xs i (omega (arith, lt))

first_waits : (tables : List Table) (place : List ℕ → Option ℕ) → IsIndex tables place → (names : List (List ℕ)) → placed_count place names ≡ count_by (waits tables []) names
unfolding waits
first_waits tables place index names = count_same (λ name. is_some (place name)) (waits tables []) (λ name. index_known tables place index name ∙ unlisted (has (outputs_of tables) name)) names
  where
    unlisted : (b : Bool) → b ≡ (b && true)
    unlisted true = refl
    unlisted false = refl

pub underway_begun : (tables : List Table) (place : List ℕ → Option ℕ) (counts : List ℕ) (ready : ℕ → Bool) → IsIndex tables place
    → counts ≡ map (λ (table : Table). placed_count place table.inputs) tables → ((i : ℕ) → ready i ≡ is_done (slice_get counts i)) → IsUnderway tables [] counts ready
unfolding order_of
underway_begun tables place counts ready index e done = record {
  listing = listing_begun tables;
  left = record { fuel = length tables; enough = omega arith; same = refl };
  long = ap length e ∙ length-map tables (λ (table : Table). placed_count place table.inputs);
  counted = λ i table at. read_or counts i _ (read i table at) ∙ first_waits tables place index table.inputs;
  marked = λ i. done i ∙ cases i (slice_get tables i) refl;
}
  where
    read : (i : ℕ) (table : Table) → slice_get tables i ≡ Some table → slice_get counts i ≡ Some (placed_count place table.inputs)
    read i table at = ap (λ (xs : List ℕ). slice_get xs i) e ∙ get_mapped (λ (t : Table). placed_count place t.inputs) tables i table at

    cases : (i : ℕ) (found : Option Table) → slice_get tables i ≡ found → is_done (slice_get counts i) ≡ ready_at tables [] found
    cases i None at = ap is_done (ap (λ (xs : List ℕ). slice_get xs i) e ∙ get_unmapped (λ (t : Table). placed_count place t.inputs) tables i at)
    cases i (Some table) at =
        ap is_done (read i table at) ∙ (ap (λ (n : ℕ). n == 0) (first_waits tables place index table.inputs) ∙ sym (ready_by_count tables [] table))

-- a ready index is a table's
pub ready_place : (tables : List Table) (listed : List (List ℕ)) (counts : List ℕ) (ready : ℕ → Bool) → IsUnderway tables listed counts ready → (i : ℕ) → ready i ≡ true
    → (table : Table) × (slice_get tables i ≡ Some table) × (is_ready tables listed table ≡ true)
ready_place tables listed counts ready underway i h = cases (slice_get tables i) refl (sym (underway.marked i) ∙ h)
  where
    cases : (found : Option Table) → slice_get tables i ≡ found → ready_at tables listed found ≡ true → (table : Table) × (slice_get tables i ≡ Some table) × (is_ready tables listed table ≡ true)
    cases None at h = absurd (false≢true h)
    cases (Some table) at is = (table, at, is)

pub ready_within : (tables : List Table) (listed : List (List ℕ)) (counts : List ℕ) (ready : ℕ → Bool) → IsUnderway tables listed counts ready → (i count : ℕ) → ready i ≡ true → count ≡ length tables → i < count
ready_within tables listed counts ready underway i count h e = let (table, at, is) = ready_place tables listed counts ready underway i h in omega (arith, within tables i table at, e)

-- the fanouts of a table are as many as are subtracted
reads_of : (tables : List Table) (place : List ℕ → Option ℕ) → IsIndex tables place → (p : ℕ) (table : Table) → slice_get tables p ≡ Some table
    → (other : Table) → hits place p other.inputs ≡ count_by (λ (name : List ℕ). bytes_eq name table.output) other.inputs
reads_of tables place index p table at other = count_same (λ name. is_at p (place name)) (λ (name : List ℕ). bytes_eq name table.output) (index_names tables place index p table at) other.inputs

-- what the next step needs: a table at a ready index, and its fanouts
pub record IsNext (tables : List Table) (listed : List (List ℕ)) (place : List ℕ → Option ℕ) (p : ℕ) (table : Table) (next : List ℕ) : Type 0 where
  pub different : all_different (outputs_of tables) ≡ true
  pub index : IsIndex tables place
  pub at : slice_get tables p ≡ Some table
  pub is_next : is_ready tables listed table ≡ true
  pub reads : (j : ℕ) → times j next ≡ hits_of place p (slice_get tables j)

module _ (tables : List Table) (listed : List (List ℕ)) (counts : List ℕ) (ready : ℕ → Bool) (place : List ℕ → Option ℕ) (p : ℕ) (table : Table) (next : List ℕ)
    (underway : IsUnderway tables listed counts ready) (step : IsNext tables listed place p table next) where
  driven : has (outputs_of tables) table.output ≡ true
  driven = placed_name (λ (t : Table). t.output) tables p table step.at

  new : has listed table.output ≡ false
  new = ready_new tables listed table step.is_next

  -- what each table waits for before and after, and how often it reads the one that is listed
  less : (other : Table) → count_by (waits tables listed) other.inputs ≡ count_by (waits tables (listed ++ table.output ∷ [])) other.inputs + hits place p other.inputs
  less other = count_less tables listed table.output other.inputs driven new
      ∙ ap (λ (n : ℕ). count_by (waits tables (listed ++ table.output ∷ [])) other.inputs + n) (sym (reads_of tables place step.index p table step.at other))

  pub reads_bound : (j : ℕ) → times j next ≤ get_or counts j 0
  reads_bound j = cases (slice_get tables j) refl (step.reads j)
    where
      cases : (found : Option Table) → slice_get tables j ≡ found → times j next ≡ hits_of place p found → times j next ≤ get_or counts j 0
      cases None at e = omega (arith, e)
      cases (Some other) at e = omega (arith, e, underway.counted j other at, less other)

  counted_after : (now : List ℕ) → ((j : ℕ) → get_or now j 0 + times j next ≡ get_or counts j 0) → (j : ℕ) (other : Table) → slice_get tables j ≡ Some other
      → get_or now j 0 ≡ count_by (waits tables (listed ++ table.output ∷ [])) other.inputs
  counted_after now down j other at =
      let reads : times j next ≡ hits place p other.inputs = step.reads j ∙ ap (hits_of place p) at in
      omega (arith, reads, underway.counted j other at, less other, down j)

  left_after : ((j : ℕ) → j < p → ready j ≡ false) → IsLeft tables (listed ++ table.output ∷ [])
  unfolding order_from
  left_after least = by_fuel underway.left.fuel underway.left.enough underway.left.same
    where
      first : find (is_ready tables listed) tables ≡ Some table
      first = find_first (is_ready tables listed) tables p table step.at step.is_next (λ j other lt at. sym (underway.marked j ∙ ap (ready_at tables listed) at) ∙ least j lt)

      by_fuel : (fuel : ℕ) → fuel + length listed ≡ length tables → order_from tables fuel listed ≡ order_of tables → IsLeft tables (listed ++ table.output ∷ [])
      by_fuel zero enough same = absurd (omega (arith, enough, fuel_left tables listed table.output underway.listing new driven))
      by_fuel (suc fuel) enough same = record {
        fuel = fuel;
        enough = omega (arith, enough, length_push listed table.output);
        same =
            sym (ap (λ (found : Option Table). option_map_or (λ (t : Table). order_from tables fuel (listed ++ t.output ∷ [])) found listed) first) ∙ same;
      }

  -- which indices are ready afterwards
  merge_itself : (before after hit : ℕ) → before ≡ after + hit → before ≡ 0 → (false || ((after == 0) && not (hit == 0))) ≡ false
  merge_itself before after zero e z = never (after == 0)
    where
      never : (b : Bool) → (false || (b && false)) ≡ false
      never true = refl
      never false = refl
  merge_itself before after (suc hit) e z = absurd (omega (arith, e, z))

  merge_other : (is_listed : Bool) (before after hit : ℕ) → before ≡ after + hit → (is_listed ≡ true → before ≡ 0)
      → ((not is_listed && (before == 0)) || ((after == 0) && not (hit == 0))) ≡ (not is_listed && (after == 0))
  merge_other true before after zero e settled = never (after == 0)
    where
      never : (b : Bool) → (false || (b && false)) ≡ false
      never true = refl
      never false = refl
  merge_other true before after (suc hit) e settled = absurd (omega (arith, e, settled refl))
  merge_other false before after zero e settled =
      let same : before ≡ after = omega (arith, e) in rw same (twice (after == 0))
    where
      twice : (b : Bool) → ((true && b) || (b && false)) ≡ (true && b)
      twice true = refl
      twice false = refl
  merge_other false zero after (suc hit) e settled = absurd (omega (arith, e))
  merge_other false (suc before) after (suc hit) e settled = rw (not_zero before, not_zero hit) (ended (after == 0))
    where
      ended : (b : Bool) → (false || (b && true)) ≡ b
      ended true = refl
      ended false = refl

  ready_after : (now : List ℕ) → length now ≡ length counts → ((j : ℕ) → get_or now j 0 + times j next ≡ get_or counts j 0) → (j : ℕ)
      → (cond (p == j) false (ready j) || (is_done (slice_get now j) && list_any (λ place. place == j) next)) ≡ ready_at tables (listed ++ table.output ∷ []) (slice_get tables j)
  ready_after now long down j = rw (underway.marked j, some_counted j next) (cases (slice_get tables j) refl (step.reads j))
    where
      outside : (b c : Bool) → (cond b false false || (c && false)) ≡ false
      outside true true = refl
      outside true false = refl
      outside false true = refl
      outside false false = refl

      inside : (other : Table) → slice_get tables j ≡ Some other → times j next ≡ hits place p other.inputs
          → (cond (p == j) false (is_ready tables listed other) || (is_done (slice_get now j) && not (times j next == 0))) ≡ is_ready tables (listed ++ table.output ∷ []) other
      inside other at reads =
          let lt : j < length now = omega (arith, within tables j other at, long, underway.long) in
          let done : is_done (slice_get now j) ≡ (count_by (waits tables (listed ++ table.output ∷ [])) other.inputs == 0) =
          ap is_done (read_within now j lt) ∙ ap (λ (n : ℕ). n == 0) (counted_after now down j other at) in
          rw (done, reads, ready_by_count tables listed other, ready_by_count tables (listed ++ table.output ∷ []) other, has_push listed table.output other.output) (by_place (cases_eq j p))
        where
          by_place : (j ≡ p) ⊎ (j ≡ p → ⊥)
              → (cond (p == j) false (not (has listed other.output) && (count_by (waits tables listed) other.inputs == 0))
              || ((count_by (waits tables (listed ++ table.output ∷ [])) other.inputs == 0) && not (hits place p other.inputs == 0)))
              ≡ (not (has listed other.output || bytes_eq other.output table.output) && (count_by (waits tables (listed ++ table.output ∷ [])) other.inputs == 0))
          by_place (inl here) =
              let same : table ≡ other = same_Some table other (sym step.at ∙ (ap (slice_get tables) (sym here) ∙ at)) in
              let name : bytes_eq other.output table.output ≡ true = ap (λ (t : Table). bytes_eq t.output table.output) (sym same) ∙ name_itself table.output in
              let zeros : count_by (waits tables listed) other.inputs ≡ 0 =
              ap (λ (t : Table). count_by (waits tables listed) t.inputs) (sym same) ∙ none_waits tables listed table.inputs (ready_inputs tables listed table step.is_next) in
              rw (eq-eqb p j (sym here), name)
              (merge_itself (count_by (waits tables listed) other.inputs) (count_by (waits tables (listed ++ table.output ∷ [])) other.inputs) (hits place p other.inputs) (less other) zeros
              ∙ closed (has listed other.output) (count_by (waits tables (listed ++ table.output ∷ [])) other.inputs == 0))
            where
              closed : (a b : Bool) → false ≡ (not (a || true) && b)
              closed true b = refl
              closed false b = refl
          by_place (inr n) =
              let name : bytes_eq other.output table.output ≡ false =
              name_not other.output table.output (λ e. n (same_Some j p (sym (step.index.placed j other at) ∙ (ap place e ∙ step.index.placed p table step.at)))) in
              rw (ne_eqb p j (λ e. n (sym e)), name, plain (has listed other.output))
              (merge_other (has listed other.output) (count_by (waits tables listed) other.inputs) (count_by (waits tables (listed ++ table.output ∷ [])) other.inputs) (hits place p other.inputs) (less other)
              (λ among. none_waits tables listed other.inputs (listed_settled tables listed j other step.different underway.listing at among)))
            where
              plain : (a : Bool) → (a || false) ≡ a
              plain true = refl
              plain false = refl

      cases : (found : Option Table) → slice_get tables j ≡ found → times j next ≡ hits_of place p found
          → (cond (p == j) false (ready_at tables listed found) || (is_done (slice_get now j) && not (times j next == 0))) ≡ ready_at tables (listed ++ table.output ∷ []) found
      cases None at e = rw e (outside (p == j) (is_done (slice_get now j)))
      cases (Some other) at e = inside other at e

  pub underway_more : (now : List ℕ) (ready_now : ℕ → Bool) → ((j : ℕ) → j < p → ready j ≡ false) → length now ≡ length counts → ((j : ℕ) → get_or now j 0 + times j next ≡ get_or counts j 0)
      → ((j : ℕ) → ready_now j ≡ (cond (p == j) false (ready j) || (is_done (slice_get now j) && list_any (λ place. place == j) next))) → IsUnderway tables (listed ++ table.output ∷ []) now ready_now
  underway_more now ready_now least long down marks = record {
    listing = listing_more tables listed p table step.different underway.listing step.at step.is_next;
    left = left_after least;
    long = long ∙ underway.long;
    counted = counted_after now down;
    marked = λ j. marks j ∙ ready_after now long down j;
  }

-- the fanouts of the table at an index, as they are looked up
pub next_reads : (tables : List Table) (place : List ℕ → Option ℕ) (readers : List (List ℕ)) (p : ℕ) (seen next : List ℕ) → p < length tables → length readers ≡ length tables → seen ≡ get_or readers p seen → next ≡ seen
    → ((i j : ℕ) → times j (get_or readers i []) ≡ hits_of place i (slice_get tables j)) → (j : ℕ) → times j next ≡ hits_of place p (slice_get tables j)
next_reads tables place readers p seen next lt long at e reads j =
    ap (times j) (e ∙ get_or_read_under readers p (length tables) seen [] at lt (sym long)) ∙ reads p j

-- what a turn of the loop needs: a ready index before which none is ready, and the fanouts of its
-- table
pub record IsTurn (tables : List Table) (listed : List (List ℕ)) (counts : List ℕ) (ready : ℕ → Bool) (place : List ℕ → Option ℕ) (p : ℕ) (next : List ℕ) : Type 0 where
  pub underway : IsUnderway tables listed counts ready
  pub different : all_different (outputs_of tables) ≡ true
  pub index : IsIndex tables place
  pub among : ready p ≡ true
  pub least : (j : ℕ) → j < p → ready j ≡ false
  pub reads : (j : ℕ) → times j next ≡ hits_of place p (slice_get tables j)

module _ (tables : List Table) (listed : List (List ℕ)) (counts : List ℕ) (ready : ℕ → Bool) (place : List ℕ → Option ℕ) (p : ℕ) (next : List ℕ)
    (turn : IsTurn tables listed counts ready place p next) where
  next_of : (table : Table) → slice_get tables p ≡ Some table → is_ready tables listed table ≡ true → IsNext tables listed place p table next
  next_of table at is = record { different = turn.different; index = turn.index; at = at; is_next = is; reads = turn.reads }

  pub turn_bound : (j : ℕ) → times j next ≤ get_or counts j 0
  turn_bound =
      let (table, at, is) = ready_place tables listed counts ready turn.underway p turn.among in
      reads_bound tables listed counts ready place p table next turn.underway (next_of table at is)

  pub turn_more : (names : List (List ℕ)) (output : List ℕ) (now : List ℕ) (ready_left ready_now : ℕ → Bool) → names ≡ listed ++ output ∷ []
      → ((table : Table) → slice_get tables p ≡ Some table → output ≡ table.output) → length now ≡ length counts → ((j : ℕ) → get_or now j 0 + times j next ≡ get_or counts j 0)
      → ((j : ℕ) → ready_left j ≡ cond (p == j) false (ready j))
      → ((j : ℕ) → ready_now j ≡ (ready_left j || (is_done (slice_get now j) && list_any (λ place. place == j) next))) → IsUnderway tables names now ready_now
  turn_more names output now ready_left ready_now e is_output long down popped marks =
      let (table, at, is) = ready_place tables listed counts ready turn.underway p turn.among in
      let same : listed ++ table.output ∷ [] ≡ names = sym (e ∙ ap (λ (name : List ℕ). listed ++ name ∷ []) (is_output table at)) in
      subst (λ (list : List (List ℕ)). IsUnderway tables list now ready_now) same
      (underway_more tables listed counts ready place p table next turn.underway (next_of table at is) now ready_now turn.least long down
      (λ j. marks j ∙ ap (λ (b : Bool). b || (is_done (slice_get now j) && list_any (λ place. place == j) next)) (popped j)))

pub turn_shorter : (tables : List Table) (listed names : List (List ℕ)) (output : List ℕ) (counts : List ℕ) (ready : ℕ → Bool) (p : ℕ) → IsUnderway tables listed counts ready → ready p ≡ true
    → names ≡ listed ++ output ∷ [] → length tables - length names < length tables - length listed
turn_shorter tables listed names output counts ready p underway among e =
    let (table, at, is) = ready_place tables listed counts ready underway p among in
    let room : length listed < length tables =
    fuel_left tables listed table.output underway.listing (ready_new tables listed table is) (placed_name (λ (t : Table). t.output) tables p table at) in
    omega (arith, room, ap length e, length_push listed output)

-- if no index is ready, the order is complete
pub underway_ends : (tables : List Table) (listed : List (List ℕ)) (counts : List ℕ) (ready : ℕ → Bool) → IsUnderway tables listed counts ready → ((j : ℕ) → ready j ≡ false) → listed ≡ order_of tables
unfolding order_from
underway_ends tables listed counts ready underway none = by_fuel underway.left.fuel underway.left.same
  where
    nowhere : find (is_ready tables listed) tables ≡ None
    nowhere = find_nowhere (is_ready tables listed) tables (λ j other at. sym (underway.marked j ∙ ap (ready_at tables listed) at) ∙ none j)

    by_fuel : (fuel : ℕ) → order_from tables fuel listed ≡ order_of tables → listed ≡ order_of tables
    by_fuel zero same = same
    by_fuel (suc fuel) same = sym (ap (λ (found : Option Table). option_map_or (λ (t : Table). order_from tables fuel (listed ++ t.output ∷ [])) found listed) nowhere) ∙ same
