-- Gains that are kept while tables are added and change, and the best candidate by them.
use Rattle.std.proofs.Common.{◌≡◌, ℕ, ◌+◌, ◌-◌, ◌<◌, ◌≤◌, zero, suc, Bool, true, false, Result, Ok, Err, Option, Some, None, is_some, List, [], ◌∷◌, ◌++◌, map, length, take, set, IfOk, IfSome, MatchOption, refl, sym, ap, ◌∙◌, subst, inl, inr, arith}
use Rattle.std.specs.List.{sum_by, list_all, AllByRecursion}
use Rattle.std.proofs.lemmas.Bool.{and_parts, cases_lt}
use Rattle.std.proofs.lemmas.List.{map_push, map-set, length-map}
use Rattle.std.proofs.lemmas.List.Sums.{sum_by-cons}
use Rattle.circuit_model.specs.Counts.{literals_of_table}
use Rattle.circuit_model.specs.Names.{has}
use Rattle.circuit_model.specs.Soundness.{IsSound}
use Rattle.circuit_model.specs.declared.circuit.Table.{Table}
use Rattle.circuit_model.specs.declared.circuit.Circuit.{Circuit}
use Rattle.circuit_laws.proofs.Sound.{all_append}
use Rattle.alg_div.specs.Cubes.{Has}
use Rattle.net_candidates.specs.Candidates.{IsCandidate, cubes_of, literals_in}
use Rattle.net_candidates.specs.Extracting.{literals_after, IsListable, IsOpen, IsNext, IsDone}
use Rattle.net_candidates.specs.declared.rule.Rule.TheVariants.{Fx}
use Rattle.net_candidates.proofs.Totals.{lost, IsExact, lost_exact, best_from, done_from}
use Rattle.net_gains.specs.Kept.{Kept, with_last, with_cubes, is_countable, total, Saves, IsFirst}
use Rattle.cover_names.specs.Literals.{Cube, NamedCover}
use Rattle.net_core.specs.Fresh.{IsNewName}
use Rattle.net_core.specs.Places.{written_of}
use Rattle.net_core.specs.Tables.{named}
use Rattle.net_core.specs.declared.adding.AddFault.{AddFault}
use Rattle.net_core.specs.declared.places.Entry.{Entry}
use Rattle.net_core.specs.declared.table.CoverTable.{CoverTable}
use Rattle.net_work.specs.Placed.{Placed, standing, circuit_of, table_at, with_slot, AddsLast}
use Rattle.net_work.proofs.Standing.{standing_push}
use Rattle.net_gains.specs.Gains.{gains, over_pairs}
use Rattle.alg_tables.specs.Dividing.{divided}
use Rattle.circuit_tables.specs.Tidy.{rows_differ}
use Rattle.net_savings.specs.Sharing.{cubes_in}
use Rattle.net_extract.specs.Known.{IsCounted, AreCounted}
use Rattle.net_savings.specs.Saving.{LeavesNarrow}
use Rattle.net_savings.proofs.Slots.{all_set}

-- ---- tables are added and change

abbrev pub Differs : Table → Type 0
Differs table = rows_differ table.rows ≡ true

pub counted_none : (kept : Kept) → kept.tables ≡ [] → IsCounted [] kept
unfolding standing
counted_none kept is = record { tables = is; differ = tt }

pub counted_push : (slots : List (Option Table)) (kept new : Kept) (table : Table) → is_countable kept.names table ≡ true → new ≡ with_last kept (cubes_of table) → IsCounted slots kept
    → IsCounted (slots ++ Some table ∷ []) new
counted_push slots kept new table may is counted = record {
  tables = ap (λ (k : Kept). k.tables) is ∙ ap (λ (tables : List (List Cube)). tables ++ cubes_of table ∷ []) counted.tables ∙ sym (map_push cubes_in slots (Some table));
  differ = subst (AllByRecursion Differs) (sym (standing_push slots table))
      (all_append Differs (standing slots) (table ∷ []) counted.differ ((and_parts (list_all (has kept.names) table.inputs) (rows_differ table.rows) may).1, tt));
}

pub counted_set : (slots : List (Option Table)) (kept new : Kept) (place : ℕ) (table : Table) → is_countable kept.names table ≡ true → new ≡ with_cubes kept place (cubes_of table) → IsCounted slots kept
    → IsCounted (set slots place (Some table)) new
counted_set slots kept new place table may is counted = record {
  tables = ap (λ (k : Kept). k.tables) is ∙ ap (λ (tables : List (List Cube)). set tables place (cubes_of table)) counted.tables ∙ sym (map-set cubes_in slots place (Some table));
  differ = all_set Differs slots place table (and_parts (list_all (has kept.names) table.inputs) (rows_differ table.rows) may).1 counted.differ;
}

module _ {R : Type 0} (table : CoverTable R) (kept new : Kept) (counted : Bool) (yes : counted ≡ true) (may : (output : List ℕ) → counted ≡ is_countable kept.names (named output table)) where
  pub known_pushed : (found : Option Kept) → (counted ≡ true → (output : List ℕ) → new ≡ with_last kept (cubes_of (named output table))) → found ≡ Some kept
      → (slots : List (Option Table)) (output : List ℕ) → AreCounted slots found → IsCounted (slots ++ Some (named output table) ∷ []) new
  known_pushed found taken is slots output h = counted_push slots kept new (named output table) (sym (may output) ∙ yes) (taken yes output) (subst (AreCounted slots) is h)

  pub known_set : (place : ℕ) (found : Option Kept) → (counted ≡ true → (output : List ℕ) → new ≡ with_cubes kept place (cubes_of (named output table))) → found ≡ Some kept
      → (slots : List (Option Table)) (output : List ℕ) → AreCounted slots found → IsCounted (set slots place (Some (named output table))) new
  known_set place found taken is slots output h = counted_set slots kept new place (named output table) (sym (may output) ∙ yes) (taken yes output) (subst (AreCounted slots) is h)

-- an index whose table is counted
pub counted_slot : {R E : Type 0} (result : Result Bool E) (entry : Entry R) (slot : Option Table) (kept new : Kept) → Some (written_of entry) ≡ slot
    → IfOk result (λ counted. (output : List ℕ) → counted ≡ is_countable kept.names (named output entry.table))
    → IfOk result (λ counted. counted ≡ true → (output : List ℕ) → new ≡ with_last kept (cubes_of (named output entry.table)))
    → IfOk result (λ counted. counted ≡ true → (slots : List (Option Table)) → IsCounted slots kept → IsCounted (slots ++ slot ∷ []) new)
counted_slot (Ok counted) entry slot kept new there may taken = λ yes slots h.
    subst (λ (s : Option Table). IsCounted (slots ++ s ∷ []) new) there (counted_push slots kept new (written_of entry) (sym (may entry.output) ∙ yes) (taken yes entry.output) h)
counted_slot (Err fault) entry slot kept new there may taken = tt

-- one more index is counted
pub take_slot : (slots : List (Option Table)) (at : ℕ) → at < length slots → take at slots ++ table_at slots at ∷ [] ≡ take (at + 1) slots
take_slot slots at below = more slots at below ∙ ap (λ (n : ℕ). take n slots) (let one : suc at ≡ at + 1 = omega arith in one)
  where
    more : (slots : List (Option Table)) (at : ℕ) → at < length slots → take at slots ++ table_at slots at ∷ [] ≡ take (suc at) slots
    more [] at below = absurd (omega (arith, below))
    more (slot ∷ slots) zero below = refl
    more (slot ∷ slots) (suc at) below = ap (λ (rest : List (Option Table)). slot ∷ rest) (more slots at (omega (arith, below)))

-- the index of a table is within the network
stands_within : (slots : List (Option Table)) (at : ℕ) → is_some (table_at slots at) ≡ true → at < length slots
stands_within [] at some = absurd (let no : false ≡ true = some in cc)
stands_within (slot ∷ slots) zero some = omega arith
stands_within (slot ∷ slots) (suc at) some = let below : at < length slots = stands_within slots at some in omega (arith, below)

pub counted_within : (slots : List (Option Table)) (found : Option Kept) (place : ℕ) → is_some (table_at slots place) ≡ true → AreCounted slots found → IfSome found (λ kept. place < length kept.tables)
counted_within slots None place some counted = tt
counted_within slots (Some kept) place some counted =
    let long : length kept.tables ≡ length (map cubes_in slots) = ap length counted.tables in
    omega (arith, long, length-map slots cubes_in, stands_within slots place some)

pub counted_after_set : {R : Type 0} (now new : Placed) (place : ℕ) (table : CoverTable R) (known after : Option Kept) → is_some (table_at now.slots place) ≡ true → AreCounted now.slots known
    → ((slots : List (Option Table)) (output : List ℕ) → AreCounted slots known → AreCounted (set slots place (Some (named output table))) after)
    → ((old : Table) → table_at now.slots place ≡ Some old → new ≡ with_slot now place (Some (named old.output table))) → AreCounted new.slots after
counted_after_set {R} now new place table known after some counted kept is = cases (table_at now.slots place) refl some
  where
    cases : (o : Option Table) → table_at now.slots place ≡ o → is_some o ≡ true → AreCounted new.slots after
    cases None e h = absurd (let no : false ≡ true = h in cc)
    cases (Some old) e h = subst (λ (p : Placed). AreCounted p.slots after) (sym (is old e)) (kept now.slots old.output counted)

pub counted_after_add : {R : Type 0} (now new : Placed) (table : CoverTable R) (known after : Option Kept) (result : Result (List ℕ) AddFault) → AreCounted now.slots known
    → ((slots : List (Option Table)) (output : List ℕ) → AreCounted slots known → AreCounted (slots ++ Some (named output table) ∷ []) after)
    → AddsLast now table new result → IfOk result (λ _. AreCounted new.slots after)
counted_after_add now new table known after (Ok name) counted kept adds = subst (λ (p : Placed). AreCounted p.slots after) (sym adds.2) (kept now.slots name counted)
counted_after_add now new table known after (Err fault) counted kept adds = tt

-- ---- the best candidate by gains

-- what is proved of gains below: tables lose them, and only candidates gain
abbrev pub Loses : Type 0
Loses = (circuit : Circuit) (name : List ℕ) (cover : NamedCover) (table : Table) → IsSound circuit → IsNewName circuit name → IsCandidate Fx circuit.tables cover → Has table circuit.tables
    → rows_differ table.rows ≡ true → literals_of_table (divided name true cover table) + gains cover (cubes_of table) ≡ literals_of_table table

abbrev pub Gains : Type 0
Gains = (tables : List Table) (cover : NamedCover) → 0 < sum_by (λ (table : Table). gains cover (cubes_of table)) tables → IsCandidate Fx tables cover

-- no gains without rows
none_gained : (cover : NamedCover) → gains cover [] ≡ 0
unfolding gains over_pairs
none_gained cover = refl

gained : (cover : NamedCover) (slots : List (Option Table)) → sum_by (gains cover) (map cubes_in slots) ≡ sum_by (λ (table : Table). gains cover (cubes_of table)) (standing slots)
unfolding standing
gained cover [] = refl
gained cover (None ∷ slots) = omega (arith, sum_by-cons (gains cover) [] (map cubes_in slots), none_gained cover, gained cover slots)
gained cover (Some table ∷ slots) =
    omega (arith, sum_by-cons (gains cover) (cubes_of table) (map cubes_in slots), gained cover slots, sum_by-cons (λ (t : Table). gains cover (cubes_of t)) table (standing slots))

-- sums of equal summands
same_sum : {X : Type 0} (f g : X → ℕ) (xs : List X) → ((x : X) → Has x xs → f x ≡ g x) → sum_by f xs ≡ sum_by g xs
same_sum f g [] same = refl
same_sum f g (x ∷ xs) same =
    let rest : sum_by f xs ≡ sum_by g xs = same_sum f g xs (λ y m. same y (inr m)) in
    let here : f x ≡ g x = same x (inl refl) in
    omega (arith, rest, here, sum_by-cons f x xs, sum_by-cons g x xs)

all_has : (P : Table → Type 0) (tables : List Table) → AllByRecursion P tables → (table : Table) → Has table tables → P table
all_has P [] all table m = absurd m
all_has P (first ∷ tables) all table m = elim m as (λ _. P table) [ inl e ↦ subst P (sym e) all.0 | inr k ↦ all_has P tables all.1 table k ]

all_listable : (tables : List Table) → AllByRecursion (IsListable Fx) tables
all_listable [] = tt
all_listable (first ∷ tables) = (λ many. many, all_listable tables)

module _ (now : Placed) (name : List ℕ) (kept : Kept) (sound : IsSound (circuit_of now)) (new : IsNewName (circuit_of now) name) (counted : IsCounted now.slots kept) (loses : Loses) (only : Gains) where
  total_is : (cover : NamedCover) → total kept cover ≡ sum_by (λ (table : Table). gains cover (cubes_of table)) (standing now.slots)
  total_is cover = ap (sum_by (gains cover)) counted.tables ∙ gained cover now.slots

  lost_is : (cover : NamedCover) → IsCandidate Fx (standing now.slots) cover → lost name cover (standing now.slots) ≡ total kept cover
  lost_is cover is =
      same_sum (λ (table : Table). literals_of_table table - literals_of_table (divided name true cover table)) (λ (table : Table). gains cover (cubes_of table)) (standing now.slots)
      (λ table m.
      let e : literals_of_table (divided name true cover table) + gains cover (cubes_of table) ≡ literals_of_table table =
      loses (circuit_of now) name cover table sound new is m (all_has Differs (standing now.slots) counted.differ table m) in
      omega (arith, e))
      ∙ sym (total_is cover)

  exact : IsExact Fx (circuit_of now) name (total kept)
  exact cover may =
      ap (λ (n : ℕ). literals_after (circuit_of now) name cover + n) (sym (lost_is cover may.candidate)) ∙ lost_exact Fx (circuit_of now) name sound new cover may

  -- a candidate that may be extracted is admissible
  passes : (cover : NamedCover) → IsOpen Fx (circuit_of now) name cover → LeavesNarrow (standing now.slots) name cover
  passes cover may = record { added = may.added; changed = may.changed }

  counted_done : ((cover : NamedCover) → Saves kept cover → LeavesNarrow (standing now.slots) name cover → ⊥) → IsDone Fx (circuit_of now)
  counted_done none =
      done_from Fx (circuit_of now) name (total kept) (all_listable (standing now.slots)) new exact
      (λ cover may. elim (cases_lt (literals_in cover) (total kept cover)) as (λ _. total kept cover ≤ literals_in cover) [
        | inl more ↦ absurd (none cover more (passes cover may))
        | inr less ↦ less
      ])

  counted_open : (cover : NamedCover) → Saves kept cover → LeavesNarrow (standing now.slots) name cover → IsOpen Fx (circuit_of now) name cover
  counted_open cover saves narrow = record {
    candidate = only (standing now.slots) cover (subst (λ (n : ℕ). 0 < n) (total_is cover) (omega (arith, saves)));
    added = narrow.added;
    changed = narrow.changed;
  }

  level_less : (other_all other_own all own : ℕ) → own < all → other_all ≤ other_own → other_all + own ≤ all + other_own
  level_less other_all other_own all own saves less = omega (arith, saves, less)

  level_not : (other_all other_own all own : ℕ) → own < all → other_all ≤ other_own → other_all + own ≡ all + other_own → ⊥
  level_not other_all other_own all own saves less same = absurd (omega (arith, saves, less, same))

  counted_next : (cover : NamedCover) → IsFirst (LeavesNarrow (standing now.slots) name) kept cover → IsNext Fx (circuit_of now) name cover
  counted_next cover is = record {
    listable = all_listable (standing now.slots);
    free = new;
    best = best_from Fx (circuit_of now) name (total kept) cover exact (counted_open cover is.saves is.passes) is.saves
        (λ other may. elim (cases_lt (literals_in other) (total kept other)) as (λ _. total kept other + literals_in cover ≤ total kept cover + literals_in other) [
          | inl more ↦ is.most other more (passes other may)
          | inr less ↦ level_less (total kept other) (literals_in other) (total kept cover) (literals_in cover) is.saves less
        ])
        (λ other may same below. elim (cases_lt (literals_in other) (total kept other)) as (λ _. ⊥) [
          | inl more ↦ is.first other more (passes other may) same below
          | inr less ↦ level_not (total kept other) (literals_in other) (total kept cover) (literals_in cover) is.saves less same
        ]);
  }

  pub counted_found : (found : Option NamedCover)
      → MatchOption found ((cover : NamedCover) → Saves kept cover → LeavesNarrow (standing now.slots) name cover → ⊥) (IsFirst (LeavesNarrow (standing now.slots) name) kept)
      → MatchOption found (IsDone Fx (circuit_of now)) (IsNext Fx (circuit_of now) name)
  counted_found None h = counted_done h
  counted_found (Some cover) h = counted_next cover h
