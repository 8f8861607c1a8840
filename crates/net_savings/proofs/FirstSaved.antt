-- If the savings of all candidates are exact, the first cover of the ranking that is a candidate is
-- next.
use Rattle.std.proofs.Common.{◌≡◌, ◌↔◌, ℕ, ◌+◌, ◌<◌, ◌≤◌, ◌==◌, zero, suc, Bool, true, false, Option, Some, None, List, [], ◌∷◌, length, take, get_or, slice_get, refl, sym, ap, ◌∙◌, subst, inl, inr, arith}
use Rattle.std.specs.Prelude.{unwrap_or}
use Rattle.std.specs.List.{list_any, AllByRecursion}
use Rattle.std.proofs.lemmas.Bool.{false≢true, or_cases, or_left, or_right, eq-eqb}
use Rattle.circuit_model.specs.Soundness.{given, IsSound}
use Rattle.circuit_model.specs.declared.circuit.Table.{Table}
use Rattle.alg_div.specs.Cubes.{Has}
use Rattle.net_candidates.specs.Listed.{IsOwn}
use Rattle.net_candidates.specs.Candidates.{IsSharedCube, IsCandidate, literals_in}
use Rattle.net_candidates.specs.Extracting.{IsListable, IsNext, IsDone}
use Rattle.net_candidates.specs.declared.rule.Rule.{Rule}
use Rattle.net_candidates.specs.declared.rule.Rule.TheVariants.{Gcx}
use Rattle.net_candidates.proofs.Usable.{IsReader, tables_read}
use Rattle.net_core.proofs.NewNames.{new_is_free}
use Rattle.net_readers.specs.Fanouts.{is_in}
use Rattle.cover_names.specs.Literals.{NamedCover}
use Rattle.cover_names.specs.Cubes.{is_over}
use Rattle.net_core.specs.Fresh.{IsNewName}
use Rattle.net_work.specs.Placed.{Placed, standing, circuit_of, table_at}
use Rattle.net_work.proofs.Indexed.{all_at, all_standing}
use Rattle.net_savings.specs.Orders.{cover_eq}
use Rattle.net_savings.specs.Ranking.{KnownCovers, saving_in, saved_by, covers_under}
use Rattle.net_savings.proofs.Best.{IsBestOf}
use Rattle.net_savings.proofs.SameCovers.{cover_same, cover_itself}
use Rattle.net_savings.specs.Listing.{AreKept, AreOwn, IsListed}
use Rattle.net_savings.specs.Sharing.{IsSharedBy}
use Rattle.net_savings.specs.Saving.{IsSaving}
use Rattle.net_savings.specs.Savings.{IsNoted, IsRight, AreNotes, IsIn, held_at}
use Rattle.net_savings.proofs.Owning.{own_candidate, candidate_either, shared_candidate, own_over}
use Rattle.net_savings.proofs.Sharers.{shared_at_places}
use Rattle.net_savings.proofs.Slots.{stands}
use Rattle.net_savings.proofs.Found.{none_done, best_next}
use Rattle.net_savings.proofs.Refreshed.{named_literal, in_next}

-- ---- a cover among covers

pub any_cover : (cover : NamedCover) (covers : List NamedCover) → list_any (cover_eq cover) covers ≡ true → Has cover covers
any_cover cover [] h = absurd (false≢true h)
any_cover cover (first ∷ covers) h = elim (or_cases (cover_eq cover first) (list_any (cover_eq cover) covers) h) as (λ _. Has cover (first ∷ covers)) [
  | inl e ↦ inl (cover_same cover first e)
  | inr k ↦ inr (any_cover cover covers k)
]

pub cover_any : (cover : NamedCover) (covers : List NamedCover) → Has cover covers → list_any (cover_eq cover) covers ≡ true
cover_any cover [] m = absurd m
cover_any cover (first ∷ covers) m = elim m as (λ _. list_any (cover_eq cover) (first ∷ covers) ≡ true) [
  | inl e ↦ or_left (cover_eq cover first) (list_any (cover_eq cover) covers) (subst (λ (c : NamedCover). cover_eq cover c ≡ true) e (cover_itself cover))
  | inr k ↦ or_right (cover_eq cover first) (list_any (cover_eq cover) covers) (cover_any cover covers k)
]

pub held_in : (own : List (Option (List NamedCover))) (place : ℕ) (cover : NamedCover) → held_at (slice_get own place) cover ≡ true → IsIn own place cover
held_in own place cover h = cases (slice_get own place) refl h
  where
    cases : (o : Option (Option (List NamedCover))) → slice_get own place ≡ o → held_at o cover ≡ true → IsIn own place cover
    cases None e h = absurd (false≢true h)
    cases (Some None) e h = absurd (false≢true h)
    cases (Some (Some covers)) e h = (covers, e, any_cover cover covers h)

pub in_held : (own : List (Option (List NamedCover))) (place : ℕ) (cover : NamedCover) → held_at (slice_get own place) cover ≡ false → IsIn own place cover → ⊥
in_held own place cover h (covers, e, m) = false≢true (sym h ∙ (ap (λ (o : Option (Option (List NamedCover))). held_at o cover) e ∙ cover_any cover covers m))

-- ---- candidates are exactly the covers in the lists

-- the index of a table
place_of : (slots : List (Option Table)) (table : Table) → Has table (standing slots) → (at : ℕ) × (table_at slots at ≡ Some table)
unfolding standing
place_of [] table m = absurd m
place_of (None ∷ slots) table m = let (at, e) = place_of slots table m in (suc at, e)
place_of (Some first ∷ slots) table m = elim m as (λ _. (at : ℕ) × (table_at (Some first ∷ slots) at ≡ Some table)) [
  | inl e ↦ (0, ap (λ (t : Table). Some t) (sym e))
  | inr k ↦ (let (at, e) = place_of slots table k in (suc at, e))
]

module _ (rule : Rule) (now : Placed) (sound : IsSound (circuit_of now)) (own : List (Option (List NamedCover))) (lists : AreKept rule now.slots own) where
  -- a cover in a list is a candidate
  pub in_candidate : (place : ℕ) (cover : NamedCover) → IsIn own place cover → IsCandidate rule (standing now.slots) cover
  in_candidate place cover (covers, there, m) = cases (table_at now.slots place) refl (lists.each place covers there)
    where
      cases : (o : Option Table) → table_at now.slots place ≡ o → AreOwn rule o covers → IsCandidate rule (standing now.slots) cover
      cases None e h = absurd (subst (λ (cs : List NamedCover). Has cover cs) h m)
      cases (Some table) e h = own_candidate rule (standing now.slots) table cover (stands now.slots place table e) ((h.1 cover).0 m)

  module _ (listed : (place : ℕ) (table : Table) → table_at now.slots place ≡ Some table → IsListed own place) where
    -- what a table gives by itself is in its list, and the table reads all names of it
    pub own_in : (table : Table) (cover : NamedCover) → Has table (standing now.slots) → IsOwn rule table cover
        → (place : ℕ) × ((at_place : table_at now.slots place ≡ Some table) × (is_over table.inputs cover ≡ true)) × IsIn own place cover
    own_in table cover among is =
        let (place, there) = place_of now.slots table among in
        let (covers, e) = listed place table there in
        let own_is : AreOwn rule (Some table) covers = subst (λ (o : Option Table). AreOwn rule o covers) there (lists.each place covers e) in
        let reader = all_at (IsReader (given (circuit_of now))) now.slots (tables_read (circuit_of now) sound) place table there in
        (place, (there, own_over rule table cover reader.once is), (covers, e, (own_is.1 cover).1 is))

    pub all_listable : AllByRecursion (IsListable rule) (standing now.slots)
    all_listable = all_standing (IsListable rule) now.slots (λ place table there.
        let (covers, e) = listed place table there in
        let own_is : AreOwn rule (Some table) covers = subst (λ (o : Option Table). AreOwn rule o covers) there (lists.each place covers e) in
        own_is.0)

    -- candidates that rows do not share are the covers in a list at one of some indices, which
    -- include those of all tables that read all their names
    pub held_candidate : (cover : NamedCover) (places : List ℕ) → (rule ≡ Gcx → ⊥) → ((at : ℕ) (table : Table) → table_at now.slots at ≡ Some table → is_over table.inputs cover ≡ true → is_in places at ≡ true)
        → ((place : ℕ) × (is_in places place ≡ true) × IsIn own place cover) ↔ IsCandidate rule (standing now.slots) cover
    held_candidate cover places away all = (
      λ (place, among, m). in_candidate place cover m,
      λ is. elim (candidate_either rule (standing now.slots) cover is) as (λ _. (place : ℕ) × (is_in places place ≡ true) × IsIn own place cover) [
        | inl (table, among, given_by) ↦ (let (place, (there, over), m) = own_in table cover among given_by in (place, all place table there over, m))
        | inr (e, shared) ↦ absurd (away e)
      ],
    )

    -- candidates that rows share
    pub shared_is : (cover : NamedCover) → rule ≡ Gcx → IsSharedCube (standing now.slots) cover ↔ IsCandidate rule (standing now.slots) cover
    shared_is cover e = (
      λ is. shared_candidate rule (standing now.slots) cover e is,
      λ is. elim (candidate_either rule (standing now.slots) cover is) as (λ _. IsSharedCube (standing now.slots) cover) [
        | inl (table, among, given_by) ↦ absurd (subst (λ (r : Rule). IsOwn r table cover) e given_by)
        | inr (same, shared) ↦ shared
      ],
    )

-- an item of the indices
pub place_among : (places : List ℕ) (i : ℕ) → i < length places → is_in places (get_or places i 0) ≡ true
place_among [] i below = absurd (omega (arith, below))
place_among (first ∷ places) zero below = or_left (first == first) (is_in places first) (eq-eqb first first refl)
place_among (first ∷ places) (suc i) below = or_right (first == get_or places i 0) (is_in places (get_or places i 0)) (place_among places i (omega (arith, below)))

-- one more index
pub not_in_next : (own : List (Option (List NamedCover))) (cover : NamedCover) (places : List ℕ) (i place d : ℕ) → i < length places → place ≡ get_or places i d
    → ((at : ℕ) → is_in (take i places) at ≡ true → IsIn own at cover → ⊥) → (IsIn own place cover → ⊥) → (at : ℕ) → is_in (take (i + 1) places) at ≡ true → IsIn own at cover → ⊥
not_in_next own cover places i place d below is before here at h =
    elim (in_next places i place d at below is h) as (λ _. IsIn own at cover → ⊥) [
      | inl k ↦ before at k
      | inr e ↦ subst (λ (n : ℕ). IsIn own n cover → ⊥) e here
    ]

-- ---- the best

module _ (rule : Rule) (now : Placed) (name : List ℕ) (sound : IsSound (circuit_of now)) (new : IsNewName (circuit_of now) name) (known : KnownCovers) (own : List (Option (List NamedCover))) (met : NamedCover → Bool)
    (notes : AreNotes rule now (saving_in known) (covers_under known) own [] met []) where
  abbrev pub Passes : NamedCover → Type 0
  Passes cover = IsCandidate rule (standing now.slots) cover

  pub all_listed : (place : ℕ) (table : Table) → table_at now.slots place ≡ Some table → IsListed own place
  all_listed place table there = notes.listed place table there refl

  right : (cover : NamedCover) → IsRight now (saving_in known) cover
  right cover number e = let (at, m) = notes.found.found cover number e in notes.exact at cover m refl number e

  noted : (cover : NamedCover) → Passes cover → IsNoted (saving_in known) cover
  noted cover is =
      elim (candidate_either rule (standing now.slots) cover is) as (λ _. IsNoted (saving_in known) cover) [
        | inl (table, among, given_by) ↦ (let (place, there, (covers, e, m)) = own_in rule now sound own notes.lists all_listed table cover among given_by in notes.noted place covers e cover m)
        | inr (same, shared) ↦ (let (one, other, (table, first), (another, second), by) = shared_at_places now.slots cover shared in
            notes.shared one other cover (all_listed one table first) (all_listed other another second) (subst (λ (r : Rule). IsSharedBy r now.slots one other cover) (sym same) by))
      ]

  -- the saving set for a candidate is what it saves
  saves_noted : (cover : NamedCover) (number : ℕ) → Passes cover → IsSaving (standing now.slots) name cover number → number ≡ saved_by known cover
  saves_noted cover number is saving =
      let (count, e) = noted cover is in
      (right cover count e name (new_is_free (circuit_of now) name new).0).one number saving ∙ sym (ap (λ (o : Option ℕ). unwrap_or o 0) e)

  some_noted : (cover : NamedCover) → 1 ≤ saved_by known cover → saving_in known cover ≡ Some (saved_by known cover)
  some_noted cover some = cases (saving_in known cover) refl some
    where
      cases : (o : Option ℕ) → saving_in known cover ≡ o → 1 ≤ unwrap_or o 0 → saving_in known cover ≡ Some (saved_by known cover)
      cases None e h = absurd (omega (arith, h))
      cases (Some number) e h = e ∙ ap (λ (n : ℕ). Some n) (sym (ap (λ (o : Option ℕ). unwrap_or o 0) e))

  -- a cover that saves has a literal
  pub some_literal : (cover : NamedCover) → 1 ≤ saved_by known cover → 1 ≤ literals_in cover
  some_literal cover some = let (at, m) = notes.found.found cover (saved_by known cover) (some_noted cover some) in named_literal cover at (notes.found.named at cover m)

  pub first_next : (cover : NamedCover) → Passes cover → IsBestOf known Passes cover → IsNext rule (circuit_of now) name cover
  first_next cover is best =
      best_next rule (circuit_of now) name sound new cover (saved_by known cover) is (all_listable rule now sound own notes.lists all_listed)
      ((right cover (saved_by known cover) (some_noted cover best.saves) name (new_is_free (circuit_of now) name new).0).saving best.saves)
      (λ other number may saving.
      let same : number ≡ saved_by known other = saves_noted other number may saving in
      let most : saved_by known other ≤ saved_by known cover = best.most other may in
      omega (arith, same, most))
      (λ other number may saving level less. best.first other may (sym (saves_noted other number may saving) ∙ level) less)

  pub none_first : ((other : NamedCover) → Passes other → saved_by known other ≡ 0) → IsDone rule (circuit_of now)
  none_first none =
      none_done rule (circuit_of now) name sound new (all_listable rule now sound own notes.lists all_listed)
      (λ other number may saving.
      let same : number ≡ saved_by known other = saves_noted other number may saving in
      let zero_is : saved_by known other ≡ 0 = none other may in
      absurd (omega (arith, same, zero_is, saving.some)))
