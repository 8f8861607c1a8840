-- What tables lose if they are divided.
use Rattle.std.proofs.Common.{◌≡◌, ℕ, ◌+◌, ◌≤◌, ◌<◌, ltb, ◌&&◌, Bool, true, false, Option, Some, None, List, [], ◌∷◌, ◌++◌, length, take, get_or, refl, sym, ap, ◌∙◌, subst, inl, inr, arith, ◌⊎◌}
use Rattle.std.specs.List.{sum_by, AllByRecursion}
use Rattle.std.proofs.lemmas.Bool.{false≢true, and_parts, ltb-true, lt-ltb, cases_lt}
use Rattle.std.proofs.lemmas.List.{take_more}
use Rattle.std.proofs.lemmas.List.Sums.{sum_by_push}
use Rattle.circuit_model.specs.Counts.{literals_of_table}
use Rattle.circuit_model.specs.Names.{has, all_different}
use Rattle.circuit_model.specs.declared.circuit.Table.{Table}
use Rattle.circuit_laws.proofs.Sound.{all_append}
use Rattle.alg_div.specs.Cubes.{Has}
use Rattle.net_candidates.specs.Extracting.{IsNarrow}
use Rattle.net_candidates.proofs.Gains.{divided_or_not}
use Rattle.net_candidates.proofs.Sums.{AreOnce}
use Rattle.net_candidates.proofs.Usable.{all_member}
use Rattle.net_readers.specs.Fanouts.{is_in}
use Rattle.cover_names.specs.Literals.{NamedCover}
use Rattle.cover_names.specs.Cubes.{is_over}
use Rattle.net_work.specs.Placed.{standing, table_at}
use Rattle.net_work.proofs.Indexed.{all_at, all_standing}
use Rattle.alg_tables.specs.Dividing.{divided, cover_table}
use Rattle.alg_tables.proofs.Divided.{unread_stays}
use Rattle.circuit_tables.specs.Tidy.{IsWide}
use Rattle.net_savings.specs.Indexed.{AreAll}
use Rattle.net_savings.specs.Saving.{lost_by, lost_of, lost_at, IsNarrowIn, IsLoss, IsSaved}
use Rattle.net_savings.proofs.Summing.{in_has, sum_places}
use Rattle.net_savings.proofs.Reading.{divided_reads_name}
use Rattle.sis_base.specs.declared.limits.TheConstants.{MAX_INPUTS}

module _ (name : List ℕ) (cover : NamedCover) (table : Table) where
  pub wide_loss : (inputs : List (List ℕ)) → has table.inputs name ≡ false → inputs ≡ (divided name true cover table).inputs → (ltb MAX_INPUTS (length inputs) && has inputs name) ≡ true
      → IsLoss name cover (Some table) None
  wide_loss inputs free is wide narrow =
      let parts = and_parts (ltb MAX_INPUTS (length inputs)) (has inputs name) wide in
      elim narrow as (λ _. ⊥) [
        | inl stays ↦ false≢true (sym free ∙ (ap (λ (t : Table). has t.inputs name) (sym stays) ∙ (ap (λ (names : List (List ℕ)). has names name) (sym is) ∙ parts.1)))
        | inr few ↦ (let many : MAX_INPUTS < length inputs = ltb-true MAX_INPUTS (length inputs) parts.0 in
            let same : length inputs ≡ length (divided name true cover table).inputs = ap length is in
            absurd (omega (arith, few, many, same)))
      ]

  pub narrow_loss : (inputs : List (List ℕ)) (lost : ℕ) → IsWide table → all_different table.inputs ≡ true → has table.inputs name ≡ false → inputs ≡ (divided name true cover table).inputs
      → (ltb MAX_INPUTS (length inputs) && has inputs name) ≡ false → lost ≡ lost_of name cover (Some table) → IsLoss name cover (Some table) (Some lost)
  narrow_loss inputs lost shaped once free is test exact = (
    exact,
    elim (divided_or_not name true cover table) as (λ _. IsNarrow name cover table) [
      | inl way ↦ inr (few (ltb MAX_INPUTS (length inputs)) refl (ap (λ (names : List (List ℕ)). has names name) is ∙ divided_reads_name name true cover table once free way shaped))
      | inr stays ↦ inl stays
    ],
  )
    where
      few : (b : Bool) → ltb MAX_INPUTS (length inputs) ≡ b → has inputs name ≡ true → length (divided name true cover table).inputs ≤ MAX_INPUTS
      few true e reads = absurd (false≢true (sym test ∙ (ap (λ (b : Bool). b && has inputs name) e ∙ reads)))
      few false e reads =
          let same : length inputs ≡ length (divided name true cover table).inputs = ap length is in
          elim (cases_lt MAX_INPUTS (length inputs)) as (λ _. length (divided name true cover table).inputs ≤ MAX_INPUTS) [
            | inl more ↦ absurd (false≢true (sym e ∙ lt-ltb MAX_INPUTS (length inputs) more))
            | inr less ↦ omega (arith, same, less)
          ]

-- the tables that read all that a cover reads are all that it divides
pub all_readers : (cover : NamedCover) (slots : List (Option Table)) (places : List ℕ) → AreOnce places
    → ((at : ℕ) (table : Table) → table_at slots at ≡ Some table → is_over table.inputs cover ≡ true → is_in places at ≡ true) → AreAll cover slots places
all_readers cover slots places once all = record { once = once; all = λ at table there. cases at table there (is_over table.inputs cover) refl }
  where
    cases : (at : ℕ) (table : Table) → table_at slots at ≡ Some table → (b : Bool) → is_over table.inputs cover ≡ b → (is_in places at ≡ true) ⊎ ((name : List ℕ) → divided name true cover table ≡ table)
    cases at table there true e = inl (all at table there e)
    cases at table there false e = inr (λ name. unread_stays name true cover table e)

module _ (name : List ℕ) (cover : NamedCover) (slots : List (Option Table)) where
  -- a table at another index stays as it is
  pub stays : (places : List ℕ) → AreAll cover slots places → (at : ℕ) → (Has at places → ⊥) → (table : Table) → table_at slots at ≡ Some table → divided name true cover table ≡ table
  stays places are at away table there =
      elim (are.all at table there) as (λ _. divided name true cover table ≡ table) [
        | inl h ↦ absurd (away (in_has places at h))
        | inr same ↦ same name
      ]

  none_lost : (places : List ℕ) → AreAll cover slots places → (at : ℕ) → (Has at places → ⊥) → lost_of name cover (table_at slots at) ≡ 0
  none_lost places are at away = cases (table_at slots at) refl
    where
      cases : (o : Option Table) → table_at slots at ≡ o → lost_of name cover o ≡ 0
      cases None e = refl
      cases (Some table) e =
          let same : literals_of_table (divided name true cover table) ≡ literals_of_table table = ap literals_of_table (stays places are at away table e) in
          omega (arith, same)

  pub all_lost : (places : List ℕ) → AreAll cover slots places → lost_at name cover slots places ≡ sum_by (lost_by name cover) (standing slots)
  all_lost places are = sum_places (lost_of name cover) refl places slots are.once (none_lost places are)

  pub all_narrow : (places : List ℕ) → AreAll cover slots places → AllByRecursion (λ place. IsNarrowIn name cover (table_at slots place)) places
      → AllByRecursion (IsNarrow name cover) (standing slots)
  all_narrow places are narrow = all_standing (IsNarrow name cover) slots (λ at table there.
      elim (are.all at table there) as (λ _. IsNarrow name cover table) [
        | inl h ↦ subst (IsNarrowIn name cover) there (all_member (λ place. IsNarrowIn name cover (table_at slots place)) places narrow at (in_has places at h))
        | inr same ↦ inl (same name)
      ])

  pub narrow_there : AllByRecursion (IsNarrow name cover) (standing slots) → (at : ℕ) → IsNarrowIn name cover (table_at slots at)
  narrow_there all at = cases (table_at slots at) refl
    where
      cases : (o : Option Table) → table_at slots at ≡ o → IsNarrowIn name cover o
      cases None e = tt
      cases (Some table) e = all_at (IsNarrow name cover) slots all at table e

  pub saved_wide : MAX_INPUTS < length (cover_table name cover).inputs → IsSaved (standing slots) name cover None
  saved_wide many = λ number saving. absurd (omega (arith, many, saving.narrow.added))

-- one more index
pub losses_next : (name : List ℕ) (cover : NamedCover) (slots : List (Option Table)) (places : List ℕ) (i place d total lost sum : ℕ) → i < length places → place ≡ get_or places i d
    → total ≡ lost_at name cover slots (take i places) → lost ≡ lost_of name cover (table_at slots place) → sum ≡ total + lost → sum ≡ lost_at name cover slots (take (i + 1) places)
losses_next name cover slots places i place d total lost sum below is before here made =
    let more : take (i + 1) places ≡ take i places ++ place ∷ [] = take_more places i d below ∙ ap (λ (p : ℕ). take i places ++ p ∷ []) (sym is) in
    let split : lost_at name cover slots (take (i + 1) places) ≡ lost_at name cover slots (take i places) + lost_of name cover (table_at slots place) =
    ap (lost_at name cover slots) more ∙ sum_by_push (λ at. lost_of name cover (table_at slots at)) (take i places) place in
    omega (arith, before, here, made, split)

pub narrow_next : (name : List ℕ) (cover : NamedCover) (slots : List (Option Table)) (places : List ℕ) (i place d : ℕ) → i < length places → place ≡ get_or places i d
    → AllByRecursion (λ at. IsNarrowIn name cover (table_at slots at)) (take i places) → IsNarrowIn name cover (table_at slots place)
    → AllByRecursion (λ at. IsNarrowIn name cover (table_at slots at)) (take (i + 1) places)
narrow_next name cover slots places i place d below is before here =
    subst (AllByRecursion (λ at. IsNarrowIn name cover (table_at slots at))) (sym (take_more places i d below ∙ ap (λ (p : ℕ). take i places ++ p ∷ []) (sym is)))
    (all_append (λ at. IsNarrowIn name cover (table_at slots at)) (take i places) (place ∷ []) before (here, tt))
