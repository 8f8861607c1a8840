-- What rows share at indices that include those of all tables that read what they share.
use Rattle.std.proofs.Common.{◌≡◌, ◌≢◌, ◌⊎◌, ◌↔◌, ℕ, ◌<◌, zero, suc, Bool, true, false, cond, eqb, eqb-true, Option, Some, None, List, [], ◌∷◌, ◌++◌, map, flat_map, filter, length, get_or, refl, sym, ap, ◌∙◌, subst, inl, inr, arith}
use Rattle.std.specs.List.{list_all, list_any}
use Rattle.std.specs.List.Sorted.{IsStrictlyIncreasing}
use Rattle.std.proofs.lemmas.Bool.{and_parts, and_from, or_cases, false≢true, cases_order}
use Rattle.std.proofs.lemmas.List.Kept.{AllPairs-from_increasing}
use Rattle.std.proofs.lemmas.Option.{none-some}
use Rattle.circuit_model.specs.Names.{has}
use Rattle.circuit_model.specs.declared.circuit.Table.{Table}
use Rattle.alg_div.specs.Cubes.{Has}
use Rattle.net_candidates.proofs.SharedNames.{names_read}
use Rattle.net_candidates.specs.Listed.{IsSharedOf}
use Rattle.net_candidates.specs.Candidates.{ArePair, same_literal, shared, cubes_of, all_cubes, IsSharedCube}
use Rattle.net_readers.specs.Fanouts.{is_in}
use Rattle.cover_names.specs.Cubes.{is_over}
use Rattle.cover_names.specs.Literals.{Cube, NamedCover}
use Rattle.cover_names.specs.declared.literal.Literal.{Literal}
use Rattle.net_work.specs.Placed.{standing, table_at}
use Rattle.net_savings.specs.Sharing.{cubes_in, AreSharers}
use Rattle.net_savings.proofs.Sharers.{pair_first, row_table, slots_turned, shared_at_places, places_share}

-- ---- tables at indices, as slots of their own

abbrev pub chosen : List (Option Table) → List ℕ → List (Option Table)
chosen slots places = map (table_at slots) places

slot_cubes : (slot : Option Table) (slots : List (Option Table)) → all_cubes (standing (slot ∷ slots)) ≡ cubes_in slot ++ all_cubes (standing slots)
unfolding standing
slot_cubes None slots = refl
slot_cubes (Some table) slots = refl

chosen_cubes : (slots : List (Option Table)) (places : List ℕ) → all_cubes (standing (chosen slots places)) ≡ flat_map (λ at. cubes_in (table_at slots at)) places
unfolding standing
chosen_cubes slots [] = refl
chosen_cubes slots (at ∷ places) =
    slot_cubes (table_at slots at) (chosen slots places) ∙ ap (λ (cubes : List Cube). cubes_in (table_at slots at) ++ cubes) (chosen_cubes slots places)

chosen_at : (slots : List (Option Table)) (places : List ℕ) (i : ℕ) → i < length places → table_at (chosen slots places) i ≡ table_at slots (get_or places i 0)
chosen_at slots [] i below = absurd (omega (arith, below))
chosen_at slots (at ∷ places) zero below = refl
chosen_at slots (at ∷ places) (suc i) below = chosen_at slots places i (omega (arith, below))

chosen_below : (slots : List (Option Table)) (places : List ℕ) (i : ℕ) (table : Table) → table_at (chosen slots places) i ≡ Some table → i < length places
chosen_below slots [] i table e = absurd (none-some table e)
chosen_below slots (at ∷ places) zero table e = omega arith
chosen_below slots (at ∷ places) (suc i) table e = let below = chosen_below slots places i table e in omega (arith, below)

-- the position of an index in a list of indices
place_index : (places : List ℕ) (at : ℕ) → is_in places at ≡ true → (i : ℕ) × (i < length places) × (get_or places i 0 ≡ at)
place_index [] at h = absurd (false≢true h)
place_index (first ∷ places) at h =
    elim (or_cases (eqb first at) (is_in places at) h) as (λ _. (i : ℕ) × (i < length (first ∷ places)) × (get_or (first ∷ places) i 0 ≡ at)) [
      | inl e ↦ (0, omega arith, eqb-true first at e)
      | inr n ↦ (let p = place_index places at n in (suc p.0, (let below = p.1 in omega arith), p.2))
    ]

-- rising indices differ
places_differ : (places : List ℕ) (i j : ℕ) → IsStrictlyIncreasing places → i < length places → j < length places → (i ≡ j → ⊥) → get_or places i 0 ≡ get_or places j 0 → ⊥
places_differ places i j rising first second apart e =
    elim (cases_order i j) as (λ _. ⊥) [
      | inl same ↦ apart same
      | inr n ↦ (elim n as (λ _. ⊥) [
        | inl below ↦ (let less : get_or places i 0 < get_or places j 0 = AllPairs-from_increasing places rising i j 0 below second in omega (arith, e, less))
        | inr above ↦ (let less : get_or places j 0 < get_or places i 0 = AllPairs-from_increasing places rising j i 0 above first in omega (arith, e, less))
      ])
    ]

-- ---- what rows at the indices share, rows of all tables share

index_sharers : (slots : List (Option Table)) (places : List ℕ) (i j : ℕ) (cover : NamedCover) → IsStrictlyIncreasing places → i < length places → j < length places
    → AreSharers i j (table_at (chosen slots places) i) (table_at (chosen slots places) j) cover
    → AreSharers (get_or places i 0) (get_or places j 0) (table_at slots (get_or places i 0)) (table_at slots (get_or places j 0)) cover
index_sharers slots places i j cover rising first second k =
    moved (table_at (chosen slots places) i) (table_at (chosen slots places) j) (chosen_at slots places i first) (chosen_at slots places j second) k
  where
    moved : (one other : Option Table) → one ≡ table_at slots (get_or places i 0) → other ≡ table_at slots (get_or places j 0) → AreSharers i j one other cover
        → AreSharers (get_or places i 0) (get_or places j 0) (table_at slots (get_or places i 0)) (table_at slots (get_or places j 0)) cover
    moved one other e e' k = record {
      row = k.row;
      another = k.another;
      rows = elim k.rows as (λ _. ((get_or places i 0 ≢ get_or places j 0) × Has k.row (cubes_in (table_at slots (get_or places i 0))) × Has k.another (cubes_in (table_at slots (get_or places j 0))))
          ⊎ ((get_or places i 0 ≡ get_or places j 0) × ArePair (cubes_in (table_at slots (get_or places i 0))) k.row k.another)) [
            | inl p ↦ inl (
              λ h. places_differ places i j rising first second p.0 h,
              subst (λ (slot : Option Table). Has k.row (cubes_in slot)) e p.1,
              subst (λ (slot : Option Table). Has k.another (cubes_in slot)) e' p.2,
            )
            | inr p ↦ inr (ap (λ (n : ℕ). get_or places n 0) p.0, subst (λ (slot : Option Table). ArePair (cubes_in slot) k.row k.another) e p.1)
          ];
      two = k.two;
      is = k.is;
    }

chosen_share : (slots : List (Option Table)) (places : List ℕ) (cover : NamedCover) → IsStrictlyIncreasing places → IsSharedCube (standing (chosen slots places)) cover → IsSharedCube (standing slots) cover
chosen_share slots places cover rising k =
    let (i, j, (t, e), (u, e'), shares) = shared_at_places (chosen slots places) cover k in
    places_share slots (get_or places i 0) (get_or places j 0) cover
    (index_sharers slots places i j cover rising (chosen_below slots places i t e) (chosen_below slots places j u e') shares)

-- ---- a table with a row that shares a cover has all its names

all_left : (p test : Literal → Bool) (cube : Cube) → list_all p cube ≡ true → list_all p (filter test cube) ≡ true
all_left p test [] h = refl
all_left p test (literal ∷ cube) h =
    let parts = and_parts (p literal) (list_all p cube) h in
    cases (test literal) parts.0 (all_left p test cube parts.1)
  where
    cases : (b : Bool) → p literal ≡ true → list_all p (filter test cube) ≡ true → list_all p (cond b (literal ∷ filter test cube) (filter test cube)) ≡ true
    cases true here rest = and_from _ _ here rest
    cases false here rest = rest

one_cube_over : (names : List (List ℕ)) (cube : Cube) (cover : NamedCover) → cover ≡ cube ∷ [] → list_all (λ (literal : Literal). has names literal.name) cube ≡ true → is_over names cover ≡ true
one_cube_over names cube cover is h = ap (is_over names) is ∙ and_from _ _ h refl

first_over : (table : Table) (row another : Cube) (cover : NamedCover) → Has row (cubes_of table) → cover ≡ shared row another ∷ [] → is_over table.inputs cover ≡ true
first_over table row another cover m is =
    one_cube_over table.inputs (shared row another) cover is
    (all_left (λ (literal : Literal). has table.inputs literal.name) (λ (literal : Literal). list_any (same_literal literal) another) row (names_read table row m))

second_over : (table : Table) (row another : Cube) (cover : NamedCover) → shared row another ≡ shared another row → Has another (cubes_of table) → cover ≡ shared row another ∷ []
    → is_over table.inputs cover ≡ true
second_over table row another cover same m is = first_over table another row cover m (is ∙ ap (λ (cube : Cube). cube ∷ []) same)

-- ---- what rows of all tables share, rows at the indices share

module _ (slots : List (Option Table)) (places : List ℕ) (cover : NamedCover)
    (all : (at : ℕ) (table : Table) → table_at slots at ≡ Some table → is_over table.inputs cover ≡ true → is_in places at ≡ true) where
  first_index : (one : ℕ) (row another : Cube) → Has row (cubes_in (table_at slots one)) → cover ≡ shared row another ∷ [] → (i : ℕ) × (i < length places) × (get_or places i 0 ≡ one)
  first_index one row another m is =
      let (table, e) = row_table (table_at slots one) row m in
      place_index places one (all one table e (first_over table row another cover (subst (λ (slot : Option Table). Has row (cubes_in slot)) e m) is))

  second_index : (other : ℕ) (row another : Cube) → shared row another ≡ shared another row → Has another (cubes_in (table_at slots other)) → cover ≡ shared row another ∷ [] → (i : ℕ) × (i < length places) × (get_or places i 0 ≡ other)
  second_index other row another same m is =
      let (table, e) = row_table (table_at slots other) another m in
      place_index places other (all other table e (second_over table row another cover same (subst (λ (slot : Option Table). Has another (cubes_in slot)) e m) is))

  -- the table at a position
  index_is : (i at : ℕ) → i < length places → get_or places i 0 ≡ at → table_at slots at ≡ table_at (chosen slots places) i
  index_is i at below e = sym (chosen_at slots places i below ∙ ap (λ (n : ℕ). table_at slots n) e)

  sharers_chosen : (one other : ℕ) → AreSharers one other (table_at slots one) (table_at slots other) cover → IsSharedCube (standing (chosen slots places)) cover
  sharers_chosen one other k =
      elim k.rows as (λ _. IsSharedCube (standing (chosen slots places)) cover) [
        | inl p ↦ (
            let (i, below, e) = first_index one k.row k.another p.1 k.is in
            let (j, below', e') = second_index other k.row k.another (slots_turned (table_at slots one) (table_at slots other) k.row k.another p.1 p.2) p.2 k.is in
            places_share (chosen slots places) i j cover
            (record {
              row = k.row;
              another = k.another;
              rows = inl (
                λ same. p.0 (sym e ∙ (ap (λ (n : ℕ). get_or places n 0) same ∙ e')),
                subst (λ (slot : Option Table). Has k.row (cubes_in slot)) (index_is i one below e) p.1,
                subst (λ (slot : Option Table). Has k.another (cubes_in slot)) (index_is j other below' e') p.2,
              );
              two = k.two;
              is = k.is;
            })
            )
        | inr p ↦ (
            let (i, below, e) = first_index one k.row k.another (pair_first (cubes_in (table_at slots one)) k.row k.another p.1) k.is in
            places_share (chosen slots places) i i cover
            (record {
              row = k.row;
              another = k.another;
              rows = inr (refl, subst (λ (slot : Option Table). ArePair (cubes_in slot) k.row k.another) (index_is i one below e) p.1);
              two = k.two;
              is = k.is;
            })
            )
      ]

  share_chosen : IsSharedCube (standing slots) cover → IsSharedCube (standing (chosen slots places)) cover
  share_chosen k =
      let (one, other, there, there', shares) = shared_at_places slots cover k in
      sharers_chosen one other shares

  -- ---- the result

  pub shared_chosen : IsStrictlyIncreasing places → IsSharedOf (flat_map (λ at. cubes_in (table_at slots at)) places) cover ↔ IsSharedCube (standing slots) cover
  shared_chosen rising = (
    λ k.
        chosen_share slots places cover rising
        (record {
          one = k.one;
          other = k.other;
          rows = subst (λ (cubes : List Cube). ArePair cubes k.one k.other) (sym (chosen_cubes slots places)) k.pair;
          two = k.two;
          is = k.is;
        }),
    λ k. back (share_chosen k),
  )
    where
      back : IsSharedCube (standing (chosen slots places)) cover → IsSharedOf (flat_map (λ at. cubes_in (table_at slots at)) places) cover
      back k = record {
        one = k.one;
        other = k.other;
        pair = subst (λ (cubes : List Cube). ArePair cubes k.one k.other) (chosen_cubes slots places) k.rows;
        two = k.two;
        is = k.is;
      }
