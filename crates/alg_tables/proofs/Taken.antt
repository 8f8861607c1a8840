-- A table into which another one was eliminated: the result, and its computation.
use Rattle.std.proofs.Common.{◌≡◌, ℕ, ◌<◌, zero, suc, Bool, true, false, not, cond, Option, Some, None, List, [], ◌∷◌, ◌++◌, length, get_or, take, drop, map, bytes_eq, position, refl, sym, ap, ◌∙◌, subst, arith, inl, inr, ◌⊎◌}
use Rattle.std.specs.Option.{option_map_or}
use Rattle.std.proofs.lemmas.Bool.{false≢true, or_left, or_cases}
use Rattle.std.proofs.lemmas.List.{length-map, take-append-drop}
use Rattle.sis_base.specs.Rows.{HasWidth}
use Rattle.circuit_model.specs.Names.{has, all_different}
use Rattle.circuit_model.specs.Values.{driven_value}
use Rattle.circuit_model.specs.Soundness.{IsShaped}
use Rattle.circuit_model.specs.declared.circuit.Table.{Table}
use Rattle.circuit_laws.proofs.Names.{has_head, has_tail, has_front, has_back, has_either, has_none, has_not, AreApart, different_apart, different_head}
use Rattle.cover_ops.specs.Composed.{composition}
use Rattle.cover_ops.proofs.Compositions.{HasWidth-composition}
use Rattle.net_core.specs.Tables.{character_of, characters_of, HasCharacters}
use Rattle.net_core.proofs.Rows.{width_of_characters}
use Rattle.circuit_tables.specs.Tidy.{IsWide, tidied}
use Rattle.circuit_tables.proofs.Tidied.{tidied_value, tidied_output, tidied_reads, tidied_once, tidied_shaped}
use Rattle.alg_tables.specs.Taking.{shape_of, entries, lacking, joined, composed_at, composed_into}
use Rattle.alg_tables.proofs.Places.{IsFound, found, length-joined}
use Rattle.alg_tables.proofs.Values.{split_at, composed_value}

-- what holds of the composition in normal form if the signal is read, and of the table itself if it
-- is not, holds of the result
pub taken_either : (P : Table → Type 0) (inner outer : Table) → ((place : ℕ) → place < length outer.inputs → get_or outer.inputs place [] ≡ inner.output → P (tidied (composed_at place inner outer)))
    → (has outer.inputs inner.output ≡ false → P outer) → P (composed_into inner outer)
unfolding composed_into
taken_either P inner outer read unread = cases (position (bytes_eq inner.output) outer.inputs) (found outer.inputs inner.output)
  where
    cases : (o : Option ℕ) → IsFound outer.inputs inner.output o → P (option_map_or (λ place. tidied (composed_at place inner outer)) o outer)
    cases None f = unread f
    cases (Some place) f = read place f.0 f.1

pub taken_output : (inner outer : Table) → (composed_into inner outer).output ≡ outer.output
unfolding composed_at
taken_output inner outer =
    taken_either (λ (made : Table). made.output ≡ outer.output) inner outer (λ place lt at. tidied_output (composed_at place inner outer)) (λ unread. refl)

pub taken_once : (inner outer : Table) → all_different outer.inputs ≡ true → all_different (composed_into inner outer).inputs ≡ true
taken_once inner outer once =
    taken_either (λ (made : Table). all_different made.inputs ≡ true) inner outer (λ place lt at. tidied_once (composed_at place inner outer)) (λ unread. once)

pub characters_wide : (width : ℕ) (rows : List (List (Option Bool))) → HasWidth width rows → HasCharacters width (map characters_of rows)
unfolding HasWidth
characters_wide width [] h = tt
characters_wide width (row ∷ rows) h = (length-map row character_of ∙ h.0, characters_wide width rows h.1)

composed_wide : (place : ℕ) (inner outer : Table) → IsWide outer → place < length outer.inputs → IsWide (composed_at place inner outer)
unfolding composed_at
composed_wide place inner outer wide lt =
    subst (λ (width : ℕ). HasCharacters width (map characters_of (composition (shape_of outer) place (shape_of inner) inner.phase (entries outer.inputs inner.inputs)).rows)) (sym (length-joined place outer.inputs inner.inputs lt))
    (characters_wide (composition (shape_of outer) place (shape_of inner) inner.phase (entries outer.inputs inner.inputs)).width
    (composition (shape_of outer) place (shape_of inner) inner.phase (entries outer.inputs inner.inputs)).rows
    (HasWidth-composition (shape_of outer) place (shape_of inner) inner.phase (entries outer.inputs inner.inputs) (width_of_characters (length outer.inputs) outer.rows wide) lt))

pub taken_shaped : (inner outer : Table) → IsShaped outer → IsShaped (composed_into inner outer)
taken_shaped inner outer shaped =
    taken_either IsShaped inner outer (λ place lt at. tidied_shaped (composed_at place inner outer) (composed_wide place inner outer shaped.0 lt)) (λ unread. shaped)

-- what it reads
lacking_has : (names others : List (List ℕ)) (name : List ℕ) → has (lacking names others) name ≡ true → has others name ≡ true
lacking_has names [] name h = h
lacking_has names (other ∷ others) name h = cases (has names other) h (lacking_has names others name)
  where
    cases : (b : Bool) → has (cond (not b) (other ∷ lacking names others) (lacking names others)) name ≡ true → (has (lacking names others) name ≡ true → has others name ≡ true)
        → has (other ∷ others) name ≡ true
    cases true k more = has_tail other others name (more k)
    cases false k more =
        elim (or_cases (bytes_eq name other) (has (lacking names others) name) k) as (λ _. has (other ∷ others) name ≡ true) [
          | inl here ↦ or_left (bytes_eq name other) (has others name) here
          | inr there ↦ has_tail other others name (more there)
        ]

take_has : (names : List (List ℕ)) (n : ℕ) (name : List ℕ) → has (take n names) name ≡ true → has names name ≡ true
take_has names n name h = subst (λ (xs : List (List ℕ)). has xs name ≡ true) (take-append-drop n names) (has_front (take n names) (drop n names) name h)

drop_has : (names : List (List ℕ)) (n : ℕ) (name : List ℕ) → has (drop n names) name ≡ true → has names name ≡ true
drop_has names n name h = subst (λ (xs : List (List ℕ)). has xs name ≡ true) (take-append-drop n names) (has_back (take n names) (drop n names) name h)

joined_has : (place : ℕ) (names others : List (List ℕ)) (name : List ℕ) → has (joined place names others) name ≡ true → (has names name ≡ true) ⊎ (has others name ≡ true)
joined_has place names others name h =
    elim (has_either (take place names) (lacking names others ++ drop (suc place) names) name h) as (λ _. (has names name ≡ true) ⊎ (has others name ≡ true)) [
      | inl front ↦ inl (take_has names place name front)
      | inr rest ↦ elim (has_either (lacking names others) (drop (suc place) names) name rest) as (λ _. (has names name ≡ true) ⊎ (has others name ≡ true)) [
        | inl new ↦ inr (lacking_has names others name new)
        | inr back ↦ inl (drop_has names (suc place) name back)
      ]
    ]

pub has_at : (names : List (List ℕ)) (place : ℕ) → place < length names → has names (get_or names place []) ≡ true
has_at [] place lt = absurd (omega (arith, lt))
has_at (first ∷ names) zero lt = has_head first names
has_at (first ∷ names) (suc place) lt = has_tail first names (get_or names place []) (has_at names place (omega (arith, lt)))

pub taken_reads : (inner outer : Table) (name : List ℕ) → has (composed_into inner outer).inputs name ≡ true
    → (has outer.inputs name ≡ true) ⊎ ((has outer.inputs inner.output ≡ true) × (has inner.inputs name ≡ true))
unfolding composed_at
taken_reads inner outer name =
    taken_either (λ (made : Table). has made.inputs name ≡ true → (has outer.inputs name ≡ true) ⊎ ((has outer.inputs inner.output ≡ true) × (has inner.inputs name ≡ true))) inner outer
    (λ place lt at h.
    elim (joined_has place outer.inputs inner.inputs name (tidied_reads (composed_at place inner outer) name h)) as (λ _. (has outer.inputs name ≡ true) ⊎ ((has outer.inputs inner.output ≡ true) × (has inner.inputs name ≡ true))) [
      | inl old ↦ inl old
      | inr new ↦ inr (subst (λ (n : List ℕ). has outer.inputs n ≡ true) at (has_at outer.inputs place lt), new)
    ])
    (λ unread h. inl h)

joined_lacks : (place : ℕ) (names others : List (List ℕ)) → place < length names → all_different names ≡ true → has others (get_or names place []) ≡ false
    → has (joined place names others) (get_or names place []) ≡ false
joined_lacks place names others lt different apart =
    has_none (take place names) (lacking names others ++ drop (suc place) names) (get_or names place [])
    (has_not (take place names) (get_or names place []) (λ h. parts.between (get_or names place []) h (has_head (get_or names place []) (drop (suc place) names))))
    (has_none (lacking names others) (drop (suc place) names) (get_or names place [])
    (has_not (lacking names others) (get_or names place []) (λ h. false≢true (sym apart ∙ lacking_has names others (get_or names place []) h)))
    (different_head (get_or names place []) (drop (suc place) names) parts.back))
  where
    parts : AreApart (take place names) (get_or names place [] ∷ drop (suc place) names)
    parts = different_apart (take place names) (get_or names place [] ∷ drop (suc place) names)
        (subst (λ (xs : List (List ℕ)). all_different xs ≡ true) (split_at names place [] lt) different)

-- it does not read the signal any more
pub taken_unread : (inner outer : Table) → all_different outer.inputs ≡ true → has inner.inputs inner.output ≡ false → has (composed_into inner outer).inputs inner.output ≡ false
unfolding composed_at
taken_unread inner outer once apart =
    taken_either (λ (made : Table). has made.inputs inner.output ≡ false) inner outer
    (λ place lt at. has_not (tidied (composed_at place inner outer)).inputs inner.output (λ h.
    false≢true (sym (subst (λ (n : List ℕ). has (joined place outer.inputs inner.inputs) n ≡ false) at
    (joined_lacks place outer.inputs inner.inputs lt once (subst (λ (n : List ℕ). has inner.inputs n ≡ false) (sym at) apart)))
    ∙ tidied_reads (composed_at place inner outer) inner.output h)))
    (λ unread. unread)

-- a table that does not read the signal does not change
pub taken_apart : (inner outer : Table) → has outer.inputs inner.output ≡ false → composed_into inner outer ≡ outer
taken_apart inner outer apart =
    taken_either (λ (made : Table). made ≡ outer) inner outer
    (λ place lt at. absurd (false≢true (sym apart ∙ subst (λ (n : List ℕ). has outer.inputs n ≡ true) at (has_at outer.inputs place lt))))
    (λ unread. refl)

-- the value stays if the signal has the inner table's value
pub taken_value : (inner outer : Table) (value : List ℕ → Bool) → IsShaped inner → IsShaped outer → all_different inner.inputs ≡ true → has inner.inputs inner.output ≡ false
    → value inner.output ≡ driven_value (Some inner) value → driven_value (Some (composed_into inner outer)) value ≡ driven_value (Some outer) value
taken_value inner outer value inner_shaped outer_shaped once apart is =
    taken_either (λ (made : Table). driven_value (Some made) value ≡ driven_value (Some outer) value) inner outer
    (λ place lt at.
    tidied_value (composed_at place inner outer) value
    ∙ composed_value place inner outer value inner_shaped.0 outer_shaped.0 once lt (subst (λ (n : List ℕ). has inner.inputs n ≡ false) (sym at) apart) (ap value at ∙ is))
    (λ unread. refl)
