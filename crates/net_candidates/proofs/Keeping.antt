-- Covers kept in a set, each once.
use Rattle.std.proofs.Common.{◌≡◌, ◌⊎◌, ◌↔◌, ℕ, Bool, true, false, if◌then◌else◌, Option, Some, Bor, List, [], ◌∷◌, ◌++◌, map, bytes_eq, refl, sym, ap, ap₂, ◌∙◌, subst, inl, inr}
use Rattle.std.specs.Bool.{beq, Decides}
use Rattle.std.specs.Cmp.{booleans_Decides}
use Rattle.std.specs.Cmp.Lexicographic.{pointwise}
use Rattle.std.specs.List.{list_any, filter_map}
use Rattle.std.proofs.lemmas.Bool.{and_parts, and_from, or_cases, false≢true}
use Rattle.std.proofs.lemmas.List.{map-append}
use Rattle.std.proofs.lemmas.Slice.Eq.{slice_eq-Decides}
use Rattle.indexmap.specs.IndexSet.{insert_key}
use Rattle.alg_div.specs.Cubes.{Has}
use Rattle.alg_div.proofs.Lists.{Has-left, Has-right, Has-append}
use Rattle.circuit_laws.proofs.Names.{same_name, name_itself}
use Rattle.net_candidates.specs.Candidates.{same_literal}
use Rattle.cover_names.specs.Literals.{Cube, NamedCover}
use Rattle.cover_names.specs.declared.literal.Literal.{Literal}
use Rattle.net_candidates.proofs.Made.{mapped_has, has_mapped}

-- ---- equality

literal_from : List ℕ → Bool → Literal
literal_from name bit = record { name = name; bit = bit }

pub same_is : (one other : Literal) → same_literal one other ≡ true → one ≡ other
unfolding literal_from
same_is one other h =
    let parts = and_parts (bytes_eq one.name other.name) (beq one.bit other.bit) h in
    ap₂ literal_from (same_name one.name other.name parts.0) ((booleans_Decides one.bit other.bit).0 parts.1)

pub itself : (one : Literal) → same_literal one one ≡ true
itself one = and_from (bytes_eq one.name one.name) (beq one.bit one.bit) (name_itself one.name) ((booleans_Decides one.bit one.bit).1 refl)

literal_decides : (one other : Literal) → Decides (same_literal one other) (one ≡ other)
literal_decides one other = (same_is one other, λ e. subst (λ (x : Literal). same_literal one x ≡ true) e (itself one))

cube_decides : (one other : Cube) → Decides (pointwise same_literal one other) (one ≡ other)
cube_decides one other = slice_eq-Decides literal_decides one other (pointwise same_literal one other) refl

cover_same : (one other : NamedCover) → pointwise (pointwise same_literal) one other ≡ true → one ≡ other
cover_same one other h = (slice_eq-Decides cube_decides one other (pointwise (pointwise same_literal) one other) refl).0 h

-- ---- a key that is added

module _ {X : Type 0} (eq : X → X → Bool) (same : (x y : X) → eq x y ≡ true → x ≡ y) where
  pub any_has : (keys : List X) (key : X) → list_any (eq key) keys ≡ true → Has key keys
  any_has [] key h = absurd (false≢true h)
  any_has (first ∷ keys) key h =
      elim (or_cases (eq key first) (list_any (eq key) keys) h) as (λ _. Has key (first ∷ keys)) [
        | inl e ↦ inl (same key first e)
        | inr n ↦ inr (any_has keys key n)
      ]

  key_put : (keys : List X) (key x : X) → Has x (insert_key eq keys key) ↔ (Has x keys ⊎ (x ≡ key))
  key_put keys key x = cases (list_any (eq key) keys) refl
    where
      cases : (b : Bool) → list_any (eq key) keys ≡ b → Has x (if b then keys else keys ++ key ∷ []) ↔ (Has x keys ⊎ (x ≡ key))
      cases true h = (
        λ m. inl m,
        λ k. elim k as (λ _. Has x keys) [ inl m ↦ m | inr e ↦ subst (λ (y : X). Has y keys) (sym e) (any_has keys key h) ],
      )
      cases false h = (
        λ m. elim (Has-append x keys (key ∷ []) m) as (λ _. Has x keys ⊎ (x ≡ key)) [ inl k ↦ inl k | inr k ↦ (elim k as (λ _. Has x keys ⊎ (x ≡ key)) [ inl e ↦ inr e | inr n ↦ absurd n ]) ],
        λ k. elim k as (λ _. Has x (keys ++ key ∷ [])) [ inl m ↦ Has-left x keys (key ∷ []) m | inr e ↦ Has-right x keys (key ∷ []) (inl e) ],
      )

-- ---- a cover that is added, if there is one

pub found_put : (old new : List NamedCover) (found : Option NamedCover) (made : NamedCover) → found ≡ Some made → new ≡ insert_key (pointwise (pointwise same_literal)) old made
    → (cover : NamedCover) → Has cover new ↔ (Has cover old ⊎ (found ≡ Some cover))
found_put old new found made is e cover = (
  λ m. elim (put.0 (subst (λ (keys : List NamedCover). Has cover keys) e m)) as (λ _. Has cover old ⊎ (found ≡ Some cover)) [
    | inl k ↦ inl k
    | inr k ↦ inr (is ∙ ap (λ (v : NamedCover). Some v) (sym k))
  ],
  λ k. subst (λ (keys : List NamedCover). Has cover keys) (sym e)
      (put.1 (elim k as (λ _. Has cover old ⊎ (cover ≡ made)) [ inl m ↦ inl m | inr h ↦ inr (some_is (sym h ∙ is)) ])),
)
  where
    put : Has cover (insert_key (pointwise (pointwise same_literal)) old made) ↔ (Has cover old ⊎ (cover ≡ made))
    put = key_put (pointwise (pointwise same_literal)) cover_same old made cover

    some_is : Some cover ≡ Some made → cover ≡ made
    some_is h = cc

-- what a set has after some items and after one item more
abbrev pub HasFound : {X : Type 0} → (X → Option NamedCover) → List X → List NamedCover → List NamedCover → Type 0
HasFound gives places old new = (cover : NamedCover) → Has cover new ↔ (Has cover old ⊎ Has cover (filter_map gives places))

pub found_more : {X : Type 0} (gives : X → Option NamedCover) (places : List X) (place : X) (found : Option NamedCover) (old mid new : List NamedCover) → found ≡ gives place → HasFound gives places old mid
    → ((cover : NamedCover) → Has cover new ↔ (Has cover mid ⊎ (found ≡ Some cover))) → HasFound gives (places ++ place ∷ []) old new
found_more {X} gives places place found old mid new e before put cover = (to, from)
  where
    to : Has cover new → Has cover old ⊎ Has cover (filter_map gives (places ++ place ∷ []))
    to m =
        elim ((put cover).0 m) as (λ _. Has cover old ⊎ Has cover (filter_map gives (places ++ place ∷ []))) [
          | inl k ↦ (elim ((before cover).0 k) as (λ _. Has cover old ⊎ Has cover (filter_map gives (places ++ place ∷ []))) [
            | inl n ↦ inl n
            | inr n ↦ (let p = mapped_has gives places cover n in inr (has_mapped gives (places ++ place ∷ []) p.0 cover (Has-left p.0 places (place ∷ []) p.1) p.2))
          ])
          | inr k ↦ inr (has_mapped gives (places ++ place ∷ []) place cover (Has-right place places (place ∷ []) (inl refl)) (sym e ∙ k))
        ]

    at : ((z : X) × Has z (places ++ place ∷ []) × (gives z ≡ Some cover)) → Has cover new
    at p =
        elim (Has-append p.0 places (place ∷ []) p.1) as (λ _. Has cover new) [
          | inl k ↦ (put cover).1 (inl ((before cover).1 (inr (has_mapped gives places p.0 cover k p.2))))
          | inr k ↦ (elim k as (λ _. Has cover new) [ inl is ↦ (put cover).1 (inr (e ∙ (ap gives (sym is) ∙ p.2))) | inr n ↦ absurd n ])
        ]

    from : Has cover old ⊎ Has cover (filter_map gives (places ++ place ∷ [])) → Has cover new
    from (inl m) = (put cover).1 (inl ((before cover).1 (inl m)))
    from (inr m) = at (mapped_has gives (places ++ place ∷ []) cover m)

pub found_yielded : (gives : ℕ → Option NamedCover) (yielded : List (Bor ℕ)) (place : Bor ℕ) (found : Option NamedCover) (old mid new : List NamedCover) → found ≡ gives place.now
    → HasFound gives (map (λ (key : Bor ℕ). key.now) yielded) old mid → ((cover : NamedCover) → Has cover new ↔ (Has cover mid ⊎ (found ≡ Some cover)))
    → HasFound gives (map (λ (key : Bor ℕ). key.now) (yielded ++ place ∷ [])) old new
found_yielded gives yielded place found old mid new e before put =
    subst (λ (places : List ℕ). HasFound gives places old new) (sym (map-append (λ (key : Bor ℕ). key.now) yielded (place ∷ [])))
    (found_more gives (map (λ (key : Bor ℕ). key.now) yielded) place.now found old mid new e before put)
