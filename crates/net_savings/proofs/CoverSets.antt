-- Covers that are put into a set one after the other, and lists of the same covers.
use Rattle.std.proofs.Common.{◌≡◌, ◌⊎◌, ◌↔◌, Option, Some, None, List, [], ◌∷◌, ◌++◌, refl, sym, ap, subst, inl, inr}
use Rattle.std.specs.Cmp.Lexicographic.{pointwise}
use Rattle.std.proofs.lemmas.Option.{same_Some}
use Rattle.indexmap.specs.IndexSet.{insert_key}
use Rattle.circuit_model.specs.declared.circuit.Table.{Table}
use Rattle.alg_div.specs.Cubes.{Has}
use Rattle.alg_div.proofs.Lists.{Has-left, Has-right, Has-append}
use Rattle.net_candidates.specs.Candidates.{same_literal}
use Rattle.net_candidates.specs.declared.rule.Rule.{Rule}
use Rattle.net_candidates.proofs.Keeping.{found_put}
use Rattle.cover_names.specs.Literals.{NamedCover}
use Rattle.net_savings.specs.Listing.{AreOwn}

-- one more cover
pub put_more : (old new before : List NamedCover) (key : NamedCover) → new ≡ insert_key (pointwise (pointwise same_literal)) old key
    → ((cover : NamedCover) → Has cover old ↔ Has cover before) → (cover : NamedCover) → Has cover new ↔ Has cover (before ++ key ∷ [])
put_more old new before key e same cover = (
  λ m. elim ((found_put old new (Some key) key refl e cover).0 m) as (λ _. Has cover (before ++ key ∷ [])) [
    | inl k ↦ Has-left cover before (key ∷ []) ((same cover).0 k)
    | inr h ↦ Has-right cover before (key ∷ []) (inl (sym (same_Some key cover h)))
  ],
  λ m. (found_put old new (Some key) key refl e cover).1 (elim (Has-append cover before (key ∷ []) m) as (λ _. Has cover old ⊎ (Some key ≡ Some cover)) [
    | inl k ↦ inl ((same cover).1 k)
    | inr h ↦ (elim h as (λ _. Has cover old ⊎ (Some key ≡ Some cover)) [ inl is ↦ inr (ap (λ (c : NamedCover). Some c) (sym is)) | inr n ↦ absurd n ])
  ]),
)

none_has : (covers : List NamedCover) → ((cover : NamedCover) → Has cover covers → ⊥) → covers ≡ []
none_has [] none = refl
none_has (first ∷ covers) none = absurd (none first (inl refl))

-- a list of the same covers is what the table gives too
pub own_same : (rule : Rule) (slot : Option Table) (covers others : List NamedCover) → ((cover : NamedCover) → Has cover others ↔ Has cover covers) → AreOwn rule slot covers → AreOwn rule slot others
own_same rule None covers others same own = none_has others (λ cover m. subst (λ (cs : List NamedCover). Has cover cs) own ((same cover).0 m))
own_same rule (Some table) covers others same own = (own.0, λ cover. (λ m. (own.1 cover).0 ((same cover).0 m), λ is. (same cover).1 ((own.1 cover).1 is)))
