-- The savings of candidates: they are exact, more are set, and they stay while tables that do not
-- concern them change.
use Rattle.std.proofs.Common.{◌≡◌, ◌⊎◌, ℕ, Bool, true, false, ◌&&◌, if◌then◌else◌, Option, Some, None, is_none, List, [], ◌∷◌, ◌++◌, bytes_eq, refl, sym, ap, ◌∙◌, subst, inl, inr, arith}
use Rattle.std.specs.Prelude.{unwrap_or}
use Rattle.std.specs.List.{AllByRecursion}
use Rattle.std.proofs.lemmas.Bool.{false≢true}
use Rattle.std.proofs.lemmas.Option.{same_Some}
use Rattle.circuit_model.specs.Names.{has}
use Rattle.circuit_model.specs.Soundness.{IsShaped, given, IsSound}
use Rattle.circuit_model.specs.declared.circuit.Table.{Table}
use Rattle.circuit_laws.proofs.Names.{has_not, same_name, name_itself}
use Rattle.alg_div.specs.Cubes.{Has}
use Rattle.alg_div.proofs.Lists.{Has-left, Has-right, Has-append}
use Rattle.net_candidates.proofs.Usable.{IsReader, tables_read}
use Rattle.cover_names.specs.Literals.{NamedCover}
use Rattle.cover_names.specs.Cubes.{names_in}
use Rattle.net_work.specs.Placed.{Placed, standing, circuit_of}
use Rattle.net_savings.specs.Saving.{IsSaving, IsSaved}
use Rattle.net_savings.specs.Savings.{IsUndriven, IsWorth, IsExact, IsRight, AreFound, IsNoted, Grows}
use Rattle.net_savings.proofs.Nameless.{AreFree, saving_renamed}

-- ---- what is computed is exact

saving_same : (tables : List Table) (name : List ℕ) (cover : NamedCover) (one two : ℕ) → IsSaving tables name cover one → IsSaving tables name cover two → two ≡ one
saving_same tables name cover one two first second = omega (arith, first.exact, second.exact)

pub saved_worth : (tables : List Table) (name : List ℕ) (cover : NamedCover) (found : Option ℕ) → IsSaved tables name cover found → IsWorth tables name cover (unwrap_or found 0)
saved_worth tables name cover None none = record {
  saving = λ some. absurd (omega (arith, some));
  one = λ other saving. absurd (none other saving);
}
saved_worth tables name cover (Some number) saving = record {
  saving = λ some. saving;
  one = λ other second. saving_same tables name cover number other saving second;
}

free_tables : (signals : List (List ℕ)) (name other : List ℕ) (cover : NamedCover) (tables : List Table) → has signals name ≡ false → has signals other ≡ false
    → AllByRecursion IsShaped tables → AllByRecursion (IsReader signals) tables → AllByRecursion (AreFree name other cover) tables
free_tables signals name other cover [] free away shaped readers = tt
free_tables signals name other cover (table ∷ tables) free away shaped readers = (
  record {
    wide = shaped.0.0;
    once = readers.0.once;
    free = has_not table.inputs name (λ m. false≢true (sym free ∙ readers.0.live name m));
    away = has_not table.inputs other (λ m. false≢true (sym away ∙ readers.0.live other m));
  },
  free_tables signals name other cover tables free away shaped.1 readers.1,
)

module _ (now : Placed) (name : List ℕ) (sound : IsSound (circuit_of now)) (undriven : IsUndriven now name) where
  renamed : (other : List ℕ) (cover : NamedCover) (number : ℕ) → IsUndriven now other → IsSaving (standing now.slots) name cover number → IsSaving (standing now.slots) other cover number
  renamed other cover number away saving =
      saving_renamed name other cover (standing now.slots) number
      (free_tables (given (circuit_of now)) name other cover (standing now.slots) undriven away sound.shaped (tables_read (circuit_of now) sound)) saving

  unrenamed : (other : List ℕ) (cover : NamedCover) (number : ℕ) → IsUndriven now other → IsSaving (standing now.slots) other cover number → IsSaving (standing now.slots) name cover number
  unrenamed other cover number away saving =
      saving_renamed other name cover (standing now.slots) number
      (free_tables (given (circuit_of now)) other name cover (standing now.slots) away undriven sound.shaped (tables_read (circuit_of now) sound)) saving

  -- under one name that no signal has, and so under each such name
  pub exact_from : (cover : NamedCover) (found : Option ℕ) → IsSaved (standing now.slots) name cover found → IsExact now cover (unwrap_or found 0)
  exact_from cover found is = λ other away.
      let worth = saved_worth (standing now.slots) name cover found is in
      record {
        saving = λ some. renamed other cover (unwrap_or found 0) away (worth.saving some);
        one = λ number saving. worth.one number (unrenamed other cover number away saving);
      }

-- ---- the saving of a cover is set

module _ (same_cover : NamedCover → NamedCover → Bool) (same : (one other : NamedCover) → same_cover one other ≡ true → one ≡ other) (itself : (cover : NamedCover) → same_cover cover cover ≡ true)
    (placed : Placed) (saving new : NamedCover → Option ℕ) (under new_under : List ℕ → List NamedCover) (cover : NamedCover) (name : List ℕ) (number : ℕ)
    (savings : (other : NamedCover) → new other ≡ (if same_cover cover other then Some number else saving other))
    (lists : (other : List ℕ) → new_under other ≡ (if is_none (saving cover) && bytes_eq name other then under other ++ cover ∷ [] else under other))
    (named : has (names_in cover) name ≡ true) (exact : IsExact placed cover number) where
  set_right : (other : NamedCover) → IsRight placed saving other → IsRight placed new other
  set_right other right number_other e = cases (same_cover cover other) refl
    where
      cases : (b : Bool) → same_cover cover other ≡ b → IsExact placed other number_other
      cases true k =
          let one : Some number ≡ Some number_other = sym (savings other ∙ ap (λ (b : Bool). if b then Some number else saving other) k) ∙ e in
          subst (λ (c : NamedCover). IsExact placed c number_other) (same cover other k) (subst (IsExact placed cover) (same_Some number number_other one) exact)
      cases false k = right number_other (sym (savings other ∙ ap (λ (b : Bool). if b then Some number else saving other) k) ∙ e)

  pub set_noted_here : IsNoted new cover
  set_noted_here = (number, savings cover ∙ ap (λ (b : Bool). if b then Some number else saving cover) (itself cover))

  pub set_right_here : IsRight placed new cover
  unfolding set_noted_here
  set_right_here number_here e =
      let one : Some number ≡ Some number_here = sym (set_noted_here.1) ∙ e in
      subst (IsExact placed cover) (same_Some number number_here one) exact

  set_noted : (other : NamedCover) → IsNoted saving other → IsNoted new other
  set_noted other noted = cases (same_cover cover other) refl
    where
      cases : (b : Bool) → same_cover cover other ≡ b → IsNoted new other
      cases true k = (number, savings other ∙ ap (λ (b : Bool). if b then Some number else saving other) k)
      cases false k = (noted.0, savings other ∙ ap (λ (b : Bool). if b then Some number else saving other) k ∙ noted.1)

  stays_under : (at : List ℕ) (other : NamedCover) → Has other (under at) → Has other (new_under at)
  stays_under at other m = cases (is_none (saving cover) && bytes_eq name at) refl
    where
      cases : (b : Bool) → (is_none (saving cover) && bytes_eq name at) ≡ b → Has other (new_under at)
      cases true k = subst (λ (covers : List NamedCover). Has other covers) (sym (lists at ∙ ap (λ (b : Bool). if b then under at ++ cover ∷ [] else under at) k)) (Has-left other (under at) (cover ∷ []) m)
      cases false k = subst (λ (covers : List NamedCover). Has other covers) (sym (lists at ∙ ap (λ (b : Bool). if b then under at ++ cover ∷ [] else under at) k)) m

  was_under : (at : List ℕ) (other : NamedCover) → Has other (new_under at) → Has other (under at) ⊎ ((other ≡ cover) × (bytes_eq name at ≡ true))
  was_under at other m = cases (is_none (saving cover)) (bytes_eq name at) refl refl
    where
      cases : (a b : Bool) → is_none (saving cover) ≡ a → bytes_eq name at ≡ b → Has other (under at) ⊎ ((other ≡ cover) × (bytes_eq name at ≡ true))
      cases true true h k =
          elim (Has-append other (under at) (cover ∷ [])
          (subst (λ (covers : List NamedCover). Has other covers) (lists at ∙ (ap (λ (a : Bool). if a && bytes_eq name at then under at ++ cover ∷ [] else under at) h ∙ ap (λ (b : Bool). if b then under at ++ cover ∷ [] else under at) k)) m))
          as (λ _. Has other (under at) ⊎ ((other ≡ cover) × (bytes_eq name at ≡ true))) [
            | inl n ↦ inl n
            | inr n ↦ elim n as (λ _. Has other (under at) ⊎ ((other ≡ cover) × (bytes_eq name at ≡ true))) [ inl e ↦ inr (e, k) | inr none ↦ absurd none ]
          ]
      cases true false h k =
          inl (subst (λ (covers : List NamedCover). Has other covers) (lists at ∙ (ap (λ (a : Bool). if a && bytes_eq name at then under at ++ cover ∷ [] else under at) h ∙ ap (λ (b : Bool). if b then under at ++ cover ∷ [] else under at) k)) m)
      cases false b h k =
          inl (subst (λ (covers : List NamedCover). Has other covers) (lists at ∙ ap (λ (a : Bool). if a && bytes_eq name at then under at ++ cover ∷ [] else under at) h) m)

  set_found : AreFound saving under → AreFound new new_under
  set_found found = record {
    found = λ other number_other e. cases other (same_cover cover other) refl number_other e;
    named = λ at other m.
        elim (was_under at other m) as (λ _. has (names_in other) at ≡ true) [
          | inl n ↦ found.named at other n
          | inr (e, k) ↦ subst (λ (n : List ℕ). has (names_in other) n ≡ true) (same_name name at k) (subst (λ (c : NamedCover). has (names_in c) name ≡ true) (sym e) named)
        ];
  }
    where
      here : (o : Option ℕ) → saving cover ≡ o → (at : List ℕ) × Has cover (new_under at)
      here (Some before) h = let (at, m) = found.found cover before h in (at, stays_under at cover m)
      here None h = (
        name,
        subst (λ (covers : List NamedCover). Has cover covers)
            (sym (lists name ∙ (ap (λ (o : Option ℕ). if is_none o && bytes_eq name name then under name ++ cover ∷ [] else under name) h ∙ ap (λ (b : Bool). if b then under name ++ cover ∷ [] else under name) (name_itself name))))
            (Has-right cover (under name) (cover ∷ []) (inl refl)),
      )

      cases : (other : NamedCover) (b : Bool) → same_cover cover other ≡ b → (number_other : ℕ) → new other ≡ Some number_other → (at : List ℕ) × Has other (new_under at)
      cases other true k number_other e = let (at, m) = here (saving cover) refl in (at, subst (λ (c : NamedCover). Has c (new_under at)) (same cover other k) m)
      cases other false k number_other e =
          let (at, m) = found.found other number_other (sym (savings other ∙ ap (λ (b : Bool). if b then Some number else saving other) k) ∙ e) in
          (at, stays_under at other m)

  pub set_grows : Grows placed saving under new new_under
  set_grows = record {
    right = set_right;
    noted = set_noted;
    found = set_found;
    anew = λ at other m.
        elim (was_under at other m) as (λ _. Has other (under at) ⊎ IsRight placed new other) [
          | inl n ↦ inl n
          | inr (e, k) ↦ inr (subst (IsRight placed new) (sym e) set_right_here)
        ];
  }
