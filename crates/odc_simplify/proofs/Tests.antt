-- The functions by which a table is tested, made from its own, from where it is observable, and
-- from its inputs, by numbers of one object.
use Rattle.std.proofs.Common.{◌≡◌, ℕ, ◌<◌, ◌≤◌, zero, suc, ◌+◌, not, ◌&&◌, List, [], ◌∷◌, ◌++◌, length, map, get_or, take}
use Rattle.std.proofs.Common.{refl, sym, ap, ap₂, ◌∙◌, subst, inl, inr, ◌⊎◌, add-one, arith}
use Rattle.std.proofs.Math.Seq.{take-suc}
use Rattle.std.proofs.lemmas.List.{length-map, map-append, take_all}
use Rattle.std.specs.List.{AllByRecursion}
use Rattle.func_core.specs.Trees.{BooleanFunction, Tree, complement, conjunction}
use Rattle.func_core.specs.Numbers.{Stays}
use Rattle.func_core.specs.declared.functions.Func.{Func}
use Rattle.odc_simplify.specs.Seen.{IsOver}
use Rattle.odc_simplify.specs.Held.{Held, function_of, inputs_of, held_of, Gives, IsLiteral, AreLiterals, IsReadyBy}
use Rattle.odc_simplify.specs.Turns.{held_by, AreTests}
use Rattle.odc_simplify.specs.declared.products.Literal.{Literal}
use Rattle.odc_simplify.specs.declared.tested.Tested.{Tested}
use Rattle.odc_simplify.proofs.Numbers.{stays_through, function_stays, gives_stays, literals_stay, inputs_stay}
use Rattle.odc_simplify.proofs.Walks.{carried_two, gives_then, stays_itself}

module _ {S : Type 0} (holds : S → ℕ → Type 0) (tree : S → ℕ → Tree) (limit : S → ℕ) where
  abbrev pub AllHold : S → List Func → Type 0
  AllHold s fs = AllByRecursion (λ (f : Func). holds s f.0) fs

  pub hold_at : (s : S) (fs : List Func) (i : ℕ) (d : Func) → i < length fs → AllHold s fs
      → holds s (get_or fs i d).0
  hold_at s [] i d low all = absurd (omega (arith, low))
  hold_at s (f ∷ fs) zero d low all = all.0
  hold_at s (f ∷ fs) (suc i) d low all = hold_at s fs i d (omega (arith, low)) all.1

  pub all_stay : (s t : S) (fs : List Func) → Stays holds tree limit s t → AllHold s fs
      → AllHold t fs
  all_stay s t [] stays all = tt
  all_stay s t (f ∷ fs) stays all = ((stays.kept f.0 all.0).0, all_stay s t fs stays all.1)

  pub functions_stay : (s t : S) (fs : List Func) → Stays holds tree limit s t → AllHold s fs
      → map (function_of (tree t)) fs ≡ map (function_of (tree s)) fs
  functions_stay s t [] stays all = refl
  functions_stay s t (f ∷ fs) stays all =
      ap₂ (λ (g : BooleanFunction) (gs : List BooleanFunction). g ∷ gs)
      (function_stays holds tree limit s t f stays all.0) (functions_stay s t fs stays all.1)

  -- literals so far
  pub record AreMade (first now : S) (inputs : List Func) (place : ℕ)
      (literals : List Literal) : Type 0 where
    pub stays : Stays holds tree limit first now
    pub stand : AreLiterals (holds now) (tree now) literals
    pub same : inputs_of (tree now) literals ≡ map (function_of (tree first)) (take place inputs)

  pub made_first : (s : S) (inputs : List Func) (literals : List Literal) → literals ≡ []
      → AreMade s s inputs 0 literals
  made_first s inputs literals none =
      subst (λ (ls : List Literal). AreMade s s inputs 0 ls) (sym none)
      (record { stays = stays_itself holds tree limit s; stand = tt; same = refl })

  literals_more : (s : S) (literals : List Literal) (literal : Literal)
      → AreLiterals (holds s) (tree s) literals → IsLiteral (holds s) (tree s) literal
      → AreLiterals (holds s) (tree s) (literals ++ literal ∷ [])
  literals_more s [] literal are is = (is, tt)
  literals_more s (first ∷ literals) literal are is =
      (are.0, literals_more s literals literal are.1 is)

  pub input_due : (first now : S) (inputs : List Func) (place : ℕ) (d : Func)
      (literals : List Literal)
      → AreMade first now inputs place literals → AllHold first inputs → place < length inputs
      → holds now (get_or inputs place d).0
  input_due first now inputs place d literals made all low =
      (made.stays.kept _ (hold_at first inputs place d low all)).0

  pub made_more : (first now next : S) (inputs : List Func) (place : ℕ) (d : Func)
      (literals more : List Literal) (literal : Literal) → AreMade first now inputs place literals
      → AllHold first inputs → place < length inputs → Stays holds tree limit now next
      → IsLiteral (holds next) (tree next) literal → literal.positive ≡ get_or inputs place d
      → more ≡ literals ++ literal ∷ [] → AreMade first next inputs (place + 1) more
  made_more first now next inputs place d literals more literal made all low stays is own joined =
      rw add-one (subst (λ (ls : List Literal). AreMade first next inputs (suc place) ls)
      (sym joined)
      (record {
        stays = through;
        stand = literals_more next literals literal
            (literals_stay holds tree limit now next literals stays made.stand) is;
        same = map-append (λ (l : Literal). function_of (tree next) l.positive) literals
            (literal ∷ [])
            ∙ ap₂ (λ (fs gs : List BooleanFunction). fs ++ gs)
            (inputs_stay holds tree limit now next literals stays made.stand ∙ made.same)
            (ap (λ (f : Func). function_of (tree next) f ∷ []) own
            ∙ ap (λ (f : BooleanFunction). f ∷ [])
            (function_stays holds tree limit first next (get_or inputs place d) through
            (hold_at first inputs place d low all)))
            ∙ sym (map-append (function_of (tree first)) (take place inputs)
            (get_or inputs place d ∷ []))
            ∙ ap (map (function_of (tree first))) (sym (take-suc inputs place d low));
      }))
    where
      through : Stays holds tree limit first next
      through = stays_through holds tree limit first now next made.stays stays

  pub made_last : (first now : S) (inputs : List Func) (place : ℕ) (literals : List Literal)
      → AreMade first now inputs place literals → length inputs ≤ place
      → inputs_of (tree now) literals ≡ map (function_of (tree first)) inputs
  made_last first now inputs place literals made done =
      made.same ∙ ap (map (function_of (tree first))) (take_all place inputs done)

  -- the tests
  module _ (s0 s1 s2 s3 : S) (leaves : ℕ) (own seen : Func) (inputs : List Func)
      (on below off : Func)
      (then : Stays holds tree limit s0 s1) (next : Stays holds tree limit s1 s2)
      (last : Stays holds tree limit s2 s3) (owns : holds s0 own.0) (sees : holds s0 seen.0)
      (made_below : Gives (holds s2) (tree s2) below (complement (function_of (tree s1) own))) where
    two : Stays holds tree limit s0 s2
    two = stays_through holds tree limit s0 s1 s2 then next

    below_is : Gives (holds s2) (tree s2) below (complement (function_of (tree s0) own))
    below_is = record {
      stands = made_below.stands;
      computes = made_below.computes
          ∙ ap complement (function_stays holds tree limit s0 s1 own then owns);
    }

    pub off_carried : (P : ℕ → BooleanFunction → Type 0)
        → P (limit s2) (conjunction (function_of (tree s2) below) (function_of (tree s2) seen))
        → P (limit s0) (conjunction (complement (function_of (tree s0) own))
        (function_of (tree s0) seen))
    off_carried P h =
        carried_two holds tree limit (λ l f g. P l (conjunction f g)) s0 s2 below seen
        (complement (function_of (tree s0) own)) (function_of (tree s0) seen) two below_is
        (gives_then holds tree limit s0 s2 seen two sees) h

    pub tests_made : (s4 : S) (tests : Tested) → Stays holds tree limit s3 s4
        → Gives (holds s1) (tree s1) on (conjunction (function_of (tree s0) own)
        (function_of (tree s0) seen))
        → Gives (holds s3) (tree s3) off (conjunction (function_of (tree s2) below)
        (function_of (tree s2) seen))
        → AllHold s0 inputs → AreLiterals (holds s4) (tree s4) tests.literals.items
        → inputs_of (tree s4) tests.literals.items ≡ map (function_of (tree s3)) inputs
        → tests.on ≡ on → tests.off ≡ off
        → AreTests (holds s4) (tree s4) (held_by (tree s0) leaves own seen inputs) tests
    tests_made s4 tests stays made_on made_off all literals ins on_is off_is = record {
      on = subst (λ (f : Func). Gives (holds s4) (tree s4) f (conjunction (function_of
          (tree s0) own)
          (function_of (tree s0) seen))) (sym on_is)
          (gives_stays holds tree limit s1 s4 on _
          (stays_through holds tree limit s1 s3 s4
          (stays_through holds tree limit s1 s2 s3 next last) stays) made_on);
      off = subst (λ (f : Func). Gives (holds s4) (tree s4) f
          (conjunction (complement (function_of (tree s0) own)) (function_of (tree s0) seen)))
          (sym off_is)
          (gives_stays holds tree limit s3 s4 off _ stays
          (off_carried (λ l f. Gives (holds s3) (tree s3) off f) made_off));
      literals = literals;
      inputs = ins ∙ functions_stay s0 s3 inputs
          (stays_through holds tree limit s0 s2 s3 two last) all;
    }

  -- what is tested is ready, and is what is held
  module _ (s t : S) (leaves : ℕ) (own seen : Func) (inputs : List Func) (tests : Tested)
      (are : AreTests (holds t) (tree t) (held_by (tree s) leaves own seen inputs) tests) where
    pub tests_held : held_of (tree t) leaves tests.on tests.off tests.literals.items
        ≡ held_by (tree s) leaves own seen inputs
    tests_held =
        ap (λ (f : BooleanFunction). holding f (function_of (tree t) tests.off)
        (inputs_of (tree t) tests.literals.items)) are.on.computes
        ∙ ap (λ (f : BooleanFunction). holding (held_by (tree s) leaves own seen inputs).on f
        (inputs_of (tree t) tests.literals.items)) are.off.computes
        ∙ ap (holding (held_by (tree s) leaves own seen inputs).on
        (held_by (tree s) leaves own seen inputs).off) are.inputs
      where
        holding : BooleanFunction → BooleanFunction → List BooleanFunction → Held
        holding on off ins = record { leaves = leaves; on = on; off = off; inputs = ins }

    pub tests_ready : IsOver leaves (function_of (tree s) own)
        → IsOver leaves (function_of (tree s) seen)
        → AllByRecursion (IsOver leaves) (map (function_of (tree s)) inputs)
        → IsReadyBy (holds t) (tree t) leaves tests.on tests.off tests.literals.items
    tests_ready own_looks seen_looks look = record {
      on_stands = are.on.stands;
      on_over = subst (IsOver leaves) (sym are.on.computes)
          (λ one other same. ap₂ ◌&&◌ (own_looks one other same) (seen_looks one other same));
      off_stands = are.off.stands;
      off_over = subst (IsOver leaves) (sym are.off.computes)
          (λ one other same.
          ap₂ ◌&&◌ (ap not (own_looks one other same)) (seen_looks one other same));
      literals_stand = are.literals;
      inputs_over = subst (λ (fs : List BooleanFunction). AllByRecursion (IsOver leaves) fs)
          (sym are.inputs) look;
    }

    pub tests_long : length tests.literals.items ≡ length inputs
    tests_long =
        sym (length-map tests.literals.items (λ (l : Literal). function_of (tree t) l.positive))
        ∙ ap length are.inputs ∙ length-map inputs (function_of (tree s))

    -- what holds of the functions held later holds of those held before
    pub tests_carried : (P : ℕ → Held → Type 0) → Stays holds tree limit s t
        → P (limit t) (held_of (tree t) leaves tests.on tests.off tests.literals.items)
        → P (limit s) (held_by (tree s) leaves own seen inputs)
    tests_carried P stays h =
        subst (λ (l : ℕ). P l (held_by (tree s) leaves own seen inputs)) stays.same
        (subst (P (limit t)) tests_held h)

pub one_more : (A B C : Type 0) → A ⊎ B → A ⊎ (B ⊎ C)
one_more A B C (inl a) = inl a
one_more A B C (inr b) = inr (inl b)
