-- Numbers that stay while others are made.
use Rattle.std.proofs.Common.{◌≡◌, ℕ, ◌<◌, ◌≤◌, zero, suc, List, [], ◌∷◌, length, Result, Err, IfOk, OnOk}
use Rattle.std.proofs.Common.{get_or, refl, sym, ap, ◌∙◌, subst, arith}
use Rattle.std.specs.List.{AllByRecursion}
use Rattle.func_core.specs.Trees.{BooleanFunction, Tree, eval, complement}
use Rattle.func_core.specs.Sizes.{size}
use Rattle.func_core.specs.Numbers.{Means, IsBig, Stays}
use Rattle.func_core.specs.declared.functions.Func.{Func}
use Rattle.func_core.specs.declared.functions.FuncFault.{FuncFault}
use Rattle.func_core.specs.declared.functions.FuncFault.TheVariants.{TooBig}
use Rattle.func_core.proofs.Meanings.{not-both}
use Rattle.odc_simplify.specs.Seen.{IsOver}
use Rattle.odc_simplify.specs.Held.{Held, Keeps, function_of, inputs_of, held_of, Gives, Makes, IsLiteral, AreLiterals, IsReadyBy}
use Rattle.odc_simplify.specs.declared.products.Literal.{Literal}

-- a function that is refused because a part of it is
pub failed : (holds : ℕ → Type 0) (tree : ℕ → Tree) (result : Result Func FuncFault) (fault : FuncFault) (f : BooleanFunction) (Big : Type 0) → result ≡ Err fault
    → (fault ≡ TooBig → Big) → Makes holds tree result f Big
failed holds tree result fault f Big same why = record {
  made = subst (λ r. IfOk r (λ number. Gives holds tree number f)) (sym same) tt;
  passed = subst (λ r. OnOk r (Big → ⊥)) (sym same) tt;
  refused = λ h. let gone : fault ≡ TooBig = cc in why gone;
}

abbrev holding : ℕ → BooleanFunction → BooleanFunction → List BooleanFunction → Held
holding leaves on off inputs = record { leaves = leaves; on = on; off = off; inputs = inputs }

module _ {S : Type 0} (holds : S → ℕ → Type 0) (tree : S → ℕ → Tree) (limit : S → ℕ) where
  -- what a number means
  pub gives_means : (s : S) (number : Func) (f : BooleanFunction)
      → Means holds tree limit s number.0 f → Gives (holds s) (tree s) number f
  gives_means s number f m =
      record { stands = m.stands; computes = λ i point. m.is_tree.computes point i }

  pub means_not_big : (s t : S) (number : Func) (f : BooleanFunction) → Stays holds tree limit s t
      → Means holds tree limit t number.0 f → IsBig (limit s) f → ⊥
  means_not_big s t number f stays m big =
      not-both (limit s) f (tree t number.0) m.is_tree
      (subst (λ (l : ℕ). size (tree t number.0) ≤ l) stays.same m.fits) big

  -- one call after another
  pub stays_through : (s t u : S) → Stays holds tree limit s t → Stays holds tree limit t u
      → Stays holds tree limit s u
  stays_through s t u first last = record {
    kept = λ n stands.
        let (there, tree_is) = first.kept n stands in
        let (here, tree_stays) = last.kept n there in (here, tree_stays ∙ tree_is);
    same = last.same ∙ first.same;
  }

  -- a number that was valid means the same function
  pub function_stays : (s t : S) (number : Func) → Stays holds tree limit s t → holds s number.0
      → function_of (tree t) number ≡ function_of (tree s) number
  function_stays s t number stays stands = ap eval (stays.kept number.0 stands).1

  pub gives_stays : (s t : S) (number : Func) (f : BooleanFunction) → Stays holds tree limit s t
      → Gives (holds s) (tree s) number f → Gives (holds t) (tree t) number f
  gives_stays s t number f stays gives = record {
    stands = (stays.kept number.0 gives.stands).0;
    computes = function_stays s t number stays gives.stands ∙ gives.computes;
  }

  pub literal_stays : (s t : S) (literal : Literal) → Stays holds tree limit s t
      → IsLiteral (holds s) (tree s) literal → IsLiteral (holds t) (tree t) literal
  literal_stays s t literal stays is =
      let later : Gives (holds t) (tree t) literal.negative (complement (function_of
      (tree s) literal.positive))
      = gives_stays s t literal.negative _ stays is.negative in record {
        positive = (stays.kept literal.positive.0 is.positive).0;
        negative = record {
          stands = later.stands;
          computes = later.computes
              ∙ ap complement (sym (function_stays s t literal.positive stays is.positive));
        };
      }

  pub literals_stay : (s t : S) (literals : List Literal) → Stays holds tree limit s t
      → AreLiterals (holds s) (tree s) literals → AreLiterals (holds t) (tree t) literals
  literals_stay s t [] stays are = tt
  literals_stay s t (literal ∷ literals) stays are =
      (literal_stays s t literal stays are.0, literals_stay s t literals stays are.1)

  pub inputs_stay : (s t : S) (literals : List Literal) → Stays holds tree limit s t
      → AreLiterals (holds s) (tree s) literals
      → inputs_of (tree t) literals ≡ inputs_of (tree s) literals
  inputs_stay s t [] stays are = refl
  inputs_stay s t (literal ∷ literals) stays are =
      ap (λ (f : BooleanFunction). f ∷ inputs_of (tree t) literals)
      (function_stays s t literal.positive stays are.0.positive)
      ∙ ap (λ (fs : List BooleanFunction). function_of (tree s) literal.positive ∷ fs)
      (inputs_stay s t literals stays are.1)

  pub literal_at : (s : S) (literals : List Literal) (i : ℕ) (d : Literal) → i < length literals
      → AreLiterals (holds s) (tree s) literals → IsLiteral (holds s) (tree s) (get_or literals i d)
  literal_at s [] i d lt are = absurd (omega (arith, lt))
  literal_at s (literal ∷ literals) zero d lt are = are.0
  literal_at s (literal ∷ literals) (suc i) d lt are = literal_at s literals i d (omega
      (arith, lt)) are.1

  -- what is held by numbers stays, and is still ready
  module _ {N : Type 0} (name : N) (s t : S) (leaves : ℕ) (on off : Func) (literals : List Literal)
      (stays : Stays holds tree limit s t)
      (ready : IsReadyBy (holds s) (tree s) leaves on off literals) where
    on_same : function_of (tree t) on ≡ function_of (tree s) on
    on_same = function_stays s t on stays ready.on_stands

    off_same : function_of (tree t) off ≡ function_of (tree s) off
    off_same = function_stays s t off stays ready.off_stands

    inputs_same : inputs_of (tree t) literals ≡ inputs_of (tree s) literals
    inputs_same = inputs_stay s t literals stays ready.literals_stand

    held_same : held_of (tree t) leaves on off literals ≡ held_of (tree s) leaves on off literals
    held_same =
        ap (λ (f : BooleanFunction). holding leaves f (function_of (tree t) off)
        (inputs_of (tree t) literals)) on_same
        ∙ ap (λ (f : BooleanFunction). holding leaves (function_of (tree s) on) f
        (inputs_of (tree t) literals)) off_same
        ∙ ap (holding leaves (function_of (tree s) on) (function_of (tree s) off)) inputs_same

    pub keeps_on : Keeps holds tree limit name name s t
        (held_of (tree s) leaves on off literals) (held_of (tree t) leaves on off literals)
        (IsReadyBy (holds s) (tree s) leaves on off literals)
        (IsReadyBy (holds t) (tree t) leaves on off literals)
    keeps_on = record {
      same_name = refl;
      numbers = stays;
      same = held_same;
      ready = λ was. record {
        on_stands = (stays.kept on.0 was.on_stands).0;
        on_over = subst (IsOver leaves) (sym on_same) was.on_over;
        off_stands = (stays.kept off.0 was.off_stands).0;
        off_over = subst (IsOver leaves) (sym off_same) was.off_over;
        literals_stand = literals_stay s t literals stays was.literals_stand;
        inputs_over = subst (λ (fs : List BooleanFunction). AllByRecursion (IsOver leaves) fs)
            (sym inputs_same) was.inputs_over;
      };
    }
