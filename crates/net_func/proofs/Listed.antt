-- Functions of signals in lists.
use Rattle.std.proofs.Common.{◌≡◌, ℕ, zero, suc, true, ◌||◌, Option, Some, None, is_some}
use Rattle.std.proofs.Common.{List, [], ◌∷◌, ◌++◌, map, drop, get_or, refl, sym, ap, ◌∙◌, subst}
use Rattle.std.proofs.Common.{inl, inr}
use Rattle.std.specs.List.{AllByRecursion, list_all}
use Rattle.std.proofs.lemmas.Bool.{false≢true, or_left, or_right}
use Rattle.circuit_model.specs.Names.{has}
use Rattle.circuit_model.specs.Soundness.{outputs_of, leaf_names, IsSound}
use Rattle.circuit_model.specs.declared.circuit.Circuit.{Circuit}
use Rattle.circuit_laws.proofs.Names.{has_either}
use Rattle.circuit_order.specs.Order.{order_of}
use Rattle.circuit_order.proofs.Orders.{ordered}
use Rattle.func_core.specs.Trees.{BooleanFunction, Tree}
use Rattle.func_core.specs.Numbers.{Means, IsBig, Stays}
use Rattle.func_core.specs.declared.functions.Func.{Func}
use Rattle.func_core.proofs.Meanings.{Means-kept, Means-fits}
use Rattle.net_func.specs.Numbering.{has_number, AreRight, AreAll, IsListing}
use Rattle.net_func.specs.Signals.{AreNumbered, AreMeant, Blames}
use Rattle.net_func.specs.declared.fault.NetFuncFault.{NetFuncFault}
use Rattle.net_func.specs.declared.fault.NetFuncFault.TheVariants.{TooBig}
use Rattle.net_func.proofs.Lists.{tests_all}
use Rattle.net_func.proofs.Making.{all_mapped}
use Rattle.net_func.proofs.Circuits.{own_settled}

-- a part that is to blame has its cause
pub blamed_part : (P : List ℕ → Type 0) (fault : NetFuncFault) (part : List ℕ) → Blames fault P
    → fault ≡ TooBig part → P part
blamed_part P fault part cause same = subst (λ (f : NetFuncFault). Blames f P) same cause

-- all signals have numbers
pub signals_known : (circuit : Circuit) (number : List ℕ → Option Func) → IsSound circuit
    → ((name : List ℕ) → has_number number name
    ≡ (has (leaf_names circuit) name || has (outputs_of circuit.tables) name))
    → list_all (has_number number) (leaf_names circuit ++ order_of circuit.tables) ≡ true
signals_known circuit number sound known =
    tests_all (has_number number) (leaf_names circuit ++ order_of circuit.tables) (λ name among.
    known name
    ∙ elim (has_either (leaf_names circuit) (order_of circuit.tables) name among) as
    (λ _. (has (leaf_names circuit) name || has (outputs_of circuit.tables) name) ≡ true) [
      | inl leaf ↦ or_left (has (leaf_names circuit) name) (has (outputs_of circuit.tables) name)
          leaf
      | inr listed ↦
          or_right (has (leaf_names circuit) name) (has (outputs_of circuit.tables) name)
          (sym ((ordered circuit.tables (own_settled circuit sound).once sound.acyclic).each name) ∙
          listed)
    ])

pub parts_known : (circuit : Circuit) (number : List ℕ → Option Func) → IsSound circuit
    → ((name : List ℕ) → has_number number name
    ≡ (has (leaf_names circuit) name || has (outputs_of circuit.dont_care) name))
    → list_all (has_number number) (order_of circuit.dont_care) ≡ true
parts_known circuit number sound known =
    tests_all (has_number number) (order_of circuit.dont_care) (λ name among.
    known name
    ∙ or_right (has (leaf_names circuit) name) (has (outputs_of circuit.dont_care) name)
    (sym ((ordered circuit.dont_care sound.dont_care_once sound.dont_care_acyclic).each name) ∙
    among))

first_of : {A : Type 0} (x y : A) (xs ys : List A) → x ∷ xs ≡ y ∷ ys → x ≡ y
first_of {A = A} x y xs ys e = ap (λ (l : List A). get_or l zero x) e

others_of : {A : Type 0} (x y : A) (xs ys : List A) → x ∷ xs ≡ y ∷ ys → xs ≡ ys
others_of {A = A} x y xs ys e = ap (λ (l : List A). drop (suc zero) l) e

module _ {S : Type 0} (holds : S → ℕ → Type 0) (tree : S → ℕ → Tree) (limit : S → ℕ) where
  listed_means : (state : S) (number : List ℕ → Option Func) (value : List ℕ → BooleanFunction)
      (names : List (List ℕ)) (list : List (List ℕ × Func)) → AreRight holds tree limit state number
      value
      → map (λ (pair : List ℕ × Func). pair.0) list ≡ names
      → map (λ (pair : List ℕ × Func). Some pair.1) list ≡ map number names
      → AllByRecursion (λ (pair : List ℕ × Func). Means holds tree limit state pair.1.0 (value
      pair.0)) list
  listed_means state number value names [] right e f = tt
  listed_means state number value [] (pair ∷ list) right e f = cc
  listed_means state number value (name ∷ names) (pair ∷ list) right e f = (
    subst (λ (n : List ℕ). Means holds tree limit state pair.1.0 (value n))
        (sym (first_of pair.0 name (map (λ (p : List ℕ × Func). p.0) list) names e))
        (right name pair.1
        (sym (first_of (Some pair.1) (number name) (map (λ (p : List ℕ × Func). Some p.1) list)
        (map number names) f))),
    listed_means state number value names list right
        (others_of pair.0 name (map (λ (p : List ℕ × Func). p.0) list) names e)
        (others_of (Some pair.1) (number name) (map (λ (p : List ℕ × Func). Some p.1) list)
        (map number names) f),
  )

  pub numbered_from : (state : S) (number : List ℕ → Option Func) (value : List ℕ → BooleanFunction)
      (names : List (List ℕ)) (list : List (List ℕ × Func)) → AreRight holds tree limit state number
      value
      → IsListing number names list → AreNumbered holds tree limit state names value list
  numbered_from state number value names list right listing = record {
    names_are = listing.names_are;
    mean = listed_means state number value names list right listing.names_are listing.numbers_are;
  }

  pub numbered_later : (before after : S) (names : List (List ℕ)) (value : List ℕ → BooleanFunction)
      (list : List (List ℕ × Func)) → Stays holds tree limit before after
      → AreNumbered holds tree limit before names value list
      → AreNumbered holds tree limit after names value list
  numbered_later before after names value list stays numbered = record {
    names_are = numbered.names_are;
    mean = all_mapped (λ (pair : List ℕ × Func). Means holds tree limit before pair.1.0 (value
        pair.0))
        (λ (pair : List ℕ × Func). Means holds tree limit after pair.1.0 (value pair.0)) list
        (λ pair means. Means-kept holds tree limit before after pair.1.0 (value pair.0) stays means)
        numbered.mean;
  }

  -- numbers at names, in order, mean the functions of the names
  pub meant_from : (state : S) (number : List ℕ → Option Func) (value : List ℕ → BooleanFunction)
      (names : List (List ℕ)) (list : List Func) → AreRight holds tree limit state number value
      → map Some list ≡ map number names → AreMeant holds tree limit state names value list
  meant_from state number value [] [] right e = tt
  meant_from state number value [] (f ∷ list) right e = cc
  meant_from state number value (name ∷ names) [] right e = cc
  meant_from state number value (name ∷ names) (f ∷ list) right e = (
    right name f (sym (first_of (Some f) (number name) (map Some list) (map number names) e)),
    meant_from state number value names list right
        (others_of (Some f) (number name) (map Some list) (map number names) e),
  )

  -- if all names have numbers, the function of none is too big
  pub all_fit : (state : S) (bound : ℕ) (others names : List (List ℕ))
      (value : List ℕ → BooleanFunction) (number : List ℕ → Option Func)
      → AreAll holds tree limit state (λ name. has others name || has names name) value number
      → limit state ≡ bound → (name : List ℕ) → has names name ≡ true
      → IsBig bound (value name) → ⊥
  all_fit state bound others names value number all same name among big =
      cases (number name) refl
      (all.known name ∙ or_right (has others name) (has names name) among)
    where
      cases : (found : Option Func) → number name ≡ found → is_some (number name) ≡ true → ⊥
      cases None at there = false≢true (sym (ap is_some at) ∙ there)
      cases (Some f) at there =
          Means-fits holds tree limit state f.0 (value name) (all.right name f at)
          (subst (λ (l : ℕ). IsBig l (value name)) (sym same) big)
