-- One table more whose tree is made before those of its readers.
use Rattle.std.proofs.Common.{◌≡◌, ℕ, ◌<◌, Bool, true, false, if◌then◌else◌, Option, Some, None, IfSome, List, [], ◌∷◌, ◌++◌, length, bytes_eq, refl, sym, ap, ◌∙◌, subst, inl, inr}
use Rattle.std.proofs.lemmas.Bool.{false≢true, or_cases}
use Rattle.std.proofs.lemmas.Option.{same_Some, none-some}
use Rattle.circuit_model.specs.Names.{has}
use Rattle.circuit_model.specs.Values.{driver}
use Rattle.circuit_model.specs.Soundness.{outputs_of}
use Rattle.circuit_model.specs.declared.circuit.Table.{Table}
use Rattle.circuit_model.specs.declared.circuit.Circuit.{Circuit}
use Rattle.circuit_laws.proofs.Names.{same_name, name_is, has_append, all_from_has}
use Rattle.circuit_laws.proofs.Drivers.{driver_output}
use Rattle.subject_tree.specs.Trees.{Tree, Leaf, renamed}
use Rattle.subject_tree.specs.Arenas.{tree_at, KeepsTrees}
use Rattle.subject_tree.specs.Order.{name_at, KeepsNames}
use Rattle.subject_tree.specs.Forest.{is_put, AreTrees}
use Rattle.subject_tree.specs.Reading.{HasTree, IsRead, AreRead, IsMade, AllTaken, IsGrown, IsReady, noted}
use Rattle.subject_tree.specs.Roots.{tree_over}
use Rattle.subject_tree.specs.declared.arena.Vertex.{Vertex}
use Rattle.subject_tree.proofs.Growing.{put_table}
use Rattle.subject_tree.proofs.Reading.{tree-kept, taken-all}

-- a signal that is put into its reader is a table's output
put_output : (circuit : Circuit) (signal : List ℕ) → is_put circuit signal ≡ true → has (outputs_of circuit.tables) signal ≡ true
put_output circuit signal put = let (table, at, full) = put_table circuit signal put in driver_output circuit.tables signal table at

-- the inputs of a table read as their trees, where those that are put into their reader have numbers
pub inputs-read : (circuit : Circuit) (vs : List Vertex) (names : List (List ℕ)) (numbers : List ℕ → Option ℕ) (tree : List ℕ → Tree (List ℕ)) (listed inputs : List (List ℕ)) → AreTrees circuit tree → IsGrown circuit vs names numbers tree listed
    → ((input : List ℕ) → has inputs input ≡ true → has (outputs_of circuit.tables) input ≡ true → has listed input ≡ true) → AreRead vs names numbers tree inputs
inputs-read circuit vs names numbers tree listed inputs trees grown ready =
    all_from_has (λ signal. IsRead vs names signal (numbers signal) (tree signal)) inputs (λ signal among. found signal among (numbers signal) refl)
  where
    leaf : (signal : List ℕ) → has inputs signal ≡ true → numbers signal ≡ None → (b : Bool) → is_put circuit signal ≡ b → tree signal ≡ Leaf signal
    leaf signal among none true put = absurd (grown.each signal (ready signal among (put_output circuit signal put)) put none)
    leaf signal among none false put = trees.leaf signal put

    found : (signal : List ℕ) → has inputs signal ≡ true → (number : Option ℕ) → numbers signal ≡ number → IsRead vs names signal number (tree signal)
    found signal among None e = leaf signal among e (is_put circuit signal) refl
    found signal among (Some n) e = grown.trees signal n e

-- a number that was made for a table's output
pub grown-more : (circuit : Circuit) (old new : List Vertex) (names more : List (List ℕ)) (before after : List ℕ → Option ℕ) (table : Table) (made : Option ℕ) → KeepsTrees old new → KeepsNames names more → AllTaken old before
    → ((other : List ℕ) → after other ≡ noted before table.output made other) → ((tree : List ℕ → Tree (List ℕ)) → AreRead old names before tree table.inputs → IsMade new more made (tree_over tree table))
    → (tree : List ℕ → Tree (List ℕ)) (listed : List (List ℕ)) → AreTrees circuit tree → is_put circuit table.output ≡ true → driver circuit.tables table.output ≡ Some table → IsReady circuit.tables listed table.output
    → IsGrown circuit old names before tree listed → IsGrown circuit new more after tree (listed ++ table.output ∷ [])
grown-more circuit old new names more before after table made kept named taken puts makes tree listed trees put at ready grown =
    by made puts (makes tree (inputs-read circuit old names before tree listed table.inputs trees grown (λ input among driven. ready table input at among driven)))
  where
    own : tree_over tree table ≡ Some (tree table.output)
    own = trees.put table.output table put at

    by : (made : Option ℕ) → ((other : List ℕ) → after other ≡ noted before table.output made other) → IsMade new more made (tree_over tree table) → IsGrown circuit new more after tree (listed ++ table.output ∷ [])
    by None puts is = absurd (none-some (tree table.output) (sym is ∙ own))
    by (Some n) puts is = record {
      trees = λ signal m e. trees-at signal m (bytes_eq table.output signal) refl (sym (puts signal) ∙ e);
      each = λ signal among is-put none. each-at signal (bytes_eq table.output signal) refl among is-put (sym (puts signal) ∙ none);
    }
      where
        trees-at : (signal : List ℕ) (m : ℕ) (b : Bool) → bytes_eq table.output signal ≡ b → (if b then Some n else before signal) ≡ Some m → HasTree new more m (tree signal)
        trees-at signal m true same e = λ others keeps.
            let here : n ≡ m = same_Some n m e in
            ap (λ (k : ℕ). renamed (name_at others) (tree_at new k)) (sym here)
            ∙ (same_Some (renamed (name_at others) (tree_at new n)) (tree table.output) (sym (is others keeps) ∙ own) ∙ ap tree (same_name table.output signal same))
        trees-at signal m false same e =
            tree-kept old new names more m (tree signal) kept named (subst (λ (o : Option ℕ). IfSome o (λ k. k < length old)) e (taken signal)) (grown.trees signal m e)

        each-at : (signal : List ℕ) (b : Bool) → bytes_eq table.output signal ≡ b → has (listed ++ table.output ∷ []) signal ≡ true → is_put circuit signal ≡ true → (if b then Some n else before signal) ≡ None → ⊥
        each-at signal true same among is-put none = none-some n (sym none)
        each-at signal false same among is-put none =
            elim (or_cases (has listed signal) (has (table.output ∷ []) signal) (sym (has_append listed (table.output ∷ []) signal) ∙ among)) as (λ _. ⊥) [
              | inl old-one ↦ grown.each signal old-one is-put none
              | inr last ↦ elim (or_cases (bytes_eq signal table.output) false last) as (λ _. ⊥) [
                | inl here ↦ false≢true (sym same ∙ name_is table.output signal (sym (same_name signal table.output here)))
                | inr no-one ↦ false≢true no-one
              ]
            ]

pub noted-taken : (old new : List Vertex) (before after : List ℕ → Option ℕ) (name : List ℕ) (made : Option ℕ) → KeepsTrees old new → AllTaken old before → IfSome made (λ n. n < length new) → ((other : List ℕ) → after other ≡ noted before name made other) → AllTaken new after
noted-taken old new before after name None kept taken lt puts signal =
    subst (λ (o : Option ℕ). IfSome o (λ n. n < length new)) (sym (puts signal)) (taken-all old new (before signal) kept (taken signal))
noted-taken old new before after name (Some n) kept taken lt puts signal =
    subst (λ (o : Option ℕ). IfSome o (λ k. k < length new)) (sym (puts signal)) (cases (bytes_eq name signal))
  where
    cases : (b : Bool) → IfSome (if b then Some n else before signal) (λ k. k < length new)
    cases true = lt
    cases false = taken-all old new (before signal) kept (taken signal)
