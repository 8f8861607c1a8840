-- Where a signal is observable: fixing it at 0 and at 1 differ exactly where complementing it
-- changes something; and the changes by numbers are those of the circuit.
use Rattle.std.proofs.Common.{◌≡◌, ℕ, zero, suc, Bool, true, false, not, ◌&&◌, ◌||◌, if◌then◌else◌, Option, Some, None, is_some, unwrap_or, List, [], ◌∷◌, ◌++◌, take, drop, get_or, slice_get, map, bytes_eq, refl, sym, ap, ap₂, ◌∙◌, subst, inl, inr, ◌⊎◌}
use Rattle.std.specs.List.{AllByRecursion, list_all}
use Rattle.std.proofs.Math.Path.{fun_ext}
use Rattle.std.proofs.lemmas.Bool.{false≢true, or_left, or_right}
use Rattle.std.proofs.lemmas.Option.{same_Some, none-some}
use Rattle.std.proofs.lemmas.List.{map-append}
use Rattle.circuit_model.specs.Names.{has}
use Rattle.circuit_model.specs.Values.{driver, driven_value, is_free_under}
use Rattle.circuit_model.specs.Runs.{latch_outputs}
use Rattle.circuit_model.specs.Soundness.{outputs_of, table_inputs, latch_inputs, leaf_names, given, taken, IsSound}
use Rattle.circuit_model.specs.declared.circuit.Table.{Table}
use Rattle.circuit_model.specs.declared.circuit.Circuit.{Circuit}
use Rattle.circuit_laws.specs.Valuations.{due}
use Rattle.circuit_laws.proofs.Names.{name_cases, name_is, has_front, has_back, has_either, has_head, has_tail, all_has}
use Rattle.circuit_laws.proofs.Drivers.{is_driven, driver_reads}
use Rattle.circuit_laws.proofs.Values.{valued, value_only}
use Rattle.circuit_order.specs.Places.{IsIndex}
use Rattle.func_core.specs.Trees.{BooleanFunction, Tree, differ}
use Rattle.func_core.specs.Numbers.{Means, IsBig, Stays}
use Rattle.func_core.specs.declared.functions.Func.{Func}
use Rattle.func_core.proofs.Meanings.{IsBig-same, Means-kept}
use Rattle.net_func.specs.Numbered.{computed}
use Rattle.net_func.specs.Numbering.{has_number, no_numbers, NumbersStand, AreRight, AreAll}
use Rattle.net_func.specs.Signals.{leaves_at, own_function, free_function, forced_function, fixed, is_changed, is_shown, changes, seen_among, is_seen, IsBigSeen}
use Rattle.net_func.specs.Changes.{free_bit, changed_by, shown_by, FreeStands, ChangeStands, ChangesStand, HasBigChange, free_in, AreChanges, AreAllChanges}
use Rattle.net_func.specs.declared.seen.Change.{Change}
use Rattle.net_func.proofs.Lists.{tests_all}
use Rattle.net_func.proofs.Finding.{placed_driven}

-- fixing a signal at its own value changes nothing
pub own_fixed : (circuit : Circuit) → IsSound circuit → (name root : List ℕ) (point : ℕ → Bool)
    → own_function circuit root point ≡ forced_function circuit name (own_function circuit name
    point) root point
unfolding fixed
own_fixed circuit sound name root point =
    value_only circuit.tables (fixed name (own_function circuit name point) (leaves_at circuit
    point)) sound.acyclic
    (λ signal. own_function circuit signal point) (λ signal. fits signal (name_cases signal name))
    root
  where
    fits : (signal : List ℕ) → (signal ≡ name) ⊎ (bytes_eq signal name ≡ false)
        → own_function circuit signal point
        ≡ due circuit.tables (fixed name (own_function circuit name point) (leaves_at circuit
        point))
        (λ s. own_function circuit s point) signal
    fits signal (inl same) =
        ap (λ (n : List ℕ). own_function circuit n point) same
        ∙ sym (ap (λ (b : Bool). unwrap_or (if b then Some (own_function circuit name point) else
        leaves_at circuit point signal)
        (driven_value (driver circuit.tables signal) (λ s. own_function circuit s point)))
        (name_is signal name same))
    fits signal (inr apart) =
        valued circuit.tables (leaves_at circuit point) sound.acyclic signal
        ∙ sym (ap (λ (b : Bool). unwrap_or (if b then Some (own_function circuit name point) else
        leaves_at circuit point signal)
        (driven_value (driver circuit.tables signal) (λ s. own_function circuit s point))) apart)

differ_turned : (a b : Bool) → differ a b ≡ differ b a
differ_turned true true = refl
differ_turned true false = refl
differ_turned false true = refl
differ_turned false false = refl

between : (own : Bool) (at : Bool → Bool) (value : Bool) → value ≡ at own
    → differ (at false) (at true) ≡ differ value (at (not own))
between false at value e = ap (λ (v : Bool). differ v (at true)) (sym e)
between true at value e =
    differ_turned (at false) (at true) ∙ ap (λ (v : Bool). differ v (at false)) (sym e)

pub difference : (circuit : Circuit) → IsSound circuit → (name root : List ℕ) (point : ℕ → Bool)
    → differ (forced_function circuit name false root point) (forced_function circuit name true root
    point)
    ≡ is_changed circuit name root point
difference circuit sound name root point =
    between (own_function circuit name point) (λ bit. forced_function circuit name bit root point)
    (own_function circuit root point) (own_fixed circuit sound name root point)

-- what is given has a number, and so have the signals that latches and outputs read
given_known : (circuit : Circuit) (name : List ℕ) → has (given circuit) name ≡ true
    → (has (leaf_names circuit) name || has (outputs_of circuit.tables) name) ≡ true
unfolding given
given_known circuit name known =
    elim (has_either circuit.inputs (latch_outputs circuit ++ outputs_of circuit.tables) name known)
    as
    (λ _. (has (leaf_names circuit) name || has (outputs_of circuit.tables) name) ≡ true) [
      | inl leaf ↦
          or_left (has (leaf_names circuit) name) (has (outputs_of circuit.tables) name)
          (has_front circuit.inputs (latch_outputs circuit) name leaf)
      | inr other ↦
          elim (has_either (latch_outputs circuit) (outputs_of circuit.tables) name other) as
          (λ _. (has (leaf_names circuit) name || has (outputs_of circuit.tables) name) ≡ true) [
            | inl latch ↦
                or_left (has (leaf_names circuit) name) (has (outputs_of circuit.tables) name)
                (has_back circuit.inputs (latch_outputs circuit) name latch)
            | inr driven ↦
                or_right (has (leaf_names circuit) name) (has (outputs_of circuit.tables) name)
                driven
          ]
    ]

pub taken_known : (circuit : Circuit) (number : List ℕ → Option Func) → IsSound circuit
    → ((name : List ℕ) → has_number number name
    ≡ (has (leaf_names circuit) name || has (outputs_of circuit.tables) name))
    → list_all (has_number number) (latch_inputs circuit) ≡ true
unfolding taken
taken_known circuit number sound known =
    tests_all (has_number number) (latch_inputs circuit) (λ name among.
    known name
    ∙ given_known circuit name
    (all_has (λ n. has (given circuit) n ≡ true) (taken circuit) sound.driven name
    (has_back (table_inputs circuit.tables) (latch_inputs circuit ++ circuit.outputs) name
    (has_front (latch_inputs circuit) circuit.outputs name among))))

pub outputs_known : (circuit : Circuit) (number : List ℕ → Option Func) → IsSound circuit
    → ((name : List ℕ) → has_number number name
    ≡ (has (leaf_names circuit) name || has (outputs_of circuit.tables) name))
    → list_all (has_number number) circuit.outputs ≡ true
unfolding taken
outputs_known circuit number sound known =
    tests_all (has_number number) circuit.outputs (λ name among.
    known name
    ∙ given_known circuit name
    (all_has (λ n. has (given circuit) n ≡ true) (taken circuit) sound.driven name
    (has_back (table_inputs circuit.tables) (latch_inputs circuit ++ circuit.outputs) name
    (has_back (latch_inputs circuit) circuit.outputs name among))))

-- and so have the inputs of a table
pub reads_known : (circuit : Circuit) (number : List ℕ → Option Func) (name : List ℕ) (table :
    Table)
    → IsSound circuit
    → ((signal : List ℕ) → has_number number signal
    ≡ (has (leaf_names circuit) signal || has (outputs_of circuit.tables) signal))
    → driver circuit.tables name ≡ Some table → list_all (has_number number) table.inputs ≡ true
unfolding taken
reads_known circuit number name table sound known at =
    tests_all (has_number number) table.inputs (λ input reads.
    known input
    ∙ given_known circuit input
    (all_has (λ n. has (given circuit) n ≡ true) (taken circuit) sound.driven input
    (has_front (table_inputs circuit.tables) (latch_inputs circuit ++ circuit.outputs) input
    (driver_reads circuit.tables name table input at reads))))

-- changes by the numbers of names, one by one
first_of : {A : Type 0} (x y : A) (xs ys : List A) → x ∷ xs ≡ y ∷ ys → x ≡ y
first_of {A = A} x y xs ys e = ap (λ (l : List A). get_or l zero x) e

others_of : {A : Type 0} (x y : A) (xs ys : List A) → x ∷ xs ≡ y ∷ ys → xs ≡ ys
others_of {A = A} x y xs ys e = ap (λ (l : List A). drop (suc zero) l) e

pub record IsChangeOf (low high free : List ℕ → Option Func) (root : List ℕ) (change : Change) :
    Type 0 where
  pub low_is : low root ≡ Some change.low
  pub high_is : high root ≡ Some change.high
  pub free_is : change.free ≡ free root

front_change : (low high free : List ℕ → Option Func) (root : List ℕ) (roots : List (List ℕ))
    (change : Change)
    (list : List Change) → AreChanges low high free (root ∷ roots) (change ∷ list)
    → IsChangeOf low high free root change
front_change low high free root roots change list all = record {
  low_is = sym (first_of (Some change.low) (low root) (map (λ (c : Change). Some c.low) list) (map
      low roots) all.lows);
  high_is = sym (first_of (Some change.high) (high root) (map (λ (c : Change). Some c.high) list)
      (map high roots) all.highs);
  free_is = first_of change.free (free root) (map (λ (c : Change). c.free) list) (map free roots)
      all.frees;
}

back_changes : (low high free : List ℕ → Option Func) (root : List ℕ) (roots : List (List ℕ))
    (change : Change)
    (list : List Change) → AreChanges low high free (root ∷ roots) (change ∷ list)
    → AreChanges low high free roots list
back_changes low high free root roots change list all = record {
  lows = others_of (Some change.low) (low root) (map (λ (c : Change). Some c.low) list) (map low
      roots) all.lows;
  highs = others_of (Some change.high) (high root) (map (λ (c : Change). Some c.high) list) (map
      high roots) all.highs;
  frees = others_of change.free (free root) (map (λ (c : Change). c.free) list) (map free roots)
      all.frees;
}

all_changes : (P : Change → Type 0) (low high free : List ℕ → Option Func) (roots : List (List ℕ))
    (list : List Change) → AreChanges low high free roots list
    → ((root : List ℕ) (change : Change) → IsChangeOf low high free root change → P change)
    → AllByRecursion P list
all_changes P low high free roots [] all each = tt
all_changes P low high free [] (change ∷ list) all each = let e = all.frees in cc
all_changes P low high free (root ∷ roots) (change ∷ list) all each = (
  each root change (front_change low high free root roots change list all),
  all_changes P low high free roots list (back_changes low high free root roots change list all)
      each,
)

mapped_changes : (f : Change → BooleanFunction) (g : List ℕ → BooleanFunction)
    (low high free : List ℕ → Option Func) (roots : List (List ℕ)) (list : List Change)
    → AreChanges low high free roots list
    → ((root : List ℕ) (change : Change) → IsChangeOf low high free root change → f change ≡ g root)
    → map f list ≡ map g roots
mapped_changes f g low high free [] [] all each = refl
mapped_changes f g low high free [] (change ∷ list) all each = let e = all.frees in cc
mapped_changes f g low high free (root ∷ roots) [] all each = let e = all.frees in cc
mapped_changes f g low high free (root ∷ roots) (change ∷ list) all each =
    ap₂ (λ (h : BooleanFunction) (hs : List BooleanFunction). h ∷ hs)
    (each root change (front_change low high free root roots change list all))
    (mapped_changes f g low high free roots list (back_changes low high free root roots change list
    all) each)

pub change_found : (low high free : List ℕ → Option Func) (roots : List (List ℕ)) (list : List
    Change) (i : ℕ)
    (change : Change) → AreChanges low high free roots list → slice_get list i ≡ Some change
    → (root : List ℕ) × (has roots root ≡ true) × IsChangeOf low high free root change
change_found low high free roots [] i change all at = absurd (none-some change at)
change_found low high free [] (first ∷ list) i change all at = let e = all.frees in cc
change_found low high free (root ∷ roots) (first ∷ list) zero change all at = (
  root,
  has_head root roots,
  subst (λ (c : Change). IsChangeOf low high free root c) (same_Some first change at)
      (front_change low high free root roots first list all),
)
change_found low high free (root ∷ roots) (first ∷ list) (suc i) change all at =
    let (found, among, is) =
    change_found low high free roots list i change (back_changes low high free root roots first list
    all) at in
    (found, has_tail root roots found among, is)

found_either : (xs ys : List Change) (i : ℕ) (change : Change) → slice_get (xs ++ ys) i ≡ Some
    change
    → ((j : ℕ) × (slice_get xs j ≡ Some change)) ⊎ ((j : ℕ) × (slice_get ys j ≡ Some change))
found_either [] ys i change at = inr (i, at)
found_either (x ∷ xs) ys zero change at = inl (zero, at)
found_either (x ∷ xs) ys (suc i) change at =
    elim (found_either xs ys i change at) as
    (λ _. ((j : ℕ) × (slice_get (x ∷ xs) j ≡ Some change)) ⊎ ((j : ℕ) ×
    (slice_get ys j ≡ Some change))) [
      | inl there ↦ let (j, e) = there in inl (suc j, e)
      | inr there ↦ inr there
    ]

all_joined : (P : Change → Type 0) (xs ys : List Change) → AllByRecursion P xs → AllByRecursion P ys
    → AllByRecursion P (xs ++ ys)
all_joined P [] ys a b = b
all_joined P (x ∷ xs) ys a b = (a.0, all_joined P xs ys a.1 b)

pub changes_none : (low high free : List ℕ → Option Func) → AreChanges low high free [] []
changes_none low high free = record { lows = refl; highs = refl; frees = refl }

pub changes_more : (low high free : List ℕ → Option Func) (roots later : List (List ℕ)) (list new :
    List Change)
    (root : List ℕ) (change : Change) → AreChanges low high free roots list
    → IsChangeOf low high free root change → later ≡ roots ++ root ∷ [] → new ≡ list ++ change ∷ []
    → AreChanges low high free later new
changes_more low high free roots later list new root change all is e f =
    subst (λ (rs : List (List ℕ)). AreChanges low high free rs new) (sym e)
    (subst (λ (cs : List Change). AreChanges low high free (roots ++ root ∷ []) cs) (sym f)
    (record {
      lows = map-append (λ (c : Change). Some c.low) list (change ∷ [])
          ∙ ap₂ (λ (xs ys : List (Option Func)). xs ++ ys) all.lows
          (ap (λ (found : Option Func). found ∷ []) (sym is.low_is))
          ∙ sym (map-append low roots (root ∷ []));
      highs = map-append (λ (c : Change). Some c.high) list (change ∷ [])
          ∙ ap₂ (λ (xs ys : List (Option Func)). xs ++ ys) all.highs
          (ap (λ (found : Option Func). found ∷ []) (sym is.high_is))
          ∙ sym (map-append high roots (root ∷ []));
      frees = map-append (λ (c : Change). c.free) list (change ∷ [])
          ∙ ap₂ (λ (xs ys : List (Option Func)). xs ++ ys) all.frees
          (ap (λ (found : Option Func). found ∷ []) is.free_is)
          ∙ sym (map-append free roots (root ∷ []));
    }))

module _ {S : Type 0} (holds : S → ℕ → Type 0) (tree : S → ℕ → Tree) (limit : S → ℕ) where
  free_given : (state : S) (point : ℕ → Bool) (b d : Bool) (found : Option Func) (v : Bool) → b ≡ d
      → (d ≡ true → is_some found ≡ true)
      → ((f : Func) → found ≡ Some f → computed tree state f point ≡ v)
      → free_bit tree state (if b then found else None) point ≡ (d && v)
  free_given state point true true None v e there is = absurd (false≢true (there refl))
  free_given state point true true (Some f) v e there is = is f refl
  free_given state point false false found v e there is = refl
  free_given state point true false found v e there is = absurd (false≢true (sym e))
  free_given state point false true found v e there is = absurd (false≢true e)

  -- the don't-care part by its numbers
  pub free_is : (state : S) (circuit : Circuit) (free : List ℕ → Option Func) (place : List ℕ →
      Option ℕ)
      → AreAll holds tree limit state
      (λ name. has (leaf_names circuit) name || has (outputs_of circuit.dont_care) name)
      (free_function circuit) free
      → IsIndex circuit.dont_care place → (output : List ℕ) (point : ℕ → Bool)
      → free_bit tree state (free_in free place output) point
      ≡ is_free_under circuit.dont_care (leaves_at circuit point) output
  unfolding is_free_under
  free_is state circuit free place all index output point =
      free_given state point (is_some (place output)) (is_some (driver circuit.dont_care output))
      (free output)
      (free_function circuit output point)
      (placed_driven circuit.dont_care place output index ∙ sym (is_driven circuit.dont_care
      output))
      (λ driven.
      all.known output
      ∙ or_right (has (leaf_names circuit) output) (has (outputs_of circuit.dont_care) output)
      (sym (is_driven circuit.dont_care output) ∙ driven))
      (λ f at. (all.right output f at).is_tree.computes point)

  -- the functions of all signals with one at 0 and at 1
  pub record AreHalves (state : S) (circuit : Circuit) (name : List ℕ) (low high : List ℕ → Option
      Func) : Type 0 where
    pub sound : IsSound circuit
    pub low_right : AreRight holds tree limit state low (forced_function circuit name false)
    pub high_right : AreRight holds tree limit state high (forced_function circuit name true)

  pub changed_is : (state : S) (circuit : Circuit) (name : List ℕ) (low high free : List ℕ → Option
      Func)
      → AreHalves state circuit name low high → (root : List ℕ) (change : Change)
      → IsChangeOf low high free root change → (point : ℕ → Bool)
      → changed_by tree state change point ≡ is_changed circuit name root point
  changed_is state circuit name low high free halves root change is point =
      ap₂ (λ (a b : Bool). differ a b)
      ((halves.low_right root change.low is.low_is).is_tree.computes point)
      ((halves.high_right root change.high is.high_is).is_tree.computes point)
      ∙ difference circuit halves.sound name root point

  pub latched_is : (state : S) (circuit : Circuit) (name : List ℕ) (low high : List ℕ → Option Func)
      → AreHalves state circuit name low high → (root : List ℕ) (change : Change)
      → IsChangeOf low high no_numbers root change → (point : ℕ → Bool)
      → shown_by tree state change point ≡ is_changed circuit name root point
  latched_is state circuit name low high halves root change is point =
      ap (λ (free : Option Func). not (free_bit tree state free point) && changed_by tree state
      change point)
      is.free_is
      ∙ changed_is state circuit name low high no_numbers halves root change is point

  pub shown_is : (state : S) (circuit : Circuit) (name : List ℕ) (low high free : List ℕ → Option
      Func)
      (place : List ℕ → Option ℕ) → AreHalves state circuit name low high
      → AreAll holds tree limit state
      (λ n. has (leaf_names circuit) n || has (outputs_of circuit.dont_care) n) (free_function
      circuit) free
      → IsIndex circuit.dont_care place → (root : List ℕ) (change : Change)
      → IsChangeOf low high (free_in free place) root change → (point : ℕ → Bool)
      → shown_by tree state change point ≡ is_shown circuit name root point
  shown_is state circuit name low high free place halves all index root change is point =
      ap₂ (λ (a b : Bool). not a && b)
      (ap (λ (f : Option Func). free_bit tree state f point) is.free_is
      ∙ free_is state circuit free place all index root point)
      (changed_is state circuit name low high (free_in free place) halves root change is point)

  -- all changes by numbers are those of the circuit
  pub all_shown : (state : S) (circuit : Circuit) (name : List ℕ) (low high free : List ℕ → Option
      Func)
      (place : List ℕ → Option ℕ) (list : List Change) → AreHalves state circuit name low high
      → AreAll holds tree limit state
      (λ n. has (leaf_names circuit) n || has (outputs_of circuit.dont_care) n) (free_function
      circuit) free
      → IsIndex circuit.dont_care place
      → AreAllChanges low high (free_in free place) (latch_inputs circuit) circuit.outputs list
      → map (shown_by tree state) list ≡ changes circuit name
  all_shown state circuit name low high free place list halves all index made =
      ap (map (shown_by tree state)) made.whole
      ∙ map-append (shown_by tree state) made.front made.back
      ∙ ap₂ (λ (fs gs : List BooleanFunction). fs ++ gs)
      (mapped_changes (shown_by tree state) (is_changed circuit name) low high no_numbers
      (latch_inputs circuit)
      made.front made.latches
      (λ root change is. fun_ext (latched_is state circuit name low high halves root change is)))
      (mapped_changes (shown_by tree state) (is_shown circuit name) low high (free_in free place)
      circuit.outputs
      made.back made.outputs
      (λ root change is. fun_ext (shown_is state circuit name low high free place halves all index
      root change is)))

  -- the numbers of all changes are valid
  change_stands : (state : S) (low high free : List ℕ → Option Func) → NumbersStand holds state low
      → NumbersStand holds state high
      → ((root : List ℕ) → FreeStands holds state (free root)) → (root : List ℕ) (change : Change)
      → IsChangeOf low high free root change → ChangeStands holds state change
  change_stands state low high free low_stand high_stand free_stand root change is = record {
    low = low_stand root change.low is.low_is;
    high = high_stand root change.high is.high_is;
    free = subst (FreeStands holds state) (sym is.free_is) (free_stand root);
  }

  free_in_stands : (state : S) (free : List ℕ → Option Func) (place : List ℕ → Option ℕ)
      → NumbersStand holds state free → (root : List ℕ) → FreeStands holds state (free_in free place
      root)
  free_in_stands state free place stand root = cases (is_some (place root)) (free root) refl
    where
      cases : (b : Bool) (found : Option Func) → free root ≡ found
          → FreeStands holds state (if b then found else None)
      cases false found e = tt
      cases true None e = tt
      cases true (Some f) e = stand root f e

  pub all_stand : (state : S) (low high free : List ℕ → Option Func) (place : List ℕ → Option ℕ)
      (latched shown : List (List ℕ)) (list : List Change) → NumbersStand holds state low
      → NumbersStand holds state high → NumbersStand holds state free
      → AreAllChanges low high (free_in free place) latched shown list → ChangesStand holds state
      list
  all_stand state low high free place latched shown list low_stand high_stand free_stand made =
      subst (ChangesStand holds state) (sym made.whole)
      (all_joined (ChangeStands holds state) made.front made.back
      (all_changes (ChangeStands holds state) low high no_numbers latched made.front made.latches
      (change_stands state low high no_numbers low_stand high_stand (λ root. tt)))
      (all_changes (ChangeStands holds state) low high (free_in free place) shown made.back
      made.outputs
      (change_stands state low high (free_in free place) low_stand high_stand
      (free_in_stands state free place free_stand))))

  -- why the function of where a signal is observable is refused
  pub seen_big : (state : S) (circuit : Circuit) (name : List ℕ) (low high free : List ℕ → Option
      Func)
      (place : List ℕ → Option ℕ) (list : List Change) (bound : ℕ) → AreHalves state circuit name
      low high
      → AreAll holds tree limit state
      (λ n. has (leaf_names circuit) n || has (outputs_of circuit.dont_care) n) (free_function
      circuit) free
      → IsIndex circuit.dont_care place
      → AreAllChanges low high (free_in free place) (latch_inputs circuit) circuit.outputs list
      → HasBigChange tree state bound list → IsBigSeen bound circuit name
  seen_big state circuit name low high free place list bound halves all index made (inr
      (count, big)) =
      inr (inr (inr (inr (
        count,
        subst (λ (fs : List BooleanFunction). IsBig bound (seen_among (take count fs)))
            (all_shown state circuit name low high free place list halves all index made) big,
      ))))
  seen_big state circuit name low high free place list bound halves all index made (inl
      (i, change, at, big)) =
      elim (found_either made.front made.back i change
      (ap (λ (l : List Change). slice_get l i) (sym made.whole) ∙ at)) as (λ _. IsBigSeen bound
      circuit name) [
        | inl there ↦ latched there big
        | inr there ↦ shown there big
      ]
    where
      latched : ((j : ℕ) × (slice_get made.front j ≡ Some change))
          → IsBig bound (changed_by tree state change) ⊎ IsBig bound (shown_by tree state change)
          → IsBigSeen bound circuit name
      latched (j, there) big =
          let (root, among, is) =
          change_found low high no_numbers (latch_inputs circuit) made.front j change made.latches
          there in
          elim big as (λ _. IsBigSeen bound circuit name) [
            | inl b ↦
                inr (inr (inl (
                  root,
                  has_front (latch_inputs circuit) circuit.outputs root among,
                  IsBig-same bound (changed_by tree state change) (is_changed circuit name root) b
                      (changed_is state circuit name low high no_numbers halves root change is),
                )))
            | inr b ↦
                inr (inr (inl (
                  root,
                  has_front (latch_inputs circuit) circuit.outputs root among,
                  IsBig-same bound (shown_by tree state change) (is_changed circuit name root) b
                      (latched_is state circuit name low high halves root change is),
                )))
          ]

      shown : ((j : ℕ) × (slice_get made.back j ≡ Some change))
          → IsBig bound (changed_by tree state change) ⊎ IsBig bound (shown_by tree state change)
          → IsBigSeen bound circuit name
      shown (j, there) big =
          let (root, among, is) =
          change_found low high (free_in free place) circuit.outputs made.back j change made.outputs
          there in
          elim big as (λ _. IsBigSeen bound circuit name) [
            | inl b ↦
                inr (inr (inl (
                  root,
                  has_back (latch_inputs circuit) circuit.outputs root among,
                  IsBig-same bound (changed_by tree state change) (is_changed circuit name root) b
                      (changed_is state circuit name low high (free_in free place) halves root
                      change is),
                )))
            | inr b ↦
                inr (inr (inr (inl (
                  root,
                  among,
                  IsBig-same bound (shown_by tree state change) (is_shown circuit name root) b
                      (shown_is state circuit name low high free place halves all index root change
                      is),
                ))))
          ]

  pub right_stands : (state : S) (number : List ℕ → Option Func) (value : List ℕ → BooleanFunction)
      → AreRight holds tree limit state number value → NumbersStand holds state number
  right_stands state number value right name f at = (right name f at).stands

  -- where one of all changes occurs the signal is observable
  pub seen_means : (state later : S) (circuit : Circuit) (name : List ℕ) (low high free : List ℕ →
      Option Func)
      (place : List ℕ → Option ℕ) (list items : List Change) (seen : Func) → AreHalves state circuit
      name low high
      → AreAll holds tree limit state
      (λ n. has (leaf_names circuit) n || has (outputs_of circuit.dont_care) n) (free_function
      circuit) free
      → IsIndex circuit.dont_care place
      → AreAllChanges low high (free_in free place) (latch_inputs circuit) circuit.outputs list →
      items ≡ list
      → Means holds tree limit later seen.0 (seen_among (map (shown_by tree state) items))
      → Means holds tree limit later seen.0 (is_seen circuit name)
  seen_means state later circuit name low high free place list items seen halves all index made same
      means =
      subst (λ (fs : List BooleanFunction). Means holds tree limit later seen.0 (seen_among fs))
      (ap (map (shown_by tree state)) same
      ∙ all_shown state circuit name low high free place list halves all index made) means

  pub all_later : (before after : S) (test : List ℕ → Bool) (value : List ℕ → BooleanFunction)
      (number : List ℕ → Option Func) → Stays holds tree limit before after
      → AreAll holds tree limit before test value number → AreAll holds tree limit after test value
      number
  all_later before after test value number stays all = record {
    known = all.known;
    right = λ name f at.
        Means-kept holds tree limit before after f.0 (value name) stays (all.right name f at);
  }
