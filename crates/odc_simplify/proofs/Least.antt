-- The step of one table: what its functions mean, what their minimum is, and why there is none.
use Rattle.std.proofs.Common.{◌≡◌, ℕ, suc, Bool, true, false, Option, Some, None, List, [], ◌∷◌}
use Rattle.std.proofs.Common.{Result, Ok, Err, OnOk}
use Rattle.std.proofs.Common.{map, length, if◌then◌else◌, refl, sym, ap, ap₂, ◌∙◌, subst, inl, inr, ◌⊎◌}
use Rattle.std.proofs.Math.Path.{fun_ext}
use Rattle.std.proofs.lemmas.Option.{none-some, same_Some}
use Rattle.std.specs.List.{AllByRecursion}
use Rattle.std.specs.Option.{option_map_or}
use Rattle.circuit_model.specs.Soundness.{IsSound, IsShaped}
use Rattle.circuit_model.specs.Values.{driver}
use Rattle.circuit_model.specs.declared.circuit.Table.{Table}
use Rattle.circuit_model.specs.declared.circuit.Circuit.{Circuit}
use Rattle.circuit_laws.proofs.Drivers.{driver_all}
use Rattle.cover_min.specs.Minimum.{minimum_rows}
use Rattle.cover_min.specs.Refusals.{RefusesMinimum}
use Rattle.cube_cover.specs.Covers.{Shape}
use Rattle.func_core.specs.Trees.{BooleanFunction, Tree, complement, conjunction}
use Rattle.func_core.specs.Numbers.{Means, IsBig}
use Rattle.func_core.specs.declared.functions.Func.{Func}
use Rattle.net_func.specs.Signals.{own_function, is_seen, AreMeant, IsBigAt, IsBigSeen, Blames}
use Rattle.net_func.specs.declared.fault.NetFuncFault.{NetFuncFault}
use Rattle.net_func.specs.declared.fault.NetFuncFault.TheVariants.{TooBig as BigPart}
use Rattle.net_func.specs.declared.fault.NetFuncFault.TheVariants.{Memory as NoRoom}
use Rattle.sdc_simplify.specs.Minimized.{on_rows, meaning_of, is_list_long}
use Rattle.sdc_simplify.specs.Simplified.{is_refused, own_refusal}
use Rattle.sdc_simplify.specs.Simplify.{IsCause}
use Rattle.sdc_simplify.specs.declared.fault.SimplifyFault.{SimplifyFault}
use Rattle.sdc_simplify.specs.declared.fault.SimplifyFault.TheVariants.{CubeLimit}
use Rattle.sdc_simplify.specs.declared.fault.SimplifyFault.TheVariants.{Memory as NoMemory}
use Rattle.sdc_simplify.proofs.Minimal.{on_wide}
use Rattle.odc_simplify.specs.Full.{leaf_count, is_dont_care}
use Rattle.odc_simplify.specs.Held.{Held, function_of, held_meaning, held_refusals}
use Rattle.odc_simplify.specs.Seen.{IsOver}
use Rattle.odc_simplify.specs.Tested.{tested, IsTooBig}
use Rattle.odc_simplify.specs.Turns.{held_by, IsTurnFault, list_fault, turn_fault}
use Rattle.odc_simplify.specs.declared.fault.FullFault.{FullFault}
use Rattle.odc_simplify.specs.declared.fault.FullFault.TheVariants.{TooBig, Memory}
use Rattle.odc_simplify.proofs.Bridge.{least_same}
use Rattle.odc_simplify.proofs.Kept.{own_over, inputs_over, seen_over}

-- functions by their numbers
module _ {S : Type 0} (holds : S → ℕ → Type 0) (tree : S → ℕ → Tree) (limit : S → ℕ)
    (state : S) where
  function_is : (f : Func) (g : BooleanFunction) → Means holds tree limit state f.0 g
      → function_of (tree state) f ≡ g
  function_is f g means = fun_ext means.is_tree.computes

  functions_are : (value : List ℕ → BooleanFunction) (names : List (List ℕ)) (fs : List Func)
      → AreMeant holds tree limit state names value fs
      → map (function_of (tree state)) fs ≡ map value names
  functions_are value [] [] meant = refl
  functions_are value [] (f ∷ fs) meant = absurd meant
  functions_are value (name ∷ names) [] meant = absurd meant
  functions_are value (name ∷ names) (f ∷ fs) meant =
      ap₂ (λ (g : BooleanFunction) (gs : List BooleanFunction). g ∷ gs)
      (function_is f (value name) meant.0) (functions_are value names fs meant.1)

  pub meant_stand : (value : List ℕ → BooleanFunction) (names : List (List ℕ)) (fs : List Func)
      → AreMeant holds tree limit state names value fs
      → AllByRecursion (λ (f : Func). holds state f.0) fs
  meant_stand value [] [] meant = tt
  meant_stand value [] (f ∷ fs) meant = absurd meant
  meant_stand value (name ∷ names) [] meant = absurd meant
  meant_stand value (name ∷ names) (f ∷ fs) meant =
      (meant.0.stands, meant_stand value names fs meant.1)

  pub meant_long : (value : List ℕ → BooleanFunction) (names : List (List ℕ)) (fs : List Func)
      → AreMeant holds tree limit state names value fs → length names ≡ length fs
  meant_long value [] [] meant = refl
  meant_long value [] (f ∷ fs) meant = absurd meant
  meant_long value (name ∷ names) [] meant = absurd meant
  meant_long value (name ∷ names) (f ∷ fs) meant = ap suc (meant_long value names fs meant.1)

  module _ (circuit : Circuit) (leaves : ℕ) (counted : leaves ≡ leaf_count circuit) where
    pub own_looks : (name : List ℕ) (own : Func)
        → Means holds tree limit state own.0 (own_function circuit name)
        → IsOver leaves (function_of (tree state) own)
    own_looks name own means =
        subst (λ (n : ℕ). IsOver n (function_of (tree state) own)) (sym counted)
        (subst (IsOver (leaf_count circuit))
        (sym (function_is own (own_function circuit name) means)) (own_over circuit name))

    pub seen_looks : (name : List ℕ) (seen : Func)
        → Means holds tree limit state seen.0 (is_seen circuit name)
        → IsOver leaves (function_of (tree state) seen)
    seen_looks name seen means =
        subst (λ (n : ℕ). IsOver n (function_of (tree state) seen)) (sym counted)
        (subst (IsOver (leaf_count circuit))
        (sym (function_is seen (is_seen circuit name) means)) (seen_over circuit name))

    pub inputs_look : (names : List (List ℕ)) (fs : List Func)
        → AreMeant holds tree limit state names (own_function circuit) fs
        → AllByRecursion (IsOver leaves) (map (function_of (tree state)) fs)
    inputs_look names fs meant =
        subst (λ (n : ℕ). AllByRecursion (IsOver n) (map (function_of (tree state)) fs))
        (sym counted)
        (subst (λ (gs : List BooleanFunction). AllByRecursion (IsOver (leaf_count circuit)) gs)
        (sym (functions_are (own_function circuit) names fs meant)) (inputs_over circuit names))

    -- what is tested is what the step of the table requires
    module _ (table : Table) (own seen : Func) (inputs : List Func)
        (owns : Means holds tree limit state own.0 (own_function circuit table.output))
        (sees : Means holds tree limit state seen.0 (is_seen circuit table.output))
        (meant : AreMeant holds tree limit state table.inputs (own_function circuit) inputs) where
      held_is : held_by (tree state) leaves own seen inputs ≡ tested circuit table
      held_is =
          ap₂ (λ (n : ℕ) (f : BooleanFunction).
          holding n f (function_of (tree state) seen) (map (function_of (tree state)) inputs))
          counted (function_is own (own_function circuit table.output) owns)
          ∙ ap₂ (λ (f : BooleanFunction) (fs : List BooleanFunction).
          holding (leaf_count circuit) (own_function circuit table.output) f fs)
          (function_is seen (is_seen circuit table.output) sees)
          (functions_are (own_function circuit) table.inputs inputs meant)
        where
          holding : ℕ → BooleanFunction → BooleanFunction → List BooleanFunction → Held
          holding n f g fs = record {
            leaves = n;
            on = conjunction f g;
            off = conjunction (complement f) g;
            inputs = fs;
          }

      -- the minimum by these functions
      pub least_is : (cover least : Shape) → IsSound circuit
          → driver circuit.tables table.output ≡ Some table
          → cover ≡ record { width = length table.inputs; rows = on_rows table }
          → least ≡ record cover {
            rows = minimum_rows (held_meaning
                (held_by (tree state) leaves own seen inputs)) cover.rows;
          }
          → least ≡ record {
            width = length table.inputs;
            rows = minimum_rows (meaning_of table (is_dont_care circuit table)) (on_rows table);
          }
      least_is cover least sound at cover_is made_is =
          made_is
          ∙ ap (λ (shape : Shape). record shape {
            rows = minimum_rows (held_meaning
                (held_by (tree state) leaves own seen inputs)) shape.rows;
          }) cover_is
          ∙ ap (λ (held : Held). record {
            width = length table.inputs;
            rows = minimum_rows (held_meaning held) (on_rows table);
          }) held_is
          ∙ ap (λ (rows : List (List (Option Bool))). record {
            width = length table.inputs;
            rows = rows;
          })
          (least_same circuit table sound at (on_rows table) (on_wide table
          (driver_all IsShaped circuit.tables sound.shaped table.output table at).0))

      -- why there is none
      pub least_failed : (bound : ℕ) (rows : List (List (Option Bool))) → rows ≡ on_rows table
          → IsBig bound (held_by (tree state) leaves own seen inputs).on
          ⊎ (IsBig bound (held_by (tree state) leaves own seen inputs).off
          ⊎ RefusesMinimum (held_meaning (held_by (tree state) leaves own seen inputs))
          (held_refusals bound (held_by (tree state) leaves own seen inputs)) rows)
          → IsTooBig bound circuit table
      least_failed bound rows same big =
          inr (inr (subst (λ (held : Held). IsBig bound held.on ⊎ (IsBig bound held.off
          ⊎ RefusesMinimum (held_meaning held) (held_refusals bound held) (on_rows table)))
          held_is
          (subst (λ (rows : List (List (Option Bool))).
          IsBig bound (held_by (tree state) leaves own seen inputs).on
          ⊎ (IsBig bound (held_by (tree state) leaves own seen inputs).off
          ⊎ RefusesMinimum (held_meaning (held_by (tree state) leaves own seen inputs))
          (held_refusals bound (held_by (tree state) leaves own seen inputs)) rows)) same big)))

-- what holds in any case holds after a call that succeeds
pub always : {T E : Type 0} (P : Type 0) (result : Result T E) → P → OnOk result P
always P (Ok made) h = h
always P (Err fault) h = tt

pub refused_is : (circuit : Circuit) (name : List ℕ) (table : Table)
    → driver circuit.tables name ≡ Some table → is_refused circuit name ≡ is_list_long table
refused_is circuit name table at =
    ap (λ (found : Option Table). option_map_or is_list_long found false) at

-- faults of the step of a table
module _ (limit : ℕ) (circuit : Circuit) (name : List ℕ) (table : Table)
    (at : driver circuit.tables name ≡ Some table) where
  pub list_failed : (fault : SimplifyFault) → table.output ≡ name
      → IsCause (own_refusal table) fault → IsTurnFault limit circuit name (list_fault fault)
  list_failed NoMemory is cause = tt
  list_failed (CubeLimit blamed) is cause = cases (is_list_long table) refl cause
    where
      cases : (long : Bool) → is_list_long table ≡ long
          → (if long then Some table.output else None) ≡ Some blamed
          → (blamed ≡ name) × (is_refused circuit name ≡ true)
      cases true long h = (
        sym (same_Some table.output blamed h) ∙ is,
        refused_is circuit name table at ∙ long,
      )
      cases false long h = absurd (none-some blamed h)

  pub turn_failed : (fault : NetFuncFault) → is_refused circuit name ≡ false
      → table.output ≡ name
      → Blames fault (λ blamed. (blamed ≡ name)
      × (((part : List ℕ) × IsBigAt limit circuit.tables (own_function circuit) part)
      ⊎ IsBigSeen limit circuit name))
      → IsTurnFault limit circuit name (turn_fault fault)
  turn_failed NoRoom short is blames = tt
  turn_failed (BigPart blamed) short is blames =
      (blames.0, short, table, at, early blames.1)
    where
      early : ((part : List ℕ) × IsBigAt limit circuit.tables (own_function circuit) part)
          ⊎ IsBigSeen limit circuit name → IsTooBig limit circuit table
      early (inl part) = inl part
      early (inr big) =
          inr (inl (subst (λ (n : List ℕ). IsBigSeen limit circuit n) (sym is) big))

  pub test_failed : (fault : FullFault) → is_refused circuit name ≡ false
      → IsTooBig limit circuit table → (fault ≡ TooBig name) ⊎ (fault ≡ Memory)
      → IsTurnFault limit circuit name fault
  test_failed fault short big (inl is) =
      subst (IsTurnFault limit circuit name) (sym is) (refl, short, table, at, big)
  test_failed fault short big (inr is) =
      subst (IsTurnFault limit circuit name) (sym is) tt
