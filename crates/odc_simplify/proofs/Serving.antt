-- Functions that are kept can be used from step to step.
use Rattle.std.proofs.Common.{◌≡◌, ℕ, true, Some, List, ap, sym, ◌∙◌}
use Rattle.circuit_model.specs.Names.{has}
use Rattle.circuit_model.specs.Soundness.{outputs_of}
use Rattle.circuit_model.specs.Values.{driver}
use Rattle.circuit_model.specs.declared.circuit.Table.{Table}
use Rattle.circuit_model.specs.declared.circuit.Circuit.{Circuit}
use Rattle.circuit_laws.specs.Edits.{with_replaced}
use Rattle.circuit_laws.proofs.Drivers.{driver_output}
use Rattle.func_core.specs.Trees.{Tree}
use Rattle.func_core.specs.Numbers.{Stays}
use Rattle.net_func.specs.Held.{circuit_of, IsReady, KeepsNone, KeepsSome}
use Rattle.net_func.specs.declared.kept.KeptFunctions.{KeptFunctions}
use Rattle.net_func.proofs.Replacing.{none_kept, later_kept, less_kept}
use Rattle.odc_simplify.specs.Turns.{Serves}

module _ {S : Type 0} (holds : S → ℕ → Type 0) (tree : S → ℕ → Tree) (limit : S → ℕ) where
  -- at first, when nothing is kept
  pub serves_first : (state : S) (circuit : Circuit) (kept : KeptFunctions) → IsReady kept
      → circuit_of kept ≡ circuit → KeepsNone kept → Serves holds tree limit state circuit kept
  serves_first state circuit kept ready same none = record {
    ready = ready;
    same = same;
    right = none_kept holds tree limit state kept none;
  }

  -- while numbers are added
  pub serves_later : (first second : S) (circuit : Circuit) (kept : KeptFunctions)
      → Stays holds tree limit first second → Serves holds tree limit first circuit kept
      → Serves holds tree limit second circuit kept
  serves_later first second circuit kept stays serves = record {
    ready = serves.ready;
    same = serves.same;
    right = later_kept holds tree limit first second kept stays serves.right;
  }

  -- if a table is replaced by another one
  pub serves_next : (state : S) (circuit later : Circuit) (before after : KeptFunctions)
      (new : Table) → Serves holds tree limit state circuit before → IsReady after
      → circuit_of after ≡ with_replaced (circuit_of before) new → KeepsSome before after
      → later ≡ with_replaced circuit new → Serves holds tree limit state later after
  serves_next state circuit later before after new serves ready is less put = record {
    ready = ready;
    same = is ∙ ap (λ (c : Circuit). with_replaced c new) serves.same ∙ sym put;
    right = less_kept holds tree limit state before after less serves.right;
  }

  -- what is driven in the one circuit is driven in the other
  pub serves_driven : (state : S) (circuit : Circuit) (kept : KeptFunctions) (name : List ℕ)
      (table : Table) → Serves holds tree limit state circuit kept
      → driver circuit.tables name ≡ Some table
      → has (outputs_of (circuit_of kept).tables) name ≡ true
  serves_driven state circuit kept name table serves at =
      ap (λ (c : Circuit). has (outputs_of c.tables) name) serves.same
      ∙ driver_output circuit.tables name table at
