-- A constant fits everywhere and forms no cycle; a table that is found has its name among the tables; what nothing reads
-- may go; a pattern that is its first pin alone has pins below fifteen.
use Rattle.std.proofs.Common.{◌≡◌, ℕ, Bool, true, false, not, ◌&&◌, Option, Some, None, List, is_some, option_map, refl, ap, sym, ◌∙◌, arith}
use Rattle.circuit_model.specs.Names.{has, all_different}
use Rattle.circuit_model.specs.Values.{driver}
use Rattle.circuit_model.specs.Soundness.{outputs_of, table_inputs, latch_inputs, IsAcyclic}
use Rattle.circuit_model.specs.declared.circuit.Table.{Table}
use Rattle.circuit_model.specs.declared.circuit.Circuit.{Circuit}
use Rattle.circuit_laws.specs.Edits.{replaced, constant_table, is_other, is_read, is_root}
use Rattle.circuit_laws.specs.Fitting.{IsFitting}
use Rattle.circuit_laws.specs.Kept.{IsClosed}
use Rattle.circuit_laws.proofs.Drivers.{is_driven}
use Rattle.circuit_laws.proofs.Kept.{unread_closed}
use Rattle.circuit_laws.proofs.Paths.{replaced_acyclic}
use Rattle.subject_tree.specs.Trees.{Tree, Leaf}
use Rattle.subject_tree.specs.Arenas.{tree_at}
use Rattle.subject_tree.specs.declared.arena.Vertex.{Vertex}
use Rattle.tree_cover.specs.Bindings.{PinsBelow}

pub constant_fits : (circuit : Circuit) (name : List ℕ) → IsFitting circuit (constant_table name false)
unfolding all_different
constant_fits circuit name = record { live = tt; once = refl; shaped = (tt, λ _. refl) }

pub constant_acyclic : (tables : List Table) (name : List ℕ) → IsAcyclic tables → IsAcyclic (replaced tables (constant_table name false))
constant_acyclic tables name acyclic = replaced_acyclic tables (constant_table name false) acyclic (λ input steps reads. absurd (no reads))
  where
    no : false ≡ true → ⊥
    no e = cc

some_mapped : {A B : Type 0} (f : A → B) (found : Option A) → is_some found ≡ is_some (option_map f found)
some_mapped f None = refl
some_mapped f (Some x) = refl

pub found_named : {A : Type 0} (tables : List Table) (name : List ℕ) (f : A → Table) (found : Option A) → driver tables name ≡ option_map f found
    → is_some found ≡ has (outputs_of tables) name
found_named tables name f found at = some_mapped f found ∙ ap (λ (o : Option Table). is_some o) (sym at) ∙ is_driven tables name

and_false : (b : Bool) → (b && false) ≡ false
and_false true = refl
and_false false = refl

pub unread_may_go : (circuit : Circuit) (name : List ℕ) → has (table_inputs circuit.tables) name ≡ false → has (table_inputs circuit.dont_care) name ≡ false
    → has (latch_inputs circuit) name ≡ false → has circuit.outputs name ≡ false → IsClosed circuit (is_other name)
unfolding is_read is_root
unread_may_go circuit name table part latch output =
    unread_closed circuit name (rw (table, part) (and_false (not (has (outputs_of circuit.dont_care) name)))) (rw (output, latch) refl)

pub also_false : {A : Type 0} (test : A → Bool) (x y : A) (answer : Bool) → x ≡ y → answer ≡ test x → answer ≡ false → test y ≡ false
also_false test x y answer same is none = ap test (sym same) ∙ sym is ∙ none

pub pin_is_below : (vertices : List Vertex) (n : ℕ) → tree_at vertices n ≡ Leaf 0 → PinsBelow 15 (tree_at vertices n)
unfolding PinsBelow
pin_is_below vertices n at = rw at (omega arith)
