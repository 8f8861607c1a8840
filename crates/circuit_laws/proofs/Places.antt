-- Edits of a list of tables by index: a table replaced by one of its signal, or removed.
use Rattle.std.proofs.Common.{◌≡◌, ℕ, zero, suc, Bool, true, false, not, cond, Some, List, [], ◌∷◌, map, filter, slice_get, set, remove, bytes_eq, refl, sym, ap, ◌∙◌, subst}
use Rattle.std.proofs.lemmas.Bool.{false≢true, or_parts}
use Rattle.std.proofs.lemmas.Option.{none-some, same_Some}
use Rattle.circuit_model.specs.Names.{has, all_different}
use Rattle.circuit_model.specs.Values.{driver}
use Rattle.circuit_model.specs.Soundness.{outputs_of}
use Rattle.circuit_model.specs.declared.circuit.Table.{Table}
use Rattle.circuit_model.specs.declared.circuit.Latch.{Latch}
use Rattle.circuit_laws.specs.Edits.{replaced, tables_kept, latches_kept, is_other}
use Rattle.circuit_laws.proofs.Names.{name_is, name_not, different_head, different_tail, has_head, has_tail}

-- an item at an index has a name among the names
pub placed_name : {X : Type 0} (name_of : X → List ℕ) (xs : List X) (i : ℕ) (x : X) → slice_get xs i ≡ Some x → has (map name_of xs) (name_of x) ≡ true
placed_name name_of [] i x at = absurd (none-some x at)
placed_name name_of (first ∷ xs) zero x at = subst (λ y. has (name_of first ∷ map name_of xs) (name_of y) ≡ true) (same_Some first x at) (has_head (name_of first) (map name_of xs))
placed_name name_of (first ∷ xs) (suc i) x at = has_tail (name_of first) (map name_of xs) (name_of x) (placed_name name_of xs i x at)

-- the first item has another name than each item after it
behind : {X : Type 0} (name_of : X → List ℕ) (first : X) (xs : List X) (i : ℕ) (x : X) → all_different (map name_of (first ∷ xs)) ≡ true → slice_get xs i ≡ Some x
    → bytes_eq (name_of x) (name_of first) ≡ false
behind name_of first xs i x different at =
    name_not (name_of x) (name_of first) (λ e.
    false≢true (sym (different_head (name_of first) (map name_of xs) different) ∙ subst (λ (n : List ℕ). has (map name_of xs) n ≡ true) e (placed_name name_of xs i x at)))

-- the one table of its signal is the table that drives it
pub placed_driver : (tables : List Table) (i : ℕ) (table : Table) → all_different (outputs_of tables) ≡ true → slice_get tables i ≡ Some table → driver tables table.output ≡ Some table
unfolding driver
placed_driver [] i table different at = absurd (none-some table at)
placed_driver (first ∷ tables) zero table different at =
    ap (λ (b : Bool). cond b (Some first) (driver tables table.output)) (name_is table.output first.output (ap (λ (t : Table). t.output) (sym (same_Some first table at)))) ∙ at
placed_driver (first ∷ tables) (suc i) table different at =
    ap (λ (b : Bool). cond b (Some first) (driver tables table.output)) (behind (λ (t : Table). t.output) first tables i table different at)
    ∙ placed_driver tables i table (different_tail first.output (outputs_of tables) different) at

-- the only table of a signal is the table that drives it
pub set_replaced : (tables : List Table) (i : ℕ) (old new : Table) → all_different (outputs_of tables) ≡ true → slice_get tables i ≡ Some old → old.output ≡ new.output → set tables i new ≡ replaced tables new
unfolding replaced
set_replaced [] i old new different at same = absurd (none-some old at)
set_replaced (first ∷ tables) zero old new different at same =
    sym (ap (λ (b : Bool). cond b (new ∷ tables) (first ∷ replaced tables new)) (name_is new.output first.output (sym same ∙ ap (λ (t : Table). t.output) (sym (same_Some first old at)))))
set_replaced (first ∷ tables) (suc i) old new different at same =
    ap (λ (rest : List Table). first ∷ rest) (set_replaced tables i old new (different_tail first.output (outputs_of tables) different) at same)
    ∙ sym (ap (λ (b : Bool). cond b (new ∷ tables) (first ∷ replaced tables new))
    (subst (λ (n : List ℕ). bytes_eq n first.output ≡ false) same (behind (λ (t : Table). t.output) first tables i old different at)))

-- what has the name is removed
filter_others : {X : Type 0} (name_of : X → List ℕ) (name : List ℕ) (xs : List X) → has (map name_of xs) name ≡ false → filter (λ x. is_other name (name_of x)) xs ≡ xs
filter_others name_of name [] none = refl
filter_others name_of name (first ∷ xs) none =
    let parts = or_parts (bytes_eq name (name_of first)) (has (map name_of xs) name) none in
    rw (parts.0, filter_others name_of name xs parts.1) refl

pub remove_others : {X : Type 0} (name_of : X → List ℕ) (name : List ℕ) (xs : List X) (i : ℕ) (x : X) → all_different (map name_of xs) ≡ true → slice_get xs i ≡ Some x → name_of x ≡ name
    → remove xs i ≡ filter (λ y. is_other name (name_of y)) xs
remove_others name_of name [] i x different at same = absurd (none-some x at)
remove_others name_of name (first ∷ xs) zero x different at same =
    let own : name ≡ name_of first = sym same ∙ ap name_of (sym (same_Some first x at)) in
    sym (filter_others name_of name xs (subst (λ (n : List ℕ). has (map name_of xs) n ≡ false) (sym own) (different_head (name_of first) (map name_of xs) different)))
    ∙ sym (ap (λ (b : Bool). cond (not b) (first ∷ filter (λ y. is_other name (name_of y)) xs) (filter (λ y. is_other name (name_of y)) xs)) (name_is name (name_of first) own))
remove_others name_of name (first ∷ xs) (suc i) x different at same =
    ap (λ (rest : List _). first ∷ rest) (remove_others name_of name xs i x (different_tail (name_of first) (map name_of xs) different) at same)
    ∙ sym (ap (λ (b : Bool). cond (not b) (first ∷ filter (λ y. is_other name (name_of y)) xs) (filter (λ y. is_other name (name_of y)) xs))
    (subst (λ (n : List ℕ). bytes_eq n (name_of first) ≡ false) same (behind name_of first xs i x different at)))

pub remove_table : (tables : List Table) (i : ℕ) (old : Table) (name : List ℕ) → all_different (outputs_of tables) ≡ true → slice_get tables i ≡ Some old → old.output ≡ name
    → remove tables i ≡ tables_kept (is_other name) tables
unfolding tables_kept
remove_table tables i old name different at same = remove_others (λ (t : Table). t.output) name tables i old different at same

pub remove_latch : (latches : List Latch) (i : ℕ) (old : Latch) (name : List ℕ) → all_different (map (λ (l : Latch). l.output) latches) ≡ true → slice_get latches i ≡ Some old → old.output ≡ name
    → remove latches i ≡ latches_kept (is_other name) latches
unfolding latches_kept
remove_latch latches i old name different at same = remove_others (λ (l : Latch). l.output) name latches i old different at same

-- if no table has the name, none is removed; and no latch
pub tables_stay : (tables : List Table) (name : List ℕ) → has (outputs_of tables) name ≡ false → tables_kept (is_other name) tables ≡ tables
unfolding tables_kept
tables_stay tables name none = filter_others (λ (t : Table). t.output) name tables none

pub latches_stay : (latches : List Latch) (name : List ℕ) → has (map (λ (l : Latch). l.output) latches) name ≡ false → latches_kept (is_other name) latches ≡ latches
unfolding latches_kept
latches_stay latches name none = filter_others (λ (l : Latch). l.output) name latches none
