-- A table without fanout is emptied.
use Rattle.std.proofs.Common.{◌≡◌, ℕ, suc, Bool, true, false, not, ◌&&◌, ◌||◌, Option, Some, None, is_some, List, [], ◌∷◌, map, set, slice_get, bytes_eq, refl, sym, ap, ◌∙◌, subst}
use Rattle.std.proofs.lemmas.Bool.{false≢true}
use Rattle.circuit_model.specs.Names.{has, all_different}
use Rattle.circuit_model.specs.Values.{driver}
use Rattle.circuit_model.specs.Soundness.{outputs_of, table_inputs, IsSound}
use Rattle.circuit_model.specs.declared.circuit.Table.{Table}
use Rattle.circuit_model.specs.declared.circuit.Latch.{Latch}
use Rattle.circuit_model.specs.declared.circuit.Circuit.{Circuit}
use Rattle.circuit_laws.specs.Edits.{with_tables, with_replaced, constant_table, is_read, is_root}
use Rattle.circuit_laws.proofs.Names.{name_not, has_not, same_name}
use Rattle.circuit_laws.proofs.Drivers.{driver_replaced_other}
use Rattle.circuit_laws.proofs.Places.{set_replaced, placed_name}
use Rattle.circuit_tables.specs.Tidy.{is_tidy, used_places, rows_differ}
use Rattle.net_wires.specs.Idle.{with_emptied}
use Rattle.net_wires.specs.Needed.{dont_care_reads}
use Rattle.net_wires.specs.Points.{written_bit}
use Rattle.net_wires.specs.Rules.{unwritten_bit}
use Rattle.net_sweep.specs.declared.queues.Rule.{Rule}
use Rattle.net_sweep.specs.declared.queues.Rule.TheVariants.{TidyTable, WriteConstant, PropagateConstant, CollapseSingleInput}
use Rattle.net_sweep.specs.Settled.{passes, listed, AreWaiting, AreCandidates, AreSound, HasLed}
use Rattle.net_readers.specs.Fanouts.{is_in}
use Rattle.net_sweep.specs.Latches.{left_at, with_latches, is_fixed, AreInFanout, IsPlaced, IsBeside}
use Rattle.net_sweep.proofs.Changing.{set_reads, set_names, at_set, still_passes}
use Rattle.net_sweep.proofs.Latching.{sound_tables, fixed_same}
use Rattle.net_sweep.proofs.Chaining.{one_emptied}

-- a signal that is listed for nothing is read by nothing

left_input : (slots : List (Option Latch)) (name : List ℕ) → has (map (λ (latch : Latch). latch.input) (left_at slots)) name ≡ true → (place : ℕ) × (latch : Latch) × (slice_get slots place ≡ Some (Some latch)) × (bytes_eq name latch.input ≡ true)
unfolding left_at
left_input [] name h = absurd (false≢true h)
left_input (None ∷ slots) name h = let (place, latch, at, is) = left_input slots name h in (suc place, latch, at, is)
left_input (Some latch ∷ slots) name h = by (bytes_eq name latch.input) refl h (left_input slots name)
  where
    by : (b : Bool) → bytes_eq name latch.input ≡ b → (b || has (map (λ (l : Latch). l.input) (left_at slots)) name) ≡ true
        → (has (map (λ (l : Latch). l.input) (left_at slots)) name ≡ true → (place : ℕ) × (other : Latch) × (slice_get slots place ≡ Some (Some other)) × (bytes_eq name other.input ≡ true))
        → (place : ℕ) × (other : Latch) × (slice_get (Some latch ∷ slots) place ≡ Some (Some other)) × (bytes_eq name other.input ≡ true)
    by true e k more = (0, latch, refl, e)
    by false e k more = let (place, other, at, is) = more k in (suc place, other, at, is)

no_fanout : (slots : List (Option Latch)) (fanout : List ℕ → Option (List ℕ)) (name : List ℕ) → AreInFanout fanout slots → fanout name ≡ None → (place : ℕ) (latch : Latch) → slice_get slots place ≡ Some (Some latch) → name ≡ latch.input → ⊥
no_fanout slots fanout name all none place latch at same =
    false≢true (sym (ap (λ (o : Option (List ℕ)). is_in (listed o) place) (subst (λ (n : List ℕ). fanout n ≡ None) same none)) ∙ all place latch at)

pub untaken_root : (circuit : Circuit) (slots : List (Option Latch)) (fanout : List ℕ → Option (List ℕ)) (places : List ℕ → Option ℕ) (read : List (List ℕ)) (marked : ℕ → Bool) (name : List ℕ) → IsBeside slots fanout places read marked circuit
    → fanout name ≡ None → is_root (with_latches circuit (left_at slots)) name ≡ false
unfolding is_root
untaken_root circuit slots fanout places read marked name h none =
    by (has circuit.outputs name) refl
    (has_not (map (λ (latch : Latch). latch.input) (left_at slots)) name (λ k.
    let (place, latch, at, is) = left_input slots name k in no_fanout slots fanout name h.fanout none place latch at (same_name name latch.input is)))
  where
    by : (b : Bool) → has circuit.outputs name ≡ b → has (map (λ (latch : Latch). latch.input) (left_at slots)) name ≡ false → (has circuit.outputs name || has (map (λ (latch : Latch). latch.input) (left_at slots)) name) ≡ false
    by true e k = absurd (false≢true (sym (ap (λ (o : Option (List ℕ)). is_some o) none) ∙ h.asked name e))
    by false e k = ap (λ (b : Bool). b || has (map (λ (latch : Latch). latch.input) (left_at slots)) name) e ∙ k

pub untaken_read : (circuit : Circuit) (slots : List (Option Latch)) (fanout : List ℕ → Option (List ℕ)) (places : List ℕ → Option ℕ) (read : List (List ℕ)) (marked : ℕ → Bool) (name : List ℕ) → IsBeside slots fanout places read marked circuit
    → has (table_inputs circuit.tables) name ≡ false → has read name ≡ false → is_read (with_latches circuit (left_at slots)) name ≡ false
unfolding is_read dont_care_reads
untaken_read circuit slots fanout places read marked name h tables cares =
    ap (λ (b : Bool). b || (not (has (outputs_of circuit.dont_care) name) && has (table_inputs circuit.dont_care) name)) tables ∙ (sym (h.read name) ∙ cares)

-- the constant is set at the index
pub emptied_set : (circuit new : Circuit) (place : ℕ) (name : List ℕ) (made : Table) → made ≡ constant_table name false → new ≡ with_tables circuit (set circuit.tables place made)
    → new ≡ with_tables circuit (set circuit.tables place (constant_table name false))
emptied_set circuit new place name made is n = n ∙ ap (λ (table : Table). with_tables circuit (set circuit.tables place table)) is

-- the circuit as a whole
pub emptied_whole : (circuit new : Circuit) (slots : List (Option Latch)) (place : ℕ) (table : Table) → IsSound (with_latches circuit (left_at slots)) → slice_get circuit.tables place ≡ Some table
    → new ≡ with_tables circuit (set circuit.tables place (constant_table table.output false))
    → with_emptied (with_latches circuit (left_at slots)) table.output ≡ with_latches new (left_at slots)
unfolding with_replaced
emptied_whole circuit new slots place table sound at is =
    sym (ap (λ (c : Circuit). with_latches c (left_at slots)) is
    ∙ ap (λ (ts : List Table). with_tables (with_latches circuit (left_at slots)) ts)
    (set_replaced circuit.tables place table (constant_table table.output false) (sound_tables (with_latches circuit (left_at slots)) sound).differ at refl))

pub emptied_led : (circuit new : Circuit) (slots : List (Option Latch)) (fanout : List ℕ → Option (List ℕ)) (places : List ℕ → Option ℕ) (read : List (List ℕ)) (marked : ℕ → Bool) (place : ℕ) (table : Table)
    → IsSound (with_latches circuit (left_at slots)) → IsBeside slots fanout places read marked circuit → slice_get circuit.tables place ≡ Some table
    → has (table_inputs circuit.tables) table.output ≡ false → fanout table.output ≡ None → has read table.output ≡ false
    → new ≡ with_tables circuit (set circuit.tables place (constant_table table.output false)) → HasLed (with_latches circuit (left_at slots)) (with_latches new (left_at slots))
emptied_led circuit new slots fanout places read marked place table sound h at unread no_fanout_too uncared is =
    subst (HasLed (with_latches circuit (left_at slots))) (emptied_whole circuit new slots place table sound at is)
    (one_emptied (with_latches circuit (left_at slots)) table.output sound record {
      driven = placed_name (λ (t : Table). t.output) circuit.tables place table at;
      unread = untaken_read circuit slots fanout places read marked table.output h unread uncared;
      unasked = untaken_root circuit slots fanout places read marked table.output h no_fanout_too;
    })

-- no rule applies to the emptied table
empty_passes : (rule : Rule) (tables : List Table) (name : List ℕ) → has (table_inputs tables) name ≡ false → passes rule tables (constant_table name false) ≡ false
unfolding is_tidy used_places rows_differ all_different unwritten_bit written_bit
empty_passes TidyTable tables name unread = refl
empty_passes WriteConstant tables name unread = refl
empty_passes PropagateConstant tables name unread = unread
empty_passes CollapseSingleInput tables name unread = refl

pub emptied_marked : (circuit new : Circuit) (place : ℕ) (table : Table) → slice_get circuit.tables place ≡ Some table → has (table_inputs circuit.tables) table.output ≡ false
    → new ≡ with_tables circuit (set circuit.tables place (constant_table table.output false)) → (marks : Rule → ℕ → Bool) → AreCandidates marks circuit.tables → AreCandidates marks new.tables
emptied_marked circuit new place table at unread is marks all = subst (λ (c : Circuit). AreCandidates marks c.tables) (sym is) marked
  where
    made : List Table
    made = set circuit.tables place (constant_table table.output false)

    less : (name : List ℕ) → has (table_inputs (set circuit.tables place (constant_table table.output false))) name ≡ true → has (table_inputs circuit.tables) name ≡ true
    less = set_reads circuit.tables place table (constant_table table.output false) at (λ name h. absurd (false≢true h))

    marked : AreCandidates marks (set circuit.tables place (constant_table table.output false))
    marked rule i other here passed =
        at_set (λ (t : Table). passes rule (set circuit.tables place (constant_table table.output false)) t ≡ true → marks rule i ≡ true) circuit.tables place table (constant_table table.output false) i other at here
        (λ z k. absurd (false≢true (sym (empty_passes rule (set circuit.tables place (constant_table table.output false)) table.output
        (has_not (table_inputs (set circuit.tables place (constant_table table.output false))) table.output (λ h. false≢true (sym unread ∙ less table.output h)))) ∙ k)))
        (λ old k. all rule i other old (still_passes rule circuit.tables (set circuit.tables place (constant_table table.output false)) other less k)) passed

-- what is maintained beside the circuit is right for the new one
pub emptied_beside : (circuit new : Circuit) (slots : List (Option Latch)) (fanout : List ℕ → Option (List ℕ)) (places : List ℕ → Option ℕ) (read : List (List ℕ)) (marked : ℕ → Bool) (place : ℕ) (table : Table)
    → AreSound circuit.tables → IsBeside slots fanout places read marked circuit → slice_get circuit.tables place ≡ Some table → fanout table.output ≡ None
    → new ≡ with_tables circuit (set circuit.tables place (constant_table table.output false)) → IsBeside slots fanout places read marked new
unfolding dont_care_reads
emptied_beside circuit new slots fanout places read marked place table sound h at none is = subst (IsBeside slots fanout places read marked) (sym is) record {
  placed = subst (IsPlaced places) (sym (set_names circuit.tables place table (constant_table table.output false) at refl)) h.placed;
  read = h.read;
  fanout = h.fanout;
  asked = h.asked;
  waiting = waiting;
}
  where
    drives : (latch : Latch) → bytes_eq latch.input table.output ≡ false → driver (set circuit.tables place (constant_table table.output false)) latch.input ≡ driver circuit.tables latch.input
    drives latch apart =
        ap (λ (ts : List Table). driver ts latch.input) (set_replaced circuit.tables place table (constant_table table.output false) sound.differ at refl)
        ∙ driver_replaced_other circuit.tables (constant_table table.output false) latch.input apart

    waiting : AreWaiting (is_fixed (with_tables circuit (set circuit.tables place (constant_table table.output false)))) marked slots
    waiting i None here fixed = absurd (false≢true fixed)
    waiting i (Some latch) here fixed =
        h.waiting i (Some latch) here (sym (ap (λ (o : Option Bool). is_some o) (fixed_same circuit (with_tables circuit (set circuit.tables place (constant_table table.output false))) latch refl
        (drives latch (name_not latch.input table.output (λ same. no_fanout slots fanout table.output h.fanout none i latch here (sym same)))))) ∙ fixed)
