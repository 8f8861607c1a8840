-- What rules change: the tables at some indices; nothing is read after that no table read before.
use Rattle.std.proofs.Common.{◌≡◌, ℕ, zero, suc, ◌+◌, ◌<◌, ◌≤◌, ◌==◌, Bool, true, false, not, ◌||◌, if◌then◌else◌, Option, Some, None, is_some, List, [], ◌∷◌, take, length, map, set, get_or, find, slice_get, bytes_eq, inl, inr, ◌⊎◌, refl, sym, ap, ◌∙◌, subst, arith}
use Rattle.std.specs.Prelude.{Result, OnOk}
use Rattle.std.specs.declared.result.Result.TheVariants.{Ok, Err}
use Rattle.std.specs.List.{AllByRecursion}
use Rattle.std.specs.Option.{option_map, option_map_or, option_or}
use Rattle.std.proofs.lemmas.List.{take_all}
use Rattle.std.proofs.lemmas.Bool.{false≢true, and_parts, eqb-true, eqb-false}
use Rattle.std.proofs.lemmas.Option.{same_Some, slice_get-map}
use Rattle.std.proofs.lemmas.List.Folds.{list_any_more}
use Rattle.circuit_model.specs.Names.{has, all_different}
use Rattle.circuit_model.specs.Soundness.{outputs_of, table_inputs, IsShaped}
use Rattle.circuit_model.specs.declared.circuit.Table.{Table}
use Rattle.circuit_model.specs.declared.circuit.Circuit.{Circuit}
use Rattle.circuit_laws.specs.Edits.{with_tables, with_replaced, replaced, constant_table}
use Rattle.circuit_laws.proofs.Names.{has_head, name_not}
use Rattle.circuit_laws.proofs.Places.{set_replaced, placed_driver}
use Rattle.circuit_laws.proofs.Paths.{no_return}
use Rattle.circuit_laws.proofs.Ranks.{leads_one}
use Rattle.net_core.proofs.Lookups.{get_set_same, get_set_other}
use Rattle.circuit_tables.specs.Tidy.{used_places, rows_differ, is_tidy, tidied}
use Rattle.net_wires.specs.Points.{written_bit}
use Rattle.net_wires.specs.Rules.{tidy_table, write_constant, propagate_constant, collapse_single_input, unwritten_bit, only_input, is_inverter, at_bit, rewired}
use Rattle.net_wires.proofs.Points.{only_is}
use Rattle.circuit_tables.proofs.Tidied.{tidied_reads, tidied_output, tidied_tidy}
use Rattle.net_wires.proofs.Turned.{with_rows_at, at_either, at_output, at_reads, at_shaped, rows_at_wide, rewires, rewired_either, rewired_output, rewired_reads, rewires_wide, rewired_shaped}
use Rattle.net_wires.proofs.Sizes.{at_without, rewired_without}
use Rattle.net_sweep.specs.declared.queues.Rule.{Rule}
use Rattle.net_sweep.specs.declared.queues.Rule.TheVariants.{TidyTable, WriteConstant, PropagateConstant, CollapseSingleInput}
use Rattle.net_sweep.specs.declared.applying.Change.{Change}
use Rattle.net_sweep.specs.declared.applying.Change.TheVariants.{Bit, Input}
use Rattle.circuit_tables.specs.Tidy.{IsWide}
use Rattle.net_sweep.specs.Settled.{IsFirst}
use Rattle.net_sweep.specs.Settled.{passes, rule_applied, table_step, IsNext, changed_by, is_apart, may_apply_to_written, AreWaiting, AreCandidates, IsAlike, IsAlikeThere, AreAlikeBut, AreSound}
use Rattle.net_readers.specs.Fanouts.{is_in}
use Rattle.net_wires.specs.Aliases.{inputs_at}
use Rattle.net_wires.proofs.Reading.{inputs_here}
use Rattle.net_sweep.proofs.Marking.{read_by, reads_at}

-- the next step of the rules that change tables

abbrev named_step : Rule → Circuit → Option Circuit
named_step TidyTable circuit = tidy_table circuit
named_step WriteConstant circuit = write_constant circuit
named_step PropagateConstant circuit = propagate_constant circuit
named_step CollapseSingleInput circuit = collapse_single_input circuit

named_is : (rule : Rule) (circuit : Circuit) → named_step rule circuit ≡ option_map (rule_applied rule circuit) (find (passes rule circuit.tables) circuit.tables)
unfolding tidy_table write_constant propagate_constant collapse_single_input
named_is TidyTable circuit = refl
named_is WriteConstant circuit = refl
named_is PropagateConstant circuit = refl
named_is CollapseSingleInput circuit = refl

absent : (rule : Rule) (circuit : Circuit) → find (passes rule circuit.tables) circuit.tables ≡ None → named_step rule circuit ≡ None
absent rule circuit h = named_is rule circuit ∙ ap (option_map (rule_applied rule circuit)) h

present : (rule : Rule) (circuit : Circuit) (place : ℕ) → IsFirst (passes rule circuit.tables) circuit.tables (Some place)
    → (table : Table) × (slice_get circuit.tables place ≡ Some table) × (named_step rule circuit ≡ Some (rule_applied rule circuit table))
present rule circuit place first =
    let (lt, table, at, found) = first in (table, at, named_is rule circuit ∙ ap (option_map (rule_applied rule circuit)) found)

pub next_tidy : (circuit : Circuit) (place : ℕ) → IsFirst (passes TidyTable circuit.tables) circuit.tables (Some place) → IsNext circuit (Some (TidyTable, place))
unfolding table_step
next_tidy circuit place first =
    let (table, at, step) = present TidyTable circuit place first in (
      table,
      at,
      ap (λ (o : Option Circuit). option_or o (option_or (write_constant circuit) (option_or (propagate_constant circuit) (collapse_single_input circuit)))) step,
      λ is. let z : TidyTable ≡ CollapseSingleInput = is in absurd cc,
    )

pub next_constant : (circuit : Circuit) (place : ℕ) → find (passes TidyTable circuit.tables) circuit.tables ≡ None → IsFirst (passes WriteConstant circuit.tables) circuit.tables (Some place) → IsNext circuit (Some (WriteConstant, place))
unfolding table_step
next_constant circuit place a first =
    let (table, at, step) = present WriteConstant circuit place first in (
      table,
      at,
      ap (λ (o : Option Circuit). option_or o (option_or (write_constant circuit) (option_or (propagate_constant circuit) (collapse_single_input circuit)))) (absent TidyTable circuit a)
          ∙ ap (λ (o : Option Circuit). option_or o (option_or (propagate_constant circuit) (collapse_single_input circuit))) step,
      λ is. let z : WriteConstant ≡ CollapseSingleInput = is in absurd cc,
    )

pub next_propagate : (circuit : Circuit) (place : ℕ) → find (passes TidyTable circuit.tables) circuit.tables ≡ None → find (passes WriteConstant circuit.tables) circuit.tables ≡ None
    → IsFirst (passes PropagateConstant circuit.tables) circuit.tables (Some place) → IsNext circuit (Some (PropagateConstant, place))
unfolding table_step
next_propagate circuit place a b first =
    let (table, at, step) = present PropagateConstant circuit place first in (
      table,
      at,
      ap (λ (o : Option Circuit). option_or o (option_or (write_constant circuit) (option_or (propagate_constant circuit) (collapse_single_input circuit)))) (absent TidyTable circuit a)
          ∙ (ap (λ (o : Option Circuit). option_or o (option_or (propagate_constant circuit) (collapse_single_input circuit))) (absent WriteConstant circuit b)
          ∙ ap (λ (o : Option Circuit). option_or o (collapse_single_input circuit)) step),
      λ is. let z : PropagateConstant ≡ CollapseSingleInput = is in absurd cc,
    )

pub next_collapse : (circuit : Circuit) (place : ℕ) → find (passes TidyTable circuit.tables) circuit.tables ≡ None → find (passes WriteConstant circuit.tables) circuit.tables ≡ None
    → find (passes PropagateConstant circuit.tables) circuit.tables ≡ None → IsFirst (passes CollapseSingleInput circuit.tables) circuit.tables (Some place) → IsNext circuit (Some (CollapseSingleInput, place))
unfolding table_step
next_collapse circuit place a b c first =
    let (table, at, step) = present CollapseSingleInput circuit place first in (
      table,
      at,
      ap (λ (o : Option Circuit). option_or o (option_or (write_constant circuit) (option_or (propagate_constant circuit) (collapse_single_input circuit)))) (absent TidyTable circuit a)
          ∙ (ap (λ (o : Option Circuit). option_or o (option_or (propagate_constant circuit) (collapse_single_input circuit))) (absent WriteConstant circuit b)
          ∙ (ap (λ (o : Option Circuit). option_or o (collapse_single_input circuit)) (absent PropagateConstant circuit c) ∙ step)),
      λ is. a,
    )

pub next_none : (circuit : Circuit) → find (passes TidyTable circuit.tables) circuit.tables ≡ None → find (passes WriteConstant circuit.tables) circuit.tables ≡ None
    → find (passes PropagateConstant circuit.tables) circuit.tables ≡ None → find (passes CollapseSingleInput circuit.tables) circuit.tables ≡ None → IsNext circuit None
unfolding table_step
next_none circuit a b c d =
    ap (λ (o : Option Circuit). option_or o (option_or (write_constant circuit) (option_or (propagate_constant circuit) (collapse_single_input circuit)))) (absent TidyTable circuit a)
    ∙ (ap (λ (o : Option Circuit). option_or o (option_or (propagate_constant circuit) (collapse_single_input circuit))) (absent WriteConstant circuit b)
    ∙ (ap (λ (o : Option Circuit). option_or o (collapse_single_input circuit)) (absent PropagateConstant circuit c) ∙ absent CollapseSingleInput circuit d))

pub marked_for_each : (marked : Rule → ℕ → Bool) (tables : List Table) → AreWaiting (passes TidyTable tables) (marked TidyTable) tables → AreWaiting (passes WriteConstant tables) (marked WriteConstant) tables
    → AreWaiting (passes PropagateConstant tables) (marked PropagateConstant) tables → AreWaiting (passes CollapseSingleInput tables) (marked CollapseSingleInput) tables → AreCandidates marked tables
marked_for_each marked tables a b c d TidyTable = a
marked_for_each marked tables a b c d WriteConstant = b
marked_for_each marked tables a b c d PropagateConstant = c
marked_for_each marked tables a b c d CollapseSingleInput = d

-- tables of which the rules find the same

-- tables are the same except at some indices
abbrev AreSameBut : List ℕ → List Table → List Table → Type 0
AreSameBut places old new = (place : ℕ) → is_in places place ≡ false → slice_get new place ≡ slice_get old place

alike_itself : (o : Option Table) → IsAlikeThere o o
alike_itself None = tt
alike_itself (Some table) = record { output = refl; tidy = refl; unwritten = refl; written = refl; single = refl }

same_alike : (places : List ℕ) (old new : List Table) → AreSameBut places old new → AreAlikeBut places old new
same_alike places old new same place none = subst (IsAlikeThere (slice_get old place)) (sym (same place none)) (alike_itself (slice_get old place))

-- if there is a table now, there was one before that is alike for the rules
pub alike_before : (places : List ℕ) (old new : List Table) (place : ℕ) (table : Table) → AreAlikeBut places old new → is_in places place ≡ false → slice_get new place ≡ Some table
    → (before : Table) × (slice_get old place ≡ Some before) × IsAlike before table
alike_before places old new place table alike none at = by (slice_get old place) refl (subst (IsAlikeThere (slice_get old place)) at (alike place none))
  where
    by : (o : Option Table) → slice_get old place ≡ o → IsAlikeThere o (Some table) → (before : Table) × (slice_get old place ≡ Some before) × IsAlike before table
    by None e never = absurd never
    by (Some before) e like = (before, e, like)

-- a table is replaced by one that reads no more

pub there : {X : Type 0} (items : List X) (place : ℕ) → place < length items → (item : X) × (slice_get items place ≡ Some item)
there [] place lt = absurd (omega (arith, lt))
there (x ∷ items) zero lt = (x, refl)
there (x ∷ items) (suc place) lt = there items place (omega (arith, lt))

same_but_one : (tables : List Table) (place : ℕ) (made : Table) → AreSameBut (place ∷ []) tables (set tables place made)
same_but_one tables place made i none = cases (place == i) refl none
  where
    cases : (b : Bool) → (place == i) ≡ b → (b || false) ≡ false → slice_get (set tables place made) i ≡ slice_get tables i
    cases true e h = absurd (false≢true (sym h))
    cases false e h = get_set_other tables place i made (λ same. eqb-false place i e (sym same))

-- the table at an index of the new list: the new one, or the old one there
pub at_set : (P : Table → Type 0) (tables : List Table) (place : ℕ) (old made : Table) (i : ℕ) (table : Table) → slice_get tables place ≡ Some old → slice_get (set tables place made) i ≡ Some table
    → (i ≡ place → P made) → (slice_get tables i ≡ Some table → P table) → P table
at_set P tables place old made i table at here new same = cases (place == i) refl
  where
    cases : (b : Bool) → (place == i) ≡ b → P table
    cases true e =
        let z : i ≡ place = sym (eqb-true place i e) in
        subst P (same_Some made table (sym (get_set_same tables place old made at) ∙ subst (λ (n : ℕ). slice_get (set tables place made) n ≡ Some table) z here)) (new z)
    cases false e = same (sym (get_set_other tables place i made (λ z. eqb-false place i e (sym z))) ∙ here)

pub set_reads : (tables : List Table) (place : ℕ) (old made : Table) → slice_get tables place ≡ Some old → ((name : List ℕ) → has made.inputs name ≡ true → has old.inputs name ≡ true)
    → (name : List ℕ) → has (table_inputs (set tables place made)) name ≡ true → has (table_inputs tables) name ≡ true
set_reads tables place old made at less name h =
    let (i, table, here, reads) = read_by (set tables place made) name h in
    at_set (λ (t : Table). has t.inputs name ≡ true → has (table_inputs tables) name ≡ true) tables place old made i table at here
    (λ z k. reads_at tables place old name at (less name k)) (λ there k. reads_at tables i table name there k) reads

-- a table in which a signal is replaced by a bit or by another signal

apart_names : (name to : List ℕ) → not (bytes_eq name to) ≡ true → bytes_eq name to ≡ false
apart_names name to h = by (bytes_eq name to) h
  where
    by : (b : Bool) → not b ≡ true → b ≡ false
    by true k = absurd (false≢true k)
    by false k = refl

unread_same : (name : List ℕ) (change : Change) (table : Table) → has table.inputs name ≡ false → changed_by name change table ≡ table
unread_same name (Bit bit) table none = at_either (λ (made : Table). made ≡ table) name bit table (λ reads. absurd (false≢true (sym none ∙ reads))) (λ h. refl)
unread_same name (Input to inverts) table none = rewired_either (λ (made : Table). made ≡ table) name to inverts table (λ reads. absurd (false≢true (sym none ∙ reads))) (λ h. refl)

changed_without : (name : List ℕ) (change : Change) (table : Table) → is_apart name change ≡ true → all_different table.inputs ≡ true → has (changed_by name change table).inputs name ≡ false
changed_without name (Bit bit) table apart once = at_without name bit table once
changed_without name (Input to inverts) table apart once = rewired_without name to inverts table (apart_names name to apart)

changed_shaped : (name : List ℕ) (change : Change) (table : Table) → IsShaped table → IsShaped (changed_by name change table)
changed_shaped name (Bit bit) table shaped = at_shaped name bit table shaped
changed_shaped name (Input to inverts) table shaped = rewired_shaped name to inverts table shaped

changed_again : (name : List ℕ) (change : Change) (table : Table) → is_apart name change ≡ true → all_different table.inputs ≡ true → changed_by name change (changed_by name change table) ≡ changed_by name change table
changed_again name change table apart once = unread_same name change (changed_by name change table) (changed_without name change table apart once)

-- the signal that replaces another one
abbrev pub IsComing : Change → List ℕ → Type 0
IsComing (Bit bit) name = ⊥
IsComing (Input to inverts) name = name ≡ to

changed_reads : (name : List ℕ) (change : Change) (table : Table) (x : List ℕ) → has (changed_by name change table).inputs x ≡ true → (has table.inputs x ≡ true) ⊎ (IsComing change x × (has table.inputs name ≡ true))
changed_reads name (Bit bit) table x h = inl (at_reads name bit table x h)
changed_reads name (Input to inverts) table x h = rewired_reads name to inverts table x h

-- items by index

pub unmapped : {X Y : Type 0} (f : X → Y) (items : List X) (place : ℕ) (y : Y) → slice_get (map f items) place ≡ Some y → (x : X) × (slice_get items place ≡ Some x) × (f x ≡ y)
unmapped f [] place y at = let z : None ≡ Some y = at in absurd cc
unmapped f (x ∷ items) zero y at = (x, refl, same_Some (f x) y at)
unmapped f (x ∷ items) (suc place) y at = unmapped f items place y at

pub all_at : {X : Type 0} (P : X → Type 0) (items : List X) (place : ℕ) (x : X) → AllByRecursion P items → slice_get items place ≡ Some x → P x
all_at P [] place x all at = let z : None ≡ Some x = at in absurd cc
all_at P (first ∷ items) zero x all at = subst P (same_Some first x at) all.0
all_at P (first ∷ items) (suc place) x all at = all_at P items place x all.1 at

all_from_places : {X : Type 0} (P : X → Type 0) (items : List X) → ((place : ℕ) (x : X) → slice_get items place ≡ Some x → P x) → AllByRecursion P items
all_from_places P [] h = tt
all_from_places P (first ∷ items) h = (h 0 first refl, all_from_places P items (λ place x at. h (suc place) x at))

pub same_by_places : {X : Type 0} (xs ys : List X) → ((place : ℕ) → slice_get xs place ≡ slice_get ys place) → xs ≡ ys
same_by_places [] [] h = refl
same_by_places [] (y ∷ ys) h = let z : None ≡ Some y = h 0 in absurd cc
same_by_places (x ∷ xs) [] h = let z : Some x ≡ None = h 0 in absurd cc
same_by_places {X} (x ∷ xs) (y ∷ ys) h =
    let first : x ≡ y = same_Some x y (h 0) in
    let rest : xs ≡ ys = same_by_places xs ys (λ place. h (suc place)) in
    ap (λ (z : X). z ∷ xs) first ∙ ap (λ (zs : List X). y ∷ zs) rest

-- all readers of a signal change

AllRead : List ℕ → List ℕ → List Table → Type 0
AllRead name places tables = (place : ℕ) (table : Table) → slice_get tables place ≡ Some table → has table.inputs name ≡ true → is_in places place ≡ true

map_same_but : (name : List ℕ) (change : Change) (places : List ℕ) (tables : List Table)
    → ((place : ℕ) (table : Table) → slice_get tables place ≡ Some table → has table.inputs name ≡ true → is_in places place ≡ true)
    → (place : ℕ) → is_in places place ≡ false → option_map (changed_by name change) (slice_get tables place) ≡ slice_get tables place
map_same_but name change places tables all place none = cases (slice_get tables place) refl
  where
    unread : (table : Table) → slice_get tables place ≡ Some table → (b : Bool) → has table.inputs name ≡ b → has table.inputs name ≡ false
    unread table at true e = absurd (false≢true (sym none ∙ all place table at e))
    unread table at false e = e

    cases : (o : Option Table) → slice_get tables place ≡ o → option_map (changed_by name change) o ≡ o
    cases None e = refl
    cases (Some table) e = ap Some (unread_same name change table (unread table e (has table.inputs name) refl))

mapped_same_but : (name : List ℕ) (change : Change) (places : List ℕ) (tables : List Table)
    → ((place : ℕ) (table : Table) → slice_get tables place ≡ Some table → has table.inputs name ≡ true → is_in places place ≡ true)
    → AreSameBut places tables (map (changed_by name change) tables)
mapped_same_but name change places tables all place none = slice_get-map (changed_by name change) tables place ∙ map_same_but name change places tables all place none

map_reads : (name : List ℕ) (change : Change) (tables : List Table) → ((x : List ℕ) → IsComing change x → has (table_inputs tables) x ≡ true)
    → (x : List ℕ) → has (table_inputs (map (changed_by name change) tables)) x ≡ true → has (table_inputs tables) x ≡ true
map_reads name change tables coming x h =
    let (place, made, at, reads) = read_by (map (changed_by name change) tables) x h in
    let (table, here, is) = unmapped (changed_by name change) tables place made at in
    elim (changed_reads name change table x (subst (λ (t : Table). has t.inputs x ≡ true) (sym is) reads)) as (λ _. has (table_inputs tables) x ≡ true) [
      | inl old ↦ reads_at tables place table x here old
      | inr new ↦ coming x new.0
    ]

-- some indices are changed already
pub record IsPartly (turn : Table → Table) (done : List ℕ) (old new : Circuit) : Type 0 where
  pub same : new ≡ with_tables old new.tables
  pub each : (place : ℕ) → slice_get new.tables place ≡ (if is_in done place then option_map turn (slice_get old.tables place) else slice_get old.tables place)

pub partly_none : (turn : Table → Table) (old : Circuit) → IsPartly turn [] old old
partly_none turn old = record { same = refl; each = λ place. refl }

pub partly_more : (name : List ℕ) (change : Change) (done more : List ℕ) (place : ℕ) (old now new : Circuit) → AreSound old.tables → is_apart name change ≡ true → IsPartly (changed_by name change) done old now
    → new ≡ with_tables now new.tables
    → ((other : ℕ) → slice_get new.tables other ≡ (if place == other then option_map (changed_by name change) (slice_get now.tables other) else slice_get now.tables other))
    → ((other : ℕ) → is_in more other ≡ (is_in done other || (place == other))) → IsPartly (changed_by name change) more old new
partly_more name change done more place old now new sound apart h same changed grows = record {
  same = same ∙ ap (λ (c : Circuit). with_tables c new.tables) h.same;
  each = λ other.
      changed other
      ∙ (by other (is_in done other) (place == other) (slice_get old.tables other) refl (slice_get now.tables other) (h.each other)
      ∙ ap (λ (b : Bool). if b then option_map (changed_by name change) (slice_get old.tables other) else slice_get old.tables other) (sym (grows other)));
}
  where
    twice : (other : ℕ) (o : Option Table) → slice_get old.tables other ≡ o → option_map (changed_by name change) (option_map (changed_by name change) o) ≡ option_map (changed_by name change) o
    twice other None e = refl
    twice other (Some table) e = ap Some (changed_again name change table apart (all_at (λ (t : Table). all_different t.inputs ≡ true) old.tables other table sound.table_inputs_once e))

    by : (other : ℕ) (b c : Bool) (o : Option Table) → slice_get old.tables other ≡ o → (p : Option Table) → p ≡ (if b then option_map (changed_by name change) o else o)
        → (if c then option_map (changed_by name change) p else p) ≡ (if b || c then option_map (changed_by name change) o else o)
    by other true true o e p is = ap (option_map (changed_by name change)) is ∙ twice other o e
    by other true false o e p is = is
    by other false true o e p is = ap (option_map (changed_by name change)) is
    by other false false o e p is = is

pub partly_all : (name : List ℕ) (change : Change) (places : List ℕ) (old new : Circuit) → IsPartly (changed_by name change) places old new
    → ((place : ℕ) (table : Table) → slice_get old.tables place ≡ Some table → has table.inputs name ≡ true → is_in places place ≡ true)
    → new ≡ with_tables old (map (changed_by name change) old.tables)
partly_all name change places old new h all =
    h.same ∙ ap (with_tables old) (same_by_places new.tables (map (changed_by name change) old.tables) (λ place.
    h.each place ∙ (by place (is_in places place) refl ∙ sym (slice_get-map (changed_by name change) old.tables place))))
  where
    by : (place : ℕ) (b : Bool) → is_in places place ≡ b
        → (if b then option_map (changed_by name change) (slice_get old.tables place) else slice_get old.tables place) ≡ option_map (changed_by name change) (slice_get old.tables place)
    by place true e = refl
    by place false e = sym (map_same_but name change places old.tables all place e)

pub partly_wide : (name : List ℕ) (change : Change) (done : List ℕ) (old new : Circuit) → AreSound old.tables → IsPartly (changed_by name change) done old new → AllByRecursion IsWide new.tables
partly_wide name change done old new sound h =
    all_from_places IsWide new.tables (λ place table at. by place table (is_in done place) (slice_get old.tables place) refl (sym at ∙ h.each place))
  where
    by : (place : ℕ) (table : Table) (b : Bool) (o : Option Table) → slice_get old.tables place ≡ o → Some table ≡ (if b then option_map (changed_by name change) o else o) → IsWide table
    by place table true None e is = let z : Some table ≡ None = is in absurd cc
    by place table false None e is = let z : Some table ≡ None = is in absurd cc
    by place table true (Some t) e is =
        subst IsWide (sym (same_Some table (changed_by name change t) is)) (changed_shaped name change t (all_at IsShaped old.tables place t sound.shaped e)).0
    by place table false (Some t) e is = subst IsWide (sym (same_Some table t is)) (all_at IsShaped old.tables place t sound.shaped e).0

-- what each rule makes

tidied_set : (circuit : Circuit) (place : ℕ) (table : Table) → AreSound circuit.tables → slice_get circuit.tables place ≡ Some table → rule_applied TidyTable circuit table ≡ with_tables circuit (set circuit.tables place (tidied table))
unfolding with_replaced
tidied_set circuit place table sound at =
    ap (with_tables circuit) (sym (set_replaced circuit.tables place table (tidied table) sound.differ at (sym (tidied_output table))))

constant_set : (circuit : Circuit) (place : ℕ) (table : Table) (bit : Bool) → AreSound circuit.tables → slice_get circuit.tables place ≡ Some table → unwritten_bit table ≡ Some bit
    → rule_applied WriteConstant circuit table ≡ with_tables circuit (set circuit.tables place (constant_table table.output bit))
unfolding with_replaced
constant_set circuit place table bit sound at is =
    ap (λ (o : Option Bool). option_map_or (λ b. with_tables circuit (replaced circuit.tables (constant_table table.output b))) o circuit) is
    ∙ ap (with_tables circuit) (sym (set_replaced circuit.tables place table (constant_table table.output bit) sound.differ at refl))

constant_same : (circuit : Circuit) (table : Table) → unwritten_bit table ≡ None → rule_applied WriteConstant circuit table ≡ circuit
constant_same circuit table is = ap (λ (o : Option Bool). option_map_or (λ b. with_replaced circuit (constant_table table.output b)) o circuit) is

propagate_map : (circuit : Circuit) (table : Table) (bit : Bool) → written_bit table ≡ Some bit → rule_applied PropagateConstant circuit table ≡ with_tables circuit (map (changed_by table.output (Bit bit)) circuit.tables)
propagate_map circuit table bit is = ap (λ (o : Option Bool). option_map_or (λ b. with_tables circuit (map (at_bit table.output b) circuit.tables)) o circuit) is

propagate_same : (circuit : Circuit) (table : Table) → written_bit table ≡ None → rule_applied PropagateConstant circuit table ≡ circuit
propagate_same circuit table is = ap (λ (o : Option Bool). option_map_or (λ b. with_tables circuit (map (at_bit table.output b) circuit.tables)) o circuit) is

collapse_map : (circuit : Circuit) (table : Table) (input : List ℕ) → only_input table.inputs ≡ Some input → rule_applied CollapseSingleInput circuit table ≡ with_tables circuit (map (changed_by table.output (Input input (is_inverter table))) circuit.tables)
collapse_map circuit table input is =
    ap (λ (o : Option (List ℕ)). option_map_or (λ i. with_tables circuit (map (rewired table.output i (is_inverter table)) circuit.tables)) o circuit) is

collapse_same : (circuit : Circuit) (table : Table) → only_input table.inputs ≡ None → rule_applied CollapseSingleInput circuit table ≡ circuit
collapse_same circuit table is =
    ap (λ (o : Option (List ℕ)). option_map_or (λ i. with_tables circuit (map (rewired table.output i (is_inverter table)) circuit.tables)) o circuit) is

reads_input : (table : Table) (input : List ℕ) → only_input table.inputs ≡ Some input → has table.inputs input ≡ true
reads_input table input is = subst (λ (names : List (List ℕ)). has names input ≡ true) (sym (only_is table.inputs input is)) (has_head input [])

-- a table does not read its own signal
pub input_apart : (circuit : Circuit) (place : ℕ) (table : Table) (input : List ℕ) → AreSound circuit.tables → slice_get circuit.tables place ≡ Some table → only_input table.inputs ≡ Some input → bytes_eq table.output input ≡ false
input_apart circuit place table input sound at is =
    name_not table.output input (λ same.
    no_return circuit.tables sound.acyclic table.output 0 (leads_one circuit.tables table.output table.output table (placed_driver circuit.tables place table sound.differ at)
    (subst (λ (x : List ℕ). has table.inputs x ≡ true) (sym same) (reads_input table input is))))

-- tables read no more after a rule has been applied
Narrows : Circuit → Circuit → Type 0
Narrows old new = (name : List ℕ) → has (table_inputs new.tables) name ≡ true → has (table_inputs old.tables) name ≡ true

pub applied_reads : (rule : Rule) (circuit : Circuit) (place : ℕ) (table : Table) → AreSound circuit.tables → slice_get circuit.tables place ≡ Some table
    → (name : List ℕ) → has (table_inputs (rule_applied rule circuit table).tables) name ≡ true → has (table_inputs circuit.tables) name ≡ true
unfolding Narrows
applied_reads TidyTable circuit place table sound at =
    subst (Narrows circuit) (sym (tidied_set circuit place table sound at)) (set_reads circuit.tables place table (tidied table) at (λ name h. tidied_reads table name h))
applied_reads WriteConstant circuit place table sound at = cases (unwritten_bit table) refl
  where
    cases : (o : Option Bool) → unwritten_bit table ≡ o → Narrows circuit (rule_applied WriteConstant circuit table)
    cases None e = subst (Narrows circuit) (sym (constant_same circuit table e)) (λ name h. h)
    cases (Some bit) e =
        subst (Narrows circuit) (sym (constant_set circuit place table bit sound at e)) (set_reads circuit.tables place table (constant_table table.output bit) at (λ name h. absurd (false≢true h)))
applied_reads PropagateConstant circuit place table sound at = cases (written_bit table) refl
  where
    cases : (o : Option Bool) → written_bit table ≡ o → Narrows circuit (rule_applied PropagateConstant circuit table)
    cases None e = subst (Narrows circuit) (sym (propagate_same circuit table e)) (λ name h. h)
    cases (Some bit) e = subst (Narrows circuit) (sym (propagate_map circuit table bit e)) (map_reads table.output (Bit bit) circuit.tables (λ x never. absurd never))
applied_reads CollapseSingleInput circuit place table sound at = cases (only_input table.inputs) refl
  where
    cases : (o : Option (List ℕ)) → only_input table.inputs ≡ o → Narrows circuit (rule_applied CollapseSingleInput circuit table)
    cases None e = subst (Narrows circuit) (sym (collapse_same circuit table e)) (λ name h. h)
    cases (Some input) e =
        subst (Narrows circuit) (sym (collapse_map circuit table input e))
        (map_reads table.output (Input input (is_inverter table)) circuit.tables (λ x is. subst (λ (n : List ℕ). has (table_inputs circuit.tables) n ≡ true) (sym is) (reads_at circuit.tables place table input at (reads_input table input e))))

-- and have the names that they had
pub set_names : (tables : List Table) (place : ℕ) (old made : Table) → slice_get tables place ≡ Some old → made.output ≡ old.output → outputs_of (set tables place made) ≡ outputs_of tables
set_names [] place old made at same = let z : None ≡ Some old = at in absurd cc
set_names (first ∷ tables) zero old made at same = ap (λ (n : List ℕ). n ∷ outputs_of tables) (same ∙ ap (λ (t : Table). t.output) (sym (same_Some first old at)))
set_names (first ∷ tables) (suc place) old made at same = ap (λ (ns : List (List ℕ)). first.output ∷ ns) (set_names tables place old made at same)

changed_output : (name : List ℕ) (change : Change) (table : Table) → (changed_by name change table).output ≡ table.output
changed_output name (Bit bit) table = at_output name bit table
changed_output name (Input to inverts) table = rewired_output name to inverts table

map_names : (name : List ℕ) (change : Change) (tables : List Table) → outputs_of (map (changed_by name change) tables) ≡ outputs_of tables
map_names name change [] = refl
map_names name change (table ∷ tables) =
    ap (λ (n : List ℕ). n ∷ outputs_of (map (changed_by name change) tables)) (changed_output name change table) ∙ ap (λ (ns : List (List ℕ)). table.output ∷ ns) (map_names name change tables)

-- the names of the tables stay
Names : Circuit → Circuit → Type 0
Names old new = outputs_of new.tables ≡ outputs_of old.tables

pub applied_names : (rule : Rule) (circuit : Circuit) (place : ℕ) (table : Table) → AreSound circuit.tables → slice_get circuit.tables place ≡ Some table
    → outputs_of (rule_applied rule circuit table).tables ≡ outputs_of circuit.tables
unfolding Names
applied_names TidyTable circuit place table sound at =
    subst (Names circuit) (sym (tidied_set circuit place table sound at)) (set_names circuit.tables place table (tidied table) at (tidied_output table))
applied_names WriteConstant circuit place table sound at = cases (unwritten_bit table) refl
  where
    cases : (o : Option Bool) → unwritten_bit table ≡ o → Names circuit (rule_applied WriteConstant circuit table)
    cases None e = subst (Names circuit) (sym (constant_same circuit table e)) refl
    cases (Some bit) e = subst (Names circuit) (sym (constant_set circuit place table bit sound at e)) (set_names circuit.tables place table (constant_table table.output bit) at refl)
applied_names PropagateConstant circuit place table sound at = cases (written_bit table) refl
  where
    cases : (o : Option Bool) → written_bit table ≡ o → Names circuit (rule_applied PropagateConstant circuit table)
    cases None e = subst (Names circuit) (sym (propagate_same circuit table e)) refl
    cases (Some bit) e = subst (Names circuit) (sym (propagate_map circuit table bit e)) (map_names table.output (Bit bit) circuit.tables)
applied_names CollapseSingleInput circuit place table sound at = cases (only_input table.inputs) refl
  where
    cases : (o : Option (List ℕ)) → only_input table.inputs ≡ o → Names circuit (rule_applied CollapseSingleInput circuit table)
    cases None e = subst (Names circuit) (sym (collapse_same circuit table e)) refl
    cases (Some input) e = subst (Names circuit) (sym (collapse_map circuit table input e)) (map_names table.output (Input input (is_inverter table)) circuit.tables)

-- and the don't-care part stays
Cares : Circuit → Circuit → Type 0
Cares old new = new.dont_care ≡ old.dont_care

pub applied_cares : (rule : Rule) (circuit : Circuit) (table : Table) → (rule_applied rule circuit table).dont_care ≡ circuit.dont_care
unfolding with_replaced Cares
applied_cares TidyTable circuit table = refl
applied_cares WriteConstant circuit table = cases (unwritten_bit table) refl
  where
    cases : (o : Option Bool) → unwritten_bit table ≡ o → Cares circuit (rule_applied WriteConstant circuit table)
    cases None e = subst (Cares circuit) (sym (constant_same circuit table e)) refl
    cases (Some bit) e = ap (λ (o : Option Bool). (option_map_or (λ b. with_replaced circuit (constant_table table.output b)) o circuit).dont_care) e
applied_cares PropagateConstant circuit table = cases (written_bit table) refl
  where
    cases : (o : Option Bool) → written_bit table ≡ o → Cares circuit (rule_applied PropagateConstant circuit table)
    cases None e = subst (Cares circuit) (sym (propagate_same circuit table e)) refl
    cases (Some bit) e = subst (Cares circuit) (sym (propagate_map circuit table bit e)) refl
applied_cares CollapseSingleInput circuit table = cases (only_input table.inputs) refl
  where
    cases : (o : Option (List ℕ)) → only_input table.inputs ≡ o → Cares circuit (rule_applied CollapseSingleInput circuit table)
    cases None e = subst (Cares circuit) (sym (collapse_same circuit table e)) refl
    cases (Some input) e = subst (Cares circuit) (sym (collapse_map circuit table input e)) refl

-- and the outputs stay
Ports : Circuit → Circuit → Type 0
Ports old new = new.outputs ≡ old.outputs

pub applied_outputs : (rule : Rule) (circuit : Circuit) (table : Table) → (rule_applied rule circuit table).outputs ≡ circuit.outputs
unfolding with_replaced Ports
applied_outputs TidyTable circuit table = refl
applied_outputs WriteConstant circuit table = cases (unwritten_bit table) refl
  where
    cases : (o : Option Bool) → unwritten_bit table ≡ o → Ports circuit (rule_applied WriteConstant circuit table)
    cases None e = subst (Ports circuit) (sym (constant_same circuit table e)) refl
    cases (Some bit) e = ap (λ (o : Option Bool). (option_map_or (λ b. with_replaced circuit (constant_table table.output b)) o circuit).outputs) e
applied_outputs PropagateConstant circuit table = cases (written_bit table) refl
  where
    cases : (o : Option Bool) → written_bit table ≡ o → Ports circuit (rule_applied PropagateConstant circuit table)
    cases None e = subst (Ports circuit) (sym (propagate_same circuit table e)) refl
    cases (Some bit) e = subst (Ports circuit) (sym (propagate_map circuit table bit e)) refl
applied_outputs CollapseSingleInput circuit table = cases (only_input table.inputs) refl
  where
    cases : (o : Option (List ℕ)) → only_input table.inputs ≡ o → Ports circuit (rule_applied CollapseSingleInput circuit table)
    cases None e = subst (Ports circuit) (sym (collapse_same circuit table e)) refl
    cases (Some input) e = subst (Ports circuit) (sym (collapse_map circuit table input e)) refl

-- a constant is tidy
pub constant_tidy : (name : List ℕ) (bit : Bool) → is_tidy (constant_table name bit) ≡ true
unfolding is_tidy used_places rows_differ all_different
constant_tidy name true = refl
constant_tidy name false = refl

-- a rule that applies to a tidy table is not the one that tidies
pub written_asks : (rule : Rule) (tables : List Table) (table : Table) → is_tidy table ≡ true → passes rule tables table ≡ true → may_apply_to_written rule ≡ true
written_asks TidyTable tables table tidy h = absurd (false≢true (ap (λ (b : Bool). not b) (sym tidy) ∙ h))
written_asks WriteConstant tables table tidy h = refl
written_asks PropagateConstant tables table tidy h = refl
written_asks CollapseSingleInput tables table tidy h = refl

-- what rules write is tidy: a table that is not was there before
abbrev pub Tidies : List Table → List Table → Type 0
Tidies old new = (place : ℕ) (table : Table) → slice_get new place ≡ Some table → is_tidy table ≡ false → slice_get old place ≡ Some table

set_tidies : (tables : List Table) (place : ℕ) (old made : Table) → slice_get tables place ≡ Some old → is_tidy made ≡ true → Tidies tables (set tables place made)
set_tidies tables place old made at tidy i table here =
    at_set (λ (t : Table). is_tidy t ≡ false → slice_get tables i ≡ Some table) tables place old made i table at here (λ same untidy. absurd (false≢true (sym untidy ∙ tidy))) (λ same untidy. same)

changed_tidies : (name : List ℕ) (change : Change) (table : Table) → IsWide table → is_tidy (changed_by name change table) ≡ false → changed_by name change table ≡ table
changed_tidies name (Bit bit) table wide =
    at_either (λ (made : Table). is_tidy made ≡ false → made ≡ table) name bit table
    (λ reads untidy. absurd (false≢true (sym untidy ∙ tidied_tidy (with_rows_at name bit table) (rows_at_wide name bit table wide)))) (λ none untidy. refl)
changed_tidies name (Input to inverts) table wide =
    rewired_either (λ (made : Table). is_tidy made ≡ false → made ≡ table) name to inverts table
    (λ reads untidy. absurd (false≢true (sym untidy ∙ tidied_tidy (rewires name to inverts table) (rewires_wide name to inverts table wide)))) (λ none untidy. refl)

map_tidies : (name : List ℕ) (change : Change) (tables : List Table) → AllByRecursion IsShaped tables → Tidies tables (map (changed_by name change) tables)
map_tidies name change tables shaped place made at untidy =
    let (table, here, is) = unmapped (changed_by name change) tables place made at in
    let same : made ≡ table = sym is ∙ changed_tidies name change table (all_at IsShaped tables place table shaped here).0 (ap is_tidy is ∙ untidy) in
    here ∙ ap Some (sym same)

applied_tidies : (rule : Rule) (circuit : Circuit) (place : ℕ) (table : Table) → AreSound circuit.tables → slice_get circuit.tables place ≡ Some table → Tidies circuit.tables (rule_applied rule circuit table).tables
applied_tidies TidyTable circuit place table sound at =
    subst (λ (c : Circuit). Tidies circuit.tables c.tables) (sym (tidied_set circuit place table sound at))
    (set_tidies circuit.tables place table (tidied table) at (tidied_tidy table (all_at IsShaped circuit.tables place table sound.shaped at).0))
applied_tidies WriteConstant circuit place table sound at = cases (unwritten_bit table) refl
  where
    cases : (o : Option Bool) → unwritten_bit table ≡ o → Tidies circuit.tables (rule_applied WriteConstant circuit table).tables
    cases None e = subst (λ (c : Circuit). Tidies circuit.tables c.tables) (sym (constant_same circuit table e)) (λ i t h untidy. h)
    cases (Some bit) e =
        subst (λ (c : Circuit). Tidies circuit.tables c.tables) (sym (constant_set circuit place table bit sound at e))
        (set_tidies circuit.tables place table (constant_table table.output bit) at (constant_tidy table.output bit))
applied_tidies PropagateConstant circuit place table sound at = cases (written_bit table) refl
  where
    cases : (o : Option Bool) → written_bit table ≡ o → Tidies circuit.tables (rule_applied PropagateConstant circuit table).tables
    cases None e = subst (λ (c : Circuit). Tidies circuit.tables c.tables) (sym (propagate_same circuit table e)) (λ i t h untidy. h)
    cases (Some bit) e = subst (λ (c : Circuit). Tidies circuit.tables c.tables) (sym (propagate_map circuit table bit e)) (map_tidies table.output (Bit bit) circuit.tables sound.shaped)
applied_tidies CollapseSingleInput circuit place table sound at = cases (only_input table.inputs) refl
  where
    cases : (o : Option (List ℕ)) → only_input table.inputs ≡ o → Tidies circuit.tables (rule_applied CollapseSingleInput circuit table).tables
    cases None e = subst (λ (c : Circuit). Tidies circuit.tables c.tables) (sym (collapse_same circuit table e)) (λ i t h untidy. h)
    cases (Some input) e =
        subst (λ (c : Circuit). Tidies circuit.tables c.tables) (sym (collapse_map circuit table input e)) (map_tidies table.output (Input input (is_inverter table)) circuit.tables sound.shaped)

-- where tables read no more, a rule applies to a table only if it did before
pub still_passes : (rule : Rule) (old new : List Table) (table : Table) → ((name : List ℕ) → has (table_inputs new) name ≡ true → has (table_inputs old) name ≡ true) → passes rule new table ≡ true → passes rule old table ≡ true
still_passes TidyTable old new table less h = h
still_passes WriteConstant old new table less h = h
still_passes PropagateConstant old new table less h =
    let (a, b) = and_parts (is_some (written_bit table)) (has (table_inputs new) table.output) h in rw (a, less table.output b) refl
still_passes CollapseSingleInput old new table less h =
    let (a, b) = and_parts (is_some (only_input table.inputs)) (has (table_inputs new) table.output) h in rw (a, less table.output b) refl

-- so it does to a table of which the rules find the same
alike_passes : (rule : Rule) (old new : List Table) (before table : Table) → ((name : List ℕ) → has (table_inputs new) name ≡ true → has (table_inputs old) name ≡ true) → IsAlike before table
    → passes rule new table ≡ true → passes rule old before ≡ true
alike_passes TidyTable old new before table less alike h = ap (λ (b : Bool). not b) (sym alike.tidy) ∙ h
alike_passes WriteConstant old new before table less alike h = ap (λ (o : Option Bool). is_some o) (sym alike.unwritten) ∙ h
alike_passes PropagateConstant old new before table less alike h =
    let (a, b) = and_parts (is_some (written_bit table)) (has (table_inputs new) table.output) h in
    rw (ap (λ (o : Option Bool). is_some o) (sym alike.written) ∙ a, ap (has (table_inputs old)) (sym alike.output) ∙ less table.output b) refl
alike_passes CollapseSingleInput old new before table less alike h =
    let (a, b) = and_parts (is_some (only_input table.inputs)) (has (table_inputs new) table.output) h in
    rw (sym alike.single ∙ a, ap (has (table_inputs old)) (sym alike.output) ∙ less table.output b) refl

-- the candidates afterwards
pub marked_again : (old new : List Table) (places : List ℕ) (before after : Rule → ℕ → Bool) → AreCandidates before old → AreAlikeBut places old new → Tidies old new
    → ((name : List ℕ) → has (table_inputs new) name ≡ true → has (table_inputs old) name ≡ true)
    → ((rule : Rule) (place : ℕ) → may_apply_to_written rule ≡ true → is_in places place ≡ true → after rule place ≡ true)
    → ((rule : Rule) (place : ℕ) → before rule place ≡ true → after rule place ≡ true) → AreCandidates after new
marked_again old new places before after all alike tidies less put kept rule place table at passed = cases (is_in places place) refl
  where
    tidy : (b : Bool) → is_tidy table ≡ b → is_in places place ≡ true → after rule place ≡ true
    tidy true t e = put rule place (written_asks rule new table t passed) e
    tidy false t e = kept rule place (all rule place table (tidies place table at t) (still_passes rule old new table less passed))

    cases : (b : Bool) → is_in places place ≡ b → after rule place ≡ true
    cases true e = tidy (is_tidy table) refl e
    cases false e =
        let (other, there, like) = alike_before places old new place table alike e at in
        kept rule place (all rule place other there (alike_passes rule old new other table less like passed))

-- one turn

pub tidy_applied : (circuit new : Circuit) (place : ℕ) (here made : Table) → AreSound circuit.tables → slice_get circuit.tables place ≡ Some here → made ≡ tidied here → new ≡ with_tables circuit (set circuit.tables place made)
    → (table : Table) → slice_get circuit.tables place ≡ Some table → new ≡ rule_applied TidyTable circuit table
tidy_applied circuit new place here made sound at is n table there =
    n ∙ (ap (λ (t : Table). with_tables circuit (set circuit.tables place t)) (is ∙ ap tidied (same_Some here table (sym at ∙ there))) ∙ sym (tidied_set circuit place table sound there))

pub constant_applied : (circuit new : Circuit) (place : ℕ) (here made : Table) (bit : Bool) → AreSound circuit.tables → slice_get circuit.tables place ≡ Some here → unwritten_bit here ≡ Some bit → made ≡ constant_table here.output bit
    → new ≡ with_tables circuit (set circuit.tables place made) → (table : Table) → slice_get circuit.tables place ≡ Some table → new ≡ rule_applied WriteConstant circuit table
constant_applied circuit new place here made bit sound at has_bit is n table there =
    let same : here ≡ table = same_Some here table (sym at ∙ there) in
    n ∙ (ap (λ (t : Table). with_tables circuit (set circuit.tables place t)) (is ∙ ap (λ (t : Table). constant_table t.output bit) same)
    ∙ sym (constant_set circuit place table bit sound there (ap unwritten_bit (sym same) ∙ has_bit)))

pub constant_put : (circuit new : Circuit) (place : ℕ) (here made : Table) → AreSound circuit.tables → slice_get circuit.tables place ≡ Some here → Some made ≡ option_map (constant_table here.output) (unwritten_bit here)
    → new ≡ with_tables circuit (set circuit.tables place made) → (table : Table) → slice_get circuit.tables place ≡ Some table → new ≡ rule_applied WriteConstant circuit table
constant_put circuit new place here made sound at is n = by (unwritten_bit here) refl is
  where
    by : (bit : Option Bool) → unwritten_bit here ≡ bit → Some made ≡ option_map (constant_table here.output) bit
        → (table : Table) → slice_get circuit.tables place ≡ Some table → new ≡ rule_applied WriteConstant circuit table
    by None e d = absurd (let no : Some made ≡ None = d in cc)
    by (Some bit) e d = constant_applied circuit new place here made bit sound at e (same_Some made (constant_table here.output bit) d) n

-- a table that is no constant, or written as it, stays
pub constant_left : (circuit : Circuit) (place : ℕ) (here : Table) → slice_get circuit.tables place ≡ Some here → None ≡ option_map (constant_table here.output) (unwritten_bit here)
    → (table : Table) → slice_get circuit.tables place ≡ Some table → circuit ≡ rule_applied WriteConstant circuit table
constant_left circuit place here at none table there = by (unwritten_bit table) (ap (λ (t : Table). option_map (constant_table t.output) (unwritten_bit t)) (same_Some here table (sym at ∙ there)))
  where
    by : (bit : Option Bool) → option_map (constant_table here.output) (unwritten_bit here) ≡ option_map (constant_table table.output) bit
        → circuit ≡ option_map_or (λ b. with_replaced circuit (constant_table table.output b)) bit circuit
    by None e = refl
    by (Some bit) e = absurd (let no : None ≡ Some (constant_table table.output bit) = none ∙ e in cc)

pub set_others : (circuit new : Circuit) (place : ℕ) (made : Table) (places : List ℕ) → new ≡ with_tables circuit (set circuit.tables place made) → places ≡ place ∷ [] → AreAlikeBut places circuit.tables new.tables
set_others circuit new place made places n p =
    subst (λ (ps : List ℕ). AreAlikeBut ps circuit.tables new.tables) (sym p)
    (subst (λ (c : Circuit). AreAlikeBut (place ∷ []) circuit.tables c.tables) (sym n)
    (same_alike (place ∷ []) circuit.tables (set circuit.tables place made) (same_but_one circuit.tables place made)))

pub propagate_applied : (circuit new : Circuit) (place : ℕ) (here : Table) (bit : Bool) → slice_get circuit.tables place ≡ Some here → written_bit here ≡ Some bit
    → new ≡ with_tables circuit (map (changed_by here.output (Bit bit)) circuit.tables) → (table : Table) → slice_get circuit.tables place ≡ Some table → new ≡ rule_applied PropagateConstant circuit table
propagate_applied circuit new place here bit at has_bit n table there =
    let same : here ≡ table = same_Some here table (sym at ∙ there) in
    n ∙ (ap (λ (t : Table). with_tables circuit (map (changed_by t.output (Bit bit)) circuit.tables)) same ∙ sym (propagate_map circuit table bit (ap written_bit (sym same) ∙ has_bit)))

pub collapse_applied : (circuit new : Circuit) (place : ℕ) (here : Table) (input : List ℕ) (inverts : Bool) → slice_get circuit.tables place ≡ Some here → only_input here.inputs ≡ Some input → inverts ≡ is_inverter here
    → new ≡ with_tables circuit (map (changed_by here.output (Input input inverts)) circuit.tables) → (table : Table) → slice_get circuit.tables place ≡ Some table → new ≡ rule_applied CollapseSingleInput circuit table
collapse_applied circuit new place here input inverts at single i n table there =
    let same : here ≡ table = same_Some here table (sym at ∙ there) in
    let change : Input input inverts ≡ Input input (is_inverter table) = rw (i, same) refl in
    n ∙ (ap (λ (t : Table). with_tables circuit (map (changed_by t.output (Input input inverts)) circuit.tables)) same
    ∙ (ap (λ (ch : Change). with_tables circuit (map (changed_by table.output ch) circuit.tables)) change
    ∙ sym (collapse_map circuit table input (ap (λ (t : Table). only_input t.inputs) (sym same) ∙ single))))

pub mapped_others : (circuit new : Circuit) (name : List ℕ) (change : Change) (places : List ℕ)
    → ((place : ℕ) (table : Table) → slice_get circuit.tables place ≡ Some table → has table.inputs name ≡ true → is_in places place ≡ true)
    → new ≡ with_tables circuit (map (changed_by name change) circuit.tables) → AreAlikeBut places circuit.tables new.tables
mapped_others circuit new name change places readers n =
    subst (λ (c : Circuit). AreAlikeBut places circuit.tables c.tables) (sym n)
    (same_alike places circuit.tables (map (changed_by name change) circuit.tables) (mapped_same_but name change places circuit.tables readers))

pub applied_candidates : (rule : Rule) (circuit new : Circuit) (place : ℕ) (places now : List ℕ) (before after : Rule → ℕ → Bool) → AreSound circuit.tables → place < length circuit.tables → AreCandidates before circuit.tables
    → ((table : Table) → slice_get circuit.tables place ≡ Some table → new ≡ rule_applied rule circuit table) → AreAlikeBut places circuit.tables new.tables → now ≡ places
    → ((r : Rule) (i : ℕ) → may_apply_to_written r ≡ true → is_in now i ≡ true → after r i ≡ true) → ((r : Rule) (i : ℕ) → before r i ≡ true → after r i ≡ true) → AreCandidates after new.tables
applied_candidates rule circuit new place places now before after sound lt all turned others same put kept =
    let (table, at) = there circuit.tables place lt in
    marked_again circuit.tables new.tables places before after all others
    (subst (λ (c : Circuit). Tidies circuit.tables c.tables) (sym (turned table at)) (applied_tidies rule circuit place table sound at))
    (λ name h. applied_reads rule circuit place table sound at name (subst (λ (c : Circuit). has (table_inputs c.tables) name ≡ true) (turned table at) h))
    (λ r i asks h. put r i asks (subst (λ (ps : List ℕ). is_in ps i ≡ true) (sym same) h)) kept

-- the table at one index is changed
pub set_changed : (turn : Table → Table) (circuit new : Circuit) (place : ℕ) (here made : Table) → slice_get circuit.tables place ≡ Some here → made ≡ turn here → new ≡ with_tables circuit (set circuit.tables place made)
    → (other : ℕ) → slice_get new.tables other ≡ (if place == other then option_map turn (slice_get circuit.tables other) else slice_get circuit.tables other)
set_changed turn circuit new place here made at is n other =
    ap (λ (c : Circuit). slice_get c.tables other) n ∙ cases (place == other) refl
  where
    cases : (b : Bool) → (place == other) ≡ b → slice_get (set circuit.tables place made) other ≡ (if b then option_map turn (slice_get circuit.tables other) else slice_get circuit.tables other)
    cases true e =
        subst (λ (i : ℕ). slice_get (set circuit.tables place made) i ≡ option_map turn (slice_get circuit.tables i)) (eqb-true place other e)
        (get_set_same circuit.tables place here made at ∙ (ap Some is ∙ ap (option_map turn) (sym at)))
    cases false e = get_set_other circuit.tables place other made (λ same. eqb-false place other e (sym same))

pub grown : (places : List ℕ) (i place d : ℕ) → i < length places → place ≡ get_or places i d → (other : ℕ) → is_in (take (i + 1) places) other ≡ (is_in (take i places) other || (place == other))
grown places i place d lt is other = list_any_more (λ n. n == other) places i d lt ∙ ap (λ (n : ℕ). is_in (take i places) other || (n == other)) (sym is)

pub partly_ended : (name : List ℕ) (change : Change) (places : List ℕ) (i : ℕ) (old new : Circuit) → length places ≤ i → IsPartly (changed_by name change) (take i places) old new
    → ((place : ℕ) (table : Table) → slice_get old.tables place ≡ Some table → has table.inputs name ≡ true → is_in places place ≡ true)
    → new ≡ with_tables old (map (changed_by name change) old.tables)
partly_ended name change places i old new le h all =
    partly_all name change places old new (subst (λ (ps : List ℕ). IsPartly (changed_by name change) ps old new) (take_all i places le) h) all

-- a reader is listed
pub reads_listed : (tables : List Table) (name : List ℕ) (places : List ℕ) → ((place : ℕ) → has (inputs_at tables place) name ≡ true → is_in places place ≡ true)
    → (place : ℕ) (table : Table) → slice_get tables place ≡ Some table → has table.inputs name ≡ true → is_in places place ≡ true
reads_listed tables name places within place table at reads = within place (ap (λ (names : List (List ℕ)). has names name) (inputs_here tables place table at) ∙ reads)

pub on_ok_both : {T E : Type 0} (r : Result T E) {A B C : Type 0} → (A → B → C) → OnOk r A → OnOk r B → OnOk r C
on_ok_both (Ok x) f h k = f h k
on_ok_both (Err e) f h k = tt
