-- Indices that wait, latches that are listed under their inputs, and tables that are indexed, one
-- after the other.
use Rattle.std.proofs.Common.{◌≡◌, ℕ, zero, suc, ◌+◌, ◌<◌, ◌≤◌, ◌==◌, Bool, true, false, ◌||◌, if◌then◌else◌, Option, Some, None, is_some, List, [], ◌∷◌, ◌++◌, take, length, map, get_or, slice_get, bytes_eq, inl, inr, refl, sym, ap, ◌∙◌, subst, arith}
use Rattle.std.proofs.lemmas.List.{take_all, take_more}
use Rattle.std.proofs.lemmas.Bool.{false≢true, eqb-true}
use Rattle.std.proofs.lemmas.Option.{slice_get_within}
use Rattle.std.proofs.lemmas.List.Folds.{list_any_more}
use Rattle.circuit_model.specs.Names.{has, all_different}
use Rattle.circuit_model.specs.Soundness.{outputs_of}
use Rattle.circuit_model.specs.declared.circuit.Table.{Table}
use Rattle.circuit_model.specs.declared.circuit.Latch.{Latch}
use Rattle.circuit_model.specs.declared.circuit.Circuit.{Circuit}
use Rattle.circuit_laws.proofs.Names.{same_name, has_head, different_head, different_tail}
use Rattle.net_wires.specs.Points.{written_bit}
use Rattle.net_wires.specs.Needed.{dont_care_reads}
use Rattle.net_sweep.specs.Settled.{listed, AreWaiting}
use Rattle.net_readers.specs.Fanouts.{is_in}
use Rattle.net_sweep.specs.Latches.{left_at, is_fixed, IsPlaced, AreInFanout, IsBeside}
use Rattle.net_sweep.proofs.Marking.{has_more, taken_cases, listed_none, listed_more, listed_kept}
use Rattle.net_sweep.proofs.Changing.{unmapped}
use Rattle.net_sweep.proofs.Latching.{placed_more}

-- indices are added one by one
pub record HasPut (places : List ℕ) (before after : ℕ → Bool) : Type 0 where
  pub put : (place : ℕ) → is_in places place ≡ true → after place ≡ true
  pub kept : (place : ℕ) → before place ≡ true → after place ≡ true

pub put_none : (before : ℕ → Bool) → HasPut [] before before
put_none before = record { put = λ place h. absurd (false≢true h); kept = λ place h. h }

pub put_more : (places : List ℕ) (i put d : ℕ) (before now after : ℕ → Bool) → i < length places → put ≡ get_or places i d → HasPut (take i places) before now
    → ((place : ℕ) → after place ≡ (put == place || now place)) → HasPut (take (i + 1) places) before after
put_more places i put d before now after lt is h more = record {
  put = λ place within. by place (is_in (take i places) place) refl (put == place) refl
      (sym (list_any_more (λ other. other == place) places i d lt ∙ ap (λ (n : ℕ). is_in (take i places) place || (n == place)) (sym is)) ∙ within);
  kept = λ place held. kept place (h.kept place held);
}
  where
    kept : (place : ℕ) → now place ≡ true → after place ≡ true
    kept place held = more place ∙ by (put == place) held
      where
        by : (b : Bool) → now place ≡ true → (b || now place) ≡ true
        by true k = refl
        by false k = k

    by : (place : ℕ) (a : Bool) → is_in (take i places) place ≡ a → (b : Bool) → (put == place) ≡ b → (a || b) ≡ true → after place ≡ true
    by place true e b f k = kept place (h.put place e)
    by place false e true f k = more place ∙ ap (λ (c : Bool). c || now place) f
    by place false e false f k = absurd (false≢true k)

pub all_put : (places : List ℕ) (i : ℕ) (before after : ℕ → Bool) → length places ≤ i → HasPut (take i places) before after → HasPut places before after
all_put places i before after le h = subst (λ (ps : List ℕ). HasPut ps before after) (take_all i places le) h

-- latches that read some tables wait
pub record HasEnqueued (lists : List ℕ → Option (List ℕ)) (tables : List Table) (places : List ℕ) (before after : ℕ → Bool) : Type 0 where
  pub put : (place : ℕ) (table : Table) (latch : ℕ) → is_in places place ≡ true → slice_get tables place ≡ Some table → is_some (written_bit table) ≡ true → is_in (listed (lists table.output)) latch ≡ true → after latch ≡ true
  pub kept : (latch : ℕ) → before latch ≡ true → after latch ≡ true

pub enqueued_none : (lists : List ℕ → Option (List ℕ)) (tables : List Table) (before : ℕ → Bool) → HasEnqueued lists tables [] before before
enqueued_none lists tables before = record { put = λ place table latch h at written fanout. absurd (false≢true h); kept = λ latch h. h }

pub enqueued_more : (lists : List ℕ → Option (List ℕ)) (tables : List Table) (places : List ℕ) (i here d : ℕ) (before now after : ℕ → Bool) → i < length places → here ≡ get_or places i d
    → HasEnqueued lists tables (take i places) before now
    → ((table : Table) (latch : ℕ) → slice_get tables here ≡ Some table → is_some (written_bit table) ≡ true → is_in (listed (lists table.output)) latch ≡ true → after latch ≡ true)
    → ((latch : ℕ) → now latch ≡ true → after latch ≡ true) → HasEnqueued lists tables (take (i + 1) places) before after
enqueued_more lists tables places i here d before now after lt is h put kept = record {
  put = λ place table latch within at written fanout. by place table latch (is_in (take i places) place) refl (here == place) refl
      (sym (list_any_more (λ other. other == place) places i d lt ∙ ap (λ (n : ℕ). is_in (take i places) place || (n == place)) (sym is)) ∙ within) at written fanout;
  kept = λ latch held. kept latch (h.kept latch held);
}
  where
    by : (place : ℕ) (table : Table) (latch : ℕ) (a : Bool) → is_in (take i places) place ≡ a → (b : Bool) → (here == place) ≡ b → (a || b) ≡ true
        → slice_get tables place ≡ Some table → is_some (written_bit table) ≡ true → is_in (listed (lists table.output)) latch ≡ true → after latch ≡ true
    by place table latch true e b f k at written fanout = kept latch (h.put place table latch e at written fanout)
    by place table latch false e true f k at written fanout = put table latch (subst (λ (n : ℕ). slice_get tables n ≡ Some table) (sym (eqb-true here place f)) at) written fanout
    by place table latch false e false f k at written fanout = absurd (false≢true k)

pub all_enqueued : (lists : List ℕ → Option (List ℕ)) (tables : List Table) (places : List ℕ) (i : ℕ) (before after : ℕ → Bool) → length places ≤ i → HasEnqueued lists tables (take i places) before after → HasEnqueued lists tables places before after
all_enqueued lists tables places i before after le h = subst (λ (ps : List ℕ). HasEnqueued lists tables ps before after) (take_all i places le) h

-- latches are listed one by one
abbrev pub AreUnder : (List ℕ → Option (List ℕ)) → List Latch → Type 0
AreUnder lists latches = (place : ℕ) (latch : Latch) → slice_get latches place ≡ Some latch → is_in (listed (lists latch.input)) place ≡ true

pub under_none : (lists : List ℕ → Option (List ℕ)) → AreUnder lists []
under_none lists place latch at = let z : None ≡ Some latch = at in absurd cc

pub under_more : (latches : List Latch) (i : ℕ) (latch : Latch) (now after : List ℕ → Option (List ℕ)) → i < length latches → latch ≡ get_or latches i latch → AreUnder now (take i latches)
    → ((other : List ℕ) → listed (after other) ≡ (if bytes_eq latch.input other then listed (now other) ++ i ∷ [] else listed (now other))) → AreUnder after (take (i + 1) latches)
under_more latches i latch now after lt is all more place other at =
    let next : i + 1 ≡ suc i = omega arith in
    elim (taken_cases latches i latch place other lt is (subst (λ (n : ℕ). slice_get (take n latches) place ≡ Some other) next at)) as (λ _. is_in (listed (after other.input)) place ≡ true) [
      | inl old ↦ listed_kept latch.input i now after more other.input place (all place other old)
      | inr new ↦
          subst (λ (l : Latch). is_in (listed (after l.input)) place ≡ true) (sym new.1)
          (subst (λ (p : ℕ). is_in (listed (after latch.input)) p ≡ true) (sym new.0)
          ((listed_more i (latch.input ∷ []) 0 latch.input now now after (omega arith) refl (listed_none i now) more).put latch.input (has_head latch.input [])))
    ]

pub all_under : (latches : List Latch) (i : ℕ) (lists : List ℕ → Option (List ℕ)) → length latches ≤ i → AreUnder lists (take i latches) → AreUnder lists latches
all_under latches i lists le h = subst (AreUnder lists) (take_all i latches le) h

pub under_listed : (latches : List Latch) (now after : List ℕ → Option (List ℕ)) → AreUnder now latches → ((name : List ℕ) → listed (after name) ≡ listed (now name)) → AreUnder after latches
under_listed latches now after h same place latch at = ap (λ (ps : List ℕ). is_in ps place) (same latch.input) ∙ h place latch at

-- outputs have lists
abbrev pub HasNoted : (List ℕ → Option (List ℕ)) → List (List ℕ) → Type 0
HasNoted lists outputs = (name : List ℕ) → has outputs name ≡ true → is_some (lists name) ≡ true

pub noted_none : (lists : List ℕ → Option (List ℕ)) → HasNoted lists []
noted_none lists name h = absurd (false≢true h)

pub noted_more : (outputs : List (List ℕ)) (i : ℕ) (output : List ℕ) (now after : List ℕ → Option (List ℕ)) → i < length outputs → output ≡ get_or outputs i output → HasNoted now (take i outputs)
    → is_some (after output) ≡ true → ((name : List ℕ) → is_some (now name) ≡ true → is_some (after name) ≡ true) → HasNoted after (take (i + 1) outputs)
noted_more outputs i output now after lt is h here kept name asks = by (has (take i outputs) name) refl (bytes_eq name output) refl (sym (has_more outputs i output name lt is) ∙ asks)
  where
    by : (a : Bool) → has (take i outputs) name ≡ a → (b : Bool) → bytes_eq name output ≡ b → (a || b) ≡ true → is_some (after name) ≡ true
    by true e b f k = kept name (h name e)
    by false e true f k = subst (λ (n : List ℕ). is_some (after n) ≡ true) (sym (same_name name output f)) here
    by false e false f k = absurd (false≢true k)

pub all_noted : (outputs : List (List ℕ)) (i : ℕ) (lists : List ℕ → Option (List ℕ)) → length outputs ≤ i → HasNoted lists (take i outputs) → HasNoted lists outputs
all_noted outputs i lists le h = subst (HasNoted lists) (take_all i outputs le) h

pub under_slots : (lists : List ℕ → Option (List ℕ)) (latches : List Latch) → AreUnder lists latches → AreInFanout lists (map Some latches)
under_slots lists latches h place latch at =
    let (found, there, is) = unmapped Some latches place (Some latch) at in
    h place latch (there ∙ is)

-- a slot for each latch
pub left_all : (latches : List Latch) → left_at (map Some latches) ≡ latches
unfolding left_at
left_all [] = refl
left_all (latch ∷ latches) = ap (λ (ls : List Latch). latch ∷ ls) (left_all latches)

slots_long : (latches : List Latch) → length (map Some latches) ≡ length latches
slots_long [] = refl
slots_long (latch ∷ latches) = omega (arith, slots_long latches)

pub waiting_all : (circuit : Circuit) (latches : List Latch) (marked : ℕ → Bool) → ((place : ℕ) → place < length latches → marked place ≡ true) → AreWaiting (is_fixed circuit) marked (map Some latches)
waiting_all circuit latches marked h place slot at fixed = h place (omega (arith, slice_get_within (map Some latches) place slot at, slots_long latches))

-- the latches that are left, one after the other
pub left_none : left_at [] ≡ []
unfolding left_at
left_none = refl

left_append : (xs ys : List (Option Latch)) → left_at (xs ++ ys) ≡ left_at xs ++ left_at ys
unfolding left_at
left_append [] ys = refl
left_append (None ∷ xs) ys = left_append xs ys
left_append (Some latch ∷ xs) ys = ap (λ (ls : List Latch). latch ∷ ls) (left_append xs ys)

pub left_more : (slots : List (Option Latch)) (i : ℕ) (slot : Option Latch) → i < length slots → slot ≡ get_or slots i slot → left_at (take (i + 1) slots) ≡ left_at (take i slots) ++ left_at (slot ∷ [])
left_more slots i slot lt is =
    ap left_at (take_more slots i slot lt) ∙ (left_append (take i slots) (get_or slots i slot ∷ []) ∙ ap (λ (s : Option Latch). left_at (take i slots) ++ left_at (s ∷ [])) (sym is))

-- tables are indexed one by one
pub placed_next : (places after : List ℕ → Option ℕ) (tables : List Table) (i : ℕ) (table : Table) (key : List ℕ) → all_different (outputs_of tables) ≡ true → i < length tables → table ≡ get_or tables i table → key ≡ table.output
    → IsPlaced places (outputs_of (take i tables)) → ((other : List ℕ) → after other ≡ (if bytes_eq key other then Some i else places other)) → IsPlaced after (outputs_of (take (i + 1) tables))
placed_next places after tables i table key differ lt is k h put =
    subst (IsPlaced after) (sym (next tables i table lt is))
    (placed_more places after (outputs_of (take i tables)) table.output h (unseen tables i table differ lt is) (λ other.
    put other ∙ (ap (λ (n : List ℕ). if bytes_eq n other then Some i else places other) k ∙ ap (λ (n : ℕ). if bytes_eq table.output other then Some n else places other) (sym (long tables i (omega (arith, lt)))))))
  where
    long : (tables : List Table) (i : ℕ) → i ≤ length tables → length (outputs_of (take i tables)) ≡ i
    long [] zero le = refl
    long [] (suc i) le = absurd (omega (arith, le))
    long (first ∷ tables) zero le = refl
    long (first ∷ tables) (suc i) le = omega (arith, long tables i (omega (arith, le)))

    next : (tables : List Table) (i : ℕ) (table : Table) → i < length tables → table ≡ get_or tables i table → outputs_of (take (i + 1) tables) ≡ outputs_of (take i tables) ++ table.output ∷ []
    next tables i table lt is = let e : i + 1 ≡ suc i = omega arith in ap (λ (n : ℕ). outputs_of (take n tables)) e ∙ by tables i table lt is
      where
        by : (tables : List Table) (i : ℕ) (table : Table) → i < length tables → table ≡ get_or tables i table → outputs_of (take (suc i) tables) ≡ outputs_of (take i tables) ++ table.output ∷ []
        by [] i table lt is = absurd (omega (arith, lt))
        by (first ∷ tables) zero table lt is = ap (λ (t : Table). t.output ∷ []) (sym is)
        by (first ∷ tables) (suc i) table lt is = ap (λ (ns : List (List ℕ)). first.output ∷ ns) (by tables i table (omega (arith, lt)) is)

    later : (tables : List Table) (i : ℕ) (table : Table) → i < length tables → table ≡ get_or tables i table → has (outputs_of tables) table.output ≡ true
    later [] i table lt is = absurd (omega (arith, lt))
    later (first ∷ tables) zero table lt is = subst (λ (t : Table). has (outputs_of (first ∷ tables)) t.output ≡ true) (sym is) (has_head first.output (outputs_of tables))
    later (first ∷ tables) (suc i) table lt is = by (bytes_eq table.output first.output) (later tables i table (omega (arith, lt)) is)
      where
        by : (b : Bool) → has (outputs_of tables) table.output ≡ true → (b || has (outputs_of tables) table.output) ≡ true
        by true h = refl
        by false h = h

    unseen : (tables : List Table) (i : ℕ) (table : Table) → all_different (outputs_of tables) ≡ true → i < length tables → table ≡ get_or tables i table → has (outputs_of (take i tables)) table.output ≡ false
    unseen [] i table differ lt is = absurd (omega (arith, lt))
    unseen (first ∷ tables) zero table differ lt is = refl
    unseen (first ∷ tables) (suc i) table differ lt is =
        by (bytes_eq table.output first.output) refl (unseen tables i table (different_tail first.output (outputs_of tables) differ) (omega (arith, lt)) is)
      where
        by : (b : Bool) → bytes_eq table.output first.output ≡ b → has (outputs_of (take i tables)) table.output ≡ false → (b || has (outputs_of (take i tables)) table.output) ≡ false
        by true e rest =
            absurd (false≢true (sym (different_head first.output (outputs_of tables) differ) ∙ subst (λ (n : List ℕ). has (outputs_of tables) n ≡ true) (same_name table.output first.output e) (later tables i table (omega (arith, lt)) is)))
        by false e rest = rest

pub all_placed : (places : List ℕ → Option ℕ) (tables : List Table) (i : ℕ) → length tables ≤ i → IsPlaced places (outputs_of (take i tables)) → IsPlaced places (outputs_of tables)
all_placed places tables i le h = subst (λ (ts : List Table). IsPlaced places (outputs_of ts)) (take_all i tables le) h

-- what is maintained beside a circuit at first
pub begun_beside : (circuit : Circuit) (latches : List Latch) (tables : List Table) (slots : List (Option Latch)) (fanout : List ℕ → Option (List ℕ)) (places : List ℕ → Option ℕ) (read : List (List ℕ)) (marked : ℕ → Bool) (count : ℕ)
    → tables ≡ circuit.tables → count ≡ length latches → slots ≡ map Some latches → AreUnder fanout latches → HasNoted fanout circuit.outputs → IsPlaced places (outputs_of tables) → ((name : List ℕ) → has read name ≡ dont_care_reads circuit name)
    → ((place : ℕ) → place < count → marked place ≡ true) → IsBeside slots fanout places read marked circuit
begun_beside circuit latches tables slots fanout places read marked count ts many s under noted placed reads all =
    subst (λ (ss : List (Option Latch)). IsBeside ss fanout places read marked circuit) (sym s) record {
      placed = subst (λ (xs : List Table). IsPlaced places (outputs_of xs)) ts placed;
      read = reads;
      fanout = under_slots fanout latches under;
      asked = noted;
      waiting = waiting_all circuit latches marked (λ place lt. all place (subst (λ (n : ℕ). place < n) (sym many) lt));
    }
