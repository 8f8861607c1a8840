-- A table is composed into all its fanouts: what is made for each fanout, the network after it is
-- set, and when a fanout refuses.
use Rattle.std.proofs.Common.{◌≡◌, ℕ, ◌<◌, ◌==◌, arith, length, get_or, zero, suc, Bool, true, false, ◌||◌, Option, Some, None, is_some, is_none, List, [], ◌∷◌, ◌++◌, bytes_eq, position, slice_get, set, refl, sym, ap, ◌∙◌, subst, inl, inr, ◌⊎◌}
use Rattle.std.specs.List.{AllByRecursion}
use Rattle.std.specs.Option.{option_map, option_map_or}
use Rattle.std.proofs.lemmas.Bool.{false≢true, eqb-true, eqb-false, eq-eqb, or_cases, or_left, or_right}
use Rattle.std.proofs.lemmas.Option.{same_Some, slice_get-map}
use Rattle.circuit_model.specs.Names.{has, all_different}
use Rattle.circuit_model.specs.Soundness.{IsSound}
use Rattle.circuit_model.specs.declared.circuit.Table.{Table}
use Rattle.circuit_model.specs.declared.circuit.Circuit.{Circuit}
use Rattle.net_elim.specs.Eliminating.{all_take}
use Rattle.net_elim.proofs.TakenIn.{own_unread}
use Rattle.net_readers.specs.Fanouts.{is_in}
use Rattle.net_core.specs.Places.{written_of}
use Rattle.net_core.specs.Tables.{named}
use Rattle.net_core.specs.declared.places.Entry.{Entry}
use Rattle.net_core.specs.declared.table.CoverTable.{CoverTable}
use Rattle.net_core.proofs.Lookups.{get_set_same, get_set_other}
use Rattle.net_core.proofs.Removals.{tables_differ}
use Rattle.net_work.specs.Placed.{Placed, circuit_of, joined, table_at, with_slot}
use Rattle.net_work.specs.Slots.{inputs_in, inputs_at}
use Rattle.net_work.proofs.Standing.{place_there}
use Rattle.alg_tables.specs.Taking.{composed_into, take_refusal, refusal_at}
use Rattle.alg_tables.specs.declared.taking.ComposeFault.{ComposeFault}
use Rattle.alg_tables.proofs.Places.{IsFound, found}
use Rattle.alg_tables.proofs.Taken.{taken_output, taken_once, taken_apart}
use Rattle.net_elim.specs.Putting.{slots_taken, with_put, IsMade, AreMade, places_made}
use Rattle.net_elim.specs.declared.putting.Made.{Made}
use Rattle.net_elim.specs.declared.putting.PutFault.{PutFault}
use Rattle.net_elim.specs.declared.putting.PutFault.TheVariants.{Refused, Memory}
use Rattle.net_work.proofs.Indexed.{drives_at}
use Rattle.net_elim.proofs.Places.{same_lists, tests_all, tests_none}
use Rattle.sis_base.specs.declared.limits.TheConstants.{MAX_ROWS}

-- one fanout
module _ {R : Type 0} where
  pub made_is : (slots : List (Option Table)) (at : ℕ) (inner : Table) (entry : Entry R) (made : CoverTable R) → Some (written_of entry) ≡ table_at slots at
      → ((output : List ℕ) → named output made ≡ composed_into inner (named output entry.table)) → (outer : Table) → table_at slots at ≡ Some outer → named outer.output made ≡ composed_into inner outer
  unfolding named
  made_is slots at inner entry made there ok outer e =
      subst (λ (o : Table). named o.output made ≡ composed_into inner o) (same_Some (written_of entry) outer (there ∙ e)) (ok entry.output)

  pub made_once : (inner : Table) (entry : Entry R) (made : CoverTable R) → all_different entry.table.inputs ≡ true → ((output : List ℕ) → named output made ≡ composed_into inner (named output entry.table))
      → all_different made.inputs ≡ true
  unfolding named
  made_once inner entry made once ok = ap (λ (t : Table). all_different t.inputs) (ok []) ∙ taken_once inner (named [] entry.table) once

-- a table that does not read the composed one refuses nothing
pub unread_takes : (lists rows : ℕ) (inner outer : Table) → has outer.inputs inner.output ≡ false → take_refusal lists rows inner outer ≡ None
unfolding take_refusal
unread_takes lists rows inner outer apart = cases (position (bytes_eq inner.output) outer.inputs) (found outer.inputs inner.output)
  where
    cases : (o : Option ℕ) → IsFound outer.inputs inner.output o → option_map_or (λ place. refusal_at lists rows place inner outer) o None ≡ None
    cases None f = refl
    cases (Some place) f = absurd (false≢true (sym apart ∙ f.2))

-- fanouts
pub reader_there : (slots : List (Option Table)) (at : ℕ) (name : List ℕ) → has (inputs_at slots at) name ≡ true → is_some (table_at slots at) ≡ true
reader_there slots at name h = cases (table_at slots at) h
  where
    cases : (o : Option Table) → has (inputs_in o) name ≡ true → is_some o ≡ true
    cases None k = absurd (false≢true k)
    cases (Some t) k = refl

pub all_taken : (rows : ℕ) (placed : Placed) (inner : Table) (readers : List ℕ) → ((at : ℕ) → is_in readers at ≡ has (inputs_at placed.slots at) inner.output)
    → ((at : ℕ) (outer : Table) → is_in readers at ≡ true → table_at placed.slots at ≡ Some outer → take_refusal MAX_ROWS rows inner outer ≡ None) → all_take rows (circuit_of placed) inner ≡ true
unfolding all_take
all_taken rows placed inner readers are fits =
    tests_all (λ (outer : Table). is_none (take_refusal MAX_ROWS rows inner outer)) placed.slots (λ at outer e. cases at outer e (has outer.inputs inner.output) refl)
  where
    cases : (at : ℕ) (outer : Table) → table_at placed.slots at ≡ Some outer → (b : Bool) → has outer.inputs inner.output ≡ b → is_none (take_refusal MAX_ROWS rows inner outer) ≡ true
    cases at outer e true k =
        ap is_none (fits at outer (are at ∙ (ap (λ (o : Option Table). has (inputs_in o) inner.output) e ∙ k)) e)
    cases at outer e false k = ap is_none (unread_takes MAX_ROWS rows inner outer k)

pub none_taken : (rows : ℕ) (placed : Placed) (inner : Table) (at : ℕ) (outer : Table) → table_at placed.slots at ≡ Some outer → is_some (take_refusal MAX_ROWS rows inner outer) ≡ true
    → all_take rows (circuit_of placed) inner ≡ false
unfolding all_take
none_taken rows placed inner at outer e h =
    tests_none (λ (o : Table). is_none (take_refusal MAX_ROWS rows inner o)) placed.slots at outer e (refused (take_refusal MAX_ROWS rows inner outer) h)
  where
    refused : (o : Option ComposeFault) → is_some o ≡ true → is_none o ≡ false
    refused None k = absurd (false≢true k)
    refused (Some fault) k = refl

-- no table of a sound network reads its own signal
pub own_apart : (placed : Placed) (at : ℕ) (inner : Table) → IsSound (circuit_of placed) → table_at placed.slots at ≡ Some inner → has inner.inputs inner.output ≡ false
own_apart placed at inner sound e =
    own_unread (circuit_of placed) inner sound (drives_at placed.slots (tables_differ (circuit_of placed) sound) at inner e)

-- the table at an index where one is to be set
pub before_there : (slots : List (Option Table)) (at : ℕ) → is_some (table_at slots at) ≡ true → (outer : Table) × (table_at slots at ≡ Some outer)
before_there slots at h = cases (table_at slots at) refl h
  where
    cases : (o : Option Table) → table_at slots at ≡ o → is_some o ≡ true → (outer : Table) × (table_at slots at ≡ Some outer)
    cases None e k = absurd (false≢true k)
    cases (Some outer) e k = (outer, e)

pub taken_there : (inner : Table) (slots : List (Option Table)) (at : ℕ) (outer : Table) → table_at slots at ≡ Some outer → slice_get (slots_taken inner slots) at ≡ Some (Some (composed_into inner outer))
taken_there inner slots at outer e = slice_get-map (option_map (composed_into inner)) slots at ∙ ap (option_map (option_map (composed_into inner))) (place_there slots at outer e)

-- the tables made are set, one after the other
module _ {R : Type 0} where
  pub record IsPartly (inner : Table) (left : List (Made R)) (before now : Placed) : Type 0 where
    pub frame : now.frame ≡ before.frame
    pub each : AllByRecursion (IsMade inner before.slots) left
    pub either : (at : ℕ) → (slice_get now.slots at ≡ slice_get (slots_taken inner before.slots) at) ⊎ ((slice_get now.slots at ≡ slice_get before.slots at) × (is_in (places_made left) at ≡ true))

  pub partly_begun : (inner : Table) (made : List (Made R)) (before : Placed) → AreMade inner before.slots made → IsPartly inner made before before
  partly_begun inner made before are = record {
    frame = refl;
    each = are.each;
    either = λ at. cases at (has (inputs_at before.slots at) inner.output) refl;
  }
    where
      same : (o : Option (Option Table)) → has (inputs_in (joined o)) inner.output ≡ false → o ≡ option_map (option_map (composed_into inner)) o
      same None apart = refl
      same (Some None) apart = refl
      same (Some (Some t)) apart = ap (λ (u : Table). Some (Some u)) (sym (taken_apart inner t apart))

      cases : (at : ℕ) (b : Bool) → has (inputs_at before.slots at) inner.output ≡ b
          → (slice_get before.slots at ≡ slice_get (slots_taken inner before.slots) at) ⊎ ((slice_get before.slots at ≡ slice_get before.slots at) × (is_in (places_made made) at ≡ true))
      cases at true reads = inr (refl, are.readers at reads)
      cases at false apart = inl (same (slice_get before.slots at) apart ∙ sym (slice_get-map (option_map (composed_into inner)) before.slots at))

  pub front_of : (P : Made R → Type 0) (front : List (Made R)) (one : Made R) → AllByRecursion P (front ++ one ∷ []) → AllByRecursion P front × P one
  front_of P [] one all = (tt, all.0)
  front_of P (first ∷ front) one all = let rest = front_of P front one all.1 in ((all.0, rest.0), rest.1)

  in_front : (front : List (Made R)) (one : Made R) (at : ℕ) → (one.place == at) ≡ false → is_in (places_made (front ++ one ∷ [])) at ≡ true → is_in (places_made front) at ≡ true
  in_front [] one at other h =
      elim (or_cases (one.place == at) false h) as (λ _. false ≡ true) [ inl e ↦ sym other ∙ e | inr e ↦ e ]
  in_front (first ∷ front) one at other h = cases (first.place == at) h (in_front front one at other)
    where
      cases : (b : Bool) → (b || is_in (places_made (front ++ one ∷ [])) at) ≡ true → (is_in (places_made (front ++ one ∷ [])) at ≡ true → is_in (places_made front) at ≡ true) → (b || is_in (places_made front) at) ≡ true
      cases true k more = refl
      cases false k more = more k

  now_there : (inner : Table) (left : List (Made R)) (before now : Placed) → IsPartly inner left before now → (at : ℕ) (outer : Table) → table_at before.slots at ≡ Some outer
      → (t : Table) × (slice_get now.slots at ≡ Some (Some t)) × (t.output ≡ outer.output)
  now_there inner left before now h at outer e =
      elim (h.either at) as (λ _. (t : Table) × (slice_get now.slots at ≡ Some (Some t)) × (t.output ≡ outer.output)) [
        | inl done ↦ (composed_into inner outer, done ∙ taken_there inner before.slots at outer e, taken_output inner outer)
        | inr wait ↦ (outer, wait.0 ∙ place_there before.slots at outer e, refl)
      ]

  pub partly_there : (inner : Table) (left rest : List (Made R)) (one : Made R) (before now : Placed) → IsPartly inner left before now → left ≡ rest ++ one ∷ [] → is_some (table_at now.slots one.place) ≡ true
  partly_there inner left rest one before now h split =
      let last = (front_of (IsMade inner before.slots) rest one (subst (AllByRecursion (IsMade inner before.slots)) split h.each)).1 in
      let (outer, e) = before_there before.slots one.place last.there in
      let (t, there, same) = now_there inner left before now h one.place outer e in
      ap (λ (o : Option (Option Table)). is_some (joined o)) there

  pub partly_more : (inner : Table) (left rest : List (Made R)) (one : Made R) (before now next : Placed) → IsPartly inner left before now → left ≡ rest ++ one ∷ []
      → ((old : Table) → table_at now.slots one.place ≡ Some old → next ≡ with_slot now one.place (Some (named old.output one.table))) → IsPartly inner rest before next
  partly_more inner left rest one before now next h split sets =
      let parts = front_of (IsMade inner before.slots) rest one (subst (AllByRecursion (IsMade inner before.slots)) split h.each) in
      let (outer, e) = before_there before.slots one.place parts.1.there in
      let (t, there, same) = now_there inner left before now h one.place outer e in
      let is : next ≡ with_slot now one.place (Some (named t.output one.table)) = sets t (ap joined there) in
      let made : named t.output one.table ≡ composed_into inner outer = ap (λ (name : List ℕ). named name one.table) same ∙ parts.1.is outer e in
      subst (IsPartly inner rest before) (sym is) (record {
        frame = h.frame;
        each = parts.0;
        either = λ at. cases t there outer e made at (one.place == at) refl;
      })
    where
      cases : (t : Table) → slice_get now.slots one.place ≡ Some (Some t) → (outer : Table) → table_at before.slots one.place ≡ Some outer → named t.output one.table ≡ composed_into inner outer → (at : ℕ) (b : Bool) → (one.place == at) ≡ b
          → (slice_get (set now.slots one.place (Some (named t.output one.table))) at ≡ slice_get (slots_taken inner before.slots) at)
          ⊎ ((slice_get (set now.slots one.place (Some (named t.output one.table))) at ≡ slice_get before.slots at) × (is_in (places_made rest) at ≡ true))
      cases t there outer e made at true here =
          subst (λ (i : ℕ). (slice_get (set now.slots one.place (Some (named t.output one.table))) i ≡ slice_get (slots_taken inner before.slots) i)
          ⊎ ((slice_get (set now.slots one.place (Some (named t.output one.table))) i ≡ slice_get before.slots i) × (is_in (places_made rest) i ≡ true))) (eqb-true one.place at here)
          (inl (get_set_same now.slots one.place (Some t) (Some (named t.output one.table)) there ∙ (ap (λ (u : Table). Some (Some u)) made ∙ sym (taken_there inner before.slots one.place outer e))))
      cases t there outer e made at false other =
          let stays : slice_get (set now.slots one.place (Some (named t.output one.table))) at ≡ slice_get now.slots at = get_set_other now.slots one.place at (Some (named t.output one.table)) (λ s. eqb-false one.place at other (sym s)) in
          elim (h.either at) as (λ _. (slice_get (set now.slots one.place (Some (named t.output one.table))) at ≡ slice_get (slots_taken inner before.slots) at)
          ⊎ ((slice_get (set now.slots one.place (Some (named t.output one.table))) at ≡ slice_get before.slots at) × (is_in (places_made rest) at ≡ true))) [
            | inl done ↦ inl (stays ∙ done)
            | inr wait ↦ inr (stays ∙ wait.0, in_front rest one at other (ap (λ (ms : List (Made R)). is_in (places_made ms) at) (sym split) ∙ wait.1))
          ]

  pub partly_ended : (inner : Table) (left : List (Made R)) (before now : Placed) → IsPartly inner left before now → left ≡ [] → now ≡ with_put inner before
  partly_ended inner left before now h none =
      let slots : now.slots ≡ slots_taken inner before.slots = same_lists now.slots (slots_taken inner before.slots) (λ at. cases at (h.either at)) in
      ap (λ (ss : List (Option Table)). record now { slots = ss }) slots ∙ ap (λ (frame : Circuit). record before { frame = frame; slots = slots_taken inner before.slots }) h.frame
    where
      cases : (at : ℕ) → (slice_get now.slots at ≡ slice_get (slots_taken inner before.slots) at) ⊎ ((slice_get now.slots at ≡ slice_get before.slots at) × (is_in (places_made left) at ≡ true))
          → slice_get now.slots at ≡ slice_get (slots_taken inner before.slots) at
      cases at (inl done) = done
      cases at (inr wait) = absurd (false≢true (ap (λ (ms : List (Made R)). is_in (places_made ms) at) (sym none) ∙ wait.1))

-- the fanouts of an entry
module _ {R : Type 0} where
  pub made_all : (placed : Placed) (place : ℕ) (entry : Entry R) (readers : List ℕ) (made : List (Made R)) → Some (written_of entry) ≡ table_at placed.slots place
      → ((at : ℕ) → is_in readers at ≡ has (inputs_at placed.slots at) entry.output) → places_made made ≡ readers → AllByRecursion (IsMade (written_of entry) placed.slots) made
      → (inner : Table) → table_at placed.slots place ≡ Some inner → AreMade inner placed.slots made
  unfolding named
  made_all placed place entry readers made there are same all inner e =
      subst (λ (t : Table). AreMade t placed.slots made) (same_Some (written_of entry) inner (there ∙ e)) (record {
        each = all;
        readers = λ at reads. ap (λ (ps : List ℕ). is_in ps at) same ∙ (are at ∙ reads);
      })

  pub entry_takes : (rows : ℕ) (placed : Placed) (place : ℕ) (entry : Entry R) (readers : List ℕ) → Some (written_of entry) ≡ table_at placed.slots place
      → ((at : ℕ) → is_in readers at ≡ has (inputs_at placed.slots at) entry.output)
      → ((at : ℕ) (outer : Table) → is_in readers at ≡ true → table_at placed.slots at ≡ Some outer → take_refusal MAX_ROWS rows (written_of entry) outer ≡ None)
      → (inner : Table) → table_at placed.slots place ≡ Some inner → all_take rows (circuit_of placed) inner ≡ true
  unfolding named
  entry_takes rows placed place entry readers there are fits inner e =
      subst (λ (t : Table). all_take rows (circuit_of placed) t ≡ true) (same_Some (written_of entry) inner (there ∙ e)) (all_taken rows placed (written_of entry) readers are fits)

  pub entry_refused : (rows : ℕ) (placed : Placed) (place : ℕ) (entry : Entry R) (fault : PutFault) → Some (written_of entry) ≡ table_at placed.slots place
      → (fault ≡ Memory) ⊎ ((fault ≡ Refused) × ((at : ℕ) × ((outer : Table) → table_at placed.slots at ≡ Some outer → is_some (take_refusal MAX_ROWS rows (written_of entry) outer) ≡ true) × (is_some (table_at placed.slots at) ≡ true)))
      → (fault ≡ Memory) ⊎ ((fault ≡ Refused) × ((inner : Table) → table_at placed.slots place ≡ Some inner → all_take rows (circuit_of placed) inner ≡ false))
  entry_refused rows placed place entry fault there (inl none) = inl none
  entry_refused rows placed place entry fault there (inr (is, (at, refuses, stands))) =
      inr (
        is,
        λ inner e.
            let (outer, here) = before_there placed.slots at stands in
            subst (λ (t : Table). all_take rows (circuit_of placed) t ≡ false) (same_Some (written_of entry) inner (there ∙ e)) (none_taken rows placed (written_of entry) at outer here (refuses outer here)),
      )

  pub refused_among : (rows : ℕ) (placed : Placed) (entry : Entry R) (fault : PutFault) (at : ℕ) → is_some (table_at placed.slots at) ≡ true
      → (fault ≡ Memory) ⊎ ((fault ≡ Refused) × ((outer : Table) → table_at placed.slots at ≡ Some outer → is_some (take_refusal MAX_ROWS rows (written_of entry) outer) ≡ true))
      → (fault ≡ Memory) ⊎ ((fault ≡ Refused) × ((x : ℕ) × ((outer : Table) → table_at placed.slots x ≡ Some outer → is_some (take_refusal MAX_ROWS rows (written_of entry) outer) ≡ true) × (is_some (table_at placed.slots x) ≡ true)))
  refused_among rows placed entry fault at stands (inl none) = inl none
  refused_among rows placed entry fault at stands (inr (is, refuses)) = inr (is, (at, refuses, stands))

pub listed : (places : List ℕ) (i d : ℕ) → i < length places → is_in places (get_or places i d) ≡ true
listed [] i d lt = absurd (omega (arith, lt))
listed (place ∷ places) zero d lt = or_left (place == place) (is_in places place) (eq-eqb place place refl)
listed (place ∷ places) (suc i) d lt = or_right (place == get_or places i d) (is_in places (get_or places i d)) (listed places i d (omega (arith, lt)))
