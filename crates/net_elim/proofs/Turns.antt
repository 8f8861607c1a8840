-- A table is composed into its fanouts, one after the other: the network at each step, and the
-- first fanout that refuses.
use Rattle.std.proofs.Common.{◌≡◌, ℕ, ◌+◌, ◌<◌, ◌≤◌, zero, suc, Bool, true, false, ◌||◌, if◌then◌else◌, ◌==◌, Option, Some, None, List, [], ◌∷◌, ◌++◌, take, length, get_or, set, position, bytes_eq, is_some, refl, sym, ap, ◌∙◌, subst, arith, inl, inr, eqb-true, ◌⊎◌, rules}
use Rattle.std.specs.List.Sorted.{IsNonDecreasing}
use Rattle.std.proofs.lemmas.List.{take_more, take_all}
use Rattle.std.specs.Option.{option_map, option_map_or, option_or}
use Rattle.std.proofs.lemmas.Bool.{false≢true, eqb-false}
use Rattle.std.proofs.lemmas.Option.{none-some, same_Some}
use Rattle.circuit_model.specs.Names.{has, all_different}
use Rattle.circuit_model.specs.Values.{driver}
use Rattle.circuit_model.specs.Soundness.{IsSound}
use Rattle.circuit_model.specs.declared.circuit.Table.{Table}
use Rattle.net_readers.specs.Fanouts.{is_in}
use Rattle.net_core.proofs.Removals.{tables_differ}
use Rattle.net_work.specs.Placed.{Placed, standing, circuit_of, table_at, with_slot}
use Rattle.net_work.specs.Slots.{inputs_in, inputs_at}
use Rattle.alg_tables.specs.Taking.{composed_into, take_refusal, refusal_at}
use Rattle.alg_tables.specs.declared.taking.ComposeFault.{ComposeFault}
use Rattle.alg_tables.proofs.Taken.{taken_unread, taken_apart}
use Rattle.net_elim.specs.Collapsing.{refusal_among}
use Rattle.net_elim.proofs.TakenIn.{own_unread}
use Rattle.net_elim.specs.Collapse.{IsCause}
use Rattle.net_elim.specs.declared.fault.CollapseFault.{CollapseFault}
use Rattle.net_elim.specs.declared.fault.CollapseFault.TheVariants.{CubeLimit, TooWide, Memory}
use Rattle.net_elim.specs.Phases.{IsPut, IsPutInAll}
use Rattle.net_work.proofs.Indexed.{all_at, drives}
use Rattle.net_elim.proofs.Stands.{some_there, written_there, written_elsewhere}
use Rattle.net_elim.proofs.Rising.{before_done, in_more, in_at, not_in_take}
use Rattle.sis_base.specs.declared.limits.TheConstants.{MAX_ROWS}

-- a table of a sound network does not read its own signal, and names each input once
pub own_apart : (placed : Placed) (place : ℕ) (inner : Table) → IsSound (circuit_of placed) → table_at placed.slots place ≡ Some inner → has inner.inputs inner.output ≡ false
own_apart placed place inner sound at = own_unread (circuit_of placed) inner sound (drives placed place inner sound at)

pub inputs_once : (placed : Placed) (place : ℕ) (table : Table) → IsSound (circuit_of placed) → table_at placed.slots place ≡ Some table → all_different table.inputs ≡ true
inputs_once placed place table sound at = all_at (λ (t : Table). all_different t.inputs ≡ true) placed.slots sound.table_inputs_once place table at

-- a table that does not read the signal refuses nothing
none_position : (names : List (List ℕ)) (name : List ℕ) → has names name ≡ false → position (bytes_eq name) names ≡ None
none_position [] name h = refl
none_position (first ∷ names) name h = cases (bytes_eq name first) refl h (none_position names name)
  where
    cases : (b : Bool) → bytes_eq name first ≡ b → (b || has names name) ≡ false → (has names name ≡ false → position (bytes_eq name) names ≡ None) → position (bytes_eq name) (first ∷ names) ≡ None
    cases true e k rest = absurd (false≢true (sym k))
    cases false e k rest = search rules

pub unread_takes : (list_limit row_limit : ℕ) (inner outer : Table) → has outer.inputs inner.output ≡ false → take_refusal list_limit row_limit inner outer ≡ None
unfolding take_refusal
unread_takes list_limit row_limit inner outer apart =
    ap (λ (o : Option ℕ). option_map_or (λ place. refusal_at list_limit row_limit place inner outer) o None) (none_position outer.inputs inner.output apart)

-- a first cause, and none
pub cause_or : (first rest : Option (List ℕ × ComposeFault)) (fault : CollapseFault) → IsCause first fault → IsCause (option_or first rest) fault
cause_or first rest (CubeLimit name) h = ap (λ (o : Option (List ℕ × ComposeFault)). option_or o rest) h
cause_or first rest (TooWide name count) h = ap (λ (o : Option (List ℕ × ComposeFault)). option_or o rest) h
cause_or first rest Memory h = tt

pub cause_none : (other : Option (List ℕ × ComposeFault)) (fault : CollapseFault) → IsCause None fault → IsCause other fault
cause_none other (CubeLimit name) h = absurd (none-some _ h)
cause_none other (TooWide name count) h = absurd (none-some _ h)
cause_none other Memory h = tt

abbrev named_fault : Table → Option ComposeFault → Option (List ℕ × ComposeFault)
named_fault outer found = option_map (λ (fault : ComposeFault). (outer.output, fault)) found

pub none_refuses : (inner : Table) (slots : List (Option Table)) → ((at : ℕ) (outer : Table) → table_at slots at ≡ Some outer → take_refusal MAX_ROWS MAX_ROWS inner outer ≡ None)
    → refusal_among inner (standing slots) ≡ None
unfolding refusal_among standing
none_refuses inner [] h = refl
none_refuses inner (None ∷ slots) h = none_refuses inner slots (λ at. h (suc at))
none_refuses inner (Some table ∷ slots) h =
    ap (λ (o : Option ComposeFault). option_or (named_fault table o) (refusal_among inner (standing slots))) (h 0 table refl) ∙ none_refuses inner slots (λ at. h (suc at))

first_found : (inner : Table) (slots : List (Option Table)) (place : ℕ) (outer : Table) → table_at slots place ≡ Some outer
    → ((at : ℕ) (other : Table) → at < place → table_at slots at ≡ Some other → take_refusal MAX_ROWS MAX_ROWS inner other ≡ None)
    → (rest : Option (List ℕ × ComposeFault)) × (refusal_among inner (standing slots) ≡ option_or (named_fault outer (take_refusal MAX_ROWS MAX_ROWS inner outer)) rest)
unfolding refusal_among standing
first_found inner [] place outer at before = absurd (none-some outer at)
first_found inner (None ∷ slots) zero outer at before = absurd (none-some outer at)
first_found inner (Some table ∷ slots) zero outer at before =
    (refusal_among inner (standing slots), ap (λ (t : Table). option_or (named_fault t (take_refusal MAX_ROWS MAX_ROWS inner t)) (refusal_among inner (standing slots))) (same_Some table outer at))
first_found inner (None ∷ slots) (suc place) outer at before = first_found inner slots place outer at (λ i other lt. before (suc i) other (omega (arith, lt)))
first_found inner (Some table ∷ slots) (suc place) outer at before =
    let (rest, is) = first_found inner slots place outer at (λ i other lt. before (suc i) other (omega (arith, lt))) in
    (rest, ap (λ (o : Option ComposeFault). option_or (named_fault table o) (refusal_among inner (standing slots))) (before 0 table (omega arith) refl) ∙ is)

-- no fanout is done yet
pub put_begun : (inner : Table) (placed : Placed) → IsPut inner [] placed placed
put_begun inner placed = record { frame = refl; tables = λ at. refl; within = λ at outer h. absurd (false≢true h) }

-- a fanout has the table composed into it, or is as it was before its step
now_there : (inner : Table) (done : List ℕ) (before now : Placed) (reader : ℕ) (outer : Table) → IsPut inner done before now → table_at before.slots reader ≡ Some outer
    → (table_at now.slots reader ≡ Some (composed_into inner outer)) ⊎ ((is_in done reader ≡ false) × (table_at now.slots reader ≡ Some outer))
now_there inner done before now reader outer put at = cases (is_in done reader) refl
  where
    here : (b : Bool) → is_in done reader ≡ b → table_at now.slots reader ≡ (if b then option_map (composed_into inner) (table_at before.slots reader) else table_at before.slots reader)
    here b e = put.tables reader ∙ ap (λ (x : Bool). if x then option_map (composed_into inner) (table_at before.slots reader) else table_at before.slots reader) e

    cases : (b : Bool) → is_in done reader ≡ b → (table_at now.slots reader ≡ Some (composed_into inner outer)) ⊎ ((is_in done reader ≡ false) × (table_at now.slots reader ≡ Some outer))
    cases true e = inl (here true e ∙ ap (option_map (composed_into inner)) at)
    cases false e = inr (e, here false e ∙ at)

-- an index without a step keeps its table
pub still_there : (inner : Table) (done : List ℕ) (before now : Placed) (place : ℕ) → IsPut inner done before now → is_in done place ≡ false → table_at now.slots place ≡ table_at before.slots place
still_there inner done before now place put apart =
    put.tables place ∙ ap (λ (x : Bool). if x then option_map (composed_into inner) (table_at before.slots place) else table_at before.slots place) apart

pub some_now : (inner : Table) (done : List ℕ) (before now : Placed) (reader : ℕ) (outer : Table) → IsPut inner done before now → table_at before.slots reader ≡ Some outer → is_some (table_at now.slots reader) ≡ true
some_now inner done before now reader outer put at =
    elim (now_there inner done before now reader outer put at) as (λ _. is_some (table_at now.slots reader) ≡ true) [
      | inl e ↦ ap is_some e
      | inr e ↦ ap is_some e.1
    ]

-- one more fanout
pub put_more : (inner : Table) (done : List ℕ) (before now new : Placed) (reader : ℕ) (outer : Table) → IsPut inner done before now → has inner.inputs inner.output ≡ false
    → table_at before.slots reader ≡ Some outer → all_different outer.inputs ≡ true
    → ((table : Table) → table_at now.slots reader ≡ Some table → new ≡ with_slot now reader (Some (composed_into inner table)))
    → ((table : Table) → table_at now.slots reader ≡ Some table → take_refusal MAX_ROWS MAX_ROWS inner table ≡ None) → IsPut inner (done ++ reader ∷ []) before new
put_more inner done before now new reader outer put apart at once set_there takes = record { frame = frame; tables = tables; within = within }
  where
    twice : composed_into inner (composed_into inner outer) ≡ composed_into inner outer
    twice = taken_apart inner (composed_into inner outer) (taken_unread inner outer once apart)

    there : (t : Table) × (table_at now.slots reader ≡ Some t) × (composed_into inner t ≡ composed_into inner outer)
    there = elim (now_there inner done before now reader outer put at) as (λ _. (t : Table) × (table_at now.slots reader ≡ Some t) × (composed_into inner t ≡ composed_into inner outer)) [
      | inl e ↦ (composed_into inner outer, e, twice)
      | inr e ↦ (outer, e.1, refl)
    ]

    is_new : new ≡ with_slot now reader (Some (composed_into inner outer))
    is_new = let (t, e, same) = there in set_there t e ∙ ap (λ (x : Table). with_slot now reader (Some x)) same

    frame : new.frame ≡ before.frame
    frame = ap (λ (p : Placed). p.frame) is_new ∙ put.frame

    tables : (i : ℕ) → table_at new.slots i ≡ (if is_in (done ++ reader ∷ []) i then option_map (composed_into inner) (table_at before.slots i) else table_at before.slots i)
    tables i = ap (λ (p : Placed). table_at p.slots i) is_new ∙ (cases (reader == i) refl ∙ ap (λ (x : Bool). if x then option_map (composed_into inner) (table_at before.slots i) else table_at before.slots i) (sym (in_more done reader i)))
      where
        or_true : (b : Bool) → (b || true) ≡ true
        or_true true = refl
        or_true false = refl

        or_false : (b : Bool) → (b || false) ≡ b
        or_false true = refl
        or_false false = refl

        cases : (b : Bool) → (reader == i) ≡ b → table_at (set now.slots reader (Some (composed_into inner outer))) i
            ≡ (if is_in done i || (reader == i) then option_map (composed_into inner) (table_at before.slots i) else table_at before.slots i)
        cases true e =
            let same : reader ≡ i = eqb-true reader i e in
            let (t, now_at, _) = there in
            ap (table_at (set now.slots reader (Some (composed_into inner outer)))) (sym same)
            ∙ (written_there now.slots reader t (Some (composed_into inner outer)) now_at
            ∙ (sym (ap (option_map (composed_into inner)) at)
            ∙ (ap (λ (n : ℕ). option_map (composed_into inner) (table_at before.slots n)) same
            ∙ ap (λ (x : Bool). if x then option_map (composed_into inner) (table_at before.slots i) else table_at before.slots i) (sym (ap (λ (x : Bool). is_in done i || x) e ∙ or_true (is_in done i))))))
        cases false e =
            written_elsewhere now.slots reader i (Some (composed_into inner outer)) (λ same. eqb-false reader i e (sym same))
            ∙ (put.tables i
            ∙ ap (λ (x : Bool). if x then option_map (composed_into inner) (table_at before.slots i) else table_at before.slots i) (sym (ap (λ (x : Bool). is_in done i || x) e ∙ or_false (is_in done i))))

    within : (i : ℕ) (other : Table) → is_in (done ++ reader ∷ []) i ≡ true → table_at before.slots i ≡ Some other → take_refusal MAX_ROWS MAX_ROWS inner other ≡ None
    within i other among other_at = cases (is_in done i) refl (sym (in_more done reader i) ∙ among)
      where
        cases : (b : Bool) → is_in done i ≡ b → (b || (reader == i)) ≡ true → take_refusal MAX_ROWS MAX_ROWS inner other ≡ None
        cases true e k = put.within i other e other_at
        cases false e k =
            let same : reader ≡ i = eqb-true reader i k in
            takes other (still_there inner done before now reader put (ap (is_in done) same ∙ e) ∙ (ap (table_at before.slots) same ∙ other_at))

-- all fanouts are done
read_at : (slots : List (Option Table)) (at : ℕ) (outer : Table) (name : List ℕ) → table_at slots at ≡ Some outer → has (inputs_at slots at) name ≡ has outer.inputs name
read_at slots at outer name there = ap (λ (o : Option Table). has (inputs_in o) name) there

pub put_complete : (inner : Table) (readers : List ℕ) (before now : Placed) → IsPut inner readers before now → ((at : ℕ) → is_in readers at ≡ has (inputs_at before.slots at) inner.output) → IsPutInAll inner before now
put_complete inner readers before now put exact = record { frame = put.frame; tables = λ at. cases at (is_in readers at) refl (table_at before.slots at) refl }
  where
    cases : (at : ℕ) (b : Bool) → is_in readers at ≡ b → (found : Option Table) → table_at before.slots at ≡ found → table_at now.slots at ≡ option_map (composed_into inner) (table_at before.slots at)
    cases at true e found there = put.tables at ∙ ap (λ (x : Bool). if x then option_map (composed_into inner) (table_at before.slots at) else table_at before.slots at) e
    cases at false e None there = still_there inner readers before now at put e ∙ (there ∙ sym (ap (option_map (composed_into inner)) there))
    cases at false e (Some outer) there =
        still_there inner readers before now at put e
        ∙ (there
        ∙ (ap (λ (t : Table). Some t) (sym (taken_apart inner outer (sym (read_at before.slots at outer inner.output there) ∙ (sym (exact at) ∙ e)))) ∙ sym (ap (option_map (composed_into inner)) there)))

takes_there : (inner : Table) (before : Placed) (among : Bool) (at : ℕ) (outer : Table) → table_at before.slots at ≡ Some outer → among ≡ has (inputs_at before.slots at) inner.output
    → (among ≡ true → take_refusal MAX_ROWS MAX_ROWS inner outer ≡ None) → take_refusal MAX_ROWS MAX_ROWS inner outer ≡ None
takes_there inner before true at outer there exact h = h refl
takes_there inner before false at outer there exact h = unread_takes MAX_ROWS MAX_ROWS inner outer (sym (read_at before.slots at outer inner.output there) ∙ sym exact)

pub none_complete : (inner : Table) (readers : List ℕ) (before now : Placed) → IsPut inner readers before now → ((at : ℕ) → is_in readers at ≡ has (inputs_at before.slots at) inner.output)
    → refusal_among inner (standing before.slots) ≡ None
none_complete inner readers before now put exact =
    none_refuses inner before.slots (λ at outer there. takes_there inner before (is_in readers at) at outer there (exact at) (λ among. put.within at outer among there))

-- the first refusal in the order of indices
pub refused_first : (inner : Table) (readers : List ℕ) (before now : Placed) (i reader : ℕ) (outer : Table) → IsPut inner (take i readers) before now → ((at : ℕ) → is_in readers at ≡ has (inputs_at before.slots at) inner.output)
    → (rises : (at : ℕ) → is_in readers at ≡ true → at < reader → is_in (take i readers) at ≡ true) → has inner.inputs inner.output ≡ false
    → table_at before.slots reader ≡ Some outer → all_different outer.inputs ≡ true
    → (fault : CollapseFault) → ((table : Table) → table_at now.slots reader ≡ Some table → IsCause (named_fault table (take_refusal MAX_ROWS MAX_ROWS inner table)) fault) → IsCause (refusal_among inner (standing before.slots)) fault
refused_first inner readers before now i reader outer put exact rises apart at once fault cause =
    elim (now_there inner (take i readers) before now reader outer put at) as (λ _. IsCause (refusal_among inner (standing before.slots)) fault) [
      | inl e ↦ cause_none (refusal_among inner (standing before.slots)) fault
          (subst (λ (o : Option ComposeFault). IsCause (named_fault (composed_into inner outer) o) fault) (unread_takes MAX_ROWS MAX_ROWS inner (composed_into inner outer) (taken_unread inner outer once apart)) (cause (composed_into inner outer) e))
      | inr e ↦
          let (rest, is) = first_found inner before.slots reader outer at (λ p other lt there.
          takes_there inner before (is_in readers p) p other there (exact p) (λ among. put.within p other (rises p among lt) there)) in
          subst (λ (o : Option (List ℕ × ComposeFault)). IsCause o fault) (sym is) (cause_or (named_fault outer (take_refusal MAX_ROWS MAX_ROWS inner outer)) rest fault (cause outer e.1))
    ]

-- what holds before the step of a fanout
pub record IsStep (before now : Placed) (place : ℕ) (readers : List ℕ) (i reader : ℕ) : Type 0 where
  pub sound : IsSound (circuit_of before)
  pub there : is_some (table_at before.slots place) ≡ true
  pub exact : (inner : Table) → table_at before.slots place ≡ Some inner → (at : ℕ) → is_in readers at ≡ has (inputs_at before.slots at) inner.output
  pub rising : IsNonDecreasing readers
  pub long : i < length readers
  pub is : reader ≡ get_or readers i 0
  pub put : (inner : Table) → table_at before.slots place ≡ Some inner → IsPut inner (take i readers) before now

own_place : (before : Placed) (place : ℕ) (readers : List ℕ) (i : ℕ) (inner : Table) → IsSound (circuit_of before) → ((at : ℕ) → is_in readers at ≡ has (inputs_at before.slots at) inner.output)
    → table_at before.slots place ≡ Some inner → is_in (take i readers) place ≡ false
own_place before place readers i inner sound exact at =
    not_in_take readers i place (exact place ∙ (read_at before.slots place inner inner.output at ∙ own_apart before place inner sound at))

reads_there : (found : Option Table) (name : List ℕ) → has (inputs_in found) name ≡ true → (outer : Table) × (found ≡ Some outer)
reads_there None name h = absurd (false≢true h)
reads_there (Some outer) name h = (outer, refl)

reader_there : (before now : Placed) (place : ℕ) (readers : List ℕ) (i reader : ℕ) → IsStep before now place readers i reader → (inner : Table) → table_at before.slots place ≡ Some inner
    → (outer : Table) × (table_at before.slots reader ≡ Some outer)
reader_there before now place readers i reader step inner at =
    reads_there (table_at before.slots reader) inner.output (sym (step.exact inner at reader) ∙ in_at readers i reader step.long step.is)

inner_stays : (before now : Placed) (place : ℕ) (readers : List ℕ) (i reader : ℕ) → IsStep before now place readers i reader → (inner : Table) → table_at before.slots place ≡ Some inner
    → table_at now.slots place ≡ table_at before.slots place
inner_stays before now place readers i reader step inner at =
    still_there inner (take i readers) before now place (step.put inner at) (own_place before place readers i inner step.sound (step.exact inner at) at)

pub step_there : (before now : Placed) (place : ℕ) (readers : List ℕ) (i reader : ℕ) → IsStep before now place readers i reader → is_some (table_at now.slots place) ≡ true
step_there before now place readers i reader step =
    let (inner, at) = some_there (table_at before.slots place) step.there in
    some_now inner (take i readers) before now place inner (step.put inner at) at

pub step_reader : (before now : Placed) (place : ℕ) (readers : List ℕ) (i reader : ℕ) → IsStep before now place readers i reader → is_some (table_at now.slots reader) ≡ true
step_reader before now place readers i reader step =
    let (inner, at) = some_there (table_at before.slots place) step.there in
    let (outer, there) = reader_there before now place readers i reader step inner at in
    some_now inner (take i readers) before now reader outer (step.put inner at) there

pub step_apart : (before now : Placed) (place : ℕ) (readers : List ℕ) (i reader : ℕ) → IsStep before now place readers i reader → (inner : Table) → table_at now.slots place ≡ Some inner
    → has inner.inputs inner.output ≡ false
step_apart before now place readers i reader step inner at =
    let (old, there) = some_there (table_at before.slots place) step.there in
    own_apart before place inner step.sound (sym (inner_stays before now place readers i reader step old there) ∙ at)

pub step_more : (before now new : Placed) (place : ℕ) (readers : List ℕ) (i reader : ℕ) → IsStep before now place readers i reader
    → ((inner outer : Table) → table_at now.slots place ≡ Some inner → table_at now.slots reader ≡ Some outer → new ≡ with_slot now reader (Some (composed_into inner outer)))
    → ((inner outer : Table) → table_at now.slots place ≡ Some inner → table_at now.slots reader ≡ Some outer → take_refusal MAX_ROWS MAX_ROWS inner outer ≡ None)
    → (inner : Table) → table_at before.slots place ≡ Some inner → IsPut inner (take (i + 1) readers) before new
step_more before now new place readers i reader step puts takes inner at =
    let (outer, there) = reader_there before now place readers i reader step inner at in
    let stays : table_at now.slots place ≡ Some inner = inner_stays before now place readers i reader step inner at ∙ at in
    subst (λ (done : List ℕ). IsPut inner done before new)
    (sym (take_more readers i 0 step.long ∙ ap (λ (n : ℕ). take i readers ++ n ∷ []) (sym step.is)))
    (put_more inner (take i readers) before now new reader outer (step.put inner at) (own_apart before place inner step.sound at) there (inputs_once before reader outer step.sound there)
    (λ table now_at. puts inner table stays now_at) (λ table now_at. takes inner table stays now_at))

pub step_refused : (before now : Placed) (place : ℕ) (readers : List ℕ) (i reader : ℕ) → IsStep before now place readers i reader → (fault : CollapseFault)
    → ((inner outer : Table) → table_at now.slots place ≡ Some inner → table_at now.slots reader ≡ Some outer → IsCause (option_map (λ (found : ComposeFault). (outer.output, found)) (take_refusal MAX_ROWS MAX_ROWS inner outer)) fault)
    → (inner : Table) → table_at before.slots place ≡ Some inner → IsCause (refusal_among inner (standing before.slots)) fault
step_refused before now place readers i reader step fault cause inner at =
    let (outer, there) = reader_there before now place readers i reader step inner at in
    let stays : table_at now.slots place ≡ Some inner = inner_stays before now place readers i reader step inner at ∙ at in
    refused_first inner readers before now i reader outer (step.put inner at) (step.exact inner at)
    (λ p among lt. before_done readers i reader p step.rising step.long step.is among lt)
    (own_apart before place inner step.sound at) there (inputs_once before reader outer step.sound there) fault (λ table now_at. cause inner table stays now_at)

-- at the end all fanouts are done
pub put_ended : (inner : Table) (readers : List ℕ) (i : ℕ) (before now : Placed) → IsPut inner (take i readers) before now → length readers ≤ i → IsPut inner readers before now
put_ended inner readers i before now put long = subst (λ (done : List ℕ). IsPut inner done before now) (take_all i readers long) put
