-- What the calls inside a step promise, each by cases on its answer. The only public clauses over
-- these definitions are those of `load` and of the session's `read` and `undo`. Source: the
-- project's own rule: an answer names what failed, and only a command that is done changes what is
-- held.
use Rattle.std.specs.Prelude.{◌≡◌, ℕ, ◌<◌, ◌≤◌, Bool, true, false, List, [], ◌∷◌, Option, Some, None, Result, Ok, Err}
use Rattle.std.specs.Global.{Vec}
use Rattle.sis_text.specs.Entries.{entries_of}
use Rattle.sis_outside.specs.Calls.{StoreCall, Load, Save, PutCall, load_failed}
use Rattle.sis_outside.specs.declared.store.LoadFault.{LoadFault}
use Rattle.sis_outside.specs.declared.store.LoadFault.TheVariants as load
use Rattle.sis_outside.specs.declared.store.SaveFault.TheVariants as save
use Rattle.sis_outside.specs.declared.sink.PutFault.TheVariants as put
use Rattle.circuit_model.specs.declared.circuit.Circuit.{Circuit}
use Rattle.circuit_model.specs.declared.machine.Spec.{Spec}
use Rattle.blif_read.specs.Reader.{read_lines}
use Rattle.blif_lines.specs.declared.fault.BlifFault.{BlifFault}
use Rattle.sis_text.specs.declared.read_fault.ReadFault.{ReadFault}
use Rattle.sis_text.specs.declared.read_fault.ReadFault.TheVariants as reading
use Rattle.sis_script.specs.declared.command.Change.{Change}
use Rattle.circuit_model.specs.declared.machine.Machine.{Machine}
use Rattle.state_code.specs.Codes.{codes_of}
use Rattle.state_code.specs.Encoded.{encoded}
use Rattle.state_code.specs.declared.codes.Style.{Style}
use Rattle.sis_base.specs.declared.limits.TheConstants.{MAX_INPUTS}
use Rattle.state_code.specs.Codes.{leaf_count}
use Rattle.map_net.specs.Mapping.{Maps}
use Rattle.map_net.specs.declared.mapping.MapFault.{MapFault}
use Rattle.sis_session.specs.declared.mapping.ToldNetlist.{ToldNetlist}
use Rattle.sis_session.specs.Commands.{Changes, Declines, refusal_of}
use Rattle.sis_session.specs.Replies.{codes_text, map_text}
use Rattle.sis_session.specs.declared.encoding.CodedNetwork.{CodedNetwork}
use Rattle.sis_session.specs.Plan.{MAX_BYTES}
use Rattle.sis_session.specs.State.{Held, Library, with_spec, with_exchanged}
use Rattle.sis_session.specs.declared.refusal.Next.{Next}
use Rattle.sis_session.specs.declared.refusal.Next.TheVariants.{Go}
use Rattle.sis_session.specs.declared.refusal.Refusal.{Refusal}
use Rattle.sis_session.specs.declared.refusal.Refusal.TheVariants as refusal
use Rattle.sis_session.specs.declared.refusal.StepFault.{StepFault}
use Rattle.sis_session.specs.declared.refusal.StepFault.TheVariants as fault

-- nothing was asked of an object
abbrev pub AskedNone : {C : Type 0} → List C → Type 0
AskedNone calls = calls ≡ []

-- a file was loaded by one call: its bytes, or why there are none; memory may run out after any
-- answer but a failure
abbrev pub HasLoaded : {S : Type 0} → (S → StoreCall → S → Type 0) → List ℕ → S → Result (Vec ℕ) StepFault → S → Type 0
HasLoaded goes name old (Ok bytes) new = goes old (Load name MAX_BYTES (Ok bytes.items)) new
HasLoaded goes name old (Err (fault.Refused (refusal.Missing file))) new = (file ≡ name) × goes old (Load name MAX_BYTES (Err load.Missing)) new
HasLoaded goes name old (Err (fault.Refused (refusal.TooLong file))) new =
    (file ≡ name) × ((reached : ℕ) × goes old (Load name MAX_BYTES (Err (load.TooLong reached))) new)
HasLoaded goes name old (Err fault.StoreFault) new = goes old (Load name MAX_BYTES (Err load.Failed)) new
HasLoaded goes name old (Err fault.Memory) new =
    (answer : Result (List ℕ) LoadFault) × (load_failed answer ≡ false) × goes old (Load name MAX_BYTES answer) new
HasLoaded goes name old (Err other) new = ⊥

-- a file was saved by one call
abbrev pub HasSaved : {S : Type 0} → (S → StoreCall → S → Type 0) → List ℕ → List ℕ → S → Result Next StepFault → S → Type 0
HasSaved goes name bytes old (Ok next) new = (next ≡ Go) × goes old (Save name bytes (Ok tt)) new
HasSaved goes name bytes old (Err fault.StoreFault) new = goes old (Save name bytes (Err save.Failed)) new
HasSaved goes name bytes old (Err fault.Memory) new = goes old (Save name bytes (Err save.Memory)) new
HasSaved goes name bytes old (Err other) new = ⊥

-- a reply was written by one call; none was needed if it is empty
abbrev pub HasPut : {S : Type 0} → (S → PutCall → S → Type 0) → List ℕ → S → Result Next StepFault → S → Type 0
HasPut goes [] old answer new = (answer ≡ Ok Go) × (new ≡ old)
HasPut goes (byte ∷ bytes) old (Ok next) new = (next ≡ Go) × goes old (record { piece = byte ∷ bytes; answer = Ok tt }) new
HasPut goes (byte ∷ bytes) old (Err fault.SinkFault) new = goes old (record { piece = byte ∷ bytes; answer = Err put.Failed }) new
HasPut goes (byte ∷ bytes) old (Err fault.Memory) new = goes old (record { piece = byte ∷ bytes; answer = Err put.Memory }) new
HasPut goes (byte ∷ bytes) old (Err other) new = ⊥

-- a text, or a refusal, may be printed; or memory ran out
abbrev pub IsToldBy : (Result (List ℕ) Refusal → Type 0) → Result (Vec ℕ) StepFault → Type 0
IsToldBy tells (Ok text) = tells (Ok text.items)
IsToldBy tells (Err (fault.Refused why)) = tells (Err why)
IsToldBy tells (Err fault.Memory) = Unit {0}
IsToldBy tells (Err other) = ⊥

-- the text is what is printed, or the refusal is; or memory ran out
abbrev pub IsTold : Result (List ℕ) Refusal → Result (Vec ℕ) StepFault → Type 0
IsTold told = IsToldBy (λ what. told ≡ what)

-- a text was printed by one call; a fault is passed on, and nothing is printed
abbrev pub HasToldPut : {S : Type 0} → (S → PutCall → S → Type 0) → Result (Vec ℕ) StepFault → S → Result Next StepFault → S → Type 0
HasToldPut goes (Ok text) old answer new = HasPut goes text.items old answer new
HasToldPut goes (Err why) old answer new = (answer ≡ Err why) × (new ≡ old)

-- the effect of reading a circuit or a machine from bytes, by the current library
abbrev pub HasRead : List ℕ → Held → Result (Unit {0}) (ReadFault BlifFault) → Held → Type 0
HasRead bytes old (Ok done) new = (read : Spec) × (read_lines old.library (entries_of bytes) ≡ Ok read) × (new ≡ with_spec old read)
HasRead bytes old (Err (reading.Fault why)) new = (read_lines old.library (entries_of bytes) ≡ Err why) × (new ≡ old)
HasRead bytes old (Err reading.Memory) new = new ≡ old

-- a network, or a refusal, may be made; or memory ran out
abbrev pub IsMadeBy : (Result Circuit Refusal → Type 0) → Result Circuit StepFault → Type 0
IsMadeBy makes (Ok new) = makes (Ok new)
IsMadeBy makes (Err (fault.Refused why)) = makes (Err why)
IsMadeBy makes (Err fault.Memory) = Unit {0}
IsMadeBy makes (Err other) = ⊥

-- what a change makes of a network
abbrev pub IsChanged : Change → Circuit → Result Circuit StepFault → Type 0
IsChanged change old = IsMadeBy (Changes change old)

-- the network of a machine was made, with the text of its codes; or its inputs and state bits are
-- too many; or memory ran out
abbrev pub IsEncoded : Style → Machine → Result CodedNetwork StepFault → Type 0
IsEncoded coding machine (Ok made) =
    (leaf_count coding machine ≤ MAX_INPUTS) × (made.network ≡ encoded coding machine)
    × (made.text.items ≡ codes_text (codes_of coding machine))
IsEncoded coding machine (Err (fault.Refused why)) =
    (MAX_INPUTS < leaf_count coding machine)
    × (why ≡ refusal.TooWide machine.name (leaf_count coding machine))
IsEncoded coding machine (Err fault.Memory) = Unit {0}
IsEncoded coding machine (Err other) = ⊥

-- a reason against a netlist as a fault of a step
abbrev pub IsDeclined : MapFault → StepFault → Type 0
IsDeclined reason (fault.Refused why) = refusal_of reason ≡ Some why
IsDeclined reason fault.Memory = Unit {0}
IsDeclined reason other = ⊥

-- the netlist of a network was made, with the text of its areas; or there is a reason against it;
-- or memory ran out
abbrev pub IsNetlisted : Bool → Circuit → Library → Result ToldNetlist StepFault → Type 0
IsNetlisted brief circuit library (Ok made) =
    Maps circuit library (Ok made.netlist) × (made.text.items ≡ map_text brief made.netlist)
IsNetlisted brief circuit library (Err (fault.Refused why)) = Declines circuit library why
IsNetlisted brief circuit library (Err fault.Memory) = Unit {0}
IsNetlisted brief circuit library (Err other) = ⊥

-- the effect of an undo: whether there was a previous network, and if so the exchange
abbrev pub Undoes : Option Circuit → Held → Bool → Held → Type 0
Undoes None old undone new = (undone ≡ false) × (new ≡ old)
Undoes (Some circuit) old undone new = (undone ≡ true) × (new ≡ with_exchanged old)
