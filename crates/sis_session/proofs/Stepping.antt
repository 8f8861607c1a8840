-- What the methods below a step did, command by command.
use Rattle.std.proofs.Common.{◌≡◌, ℕ, ◌<◌, ◌≤◌, List, refl, sym, ap, subst, ◌∙◌, inl, true, false, arith}
use Rattle.std.proofs.lemmas.Bool.Decides.{nat_tests}
use Rattle.std.specs.Prelude.{Bool, Option, Some, None, Result, Ok, Err, nat_le, nat_lt, if◌then◌else◌}
use Rattle.std.specs.Global.{Vec}
use Rattle.sis_outside.specs.Calls.{StoreCall, Follows}
use Rattle.circuit_model.specs.declared.circuit.Circuit.{Circuit}
use Rattle.circuit_model.specs.declared.machine.Spec.{Spec}
use Rattle.genlib_format.specs.declared.fault.LibFault.{LibFault}
use Rattle.sis_script.specs.declared.command.Change.{Change}
use Rattle.sis_outside.specs.Calls.{PutCall}
use Rattle.circuit_model.specs.declared.machine.Machine.{Machine}
use Rattle.sis_base.specs.declared.limits.TheConstants.{MAX_INPUTS}
use Rattle.state_code.specs.Codes.{leaf_count}
use Rattle.state_code.specs.Codes.{codes_of}
use Rattle.state_code.specs.Encoded.{encoded}
use Rattle.state_code.specs.declared.codes.Style.{Style}
use Rattle.circuit_model.specs.Soundness.{IsSound}
use Rattle.genlib_format.specs.Soundness.{IsSoundGates}
use Rattle.map_net.specs.Mapping.{Maps}
use Rattle.sis_session.specs.Replies.{codes_text, map_text}
use Rattle.sis_session.specs.Commands.{Blif, ChangedBy, MappedBy, Replies, encoded_by, encoded_reply, reply_with, blif_read, commands_in, library_held, reply_changed, source_plan, spec_held, spec_in, undo_outcome}
use Rattle.sis_session.specs.Methods.{AskedNone, HasLoaded, HasPut, HasRead, IsChanged, IsEncoded, IsNetlisted, Undoes}
use Rattle.sis_session.specs.Plan.{MAX_DEPTH, Outcome, Does, Refuses, Plan, Reply, Quiet, Loads, Ending, Done, Refused, Cut, Comes, Did, ended, faulted, sends}
use Rattle.sis_session.specs.State.{Held, Library, with_spec, with_library, with_changed, with_encoded, with_exchanged, with_mapped, Netlist}
use Rattle.sis_session.specs.declared.refusal.Failed.TheVariants as failed
use Rattle.sis_session.specs.declared.refusal.Next.{Next}
use Rattle.sis_session.specs.declared.refusal.Next.TheVariants.{Go, Script}
use Rattle.sis_session.specs.declared.refusal.Refusal.{Refusal}
use Rattle.sis_session.specs.declared.refusal.Refusal.TheVariants as refusal
use Rattle.sis_session.specs.declared.refusal.StepFault.{StepFault}
use Rattle.sis_session.specs.declared.refusal.StepFault.TheVariants as fault
use Rattle.sis_session.proofs.Going.{did_as, loaded_did, unloaded_did, out_alone, put_sent, quiet_did, store_alone, wanting_did}

-- `source`: by whether the scripts are nested too deep
nested_plan : (depth : ℕ) (held : Held) (name : List ℕ) → MAX_DEPTH ≤ depth → Quiet (Refuses refusal.Nested) ≡ source_plan depth held name
nested_plan depth held name deep =
    let no : nat_lt depth MAX_DEPTH ≡ false = grind (arith, nat_tests) in
    ap (λ (b : Bool). if b then Loads name (λ bytes. Does held (Script (commands_in bytes))) else Quiet (Refuses refusal.Nested)) (sym no)

script_plan : (depth : ℕ) (held : Held) (name : List ℕ) → depth < MAX_DEPTH → Loads name (λ bytes. Does held (Script (commands_in bytes))) ≡ source_plan depth held name
script_plan depth held name shallow =
    let yes : nat_lt depth MAX_DEPTH ≡ true = grind (arith, nat_tests) in
    ap (λ (b : Bool). if b then Loads name (λ bytes. Does held (Script (commands_in bytes))) else Quiet (Refuses refusal.Nested)) (sym yes)

pub nested_did : {S : Type 0} (goes : S → StoreCall → S → Type 0) (depth : ℕ) (held : Held) (name : List ℕ) (store : S) → MAX_DEPTH ≤ depth
    → Did (λ plan. plan ≡ source_plan depth held name) (Follows goes store store) AskedNone (Refused refusal.Nested)
nested_did goes depth held name store deep =
    out_alone goes (λ plan. plan ≡ source_plan depth held name) AskedNone store (Refused refusal.Nested)
    (quiet_did (λ plan. plan ≡ source_plan depth held name) (Refuses refusal.Nested) (Refused refusal.Nested) (nested_plan depth held name deep) (inl refl))

pub script_did : {S : Type 0} (goes : S → StoreCall → S → Type 0) (depth : ℕ) (held : Held) (name : List ℕ) (old new : S) (bytes : Vec ℕ) (ending : Ending) → depth < MAX_DEPTH
    → HasLoaded goes name old (Ok bytes) new → Comes (Does held (Script (commands_in bytes.items))) ending
    → Did (λ plan. plan ≡ source_plan depth held name) (Follows goes old new) AskedNone ending
script_did goes depth held name old new bytes ending shallow h comes =
    subst (λ p. Did (λ plan. plan ≡ p) (Follows goes old new) AskedNone ending) (script_plan depth held name shallow)
    (loaded_did goes name (λ b. Does held (Script (commands_in b))) old new bytes ending h comes)

pub unsourced_did : {S : Type 0} (goes : S → StoreCall → S → Type 0) (depth : ℕ) (held : Held) (name : List ℕ) (old new : S) (why : StepFault) → depth < MAX_DEPTH
    → HasLoaded goes name old (Err why) new → Did (λ plan. plan ≡ source_plan depth held name) (Follows goes old new) AskedNone (faulted why)
unsourced_did goes depth held name old new why shallow h =
    subst (λ p. Did (λ plan. plan ≡ p) (Follows goes old new) AskedNone (faulted why)) (script_plan depth held name shallow)
    (unloaded_did goes name (λ b. Does held (Script (commands_in b))) old new why h)

-- what was read is held
pub spec_comes : (held held' : Held) (answer : Result Spec Refusal) (read : Spec) → answer ≡ Ok read → held' ≡ with_spec held read
    → Comes (spec_held held answer) (Done held' Go)
spec_comes held held' answer read reads is =
    subst (λ r. Comes (spec_held held r) (Done held' Go)) (sym reads) (inl (ap (λ h. Done h Go) is))

pub library_comes : (held held' : Held) (name : List ℕ) (answer : Result Library LibFault) (library : Library) → answer ≡ Ok library → held' ≡ with_library held library
    → Comes (library_held held name answer) (Done held' Go)
library_comes held held' name answer library reads is =
    subst (λ r. Comes (library_held held name r) (Done held' Go)) (sym reads) (inl (ap (λ h. Done h Go) is))

pub read_comes : (held held' : Held) (name bytes : List ℕ) → HasRead bytes held (Ok tt) held' → Comes (spec_held held (spec_in Blif held name bytes)) (Done held' Go)
read_comes held held' name bytes (read, reads, is) = spec_comes held held' (spec_in Blif held name bytes) read (ap (blif_read name) reads) is

-- a file was loaded, with its name and its bytes borrowed as text and slice
pub used_did : {S : Type 0} (goes : S → StoreCall → S → Type 0) (used : List ℕ → Outcome) (name text shown : List ℕ) (old new : S) (bytes : Vec ℕ) (ending : Ending)
    → text ≡ name → shown ≡ bytes.items → HasLoaded goes text old (Ok bytes) new → Comes (used shown) ending
    → Did (λ plan. plan ≡ Loads name used) (Follows goes old new) AskedNone ending
used_did goes used name text shown old new bytes ending same seen h comes =
    loaded_did goes name used old new bytes ending (subst (λ n. HasLoaded goes n old (Ok bytes) new) same h) (subst (λ b. Comes (used b) ending) seen comes)

pub unused_did : {S : Type 0} (goes : S → StoreCall → S → Type 0) (used : List ℕ → Outcome) (name text : List ℕ) (old new : S) (why : StepFault)
    → text ≡ name → HasLoaded goes text old (Err why) new → Did (λ plan. plan ≡ Loads name used) (Follows goes old new) AskedNone (faulted why)
unused_did goes used name text old new why same h = unloaded_did goes name used old new why (subst (λ n. HasLoaded goes n old (Err why) new) same h)

-- a change of the network
pub changed_did : (held held' : Held) (change : Change) (network : Option Circuit) (old new : Circuit) → network ≡ Some old → IsChanged change old (Ok new)
    → held' ≡ with_changed held new → Did (Replies (ChangedBy held change network)) AskedNone AskedNone (Done held' Go)
changed_did held held' change network old new there h is =
    subst (λ n. Did (Replies (ChangedBy held change n)) AskedNone AskedNone (Done held' Go)) (sym there)
    (quiet_did (Replies (ChangedBy held change (Some old))) (Does (with_changed held new) Go) (Done held' Go) (reply_changed held (Ok new), (Ok new, h, refl), refl) (inl (ap (λ x. Done x Go) is)))

pub unchanged_did : (held : Held) (change : Change) (network : Option Circuit) (old : Circuit) (why : StepFault) → network ≡ Some old → IsChanged change old (Err why)
    → Did (Replies (ChangedBy held change network)) AskedNone AskedNone (faulted why)
unchanged_did held change network old why there h =
    subst (λ n. Did (Replies (ChangedBy held change n)) AskedNone AskedNone (faulted why)) (sym there) (by why h)
  where
    by : (w : StepFault) → IsChanged change old (Err w) → Did (Replies (ChangedBy held change (Some old))) AskedNone AskedNone (faulted w)
    by (fault.Refused reason) k = quiet_did (Replies (ChangedBy held change (Some old))) (Refuses reason) (Refused reason) (Err reason, (Err reason, k, refl), refl) (inl refl)
    by fault.StoreFault k = absurd k
    by fault.SinkFault k = absurd k
    by fault.Memory k = wanting_did (Replies (ChangedBy held change (Some old)))

pub no_network_did : (held : Held) (change : Change) (network : Option Circuit) → network ≡ None
    → Did (Replies (ChangedBy held change network)) AskedNone AskedNone (Refused refusal.NoNetwork)
no_network_did held change network none =
    subst (λ n. Did (Replies (ChangedBy held change n)) AskedNone AskedNone (Refused refusal.NoNetwork)) (sym none)
    (quiet_did (Replies (ChangedBy held change None)) (Refuses refusal.NoNetwork) (Refused refusal.NoNetwork) (Err refusal.NoNetwork, refl, refl) (inl refl))

-- the machine's network was made, and its codes were printed
pub narrow_reply : (coding : Style) (held : Held) (machine : Machine)
    → leaf_count coding machine ≤ MAX_INPUTS
    → encoded_by coding held machine
    ≡ Ok (record {
      text = codes_text (codes_of coding machine);
      held = with_encoded held held.network (encoded coding machine);
    })
narrow_reply coding held machine narrow =
    let yes : nat_le (leaf_count coding machine) MAX_INPUTS ≡ true = grind (arith, nat_tests) in
    rw yes refl

wide_reply : (coding : Style) (held : Held) (machine : Machine)
    → MAX_INPUTS < leaf_count coding machine
    → encoded_by coding held machine
    ≡ Err (refusal.TooWide machine.name (leaf_count coding machine))
wide_reply coding held machine wide =
    let no : nat_le (leaf_count coding machine) MAX_INPUTS ≡ false = grind (arith, nat_tests) in
    rw no refl

pub encoded_did : {O : Type 0} (puts : O → PutCall → O → Type 0) (coding : Style) (held : Held)
    (there : Option Machine) (machine : Machine) (text : List ℕ) (old new : O)
    (answer : Result Next StepFault) → there ≡ Some machine
    → leaf_count coding machine ≤ MAX_INPUTS → text ≡ codes_text (codes_of coding machine)
    → HasPut puts text old answer new
    → Did (λ plan. plan ≡ sends None (encoded_reply coding held there)) AskedNone
    (Follows puts old new) (ended answer (with_encoded held held.network (encoded coding machine)))
encoded_did {O} puts coding held there machine text old new answer is narrow same h =
    subst (λ (r : Result Reply Refusal). Did (λ plan. plan ≡ sends None r) AskedNone
    (Follows puts old new) (ended answer left))
    (sym (ap (encoded_reply coding held) is ∙ narrow_reply coding held machine narrow))
    (put_sent puts left told old new answer (subst (λ t. HasPut puts t old answer new) same h))
  where
    told : List ℕ
    told = codes_text (codes_of coding machine)

    left : Held
    left = with_encoded held held.network (encoded coding machine)

-- it was not made, and nothing was printed
pub unencoded_did : {O : Type 0} (puts : O → PutCall → O → Type 0) (coding : Style) (held : Held)
    (there : Option Machine) (machine : Machine) (out : O) (why : StepFault) → there ≡ Some machine
    → IsEncoded coding machine (Err why)
    → Did (λ plan. plan ≡ sends None (encoded_reply coding held there)) AskedNone
    (Follows puts out out) (faulted why)
unencoded_did {O} puts coding held there machine out why is h =
    store_alone puts plans AskedNone out (faulted why) (by why h)
  where
    plans : Plan → Type 0
    plans = λ plan. plan ≡ sends None (encoded_reply coding held there)

    by : (w : StepFault) → IsEncoded coding machine (Err w)
        → Did plans AskedNone AskedNone (faulted w)
    by (fault.Refused reason) k =
        quiet_did plans (Refuses reason) (Refused reason)
        (sym (ap (sends None) (ap (encoded_reply coding held) is
        ∙ wide_reply coding held machine k.0 ∙ ap (λ (r : Refusal). Err r) (sym k.1)))) (inl refl)
    by fault.StoreFault k = absurd k
    by fault.SinkFault k = absurd k
    by fault.Memory k = wanting_did plans

pub no_machine_did : {O : Type 0} (puts : O → PutCall → O → Type 0) (coding : Style) (held : Held)
    (there : Option Machine) (out : O) → there ≡ None
    → Did (λ plan. plan ≡ sends None (encoded_reply coding held there)) AskedNone
    (Follows puts out out) (Refused refusal.NoMachine)
no_machine_did puts coding held there out none =
    store_alone puts (λ plan. plan ≡ sends None (encoded_reply coding held there)) AskedNone out
    (Refused refusal.NoMachine)
    (quiet_did (λ plan. plan ≡ sends None (encoded_reply coding held there))
    (Refuses refusal.NoMachine) (Refused refusal.NoMachine)
    (sym (ap (λ m. sends None (encoded_reply coding held m)) none)) (inl refl))

-- the network's netlist was made, and its areas were printed
pub mapped_did : {O : Type 0} (puts : O → PutCall → O → Type 0) (brief : Bool) (held : Held)
    (network : Option Circuit) (library : Option Library) (circuit : Circuit) (gates : Library)
    (netlist : Netlist) (text : List ℕ) (old new : O) (answer : Result Next StepFault)
    → network ≡ Some circuit → library ≡ Some gates → IsSound circuit → IsSoundGates gates
    → Maps circuit gates (Ok netlist) → text ≡ map_text brief netlist → HasPut puts text old answer new
    → Did (Replies (MappedBy brief held network library)) AskedNone (Follows puts old new)
    (ended answer (with_mapped held netlist))
mapped_did {O} puts brief held network library circuit gates netlist text old new answer is has
    sound known maps same h =
    subst (λ (n : Option Circuit). Did (Replies (MappedBy brief held n library)) AskedNone
    (Follows puts old new) (ended answer left)) (sym is)
    (subst (λ (l : Option Library). Did (Replies (MappedBy brief held (Some circuit) l)) AskedNone
    (Follows puts old new) (ended answer left)) (sym has)
    (did_as (λ plan. plan ≡ sends None (reply_with left (Ok told)))
    (Replies (MappedBy brief held (Some circuit) (Some gates))) AskedNone (Follows puts old new)
    (ended answer left)
    (λ plan planned. (
      Ok (record { text = told; held = left }),
      (sound, known, netlist, maps, refl),
      planned,
    ))
    (put_sent puts left told old new answer (subst (λ t. HasPut puts t old answer new) same h))))
  where
    told : List ℕ
    told = map_text brief netlist

    left : Held
    left = with_mapped held netlist

-- it was not made, and nothing was printed
pub unmapped_did : {O : Type 0} (puts : O → PutCall → O → Type 0) (brief : Bool) (held : Held)
    (network : Option Circuit) (library : Option Library) (circuit : Circuit) (gates : Library)
    (out : O) (why : StepFault) → network ≡ Some circuit → library ≡ Some gates → IsSound circuit
    → IsSoundGates gates → IsNetlisted brief circuit gates (Err why)
    → Did (Replies (MappedBy brief held network library)) AskedNone (Follows puts out out)
    (faulted why)
unmapped_did {O} puts brief held network library circuit gates out why is has sound known h =
    subst (λ (n : Option Circuit). Did (Replies (MappedBy brief held n library)) AskedNone
    (Follows puts out out) (faulted why)) (sym is)
    (subst (λ (l : Option Library). Did (Replies (MappedBy brief held (Some circuit) l)) AskedNone
    (Follows puts out out) (faulted why)) (sym has)
    (store_alone puts plans AskedNone out (faulted why) (by why h)))
  where
    plans : Plan → Type 0
    plans = Replies (MappedBy brief held (Some circuit) (Some gates))

    by : (w : StepFault) → IsNetlisted brief circuit gates (Err w)
        → Did plans AskedNone AskedNone (faulted w)
    by (fault.Refused reason) k =
        quiet_did plans (Refuses reason) (Refused reason) (Err reason, (sound, known, k), refl)
        (inl refl)
    by fault.StoreFault k = absurd k
    by fault.SinkFault k = absurd k
    by fault.Memory k = wanting_did plans

pub no_circuit_did : {O : Type 0} (puts : O → PutCall → O → Type 0) (brief : Bool) (held : Held)
    (network : Option Circuit) (library : Option Library) (out : O) → network ≡ None
    → Did (Replies (MappedBy brief held network library)) AskedNone (Follows puts out out)
    (Refused refusal.NoNetwork)
no_circuit_did puts brief held network library out none =
    subst (λ (n : Option Circuit). Did (Replies (MappedBy brief held n library)) AskedNone
    (Follows puts out out) (Refused refusal.NoNetwork)) (sym none)
    (store_alone puts (Replies (MappedBy brief held None library)) AskedNone out
    (Refused refusal.NoNetwork)
    (quiet_did (Replies (MappedBy brief held None library)) (Refuses refusal.NoNetwork)
    (Refused refusal.NoNetwork) (Err refusal.NoNetwork, refl, refl) (inl refl)))

pub no_library_did : {O : Type 0} (puts : O → PutCall → O → Type 0) (brief : Bool) (held : Held)
    (network : Option Circuit) (library : Option Library) (circuit : Circuit) (out : O)
    → network ≡ Some circuit → library ≡ None
    → Did (Replies (MappedBy brief held network library)) AskedNone (Follows puts out out)
    (Refused refusal.NoLibrary)
no_library_did puts brief held network library circuit out is none =
    subst (λ (n : Option Circuit). Did (Replies (MappedBy brief held n library)) AskedNone
    (Follows puts out out) (Refused refusal.NoLibrary)) (sym is)
    (subst (λ (l : Option Library). Did (Replies (MappedBy brief held (Some circuit) l)) AskedNone
    (Follows puts out out) (Refused refusal.NoLibrary)) (sym none)
    (store_alone puts (Replies (MappedBy brief held (Some circuit) None)) AskedNone out
    (Refused refusal.NoLibrary)
    (quiet_did (Replies (MappedBy brief held (Some circuit) None)) (Refuses refusal.NoLibrary)
    (Refused refusal.NoLibrary) (Err refusal.NoLibrary, refl, refl) (inl refl))))

-- `undo`
pub undone_did : (held held' : Held) (previous : Option Circuit) (undone : Bool) → Undoes previous held undone held' → undone ≡ true
    → Did (λ plan. plan ≡ Quiet (undo_outcome held previous)) AskedNone AskedNone (Done held' Go)
undone_did held held' None undone h is = let clash : true ≡ false = sym is ∙ h.0 in cc
undone_did held held' (Some circuit) undone h is =
    quiet_did (λ plan. plan ≡ Quiet (undo_outcome held (Some circuit))) (Does (with_exchanged held) Go) (Done held' Go) refl (inl (ap (λ x. Done x Go) h.1))

pub nothing_undone_did : (held held' : Held) (previous : Option Circuit) (undone : Bool) → Undoes previous held undone held' → undone ≡ false
    → Did (λ plan. plan ≡ Quiet (undo_outcome held previous)) AskedNone AskedNone (Refused refusal.NothingToUndo)
nothing_undone_did held held' None undone h is =
    quiet_did (λ plan. plan ≡ Quiet (undo_outcome held None)) (Refuses refusal.NothingToUndo) (Refused refusal.NothingToUndo) refl (inl refl)
nothing_undone_did held held' (Some circuit) undone h is = let clash : true ≡ false = sym h.0 ∙ is in cc
