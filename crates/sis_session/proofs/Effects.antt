-- What is held after a command that is done, and what a command saves or prints.
use Rattle.std.proofs.Common.{◌≡◌, ℕ, ◌≤◌, Bool, true, false, List, [], ◌∷◌, refl, sym, ap, subst, ◌∙◌, inl, inr, arith}
use Rattle.std.proofs.lemmas.Bool.Decides.{nat_tests}
use Rattle.std.specs.Prelude.{Option, Some, None, Result, Ok, Err, nat_le, nat_lt, if◌then◌else◌}
use Rattle.sis_text.specs.Entries.{entries_of}
use Rattle.sis_outside.specs.Calls.{Load, Save, PutCall}
use Rattle.sis_outside.specs.declared.store.LoadFault.{LoadFault}
use Rattle.sis_outside.specs.declared.store.LoadFault.TheVariants as load
use Rattle.sis_outside.specs.declared.store.SaveFault.{SaveFault}
use Rattle.sis_outside.specs.declared.store.SaveFault.TheVariants as save
use Rattle.sis_outside.specs.declared.sink.PutFault.{PutFault}
use Rattle.sis_outside.specs.declared.sink.PutFault.TheVariants as put
use Rattle.circuit_model.proofs.Refinement.{behaves-as-itself, behaves-through}
use Rattle.circuit_model.specs.Behaviors.{RefinesAs}
use Rattle.circuit_model.specs.Runs.{of_circuit, Refines}
use Rattle.circuit_model.specs.Soundness.{IsSound}
use Rattle.circuit_model.specs.Text.{text_of}
use Rattle.circuit_model.specs.declared.circuit.Circuit.{Circuit}
use Rattle.blif_lines.proofs.ProperWords.{proper_words}
use Rattle.blif_lines.specs.declared.fault.BlifFault.{BlifFault}
use Rattle.blif_read.proofs.WhatIsRead.{spec_sound}
use Rattle.blif_read.specs.Limits.{IsSoundSpec}
use Rattle.blif_read.specs.Reader.{read_lines}
use Rattle.circuit_model.specs.MachineBehaviors.{of_machine, of_spec}
use Rattle.circuit_model.specs.MachineSoundness.{IsSoundMachine}
use Rattle.circuit_model.specs.MachineText.{machine_text_of}
use Rattle.circuit_model.specs.declared.machine.Machine.{Machine}
use Rattle.circuit_model.specs.declared.machine.Spec.{Spec}
use Rattle.circuit_model.specs.declared.machine.Spec.TheVariants as asked
use Rattle.kiss_format.specs.Reader.{read_machine_lines}
use Rattle.kiss_format.proofs.Sound.{read_sound}
use Rattle.kiss_format.specs.declared.fault.KissFault.{KissFault}
use Rattle.genlib_format.specs.Reader.{library_of}
use Rattle.genlib_format.specs.declared.fault.LibFault.{LibFault}
use Rattle.net_wires.proofs.Chaining.{chain_kept}
use Rattle.net_elim.specs.Collapsing.{collapsed}
use Rattle.sdc_simplify.specs.Simplified.{simplified}
use Rattle.odc_simplify.specs.Full.{fully_simplified}
use Rattle.net_candidates.specs.Extracting.{IsExtracted}
use Rattle.net_candidates.specs.declared.rule.Rule.{Rule as Extraction}
use Rattle.net_candidates.specs.declared.rule.Rule.TheVariants as extract
use Rattle.net_candidates.proofs.RuleKeeping.{extracted_refines, reached_extended as extraction_extended}
use Rattle.net_resub.specs.Resubbed.{IsResubbed}
use Rattle.net_resub.proofs.RuleKeeping.{resubbed_refines, reached_extended as resub_extended}
use Rattle.net_decomp.specs.Decomposed.{IsDecomposed}
use Rattle.net_decomp.specs.declared.rule.Rule.{Rule}
use Rattle.net_decomp.specs.declared.rule.Rule.TheVariants.{Shared, Gates}
use Rattle.net_decomp.proofs.PartedSteps.{reached_extended, decomposed_refines}
use Rattle.net_elim.proofs.Stepping.{chain_keeps, chain_refines}
use Rattle.sdc_simplify.proofs.InTurns.{simplified_reduced, simplified_refines}
use Rattle.odc_simplify.proofs.Kept.{fully_kept, fully_refines}
use Rattle.net_elim.proofs.Gathered.{collapse_reduced, collapse_refines}
use Rattle.std.proofs.lemmas.Option.{same_Some}
use Rattle.sis_script.specs.declared.command.Change.{Change}
use Rattle.sis_script.specs.declared.command.Change.TheVariants as changing
use Rattle.sis_script.specs.declared.command.Op.{Op}
use Rattle.sis_base.specs.declared.limits.TheConstants.{MAX_INPUTS}
use Rattle.state_code.specs.Codes.{leaf_count}
use Rattle.state_code.specs.Codes.{codes_of}
use Rattle.state_code.specs.Encoded.{encoded}
use Rattle.sis_session.specs.Replies.{codes_text}
use Rattle.state_code.specs.declared.codes.Style.{Style}
use Rattle.state_code.proofs.CircuitSound.{encoded_sound}
use Rattle.state_code.proofs.CircuitValues.{encoded_refines}
use Rattle.sis_session.specs.Commands.{Blif, ChangedBy, Changes, ChangesNetwork, EncodesMachine, Ends, coding_of, encoded_reply, Form, Format, FormPlans, Generates, IsWrong, Kiss, MakesNetlist, MappedBy, Plans, Reads, ReadsLibrary, Replies, Sources, StaysTold, TakesBack, Tells, TheMachine, TheNetlist, TheNetwork, Writes, Written, OfSpec, OfNetlist, blif_read, circuit_of, commands_in, form_of, kiss_read, last_read, library_held, machine_of, netlist_of, network_of, part_of, read_by, reply_with, spec_held, spec_in, undo_outcome, written_text}
use Rattle.netlist.specs.Lines.{netlist_text_of}
use Rattle.genlib_format.specs.Soundness.{IsSoundGates}
use Rattle.map_net.specs.Mapping.{IsMapped}
use Rattle.map_net.proofs.MappedNets.{mapped_parted, mapped_refines, mapped_sound}
use Rattle.sis_session.specs.Keeping.{RefinesSpec, MachineRefines, HasMapped, IsMappedFrom, IsMapping, IsRefined, IsTextOf, IsWriting, TellsAreas, WritesTo}
use Rattle.sis_session.specs.Plan.{MAX_DEPTH, Asked, Nothing, OnStore, OnOut, OnInput, Comes, ComesLoaded, ComesSaved, ComesPut, Cut, Done, Ending, Goes, Loads, Outcome, Does, Refuses, Plan, Quiet, Puts, Reply, Saves, Takes, Steps, by_plan, no_memory, replies, sends}
use Rattle.sis_session.specs.State.{Held, Library, Netlist, held_spec, nothing_held, with_read, with_spec, with_machine, with_library, with_encoded, with_exchanged}
use Rattle.sis_session.specs.declared.refusal.Failed.TheVariants as failed
use Rattle.sis_session.specs.declared.refusal.Next.{Next}
use Rattle.sis_session.specs.declared.refusal.Next.TheVariants.{Go, Script}
use Rattle.sis_session.specs.declared.refusal.Next.TheVariants as onward
use Rattle.sis_session.specs.declared.refusal.Refusal.{Refusal}
use Rattle.sis_session.specs.declared.refusal.Refusal.TheVariants as refusal
use Rattle.sis_session.proofs.GeneratedCircuits.{circuit_sound}

-- what is held has a property if an outcome is to do something, and after a plan that ends done
abbrev Leaves : (Held → Type 0) → Outcome → Type 0
Leaves is (Does held next) = is held
Leaves is (Refuses why) = Unit {0}

-- what is held has a property once a reply was given
abbrev OnOkReply : (Held → Type 0) → Result Reply Refusal → Type 0
OnOkReply is (Ok reply) = is reply.held
OnOkReply is (Err why) = Unit {0}

abbrev Leads : (Held → Type 0) → Plan → Type 0
Leads is plan = (asked : Asked) (held' : Held) (next : Next) → Goes plan asked (Done held' next) → is held'

comes_leads : (is : Held → Type 0) (outcome : Outcome) (held' : Held) (next : Next) → Leaves is outcome → Comes outcome (Done held' next) → is held'
comes_leads is (Does held onward) held' next leaves (inl same) = let equal : held ≡ held' = cc in subst is equal leaves
comes_leads is (Does held onward) held' next leaves (inr cut) = cc
comes_leads is (Refuses why) held' next leaves (inl refused) = cc
comes_leads is (Refuses why) held' next leaves (inr cut) = cc

quiet_leads : (is : Held → Type 0) (outcome : Outcome) → Leaves is outcome → Leads is (Quiet outcome)
quiet_leads is outcome leaves Nothing held' next goes = comes_leads is outcome held' next leaves goes
quiet_leads is outcome leaves (OnStore call) held' next goes = absurd goes
quiet_leads is outcome leaves (OnOut call) held' next goes = absurd goes
quiet_leads is outcome leaves (OnInput calls) held' next goes = absurd goes

loaded_leads : (is : Held → Type 0) (name : List ℕ) (used : List ℕ → Outcome) (answer : Result (List ℕ) LoadFault) (held' : Held) (next : Next)
    → ((bytes : List ℕ) → Leaves is (used bytes)) → ComesLoaded name used answer (Done held' next) → is held'
loaded_leads is name used (Ok bytes) held' next leaves comes = comes_leads is (used bytes) held' next (leaves bytes) comes
loaded_leads is name used (Err load.Missing) held' next leaves comes = comes_leads is (Refuses (refusal.Missing name)) held' next tt comes
loaded_leads is name used (Err (load.TooLong reached)) held' next leaves comes = comes_leads is (Refuses (refusal.TooLong name)) held' next tt comes
loaded_leads is name used (Err load.Failed) held' next leaves comes = cc
loaded_leads is name used (Err load.Memory) held' next leaves comes = cc

loads_leads : (is : Held → Type 0) (name : List ℕ) (used : List ℕ → Outcome) → ((bytes : List ℕ) → Leaves is (used bytes)) → Leads is (Loads name used)
loads_leads is name used leaves Nothing held' next goes = absurd goes
loads_leads is name used leaves (OnStore (Load loaded max answer)) held' next goes = loaded_leads is name used answer held' next leaves goes.2
loads_leads is name used leaves (OnStore (Save saved sent answer)) held' next goes = absurd goes
loads_leads is name used leaves (OnOut call) held' next goes = absurd goes
loads_leads is name used leaves (OnInput calls) held' next goes = absurd goes

saved_leads : (is : Held → Type 0) (outcome : Outcome) (answer : Result (Unit {0}) SaveFault) (held' : Held) (next : Next) → Leaves is outcome
    → ComesSaved outcome answer (Done held' next) → is held'
saved_leads is outcome (Ok done) held' next leaves comes = comes_leads is outcome held' next leaves comes
saved_leads is outcome (Err save.Failed) held' next leaves comes = cc
saved_leads is outcome (Err save.Memory) held' next leaves comes = cc

saves_leads : (is : Held → Type 0) (name bytes : List ℕ) (outcome : Outcome) → Leaves is outcome → Leads is (Saves name bytes outcome)
saves_leads is name bytes outcome leaves Nothing held' next goes = absurd goes
saves_leads is name bytes outcome leaves (OnStore (Load loaded max answer)) held' next goes = absurd goes
saves_leads is name bytes outcome leaves (OnStore (Save saved sent answer)) held' next goes = saved_leads is outcome answer held' next leaves goes.2
saves_leads is name bytes outcome leaves (OnOut call) held' next goes = absurd goes
saves_leads is name bytes outcome leaves (OnInput calls) held' next goes = absurd goes

put_leads : (is : Held → Type 0) (outcome : Outcome) (answer : Result (Unit {0}) PutFault) (held' : Held) (next : Next) → Leaves is outcome
    → ComesPut outcome answer (Done held' next) → is held'
put_leads is outcome (Ok done) held' next leaves comes = comes_leads is outcome held' next leaves comes
put_leads is outcome (Err put.Failed) held' next leaves comes = cc
put_leads is outcome (Err put.Memory) held' next leaves comes = cc

puts_leads : (is : Held → Type 0) (reply : List ℕ) (outcome : Outcome) → Leaves is outcome → Leads is (Puts reply outcome)
puts_leads is reply outcome leaves Nothing held' next goes = absurd goes
puts_leads is reply outcome leaves (OnStore (Load loaded max answer)) held' next goes = absurd goes
puts_leads is reply outcome leaves (OnStore (Save saved sent answer)) held' next goes = absurd goes
puts_leads is reply outcome leaves (OnOut call) held' next goes = put_leads is outcome call.answer held' next leaves goes.1
puts_leads is reply outcome leaves (OnInput calls) held' next goes = absurd goes

replies_leads : (is : Held → Type 0) (text : List ℕ) (outcome : Outcome) → Leaves is outcome → Leads is (replies text outcome)
replies_leads is [] outcome leaves = quiet_leads is outcome leaves
replies_leads is (byte ∷ bytes) outcome leaves = puts_leads is (byte ∷ bytes) outcome leaves

sends_leads : (is : Held → Type 0) (file : Option (List ℕ)) (reply : Result Reply Refusal) → OnOkReply is reply → Leads is (sends file reply)
sends_leads is None (Ok reply) holds = replies_leads is reply.text (Does reply.held Go) holds
sends_leads is (Some name) (Ok reply) holds = saves_leads is name reply.text (Does reply.held Go) holds
sends_leads is None (Err why) holds = quiet_leads is (Refuses why) tt
sends_leads is (Some name) (Err why) holds = quiet_leads is (Refuses why) tt

stays_ok : (is : Held → Type 0) (held : Held) (what : Result (List ℕ) Refusal) → is held → OnOkReply is (reply_with held what)
stays_ok is held (Ok text) holds = holds
stays_ok is held (Err why) holds = tt

-- what is read is sound
sound_spec : (library : Option Library) (bytes : List ℕ) (read : Spec) → read_lines library (entries_of bytes) ≡ Ok read → IsSoundSpec read
sound_spec library bytes read reads = spec_sound library (entries_of bytes) read (proper_words bytes) reads

-- and so is a machine
sound_machine : (bytes : List ℕ) (machine : Machine) → read_machine_lines (entries_of bytes) ≡ Ok machine → IsSoundMachine machine
sound_machine bytes machine reads = read_sound (entries_of bytes) machine (proper_words bytes) reads

-- a circuit that was just read refines itself, and so does a machine
refines_read : (circuit : Circuit) → IsSound circuit → RefinesSpec (Some (asked.Circuit circuit)) (Some circuit)
refines_read circuit sound other same =
    let equal : circuit ≡ other = cc in (
      asked.Circuit circuit,
      refl,
      subst IsSound equal sound,
      subst (λ x. RefinesAs (of_circuit circuit) (of_circuit x)) equal (behaves-as-itself (of_circuit circuit)),
    )

none_refines : (read : Option Spec) → RefinesSpec read None
none_refines read circuit is = cc

machine_refines : (machine : Machine) → IsSoundMachine machine → MachineRefines (Some (asked.Machine machine)) (Some machine)
machine_refines machine sound other same =
    let equal : machine ≡ other = cc in (
      asked.Machine machine,
      refl,
      subst IsSoundMachine equal sound,
      subst (λ x. RefinesAs (of_machine machine) (of_machine x)) equal (behaves-as-itself (of_machine machine)),
    )

no_machine_refines : (read : Option Spec) → MachineRefines read None
no_machine_refines read machine is = cc

-- where there is no netlist, nothing is asked of it
no_netlist : (library : Option Library) (network : Option Circuit)
    → HasMapped library network None
no_netlist library network = record { each = λ netlist is. absurd (none netlist is) }
  where
    none : (netlist : Netlist) → None ≡ Some netlist → ⊥
    none netlist is = cc

-- what is held after a file was read
circuit_held : (held : Held) (circuit : Circuit) → IsSound circuit
    → IsRefined (Some (asked.Circuit circuit)) (with_read held circuit)
circuit_held held circuit sound = record {
  network = refines_read circuit sound;
  previous = none_refines (Some (asked.Circuit circuit));
  machine = no_machine_refines (Some (asked.Circuit circuit));
  netlist = no_netlist held.library (Some circuit);
  previous_netlist = no_netlist held.library None;
}

machine_held : (held : Held) (machine : Machine) → IsSoundMachine machine
    → IsRefined (Some (asked.Machine machine)) (with_machine held machine)
machine_held held machine sound = record {
  network = none_refines (Some (asked.Machine machine));
  previous = none_refines (Some (asked.Machine machine));
  machine = machine_refines machine sound;
  netlist = no_netlist held.library None;
  previous_netlist = no_netlist held.library None;
}

-- what is read in a format is sound
circuit_in : (held : Held) (name bytes : List ℕ) (read : Spec) (answer : Result Spec BlifFault) → read_lines held.library (entries_of bytes) ≡ answer
    → blif_read name answer ≡ Ok read → IsSoundSpec read
circuit_in held name bytes read (Ok one) reads is =
    let same : one ≡ read = cc in subst IsSoundSpec same (sound_spec held.library bytes one reads)
circuit_in held name bytes read (Err fault) reads is = cc

machine_in : (name bytes : List ℕ) (read : Spec) (answer : Result Machine KissFault) → read_machine_lines (entries_of bytes) ≡ answer
    → kiss_read name answer ≡ Ok read → IsSoundSpec read
machine_in name bytes read (Ok machine) reads is =
    let same : asked.Machine machine ≡ read = cc in subst IsSoundSpec same (sound_machine bytes machine reads)
machine_in name bytes read (Err fault) reads is = cc

sound_in : (format : Format) (held : Held) (name bytes : List ℕ) (read : Spec) → spec_in format held name bytes ≡ Ok read → IsSoundSpec read
sound_in Blif held name bytes read is = circuit_in held name bytes read (read_lines held.library (entries_of bytes)) refl is
sound_in Kiss held name bytes read is = machine_in name bytes read (read_machine_lines (entries_of bytes)) refl is

spec_leaves : (held : Held) (answer : Result Spec Refusal)
    → ((read : Spec) → answer ≡ Ok read → IsSoundSpec read)
    → Leaves (λ h. IsRefined (held_spec h.network h.machine) h) (spec_held held answer)
spec_leaves held (Ok (asked.Circuit circuit)) sound =
    circuit_held held circuit (sound (asked.Circuit circuit) refl)
spec_leaves held (Ok (asked.Machine machine)) sound =
    machine_held held machine (sound (asked.Machine machine) refl)
spec_leaves held (Err why) sound = tt

library_leaves : (held : Held) (name : List ℕ) (read : Option Spec)
    (answer : Result Library LibFault) → IsRefined read held
    → Leaves (λ h. IsRefined read h) (library_held held name answer)
library_leaves held name read (Ok library) refined = record {
  network = refined.network;
  previous = refined.previous;
  machine = refined.machine;
  netlist = no_netlist (Some library) held.network;
  previous_netlist = no_netlist (Some library) held.previous;
}
library_leaves held name read (Err fault) refined = tt

-- what refines a circuit refines what that refines
refines_on : (read : Spec) (old new : Circuit) → RefinesAs (of_spec read) (of_circuit old) → Refines old new → RefinesAs (of_spec read) (of_circuit new)
refines_on read old new before after = behaves-through (of_spec read) (of_circuit old) (of_circuit new) before after

-- what a decomposition makes of a sound circuit is sound and refines it
decomposed_leads : (spec : Option Spec) (rule : Rule) (old new : Circuit) → IsDecomposed rule old new → RefinesSpec spec (Some old) → RefinesSpec spec (Some new)
decomposed_leads spec rule old new made before circuit same =
    let (read, is, sound, refines) = before old refl in
    let equal : new ≡ circuit = cc in
    (read, is, subst IsSound equal (reached_extended rule old new sound made.reached).change.sound, subst (λ (c : Circuit). RefinesAs (of_spec read) (of_circuit c)) equal (refines_on read old new refines (decomposed_refines rule old new sound made)))

-- so does extraction
extracted_leads : (spec : Option Spec) (rule : Extraction) (old new : Circuit) → IsExtracted rule old new → RefinesSpec spec (Some old) → RefinesSpec spec (Some new)
extracted_leads spec rule old new made before circuit same =
    let (read, is, sound, refines) = before old refl in
    let equal : new ≡ circuit = cc in
    (read, is, subst IsSound equal (extraction_extended rule old new sound made.reached).change.sound, subst (λ (c : Circuit). RefinesAs (of_spec read) (of_circuit c)) equal (refines_on read old new refines (extracted_refines rule old new sound made)))

-- and resubstitution
resubbed_leads : (spec : Option Spec) (old new : Circuit) → IsResubbed old new → RefinesSpec spec (Some old) → RefinesSpec spec (Some new)
resubbed_leads spec old new made before circuit same =
    let (read, is, sound, refines) = before old refl in
    let equal : new ≡ circuit = cc in
    (read, is, subst IsSound equal (resub_extended old new sound made.reached).change.sound, subst (λ (c : Circuit). RefinesAs (of_spec read) (of_circuit c)) equal (refines_on read old new refines (resubbed_refines old new sound made)))

-- a change leads on: what it makes of a sound circuit is sound and refines it
changed_refines : (spec : Option Spec) (change : Change) (old new : Circuit) → Changes change old (Ok new) → RefinesSpec spec (Some old) → RefinesSpec spec (Some new)
changed_refines spec changing.Sweep old new chain before circuit same =
    let (read, is, sound, refines) = before old refl in
    let kept = chain_kept old new sound chain in
    let equal : new ≡ circuit = cc in
    (read, is, subst IsSound equal kept.sound, subst (λ (c : Circuit). RefinesAs (of_spec read) (of_circuit c)) equal (refines_on read old new refines kept.refines))
changed_refines spec (changing.Eliminate threshold rows) old new chain before circuit same =
    let (read, is, sound, refines) = before old refl in
    let equal : new ≡ circuit = cc in
    (read, is, subst IsSound equal (chain_keeps threshold rows old new sound chain).change.sound, subst (λ (c : Circuit). RefinesAs (of_spec read) (of_circuit c)) equal (refines_on read old new refines (chain_refines threshold rows old new sound chain)))
changed_refines spec changing.Collapse old new (none, made) before circuit same =
    let (read, is, sound, refines) = before old refl in
    let equal : collapsed old ≡ circuit = sym made ∙ same_Some new circuit same in
    (read, is, subst IsSound equal (collapse_reduced old sound).change.sound, subst (λ (c : Circuit). RefinesAs (of_spec read) (of_circuit c)) equal (refines_on read old (collapsed old) refines (collapse_refines old sound)))
changed_refines spec changing.Simplify old new (none, made) before circuit same =
    let (read, is, sound, refines) = before old refl in
    let equal : simplified old ≡ circuit = sym made ∙ same_Some new circuit same in
    (read, is, subst IsSound equal (simplified_reduced old sound).change.sound, subst (λ (c : Circuit). RefinesAs (of_spec read) (of_circuit c)) equal (refines_on read old (simplified old) refines (simplified_refines old sound)))
changed_refines spec changing.FullSimplify old new (none, made) before circuit same =
    let (read, is, sound, refines) = before old refl in
    let equal : fully_simplified old ≡ circuit = sym made ∙ same_Some new circuit same in (
      read,
      is,
      subst IsSound equal (fully_kept old sound).sound,
      subst (λ (c : Circuit). RefinesAs (of_spec read) (of_circuit c)) equal
          (refines_on read old (fully_simplified old) refines (fully_refines old sound)),
    )
changed_refines spec changing.Fx old new made before circuit same = extracted_leads spec extract.Fx old new made before circuit same
changed_refines spec changing.Gkx old new made before circuit same = extracted_leads spec extract.Gkx old new made before circuit same
changed_refines spec changing.Gcx old new made before circuit same = extracted_leads spec extract.Gcx old new made before circuit same
changed_refines spec changing.Resub old new made before circuit same = resubbed_leads spec old new made before circuit same
changed_refines spec changing.Decomp old new made before circuit same = decomposed_leads spec Shared old new made before circuit same
changed_refines spec (changing.TechDecomp products sums) old new made before circuit same = decomposed_leads spec (Gates products sums) old new made before circuit same

changed_ok : (spec : Option Spec) (held : Held) (change : Change) (network : Option Circuit) (reply : Result Reply Refusal) → held.network ≡ network → IsRefined spec held
    → ChangedBy held change network reply → OnOkReply (λ h. IsRefined spec h) reply
changed_ok spec held change None reply there refined is = subst (OnOkReply (λ h. IsRefined spec h)) (sym is) tt
changed_ok spec held change (Some old) reply there refined (Ok new, changes, is) =
    subst (OnOkReply (λ h. IsRefined spec h)) (sym is) (record {
      network = changed_refines spec change old new changes (subst (RefinesSpec spec) there refined.network);
      previous = refined.network;
      machine = refined.machine;
      netlist = no_netlist held.library (Some new);
      previous_netlist = refined.netlist;
    })
changed_ok spec held change (Some old) reply there refined (Err why, changes, is) = subst (OnOkReply (λ h. IsRefined spec h)) (sym is) tt

-- the network of a machine that is held refines what that refines
encoded_leads : (spec : Option Spec) (coding : Style) (machine : Machine)
    → leaf_count coding machine ≤ MAX_INPUTS → MachineRefines spec (Some machine)
    → RefinesSpec spec (Some (encoded coding machine))
encoded_leads spec coding machine narrow before circuit same =
    let (read, is, sound, refines) = before machine refl in
    let equal : encoded coding machine ≡ circuit = same_Some (encoded coding machine) circuit same in (
      read,
      is,
      subst IsSound equal (encoded_sound coding machine sound narrow),
      subst (λ (c : Circuit). RefinesAs (of_spec read) (of_circuit c)) equal
          (behaves-through (of_spec read) (of_machine machine) (of_circuit (encoded coding machine))
          refines (encoded_refines coding machine sound narrow)),
    )

encoded_held : (spec : Option Spec) (held : Held) (old : Option Circuit) (new : Circuit)
    → held.network ≡ old → IsRefined spec held → RefinesSpec spec (Some new)
    → IsRefined spec (with_encoded held old new)
encoded_held spec held None new there refined is = record {
  network = is;
  previous = refined.previous;
  machine = refined.machine;
  netlist = no_netlist held.library (Some new);
  previous_netlist = refined.previous_netlist;
}
encoded_held spec held (Some old) new there refined is = record {
  network = is;
  previous = refined.network;
  machine = refined.machine;
  netlist = no_netlist held.library (Some new);
  previous_netlist = refined.netlist;
}

encoded_by_ok : (spec : Option Spec) (held : Held) (coding : Style) (machine : Machine)
    (small : Bool) → nat_le (leaf_count coding machine) MAX_INPUTS ≡ small
    → IsRefined spec held → MachineRefines spec (Some machine)
    → OnOkReply (λ h. IsRefined spec h) (if small then Ok (record {
      text = codes_text (codes_of coding machine);
      held = with_encoded held held.network (encoded coding machine);
    }) else Err (refusal.TooWide machine.name (leaf_count coding machine)))
encoded_by_ok spec held coding machine true narrow refined refines =
    encoded_held spec held held.network (encoded coding machine) refl refined
    (encoded_leads spec coding machine (grind (arith, nat_tests)) refines)
encoded_by_ok spec held coding machine false wide refined refines = tt

encoded_ok : (spec : Option Spec) (held : Held) (coding : Style) (there : Option Machine)
    → held.machine ≡ there → IsRefined spec held
    → OnOkReply (λ h. IsRefined spec h) (encoded_reply coding held there)
encoded_ok spec held coding None is refined = tt
encoded_ok spec held coding (Some machine) is refined =
    encoded_by_ok spec held coding machine (nat_le (leaf_count coding machine) MAX_INPUTS) refl
    refined (subst (MachineRefines spec) is refined.machine)

-- a netlist that is made is that of the network, by the library
mapped_from : (library : Option Library) (network : Option Circuit) (circuit : Circuit)
    (gates : Library) (netlist : Netlist) → network ≡ Some circuit → library ≡ Some gates
    → IsSound circuit → IsSoundGates gates → IsMapped circuit gates netlist
    → IsMappedFrom library network netlist
mapped_from library network circuit gates netlist is has sound known mapped = record {
  gates = gates;
  circuit = circuit;
  has = has;
  there = is;
  mapped = mapped;
  sound = mapped_sound circuit gates netlist sound known mapped;
  refines = mapped_refines circuit gates netlist sound known mapped;
  parted = mapped_parted circuit gates netlist known mapped;
}

mapped_ok : (spec : Option Spec) (held : Held) (brief : Bool) (network : Option Circuit)
    (library : Option Library) (reply : Result Reply Refusal) → held.network ≡ network
    → held.library ≡ library → IsRefined spec held → MappedBy brief held network library reply
    → OnOkReply (λ h. IsRefined spec h) reply
mapped_ok spec held brief None library reply is has refined same =
    subst (OnOkReply (λ h. IsRefined spec h)) (sym same) tt
mapped_ok spec held brief (Some circuit) None reply is has refined same =
    subst (OnOkReply (λ h. IsRefined spec h)) (sym same) tt
mapped_ok spec held brief (Some circuit) (Some gates) (Ok reply) is has refined
    (sound, known, netlist, (inverter, nand, mapped), same) =
    subst (λ (r : Reply). IsRefined spec r.held) (sym same) (record {
      network = refined.network;
      previous = refined.previous;
      machine = refined.machine;
      netlist = record {
        each = λ other there.
            subst (IsMappedFrom held.library held.network) (same_Some netlist other there) made;
      };
      previous_netlist = refined.previous_netlist;
    })
  where
    made : IsMappedFrom held.library held.network netlist
    made = mapped_from held.library held.network circuit gates netlist is has sound known mapped
mapped_ok spec held brief (Some circuit) (Some gates) (Err why) is has refined made = tt

undo_leads : (spec : Option Spec) (held : Held) (previous : Option Circuit) → IsRefined spec held → Leads (λ h. IsRefined spec h) (Quiet (undo_outcome held previous))
undo_leads spec held None refined = quiet_leads (λ h. IsRefined spec h) (Refuses refusal.NothingToUndo) tt
undo_leads spec held (Some circuit) refined = quiet_leads (λ h. IsRefined spec h) (Does (with_exchanged held) Go) (record {
  network = refined.previous;
  previous = refined.network;
  machine = refined.machine;
  netlist = refined.previous_netlist;
  previous_netlist = refined.netlist;
})

source_leads : (is : Held → Type 0) (shallow : Bool) (held : Held) (name : List ℕ) → is held
    → Leads is (if shallow then Loads name (λ bytes. Does held (Script (commands_in bytes))) else Quiet (Refuses refusal.Nested))
source_leads is true held name holds = loads_leads is name (λ bytes. Does held (Script (commands_in bytes))) (λ bytes. holds)
source_leads is false held name holds = quiet_leads is (Refuses refusal.Nested) tt

told_ok : (is : Held → Type 0) (held : Held) (tells : Result (List ℕ) Refusal → Type 0) (reply : Result Reply Refusal) → is held → StaysTold held tells reply → OnOkReply is reply
told_ok is held tells reply holds (what, told, same) = subst (OnOkReply is) (sym same) (stays_ok is held what holds)

replied_leads : (is : Held → Type 0) (may : Result Reply Refusal → Type 0) (plan : Plan) → ((reply : Result Reply Refusal) → may reply → OnOkReply is reply)
    → Replies may plan → Leads is plan
replied_leads is may plan each (reply, one, same) = subst (Leads is) (sym same) (sends_leads is None reply (each reply one))

form_leads : (depth : ℕ) (spec : Option Spec) (held : Held) (form : Form) (plan : Plan) → IsRefined spec held → FormPlans depth held form plan
    → Leads (λ h. IsRefined (read_by form h spec) h) plan
form_leads depth spec held (Tells tells) plan refined is =
    replied_leads (λ h. IsRefined spec h) (StaysTold held (tells held)) plan (λ reply. told_ok (λ h. IsRefined spec h) held (tells held) reply refined) is
form_leads depth spec held (Writes part file) plan refined is =
    subst (Leads (λ h. IsRefined spec h)) (sym is) (sends_leads (λ h. IsRefined spec h) file (reply_with held (written_text (part_of part held)))
    (stays_ok (λ h. IsRefined spec h) held (written_text (part_of part held)) refined))
form_leads depth spec held (Reads format name) plan refined is =
    subst (Leads (λ h. IsRefined (held_spec h.network h.machine) h)) (sym is)
    (loads_leads (λ h. IsRefined (held_spec h.network h.machine) h) name (λ bytes. spec_held held (spec_in format held name bytes))
    (λ bytes. spec_leaves held (spec_in format held name bytes)
    (sound_in format held name bytes)))
form_leads depth spec held (ReadsLibrary name) plan refined is =
    subst (Leads (λ h. IsRefined spec h)) (sym is) (loads_leads (λ h. IsRefined spec h) name (λ bytes. library_held held name (library_of bytes))
    (λ bytes. library_leaves held name spec (library_of bytes) refined))
form_leads depth spec held (Generates seed tables) plan refined is =
    subst (Leads (λ h. IsRefined (held_spec h.network h.machine) h)) (sym is)
    (quiet_leads (λ h. IsRefined (held_spec h.network h.machine) h)
    (Does (with_read held (circuit_of seed tables)) Go)
    (circuit_held held (circuit_of seed tables) (circuit_sound seed tables)))
form_leads depth spec held (ChangesNetwork change) plan refined is =
    replied_leads (λ h. IsRefined spec h) (ChangedBy held change held.network) plan (λ reply. changed_ok spec held change held.network reply refl refined) is
form_leads depth spec held (EncodesMachine style) plan refined is =
    subst (Leads (λ h. IsRefined spec h)) (sym is)
    (sends_leads (λ h. IsRefined spec h) None (encoded_reply (coding_of style) held held.machine)
    (encoded_ok spec held (coding_of style) held.machine refl refined))
form_leads depth spec held (MakesNetlist brief) plan refined is =
    replied_leads (λ h. IsRefined spec h) (MappedBy brief held held.network held.library) plan
    (λ reply. mapped_ok spec held brief held.network held.library reply refl refl refined) is
form_leads depth spec held TakesBack plan refined is = subst (Leads (λ h. IsRefined spec h)) (sym is) (undo_leads spec held held.previous refined)
form_leads depth spec held (Sources name) plan refined is =
    subst (Leads (λ h. IsRefined spec h)) (sym is) (source_leads (λ h. IsRefined spec h) (nat_lt depth MAX_DEPTH) held name refined)
form_leads depth spec held Ends plan refined is = subst (Leads (λ h. IsRefined spec h)) (sym is) (quiet_leads (λ h. IsRefined spec h) (Does held onward.Quit) refined)
form_leads depth spec held (IsWrong fault) plan refined is = subst (Leads (λ h. IsRefined spec h)) (sym is) (quiet_leads (λ h. IsRefined spec h) (Refuses (refusal.Script fault)) tt)

not_cut : (held : Held) (next : Next) → Done held next ≡ Cut failed.Memory → ⊥
not_cut held next cut = cc

pub refined_step : (depth : ℕ) (held : Held) (op : Op) (asked : Asked) (held' : Held) (next : Next) (spec : Option Spec)
    → Steps (Plans depth held op) asked (Done held' next) → IsRefined spec held → IsRefined (last_read op held' spec) held'
refined_step depth held op asked held' next spec (by_plan plan planned goes) refined = form_leads depth spec held (form_of op) plan refined planned asked held' next goes
refined_step depth held op asked held' next spec (no_memory none cut) refined =
    absurd (not_cut held' next cut)

pub refined_nothing : (spec : Option Spec) → IsRefined spec nothing_held
refined_nothing spec = record {
  network = none_refines spec;
  previous = none_refines spec;
  machine = no_machine_refines spec;
  netlist = no_netlist None None;
  previous_netlist = no_netlist None None;
}

-- what a plan saves, and what it prints
abbrev IsSave : List ℕ → List ℕ → Plan → Type 0
IsSave name bytes (Saves to sent outcome) = (name ≡ to) × (bytes ≡ sent)
IsSave name bytes (Quiet outcome) = ⊥
IsSave name bytes (Loads from used) = ⊥
IsSave name bytes (Puts reply outcome) = ⊥
IsSave name bytes (Takes used) = ⊥

abbrev IsPut : List ℕ → Plan → Type 0
IsPut piece (Puts reply outcome) = piece ≡ reply
IsPut piece (Quiet outcome) = ⊥
IsPut piece (Loads from used) = ⊥
IsPut piece (Saves to sent outcome) = ⊥
IsPut piece (Takes used) = ⊥

goes_save : (plan : Plan) (name bytes : List ℕ) (answer : Result (Unit {0}) SaveFault) (ending : Ending) → Goes plan (OnStore (Save name bytes answer)) ending → IsSave name bytes plan
goes_save (Quiet outcome) name bytes answer ending goes = absurd goes
goes_save (Loads from used) name bytes answer ending goes = absurd goes
goes_save (Saves to sent outcome) name bytes answer ending goes = (goes.0, goes.1)
goes_save (Puts reply outcome) name bytes answer ending goes = absurd goes
goes_save (Takes used) name bytes answer ending goes = absurd goes

goes_put : (plan : Plan) (call : PutCall) (ending : Ending) → Goes plan (OnOut call) ending → IsPut call.piece plan
goes_put (Quiet outcome) call ending goes = absurd goes
goes_put (Loads from used) call ending goes = absurd goes
goes_put (Saves to sent outcome) call ending goes = absurd goes
goes_put (Puts reply outcome) call ending goes = goes.0
goes_put (Takes used) call ending goes = absurd goes

-- a reply that is printed is not saved
replies_save_nothing : (text : List ℕ) (outcome : Outcome) (name bytes : List ℕ) → IsSave name bytes (replies text outcome) → ⊥
replies_save_nothing [] outcome name bytes saves = saves
replies_save_nothing (byte ∷ rest) outcome name bytes saves = saves

puts_save_nothing : (reply : Result Reply Refusal) (name bytes : List ℕ) → IsSave name bytes (sends None reply) → ⊥
puts_save_nothing (Ok reply) name bytes saves = replies_save_nothing reply.text (Does reply.held Go) name bytes saves
puts_save_nothing (Err why) name bytes saves = saves

replied_saves_nothing : (may : Result Reply Refusal → Type 0) (plan : Plan) (name bytes : List ℕ) → Replies may plan → IsSave name bytes plan → ⊥
replied_saves_nothing may plan name bytes (reply, one, is) saves = puts_save_nothing reply name bytes (subst (IsSave name bytes) is saves)

source_saves_nothing : (shallow : Bool) (held : Held) (from name bytes : List ℕ)
    → IsSave name bytes (if shallow then Loads from (λ text. Does held (Script (commands_in text))) else Quiet (Refuses refusal.Nested)) → ⊥
source_saves_nothing true held from name bytes saves = saves
source_saves_nothing false held from name bytes saves = saves

-- what a command writes is the text of what is held
abbrev IsHeldText : Held → Option (List ℕ) → Form → List ℕ → Type 0
IsHeldText held to form bytes = (written : Written) × WritesTo to form written × IsTextOf held written bytes

network_saves : (held : Held) (file : Option (List ℕ)) (network : Option Circuit) (name bytes : List ℕ) → held.network ≡ network
    → IsSave name bytes (sends file (reply_with held (written_text (network_of network)))) → IsHeldText held (Some name) (Writes TheNetwork file) bytes
network_saves held None network name bytes there saves = absurd (puts_save_nothing (reply_with held (written_text (network_of network))) name bytes saves)
network_saves held (Some to) None name bytes there saves = absurd saves
network_saves held (Some to) (Some circuit) name bytes there saves = (OfSpec (asked.Circuit circuit), ap (λ n. Some n) (sym saves.0), (there, saves.1))

machine_saves : (held : Held) (file : Option (List ℕ)) (machine : Option Machine) (name bytes : List ℕ) → held.machine ≡ machine
    → IsSave name bytes (sends file (reply_with held (written_text (machine_of machine)))) → IsHeldText held (Some name) (Writes TheMachine file) bytes
machine_saves held None machine name bytes there saves = absurd (puts_save_nothing (reply_with held (written_text (machine_of machine))) name bytes saves)
machine_saves held (Some to) None name bytes there saves = absurd saves
machine_saves held (Some to) (Some machine) name bytes there saves = (OfSpec (asked.Machine machine), ap (λ n. Some n) (sym saves.0), (there, saves.1))

netlist_saves : (held : Held) (file : Option (List ℕ)) (netlist : Option Netlist)
    (name bytes : List ℕ) → held.netlist ≡ netlist
    → IsSave name bytes (sends file (reply_with held (written_text (netlist_of netlist))))
    → IsHeldText held (Some name) (Writes TheNetlist file) bytes
netlist_saves held None netlist name bytes there saves =
    absurd (puts_save_nothing (reply_with held (written_text (netlist_of netlist))) name bytes
    saves)
netlist_saves held (Some to) None name bytes there saves = absurd saves
netlist_saves held (Some to) (Some netlist) name bytes there saves =
    (OfNetlist netlist, ap (λ n. Some n) (sym saves.0), (there, saves.1))

form_saves : (depth : ℕ) (held : Held) (form : Form) (plan : Plan) (name bytes : List ℕ) → FormPlans depth held form plan → IsSave name bytes plan
    → IsHeldText held (Some name) form bytes
form_saves depth held (Tells tells) plan name bytes is saves = absurd (replied_saves_nothing (StaysTold held (tells held)) plan name bytes is saves)
form_saves depth held (Writes TheNetwork file) plan name bytes is saves = network_saves held file held.network name bytes refl (subst (IsSave name bytes) is saves)
form_saves depth held (Writes TheMachine file) plan name bytes is saves = machine_saves held file held.machine name bytes refl (subst (IsSave name bytes) is saves)
form_saves depth held (Writes TheNetlist file) plan name bytes is saves =
    netlist_saves held file held.netlist name bytes refl (subst (IsSave name bytes) is saves)
form_saves depth held (Reads format from) plan name bytes is saves = absurd (subst (IsSave name bytes) is saves)
form_saves depth held (ReadsLibrary from) plan name bytes is saves = absurd (subst (IsSave name bytes) is saves)
form_saves depth held (Generates seed tables) plan name bytes is saves =
    absurd (subst (IsSave name bytes) is saves)
form_saves depth held (ChangesNetwork change) plan name bytes is saves = absurd (replied_saves_nothing (ChangedBy held change held.network) plan name bytes is saves)
form_saves depth held (EncodesMachine style) plan name bytes is saves =
    absurd (puts_save_nothing (encoded_reply (coding_of style) held held.machine) name bytes
    (subst (IsSave name bytes) is saves))
form_saves depth held (MakesNetlist brief) plan name bytes is saves =
    absurd (replied_saves_nothing (MappedBy brief held held.network held.library) plan name bytes
    is saves)
form_saves depth held TakesBack plan name bytes is saves = absurd (subst (IsSave name bytes) is saves)
form_saves depth held (Sources from) plan name bytes is saves =
    absurd (source_saves_nothing (nat_lt depth MAX_DEPTH) held from name bytes (subst (IsSave name bytes) is saves))
form_saves depth held Ends plan name bytes is saves = absurd (subst (IsSave name bytes) is saves)
form_saves depth held (IsWrong fault) plan name bytes is saves = absurd (subst (IsSave name bytes) is saves)

pub saved_step : (depth : ℕ) (held : Held) (op : Op) (name bytes : List ℕ) (answer : Result (Unit {0}) SaveFault) (ending : Ending)
    → Steps (Plans depth held op) (OnStore (Save name bytes answer)) ending
    → (written : Written) × WritesTo (Some name) (form_of op) written × IsTextOf held written bytes
saved_step depth held op name bytes answer ending (by_plan plan planned goes) =
    form_saves depth held (form_of op) plan name bytes planned (goes_save plan name bytes answer ending goes)
saved_step depth held op name bytes answer ending (no_memory none cut) = cc

replies_put : (piece text : List ℕ) (outcome : Outcome) → IsPut piece (replies text outcome) → piece ≡ text
replies_put piece [] outcome p = absurd p
replies_put piece (byte ∷ bytes) outcome p = p

network_puts : (held : Held) (file : Option (List ℕ)) (network : Option Circuit) (piece : List ℕ) → held.network ≡ network
    → IsPut piece (sends file (reply_with held (written_text (network_of network)))) → IsHeldText held None (Writes TheNetwork file) piece
network_puts held None None piece there puts = absurd puts
network_puts held (Some name) None piece there puts = absurd puts
network_puts held (Some name) (Some circuit) piece there puts = absurd puts
network_puts held None (Some circuit) piece there puts = (OfSpec (asked.Circuit circuit), refl, (there, replies_put piece (text_of circuit) (Does held Go) puts))

machine_puts : (held : Held) (file : Option (List ℕ)) (machine : Option Machine) (piece : List ℕ) → held.machine ≡ machine
    → IsPut piece (sends file (reply_with held (written_text (machine_of machine)))) → IsHeldText held None (Writes TheMachine file) piece
machine_puts held None None piece there puts = absurd puts
machine_puts held (Some name) None piece there puts = absurd puts
machine_puts held (Some name) (Some machine) piece there puts = absurd puts
machine_puts held None (Some machine) piece there puts = (OfSpec (asked.Machine machine), refl, (there, replies_put piece (machine_text_of machine) (Does held Go) puts))

netlist_puts : (held : Held) (file : Option (List ℕ)) (netlist : Option Netlist) (piece : List ℕ)
    → held.netlist ≡ netlist
    → IsPut piece (sends file (reply_with held (written_text (netlist_of netlist))))
    → IsHeldText held None (Writes TheNetlist file) piece
netlist_puts held None None piece there puts = absurd puts
netlist_puts held (Some name) None piece there puts = absurd puts
netlist_puts held (Some name) (Some netlist) piece there puts = absurd puts
netlist_puts held None (Some netlist) piece there puts =
    (OfNetlist netlist, refl, (there, replies_put piece (netlist_text_of netlist) (Does held Go) puts))

form_puts : (depth : ℕ) (held : Held) (form : Form) (plan : Plan) (piece : List ℕ) → IsWriting form → FormPlans depth held form plan → IsPut piece plan → IsHeldText held None form piece
form_puts depth held (Writes TheNetwork file) plan piece writing is puts = network_puts held file held.network piece refl (subst (IsPut piece) is puts)
form_puts depth held (Writes TheMachine file) plan piece writing is puts = machine_puts held file held.machine piece refl (subst (IsPut piece) is puts)
form_puts depth held (Writes TheNetlist file) plan piece writing is puts =
    netlist_puts held file held.netlist piece refl (subst (IsPut piece) is puts)
form_puts depth held (Tells tells) plan piece writing is puts = absurd writing
form_puts depth held (Reads format name) plan piece writing is puts = absurd writing
form_puts depth held (ReadsLibrary name) plan piece writing is puts = absurd writing
form_puts depth held (Generates seed tables) plan piece writing is puts = absurd writing
form_puts depth held (ChangesNetwork change) plan piece writing is puts = absurd writing
form_puts depth held (EncodesMachine style) plan piece writing is puts = absurd writing
form_puts depth held (MakesNetlist brief) plan piece writing is puts = absurd writing
form_puts depth held TakesBack plan piece writing is puts = absurd writing
form_puts depth held (Sources name) plan piece writing is puts = absurd writing
form_puts depth held Ends plan piece writing is puts = absurd writing
form_puts depth held (IsWrong fault) plan piece writing is puts = absurd writing

pub put_step : (depth : ℕ) (held : Held) (op : Op) (call : PutCall) (ending : Ending) → IsWriting (form_of op)
    → Steps (Plans depth held op) (OnOut call) ending
    → (written : Written) × WritesTo None (form_of op) written × IsTextOf held written call.piece
put_step depth held op call ending writing (by_plan plan planned goes) = form_puts depth held (form_of op) plan call.piece writing planned (goes_put plan call ending goes)
put_step depth held op call ending writing (no_memory none cut) = cc

-- what `map` prints is the areas of its netlist
mapped_puts : (held : Held) (brief : Bool) (network : Option Circuit) (library : Option Library)
    (reply : Result Reply Refusal) (piece : List ℕ) → held.network ≡ network
    → held.library ≡ library → MappedBy brief held network library reply
    → IsPut piece (sends None reply) → TellsAreas held piece
mapped_puts held brief None library reply piece is has same puts =
    absurd (subst (λ (r : Result Reply Refusal). IsPut piece (sends None r)) same puts)
mapped_puts held brief (Some circuit) None reply piece is has same puts =
    absurd (subst (λ (r : Result Reply Refusal). IsPut piece (sends None r)) same puts)
mapped_puts held brief (Some circuit) (Some gates) (Err why) piece is has made puts = absurd puts
mapped_puts held brief (Some circuit) (Some gates) (Ok reply) piece is has
    (sound, known, netlist, (inverter, nand, mapped), same) puts = (
      brief,
      netlist,
      replies_put piece reply.text (Does reply.held Go) puts ∙ ap (λ (r : Reply). r.text) same,
      mapped_from held.library held.network circuit gates netlist is has sound known mapped,
    )

form_tells : (depth : ℕ) (held : Held) (form : Form) (plan : Plan) (piece : List ℕ)
    → IsMapping form → FormPlans depth held form plan → IsPut piece plan → TellsAreas held piece
form_tells depth held (MakesNetlist brief) plan piece mapping (reply, made, is) puts =
    mapped_puts held brief held.network held.library reply piece refl refl made
    (subst (IsPut piece) is puts)
form_tells depth held (Writes part file) plan piece mapping is puts = absurd mapping
form_tells depth held (Tells tells) plan piece mapping is puts = absurd mapping
form_tells depth held (Reads format name) plan piece mapping is puts = absurd mapping
form_tells depth held (ReadsLibrary name) plan piece mapping is puts = absurd mapping
form_tells depth held (Generates seed tables) plan piece mapping is puts = absurd mapping
form_tells depth held (ChangesNetwork change) plan piece mapping is puts = absurd mapping
form_tells depth held (EncodesMachine style) plan piece mapping is puts = absurd mapping
form_tells depth held TakesBack plan piece mapping is puts = absurd mapping
form_tells depth held (Sources name) plan piece mapping is puts = absurd mapping
form_tells depth held Ends plan piece mapping is puts = absurd mapping
form_tells depth held (IsWrong fault) plan piece mapping is puts = absurd mapping

pub areas_step : (depth : ℕ) (held : Held) (op : Op) (call : PutCall) (ending : Ending)
    → IsMapping (form_of op) → Steps (Plans depth held op) (OnOut call) ending
    → TellsAreas held call.piece
areas_step depth held op call ending mapping (by_plan plan planned goes) =
    form_tells depth held (form_of op) plan call.piece mapping planned (goes_put plan call ending goes)
areas_step depth held op call ending mapping (no_memory none cut) = cc
