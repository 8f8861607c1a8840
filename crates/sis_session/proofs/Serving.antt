-- A command that is served is done, but for want of memory.
use Rattle.std.proofs.Common.{◌≡◌, ◌∙◌, ℕ, ◌<◌, ◌≤◌, List, [], ◌∷◌, true, refl, sym, ap, subst, inl, inr, arith}
use Rattle.std.proofs.lemmas.Bool.Decides.{nat_tests}
use Rattle.std.proofs.lemmas.Option.{same_Some}
use Rattle.std.specs.Prelude.{◌⊎◌, Bool, Option, Some, None, Result, Ok, Err, nat_lt, if◌then◌else◌}
use Rattle.sis_outside.specs.Calls.{Load, Save}
use Rattle.sis_outside.specs.declared.sink.PutFault.{PutFault}
use Rattle.circuit_model.specs.Values.{driver}
use Rattle.circuit_model.specs.declared.circuit.Circuit.{Circuit}
use Rattle.circuit_model.specs.declared.circuit.Table.{Table}
use Rattle.net_candidates.specs.Extracting.{HasManyKernels}
use Rattle.genlib_format.specs.Reader.{library_of}
use Rattle.sis_script.specs.declared.command.Change.{Change}
use Rattle.circuit_model.specs.declared.machine.Spec.{Spec}
use Rattle.circuit_model.specs.declared.machine.Spec.TheVariants as spec
use Rattle.sis_script.specs.declared.command.Op.{Op}
use Rattle.sis_script.specs.declared.command.Op.TheVariants as command
use Rattle.state_code.specs.Codes.{codes_of}
use Rattle.state_code.specs.Encoded.{encoded}
use Rattle.sis_session.specs.Replies.{codes_text, echo_line}
use Rattle.sis_session.proofs.Stepping.{narrow_reply}
use Rattle.sis_base.specs.declared.limits.TheConstants.{MAX_INPUTS}
use Rattle.state_code.specs.Codes.{leaf_count}
use Rattle.circuit_model.specs.declared.machine.Machine.{Machine}
use Rattle.state_code.specs.declared.codes.Style.{Style}
use Rattle.sis_session.specs.Commands.{Blif, ChangedBy, Changes, ChangesNetwork, EncodesMachine, Ends, coding_of, encoded_reply, FactorsTold, FactorTold, Form, Format, FormPlans, Generates, IsWrong, Just, KernelsOf, KernelsTold, KernelTold, Kiss, Plans, Reads, ReadsLibrary, Replies, Sources, StaysTold, TakesBack, TheMachine, TheNetlist, TheNetwork, Written, OfSpec, OfNetlist, MakesNetlist, MappedBy, Declines, ToldBy, Writes, circuit_of, commands_in, form_of, latches_told, library_held, machine_of, netlist_of, named_told, network_of, reply_with, source_plan, spec_held, spec_in, stats_told, tables_told, text_of_written, undo_outcome, written_text}
use Rattle.sis_session.specs.Keeping.{Allows, HasBytes, HasNeeds, HasNetwork, IsAnswered, IsServed}
use Rattle.sis_session.specs.Plan.{MAX_DEPTH, Asked, Nothing, OnStore, OnOut, OnInput, Comes, ComesPut, Cut, Done, Ending, Goes, Loads, Outcome, Does, Refuses, Plan, Quiet, Puts, Reply, Saves, Steps, by_plan, no_memory, replies, sends}
use Rattle.sis_session.specs.State.{Library, Held, with_read, with_spec, with_library, with_changed, with_encoded, with_exchanged}
use Rattle.sis_session.specs.declared.refusal.Failed.TheVariants as failed
use Rattle.sis_session.specs.declared.refusal.Next.{Next}
use Rattle.sis_session.specs.declared.refusal.Next.TheVariants.{Go, Quit as QuitNext, Script}
use Rattle.sis_session.specs.declared.refusal.Refusal.{Refusal}
use Rattle.sis_session.specs.declared.refusal.Refusal.TheVariants as refusal

-- an ending of a command that is not refused and not cut short but for want of memory
abbrev IsDone : Ending → Type 0
IsDone ending = ((held : Held) × (next : Next) × (ending ≡ Done held next)) ⊎ (ending ≡ Cut failed.Memory)

-- a plan that comes to no refusal where each call is answered with what was asked
abbrev Works : Held → Form → Plan → Type 0
Works held form plan = (asked : Asked) (ending : Ending) → IsAnswered held form asked → Goes plan asked ending → IsDone ending

does_done : (held : Held) (next : Next) (ending : Ending) → Comes (Does held next) ending → IsDone ending
does_done held next ending (inl is) = inl (held, next, is)
does_done held next ending (inr is) = inr is

quiet_works : (form : Form) (held left : Held) (next : Next) → Works held form (Quiet (Does left next))
quiet_works form held left next Nothing ending answered goes = does_done left next ending goes
quiet_works form held left next (OnStore call) ending answered goes = absurd goes
quiet_works form held left next (OnOut call) ending answered goes = absurd goes
quiet_works form held left next (OnInput calls) ending answered goes = absurd goes

loads_works : (held : Held) (form : Form) (name : List ℕ) (used : List ℕ → Outcome) → ((bytes : List ℕ) (ending : Ending) → HasBytes held form bytes → Comes (used bytes) ending → IsDone ending)
    → Works held form (Loads name used)
loads_works held form name used each Nothing ending answered goes = absurd goes
loads_works held form name used each (OnStore (Load loaded max (Ok bytes))) ending answered goes = each bytes ending answered goes.2
loads_works held form name used each (OnStore (Load loaded max (Err fault))) ending answered goes = absurd answered
loads_works held form name used each (OnStore (Save saved sent answer)) ending answered goes = absurd goes
loads_works held form name used each (OnOut call) ending answered goes = absurd goes
loads_works held form name used each (OnInput calls) ending answered goes = absurd goes

saves_works : (form : Form) (held left : Held) (name text : List ℕ) → Works held form (Saves name text (Does left Go))
saves_works form held left name text Nothing ending answered goes = absurd goes
saves_works form held left name text (OnStore (Load loaded max answer)) ending answered goes = absurd goes
saves_works form held left name text (OnStore (Save saved sent (Ok done))) ending answered goes = does_done left Go ending goes.2
saves_works form held left name text (OnStore (Save saved sent (Err fault))) ending answered goes = cc
saves_works form held left name text (OnOut call) ending answered goes = absurd goes
saves_works form held left name text (OnInput calls) ending answered goes = absurd goes

put_done : (left : Held) (answer : Result (Unit {0}) PutFault) (ending : Ending) → answer ≡ Ok tt → ComesPut (Does left Go) answer ending → IsDone ending
put_done left (Ok done) ending answered comes = does_done left Go ending comes
put_done left (Err fault) ending answered comes = cc

puts_works : (form : Form) (held left : Held) (text : List ℕ) → Works held form (Puts text (Does left Go))
puts_works form held left text Nothing ending answered goes = absurd goes
puts_works form held left text (OnStore (Load loaded max answer)) ending answered goes = absurd goes
puts_works form held left text (OnStore (Save saved sent answer)) ending answered goes = absurd goes
puts_works form held left text (OnOut call) ending answered goes = put_done left call.answer ending answered goes.1
puts_works form held left text (OnInput calls) ending answered goes = absurd goes

replies_works : (form : Form) (held left : Held) (text : List ℕ) → Works held form (replies text (Does left Go))
replies_works form held left [] = quiet_works form held left Go
replies_works form held left (byte ∷ bytes) = puts_works form held left (byte ∷ bytes)

sends_works : (form : Form) (held : Held) (file : Option (List ℕ)) (reply : Reply) → Works held form (sends file (Ok reply))
sends_works form held None reply = replies_works form held reply.held reply.text
sends_works form held (Some name) reply = saves_works form held reply.held name reply.text

replied_works : (form : Form) (held : Held) (may : Result Reply Refusal → Type 0) (plan : Plan) → ((reply : Result Reply Refusal) → may reply → (one : Reply) × (reply ≡ Ok one))
    → Replies may plan → Works held form plan
replied_works form held may plan gives (reply, h, is) =
    let (one, same) = gives reply h in
    subst (Works held form) (sym is) (subst (λ r. Works held form (sends None r)) (sym same) (sends_works form held None one))

-- a text is printed
Gives : (Result (List ℕ) Refusal → Type 0) → Type 0
Gives tells = (what : Result (List ℕ) Refusal) → tells what → (text : List ℕ) × (what ≡ Ok text)

told_works : (form : Form) (held : Held) (tells : Result (List ℕ) Refusal → Type 0) (plan : Plan) → Gives tells → Replies (StaysTold held tells) plan → Works held form plan
unfolding Gives
told_works form held tells plan gives is = replied_works form held (StaysTold held tells) plan by is
  where
    by : (reply : Result Reply Refusal) → StaysTold held tells reply → (one : Reply) × (reply ≡ Ok one)
    by reply (what, told, same) = let (text, h) = gives what told in (record { text = text; held = held }, same ∙ ap (reply_with held) h)

network_gives : (tells : Circuit → Result (List ℕ) Refusal → Type 0) (network : Option Circuit) (circuit : Circuit) → network ≡ Some circuit → Gives (tells circuit) → Gives (ToldBy tells network)
unfolding Gives
network_gives tells network circuit there gives what told = gives what (subst (λ n. ToldBy tells n what) there told)

just_gives : {A : Type 0} (told : A → Result (List ℕ) Refusal) (of : A) (text : List ℕ) → told of ≡ Ok text → Gives (Just told of)
unfolding Gives
just_gives told of text is what same = (text, sym same ∙ is)

named_gives : (name : List ℕ) (circuit : Circuit) (table : Table) → driver circuit.tables name ≡ Some table → Gives (Just (tables_told (Some name)) circuit)
named_gives name circuit table found = just_gives (tables_told (Some name)) circuit _ (ap (named_told name) found)

factor_gives : (name : List ℕ) (circuit : Circuit) (table : Table) → driver circuit.tables name ≡ Some table → Gives (FactorsTold (Some name) circuit)
unfolding Gives
factor_gives name circuit table found what told = let (line, is, same) = subst (λ d. FactorTold name d what) found told in (line, same)

factors_give : (circuit : Circuit) → Gives (FactorsTold None circuit)
unfolding Gives
factors_give circuit what (text, are, same) = (text, same)

few_kernels : (name : List ℕ) (table : Table) (what : Result (List ℕ) Refusal) → (HasManyKernels table → ⊥) → KernelsOf name table what → (text : List ℕ) × (what ≡ Ok text)
few_kernels name table (Ok text) few told = (text, refl)
few_kernels name table (Err why) few told = absurd (few told.1)

kernels_give : (name : List ℕ) (circuit : Circuit) (table : Table) → driver circuit.tables name ≡ Some table → (HasManyKernels table → ⊥) → Gives (KernelsTold name circuit)
unfolding Gives
kernels_give name circuit table found few what told = few_kernels name table what few (subst (λ d. KernelTold name d what) found told)

-- what is held is written
written_works : (form : Form) (held : Held) (file : Option (List ℕ)) (part : Result Written Refusal) (written : Written) → part ≡ Ok written
    → Works held form (sends file (reply_with held (written_text part)))
written_works form held file part written is =
    subst (λ p. Works held form (sends file (reply_with held (written_text p)))) (sym is) (sends_works form held file (record { text = text_of_written written; held = held }))

-- a change that nothing refuses makes a network
change_gives : (held : Held) (change : Change) (network : Option Circuit) (old : Circuit) → network ≡ Some old → Allows change old
    → (reply : Result Reply Refusal) → ChangedBy held change network reply → (one : Reply) × (reply ≡ Ok one)
change_gives held change None old there allows reply is = cc
change_gives held change (Some circuit) old there allows reply (Ok new, changes, is) = (record { text = []; held = with_changed held new }, is)
change_gives held change (Some circuit) old there allows reply (Err why, changes, is) =
    let same : old ≡ circuit = cc in absurd (allows why (subst (λ (c : Circuit). Changes change c (Err why)) (sym same) changes))

-- a machine's network that is not too wide is made
encoding_works : (form : Form) (held : Held) (coding : Style) (there : Option Machine)
    (machine : Machine) → there ≡ Some machine → leaf_count coding machine ≤ MAX_INPUTS
    → Works held form (sends None (encoded_reply coding held there))
encoding_works form held coding there machine is narrow =
    subst (λ (r : Result Reply Refusal). Works held form (sends None r))
    (sym (ap (encoded_reply coding held) is ∙ narrow_reply coding held machine narrow))
    (sends_works form held None (record {
      text = codes_text (codes_of coding machine);
      held = with_encoded held held.network (encoded coding machine);
    }))

-- a network that no reason is against is mapped
mapping_gives : (brief : Bool) (held : Held) (network : Option Circuit) (library : Option Library)
    (circuit : Circuit) (gates : Library) → network ≡ Some circuit → library ≡ Some gates
    → ((why : Refusal) → Declines circuit gates why → ⊥)
    → (reply : Result Reply Refusal) → MappedBy brief held network library reply
    → (one : Reply) × (reply ≡ Ok one)
mapping_gives brief held None library circuit gates is has free reply h = cc
mapping_gives brief held (Some other) None circuit gates is has free reply h = cc
mapping_gives brief held (Some other) (Some more) circuit gates is has free (Ok reply) h =
    (reply, refl)
mapping_gives brief held (Some other) (Some more) circuit gates is has free (Err why) h =
    let same : other ≡ circuit = same_Some other circuit is in
    let alike : more ≡ gates = same_Some more gates has in
    absurd (free why (subst (λ (l : Library). Declines circuit l why) alike
    (subst (λ (c : Circuit). Declines c more why) same h.2)))

undo_works : (form : Form) (held : Held) (previous : Option Circuit) → HasNetwork previous → Works held form (Quiet (undo_outcome held previous))
undo_works form held None (circuit, there) = cc
undo_works form held (Some other) there = quiet_works form held (with_exchanged held) Go

source_works : (depth : ℕ) (held : Held) (name : List ℕ) → depth < MAX_DEPTH → Works held (Sources name) (source_plan depth held name)
source_works depth held name shallow =
    let here : nat_lt depth MAX_DEPTH ≡ true = grind (arith, nat_tests) in
    subst (λ (b : Bool). Works held (Sources name) (if b then Loads name (λ bytes. Does held (Script (commands_in bytes))) else Quiet (Refuses refusal.Nested))) (sym here)
    (loads_works held (Sources name) name (λ bytes. Does held (Script (commands_in bytes))) (λ bytes ending has comes. does_done held (Script (commands_in bytes)) ending comes))

reads_work : (depth : ℕ) (held : Held) (format : Format) (name : List ℕ) (plan : Plan) → FormPlans depth held (Reads format name) plan → Works held (Reads format name) plan
reads_work depth held format name plan is =
    subst (Works held (Reads format name)) (sym is) (loads_works held (Reads format name) name (λ bytes. spec_held held (spec_in format held name bytes)) by)
  where
    by : (bytes : List ℕ) (ending : Ending) → HasBytes held (Reads format name) bytes → Comes (spec_held held (spec_in format held name bytes)) ending → IsDone ending
    by bytes ending (read, reads) comes = does_done (with_spec held read) Go ending (subst (λ r. Comes (spec_held held r) ending) reads comes)

library_works : (depth : ℕ) (held : Held) (name : List ℕ) (plan : Plan) → FormPlans depth held (ReadsLibrary name) plan → Works held (ReadsLibrary name) plan
library_works depth held name plan is =
    subst (Works held (ReadsLibrary name)) (sym is) (loads_works held (ReadsLibrary name) name (λ bytes. library_held held name (library_of bytes)) by)
  where
    by : (bytes : List ℕ) (ending : Ending) → HasBytes held (ReadsLibrary name) bytes → Comes (library_held held name (library_of bytes)) ending → IsDone ending
    by bytes ending (library, reads) comes = does_done (with_library held library) Go ending (subst (λ r. Comes (library_held held name r) ending) reads comes)

-- a command that prints of the network has a text if there is a network
told_of_network : (form : Form) (held : Held) (tells : Circuit → Result (List ℕ) Refusal → Type 0) (circuit : Circuit) (plan : Plan) → held.network ≡ Some circuit → Gives (tells circuit)
    → Replies (StaysTold held (ToldBy tells held.network)) plan → Works held form plan
told_of_network form held tells circuit plan there gives is =
    told_works form held (ToldBy tells held.network) plan (network_gives tells held.network circuit there gives) is

plan_works : (depth : ℕ) (held : Held) (op : Op) (plan : Plan) → HasNeeds depth held op → Plans depth held op plan → Works held (form_of op) plan
plan_works depth held (command.Echo words) plan needs is =
    told_works (form_of (command.Echo words)) held (Just (λ line. Ok line) (echo_line words)) plan (just_gives (λ line. Ok line) (echo_line words) (echo_line words) refl) is
plan_works depth held command.Quit plan needs is = subst (Works held Ends) (sym is) (quiet_works Ends held held QuitNext)
plan_works depth held (command.ReadBlif name) plan needs is = reads_work depth held Blif name plan is
plan_works depth held (command.ReadKiss name) plan needs is = reads_work depth held Kiss name plan is
plan_works depth held (command.ReadLibrary name) plan needs is = library_works depth held name plan is
plan_works depth held (command.Generate seed tables) plan needs is =
    subst (Works held (Generates seed tables)) (sym is)
    (quiet_works (Generates seed tables) held (with_read held (circuit_of seed tables)) Go)
plan_works depth held (command.WriteBlif file) plan (circuit, there) is =
    subst (Works held (Writes TheNetwork file)) (sym is) (written_works (Writes TheNetwork file) held file (network_of held.network) (OfSpec (spec.Circuit circuit)) (ap network_of there))
plan_works depth held (command.WriteKiss file) plan (machine, there) is =
    subst (Works held (Writes TheMachine file)) (sym is) (written_works (Writes TheMachine file) held file (machine_of held.machine) (OfSpec (spec.Machine machine)) (ap machine_of there))
plan_works depth held command.PrintStats plan (circuit, there) is = told_of_network (form_of command.PrintStats) held (Just stats_told) circuit plan there (just_gives stats_told circuit _ refl) is
plan_works depth held (command.Print None) plan (circuit, there) is =
    told_of_network (form_of (command.Print None)) held (Just (tables_told None)) circuit plan there (just_gives (tables_told None) circuit _ refl) is
plan_works depth held (command.Print (Some name)) plan (circuit, there, table, found) is =
    told_of_network (form_of (command.Print (Some name))) held (Just (tables_told (Some name))) circuit plan there (named_gives name circuit table found) is
plan_works depth held command.PrintLatch plan (circuit, there) is = told_of_network (form_of command.PrintLatch) held (Just latches_told) circuit plan there (just_gives latches_told circuit _ refl) is
plan_works depth held (command.PrintFactor None) plan (circuit, there) is = told_of_network (form_of (command.PrintFactor None)) held (FactorsTold None) circuit plan there (factors_give circuit) is
plan_works depth held (command.PrintFactor (Some name)) plan (circuit, there, table, found) is =
    told_of_network (form_of (command.PrintFactor (Some name))) held (FactorsTold (Some name)) circuit plan there (factor_gives name circuit table found) is
plan_works depth held (command.PrintKernel name) plan (circuit, there, table, found, few) is =
    told_of_network (form_of (command.PrintKernel name)) held (KernelsTold name) circuit plan there (kernels_give name circuit table found few) is
plan_works depth held (command.Change change) plan (old, there, allows) is =
    replied_works (ChangesNetwork change) held (ChangedBy held change held.network) plan (change_gives held change held.network old there allows) is
plan_works depth held (command.StateAssign style) plan (machine, there, narrow) is =
    subst (Works held (EncodesMachine style)) (sym is)
    (encoding_works (EncodesMachine style) held (coding_of style) held.machine machine there narrow)
plan_works depth held (command.WriteNetlist file) plan (netlist, there) is =
    subst (Works held (Writes TheNetlist file)) (sym is)
    (written_works (Writes TheNetlist file) held file (netlist_of held.netlist) (OfNetlist netlist)
    (ap netlist_of there))
plan_works depth held (command.Map brief) plan (circuit, gates, there, has, free) is =
    replied_works (MakesNetlist brief) held (MappedBy brief held held.network held.library) plan
    (mapping_gives brief held held.network held.library circuit gates there has free) is
plan_works depth held command.Undo plan needs is = subst (Works held TakesBack) (sym is) (undo_works TakesBack held held.previous needs)
plan_works depth held (command.Source name) plan needs is = subst (Works held (Sources name)) (sym is) (source_works depth held name needs)
plan_works depth held (command.Bad fault) plan needs is = absurd needs

pub served_done : (depth : ℕ) (held : Held) (op : Op) (asked : Asked) (ending : Ending) → IsServed depth held op asked → Steps (Plans depth held op) asked ending
    → ((held' : Held) × (next : Next) × (ending ≡ Done held' next)) ⊎ (ending ≡ Cut failed.Memory)
served_done depth held op asked ending served (by_plan plan planned goes) = plan_works depth held op plan served.0 planned asked ending served.1 goes
served_done depth held op asked ending served (no_memory none is) = inr is
