-- A command ends in one way where the outside answers the same.
use Rattle.std.proofs.Common.{◌≡◌, ℕ, List, [], ◌∷◌, sym, ap, subst, ◌∙◌, inl, inr}
use Rattle.std.specs.Prelude.{◌⊎◌, ◌++◌, ℤ, Bool, Option, Some, None, Result, Ok, Err}
use Rattle.sis_outside.specs.Calls.{Load, Save, TakeCall}
use Rattle.sis_outside.specs.declared.store.LoadFault.{LoadFault}
use Rattle.sis_outside.specs.declared.store.LoadFault.TheVariants as load
use Rattle.sis_outside.specs.declared.store.SaveFault.{SaveFault}
use Rattle.sis_outside.specs.declared.store.SaveFault.TheVariants as save
use Rattle.sis_outside.specs.declared.sink.PutFault.{PutFault}
use Rattle.sis_outside.specs.declared.sink.PutFault.TheVariants as put
use Rattle.sis_outside.specs.declared.source.TakeFault.{TakeFault}
use Rattle.sis_outside.specs.declared.source.TakeFault.TheVariants as take
use Rattle.circuit_model.specs.Values.{driver}
use Rattle.circuit_model.specs.declared.circuit.Circuit.{Circuit}
use Rattle.circuit_model.specs.declared.circuit.Table.{Table}
use Rattle.sis_session.proofs.FormsOnce.{factor_line_once, factor_lines_once, kernel_lines_once}
use Rattle.circuit_laws.proofs.Chains.{chain_same}
use Rattle.net_wires.specs.Rules.{sweep_step}
use Rattle.alg_tables.specs.declared.taking.ComposeFault.{ComposeFault as TableFault}
use Rattle.alg_tables.specs.declared.taking.ComposeFault.TheVariants.{CubeLimit, TooWide, Memory}
use Rattle.net_elim.specs.Eliminating.{eliminate_step}
use Rattle.net_elim.specs.Collapsing.{collapse_refusal}
use Rattle.sdc_simplify.specs.Simplified.{simplify_refusal}
use Rattle.circuit_order.specs.Order.{order_of}
use Rattle.odc_simplify.specs.Turns.{HasFullySimplified}
use Rattle.odc_simplify.specs.declared.fault.FullFault.TheVariants as unsimplified
use Rattle.odc_simplify.proofs.Firsts.{first_long, none_long}
use Rattle.net_candidates.specs.Extracting.{IsExtracted}
use Rattle.net_candidates.specs.declared.rule.Rule.{Rule as Extraction}
use Rattle.net_candidates.specs.declared.rule.Rule.TheVariants as extract
use Rattle.net_candidates.proofs.Ends.{extracted_one, extracted_not_full, extracted_not_unlistable, full_not_unlistable, unlistable_one}
use Rattle.net_resub.proofs.Ends.{resubbed_one}
use Rattle.net_decomp.specs.declared.rule.Rule.{Rule}
use Rattle.net_decomp.specs.declared.rule.Rule.TheVariants.{Shared, Gates}
use Rattle.net_decomp.proofs.Ends.{decomposed_one, decomposed_not_full}
use Rattle.sis_script.specs.declared.command.Change.{Change}
use Rattle.sis_script.specs.declared.command.Change.TheVariants as changing
use Rattle.sis_script.specs.declared.command.Op.{Op}
use Rattle.sis_script.specs.declared.command.Op.TheVariants as command
use Rattle.circuit_model.specs.Soundness.{IsSound}
use Rattle.genlib_format.specs.Soundness.{IsSoundGates}
use Rattle.map_net.specs.Mapping.{Maps}
use Rattle.map_net.specs.declared.mapping.MapFault.{MapFault}
use Rattle.map_net.specs.declared.mapping.MapFault.TheVariants as unmapped
use Rattle.map_net.proofs.Outcomes.{answers_one, sound_one}
use Rattle.std.proofs.lemmas.Option.{same_Some}
use Rattle.sis_session.specs.Commands.{ChangedBy, Changes, ChangesNetwork, EncodesMachine, MakesNetlist, MappedBy, refusal_of, Ends, Form, FormPlans, Generates, IsCollapseRefusal, IsSimplifyRefusal, IsWrong, Just, Decomposes, Extracts, IsExtractionRefusal, FactorsTold, FactorTold, KernelsOf, KernelsTold, KernelTold, Plans, Reads, ReadsLibrary, Replies, Sources, StaysTold, TakesBack, Tells, ToldBy, Writes, form_of, latches_told, reply_changed, reply_with, stats_told, tables_told}
use Rattle.sis_session.specs.Replies.{echo_line, map_text}
use Rattle.sis_session.specs.Keeping.{AreOneEnding, AreOnePlan, ChangesOnce, EndsEarly, PlansTooBig, RefusesTooBig}
use Rattle.sis_session.specs.Plan.{MAX_FUNCTION, Asked, Nothing, OnStore, OnOut, OnInput, Comes, ComesLoaded, ComesSaved, ComesPut, ComesTaken, ComesPiece, Cut, Done, Ending, Goes, Loads, Outcome, Does, Refuses, Plan, Quiet, Puts, Refused, Reply, Saves, Takes, Steps, by_plan, no_memory, sends}
use Rattle.sis_session.specs.State.{Held, Library, Netlist, with_mapped}
use Rattle.sis_session.specs.declared.refusal.Failed.TheVariants as failed
use Rattle.sis_session.specs.declared.refusal.Refusal.{Refusal}
use Rattle.sis_session.specs.declared.refusal.Refusal.TheVariants as refusal

-- two endings are equal, or memory ran out
abbrev pub AreOne : Ending → Ending → Type 0
AreOne one other = (one ≡ other) ⊎ ((one ≡ Cut failed.Memory) ⊎ (other ≡ Cut failed.Memory))

both_are : (ending one other : Ending) → one ≡ ending → other ≡ ending → AreOne one other
both_are ending one other h k = inl (h ∙ sym k)

comes_once : (outcome : Outcome) (one other : Ending) → Comes outcome one → Comes outcome other → AreOne one other
comes_once (Does held next) one other (inl h) (inl k) = both_are (Done held next) one other h k
comes_once (Does held next) one other (inr h) k = inr (inl h)
comes_once (Does held next) one other (inl h) (inr k) = inr (inr k)
comes_once (Refuses why) one other (inl h) (inl k) = both_are (Refused why) one other h k
comes_once (Refuses why) one other (inr h) k = inr (inl h)
comes_once (Refuses why) one other (inl h) (inr k) = inr (inr k)

loaded_once : (name : List ℕ) (used : List ℕ → Outcome) (answer : Result (List ℕ) LoadFault) (one other : Ending)
    → ComesLoaded name used answer one → ComesLoaded name used answer other → AreOne one other
loaded_once name used (Ok bytes) one other h k = comes_once (used bytes) one other h k
loaded_once name used (Err load.Missing) one other h k = comes_once (Refuses (refusal.Missing name)) one other h k
loaded_once name used (Err (load.TooLong reached)) one other h k = comes_once (Refuses (refusal.TooLong name)) one other h k
loaded_once name used (Err load.Failed) one other h k = both_are (Cut failed.Store) one other h k
loaded_once name used (Err load.Memory) one other h k = both_are (Cut failed.Memory) one other h k

saved_once : (outcome : Outcome) (answer : Result (Unit {0}) SaveFault) (one other : Ending) → ComesSaved outcome answer one → ComesSaved outcome answer other → AreOne one other
saved_once outcome (Ok done) one other h k = comes_once outcome one other h k
saved_once outcome (Err save.Failed) one other h k = both_are (Cut failed.Store) one other h k
saved_once outcome (Err save.Memory) one other h k = both_are (Cut failed.Memory) one other h k

put_once : (outcome : Outcome) (answer : Result (Unit {0}) PutFault) (one other : Ending) → ComesPut outcome answer one → ComesPut outcome answer other → AreOne one other
put_once outcome (Ok done) one other h k = comes_once outcome one other h k
put_once outcome (Err put.Failed) one other h k = both_are (Cut failed.Out) one other h k
put_once outcome (Err put.Memory) one other h k = both_are (Cut failed.Memory) one other h k

piece_once : (used : List ℕ → Outcome) (text : List ℕ) (answer : Result (List ℕ) TakeFault) (calls : List TakeCall) (one other : Ending)
    → ((longer : List ℕ) → ComesTaken used longer calls one → ComesTaken used longer calls other → AreOne one other)
    → ComesPiece used text answer calls (λ longer. ComesTaken used longer calls one) one
    → ComesPiece used text answer calls (λ longer. ComesTaken used longer calls other) other → AreOne one other
piece_once used text (Ok []) calls one other more h k = comes_once (used text) one other h.1 k.1
piece_once used text (Ok (byte ∷ piece)) calls one other more h k = more (text ++ byte ∷ piece) h k
piece_once used text (Err take.Failed) calls one other more h k = both_are (Cut failed.Input) one other h.1 k.1
piece_once used text (Err take.Memory) calls one other more h k = both_are (Cut failed.Memory) one other h.1 k.1

taken_once : (used : List ℕ → Outcome) (text : List ℕ) (calls : List TakeCall) (one other : Ending)
    → ComesTaken used text calls one → ComesTaken used text calls other → AreOne one other
taken_once used text [] one other (inl h) (inl k) = comes_once (Refuses refusal.LongScript) one other h.1 k.1
taken_once used text [] one other (inr h) k = inr (inl h.1)
taken_once used text [] one other (inl h) (inr k) = inr (inr k.1)
taken_once used text (call ∷ calls) one other h k =
    piece_once used text call.answer calls one other (λ longer a b. taken_once used longer calls one other a b) h.1 k.1

pub goes_once : (plan : Plan) (asked : Asked) (one other : Ending) → Goes plan asked one → Goes plan asked other → AreOne one other
goes_once (Quiet outcome) Nothing one other h k = comes_once outcome one other h k
goes_once (Quiet outcome) (OnStore call) one other h k = absurd h
goes_once (Quiet outcome) (OnOut call) one other h k = absurd h
goes_once (Quiet outcome) (OnInput calls) one other h k = absurd h
goes_once (Loads name used) Nothing one other h k = absurd h
goes_once (Loads name used) (OnStore (Load loaded max answer)) one other h k = loaded_once name used answer one other h.2 k.2
goes_once (Loads name used) (OnStore (Save saved sent answer)) one other h k = absurd h
goes_once (Loads name used) (OnOut call) one other h k = absurd h
goes_once (Loads name used) (OnInput calls) one other h k = absurd h
goes_once (Saves name bytes outcome) Nothing one other h k = absurd h
goes_once (Saves name bytes outcome) (OnStore (Load loaded max answer)) one other h k = absurd h
goes_once (Saves name bytes outcome) (OnStore (Save saved sent answer)) one other h k = saved_once outcome answer one other h.2 k.2
goes_once (Saves name bytes outcome) (OnOut call) one other h k = absurd h
goes_once (Saves name bytes outcome) (OnInput calls) one other h k = absurd h
goes_once (Puts reply outcome) Nothing one other h k = absurd h
goes_once (Puts reply outcome) (OnStore (Load loaded max answer)) one other h k = absurd h
goes_once (Puts reply outcome) (OnStore (Save saved sent answer)) one other h k = absurd h
goes_once (Puts reply outcome) (OnOut call) one other h k = put_once outcome call.answer one other h.1 k.1
goes_once (Puts reply outcome) (OnInput calls) one other h k = absurd h
goes_once (Takes used) Nothing one other h k = absurd h
goes_once (Takes used) (OnStore (Load loaded max answer)) one other h k = absurd h
goes_once (Takes used) (OnStore (Save saved sent answer)) one other h k = absurd h
goes_once (Takes used) (OnOut call) one other h k = absurd h
goes_once (Takes used) (OnInput calls) one other h k = taken_once used [] calls one other h k

-- a change makes one thing of each network, whatever it is
abbrev OneResult : Change → Type 0
OneResult change = (old : Circuit) (one other : Result Circuit Refusal) → Changes change old one
    → Changes change old other → one ≡ other

surely : (change : Change) → OneResult change → ChangesOnce change
surely change once old one other h k = inl (once old one other h k)

-- a sweep makes one thing of each network
sweeps_once : OneResult changing.Sweep
sweeps_once old (Ok one) (Ok other) h k = ap (λ (c : Circuit). Ok c) (chain_same sweep_step old one other h k)
sweeps_once old (Ok one) (Err why) h k = absurd k
sweeps_once old (Err why) other h k = absurd h

-- so does an elimination
eliminations_once : (threshold : ℤ) (rows : ℕ) → OneResult (changing.Eliminate threshold rows)
eliminations_once threshold rows old (Ok one) (Ok other) h k = ap (λ (c : Circuit). Ok c) (chain_same (eliminate_step threshold rows) old one other h k)
eliminations_once threshold rows old (Ok one) (Err why) h k = absurd k
eliminations_once threshold rows old (Err why) other h k = absurd h

refusals_once : (found : Option (List ℕ × TableFault)) (why other : Refusal) → IsCollapseRefusal found why → IsCollapseRefusal found other → why ≡ other
refusals_once (Some (name, CubeLimit)) why other h k = h ∙ sym k
refusals_once (Some (name, TooWide count)) why other h k = h ∙ sym k
refusals_once (Some (name, Memory)) why other h k = absurd h
refusals_once None why other h k = absurd h

refused_or_not : (found : Option (List ℕ × TableFault)) (why : Refusal) → found ≡ None → IsCollapseRefusal found why → ⊥
refused_or_not found why none refused = subst (λ f. IsCollapseRefusal f why) none refused

-- and a collapse
collapses_once : OneResult changing.Collapse
collapses_once old (Ok one) (Ok other) h k = ap (λ (c : Circuit). Ok c) (h.1 ∙ sym k.1)
collapses_once old (Ok one) (Err why) h k = absurd (refused_or_not (collapse_refusal old) why h.0 k)
collapses_once old (Err why) (Ok other) h k = absurd (refused_or_not (collapse_refusal old) why k.0 h)
collapses_once old (Err why) (Err other) h k = ap (λ (r : Refusal). Err r) (refusals_once (collapse_refusal old) why other h k)

long_lists_once : (found : Option (List ℕ)) (why other : Refusal) → IsSimplifyRefusal found why → IsSimplifyRefusal found other → why ≡ other
long_lists_once (Some name) why other h k = h ∙ sym k
long_lists_once None why other h k = absurd h

long_list_or_not : (found : Option (List ℕ)) (why : Refusal) → found ≡ None → IsSimplifyRefusal found why → ⊥
long_list_or_not found why none refused = subst (λ f. IsSimplifyRefusal f why) none refused

-- and a simplification
simplifies_once : OneResult changing.Simplify
simplifies_once old (Ok one) (Ok other) h k = ap (λ (c : Circuit). Ok c) (h.1 ∙ sym k.1)
simplifies_once old (Ok one) (Err why) h k = absurd (long_list_or_not (simplify_refusal old) why h.0 k)
simplifies_once old (Err why) (Ok other) h k = absurd (long_list_or_not (simplify_refusal old) why k.0 h)
simplifies_once old (Err why) (Err other) h k = ap (λ (r : Refusal). Err r) (long_lists_once (simplify_refusal old) why other h k)

-- a decomposition makes one thing of each network by each rule
decomposes_once : (rule : Rule) (old : Circuit) (one other : Result Circuit Refusal) → Decomposes rule old one → Decomposes rule old other → one ≡ other
decomposes_once rule old (Ok one) (Ok other) h k = ap (λ (c : Circuit). Ok c) (decomposed_one rule old one other h k)
decomposes_once rule old (Ok one) (Err why) h k = absurd (decomposed_not_full rule old one h k.0)
decomposes_once rule old (Err why) (Ok other) h k = absurd (decomposed_not_full rule old other k h.0)
decomposes_once rule old (Err why) (Err other) h k = ap (λ (r : Refusal). Err r) (h.1 ∙ sym k.1)

-- extraction makes one thing of each network by each rule, whatever it comes to
extraction_refusals_once : (rule : Extraction) (old : Circuit) (why other : Refusal) → IsExtractionRefusal rule old why → IsExtractionRefusal rule old other → why ≡ other
extraction_refusals_once rule old why other (inl (name, many, is)) (inl (next, more, same)) =
    is ∙ (ap (λ (n : List ℕ). refusal.KernelLimit n) (unlistable_one rule old name next many more) ∙ sym same)
extraction_refusals_once rule old why other (inl (name, many, is)) (inr (full, same)) = absurd (full_not_unlistable rule old name full many)
extraction_refusals_once rule old why other (inr (full, is)) (inl (name, many, same)) = absurd (full_not_unlistable rule old name full many)
extraction_refusals_once rule old why other (inr (full, is)) (inr (over, same)) = is ∙ sym same

not_extracted : (rule : Extraction) (old new : Circuit) (why : Refusal) → IsExtracted rule old new → IsExtractionRefusal rule old why → ⊥
not_extracted rule old new why made (inl (name, many, is)) = extracted_not_unlistable rule old new name made many
not_extracted rule old new why made (inr (full, is)) = extracted_not_full rule old new made full

extracts_once : (rule : Extraction) (old : Circuit) (one other : Result Circuit Refusal) → Extracts rule old one → Extracts rule old other → one ≡ other
extracts_once rule old (Ok one) (Ok other) h k = ap (λ (c : Circuit). Ok c) (extracted_one rule old one other h k)
extracts_once rule old (Ok one) (Err why) h k = absurd (not_extracted rule old one why h k)
extracts_once rule old (Err why) (Ok other) h k = absurd (not_extracted rule old other why k h)
extracts_once rule old (Err why) (Err other) h k = ap (λ (r : Refusal). Err r) (extraction_refusals_once rule old why other h k)

-- and resubstitution
resubs_once : OneResult changing.Resub
resubs_once old (Ok one) (Ok other) h k = ap (λ (c : Circuit). Ok c) (resubbed_one old one other h k)
resubs_once old (Ok one) (Err why) h k = absurd k
resubs_once old (Err why) other h k = absurd h

-- a full simplification makes one thing of each network, but where a function is too big
not_full : (old new : Circuit) (name : List ℕ)
    → HasFullySimplified MAX_FUNCTION old (Ok new)
    → HasFullySimplified MAX_FUNCTION old (Err (unsimplified.CubeLimit name)) → ⊥
not_full old new name done fault =
    none_long MAX_FUNCTION old (order_of old.tables) name done.0 fault

full_once : ChangesOnce changing.FullSimplify
full_once old (Ok one) (Ok other) h k = inl (ap (λ (c : Circuit). Ok c) (h.1 ∙ sym k.1))
full_once old (Ok one) (Err why) h (name, inl (fault, is)) = absurd (not_full old one name h fault)
full_once old (Ok one) (Err why) h (name, inr (big, is)) =
    inr (inr (name, ap (λ (r : Refusal). Err r) is))
full_once old (Err why) (Ok other) (name, inl (fault, is)) k = absurd (not_full old other name k fault)
full_once old (Err why) (Ok other) (name, inr (big, is)) k =
    inr (inl (name, ap (λ (r : Refusal). Err r) is))
full_once old (Err why) (Err other) (name, inr (big, is)) k =
    inr (inl (name, ap (λ (r : Refusal). Err r) is))
full_once old (Err why) (Err other) (name, inl (fault, is)) (name', inr (big, is')) =
    inr (inr (name', ap (λ (r : Refusal). Err r) is'))
full_once old (Err why) (Err other) (name, inl (fault, is)) (name', inl (fault', is')) =
    let same = first_long MAX_FUNCTION old (order_of old.tables) name name' fault fault' in
    inl (ap (λ (r : Refusal). Err r)
    (is ∙ ap (λ (n : List ℕ). refusal.CubeLimit n) same ∙ sym is'))

-- each change makes one thing of each network, but where a function is too big
pub changes_once : (change : Change) → ChangesOnce change
changes_once changing.Sweep = surely changing.Sweep sweeps_once
changes_once (changing.Eliminate threshold rows) =
    surely (changing.Eliminate threshold rows) (eliminations_once threshold rows)
changes_once changing.Collapse = surely changing.Collapse collapses_once
changes_once changing.Simplify = surely changing.Simplify simplifies_once
changes_once changing.FullSimplify = full_once
changes_once changing.Fx = surely changing.Fx (extracts_once extract.Fx)
changes_once changing.Gkx = surely changing.Gkx (extracts_once extract.Gkx)
changes_once changing.Gcx = surely changing.Gcx (extracts_once extract.Gcx)
changes_once changing.Resub = surely changing.Resub resubs_once
changes_once changing.Decomp = surely changing.Decomp (decomposes_once Shared)
changes_once (changing.TechDecomp products sums) =
    surely (changing.TechDecomp products sums) (decomposes_once (Gates products sums))

-- two replies are one, but where a function is too big
abbrev AreOneReply : Result Reply Refusal → Result Reply Refusal → Type 0
AreOneReply one other = (one ≡ other) ⊎ (RefusesTooBig one ⊎ RefusesTooBig other)

-- a change comes to one reply
change_once : (held : Held) (change : Change) (network : Option Circuit) (one other : Result Reply Refusal)
    → ChangedBy held change network one → ChangedBy held change network other → AreOneReply one other
change_once held change None one other h k = inl (h ∙ sym k)
change_once held change (Some old) one other (answer, changes, is) (answer', changes', is') =
    by (changes_once change old answer answer' changes changes')
  where
    by : (answer ≡ answer') ⊎ (RefusesTooBig answer ⊎ RefusesTooBig answer') → AreOneReply one other
    by (inl same) = inl (is ∙ ap (reply_changed held) same ∙ sym is')
    by (inr (inl (name, big))) = inr (inl (name, is ∙ ap (reply_changed held) big))
    by (inr (inr (name, big))) = inr (inr (name, is' ∙ ap (reply_changed held) big))

-- what mapping may answer is one thing, but for want of memory
abbrev AreOneBut : Result Netlist MapFault → Result Netlist MapFault → Type 0
AreOneBut one other =
    (one ≡ other) ⊎ ((one ≡ Err unmapped.Memory) ⊎ (other ≡ Err unmapped.Memory))

netlist_same : (netlist other : Netlist) → AreOneBut (Ok netlist) (Ok other) → netlist ≡ other
netlist_same netlist other (inl e) = cc
netlist_same netlist other (inr (inl e)) = cc
netlist_same netlist other (inr (inr e)) = cc

no_reason : (reason : MapFault) (why : Refusal) → refusal_of reason ≡ Some why
    → reason ≡ unmapped.Memory → ⊥
no_reason reason why is memory =
    let none : None ≡ Some why = ap refusal_of (sym memory) ∙ is in cc

not_declined : (netlist : Netlist) (reason : MapFault) (why : Refusal)
    → refusal_of reason ≡ Some why → AreOneBut (Ok netlist) (Err reason) → ⊥
not_declined netlist reason why is (inl e) = cc
not_declined netlist reason why is (inr (inl e)) = cc
not_declined netlist reason why is (inr (inr e)) =
    no_reason reason why is (let same : reason ≡ unmapped.Memory = cc in same)

reason_same : (reason other : MapFault) (why more : Refusal) → refusal_of reason ≡ Some why
    → refusal_of other ≡ Some more → AreOneBut (Err reason) (Err other) → reason ≡ other
reason_same reason other why more is are (inl e) = cc
reason_same reason other why more is are (inr (inl e)) =
    absurd (no_reason reason why is (let same : reason ≡ unmapped.Memory = cc in same))
reason_same reason other why more is are (inr (inr e)) =
    absurd (no_reason other more are (let same : other ≡ unmapped.Memory = cc in same))

maps_once : (circuit : Circuit) (gates : Library) → IsSound circuit → IsSoundGates gates
    → (one other : Result Netlist MapFault) → Maps circuit gates one → Maps circuit gates other
    → AreOneBut one other
maps_once circuit gates sound known one other h k =
    answers_one circuit gates (sound_one circuit gates sound known) one other h k

-- so does a netlist: a circuit has one by each library, or is declined for one reason
mapped_once : (brief : Bool) (held : Held) (network : Option Circuit) (library : Option Library)
    (one other : Result Reply Refusal) → MappedBy brief held network library one
    → MappedBy brief held network library other → one ≡ other
mapped_once brief held None library one other h k = h ∙ sym k
mapped_once brief held (Some circuit) None one other h k = h ∙ sym k
mapped_once brief held (Some circuit) (Some gates) (Ok one) (Ok other)
    (sound, known, netlist, maps, same) (sound', known', netlist', maps', same') =
    ap (λ (r : Reply). Ok r) (same
    ∙ ap (λ (n : Netlist). record { text = map_text brief n; held = with_mapped held n })
    (netlist_same netlist netlist'
    (maps_once circuit gates sound known (Ok netlist) (Ok netlist') maps maps')) ∙ sym same')
mapped_once brief held (Some circuit) (Some gates) (Ok one) (Err why)
    (sound, known, netlist, maps, same) (sound', known', (reason, is, declines)) =
    absurd (not_declined netlist reason why is
    (maps_once circuit gates sound known (Ok netlist) (Err reason) maps declines))
mapped_once brief held (Some circuit) (Some gates) (Err why) (Ok one)
    (sound', known', (reason, is, declines)) (sound, known, netlist, maps, same) =
    absurd (not_declined netlist reason why is
    (maps_once circuit gates sound known (Ok netlist) (Err reason) maps declines))
mapped_once brief held (Some circuit) (Some gates) (Err why) (Err other)
    (sound, known, (reason, is, declines)) (sound', known', (reason', is', declines')) =
    ap (λ (r : Refusal). Err r) (same_Some why other
    (sym is ∙ ap refusal_of (reason_same reason reason' why other is is'
    (maps_once circuit gates sound known (Err reason) (Err reason') declines declines')) ∙ is'))

-- a relation that allows at most one answer
IsOne : (Result (List ℕ) Refusal → Type 0) → Type 0
IsOne tells = (what other : Result (List ℕ) Refusal) → tells what → tells other → what ≡ other

told_once : (tells : Circuit → Result (List ℕ) Refusal → Type 0) (network : Option Circuit) → ((circuit : Circuit) → IsOne (tells circuit)) → IsOne (ToldBy tells network)
unfolding IsOne
told_once tells None one what other h k = h ∙ sym k
told_once tells (Some circuit) one what other h k = one circuit what other h k

just_once : {A : Type 0} (told : A → Result (List ℕ) Refusal) (of : A) → IsOne (Just told of)
unfolding IsOne
just_once told of what other h k = sym h ∙ k

replied_once : (may : Result Reply Refusal → Type 0) (plan plan' : Plan) → ((one other : Result Reply Refusal) → may one → may other → one ≡ other)
    → Replies may plan → Replies may plan' → plan ≡ plan'
replied_once may plan plan' once (one, h, is) (other, k, is') = is ∙ ap (sends None) (once one other h k) ∙ sym is'

replied_but : (may : Result Reply Refusal → Type 0) (plan plan' : Plan)
    → ((one other : Result Reply Refusal) → may one → may other → AreOneReply one other)
    → Replies may plan → Replies may plan' → AreOnePlan plan plan'
replied_but may plan plan' once (one, h, is) (other, k, is') = by (once one other h k)
  where
    by : AreOneReply one other → AreOnePlan plan plan'
    by (inl same) = inl (is ∙ ap (sends None) same ∙ sym is')
    by (inr (inl (name, big))) = inr (inl (name, is ∙ ap (sends None) big))
    by (inr (inr (name, big))) = inr (inr (name, is' ∙ ap (sends None) big))

stays_once : (held : Held) (tells : Result (List ℕ) Refusal → Type 0) → IsOne tells → (one other : Result Reply Refusal) → StaysTold held tells one → StaysTold held tells other → one ≡ other
unfolding IsOne
stays_once held tells one first second (what, told, is) (other, told', is') = is ∙ ap (reply_with held) (one what other told told') ∙ sym is'

factor_once : (name : List ℕ) (driven : Option Table) → IsOne (FactorTold name driven)
unfolding IsOne
factor_once name None what other h k = h ∙ sym k
factor_once name (Some table) what other (line, is, told) (line', is', told') = told ∙ ap (λ (l : List ℕ). Ok l) (factor_line_once table line line' is is') ∙ sym told'

factors_once : (name : Option (List ℕ)) (circuit : Circuit) → IsOne (FactorsTold name circuit)
unfolding IsOne
factors_once None circuit what other (text, are, told) (text', are', told') = told ∙ ap (λ (l : List ℕ). Ok l) (factor_lines_once circuit.tables text text' are are') ∙ sym told'
factors_once (Some name) circuit what other h k = factor_once name (driver circuit.tables name) what other h k

kernels_once : (name : List ℕ) (table : Table) → IsOne (KernelsOf name table)
unfolding IsOne
kernels_once name table (Ok text) (Ok other) h k = ap (λ (l : List ℕ). Ok l) (kernel_lines_once table text other h.0 k.0)
kernels_once name table (Ok text) (Err why) h k = absurd (h.1 k.1)
kernels_once name table (Err why) (Ok text) h k = absurd (k.1 h.1)
kernels_once name table (Err why) (Err other) h k = ap (λ (r : Refusal). Err r) (h.0 ∙ sym k.0)

kernel_once : (name : List ℕ) (driven : Option Table) → IsOne (KernelTold name driven)
unfolding IsOne
kernel_once name None what other h k = h ∙ sym k
kernel_once name (Some table) what other h k = kernels_once name table what other h k

-- a form that prints, prints one text
TellsOnce : Form → Type 0
TellsOnce (Tells tells) = (held : Held) → IsOne (tells held)
TellsOnce other = Unit {0}

tells_once : (op : Op) → TellsOnce (form_of op)
unfolding TellsOnce
tells_once (command.Echo words) = λ held. just_once (λ line. Ok line) (echo_line words)
tells_once command.PrintStats = λ held. told_once (Just stats_told) held.network (just_once stats_told)
tells_once (command.Print name) = λ held. told_once (Just (tables_told name)) held.network (just_once (tables_told name))
tells_once command.PrintLatch = λ held. told_once (Just latches_told) held.network (just_once latches_told)
tells_once (command.PrintFactor name) = λ held. told_once (FactorsTold name) held.network (factors_once name)
tells_once (command.PrintKernel name) = λ held. told_once (KernelsTold name) held.network (λ circuit. kernel_once name (driver circuit.tables name))
tells_once other = tt

-- each form has one plan, and so has each command, but where a function is too big
form_once : (depth : ℕ) (held : Held) (form : Form) (plan plan' : Plan) → TellsOnce form
    → FormPlans depth held form plan → FormPlans depth held form plan' → AreOnePlan plan plan'
unfolding TellsOnce
form_once depth held (Tells tells) plan plan' one h k =
    inl (replied_once (StaysTold held (tells held)) plan plan'
    (stays_once held (tells held) (one held)) h k)
form_once depth held (Writes part file) plan plan' one h k = inl (h ∙ sym k)
form_once depth held (Reads format name) plan plan' one h k = inl (h ∙ sym k)
form_once depth held (ReadsLibrary name) plan plan' one h k = inl (h ∙ sym k)
form_once depth held (Generates seed tables) plan plan' one h k = inl (h ∙ sym k)
form_once depth held (ChangesNetwork change) plan plan' one h k =
    replied_but (ChangedBy held change held.network) plan plan'
    (change_once held change held.network) h k
form_once depth held (EncodesMachine style) plan plan' one h k = inl (h ∙ sym k)
form_once depth held (MakesNetlist brief) plan plan' one h k =
    inl (replied_once (MappedBy brief held held.network held.library) plan plan'
    (mapped_once brief held held.network held.library) h k)
form_once depth held TakesBack plan plan' one h k = inl (h ∙ sym k)
form_once depth held (Sources name) plan plan' one h k = inl (h ∙ sym k)
form_once depth held Ends plan plan' one h k = inl (h ∙ sym k)
form_once depth held (IsWrong fault) plan plan' one h k = inl (h ∙ sym k)

pub plans_once : (depth : ℕ) (held : Held) (op : Op) (plan plan' : Plan)
    → Plans depth held op plan → Plans depth held op plan' → AreOnePlan plan plan'
plans_once depth held op plan plan' h k =
    form_once depth held (form_of op) plan plan' (tells_once op) h k

-- a plan that refuses a function that is too big ends in that, or memory runs out
pub big_ends : (plan : Plan) (asked : Asked) (ending : Ending) → PlansTooBig plan
    → Goes plan asked ending → EndsEarly ending
big_ends plan asked ending (name, is) goes =
    by asked (subst (λ (p : Plan). Goes p asked ending) is goes)
  where
    by : (asked : Asked) → Goes (Quiet (Refuses (refusal.TooBig name))) asked ending
        → EndsEarly ending
    by Nothing (inl h) = inr (name, h)
    by Nothing (inr h) = inl h
    by (OnStore call) h = absurd h
    by (OnOut call) h = absurd h
    by (OnInput calls) h = absurd h

early : (one other : Ending) → AreOne one other → AreOneEnding one other
early one other (inl e) = inl e
early one other (inr (inl e)) = inr (inl (inl e))
early one other (inr (inr e)) = inr (inr (inl e))

pub one_ending : (depth : ℕ) (held : Held) (op : Op) (asked : Asked) (one other : Ending)
    → Steps (Plans depth held op) asked one → Steps (Plans depth held op) asked other
    → AreOneEnding one other
one_ending depth held op asked one other (by_plan plan planned goes) (by_plan plan' planned' goes') =
    by (plans_once depth held op plan' plan planned' planned)
  where
    by : AreOnePlan plan' plan → AreOneEnding one other
    by (inl same) = early one other (goes_once plan asked one other goes
        (subst (λ (p : Plan). Goes p asked other) same goes'))
    by (inr (inl big)) = inr (inr (big_ends plan' asked other big goes'))
    by (inr (inr big)) = inr (inl (big_ends plan asked one big goes))
one_ending depth held op asked one other (no_memory none is) k = inr (inl (inl is))
one_ending depth held op asked one other (by_plan plan planned goes) (no_memory none is) =
    inr (inr (inl is))
