-- Steps of elimination on a working network: which table is next, what removing it makes, and that
-- the number of tables falls.
use Rattle.std.proofs.Common.{◌≡◌, ℕ, ◌+◌, ◌<◌, ◌≤◌, ◌==◌, zero, suc, ℤ, Bool, true, false, not, ◌&&◌, ◌||◌, Result, Ok, IfOk, cond, if◌then◌else◌, Option, Some, None, is_some, List, [], ◌∷◌, ◌++◌, length, map, filter, bytes_eq, int_lt, set, refl, sym, ap, ap₂, ◌∙◌, subst, arith}
use Rattle.std.specs.List.{AllByRecursion}
use Rattle.std.specs.Option.{option_map, option_map_or}
use Rattle.std.proofs.lemmas.Bool.{false≢true, eqb-true, eqb-false}
use Rattle.std.proofs.lemmas.List.{length-map}
use Rattle.std.proofs.lemmas.Option.{same_Some}
use Rattle.circuit_model.specs.Names.{has, all_different}
use Rattle.circuit_model.specs.Values.{driver}
use Rattle.circuit_model.specs.Soundness.{outputs_of, IsSound}
use Rattle.circuit_model.specs.declared.circuit.Table.{Table}
use Rattle.circuit_model.specs.declared.circuit.Circuit.{Circuit}
use Rattle.circuit_laws.specs.Chains.{Chain}
use Rattle.circuit_laws.specs.Greedy.{Reaches}
use Rattle.circuit_laws.proofs.Greedy.{reached_itself, reached_more}
use Rattle.circuit_laws.specs.Edits.{tables_kept, with_tables, without, is_root}
use Rattle.circuit_laws.proofs.Names.{name_itself, name_not, different_head, different_tail, has_head, has_tail}
use Rattle.net_elim.specs.Eliminating.{all_take, is_candidate, lesser, least, with_taken, with_eliminated, eliminate_step}
use Rattle.net_elim.proofs.RuleLeasts.{least_only}
use Rattle.net_elim.proofs.TakenIn.{taking_reduced}
use Rattle.net_elim.proofs.Stepping.{step_reduced}
use Rattle.net_core.specs.Places.{written_of}
use Rattle.net_core.specs.Reads.{value_of}
use Rattle.net_core.specs.Tables.{named}
use Rattle.net_core.specs.declared.places.Entry.{Entry}
use Rattle.net_core.proofs.Removals.{removed_table, tables_differ}
use Rattle.net_work.specs.Placed.{Placed, standing, circuit_of, joined, table_at, with_slot}
use Rattle.circuit_laws.proofs.Mapped.{outputs-mapped}
use Rattle.alg_tables.specs.Taking.{composed_into}
use Rattle.alg_tables.proofs.Taken.{taken_output}
use Rattle.net_elim.specs.Putting.{slots_taken, with_put}
use Rattle.net_elim.specs.Waiting.{when, worth_within, worth_at, waits_at, IsPutAt, IsNext, AreWaiting}
use Rattle.net_elim.proofs.Leasts.{IsLeast, first_none, waits_same, waits_other}
use Rattle.net_work.proofs.Indexed.{place_within, there_named, drives_at, standing_map}
use Rattle.net_elim.proofs.Fanouts.{taken_there}

-- a table that is removed
without_none : (tables : List Table) (name : List ℕ) → has (outputs_of tables) name ≡ false → without tables name ≡ tables
unfolding tables_kept
without_none [] name h = refl
without_none (table ∷ tables) name h = cases (bytes_eq name table.output) h (λ k. without_none tables name k)
  where
    cases : (b : Bool) → (b || has (outputs_of tables) name) ≡ false → (has (outputs_of tables) name ≡ false → without tables name ≡ tables) → cond (not b) (table ∷ without tables name) (without tables name) ≡ table ∷ tables
    cases true k rest = absurd (false≢true (sym k))
    cases false k rest = ap (λ (ts : List Table). table ∷ ts) (rest k)

pub standing_gone : (slots : List (Option Table)) (place : ℕ) (t : Table) → all_different (outputs_of (standing slots)) ≡ true → table_at slots place ≡ Some t → standing (set slots place None) ≡ without (standing slots) t.output
unfolding standing tables_kept
standing_gone [] place t different e = absurd (let z : None ≡ Some t = e in cc)
standing_gone (None ∷ slots) zero t different e = absurd (let z : None ≡ Some t = e in cc)
standing_gone (None ∷ slots) (suc place) t different e = standing_gone slots place t different e
standing_gone (Some s ∷ slots) zero t different e =
    subst (λ (u : Table). standing slots ≡ without (s ∷ standing slots) u.output) (same_Some s t e)
    (sym (ap (λ (b : Bool). cond (not b) (s ∷ without (standing slots) s.output) (without (standing slots) s.output)) (name_itself s.output)
    ∙ without_none (standing slots) s.output (different_head s.output (outputs_of (standing slots)) different)))
standing_gone (Some s ∷ slots) (suc place) t different e =
    let apart : bytes_eq t.output s.output ≡ false =
    name_not t.output s.output (λ same.
    false≢true (sym (different_head s.output (outputs_of (standing slots)) different) ∙ subst (λ (name : List ℕ). has (outputs_of (standing slots)) name ≡ true) same (there_named slots place t e))) in
    ap (λ (ts : List Table). s ∷ ts) (standing_gone slots place t (different_tail s.output (outputs_of (standing slots)) different) e)
    ∙ sym (ap (λ (b : Bool). cond (not b) (s ∷ without (standing slots) t.output) (without (standing slots) t.output)) apart)

standing_fewer : (slots : List (Option Table)) (place : ℕ) (t : Table) → table_at slots place ≡ Some t → suc (length (standing (set slots place None))) ≡ length (standing slots)
unfolding standing
standing_fewer [] place t e = absurd (let z : None ≡ Some t = e in cc)
standing_fewer (None ∷ slots) zero t e = absurd (let z : None ≡ Some t = e in cc)
standing_fewer (None ∷ slots) (suc place) t e = standing_fewer slots place t e
standing_fewer (Some s ∷ slots) zero t e = refl
standing_fewer (Some s ∷ slots) (suc place) t e = ap suc (standing_fewer slots place t e)

pub taken_at_place : (slots : List (Option Table)) (place : ℕ) (inner : Table) → table_at slots place ≡ Some inner → table_at (slots_taken inner slots) place ≡ Some (composed_into inner inner)
taken_at_place slots place inner e = ap joined (taken_there inner slots place inner e)

pub eliminated_circuit : (placed next : Placed) (place : ℕ) (inner : Table) → IsSound (circuit_of placed) → table_at placed.slots place ≡ Some inner → next ≡ with_slot (with_put inner placed) place None
    → circuit_of next ≡ with_eliminated (circuit_of placed) inner
eliminated_circuit placed next place inner sound e is =
    let put : standing (slots_taken inner placed.slots) ≡ map (composed_into inner) (standing placed.slots) = standing_map (composed_into inner) placed.slots in
    let outputs : outputs_of (map (composed_into inner) (standing placed.slots)) ≡ outputs_of (standing placed.slots) = outputs-mapped (composed_into inner) (taken_output inner) (standing placed.slots) in
    let different : all_different (outputs_of (standing (slots_taken inner placed.slots))) ≡ true =
    ap (λ (ts : List Table). all_different (outputs_of ts)) put ∙ (ap all_different outputs ∙ tables_differ (circuit_of placed) sound) in
    let gone : standing (set (slots_taken inner placed.slots) place None) ≡ without (map (composed_into inner) (standing placed.slots)) inner.output =
    standing_gone (slots_taken inner placed.slots) place (composed_into inner inner) different (taken_at_place placed.slots place inner e)
    ∙ (ap (λ (ts : List Table). without ts (composed_into inner inner).output) put ∙ ap (without (map (composed_into inner) (standing placed.slots))) (taken_output inner inner)) in
    let at : driver (standing placed.slots) inner.output ≡ Some inner = drives_at placed.slots (tables_differ (circuit_of placed) sound) place inner e in
    let drives : has (outputs_of (map (composed_into inner) (standing placed.slots))) inner.output ≡ true = ap (λ (names : List (List ℕ)). has names inner.output) outputs ∙ there_named placed.slots place inner e in
    ap circuit_of is ∙ (ap (λ (ts : List Table). with_tables placed.frame ts) gone
    ∙ sym (removed_table (with_taken (circuit_of placed) inner) inner.output (taking_reduced (circuit_of placed) inner sound at).change.sound drives))

pub eliminated_fewer : (placed next : Placed) (place : ℕ) (inner : Table) → table_at placed.slots place ≡ Some inner → next ≡ with_slot (with_put inner placed) place None
    → length (standing next.slots) < length (standing placed.slots)
eliminated_fewer placed next place inner e is =
    let same : length (standing (slots_taken inner placed.slots)) ≡ length (standing placed.slots) =
    ap length (standing_map (composed_into inner) placed.slots) ∙ length-map (standing placed.slots) (composed_into inner) in
    let fewer : suc (length (standing (set (slots_taken inner placed.slots) place None))) ≡ length (standing (slots_taken inner placed.slots)) =
    standing_fewer (slots_taken inner placed.slots) place (composed_into inner inner) (taken_at_place placed.slots place inner e) in
    let now : length (standing next.slots) ≡ length (standing (set (slots_taken inner placed.slots) place None)) = ap (λ (p : Placed). length (standing p.slots)) is in
    omega (arith, same, fewer, now)

-- the first least of the tables that pass a test
filtered_at : (P : Table → Type 0) (test : Table → Bool) (slots : List (Option Table)) → ((place : ℕ) (t : Table) → table_at slots place ≡ Some t → test t ≡ true → P t) → AllByRecursion P (filter test (standing slots))
unfolding standing
filtered_at P test [] h = tt
filtered_at P test (None ∷ slots) h = filtered_at P test slots (λ place. h (suc place))
filtered_at P test (Some s ∷ slots) h = cases (test s) refl (filtered_at P test slots (λ place. h (suc place)))
  where
    cases : (b : Bool) → test s ≡ b → AllByRecursion P (filter test (standing slots)) → AllByRecursion P (cond b (s ∷ filter test (standing slots)) (filter test (standing slots)))
    cases true e rest = (h 0 s refl e, rest)
    cases false e rest = rest

filtered_none : (test : Table → Bool) (slots : List (Option Table)) → ((place : ℕ) (t : Table) → table_at slots place ≡ Some t → test t ≡ true → ⊥) → filter test (standing slots) ≡ []
unfolding standing
filtered_none test [] h = refl
filtered_none test (None ∷ slots) h = filtered_none test slots (λ place. h (suc place))
filtered_none test (Some s ∷ slots) h = cases (test s) refl (filtered_none test slots (λ place. h (suc place)))
  where
    cases : (b : Bool) → test s ≡ b → filter test (standing slots) ≡ [] → cond b (s ∷ filter test (standing slots)) (filter test (standing slots)) ≡ []
    cases true e rest = absurd (h 0 s refl e)
    cases false e rest = rest

least_at : (value : Table → ℤ) (test : Table → Bool) (slots : List (Option Table)) (place : ℕ) (t : Table) → table_at slots place ≡ Some t → test t ≡ true
    → ((other : ℕ) (u : Table) → table_at slots other ≡ Some u → test u ≡ true → int_lt (value u) (value t) ≡ false)
    → ((other : ℕ) (u : Table) → other < place → table_at slots other ≡ Some u → test u ≡ true → int_lt (value t) (value u) ≡ true)
    → least value (filter test (standing slots)) ≡ Some t
unfolding standing least
least_at value test [] place t e h no_lesser greater = absurd (let z : None ≡ Some t = e in cc)
least_at value test (None ∷ slots) zero t e h no_lesser greater = absurd (let z : None ≡ Some t = e in cc)
least_at value test (None ∷ slots) (suc place) t e h no_lesser greater =
    least_at value test slots place t e h (λ other. no_lesser (suc other)) (λ other u lt. greater (suc other) u (omega (arith, lt)))
least_at value test (Some s ∷ slots) zero t e h no_lesser greater =
    let same : s ≡ t = same_Some s t e in
    ap (λ (b : Bool). least value (cond b (s ∷ filter test (standing slots)) (filter test (standing slots)))) (ap test same ∙ h)
    ∙ (least_only value (s ∷ filter test (standing slots)) s (record {
      before = [];
      after = filter test (standing slots);
      among = refl;
      greater = tt;
      no_lesser = subst (λ (u : Table). AllByRecursion (λ (o : Table). int_lt (value o) (value u) ≡ false) (filter test (standing slots))) (sym same)
          (filtered_at (λ (o : Table). int_lt (value o) (value t) ≡ false) test slots (λ other. no_lesser (suc other)));
    })
    ∙ ap (λ (u : Table). Some u) same)
least_at value test (Some s ∷ slots) (suc place) t e h no_lesser greater =
    cases (test s) refl (least_at value test slots place t e h (λ other. no_lesser (suc other)) (λ other u lt. greater (suc other) u (omega (arith, lt))))
  where
    cases : (b : Bool) → test s ≡ b → least value (filter test (standing slots)) ≡ Some t → least value (cond b (s ∷ filter test (standing slots)) (filter test (standing slots))) ≡ Some t
    cases true k rest = ap (λ (later : Option Table). Some (lesser value s later)) rest ∙ ap (λ (b : Bool). Some (cond b t s)) (greater 0 s (omega arith) refl k)
    cases false k rest = rest

-- the values in the queue
when_some : (b : Bool) (v w : ℤ) → when b v ≡ Some w → (b ≡ true) × (v ≡ w)
when_some true v w e = (refl, same_Some v w e)
when_some false v w e = absurd (let z : None ≡ Some w = e in cc)

pub worth_of_table : (threshold : ℤ) (placed : Placed) (place : ℕ) (t : Table) → table_at placed.slots place ≡ Some t → worth_at threshold placed place ≡ worth_within threshold placed t
worth_of_table threshold placed place t e = ap (λ (o : Option Table). option_map_or (worth_within threshold placed) o None) e

rootless : (placed : Placed) (name : List ℕ) → is_root (circuit_of placed) name ≡ is_root placed.frame name
unfolding is_root
rootless placed name = refl

pub candidate_worth : (threshold : ℤ) (rows : ℕ) (placed : Placed) (t : Table) → is_candidate threshold rows (circuit_of placed) t ≡ true
    → (worth_within threshold placed t ≡ Some (value_of (standing placed.slots) t.output)) × (all_take rows (circuit_of placed) t ≡ true)
unfolding is_candidate is_root
candidate_worth threshold rows placed t h =
    cases (not (is_root placed.frame t.output)) (not (int_lt threshold (value_of (standing placed.slots) t.output))) (all_take rows (circuit_of placed) t) h
  where
    cases : (a b c : Bool) → (a && (b && c)) ≡ true → (when (a && b) (value_of (standing placed.slots) t.output) ≡ Some (value_of (standing placed.slots) t.output)) × (c ≡ true)
    cases true true true k = (refl, refl)
    cases true true false k = absurd (false≢true k)
    cases true false c k = absurd (false≢true k)
    cases false b c k = absurd (false≢true k)

pub worth_candidate : (threshold : ℤ) (rows : ℕ) (placed : Placed) (t : Table) (v : ℤ) → worth_within threshold placed t ≡ Some v → all_take rows (circuit_of placed) t ≡ true
    → is_candidate threshold rows (circuit_of placed) t ≡ true
unfolding is_candidate is_root
worth_candidate threshold rows placed t v h takes =
    cases (not (is_root placed.frame t.output)) (not (int_lt threshold (value_of (standing placed.slots) t.output))) (all_take rows (circuit_of placed) t)
    (when_some (not (is_root placed.frame t.output) && not (int_lt threshold (value_of (standing placed.slots) t.output))) (value_of (standing placed.slots) t.output) v h).0 takes
  where
    cases : (a b c : Bool) → (a && b) ≡ true → c ≡ true → (a && (b && c)) ≡ true
    cases true true true k m = refl
    cases true true false k m = m
    cases true false c k m = absurd (false≢true k)
    cases false b c k m = absurd (false≢true k)

pub worth_counted : {R : Type 0} (threshold : ℤ) (placed : Placed) (place : ℕ) (entry : Entry R) (inner : Bool) (v : ℤ) (made : Option ℤ) → Some (written_of entry) ≡ table_at placed.slots place
    → inner ≡ not (is_root placed.frame entry.output) → ((t : Table) → table_at placed.slots place ≡ Some t → v ≡ value_of (standing placed.slots) t.output)
    → made ≡ when (inner && not (int_lt threshold v)) v → made ≡ worth_at threshold placed place
unfolding named
worth_counted threshold placed place entry inner v made there root value is =
    is ∙ (ap₂ (λ (a : Bool) (w : ℤ). when (a && not (int_lt threshold w)) w) root (value (written_of entry) (sym there)) ∙ sym (worth_of_table threshold placed place (written_of entry) (sym there)))

pub worth_answered : {R E : Type 0} (threshold : ℤ) (placed : Placed) (place : ℕ) (entry : Entry R) (inner : Bool) (found : Result ℤ E) (made : Option ℤ) → Some (written_of entry) ≡ table_at placed.slots place
    → inner ≡ not (is_root placed.frame entry.output) → IfOk found (λ v. (t : Table) → table_at placed.slots place ≡ Some t → v ≡ value_of (standing placed.slots) t.output)
    → (v : ℤ) × (found ≡ Ok v) × (made ≡ when (inner && not (int_lt threshold v)) v) → made ≡ worth_at threshold placed place
worth_answered threshold placed place entry inner found made there root value h =
    worth_counted threshold placed place entry inner h.0 made there root
    (subst (λ r. IfOk r (λ v. (t : Table) → table_at placed.slots place ≡ Some t → v ≡ value_of (standing placed.slots) t.output)) h.1 value) h.2

-- one more value
pub record AreBegun (threshold : ℤ) (placed : Placed) (count : ℕ) (values : List (ℕ × ℤ)) : Type 0 where
  pub worth : (place : ℕ) (value : ℤ) → waits_at values place ≡ Some value → worth_at threshold placed place ≡ Some value
  pub each : (place : ℕ) → place < count → waits_at values place ≡ worth_at threshold placed place

pub begun_none : (threshold : ℤ) (placed : Placed) (values : List (ℕ × ℤ)) → values ≡ [] → AreBegun threshold placed 0 values
begun_none threshold placed values empty = record {
  worth = λ place v h. absurd (let z : None ≡ Some v = ap (λ (vs : List (ℕ × ℤ)). waits_at vs place) (sym empty) ∙ h in cc);
  each = λ place lt. absurd (omega (arith, lt));
}

pub begun_more : (threshold : ℤ) (placed : Placed) (count : ℕ) (before after : List (ℕ × ℤ)) → AreBegun threshold placed count before → IsPutAt count (worth_at threshold placed count) before after
    → AreBegun threshold placed (count + 1) after
begun_more threshold placed count before after are put = record {
  worth = λ place v h. worth place v h (count == place) refl;
  each = λ place lt. each place lt (count == place) refl;
}
  where
    worth : (place : ℕ) (v : ℤ) → waits_at after place ≡ Some v → (b : Bool) → (count == place) ≡ b → worth_at threshold placed place ≡ Some v
    worth place v h true e =
        let same : count ≡ place = eqb-true count place e in
        ap (worth_at threshold placed) (sym same) ∙ (sym (waits_same count (worth_at threshold placed count) before after put place same) ∙ h)
    worth place v h false e = are.worth place v (sym (waits_other count (worth_at threshold placed count) before after put place (eqb-false count place e)) ∙ h)

    each : (place : ℕ) → place < count + 1 → (b : Bool) → (count == place) ≡ b → waits_at after place ≡ worth_at threshold placed place
    each place lt true e =
        let same : count ≡ place = eqb-true count place e in
        waits_same count (worth_at threshold placed count) before after put place same ∙ ap (worth_at threshold placed) same
    each place lt false e =
        let apart : count ≡ place → ⊥ = eqb-false count place e in
        waits_other count (worth_at threshold placed count) before after put place apart ∙ are.each place (omega (arith, lt, λ (same : place ≡ count). apart (sym same)))

pub begun_waiting : (threshold : ℤ) (rows : ℕ) (placed : Placed) (count : ℕ) (values : List (ℕ × ℤ)) → length placed.slots ≤ count → AreBegun threshold placed count values → AreWaiting threshold rows placed values
begun_waiting threshold rows placed count values long are = record {
  worth = are.worth;
  all = λ place t e h. (let within = place_within placed.slots place t e in are.each place (omega (arith, long, within)));
}

-- a value in the queue is that of a table
pub waits_there : (threshold : ℤ) (rows : ℕ) (placed : Placed) (values : List (ℕ × ℤ)) (place : ℕ) (v : ℤ) → AreWaiting threshold rows placed values → waits_at values place ≡ Some v
    → (t : Table) × (table_at placed.slots place ≡ Some t)
waits_there threshold rows placed values place v are here = cases (table_at placed.slots place) refl (are.worth place v here)
  where
    cases : (o : Option Table) → table_at placed.slots place ≡ o → option_map_or (worth_within threshold placed) o None ≡ Some v → (t : Table) × (table_at placed.slots place ≡ Some t)
    cases None e k = absurd (let z : None ≡ Some v = k in cc)
    cases (Some t) e k = (t, e)

pub there_is : (threshold : ℤ) (rows : ℕ) (placed : Placed) (values : List (ℕ × ℤ)) (place : ℕ) (v : ℤ) → AreWaiting threshold rows placed values → waits_at values place ≡ Some v → is_some (table_at placed.slots place) ≡ true
there_is threshold rows placed values place v are here = let (t, e) = waits_there threshold rows placed values place v are here in ap is_some e

-- the next table
pub step_found : (threshold : ℤ) (rows : ℕ) (placed : Placed) (values : List (ℕ × ℤ)) (place : ℕ) → AreWaiting threshold rows placed values → IsLeast values place
    → (inner : Table) → table_at placed.slots place ≡ Some inner → all_take rows (circuit_of placed) inner ≡ true → eliminate_step threshold rows (circuit_of placed) ≡ Some (with_eliminated (circuit_of placed) inner)
unfolding eliminate_step
step_found threshold rows placed values place are first inner e takes =
    let own : worth_within threshold placed inner ≡ Some first.value = sym (worth_of_table threshold placed place inner e) ∙ are.worth place first.value first.here in
    let value : value_of (standing placed.slots) inner.output ≡ first.value =
    (when_some (not (is_root placed.frame inner.output) && not (int_lt threshold (value_of (standing placed.slots) inner.output))) (value_of (standing placed.slots) inner.output) first.value own).1 in
    ap (option_map (with_eliminated (circuit_of placed)))
    (least_at (λ (t : Table). value_of (standing placed.slots) t.output) (is_candidate threshold rows (circuit_of placed)) placed.slots place inner e
    (worth_candidate threshold rows placed inner first.value own takes)
    (λ other u at fits.
    subst (λ (v : ℤ). int_lt (value_of (standing placed.slots) u.output) v ≡ false) (sym value)
    (first.no_lesser other (value_of (standing placed.slots) u.output) (waiting other u at fits)))
    (λ other u lt at fits.
    subst (λ (v : ℤ). int_lt v (value_of (standing placed.slots) u.output) ≡ true) (sym value) (first.greater other (value_of (standing placed.slots) u.output) lt (waiting other u at fits))))
  where
    waiting : (other : ℕ) (u : Table) → table_at placed.slots other ≡ Some u → is_candidate threshold rows (circuit_of placed) u ≡ true → waits_at values other ≡ Some (value_of (standing placed.slots) u.output)
    waiting other u at fits = are.all other u at fits ∙ (worth_of_table threshold placed other u at ∙ (candidate_worth threshold rows placed u fits).0)

pub step_none : (threshold : ℤ) (rows : ℕ) (placed : Placed) (values : List (ℕ × ℤ)) → AreWaiting threshold rows placed values → IsNext values None
    → eliminate_step threshold rows (circuit_of placed) ≡ None
unfolding eliminate_step least
step_none threshold rows placed values are none =
    ap (λ (ts : List Table). option_map (with_eliminated (circuit_of placed)) (least (λ (t : Table). value_of (standing placed.slots) t.output) ts))
    (filtered_none (is_candidate threshold rows (circuit_of placed)) placed.slots
    (λ place t at fits.
    let waits : waits_at values place ≡ Some (value_of (standing placed.slots) t.output) =
    are.all place t at fits ∙ (worth_of_table threshold placed place t at ∙ (candidate_worth threshold rows placed t fits).0) in
    absurd (let z : None ≡ Some (value_of (standing placed.slots) t.output) = sym (first_none values none place) ∙ waits in cc)))

-- the results of an attempt
pub step_done : (threshold : ℤ) (rows : ℕ) (placed next : Placed) (values : List (ℕ × ℤ)) (place : ℕ) (done : Bool) → AreWaiting threshold rows placed values → IsLeast values place → done ≡ true
    → ((inner : Table) → table_at placed.slots place ≡ Some inner → done ≡ all_take rows (circuit_of placed) inner)
    → (done ≡ true → (inner : Table) → table_at placed.slots place ≡ Some inner → circuit_of next ≡ with_eliminated (circuit_of placed) inner) → eliminate_step threshold rows (circuit_of placed) ≡ Some (circuit_of next)
step_done threshold rows placed next values place done are first yes_ answer circuit =
    let (inner, e) = waits_there threshold rows placed values place first.value are first.here in
    step_found threshold rows placed values place are first inner e (sym (answer inner e) ∙ yes_) ∙ ap (λ (c : Circuit). Some c) (sym (circuit yes_ inner e))

pub done_fewer : (threshold : ℤ) (rows : ℕ) (placed next : Placed) (values : List (ℕ × ℤ)) (place : ℕ) (done : Bool) → AreWaiting threshold rows placed values → IsLeast values place → done ≡ true
    → (done ≡ true → (inner : Table) → table_at placed.slots place ≡ Some inner → next ≡ with_slot (with_put inner placed) place None) → length (standing next.slots) < length (standing placed.slots)
done_fewer threshold rows placed next values place done are first yes_ gone =
    let (inner, e) = waits_there threshold rows placed values place first.value are first.here in
    eliminated_fewer placed next place inner e (gone yes_ inner e)

pub chosen : (bit : Bool) (o : Option Circuit) (next : Circuit) → o ≡ (if bit then Some next else None) → bit ≡ true → o ≡ Some next
chosen bit o next is h = is ∙ ap (λ (b : Bool). if b then Some next else None) h

pub refused : (bit : Bool) (o : Option Circuit) (next : Circuit) → o ≡ (if bit then Some next else None) → bit ≡ false → o ≡ None
refused bit o next is h = is ∙ ap (λ (b : Bool). if b then Some next else None) h

-- a table that is refused is removed from the queue
waiting_less : (threshold : ℤ) (rows : ℕ) (placed : Placed) (before after : List (ℕ × ℤ)) (place : ℕ) (done : Bool) → AreWaiting threshold rows placed before → IsPutAt place None before after → done ≡ false
    → ((inner : Table) → table_at placed.slots place ≡ Some inner → done ≡ all_take rows (circuit_of placed) inner) → AreWaiting threshold rows placed after
waiting_less threshold rows placed before after place done are put none answer = record {
  worth = λ other w h. worth other w h (place == other) refl;
  all = λ other t e h. all other t e h (place == other) refl;
}
  where
    worth : (other : ℕ) (w : ℤ) → waits_at after other ≡ Some w → (b : Bool) → (place == other) ≡ b → worth_at threshold placed other ≡ Some w
    worth other w h true same = absurd (let z : None ≡ Some w = sym (waits_same place None before after put other (eqb-true place other same)) ∙ h in cc)
    worth other w h false apart = are.worth other w (sym (waits_other place None before after put other (eqb-false place other apart)) ∙ h)

    all : (other : ℕ) (t : Table) → table_at placed.slots other ≡ Some t → is_candidate threshold rows (circuit_of placed) t ≡ true → (b : Bool) → (place == other) ≡ b
        → waits_at after other ≡ worth_at threshold placed other
    all other t e h true same =
        absurd (false≢true (sym none ∙ (answer t (ap (table_at placed.slots) (eqb-true place other same) ∙ e) ∙ (candidate_worth threshold rows placed t h).1)))
    all other t e h false apart = waits_other place None before after put other (eqb-false place other apart) ∙ are.all other t e h

pub waiting_refused : (threshold : ℤ) (rows : ℕ) (placed next : Placed) (before mid after : List (ℕ × ℤ)) (place : ℕ) (done : Bool) → AreWaiting threshold rows placed before → done ≡ false
    → (done ≡ false → (next ≡ placed) × (mid ≡ before)) → ((inner : Table) → table_at placed.slots place ≡ Some inner → done ≡ all_take rows (circuit_of placed) inner) → IsPutAt place None mid after
    → AreWaiting threshold rows next after
waiting_refused threshold rows placed next before mid after place done are none same answer put =
    subst (λ (p : Placed). AreWaiting threshold rows p after) (sym (same none).0)
    (waiting_less threshold rows placed before after place done are (subst (λ (values : List (ℕ × ℤ)). IsPutAt place None values after) (same none).1 put) none answer)

-- chains of steps
abbrev pub IsLed : (Circuit → Option Circuit) → Circuit → Circuit → Type 0
IsLed step from to = Reaches (λ x y. step x ≡ Some y) from to

pub led_itself : (step : Circuit → Option Circuit) (from : Circuit) → IsLed step from from
led_itself step = reached_itself (λ x y. step x ≡ Some y)

pub led_more : (step : Circuit → Option Circuit) (from to next : Circuit) → IsLed step from to → step to ≡ Some next → IsLed step from next
led_more step = reached_more (λ x y. step x ≡ Some y)

pub led_chain : (step : Circuit → Option Circuit) (from to : Circuit) → IsLed step from to → step to ≡ None → Chain step from to
led_chain step from to led e = record { reached = led; done = e }

pub led_done : (step : Circuit → Option Circuit) (from to last : Circuit) → IsLed step from to → step to ≡ None → last ≡ to → Chain step from last
led_done step from to last led e same = subst (λ (circuit : Circuit). Chain step from circuit) (sym same) (led_chain step from to led e)

pub next_sound : (threshold : ℤ) (rows : ℕ) (circuit next : Circuit) → IsSound circuit → eliminate_step threshold rows circuit ≡ Some next → IsSound next
next_sound threshold rows circuit next sound e = (step_reduced threshold rows circuit next sound e).change.sound
