-- The name by which a don't-care part breaks a rule: how the walk over its tables finds it, and
-- what it means that there is none; crates above may cite `part_sound` and `part_passes`.
use Rattle.std.proofs.Common.{◌≡◌, ℕ, zero, suc, ◌+◌, ◌-◌, ◌<◌, ◌≤◌, Bool, true, false, not, ◌||◌, cond, if◌then◌else◌, Option, Some, None, option_map, List, [], ◌∷◌, ◌++◌, length, get_or, take, drop, refl, sym, ap, ◌∙◌, arith, inl, inr, ◌⊎◌, eqb, eq-eqb, eqb-true}
use Rattle.std.specs.Prelude.{bytes_eq, find}
use Rattle.std.specs.Option.{option_or}
use Rattle.std.specs.List.{range_with_len, AllByRecursion}
use Rattle.std.proofs.lemmas.Bool.{cases_Bool}
use Rattle.std.proofs.lemmas.List.{take_more, drop_more, drop_all, map-append}
use Rattle.circuit_checks.specs.Graphs.{is_cyclic, first_cyclic}
use Rattle.circuit_model.specs.Names.{has, all_different}
use Rattle.circuit_model.specs.Soundness.{IsAcyclic, outputs_of, table_inputs}
use Rattle.circuit_model.specs.declared.circuit.Table.{Table}
use Rattle.circuit_checks.specs.NameChecks.{first_again, first_missing}
use Rattle.circuit_checks.specs.Cycles.{is_on_cycle, first_on_cycle}
use Rattle.circuit_checks.specs.PartChecks.{bad_part_name, bad_name_behind, first_bad_part_name}
use Rattle.circuit_checks.specs.Sets.{Alike, with_name, place_in, graph_of, is_at, bad_input_or_cycle, bad_name_by}
use Rattle.circuit_checks.proofs.Naming.{name_itself, has_append, has_more, has_with, find_alike}
use Rattle.circuit_checks.proofs.Driving.{length_graph, cyclic_alike, found_from}
use Rattle.circuit_checks.proofs.Bridges.{some_none, or_first, or_second, all_front, all_back, different_from_again, again_from_different, known_from_missing, missing_from_known, acyclic_from_none, led_from_on_cycle}

none_first : {A : Type 0} (a b : Option A) → option_or a b ≡ None → a ≡ None
none_first None b e = refl
none_first (Some x) b e = absurd (some_none x e)

none_second : {A : Type 0} (a b : Option A) → option_or a b ≡ None → b ≡ None
none_second None b e = e
none_second (Some x) b e = absurd (some_none x e)

not_some : {A : Type 0} (x : A) (b : Bool) → (if b then Some x else None) ≡ None → b ≡ false
not_some x true e = absurd (some_none x e)
not_some x false e = refl

-- the first number from a start on that passes: it is the start, or comes later if the start does
-- not pass
found_next : (f : ℕ → Bool) (start n : ℕ) (found : Option ℕ) → found ≡ find f (range_with_len start (suc n)) → is_at found start ≡ f start
found_next f start n found e = ap (λ (o : Option ℕ). is_at o start) e ∙ cases (f start)
  where
    later : (o : Option ℕ) → find f (range_with_len (start + 1) n) ≡ o → is_at o start ≡ false
    later None e = refl
    later (Some k) e = by (cases_Bool (eqb k start))
      where
        by : (eqb k start ≡ true) ⊎ (eqb k start ≡ false) → eqb k start ≡ false
        by (inl t) = absurd (omega (arith, found_from f (start + 1) n k e, eqb-true k start t))
        by (inr t) = t

    cases : (b : Bool) → is_at (cond b (Some start) (find f (range_with_len (start + 1) n))) start ≡ b
    cases true = eq-eqb start start refl
    cases false = later (find f (range_with_len (start + 1) n)) refl

found_later : (f : ℕ → Bool) (start n : ℕ) (found : Option ℕ) → found ≡ find f (range_with_len start (suc n)) → f start ≡ false → found ≡ find f (range_with_len (start + 1) n)
found_later f start n found e passes = e ∙ ap (λ (b : Bool). cond b (Some start) (find f (range_with_len (start + 1) n))) passes

-- a table whose output no earlier one has is the first with it
new_place : (tables : List Table) (i : ℕ) (table : Table) → i < length tables → table ≡ get_or tables i table → has (outputs_of (take i tables)) table.output ≡ false
    → place_in (outputs_of tables) table.output ≡ Some i
unfolding place_in
new_place [] i table lt is new = absurd (omega (arith, lt))
new_place (first ∷ tables) zero table lt is new =
    ap (λ (b : Bool). cond b (Some 0) (option_map suc (place_in (outputs_of tables) table.output)))
    (ap (λ (one : Table). bytes_eq table.output one.output) (sym is) ∙ name_itself table.output)
new_place (first ∷ tables) (suc i) table lt is new =
    ap (λ (b : Bool). cond b (Some 0) (option_map suc (place_in (outputs_of tables) table.output)))
    (or_first (bytes_eq table.output first.output) (has (outputs_of (take i tables)) table.output) new)
    ∙ ap (option_map suc)
    (new_place tables i table (omega (arith, lt)) is (or_second (bytes_eq table.output first.output) (has (outputs_of (take i tables)) table.output) new))

outputs_next : (part : List Table) (i : ℕ) (table : Table) → i < length part → table ≡ get_or part i table → outputs_of (take (i + 1) part) ≡ outputs_of (take i part) ++ table.output ∷ []
outputs_next part i table lt is =
    ap outputs_of (take_more part i table lt ∙ ap (λ (one : Table). take i part ++ one ∷ []) (sym is))
    ∙ map-append (λ (one : Table). one.output) (take i part) (table ∷ [])

-- what is wrong with a table is the same by sets
bad_alike : (leaves : List (List ℕ)) (part : List Table) (outputs known before : List (List ℕ)) (on_cycle : Bool) (table : Table)
    → Alike known (outputs_of part ++ leaves) → Alike before outputs → (has outputs table.output ≡ false → on_cycle ≡ is_on_cycle part table.output)
    → bad_name_by known before on_cycle table ≡ bad_part_name leaves part outputs table
unfolding bad_name_by bad_input_or_cycle bad_part_name first_missing
bad_alike leaves part outputs known before on_cycle table knows alike on =
    ap (λ (b : Bool). if b then Some table.output else option_or (find (λ (name : List ℕ). not (has known name)) table.inputs) (if on_cycle then Some table.output else None)) (alike table.output)
    ∙ cases (has outputs table.output) refl
  where
    cases : (b : Bool) → has outputs table.output ≡ b
        → (if b then Some table.output else option_or (find (λ (name : List ℕ). not (has known name)) table.inputs) (if on_cycle then Some table.output else None))
        ≡ (if b then Some table.output
        else option_or (find (λ (name : List ℕ). not (has (outputs_of part ++ leaves) name)) table.inputs) (if is_on_cycle part table.output then Some table.output else None))
    cases true e = refl
    cases false e =
        ap (λ (missing : Option (List ℕ)). option_or missing (if on_cycle then Some table.output else None))
        (find_alike (λ (name : List ℕ). not (has known name)) (λ (name : List ℕ). not (has (outputs_of part ++ leaves) name)) (λ name. ap not (knows name)) table.inputs)
        ∙ ap (λ (b : Bool). option_or (find (λ (name : List ℕ). not (has (outputs_of part ++ leaves) name)) table.inputs) (if b then Some table.output else None)) (on e)

not_on : (known before : List (List ℕ)) (on_cycle : Bool) (table : Table) → bad_name_by known before on_cycle table ≡ None → on_cycle ≡ false
unfolding bad_name_by bad_input_or_cycle
not_on known before on_cycle table e = cases (has before table.output) e
  where
    cases : (b : Bool) → (if b then Some table.output else option_or (find (λ (name : List ℕ). not (has known name)) table.inputs) (if on_cycle then Some table.output else None)) ≡ None
        → on_cycle ≡ false
    cases true e = absurd (some_none table.output e)
    cases false e = not_some table.output on_cycle (none_second (find (λ (name : List ℕ). not (has known name)) table.inputs) (if on_cycle then Some table.output else None) e)

-- the state of the walk at an index: the outputs before are in a set, no node before is on a cycle,
-- and the answer is that of the rest
pub record IsWalked (leaves : List (List ℕ)) (part : List Table) (i : ℕ) (set : List (List ℕ)) (cyclic : Option ℕ) : Type 0 where
  pub before : Alike set (outputs_of (take i part))
  pub later : cyclic ≡ find (is_cyclic (graph_of part)) (range_with_len i (length part - i))
  pub rest : bad_name_behind leaves part (outputs_of (take i part)) (drop i part) ≡ first_bad_part_name leaves part

pub walk_begins : (leaves : List (List ℕ)) (part : List Table) (before : List (List ℕ)) (cyclic : Option ℕ) → before ≡ [] → cyclic ≡ first_cyclic (graph_of part)
    → IsWalked leaves part 0 before cyclic
unfolding first_cyclic
walk_begins leaves part before cyclic none e =
    let size : length (graph_of part) ≡ length part - 0 = omega (arith, length_graph part) in
    record {
      before = λ name. ap (λ (names : List (List ℕ)). has names name) none;
      later = e ∙ ap (λ (n : ℕ). find (is_cyclic (graph_of part)) (range_with_len 0 n)) size;
      rest = refl;
    }

one_left : (part : List Table) (i : ℕ) → i < length part → length part - i ≡ suc (length part - (i + 1))
one_left part i lt = omega (arith, lt)

at_place : (leaves : List (List ℕ)) (part : List Table) (i : ℕ) (before : List (List ℕ)) (cyclic : Option ℕ) → IsWalked leaves part i before cyclic → i < length part
    → is_at cyclic i ≡ is_cyclic (graph_of part) i
at_place leaves part i before cyclic walked lt =
    found_next (is_cyclic (graph_of part)) i (length part - (i + 1)) cyclic
    (walked.later ∙ ap (λ (n : ℕ). find (is_cyclic (graph_of part)) (range_with_len i n)) (one_left part i lt))

found_there : (leaves : List (List ℕ)) (part : List Table) (i : ℕ) (table : Table) (known before : List (List ℕ)) (cyclic : Option ℕ) (on_cycle : Bool) → i < length part
    → table ≡ get_or part i table → Alike known (outputs_of part ++ leaves) → IsWalked leaves part i before cyclic → on_cycle ≡ is_at cyclic i
    → bad_name_by known before on_cycle table ≡ bad_part_name leaves part (outputs_of (take i part)) table
found_there leaves part i table known before cyclic on_cycle lt is knows walked on =
    bad_alike leaves part (outputs_of (take i part)) known before on_cycle table knows walked.before
    (λ new. on ∙ at_place leaves part i before cyclic walked lt ∙ cyclic_alike part table.output i (new_place part i table lt is new))

rest_there : (leaves : List (List ℕ)) (part : List Table) (i : ℕ) (table : Table) → i < length part → table ≡ get_or part i table
    → bad_name_behind leaves part (outputs_of (take i part)) (drop i part)
    ≡ option_or (bad_part_name leaves part (outputs_of (take i part)) table) (bad_name_behind leaves part (outputs_of (take (i + 1) part)) (drop (i + 1) part))
unfolding bad_name_behind
rest_there leaves part i table lt is =
    ap (bad_name_behind leaves part (outputs_of (take i part))) (drop_more part i table lt ∙ ap (λ (one : Table). one ∷ drop (i + 1) part) (sym is))
    ∙ ap (λ (outputs : List (List ℕ)). option_or (bad_part_name leaves part (outputs_of (take i part)) table) (bad_name_behind leaves part outputs (drop (i + 1) part)))
    (sym (outputs_next part i table lt is))

pub walk_stops : (leaves : List (List ℕ)) (part : List Table) (i : ℕ) (table : Table) (known before : List (List ℕ)) (cyclic : Option ℕ) (on_cycle : Bool) (name : List ℕ) → i < length part
    → table ≡ get_or part i table → Alike known (outputs_of part ++ leaves) → IsWalked leaves part i before cyclic → on_cycle ≡ is_at cyclic i
    → Some name ≡ bad_name_by known before on_cycle table → Some name ≡ first_bad_part_name leaves part
walk_stops leaves part i table known before cyclic on_cycle name lt is knows walked on found =
    ap (λ (o : Option (List ℕ)). option_or o (bad_name_behind leaves part (outputs_of (take (i + 1) part)) (drop (i + 1) part)))
    (found ∙ found_there leaves part i table known before cyclic on_cycle lt is knows walked on)
    ∙ sym (rest_there leaves part i table lt is)
    ∙ walked.rest

pub walk_goes_on : (leaves : List (List ℕ)) (part : List Table) (i : ℕ) (table : Table) (known before after : List (List ℕ)) (cyclic : Option ℕ) (on_cycle : Bool) → i < length part
    → table ≡ get_or part i table → Alike known (outputs_of part ++ leaves) → IsWalked leaves part i before cyclic → on_cycle ≡ is_at cyclic i
    → None ≡ bad_name_by known before on_cycle table → after ≡ with_name before table.output → IsWalked leaves part (i + 1) after cyclic
walk_goes_on leaves part i table known before after cyclic on_cycle lt is knows walked on found put = record {
  before = λ name.
      ap (λ (names : List (List ℕ)). has names name) put
      ∙ has_with before table.output name
      ∙ ap (λ (b : Bool). b || bytes_eq name table.output) (walked.before name)
      ∙ sym (has_more (outputs_of (take i part)) table.output name)
      ∙ ap (λ (names : List (List ℕ)). has names name) (sym (outputs_next part i table lt is));
  later =
      found_later (is_cyclic (graph_of part)) i (length part - (i + 1)) cyclic
      (walked.later ∙ ap (λ (n : ℕ). find (is_cyclic (graph_of part)) (range_with_len i n)) (one_left part i lt))
      (sym (at_place leaves part i before cyclic walked lt) ∙ sym on ∙ not_on known before on_cycle table (sym found));
  rest =
      ap (λ (o : Option (List ℕ)). option_or o (bad_name_behind leaves part (outputs_of (take (i + 1) part)) (drop (i + 1) part)))
      (found ∙ found_there leaves part i table known before cyclic on_cycle lt is knows walked on)
      ∙ sym (rest_there leaves part i table lt is)
      ∙ walked.rest;
}

pub walk_ends : (leaves : List (List ℕ)) (part : List Table) (i : ℕ) (before : List (List ℕ)) (cyclic : Option ℕ) → IsWalked leaves part i before cyclic → length part ≤ i
    → None ≡ first_bad_part_name leaves part
unfolding bad_name_behind
walk_ends leaves part i before cyclic walked le =
    ap (bad_name_behind leaves part (outputs_of (take i part))) (sym (drop_all i part le)) ∙ walked.rest

-- one more output among the known names
pub known_more : (leaves : List (List ℕ)) (part : List Table) (i : ℕ) (table : Table) (before after : List (List ℕ)) → i < length part → table ≡ get_or part i table
    → Alike before (outputs_of (take i part) ++ leaves) → after ≡ with_name before table.output → Alike after (outputs_of (take (i + 1) part) ++ leaves)
known_more leaves part i table before after lt is alike put name =
    ap (λ (names : List (List ℕ)). has names name) put
    ∙ has_with before table.output name
    ∙ ap (λ (b : Bool). b || bytes_eq name table.output) (alike name ∙ has_append (outputs_of (take i part)) leaves name)
    ∙ turned (has (outputs_of (take i part)) name) (has leaves name) (bytes_eq name table.output)
    ∙ ap (λ (b : Bool). b || has leaves name) (sym (has_more (outputs_of (take i part)) table.output name) ∙ ap (λ (names : List (List ℕ)). has names name) (sym (outputs_next part i table lt is)))
    ∙ sym (has_append (outputs_of (take (i + 1) part)) leaves name)
  where
    turned : (a b c : Bool) → ((a || b) || c) ≡ ((a || c) || b)
    turned true b c = refl
    turned false true true = refl
    turned false true false = refl
    turned false false true = refl
    turned false false false = refl

-- nothing is wrong with a table
free_table : (leaves : List (List ℕ)) (part : List Table) (before : List (List ℕ)) (table : Table) → bad_part_name leaves part before table ≡ None
    → (has before table.output ≡ false) × (first_missing (outputs_of part ++ leaves) table.inputs ≡ None) × (is_on_cycle part table.output ≡ false)
unfolding bad_part_name
free_table leaves part before table e = cases (has before table.output) refl e
  where
    cases : (b : Bool) → has before table.output ≡ b
        → (if b then Some table.output
        else option_or (first_missing (outputs_of part ++ leaves) table.inputs) (if is_on_cycle part table.output then Some table.output else None)) ≡ None
        → (has before table.output ≡ false) × (first_missing (outputs_of part ++ leaves) table.inputs ≡ None) × (is_on_cycle part table.output ≡ false)
    cases true t e = absurd (some_none table.output e)
    cases false t e = (
      t,
      none_first (first_missing (outputs_of part ++ leaves) table.inputs) (if is_on_cycle part table.output then Some table.output else None) e,
      not_some table.output (is_on_cycle part table.output)
          (none_second (first_missing (outputs_of part ++ leaves) table.inputs) (if is_on_cycle part table.output then Some table.output else None) e),
    )

all_join : (P : List ℕ → Type 0) (front back : List (List ℕ)) → AllByRecursion P front → AllByRecursion P back → AllByRecursion P (front ++ back)
all_join P [] back h k = k
all_join P (name ∷ front) back h k = (h.0, all_join P front back h.1 k)

-- no table breaks a rule: their outputs are new, what they read is known, and none is on a cycle
again_none : (leaves : List (List ℕ)) (part : List Table) (before : List (List ℕ)) (tables : List Table) → bad_name_behind leaves part before tables ≡ None
    → first_again before (outputs_of tables) ≡ None
unfolding bad_name_behind first_again
again_none leaves part before [] h = refl
again_none leaves part before (table ∷ tables) h =
    let free = free_table leaves part before table (none_first (bad_part_name leaves part before table) (bad_name_behind leaves part (before ++ table.output ∷ []) tables) h) in
    ap (λ (b : Bool). if b then Some table.output else first_again (before ++ table.output ∷ []) (outputs_of tables)) free.0
    ∙ again_none leaves part (before ++ table.output ∷ []) tables (none_second (bad_part_name leaves part before table) (bad_name_behind leaves part (before ++ table.output ∷ []) tables) h)

known_none : (leaves : List (List ℕ)) (part : List Table) (before : List (List ℕ)) (tables : List Table) → bad_name_behind leaves part before tables ≡ None
    → AllByRecursion (λ name. has (outputs_of part ++ leaves) name ≡ true) (table_inputs tables)
unfolding bad_name_behind
known_none leaves part before [] h = tt
known_none leaves part before (table ∷ tables) h =
    let free = free_table leaves part before table (none_first (bad_part_name leaves part before table) (bad_name_behind leaves part (before ++ table.output ∷ []) tables) h) in
    all_join (λ name. has (outputs_of part ++ leaves) name ≡ true) table.inputs (table_inputs tables)
    (known_from_missing (outputs_of part ++ leaves) table.inputs free.1)
    (known_none leaves part (before ++ table.output ∷ []) tables (none_second (bad_part_name leaves part before table) (bad_name_behind leaves part (before ++ table.output ∷ []) tables) h))

cycle_none : (leaves : List (List ℕ)) (part : List Table) (before : List (List ℕ)) (tables : List Table) → bad_name_behind leaves part before tables ≡ None
    → find (λ (table : Table). is_on_cycle part table.output) tables ≡ None
unfolding bad_name_behind
cycle_none leaves part before [] h = refl
cycle_none leaves part before (table ∷ tables) h =
    let free = free_table leaves part before table (none_first (bad_part_name leaves part before table) (bad_name_behind leaves part (before ++ table.output ∷ []) tables) h) in
    ap (λ (b : Bool). cond b (Some table) (find (λ (table : Table). is_on_cycle part table.output) tables)) free.2
    ∙ cycle_none leaves part (before ++ table.output ∷ []) tables (none_second (bad_part_name leaves part before table) (bad_name_behind leaves part (before ++ table.output ∷ []) tables) h)

-- if no table of a part breaks a rule, its outputs are all different, what it reads is known, and
-- no signal leads to itself
pub part_sound : (leaves : List (List ℕ)) (part : List Table) → first_bad_part_name leaves part ≡ None
    → (all_different (outputs_of part) ≡ true) × (AllByRecursion (λ name. has (outputs_of part ++ leaves) name ≡ true) (table_inputs part)) × IsAcyclic part
unfolding first_on_cycle all_different
part_sound leaves part h = (
  different_from_again [] (outputs_of part) refl (again_none leaves part [] part h),
  known_none leaves part [] part h,
  acyclic_from_none part (ap (option_map (λ (table : Table). table.output)) (cycle_none leaves part [] part h)),
)

-- and where these three hold, nothing is wrong with it
again_first : (before : List (List ℕ)) (name : List ℕ) (names : List (List ℕ)) → first_again before (name ∷ names) ≡ None
    → (has before name ≡ false) × (first_again (before ++ name ∷ []) names ≡ None)
unfolding first_again
again_first before name names h = cases (has before name) refl h
  where
    cases : (b : Bool) → has before name ≡ b → (if b then Some name else first_again (before ++ name ∷ []) names) ≡ None
        → (has before name ≡ false) × (first_again (before ++ name ∷ []) names ≡ None)
    cases true e h = absurd (some_none name h)
    cases false e h = (e, h)

passes_behind : (leaves : List (List ℕ)) (part : List Table) (before : List (List ℕ)) (tables : List Table) → first_again before (outputs_of tables) ≡ None
    → AllByRecursion (λ name. has (outputs_of part ++ leaves) name ≡ true) (table_inputs tables) → ((signal : List ℕ) → is_on_cycle part signal ≡ false)
    → bad_name_behind leaves part before tables ≡ None
unfolding bad_name_behind bad_part_name
passes_behind leaves part before [] new known free = refl
passes_behind leaves part before (table ∷ tables) new known free =
    let (here, later) = again_first before table.output (outputs_of tables) new in
    let reads = all_front (λ name. has (outputs_of part ++ leaves) name ≡ true) table.inputs (table_inputs tables) known in
    rw (here, missing_from_known (outputs_of part ++ leaves) table.inputs reads, free table.output)
    (passes_behind leaves part (before ++ table.output ∷ []) tables later (all_back (λ name. has (outputs_of part ++ leaves) name ≡ true) table.inputs (table_inputs tables) known) free)

pub part_passes : (leaves : List (List ℕ)) (part : List Table) → all_different (outputs_of part) ≡ true
    → AllByRecursion (λ name. has (outputs_of part ++ leaves) name ≡ true) (table_inputs part) → IsAcyclic part → first_bad_part_name leaves part ≡ None
unfolding IsAcyclic
part_passes leaves part different known acyclic =
    passes_behind leaves part [] part (again_from_different [] (outputs_of part) different) known
    (λ signal. free signal (is_on_cycle part signal) refl)
  where
    free : (signal : List ℕ) (b : Bool) → is_on_cycle part signal ≡ b → b ≡ false
    free signal true e = let (steps, led) = led_from_on_cycle part signal e in absurd (acyclic signal steps led)
    free signal false e = refl
