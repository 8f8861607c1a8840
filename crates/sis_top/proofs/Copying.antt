-- A script that reads a good file, prints its size and writes it is served.
use Rattle.std.proofs.Common.{◌≡◌, ℕ, ◌≤◌, List, [], ◌∷◌, ◌++◌, refl, sym, ap, subst, ◌∙◌, inl, inr, length, map, arith}
use Rattle.std.specs.Prelude.{◌⊎◌, Bool, false, Option, Some, None, Result, Ok, Err, codes}
use Rattle.std.specs.Str.{is_utf8, chars}
use Rattle.std.proofs.Math.Utf8.{encode}
use Rattle.sis_text.specs.Entries.{entries_of, script_entries_of}
use Rattle.sis_text.specs.Lines.{cut_comment, has_words}
use Rattle.sis_text.specs.Pieces.{line_pieces, piece_at, pieces_from, pieces_of}
use Rattle.sis_text.specs.Words.{part_len, parts_from, word_len, words_from}
use Rattle.sis_outside.specs.Calls.{StoreCall, Load, Save, FilesGo, Follows, Tells}
use Rattle.sis_outside.specs.Files.{Files, file_at}
use Rattle.sis_outside.specs.declared.store.LoadFault.{LoadFault}
use Rattle.sis_outside.specs.declared.store.LoadFault.TheVariants as load
use Rattle.sis_outside.specs.declared.store.SaveFault.{SaveFault}
use Rattle.sis_outside.specs.declared.store.SaveFault.TheVariants as save
use Rattle.sis_outside.specs.declared.sink.PutFault.{PutFault}
use Rattle.sis_outside.specs.declared.sink.PutFault.TheVariants as put
use Rattle.circuit_model.specs.Text.{text_of}
use Rattle.circuit_model.specs.declared.circuit.Circuit.{Circuit}
use Rattle.circuit_model.specs.declared.machine.Spec.TheVariants as spec
use Rattle.blif_read.specs.Reader.{read_lines}
use Rattle.sis_script.specs.Grammar.{fill, parse, parse_at}
use Rattle.sis_script.specs.Kinds.{value_of}
use Rattle.sis_script.specs.Script.{command_of, form_named, number_given, op_by, op_of}
use Rattle.sis_script.specs.declared.command.Command.{Command}
use Rattle.sis_script.specs.declared.command.Op.{Op}
use Rattle.sis_script.specs.declared.command.Op.TheVariants.{ReadBlif, PrintStats, WriteBlif}
use Rattle.sis_session.specs.Commands.{Blif, Plans, blif_read, commands_in, reply_with, spec_held, spec_in}
use Rattle.sis_session.specs.Plan.{MAX_BYTES, Does, Plan, Loads, Saves, Asked, Nothing, OnStore, OnOut, OnInput, Ending, Done, Cut, Comes, ComesLoaded, ComesPut, ComesSaved, Goes, Steps, by_plan, no_memory, on_store, replies, sends}
use Rattle.sis_session.specs.Replies.{stats_line}
use Rattle.sis_session.specs.State.{Held, nothing_held, with_read}
use Rattle.sis_session.specs.declared.refusal.Failed.{Failed}
use Rattle.sis_session.specs.declared.refusal.Failed.TheVariants as failed
use Rattle.sis_session.specs.declared.refusal.Next.TheVariants as next
use Rattle.sis_top.specs.Asked.{AsText}
use Rattle.sis_top.specs.Machine.{Begin, Run, Due, Machine, Turn, WorkPlans, IsTurn, IsTurnOf, Runs, after, after_ending, begin_plan, begins, begun, dues}
use Rattle.sis_top.specs.Call.{store_calls}
use Rattle.sis_top.specs.Laws.{AreServed, copying}
use Rattle.sis_top.specs.Served.{IsServedTurn, IsServedWork}

-- its commands
three : List Command
three =
    record { line = 1; op = ReadBlif (codes "a") } ∷ record { line = 1; op = PrintStats } ∷ record { line = 1; op = WriteBlif (Some (codes "b")) } ∷ []

-- its pieces
pieces_are : script_entries_of copying
    ≡ record { number = 1; words = codes "read_blif" ∷ codes "a" ∷ [] } ∷ record { number = 1; words = codes "print_stats" ∷ [] }
    ∷ record { number = 1; words = codes "write_blif" ∷ codes "b" ∷ [] } ∷ []
unfolding script_entries_of pieces_of pieces_from line_pieces piece_at cut_comment has_words words_from word_len parts_from part_len
pieces_are = refl

commands_are : commands_in copying ≡ three
unfolding three op_of op_by form_named number_given parse parse_at fill value_of is_utf8 chars encode
commands_are = ap (map command_of) pieces_are

-- a command was cut short
IsCut : Ending → Type 0
IsCut ending = (what : Failed) × (ending ≡ Cut what)

-- a command was done and held this then, or was cut short
EndsIn : Held → Ending → Type 0
EndsIn held ending = (ending ≡ Done held next.Go) ⊎ IsCut ending

done_ends : (held : Held) (ending : Ending) → Comes (Does held next.Go) ending → EndsIn held ending
unfolding EndsIn IsCut
done_ends held ending (inl e) = inl e
done_ends held ending (inr e) = inr (failed.Memory, e)

put_ends : (held : Held) (answer : Result (Unit {0}) PutFault) (ending : Ending) → ComesPut (Does held next.Go) answer ending → EndsIn held ending
unfolding EndsIn IsCut
put_ends held (Ok done) ending h = done_ends held ending h
put_ends held (Err put.Failed) ending h = inr (failed.Out, h)
put_ends held (Err put.Memory) ending h = inr (failed.Memory, h)

save_ends : (held : Held) (answer : Result (Unit {0}) SaveFault) (ending : Ending) → ComesSaved (Does held next.Go) answer ending → EndsIn held ending
unfolding EndsIn IsCut
save_ends held (Ok done) ending h = done_ends held ending h
save_ends held (Err save.Failed) ending h = inr (failed.Store, h)
save_ends held (Err save.Memory) ending h = inr (failed.Memory, h)

reply_ends : (text : List ℕ) (held : Held) (asked : Asked) (ending : Ending) → Goes (replies text (Does held next.Go)) asked ending → EndsIn held ending
reply_ends [] held Nothing ending h = done_ends held ending h
reply_ends [] held (OnStore call) ending h = absurd h
reply_ends [] held (OnOut call) ending h = absurd h
reply_ends [] held (OnInput calls) ending h = absurd h
reply_ends (byte ∷ bytes) held Nothing ending h = absurd h
reply_ends (byte ∷ bytes) held (OnStore (Load name max answer)) ending h = absurd h
reply_ends (byte ∷ bytes) held (OnStore (Save name sent answer)) ending h = absurd h
reply_ends (byte ∷ bytes) held (OnOut call) ending h = put_ends held call.answer ending h.1
reply_ends (byte ∷ bytes) held (OnInput calls) ending h = absurd h

file_ends : (name text : List ℕ) (held : Held) (asked : Asked) (ending : Ending) → Goes (Saves name text (Does held next.Go)) asked ending → EndsIn held ending
file_ends name text held Nothing ending h = absurd h
file_ends name text held (OnStore (Load loaded max answer)) ending h = absurd h
file_ends name text held (OnStore (Save saved sent answer)) ending h = save_ends held answer ending h.2
file_ends name text held (OnOut call) ending h = absurd h
file_ends name text held (OnInput calls) ending h = absurd h

-- what is asked by a command that prints or saves is answered, or not
put_served : (depth : ℕ) (held : Held) (op : Op) (answer : Result (Unit {0}) PutFault) → (answer ≡ Ok tt) ⊎ ((fault : PutFault) × (answer ≡ Err fault))
put_served depth held op (Ok done) = inl refl
put_served depth held op (Err fault) = inr (fault, refl)

module _ (goes_on : Bool) (files : Files) (left bytes : List ℕ) (circuit : Circuit) (there : file_at files (codes "a") ≡ Some bytes) (short : length bytes ≤ MAX_BYTES)
    (good : read_lines None (entries_of bytes) ≡ Ok (spec.Circuit circuit)) where
  kept : Held
  kept = with_read nothing_held circuit

  -- the machines that the script comes to
  first : Machine
  first = begun (AsText copying)

  second : Machine
  second = record { held = nothing_held; spec = None; refused = false; cut = None; todo = dues 0 three ++ [] }

  third : Machine
  third = record {
    held = kept;
    spec = Some (spec.Circuit circuit);
    refused = false;
    cut = None;
    todo = record { line = 1; work = Run 0 PrintStats } ∷ record { line = 1; work = Run 0 (WriteBlif (Some (codes "b"))) } ∷ [];
  }

  fourth : Machine
  fourth = record {
    held = kept;
    spec = Some (spec.Circuit circuit);
    refused = false;
    cut = None;
    todo = record { line = 1; work = Run 0 (WriteBlif (Some (codes "b"))) } ∷ [];
  }

  -- nothing is due any more
  none_due : (machine : Machine) (turn : Turn) → machine.todo ≡ [] → IsTurn machine turn → ⊥
  none_due machine turn none is = subst (λ (todo : List Due). IsTurnOf machine todo turn) none is

  ended : (from machine : Machine) (rest : List Turn) (turn : Turn) → from.todo ≡ [] → Runs goes_on from rest machine → IsTurn machine turn → ⊥
  ended from machine [] turn none runs is = none_due machine turn (ap (λ (m : Machine). m.todo) runs ∙ none) is
  ended from machine (other ∷ rest) turn none runs is = none_due from other none runs.0

  -- the begin
  begun_asks : (asked : Asked) (ending : Ending) → Steps (WorkPlans nothing_held (Begin (AsText copying))) asked ending
      → (asked ≡ Nothing) × ((ending ≡ Done nothing_held (next.Script three)) ⊎ IsCut ending)
  unfolding IsCut
  begun_asks asked ending (by_plan plan p g) = by asked (subst (λ (x : Plan). Goes x asked ending) p g)
    where
      script : Comes (begins nothing_held copying) ending → (ending ≡ Done nothing_held (next.Script three)) ⊎ IsCut ending
      script (inl e) = inl (e ∙ ap (λ (commands : List Command). Done nothing_held (next.Script commands)) commands_are)
      script (inr e) = inr (failed.Memory, e)

      by : (a : Asked) → Goes (begin_plan nothing_held (AsText copying)) a ending → (a ≡ Nothing) × ((ending ≡ Done nothing_held (next.Script three)) ⊎ IsCut ending)
      by Nothing h = (refl, script h)
      by (OnStore call) h = absurd h
      by (OnOut call) h = absurd h
      by (OnInput calls) h = absurd h
  begun_asks asked ending (no_memory a e) = (a, inr (failed.Memory, e))

  -- the load, by what it is answered
  tells_good : (max : ℕ) (answer : Result (List ℕ) LoadFault) → max ≡ MAX_BYTES → Tells (Some bytes) max answer
      → (answer ≡ Ok bytes) ⊎ ((answer ≡ Err load.Failed) ⊎ (answer ≡ Err load.Memory))
  tells_good max (Ok other) m h = inl (sym (cc))
  tells_good max (Err load.Missing) m h = cc
  tells_good max (Err (load.TooLong reached)) m (longer, same, long) =
      let equal : bytes ≡ longer = cc in absurd (omega (arith, long, m, short, ap length equal))
  tells_good max (Err load.Failed) m h = inr (inl refl)
  tells_good max (Err load.Memory) m h = inr (inr refl)

  read_good : spec_in Blif nothing_held (codes "a") bytes ≡ Ok (spec.Circuit circuit)
  read_good = ap (blif_read (codes "a")) good

  load_ends : (answer : Result (List ℕ) LoadFault) (ending : Ending) → (answer ≡ Ok bytes) ⊎ ((answer ≡ Err load.Failed) ⊎ (answer ≡ Err load.Memory))
      → ComesLoaded (codes "a") (λ b. spec_held nothing_held (spec_in Blif nothing_held (codes "a") b)) answer ending → EndsIn kept ending
  unfolding EndsIn IsCut kept
  load_ends answer ending (inl e) h =
      done_ends kept ending
      (subst (λ r. Comes (spec_held nothing_held r) ending) read_good
      (subst (λ (a : Result (List ℕ) LoadFault). ComesLoaded (codes "a") (λ b. spec_held nothing_held (spec_in Blif nothing_held (codes "a") b)) a ending) e h))
  load_ends answer ending (inr (inl e)) h =
      inr (failed.Store, subst (λ (a : Result (List ℕ) LoadFault). ComesLoaded (codes "a") (λ b. spec_held nothing_held (spec_in Blif nothing_held (codes "a") b)) a ending) e h)
  load_ends answer ending (inr (inr e)) h =
      inr (failed.Memory, subst (λ (a : Result (List ℕ) LoadFault). ComesLoaded (codes "a") (λ b. spec_held nothing_held (spec_in Blif nothing_held (codes "a") b)) a ending) e h)

  loaded : (name : List ℕ) (max : ℕ) (answer : Result (List ℕ) LoadFault) (later : Files) → name ≡ codes "a" → max ≡ MAX_BYTES → FilesGo files (Load name max answer) later
      → (answer ≡ Ok bytes) ⊎ ((answer ≡ Err load.Failed) ⊎ (answer ≡ Err load.Memory))
  loaded name max answer later n m went =
      tells_good max answer m (subst (λ (f : Option (List ℕ)). Tells f max answer) there (subst (λ (x : List ℕ). Tells (file_at files x) max answer) n went.1))

  -- the first call of some turns is that of the second of them
  first_call : (one two : Turn) (more : List Turn) (call : StoreCall) (after_all : Files) → one.asked ≡ Nothing → two.asked ≡ OnStore call
      → Follows FilesGo files after_all (store_calls (one ∷ two ∷ more)) → (later : Files) × FilesGo files call later
  first_call one two more call after_all e d went =
      let joined : store_calls (one ∷ two ∷ more) ≡ call ∷ store_calls more =
      ap (λ (a : Asked). on_store a ++ (on_store two.asked ++ store_calls more)) e ∙ ap (λ (a : Asked). on_store a ++ store_calls more) d in
      let all : Follows FilesGo files after_all (call ∷ store_calls more) = subst (λ (calls : List StoreCall). Follows FilesGo files after_all calls) joined went in
      (all.0, all.1)

  answered : (answer : Result (List ℕ) LoadFault) (name : List ℕ) (max : ℕ) → (answer ≡ Ok bytes) ⊎ ((answer ≡ Err load.Failed) ⊎ (answer ≡ Err load.Memory))
      → IsServedWork nothing_held (Run 0 (ReadBlif (codes "a"))) (OnStore (Load name max answer))
  answered answer name max (inl e) =
      subst (λ (a : Result (List ℕ) LoadFault). IsServedWork nothing_held (Run 0 (ReadBlif (codes "a"))) (OnStore (Load name max a))) (sym e) (inl (tt, (spec.Circuit circuit, read_good)))
  answered answer name max (inr (inl e)) =
      subst (λ (a : Result (List ℕ) LoadFault). IsServedWork nothing_held (Run 0 (ReadBlif (codes "a"))) (OnStore (Load name max a))) (sym e) (inr tt)
  answered answer name max (inr (inr e)) =
      subst (λ (a : Result (List ℕ) LoadFault). IsServedWork nothing_held (Run 0 (ReadBlif (codes "a"))) (OnStore (Load name max a))) (sym e) (inr tt)

  -- the read: it is served, and it ends with the circuit held, or is cut short
  reads : (one two : Turn) (more : List Turn) (later : Files) → one.asked ≡ Nothing → Steps (Plans 0 nothing_held (ReadBlif (codes "a"))) two.asked two.ending
      → Follows FilesGo files later (store_calls (one ∷ two ∷ more)) → IsServedWork nothing_held (Run 0 (ReadBlif (codes "a"))) two.asked × EndsIn kept two.ending
  unfolding EndsIn IsCut
  reads one two more later e (no_memory a d) went =
      (subst (λ (x : Asked). IsServedWork nothing_held (Run 0 (ReadBlif (codes "a"))) x) (sym a) (inl (tt, tt)), inr (failed.Memory, d))
  reads one two more later e (by_plan plan p g) went = by two.asked refl (subst (λ (x : Plan). Goes x two.asked two.ending) p g)
    where
      by : (asked : Asked) → two.asked ≡ asked → Goes (Loads (codes "a") (λ b. spec_held nothing_held (spec_in Blif nothing_held (codes "a") b))) asked two.ending
          → IsServedWork nothing_held (Run 0 (ReadBlif (codes "a"))) asked × EndsIn kept two.ending
      by Nothing d h = absurd h
      by (OnStore (Load name max answer)) d h =
          let gone = first_call one two more (Load name max answer) later e d went in
          let is = loaded name max answer gone.0 h.0 h.1 gone.1 in
          (answered answer name max is, load_ends answer two.ending is h.2)
      by (OnStore (Save name sent answer)) d h = absurd h
      by (OnOut call) d h = absurd h
      by (OnInput calls) d h = absurd h

  -- the reply: the same
  tells : (asked : Asked) (ending : Ending) → Steps (Plans 0 kept PrintStats) asked ending → EndsIn kept ending
  unfolding EndsIn IsCut kept
  tells asked ending (no_memory a d) = inr (failed.Memory, d)
  tells asked ending (by_plan plan (reply, (what, told, same), is) g) =
      let whole : plan ≡ replies (stats_line circuit) (Does kept next.Go) =
      is ∙ ap (sends None) same ∙ ap (λ w. sends None (reply_with kept w)) (sym told) in
      reply_ends (stats_line circuit) kept asked ending (subst (λ (x : Plan). Goes x asked ending) whole g)

  -- and the write
  writes : (asked : Asked) (ending : Ending) → Steps (Plans 0 kept (WriteBlif (Some (codes "b")))) asked ending → EndsIn kept ending
  unfolding EndsIn IsCut kept
  writes asked ending (no_memory a d) = inr (failed.Memory, d)
  writes asked ending (by_plan plan p g) =
      file_ends (codes "b") (text_of circuit) kept asked ending (subst (λ (x : Plan). Goes x asked ending) p g)

  -- whatever a command asks that needs only the network is answered, or not
  any_asked : (op : Op) (asked : Asked) → ((a : Asked) → a ≡ asked → IsServedWork kept (Run 0 op) a) → IsServedWork kept (Run 0 op) asked
  any_asked op asked all = all asked refl

  stats_served : (asked : Asked) (ending : Ending) → Steps (Plans 0 kept PrintStats) asked ending → IsServedWork kept (Run 0 PrintStats) asked
  unfolding kept
  stats_served Nothing ending steps = inl ((circuit, refl), tt)
  stats_served (OnStore (Load name max (Ok b))) ending steps = inl ((circuit, refl), tt)
  stats_served (OnStore (Load name max (Err fault))) ending steps = absurd (unloaded steps)
    where
      replied : (text : List ℕ) → Goes (replies text (Does kept next.Go)) (OnStore (Load name max (Err fault))) ending → ⊥
      replied [] h = h
      replied (byte ∷ rest) h = h

      unloaded : Steps (Plans 0 kept PrintStats) (OnStore (Load name max (Err fault))) ending → ⊥
      unloaded (no_memory a d) = cc
      unloaded (by_plan plan (reply, (what, told, same), is) g) =
          replied (stats_line circuit)
          (subst (λ (x : Plan). Goes x (OnStore (Load name max (Err fault))) ending)
          (is ∙ ap (sends None) same ∙ ap (λ w. sends None (reply_with kept w)) (sym told)) g)
  stats_served (OnStore (Save name sent (Ok done))) ending steps = inl ((circuit, refl), refl)
  stats_served (OnStore (Save name sent (Err fault))) ending steps = inr tt
  stats_served (OnOut call) ending steps = by (put_served 0 kept PrintStats call.answer)
    where
      by : (call.answer ≡ Ok tt) ⊎ ((fault : PutFault) × (call.answer ≡ Err fault)) → IsServedWork kept (Run 0 PrintStats) (OnOut call)
      by (inl e) = inl ((circuit, refl), e)
      by (inr h) = inr h
  stats_served (OnInput calls) ending steps = inl ((circuit, refl), tt)

  write_served : (asked : Asked) (ending : Ending) → Steps (Plans 0 kept (WriteBlif (Some (codes "b")))) asked ending
      → IsServedWork kept (Run 0 (WriteBlif (Some (codes "b")))) asked
  unfolding kept
  write_served Nothing ending steps = inl ((circuit, refl), tt)
  write_served (OnStore (Load name max answer)) ending (no_memory a d) = cc
  write_served (OnStore (Load name max answer)) ending (by_plan plan p g) = absurd (subst (λ (x : Plan). Goes x (OnStore (Load name max answer)) ending) p g)
  write_served (OnStore (Save name sent (Ok done))) ending steps = inl ((circuit, refl), refl)
  write_served (OnStore (Save name sent (Err fault))) ending steps = inr tt
  write_served (OnOut call) ending (no_memory a d) = cc
  write_served (OnOut call) ending (by_plan plan p g) = absurd (subst (λ (x : Plan). Goes x (OnOut call) ending) p g)
  write_served (OnInput calls) ending steps = inl ((circuit, refl), tt)

  -- each turn leads to the next machine, or to one with nothing due
  after_first_turn : (turn : Turn) → IsTurn first turn → (turn.asked ≡ Nothing) × ((after goes_on first turn ≡ second) ⊎ ((after goes_on first turn).todo ≡ []))
  unfolding first second IsCut
  after_first_turn turn is = let asks = begun_asks turn.asked turn.ending is.0 in (asks.0, by asks.1)
    where
      by : (turn.ending ≡ Done nothing_held (next.Script three)) ⊎ IsCut turn.ending → (after goes_on first turn ≡ second) ⊎ ((after goes_on first turn).todo ≡ [])
      by (inl e) = inl (ap (λ (x : Ending). after_ending goes_on first (record { line = 0; work = Begin (AsText copying) }) x turn.told) e)
      by (inr (what, e)) = inr (ap (λ (x : Ending). (after_ending goes_on first (record { line = 0; work = Begin (AsText copying) }) x turn.told).todo) e)

  after_second_turn : (turn : Turn) → EndsIn kept turn.ending → (after goes_on second turn ≡ third) ⊎ ((after goes_on second turn).todo ≡ [])
  unfolding second third three EndsIn IsCut kept
  after_second_turn turn (inl e) = inl (ap (λ (x : Ending). after_ending goes_on second (record { line = 1; work = Run 0 (ReadBlif (codes "a")) }) x turn.told) e)
  after_second_turn turn (inr (what, e)) = inr (ap (λ (x : Ending). (after_ending goes_on second (record { line = 1; work = Run 0 (ReadBlif (codes "a")) }) x turn.told).todo) e)

  after_third_turn : (turn : Turn) → EndsIn kept turn.ending → (after goes_on third turn ≡ fourth) ⊎ ((after goes_on third turn).todo ≡ [])
  unfolding third fourth EndsIn IsCut kept
  after_third_turn turn (inl e) = inl (ap (λ (x : Ending). after_ending goes_on third (record { line = 1; work = Run 0 PrintStats }) x turn.told) e)
  after_third_turn turn (inr (what, e)) = inr (ap (λ (x : Ending). (after_ending goes_on third (record { line = 1; work = Run 0 PrintStats }) x turn.told).todo) e)

  after_fourth_turn : (turn : Turn) → EndsIn kept turn.ending → (after goes_on fourth turn).todo ≡ []
  unfolding fourth EndsIn IsCut kept
  after_fourth_turn turn (inl e) = ap (λ (x : Ending). (after_ending goes_on fourth (record { line = 1; work = Run 0 (WriteBlif (Some (codes "b"))) }) x turn.told).todo) e
  after_fourth_turn turn (inr (what, e)) = ap (λ (x : Ending). (after_ending goes_on fourth (record { line = 1; work = Run 0 (WriteBlif (Some (codes "b"))) }) x turn.told).todo) e

  at_fourth : (rest : List Turn) (machine : Machine) (turn : Turn) → Runs goes_on fourth rest machine → IsTurn machine turn → IsServedTurn machine turn
  unfolding fourth
  at_fourth [] machine turn runs is =
      let here = subst (λ (m : Machine). IsTurn m turn) runs is in
      subst (λ (m : Machine). IsServedTurn m turn) (sym runs) (write_served turn.asked turn.ending here.0)
  at_fourth (other ∷ rest) machine turn runs is =
      absurd (ended (after goes_on fourth other) machine rest turn (after_fourth_turn other (writes other.asked other.ending runs.0.0)) runs.1 is)

  at_third : (rest : List Turn) (machine : Machine) (turn : Turn) → Runs goes_on third rest machine → IsTurn machine turn → IsServedTurn machine turn
  unfolding third
  at_third [] machine turn runs is =
      let here = subst (λ (m : Machine). IsTurn m turn) runs is in
      subst (λ (m : Machine). IsServedTurn m turn) (sym runs) (stats_served turn.asked turn.ending here.0)
  at_third (other ∷ rest) machine turn runs is = by (after_third_turn other (tells other.asked other.ending runs.0.0))
    where
      by : (after goes_on third other ≡ fourth) ⊎ ((after goes_on third other).todo ≡ []) → IsServedTurn machine turn
      by (inl e) = at_fourth rest machine turn (subst (λ (m : Machine). Runs goes_on m rest machine) e runs.1) is
      by (inr none) = absurd (ended (after goes_on third other) machine rest turn none runs.1 is)

  at_second : (one : Turn) (rest : List Turn) (machine : Machine) (turn : Turn) → one.asked ≡ Nothing → Runs goes_on second rest machine → IsTurn machine turn
      → ((later : Files) × Follows FilesGo files later (store_calls (one ∷ rest ++ turn ∷ []))) → IsServedTurn machine turn
  unfolding second three
  at_second one [] machine turn e runs is (later, went) =
      let here = subst (λ (m : Machine). IsTurn m turn) runs is in
      subst (λ (m : Machine). IsServedTurn m turn) (sym runs) (reads one turn [] later e here.0 went).0
  at_second one (other ∷ rest) machine turn e runs is (later, went) =
      by (after_second_turn other (reads one other (rest ++ turn ∷ []) later e runs.0.0 went).1)
    where
      by : (after goes_on second other ≡ third) ⊎ ((after goes_on second other).todo ≡ []) → IsServedTurn machine turn
      by (inl d) = at_third rest machine turn (subst (λ (m : Machine). Runs goes_on m rest machine) d runs.1) is
      by (inr none) = absurd (ended (after goes_on second other) machine rest turn none runs.1 is)

  pub copies_served : AreServed goes_on (AsText copying) files left
  unfolding first
  copies_served [] machine turn runs is stored took = subst (λ (m : Machine). IsServedTurn m turn) (sym runs) (omega arith)
  copies_served (one ∷ rest) machine turn runs is stored took = let begins = after_first_turn one runs.0 in by begins.0 begins.1
    where
      by : one.asked ≡ Nothing → (after goes_on first one ≡ second) ⊎ ((after goes_on first one).todo ≡ []) → IsServedTurn machine turn
      by e (inl d) = at_second one rest machine turn e (subst (λ (m : Machine). Runs goes_on m rest machine) d runs.1) is stored
      by e (inr none) = absurd (ended (after goes_on first one) machine rest turn none runs.1 is)
