-- The steps of the writing of a cover: what happens at them, and how many are left.
use Rattle.std.proofs.Common.{◌≡◌, ℕ, zero, suc, ◌+◌, ◌-◌, ◌*◌, ◌<◌, Option, Some, None, List, [], ◌∷◌, ◌++◌, length, take, drop, slice_get, get_or, unwrap_or, sum_by, refl, sym, ap, ◌∙◌, subst, arith}
use Rattle.std.specs.List.{AllByRecursion, flat_map}
use Rattle.std.proofs.lemmas.List.{append_assoc, length-append, drop_more}
use Rattle.std.proofs.lemmas.List.Sums.{sum_by-append, sum_by-cons}
use Rattle.std.proofs.lemmas.Option.{unwrap_or-slice_get}
use Rattle.subject_tree.specs.Arenas.{vertex_at}
use Rattle.subject_tree.specs.declared.arena.Vertex.{Vertex}
use Rattle.subject_tree.specs.declared.arena.Vertex.TheVariants.{Leaf, Inv, Nand}
use Rattle.tree_cover.specs.declared.choice.Choice.{Choice}
use Rattle.tree_cover.specs.Candidates.{choice_at}
use Rattle.tree_cover.specs.declared.writing.Signal.{Signal}
use Rattle.tree_cover.specs.declared.writing.Signal.TheVariants.{Gate}
use Rattle.tree_cover.specs.declared.writing.CoverGate.{CoverGate}
use Rattle.tree_cover.specs.declared.writing.Step.{Step}
use Rattle.tree_cover.specs.declared.writing.Step.TheVariants.{Visit, Write}
use Rattle.tree_cover.specs.Postorder.{Event, put, AreBelow, events_by, postorder, after, visits, planned, to_come, turns_of, StepBelow, leaf_signals, first_steps}

pub back_nothing : {X : Type 0} (xs : List X) → xs ++ [] ≡ xs
back_nothing [] = refl
back_nothing {X} (x ∷ xs) = ap (λ (ys : List X). x ∷ ys) (back_nothing xs)

-- the pins of each choice are below it
pub pins_below : (choices : List Choice) → AreBelow choices → (n : ℕ) → AllByRecursion (λ m. m < n) (choice_at choices n).pins
pins_below choices below n =
    subst (λ (choice : Choice). AllByRecursion (λ m. m < n) choice.pins) (unwrap_or-slice_get choices n (record { cost = 0; place = 0; pins = [] })) (cases (slice_get choices n) refl)
  where
    cases : (found : Option Choice) → slice_get choices n ≡ found → AllByRecursion (λ m. m < n) (unwrap_or found (record { cost = 0; place = 0; pins = [] })).pins
    cases None e = tt
    cases (Some choice) e = below n choice e

flat_agree : (f g : ℕ → List Event) (n d : ℕ) → n < suc d → ((m : ℕ) → m < d → f m ≡ g m) → (ns : List ℕ) → AllByRecursion (λ m. m < n) ns → flat_map f ns ≡ flat_map g ns
flat_agree f g n d lt same [] below = refl
flat_agree f g n d lt same (m ∷ ns) below =
    ap (λ (es : List Event). es ++ flat_map f ns) (same m (omega (arith, lt, below.0))) ∙ ap (λ (es : List Event). g m ++ es) (flat_agree f g n d lt same ns below.1)

module _ (vs : List Vertex) (choices : List Choice) (below : AreBelow choices) where
  -- deeper than a number nothing more happens there
  pub deep_enough : (d n : ℕ) → n < d → postorder vs choices d n ≡ postorder vs choices (suc d) n
  unfolding postorder
  deep_enough zero n lt = absurd (omega (arith, lt))
  deep_enough (suc d) n lt =
      ap (events_by (vertex_at vs n) n) (flat_agree (postorder vs choices d) (postorder vs choices (suc d)) n d lt (deep_enough d) (choice_at choices n).pins (pins_below choices below n))

  to_come-push : (d : ℕ) (waiting : List Step) (step : Step) → to_come vs choices d (waiting ++ step ∷ []) ≡ planned vs choices d step ++ to_come vs choices d waiting
  unfolding to_come
  to_come-push d [] step = sym (back_nothing (planned vs choices d step))
  to_come-push d (s ∷ waiting) step =
      ap (λ (es : List Event). es ++ planned vs choices d s) (to_come-push d waiting step)
      ∙ append_assoc (planned vs choices d step) (to_come vs choices d waiting) (planned vs choices d s)

  pub popped : (d : ℕ) (before waiting : List Step) (step : Step) → before ≡ waiting ++ step ∷ [] → to_come vs choices d before ≡ planned vs choices d step ++ to_come vs choices d waiting
  popped d before waiting step e = ap (to_come vs choices d) e ∙ to_come-push d waiting step

  to_come-visits : (d : ℕ) (waiting : List Step) (ns : List ℕ) → to_come vs choices d (waiting ++ visits ns) ≡ flat_map (postorder vs choices d) ns ++ to_come vs choices d waiting
  unfolding visits
  to_come-visits d waiting [] = ap (to_come vs choices d) (back_nothing waiting)
  to_come-visits d waiting (n ∷ ns) =
      ap (to_come vs choices d) (sym (append_assoc waiting (visits ns) (Visit n ∷ [])))
      ∙ (to_come-push d (waiting ++ visits ns) (Visit n)
      ∙ (ap (λ (es : List Event). postorder vs choices d n ++ es) (to_come-visits d waiting ns)
      ∙ sym (append_assoc (postorder vs choices d n) (flat_map (postorder vs choices d) ns) (to_come vs choices d waiting))))

  gate_steps : (d n : ℕ) (waiting : List Step) (ns : List ℕ) → to_come vs choices d (waiting ++ (Write n ∷ visits ns)) ≡ (flat_map (postorder vs choices d) ns ++ put n ∷ []) ++ to_come vs choices d waiting
  gate_steps d n waiting ns =
      ap (to_come vs choices d) (sym (append_assoc waiting (Write n ∷ []) (visits ns)))
      ∙ (to_come-visits d (waiting ++ Write n ∷ []) ns
      ∙ (ap (λ (es : List Event). flat_map (postorder vs choices d) ns ++ es) (to_come-push d waiting (Write n))
      ∙ sym (append_assoc (flat_map (postorder vs choices d) ns) (put n ∷ []) (to_come vs choices d waiting))))

  -- what happens at a visit
  visit_at : (v : Vertex) (d n : ℕ) (ns : List ℕ) (waiting : List Step) (signals : List Signal) (gates : List CoverGate)
      → after choices (record { signals = signals ++ leaf_signals v; gates = gates }) (to_come vs choices d (waiting ++ first_steps v n ns))
      ≡ after choices (record { signals = signals; gates = gates }) (events_by v n (flat_map (postorder vs choices d) ns) ++ to_come vs choices d waiting)
  unfolding after
  visit_at (Leaf place) d n ns waiting signals gates =
      ap (λ (ws : List Step). after choices (record { signals = signals ++ leaf_signals (Leaf place); gates = gates }) (to_come vs choices d ws)) (back_nothing waiting)
  visit_at (Inv m) d n ns waiting signals gates =
      ap (λ (xs : List Signal). after choices (record { signals = xs; gates = gates }) (to_come vs choices d (waiting ++ (Write n ∷ visits ns)))) (back_nothing signals)
      ∙ ap (after choices (record { signals = signals; gates = gates })) (gate_steps d n waiting ns)
  visit_at (Nand l r) d n ns waiting signals gates =
      ap (λ (xs : List Signal). after choices (record { signals = xs; gates = gates }) (to_come vs choices d (waiting ++ (Write n ∷ visits ns)))) (back_nothing signals)
      ∙ ap (after choices (record { signals = signals; gates = gates })) (gate_steps d n waiting ns)

  by_pins : (d n : ℕ) → n < d → postorder vs choices d n ≡ events_by (vertex_at vs n) n (flat_map (postorder vs choices d) (choice_at choices n).pins)
  unfolding postorder
  by_pins d n lt = deep_enough d n lt

  visit_events : (d n : ℕ) (waiting : List Step) (signals : List Signal) (gates : List CoverGate) → n < d
      → after choices (record { signals = signals ++ leaf_signals (vertex_at vs n); gates = gates }) (to_come vs choices d (waiting ++ first_steps (vertex_at vs n) n (choice_at choices n).pins))
      ≡ after choices (record { signals = signals; gates = gates }) (postorder vs choices d n ++ to_come vs choices d waiting)
  visit_events d n waiting signals gates lt =
      visit_at (vertex_at vs n) d n (choice_at choices n).pins waiting signals gates
      ∙ ap (λ (es : List Event). after choices (record { signals = signals; gates = gates }) (es ++ to_come vs choices d waiting)) (sym (by_pins d n lt))

  turns-visits : (d : ℕ) (ns : List ℕ) → sum_by (turns_of vs choices d) (visits ns) ≡ 2 * length (flat_map (postorder vs choices d) ns)
  unfolding visits
  turns-visits d [] = refl
  turns-visits d (n ∷ ns) =
      let ends : sum_by (turns_of vs choices d) (Visit n ∷ []) ≡ 2 * length (postorder vs choices d n) + sum_by (turns_of vs choices d) [] = sum_by-cons (turns_of vs choices d) (Visit n) [] in
      let none : sum_by (turns_of vs choices d) [] ≡ 0 = refl in
      omega (arith, sum_by-append (turns_of vs choices d) (visits ns) (Visit n ∷ []), ends, none, turns-visits d ns, length-append (postorder vs choices d n) (flat_map (postorder vs choices d) ns))

  gate_turns : (d n : ℕ) (waiting : List Step) (ns : List ℕ)
      → sum_by (turns_of vs choices d) (waiting ++ (Write n ∷ visits ns)) < sum_by (turns_of vs choices d) waiting + 2 * length (flat_map (postorder vs choices d) ns ++ put n ∷ [])
  gate_turns d n waiting ns =
      let own : length (put n ∷ []) ≡ 1 = refl in
      let one : turns_of vs choices d (Write n) ≡ 1 = refl in
      omega (arith, sum_by-append (turns_of vs choices d) waiting (Write n ∷ visits ns), sum_by-cons (turns_of vs choices d) (Write n) (visits ns), one, own, turns-visits d ns, length-append (flat_map (postorder vs choices d) ns) (put n ∷ []))

  visit_turns_at : (v : Vertex) (d n : ℕ) (ns : List ℕ) (waiting : List Step)
      → sum_by (turns_of vs choices d) (waiting ++ first_steps v n ns) < sum_by (turns_of vs choices d) waiting + 2 * length (events_by v n (flat_map (postorder vs choices d) ns))
  visit_turns_at (Leaf place) d n ns waiting =
      let same : sum_by (turns_of vs choices d) (waiting ++ []) ≡ sum_by (turns_of vs choices d) waiting = ap (sum_by (turns_of vs choices d)) (back_nothing waiting) in
      let one : length (events_by (Leaf place) n (flat_map (postorder vs choices d) ns)) ≡ 1 = refl in
      omega (arith, same, one)
  visit_turns_at (Inv m) d n ns waiting = gate_turns d n waiting ns
  visit_turns_at (Nand l r) d n ns waiting = gate_turns d n waiting ns

  visit_turns : (d n : ℕ) (waiting : List Step) → n < d
      → sum_by (turns_of vs choices d) (waiting ++ first_steps (vertex_at vs n) n (choice_at choices n).pins) < sum_by (turns_of vs choices d) waiting + turns_of vs choices d (Visit n)
  visit_turns d n waiting lt =
      subst (λ (es : List Event). sum_by (turns_of vs choices d) (waiting ++ first_steps (vertex_at vs n) n (choice_at choices n).pins) < sum_by (turns_of vs choices d) waiting + 2 * length es)
      (sym (by_pins d n lt)) (visit_turns_at (vertex_at vs n) d n (choice_at choices n).pins waiting)

  pub popped_turns : (d : ℕ) (before waiting after_it : List Step) (step : Step) → before ≡ waiting ++ step ∷ []
      → sum_by (turns_of vs choices d) after_it < sum_by (turns_of vs choices d) waiting + turns_of vs choices d step → sum_by (turns_of vs choices d) after_it < sum_by (turns_of vs choices d) before
  popped_turns d before waiting after_it step e lt =
      let all : sum_by (turns_of vs choices d) before ≡ sum_by (turns_of vs choices d) (waiting ++ step ∷ []) = ap (sum_by (turns_of vs choices d)) e in
      let none : sum_by (turns_of vs choices d) [] ≡ 0 = refl in
      omega (arith, lt, all, none, sum_by-append (turns_of vs choices d) waiting (step ∷ []), sum_by-cons (turns_of vs choices d) step [])

  -- what a visit and a gate make of what is to come
  pub visit_told : (d n : ℕ) (waiting before : List Step) (signals more : List Signal) (gates : List CoverGate) → n < d
      → waiting ≡ before ++ first_steps (vertex_at vs n) n (choice_at choices n).pins → more ≡ signals ++ leaf_signals (vertex_at vs n)
      → after choices (record { signals = more; gates = gates }) (to_come vs choices d waiting) ≡ after choices (record { signals = signals; gates = gates }) (postorder vs choices d n ++ to_come vs choices d before)
  visit_told d n waiting before signals more gates lt wait is =
      ap (λ (ws : List Step). after choices (record { signals = more; gates = gates }) (to_come vs choices d ws)) wait
      ∙ (ap (λ (xs : List Signal). after choices (record { signals = xs; gates = gates }) (to_come vs choices d (before ++ first_steps (vertex_at vs n) n (choice_at choices n).pins))) is
      ∙ visit_events d n before signals gates lt)

  pub visit_fewer : (d n : ℕ) (waiting before : List Step) → n < d → waiting ≡ before ++ first_steps (vertex_at vs n) n (choice_at choices n).pins
      → sum_by (turns_of vs choices d) waiting < sum_by (turns_of vs choices d) before + turns_of vs choices d (Visit n)
  visit_fewer d n waiting before lt wait =
      subst (λ (ws : List Step). sum_by (turns_of vs choices d) ws < sum_by (turns_of vs choices d) before + turns_of vs choices d (Visit n)) (sym wait) (visit_turns d n before lt)

  pub write_told : (d n : ℕ) (waiting : List Step) (signals more : List Signal) (gates others : List CoverGate)
      → more ≡ take (length signals - length (choice_at choices n).pins) signals ++ Gate (length gates) ∷ []
      → others ≡ gates ++ record { place = (choice_at choices n).place; pins = drop (length signals - length (choice_at choices n).pins) signals } ∷ []
      → after choices (record { signals = more; gates = others }) (to_come vs choices d waiting) ≡ after choices (record { signals = signals; gates = gates }) ((put n ∷ []) ++ to_come vs choices d waiting)
  unfolding after
  write_told d n waiting signals more gates others is gate =
      ap (λ (xs : List Signal). after choices (record { signals = xs; gates = others }) (to_come vs choices d waiting)) is
      ∙ ap (λ (gs : List CoverGate). after choices (record { signals = take (length signals - length (choice_at choices n).pins) signals ++ Gate (length gates) ∷ []; gates = gs }) (to_come vs choices d waiting)) gate

all_both : {X : Type 0} (P : X → Type 0) (xs ys : List X) → AllByRecursion P xs → AllByRecursion P ys → AllByRecursion P (xs ++ ys)
all_both P [] ys a b = b
all_both P (x ∷ xs) ys a b = (a.0, all_both P xs ys a.1 b)

all_front : {X : Type 0} (P : X → Type 0) (xs ys : List X) → AllByRecursion P (xs ++ ys) → AllByRecursion P xs
all_front P [] ys a = tt
all_front P (x ∷ xs) ys a = (a.0, all_front P xs ys a.1)

all_last : {X : Type 0} (P : X → Type 0) (xs : List X) (x : X) → AllByRecursion P (xs ++ x ∷ []) → P x
all_last P [] x a = a.0
all_last P (y ∷ xs) x a = all_last P xs x a.1

visits_in : (d n : ℕ) (ns : List ℕ) → n < d → AllByRecursion (λ m. m < n) ns → AllByRecursion (StepBelow d) (visits ns)
unfolding visits
visits_in d n [] lt below = tt
visits_in d n (m ∷ ns) lt below = all_both (StepBelow d) (visits ns) (Visit m ∷ []) (visits_in d n ns lt below.1) (omega (arith, lt, below.0), tt)

first_in : (v : Vertex) (d n : ℕ) (ns : List ℕ) → n < d → AllByRecursion (λ m. m < n) ns → AllByRecursion (StepBelow d) (first_steps v n ns)
first_in (Leaf place) d n ns lt below = tt
first_in (Inv m) d n ns lt below = (lt, visits_in d n ns lt below)
first_in (Nand l r) d n ns lt below = (lt, visits_in d n ns lt below)

pub visit_in : (vs : List Vertex) (choices : List Choice) → AreBelow choices → (d n : ℕ) (after_it waiting : List Step) → n < d → after_it ≡ waiting ++ first_steps (vertex_at vs n) n (choice_at choices n).pins
    → AllByRecursion (StepBelow d) waiting → AllByRecursion (StepBelow d) after_it
visit_in vs choices below d n after_it waiting lt is all =
    subst (AllByRecursion (StepBelow d)) (sym is)
    (all_both (StepBelow d) waiting _ all (first_in (vertex_at vs n) d n (choice_at choices n).pins lt (pins_below choices below n)))

-- visits that wait, one more at a time
pub visits_begun : (waiting : List Step) (ns : List ℕ) → waiting ≡ waiting ++ visits (drop (length ns) ns)
unfolding visits
visits_begun waiting ns = sym (ap (λ (ms : List ℕ). waiting ++ visits ms) (all_dropped ns) ∙ back_nothing waiting)
  where
    all_dropped : (ms : List ℕ) → drop (length ms) ms ≡ []
    all_dropped [] = refl
    all_dropped (m ∷ ms) = all_dropped ms

pub visits_more : (old before new : List Step) (ns : List ℕ) (k place n : ℕ) → k < length ns → place ≡ k + 1 → n ≡ get_or ns k 0 → before ≡ old ++ visits (drop place ns) → new ≡ before ++ Visit n ∷ [] → new ≡ old ++ visits (drop k ns)
unfolding visits
visits_more old before new ns k place n lt is at so pushed =
    pushed
    ∙ (ap (λ (ws : List Step). ws ++ Visit n ∷ []) (so ∙ ap (λ (i : ℕ). old ++ visits (drop i ns)) is)
    ∙ (append_assoc old (visits (drop (k + 1) ns)) (Visit n ∷ [])
    ∙ (ap (λ (m : ℕ). old ++ (visits (drop (k + 1) ns) ++ Visit m ∷ [])) at ∙ ap (λ (ms : List ℕ). old ++ visits ms) (sym (drop_more ns k 0 lt)))))

-- a gate and the visits of its pins
pub gate_pushed : (old first new : List Step) (n : ℕ) (ns : List ℕ) → first ≡ old ++ Write n ∷ [] → new ≡ first ++ visits ns → new ≡ old ++ (Write n ∷ visits ns)
gate_pushed old first new n ns one all = all ∙ (ap (λ (ws : List Step). ws ++ visits ns) one ∙ append_assoc old (Write n ∷ []) (visits ns))

-- a step that waits last is at a number below a bound, and so are the others
pub popped_below : (d : ℕ) (before waiting : List Step) (step : Step) → before ≡ waiting ++ step ∷ [] → AllByRecursion (StepBelow d) before → StepBelow d step × AllByRecursion (StepBelow d) waiting
popped_below d before waiting step e all =
    let here : AllByRecursion (StepBelow d) (waiting ++ step ∷ []) = subst (AllByRecursion (StepBelow d)) e all in
    (all_last (StepBelow d) waiting step here, all_front (StepBelow d) waiting (step ∷ []) here)
