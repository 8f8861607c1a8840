-- What the events of a tree's postorder write is the cover that is taken of the tree.
use Rattle.std.proofs.Common.{◌≡◌, ℕ, zero, suc, ◌+◌, ◌-◌, ◌<◌, Option, Some, List, [], ◌∷◌, ◌++◌, length, take, drop, slice_get, sum_by, refl, sym, ap, ◌∙◌, subst, arith}
use Rattle.std.specs.List.{AllByRecursion, flat_map}
use Rattle.std.specs.Option.{option_map_or}
use Rattle.std.specs.declared.cmp.Ordering.{Ordering}
use Rattle.std.proofs.lemmas.List.{append_assoc, length-append, length-map}
use Rattle.std.proofs.lemmas.List.Sums.{sum_by-append, sum_by-cons, fold-append}
use Rattle.std.proofs.lemmas.Option.{slice_get-get_or}
use Rattle.std.proofs.Math.Seq.{take-append_seam, drop-append_seam}
use Rattle.subject_tree.specs.Trees.{Tree, Leaf, Inv, Nand}
use Rattle.subject_tree.specs.Arenas.{trees, tree_in, tree_at, built, vertex_at, IsArena}
use Rattle.subject_tree.specs.Tables.{trees_of}
use Rattle.subject_tree.specs.declared.arena.Vertex.{Vertex}
use Rattle.subject_tree.specs.declared.arena.Vertex.TheVariants.{Leaf as VertexLeaf, Inv as VertexInv, Nand as VertexNand}
use Rattle.tree_cover.specs.Covers.{Tile, leaf_cover, Least, LeastOfAll, IsGiven, Stands}
use Rattle.tree_cover.specs.Candidates.{choice_at, cost_at, IsChoice, AreMade}
use Rattle.tree_cover.specs.declared.choice.Choice.{Choice}
use Rattle.tree_cover.proofs.Valuing.{leasts-one}
use Rattle.tree_cover.specs.declared.writing.Signal.{Signal}
use Rattle.tree_cover.specs.declared.writing.Signal.TheVariants.{Leaf as AtLeaf, Gate}
use Rattle.tree_cover.specs.declared.writing.CoverGate.{CoverGate}
use Rattle.tree_cover.specs.declared.writing.Step.{Step}
use Rattle.tree_cover.specs.declared.writing.Step.TheVariants.{Visit}
use Rattle.tree_cover.specs.Written.{IsWritten, written_leaf, written_gate, AreWritten, none_written, more_written, area_at}
use Rattle.tree_cover.specs.Postorder.{Event, meet, put, events_by, postorder, Progress, gate_put, after_event, after, to_come}
use Rattle.tree_cover.proofs.Walking.{back_nothing}

-- the areas of gates, together
abbrev pub area_of : List Tile → List CoverGate → ℕ
area_of library gates = sum_by (λ (gate : CoverGate). area_at library gate.place) gates

-- progress by its parts
abbrev pub progress : List Signal → List CoverGate → Progress
progress signals gates = record { signals = signals; gates = gates }

-- what events do behind signals and gates: they add a signal and the gates of a tree's cover
record Adds (cmp : Tree ℕ → Tree ℕ → Ordering) (library : List Tile) (choices : List Choice) (events : List Event) (t : Tree ℕ) (cost : ℕ) (signals : List Signal) (gates : List CoverGate) : Type 0 where
  signal : Signal
  more : List CoverGate
  comes : after choices (progress signals gates) events ≡ progress (signals ++ signal ∷ []) (gates ++ more)
  writes : IsWritten cmp library t (length gates) signal more
  area : area_of library more ≡ cost

-- they add a signal for each of some trees, and the gates of the trees' covers
record AddsAll (cmp : Tree ℕ → Tree ℕ → Ordering) (library : List Tile) (choices : List Choice) (events : List Event) (ts : List (Tree ℕ)) (cost : ℕ) (signals : List Signal) (gates : List CoverGate) : Type 0 where
  pins : List Signal
  more : List CoverGate
  comes : after choices (progress signals gates) events ≡ progress (signals ++ pins) (gates ++ more)
  count : length pins ≡ length ts
  writes : AreWritten cmp library ts (length gates) pins more
  area : area_of library more ≡ cost

after-append : (choices : List Choice) (p : Progress) (xs ys : List Event) → after choices p (xs ++ ys) ≡ after choices (after choices p xs) ys
unfolding after
after-append choices p xs ys = fold-append (after_event choices) p xs ys

never_empty : (xs : List Signal) (x : Signal) → xs ++ x ∷ [] ≡ [] → ⊥
never_empty xs x e =
    let none : length (xs ++ x ∷ []) ≡ 0 = ap (λ (ys : List Signal). length ys) e in
    absurd (omega (arith, none, length-append xs (x ∷ [])))

first_same : (x y : Signal) (xs ys : List Signal) → x ∷ xs ≡ y ∷ ys → x ≡ y
first_same x y xs ys e = ap (λ (zs : List Signal). head zs) e
  where
    head : List Signal → Signal
    head [] = x
    head (z ∷ zs) = z

two_places : (signals pins : List Signal) (n : ℕ) → length pins ≡ n → length (signals ++ pins) - n ≡ length signals
two_places signals pins n e = omega (arith, length-append signals pins, e)

-- the gate of a choice takes the signals of its pins
gate_put-is : (choice : Choice) (signals pins : List Signal) (gates : List CoverGate) → length pins ≡ length choice.pins
    → gate_put choice (progress (signals ++ pins) gates) ≡ progress (signals ++ Gate (length gates) ∷ []) (gates ++ record { place = choice.place; pins = pins } ∷ [])
gate_put-is choice signals pins gates e =
    ap (λ (k : ℕ). progress (take k (signals ++ pins) ++ Gate (length gates) ∷ []) (gates ++ record { place = choice.place; pins = drop k (signals ++ pins) } ∷ [])) (two_places signals pins (length choice.pins) e)
    ∙ (ap (λ (xs : List Signal). progress (xs ++ Gate (length gates) ∷ []) (gates ++ record { place = choice.place; pins = drop (length signals) (signals ++ pins) } ∷ [])) (take-append_seam signals pins)
    ∙ ap (λ (xs : List Signal). progress (signals ++ Gate (length gates) ∷ []) (gates ++ record { place = choice.place; pins = xs } ∷ [])) (drop-append_seam signals pins))

last_is : (waiting : List Signal) (root signal : Signal) → waiting ++ root ∷ [] ≡ signal ∷ [] → root ≡ signal
last_is [] root signal e = first_same root signal [] [] e
last_is (s ∷ waiting) root signal e =
    let count : suc (length (waiting ++ root ∷ [])) ≡ 1 = ap (λ (xs : List Signal). length xs) e in
    absurd (omega (arith, count, length-append waiting (root ∷ [])))

-- there is a signal once an event has happened
event_signals : (choices : List Choice) (p : Progress) (event : Event) → (after_event choices p event).signals ≡ [] → ⊥
event_signals choices p (meet place) e = never_empty p.signals (AtLeaf place) e
event_signals choices p (put n) e = never_empty _ (Gate (length p.gates)) e

events_signals : (v : Vertex) (n : ℕ) (choices : List Choice) (p : Progress) (below : List Event) → (after choices p (events_by v n below)).signals ≡ [] → ⊥
unfolding after
events_signals (VertexLeaf place) n choices p below e = event_signals choices p (meet place) e
events_signals (VertexInv m) n choices p below e = event_signals choices (after choices p below) (put n) (ap (λ (q : Progress). q.signals) (sym (after-append choices p below (put n ∷ []))) ∙ e)
events_signals (VertexNand l r) n choices p below e = event_signals choices (after choices p below) (put n) (ap (λ (q : Progress). q.signals) (sym (after-append choices p below (put n ∷ []))) ∙ e)

root_signal : (vs : List Vertex) (choices : List Choice) (d n : ℕ) (gates : List CoverGate) → n < d → progress [] gates ≡ after choices (progress [] []) (postorder vs choices d n) → ⊥
unfolding postorder
root_signal vs choices zero n gates lt e = absurd (omega (arith, lt))
root_signal vs choices (suc d) n gates lt e = events_signals (vertex_at vs n) n choices (progress [] []) (flat_map (postorder vs choices d) (choice_at choices n).pins) (sym (ap (λ (p : Progress). p.signals) e))

module _ (cmp : Tree ℕ → Tree ℕ → Ordering) (library : List Tile) (vs : List Vertex) (choices : List Choice) where
  adds_all : (events : ℕ → List Event) (n : ℕ)
      → ((m : ℕ) → m < n → (signals : List Signal) (gates : List CoverGate) → Adds cmp library choices (events m) (tree_at vs m) (cost_at choices m) signals gates)
      → (ns : List ℕ) → AllByRecursion (λ m. m < n) ns → (signals : List Signal) (gates : List CoverGate) → AddsAll cmp library choices (flat_map events ns) (trees_of vs ns) (sum_by (cost_at choices) ns) signals gates
  unfolding after
  adds_all events n each [] below signals gates = record {
    pins = [];
    more = [];
    comes = sym (ap (λ (xs : List Signal). progress xs (gates ++ [])) (back_nothing signals) ∙ ap (λ (gs : List CoverGate). progress signals gs) (back_nothing gates));
    count = refl;
    writes = none_written (length gates);
    area = refl;
  }
  adds_all events n each (m ∷ ns) below signals gates =
      let one : Adds cmp library choices (events m) (tree_at vs m) (cost_at choices m) signals gates = each m below.0 signals gates in
      let rest : AddsAll cmp library choices (flat_map events ns) (trees_of vs ns) (sum_by (cost_at choices) ns) (signals ++ one.signal ∷ []) (gates ++ one.more) =
      adds_all events n each ns below.1 (signals ++ one.signal ∷ []) (gates ++ one.more) in
      record {
        pins = one.signal ∷ rest.pins;
        more = one.more ++ rest.more;
        comes =
            after-append choices (progress signals gates) (events m) (flat_map events ns)
            ∙ (ap (λ (p : Progress). after choices p (flat_map events ns)) one.comes
            ∙ (rest.comes
            ∙ (ap (λ (xs : List Signal). progress xs ((gates ++ one.more) ++ rest.more)) (append_assoc signals (one.signal ∷ []) rest.pins)
            ∙ ap (λ (gs : List CoverGate). progress (signals ++ one.signal ∷ rest.pins) gs) (append_assoc gates one.more rest.more))));
        count = ap (λ (n : ℕ). suc n) rest.count;
        writes =
            more_written (tree_at vs m) (trees_of vs ns) (length gates) one.signal rest.pins one.more rest.more one.writes
            (subst (λ (k : ℕ). AreWritten cmp library (trees_of vs ns) k rest.pins rest.more) (length-append gates one.more) rest.writes);
        area = omega (arith, one.area, rest.area, sum_by-append (λ (gate : CoverGate). area_at library gate.place) one.more rest.more, sum_by-cons (cost_at choices) m ns);
      }

  -- the gate of a choice behind those of its pins
  add_gate : (n : ℕ) (choice : Choice) (below : List Event) → choice_at choices n ≡ choice → IsGiven cmp library (tree_at vs n) choice.cost choice.place (trees_of vs choice.pins)
      → LeastOfAll library (trees_of vs choice.pins) (sum_by (cost_at choices) choice.pins)
      → (signals : List Signal) (gates : List CoverGate) → AddsAll cmp library choices below (trees_of vs choice.pins) (sum_by (cost_at choices) choice.pins) signals gates
      → Adds cmp library choices (below ++ put n ∷ []) (tree_at vs n) choice.cost signals gates
  unfolding after
  add_gate n choice below is given least signals gates all = record {
    signal = Gate (length gates + length all.more);
    more = all.more ++ record { place = choice.place; pins = all.pins } ∷ [];
    comes =
        after-append choices (progress signals gates) below (put n ∷ [])
        ∙ (ap (λ (p : Progress). after_event choices p (put n)) all.comes
        ∙ (ap (λ (c : Choice). gate_put c (progress (signals ++ all.pins) (gates ++ all.more))) is
        ∙ (gate_put-is choice signals all.pins (gates ++ all.more) (all.count ∙ length-map choice.pins (tree_at vs))
        ∙ (ap (λ (k : ℕ). progress (signals ++ Gate k ∷ []) ((gates ++ all.more) ++ record { place = choice.place; pins = all.pins } ∷ [])) (length-append gates all.more)
        ∙ ap (λ (gs : List CoverGate). progress (signals ++ Gate (length gates + length all.more) ∷ []) gs) (append_assoc gates all.more (record { place = choice.place; pins = all.pins } ∷ []))))));
    writes = written_gate (tree_at vs n) (length gates) choice.cost choice.place (trees_of vs choice.pins) all.pins all.more given all.writes;
    area = whole given.stands;
  }
    where
      last : CoverGate
      last = record { place = choice.place; pins = all.pins }

      whole : Stands library (tree_at vs n) choice.cost choice.place (trees_of vs choice.pins) → area_of library (all.more ++ last ∷ []) ≡ choice.cost
      whole stands =
          let own : area_at library choice.place ≡ stands.tile.area = ap (λ (o : Option Tile). option_map_or (λ (tile : Tile). tile.area) o 0) stands.there in
          let others : stands.rest ≡ sum_by (cost_at choices) choice.pins = leasts-one library (trees_of vs choice.pins) stands.rest (sum_by (cost_at choices) choice.pins) stands.cheapest least in
          let none : area_of library [] ≡ 0 = refl in
          omega (arith, all.area, own, others, none, stands.sum, sum_by-append (λ (gate : CoverGate). area_at library gate.place) all.more (last ∷ []), sum_by-cons (λ (gate : CoverGate). area_at library gate.place) last [])

  module _ (arena : IsArena vs) (made : AreMade cmp vs library choices (length vs)) where
    choice_there : (n : ℕ) → n < length vs → slice_get choices n ≡ Some (choice_at choices n)
    choice_there n lt = slice_get-get_or choices n _ (omega (arith, lt, made.count))

    choice_good : (n : ℕ) → n < length vs → IsChoice cmp vs library n (choice_at choices n)
    choice_good n lt = made.made n (choice_at choices n) (choice_there n lt)

    least_there : (n : ℕ) → n < length vs → Least library (tree_at vs n) (cost_at choices n)
    least_there n lt = (choice_good n lt).least

    least_all : (n : ℕ) → n < length vs → (ns : List ℕ) → AllByRecursion (λ m. m < n) ns → LeastOfAll library (trees_of vs ns) (sum_by (cost_at choices) ns)
    unfolding LeastOfAll
    least_all n lt [] below = refl
    least_all n lt (m ∷ ns) below =
        (cost_at choices m, sum_by (cost_at choices) ns, least_there m (omega (arith, lt, below.0)), least_all n lt ns below.1, sum_by-cons (cost_at choices) m ns)

    -- a gate at a vertex that is no leaf
    inner_adds : (d n : ℕ) → n < length vs → n < suc d
        → ((m : ℕ) → m < d → m < length vs → (signals : List Signal) (gates : List CoverGate) → Adds cmp library choices (postorder vs choices d m) (tree_at vs m) (cost_at choices m) signals gates)
        → ((place : ℕ) → tree_at vs n ≡ Leaf place → ⊥)
        → (signals : List Signal) (gates : List CoverGate) → Adds cmp library choices (flat_map (postorder vs choices d) (choice_at choices n).pins ++ put n ∷ []) (tree_at vs n) (choice_at choices n).cost signals gates
    inner_adds d n lt deep each inner signals gates =
        add_gate n (choice_at choices n) (flat_map (postorder vs choices d) (choice_at choices n).pins) refl ((choice_good n lt).given inner)
        (least_all n lt (choice_at choices n).pins (choice_good n lt).below) signals gates
        (adds_all (postorder vs choices d) n (λ m below. each m (omega (arith, below, deep)) (omega (arith, below, lt))) (choice_at choices n).pins (choice_good n lt).below signals gates)

    adds_at : (v : Vertex) (d n : ℕ) → vertex_at vs n ≡ v → n < length vs → n < suc d
        → ((m : ℕ) → m < d → m < length vs → (signals : List Signal) (gates : List CoverGate) → Adds cmp library choices (postorder vs choices d m) (tree_at vs m) (cost_at choices m) signals gates)
        → (signals : List Signal) (gates : List CoverGate) → Adds cmp library choices (events_by v n (flat_map (postorder vs choices d) (choice_at choices n).pins)) (tree_at vs n) (choice_at choices n).cost signals gates
    unfolding after
    adds_at (VertexLeaf place) d n is lt deep each signals gates =
        let leaf : tree_at vs n ≡ Leaf place = arena.reads n lt ∙ ap (built (trees vs)) is in
        record {
          signal = AtLeaf place;
          more = [];
          comes = ap (λ (gs : List CoverGate). progress (signals ++ AtLeaf place ∷ []) gs) (sym (back_nothing gates));
          writes = subst (λ (t : Tree ℕ). IsWritten cmp library t (length gates) (AtLeaf place) []) (sym leaf) (written_leaf place (length gates));
          area = free leaf;
        }
      where
        free : tree_at vs n ≡ Leaf place → area_of library [] ≡ (choice_at choices n).cost
        free leaf =
            let least : Least library (Leaf place) (choice_at choices n).cost = subst (λ (t : Tree ℕ). Least library t (choice_at choices n).cost) leaf (choice_good n lt).least in
            let none : area_of library [] ≡ 0 = refl in
            omega (arith, none, least.least 0 (leaf_cover place))
    adds_at (VertexInv m) d n is lt deep each signals gates =
        inner_adds d n lt deep each (λ place e. let here : Inv (tree_in (trees vs) m) ≡ Leaf place = sym (arena.reads n lt ∙ ap (built (trees vs)) is) ∙ e in cc) signals gates
    adds_at (VertexNand l r) d n is lt deep each signals gates =
        inner_adds d n lt deep each (λ place e. let here : Nand (tree_in (trees vs) l) (tree_in (trees vs) r) ≡ Leaf place = sym (arena.reads n lt ∙ ap (built (trees vs)) is) ∙ e in cc) signals gates

    adds : (d n : ℕ) → n < d → n < length vs → (signals : List Signal) (gates : List CoverGate) → Adds cmp library choices (postorder vs choices d n) (tree_at vs n) (cost_at choices n) signals gates
    unfolding postorder
    adds zero n deep lt signals gates = absurd (omega (arith, deep))
    adds (suc d) n deep lt signals gates = adds_at (vertex_at vs n) d n refl lt deep (adds d) signals gates

    -- the postorder of a root's tree writes its cover
    pub cover_writes : (d n : ℕ) → n < d → n < length vs → (root : Signal) (waiting : List Signal) (gates : List CoverGate) → progress (waiting ++ root ∷ []) gates ≡ after choices (progress [] []) (postorder vs choices d n)
        → IsWritten cmp library (tree_at vs n) 0 root gates × (area_of library gates ≡ cost_at choices n)
    cover_writes d n deep lt root waiting gates is =
        let made : Adds cmp library choices (postorder vs choices d n) (tree_at vs n) (cost_at choices n) [] [] = adds d n deep lt [] [] in
        let same : progress (waiting ++ root ∷ []) gates ≡ progress (made.signal ∷ []) made.more = is ∙ made.comes in
        let signal : root ≡ made.signal = last_is waiting root made.signal (ap (λ (p : Progress). p.signals) same) in
        let all : gates ≡ made.more = ap (λ (p : Progress). p.gates) same in
        (subst (λ (gs : List CoverGate). IsWritten cmp library (tree_at vs n) 0 root gs) (sym all) (subst (λ (s : Signal). IsWritten cmp library (tree_at vs n) 0 s made.more) (sym signal) made.writes), ap (area_of library) all ∙ made.area)

-- the end of the steps, and their beginning
pub all_done : (vs : List Vertex) (choices : List Choice) (d : ℕ) (waiting : List Step) (signals : List Signal) (gates : List CoverGate) (p : Progress) → waiting ≡ []
    → after choices (progress signals gates) (to_come vs choices d waiting) ≡ p → progress signals gates ≡ p
unfolding after to_come
all_done vs choices d waiting signals gates p none same = ap (λ (ws : List Step). after choices (progress signals gates) (to_come vs choices d ws)) (sym none) ∙ same

pub from_root : (vs : List Vertex) (choices : List Choice) (d root : ℕ) (first waiting : List Step) (begun signals : List Signal) (before gates : List CoverGate) → first ≡ [] → waiting ≡ first ++ Visit root ∷ [] → begun ≡ [] → before ≡ []
    → progress signals gates ≡ after choices (progress begun before) (to_come vs choices d waiting) → progress signals gates ≡ after choices (progress [] []) (postorder vs choices d root)
unfolding to_come
from_root vs choices d root first waiting begun signals before gates none wait no_signals no_gates is =
    is
    ∙ (ap (λ (ws : List Step). after choices (progress begun before) (to_come vs choices d ws)) (wait ∙ ap (λ (ws : List Step). ws ++ Visit root ∷ []) none)
    ∙ (ap (λ (xs : List Signal). after choices (progress xs before) (postorder vs choices d root)) no_signals
    ∙ ap (λ (gs : List CoverGate). after choices (progress [] gs) (postorder vs choices d root)) no_gates))

pub some_signal : (vs : List Vertex) (choices : List Choice) (d root : ℕ) (signals : List Signal) (gates : List CoverGate) → root < d → signals ≡ [] → progress signals gates ≡ after choices (progress [] []) (postorder vs choices d root) → ⊥
some_signal vs choices d root signals gates lt none is = root_signal vs choices d root gates lt (ap (λ (xs : List Signal). progress xs gates) (sym none) ∙ is)
