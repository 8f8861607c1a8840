-- A circuit has one netlist by a library.
use Rattle.std.proofs.Common.{◌≡◌, ℕ, zero, suc, ◌+◌, true, false, Some, List, [], ◌∷◌, ◌++◌, map}
use Rattle.std.proofs.Common.{length, sum_by, slice_get, slice_index_or, refl, sym, ap, ◌∙◌, subst}
use Rattle.std.proofs.Common.{inl, inr, arith, length-append}
use Rattle.std.specs.List.{AllByRecursion, AllZip}
use Rattle.std.proofs.Math.Path.{fun_ext}
use Rattle.std.proofs.lemmas.Bool.{cases_lt, false≢true}
use Rattle.std.proofs.lemmas.List.Sums.{sum_by-cons}
use Rattle.std.proofs.lemmas.Option.{same_Some, none-some}
use Rattle.circuit_model.specs.Names.{has}
use Rattle.circuit_model.specs.declared.circuit.Table.{Table}
use Rattle.circuit_model.specs.declared.circuit.Circuit.{Circuit}
use Rattle.circuit_laws.specs.Edits.{with_tables}
use Rattle.net_core.specs.Fresh.{used_names, bracketed}
use Rattle.genlib_expr.specs.Formula.{formula_of}
use Rattle.genlib_format.specs.declared.gate.Gate.{Gate}
use Rattle.subject_tree.specs.Trees.{Tree}
use Rattle.subject_tree.specs.Order.{LeavesBelow}
use Rattle.subject_tree.specs.Arenas.{tree_at}
use Rattle.subject_tree.specs.Tables.{trees_of}
use Rattle.subject_tree.specs.Forest.{AreTrees}
use Rattle.subject_tree.specs.Roots.{AreRoots, named_tree, roots_of, forest_size, IsTooLarge}
use Rattle.subject_tree.specs.declared.arena.Vertex.{Vertex}
use Rattle.subject_tree.specs.declared.forest.Root.{Root}
use Rattle.subject_tree.proofs.RootValues.{roots-named}
use Rattle.pattern_set.specs.Cells.{IsUsedPattern}
use Rattle.pattern_set.specs.declared.cells.PatternGate.{PatternGate}
use Rattle.tree_cover.specs.Covers.{Tile, tile_of, tiles, Least}
use Rattle.tree_cover.specs.Written.{UsesPins}
use Rattle.tree_cover.specs.Listed.{HasPatterns, HavePatterns}
use Rattle.tree_cover.specs.declared.writing.Signal.{Signal}
use Rattle.tree_cover.specs.declared.writing.Signal.TheVariants.{Leaf, Gate as AtGate}
use Rattle.tree_cover.specs.declared.writing.CoverGate.{CoverGate}
use Rattle.tree_cover.proofs.Choosing.{contains_get}
use Rattle.tree_cover.proofs.Open.{get_all, all_gets}
use Rattle.tree_cover.proofs.Valuing.{least-one}
use Rattle.netlist.specs.declared.mapped.Placed.{Placed}
use Rattle.netlist.specs.declared.mapped.TreeFigure.{TreeFigure}
use Rattle.netlist.specs.declared.mapped.Mapped.{Mapped}
use Rattle.map_net.specs.declared.covers.TreeCover.{TreeCover}
use Rattle.map_net.specs.Covering.{Covering, tiles_of, tree_of, IsTaken, AreTaken, IsCovering}
use Rattle.map_net.specs.Naming.{AreNewTo, AreNew}
use Rattle.map_net.specs.Mapping.{tables_left, name_of, placed_as, IsPlacedAs, ArePlacedAs}
use Rattle.map_net.specs.Mapping.{driven_in, IsPlacedCover, ArePlaced, figure_of, figures_of}
use Rattle.map_net.specs.Mapping.{node_count, IsMapped}
use Rattle.map_net.proofs.Renaming.{GoesInto, IsWithin, least_renamed, moved, AreOne, moves_to}
use Rattle.map_net.proofs.Renaming.{one_moved}
use Rattle.map_net.proofs.Alike.{AreAlike}
use Rattle.map_net.proofs.Rewriting.{IsOneSignal, IsOneGate, AreOneCover, zip_length, written_one}

-- gates with the patterns of one library have the same area, pins and patterns
goes_into : (shapes other : List Vertex) (gate : Gate) (made own : PatternGate)
    → HasPatterns shapes gate made → HasPatterns other gate own
    → GoesInto (tile_of shapes made) (tile_of other own)
goes_into shapes other gate made own has beside = record {
  area = has.area ∙ sym beside.area;
  pins = has.pins ∙ sym beside.pins;
  patterns = λ pattern among.
      let (place, at) = contains_get pattern (trees_of shapes made.patterns) among in
      beside.patterns.all pattern (get_all (IsUsedPattern (formula_of gate.expr))
      (trees_of shapes made.patterns) place pattern has.patterns.listed at);
}

tiles_within : (shapes other : List Vertex) (library : List Gate) (made own : List PatternGate)
    → HavePatterns shapes library made → HavePatterns other library own
    → IsWithin (tiles shapes made) (tiles other own)
tiles_within shapes other [] [] own have beside place tile at = absurd (none-some tile at)
tiles_within shapes other [] (m ∷ made) own have beside place tile at = absurd have
tiles_within shapes other (g ∷ library) [] own have beside place tile at = absurd have
tiles_within shapes other (g ∷ library) (m ∷ made) [] have beside place tile at = absurd beside
tiles_within shapes other (g ∷ library) (m ∷ made) (o ∷ own) have beside zero tile at = (
  tile_of other o,
  refl,
  subst (λ (t : Tile). GoesInto t (tile_of other o)) (same_Some (tile_of shapes m) tile at)
      (goes_into shapes other g m o have.0 beside.0),
)
tiles_within shapes other (g ∷ library) (m ∷ made) (o ∷ own) have beside (suc place) tile at =
    tiles_within shapes other library made own have.1 beside.1 place tile at

-- two roots are one: they have the same name and the same tree of names
record IsOneRoot (vertices beside : List Vertex) (names other : List (List ℕ)) (root into : Root)
    : Type 0 where
  name : root.name ≡ into.name
  tree : AreOne names other (tree_at vertices root.number) (tree_at beside into.number)

-- the leaves of the trees of roots are places of names
abbrev AreNamed : List Vertex → List (List ℕ) → List Root → Type 0
AreNamed vertices names roots = AllByRecursion
    (λ (root : Root). LeavesBelow (length names) (tree_at vertices root.number)) roots

module _ (vertices beside : List Vertex) (names other : List (List ℕ)) where
  roots_zip : (roots intos : List Root) → AreNamed vertices names roots
      → AreNamed beside other intos
      → map (λ (root : Root). root.name) roots ≡ map (λ (root : Root). root.name) intos
      → map (λ (root : Root). Some (named_tree vertices names root)) roots
      ≡ map (λ (root : Root). Some (named_tree beside other root)) intos
      → AllZip (IsOneRoot vertices beside names other) roots intos
  roots_zip [] [] below above named same = tt
  roots_zip [] (into ∷ intos) below above named same = absurd (let x : ⊥ = cc in x)
  roots_zip (root ∷ roots) [] below above named same = absurd (let x : ⊥ = cc in x)
  roots_zip (root ∷ roots) (into ∷ intos) below above named same =
      let name : root.name ≡ into.name = cc in
      let names_left : map (λ (r : Root). r.name) roots ≡ map (λ (r : Root). r.name) intos = cc in
      let tree : named_tree vertices names root ≡ named_tree beside other into = cc in
      let trees_left : map (λ (r : Root). Some (named_tree vertices names r)) roots
      ≡ map (λ (r : Root). Some (named_tree beside other r)) intos = cc in (
        record {
          name = name;
          tree = record { below = below.0; beside = above.0; named = tree };
        },
        roots_zip roots intos below.1 above.1 names_left trees_left,
      )

  -- the roots of one circuit are the same
  roots_one : (signal_tree : List ℕ → Tree (List ℕ)) (tables : List Table) (roots intos : List Root)
      → AreRoots vertices names signal_tree tables roots
      → AreRoots beside other signal_tree tables intos
      → AllZip (IsOneRoot vertices beside names other) roots intos
  roots_one signal_tree tables roots intos are into =
      roots_zip roots intos
      (all_gets _ roots (roots-named vertices names signal_tree tables roots are))
      (all_gets _ intos (roots-named beside other signal_tree tables intos into))
      (are.named ∙ sym into.named)
      (are.trees names (λ place name at. at) ∙ sym (into.trees other (λ place name at. at)))

-- two covers are one
record IsOneCover (names other : List (List ℕ)) (cover into : TreeCover) : Type 0 where
  root : IsOneSignal names other cover.root into.root
  gates_are : AllZip (IsOneGate names other) cover.gates into.gates
  cost : cover.cost ≡ into.cost

module _ (c d : Covering) (alike : AreAlike c.names d.names (tiles_of c) (tiles_of d)) where
  taken_one : (t u : Tree ℕ) (cover into : TreeCover) → AreOne c.names d.names t u
      → IsTaken c t cover → IsTaken d u into → IsOneCover c.names d.names cover into
  taken_one t u cover into one taken beside =
      let both : AreOneCover c.names d.names (cover.root ∷ []) (into.root ∷ []) cover.gates
      into.gates = written_one c.names d.names (tiles_of c) (tiles_of d) alike t 0 cover.root
      cover.gates taken.written u 0 into.root into.gates refl one beside.written in
      let least : Least (tiles_of d) u cover.cost =
      subst (λ (v : Tree ℕ). Least (tiles_of d) v cover.cost)
      (moves_to c.names d.names t u alike.beside one.beside one.named)
      (least_renamed (moved c.names d.names) (moved d.names c.names) (tiles_of c) (tiles_of d)
      alike.forth alike.back t cover.cost
      (one_moved c.names d.names t u alike.different alike.beside one).back taken.least) in
      record {
        root = both.signals_are.0;
        gates_are = both.gates_are;
        cost = least-one (tiles_of d) u cover.cost into.cost least beside.least;
      }

  covers_one : (roots intos : List Root) (covers besides : List TreeCover)
      → AllZip (IsOneRoot c.vertices d.vertices c.names d.names) roots intos
      → AreTaken c roots covers → AreTaken d intos besides
      → AllZip (IsOneCover c.names d.names) covers besides
  unfolding AreTaken
  covers_one [] [] covers besides zip taken beside =
      subst (λ (xs : List TreeCover). AllZip (IsOneCover c.names d.names) xs besides) (sym taken)
      (subst (AllZip (IsOneCover c.names d.names) []) (sym beside) tt)
  covers_one [] (into ∷ intos) covers besides zip taken beside = absurd zip
  covers_one (root ∷ roots) [] covers besides zip taken beside = absurd zip
  covers_one (root ∷ roots) (into ∷ intos) [] besides zip taken beside = absurd taken
  covers_one (root ∷ roots) (into ∷ intos) (cover ∷ covers) [] zip taken beside = absurd beside
  covers_one (root ∷ roots) (into ∷ intos) (cover ∷ covers) (own ∷ besides) zip taken beside = (
    taken_one (tree_of c root) (tree_of d into) cover own zip.0.tree taken.0 beside.0,
    covers_one roots intos covers besides zip.1 taken.1 beside.1,
  )

-- the figures of the same covers
figures_one : (vertices beside : List Vertex) (names other : List (List ℕ))
    (roots intos : List Root) (covers besides : List TreeCover)
    → AllZip (IsOneRoot vertices beside names other) roots intos
    → AllZip (IsOneCover names other) covers besides
    → figures_of roots covers ≡ figures_of intos besides
unfolding figures_of
figures_one vertices beside names other [] [] covers besides zip all = refl
figures_one vertices beside names other [] (into ∷ intos) covers besides zip all = absurd zip
figures_one vertices beside names other (root ∷ roots) [] covers besides zip all = absurd zip
figures_one vertices beside names other (root ∷ roots) (into ∷ intos) [] [] zip all = refl
figures_one vertices beside names other (root ∷ roots) (into ∷ intos) [] (own ∷ besides) zip all =
    absurd all
figures_one vertices beside names other (root ∷ roots) (into ∷ intos) (cover ∷ covers) [] zip all =
    absurd all
figures_one vertices beside names other (root ∷ roots) (into ∷ intos) (cover ∷ covers)
    (own ∷ besides) zip all =
    let name = zip.0.name in
    let cost = all.0.cost in
    let count = zip_length (IsOneGate names other) cover.gates own.gates all.0.gates_are in
    let here : figure_of root cover ≡ figure_of into own =
    λ i. record { name = name i; figure = cost i; gates = count i } in
    ap (λ (f : TreeFigure). f ∷ figures_of roots covers) here
    ∙ ap (λ (fs : List TreeFigure). figure_of into own ∷ fs)
    (figures_one vertices beside names other roots intos covers besides zip.1 all.1)

-- how many gates a cover has
abbrev gates_in : TreeCover → ℕ
gates_in cover = length cover.gates

gates_one : (names other : List (List ℕ)) (covers besides : List TreeCover)
    → AllZip (IsOneCover names other) covers besides
    → sum_by gates_in covers ≡ sum_by gates_in besides
gates_one names other [] [] all = refl
gates_one names other [] (own ∷ besides) all = absurd all
gates_one names other (cover ∷ covers) [] all = absurd all
gates_one names other (cover ∷ covers) (own ∷ besides) all =
    let count : gates_in cover ≡ gates_in own =
    zip_length (IsOneGate names other) cover.gates own.gates all.0.gates_are in
    omega (
      arith,
      count,
      sum_by-cons gates_in cover covers,
      sum_by-cons gates_in own besides,
      gates_one names other covers besides all.1,
    )

-- new names, of which there are equally many, are the same
same_new : (used : List (List ℕ)) (start stop end : ℕ) (names other : List (List ℕ))
    → length names ≡ length other → AreNewTo used start names stop → AreNewTo used start other end
    → names ≡ other
unfolding AreNewTo
same_new used start stop end [] [] count new beside = refl
same_new used start stop end [] (o ∷ other) count new beside = absurd (omega (arith, count))
same_new used start stop end (n ∷ names) [] count new beside = absurd (omega (arith, count))
same_new used start stop end (n ∷ names) (o ∷ other) count
    (number, from, fits, is, free, taken, rest)
    (number', from', fits', is', free', taken', rest') =
    ap (λ (name : List ℕ). name ∷ names) (is ∙ (ap bracketed same ∙ sym is'))
    ∙ ap (λ (all : List (List ℕ)). o ∷ all)
    (same_new used (number' + 1) stop end names other (omega (arith, count))
    (subst (λ (k : ℕ). AreNewTo used (k + 1) names stop) same rest) rest')
  where
    same : number ≡ number'
    same = elim (cases_lt number number') as (λ _. number ≡ number') [
      | inl lt ↦ absurd (false≢true (sym free ∙ taken' number from lt))
      | inr le ↦ elim (cases_lt number' number) as (λ _. number ≡ number') [
        | inl lt ↦ absurd (false≢true (sym free' ∙ taken number' from' lt))
        | inr ge ↦ omega (arith, le, ge)
      ]
    ]

new_one_way : (used names other : List (List ℕ)) → length names ≡ length other → AreNew used names
    → AreNew used other → names ≡ other
new_one_way used names other count (stop, new) (end, beside) =
    same_new used 0 stop end names other count new beside

-- each gate that is placed drives one signal
placed_count : (library : List Gate) (named : Signal → List ℕ) (gates : List CoverGate)
    (driven : List (List ℕ)) (placed : List Placed) → ArePlacedAs library named gates driven placed
    → length driven ≡ length gates
unfolding ArePlacedAs
placed_count library named [] driven placed (none, empty) =
    ap (λ (xs : List (List ℕ)). length xs) none
placed_count library named (gate ∷ gates) driven placed
    (output, outputs, first, rest, is, all, one, more) =
    ap (λ (xs : List (List ℕ)). length xs) is
    ∙ ap (λ (n : ℕ). suc n) (placed_count library named gates outputs rest more)

module _ (names other : List (List ℕ)) where
  driven_count : (root into : Signal) (inner own : List (List ℕ)) (name beside : List ℕ)
      → IsOneSignal names other root into
      → length (driven_in root inner name) ≡ length (driven_in into own beside)
      → length inner ≡ length own
  driven_count (Leaf p) (Leaf q) inner own name beside one e = e
  driven_count (Leaf p) (AtGate l) inner own name beside one e = absurd one
  driven_count (AtGate k) (Leaf q) inner own name beside one e = absurd one
  driven_count (AtGate k) (AtGate l) inner own name beside one e =
      let a : length (name ∷ []) ≡ 1 = refl in
      let b : length (beside ∷ []) ≡ 1 = refl in
      omega (arith, e, a, b, length-append inner (name ∷ []), length-append own (beside ∷ []))

  driven_one : (root into : Signal) (inner own : List (List ℕ)) (name beside : List ℕ)
      → IsOneSignal names other root into → inner ≡ own → name ≡ beside
      → driven_in root inner name ≡ driven_in into own beside
  driven_one (Leaf p) (Leaf q) inner own name beside one e f = e
  driven_one (Leaf p) (AtGate l) inner own name beside one e f = absurd one
  driven_one (AtGate k) (Leaf q) inner own name beside one e f = absurd one
  driven_one (AtGate k) (AtGate l) inner own name beside one e f =
      ap (λ (xs : List (List ℕ)). xs ++ name ∷ []) e
      ∙ ap (λ (x : List ℕ). own ++ x ∷ []) f

  name_one : (driven : List (List ℕ)) (signal into : Signal) → IsOneSignal names other signal into
      → name_of names driven signal ≡ name_of other driven into
  name_one driven (Leaf p) (Leaf q) one = one
  name_one driven (Leaf p) (AtGate l) one = absurd one
  name_one driven (AtGate k) (Leaf q) one = absurd one
  name_one driven (AtGate k) (AtGate l) one = ap (λ (n : ℕ). slice_index_or driven n []) one

  signals_one : (driven : List (List ℕ)) (signals intos : List Signal)
      → AllZip (IsOneSignal names other) signals intos
      → map (name_of names driven) signals ≡ map (name_of other driven) intos
  signals_one driven [] [] zip = refl
  signals_one driven [] (t ∷ intos) zip = absurd zip
  signals_one driven (s ∷ signals) [] zip = absurd zip
  signals_one driven (s ∷ signals) (t ∷ intos) zip =
      ap (λ (name : List ℕ). name ∷ map (name_of names driven) signals)
      (name_one driven s t zip.0)
      ∙ ap (λ (all : List (List ℕ)). name_of other driven t ∷ all)
      (signals_one driven signals intos zip.1)

heads_one : (x y : List ℕ) (xs ys : List (List ℕ)) → x ∷ xs ≡ y ∷ ys → x ≡ y
heads_one x y xs ys e = cc

tails_one : (x y : List ℕ) (xs ys : List (List ℕ)) → x ∷ xs ≡ y ∷ ys → xs ≡ ys
tails_one x y xs ys e = cc

parts_one : (xs ys us vs : List (List ℕ)) → length xs ≡ length us → xs ++ ys ≡ us ++ vs
    → (xs ≡ us) × (ys ≡ vs)
parts_one [] ys [] vs count e = (refl, e)
parts_one [] ys (u ∷ us) vs count e = absurd (omega (arith, count))
parts_one (x ∷ xs) ys [] vs count e = absurd (omega (arith, count))
parts_one (x ∷ xs) ys (u ∷ us) vs count e =
    let (front, back) = parts_one xs ys us vs (omega (arith, count)) (tails_one x u _ _ e) in (
      ap (λ (z : List ℕ). z ∷ xs) (heads_one x u _ _ e)
          ∙ ap (λ (zs : List (List ℕ)). u ∷ zs) front,
      back,
    )

-- one gate, placed over signals of the same names
placed_one : (library : List Gate) (named beside : Signal → List ℕ) (gate own : CoverGate)
    (output into : List ℕ) (placed made : Placed) → gate.place ≡ own.place
    → map named gate.pins ≡ map beside own.pins → output ≡ into
    → IsPlacedAs library named gate output placed → IsPlacedAs library beside own into made
    → placed ≡ made
placed_one library named beside gate own output into placed made place pins same (cell, at, is)
    (other, there, are) =
    let one : cell ≡ other =
    same_Some cell other (sym at ∙ (ap (slice_get library) place ∙ there)) in
    is ∙ (ap (λ (g : Gate). placed_as g (map named gate.pins) output) one
    ∙ (ap (λ (names : List (List ℕ)). placed_as other names output) pins
    ∙ (ap (placed_as other (map beside own.pins)) same ∙ sym are)))

module _ (library : List Gate) (names other : List (List ℕ)) where
  -- the gates of one cover
  own_placed : (driven : List (List ℕ)) (gates owns : List CoverGate)
      (outputs intos : List (List ℕ)) (placed made : List Placed)
      → AllZip (IsOneGate names other) gates owns → outputs ≡ intos
      → ArePlacedAs library (name_of names driven) gates outputs placed
      → ArePlacedAs library (name_of other driven) owns intos made → placed ≡ made
  unfolding ArePlacedAs
  own_placed driven [] [] outputs intos placed made zip same (none, empty) (nothing, over) =
      empty ∙ sym over
  own_placed driven [] (own ∷ owns) outputs intos placed made zip same are beside = absurd zip
  own_placed driven (gate ∷ gates) [] outputs intos placed made zip same are beside = absurd zip
  own_placed driven (gate ∷ gates) (own ∷ owns) outputs intos placed made zip same
      (output, more, first, rest, is, all, one, others)
      (output', more', first', rest', is', all', one', others') =
      let e : output ∷ more ≡ output' ∷ more' = sym is ∙ (same ∙ is') in
      let head : first ≡ first' =
      placed_one library (name_of names driven) (name_of other driven) gate own output output'
      first first' zip.0.place
      (signals_one names other driven gate.pins own.pins zip.0.pins)
      (heads_one output output' more more' e) one one' in
      let tail : rest ≡ rest' =
      own_placed driven gates owns more more' rest rest' zip.1
      (tails_one output output' more more' e) others others' in
      all ∙ (ap (λ (p : Placed). p ∷ rest) head ∙ (ap (λ (ps : List Placed). first' ∷ ps) tail
      ∙ sym all'))

  inner_count : (root into : Root) (cover beside : TreeCover) (inner own : List (List ℕ))
      (placed made : List Placed) → IsOneCover names other cover beside
      → IsPlacedCover library names root.name cover inner placed
      → IsPlacedCover library other into.name beside own made → length inner ≡ length own
  inner_count root into cover beside inner own placed made one is are =
      driven_count names other cover.root beside.root inner own root.name into.name one.root
      (placed_count library _ cover.gates _ placed is
      ∙ (zip_length (IsOneGate names other) cover.gates beside.gates one.gates_are
      ∙ sym (placed_count library _ beside.gates _ made are)))

  cover_placed : (root into : Root) (cover beside : TreeCover) (inner own : List (List ℕ))
      (placed made : List Placed) → root.name ≡ into.name → IsOneCover names other cover beside
      → inner ≡ own → IsPlacedCover library names root.name cover inner placed
      → IsPlacedCover library other into.name beside own made → placed ≡ made
  cover_placed root into cover beside inner own placed made name one same is are =
      let driven : driven_in cover.root inner root.name ≡ driven_in beside.root own into.name =
      driven_one names other cover.root beside.root inner own root.name into.name one.root same
      name in
      own_placed (driven_in beside.root own into.name) cover.gates beside.gates
      (driven_in beside.root own into.name) (driven_in beside.root own into.name) placed made
      one.gates_are refl
      (subst (λ (ds : List (List ℕ)). ArePlacedAs library (name_of names ds) cover.gates ds placed)
      driven is) are

  module _ (vertices beside : List Vertex) where
    -- there are as many new names
    fresh_count : (roots intos : List Root) (covers owns : List TreeCover)
        (fresh new : List (List ℕ)) (placed made : List Placed)
        → AllZip (IsOneRoot vertices beside names other) roots intos
        → AllZip (IsOneCover names other) covers owns
        → ArePlaced library names roots covers fresh placed
        → ArePlaced library other intos owns new made → length fresh ≡ length new
    unfolding ArePlaced
    fresh_count [] [] covers owns fresh new placed made zip all (e, none, f) (g, nothing, h) =
        ap (λ (xs : List (List ℕ)). length xs) (none ∙ sym nothing)
    fresh_count [] (into ∷ intos) covers owns fresh new placed made zip all are into_are =
        absurd zip
    fresh_count (root ∷ roots) [] covers owns fresh new placed made zip all are into_are =
        absurd zip
    fresh_count (root ∷ roots) (into ∷ intos) [] owns fresh new placed made zip all are into_are =
        absurd are
    fresh_count (root ∷ roots) (into ∷ intos) (cover ∷ covers) [] fresh new placed made zip all are
        into_are = absurd into_are
    fresh_count (root ∷ roots) (into ∷ intos) (cover ∷ covers) (own ∷ owns) fresh new placed made
        zip all (inner, others, mine, rest, e, f, is, more)
        (inner', others', mine', rest', e', f', is', more') =
        let here : length inner ≡ length inner' =
        inner_count root into cover own inner inner' mine mine' all.0 is is' in
        let behind : length others ≡ length others' =
        fresh_count roots intos covers owns others others' rest rest' zip.1 all.1 more more' in
        let one : length fresh ≡ length (inner ++ others) =
        ap (λ (xs : List (List ℕ)). length xs) e in
        let two : length new ≡ length (inner' ++ others') =
        ap (λ (xs : List (List ℕ)). length xs) e' in
        omega (
          arith,
          here,
          behind,
          one,
          two,
          length-append inner others,
          length-append inner' others',
        )

    -- over the same new names, the same gates are placed
    all_placed : (roots intos : List Root) (covers owns : List TreeCover)
        (fresh new : List (List ℕ)) (placed made : List Placed)
        → AllZip (IsOneRoot vertices beside names other) roots intos
        → AllZip (IsOneCover names other) covers owns → fresh ≡ new
        → ArePlaced library names roots covers fresh placed
        → ArePlaced library other intos owns new made → placed ≡ made
    unfolding ArePlaced
    all_placed [] [] covers owns fresh new placed made zip all same (e, none, f) (g, nothing, h) =
        f ∙ sym h
    all_placed [] (into ∷ intos) covers owns fresh new placed made zip all same are into_are =
        absurd zip
    all_placed (root ∷ roots) [] covers owns fresh new placed made zip all same are into_are =
        absurd zip
    all_placed (root ∷ roots) (into ∷ intos) [] owns fresh new placed made zip all same are
        into_are = absurd are
    all_placed (root ∷ roots) (into ∷ intos) (cover ∷ covers) [] fresh new placed made zip all same
        are into_are = absurd into_are
    all_placed (root ∷ roots) (into ∷ intos) (cover ∷ covers) (own ∷ owns) fresh new placed made
        zip all same (inner, others, mine, rest, e, f, is, more)
        (inner', others', mine', rest', e', f', is', more') =
        let (front, back) = parts_one inner others inner' others'
        (inner_count root into cover own inner inner' mine mine' all.0 is is')
        (sym e ∙ (same ∙ e')) in
        let here : mine ≡ mine' =
        cover_placed root into cover own inner inner' mine mine' zip.0.name all.0 front is is' in
        let behind : rest ≡ rest' =
        all_placed roots intos covers owns others others' rest rest' zip.1 all.1 back more more' in
        f ∙ (ap (λ (ps : List Placed). ps ++ rest) here
        ∙ (ap (λ (ps : List Placed). mine' ++ ps) behind ∙ sym f'))

-- a circuit has one choice of the trees of signals, and each pin of a gate of a library stands in
-- each of its patterns
pub record HasOne (circuit : Circuit) (library : List Gate) : Type 0 where
  pub trees : (one other : List ℕ → Tree (List ℕ)) → AreTrees circuit one
      → AreTrees circuit other → (signal : List ℕ) → one signal ≡ other signal
  pub pins : (shapes : List Vertex) (gates : List PatternGate) → HavePatterns shapes library gates
      → UsesPins (tiles shapes gates)

module _ (circuit : Circuit) (library : List Gate) (has_one : HasOne circuit library) where
  same_trees : (one other : List ℕ → Tree (List ℕ)) → AreTrees circuit one
      → AreTrees circuit other → one ≡ other
  same_trees one other are into = fun_ext (has_one.trees one other are into)

  -- what two coverings have in common
  record AreOneCovering (c d : Covering) : Type 0 where
    tree : c.signal_tree ≡ d.signal_tree
    roots_are : AllZip (IsOneRoot c.vertices d.vertices c.names d.names) c.roots d.roots
    covers_are : AllZip (IsOneCover c.names d.names) c.covers d.covers

  coverings_one : (c d : Covering) → IsCovering circuit library c → IsCovering circuit library d
      → AreOneCovering c d
  coverings_one c d is are =
      let tree : c.signal_tree ≡ d.signal_tree =
      same_trees c.signal_tree d.signal_tree is.signals are.signals in
      let alike : AreAlike c.names d.names (tiles_of c) (tiles_of d) = record {
        different = is.once;
        beside = are.once;
        uses = has_one.pins c.shapes c.gates is.patterns;
        used = has_one.pins d.shapes d.gates are.patterns;
        forth = tiles_within c.shapes d.shapes library c.gates d.gates is.patterns are.patterns;
        back = tiles_within d.shapes c.shapes library d.gates c.gates are.patterns is.patterns;
      } in
      let roots : AllZip (IsOneRoot c.vertices d.vertices c.names d.names) c.roots d.roots =
      roots_one c.vertices d.vertices c.names d.names d.signal_tree (roots_of circuit) c.roots
      d.roots
      (subst (λ (f : List ℕ → Tree (List ℕ)). AreRoots c.vertices c.names f (roots_of circuit)
      c.roots) tree is.roots) are.roots in
      record {
        tree = tree;
        roots_are = roots;
        covers_are = covers_one c d alike c.roots d.roots c.covers d.covers roots is.covers
            are.covers;
      }

  -- two coverings have as many nodes
  pub nodes_one : (c d : Covering) → IsCovering circuit library c → IsCovering circuit library d
      → node_count circuit c ≡ node_count circuit d
  nodes_one c d is are =
      let one : AreOneCovering c d = coverings_one c d is are in
      let left : length (tables_left circuit c.signal_tree)
      ≡ length (tables_left circuit d.signal_tree) =
      ap (λ (f : List ℕ → Tree (List ℕ)). length (tables_left circuit f)) one.tree in
      let gates : sum_by gates_in c.covers ≡ sum_by gates_in d.covers =
      gates_one c.names d.names c.covers d.covers one.covers_are in
      omega (arith, left, gates)

  -- a circuit that has a covering is not too large
  pub not_too_large : (c : Covering) → IsCovering circuit library c → IsTooLarge circuit → ⊥
  not_too_large c is (tree, are, large) =
      let same : forest_size circuit c.signal_tree ≡ forest_size circuit tree =
      ap (forest_size circuit) (same_trees c.signal_tree tree is.signals are) in
      omega (arith, large, same, is.small)

  pub netlists_one : (mapped other : Mapped) → IsMapped circuit library mapped
      → IsMapped circuit library other → mapped ≡ other
  netlists_one mapped other m o =
      let c = m.covering in
      let d = o.covering in
      let one : AreOneCovering c d = coverings_one c d m.covered o.covered in
      let base : mapped.base ≡ other.base =
      m.base
      ∙ (ap (λ (f : List ℕ → Tree (List ℕ)). with_tables circuit (tables_left circuit f)) one.tree
      ∙ sym o.base) in
      let fresh : m.fresh ≡ o.fresh =
      new_one_way (used_names circuit) m.fresh o.fresh
      (fresh_count library c.names d.names c.vertices d.vertices c.roots d.roots c.covers d.covers
      m.fresh o.fresh mapped.gates other.gates one.roots_are one.covers_are m.gates o.gates) m.new
      o.new in
      let gates : mapped.gates ≡ other.gates =
      all_placed library c.names d.names c.vertices d.vertices c.roots d.roots c.covers d.covers
      m.fresh o.fresh mapped.gates other.gates one.roots_are one.covers_are fresh m.gates o.gates in
      let trees : mapped.trees ≡ other.trees =
      m.figures
      ∙ (figures_one c.vertices d.vertices c.names d.names c.roots d.roots c.covers d.covers
      one.roots_are one.covers_are ∙ sym o.figures) in
      λ i. record { base = base i; gates = gates i; trees = trees i }
