-- Covers that are taken, one after the other, and how many gates they have.
use Rattle.std.proofs.Common.{◌≡◌, ℕ, ◌+◌, ◌<◌, List, [], ◌∷◌, ◌++◌, length, take}
use Rattle.std.proofs.Common.{get_or, sum_by, refl, sym, ap, subst, ◌∙◌, arith}
use Rattle.std.specs.declared.cmp.Ordering.{Ordering}
use Rattle.std.proofs.lemmas.List.{take_more}
use Rattle.std.proofs.lemmas.Option.{slice_get-get_or}
use Rattle.std.proofs.lemmas.List.Sums.{sum_by_more}
use Rattle.subject_tree.specs.Arenas.{tree_at}
use Rattle.subject_tree.specs.Sizes.{word_count}
use Rattle.subject_tree.specs.declared.arena.Vertex.{Vertex}
use Rattle.subject_tree.specs.Order.{tree_cmp, place_cmp}
use Rattle.subject_tree.specs.declared.forest.Root.{Root}
use Rattle.subject_tree.specs.declared.forest.Forest.{Forest}
use Rattle.pattern_set.specs.declared.cells.PatternGate.{PatternGate}
use Rattle.pattern_set.specs.declared.cells.Patterns.{Patterns}
use Rattle.subject_tree.specs.Trees.{Tree}
use Rattle.tree_cover.specs.Covers.{Tile, tiles, Least}
use Rattle.tree_cover.specs.Candidates.{AreMade, choice_at, cost_at}
use Rattle.tree_cover.specs.declared.choice.Choice.{Choice}
use Rattle.map_net.specs.declared.covers.TreeCover.{TreeCover}
use Rattle.map_net.specs.Covering.{Covering, tree_of, IsTaken, AreTaken}
use Rattle.map_net.specs.Choosing.{IsChosen}
use Rattle.map_net.specs.Parts.{IsOver}

-- no cover is taken where there is no root
pub taken_none : (covering : Covering) (covers : List TreeCover) → covers ≡ []
    → AreTaken covering [] covers
unfolding AreTaken
taken_none covering covers none = none

pub taken_more : (covering : Covering) (roots : List Root) (covers : List TreeCover) (root : Root)
    (cover : TreeCover) → AreTaken covering roots covers
    → IsTaken covering (tree_of covering root) cover
    → AreTaken covering (roots ++ root ∷ []) (covers ++ cover ∷ [])
unfolding AreTaken
taken_more covering [] [] root cover taken last = (last, refl)
taken_more covering [] (first ∷ covers) root cover taken last = absurd (let off = taken in cc)
taken_more covering (first ∷ roots) [] root cover taken last = absurd taken
taken_more covering (first ∷ roots) (one ∷ covers) root cover taken last =
    (taken.0, taken_more covering roots covers root cover taken.1 last)

-- covers that are taken, root by root
pub taken_next : (covering : Covering) (roots : List Root) (covers after : List TreeCover) (k : ℕ)
    (root : Root) (cover : TreeCover) → k < length roots → root ≡ get_or roots k root
    → after ≡ covers ++ cover ∷ [] → AreTaken covering (take k roots) covers
    → IsTaken covering (tree_of covering root) cover
    → AreTaken covering (take (k + 1) roots) after
taken_next covering roots covers after k root cover lt is put before last =
    let next : take (k + 1) roots ≡ take k roots ++ root ∷ [] = take_more roots k root lt
    ∙ ap (λ (r : Root). take k roots ++ r ∷ []) (sym is) in
    subst (λ (rs : List Root). AreTaken covering rs after) (sym next)
    (subst (AreTaken covering (take k roots ++ root ∷ [])) (sym put)
    (taken_more covering (take k roots) covers root cover before last))

-- the cost of the choice at a number is the least
pub least_at : (cmp : Tree ℕ → Tree ℕ
    → Ordering) (vertices : List Vertex) (library : List Tile) (choices : List Choice) (n root : ℕ)
    → AreMade cmp vertices library choices n → root < n
    → Least library (tree_at vertices root) (cost_at choices root)
least_at cmp vertices library choices n root made below =
    let within : root < length choices = omega (arith, made.count, below) in
    (made.made root (choice_at choices root) (slice_get-get_or choices root (record {
      cost = 0;
      place = 0;
      pins = [];
    }) within)).least

-- there are as many covers as roots
pub taken_count : (covering : Covering) (roots : List Root) (covers : List TreeCover)
    → AreTaken covering roots covers → length roots ≡ length covers
unfolding AreTaken
taken_count covering [] covers taken = sym (ap (λ (xs : List TreeCover). length xs) taken)
taken_count covering (root ∷ roots) [] taken = absurd taken
taken_count covering (root ∷ roots) (cover ∷ covers) taken = let counts = taken_count covering roots
    covers taken.1 in omega (arith, counts)

-- a sum of counts as a word, one item after the other
pub count_more : {A : Type 0} (f : A → ℕ) (items : List A) (k : ℕ) (item : A) (count total : ℕ)
    → k < length items → item ≡ get_or items k item → count ≡ f item
    → total ≡ word_count (sum_by f (take k items))
    → word_count (total + count) ≡ word_count (sum_by f (take (k + 1) items))
count_more f items k item count total lt is here before =
    let same : count ≡ f (get_or items k item) = here ∙ ap f is in
    omega (arith, before, same, sum_by_more f items k item lt)

-- the covers that choices make are those that are taken in a covering over them
pub taken_over : (forest : Forest) (patterns : Patterns) (choices : List Choice) (roots : List Root)
    (covers : List TreeCover)
    → AreMade (tree_cmp (place_cmp forest.leaves)) forest.arena
    (tiles patterns.arena patterns.gates) choices (length forest.arena)
    → roots ≡ forest.roots.items
    → ((covering : Covering) → IsChosen covering forest.arena choices
    → AreTaken covering roots covers)
    → (covering : Covering) → IsOver covering forest patterns
    → AreTaken covering forest.roots.items covers
taken_over forest patterns choices roots covers made same taken covering over =
    subst (λ (rs : List Root). AreTaken covering rs covers) same
    (taken covering (record { vertices_are = over.vertices; made = chosen }))
  where
    chosen : AreMade (tree_cmp (place_cmp covering.names)) forest.arena
        (tiles covering.shapes covering.gates) choices (length forest.arena)
    chosen =
        subst
        (λ (names : List (List ℕ)). AreMade (tree_cmp (place_cmp names)) forest.arena
        (tiles covering.shapes covering.gates) choices (length forest.arena)) (sym over.names)
        (subst
        (λ (shapes : List Vertex). AreMade (tree_cmp (place_cmp forest.leaves)) forest.arena
        (tiles shapes covering.gates) choices (length forest.arena)) (sym over.shapes)
        (subst
        (λ (gates : List PatternGate). AreMade (tree_cmp (place_cmp forest.leaves)) forest.arena
        (tiles patterns.arena gates) choices (length forest.arena)) (sym over.gates) made))
