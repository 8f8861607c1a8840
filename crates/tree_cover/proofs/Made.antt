-- The best choice at a vertex is the one that is taken, and costs the least.
use Rattle.std.proofs.Common.{◌≡◌, ℕ, ◌+◌, ◌*◌, ◌^◌, ◌<◌, ◌≤◌, Some, List, [], ◌∷◌, ◌++◌, length, slice_get, Greater, refl, sym, ap, ◌∙◌, subst, inl, inr, ◌↔◌, arith, length-append}
use Rattle.std.specs.List.{AllByRecursion}
use Rattle.std.specs.declared.cmp.Ordering.{Ordering}
use Rattle.std.proofs.lemmas.Option.{slice_get_within, get_or_from_slice_get}
use Rattle.subject_tree.specs.Trees.{Tree, Leaf, Inv, Nand, size_of}
use Rattle.subject_tree.specs.Arenas.{trees, tree_at, built, vertex_at, IsOver, IsArena}
use Rattle.subject_tree.specs.Tables.{trees_of}
use Rattle.subject_tree.specs.declared.arena.Vertex.{Vertex}
use Rattle.subject_tree.specs.declared.arena.Vertex.TheVariants.{Leaf as AtLeaf, Inv as AtInv, Nand as AtNand}
use Rattle.subject_tree.proofs.Arenas.{reads_all, over_all}
use Rattle.pattern_set.specs.Values.{HasLeaf}
use Rattle.pattern_set.specs.Cells.{is_inverter, is_nand}
use Rattle.pattern_set.specs.declared.cells.PatternGate.{PatternGate}
use Rattle.tree_cover.specs.declared.choice.Choice.{Choice}
use Rattle.tree_cover.specs.Covers.{Tile, tile_of, tiles, Cover, leaf_cover, Least, LeastOfAll, Stands, IsGiven, choice_cmp}
use Rattle.tree_cover.specs.Candidates.{order_of, BestOf, Below, FromGates, IsUsable, IsLibrary, IsSmall, IsChoice, AreMade, cost_at}
use Rattle.tree_cover.proofs.Choosing.{contains_get, given-least, at_most}
use Rattle.tree_cover.proofs.Growing.{told}
use Rattle.tree_cover.proofs.Open.{get_map, get_some, get_all, all_gets, pushed_at}
use Rattle.tree_cover.proofs.Reaching.{Lists, some_lists, inverter_fits, nand_fits}
use Rattle.tree_cover.proofs.Standing.{stands_from, from_stands, have_least}

leaves_of : (test : Tree ℕ → _) (shapes : List Vertex) (gates : List PatternGate) (l : Lists test shapes gates) → AllByRecursion (IsUsable shapes) gates → (pin : ℕ) → HasLeaf pin l.pattern ↔ (pin < l.gate.pins)
leaves_of test shapes gates l usable =
    let (k, at) = contains_get l.pattern (trees_of shapes l.gate.patterns) l.listed in
    get_all (λ (p : Tree ℕ). (pin : ℕ) → HasLeaf pin p ↔ (pin < l.gate.pins)) (trees_of shapes l.gate.patterns) k l.pattern (get_all (IsUsable shapes) gates l.place l.gate usable l.there).leaves at

-- a choice that stands, and that costs little
abbrev Cheap : List Tile → Tree ℕ → Type 0
Cheap library t = (d : ℕ) × (q : ℕ) × (us : List (Tree ℕ)) × Stands library t d q us × (d ≤ 2 ^ 50 * size_of t)

module _ (cmp : Tree ℕ → Tree ℕ → Ordering) (vs shapes : List Vertex) (gates : List PatternGate) (choices : List Choice) (n : ℕ) (arena : IsArena vs) (lt : n < length vs) (library : IsLibrary shapes gates)
    (before : AreMade cmp vs (tiles shapes gates) choices n) where
  cost_of : (m : ℕ) → m < n → (x : Choice) × IsChoice cmp vs (tiles shapes gates) m x × (cost_at choices m ≡ x.cost)
  cost_of m below =
      let (x, at) = get_some choices m (omega (arith, below, before.count)) in
      (x, before.made m x at, ap (λ (c : Choice). c.cost) (get_or_from_slice_get choices m x (record { cost = 0; place = 0; pins = [] }) at))

  table : (m : ℕ) → m < n → Least (tiles shapes gates) (tree_at vs m) (cost_at choices m)
  table m below = let (x, is, e) = cost_of m below in subst (Least (tiles shapes gates) (tree_at vs m)) (sym e) is.least

  small_at : (m : ℕ) → m < n → cost_at choices m ≤ 2 ^ 50 * size_of (tree_at vs m)
  small_at m below = let (x, is, e) = cost_of m below in subst (λ (c : ℕ). c ≤ 2 ^ 50 * size_of (tree_at vs m)) (sym e) is.small

  cheap_inverter : (m : ℕ) → m < n → Cheap (tiles shapes gates) (Inv (tree_at vs m))
  unfolding LeastOfAll size_of
  cheap_inverter m below =
      let l : Lists is_inverter shapes gates = some_lists is_inverter shapes gates library.inverter in
      let area : l.gate.area < 2 ^ 50 = (get_all (IsUsable shapes) gates l.place l.gate library.usable l.there).area in
      let small : cost_at choices m ≤ 2 ^ 50 * size_of (tree_at vs m) = small_at m below in (
        l.gate.area + (cost_at choices m + 0),
        l.place,
        tree_at vs m ∷ [],
        record {
          tile = tile_of shapes l.gate;
          there = get_map (tile_of shapes) gates l.place l.gate l.there;
          fits = inverter_fits shapes gates l (tree_at vs m) (leaves_of is_inverter shapes gates l library.usable);
          rest = cost_at choices m + 0;
          cheapest = (cost_at choices m, 0, table m below, refl, refl);
          sum = refl;
        },
        omega (arith, area, small),
      )

  cheap_nand : (m k : ℕ) → m < n → k < n → Cheap (tiles shapes gates) (Nand (tree_at vs m) (tree_at vs k))
  unfolding LeastOfAll size_of
  cheap_nand m k first second =
      let l : Lists is_nand shapes gates = some_lists is_nand shapes gates library.nand in
      let area : l.gate.area < 2 ^ 50 = (get_all (IsUsable shapes) gates l.place l.gate library.usable l.there).area in
      let one : cost_at choices m ≤ 2 ^ 50 * size_of (tree_at vs m) = small_at m first in
      let other : cost_at choices k ≤ 2 ^ 50 * size_of (tree_at vs k) = small_at k second in (
        l.gate.area + (cost_at choices m + (cost_at choices k + 0)),
        l.place,
        tree_at vs m ∷ tree_at vs k ∷ [],
        record {
          tile = tile_of shapes l.gate;
          there = get_map (tile_of shapes) gates l.place l.gate l.there;
          fits = nand_fits shapes gates l (tree_at vs m) (tree_at vs k) (leaves_of is_nand shapes gates l library.usable);
          rest = cost_at choices m + (cost_at choices k + 0);
          cheapest = (cost_at choices m, cost_at choices k + 0, table m first, (cost_at choices k, 0, table k second, refl, refl), refl);
          sum = refl;
        },
        omega (arith, area, one, other),
      )

  cheap : ((place : ℕ) → tree_at vs n ≡ Leaf place → ⊥) → Cheap (tiles shapes gates) (tree_at vs n)
  cheap inner = subst (Cheap (tiles shapes gates)) (sym (reads_all vs arena n)) (by_vertex (vertex_at vs n) (over_all vs arena n).0 (λ place e. inner place (reads_all vs arena n ∙ ap (built (trees vs)) e)))
    where
      by_vertex : (v : Vertex) → IsOver n v → ((place : ℕ) → v ≡ AtLeaf place → ⊥) → Cheap (tiles shapes gates) (built (trees vs) v)
      by_vertex (AtLeaf place) over inner = absurd (inner place refl)
      by_vertex (AtInv m) over inner = cheap_inverter m over
      by_vertex (AtNand m k) over inner = cheap_nand m k over.0 over.1

  abbrev pub Open : Choice → Type 0
  Open c = Below (length gates) (FromGates vs shapes choices gates n) c

  stands : (c : Choice) → Open c → Stands (tiles shapes gates) (tree_at vs n) c.cost c.place (trees_of vs c.pins) × AllByRecursion (λ m. m < n) c.pins
  stands c (place, place_lt, from) = stands_from vs shapes gates choices n arena lt library.usable table place c from

  pub some_open : ((place : ℕ) → tree_at vs n ≡ Leaf place → ⊥) → (c : Choice) × Open c
  some_open inner =
      let (d, q, us, s, le) = cheap inner in
      let (ns, e, from) = from_stands vs shapes gates choices n arena lt library.usable table d q us s in
      (record { cost = d; place = q; pins = ns }, from)

  pub choice_made : (best : _) (x : Choice) → ((place : ℕ) → tree_at vs n ≡ Leaf place → ⊥) → BestOf (order_of cmp vs) Open best → best ≡ Some x → IsChoice cmp vs (tiles shapes gates) n x
  choice_made best x inner is e = record { least = least; given = λ u. given; below = (stands x (is.among x e)).1; small = small }
    where
      given : IsGiven cmp (tiles shapes gates) (tree_at vs n) x.cost x.place (trees_of vs x.pins)
      given = record {
        stands = (stands x (is.among x e)).0;
        first = λ d q us s.
            let (ns, same, from) = from_stands vs shapes gates choices n arena lt library.usable table d q us s in
            subst (λ (ts : List (Tree ℕ)). choice_cmp cmp x.cost x.place (trees_of vs x.pins) d q ts ≡ Greater → ⊥) same (is.first x (record { cost = d; place = q; pins = ns }) e from);
      }

      least : Least (tiles shapes gates) (tree_at vs n) x.cost
      least = given-least cmp (tiles shapes gates) (tree_at vs n) x.cost x.place (trees_of vs x.pins) inner (have_least vs shapes gates choices n arena lt library.usable table) given

      small : x.cost ≤ 2 ^ 50 * size_of (tree_at vs n)
      small =
          let (d, q, us, s, le) = cheap inner in
          let c : x.cost ≤ d = at_most x.cost d _ (given.first d q us s) in
          omega (arith, c, le)

-- the tree of a vertex that is no leaf
pub no_leaf : (vs : List Vertex) (n : ℕ) (v : Vertex) → IsArena vs → v ≡ vertex_at vs n → ((place : ℕ) → v ≡ AtLeaf place → ⊥) → (place : ℕ) → tree_at vs n ≡ Leaf place → ⊥
no_leaf vs n v arena e inner place leaf = by_vertex v inner (sym (told vs n v v arena e refl) ∙ leaf)
  where
    by_vertex : (x : Vertex) → ((place : ℕ) → x ≡ AtLeaf place → ⊥) → built (trees vs) x ≡ Leaf place → ⊥
    by_vertex (AtLeaf at) none is = none at refl
    by_vertex (AtInv m) none is = cc
    by_vertex (AtNand m k) none is = cc

-- a leaf costs nothing
pub leaf_made : (cmp : Tree ℕ → Tree ℕ → Ordering) (vs : List Vertex) (library : List Tile) (n place : ℕ) (x : Choice) → tree_at vs n ≡ Leaf place → x.cost ≡ 0 → x.pins ≡ [] → IsChoice cmp vs library n x
leaf_made cmp vs library n place x e cost pins = record {
  least = record {
    cover = subst (λ (c : ℕ). Cover library (tree_at vs n) c) (sym cost) (subst (λ (t : Tree ℕ). Cover library t 0) (sym e) (leaf_cover place));
    least = λ other c. omega (arith, cost);
  };
  given = λ inner. absurd (inner place e);
  below = subst (AllByRecursion (λ m. m < n)) (sym pins) tt;
  small = omega (arith, cost);
}

-- where trees have at most 2^20 vertices, the choices cost little
pub all_small : (cmp : Tree ℕ → Tree ℕ → Ordering) (vs : List Vertex) (library : List Tile) (choices slice : List Choice) (n : ℕ) → slice ≡ choices → n ≤ length vs → ((m : ℕ) → m < length vs → size_of (tree_at vs m) ≤ 2 ^ 20)
    → AreMade cmp vs library choices n → AllByRecursion IsSmall slice
all_small cmp vs library choices slice n same le sizes are =
    subst (AllByRecursion IsSmall) (sym same)
    (all_gets IsSmall choices (λ m x at.
    let size : size_of (tree_at vs m) ≤ 2 ^ 20 = sizes m (omega (arith, slice_get_within choices m x at, are.count, le)) in
    omega (arith, (are.made m x at).small, size)))

-- one vertex more
pub made_more : (cmp : Tree ℕ → Tree ℕ → Ordering) (vs : List Vertex) (library : List Tile) (choices pushed : List Choice) (n : ℕ) (x : Choice) → AreMade cmp vs library choices n → IsChoice cmp vs library n x → pushed ≡ choices ++ x ∷ []
    → AreMade cmp vs library pushed (n + 1)
made_more cmp vs library choices pushed n x are is e =
    subst (λ (cs : List Choice). AreMade cmp vs library cs (n + 1)) (sym e) (record { count = omega (arith, length-append choices (x ∷ []), are.count); made = made })
  where
    made : (m : ℕ) (y : Choice) → slice_get (choices ++ x ∷ []) m ≡ Some y → IsChoice cmp vs library m y
    made m y at = elim (pushed_at choices x m y at) as (λ _. IsChoice cmp vs library m y) [
      | inl old ↦ are.made m y old
      | inr (e, f) ↦ subst (λ (k : ℕ). IsChoice cmp vs library k y) (sym (e ∙ are.count)) (subst (λ (z : Choice). IsChoice cmp vs library n z) f is)
    ]
