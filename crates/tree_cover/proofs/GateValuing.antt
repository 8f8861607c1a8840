-- Values and wires of the gates of a cover.
use Rattle.std.proofs.Common.{◌≡◌, ℕ, zero, suc, ◌+◌, ◌<◌, ◌≤◌, Bool, Some, List, [], ◌∷◌, ◌++◌, length, slice_get, refl, sym, ap, ◌∙◌, subst, inl, inr, ◌⊎◌, ◌↔◌, arith}
use Rattle.std.specs.List.{AllByRecursion, Contains}
use Rattle.std.specs.declared.cmp.Ordering.{Ordering}
use Rattle.std.proofs.lemmas.List.{length-append}
use Rattle.std.proofs.Math.Path.{fun_ext}
use Rattle.std.proofs.lemmas.Option.{same_Some, none-some, slice_get_within}
use Rattle.subject_tree.specs.Trees.{Tree, Leaf, Inv, Nand, value_at}
use Rattle.subject_tree.specs.Arenas.{tree_in}
use Rattle.subject_tree.specs.Tables.{trees_of}
use Rattle.subject_tree.specs.declared.arena.Vertex.{Vertex}
use Rattle.genlib_expr.specs.Formula.{Formula, formula_of}
use Rattle.genlib_expr.specs.Values.{formula_value}
use Rattle.pattern_set.specs.Values.{HasLeaf}
use Rattle.pattern_set.specs.Cells.{IsUsedPattern, AreGatesOf}
use Rattle.pattern_set.specs.declared.cells.Cell.{Cell}
use Rattle.pattern_set.specs.declared.cells.PatternGate.{PatternGate}
use Rattle.tree_cover.specs.Covers.{Tile, tile_of, tiles, Matches, Fits, IsGiven}
use Rattle.tree_cover.specs.Candidates.{IsUsable}
use Rattle.tree_cover.proofs.Valuing.{gate-value}
use Rattle.tree_cover.proofs.Choosing.{contains_get}
use Rattle.tree_cover.proofs.Open.{get_all}
use Rattle.tree_cover.specs.declared.writing.Signal.{Signal}
use Rattle.tree_cover.specs.declared.writing.Signal.TheVariants.{Leaf as AtLeaf, Gate}
use Rattle.tree_cover.specs.declared.writing.CoverGate.{CoverGate}
use Rattle.tree_cover.specs.Written.{IsWritten, written_leaf, written_gate, AreWritten, none_written, more_written, signal_value, signal_at, Obeys, Describes, function_at, UsesPins, StandsBefore, AreWired}

-- places in two lists, one behind the other
get_front : {X : Type 0} (xs ys : List X) (k : ℕ) (x : X) → slice_get xs k ≡ Some x → slice_get (xs ++ ys) k ≡ Some x
get_front [] ys k x e = absurd (none-some x e)
get_front (y ∷ xs) ys zero x e = e
get_front (y ∷ xs) ys (suc k) x e = get_front xs ys k x e

get_back : {X : Type 0} (xs ys : List X) (k : ℕ) (x : X) → slice_get ys k ≡ Some x → slice_get (xs ++ ys) (length xs + k) ≡ Some x
get_back [] ys k x e = ap (slice_get ys) (let same : 0 + k ≡ k = omega arith in same) ∙ e
get_back (y ∷ xs) ys k x e = ap (slice_get (y ∷ xs ++ ys)) (let same : suc (length xs) + k ≡ suc (length xs + k) = omega arith in same) ∙ get_back xs ys k x e

-- a place in two lists is one of the first or one of the second
get_either : {X : Type 0} (xs ys : List X) (k : ℕ) (x : X) → slice_get (xs ++ ys) k ≡ Some x
    → ((k < length xs) × (slice_get xs k ≡ Some x)) ⊎ ((j : ℕ) × (k ≡ length xs + j) × (slice_get ys j ≡ Some x))
get_either [] ys k x e = inr (k, omega arith, e)
get_either (y ∷ xs) ys zero x e = inl (omega arith, e)
get_either (y ∷ xs) ys (suc k) x e = elim (get_either xs ys k x e) [
  | inl (lt, at) ↦ inl (omega (arith, lt), at)
  | inr (j, is, at) ↦ inr (j, omega (arith, is), at)
]

module _ (functions : ℕ → Formula) (value driven : ℕ → Bool) where
  obeys_front : (start : ℕ) (xs ys : List CoverGate) → Obeys functions value driven start (xs ++ ys) → Obeys functions value driven start xs
  obeys_front start xs ys all k gate at = all k gate (get_front xs ys k gate at)

  obeys_back : (start : ℕ) (xs ys : List CoverGate) → Obeys functions value driven start (xs ++ ys) → Obeys functions value driven (start + length xs) ys
  obeys_back start xs ys all k gate at =
      ap driven (let same : start + length xs + k ≡ start + (length xs + k) = omega arith in same) ∙ all (length xs + k) gate (get_back xs ys k gate at)

  -- the values of what pins are bound to are those of their trees
  abbrev AreWorth : List Signal → List (Tree ℕ) → Type 0
  AreWorth pins bound = (pin : ℕ) → signal_value value driven (signal_at pins pin) ≡ value_at value (tree_in bound pin)

  worth_none : AreWorth [] []
  unfolding value_at
  worth_none pin = refl

  worth_more : (signal : Signal) (t : Tree ℕ) (pins : List Signal) (bound : List (Tree ℕ)) → signal_value value driven signal ≡ value_at value t → AreWorth pins bound → AreWorth (signal ∷ pins) (t ∷ bound)
  worth_more signal t pins bound one rest zero = one
  worth_more signal t pins bound one rest (suc pin) = rest pin

  same_formula : (f g : ℕ → Bool) (e : Formula) → ((pin : ℕ) → f pin ≡ g pin) → formula_value f e ≡ formula_value g e
  same_formula f g e same = ap (λ (h : ℕ → Bool). formula_value h e) (fun_ext same)

  module _ (cmp : Tree ℕ → Tree ℕ → Ordering) (library : List Tile) (described : Describes functions library) where
    gate_worth : (t : Tree ℕ) (cost place : ℕ) (bound : List (Tree ℕ)) (pins : List Signal) → IsGiven cmp library t cost place bound → AreWorth pins bound
        → formula_value (λ pin. signal_value value driven (signal_at pins pin)) (functions place) ≡ value_at value t
    gate_worth t cost place bound pins given worth =
        same_formula (λ pin. signal_value value driven (signal_at pins pin)) (λ pin. value_at value (tree_in bound pin)) (functions place) worth
        ∙ gate-value value (functions place) given.stands.fits.pattern t bound
        (described place given.stands.tile given.stands.fits.pattern given.stands.there given.stands.fits.listed) given.stands.fits.matches

    mutual
      unfolding value_at

      pub written-value : (t : Tree ℕ) (start : ℕ) (signal : Signal) (gates : List CoverGate) → IsWritten cmp library t start signal gates → Obeys functions value driven start gates
          → signal_value value driven signal ≡ value_at value t
      written-value u s root gates (written_leaf place start) obeys = refl
      written-value u s root gates (written_gate t start cost place bound pins before given are) obeys =
          obeys (length before) (record { place = place; pins = pins }) (at_last before)
          ∙ gate_worth t cost place bound pins given (all-values bound start pins before are (obeys_front start before (record { place = place; pins = pins } ∷ []) obeys))
        where
          at_last : (xs : List CoverGate) → slice_get (xs ++ record { place = place; pins = pins } ∷ []) (length xs) ≡ Some (record { place = place; pins = pins })
          at_last [] = refl
          at_last (x ∷ xs) = at_last xs

      all-values : (ts : List (Tree ℕ)) (start : ℕ) (pins : List Signal) (gates : List CoverGate) → AreWritten cmp library ts start pins gates → Obeys functions value driven start gates → AreWorth pins ts
      all-values us s signals_of gates (none_written start) obeys = worth_none
      all-values us s signals_of gates (more_written t more start signal signals first rest one others) obeys =
          worth_more signal t signals more (written-value t start signal first one (obeys_front start first rest obeys))
          (all-values more (start + length first) signals rest others (obeys_back start first rest obeys))

-- patterns that gates list are patterns of their cells' functions
pub described : (vertices : List Vertex) (cells : List Cell) (gates : List PatternGate) → AreGatesOf vertices cells gates → Describes (function_at cells) (tiles vertices gates)
described vertices [] [] are place tile pattern at listed = absurd (none-some tile at)
described vertices [] (gate ∷ gates) are place tile pattern at listed = elim are [ ]
described vertices (cell ∷ cells) [] are place tile pattern at listed = elim are [ ]
described vertices (cell ∷ cells) (gate ∷ gates) are zero tile pattern at listed =
    let same : tile_of vertices gate ≡ tile = same_Some (tile_of vertices gate) tile at in
    let mine : Contains (trees_of vertices gate.patterns) pattern = subst (λ (t : Tile). Contains t.patterns pattern) (sym same) listed in
    let (i, here) = contains_get pattern (trees_of vertices gate.patterns) mine in
    (get_all (IsUsedPattern (formula_of cell.expr.now)) (trees_of vertices gate.patterns) i pattern are.0.patterns.listed here).1
described vertices (cell ∷ cells) (gate ∷ gates) are (suc place) tile pattern at listed = described vertices cells gates are.1 place tile pattern at listed

-- leaves of bound trees are leaves of the tree that the gate matches
matched_leaf : (leaf : ℕ) (p t : Tree ℕ) (bound : List (Tree ℕ)) (pin : ℕ) (u : Tree ℕ) → Matches p t bound → HasLeaf pin p → slice_get bound pin ≡ Some u → HasLeaf leaf u → HasLeaf leaf t
unfolding Matches HasLeaf
matched_leaf leaf (Leaf other) t bound pin u h is at has =
    subst (HasLeaf leaf) (same_Some u t (sym at ∙ (ap (slice_get bound) (sym is) ∙ h))) has
matched_leaf leaf (Inv p) (Leaf place) bound pin u h is at has = elim h [ ]
matched_leaf leaf (Inv p) (Inv t) bound pin u h is at has = matched_leaf leaf p t bound pin u h is at has
matched_leaf leaf (Inv p) (Nand t v) bound pin u h is at has = elim h [ ]
matched_leaf leaf (Nand p q) (Leaf place) bound pin u h is at has = elim h [ ]
matched_leaf leaf (Nand p q) (Inv t) bound pin u h is at has = elim h [ ]
matched_leaf leaf (Nand p q) (Nand t v) bound pin u (inl h) (inl is) at has = inl (matched_leaf leaf p t bound pin u h.0 is at has)
matched_leaf leaf (Nand p q) (Nand t v) bound pin u (inl h) (inr is) at has = inr (matched_leaf leaf q v bound pin u h.1 is at has)
matched_leaf leaf (Nand p q) (Nand t v) bound pin u (inr h) (inl is) at has = inr (matched_leaf leaf p v bound pin u h.0 is at has)
matched_leaf leaf (Nand p q) (Nand t v) bound pin u (inr h) (inr is) at has = inl (matched_leaf leaf q t bound pin u h.1 is at has)

stands_more : (leaves : ℕ → Type 0) (a b : ℕ) (signal : Signal) → a ≤ b → StandsBefore leaves a signal → StandsBefore leaves b signal
stands_more leaves a b (AtLeaf place) le h = h
stands_more leaves a b (Gate k) le h = omega (arith, le, h)

all_more : (leaves : ℕ → Type 0) (a b : ℕ) (signals : List Signal) → a ≤ b → AllByRecursion (StandsBefore leaves a) signals → AllByRecursion (StandsBefore leaves b) signals
all_more leaves a b [] le h = tt
all_more leaves a b (signal ∷ signals) le h = (stands_more leaves a b signal le h.0, all_more leaves a b signals le h.1)

-- what is asked of a gate that stands behind so many others
abbrev IsWired : List Tile → (ℕ → Type 0) → ℕ → CoverGate → Type 0
IsWired library leaves bound gate =
    (tile : Tile) × (slice_get library gate.place ≡ Some tile) × (length gate.pins ≡ tile.pins) × AllByRecursion (StandsBefore leaves bound) gate.pins

wired_both : (library : List Tile) (leaves : ℕ → Type 0) (start : ℕ) (xs ys : List CoverGate) → AreWired library leaves start xs → AreWired library leaves (start + length xs) ys → AreWired library leaves start (xs ++ ys)
wired_both library leaves start xs ys first second k gate at = elim (get_either xs ys k gate at) as (λ _. IsWired library leaves (start + k) gate) [
  | inl (lt, here) ↦ first k gate here
  | inr (j, is, here) ↦ subst (λ (n : ℕ). IsWired library leaves n gate) (let same : start + length xs + j ≡ start + k = omega (arith, is) in same) (second j gate here)
]

wired_one : (library : List Tile) (leaves : ℕ → Type 0) (bound : ℕ) (gate : CoverGate) → IsWired library leaves bound gate → AreWired library leaves bound (gate ∷ [])
wired_one library leaves bound gate wired zero other at =
    subst (λ (g : CoverGate). IsWired library leaves (bound + 0) g) (same_Some gate other at) (subst (λ (n : ℕ). IsWired library leaves n gate) (let same : bound ≡ bound + 0 = omega arith in same) wired)
wired_one library leaves bound gate wired (suc k) other at = absurd (none-some other at)

module _ (cmp : Tree ℕ → Tree ℕ → Ordering) (library : List Tile) (uses : UsesPins library) where
  -- leaves of the trees at the pins are leaves of the tree
  inside_bound : (leaves : ℕ → Type 0) (t : Tree ℕ) (cost place : ℕ) (bound : List (Tree ℕ)) → IsGiven cmp library t cost place bound → ((leaf : ℕ) → HasLeaf leaf t → leaves leaf)
      → (pin : ℕ) (u : Tree ℕ) (leaf : ℕ) → slice_get bound pin ≡ Some u → HasLeaf leaf u → leaves leaf
  inside_bound leaves t cost place bound given inside pin u leaf at has =
      let fits : Fits given.stands.tile t bound = given.stands.fits in
      inside leaf (matched_leaf leaf fits.pattern t bound pin u fits.matches
      (uses place given.stands.tile fits.pattern pin given.stands.there fits.listed (omega (arith, fits.pins, slice_get_within bound pin u at))) at has)

  mutual
    unfolding HasLeaf

    pub written-wired : (leaves : ℕ → Type 0) (t : Tree ℕ) (start : ℕ) (signal : Signal) (gates : List CoverGate) → IsWritten cmp library t start signal gates → ((leaf : ℕ) → HasLeaf leaf t → leaves leaf)
        → AreWired library leaves start gates × StandsBefore leaves (start + length gates) signal
    written-wired leaves u s root gates (written_leaf place start) inside = (λ k gate at. absurd (none-some gate at), inside place refl)
    written-wired leaves u s root gates (written_gate t start cost place bound pins before given are) inside =
        let (wired, stand, count) = all-wired leaves bound start pins before are (inside_bound leaves t cost place bound given inside) in
        let last : AreWired library leaves (start + length before) (record { place = place; pins = pins } ∷ []) =
        wired_one library leaves (start + length before) (record { place = place; pins = pins }) (given.stands.tile, given.stands.there, count ∙ given.stands.fits.pins, stand) in
        let one : length {A = CoverGate} (record { place = place; pins = pins } ∷ []) ≡ 1 = refl in
        (wired_both library leaves start before (record { place = place; pins = pins } ∷ []) wired last, omega (arith, one, length-append before (record { place = place; pins = pins } ∷ [])))

    all-wired : (leaves : ℕ → Type 0) (ts : List (Tree ℕ)) (start : ℕ) (pins : List Signal) (gates : List CoverGate) → AreWritten cmp library ts start pins gates
        → ((pin : ℕ) (u : Tree ℕ) (leaf : ℕ) → slice_get ts pin ≡ Some u → HasLeaf leaf u → leaves leaf)
        → AreWired library leaves start gates × AllByRecursion (StandsBefore leaves (start + length gates)) pins × (length pins ≡ length ts)
    all-wired leaves us s signals_of gates (none_written start) inside = (λ k gate at. absurd (none-some gate at), tt, refl)
    all-wired leaves us s signals_of gates (more_written t more start signal signals first rest one others) inside =
        let (wired, stands) = written-wired leaves t start signal first one (λ leaf has. inside 0 t leaf refl has) in
        let (wires, stand, count) = all-wired leaves more (start + length first) signals rest others (λ pin u leaf at has. inside (suc pin) u leaf at has) in
        let longer : start + length first ≤ start + length (first ++ rest) = omega (arith, length-append first rest) in
        let same : start + length first + length rest ≡ start + length (first ++ rest) = omega (arith, length-append first rest) in (
          wired_both library leaves start first rest wired wires,
          (stands_more leaves (start + length first) (start + length (first ++ rest)) signal longer stands, subst (λ (n : ℕ). AllByRecursion (StandsBefore leaves n) signals) same stand),
          ap (λ (n : ℕ). suc n) count,
        )

-- gates that can be taken have all their pins in each pattern
pub usable_use_pins : (shapes : List Vertex) (gates : List PatternGate) → AllByRecursion (IsUsable shapes) gates → UsesPins (tiles shapes gates)
usable_use_pins shapes [] all place tile pattern pin at listed lt = absurd (none-some tile at)
usable_use_pins shapes (gate ∷ gates) all zero tile pattern pin at listed lt =
    let same : tile_of shapes gate ≡ tile = same_Some (tile_of shapes gate) tile at in
    let mine : Contains (trees_of shapes gate.patterns) pattern = subst (λ (t : Tile). Contains t.patterns pattern) (sym same) listed in
    let (i, here) = contains_get pattern (trees_of shapes gate.patterns) mine in
    let within : pin < gate.pins = subst (λ (t : Tile). pin < t.pins) (sym same) lt in
    (get_all (λ (p : Tree ℕ). (k : ℕ) → HasLeaf k p ↔ (k < gate.pins)) (trees_of shapes gate.patterns) i pattern all.0.leaves here pin).1 within
usable_use_pins shapes (gate ∷ gates) all (suc place) tile pattern pin at listed lt = usable_use_pins shapes gates all.1 place tile pattern pin at listed lt
