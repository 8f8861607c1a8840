-- The gates that are written for two trees that are one tree of names are the same.
use Rattle.std.proofs.Common.{◌≡◌, ◌⊎◌, ℕ, suc, ◌+◌, List, [], ◌∷◌, ◌++◌, length, refl, sym, ap}
use Rattle.std.proofs.Common.{◌∙◌, subst, inl, inr, arith}
use Rattle.std.specs.List.{AllZip}
use Rattle.std.specs.declared.cmp.Ordering.{Ordering}
use Rattle.subject_tree.specs.Trees.{Tree, Leaf, Inv, Nand, renamed}
use Rattle.subject_tree.specs.Order.{tree_cmp, place_cmp, name_at}
use Rattle.tree_cover.specs.Covers.{Tile, Matches, IsProper, IsGiven}
use Rattle.tree_cover.specs.Written.{IsWritten, written_leaf, written_gate, AreWritten}
use Rattle.tree_cover.specs.Written.{none_written, more_written}
use Rattle.tree_cover.specs.declared.writing.Signal.{Signal}
use Rattle.tree_cover.specs.declared.writing.Signal.TheVariants.{Leaf as AtLeaf, Gate}
use Rattle.tree_cover.specs.declared.writing.CoverGate.{CoverGate}
use Rattle.map_net.proofs.Renaming.{AreOne, one_turned, leaf_is}
use Rattle.map_net.proofs.Alike.{AreAlike, AreGiven, given_one}

-- two signals are one, by the names of the leaves
abbrev pub IsOneSignal : List (List ℕ) → List (List ℕ) → Signal → Signal → Type 0
IsOneSignal names other (AtLeaf p) (AtLeaf q) = name_at names p ≡ name_at other q
IsOneSignal names other (AtLeaf p) (Gate k) = ⊥
IsOneSignal names other (Gate k) (AtLeaf q) = ⊥
IsOneSignal names other (Gate k) (Gate l) = k ≡ l

-- two gates are one: they have the same place, and the same signals at their pins
pub record IsOneGate (names other : List (List ℕ)) (gate into : CoverGate) : Type 0 where
  pub place : gate.place ≡ into.place
  pub pins : AllZip (IsOneSignal names other) gate.pins into.pins

-- signals and gates are those of another cover
pub record AreOneCover (names other : List (List ℕ)) (signals into : List Signal)
    (gates beside : List CoverGate) : Type 0 where
  pub signals_are : AllZip (IsOneSignal names other) signals into
  pub gates_are : AllZip (IsOneGate names other) gates beside

pub zip_length : {A B : Type 0} (R : A → B → Type 0) (xs : List A) (ys : List B) → AllZip R xs ys
    → length xs ≡ length ys
zip_length R [] [] zip = refl
zip_length R [] (y ∷ ys) zip = absurd zip
zip_length R (x ∷ xs) [] zip = absurd zip
zip_length R (x ∷ xs) (y ∷ ys) zip = ap (λ (n : ℕ). suc n) (zip_length R xs ys zip.1)

zip_append : {A B : Type 0} (R : A → B → Type 0) (xs : List A) (ys : List B) (us : List A)
    (vs : List B) → AllZip R xs ys → AllZip R us vs → AllZip R (xs ++ us) (ys ++ vs)
zip_append R [] [] us vs zip more = more
zip_append R [] (y ∷ ys) us vs zip more = absurd zip
zip_append R (x ∷ xs) [] us vs zip more = absurd zip
zip_append R (x ∷ xs) (y ∷ ys) us vs zip more = (zip.0, zip_append R xs ys us vs zip.1 more)

-- how the gates of a tree's cover were written, if that is no leaf's
record WrittenGate (cmp : Tree ℕ → Tree ℕ → Ordering) (library : List Tile) (t : Tree ℕ) (start : ℕ)
    (signal : Signal) (gates : List CoverGate) : Type 0 where
  cost : ℕ
  place : ℕ
  bound : List (Tree ℕ)
  pins : List Signal
  before : List CoverGate
  given : IsGiven cmp library t cost place bound
  are : AreWritten cmp library bound start pins before
  root : signal ≡ Gate (start + length before)
  all : gates ≡ before ++ record { place = place; pins = pins } ∷ []

-- the cover of a leaf
record WrittenLeaf (t : Tree ℕ) (signal : Signal) (gates : List CoverGate) : Type 0 where
  leaf : ℕ
  tree : t ≡ Leaf leaf
  root : signal ≡ AtLeaf leaf
  all : gates ≡ []

written_by : (cmp : Tree ℕ → Tree ℕ → Ordering) (library : List Tile) (t : Tree ℕ) (start : ℕ)
    (signal : Signal) (gates : List CoverGate) → IsWritten cmp library t start signal gates
    → WrittenLeaf t signal gates ⊎ WrittenGate cmp library t start signal gates
written_by cmp library t s signal gates (written_leaf place start) = inl
    (record { leaf = place; tree = refl; root = refl; all = refl })
written_by cmp library t s signal gates
    (written_gate u start cost place bound pins before given are) = inr
    (record {
      cost = cost;
      place = place;
      bound = bound;
      pins = pins;
      before = before;
      given = given;
      are = are;
      root = refl;
      all = refl;
    })

-- how the gates of the covers of trees were written
abbrev WrittenTrees : (Tree ℕ → Tree ℕ → Ordering) → List Tile → List (Tree ℕ) → ℕ → List Signal
    → List CoverGate → Type 0
WrittenTrees cmp library [] start signals gates = (signals ≡ []) × (gates ≡ [])
WrittenTrees cmp library (t ∷ ts) start signals gates =
    (signal : Signal) × (others : List Signal) × (first : List CoverGate) × (rest : List CoverGate)
    × (signals ≡ signal ∷ others) × (gates ≡ first ++ rest)
    × IsWritten cmp library t start signal first
    × AreWritten cmp library ts (start + length first) others rest

written_trees : (cmp : Tree ℕ → Tree ℕ → Ordering) (library : List Tile) (ts : List (Tree ℕ))
    (start : ℕ) (signals : List Signal) (gates : List CoverGate)
    → AreWritten cmp library ts start signals gates
    → WrittenTrees cmp library ts start signals gates
written_trees cmp library us s signals_of gates (none_written start) = (refl, refl)
written_trees cmp library us s signals_of gates
    (more_written t ts start signal signals first rest one others) =
    (signal, signals, first, rest, refl, refl, one, others)

leaf_named : (names : List (List ℕ)) (t : Tree ℕ) (name : List ℕ)
    → renamed (name_at names) t ≡ Leaf name → (leaf : ℕ) × (t ≡ Leaf leaf)
unfolding renamed
leaf_named names (Leaf leaf) name e = (leaf, refl)
leaf_named names (Inv t) name e = absurd (let x : ⊥ = cc in x)
leaf_named names (Nand t u) name e = absurd (let x : ⊥ = cc in x)

unmatched : (p : Tree ℕ) (leaf : ℕ) (bound : List (Tree ℕ)) → IsProper p
    → Matches p (Leaf leaf) bound → ⊥
unfolding Matches IsProper
unmatched (Leaf pin) leaf bound proper h = proper
unmatched (Inv p) leaf bound proper h = h
unmatched (Nand p q) leaf bound proper h = h

-- no gate is taken at a leaf
never_given : (cmp : Tree ℕ → Tree ℕ → Ordering) (library : List Tile) (t : Tree ℕ) (leaf : ℕ)
    (cost place : ℕ) (bound : List (Tree ℕ)) → t ≡ Leaf leaf
    → IsGiven cmp library t cost place bound → ⊥
never_given cmp library t leaf cost place bound is given =
    unmatched given.stands.fits.pattern leaf bound given.stands.fits.proper
    (subst (λ (u : Tree ℕ). Matches given.stands.fits.pattern u bound) is given.stands.fits.matches)

-- a leaf's tree of names is that of a leaf
leaf_beside : (names other : List (List ℕ)) (t u : Tree ℕ) (leaf : ℕ) → AreOne names other t u
    → t ≡ Leaf leaf → (place : ℕ) × (u ≡ Leaf place) × (name_at names leaf ≡ name_at other place)
unfolding renamed
leaf_beside names other t u leaf one is =
    let named : renamed (name_at other) u ≡ Leaf (name_at names leaf) =
    sym one.named ∙ ap (renamed (name_at names)) is in
    let (place, at) = leaf_named other u (name_at names leaf) named in (
      place,
      at,
      sym (leaf_is (name_at other place) (name_at names leaf)
          (sym (ap (renamed (name_at other)) at) ∙ named)),
    )

same_leaf : (p q : ℕ) → Leaf p ≡ Leaf q → p ≡ q
same_leaf p q e = leaf_is p q e

module _ (names other : List (List ℕ)) (library into : List Tile)
    (alike : AreAlike names other library into) where
  -- the cover of a leaf
  leaf_one : (leaf : ℕ) (u : Tree ℕ) (start : ℕ) (signal : Signal) (gates : List CoverGate)
      → AreOne names other (Leaf leaf) u
      → IsWritten (tree_cmp (place_cmp other)) into u start signal gates
      → AreOneCover names other (AtLeaf leaf ∷ []) (signal ∷ []) [] gates
  leaf_one leaf u start signal gates one written =
      let (place, is, named) = leaf_beside names other (Leaf leaf) u leaf one refl in
      elim (written_by (tree_cmp (place_cmp other)) into u start signal gates written)
      as (λ _. AreOneCover names other (AtLeaf leaf ∷ []) (signal ∷ []) [] gates) [
        | inl w ↦ record {
          signals_are = (
            subst (IsOneSignal names other (AtLeaf leaf)) (sym w.root)
                (named ∙ ap (name_at other) (same_leaf place w.leaf (sym is ∙ w.tree))),
            tt,
          );
          gates_are = subst (AllZip (IsOneGate names other) []) (sym w.all) tt;
        }
        | inr w ↦ absurd (never_given _ into u place w.cost w.place w.bound is w.given)
      ]

  -- the cover of a tree at which a gate is taken, where it is known for the trees at its pins
  gate_one : (t : Tree ℕ) (start cost place : ℕ) (bound : List (Tree ℕ)) (pins : List Signal)
      (before : List CoverGate) → IsGiven (tree_cmp (place_cmp names)) library t cost place bound
      → ((us : List (Tree ℕ)) (begin : ℕ) (signals : List Signal) (gates : List CoverGate)
      → start ≡ begin → AllZip (AreOne names other) bound us
      → AreWritten (tree_cmp (place_cmp other)) into us begin signals gates
      → AreOneCover names other pins signals before gates)
      → (u : Tree ℕ) (begin : ℕ) (signal : Signal) (gates : List CoverGate) → start ≡ begin
      → AreOne names other t u → IsWritten (tree_cmp (place_cmp other)) into u begin signal gates
      → AreOneCover names other (Gate (start + length before) ∷ []) (signal ∷ [])
      (before ++ record { place = place; pins = pins } ∷ []) gates
  gate_one t start cost place bound pins before given pins_one u begin signal gates same one
      written =
      elim (written_by (tree_cmp (place_cmp other)) into u begin signal gates written)
      as (λ _. AreOneCover names other (Gate (start + length before) ∷ []) (signal ∷ [])
      (before ++ record { place = place; pins = pins } ∷ []) gates) [
        | inl w ↦
            let (leaf, is, named) = leaf_beside other names u t w.leaf
            (one_turned names other t u one) w.tree in
            absurd (never_given _ library t leaf cost place bound is given)
        | inr w ↦
            let both : AreGiven names other place w.place bound w.bound =
            given_one names other library into alike t u one cost place bound w.cost w.place w.bound
            given w.given in
            let rest : AreOneCover names other pins w.pins before w.before =
            pins_one w.bound begin w.pins w.before same both.trees w.are in
            let count : length before ≡ length w.before =
            zip_length (IsOneGate names other) before w.before rest.gates_are in
            record {
              signals_are = (
                subst (IsOneSignal names other (Gate (start + length before))) (sym w.root)
                    (omega (arith, same, count)),
                tt,
              );
              gates_are = subst (AllZip (IsOneGate names other)
                  (before ++ record { place = place; pins = pins } ∷ [])) (sym w.all)
                  (zip_append (IsOneGate names other) before w.before
                  (record { place = place; pins = pins } ∷ [])
                  (record { place = w.place; pins = w.pins } ∷ []) rest.gates_are
                  (record { place = both.same; pins = rest.signals_are }, tt));
            }
      ]

  none_one : (us : List (Tree ℕ)) (begin : ℕ) (signals : List Signal) (gates : List CoverGate)
      → AllZip (AreOne names other) [] us
      → AreWritten (tree_cmp (place_cmp other)) into us begin signals gates
      → AreOneCover names other [] signals [] gates
  none_one [] begin signals gates zip are =
      let (none, empty) = written_trees (tree_cmp (place_cmp other)) into [] begin signals gates
      are in
      record {
        signals_are = subst (AllZip (IsOneSignal names other) []) (sym none) tt;
        gates_are = subst (AllZip (IsOneGate names other) []) (sym empty) tt;
      }
  none_one (u ∷ us) begin signals gates zip are = absurd zip

  more_one : (t : Tree ℕ) (ts : List (Tree ℕ)) (start : ℕ) (signal : Signal) (signals : List Signal)
      (first rest : List CoverGate)
      → ((u : Tree ℕ) (begin : ℕ) (root : Signal) (gates : List CoverGate) → start ≡ begin
      → AreOne names other t u → IsWritten (tree_cmp (place_cmp other)) into u begin root gates
      → AreOneCover names other (signal ∷ []) (root ∷ []) first gates)
      → ((us : List (Tree ℕ)) (begin : ℕ) (roots : List Signal) (gates : List CoverGate)
      → start + length first ≡ begin → AllZip (AreOne names other) ts us
      → AreWritten (tree_cmp (place_cmp other)) into us begin roots gates
      → AreOneCover names other signals roots rest gates)
      → (us : List (Tree ℕ)) (begin : ℕ) (roots : List Signal) (gates : List CoverGate)
      → start ≡ begin → AllZip (AreOne names other) (t ∷ ts) us
      → AreWritten (tree_cmp (place_cmp other)) into us begin roots gates
      → AreOneCover names other (signal ∷ signals) roots (first ++ rest) gates
  more_one t ts start signal signals first rest head tail [] begin roots gates same zip are =
      absurd zip
  more_one t ts start signal signals first rest head tail (u ∷ us) begin roots gates same zip are =
      let (root, others, own, behind, e, f, one, more) =
      written_trees (tree_cmp (place_cmp other)) into (u ∷ us) begin roots gates are in
      let front : AreOneCover names other (signal ∷ []) (root ∷ []) first own =
      head u begin root own same zip.0 one in
      let count : length first ≡ length own =
      zip_length (IsOneGate names other) first own front.gates_are in
      let back : AreOneCover names other signals others rest behind =
      tail us (begin + length own) others behind (omega (arith, same, count)) zip.1 more in
      record {
        signals_are = subst (AllZip (IsOneSignal names other) (signal ∷ signals)) (sym e)
            (front.signals_are.0, back.signals_are);
        gates_are = subst (AllZip (IsOneGate names other) (first ++ rest)) (sym f)
            (zip_append (IsOneGate names other) first own rest behind front.gates_are
            back.gates_are);
      }

  mutual
    pub written_one : (t : Tree ℕ) (start : ℕ) (signal : Signal) (gates : List CoverGate)
        → IsWritten (tree_cmp (place_cmp names)) library t start signal gates
        → (u : Tree ℕ) (begin : ℕ) (root : Signal) (beside : List CoverGate) → start ≡ begin
        → AreOne names other t u → IsWritten (tree_cmp (place_cmp other)) into u begin root beside
        → AreOneCover names other (signal ∷ []) (root ∷ []) gates beside
    written_one v s signal gates (written_leaf place start) u begin root beside same one written =
        leaf_one place u begin root beside one written
    written_one v s signal gates (written_gate t start cost place bound pins before given are) u
        begin root beside same one written =
        gate_one t start cost place bound pins before given
        (all_one bound start pins before are) u begin root beside same one written

    all_one : (ts : List (Tree ℕ)) (start : ℕ) (signals : List Signal) (gates : List CoverGate)
        → AreWritten (tree_cmp (place_cmp names)) library ts start signals gates
        → (us : List (Tree ℕ)) (begin : ℕ) (roots : List Signal) (beside : List CoverGate)
        → start ≡ begin → AllZip (AreOne names other) ts us
        → AreWritten (tree_cmp (place_cmp other)) into us begin roots beside
        → AreOneCover names other signals roots gates beside
    all_one vs s signals_of gates (none_written start) us begin roots beside same zip are =
        none_one us begin roots beside zip are
    all_one vs s signals_of gates
        (more_written t ts start signal signals first rest one others) us begin roots beside same
        zip are = more_one t ts start signal signals first rest
        (written_one t start signal first one)
        (all_one ts (start + length first) signals rest others) us begin roots beside same zip are
