-- A pattern whose first two levels do not fit a tree has no match there.
use Rattle.std.proofs.Common.{◌≡◌, ℕ, ◌&&◌, Bool, true, false, None, List, [], ◌++◌, length, refl, sym, ap, ◌∙◌, inl, inr, arith}
use Rattle.std.proofs.lemmas.Bool.{false≢true, and_cases, or_parts}
use Rattle.std.proofs.lemmas.Option.{none-some}
use Rattle.std.specs.declared.cmp.Ordering.{Ordering}
use Rattle.subject_tree.specs.Trees.{Tree, Leaf, Inv, Nand}
use Rattle.subject_tree.specs.Arenas.{trees, tree_at, built, vertex_at, IsArena}
use Rattle.subject_tree.specs.declared.arena.Vertex.{Vertex}
use Rattle.subject_tree.specs.declared.arena.Vertex.TheVariants.{Leaf as AtLeaf, Inv as AtInv, Nand as AtNand}
use Rattle.subject_tree.proofs.Arenas.{reads_all}
use Rattle.pattern_set.specs.declared.cells.PatternGate.{PatternGate}
use Rattle.tree_cover.specs.declared.binding.Binding.{Binding}
use Rattle.tree_cover.specs.declared.choice.Choice.{Choice}
use Rattle.tree_cover.specs.Covers.{IsProper}
use Rattle.tree_cover.specs.Bindings.{under_inverter, under_nand, grown, matched}
use Rattle.tree_cover.specs.Candidates.{BestOf, FromPattern}
use Rattle.tree_cover.specs.Fitting.{has_inverter, has_nand, fits_root, may_fit}
use Rattle.tree_cover.proofs.Growing.{grown_none}

pub fit_proper : (p t : Tree ℕ) → may_fit p t ≡ true → IsProper p
unfolding IsProper
fit_proper (Leaf pin) t e = absurd (false≢true e)
fit_proper (Inv p) t e = tt
fit_proper (Nand p q) t e = tt

no_inverter_below : (v : Vertex) (ts : List (Tree ℕ)) (f : ℕ → List Binding) → has_inverter (built ts v) ≡ false → under_inverter v f ≡ []
no_inverter_below (AtLeaf place) ts f e = refl
no_inverter_below (AtInv m) ts f e = absurd (false≢true (sym e))
no_inverter_below (AtNand m k) ts f e = refl

no_nand_below : (v : Vertex) (ts : List (Tree ℕ)) (f : ℕ → ℕ → List Binding) → has_nand (built ts v) ≡ false → under_nand v f ≡ []
no_nand_below (AtLeaf place) ts f e = refl
no_nand_below (AtInv m) ts f e = refl
no_nand_below (AtNand m k) ts f e = absurd (false≢true (sym e))

-- where a pattern has no match, no choice is the best one
pub no_match_best : (vs : List Vertex) (order : Choice → Choice → Ordering) (choices : List Choice) (gate : PatternGate) (place n : ℕ) (p : Tree ℕ) → (IsProper p → matched vs p n ≡ []) → BestOf order (FromPattern vs choices gate place n p) None
no_match_best vs order choices gate place n p no_match = record {
  among = λ c e. absurd (none-some c e);
  first = λ c d e h g. none-some c e;
  none = λ d e h.
      let (k, lt, from) = h.1 in
      let empty : length (matched vs p n) ≡ 0 = ap (λ (bs : List Binding). length bs) (no_match h.0) in
      omega (arith, lt, empty);
}

module _ (vs : List Vertex) (arena : IsArena vs) where
  root_none : (p : Tree ℕ) (n : ℕ) (bs : List Binding) → fits_root p (tree_at vs n) ≡ false → grown vs p n bs ≡ []
  unfolding grown
  root_none (Leaf pin) n bs e = absurd (false≢true (sym e))
  root_none (Inv p) n bs e = no_inverter_below (vertex_at vs n) (trees vs) (λ m. grown vs p m bs) (ap has_inverter (sym (reads_all vs arena n)) ∙ e)
  root_none (Nand p q) n bs e =
      no_nand_below (vertex_at vs n) (trees vs) (λ m k. grown vs q k (grown vs p m bs) ++ grown vs q m (grown vs p k bs)) (ap has_nand (sym (reads_all vs arena n)) ∙ e)

  inverter_none : (p : Tree ℕ) (v : Vertex) (bs : List Binding) → may_fit (Inv p) (built (trees vs) v) ≡ false → under_inverter v (λ m. grown vs p m bs) ≡ []
  inverter_none p (AtLeaf place) bs e = refl
  inverter_none p (AtInv m) bs e = root_none p m bs e
  inverter_none p (AtNand m k) bs e = refl

  side_none : (p q : Tree ℕ) (m k : ℕ) (bs : List Binding) → (fits_root p (tree_at vs m) && fits_root q (tree_at vs k)) ≡ false → grown vs q k (grown vs p m bs) ≡ []
  side_none p q m k bs e = elim (and_cases (fits_root p (tree_at vs m)) (fits_root q (tree_at vs k)) e) as (λ _. grown vs q k (grown vs p m bs) ≡ []) [
    | inl a ↦ ap (grown vs q k) (root_none p m bs a) ∙ grown_none vs q k
    | inr b ↦ root_none q k (grown vs p m bs) b
  ]

  nand_none : (p q : Tree ℕ) (v : Vertex) (bs : List Binding) → may_fit (Nand p q) (built (trees vs) v) ≡ false → under_nand v (λ m k. grown vs q k (grown vs p m bs) ++ grown vs q m (grown vs p k bs)) ≡ []
  nand_none p q (AtLeaf place) bs e = refl
  nand_none p q (AtInv m) bs e = refl
  nand_none p q (AtNand m k) bs e =
      let (a, b) = or_parts (fits_root p (tree_at vs m) && fits_root q (tree_at vs k)) (fits_root p (tree_at vs k) && fits_root q (tree_at vs m)) e in
      ap (λ (xs : List Binding). xs ++ grown vs q m (grown vs p k bs)) (side_none p q m k bs a) ∙ side_none p q k m bs b

  fit_none : (p : Tree ℕ) (n : ℕ) (bs : List Binding) → IsProper p → may_fit p (tree_at vs n) ≡ false → grown vs p n bs ≡ []
  unfolding grown IsProper
  fit_none (Leaf pin) n bs proper e = absurd proper
  fit_none (Inv p) n bs proper e = inverter_none p (vertex_at vs n) bs (ap (may_fit (Inv p)) (sym (reads_all vs arena n)) ∙ e)
  fit_none (Nand p q) n bs proper e = nand_none p q (vertex_at vs n) bs (ap (may_fit (Nand p q)) (sym (reads_all vs arena n)) ∙ e)

  pub unfit_best : (order : Choice → Choice → Ordering) (choices : List Choice) (gate : PatternGate) (place n : ℕ) (p : Tree ℕ) (fits : Bool) → fits ≡ may_fit p (tree_at vs n) → fits ≡ false → BestOf order (FromPattern vs choices gate place n p) None
  unfit_best order choices gate place n p fits is no_fit = no_match_best vs order choices gate place n p (λ proper. fit_none p n _ proper (sym is ∙ no_fit))
