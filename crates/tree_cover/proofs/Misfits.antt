-- What outlines tell of patterns: one that does not fit has no match.
use Rattle.std.proofs.Common.{◌≡◌, ℕ, ◌+◌, ◌<◌, ◌&&◌, ◌||◌, Bool, true, false, Option, Some, None, List, [], ◌∷◌, ◌++◌, length, get_or, slice_get, refl, sym, ap, ◌∙◌, subst, inl, inr, arith, length-append}
use Rattle.std.proofs.Math.Bool.{or_comm, and_comm}
use Rattle.std.proofs.lemmas.Bool.{false≢true, and_cases, or_parts}
use Rattle.std.proofs.lemmas.Option.{slice_get-get_or}
use Rattle.std.specs.declared.cmp.Ordering.{Ordering}
use Rattle.subject_tree.specs.Trees.{Tree, Leaf, Inv, Nand}
use Rattle.subject_tree.specs.Arenas.{trees, tree_at, built, vertex_at, IsOver, IsArena, KeepsTrees, Has}
use Rattle.subject_tree.specs.declared.arena.Vertex.{Vertex}
use Rattle.subject_tree.specs.declared.arena.Vertex.TheVariants.{Leaf as AtLeaf, Inv as AtInv, Nand as AtNand}
use Rattle.subject_tree.proofs.Arenas.{reads_all}
use Rattle.pattern_set.specs.declared.cells.PatternGate.{PatternGate}
use Rattle.tree_cover.specs.declared.binding.Binding.{Binding}
use Rattle.tree_cover.specs.declared.choice.Choice.{Choice}
use Rattle.tree_cover.specs.Bindings.{under_inverter, under_nand, grown}
use Rattle.tree_cover.specs.Candidates.{better_of, BestOf, FromPattern}
use Rattle.tree_cover.specs.Outlines.{fits, IsOutline, AreOutlines, TellMisfits}
use Rattle.tree_cover.proofs.Growing.{grown_none, told}
use Rattle.tree_cover.proofs.Levels.{no_match_best}
use Rattle.tree_cover.proofs.Open.{pushed_at}

-- trees that fit alike, under an inverter and under a NAND
abbrev Alike : Tree ℕ → Tree ℕ → Type 0
Alike p q = (t : Tree ℕ) → fits p t ≡ fits q t

inverter_alike : (p q : Tree ℕ) → Alike p q → Alike (Inv p) (Inv q)
unfolding fits
inverter_alike p q f (Leaf place) = refl
inverter_alike p q f (Inv t) = f t
inverter_alike p q f (Nand t u) = refl

nand_alike : (a b p q : Tree ℕ) → Alike a p → Alike b q → Alike (Nand a b) (Nand p q)
unfolding fits
nand_alike a b p q f g (Leaf place) = refl
nand_alike a b p q f g (Inv t) = refl
nand_alike a b p q f g (Nand t u) =
    ap (λ (x : Bool). (x && fits b u) || (fits a u && fits b t)) (f t)
    ∙ (ap (λ (x : Bool). (fits p t && x) || (fits a u && fits b t)) (g u)
    ∙ (ap (λ (x : Bool). (fits p t && fits q u) || (x && fits b t)) (f u) ∙ ap (λ (x : Bool). (fits p t && fits q u) || (fits p u && x)) (g t)))

turned_alike : (a b : Tree ℕ) → Alike (Nand b a) (Nand a b)
unfolding fits
turned_alike a b (Leaf place) = refl
turned_alike a b (Inv t) = refl
turned_alike a b (Nand t u) =
    or_comm (fits b t && fits a u) (fits b u && fits a t)
    ∙ (ap (λ (x : Bool). x || (fits b t && fits a u)) (and_comm (fits b u) (fits a t)) ∙ ap (λ (x : Bool). (fits a t && fits b u) || x) (and_comm (fits b t) (fits a u)))

same_alike : (p q : Tree ℕ) → p ≡ q → Alike p q
same_alike p q e t = ap (λ (r : Tree ℕ). fits r t) e

-- the outline of each kind of vertex
pub turned_outline : (new : List Vertex) (p q : Tree ℕ) (made : ℕ) → Has new made (Nand q p) → IsOutline new (Nand p q) made
turned_outline new p q made has = (has.0, λ t. same_alike (tree_at new made) (Nand q p) has.1 t ∙ turned_alike p q t)

pub leaf_outline : (new shapes : List Vertex) (pattern place made : ℕ) (v : Vertex) → IsArena shapes → v ≡ vertex_at shapes pattern → v ≡ AtLeaf place → Has new made (Leaf 0) → IsOutline new (tree_at shapes pattern) made
unfolding fits
leaf_outline new shapes pattern place made v arena e f has = (
  has.0,
  λ t. same_alike (tree_at new made) (Leaf 0) has.1 t ∙ sym (same_alike (tree_at shapes pattern) (Leaf place) (told shapes pattern v (AtLeaf place) arena e f) t),
)

module _ (old new shapes : List Vertex) (numbers : List ℕ) (pattern : ℕ) (v : Vertex) (arena : IsArena shapes) (lt : pattern < length shapes) (count : length numbers ≡ pattern) (are : AreOutlines old shapes numbers)
    (read : v ≡ vertex_at shapes pattern) where
  -- the outline of what is below
  outline_at : (below : ℕ) → below < pattern → IsOutline old (tree_at shapes below) (get_or numbers below 0)
  outline_at below before = are below (get_or numbers below 0) (slice_get-get_or numbers below 0 (omega (arith, before, count)))

  over : (w : Vertex) → v ≡ w → IsOver pattern w
  over w e = subst (IsOver pattern) (sym read ∙ e) (arena.over pattern lt)

  pub inverter_outline : (below made : ℕ) → v ≡ AtInv below → Has new made (Inv (tree_at old (get_or numbers below 0))) → IsOutline new (tree_at shapes pattern) made
  inverter_outline below made e has = (
    has.0,
    λ t.
        same_alike (tree_at new made) (Inv (tree_at old (get_or numbers below 0))) has.1 t
        ∙ (inverter_alike (tree_at old (get_or numbers below 0)) (tree_at shapes below) (outline_at below (over (AtInv below) e)).1 t
        ∙ sym (same_alike (tree_at shapes pattern) (Inv (tree_at shapes below)) (told shapes pattern v (AtInv below) arena read e) t)),
  )

  pub nand_outline : (left right made : ℕ) → v ≡ AtNand left right → IsOutline new (Nand (tree_at old (get_or numbers left 0)) (tree_at old (get_or numbers right 0))) made → IsOutline new (tree_at shapes pattern) made
  nand_outline left right made e is = (
    is.0,
    λ t.
        is.1 t
        ∙ (nand_alike (tree_at old (get_or numbers left 0)) (tree_at old (get_or numbers right 0)) (tree_at shapes left) (tree_at shapes right) (outline_at left (over (AtNand left right) e).0).1 (outline_at right (over (AtNand left right) e).1).1 t
        ∙ sym (same_alike (tree_at shapes pattern) (Nand (tree_at shapes left) (tree_at shapes right)) (told shapes pattern v (AtNand left right) arena read e) t)),
  )

-- one pattern more, and one mark more
pub count_more : {A : Type 0} (xs ys : List A) (x : A) (n : ℕ) → length xs ≡ n → ys ≡ xs ++ x ∷ [] → length ys ≡ n + 1
count_more xs ys x n count e = omega (arith, ap length e, length-append xs (x ∷ []), count)

pub outlines_more : (old new shapes : List Vertex) (numbers pushed : List ℕ) (n o : ℕ) → KeepsTrees old new → length numbers ≡ n → AreOutlines old shapes numbers → IsOutline new (tree_at shapes n) o → pushed ≡ numbers ++ o ∷ []
    → AreOutlines new shapes pushed
outlines_more old new shapes numbers pushed n o keeps count are is e p q at =
    elim (pushed_at numbers o p q (ap (λ (xs : List ℕ). slice_get xs p) (sym e) ∙ at)) as (λ _. IsOutline new (tree_at shapes p) q) [
      | inl there ↦
          let before : IsOutline old (tree_at shapes p) q = are p q there in
          ((keeps q before.0).0, λ t. same_alike (tree_at new q) (tree_at old q) (keeps q before.0).1 t ∙ before.1 t)
      | inr (f, g) ↦ subst (λ (k : ℕ). IsOutline new (tree_at shapes k) q) (sym (f ∙ count)) (subst (λ (k : ℕ). IsOutline new (tree_at shapes n) k) g is)
    ]

-- where a pattern fits, by the vertices that are read
pub fits_read : (shapes vs : List Vertex) (pattern n : ℕ) (v w x y : Vertex) (r : Bool) → IsArena shapes → IsArena vs → v ≡ vertex_at shapes pattern → v ≡ x → w ≡ vertex_at vs n → w ≡ y → r ≡ fits (built (trees shapes) x) (built (trees vs) y)
    → r ≡ fits (tree_at shapes pattern) (tree_at vs n)
fits_read shapes vs pattern n v w x y r arena other e f g h is =
    is ∙ sym (ap (λ (p : Tree ℕ). fits p (tree_at vs n)) (told shapes pattern v x arena e f) ∙ ap (λ (t : Tree ℕ). fits (built (trees shapes) x) t) (told vs n w y other g h))

pub leaf_fits : (shapes : List Vertex) (pattern pin : ℕ) (v : Vertex) (t : Tree ℕ) → IsArena shapes → v ≡ vertex_at shapes pattern → v ≡ AtLeaf pin → true ≡ fits (tree_at shapes pattern) t
unfolding fits
leaf_fits shapes pattern pin v t arena e f = sym (ap (λ (p : Tree ℕ). fits p t) (told shapes pattern v (AtLeaf pin) arena e f))

-- what `&&` and `||` give, by which of their sides is looked at
pub and_then : (v x y a b : Bool) → x ≡ true → x ≡ a → v ≡ y → y ≡ b → v ≡ (a && b)
and_then v x y true b holds e is f = is ∙ f
and_then v x y false b holds e is f = absurd (false≢true (sym e ∙ holds))

pub and_else : (v x a b : Bool) → x ≡ false → x ≡ a → v ≡ x → v ≡ (a && b)
and_else v x true b fails e is = absurd (false≢true (sym fails ∙ e))
and_else v x false b fails e is = is ∙ fails

pub or_first : (v s d : Bool) → v ≡ true → v ≡ s → v ≡ (s || d)
or_first v true d holds e = holds
or_first v false d holds e = absurd (false≢true (sym e ∙ holds))

pub or_second : (v u s d : Bool) → v ≡ false → v ≡ s → u ≡ d → u ≡ (s || d)
or_second v u true d fails e is = absurd (false≢true (sym fails ∙ e))
or_second v u false d fails e is = is

pub better_none : (order : Choice → Choice → Ordering) (a : Option Choice) → a ≡ better_of order a None
better_none order None = refl
better_none order (Some x) = refl

module _ (vs : List Vertex) (arena : IsArena vs) where
  inverter_misfit : (p : Tree ℕ) (v : Vertex) (bs : List Binding) → ((m : ℕ) → fits p (tree_at vs m) ≡ false → grown vs p m bs ≡ []) → fits (Inv p) (built (trees vs) v) ≡ false → under_inverter v (λ m. grown vs p m bs) ≡ []
  unfolding fits
  inverter_misfit p (AtLeaf place) bs none e = refl
  inverter_misfit p (AtInv m) bs none e = none m e
  inverter_misfit p (AtNand m k) bs none e = refl

  nand_misfit : (p q : Tree ℕ) (v : Vertex) (bs : List Binding) → ((m k : ℕ) → (fits p (tree_at vs m) && fits q (tree_at vs k)) ≡ false → grown vs q k (grown vs p m bs) ≡ []) → fits (Nand p q) (built (trees vs) v) ≡ false
      → under_nand v (λ m k. grown vs q k (grown vs p m bs) ++ grown vs q m (grown vs p k bs)) ≡ []
  unfolding fits
  nand_misfit p q (AtLeaf place) bs none e = refl
  nand_misfit p q (AtInv m) bs none e = refl
  nand_misfit p q (AtNand m k) bs none e =
      let (a, b) = or_parts (fits p (tree_at vs m) && fits q (tree_at vs k)) (fits p (tree_at vs k) && fits q (tree_at vs m)) e in
      ap (λ (xs : List Binding). xs ++ grown vs q m (grown vs p k bs)) (none m k a) ∙ none k m b

  pub misfit_none : (p : Tree ℕ) (n : ℕ) (bs : List Binding) → fits p (tree_at vs n) ≡ false → grown vs p n bs ≡ []
  unfolding grown fits
  misfit_none (Leaf pin) n bs e = absurd (false≢true (sym e))
  misfit_none (Inv p) n bs e = inverter_misfit p (vertex_at vs n) bs (λ m f. misfit_none p m bs f) (ap (fits (Inv p)) (sym (reads_all vs arena n)) ∙ e)
  misfit_none (Nand p q) n bs e =
      nand_misfit p q (vertex_at vs n) bs
      (λ m k f. elim (and_cases (fits p (tree_at vs m)) (fits q (tree_at vs k)) f) as (λ _. grown vs q k (grown vs p m bs) ≡ []) [
        | inl a ↦ ap (grown vs q k) (misfit_none p m bs a) ∙ grown_none vs q k
        | inr b ↦ misfit_none q k (grown vs p m bs) b
      ]) (ap (fits (Nand p q)) (sym (reads_all vs arena n)) ∙ e)

  pub misfit_best : (order : Choice → Choice → Ordering) (shapes : List Vertex) (choices : List Choice) (gate : PatternGate) (place n : ℕ) (numbers : List ℕ) (marks : List Bool) (pattern : ℕ) → TellMisfits shapes vs n numbers marks
      → ((o : ℕ) × (slice_get numbers pattern ≡ Some o) × (slice_get marks o ≡ Some false)) → BestOf order (FromPattern vs choices gate place n (tree_at shapes pattern)) None
  misfit_best order shapes choices gate place n numbers marks pattern tell (o, at, misfit) =
      no_match_best vs order choices gate place n (tree_at shapes pattern) (λ proper. misfit_none (tree_at shapes pattern) n _ (tell pattern o at misfit))
