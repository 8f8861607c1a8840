-- The best choices of one binding, one pattern and one gate more.
use Rattle.std.proofs.Common.{◌≡◌, ℕ, zero, suc, ◌+◌, ◌<◌, Option, Some, None, List, [], ◌∷◌, length, slice_get, get_or, Greater, refl, sym, ap, ◌∙◌, subst, ◌↔◌, arith}
use Rattle.std.specs.List.{sum_by}
use Rattle.std.specs.declared.cmp.Ordering.{Ordering}
use Rattle.std.proofs.lemmas.Option.{slice_get_within, same_Some}
use Rattle.subject_tree.specs.Trees.{Tree}
use Rattle.subject_tree.specs.Arenas.{tree_at}
use Rattle.subject_tree.specs.Tables.{trees_of}
use Rattle.subject_tree.specs.declared.arena.Vertex.{Vertex}
use Rattle.pattern_set.specs.Values.{HasLeaf}
use Rattle.pattern_set.specs.declared.cells.PatternGate.{PatternGate}
use Rattle.tree_cover.specs.declared.binding.Binding.{Binding}
use Rattle.tree_cover.specs.declared.choice.Choice.{Choice}
use Rattle.tree_cover.specs.Covers.{IsProper}
use Rattle.tree_cover.specs.Bindings.{PinsBelow, matched}
use Rattle.tree_cover.specs.Candidates.{BestOf, cost_at, IsFrom, Below, FromBindings, FromPattern, FromPatterns, FromGates, IsUsable}
use Rattle.tree_cover.proofs.Bests.{IsOrder, best_same}
use Rattle.tree_cover.proofs.Open.{get_map, get_all, same_gets}
use Rattle.tree_cover.proofs.Standing.{pins_below}
use Rattle.sis_base.specs.declared.limits.TheConstants.{MAX_PINS}

pub get_at : {A : Type 0} (xs : List A) (i : ℕ) (d : A) → i < length xs → slice_get xs i ≡ Some (get_or xs i d)
get_at [] i d lt = absurd (omega (arith, lt))
get_at (x ∷ xs) zero d lt = refl
get_at (x ∷ xs) (suc i) d lt = get_at xs i d (omega (arith, lt))

same_choice : (c d : Choice) → c.cost ≡ d.cost → c.place ≡ d.place → c.pins ≡ d.pins → c ≡ d
same_choice c d p q r =
    ap (λ (n : ℕ). record { cost = n; place = c.place; pins = c.pins }) p
    ∙ (ap (λ (n : ℕ). record { cost = d.cost; place = n; pins = c.pins }) q ∙ ap (λ (ns : List ℕ). record { cost = d.cost; place = d.place; pins = ns }) r)

-- one choice comes from a binding
one_from : (choices : List Choice) (gate : PatternGate) (place : ℕ) (b : Binding) (c d : Choice) → IsFrom choices gate place b c → IsFrom choices gate place b d → c ≡ d
one_from choices gate place b c d f g =
    let pins : c.pins ≡ d.pins =
    same_gets c.pins d.pins (f.count ∙ sym g.count)
    (λ i x at.
    let within : i < length c.pins = slice_get_within c.pins i x at in
    let other : i < length d.pins = omega (arith, within, f.count, g.count) in
    sym (g.binds i other) ∙ (f.binds i within ∙ at)) in
    same_choice c d (f.sum ∙ (ap (λ (ns : List ℕ). gate.area + sum_by (cost_at choices) ns) pins ∙ sym g.sum)) (f.at ∙ sym g.at) pins

pub single_best : (order : Choice → Choice → Ordering) → IsOrder order → (choices : List Choice) (gate : PatternGate) (place : ℕ) (bindings : List Binding) (i : ℕ) (d : Binding) (made : Option Choice) → i < length bindings
    → ((c : Choice) → made ≡ Some c → IsFrom choices gate place (get_or bindings i d) c) → ((c : Choice) → made ≡ None → IsFrom choices gate place (get_or bindings i d) c → ⊥)
    → BestOf order (FromBindings choices gate place bindings i) made
single_best order laws choices gate place bindings i d made lt some none = record {
  among = λ c e. (get_or bindings i d, get_at bindings i d lt, some c e);
  first = λ c x e h g.
      let (b, at, from) = h in
      let same : b ≡ get_or bindings i d = same_Some b (get_or bindings i d) (sym at ∙ get_at bindings i d lt) in
      let one : c ≡ x = one_from choices gate place (get_or bindings i d) c x (some c e) (subst (λ (y : Binding). IsFrom choices gate place y x) same from) in
      laws.turned c c (subst (λ (y : Choice). order c y ≡ Greater) (sym one) g) (subst (λ (y : Choice). order c y ≡ Greater) (sym one) g);
  none = λ x e h.
      let (b, at, from) = h in
      let same : b ≡ get_or bindings i d = same_Some b (get_or bindings i d) (sym at ∙ get_at bindings i d lt) in
      none x e (subst (λ (y : Binding). IsFrom choices gate place y x) same from);
}

pub match_best : (order : Choice → Choice → Ordering) → IsOrder order → (vs : List Vertex) (choices : List Choice) (gate : PatternGate) (place n : ℕ) (p : Tree ℕ) (bindings slice : List Binding) (best : Option Choice) → IsProper p → slice ≡ bindings
    → bindings ≡ matched vs p n → BestOf order (Below (length slice) (FromBindings choices gate place slice)) best → BestOf order (FromPattern vs choices gate place n p) best
match_best order laws vs choices gate place n p bindings slice best proper same is h =
    best_same order laws (λ c. Below (length (matched vs p n)) (FromBindings choices gate place (matched vs p n)) c) (FromPattern vs choices gate place n p) best (λ c k. (proper, k)) (λ c k. k.1)
    (subst (λ (bs : List Binding). BestOf order (Below (length bs) (FromBindings choices gate place bs)) best) (same ∙ is) h)

pub pattern_best : (order : Choice → Choice → Ordering) → IsOrder order → (vs shapes : List Vertex) (choices : List Choice) (gate : PatternGate) (place n i : ℕ) (slice : List ℕ) (best : Option Choice) → slice ≡ gate.patterns → i < length slice
    → BestOf order (FromPattern vs choices gate place n (tree_at shapes (get_or slice i 0))) best → BestOf order (FromPatterns vs shapes choices gate place n i) best
pattern_best order laws vs shapes choices gate place n i slice best same lt h =
    best_same order laws (FromPattern vs choices gate place n (tree_at shapes (get_or slice i 0))) (FromPatterns vs shapes choices gate place n i) best (λ c k. (get_or slice i 0, there, k))
    (λ c k.
    let (pattern, at, from) = k in
    subst (λ (p : ℕ). FromPattern vs choices gate place n (tree_at shapes p) c) (same_Some pattern (get_or slice i 0) (sym at ∙ there)) from) h
  where
    there : slice_get gate.patterns i ≡ Some (get_or slice i 0)
    there = ap (λ (ns : List ℕ). slice_get ns i) (sym same) ∙ get_at slice i 0 lt

pub gate_best : (order : Choice → Choice → Ordering) → IsOrder order → (vs shapes : List Vertex) (choices : List Choice) (gates : List PatternGate) (gate : PatternGate) (n i : ℕ) (best : Option Choice) → i < length gates → gate ≡ get_or gates i gate
    → BestOf order (Below (length gate.patterns) (FromPatterns vs shapes choices gate i n)) best → BestOf order (FromGates vs shapes choices gates n i) best
gate_best order laws vs shapes choices gates gate n i best lt is h =
    best_same order laws (λ c. Below (length gate.patterns) (FromPatterns vs shapes choices gate i n) c) (FromGates vs shapes choices gates n i) best (λ c k. (gate, there, k))
    (λ c k.
    let (other, at, from) = k in
    subst (λ (g : PatternGate). Below (length g.patterns) (FromPatterns vs shapes choices g i n) c) (same_Some other gate (sym at ∙ there)) from) h
  where
    there : slice_get gates i ≡ Some gate
    there = get_at gates i gate lt ∙ ap (λ (g : PatternGate). Some g) (sym is)

pub pattern_below : (shapes : List Vertex) (gate : PatternGate) (slice : List ℕ) (i : ℕ) → slice ≡ gate.patterns → i < length slice → IsUsable shapes gate → PinsBelow MAX_PINS (tree_at shapes (get_or slice i 0))
pattern_below shapes gate slice i same lt usable =
    let there : slice_get gate.patterns i ≡ Some (get_or slice i 0) = ap (λ (ns : List ℕ). slice_get ns i) (sym same) ∙ get_at slice i 0 lt in
    let leaves : ((pin : ℕ) → HasLeaf pin (tree_at shapes (get_or slice i 0)) ↔ (pin < gate.pins)) =
    get_all (λ (p : Tree ℕ). (pin : ℕ) → HasLeaf pin p ↔ (pin < gate.pins)) (trees_of shapes gate.patterns) i (tree_at shapes (get_or slice i 0)) usable.leaves (get_map (tree_at shapes) gate.patterns i (get_or slice i 0) there) in
    pins_below MAX_PINS (tree_at shapes (get_or slice i 0)) (λ pin h. omega (arith, (leaves pin).0 h, usable.few))
