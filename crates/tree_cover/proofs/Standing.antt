-- The choices that come from matches are just those that stand.
use Rattle.std.proofs.Common.{◌≡◌, ℕ, ◌+◌, ◌<◌, ◌≤◌, Some, None, List, [], ◌∷◌, length, replicate, slice_get, refl, sym, ap, ◌∙◌, subst, inl, inr, ◌↔◌, arith}
use Rattle.std.specs.List.{AllByRecursion, sum_by}
use Rattle.std.proofs.lemmas.Option.{slice_get_within, same_Some}
use Rattle.std.proofs.lemmas.List.{length-map}
use Rattle.std.proofs.lemmas.List.Sums.{sum_by-cons}
use Rattle.subject_tree.specs.Trees.{Tree, Leaf, Inv, Nand}
use Rattle.subject_tree.specs.Arenas.{tree_at, IsArena}
use Rattle.subject_tree.specs.Tables.{trees_of}
use Rattle.subject_tree.specs.declared.arena.Vertex.{Vertex}
use Rattle.pattern_set.specs.Values.{HasLeaf}
use Rattle.pattern_set.specs.declared.cells.PatternGate.{PatternGate}
use Rattle.pattern_set.proofs.Exact.{In}
use Rattle.pattern_set.proofs.Members.{in_contains, contains_in}
use Rattle.tree_cover.specs.declared.binding.Binding.{Binding}
use Rattle.tree_cover.specs.declared.choice.Choice.{Choice}
use Rattle.tree_cover.specs.Covers.{Tile, tile_of, tiles, Matches, IsProper, Fits, Least, LeastOfAll, Stands, HaveLeast}
use Rattle.tree_cover.specs.Bindings.{PinsBelow, Agrees, matched}
use Rattle.tree_cover.specs.Candidates.{IsUsable, bound_at, cost_at, Below, FromGates}
use Rattle.tree_cover.proofs.Agreeing.{AreWide, grown_complete, grown_sound, nothing_bound, no_number, length_replicate}
use Rattle.tree_cover.proofs.Choosing.{contains_get, get_contains}
use Rattle.tree_cover.proofs.Valuing.{leasts-one}
use Rattle.tree_cover.proofs.Open.{grown_binds, leaf_bound, get_map, from_get_map, get_some, same_gets, all_gets, get_all, listed_below, bound_is, is_bound}
use Rattle.sis_base.specs.declared.limits.TheConstants.{MAX_PINS}

pub pins_below : (width : ℕ) (p : Tree ℕ) → ((pin : ℕ) → HasLeaf pin p → pin < width) → PinsBelow width p
unfolding PinsBelow HasLeaf
pins_below width (Leaf leaf) f = f leaf refl
pins_below width (Inv p) f = pins_below width p f
pins_below width (Nand p q) f = (pins_below width p (λ pin h. f pin (inl h)), pins_below width q (λ pin h. f pin (inr h)))

abbrev start : Binding
start = record { pins = replicate MAX_PINS None }

start_wide : AreWide MAX_PINS (start ∷ [])
start_wide b (inl e) = ap (λ (c : Binding). length c.pins) (sym e) ∙ length_replicate MAX_PINS no_number
start_wide b (inr h) = elim h [ ]

not_start : (b : Binding) (pin m : ℕ) → In b (start ∷ []) → slice_get b.pins pin ≡ Some (Some m) → ⊥
not_start b pin m (inl e) at = nothing_bound MAX_PINS pin m (ap (λ (c : Binding). slice_get c.pins pin) e ∙ at)
not_start b pin m (inr h) at = elim h [ ]

module _ (vs shapes : List Vertex) (gates : List PatternGate) (choices : List Choice) (n : ℕ) (arena : IsArena vs) (lt : n < length vs) (sound : AllByRecursion (IsUsable shapes) gates)
    (table : (m : ℕ) → m < n → Least (tiles shapes gates) (tree_at vs m) (cost_at choices m)) where
  least_table : (ns : List ℕ) → AllByRecursion (λ m. m < n) ns → LeastOfAll (tiles shapes gates) (trees_of vs ns) (sum_by (cost_at choices) ns)
  unfolding LeastOfAll
  least_table [] below = refl
  least_table (m ∷ ns) below = (cost_at choices m, sum_by (cost_at choices) ns, table m below.0, least_table ns below.1, sum_by-cons (cost_at choices) m ns)

  -- a pin that is bound in a match has a lower number, and is one of the gate's
  matched_pin : (p : Tree ℕ) (b : Binding) (pin m : ℕ) → IsProper p → In b (matched vs p n) → slice_get b.pins pin ≡ Some (Some m) → (m < n) × HasLeaf pin p
  matched_pin p b pin m proper inside at = elim (grown_binds vs arena p n (start ∷ []) b pin m inside at) as (λ _. (m < n) × HasLeaf pin p) [
    | inl (le, leaf, lower) ↦ (lower proper, leaf)
    | inr (c, there, e) ↦ absurd (not_start c pin m there e)
  ]

  pub stands_from : (place : ℕ) (c : Choice) → FromGates vs shapes choices gates n place c → Stands (tiles shapes gates) (tree_at vs n) c.cost c.place (trees_of vs c.pins) × AllByRecursion (λ m. m < n) c.pins
  stands_from place c (gate, at_gate, (k, k_lt, (pattern, at_pattern, (proper, (j, j_lt, (b, at_b, from)))))) = (
    record {
      tile = tile_of shapes gate;
      there = ap (slice_get (tiles shapes gates)) from.at ∙ get_map (tile_of shapes) gates place gate at_gate;
      fits = record {
        pins = length-map c.pins (tree_at vs) ∙ from.count;
        pattern = p;
        listed = get_contains p (trees_of shapes gate.patterns) k (get_map (tree_at shapes) gate.patterns k pattern at_pattern);
        proper = proper;
        matches = matches;
      };
      rest = sum_by (cost_at choices) c.pins;
      cheapest = least_table c.pins below;
      sum = from.sum;
    },
    below,
  )
    where
      p : Tree ℕ
      p = tree_at shapes pattern

      leaves : (pin : ℕ) → HasLeaf pin p ↔ (pin < gate.pins)
      leaves = get_all (λ (q : Tree ℕ). (pin : ℕ) → HasLeaf pin q ↔ (pin < gate.pins)) (trees_of shapes gate.patterns) k p (get_all (IsUsable shapes) gates place gate sound at_gate).leaves
          (get_map (tree_at shapes) gate.patterns k pattern at_pattern)

      inside : In b (matched vs p n)
      inside = contains_in b (matched vs p n) (get_contains b (matched vs p n) j at_b)

      number_of : (i m : ℕ) → slice_get c.pins i ≡ Some m → slice_get b.pins i ≡ Some (Some m)
      number_of i m at = bound_is b i m (from.binds i (slice_get_within c.pins i m at) ∙ at)

      below : AllByRecursion (λ m. m < n) c.pins
      below = all_gets (λ m. m < n) c.pins (λ i m at. (matched_pin p b i m proper inside (number_of i m at)).0)

      agrees : Agrees vs b (trees_of vs c.pins)
      agrees pin m at =
          let (lower, leaf) = matched_pin p b pin m proper inside at in
          let (x, e) = get_some c.pins pin (omega (arith, (leaves pin).0 leaf, from.count)) in
          let same : x ≡ m = same_Some x m (same_Some (Some x) (Some m) (sym (number_of pin x e) ∙ at)) in
          (omega (arith, lower, lt), get_map (tree_at vs) c.pins pin m (e ∙ ap (λ (y : ℕ). Some y) same))

      matches : Matches p (tree_at vs n) (trees_of vs c.pins)
      matches =
          let (d, there, extends, holds) = grown_sound vs arena p n (start ∷ []) b lt inside in
          holds (trees_of vs c.pins) agrees

  -- what a gate that fits gives: the numbers of the trees at its pins, and the choice of them
  pub record Fitted (gate : PatternGate) (q : ℕ) (us : List (Tree ℕ)) : Type 0 where
    pub numbers : List ℕ
    pub trees : trees_of vs numbers ≡ us
    pub below : AllByRecursion (λ m. m < n) numbers
    pub opens : (d : ℕ) → d ≡ gate.area + sum_by (cost_at choices) numbers → FromGates vs shapes choices gates n q (record { cost = d; place = q; pins = numbers })

  fitted_by : (gate : PatternGate) (q k pattern : ℕ) (us : List (Tree ℕ)) → slice_get gates q ≡ Some gate → slice_get gate.patterns k ≡ Some pattern → IsProper (tree_at shapes pattern) → Matches (tree_at shapes pattern) (tree_at vs n) us → length us ≡ gate.pins
      → Fitted gate q us
  fitted_by gate q k pattern us at_gate at_pattern proper matches count =
      let ok : IsUsable shapes gate = get_all (IsUsable shapes) gates q gate sound at_gate in
      let leaves : ((pin : ℕ) → HasLeaf pin (tree_at shapes pattern) ↔ (pin < gate.pins)) =
      get_all (λ (t : Tree ℕ). (pin : ℕ) → HasLeaf pin t ↔ (pin < gate.pins)) (trees_of shapes gate.patterns) k (tree_at shapes pattern) ok.leaves (get_map (tree_at shapes) gate.patterns k pattern at_pattern) in
      let few : gate.pins ≤ MAX_PINS = ok.few in
      let (b, inside, agrees) = grown_complete vs arena (tree_at shapes pattern) n MAX_PINS (start ∷ []) us lt (pins_below MAX_PINS (tree_at shapes pattern) (λ pin h. omega (arith, (leaves pin).0 h, few))) start_wide matches
      (start, inl refl, λ pin m at. absurd (nothing_bound MAX_PINS pin m at)) in
      let (j, at_b) = contains_get b (matched vs (tree_at shapes pattern) n) (in_contains b (matched vs (tree_at shapes pattern) n) inside) in
      let (ns, len, gets) = listed_below gate.pins (bound_at b) (λ i i_lt. let (m, e) = leaf_bound vs arena (tree_at shapes pattern) n (start ∷ []) b i lt ((leaves i).1 i_lt) inside in (m, is_bound b i m e)) in
      let number_of : ((i m : ℕ) → slice_get ns i ≡ Some m → slice_get b.pins i ≡ Some (Some m)) = λ i m at. bound_is b i m (gets i (omega (arith, slice_get_within ns i m at, len)) ∙ at) in
      record {
        numbers = ns;
        trees = same_gets (trees_of vs ns) us (length-map ns (tree_at vs) ∙ (len ∙ sym count))
            (λ i x at. let (m, at_m, f) = from_get_map (tree_at vs) ns i x at in (agrees i m (number_of i m at_m)).1 ∙ ap (λ (t : Tree ℕ). Some t) f);
        below = all_gets (λ m. m < n) ns (λ i m at. (matched_pin (tree_at shapes pattern) b i m proper inside (number_of i m at)).0);
        opens = λ d sum. (
          gate,
          at_gate,
          (
            k,
            slice_get_within gate.patterns k pattern at_pattern,
            (
              pattern,
              at_pattern,
              (proper, (j, slice_get_within (matched vs (tree_at shapes pattern) n) j b at_b, (b, at_b, record { at = refl; count = len; binds = λ pin l. gets pin (omega (arith, l, len)); sum = sum }))),
            ),
          ),
        );
      }

  pub fitted : (gate : PatternGate) (q : ℕ) (us : List (Tree ℕ)) → slice_get gates q ≡ Some gate → Fits (tile_of shapes gate) (tree_at vs n) us → Fitted gate q us
  fitted gate q us at_gate fits =
      let (k, at_k) = contains_get fits.pattern (trees_of shapes gate.patterns) fits.listed in
      let (pattern, at_pattern, f) = from_get_map (tree_at shapes) gate.patterns k fits.pattern at_k in
      fitted_by gate q k pattern us at_gate at_pattern (subst IsProper (sym f) fits.proper) (subst (λ (p : Tree ℕ). Matches p (tree_at vs n) us) (sym f) fits.matches) fits.pins

  pub have_least : HaveLeast (tiles shapes gates) (tree_at vs n)
  have_least tile us there fits =
      let (q, at) = contains_get tile (tiles shapes gates) there in
      let (gate, at_gate, e) = from_get_map (tile_of shapes) gates q tile at in
      let f : Fitted gate q us = fitted gate q us at_gate (subst (λ (t : Tile). Fits t (tree_at vs n) us) (sym e) fits) in
      (sum_by (cost_at choices) f.numbers, subst (λ (ts : List (Tree ℕ)). LeastOfAll (tiles shapes gates) ts (sum_by (cost_at choices) f.numbers)) f.trees (least_table f.numbers f.below))

  -- each choice that stands comes from a match
  pub from_stands : (d q : ℕ) (us : List (Tree ℕ)) → Stands (tiles shapes gates) (tree_at vs n) d q us
      → (ns : List ℕ) × (trees_of vs ns ≡ us) × Below (length gates) (FromGates vs shapes choices gates n) (record { cost = d; place = q; pins = ns })
  from_stands d q us s =
      let (gate, at_gate, e) = from_get_map (tile_of shapes) gates q s.tile s.there in
      let f : Fitted gate q us = fitted gate q us at_gate (subst (λ (t : Tile). Fits t (tree_at vs n) us) (sym e) s.fits) in
      let least : LeastOfAll (tiles shapes gates) us (sum_by (cost_at choices) f.numbers) = subst (λ (ts : List (Tree ℕ)). LeastOfAll (tiles shapes gates) ts (sum_by (cost_at choices) f.numbers)) f.trees (least_table f.numbers f.below) in
      let rest : s.rest ≡ sum_by (cost_at choices) f.numbers = leasts-one (tiles shapes gates) us s.rest (sum_by (cost_at choices) f.numbers) s.cheapest least in
      let sum : d ≡ gate.area + sum_by (cost_at choices) f.numbers = s.sum ∙ (ap (λ (t : Tile). t.area + s.rest) (sym e) ∙ ap (λ (r : ℕ). gate.area + r) rest) in
      (f.numbers, f.trees, (q, slice_get_within gates q gate at_gate, f.opens d sum))
