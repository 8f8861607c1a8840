-- The first cover of a ranking by numbers that passes is the first by names.
use Rattle.std.proofs.Common.{◌≡◌, ℕ, ◌+◌, ◌-◌, ◌<◌, ◌≤◌, zero, suc, true, Option, Some, List, [], ◌∷◌, map, nat_cmp, Ordering, Less, Equal, Greater, refl, sym, ap, ap₂, ◌∙◌, subst, arith}
use Rattle.std.specs.List.{AllByRecursion, sum_by}
use Rattle.std.specs.declared.cmp.Reverse.{Reverse}
use Rattle.std.proofs.lemmas.Cmp.{ranked}
use Rattle.std.proofs.lemmas.List.Sums.{sum_by-cons}
use Rattle.net_queue.specs.Greatest.{reversed, greatest_cmp}
use Rattle.net_queue.specs.Queue.{value_in, rank_in, IsBest}
use Rattle.net_gains.specs.CodedGains.{lists_cmp, gains as gains_of}
use Rattle.net_gains.specs.Divisors.{cover_of, divisor_cmp}
use Rattle.net_gains.specs.Orders.{divisor_eq}
use Rattle.net_gains.specs.Totals.{total_of, total_at, rank_of}
use Rattle.net_gains.specs.declared.divisor.Divisor.{Divisor}
use Rattle.net_candidates.specs.Candidates.{literals_in}
use Rattle.net_candidates.proofs.Usable.{all_member, all_pair}
use Rattle.cover_names.specs.Literals.{Cube, NamedCover, cover_cmp}
use Rattle.net_gains.specs.Gains.{over_pairs, sum_gain, product_gain, gains}
use Rattle.net_gains.proofs.Found.{some_item, some_pair, partners_gain, product_is, gaining_literal}
use Rattle.net_gains.specs.Codes.{AreRising, coded, are_coded}
use Rattle.net_gains.proofs.Coded.{Known, KnownCube, KnownCover, cover_known, known_cover, sum_known, codes_gains, codes_literals, covers_keep, gaining_coded}
use Rattle.net_gains.proofs.Noting.{cover_is, divisor_of}
use Rattle.net_gains.proofs.Ranks.{covers_cmp, rank_here, rank_told}
use Rattle.net_gains.specs.Kept.{Kept, total, Saves, IsFirst}
use Rattle.net_gains.specs.Numbers.{tables_in, cubes_at, IsKept, DoesPass}
use Rattle.net_gains.specs.declared.counted.Counted.{Counted}
use Rattle.net_gains.proofs.Decoded.{cubes_known}

-- ---- what gains in known cubes is known

module _ (names : List (List ℕ)) (rising : AreRising names) where
  gaining_known : (cover : NamedCover) (cubes : List Cube) → KnownCover names cubes → 0 < gains cover cubes → KnownCover names cover
  unfolding gains
  gaining_known cover cubes all h = cases (over_pairs (sum_gain cover) cubes) refl
    where
      cases : (n : ℕ) → over_pairs (sum_gain cover) cubes ≡ n → KnownCover names cover
      cases zero e =
          let (cube, among, gain) = some_item (over_pairs (product_gain cover)) cubes (omega (arith, h, e)) in
          let found = some_pair (product_gain cover) cube gain in
          let both = all_pair (Known names) cube found.one found.other (all_member (KnownCube names) cubes all cube among) found.pair in
          subst (KnownCover names) (sym (product_is cover found.one found.other found.gains)) ((both.0, (both.1, tt)), tt)
      cases (suc n) e =
          let found = some_pair (sum_gain cover) cubes (omega (arith, e)) in
          let are = partners_gain cover found.one found.other found.gains in
          let both = all_pair (KnownCube names) cubes found.one found.other all found.pair in
          subst (KnownCover names) (sym are.is) (sum_known names rising found.one found.other both.0 both.1)

  -- ---- sums over tables by names and by numbers

  abbrev pub AreKnown : List (List (List ℕ)) → Type 0
  AreKnown tables = AllByRecursion (λ (cubes : List (List ℕ)). are_coded names cubes ≡ true) tables

  table_coded : (cover : NamedCover) (cubes : List (List ℕ)) → KnownCover names cover → are_coded names cubes ≡ true → gains_of (coded names cover) cubes ≡ gains cover (cubes_at names cubes)
  table_coded cover cubes known h =
      let back = cubes_known names rising cubes h in
      ap (gains_of (coded names cover)) (sym back.1) ∙ codes_gains names rising cover (cubes_at names cubes) known (cover_known names (cubes_at names cubes) back.0)

  tables_coded : (cover : NamedCover) (tables : List (List (List ℕ))) → KnownCover names cover → AreKnown tables
      → sum_by (gains_of (coded names cover)) tables ≡ sum_by (gains cover) (map (cubes_at names) tables)
  tables_coded cover [] known all = refl
  tables_coded cover (cubes ∷ tables) known all =
      sum_by-cons (gains_of (coded names cover)) cubes tables
      ∙ ap₂ (λ (m n : ℕ). m + n) (table_coded cover cubes known all.0) (tables_coded cover tables known all.1)
      ∙ sym (sum_by-cons (gains cover) (cubes_at names cubes) (map (cubes_at names) tables))

  saving_known : (cover : NamedCover) (tables : List (List (List ℕ))) → AreKnown tables → 0 < sum_by (gains cover) (map (cubes_at names) tables) → KnownCover names cover
  saving_known cover [] all h = absurd (omega (arith, h))
  saving_known cover (cubes ∷ tables) all h = cases (gains cover (cubes_at names cubes)) refl (saving_known cover tables all.1)
    where
      cases : (n : ℕ) → gains cover (cubes_at names cubes) ≡ n → (0 < sum_by (gains cover) (map (cubes_at names) tables) → KnownCover names cover) → KnownCover names cover
      cases zero e rest = rest (omega (arith, h, e, sum_by-cons (gains cover) (cubes_at names cubes) (map (cubes_at names) tables)))
      cases (suc n) e rest = gaining_known cover (cubes_at names cubes) (cover_known names (cubes_at names cubes) (cubes_known names rising cubes all.0).0) (omega (arith, e))

  -- numbers that save are at least one
  some_numbers : (numbers : List (List ℕ)) (tables : List (List (List ℕ))) → AreKnown tables → 0 < sum_by (gains_of numbers) tables → 1 ≤ literals_in numbers
  some_numbers numbers [] all h = absurd (omega (arith, h))
  some_numbers numbers (cubes ∷ tables) all h = cases (gains_of numbers cubes) refl (some_numbers numbers tables all.1)
    where
      cases : (n : ℕ) → gains_of numbers cubes ≡ n → (0 < sum_by (gains_of numbers) tables → 1 ≤ literals_in numbers) → 1 ≤ literals_in numbers
      cases zero e rest = rest (omega (arith, h, e, sum_by-cons (gains_of numbers) cubes tables))
      cases (suc n) e rest =
          let back = cubes_known names rising cubes all.0 in
          let known : KnownCover names (cubes_at names cubes) = cover_known names (cubes_at names cubes) back.0 in
          let own =
          cubes_known names rising numbers
          (gaining_coded names rising numbers (cubes_at names cubes) known (subst (λ (xs : List (List ℕ)). 0 < gains_of numbers xs) (sym back.1) (omega (arith, e)))) in
          let cover : NamedCover = cubes_at names numbers in
          let same : gains_of numbers cubes ≡ gains cover (cubes_at names cubes) =
          ap (λ (xs : List (List ℕ)). gains_of xs cubes) (sym own.1) ∙ table_coded cover cubes (cover_known names cover own.0) all.0 in
          let literals : literals_in numbers ≡ literals_in cover = ap literals_in (sym own.1) ∙ codes_literals names cover in
          omega (arith, literals, gaining_literal cover (cubes_at names cubes) (omega (arith, e, same)))

-- ---- the first that passes

module _ (names : List (List ℕ)) (rising : AreRising names) (counted : Counted) (is : IsKept names counted) (Passes : NamedCover → Type 0) where
  abbrev pub kept : Kept
  kept = record { names = names; tables = map (cubes_at names) (tables_in counted.tables.items) }

  -- the ranks of divisors
  abbrev pub ranks : Divisor → Option (Reverse ℕ)
  ranks = rank_in divisor_eq rank_of counted.totals

  -- the cover of a divisor passes
  abbrev pub PassesAt : Divisor → Type 0
  PassesAt divisor = (cover : NamedCover) × DoesPass Passes names (cover_of divisor) cover

  known_of : (cover : NamedCover) → Saves kept cover → KnownCover names cover
  known_of cover saves = saving_known names rising cover (tables_in counted.tables.items) is.known (omega (arith, saves))

  total_is : (cover : NamedCover) → KnownCover names cover → total_of counted.totals (coded names cover) ≡ total kept cover
  total_is cover known = is.sums.totals (coded names cover) ∙ tables_coded names rising cover (tables_in counted.tables.items) known is.known

  -- what a divisor with a rank saves
  rank_saves : (divisor : Divisor) (rank : Reverse ℕ) → ranks divisor ≡ Some rank
      → (literals_in (cover_of divisor) < total_of counted.totals (cover_of divisor)) × (total_of counted.totals (cover_of divisor) - literals_in (cover_of divisor) ≡ rank.0)
  rank_saves divisor rank has =
      subst (λ (n : ℕ). (literals_in (cover_of divisor) < n) × (n - literals_in (cover_of divisor) ≡ rank.0)) (sym (cover_is divisor counted.totals))
      (rank_told divisor (value_in divisor_eq counted.totals divisor) rank has)

  -- a divisor with a rank has a number
  pub ranked_long : (divisor : Divisor) (rank : Reverse ℕ) → ranks divisor ≡ Some rank → 1 ≤ literals_in (cover_of divisor)
  ranked_long divisor rank has =
      some_numbers names rising (cover_of divisor) (tables_in counted.tables.items) is.known (let saves = (rank_saves divisor rank has).0 in omega (arith, saves, is.sums.totals (cover_of divisor)))

  -- a cover that saves is that of a divisor with a rank
  record IsSaving (cover : NamedCover) : Type 0 where
    divisor : Divisor
    are : coded names cover ≡ cover_of divisor
    has : ranks divisor ≡ Some (reversed (total kept cover - literals_in cover))

  saving : (cover : NamedCover) → Saves kept cover → IsSaving cover
  saving cover saves =
      let all : total_of counted.totals (coded names cover) ≡ total kept cover = total_is cover (known_of cover saves) in
      let own : literals_in (coded names cover) ≡ literals_in cover = codes_literals names cover in
      let (divisor, are) = divisor_of counted.totals (coded names cover) (omega (arith, saves, all, own)) in
      let total_here : total_at counted.totals divisor ≡ total kept cover = sym (cover_is divisor counted.totals) ∙ (ap (total_of counted.totals) (sym are) ∙ all) in
      let own_here : literals_in (cover_of divisor) ≡ literals_in cover = ap literals_in (sym are) ∙ own in
      record {
        divisor = divisor;
        are = are;
        has = rank_here divisor (value_in divisor_eq counted.totals divisor) (omega (arith, saves, total_here, own_here))
            ∙ ap₂ (λ (m n : ℕ). Some (reversed (m - n))) total_here own_here;
      }

  passes_at : (cover : NamedCover) (saves : Saves kept cover) → Passes cover → PassesAt (saving cover saves).divisor
  passes_at cover saves passes = (cover, record { known = known_cover names cover (known_of cover saves); are = (saving cover saves).are; passes = passes })

  pub none_passes : ((divisor : Divisor) (rank : Reverse ℕ) → PassesAt divisor → ranks divisor ≡ Some rank → ⊥) → (cover : NamedCover) → Saves kept cover → Passes cover → ⊥
  none_passes none cover saves passes = none (saving cover saves).divisor (reversed (total kept cover - literals_in cover)) (passes_at cover saves passes) (saving cover saves).has

  module _ (divisor : Divisor) (best : IsBest greatest_cmp divisor_cmp ranks PassesAt divisor) (cover : NamedCover) (does : DoesPass Passes names (cover_of divisor) cover) where
    known_here : KnownCover names cover
    known_here = cover_known names cover does.known

    total_here : total_of counted.totals (cover_of divisor) ≡ total kept cover
    total_here = ap (total_of counted.totals) (sym does.are) ∙ total_is cover known_here

    literals_here : literals_in (cover_of divisor) ≡ literals_in cover
    literals_here = ap literals_in (sym does.are) ∙ codes_literals names cover

    saves_here : Saves kept cover
    saves_here = let saves = (rank_saves divisor best.rank best.here).0 in omega (arith, saves, total_here, literals_here)

    rank_is : total kept cover - literals_in cover ≡ best.rank.0
    rank_is = let told = (rank_saves divisor best.rank best.here).1 in omega (arith, told, total_here, literals_here)

    most_here : (other : NamedCover) → Saves kept other → Passes other → total kept other + literals_in cover ≤ total kept cover + literals_in other
    most_here other saves passes = cases (nat_cmp (total kept cover - literals_in cover) (total kept other - literals_in other)) refl
      where
        cases : (o : Ordering) → o ≡ nat_cmp (total kept cover - literals_in cover) (total kept other - literals_in other) → total kept other + literals_in cover ≤ total kept cover + literals_in other
        cases Less e =
            absurd
            (best.no_lesser (saving other saves).divisor (reversed (total kept other - literals_in other)) (passes_at other saves passes) (saving other saves).has
            (ap (λ (n : ℕ). nat_cmp n (total kept other - literals_in other)) (sym rank_is) ∙ sym e))
        cases Equal e = let same = ranked (total kept cover - literals_in cover) (total kept other - literals_in other) Equal e in omega (arith, same, saves, saves_here)
        cases Greater e = let more = ranked (total kept cover - literals_in cover) (total kept other - literals_in other) Greater e in omega (arith, more, saves, saves_here)

    first_here : (other : NamedCover) → Saves kept other → Passes other → total kept other + literals_in cover ≡ total kept cover + literals_in other → cover_cmp other cover ≡ Less → ⊥
    first_here other saves passes equal less =
        let level : total kept other - literals_in other ≡ best.rank.0 = omega (arith, equal, saves, saves_here, rank_is) in
        best.no_earlier (saving other saves).divisor (passes_at other saves passes)
        ((saving other saves).has ∙ ap (λ (n : ℕ). Some (reversed n)) level)
        (sym (covers_cmp (saving other saves).divisor.first (saving other saves).divisor.second divisor.first divisor.second)
        ∙ (ap₂ lists_cmp (sym (saving other saves).are) (sym does.are) ∙ ((covers_keep names rising).at other cover (known_of other saves) known_here ∙ less)))

    pub first_is : IsFirst Passes kept cover
    first_is = record { saves = saves_here; passes = does.passes; most = most_here; first = first_here }
