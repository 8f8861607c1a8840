-- How a change alters the totals, two lists of cubes compared, and products that are left out. No
-- public clause needs it.
use Rattle.std.specs.Prelude.{◌≡◌, ℕ, ◌+◌, min, max, not, List, [], ◌∷◌, drop, slice_index_or, filter, if◌then◌else◌}
use Rattle.std.specs.List.{sum_by}
use Rattle.circuit_model.specs.Names.{has}
use Rattle.net_gains.specs.Gains.{over_pairs}
use Rattle.net_gains.specs.Divisors.{cover_of}
use Rattle.net_gains.specs.CodedGains.{same_lists, own, shared, sum_gain, product_gain, gains}
use Rattle.net_gains.specs.Totals.{Changes, Allows}
use Rattle.net_gains.specs.declared.divisor.Divisor.{Divisor}
use Rattle.net_gains.specs.declared.totals.Change.{Change}
use Rattle.net_gains.specs.declared.totals.Change.TheVariants.{Comes, Goes}

-- the cubes that are among others, and those that are not
abbrev pub among : List (List ℕ) → List (List ℕ) → List (List ℕ)
among others cubes = filter (has others) cubes

abbrev pub apart : List (List ℕ) → List (List ℕ) → List (List ℕ)
apart others cubes = filter (λ cube. not (has others cube)) cubes

-- what the sums of cubes with each of some others save, and what the cubes save with them and among
-- themselves
abbrev pub beside : List (List ℕ) → List (List ℕ) → List (List ℕ) → ℕ
beside cover cubes others = sum_by (λ cube. sum_by (sum_gain cover cube) others) cubes

abbrev pub gains_beside : List (List ℕ) → List (List ℕ) → List (List ℕ) → ℕ
gains_beside cover cubes others = gains cover cubes + beside cover cubes others

-- what the product of two literals saves, in either order
abbrev pub either_gain : List (List ℕ) → ℕ → ℕ → ℕ
either_gain cover one other = product_gain cover (min one other) (max one other)

-- what products save of which a literal is a cube's own besides its partner; a product of two that
-- they share would be subtracted and added again
abbrev pub own_products : List (List ℕ) → List ℕ → List ℕ → ℕ
own_products cover cube partner =
    over_pairs (either_gain cover) (own cube partner) + sum_by (λ number. sum_by (either_gain cover number) (shared cube partner)) (own cube partner)

-- the same for each cube besides the partner at its index; one without a partner shares nothing
unfoldable pub paired_products : List (List ℕ) → List (List ℕ) → List (List ℕ) → ℕ
paired_products cover [] partners = 0
paired_products cover (cube ∷ cubes) partners = own_products cover cube (slice_index_or partners 0 []) + paired_products cover cubes (drop 1 partners)

-- what is counted of cubes: their sums with one another and with each of some others, and their
-- products besides partners
abbrev pub paired_gains : List (List ℕ) → List (List ℕ) → List (List ℕ) → List (List ℕ) → ℕ
paired_gains cover cubes others partners = over_pairs (sum_gain cover) cubes + (beside cover cubes others + paired_products cover cubes partners)

-- what each cover saves
abbrev pub Saving : Type 0
Saving = List (List ℕ) → ℕ

-- what one divisor saves
abbrev pub saved_by : Divisor → ℕ → Saving
saved_by divisor saving cover = if same_lists cover (cover_of divisor) then saving else 0

-- what is subtracted is part of the totals
abbrev pub AreAllowed : Change → Saving → Saving → Type 0
AreAllowed change totals saving = (cover : List (List ℕ)) → Allows change (totals cover) (saving cover)

-- a saving was added to the totals of all covers, or subtracted from them
abbrev pub IsTurned : Change → Saving → Saving → Saving → Type 0
IsTurned change old new saving = (cover : List (List ℕ)) → Changes change (old cover) (saving cover) (new cover)

-- a part of a saving was added or subtracted, and the rest is left
abbrev pub IsPartly : Change → Saving → Saving → Saving → Saving → Type 0
IsPartly Comes old now whole rest = (cover : List (List ℕ)) → now cover + rest cover ≡ old cover + whole cover
IsPartly Goes old now whole rest = (cover : List (List ℕ)) → now cover + whole cover ≡ old cover + rest cover
