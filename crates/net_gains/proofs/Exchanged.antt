-- The totals when the cubes of one list are replaced by those of another one, without the products
-- of literals that partners share.
use Rattle.std.proofs.Common.{◌≡◌, ℕ, ◌+◌, ◌≤◌, true, List, sym, ap₂, ◌∙◌, arith}
use Rattle.circuit_model.specs.Names.{all_different}
use Rattle.net_gains.specs.CodedGains.{gains}
use Rattle.net_gains.specs.Totals.{AreCubes}
use Rattle.net_gains.specs.Turning.{among, apart, gains_beside, paired_gains, Saving, AreAllowed, IsTurned}
use Rattle.net_gains.specs.declared.totals.Change.TheVariants.{Comes, Goes}
use Rattle.net_gains.proofs.Paired.{left_out, left_turned, gains_split}
use Rattle.net_gains.proofs.Parted.{old_parted, new_parted}

module _ (old new gone come kept : List (List ℕ)) (rise : AreCubes old) (once : all_different old ≡ true) (gone_rise : AreCubes gone) (gone_is : gone ≡ apart new old) (kept_is : kept ≡ among new old) where
  goes : (cover : List (List ℕ)) → gains cover old ≡ (paired_gains cover gone kept come + left_out cover gone come) + gains cover kept
  goes cover =
      let whole : gains cover old ≡ gains_beside cover gone kept + gains cover kept =
      old_parted cover old new rise once ∙ ap₂ (λ (ys zs : List (List ℕ)). gains_beside cover ys zs + gains cover zs) (sym gone_is) (sym kept_is) in
      let split : gains_beside cover gone kept ≡ paired_gains cover gone kept come + left_out cover gone come = gains_split cover gone kept come gone_rise in
      omega (arith, whole, split)

  pub gone_allowed : (totals : Saving) → ((cover : List (List ℕ)) → gains cover old ≤ totals cover) → AreAllowed Goes totals (λ cover. paired_gains cover gone kept come)
  gone_allowed totals enough cover = let whole = goes cover in let most = enough cover in omega (arith, whole, most)

  pub exchanged : AreCubes new → all_different new ≡ true → AreCubes come → come ≡ apart old new → (first middle last : Saving)
      → IsTurned Goes first middle (λ cover. paired_gains cover gone kept come) → IsTurned Comes middle last (λ cover. paired_gains cover come kept gone)
      → (cover : List (List ℕ)) → last cover + gains cover old ≡ first cover + gains cover new
  exchanged new_rise new_once come_rise come_is first middle last went came cover =
      let whole = goes cover in
      let more : gains cover new ≡ gains_beside cover come kept + gains cover kept =
      new_parted cover old new rise once new_rise new_once ∙ ap₂ (λ (ys zs : List (List ℕ)). gains_beside cover ys zs + gains cover zs) (sym come_is) (sym kept_is) in
      let split : gains_beside cover come kept ≡ paired_gains cover come kept gone + left_out cover come gone = gains_split cover come kept gone come_rise in
      let same : left_out cover gone come ≡ left_out cover come gone = left_turned cover gone come gone_rise come_rise in
      let down = went cover in
      let up = came cover in
      omega (arith, whole, more, split, same, down, up)
