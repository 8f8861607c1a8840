use Rattle.std.proofs.Common.{ℕ, ◌+◌, map, ap, nat_cmp}
use Rattle.std.specs.List.{sum_by}
use Rattle.std.specs.List.Sorted.{IsStrictlySortedBy}
use Rattle.std.proofs.lemmas.Result.{on_ok_weaker}
use Rattle.net_gains.specs.Totals.{total_of}
use Rattle.net_gains.specs.Gains.{over_pairs}
use Rattle.net_gains.specs.CodedGains.{sum_gain}
use Rattle.net_gains.specs.Turning.{beside, paired_products, paired_gains}
use Rattle.net_gains.proofs.Pairing.{all_mapped, pairs_mapped, across_mapped}
use Rattle.net_gains.proofs.Turned.{allowed_first, allowed_then, turned_then}
use Rattle.net_gains.proofs.pairs.note_with.Goals as goal

pub note_within-requires-clause-items : goal.note_within-requires-clause-items
note_within-requires-clause-items c = all_mapped (λ cube. cube.items) (IsStrictlySortedBy nat_cmp) c.args.cubes.now c.requires.cubes

pub note_within-requires-clause-allowed : goal.note_within-requires-clause-allowed
note_within-requires-clause-allowed c =
    allowed_first c.args.change (total_of c.args.totals.now) (λ cover. paired_gains cover (map (λ cube. cube.items) c.args.cubes.now) (map (λ cube. cube.items) c.args.others.now) (map (λ cube. cube.items) c.args.partners.now)) (λ cover. over_pairs (λ one other. sum_gain cover one.items other.items) c.args.cubes.now)
    (λ cover. beside cover (map (λ cube. cube.items) c.args.cubes.now) (map (λ cube. cube.items) c.args.others.now) + paired_products cover (map (λ cube. cube.items) c.args.cubes.now) (map (λ cube. cube.items) c.args.partners.now)) c.requires.allowed
    (λ cover. ap (λ (n : ℕ). n + (beside cover (map (λ cube. cube.items) c.args.cubes.now) (map (λ cube. cube.items) c.args.others.now) + paired_products cover (map (λ cube. cube.items) c.args.cubes.now) (map (λ cube. cube.items) c.args.partners.now))) (pairs_mapped (λ cube. cube.items) (sum_gain cover) c.args.cubes.now))

pub note_across-requires-clause-items : goal.note_across-requires-clause-items
note_across-requires-clause-items c = all_mapped (λ cube. cube.items) (IsStrictlySortedBy nat_cmp) c.args.cubes.now c.requires.cubes

pub note_across-requires-clause-others : goal.note_across-requires-clause-others
note_across-requires-clause-others c = all_mapped (λ cube. cube.items) (IsStrictlySortedBy nat_cmp) c.args.others.now c.requires.others

pub note_across-requires-clause-allowed : goal.note_across-requires-clause-allowed
note_across-requires-clause-allowed c =
    allowed_first c.args.change (total_of c.note_within.new.totals) (λ cover. beside cover (map (λ cube. cube.items) c.args.cubes.now) (map (λ cube. cube.items) c.args.others.now) + paired_products cover (map (λ cube. cube.items) c.args.cubes.now) (map (λ cube. cube.items) c.args.partners.now)) (λ cover. sum_by (λ one. sum_by (λ other. sum_gain cover one.items other.items) c.args.others.now) c.args.cubes.now)
    (λ cover. paired_products cover (map (λ cube. cube.items) c.args.cubes.now) (map (λ cube. cube.items) c.args.partners.now))
    (allowed_then c.args.change (total_of c.args.totals.now) (total_of c.note_within.new.totals) (λ cover. paired_gains cover (map (λ cube. cube.items) c.args.cubes.now) (map (λ cube. cube.items) c.args.others.now) (map (λ cube. cube.items) c.args.partners.now)) (λ cover. over_pairs (λ one other. sum_gain cover one.items other.items) c.args.cubes.now)
    (λ cover. beside cover (map (λ cube. cube.items) c.args.cubes.now) (map (λ cube. cube.items) c.args.others.now) + paired_products cover (map (λ cube. cube.items) c.args.cubes.now) (map (λ cube. cube.items) c.args.partners.now)) c.requires.allowed c.in_ok-note_within.ensures
    (λ cover. ap (λ (n : ℕ). n + (beside cover (map (λ cube. cube.items) c.args.cubes.now) (map (λ cube. cube.items) c.args.others.now) + paired_products cover (map (λ cube. cube.items) c.args.cubes.now) (map (λ cube. cube.items) c.args.partners.now))) (pairs_mapped (λ cube. cube.items) (sum_gain cover) c.args.cubes.now)))
    (λ cover. ap (λ (n : ℕ). n + paired_products cover (map (λ cube. cube.items) c.args.cubes.now) (map (λ cube. cube.items) c.args.partners.now)) (across_mapped (λ cube. cube.items) (sum_gain cover) c.args.cubes.now c.args.others.now))

pub note_paired_products-requires-clause-allowed : goal.note_paired_products-requires-clause-allowed
note_paired_products-requires-clause-allowed c =
    allowed_then c.args.change (total_of c.note_within.new.totals) (total_of c.note_across.new.totals) (λ cover. beside cover (map (λ cube. cube.items) c.args.cubes.now) (map (λ cube. cube.items) c.args.others.now) + paired_products cover (map (λ cube. cube.items) c.args.cubes.now) (map (λ cube. cube.items) c.args.partners.now)) (λ cover. sum_by (λ one. sum_by (λ other. sum_gain cover one.items other.items) c.args.others.now) c.args.cubes.now)
    (λ cover. paired_products cover (map (λ cube. cube.items) c.args.cubes.now) (map (λ cube. cube.items) c.args.partners.now))
    (allowed_then c.args.change (total_of c.args.totals.now) (total_of c.note_within.new.totals) (λ cover. paired_gains cover (map (λ cube. cube.items) c.args.cubes.now) (map (λ cube. cube.items) c.args.others.now) (map (λ cube. cube.items) c.args.partners.now)) (λ cover. over_pairs (λ one other. sum_gain cover one.items other.items) c.args.cubes.now)
    (λ cover. beside cover (map (λ cube. cube.items) c.args.cubes.now) (map (λ cube. cube.items) c.args.others.now) + paired_products cover (map (λ cube. cube.items) c.args.cubes.now) (map (λ cube. cube.items) c.args.partners.now)) c.requires.allowed c.in_ok-note_within.ensures
    (λ cover. ap (λ (n : ℕ). n + (beside cover (map (λ cube. cube.items) c.args.cubes.now) (map (λ cube. cube.items) c.args.others.now) + paired_products cover (map (λ cube. cube.items) c.args.cubes.now) (map (λ cube. cube.items) c.args.partners.now))) (pairs_mapped (λ cube. cube.items) (sum_gain cover) c.args.cubes.now))) c.in_ok-note_across.ensures
    (λ cover. ap (λ (n : ℕ). n + paired_products cover (map (λ cube. cube.items) c.args.cubes.now) (map (λ cube. cube.items) c.args.partners.now)) (across_mapped (λ cube. cube.items) (sum_gain cover) c.args.cubes.now c.args.others.now))

pub returns : goal.returns
returns c =
    on_ok_weaker c.note_paired_products.result
    (λ turned.
    turned_then c.args.change (total_of c.args.totals.now) (total_of c.note_within.new.totals) (total_of c.note_paired_products.new.totals) (λ cover. paired_gains cover (map (λ cube. cube.items) c.args.cubes.now) (map (λ cube. cube.items) c.args.others.now) (map (λ cube. cube.items) c.args.partners.now)) (λ cover. over_pairs (λ one other. sum_gain cover one.items other.items) c.args.cubes.now)
    (λ cover. beside cover (map (λ cube. cube.items) c.args.cubes.now) (map (λ cube. cube.items) c.args.others.now) + paired_products cover (map (λ cube. cube.items) c.args.cubes.now) (map (λ cube. cube.items) c.args.partners.now)) c.in_ok-note_within.ensures
    (turned_then c.args.change (total_of c.note_within.new.totals) (total_of c.note_across.new.totals) (total_of c.note_paired_products.new.totals) (λ cover. beside cover (map (λ cube. cube.items) c.args.cubes.now) (map (λ cube. cube.items) c.args.others.now) + paired_products cover (map (λ cube. cube.items) c.args.cubes.now) (map (λ cube. cube.items) c.args.partners.now)) (λ cover. sum_by (λ one. sum_by (λ other. sum_gain cover one.items other.items) c.args.others.now) c.args.cubes.now)
    (λ cover. paired_products cover (map (λ cube. cube.items) c.args.cubes.now) (map (λ cube. cube.items) c.args.partners.now)) c.in_ok-note_across.ensures turned
    (λ cover. ap (λ (n : ℕ). n + paired_products cover (map (λ cube. cube.items) c.args.cubes.now) (map (λ cube. cube.items) c.args.partners.now)) (across_mapped (λ cube. cube.items) (sum_gain cover) c.args.cubes.now c.args.others.now)))
    (λ cover. ap (λ (n : ℕ). n + (beside cover (map (λ cube. cube.items) c.args.cubes.now) (map (λ cube. cube.items) c.args.others.now) + paired_products cover (map (λ cube. cube.items) c.args.cubes.now) (map (λ cube. cube.items) c.args.partners.now))) (pairs_mapped (λ cube. cube.items) (sum_gain cover) c.args.cubes.now)))
    c.note_paired_products.ensures
