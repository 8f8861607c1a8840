use Rattle.std.proofs.Common.{◌≡◌, true, ℕ, ◌∙◌, sym, ap, subst}
use Rattle.std.specs.Global.{Vec}
use Rattle.circuit_model.specs.Names.{has}
use Rattle.net_readers.specs.Fanouts.{is_in}
use Rattle.cover_names.specs.Literals.{Cube}
use Rattle.net_savings.specs.Meeting.{is_met}
use Rattle.net_savings.proofs.Refreshed.{all_true, all_settled}
use Rattle.net_savings.proofs.refreshing.refresh.Goals as goal

pub list_places-requires-clause-known : goal.list_places-requires-clause-known
list_places-requires-clause-known g c =
    all_true c.args.rule c.args.work.now c.args.kept.now.ranked c.renew_touched.new.ranked c.args.kept.now.own.items c.args.kept.now.touched.keys (is_met c.args.kept.now.changed.items) c.args.kept.now.fresh.items c.requires.savings c.in_ok-renew_touched.ensures.grown
    (λ under cover h by m. c.in_ok-renew_touched.ensures.right under cover (subst (λ names. has names under ≡ true) (sym (c.as_slice-names.ensures.keys ∙ ap (λ names. names.keys) c.replace-touched.ensures.value)) h)
    (subst (λ (rows : Vec Cube). is_met rows.items cover ≡ true) (sym c.replace-changed.ensures.value) by) m)

pub returns-clause-savings : goal.returns-clause-savings
returns-clause-savings g c =
    all_settled c.args.rule c.args.work.now c.args.kept.now.ranked c.renew_touched.new.ranked c.args.kept.now.own.items c.args.kept.now.touched.keys (is_met c.args.kept.now.changed.items) c.args.kept.now.fresh.items c.requires.savings c.in_ok-renew_touched.ensures.grown
    (λ under cover h by m. c.in_ok-renew_touched.ensures.right under cover (subst (λ names. has names under ≡ true) (sym (c.as_slice-names.ensures.keys ∙ ap (λ names. names.keys) c.replace-touched.ensures.value)) h)
    (subst (λ (rows : Vec Cube). is_met rows.items cover ≡ true) (sym c.replace-changed.ensures.value) by) m)
    c.list_places.new.ranked c.list_places.new.own.items c.in_ok-list_places.ensures.known c.in_ok-list_places.ensures.stays
    (λ at h. c.in_ok-list_places.ensures.listed at (subst (λ places. is_in places at ≡ true) (sym (c.as_slice-2.ensures.value ∙ ap (λ (places : Vec ℕ). places.items) c.replace-fresh.ensures.value)) h))
    c.replace-touched.new.dest.keys (is_met c.replace-changed.new.dest.items) c.replace-fresh.new.dest.items
