use Rattle.std.proofs.Common.{◌≡◌, rules, if◌then◌else◌, ◌∙◌, subst, ℕ, ◌<◌}
use Rattle.func_shared.proofs.Sharing.{shared_means, constant_tree, constant_number}
use Rattle.func_shared.proofs.shared.SharedFunctionsFunctions.constant.Goals as goal

pub returns-clause-ok : goal.returns-clause-ok
returns-clause-ok c =
    let e : c.from.result ≡ (if c.args.value then 1 else 0) = search rules in
    shared_means c.stand.new.self _ _ _ _ _ c.stand.ensures.nodes (constant_number _ c.args.value)
    (c.stand.ensures.same ∙ e) (subst (λ (n : ℕ). n < c.stand.new.self.standing) e
    c.stand.ensures.stands) (constant_tree c.args.value)
