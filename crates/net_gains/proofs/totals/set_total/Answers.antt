use Rattle.std.proofs.Common.{◌≡◌, ℕ, cond, Option, sym, ap, ◌∙◌, arith}
use Rattle.std.specs.Map.{lookup}
use Rattle.std.specs.Prelude.{unwrap_or}
use Rattle.std.proofs.lemmas.Result.{on_ok_weaker}
use Rattle.net_gains.specs.Orders.{divisor_eq}
use Rattle.net_gains.specs.Totals.{total_at}
use Rattle.net_gains.proofs.Noting.{total_set, total_gone}
use Rattle.net_gains.proofs.totals.set_total.Goals as goal

pub returns-then-total-eq0 : goal.returns-then-total-eq0
returns-then-total-eq0 c = λ divisor before at other.
    let none : c.args.total ≡ 0 = omega (arith, c.if-total-eq0.true) in
    ap (λ (known : Option ℕ). unwrap_or known 0) (c.remove_index.ensures divisor before at other) ∙ total_gone (divisor_eq divisor other) (lookup (divisor_eq other) c.args.totals.now)
    ∙ ap (λ (total : ℕ). cond (divisor_eq divisor other) total (total_at c.args.totals.now other)) (sym none)

pub returns : goal.returns
returns c =
    on_ok_weaker c.set_index.result
    (λ told divisor before at other.
    ap (λ (known : Option ℕ). unwrap_or known 0) (told divisor before at other) ∙ total_set (divisor_eq divisor other) c.args.total (lookup (divisor_eq other) c.args.totals.now))
    c.set_index.ensures.values
