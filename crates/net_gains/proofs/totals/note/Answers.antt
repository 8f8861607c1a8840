use Rattle.std.proofs.Common.{◌≡◌, ℕ, cond, Option, sym, ap, ◌∙◌, subst}
use Rattle.std.specs.Map.{lookup}
use Rattle.std.specs.Prelude.{Some, List, slice_get, unwrap_or}
use Rattle.std.proofs.lemmas.Map.Made.{lookup_key_passes}
use Rattle.std.proofs.lemmas.Option.{slice_get_within}
use Rattle.std.proofs.lemmas.Result.{on_ok_weaker}
use Rattle.net_gains.specs.Orders.{divisor_eq}
use Rattle.net_gains.specs.Totals.{total_at, Allows}
use Rattle.net_gains.specs.declared.divisor.Divisor.{Divisor}
use Rattle.net_gains.proofs.Noting.{allowed_at, changed_totals, total_set}
use Rattle.net_gains.proofs.Ranks.{divisor_same}
use Rattle.net_gains.proofs.totals.note.Goals.{In-None, In-Some}
use Rattle.net_gains.proofs.totals.note.Goals as goal

none : (c : In-None) → 0 ≡ total_at c.args.totals.now c.args.divisor
none c = ap (λ (known : Option ℕ). unwrap_or known 0) (c.in-None.ensures.value ∙ ap (lookup (divisor_eq c.args.divisor)) c.values.ensures)

some : (c : In-Some) → c.in-Some.before.now ≡ total_at c.args.totals.now c.args.divisor
some c = ap (λ (known : Option ℕ). unwrap_or known 0) (c.in-Some.ensures.value ∙ ap (lookup (divisor_eq c.args.divisor)) c.values.ensures)

same : (c : In-Some) → c.args.divisor ≡ c.in-Some._known.now
same c = divisor_same c.args.divisor c.in-Some._known.now (lookup_key_passes (divisor_eq c.args.divisor) c.values.result.now.entries c.in-Some._known.now (sym c.in-Some.ensures.key))

-- the entry of the divisor
entry : (c : In-Some) → slice_get c.args.totals.now c.in-Some.index ≡ Some (c.args.divisor, c.in-Some.before.now)
entry c =
    ap (λ (entries : List (Divisor × ℕ)). slice_get entries c.in-Some.index) (sym c.values.ensures)
    ∙ (c.in-Some.ensures.entry ∙ ap (λ (divisor : Divisor). Some (divisor, c.in-Some.before.now)) (sym (same c)))

pub changed-requires : goal.changed-requires
changed-requires c =
    subst (λ (n : ℕ). Allows c.args.change n c.args.saving) (sym (none (goal.at.changed-requires c).In-None)) (allowed_at c.args.change c.args.totals.now c.args.divisor c.args.saving c.requires)

pub changed-requires-in-Some : goal.changed-requires-in-Some
changed-requires-in-Some c =
    subst (λ (n : ℕ). Allows c.args.change n c.args.saving) (sym (some (goal.at.changed-requires-in-Some c).In-Some)) (allowed_at c.args.change c.args.totals.now c.args.divisor c.args.saving c.requires)

pub returns-in_ok-_none-in-None : goal.returns-in_ok-_none-in-None
returns-in_ok-_none-in-None c =
    changed_totals c.args.change c.args.totals.now c.set.new.self c.args.divisor 0 c.in_ok-total-in-None.total c.args.saving (none (goal.at.returns-in_ok-_none-in-None c).In-None) c.in_ok-total-in-None.ensures
    (λ other.
    ap (λ (known : Option ℕ). unwrap_or known 0) (c.in_ok-_none-in-None.ensures.values other) ∙ total_set (divisor_eq c.in_ok-shared-in-None.shared other) c.in_ok-total-in-None.total (lookup (divisor_eq other) c.args.totals.now)
    ∙ ap (λ (d : Divisor). cond (divisor_eq d other) c.in_ok-total-in-None.total (total_at c.args.totals.now other)) c.in_ok-shared-in-None.ensures)

pub set_total-requires : goal.set_total-requires
set_total-requires c =
    let at = (goal.at.set_total-requires c).In-Some in
    slice_get_within c.args.totals.now c.in-Some.index (c.args.divisor, c.in-Some.before.now) (entry at)

pub returns-in_ok-total-in-Some : goal.returns-in_ok-total-in-Some
returns-in_ok-total-in-Some c =
    let at = (goal.at.returns-in_ok-total-in-Some c).In-Some in
    on_ok_weaker c.set_total.result
    (λ told.
    changed_totals c.args.change c.args.totals.now c.set_total.new.totals c.args.divisor c.in-Some.before.now c.in_ok-total-in-Some.total c.args.saving (some at) c.in_ok-total-in-Some.ensures (told c.args.divisor c.in-Some.before.now (entry at)))
    c.set_total.ensures
