use Rattle.std.proofs.Common.{◌≡◌, ℤ, Ok, IfOk, not, ◌&&◌, int_lt, subst, w32}
use Rattle.std.proofs.lemmas.Int.{to_z-of_z}
use Rattle.std.proofs.lemmas.Result.{IfOk-weaker}
use Rattle.net_elim.specs.Waiting.{when, worth_at}
use Rattle.net_elim.proofs.Steps.{worth_answered}
use Rattle.net_elim.proofs.eliminating.worth_of.Goals as goal

pub returns-in-Some : goal.returns-in-Some
returns-in-Some g c =
    IfOk-weaker c.counted.result (λ made. (worth : ℤ) × (c.value.result ≡ Ok worth) × (made ≡ when (c.is_inner.result && not (int_lt c.args.threshold worth)) worth))
    (λ value. value ≡ worth_at c.args.threshold c.args.work.now c.args.place)
    (λ made h. worth_answered c.args.threshold c.args.work.now c.args.place c.in-Some.entry.now c.is_inner.result c.value.result made c.in-Some.ensures.table c.is_inner.ensures c.value.ensures h)
    (subst (λ (t : ℤ). IfOk c.counted.result (λ made. (worth : ℤ) × (c.value.result ≡ Ok worth) × (made ≡ when (c.is_inner.result && not (int_lt t worth)) worth)))
    (to_z-of_z w32 c.args.threshold c.ranges.threshold) c.counted.ensures)
