-- How much is still due: it grows less with each turn.
use Rattle.std.proofs.Common.{◌≡◌, ℕ, ◌+◌, ◌-◌, ◌*◌, ◌≤◌, ◌<◌, zero, suc, List, [], ◌∷◌, ◌++◌, length, refl, sym, ap, subst, ◌∙◌, arith}
use Rattle.std.specs.Prelude.{Bool, true, false, Result, Ok, if◌then◌else◌}
use Rattle.std.proofs.Math.Nat.{mul-le-mul_right}
use Rattle.sis_script.specs.declared.command.Command.{Command}
use Rattle.sis_script.specs.declared.command.Op.{Op}
use Rattle.sis_session.specs.Plan.{NestsBelow}
use Rattle.sis_session.specs.declared.refusal.Next.{Next}
use Rattle.sis_session.specs.declared.refusal.Next.TheVariants as next
use Rattle.sis_top.specs.Machine.{Due, Run, dues, todo_after}
use Rattle.sis_top.specs.Code.{Fits, added_weight, measure, weight, work_weight}
use Rattle.sis_top.specs.declared.halt.Halt.{Halt}

pub weight_both : (first second : List Due) → weight (first ++ second) ≡ weight first + weight second
unfolding weight
weight_both [] second = omega arith
weight_both (due ∷ first) second = omega (arith, weight_both first second)

pub weight_dues : (depth : ℕ) (commands : List Command) → weight (dues depth commands) ≡ length commands * measure (16 - depth)
unfolding weight
weight_dues depth [] = omega arith
weight_dues depth (command ∷ commands) = grind (arith, weight_dues depth commands)

pub heft_some : (levels : ℕ) → 1 ≤ measure levels
unfolding measure
heft_some zero = omega arith
heft_some (suc levels) = omega (arith, heft_some levels)

heft_more : (levels : ℕ) → measure (suc levels) ≡ 134217728 * measure levels
unfolding measure
heft_more levels = refl

light_script : (depth count : ℕ) → depth < 16 → count ≤ 67108864 → count * measure (16 - (depth + 1)) < measure (16 - depth)
light_script depth count low few =
    let levels : 16 - depth ≡ suc (16 - (depth + 1)) = omega (arith, low) in
    let some = heft_some (16 - (depth + 1)) in
    let most : count * measure (16 - (depth + 1)) ≤ 67108864 * measure (16 - (depth + 1)) = mul-le-mul_right (measure (16 - (depth + 1))) few in
    subst (λ (n : ℕ). count * measure (16 - (depth + 1)) < n) (sym (ap measure levels ∙ heft_more (16 - (depth + 1)))) (omega (arith, most, some))

pub lighter : (depth : ℕ) (answer : Next) → NestsBelow depth answer → added_weight (depth + 1) (Ok answer) < measure (16 - depth)
lighter depth next.Go h = omega (arith, heft_some (16 - depth))
lighter depth next.Quit h = omega (arith, heft_some (16 - depth))
lighter depth (next.Script commands) h = light_script depth (length commands) h.0 h.1

pub fits : (depth : ℕ) (answer : Next) → NestsBelow depth answer → Fits (depth + 1) answer
fits depth next.Go h = tt
fits depth next.Quit h = tt
fits depth (next.Script commands) h = (omega (arith, h.0), h.1)

-- nothing is due
pub weight_none : (new old : List Due) (added : ℕ) → new ≡ [] → weight new ≤ added + weight old
unfolding weight
weight_none new old added e = omega (arith, ap weight e)

pub weight_kept : (goes_on : Bool) (new old : List Due) (added : ℕ) → new ≡ (if goes_on then old else []) → weight new ≤ added + weight old
weight_kept true new old added e = omega (arith, ap weight e)
weight_kept false new old added e = weight_none new old added e

pub lighter_turn : (due : Due) (line depth : ℕ) (op : Op) (old new : List Due) (added : ℕ) → due ≡ record { line = line; work = Run depth op }
    → weight new ≤ added + weight old → added < measure (16 - depth) → weight new < weight (due ∷ old)
unfolding weight
lighter_turn due line depth op old new added e few light = omega (arith, few, light, ap (λ (d : Due). work_weight d.work) e)

-- what comes after a work item that is done
pub weight_after : (depth : ℕ) (way : Next) (old new : List Due) (answer : Result Next Halt) → answer ≡ Ok way → new ≡ todo_after depth way old
    → weight new ≤ added_weight depth answer + weight old
weight_after depth way old new answer e d = subst (λ (a : Result Next Halt). weight new ≤ added_weight depth a + weight old) (sym e) (by way d)
  where
    by : (way : Next) → new ≡ todo_after depth way old → weight new ≤ added_weight depth (Ok way) + weight old
    by next.Go d = omega (arith, ap weight d)
    by next.Quit d = weight_none new old 0 d
    by (next.Script commands) d = omega (arith, ap weight d, weight_both (dues depth commands) old, weight_dues depth commands)
