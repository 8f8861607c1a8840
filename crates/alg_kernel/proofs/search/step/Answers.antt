use Rattle.std.proofs.Common.{◌≡◌, ◌≤◌, List, Option, Some, None, Bool, Vec, Global, length, subst, ◌∙◌, arith, option_map}
use Rattle.std.proofs.lemmas.Result.{err_from_is_err_and}
use Rattle.alg_div.specs.Cubes.{Has}
use Rattle.alg_div.specs.Steps.{literals_in}
use Rattle.alg_kernel.specs.Search.{kernels_in, holding_rows, kernel_at, IsKernelAt, IsStep, IsMore}
use Rattle.alg_kernel.proofs.Faults.{ok-no-fault, memory-no-limit}
use Rattle.alg_kernel.proofs.Spots.{ok-map}
use Rattle.alg_kernel.proofs.Searches.{more-none, more-as, many-as}
use Rattle.alg_kernel.proofs.search.step.Goals as goal

pub enter-requires : goal.enter-requires
enter-requires c = record { order = c.requires.order; room = c.requires.room }

pub returns-in-None : goal.returns-in-None
returns-in-None c =
    let few : IsKernelAt (literals_in c.args.kernel.now) c.args.place c.args.bit None = subst (λ (o : Option (Vec (Vec (Option Bool) Global) Global)). IsKernelAt (literals_in c.args.kernel.now) c.args.place c.args.bit (option_map (λ made. literals_in made.items) o)) c.in-None.is c.in_ok-kernel_of.ensures in
    record {
      more = more-none (IsStep (literals_in c.args.kernel.now)) (kernels_in c.args.seen.now.items) (kernels_in c.args.todo.now.items) c.requires.order c.requires.room;
      has = λ two. absurd (omega (arith, few, two));
      over = λ e. absurd (ok-no-fault e);
    }

pub returns-in-Some : goal.returns-in-Some
returns-in-Some c =
    let h : List (List (Option Bool)) = literals_in c.args.kernel.now in
    let k : List (List (Option Bool)) = literals_in c.in-Some.next.items in
    let made : IsKernelAt h c.args.place c.args.bit (Some k) = subst (λ (o : Option (Vec (Vec (Option Bool) Global) Global)). IsKernelAt h c.args.place c.args.bit (option_map (λ made. literals_in made.items) o)) c.in-Some.is c.in_ok-kernel_of.ensures in
    let s : List (List (List (Option Bool))) = kernels_in c.args.seen.now.items in
    let t : List (List (List (Option Bool))) = kernels_in c.args.todo.now.items in
    let s' : List (List (List (Option Bool))) = kernels_in c.enter.new.seen.items in
    let t' : List (List (List (Option Bool))) = kernels_in c.enter.new.todo.items in
    let as_step : (z : List (List (Option Bool))) → z ≡ k → IsStep h z = λ z e. (c.args.place, c.args.bit, made.0, e ∙ made.1) in
    record {
      more = ok-map (IsMore (λ z. z ≡ k) s t s' t') (IsMore (IsStep h) s t s' t') (more-as (λ z. z ≡ k) (IsStep h) as_step s t s' t') c.enter.result c.enter.ensures.more;
      has = ok-map (Has k s') (2 ≤ length (holding_rows c.args.place c.args.bit h) → Has (kernel_at c.args.place c.args.bit h) s') (λ m two. subst (λ (x : List (List (Option Bool))). Has x s') made.1 m) c.enter.result c.enter.ensures.has;
      over = λ e. many-as (λ z. z ≡ k) (IsStep h) as_step (kernels_in c.args.seen.now.items) (c.enter.ensures.over e);
    }

pub returns-in_err-kernel_of : goal.returns-in_err-kernel_of
returns-in_err-kernel_of c = let p = err_from_is_err_and c.from_residual.result c.from_residual.ensures.1 in rw (p.1, p.2) (record { more = tt; has = tt; over = λ e. absurd (memory-no-limit e) })
