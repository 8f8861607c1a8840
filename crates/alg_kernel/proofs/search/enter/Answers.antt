use Rattle.std.proofs.Common.{◌≡◌, ◌<◌, ◌≤◌, ◌++◌, ◌∷◌, [], List, Option, Bool, Vec, Global, length, sym, subst, arith}
use Rattle.std.proofs.lemmas.List.{length-map}
use Rattle.alg_div.specs.Cubes.{Has}
use Rattle.alg_div.specs.Steps.{literals_in}
use Rattle.alg_kernel.specs.Search.{kernels_in, IsBetween, IsMore}
use Rattle.alg_kernel.proofs.Faults.{ok-no-fault}
use Rattle.alg_kernel.proofs.Searches.{more-none, entered-new, entered-has, entered-many}
use Rattle.alg_kernel.proofs.search.enter.Goals as goal
use Rattle.sis_base.specs.declared.limits.TheConstants.{MAX_KERNELS}

pub returns-in-Ok : goal.returns-in-Ok
returns-in-Ok c = record {
  more = more-none (λ other. other ≡ literals_in c.args.kernel.items) (kernels_in c.args.seen.now.items) (kernels_in c.args.todo.now.items) c.requires.order c.requires.room;
  has = subst (λ (l : List (Vec (Vec (Option Bool) Global) Global)). Has (literals_in c.args.kernel.items) (kernels_in l)) c.as_slice.ensures.value c.in-Ok.ensures;
  over = λ e. absurd (ok-no-fault e);
}

pub returns-then-len-ge-MAX_KERNELS-clause-over : goal.returns-then-len-ge-MAX_KERNELS-clause-over
returns-then-len-ge-MAX_KERNELS-clause-over c = λ e.
    let between = subst (λ (l : List (Vec (Vec (Option Bool) Global) Global)). IsBetween (kernels_in l) c.in-Err.place (literals_in c.args.kernel.items)) c.as_slice.ensures.value c.in-Err.ensures in
    let full : MAX_KERNELS ≤ length (kernels_in c.args.seen.now.items) = omega (arith, c.len.ensures, c.if-len-ge-MAX_KERNELS.true, length-map c.args.seen.now.items (λ k. literals_in k.items)) in
    entered-many (kernels_in c.args.seen.now.items) (literals_in c.args.kernel.items) c.in-Err.place c.requires.order between full

pub returns-in_ok-add-in-Err-clause-more : goal.returns-in_ok-add-in-Err-clause-more
returns-in_ok-add-in-Err-clause-more c =
    let s : List (List (List (Option Bool))) = kernels_in c.args.seen.now.items in
    let t : List (List (List (Option Bool))) = kernels_in c.args.todo.now.items in
    let k : List (List (Option Bool)) = literals_in c.args.kernel.items in
    let between = subst (λ (l : List (Vec (Vec (Option Bool) Global) Global)). IsBetween (kernels_in l) c.in-Err.place k) c.as_slice.ensures.value c.in-Err.ensures in
    let room : length s < MAX_KERNELS = omega (arith, c.len.ensures, c.if-len-ge-MAX_KERNELS.false, length-map c.args.seen.now.items (λ k. literals_in k.items)) in
    subst (λ (x : List (List (List (Option Bool)))). IsMore (λ other. other ≡ k) s t (kernels_in c.add.new.seen.items) x) (sym c.in_ok-add-in-Err.ensures.todo)
    (subst (λ (x : List (List (List (Option Bool)))). IsMore (λ other. other ≡ k) s t x (t ++ k ∷ [])) (sym c.in_ok-add-in-Err.ensures.seen) (entered-new s t k c.in-Err.place c.requires.order between room))

pub returns-in_ok-add-in-Err-clause-has : goal.returns-in_ok-add-in-Err-clause-has
returns-in_ok-add-in-Err-clause-has c =
    subst (λ (x : List (List (List (Option Bool)))). Has (literals_in c.args.kernel.items) x) (sym c.in_ok-add-in-Err.ensures.seen)
    (entered-has (kernels_in c.args.seen.now.items) (literals_in c.args.kernel.items) c.in-Err.place)
