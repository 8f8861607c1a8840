use Rattle.std.proofs.Common.{◌≡◌, ◌+◌, ◌-◌, ◌*◌, ◌<◌, ◌≤◌, Bool, Option, List, [], ◌∷◌, ◌++◌, length, ap, sym, subst, ◌∙◌, arith, Vec, Global, vec_len}
use Rattle.std.proofs.lemmas.List.{length-map, map_push, length-append, length-take}
use Rattle.std.proofs.lemmas.Result.{err_from_is_err_and}
use Rattle.alg_div.specs.Cubes.{Has}
use Rattle.alg_div.specs.Steps.{literals_in}
use Rattle.alg_kernel.specs.Kernels.{rows_cmp, Ascends}
use Rattle.alg_kernel.specs.Search.{kernels_in, over, common_cube, IsMore, IsSearch, TooMany}
use Rattle.alg_kernel.proofs.Faults.{ok-no-fault, memory-no-limit, fault-as}
use Rattle.alg_kernel.proofs.Parts.{start-rows}
use Rattle.alg_kernel.proofs.Searches.{search-more, search-explored, search-popped, search-start, search-many, search-done, search-width, start-many, map-empty}
use Rattle.alg_kernel.proofs.search.search.Goals as goal
use Rattle.sis_base.specs.declared.limits.TheConstants.{MAX_KERNELS}

pub make_cube_free-requires : goal.make_cube_free-requires
make_cube_free-requires c = record { width = c.requires.width; some = omega (arith, c.requires.two) }

pub enter-requires : goal.enter-requires
unfolding Ascends
enter-requires c = record {
  order = subst (λ (l : List (Vec (Vec (Option Bool) Global) Global)). Ascends rows_cmp (kernels_in l)) (sym c.new-seen.ensures.items) tt;
  room = subst (λ (l : List (Vec (Vec (Option Bool) Global) Global)). length (kernels_in l) ≤ MAX_KERNELS) (sym c.new-seen.ensures.items) (omega arith);
}

pub loop-kernel-init : goal.loop-kernel-init
loop-kernel-init c =
    let f : List (List (Option Bool)) = literals_in c.args.rows.now in
    let first : literals_in c.in_ok-first.first.items ≡ over (common_cube f) f = c.in_ok-first.ensures ∙ sym (start-rows f) in
    let two : 2 ≤ length f = omega (arith, c.requires.two, length-map c.args.rows.now (λ v. v.items)) in
    let more : IsMore (λ z. z ≡ over (common_cube f) f) [] [] (kernels_in c.enter.new.seen.items) (kernels_in c.enter.new.todo.items) =
    subst (λ (k : List (List (Option Bool))). IsMore (λ z. z ≡ k) [] [] (kernels_in c.enter.new.seen.items) (kernels_in c.enter.new.todo.items)) first
    (subst (λ (l : List (Vec (Vec (Option Bool) Global) Global)). IsMore (λ z. z ≡ literals_in c.in_ok-first.first.items) [] (kernels_in l) (kernels_in c.enter.new.seen.items) (kernels_in c.enter.new.todo.items)) c.new-todo.ensures.items
    (subst (λ (l : List (Vec (Vec (Option Bool) Global) Global)). IsMore (λ z. z ≡ literals_in c.in_ok-first.first.items) (kernels_in l) (kernels_in c.new-todo.result.items) (kernels_in c.enter.new.seen.items) (kernels_in c.enter.new.todo.items)) c.new-seen.ensures.items
    c.in_ok-enter.ensures.more)) in
    let has : Has (over (common_cube f) f) (kernels_in c.enter.new.seen.items) = subst (λ (k : List (List (Option Bool))). Has k (kernels_in c.enter.new.seen.items)) first c.in_ok-enter.ensures.has in
    record { search_ = search-start c.args.width f _ _ c.requires.width two more has; room = more.room }

pub explore-requires : goal.explore-requires
explore-requires c =
    let f : List (List (Option Bool)) = literals_in c.args.rows.now in
    let h : List (List (Option Bool)) = literals_in c.as_slice.result.now in
    let s : List (List (List (Option Bool))) = kernels_in c.loop-kernel.seen.items in
    let t : List (List (List (Option Bool))) = kernels_in c.pop.new.self.items in
    let popped : kernels_in c.loop-kernel.todo.items ≡ t ++ h ∷ [] = ap kernels_in c.in-Some.ensures.items ∙ map_push (λ k. literals_in k.items) c.pop.new.self.items c.in-Some.kernel ∙ ap (λ (k : List (List (Option Bool))). t ++ k ∷ []) (ap literals_in (sym c.as_slice.ensures.value)) in
    let opened : IsSearch c.args.width f s (h ∷ t) = search-popped c.args.width f h s t (subst (λ (l : List (List (List (Option Bool)))). IsSearch c.args.width f s l) popped c.loop-kernel.invariant.search_) in
    record { width = search-width c.args.width f h s t c.requires.width opened; order = c.loop-kernel.invariant.search_.order; room = c.loop-kernel.invariant.room }

pub loop-kernel-preserved : goal.loop-kernel-preserved
loop-kernel-preserved c =
    let f : List (List (Option Bool)) = literals_in c.args.rows.now in
    let h : List (List (Option Bool)) = literals_in c.as_slice.result.now in
    let s : List (List (List (Option Bool))) = kernels_in c.loop-kernel.seen.items in
    let t : List (List (List (Option Bool))) = kernels_in c.pop.new.self.items in
    let popped : kernels_in c.loop-kernel.todo.items ≡ t ++ h ∷ [] = ap kernels_in c.in-Some.ensures.items ∙ map_push (λ k. literals_in k.items) c.pop.new.self.items c.in-Some.kernel ∙ ap (λ (k : List (List (Option Bool))). t ++ k ∷ []) (ap literals_in (sym c.as_slice.ensures.value)) in
    let opened : IsSearch c.args.width f s (h ∷ t) = search-popped c.args.width f h s t (subst (λ (l : List (List (List (Option Bool)))). IsSearch c.args.width f s l) popped c.loop-kernel.invariant.search_) in
    record {
      search_ = search-explored c.args.width f h _ _ (search-more c.args.width f h s t _ _ c.requires.width opened c.in_ok-explore.ensures.more) c.in_ok-explore.ensures.explored;
      room = c.in_ok-explore.ensures.more.room;
    }

pub loop-kernel-smaller : goal.loop-kernel-smaller
loop-kernel-smaller c =
    let left : length (kernels_in c.loop-kernel.todo.items) ≡ length (kernels_in c.pop.new.self.items) + 1 = omega (arith, length-map c.loop-kernel.todo.items (λ k. literals_in k.items), length-map c.pop.new.self.items (λ k. literals_in k.items), ap (λ (l : List (Vec (Vec (Option Bool) Global) Global)). length l) c.in-Some.ensures.items, length-append c.pop.new.self.items (c.in-Some.kernel ∷ [])) in
    let fewer : length (kernels_in c.explore.new.todo.items) + 2 * (MAX_KERNELS - length (kernels_in c.explore.new.seen.items)) < length (kernels_in c.loop-kernel.todo.items) + 2 * (MAX_KERNELS - length (kernels_in c.loop-kernel.seen.items)) =
    omega (arith, left, c.in_ok-explore.ensures.more.balance, c.in_ok-explore.ensures.more.grows, c.in_ok-explore.ensures.more.room) in
    fewer

pub returns : goal.returns
returns c =
    let f : List (List (Option Bool)) = literals_in c.args.rows.now in
    let none : length c.loop-kernel.todo.items ≡ 0 = omega (arith, ap (λ (l : List (Vec (Vec (Option Bool) Global) Global)). length l) c.in_default.ensures.rest, length-take (vec_len c.loop-kernel.todo - 1) c.loop-kernel.todo.items, c.in_default.ensures.len) in
    record {
      found = search-done c.args.width f (kernels_in c.loop-kernel.seen.items) c.requires.width (subst (λ (l : List (List (List (Option Bool)))). IsSearch c.args.width f (kernels_in c.loop-kernel.seen.items) l) (map-empty (λ k. literals_in k.items) c.loop-kernel.todo.items none) c.loop-kernel.invariant.search_);
      room = c.loop-kernel.invariant.room;
      over = λ e. absurd (ok-no-fault e);
    }

pub returns-in_err-first : goal.returns-in_err-first
returns-in_err-first c = let p = err_from_is_err_and c.from_residual.result c.from_residual.ensures.1 in rw (p.1, p.2) (record { found = tt; room = tt; over = λ e. absurd (memory-no-limit e) })

pub returns-in_err-enter : goal.returns-in_err-enter
returns-in_err-enter c =
    let f : List (List (Option Bool)) = literals_in c.args.rows.now in
    let first : literals_in c.in_ok-first.first.items ≡ over (common_cube f) f = c.in_ok-first.ensures ∙ sym (start-rows f) in
    let two : 2 ≤ length f = omega (arith, c.requires.two, length-map c.args.rows.now (λ v. v.items)) in
    let p = err_from_is_err_and c.from_residual-in_err-enter.result c.from_residual-in_err-enter.ensures.1 in
    rw p.1 (record {
      found = tt;
      room = tt;
      over = λ e. start-many c.args.width f (literals_in c.in_ok-first.first.items) c.requires.width two first (subst (λ (l : List (Vec (Vec (Option Bool) Global) Global)). TooMany (λ z. z ≡ literals_in c.in_ok-first.first.items) (kernels_in l)) c.new-seen.ensures.items (c.in_err-enter.ensures.over (fault-as p.0 c.in_err-enter.field-0.0 p.2 e)));
    })

pub returns-in_err-explore : goal.returns-in_err-explore
returns-in_err-explore c =
    let f : List (List (Option Bool)) = literals_in c.args.rows.now in
    let h : List (List (Option Bool)) = literals_in c.as_slice.result.now in
    let s : List (List (List (Option Bool))) = kernels_in c.loop-kernel.seen.items in
    let t : List (List (List (Option Bool))) = kernels_in c.pop.new.self.items in
    let popped : kernels_in c.loop-kernel.todo.items ≡ t ++ h ∷ [] = ap kernels_in c.in-Some.ensures.items ∙ map_push (λ k. literals_in k.items) c.pop.new.self.items c.in-Some.kernel ∙ ap (λ (k : List (List (Option Bool))). t ++ k ∷ []) (ap literals_in (sym c.as_slice.ensures.value)) in
    let opened : IsSearch c.args.width f s (h ∷ t) = search-popped c.args.width f h s t (subst (λ (l : List (List (List (Option Bool)))). IsSearch c.args.width f s l) popped c.loop-kernel.invariant.search_) in
    let p = err_from_is_err_and c.from_residual-in_err-explore.result c.from_residual-in_err-explore.ensures.1 in
    rw p.1 (record {
      found = tt;
      room = tt;
      over = λ e. search-many c.args.width f h s t c.requires.width opened (c.in_err-explore.ensures.over (fault-as p.0 c.in_err-explore.field-0.0 p.2 e));
    })
