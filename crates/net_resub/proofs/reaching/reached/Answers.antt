use Rattle.std.proofs.Common.{◌<◌, ◌∙◌, ◌++◌, Bool, false, All, ℕ, List, length, ap, sym, subst}
use Rattle.std.proofs.lemmas.List.{length-replicate, nil_from_length}
use Rattle.circuit_checks.specs.Searching.{marks, fresh}
use Rattle.circuit_checks.proofs.Marking.{at_start, at_step, at_end, step_below, step_falls}
use Rattle.net_resub.specs.Reaching.{graph_of}
use Rattle.net_resub.proofs.Graph.{graph_is, graph_long}
use Rattle.net_resub.proofs.reaching.reached.Goals as goal

pub note_all-requires : goal.note_all-requires
note_all-requires g c =
    subst (λ (reads : List ℕ). All (λ read. read < length c.in_ok-seen.seen.items) reads) (sym (c.as_slice.ensures.value ∙ c.in_ok-first.ensures))
    (step_below (graph_of c.args.work.now.slots) (graph_is c.args.work.now.slots) c.args.from c.in_ok-seen.seen.items
    (ap (λ (xs : List Bool). length xs) c.in_ok-seen.ensures ∙ (length-replicate c.len.result false ∙ (c.len.ensures ∙ sym (graph_long c.args.work.now.slots)))))

pub loop-place-init : goal.loop-place-init
loop-place-init g c =
    at_start (graph_of c.args.work.now.slots) (graph_is c.args.work.now.slots) c.args.from c.len.result (c.len.ensures ∙ sym (graph_long c.args.work.now.slots)) c.in_ok-seen.seen.items
    c.note_all.new.seen.items c.note_all.new.pending.items c.in_ok-seen.ensures
    (c.in_ok-note_all.ensures.marks ∙ ap (λ (reads : List ℕ). marks c.in_ok-seen.seen.items reads) (c.as_slice.ensures.value ∙ c.in_ok-first.ensures))
    (c.in_ok-note_all.ensures.fresh
    ∙ (ap (λ (xs : List ℕ). xs ++ fresh c.in_ok-seen.seen.items c.as_slice.result.now) c.new-pending.ensures.items
    ∙ ap (λ (reads : List ℕ). fresh c.in_ok-seen.seen.items reads) (c.as_slice.ensures.value ∙ c.in_ok-first.ensures)))

pub note_all-requires-in-Some : goal.note_all-requires-in-Some
note_all-requires-in-Some g c =
    subst (λ (reads : List ℕ). All (λ read. read < length c.loop-place.seen.items) reads) (sym (c.as_slice-in-Some.ensures.value ∙ c.in_ok-reads.ensures))
    (step_below (graph_of c.args.work.now.slots) (graph_is c.args.work.now.slots) c.in-Some.place c.loop-place.seen.items c.loop-place.invariant.long)

pub loop-place-smaller : goal.loop-place-smaller
loop-place-smaller g c =
    step_falls (graph_of c.args.work.now.slots) (graph_is c.args.work.now.slots) c.in-Some.place c.loop-place.seen.items c.note_all-in-Some.new.seen.items
    c.loop-place.pending.items c.pop.new.self.items c.note_all-in-Some.new.pending.items c.loop-place.invariant.long c.in-Some.ensures.items
    (c.in_ok-note_all-2.ensures.marks ∙ ap (λ (reads : List ℕ). marks c.loop-place.seen.items reads) (c.as_slice-in-Some.ensures.value ∙ c.in_ok-reads.ensures))
    (c.in_ok-note_all-2.ensures.fresh ∙ ap (λ (reads : List ℕ). c.pop.new.self.items ++ fresh c.loop-place.seen.items reads) (c.as_slice-in-Some.ensures.value ∙ c.in_ok-reads.ensures))

pub loop-place-preserved : goal.loop-place-preserved
loop-place-preserved g c =
    at_step (graph_of c.args.work.now.slots) (graph_is c.args.work.now.slots) c.args.from c.in-Some.place c.loop-place.seen.items c.note_all-in-Some.new.seen.items
    c.loop-place.pending.items c.pop.new.self.items c.note_all-in-Some.new.pending.items c.loop-place.invariant c.in-Some.ensures.items
    (c.in_ok-note_all-2.ensures.marks ∙ ap (λ (reads : List ℕ). marks c.loop-place.seen.items reads) (c.as_slice-in-Some.ensures.value ∙ c.in_ok-reads.ensures))
    (c.in_ok-note_all-2.ensures.fresh ∙ ap (λ (reads : List ℕ). c.pop.new.self.items ++ fresh c.loop-place.seen.items reads) (c.as_slice-in-Some.ensures.value ∙ c.in_ok-reads.ensures))

pub returns : goal.returns
returns g c =
    at_end (graph_of c.args.work.now.slots) (graph_is c.args.work.now.slots) c.args.from c.loop-place.seen.items c.loop-place.pending.items c.loop-place.invariant
    (nil_from_length _ (sym c.loop-place.pending.ok.0 ∙ c.in_default.ensures.cases.0))
