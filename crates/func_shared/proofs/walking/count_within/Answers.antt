use Rattle.std.proofs.Common.{◌≡◌, ℕ, List, Some, slice_get, refl, sym, ap, ◌∙◌, arith}
use Rattle.func_shared.specs.Walks.{with_number}
use Rattle.func_shared.proofs.Visiting.{walks-start, walks-number, walks-step, walks-within, walks-falls, walks-end}
use Rattle.func_shared.proofs.walking.count_within.Goals as goal
use Rattle.func_shared.proofs.walking.count_within.Goals.{in-Some-vertex+in_ok-see-2+in_ok-see-3, in_default-vertex}

pub loop-next-init : goal.loop-next-init
loop-next-init c =
    walks-start c.args.table.now c.args.number c.args.limit c.see.new.seen.keys c.sound.ensures
    c.requires
    (c.in_ok-see.ensures
    ∙ ap (λ (ns : List ℕ). with_number ns c.args.number) c.new-seen.ensures.empty)

pub vertex-requires : goal.vertex-requires
vertex-requires c =
    (walks-number c.loop-next.invariant (sym (c.in-Some.ensures ∙ c.get_index.ensures.key))).1

pub returns-then-len-limit : goal.returns-then-len-limit
returns-then-len-limit c =
    omega (arith, c.len.ensures.len, c.if-len-limit.true, walks-within c.loop-next.invariant)

pub loop-next-smaller : goal.loop-next-smaller
loop-next-smaller c =
    walks-falls c.loop-next.invariant c.sound.ensures c.requires
    (sym (c.in-Some.ensures ∙ c.get_index.ensures.key))

pub loop-next-preserved : goal.loop-next-preserved
loop-next-preserved c =
    let at : slice_get c.loop-next.seen.keys c.loop-next.done ≡ Some c.in-Some.next =
    sym (c.in-Some.ensures ∙ c.get_index.ensures.key) in
    elim c.match-vertex.branch [
      | in-Some-vertex+in_ok-see-2+in_ok-see-3 w ↦
          let vertex = w.in-Some-vertex.vertex in
          walks-step c.loop-next.invariant c.match-vertex.seen.keys c.in-Some.next vertex.place
          vertex.low vertex.high c.sound.ensures at
          (omega (arith, c.len.ensures.len, c.if-len-limit.false)) w.in-Some-vertex.ensures.tree
          w.in-Some-vertex.ensures.below
          (rw w.seen-is (w.in_ok-see-3.ensures
          ∙ ap (λ (ns : List ℕ). with_number ns vertex.high) w.in_ok-see-2.ensures))
      | in_default-vertex w ↦
          let number = walks-number c.loop-next.invariant at in
          absurd (omega (arith, number.0, w.in_default-vertex.ensures.constant refl))
    ]

pub returns : goal.returns
returns c =
    walks-end c.loop-next.invariant (sym (c.in_default.ensures ∙ c.get_index.ensures.key))
