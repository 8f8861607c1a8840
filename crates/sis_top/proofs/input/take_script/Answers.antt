use Rattle.std.proofs.Common.{◌≡◌, ◌++◌, ℕ, List, sym, ap, ◌∙◌, subst, arith, rules, vec_len, length, length-append}
use Rattle.std.proofs.lemmas.Bool.{eqb-true}
use Rattle.sis_outside.specs.Calls.{Follows}
use Rattle.sis_top.specs.Code.{IsTaking}
use Rattle.sis_top.proofs.Taking.{taken_end, taken_failed, taken_wanting, taken_long, taken_short, taking_more, some_bytes}
use Rattle.sis_top.proofs.input.take_script.Goals as goal

pub returns-then-is_empty-clause-taken : goal.returns-then-is_empty-clause-taken
returns-then-is_empty-clause-taken g c =
    taken_end g.I.Source.calls c.args.input.now c.pieces.input c.take.new.self c.pieces.text _ c.in-Ok.piece.items c.pieces.invariant.0 c.in-Ok.ensures.calls
    (omega (arith, c.pieces-test.true, c.len.ensures), omega (arith, c.pieces-test.true, c.len.ensures, c.len-in-pieces.ensures)) (omega (arith, eqb-true (vec_len c.in-Ok.piece) 0 (sym c.is_empty.ensures ∙ c.if-is_empty.true), c.in-Ok.piece.ok.0))

pub returns-then-is_err-clause-taken : goal.returns-then-is_err-clause-taken
returns-then-is_err-clause-taken g c =
    taken_short g.I.Source.calls c.args.input.now c.take.new.self (c.pieces.text.items ++ c.in-Ok.piece.items)
    (taking_more g.I.Source.calls c.args.input.now c.pieces.input c.take.new.self c.pieces.text.items c.in-Ok.piece.items _ c.pieces.invariant.0 c.in-Ok.ensures.calls
    (omega (arith, c.pieces-test.true, c.len.ensures), omega (arith, c.pieces-test.true, c.len.ensures, c.len-in-pieces.ensures)) (omega (arith, some_bytes (vec_len c.in-Ok.piece) (sym c.is_empty.ensures ∙ c.if-is_empty.false), c.in-Ok.piece.ok.0)))

pub pieces-preserved : goal.pieces-preserved
pieces-preserved g c =
    let taking = taking_more g.I.Source.calls c.args.input.now c.pieces.input c.take.new.self c.pieces.text.items c.in-Ok.piece.items _ c.pieces.invariant.0 c.in-Ok.ensures.calls
    (omega (arith, c.pieces-test.true, c.len.ensures), omega (arith, c.pieces-test.true, c.len.ensures, c.len-in-pieces.ensures)) (omega (arith, some_bytes (vec_len c.in-Ok.piece) (sym c.is_empty.ensures ∙ c.if-is_empty.false), c.in-Ok.piece.ok.0)) in
    let text : c.extend_from_slice.new.self.items ≡ c.pieces.text.items ++ c.in-Ok.piece.items = search rules in
    let short = (g.met.I.Source.keeps _ _ _ c.in-Ok.ensures.calls).1 in
    let joined = ap length text ∙ length-append c.pieces.text.items c.in-Ok.piece.items in (
      subst (λ (t : List ℕ). IsTaking (Follows g.I.Source.calls c.args.input.now c.take.new.self) t) (sym text) taking,
      omega (arith, joined, short, c.pieces-test.true, c.len.ensures, c.len-in-pieces.ensures),
    )

pub returns-in-Err-Failed-clause-taken : goal.returns-in-Err-Failed-clause-taken
returns-in-Err-Failed-clause-taken g c =
    taken_failed g.I.Source.calls c.args.input.now c.pieces.input c.take.new.self c.pieces.text.items _ c.pieces.invariant.0
    (rw c.in-Err-Failed.field-0-is at c.in-Err-Failed.ensures.calls) (omega (arith, c.pieces-test.true, c.len.ensures), omega (arith, c.pieces-test.true, c.len.ensures, c.len-in-pieces.ensures))

pub returns-in-Err-Memory-clause-taken : goal.returns-in-Err-Memory-clause-taken
returns-in-Err-Memory-clause-taken g c =
    taken_wanting g.I.Source.calls c.args.input.now c.pieces.input c.take.new.self c.pieces.text.items _ c.pieces.invariant.0
    (rw c.in-Err-Memory.field-0-is at c.in-Err-Memory.ensures.calls) (omega (arith, c.pieces-test.true, c.len.ensures), omega (arith, c.pieces-test.true, c.len.ensures, c.len-in-pieces.ensures))

pub returns-clause-taken : goal.returns-clause-taken
returns-clause-taken g c =
    taken_long g.I.Source.calls c.args.input.now c.pieces.input c.pieces.text.items c.pieces.invariant.0 (omega (arith, c.pieces-test.false, c.len.ensures))
