use Rattle.std.proofs.Common.{sym, ◌∙◌, arith}
use Rattle.sis_text.specs.Words.{bytes_at}
use Rattle.sis_script.proofs.Filling.{slot_taken, slot_unfit, slot_over, end_lacks, end_fits}
use Rattle.sis_script.specs.declared.kinds.Kind.TheVariants.{File}
use Rattle.sis_script.specs.declared.grammar.Slot.TheVariants.{Needed}
use Rattle.sis_script.proofs.grammar.fill.Goals as goal

pub loop-i-preserved : goal.loop-i-preserved
loop-i-preserved c =
    let fits = rw (c.kind_of.ensures, c.bytes_at.ensures) at (sym c.in-Some.is ∙ c.in_ok-value.ensures) in
    rw c.in_ok-push-in-Some.ensures.ok
    (slot_taken (bytes_at c.args.source.now) c.loop-i.values c.args.slots.now c.args.words.now c.loop-i.i (Needed File) (record { place = 0; len = 0 }) c.in-Some.value c.if-i-slots.false c.loop-i-test.true fits
    ∙ c.loop-i.invariant)

pub returns-in-None : goal.returns-in-None
returns-in-None c =
    let unfit = rw (c.kind_of.ensures, c.bytes_at.ensures) at (sym c.in-None.is ∙ c.in_ok-value.ensures) in
    sym (slot_unfit (bytes_at c.args.source.now) c.loop-i.values c.args.slots.now c.args.words.now c.loop-i.i (Needed File) (record { place = 0; len = 0 }) c.if-i-slots.false c.loop-i-test.true unfit)
    ∙ c.loop-i.invariant

pub returns-then-i-slots : goal.returns-then-i-slots
returns-then-i-slots c =
    sym (slot_over (bytes_at c.args.source.now) c.loop-i.values c.args.slots.now c.args.words.now c.loop-i.i (record { place = 0; len = 0 }) c.if-i-slots.true c.loop-i-test.true)
    ∙ c.loop-i.invariant

pub returns-then-lacks_word : goal.returns-then-lacks_word
returns-then-lacks_word c =
    let lacks = rw c.skip.ensures at (sym c.if-lacks_word.ensures) in
    sym (end_lacks (bytes_at c.args.source.now) c.loop-i.values c.args.slots.now c.args.words.now c.loop-i.i (omega arith) lacks)
    ∙ c.loop-i.invariant

pub returns-else-lacks_word : goal.returns-else-lacks_word
returns-else-lacks_word c =
    let fits = rw c.skip.ensures at (sym c.if-lacks_word.ensures) in
    sym (end_fits (bytes_at c.args.source.now) c.loop-i.values c.args.slots.now c.args.words.now c.loop-i.i (omega arith) fits)
    ∙ c.loop-i.invariant
