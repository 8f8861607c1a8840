use Rattle.std.proofs.Common.{ap, sym, ◌∙◌, Some}
use Rattle.std.specs.Str.{bytes_eq}
use Rattle.sis_outside.proofs.Entries.{find_here, find_later}
use Rattle.sis_outside.proofs.mem_files.first_of.Goals as goal

pub returns-then-eq : goal.returns-then-eq
returns-then-eq c =
    let same = ap (bytes_eq c.args.name.now) (sym c.name.ensures) ∙ sym c.eq.ensures ∙ c.if-eq.true in
    ap Some c.bytes.ensures
    ∙ sym (c.loop-entry.invariant ∙ find_here c.args.entries.now c.loop-entry.entry-index c.entry-item.result c.args.name.now c.loop-entry-test.true c.entry-item.is same)

pub loop-entry-preserved : goal.loop-entry-preserved
loop-entry-preserved c =
    let differs = ap (bytes_eq c.args.name.now) (sym c.name.ensures) ∙ sym c.eq.ensures ∙ c.if-eq.false in
    c.loop-entry.invariant
    ∙ find_later c.args.entries.now c.loop-entry.entry-index c.entry-item.result c.args.name.now c.loop-entry-test.true c.entry-item.is differs
