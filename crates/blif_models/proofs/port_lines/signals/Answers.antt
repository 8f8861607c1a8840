use Rattle.std.specs.Prelude.{[], flat_map, map, option_copied}
use Rattle.std.proofs.Common.{◌∙◌, sym, ap}
use Rattle.std.proofs.lemmas.List.{append-nil}
use Rattle.sis_text.specs.Entries.{entry_at}
use Rattle.circuit_tables.specs.Listing.{names_with}
use Rattle.blif_models.specs.PortTables.{ports_by}
use Rattle.blif_models.specs.Sides.{signals_with}
use Rattle.blif_models.proofs.PortSets.{set_more, lines_both}
use Rattle.blif_models.proofs.port_lines.signals.Goals as goal

pub loop-line-preserved : goal.loop-line-preserved
loop-line-preserved c =
    let adds = signals_with c.args.side (option_copied c.args.library) (ports_by c.args.file.now.models c.args.table.now) in
    set_more (λ lines. flat_map adds (map (entry_at c.args.file.now.text) lines)) (lines_both adds c.args.file.now.text)
    c.args.lines.now c.loop-line.line-index c.line-item.result [] c.loop-line.set c.add_line.new.set
    c.loop-line-test.true c.line-item.is c.loop-line.invariant (c.in_ok-add_line.ensures ∙ ap (names_with c.loop-line.set) (sym (append-nil (adds (entry_at c.args.file.now.text c.line-item.result)))))
