use Rattle.std.specs.Prelude.{[], map, flat_map}
use Rattle.std.proofs.Common.{◌∙◌, sym, ap}
use Rattle.std.proofs.lemmas.List.{append-nil}
use Rattle.sis_text.specs.Entries.{Entry, entry_at}
use Rattle.circuit_tables.specs.Listing.{names_with}
use Rattle.line_words.specs.LineWords.{other_words}
use Rattle.blif_lines.specs.Keyword.{kind_of}
use Rattle.blif_models.specs.Sides.{listed_on}
use Rattle.blif_models.proofs.PortSets.{set_more, lines_both}
use Rattle.blif_models.proofs.ports.listed.Goals as goal

pub loop-line-preserved : goal.loop-line-preserved
loop-line-preserved c =
    let adds = λ (line : Entry). listed_on c.args.side (kind_of line) (other_words line.words) in
    set_more (λ lines. flat_map adds (map (entry_at c.args.text.now) lines)) (lines_both adds c.args.text.now)
    c.args.lines.now c.loop-line.line-index c.line-item.result [] c.loop-line.set c.add_listed.new.set
    c.loop-line-test.true c.line-item.is c.loop-line.invariant (c.in_ok-add_listed.ensures ∙ ap (names_with c.loop-line.set) (sym (append-nil (adds (entry_at c.args.text.now c.line-item.result)))))
