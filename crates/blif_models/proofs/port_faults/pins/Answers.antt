use Rattle.std.proofs.Common.{◌∙◌, ◌∷◌, [], ap}
use Rattle.std.proofs.lemmas.List.{take_all}
use Rattle.circuit_tables.specs.Listing.{names_with}
use Rattle.line_words.specs.LineWords.{texts}
use Rattle.blif_gates.specs.GateLines.{pins_of}
use Rattle.blif_models.proofs.PortSets.{set_more_at, all_put}
use Rattle.blif_models.proofs.NamedPorts.{pins_both}
use Rattle.blif_models.proofs.port_faults.pins.Goals as goal

pub loop-word-init : goal.loop-word-init
unfolding names_with
loop-word-init c = c.new-set.ensures

pub loop-word-preserved : goal.loop-word-preserved
loop-word-preserved c =
    set_more_at (λ words. pins_of (texts words)) pins_both c.args.words.now c.loop-word.word-index _ [] c.loop-word.set c.add.new.self
    c.loop-word-test.true c.loop-word.invariant (c.in_ok-add.ensures ∙ ap (λ name. names_with c.loop-word.set (name ∷ [])) c.pin_in.ensures)

pub returns : goal.returns
returns c =
    all_put c.loop-word.set (pins_of (texts c.args.words.now))
    (c.loop-word.invariant ∙ ap (λ list. names_with [] (pins_of (texts list))) (take_all c.loop-word.word-index c.args.words.now c.loop-word-test.false))
