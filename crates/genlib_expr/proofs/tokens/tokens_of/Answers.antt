use Rattle.circuit_tables.proofs.Once.{listed_once}
use Rattle.genlib_expr.specs.Text.{is_name, pins_in}
use Rattle.std.specs.List.{filter}
use Rattle.genlib_expr.specs.Texts.{texts}
use Rattle.genlib_expr.proofs.Placing.{rest_more, tokens_more, pins_done}
use Rattle.genlib_expr.proofs.tokens.tokens_of.Goals as goal

pub loop-word-init : goal.loop-word-init
unfolding pins_in
loop-word-init c = record { rest = rw c.new-pins.ensures.empty (listed_once (filter is_name (texts c.args.words.now))); so_far = c.in_ok-tokens.ensures.items }

pub loop-word-preserved : goal.loop-word-preserved
loop-word-preserved c = record {
  rest = rest_more c.loop-word.pins.keys c.token_of.new.pins.keys (pins_in (texts c.args.words.now)) c.loop-word.word-index c.args.words.now _
      c.loop-word-test.true c.loop-word.invariant.rest c.in_ok-token_of.ensures.pins;
  so_far = tokens_more c.loop-word.pins.keys (pins_in (texts c.args.words.now)) c.loop-word.word-index c.args.words.now _ c.loop-word.tokens.items c.push.new.self.items c.in_ok-token_of.field-0
      c.loop-word-test.true c.loop-word.invariant.rest c.in_ok-token_of.ensures.token c.in_ok-push.ensures.items c.loop-word.invariant.so_far;
}

pub returns-clause-pins : goal.returns-clause-pins
returns-clause-pins c = pins_done c.loop-word.pins.keys (pins_in (texts c.args.words.now)) c.loop-word.word-index c.args.words.now c.loop-word-test.false c.loop-word.invariant.rest
