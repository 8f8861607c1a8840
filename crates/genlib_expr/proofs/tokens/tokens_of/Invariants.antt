use Rattle.std.proofs.Common.{◌≡◌, map, take, drop}
use Rattle.std.specs.List.{filter}
use Rattle.circuit_tables.specs.Listing.{names_with}
use Rattle.genlib_expr.specs.Text.{is_name, pins_in, token_of}
use Rattle.genlib_expr.specs.Texts.{texts}
use Rattle.genlib_expr.proofs.tokens.tokens_of.Given as goal

abbrev pub invariant-loop-word : goal.invariant-loop-word
invariant-loop-word l = record {
  rest : names_with l.pins.keys (filter is_name (texts (drop l.word-index l.words))) ≡ pins_in (texts l.words);
  so_far : l.tokens.items ≡ map (token_of (pins_in (texts l.words))) (texts (take l.word-index l.words));
}
