use Rattle.std.proofs.Common.{◌≡◌, take}
use Rattle.std.specs.List.{flat_map}
use Rattle.sis_session.specs.Replies.{code_line}
use Rattle.sis_session.proofs.encoding.codes_text.Given as goal

abbrev pub invariant-loop-code : goal.invariant-loop-code
invariant-loop-code l = l.text.items ≡ flat_map code_line (take l.code-index l.codes)
