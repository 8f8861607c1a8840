-- How texts of lines grow, as writers append them.
use Rattle.std.proofs.Common.{◌≡◌, List, [], ◌∷◌, ◌++◌}
use Rattle.std.proofs.lemmas.Grind.{flat_map-append}
use Rattle.std.proofs.lemmas.List.{append-nil}
use Rattle.sis_base.specs.Written.{Written, line_text, lines_text}

pub written_append : (xs ys : List Written) → lines_text (xs ++ ys) ≡ lines_text xs ++ lines_text ys
unfolding lines_text
written_append xs ys = flat_map-append line_text xs ys

pub written_one : (line : Written) → lines_text (line ∷ []) ≡ line_text line
unfolding lines_text
written_one line = append-nil (line_text line)
