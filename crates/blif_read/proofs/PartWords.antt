-- What holds of each line holds of those of the part and of those of the model.
use Rattle.std.specs.Prelude.{not, List, drop}
use Rattle.std.specs.List.{AllByRecursion, prefix_len}
use Rattle.sis_text.specs.Entries.{Entry}
use Rattle.blif_lines.proofs.NameLists.{all_append, all_taken}
use Rattle.blif_models.proofs.PortWords.{all_dropped}
use Rattle.blif_read.specs.Parts.{ends_kiss, front_count, front_lines, kiss_lines, rest_lines, lines_beside}

pub model_holds : (P : Entry → Type 0) (lines : List Entry) → AllByRecursion P lines → AllByRecursion P (lines_beside lines)
unfolding lines_beside front_lines rest_lines
model_holds P lines h =
    let rest = drop (front_count lines) lines in
    let behind = all_dropped P (front_count lines) lines h in
    all_append P (front_lines lines) (rest_lines lines) (all_taken P (front_count lines) lines h) (all_dropped P _ rest behind)

pub kiss_holds : (P : Entry → Type 0) (lines : List Entry) → AllByRecursion P lines → AllByRecursion P (kiss_lines lines)
unfolding kiss_lines
kiss_holds P lines h =
    let rest = drop (front_count lines) lines in
    all_taken P (prefix_len (λ line. not (ends_kiss line)) rest) rest (all_dropped P (front_count lines) lines h)
