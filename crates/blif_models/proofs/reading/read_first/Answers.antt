use Rattle.std.proofs.Common.{sym, ◌∙◌, option_copied}
use Rattle.blif_lines.proofs.AfterLines.{instances_last}
use Rattle.blif_lines.proofs.WhatIsRead.{apart_last, whole_read}
use Rattle.blif_models.specs.Reader.{read_first}
use Rattle.blif_models.specs.Reading.{first_in}
use Rattle.blif_models.proofs.FirstRead.{some_model}
use Rattle.blif_models.proofs.reading.read_first.Goals as goal

pub read_flat-requires : goal.read_flat-requires
read_flat-requires c =
    let library = option_copied c.args.library in
    let models = c.args.file.now.models in
    some_model models (sym (instances_last library (first_in models) c.args.draft.it c.requires) ∙ c.if-draft.true)

pub returns-then-draft : goal.returns-then-draft
unfolding read_first
returns-then-draft c =
    let library = option_copied c.args.library in
    let models = c.args.file.now.models in
    rw (sym (instances_last library (first_in models) c.args.draft.it c.requires) ∙ c.if-draft.true) c.read_flat.ensures

pub finish-requires : goal.finish-requires
finish-requires c = apart_last (option_copied c.args.library) (first_in c.args.file.now.models) c.args.draft.it c.requires

pub returns : goal.returns
unfolding read_first
returns c =
    let library = option_copied c.args.library in
    let models = c.args.file.now.models in
    rw (sym (instances_last library (first_in models) c.args.draft.it c.requires) ∙ c.if-draft.false) (whole_read library c.finish.result c.args.draft.it (first_in models) c.requires c.finish.ensures)
