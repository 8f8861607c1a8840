use Rattle.std.proofs.Common.{refl, ◌∙◌, ap}
use Rattle.std.specs.Prelude.{bytes_eq}
use Rattle.std.specs.List.{list_any}
use Rattle.blif_lines.specs.Keyword.{skipped_words}
use Rattle.blif_lines.proofs.word_list.is_skipped.Goals as goal

pub returns : goal.returns
unfolding skipped_words
returns c =
    c.is_among.ensures
    ∙ ap (list_any (λ one. bytes_eq c.args.word.now one.now)) c.as_slice-19.ensures
    ∙ (rw (c.as_slice.ensures, c.as_slice-2.ensures, c.as_slice-3.ensures, c.as_slice-4.ensures, c.as_slice-5.ensures, c.as_slice-6.ensures, c.as_slice-7.ensures, c.as_slice-8.ensures, c.as_slice-9.ensures, c.as_slice-10.ensures, c.as_slice-11.ensures, c.as_slice-12.ensures, c.as_slice-13.ensures, c.as_slice-14.ensures, c.as_slice-15.ensures, c.as_slice-16.ensures, c.as_slice-17.ensures, c.as_slice-18.ensures) refl)
