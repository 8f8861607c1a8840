-- The words that are left, step by step.
use Rattle.std.proofs.Common.{◌≡◌, ℕ, ◌+◌, ◌<◌, ◌≤◌, List, [], ◌++◌, length, drop, get_or, refl, ap, arith, None}
use Rattle.std.proofs.lemmas.List.{drop_more, drop_all}
use Rattle.sis_base.specs.Written.{spaced}
use Rattle.genlib_format.specs.declared.words.Lined.{Lined}
use Rattle.genlib_format.specs.Statements.{whole_words, text_of, ended, statement_at}

pub text_more : (i : ℕ) (words : List Lined) (word : Lined) → i < length words → text_of (drop i words) ≡ spaced (get_or words i word).word ++ text_of (drop (i + 1) words)
unfolding text_of
text_more i words word h = rw (drop_more words i word h) refl

pub text_done : (i : ℕ) (words : List Lined) → length words ≤ i → text_of (drop i words) ≡ []
unfolding text_of
text_done i words h = rw (drop_all i words h) refl

-- no word has an end
pub none_ends : (words : List Lined) → length (whole_words words) ≡ length words → statement_at words ≡ None
unfolding statement_at ended
none_ends words e =
    let all : length words ≤ length (whole_words words) = omega arith in
    ap (ended (text_of (whole_words words))) (drop_all (length (whole_words words)) words all)
