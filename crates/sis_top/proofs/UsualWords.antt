-- Words that ask for given options are read as them: clap's function computed on them.
use Rattle.std.proofs.Common.{◌≡◌, refl, ℕ, Bool, true, false, Some, None, List, [], ◌∷◌, ◌++◌, codes}
use Rattle.std.specs.Prelude.{bytes_eq}
use Rattle.clap.specs.Words.{Text}
use Rattle.clap.specs.Lexer.{long_of, short_of}
use Rattle.clap.proofs.OnLiterals.{clap_on_literals}
use Rattle.sis_top.specs.Asked.{TheScript, InFile, AsText, OnInput, options_of}
use Rattle.sis_top.specs.Usual.{AreAskedFor, AreRefused, HasPlainValue, IsPlain, joined_words, keep_words, parted_words}

joined : (keep : Bool) (script : TheScript)
    → options_of (keep_words keep ++ joined_words script) ≡ Some (record { keep = keep; script = script })
unfolding clap_on_literals
joined true (InFile name) = refl
joined true (AsText text) = refl
joined true OnInput = refl
joined false (InFile name) = refl
joined false (AsText text) = refl
joined false OnInput = refl

-- ---- a plain word is no flag

not_dashes : (word : Text) → IsPlain word → bytes_eq word (45 ∷ 45 ∷ []) ≡ false
not_dashes [] plain = refl
not_dashes (first ∷ bytes) plain = rw plain refl

no_long : (word : Text) → IsPlain word → long_of word ≡ None
no_long [] plain = refl
no_long (first ∷ bytes) plain = rw plain refl

no_short : (word : Text) → IsPlain word → short_of word ≡ None
no_short [] plain = refl
no_short (first ∷ bytes) plain = rw plain refl

file_behind : (keep : Bool) (word : Text) → bytes_eq word (45 ∷ 45 ∷ []) ≡ false → long_of word ≡ None → short_of word ≡ None
    → options_of (keep_words keep ++ parted_words (InFile word)) ≡ Some (record { keep = keep; script = InFile word })
unfolding clap_on_literals
file_behind true word dashes long short = rw (dashes, long, short) refl
file_behind false word dashes long short = rw (dashes, long, short) refl

text_behind : (keep : Bool) (word : Text) → bytes_eq word (45 ∷ 45 ∷ []) ≡ false → long_of word ≡ None → short_of word ≡ None
    → options_of (keep_words keep ++ parted_words (AsText word)) ≡ Some (record { keep = keep; script = AsText word })
unfolding clap_on_literals
text_behind true word dashes long short = rw (dashes, long, short) refl
text_behind false word dashes long short = rw (dashes, long, short) refl

input_alone : (keep : Bool) → options_of (keep_words keep ++ []) ≡ Some (record { keep = keep; script = OnInput })
unfolding clap_on_literals
input_alone true = refl
input_alone false = refl

parted : (keep : Bool) (script : TheScript) → HasPlainValue script
    → options_of (keep_words keep ++ parted_words script) ≡ Some (record { keep = keep; script = script })
parted keep (InFile name) plain = file_behind keep name (not_dashes name plain) (no_long name plain) (no_short name plain)
parted keep (AsText text) plain = text_behind keep text (not_dashes text plain) (no_long text plain) (no_short text plain)
parted keep OnInput plain = input_alone keep

pub asked_for : AreAskedFor
asked_for = record { joined = joined; parted = parted }

-- ---- refused words

both : (name text : Text) → options_of (joined_words (InFile name) ++ joined_words (AsText text)) ≡ None
unfolding clap_on_literals
both name text = refl

twice : (words : List Text) → options_of (keep_words true ++ keep_words true ++ words) ≡ None
unfolding clap_on_literals
twice words = refl

long : (first : ℕ) (bytes : Text) (words : List Text) → options_of ((codes "--" ++ first ∷ bytes) ∷ words) ≡ None
unfolding clap_on_literals
long first bytes words = refl

stray_by : (word : Text) (words : List Text) → bytes_eq word (45 ∷ 45 ∷ []) ≡ false → long_of word ≡ None → short_of word ≡ None
    → options_of (word ∷ words) ≡ None
unfolding clap_on_literals
stray_by word words dashes long short = rw (dashes, long, short) refl

stray : (word : Text) (words : List Text) → IsPlain word → options_of (word ∷ words) ≡ None
stray word words plain = stray_by word words (not_dashes word plain) (no_long word plain) (no_short word plain)

pub refused : AreRefused
refused = record { both = both; twice = twice; long = long; stray = stray }
