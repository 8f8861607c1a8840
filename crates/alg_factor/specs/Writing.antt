-- A sum or a product as it is written, one text after another. No public clause needs these
-- definitions. Source: the project's own order of writing.
use Rattle.std.specs.Prelude.{ℕ, ◌+◌, Bool, true, false, if◌then◌else◌, List, [], ◌++◌, length, flat_map}
use Rattle.alg_factor.specs.Forms.{Form, Sum, Split}
use Rattle.alg_factor.specs.Texts.{join_texts}

-- the remaining texts as they are written: a sign before each, but not before the first of all; the
-- text for none if there are none at all
abbrev pub left_text : Bool → List ℕ → List ℕ → List (List ℕ) → List ℕ
left_text true none sign texts = join_texts none sign texts
left_text false none sign texts = flat_map (λ next. sign ++ next) texts

-- a text if it is wanted, else nothing
abbrev pub written_if : Bool → List ℕ → List ℕ
written_if wanted text = if wanted then text else []

-- the number of summands of a form
unfoldable pub summands : Form → ℕ
summands (Sum rows) = length rows
summands (Split place bit quotient rest) = 1 + summands rest
