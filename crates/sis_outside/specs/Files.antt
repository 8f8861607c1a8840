-- The files of a store: a finite map from names to contents, both lists of bytes.
-- Source: the project's own rule for the outside; names are compared byte by byte, as in POSIX.
use Rattle.std.specs.Prelude.{ℕ, List, Option}
use Rattle.std.specs.Ordering.{nat_cmp}
use Rattle.std.specs.Cmp.Lexicographic.{slice_cmp}
use Rattle.std.specs.FinMap.{FinMap, get, insert, code}
use Rattle.std.specs.Coded.{Coded, coded_list, coded_ℕ}

-- the files by name
abbrev pub Files : Type 0
Files = FinMap (slice_cmp nat_cmp) (List ℕ)

-- the contents of the file of a name, if there is one
abbrev pub file_at : Files → List ℕ → Option (List ℕ)
file_at files name = get files name

-- the files with one set, in place of an old one of that name too; all others stay
abbrev pub with_file : Files → List ℕ → List ℕ → Files
with_file files name bytes = insert files name bytes

-- how a model stores files
abbrev pub files_code : Coded Files
files_code = code (coded_list coded_ℕ) (coded_list coded_ℕ)
