-- A look-up that goes along the entries of files.
use Rattle.std.proofs.Common.{◌≡◌, ◌+◌, ◌<◌, ℕ, suc, List, ◌∷◌, length, drop, get_or, Some, Bool, true, false, cond, ap, sym, ◌∙◌, add-one, drop-cons}
use Rattle.std.specs.Ordering.{nat_cmp}
use Rattle.std.specs.Str.{bytes_eq}
use Rattle.std.specs.Cmp.Lexicographic.{slice_cmp, texts_ties}
use Rattle.std.specs.FinMap.{find}

abbrev pub File : Type 0
File = List ℕ × List ℕ

-- the entries from an index on begin with the one of that index
pub drop_from : (files : List File) (place : ℕ) (file : File) → place < length files → file ≡ get_or files place file → drop place files ≡ file ∷ drop (place + 1) files
drop_from files place file below is =
    rw add-one (drop-cons files place file below ∙ ap (λ (first : File). first ∷ drop (suc place) files) (sym is))

-- the search looks at the first entry by its bytes
pub find_first : (name : List ℕ) (file : File) (rest : List File) →
    find (slice_cmp nat_cmp) name (file ∷ rest) ≡ cond (bytes_eq name file.0) (Some file.1) (find (slice_cmp nat_cmp) name rest)
find_first name file rest =
    ap (λ (same : Bool). cond same (Some file.1) (find (slice_cmp nat_cmp) name rest)) (sym (texts_ties name file.0))

pub find_here : (files : List File) (place : ℕ) (file : File) (name : List ℕ) → place < length files → file ≡ get_or files place file →
    bytes_eq name file.0 ≡ true → find (slice_cmp nat_cmp) name (drop place files) ≡ Some file.1
find_here files place file name below is same =
    ap (find (slice_cmp nat_cmp) name) (drop_from files place file below is) ∙ find_first name file (drop (place + 1) files)
    ∙ ap (λ (b : Bool). cond b (Some file.1) (find (slice_cmp nat_cmp) name (drop (place + 1) files))) same

pub find_later : (files : List File) (place : ℕ) (file : File) (name : List ℕ) → place < length files → file ≡ get_or files place file →
    bytes_eq name file.0 ≡ false → find (slice_cmp nat_cmp) name (drop place files) ≡ find (slice_cmp nat_cmp) name (drop (place + 1) files)
find_later files place file name below is differs =
    ap (find (slice_cmp nat_cmp) name) (drop_from files place file below is) ∙ find_first name file (drop (place + 1) files)
    ∙ ap (λ (b : Bool). cond b (Some file.1) (find (slice_cmp nat_cmp) name (drop (place + 1) files))) differs
