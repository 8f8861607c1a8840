-- A sum or a product as it is written, a text after the other.
use Rattle.std.proofs.Common.{◌≡◌, ℕ, Bool, true, false, not, ltb, if◌then◌else◌, List, [], ◌∷◌, ◌++◌, length, refl, sym, ap, ◌∙◌, append_assoc, arith, get_or, codes}
use Rattle.std.proofs.lemmas.List.{append-nil, length-map}
use Rattle.std.specs.List.{flat_map}
use Rattle.alg_factor.specs.Forms.{Form, Sum, Split}
use Rattle.alg_factor.specs.Texts.{row_text, factor_text, sum_text, literal_text, summand_texts}
use Rattle.alg_factor.specs.Writing.{left_text, written_if, summands}

-- one text more, after the sign if it is not the first
pub left-more : (first : Bool) (none sign text : List ℕ) (texts : List (List ℕ)) → left_text first none sign (text ∷ texts) ≡ written_if (not first) sign ++ (text ++ left_text false none sign texts)
left-more true none sign text texts = refl
left-more false none sign text texts = append_assoc sign text (flat_map (λ next. sign ++ next) texts)

-- no text more
pub left-none : (first : Bool) (none sign : List ℕ) → left_text first none sign [] ≡ written_if first none
left-none true none sign = refl
left-none false none sign = refl

pub length-summand_texts : (names : List (List ℕ)) (form : Form) → length (summand_texts names form) ≡ summands form
unfolding summand_texts summands
length-summand_texts names (Sum rows) = length-map rows (row_text names)
length-summand_texts names (Split i b q r) = omega (arith, length-summand_texts names r)

-- a factor, with or without parentheses
pub factor-written : (names : List (List ℕ)) (form : Form) (sum : Bool) (open_ close : List ℕ) → sum ≡ ltb 1 (summands form)
    → written_if sum open_ ++ (sum_text (summand_texts names form) ++ written_if sum close)
    ≡ (if ltb 1 (length (summand_texts names form)) then open_ ++ sum_text (summand_texts names form) ++ close else sum_text (summand_texts names form))
factor-written names form sum open_ close e = rw (length-summand_texts names form, ← e) (cases sum)
  where
    cases : (t : Bool) → written_if t open_ ++ (sum_text (summand_texts names form) ++ written_if t close) ≡ (if t then open_ ++ sum_text (summand_texts names form) ++ close else sum_text (summand_texts names form))
    cases true = sym (append_assoc open_ (sum_text (summand_texts names form)) close)
    cases false = append-nil (sum_text (summand_texts names form))

pub regroup : (t w l s o y c z : List ℕ) → ((((t ++ (w ++ (l ++ s))) ++ o) ++ y) ++ c) ++ z ≡ t ++ (w ++ (((l ++ s) ++ (o ++ (y ++ c))) ++ z))
regroup t w l s o y c z = simp append_assoc

-- one summand more was written
pub summand-written : (names : List (List ℕ)) (form : Form) (i : ℕ) (b : Bool) (q r : Form) (first sum : Bool) (before head opened body closed whole : List ℕ)
    → form ≡ Split i b q r → sum ≡ ltb 1 (summands q)
    → head ≡ before ++ (written_if (not first) (codes " + ") ++ (literal_text b (get_or names i []) ++ codes "*"))
    → opened ≡ head ++ written_if sum (codes "(") → body ≡ opened ++ sum_text (summand_texts names q) → closed ≡ body ++ written_if sum (codes ")")
    → before ++ left_text first (codes "0") (codes " + ") (summand_texts names form) ≡ whole
    → closed ++ left_text false (codes "0") (codes " + ") (summand_texts names r) ≡ whole
unfolding summand_texts
summand-written names form i b q r first sum before head opened body closed whole e s h1 h2 h3 h4 h =
    let first_texts : List ℕ = written_if (not first) (codes " + ") in
    let tail : List ℕ = left_text false (codes "0") (codes " + ") (summand_texts names r) in
    let literal : List ℕ = literal_text b (get_or names i []) in
    let written : closed ++ tail ≡ before ++ (first_texts ++ (((literal ++ codes "*") ++ (written_if sum (codes "(") ++ (sum_text (summand_texts names q) ++ written_if sum (codes ")")))) ++ tail)) =
    rw (h4, h3, h2, h1) (regroup before first_texts literal (codes "*") (written_if sum (codes "(")) (sum_text (summand_texts names q)) (written_if sum (codes ")")) tail) in
    written
    ∙ ap (λ (text : List ℕ). before ++ (first_texts ++ (((literal ++ codes "*") ++ text) ++ tail))) (factor-written names q sum (codes "(") (codes ")") s)
    ∙ ap (λ (text : List ℕ). before ++ text) (sym (left-more first (codes "0") (codes " + ") (literal ++ codes "*" ++ factor_text (summand_texts names q)) (summand_texts names r)))
    ∙ ap (λ (f : Form). before ++ left_text first (codes "0") (codes " + ") (summand_texts names f)) (sym e)
    ∙ h
