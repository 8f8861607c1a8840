-- The position of a part of a text in it, and the bytes of a span of that part.
use Rattle.std.proofs.Common.{◌≡◌, ℕ, ◌+◌, ◌≤◌, Bool, true, false, cond, List, [], ◌∷◌, ◌++◌, length, take, drop, refl, sym, ◌∙◌, ap, subst, eqb, not, arith, suc, ◌-◌}
use Rattle.std.specs.List.{take_while, prefix_len, suffix_len}
use Rattle.std.proofs.lemmas.List.{take-take, drop-take, drop-drop, take_min, length-take, length-append, take_all}
use Rattle.std.proofs.lemmas.List.Folds.{length-prefix_len}
use Rattle.std.proofs.lemmas.List.Sums.{prefix_len-le-length}
use Rattle.sis_text.specs.declared.places.Span.{Span}
use Rattle.sis_text.specs.Words.{bytes_at}
use Rattle.sis_base.specs.Written.{ends_open}
use Rattle.sis_text.specs.Lines.{cut_comment, trim_returns, content, cut_joint}

-- a text occurs in the source from a position on
pub record Stands (source : List ℕ) (place : ℕ) (text : List ℕ) : Type 0 where
  pub is : take (length text) (drop place source) ≡ text

front_at : (source : List ℕ) (place : ℕ) (text : List ℕ) (k : ℕ) → Stands source place text → k ≤ length text → take k (drop place source) ≡ take k text
front_at source place text k s h =
    sym (take-take k (length text) (drop place source) h) ∙ ap (take k) s.is

pub stands_rest : (source : List ℕ) (place byte : ℕ) (rest : List ℕ) → Stands source place (byte ∷ rest) → Stands source (place + 1) rest
stands_rest source place byte rest s =
    let b : drop 1 (take (suc (length rest)) (drop place source)) ≡ rest = ap (drop 1) s.is in
    let e : 1 + length rest ≡ suc (length rest) = omega arith in
    record {
      is = ap (take (length rest)) (sym (drop-drop 1 place source)) ∙ sym (drop-take 1 (length rest) (drop place source)) ∙ ap (λ n. drop 1 (take n (drop place source))) e ∙ b;
    }

stands_front : (source : List ℕ) (place : ℕ) (text : List ℕ) (k : ℕ) → Stands source place text → Stands source place (take k text)
stands_front source place text k s = record {
  is = front_at source place text (length (take k text)) s (omega (arith, length-take k text)) ∙ ap (λ n. take n text) (length-take k text) ∙ take_min k text;
}

pub stands_at : (source : List ℕ) (span : Span) → Stands source span.place (bytes_at source span)
stands_at source span = record {
  is = ap (λ n. take n (drop span.place source)) (length-take span.len (drop span.place source)) ∙ take_min span.len (drop span.place source);
}

pub whole_stands : (source : List ℕ) → Stands source 0 source
whole_stands source = record { is = take_all (length source) source (omega arith) }

-- of two parts of a text, the first
take_first : (xs ys : List ℕ) → take (length xs) (xs ++ ys) ≡ xs
take_first [] ys = refl
take_first (x ∷ xs) ys = ap (λ zs. x ∷ zs) (take_first xs ys)

pub first_stands : (source : List ℕ) (place : ℕ) (xs ys : List ℕ) → Stands source place (xs ++ ys) → Stands source place xs
first_stands source place xs ys s = record {
  is = front_at source place (xs ++ ys) (length xs) s (omega (arith, length-append xs ys)) ∙ take_first xs ys;
}

-- and the second
pub second_stands : (source : List ℕ) (place : ℕ) (xs ys : List ℕ) → Stands source place (xs ++ ys) → Stands source (place + length xs) ys
second_stands source place [] ys s =
    let P : ℕ → Type 0 = λ p. Stands source p ys in
    let e : place ≡ place + 0 = omega arith in
    subst P e s
second_stands source place (x ∷ xs) ys s =
    let P : ℕ → Type 0 = λ p. Stands source p ys in
    let e : place + 1 + length xs ≡ place + length (x ∷ xs) = omega arith in
    subst P e (second_stands source (place + 1) xs ys (stands_rest source place x (xs ++ ys) s))

-- a front of the text, as long as the bytes that pass
pub front_passing : (p : ℕ → Bool) (source : List ℕ) (place : ℕ) (text : List ℕ) → Stands source place text → take (length (take_while p text)) (drop place source) ≡ take_while p text
front_passing p source place text s =
    let e = length-prefix_len p text in
    ap (λ n. take n (drop place source)) e ∙ front_at source place text (prefix_len p text) s (prefix_len-le-length p text)

pub cut_comment_stands : (source : List ℕ) (line : Span) → Stands source line.place (cut_comment (bytes_at source line))
unfolding cut_comment
cut_comment_stands source line =
    stands_front source line.place (bytes_at source line) (prefix_len (λ byte. not (eqb byte 35)) (bytes_at source line)) (stands_at source line)

-- the content of a line is where the line is
pub content_stands : (source : List ℕ) (line : Span) → Stands source line.place (cut_joint (content (bytes_at source line)))
unfolding cut_joint trim_returns
content_stands source line =
    let place = line.place in
    let text = bytes_at source line in
    let t = stands_front source place (cut_comment text) (length (cut_comment text) - suffix_len (λ byte. eqb byte 13) (cut_comment text)) (cut_comment_stands source line) in
    step (ends_open (content text)) t (stands_front source place (content text) (length (content text) - 1) t)
  where
    step : (b : Bool) → Stands source line.place (content (bytes_at source line)) → Stands source line.place (take (length (content (bytes_at source line)) - 1) (content (bytes_at source line))) → Stands source line.place (cond b (take (length (content (bytes_at source line)) - 1) (content (bytes_at source line))) (content (bytes_at source line)))
    step true t c = c
    step false t c = t
