-- The lines of a KISS2 part, moved behind all others.
use Rattle.std.specs.Prelude.{◌≡◌, ℕ, suc, ◌+◌, ◌-◌, ◌≤◌, Bool, true, false, not, cond, length, take, drop, take_while, map, List, [], ◌∷◌, ◌++◌}
use Rattle.std.specs.List.{take-map, drop-map}
use Rattle.std.proofs.Common.{refl, sym, ◌∙◌, ap, arith}
use Rattle.std.proofs.lemmas.List.{take-append-drop, map-append, length-append, length-map, length-drop, append-nil, append_assoc, take_all, drop_all, take_at, drop_at}
use Rattle.std.proofs.lemmas.List.Sums.{take_while-cons}
use Rattle.sis_text.specs.declared.places.Line.{Line}
use Rattle.sis_text.specs.Entries.{Entry, entry_at}
use Rattle.blif_read.specs.Parts.{ends_kiss, front_count, front_lines, kiss_lines, ended_lines, rest_lines, lines_beside}

-- lines before the part, those of the part, and those after it
parted : (lines : List Entry) → front_lines lines ++ (ended_lines lines ++ rest_lines lines) ≡ lines
unfolding front_lines ended_lines rest_lines
parted lines =
    ap (λ (back : List Entry). front_lines lines ++ back) (take-append-drop (length (kiss_lines lines) + 1) (drop (front_count lines) lines))
    ∙ take-append-drop (front_count lines) lines

-- the lines of a text, of which those of the part and those after it are exchanged
module _ (source : List ℕ) (lines front rest : List Line) (f : map (entry_at source) front ≡ front_lines (map (entry_at source) lines)) (r : map (entry_at source) rest ≡ rest_lines (map (entry_at source) lines)) where
  abbrev pub entries : List Entry
  entries = map (entry_at source) lines

  front_is : length front ≡ length (front_lines entries)
  front_is = sym (length-map front (entry_at source)) ∙ ap (λ (all : List Entry). length all) f

  rest_is : length rest ≡ length (rest_lines entries)
  rest_is = sym (length-map rest (entry_at source)) ∙ ap (λ (all : List Entry). length all) r

  all_are : length lines ≡ length (front_lines entries) + (length (ended_lines entries) + length (rest_lines entries))
  all_are =
      sym (length-map lines (entry_at source))
      ∙ sym (ap (λ (all : List Entry). length all) (parted entries))
      ∙ length-append (front_lines entries) (ended_lines entries ++ rest_lines entries)
      ∙ ap (λ (n : ℕ). length (front_lines entries) + n) (length-append (ended_lines entries) (rest_lines entries))

  pub front_fits : length front ≤ length lines
  front_fits = omega (arith, front_is, all_are)

  pub rest_fits : length rest ≤ length lines - length front
  rest_fits = omega (arith, front_is, rest_is, all_are)

  -- the number of lines that are moved
  abbrev pub moved : ℕ
  moved = length lines - length front - length rest

  moved_is : length (ended_lines entries) ≡ moved
  moved_is = omega (arith, front_is, rest_is, all_are)

  front_part : map (entry_at source) (take (length front) lines) ≡ front_lines entries
  front_part =
      sym (take-map (entry_at source) (length front) lines)
      ∙ ap (take (length front)) (sym (parted entries))
      ∙ take_at (front_lines entries) (ended_lines entries ++ rest_lines entries) (length front) (sym front_is)

  behind_part : map (entry_at source) (drop (length front) lines) ≡ ended_lines entries ++ rest_lines entries
  behind_part =
      sym (drop-map (entry_at source) (length front) lines)
      ∙ ap (drop (length front)) (sym (parted entries))
      ∙ drop_at (front_lines entries) (ended_lines entries ++ rest_lines entries) (length front) (sym front_is)

  -- the lines behind those before the part, as the rotation has them
  abbrev pub turned : List Line
  turned = take (length lines - length front) (drop (length front) lines)

  module _ (back : List Line) (e : back ≡ drop moved turned ++ take moved turned) where
    abbrev pub new : List Line
    new = take (length front) lines ++ (back ++ drop (length lines - length front) (drop (length front) lines))

    is : new ≡ take (length front) lines ++ (drop moved (drop (length front) lines) ++ take moved (drop (length front) lines))
    is =
        let few : length (drop (length front) lines) ≡ length lines - length front = length-drop (length front) lines in
        ap (λ (all : List Line). take (length front) lines ++ all)
        (ap (λ (all : List Line). back ++ all) (drop_all (length lines - length front) (drop (length front) lines) (omega (arith, few)))
        ∙ append-nil back ∙ e
        ∙ ap (λ (all : List Line). drop moved all ++ take moved all) (take_all (length lines - length front) (drop (length front) lines) (omega (arith, few))))

    first_rest : map (entry_at source) (drop moved (drop (length front) lines)) ≡ rest_lines entries
    first_rest =
        sym (drop-map (entry_at source) moved (drop (length front) lines))
        ∙ ap (drop moved) behind_part
        ∙ drop_at (ended_lines entries) (rest_lines entries) moved moved_is

    then_ended : map (entry_at source) (take moved (drop (length front) lines)) ≡ ended_lines entries
    then_ended =
        sym (take-map (entry_at source) moved (drop (length front) lines))
        ∙ ap (take moved) behind_part
        ∙ take_at (ended_lines entries) (rest_lines entries) moved moved_is

    exchanged : map (entry_at source) new ≡ lines_beside entries ++ ended_lines entries
    unfolding lines_beside
    exchanged =
        ap (map (entry_at source)) is
        ∙ map-append (entry_at source) (take (length front) lines) (drop moved (drop (length front) lines) ++ take moved (drop (length front) lines))
        ∙ ap (λ (before : List Entry). before ++ map (entry_at source) (drop moved (drop (length front) lines) ++ take moved (drop (length front) lines))) front_part
        ∙ ap (λ (back : List Entry). front_lines entries ++ back)
        (map-append (entry_at source) (drop moved (drop (length front) lines)) (take moved (drop (length front) lines))
        ∙ ap (λ (back : List Entry). back ++ map (entry_at source) (take moved (drop (length front) lines))) first_rest
        ∙ ap (λ (back : List Entry). rest_lines entries ++ back) then_ended)
        ∙ sym (append_assoc (front_lines entries) (rest_lines entries) (ended_lines entries))

    beside_is : length (lines_beside entries) ≡ length new - moved
    unfolding lines_beside
    beside_is =
        let both : length (front_lines entries ++ rest_lines entries) ≡ length (front_lines entries) + length (rest_lines entries) = length-append (front_lines entries) (rest_lines entries) in
        let all : length new ≡ length (lines_beside entries) + length (ended_lines entries) =
        sym (length-map new (entry_at source)) ∙ ap (λ (all : List Entry). length all) exchanged ∙ length-append (lines_beside entries) (ended_lines entries) in
        omega (arith, both, all, moved_is)

    pub before_is : map (entry_at source) (take (length new - moved) new) ≡ lines_beside entries
    before_is =
        sym (take-map (entry_at source) (length new - moved) new)
        ∙ ap (take (length new - moved)) exchanged
        ∙ take_at (lines_beside entries) (ended_lines entries) (length new - moved) beside_is

    pub behind_is : map (entry_at source) (drop (length new - moved) new) ≡ ended_lines entries
    behind_is =
        sym (drop-map (entry_at source) (length new - moved) new)
        ∙ ap (drop (length new - moved)) exchanged
        ∙ drop_at (lines_beside entries) (ended_lines entries) (length new - moved) beside_is

-- items up to the first that does not pass, and those before it
before_last : {A : Type 0} (test : A → Bool) (items : List A) → take_while test (take (suc (length (take_while test items))) items) ≡ take_while test items
before_last test [] = refl
before_last {A = A} test (item ∷ items) = by (test item) refl (before_last test items)
  where
    by : (b : Bool) → test item ≡ b → take_while test (take (suc (length (take_while test items))) items) ≡ take_while test items
        → take_while test (take (suc (length (take_while test (item ∷ items)))) (item ∷ items)) ≡ take_while test (item ∷ items)
    by true e rest =
        let whole : take_while test (item ∷ items) ≡ item ∷ take_while test items = take_while-cons test item items ∙ ap (λ (b : Bool). cond b (item ∷ take_while test items) []) e in
        ap (λ (list : List A). take_while test (take (suc (length list)) (item ∷ items))) whole
        ∙ take_while-cons test item (take (suc (length (take_while test items))) items)
        ∙ ap (λ (b : Bool). cond b (item ∷ take_while test (take (suc (length (take_while test items))) items)) []) e
        ∙ ap (λ (list : List A). item ∷ list) rest
        ∙ sym whole
    by false e rest =
        let whole : take_while test (item ∷ items) ≡ [] = take_while-cons test item items ∙ ap (λ (b : Bool). cond b (item ∷ take_while test items) []) e in
        ap (λ (list : List A). take_while test (take (suc (length list)) (item ∷ items))) whole
        ∙ take_while-cons test item []
        ∙ ap (λ (b : Bool). cond b (item ∷ []) []) e
        ∙ sym whole

-- the lines of the part are those before the one that ends it
pub part_before_end : (lines : List Entry) → take_while (λ (line : Entry). not (ends_kiss line)) (ended_lines lines) ≡ kiss_lines lines
unfolding ended_lines kiss_lines
part_before_end lines =
    ap (λ (n : ℕ). take_while (λ (line : Entry). not (ends_kiss line)) (take n (drop (front_count lines) lines))) one_more
    ∙ before_last (λ (line : Entry). not (ends_kiss line)) (drop (front_count lines) lines)
  where
    one_more : length (take_while (λ (line : Entry). not (ends_kiss line)) (drop (front_count lines) lines)) + 1 ≡ suc (length (take_while (λ (line : Entry). not (ends_kiss line)) (drop (front_count lines) lines)))
    one_more = omega arith
