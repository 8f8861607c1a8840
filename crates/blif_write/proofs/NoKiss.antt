-- No KISS2 part is written: all lines of a circuit, and of gates beside it, are lines of its model.
use Rattle.std.proofs.Common.{◌≡◌, ◌+◌, arith, false, not, cond, List, [], ◌∷◌, length, refl, ap, ◌∙◌}
use Rattle.std.specs.Prelude.{take_while}
use Rattle.std.specs.List.{AllByRecursion}
use Rattle.std.proofs.lemmas.List.{append-nil, take_all, drop_all}
use Rattle.std.proofs.lemmas.List.Sums.{take_while-cons}
use Rattle.sis_text.specs.Entries.{Entry}
use Rattle.circuit_model.specs.declared.circuit.Circuit.{Circuit}
use Rattle.netlist.specs.declared.mapped.Placed.{Placed}
use Rattle.blif_lines.specs.Keyword.{kind_of}
use Rattle.blif_lines.specs.Lines.{begins_kiss, has_kiss}
use Rattle.blif_lines.specs.declared.keyword.Keyword.TheVariants.{Model, Inputs, Outputs, Clock, Names, Latch, Gate, Subckt, StartKiss, DontCare, End, Skipped, Row, Other}
use Rattle.blif_read.specs.Parts.{front_count, front_lines, kiss_lines, rest_lines, lines_beside}
use Rattle.blif_write.proofs.OtherKinds.{IsOther, others_written, none_written}
use Rattle.blif_write.proofs.Said.{OnNone, lines_of}

kiss_none : OnNone begins_kiss
kiss_none Model e = refl
kiss_none Inputs e = refl
kiss_none Outputs e = refl
kiss_none Clock e = refl
kiss_none Names e = refl
kiss_none Latch e = refl
kiss_none Gate e = refl
kiss_none Subckt e = refl
kiss_none StartKiss e = absurd (cc)
kiss_none DontCare e = refl
kiss_none End e = refl
kiss_none Skipped e = refl
kiss_none Row e = refl
kiss_none Other e = refl

abbrev IsPlain : Entry → Type 0
IsPlain = IsOther begins_kiss

pub no_kiss : (gates : List Placed) (circuit : Circuit) → has_kiss (lines_of gates circuit) ≡ false
unfolding has_kiss
no_kiss gates circuit = none_written begins_kiss refl kiss_none refl gates circuit

before_all : (lines : List Entry) → AllByRecursion IsPlain lines → take_while (λ (line : Entry). not (begins_kiss (kind_of line))) lines ≡ lines
before_all [] h = refl
before_all (line ∷ lines) h =
    take_while-cons (λ (line : Entry). not (begins_kiss (kind_of line))) line lines
    ∙ ap (λ b. cond (not b) (line ∷ take_while (λ (line : Entry). not (begins_kiss (kind_of line))) lines) []) h.0
    ∙ ap (λ (rest : List Entry). line ∷ rest) (before_all lines h.1)

pub model_is_all : (lines : List Entry) → AllByRecursion IsPlain lines → lines_beside lines ≡ lines
unfolding lines_beside front_lines rest_lines kiss_lines
model_is_all lines h =
    let count : front_count lines ≡ length lines + 1 = ap (λ (before : List Entry). length before + 1) (before_all lines h) in
    rw (count, take_all (length lines + 1) lines (omega arith), drop_all (length lines + 1) lines (omega arith)) (append-nil lines)

pub no_part : (gates : List Placed) (circuit : Circuit) → lines_beside (lines_of gates circuit) ≡ lines_of gates circuit
no_part gates circuit = model_is_all (lines_of gates circuit) (others_written begins_kiss refl kiss_none refl gates circuit)
