-- The words that pair with a sound gate are those that name each of its pins and its output once.
use Rattle.std.proofs.Common.{◌≡◌, ℕ, ◌+◌, ◌≤◌, ◌==◌, ◌&&◌, Bool, true, List, ◌∷◌, length, sym, ◌∙◌, arith, eqb-true, eq-eqb}
use Rattle.std.specs.List.{list_all}
use Rattle.std.proofs.lemmas.List.{length-map}
use Rattle.std.proofs.lemmas.Bool.{and_parts, and_from, not_from_false}
use Rattle.cube_cover.proofs.Points.{and_left, and_right}
use Rattle.circuit_model.specs.Names.{has, all_different}
use Rattle.genlib_format.specs.declared.gate.Gate.{Gate}
use Rattle.genlib_format.specs.Soundness.{IsSoundGate}
use Rattle.blif_gates.specs.GateLines.{pin_in, is_pair, pins_of, is_pairing}
use Rattle.blif_gates.specs.Pairings.{NamesEachOnce}
use Rattle.blif_gates.proofs.NamedOnce.{AreThese, these, at_most, all_among, among_all, same_truth}

names_differ : (gate : Gate) → IsSoundGate gate → all_different (gate.output ∷ gate.pins) ≡ true
unfolding all_different
names_differ gate sound = and_from _ _ (not_from_false _ sound.inner) sound.different

turned : (a b : Bool) → (a && b) ≡ true → (b && a) ≡ true
turned a b h = and_from b a (and_right a b h) (and_left a b h)

pub paired_once : (gate : Gate) (words : List (List ℕ)) → IsSoundGate gate → is_pairing gate words ≡ true → NamesEachOnce gate words
unfolding is_pairing
paired_once gate words sound h =
    let parts = and_parts (length words == length gate.pins + 1) (list_all is_pair words && (list_all (has (pins_of words)) gate.pins && has (pins_of words) gate.output)) h in
    let rest : (list_all is_pair words && (list_all (has (pins_of words)) gate.pins && has (pins_of words) gate.output)) ≡ true = parts.1 in
    let count : length words ≡ length gate.pins + 1 = eqb-true (length words) (length gate.pins + 1) parts.0 in
    let named : (list_all (has (pins_of words)) gate.pins && has (pins_of words) gate.output) ≡ true = and_right (list_all is_pair words) (list_all (has (pins_of words)) gate.pins && has (pins_of words) gate.output) rest in
    let all : list_all (has (pins_of words)) (gate.output ∷ gate.pins) ≡ true = turned (list_all (has (pins_of words)) gate.pins) (has (pins_of words) gate.output) named in
    let long : length (pins_of words) ≡ length (gate.output ∷ gate.pins) = omega (arith, count, length-map words pin_in) in
    let found : AreThese (gate.output ∷ gate.pins) (pins_of words) = these (gate.output ∷ gate.pins) (pins_of words) (names_differ gate sound) long all in
    record {
      pairs = and_left (list_all is_pair words) (list_all (has (pins_of words)) gate.pins && has (pins_of words) gate.output) rest;
      once = found.different;
      named = λ name. same_truth (has (pins_of words) name) (has (gate.output ∷ gate.pins) name) (found.within name) (among_all (pins_of words) (gate.output ∷ gate.pins) all name);
    }

pub once_paired : (gate : Gate) (words : List (List ℕ)) → IsSoundGate gate → NamesEachOnce gate words → is_pairing gate words ≡ true
unfolding is_pairing
once_paired gate words sound r =
    let all : list_all (has (pins_of words)) (gate.output ∷ gate.pins) ≡ true = all_among (pins_of words) (gate.output ∷ gate.pins) (λ name k. r.named name ∙ k) in
    let back : list_all (has (gate.output ∷ gate.pins)) (pins_of words) ≡ true = all_among (gate.output ∷ gate.pins) (pins_of words) (λ name k. sym (r.named name) ∙ k) in
    let most : length (gate.output ∷ gate.pins) ≤ length (pins_of words) = at_most (gate.output ∷ gate.pins) (pins_of words) (names_differ gate sound) all in
    let least : length (pins_of words) ≤ length (gate.output ∷ gate.pins) = at_most (pins_of words) (gate.output ∷ gate.pins) r.once back in
    let count : length words ≡ length gate.pins + 1 = omega (arith, most, least, length-map words pin_in) in
    let named : (list_all (has (pins_of words)) gate.pins && has (pins_of words) gate.output) ≡ true = turned (has (pins_of words) gate.output) (list_all (has (pins_of words)) gate.pins) all in
    and_from (length words == length gate.pins + 1) (list_all is_pair words && (list_all (has (pins_of words)) gate.pins && has (pins_of words) gate.output))
    (eq-eqb (length words) (length gate.pins + 1) count)
    (and_from (list_all is_pair words) (list_all (has (pins_of words)) gate.pins && has (pins_of words) gate.output) r.pairs named)
