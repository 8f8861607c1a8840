-- Indices that an elimination touches, gathered one after the other, and values that are recomputed
-- there.
use Rattle.std.proofs.Common.{◌≡◌, ℕ, ◌+◌, ◌<◌, ◌==◌, ℤ, Bool, true, false, Option, Some, None, List, [], ◌∷◌, ◌++◌, length, is_none, bytes_eq, take, get_or, refl, sym, ap, ◌∙◌, subst, inl, inr, ◌⊎◌}
use Rattle.std.specs.Option.{option_map}
use Rattle.std.proofs.lemmas.Bool.{false≢true, eqb-true, eqb-false, eq-eqb, or_left, or_right, or_cases}
use Rattle.std.proofs.lemmas.List.{take_more}
use Rattle.std.proofs.lemmas.Option.{same_Some}
use Rattle.circuit_model.specs.Names.{has}
use Rattle.circuit_model.specs.Soundness.{outputs_of, IsSound}
use Rattle.circuit_model.specs.declared.circuit.Table.{Table}
use Rattle.circuit_laws.proofs.Names.{has_not, has_either, same_name}
use Rattle.net_elim.specs.Eliminating.{all_take, is_candidate}
use Rattle.net_readers.specs.Fanouts.{is_in}
use Rattle.net_core.specs.Places.{written_of}
use Rattle.net_core.specs.Reads.{value_of}
use Rattle.net_core.specs.Tables.{named}
use Rattle.net_core.specs.declared.places.Entry.{Entry}
use Rattle.net_core.proofs.Removals.{tables_differ}
use Rattle.net_work.specs.Placed.{Placed, standing, circuit_of, table_at, with_slot}
use Rattle.net_work.specs.Slots.{inputs_in, inputs_at}
use Rattle.alg_tables.specs.Taking.{composed_into, take_refusal}
use Rattle.alg_tables.proofs.Taken.{taken_apart}
use Rattle.net_elim.specs.Putting.{with_put}
use Rattle.net_elim.specs.Waiting.{worth_within, worth_at, waits_at, IsPutAt, AreWaiting}
use Rattle.net_elim.specs.Touching.{IsGrown, IsCovered, IsJoined, AreTouched, AreRenewed}
use Rattle.net_elim.proofs.Leasts.{waits_same, waits_other}
use Rattle.net_elim.proofs.Places.{tests_all, tests_each}
use Rattle.net_elim.proofs.Fanouts.{unread_takes}
use Rattle.net_work.proofs.Indexed.{there_named}
use Rattle.net_elim.proofs.Steps.{worth_of_table, candidate_worth, worth_candidate}
use Rattle.net_elim.proofs.Uses.{IsUntouched, same_place, slot_left, worth_left}
use Rattle.sis_base.specs.declared.limits.TheConstants.{MAX_ROWS}

-- an index after others
in_more : (places : List ℕ) (place at : ℕ) → is_in (places ++ place ∷ []) at ≡ true → (is_in places at ≡ true) ⊎ (place ≡ at)
in_more [] place at h =
    elim (or_cases (place == at) false h) as (λ _. (false ≡ true) ⊎ (place ≡ at)) [ inl e ↦ inr (eqb-true place at e) | inr e ↦ inl e ]
in_more (first ∷ places) place at h =
    elim (or_cases (first == at) (is_in (places ++ place ∷ []) at) h) as (λ _. (is_in (first ∷ places) at ≡ true) ⊎ (place ≡ at)) [
      | inl e ↦ inl (or_left (first == at) (is_in places at) e)
      | inr e ↦ elim (in_more places place at e) as (λ _. (is_in (first ∷ places) at ≡ true) ⊎ (place ≡ at)) [
        | inl old ↦ inl (or_right (first == at) (is_in places at) old)
        | inr new ↦ inr new
      ]
    ]

more_front : (places : List ℕ) (place at : ℕ) → is_in places at ≡ true → is_in (places ++ place ∷ []) at ≡ true
more_front [] place at h = absurd (false≢true h)
more_front (first ∷ places) place at h =
    elim (or_cases (first == at) (is_in places at) h) as (λ _. is_in (first ∷ (places ++ place ∷ [])) at ≡ true) [
      | inl e ↦ or_left (first == at) (is_in (places ++ place ∷ []) at) e
      | inr e ↦ or_right (first == at) (is_in (places ++ place ∷ []) at) (more_front places place at e)
    ]

more_last : (places : List ℕ) (place : ℕ) → is_in (places ++ place ∷ []) place ≡ true
more_last [] place = or_left (place == place) false (eq-eqb place place refl)
more_last (first ∷ places) place = or_right (first == place) (is_in (places ++ place ∷ []) place) (more_last places place)

-- the table that drives a name
one_name : (first name : List ℕ) → has (first ∷ []) name ≡ true → name ≡ first
one_name first name h = elim (or_cases (bytes_eq name first) false h) as (λ _. name ≡ first) [ inl e ↦ same_name name first e | inr e ↦ absurd (false≢true e) ]

pub driver_pushed : (placed : Placed) (name : List ℕ) (places next : List ℕ) (place : ℕ) → IsSound (circuit_of placed) → (table : Table) × (table_at placed.slots place ≡ Some table) × (table.output ≡ name) → next ≡ places ++ place ∷ []
    → IsGrown placed.slots (name ∷ []) places next
driver_pushed placed name places next place sound h is = subst (IsGrown placed.slots (name ∷ []) places) (sym is) (record {
  more = more_front places place;
  drivers = λ at table e k.
      subst (λ (i : ℕ). is_in (places ++ place ∷ []) i ≡ true) (same_place placed.slots (tables_differ (circuit_of placed) sound) place at h.0 table h.1 e (h.2 ∙ sym (one_name name table.output k))) (more_last places place);
})

pub driver_missing : (placed : Placed) (name : List ℕ) (places : List ℕ) → has (outputs_of (standing placed.slots)) name ≡ false → IsGrown placed.slots (name ∷ []) places places
driver_missing placed name places missing = record {
  more = λ at h. h;
  drivers = λ at table e k.
      absurd (false≢true (sym missing ∙ subst (λ (n : List ℕ). has (outputs_of (standing placed.slots)) n ≡ true) (one_name name table.output k) (there_named placed.slots at table e)));
}

pub grown_begun : (slots : List (Option Table)) (places : List ℕ) → IsGrown slots [] places places
grown_begun slots places = record {
  more = λ at h. h;
  drivers = λ at table e k. absurd (false≢true k);
}

pub grown_more : (slots : List (Option Table)) (names : List (List ℕ)) (i : ℕ) (name : List ℕ) (before now next : List ℕ) → i < length names → name ≡ get_or names i name → IsGrown slots (take i names) before now
    → IsGrown slots (name ∷ []) now next → IsGrown slots (take (i + 1) names) before next
grown_more slots names i name before now next lt is old new =
    subst (λ (xs : List (List ℕ)). IsGrown slots xs before next) (sym (take_more names i name lt ∙ ap (λ (n : List ℕ). take i names ++ n ∷ []) (sym is))) (record {
      more = λ at h. new.more at (old.more at h);
      drivers = λ at table e k.
          elim (has_either (take i names) (name ∷ []) table.output k) as (λ _. is_in next at ≡ true) [
            | inl front ↦ new.more at (old.drivers at table e front)
            | inr last ↦ new.drivers at table e last
          ];
    })

-- a table and those that drive its inputs
pub joined_pushed : {R : Type 0} (slots : List (Option Table)) (place : ℕ) (entry : Entry R) (names : List (List ℕ)) (before mid after : List ℕ) → Some (written_of entry) ≡ table_at slots place → names ≡ entry.table.inputs
    → mid ≡ before ++ place ∷ [] → IsGrown slots names mid after → IsJoined slots place before after
unfolding named
joined_pushed slots place entry names before mid after there same is grown = record {
  more = λ at h. grown.more at (subst (λ (ps : List ℕ). is_in ps at ≡ true) (sym is) (more_front before place at h));
  covered = record {
    own = grown.more place (subst (λ (ps : List ℕ). is_in ps place ≡ true) (sym is) (more_last before place));
    drivers = λ at table e k.
        grown.drivers at table e (ap (λ (ns : List (List ℕ)). has ns table.output) same ∙ (ap (λ (o : Option Table). has (inputs_in o) table.output) there ∙ k));
  };
}

covered_more : (slots : List (Option Table)) (before after : List ℕ) (place : ℕ) → ((at : ℕ) → is_in before at ≡ true → is_in after at ≡ true) → IsCovered slots before place → IsCovered slots after place
covered_more slots before after place more h = record {
  own = more place h.own;
  drivers = λ at table e k. more at (h.drivers at table e k);
}

-- the table at an index and the first of its fanouts
pub record ArePartly (slots : List (Option Table)) (place : ℕ) (done places : List ℕ) : Type 0 where
  pub own : IsCovered slots places place
  pub readers : (at : ℕ) → is_in done at ≡ true → IsCovered slots places at

pub partly_first : (slots : List (Option Table)) (place : ℕ) (none places : List ℕ) → none ≡ [] → IsJoined slots place none places → ArePartly slots place [] places
partly_first slots place none places empty h = record {
  own = h.covered;
  readers = λ at k. absurd (false≢true k);
}

pub partly_next : (slots : List (Option Table)) (place : ℕ) (readers : List ℕ) (i d : ℕ) (places next : List ℕ) → i < length readers → ArePartly slots place (take i readers) places → IsJoined slots (get_or readers i d) places next
    → ArePartly slots place (take (i + 1) readers) next
partly_next slots place readers i d places next lt h one = subst (λ (rs : List ℕ). ArePartly slots place rs next) (sym (take_more readers i d lt)) (record {
  own = covered_more slots places next place one.more h.own;
  readers = λ at k.
      elim (in_more (take i readers) (get_or readers i d) at k) as (λ _. IsCovered slots next at) [
        | inl old ↦ covered_more slots places next at one.more (h.readers at old)
        | inr new ↦ subst (IsCovered slots next) new one.covered
      ];
})

pub touched_all : {R : Type 0} (slots : List (Option Table)) (place : ℕ) (entry : Entry R) (readers places : List ℕ) → Some (written_of entry) ≡ table_at slots place
    → ((at : ℕ) → is_in readers at ≡ has (inputs_at slots at) entry.output) → ArePartly slots place readers places → (inner : Table) → table_at slots place ≡ Some inner → AreTouched slots inner.output place places
unfolding named
touched_all slots place entry readers places there are h inner e =
    subst (λ (t : Table). AreTouched slots t.output place places) (same_Some (written_of entry) inner (there ∙ e)) (record {
      own = h.own;
      readers = λ at k. h.readers at (are at ∙ k);
    })

-- the values of the tables at other indices
untouched : (slots : List (Option Table)) (place at : ℕ) (inner t : Table) (places : List ℕ) → table_at slots place ≡ Some inner → AreTouched slots inner.output place places → is_in places at ≡ false → table_at slots at ≡ Some t
    → (has t.inputs inner.output ≡ false) × IsUntouched slots inner t.output
untouched slots place at inner t places e h out there = (
  has_not t.inputs inner.output (λ k. false≢true (sym out ∙ (h.readers at (ap (λ (o : Option Table). has (inputs_in o) inner.output) there ∙ k)).own)),
  record {
    own = has_not inner.inputs t.output (λ k. false≢true (sym out ∙ h.own.drivers at t there (ap (λ (o : Option Table). has (inputs_in o) t.output) e ∙ k)));
    readers = λ other u here reads.
        has_not u.inputs t.output (λ k.
        false≢true (sym out ∙ (h.readers other (ap (λ (o : Option Table). has (inputs_in o) inner.output) here ∙ reads)).drivers at t there (ap (λ (o : Option Table). has (inputs_in o) t.output) here ∙ k)));
  },
)

-- the fanouts of an untouched table can take it after a step only if they could before
takes_before : (rows : ℕ) (placed next : Placed) (place : ℕ) (inner t : Table) → table_at placed.slots place ≡ Some inner → next ≡ with_slot (with_put inner placed) place None → IsUntouched placed.slots inner t.output
    → all_take rows (circuit_of next) t ≡ true → all_take rows (circuit_of placed) t ≡ true
unfolding all_take
takes_before rows placed next place inner t e is untouched h =
    tests_all (λ (u : Table). is_none (take_refusal MAX_ROWS rows t u)) placed.slots (λ other u there. cases other u there (has u.inputs t.output) refl)
  where
    cases : (other : ℕ) (u : Table) → table_at placed.slots other ≡ Some u → (b : Bool) → has u.inputs t.output ≡ b → is_none (take_refusal MAX_ROWS rows t u) ≡ true
    cases other u there false k = ap is_none (unread_takes MAX_ROWS rows t u k)
    cases other u there true k =
        tests_each (λ (u : Table). is_none (take_refusal MAX_ROWS rows t u)) next.slots h other u
        (ap (λ (p : Placed). table_at p.slots other) is
        ∙ (slot_left placed.slots place other inner apart
        ∙ (ap (option_map (composed_into inner)) there
        ∙ ap (λ (v : Table). Some v) (taken_apart inner u (has_not u.inputs inner.output (λ reads. false≢true (sym (untouched.readers other u there reads) ∙ k)))))))
      where
        apart : other ≡ place → ⊥
        apart same =
            let own : inner ≡ u = same_Some inner u (sym e ∙ (ap (table_at placed.slots) (sym same) ∙ there)) in
            false≢true (sym untouched.own ∙ (ap (λ (v : Table). has v.inputs t.output) own ∙ k))

-- values recomputed where an elimination touched them
pub waiting_stepped : (threshold : ℤ) (rows : ℕ) (placed next : Placed) (place : ℕ) (inner : Table) (places : List ℕ) (before after : List (ℕ × ℤ)) → IsSound (circuit_of placed) → table_at placed.slots place ≡ Some inner
    → next ≡ with_slot (with_put inner placed) place None → AreTouched placed.slots inner.output place places → AreWaiting threshold rows placed before → AreRenewed threshold next places before after
    → AreWaiting threshold rows next after
waiting_stepped threshold rows placed next place inner places before after sound e is h are renewed = record {
  worth = λ at v k. worth at v k (is_in places at) refl;
  all = λ at t there fits. all at t there fits (is_in places at) refl;
}
  where
    apart : (at : ℕ) → is_in places at ≡ false → at ≡ place → ⊥
    apart at out same = false≢true (sym out ∙ (ap (is_in places) same ∙ h.own.own))

    stays : (at : ℕ) → is_in places at ≡ false → worth_at threshold next at ≡ worth_at threshold placed at
    stays at out = worth_left threshold placed next place at inner sound e is (apart at out) (λ t there. untouched placed.slots place at inner t places e h out there)

    worth : (at : ℕ) (v : ℤ) → waits_at after at ≡ Some v → (b : Bool) → is_in places at ≡ b → worth_at threshold next at ≡ Some v
    worth at v k true within = sym (renewed.there at within) ∙ k
    worth at v k false out = stays at out ∙ are.worth at v (sym (renewed.others at out) ∙ k)

    all : (at : ℕ) (t : Table) → table_at next.slots at ≡ Some t → is_candidate threshold rows (circuit_of next) t ≡ true → (b : Bool) → is_in places at ≡ b → waits_at after at ≡ worth_at threshold next at
    all at t there fits true within = renewed.there at within
    all at t there fits false out = by (table_at placed.slots at) refl
      where
        now : option_map (composed_into inner) (table_at placed.slots at) ≡ Some t
        now = sym (ap (λ (p : Placed). table_at p.slots at) is ∙ slot_left placed.slots place at inner (apart at out)) ∙ there

        same : (u : Table) → table_at placed.slots at ≡ Some u → u ≡ t
        same u was =
            sym (taken_apart inner u (untouched placed.slots place at inner u places e h out was).0)
            ∙ same_Some (composed_into inner u) t (sym (ap (option_map (composed_into inner)) was) ∙ now)

        by : (o : Option Table) → table_at placed.slots at ≡ o → waits_at after at ≡ worth_at threshold next at
        by None was = absurd (let z : None ≡ Some t = sym (ap (option_map (composed_into inner)) was) ∙ now in cc)
        by (Some u) was =
            let stood : table_at placed.slots at ≡ Some t = was ∙ ap (λ (v : Table). Some v) (same u was) in
            let worths : worth_within threshold placed t ≡ Some (value_of (standing next.slots) t.output) =
            sym (worth_of_table threshold placed at t stood) ∙ (sym (stays at out) ∙ (worth_of_table threshold next at t there ∙ (candidate_worth threshold rows next t fits).0)) in
            let takes : all_take rows (circuit_of placed) t ≡ true =
            takes_before rows placed next place inner t e is (untouched placed.slots place at inner t places e h out stood).1 (candidate_worth threshold rows next t fits).1 in
            renewed.others at out
            ∙ (are.all at t stood (worth_candidate threshold rows placed t (value_of (standing next.slots) t.output) worths takes) ∙ sym (stays at out))

-- values recomputed one after the other
pub renewed_begun : (threshold : ℤ) (placed : Placed) (values : List (ℕ × ℤ)) → AreRenewed threshold placed [] values values
renewed_begun threshold placed values = record {
  there = λ at h. absurd (false≢true h);
  others = λ at h. refl;
}

pub renewed_more : (threshold : ℤ) (placed : Placed) (places : List ℕ) (i d : ℕ) (before now next : List (ℕ × ℤ)) → i < length places → AreRenewed threshold placed (take i places) before now
    → IsPutAt (get_or places i d) (worth_at threshold placed (get_or places i d)) now next → AreRenewed threshold placed (take (i + 1) places) before next
renewed_more threshold placed places i d before now next lt h put = subst (λ (ps : List ℕ). AreRenewed threshold placed ps before next) (sym (take_more places i d lt)) (one (take i places) (get_or places i d) h put)
  where
    one : (done : List ℕ) (first : ℕ) → AreRenewed threshold placed done before now → IsPutAt first (worth_at threshold placed first) now next → AreRenewed threshold placed (done ++ first ∷ []) before next
    one done first h put = record {
      there = λ at k. there at k (first == at) refl;
      others = λ at k.
          waits_other first (worth_at threshold placed first) now next put at (λ same. false≢true (sym k ∙ subst (λ (j : ℕ). is_in (done ++ first ∷ []) j ≡ true) same (more_last done first)))
          ∙ h.others at (out at k (is_in done at) refl);
    }
      where
        there : (at : ℕ) → is_in (done ++ first ∷ []) at ≡ true → (b : Bool) → (first == at) ≡ b → waits_at next at ≡ worth_at threshold placed at
        there at k true e = waits_same first (worth_at threshold placed first) now next put at (eqb-true first at e) ∙ ap (worth_at threshold placed) (eqb-true first at e)
        there at k false e =
            elim (in_more done first at k) as (λ _. waits_at next at ≡ worth_at threshold placed at) [
              | inl old ↦ waits_other first (worth_at threshold placed first) now next put at (eqb-false first at e) ∙ h.there at old
              | inr new ↦ absurd (eqb-false first at e new)
            ]

        out : (at : ℕ) → is_in (done ++ first ∷ []) at ≡ false → (b : Bool) → is_in done at ≡ b → b ≡ false
        out at k true e = absurd (false≢true (sym k ∙ more_front done first at e))
        out at k false e = refl
