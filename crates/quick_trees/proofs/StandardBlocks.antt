-- An instruction that steps a standard block does what the block does.
use Rattle.std.proofs.Common.{◌≡◌, ◌≤◌, ℕ, zero, suc, ◌+◌, ℤ, Bool, true, false, List, [], ◌∷◌, ◌++◌, length, Option}
use Rattle.std.proofs.Common.{Some, None, Ok, refl, sym, ap, append_assoc, subst, ◌∙◌, arith, drop, take}
use Rattle.std.specs.Prelude.{if◌then◌else◌, option_and_then, option_map, slice_get}
use Rattle.st_types.specs.declared.kind.Kind.{Kind}
use Rattle.st_types.specs.Kinds.{holds}
use Rattle.st_types.specs.Values.{Datum, IsHeld}
use Rattle.st_types.specs.Words.{datum_at, is_wide, number_at}
use Rattle.st_meaning.specs.Failures.{StuckFaults, ill_typed, or_failure}
use Rattle.st_meaning.specs.StandardBlocks.{BlockMember, StandardBlock, CTD, CTU, CTUD, F_TRIG, R_TRIG, RS, SR, TOF, TON}
use Rattle.st_meaning.specs.StandardBlocks.{TP, hidden_of, inputs_of, members_of, outputs_of, stepped as stepped_block}
use Rattle.st_meaning.specs.Ticks.{attempt, follow, give}
use Rattle.machine_code.specs.Tracking.{Tracked, looked, assigned_slot}
use Rattle.quick_code.specs.Blocks.{all_put, data_of, held_word, held_words, input_count, member_count, stepped_words}
use Rattle.quick_code.specs.Blocks.{words_from}
use Rattle.quick_code.specs.QuickRuns.{Left}
use Rattle.quick_code.specs.QuickSteps.{Memory, look, put_from, stepped_at, with_word}
use Rattle.quick_code.specs.Words.{or_zero, word_at}
use Rattle.machine_code.specs.MarkedEvaluation.{marked_look}
use Rattle.machine_code.specs.MarkedExecution.{marked_put}
use Rattle.machine_code.specs.MarkedRuns.{marked_members, marked_members_stored, marked_standard}
use Rattle.quick_trees.specs.declared.noting.Noting.{Noting}
use Rattle.quick_trees.specs.Calls.{AreMembers, IsStepped}
use Rattle.quick_trees.specs.Notes.{NotesChange, at_assignment, at_look}
use Rattle.quick_trees.specs.Points.{Point}
use Rattle.quick_trees.specs.QuickMemory.{EndsWellAt, Frame, IsRoom, first_temporary}
use Rattle.quick_trees.specs.UnitValues.{whole}
use Rattle.quick_trees.proofs.Lists.{set_same, some_is, there_within, within_there}
use Rattle.quick_trees.proofs.Stepping.{Follows, stepped}
use Rattle.quick_trees.proofs.Memories.{Holds, Spares, deeper, holds_assigned, holds_looked, own_value, spares_all}
use Rattle.quick_trees.proofs.Memories.{spares_both, spares_own, whole_site, with_look}
use Rattle.quick_trees.proofs.Elements.{narrow_number}
use Rattle.quick_trees.proofs.Settings.{HasInvoked}
use Rattle.quick_trees.proofs.Truths.{then_gives}
use Rattle.quick_trees.proofs.Running.{puts}

-- n words from a place on
abbrev words_of : List ℤ → ℕ → ℕ → List ℤ
words_of ws k zero = []
words_of ws k (suc n) = word_at ws k ∷ words_of ws (suc k) n

abbrev AreThere : List ℤ → ℕ → ℕ → Type 0
AreThere ws k zero = Unit {0}
AreThere ws k (suc n) = (slice_get ws k ≡ Some (word_at ws k)) × AreThere ws (suc k) n

drop_here : (ws : List ℤ) (k : ℕ) (w : ℤ) → slice_get ws k ≡ Some w → drop k ws ≡ w ∷ drop (suc k) ws
drop_here [] k w e = absurd cc
drop_here (x ∷ ws) zero w e = ap (λ y. y ∷ ws) (some_is e)
drop_here (x ∷ ws) (suc k) w e = drop_here ws k w e

words_are : (n k : ℕ) (ws : List ℤ) → AreThere ws k n → words_from ws k n ≡ words_of ws k n
words_are zero k ws are = refl
words_are (suc n) k ws are =
    ap (take (suc n)) (drop_here ws k (word_at ws k) are.0)
    ∙ ap (λ vs. word_at ws k ∷ vs) (words_are n (suc k) ws are.1)

-- putting words over themselves
put_same : (n k j : ℕ) (ws outs : List ℤ) → AreThere ws k n → k + n ≡ j
    → all_put k (words_of ws k n ++ outs) ws ≡ all_put j outs ws
put_same zero k j ws outs are at = ap (λ k. all_put k outs ws) (let same : k ≡ j = omega arith in same)
put_same (suc n) k j ws outs are at =
    ap (all_put (suc k) (words_of ws (suc k) n ++ outs)) (sym (set_same ws k (word_at ws k) are.0))
    ∙ put_same n (suc k) j ws outs are.1 (omega arith)

-- words are those of members
abbrev AllHeld : List BlockMember → List ℤ → Type 0
AllHeld [] [] = Unit {0}
AllHeld (x ∷ members) (w ∷ ws) = IsHeld (datum_at x.1 w) × AllHeld members ws
AllHeld _ _ = ⊥

held_joined : (xs ys : List BlockMember) (vs ws : List ℤ) → AllHeld xs vs → AllHeld ys ws
    → AllHeld (xs ++ ys) (vs ++ ws)
held_joined [] ys [] ws g h = h
held_joined [] ys (v ∷ vs) ws g h = absurd g
held_joined (x ∷ xs) ys [] ws g h = absurd g
held_joined (x ∷ xs) ys (v ∷ vs) ws g h = (g.0, held_joined xs ys vs ws g.1 h)

data_joined : (xs ys : List BlockMember) (vs ws : List ℤ) → AllHeld xs vs
    → data_of (xs ++ ys) (vs ++ ws) ≡ data_of xs vs ++ data_of ys ws
data_joined [] ys [] ws g = refl
data_joined [] ys (v ∷ vs) ws g = absurd g
data_joined (x ∷ xs) ys [] ws g = absurd g
data_joined (x ∷ xs) ys (v ∷ vs) ws g = ap (λ us. datum_at x.1 v ∷ us) (data_joined xs ys vs ws g.1)

-- values have the types of members, whose words are their numbers
abbrev AreOf : List BlockMember → List Datum → Type 0
AreOf [] [] = Unit {0}
AreOf (x ∷ members) (v ∷ vs) = (v.kind ≡ x.1) × ((is_wide x.1 ≡ false) × AreOf members vs)
AreOf _ _ = ⊥

-- A value's word is its number.
record IsWordOf (v : Datum) (t : Kind) (w : ℤ) : Type 0 where
  is : v ≡ datum_at t w
  held : IsHeld (datum_at t w)

word_of : (v : Datum) (t : Kind) (w : ℤ) → v.kind ≡ t → is_wide t ≡ false → held_word v ≡ Some w → IsWordOf v t w
word_of v t w kind narrow e = by_test (holds v.kind v.number) refl e
  where
    by_test : (b : Bool) → holds v.kind v.number ≡ b → (if b then Some v.number else None) ≡ Some w → IsWordOf v t w
    by_test true h e =
        let same : v.number ≡ w = some_is e in
        let number : v.number ≡ number_at t w = same ∙ sym (narrow_number t w narrow) in
        let is : v ≡ datum_at t w =
        ap (λ k. record { kind = k; number = v.number }) kind ∙ ap (λ n. record { kind = t; number = n }) number in
        record { is = is; held = subst IsHeld is h }
    by_test false h e = absurd cc

-- The words of values.
record AreWordsOf (members : List BlockMember) (vs : List Datum) (ws : List ℤ) : Type 0 where
  are : vs ≡ data_of members ws
  held : AllHeld members ws

-- both words are there
record HasBoth (o : Option ℤ) (r : Option (List ℤ)) (ws : List ℤ) : Type 0 where
  word : ℤ
  rest : List ℤ
  first : o ≡ Some word
  second : r ≡ Some rest
  both : word ∷ rest ≡ ws

has_both : (o : Option ℤ) (r : Option (List ℤ)) (ws : List ℤ)
    → option_and_then (λ w. option_map (λ ws. w ∷ ws) r) o ≡ Some ws → HasBoth o r ws
has_both None r ws e = absurd cc
has_both (Some w) None ws e = absurd cc
has_both (Some w) (Some rest) ws e =
    record { word = w; rest = rest; first = refl; second = refl; both = some_is e }

words_of_values : (members : List BlockMember) (vs : List Datum) (ws : List ℤ) → AreOf members vs
    → held_words vs ≡ Some ws → AreWordsOf members vs ws
words_of_values [] [] ws are e = subst (AreWordsOf [] []) (some_is e) (record { are = refl; held = tt })
words_of_values [] (v ∷ vs) ws are e = absurd are
words_of_values (x ∷ members) [] ws are e = absurd are
words_of_values (x ∷ members) (v ∷ vs) ws are e =
    let both = has_both (held_word v) (held_words vs) ws e in
    let one = word_of v x.1 both.word are.0 are.1.0 both.first in
    let rest = words_of_values members vs both.rest are.1.1 both.second in
    subst (AreWordsOf (x ∷ members) (v ∷ vs)) both.both (record {
      are = ap (λ v. v ∷ vs) one.is ∙ ap (λ vs. datum_at x.1 both.word ∷ vs) rest.are;
      held = (one.held, rest.held);
    })

-- the members after a block's step: its inputs as they were, and further members of their types
record IsLeft (b : StandardBlock) (now : ℕ) (ws : List ℤ) (k : ℕ) (us : List Datum) : Type 0 where
  inputs : us ≡ data_of (inputs_of b) (words_of ws k (input_count b)) ++ drop (input_count b) us
  rest : AreOf (outputs_of b ++ hidden_of b) (drop (input_count b) us)

abbrev after : StandardBlock → ℕ → List ℤ → ℕ → List Datum
after b now ws k = stepped_block b now (data_of (members_of b) (words_of ws k (member_count b)))

is_left : (b : StandardBlock) (now : ℕ) (ws : List ℤ) (k : ℕ) → IsLeft b now ws k (after b now ws k)
is_left SR now ws k = record { inputs = refl; rest = (refl, (refl, tt)) }
is_left RS now ws k = record { inputs = refl; rest = (refl, (refl, tt)) }
is_left R_TRIG now ws k = record { inputs = refl; rest = (refl, (refl, (refl, (refl, tt)))) }
is_left F_TRIG now ws k = record { inputs = refl; rest = (refl, (refl, (refl, (refl, tt)))) }
is_left CTU now ws k = record { inputs = refl; rest = (refl, (refl, (refl, (refl, (refl, (refl, tt)))))) }
is_left CTD now ws k = record { inputs = refl; rest = (refl, (refl, (refl, (refl, (refl, (refl, tt)))))) }
is_left CTUD now ws k =
    record { inputs = refl; rest = (refl, (refl, (refl, (refl, (refl, (refl, (refl, (refl, (refl, (refl, tt)))))))))) }
is_left TON now ws k =
    record { inputs = refl; rest = (refl, (refl, (refl, (refl, (refl, (refl, (refl, (refl, tt)))))))) }
is_left TOF now ws k =
    record { inputs = refl; rest = (refl, (refl, (refl, (refl, (refl, (refl, (refl, (refl, tt)))))))) }
is_left TP now ws k =
    record { inputs = refl; rest = (refl, (refl, (refl, (refl, (refl, (refl, (refl, (refl, tt)))))))) }

module _ (f : Frame) (x : Left) (t : StuckFaults) (at d : ℕ) (deep : first_temporary f ≤ d) (around : Tracked) where
  abbrev HoldsAll : List Noting → Memory → Tracked → Type 0
  HoldsAll = Holds f (whole at) around

  members_first : (xs ys : List BlockMember) (k w : ℕ) → AreMembers f (xs ++ ys) k w → AreMembers f xs k w
  members_first [] ys k w are = tt
  members_first (x ∷ xs) ys k w are = (are.0, (are.1.0, members_first xs ys (suc k) (suc w) are.1.1))

  members_there : (xs : List BlockMember) (k w : ℕ) (m : Memory) → IsRoom f m → AreMembers f xs k w
      → AreThere m.words w (length xs)
  members_there [] k w m room are = tt
  members_there (x ∷ xs) k w m room are =
      let lt = there_within f.window w k are.1.0 in
      let long = room.words in
      let few = room.room in
      let word = within_there m.words w (omega arith) in
      (word.1 ∙ ap (λ w. Some w) (sym (ap or_zero word.1)), members_there xs (suc k) (suc w) m room are.1.1)

  members_held : (xs : List BlockMember) (k w : ℕ) (ns : List Noting) (m : Memory) (tr : Tracked) → HoldsAll ns m tr
      → AreMembers f xs k w → AllHeld xs (words_of m.words w (length xs))
  members_held [] k w ns m tr holds are = tt
  members_held (x ∷ xs) k w ns m tr holds are =
      ((holds.values k w x.1 are.0 are.1.0).held, members_held xs (suc k) (suc w) ns m tr holds are.1.1)

  -- All members were looked up.
  record HaveLooked (members : List BlockMember) (k w : ℕ) (ns : List Noting) (m : Memory) (tr : Tracked) : Type 0 where
    tracked : Tracked
    gives : (n : ℕ) → marked_members t members k tr n
        ≡ Ok ((data_of members (words_of m.words w (length members)), tracked), n)
    is : HoldsAll ns m tracked

  members_looked : (xs : List BlockMember) (k w : ℕ) (ns ns' : List Noting) (m : Memory) (tr : Tracked)
      → AreMembers f xs k w → NotesChange at_look w (length xs) ns ns' → HoldsAll ns m tr → HaveLooked xs k w ns' m tr
  members_looked [] k w ns ns' m tr are change holds =
      record { tracked = tr; gives = λ n. refl; is = subst (λ ns. HoldsAll ns m tr) change holds }
  members_looked (x ∷ xs) k w ns ns' m tr are change holds =
      let value = holds.values k w x.1 are.0 are.1.0 in
      let us = with_look tr k in
      let v = datum_at x.1 (look m w) in
      let vs = data_of xs (words_of m.words (suc w) (length xs)) in
      let rest = members_looked xs (suc k) (suc w) change.0 ns' m us are.1.1 change.1.1
      (holds_looked f (whole at) around ns m tr holds k w change.0 are.1.0 change.1.0) in
      record {
        tracked = rest.tracked;
        gives = λ n. then_gives (marked_look t ill_typed tr k n) (v, us) n
            (λ r. λ n. follow (marked_members t xs (suc k) r.1 n) (λ s. give (r.0 ∷ s.0, s.1)))
            (ap (λ o. attempt t (or_failure ill_typed (looked tr k o)) n) value.is)
            ∙ then_gives (marked_members t xs (suc k) us n) (vs, rest.tracked) n (λ s. give (v ∷ s.0, s.1))
            (rest.gives n);
        is = rest.is;
      }

  -- All members were assigned.
  record HaveStored (members : List BlockMember) (k u : ℕ) (ws : List ℤ) (ns : List Noting) (m : Memory)
      (tr : Tracked) : Type 0 where
    tracked : Tracked
    gives : (n : ℕ) → marked_members_stored t members k (data_of members ws) tr n ≡ Ok (tracked, n)
    is : HoldsAll ns (record m { words = all_put u ws m.words }) tracked
    spares : Spares f (whole at) d m (record m { words = all_put u ws m.words })

  members_stored : (xs : List BlockMember) (k u : ℕ) (ws : List ℤ) (ns ns' : List Noting) (m : Memory) (tr : Tracked)
      → AreMembers f xs k u → AllHeld xs ws → NotesChange at_assignment u (length xs) ns ns' → HoldsAll ns m tr
      → HaveStored xs k u ws ns' m tr
  members_stored [] k u [] ns ns' m tr are held change holds = record {
    tracked = tr;
    gives = λ n. refl;
    is = subst (λ ns. HoldsAll ns m tr) change holds;
    spares = spares_all f (whole at) d m;
  }
  members_stored [] k u (w ∷ ws) ns ns' m tr are held change holds = absurd held
  members_stored (x ∷ xs) k u [] ns ns' m tr are held change holds = absurd held
  members_stored (x ∷ xs) k u (w ∷ ws) ns ns' m tr are held change holds =
      let site = deeper f (whole at) (first_temporary f) d deep (whole_site f at holds.noted.room.window) in
      let v = datum_at x.1 w in
      let old = own_value f (whole at) around ns m tr holds d site k u x.1 are.0 are.1.0 in
      let m' = with_word m u w in
      let us = assigned_slot tr k v in
      let one = holds_assigned f (whole at) around ns m tr holds d site k u x.1 are.0 are.1.0 w held.0 change.0
      change.1.0 in
      let rest = members_stored xs (suc k) (suc u) ws change.0 ns' m' us are.1.1 held.1 change.1.1 one in
      record {
        tracked = rest.tracked;
        gives = λ n. then_gives (marked_put t tr k v n) us n (marked_members_stored t xs (suc k) (data_of xs ws))
            (puts t tr k x.1 (look m u) w n old.is held.0)
            ∙ rest.gives n;
        is = rest.is;
        spares = spares_both f (whole at) d d m m' (record m { words = all_put (suc u) ws m'.words }) (omega arith)
            (spares_own f (whole at) d m m' k u x.1 w are.0 are.1.0 refl) rest.spares;
      }

  -- Words were put.
  record HavePut (k : ℕ) (o : Option (List ℤ)) (p : ℕ) (m : Memory) (b : ℕ) : Type 0 where
    words : List ℤ
    is : o ≡ Some words
    ends : EndsWellAt f (suc p) (record m { words = all_put k words m.words }) b x

  have_put : (k : ℕ) (o : Option (List ℤ)) (p : ℕ) (m : Memory) (b : ℕ) → Follows f p x (put_from k o m b)
      → HavePut k o p m b
  have_put k (Some ws) p m b h = record { words = ws; is = refl; ends = h }
  have_put k None p m b h = absurd h

  pub steps : (c : StandardBlock) (p q : Point) → IsStepped f c at p q → (m : Memory) (tr : Tracked) (b : ℕ)
      → Holds f (whole at) around p.noted m tr → EndsWellAt f p.place m b x
      → HasInvoked f x (marked_standard t c f.now at) at d p q around m tr b
  steps c p q r m tr b holds runs =
      let ic = input_count c in
      let mc = member_count c in
      let members = members_of c in
      let rest = outputs_of c ++ hidden_of c in
      let there = members_there members at r.word m holds.noted.room r.members in
      let whole_is : members_of c ≡ inputs_of c ++ rest = append_assoc (inputs_of c) (outputs_of c) (hidden_of c) in
      let inputs_are = members_first (inputs_of c) rest at r.word (subst (λ xs. AreMembers f xs at r.word) whole_is
      r.members) in
      let put = have_put (r.word + ic) (stepped_words c f.now (words_from m.words r.word mc)) p.place m b
      (subst (λ c. Follows f p.place x (stepped_at c f.now r.word m b)) r.is_block
      (stepped f p.place x m b _ runs r.stands)) in
      let us = after c f.now m.words r.word in
      let left = is_left c f.now m.words r.word in
      let found : held_words (drop ic us) ≡ Some put.words =
      ap (stepped_words c f.now) (sym (words_are mc r.word m.words there)) ∙ put.is in
      let new = words_of_values rest (drop ic us) put.words left.rest found in
      let old = words_of m.words r.word ic in
      let old_held = members_held (inputs_of c) at r.word p.noted m tr holds inputs_are in
      let are : us ≡ data_of members (old ++ put.words) =
      left.inputs ∙ ap (λ vs. data_of (inputs_of c) old ++ vs) new.are
      ∙ sym (data_joined (inputs_of c) rest old put.words old_held)
      ∙ ap (λ xs. data_of xs (old ++ put.words)) (sym whole_is) in
      let one = members_looked members at r.word p.noted r.looked m tr r.members r.looks holds in
      let two = members_stored members at r.word (old ++ put.words) r.looked q.noted m one.tracked r.members
      (subst (λ xs. AllHeld xs (old ++ put.words)) (sym whole_is)
      (held_joined (inputs_of c) rest old put.words old_held new.held)) r.assigns one.is in
      let words : all_put r.word (old ++ put.words) m.words ≡ all_put (r.word + ic) put.words m.words =
      put_same ic r.word (r.word + ic) m.words put.words
      (members_there (inputs_of c) at r.word m holds.noted.room inputs_are) refl in
      let m' = record m { words = all_put (r.word + ic) put.words m.words } in
      let place = ap (λ (q : Point). q.place) r.is in
      let ahead = ap (λ (q : Point). q.ahead) r.is in
      record {
        memory = m';
        tracked = two.tracked;
        left = b;
        gives = then_gives (marked_members t members at tr (b + p.ahead))
            (data_of members (words_of m.words r.word mc), one.tracked) (b + p.ahead)
            (λ r. marked_members_stored t members at (stepped_block c f.now r.0) r.1) (one.gives (b + p.ahead))
            ∙ ap (λ vs. marked_members_stored t members at vs one.tracked (b + p.ahead)) are
            ∙ two.gives (b + p.ahead)
            ∙ ap (λ a. Ok (two.tracked, b + a)) (sym ahead);
        fewer = omega arith;
        spares = subst (λ ws. Spares f (whole at) d m (record m { words = ws })) words two.spares;
        is = subst (λ ws. HoldsAll q.noted (record m { words = ws }) two.tracked) words two.is;
        ends = subst (λ i. EndsWellAt f i m' b x) (sym place) put.ends;
      }
