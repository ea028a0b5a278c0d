-- Searches for broken rules, one after another.
use Rattle.std.proofs.Common.{◌≡◌, refl, sym, ap, subst, ◌∙◌, ℕ, ◌+◌, ◌<◌, ◌≤◌, List, [], ◌∷◌, ◌++◌, length, arith, Bool}
use Rattle.std.proofs.Common.{true, false, zero, suc, ◌||◌, ◌⊎◌, inl, inr, map, take, drop, slice_index_or}
use Rattle.std.specs.Prelude.{nat_le, if◌then◌else◌}
use Rattle.std.specs.List.{Contains, IsDistinct, flat_map, list_any}
use Rattle.std.proofs.lemmas.Map.Keys.{IsDistinct-push}
use Rattle.std.proofs.lemmas.List.Elements.{Contains-append_left, Contains-append_right, Contains-append_cases}
use Rattle.st_rules.specs.declared.rule.Broken.{Broken}
use Rattle.st_rules.specs.declared.broken_rules.BrokenRules.{BrokenRules}
use Rattle.st_rules.specs.contracts.rule.BrokenEq.TheImpl.Laws.{laws-law}
use Rattle.st_rules.specs.Collecting.{is_full, Keeps, Adds, Covers, Collects, IsSampled, StandsFor, an_equal_one}
use Rattle.st_rules.specs.Equality.{same_broken}
use Rattle.std.proofs.lemmas.Bool.{leb-false, lt-leb, false≢true}
use Rattle.std.proofs.lemmas.List.{drop_all, take_all, take-take, take-append-drop, length-append}
use Rattle.st_types.proofs.ListLemmas.{map_drop_next}

-- all of one list are among another
abbrev pub AreAmong : List Broken → List Broken → Type 0
AreAmong xs ys = (b : Broken) → Contains xs b → Contains ys b

pub keeps_all : (it : BrokenRules) → Keeps it it
keeps_all it =
    record { same_room = refl; found_before = take_all (length it.found.items) it.found.items (omega arith) }

pub adds_nothing : (xs : List Broken) (it : BrokenRules) → Adds xs it it
adds_nothing xs it = record { keeps = keeps_all it; true_ones = λ b h. inl h }

-- what was found stays
prefix_stays : {A : Type 0} (xs ys : List A) (x : A) → take (length xs) ys ≡ xs → Contains xs x → Contains ys x
prefix_stays xs ys x is h =
    subst (λ zs. Contains zs x) (take-append-drop (length xs) ys)
    (Contains-append_left (take (length xs) ys) (drop (length xs) ys) x (subst (λ zs. Contains zs x) (sym is) h))

pub found_stays : (xs : List Broken) (old new : BrokenRules) (b : Broken) → Adds xs old new
    → Contains old.found.items b → Contains new.found.items b
found_stays xs old new b h there = prefix_stays old.found.items new.found.items b h.keeps.found_before there

prefix_shorter : {A : Type 0} (xs ys : List A) → take (length xs) ys ≡ xs → length xs ≤ length ys
prefix_shorter xs ys is =
    let front = ap length is in
    let all = sym (length-append (take (length xs) ys) (drop (length xs) ys)) ∙ ap length (take-append-drop (length xs) ys) in
    omega (arith, front, all)

prefix_then : {A : Type 0} (xs ys zs : List A) → take (length xs) ys ≡ xs → take (length ys) zs ≡ ys
    → take (length xs) zs ≡ xs
prefix_then xs ys zs h i =
    sym (take-take (length xs) (length ys) zs (prefix_shorter xs ys h)) ∙ ap (take (length xs)) i ∙ h

keeps_then : (old mid new : BrokenRules) → Keeps old mid → Keeps mid new → Keeps old new
keeps_then old mid new h i = record {
  same_room = i.same_room ∙ h.same_room;
  found_before = prefix_then old.found.items mid.found.items new.found.items h.found_before i.found_before;
}

pub adds_more : (xs ys : List Broken) (old new : BrokenRules) → AreAmong xs ys → Adds xs old new → Adds ys old new
adds_more xs ys old new among h = record {
  keeps = h.keeps;
  true_ones = λ b k. elim (h.true_ones b k) [ inl p ↦ inl p | inr p ↦ inr (among b p) ];
}

pub adds_then : (xs : List Broken) (old mid new : BrokenRules) → Adds xs old mid → Adds xs mid new → Adds xs old new
adds_then xs old mid new h i = record {
  keeps = keeps_then old mid new h.keeps i.keeps;
  true_ones = λ b k. elim (i.true_ones b k) [ inl p ↦ h.true_ones b p | inr p ↦ inr p ];
}

nat_le_grows : (a b c : ℕ) → b ≤ c → nat_le a c ≡ false → nat_le a b ≡ false
nat_le_grows a b c h i = lt-leb a b (let lt = leb-false a c i in omega arith)

-- once full, always full
pub room_before : (xs : List Broken) (old new : BrokenRules) → Adds xs old new → is_full new ≡ false → is_full old ≡ false
room_before xs old new h i =
    nat_le_grows old.room (length old.found.items) (length new.found.items)
    (prefix_shorter old.found.items new.found.items h.keeps.found_before)
    (subst (λ r. nat_le r (length new.found.items) ≡ false) h.keeps.same_room i)

pub sampled_later : (xs : List Broken) (old new : BrokenRules) (b : Broken) → Adds xs old new
    → IsSampled old.found.items b → IsSampled new.found.items b
sampled_later xs old new b h s = record { other = s.other; is_found = found_stays xs old new s.other h s.is_found; stands = s.stands }

pub covers_later : (xs ys : List Broken) (mid new : BrokenRules) → Covers xs mid → Adds ys mid new → Covers xs new
covers_later xs ys mid new h i full b k =
    elim (h (room_before ys mid new i full) b k)
    [ inl p ↦ inl (found_stays ys mid new b i p) | inr s ↦ inr (sampled_later ys mid new b i s) ]

pub covers_less : (xs ys : List Broken) (it : BrokenRules) → AreAmong ys xs → Covers xs it → Covers ys it
covers_less xs ys it among h full b k = h full b (among b k)

pub covers_nothing : (it : BrokenRules) → Covers [] it
covers_nothing it full b k = absurd (let lt = k.1 in omega arith)

pub covers_both : (xs ys : List Broken) (it : BrokenRules) → Covers xs it → Covers ys it → Covers (xs ++ ys) it
covers_both xs ys it h i full b k =
    elim (Contains-append_cases xs ys b k) [ inl p ↦ h full b p | inr p ↦ i full b p ]

left_among : (xs ys : List Broken) → AreAmong xs (xs ++ ys)
left_among xs ys b h = Contains-append_left xs ys b h

right_among : (xs ys : List Broken) → AreAmong ys (xs ++ ys)
right_among xs ys b h = Contains-append_right xs ys b h

pub collects_nothing : (it : BrokenRules) → Collects [] it it
collects_nothing it = record { adds = adds_nothing [] it; covers = covers_nothing it }

pub adds_both : (xs ys : List Broken) (old mid new : BrokenRules) → Adds xs old mid → Adds ys mid new
    → Adds (xs ++ ys) old new
adds_both xs ys old mid new h i =
    adds_then (xs ++ ys) old mid new (adds_more xs (xs ++ ys) old mid (left_among xs ys) h)
    (adds_more ys (xs ++ ys) mid new (right_among xs ys) i)

-- one search after another
pub collects_both : (xs ys : List Broken) (old mid new : BrokenRules) → Collects xs old mid → Collects ys mid new
    → Collects (xs ++ ys) old new
collects_both xs ys old mid new h i = record {
  adds = adds_both xs ys old mid new h.adds i.adds;
  covers = covers_both xs ys new (covers_later xs ys mid new h.covers i.adds) i.covers;
}

pub collects_same : (xs ys : List Broken) (old new : BrokenRules) → AreAmong xs ys → AreAmong ys xs
    → Collects xs old new → Collects ys old new
collects_same xs ys old new to from h = record {
  adds = adds_more xs ys old new to h.adds;
  covers = covers_less xs ys new from h.covers;
}

pub collects_is : (xs ys : List Broken) (old new : BrokenRules) → xs ≡ ys → Collects xs old new → Collects ys old new
collects_is xs ys old new e h = subst (λ zs. Collects zs old new) e h

-- A loop over a list, each of whose elements is searched: what is left of it after an element.
pub collected_next : {A B : Type 0} (f : B → List Broken) (g : A → B) (xs : List A) (i : ℕ) (x : A)
    (mid next : BrokenRules) → i < length xs → x ≡ slice_index_or xs i x → Collects (f (g x)) mid next
    → (new : BrokenRules) → Collects (flat_map f (map g (drop (i + 1) xs))) next new
    → Collects (flat_map f (map g (drop i xs))) mid new
collected_next f g xs i x mid next h is one new rest =
    collects_is (f (g x) ++ flat_map f (map g (drop (i + 1) xs))) (flat_map f (map g (drop i xs))) mid new
    (ap (flat_map f) (sym (map_drop_next g xs i x h is)))
    (collects_both (f (g x)) (flat_map f (map g (drop (i + 1) xs))) mid next new one rest)

pub among_itself : (xs : List Broken) → AreAmong xs xs
among_itself xs b h = h

pub among_then : (xs ys zs : List Broken) → AreAmong xs ys → AreAmong ys zs → AreAmong xs zs
among_then xs ys zs h i b k = i b (h b k)

pub among_left : (xs ys zs : List Broken) → AreAmong xs ys → AreAmong xs (ys ++ zs)
among_left xs ys zs h b k = Contains-append_left ys zs b (h b k)

pub among_right : (xs ys zs : List Broken) → AreAmong xs zs → AreAmong xs (ys ++ zs)
among_right xs ys zs h b k = Contains-append_right ys zs b (h b k)

pub both_among : (xs ys zs : List Broken) → AreAmong xs zs → AreAmong ys zs → AreAmong (xs ++ ys) zs
both_among xs ys zs h i b k = elim (Contains-append_cases xs ys b k) [ inl p ↦ h b p | inr p ↦ i b p ]

pub none_among : (xs : List Broken) → AreAmong [] xs
none_among xs b h = absurd (let lt = h.1 in omega arith)

pub swapped : (xs ys : List Broken) → AreAmong (xs ++ ys) (ys ++ xs)
swapped xs ys = both_among xs ys (ys ++ xs) (among_right xs ys xs (among_itself xs)) (among_left ys ys xs (among_itself ys))

-- the second of two searches stands first in the list
pub collects_swapped : (xs ys : List Broken) (old mid new : BrokenRules) → Collects ys old mid → Collects xs mid new
    → Collects (xs ++ ys) old new
collects_swapped xs ys old mid new h i =
    collects_same (ys ++ xs) (xs ++ ys) old new (swapped ys xs) (swapped xs ys) (collects_both ys xs old mid new h i)

-- A search for a list of which this rest is left: what it added, and that it is complete when the rest was searched.
pub record Searches (all rest : List Broken) (start it : BrokenRules) : Type 0 where
  pub among : AreAmong rest all
  pub adds : Adds all start it
  pub covers : (new : BrokenRules) → Adds all it new → Covers rest new → Covers all new

pub search_starts : (all : List Broken) (start it : BrokenRules) → start ≡ it → Searches all all start it
search_starts all start it is = subst (λ b. Searches all all start b) is (record {
  among = among_itself all;
  adds = adds_nothing all start;
  covers = λ new h i. i;
})

-- one part of the rest was searched, perhaps not to its end
pub search_fails : (all part rest : List Broken) (start it next : BrokenRules) → Searches all (part ++ rest) start it
    → Adds part it next → Adds all start next
search_fails all part rest start it next h i =
    adds_then all start it next h.adds
    (adds_more part all it next (among_then part (part ++ rest) all (among_left part part rest (among_itself part)) h.among) i)

pub search_goes_on : (all part rest : List Broken) (start it next : BrokenRules) → Searches all (part ++ rest) start it
    → Adds part it next → Covers part next → Searches all rest start next
search_goes_on all part rest start it next h i j = record {
  among = among_then rest (part ++ rest) all (among_right rest part rest (among_itself rest)) h.among;
  adds = search_fails all part rest start it next h i;
  covers = λ new k m. h.covers new
      (adds_then all it next new
      (adds_more part all it next (among_then part (part ++ rest) all (among_left part part rest (among_itself part)) h.among) i) k)
      (covers_both part rest new (covers_later part all next new j k) m);
}

pub search_ends : (all : List Broken) (start it : BrokenRules) → Searches all [] start it → Collects all start it
search_ends all start it h =
    record { adds = h.adds; covers = h.covers it (adds_nothing all it) (covers_nothing it) }

-- the same in a loop over a list
rest_next : {A B : Type 0} (f : B → List Broken) (g : A → B) (xs : List A) (i : ℕ) (x : A) → i < length xs
    → x ≡ slice_index_or xs i x → flat_map f (map g (drop i xs)) ≡ f (g x) ++ flat_map f (map g (drop (i + 1) xs))
rest_next f g xs i x h is = ap (flat_map f) (map_drop_next g xs i x h is)

pub loop_goes_on : {A B : Type 0} (f : B → List Broken) (g : A → B) (xs : List A) (i : ℕ) (x : A) (all : List Broken)
    (start it next : BrokenRules) → i < length xs → x ≡ slice_index_or xs i x
    → Searches all (flat_map f (map g (drop i xs))) start it → Adds (f (g x)) it next → Covers (f (g x)) next
    → Searches all (flat_map f (map g (drop (i + 1) xs))) start next
loop_goes_on f g xs i x all start it next h is s a c =
    search_goes_on all (f (g x)) (flat_map f (map g (drop (i + 1) xs))) start it next
    (subst (λ rest. Searches all rest start it) (rest_next f g xs i x h is) s) a c

pub loop_fails : {A B : Type 0} (f : B → List Broken) (g : A → B) (xs : List A) (i : ℕ) (x : A) (all : List Broken)
    (start it next : BrokenRules) → i < length xs → x ≡ slice_index_or xs i x
    → Searches all (flat_map f (map g (drop i xs))) start it → Adds (f (g x)) it next → Adds all start next
loop_fails f g xs i x all start it next h is s a =
    search_fails all (f (g x)) (flat_map f (map g (drop (i + 1) xs))) start it next
    (subst (λ rest. Searches all rest start it) (rest_next f g xs i x h is) s) a

pub loop_ends : {A B : Type 0} (f : B → List Broken) (g : A → B) (xs : List A) (i : ℕ) (all : List Broken)
    (start it : BrokenRules) → length xs ≤ i → Searches all (flat_map f (map g (drop i xs))) start it
    → Collects all start it
loop_ends f g xs i all start it h s =
    search_ends all start it (subst (λ ys. Searches all (flat_map f (map g ys)) start it) (drop_all i xs h) s)

-- the same rest in another order
pub search_same : (all rest other : List Broken) (start it : BrokenRules) → AreAmong rest other → AreAmong other rest
    → Searches all rest start it → Searches all other start it
search_same all rest other start it to from h = record {
  among = among_then other rest all from h.among;
  adds = h.adds;
  covers = λ new k m. h.covers new k (covers_less other rest new to m);
}

pub search_is : (all rest other : List Broken) (start it : BrokenRules) → rest ≡ other → Searches all rest start it
    → Searches all other start it
search_is all rest other start it e h = subst (λ ys. Searches all ys start it) e h

-- One broken rule: it was found before, or is now.
same_either_way : (xs : List Broken) (b : Broken) → list_any (λ x. same_broken x b) xs ≡ list_any (same_broken b) xs
same_either_way [] b = refl
same_either_way (x ∷ xs) b =
    ap (λ y. y || list_any (λ z. same_broken z b) xs) (laws-law.symm x b)
    ∙ ap (λ y. same_broken b x || y) (same_either_way xs b)

pub none_twice : (xs : List Broken) → xs ≡ [] → IsDistinct same_broken xs
unfolding IsDistinct
none_twice [] h = tt
none_twice (x ∷ xs) h = absurd (cc)

still_each_once : (xs : List Broken) (b : Broken) → IsDistinct same_broken xs
    → list_any (λ x. same_broken x b) xs ≡ false → IsDistinct same_broken (xs ++ b ∷ [])
still_each_once xs b h new = IsDistinct-push laws-law xs b h (sym (same_either_way xs b) ∙ new)

pub once_after_push : (ok : Bool) (xs ys : List Broken) (b : Broken) → ys ≡ (if ok then xs ++ b ∷ [] else xs)
    → IsDistinct same_broken xs → list_any (λ x. same_broken x b) xs ≡ false → IsDistinct same_broken ys
once_after_push true xs ys b is h new = subst (IsDistinct same_broken) (sym is) (still_each_once xs b h new)
once_after_push false xs ys b is h new = subst (IsDistinct same_broken) (sym is) h

record Equal (xs : List Broken) (b : Broken) : Type 0 where
  one : Broken
  has : Contains xs one
  same : same_broken one b ≡ true

equal_later : (x b : Broken) (xs : List Broken) → Equal xs b → Equal (x ∷ xs) b
equal_later x b xs e = record {
  one = e.one;
  has = Contains-append_right (x ∷ []) xs e.one e.has;
  same = e.same;
}

equal_first : (x b : Broken) (xs : List Broken) (t : Bool) → same_broken x b ≡ t → (t ≡ false → Equal xs b)
    → Equal (x ∷ xs) b
equal_first x b xs true is later =
    record { one = x; has = Contains-append_left (x ∷ []) xs x (zero, omega arith, refl); same = is }
equal_first x b xs false is later = equal_later x b xs (later refl)

equal_in : (xs : List Broken) (b : Broken) → list_any (λ x. same_broken x b) xs ≡ true → Equal xs b
equal_in [] b h = absurd (cc)
equal_in (x ∷ xs) b h = equal_first x b xs (same_broken x b) refl
    (λ is. equal_in xs b (sym (ap (λ t. t || list_any (λ z. same_broken z b) xs) is) ∙ h))

only_one : (b c : Broken) → Contains (b ∷ []) c → b ≡ c
only_one b c (zero, lt, is) = is
only_one b c (suc k, lt, is) = absurd (omega (arith, lt))

-- there is no room for it
pub collects_none : (xs : List Broken) (it : BrokenRules) → is_full it ≡ true → Collects xs it it
collects_none xs it h =
    record { adds = adds_nothing xs it; covers = λ full b k. absurd (false≢true (sym full ∙ h)) }

pub collects_equal : (b : Broken) (it : BrokenRules) → list_any (λ x. same_broken x b) it.found.items ≡ true
    → Collects (b ∷ []) it it
collects_equal b it h = record {
  adds = adds_nothing (b ∷ []) it;
  covers = λ full c k.
      let e = equal_in it.found.items b h in
      inr (record {
        other = e.one;
        is_found = e.has;
        stands = an_equal_one (ap (same_broken e.one) (sym (only_one b c k)) ∙ e.same);
      });
}
