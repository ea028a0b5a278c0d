-- Following calls: the additions of a name and of a turn, and the result in the end.
use Rattle.std.proofs.Common.{◌≡◌, refl, sym, ap, subst, ◌∙◌, arith, ℕ, zero, suc, ◌+◌, ◌≤◌, Bool, true, false}
use Rattle.std.proofs.Common.{List, [], ◌∷◌, ◌++◌, map, length, Option, Some, None, if◌then◌else◌, inl, inr}
use Rattle.std.specs.Prelude.{◌||◌, ◌⊎◌, is_some, is_none, not, option_map, bytes_eq, option_to_list}
use Rattle.std.proofs.lemmas.List.{length-map}
use Rattle.symbols.specs.Found.{or_found}
use Rattle.st_types.specs.Units.{OrganisationUnit}
use Rattle.st_meaning.specs.NameTypes.{Declared, is_named, unit_named}
use Rattle.st_meaning.specs.Scopes.{Name}
use Rattle.std.specs.List.{list_any}
use Rattle.st_rules.specs.Containment.{is_function, is_function_sort, is_own_function}
use Rattle.st_link.specs.Homes.{IsAmong, here, further_on}
use Rattle.st_link.proofs.HomeLemmas.{among_left, among_right}
use Rattle.layout.proofs.ListLemmas.{name_itself, same_name}
use Rattle.st_link.specs.CalledFunctions.{IsReached, program, callee, callees_of}
use Rattle.st_link.specs.Reaching.{Adds, FindsFunctions, FindsReached, Follows, IsFollowed, IsReachedUnit, Waits}
use Rattle.st_link.specs.Reaching.{Worklist, number_left}
use Rattle.st_types.proofs.ListLemmas.{length_push}
use Rattle.st_types.proofs.OptionLemmas.{some_is}
use Rattle.slot_trees.proofs.InstanceLemmas.{unit_name}
use Rattle.st_link.proofs.GivenPrograms.{among_one}

none_there : {X : Type 0} → false ≡ true → X
none_there e = absurd (cc)

none_some : {A X : Type 0} {a : A} → None ≡ Some a → X
none_some e = absurd (cc)

there_is : {A : Type 0} (o : Option A) {a : A} → o ≡ Some a → is_some o ≡ true
there_is o e = ap is_some e

-- a member of two lists together is some_is of some_is of them
among_parts : {A : Type 0} {a : A} (xs ys : List A) → IsAmong a (xs ++ ys) → IsAmong a xs ⊎ IsAmong a ys
among_parts [] ys i = inr i
among_parts (x ∷ xs) ys here = inl here
among_parts (x ∷ xs) ys (further_on i) = elim (among_parts xs ys i) [ inl j ↦ inl (further_on j) | inr j ↦ inr j ]

among_none : {A X : Type 0} {a : A} → IsAmong a [] → X
among_none i = elim i [ ]

-- no more are left than there are
pub left_at_most : (has : Name → Bool) (us : List OrganisationUnit) → number_left has us ≤ length us
left_at_most has [] = omega arith
left_at_most has (u ∷ us) = by_test (has u.name.name) (left_at_most has us)
  where
    by_test : (b : Bool) → number_left has us ≤ length us
        → (if b then 0 else 1) + number_left has us ≤ suc (length us)
    by_test true h = omega (arith, h)
    by_test false h = omega (arith, h)

-- no more are left if more is reached
pub left_fewer : (old new : Name → Bool) (us : List OrganisationUnit) → ((x : Name) → old x ≡ true → new x ≡ true)
    → number_left new us ≤ number_left old us
left_fewer old new [] kept = omega arith
left_fewer old new (u ∷ us) kept =
    by_tests (old u.name.name) (new u.name.name) (kept u.name.name) (left_fewer old new us kept)
  where
    by_tests : (a b : Bool) → (a ≡ true → b ≡ true) → number_left new us ≤ number_left old us
        → (if b then 0 else 1) + number_left new us ≤ (if a then 0 else 1) + number_left old us
    by_tests true true k h = omega (arith, h)
    by_tests true false k h = none_there (k refl)
    by_tests false true k h = omega (arith, h)
    by_tests false false k h = omega (arith, h)

-- some_is fewer is left if a unit of the text is new
pub left_one_fewer : (old new : Name → Bool) (us : List OrganisationUnit) (u : OrganisationUnit) (x : Name)
    → unit_named us x ≡ Some u → old x ≡ false → new x ≡ true → ((y : Name) → old y ≡ true → new y ≡ true)
    → number_left new us + 1 ≤ number_left old us
left_one_fewer old new [] u x e a b kept = none_some e
left_one_fewer old new (v ∷ us) u x e a b kept =
    by_name (λ f. left_one_fewer old new us u x f a b kept) (bytes_eq x v.name.name) refl e
  where
    first : (p q : Bool) → p ≡ false → q ≡ true → number_left new us ≤ number_left old us
        → (if q then 0 else 1) + number_left new us + 1 ≤ (if p then 0 else 1) + number_left old us
    first false true h k n = omega (arith, n)
    first true q h k n = absurd (cc)
    first false false h k n = absurd (cc)

    later : (p q : Bool) → (p ≡ true → q ≡ true) → number_left new us + 1 ≤ number_left old us
        → (if q then 0 else 1) + number_left new us + 1 ≤ (if p then 0 else 1) + number_left old us
    later true true k h = omega (arith, h)
    later true false k h = none_there (k refl)
    later false true k h = omega (arith, h)
    later false false k h = omega (arith, h)

    by_name : (unit_named us x ≡ Some u → number_left new us + 1 ≤ number_left old us) → (c : Bool)
        → bytes_eq x v.name.name ≡ c → (if c then Some v else unit_named us x) ≡ Some u
        → number_left new (v ∷ us) + 1 ≤ number_left old (v ∷ us)
    by_name fewer true is e =
        let same = same_name x v.name.name is in
        first (old v.name.name) (new v.name.name) (ap old (sym same) ∙ a) (ap new (sym same) ∙ b)
        (left_fewer old new us kept)
    by_name fewer false is e = later (old v.name.name) (new v.name.name) (kept v.name.name) (fewer e)

-- no name adds nothing
pub adds_none : (text : Declared) (w : Worklist) → Adds text [] w w
adds_none text w = record {
  kept = λ x h. h;
  there = λ x i there. among_none i;
  only = λ x h. inl h;
  waits = λ u i. i;
  each = λ u i. inl i;
  room = omega arith;
}

-- names and then others
pub adds_both : (text : Declared) (xs ys : List Name) (a b c : Worklist) → Adds text xs a b → Adds text ys b c
    → Adds text (xs ++ ys) a c
adds_both text xs ys a b c first second = record {
  kept = λ x h. second.kept x (first.kept x h);
  there = λ x i t. elim (among_parts xs ys i) [
    | inl j ↦ second.kept x (first.there x j t)
    | inr j ↦ second.there x j t
  ];
  only = λ x h. elim (second.only x h) [
    | inl old ↦ elim (first.only x old) [
      | inl older ↦ inl older
      | inr w ↦ inr (
        among_left xs ys w.0,
        record {
          unit = w.1.unit;
          named = w.1.named;
          among = second.waits w.1.unit w.1.among;
        },
      )
    ]
    | inr w ↦ inr (among_right xs ys w.0, w.1)
  ];
  waits = λ u i. second.waits u (first.waits u i);
  each = λ u i. elim (second.each u i) [
    | inl j ↦ elim (first.each u j) [
      | inl k ↦ inl k
      | inr r ↦ inr (record { named = r.named; reached = second.kept u.name.name r.reached })
    ]
    | inr r ↦ inr r
  ];
  room = omega (arith, first.room, second.room);
}

-- a name of no unit
pub adds_no_unit : (text : Declared) (x : Name) (w : Worklist) → unit_named text.units x ≡ None
    → Adds text (x ∷ []) w w
adds_no_unit text x w none = record {
  kept = λ y h. h;
  there = λ y i t. let same : y ≡ x = among_one i in
      none_there (sym (ap is_some none) ∙ ap (λ z. is_some (unit_named text.units z)) (sym same) ∙ t);
  only = λ y h. inl h;
  waits = λ u i. i;
  each = λ u i. inl i;
  room = omega arith;
}

-- the name of a unit that is reached already
pub adds_old : (text : Declared) (x : Name) (w : Worklist) → w.has x ≡ true → Adds text (x ∷ []) w w
adds_old text x w has = record {
  kept = λ y h. h;
  there = λ y i t. let same : y ≡ x = among_one i in ap w.has same ∙ has;
  only = λ y h. inl h;
  waits = λ u i. i;
  each = λ u i. inl i;
  room = omega arith;
}

-- the name of a unit that is new
pub adds_new : (text : Declared) (x : Name) (u : OrganisationUnit) (old new : Worklist)
    → unit_named text.units x ≡ Some u → old.has x ≡ false
    → ((y : Name) → new.has y ≡ (old.has y || bytes_eq y x)) → new.waiting ≡ old.waiting ++ u ∷ []
    → Adds text (x ∷ []) old new
adds_new text x u old new named fresh has waiting = record {
  kept = kept;
  there = λ y i t. let same : y ≡ x = among_one i in ap new.has same ∙ here_now;
  only = λ y h. by_old y (old.has y) refl (sym (has y) ∙ h);
  waits = λ v i. subst (IsAmong v) (sym waiting) (among_left old.waiting (u ∷ []) i);
  each = λ v i. elim (among_parts old.waiting (u ∷ []) (subst (IsAmong v) waiting i)) [
    | inl j ↦ inl j
    | inr j ↦ inr (standing v (among_one j))
  ];
  room = omega (arith, left_one_fewer old.has new.has text.units u x named fresh here_now kept, longer);
}
  where
    itself : x ≡ u.name.name
    itself = unit_name text.units x u named

    or_old : (a b : Bool) → a ≡ true → (a || b) ≡ true
    or_old true b h = refl
    or_old false b h = none_there h

    or_new : (a b : Bool) → b ≡ true → (a || b) ≡ true
    or_new true b h = refl
    or_new false b h = h

    kept : (y : Name) → old.has y ≡ true → new.has y ≡ true
    kept y h = has y ∙ or_old (old.has y) (bytes_eq y x) h

    here_now : new.has x ≡ true
    here_now = has x ∙ or_new (old.has x) (bytes_eq x x) (name_itself x)

    waiting_now : IsAmong u new.waiting
    waiting_now = subst (IsAmong u) (sym waiting) (among_right old.waiting (u ∷ []) here)

    by_old : (y : Name) (b : Bool) → old.has y ≡ b → (old.has y || bytes_eq y x) ≡ true
        → (old.has y ≡ true) ⊎ (IsAmong y (x ∷ []) × Waits text new.waiting y)
    by_old y true is h = inl is
    by_old y false is h =
        let same : y ≡ x = same_name y x (sym (ap (λ b. b || bytes_eq y x) is) ∙ h) in
        inr (
          subst (λ z. IsAmong z (x ∷ [])) (sym same) here,
          record { unit = u; named = ap (unit_named text.units) same ∙ named; among = waiting_now },
        )

    standing : (v : OrganisationUnit) → v ≡ u → IsReachedUnit text new.has v
    standing v same = subst (IsReachedUnit text new.has) (sym same) (record {
      named = ap (unit_named text.units) (sym itself) ∙ named;
      reached = ap new.has (sym itself) ∙ here_now;
    })

    longer : length new.waiting ≡ length old.waiting + 1
    longer = ap length waiting ∙ length_push old.waiting u

-- the name of a unit
pub adds_unit : (text : Declared) (x : Name) (u : OrganisationUnit) (old new : Worklist)
    → unit_named text.units x ≡ Some u → old.has u.name.name ≡ false
    → ((y : Name) → new.has y ≡ (old.has y || bytes_eq y u.name.name)) → new.waiting ≡ old.waiting ++ u ∷ []
    → Adds text (x ∷ []) old new
adds_unit text x u old new named fresh has waiting =
    let itself = unit_name text.units x u named in
    subst (λ z. Adds text (z ∷ []) old new) (sym itself)
    (adds_new text u.name.name u old new (ap (unit_named text.units) (sym itself) ∙ named) fresh has waiting)

pub adds_same : (text : Declared) (x : Name) (u : OrganisationUnit) (w : Worklist) → unit_named text.units x ≡ Some u
    → w.has u.name.name ≡ true → Adds text (x ∷ []) w w
adds_same text x u w named has = adds_old text x w (ap w.has (unit_name text.units x u named) ∙ has)

-- the result of a look-up after an entry was added
pub found_after : {A : Type 0} (before after : Option A) (b : Bool) (v : A)
    → after ≡ or_found before (if b then Some v else None) → is_some after ≡ (is_some before || b)
found_after (Some w) after b v e = ap is_some e
found_after None after true v e = ap is_some e
found_after None after false v e = ap is_some e

-- whether a look-up finds something
pub was_found : {A B : Type 0} (f : A → B) (given : Option A) (kept : Option B) (b : Bool)
    → option_map f given ≡ kept → is_none given ≡ b → is_some kept ≡ not b
was_found f None kept b e n = ap is_some (sym e) ∙ ap not n
was_found f (Some x) kept b e n = ap is_some (sym e) ∙ ap not n

pub follows_first : (text : Declared) (programs : List Name) (none w : Worklist)
    → ((x : Name) → none.has x ≡ false) → none.waiting ≡ [] → Adds text programs none w
    → Follows text programs (length text.units) w
follows_first text programs none w nothing empty added = record {
  only = λ x h. elim (added.only x h) [
    | inl old ↦ none_there (sym (nothing x) ∙ old)
    | inr new ↦ program new.0
  ];
  roots = added.there;
  standing = λ u i. elim (added.each u i) [ inl j ↦ among_none (subst (IsAmong u) empty j) | inr r ↦ r ];
  followed = λ y u h named. elim (added.only y h) [
    | inl old ↦ none_there (sym (nothing y) ∙ old)
    | inr new ↦ inl (subst (λ v. IsAmong v w.waiting) (some_is (sym new.1.named ∙ named)) new.1.among)
  ];
  room = omega (arith, added.room, left_at_most none.has text.units, ap length empty);
}

-- some_is turn, in which the last of those that wait is followed
pub follows_more : (text : Declared) (programs : List Name) (turns next : ℕ) (old new : Worklist)
    (rest : List OrganisationUnit) (u : OrganisationUnit) → old.waiting ≡ rest ++ u ∷ [] → turns ≡ next + 1
    → Adds text (callees_of u) (record { has = old.has; waiting = rest }) new
    → Follows text programs turns old → Follows text programs next new
follows_more text programs turns next old new rest u waiting turn added h = record {
  only = λ x k. elim (added.only x k) [
    | inl older ↦ h.only x older
    | inr new ↦ callee (h.only u.name.name at_hand.reached) at_hand.named new.0
  ];
  roots = λ x i t. added.kept x (h.roots x i t);
  standing = λ v i. elim (added.each v i) [
    | inl j ↦ kept_standing v (h.standing v (subst (IsAmong v) (sym waiting) (among_left rest (u ∷ []) j)))
    | inr r ↦ r
  ];
  followed = λ y v k named. elim (added.only y k) [
    | inl older ↦ elim (h.followed y v older named) [
      | inl i ↦ elim (among_parts rest (u ∷ []) (subst (IsAmong v) waiting i)) [
        | inl j ↦ inl (added.waits v j)
        | inr j ↦ inr (subst (IsFollowed text new.has) (sym (among_one j)) (record { all = added.there }))
      ]
      | inr f ↦ inr (record { all = λ x i t. added.kept x (f.all x i t) })
    ]
    | inr w ↦ inl (subst (λ z. IsAmong z new.waiting) (some_is (sym w.1.named ∙ named)) w.1.among)
  ];
  room = omega (arith, added.room, h.room, shorter, turn);
}
  where
    at_hand : IsReachedUnit text old.has u
    at_hand = h.standing u (subst (IsAmong u) (sym waiting) (among_right rest (u ∷ []) here))

    kept_standing : (v : OrganisationUnit) → IsReachedUnit text old.has v → IsReachedUnit text new.has v
    kept_standing v r = record { named = r.named; reached = added.kept v.name.name r.reached }

    shorter : length old.waiting ≡ length rest + 1
    shorter = ap length waiting ∙ length_push rest u

-- if nothing waits, all is found
pub follows_all : (text : Declared) (programs : List Name) (turns : ℕ) (w : Worklist) → w.waiting ≡ []
    → Follows text programs turns w → FindsReached text programs w.has
follows_all text programs turns w empty h = record { only = h.only; each = all }
  where
    go_on : (u : OrganisationUnit) → (IsAmong u w.waiting ⊎ IsFollowed text w.has u) → IsFollowed text w.has u
    go_on u (inl i) = among_none (subst (IsAmong u) empty i)
    go_on u (inr f) = f

    all : (x : Name) → IsReached text programs x → is_some (unit_named text.units x) ≡ true → w.has x ≡ true
    all x (program i) t = h.roots x i t
    all x (callee {x = _} {y = y} {u = u} reached named among) t =
        let before = all y reached (there_is (unit_named text.units y) named) in
        (go_on u (h.followed y u before named)).all x among t

-- nor does anything wait if no turn is left
pub none_waits : (text : Declared) (programs : List Name) (turns : ℕ) (w : Worklist) → turns ≡ 0
    → Follows text programs turns w → w.waiting ≡ []
none_waits text programs turns w none h = no_length w.waiting (omega (arith, h.room, none))
  where
    no_length : (vs : List OrganisationUnit) → length vs ≡ 0 → vs ≡ []
    no_length [] e = refl
    no_length (v ∷ vs) e = absurd (cc)

-- Without functions nothing has to be found.
pub no_functions : (text : Declared) (programs : List Name) (has : Name → Bool) → ((x : Name) → has x ≡ false)
    → list_any (λ u. is_function_sort u.sort) text.units ≡ false → FindsFunctions text programs has
no_functions text programs has nothing none = record {
  only = λ x h. none_there (sym (nothing x) ∙ h);
  each = λ x reached function. none_there (sym none ∙ there_one text.units x function);
}
  where
    or_here : (a b : Bool) → a ≡ true → (a || b) ≡ true
    or_here true b h = refl
    or_here false b h = none_there h

    or_there : (a b : Bool) → b ≡ true → (a || b) ≡ true
    or_there true b h = refl
    or_there false b h = h

    by_name : (u : OrganisationUnit) (us : List OrganisationUnit) (x : Name) (b : Bool)
        → (is_own_function (unit_named us x) ≡ true → list_any (λ v. is_function_sort v.sort) us ≡ true)
        → is_own_function (if b then Some u else unit_named us x) ≡ true
        → list_any (λ v. is_function_sort v.sort) (u ∷ us) ≡ true
    by_name u us x true rest h = or_here (is_function_sort u.sort) (list_any (λ v. is_function_sort v.sort) us) h
    by_name u us x false rest h =
        or_there (is_function_sort u.sort) (list_any (λ v. is_function_sort v.sort) us) (rest h)

    there_one : (us : List OrganisationUnit) (x : Name) → is_own_function (unit_named us x) ≡ true
        → list_any (λ u. is_function_sort u.sort) us ≡ true
    there_one [] x h = none_there h
    there_one (u ∷ us) x h = by_name u us x (is_named x u.name) (there_one us x) h

-- A search that finds the units finds the functions.
pub finds_functions : (text : Declared) (programs : List Name) (has : Name → Bool) → FindsReached text programs has
    → FindsFunctions text programs has
finds_functions text programs has h = record {
  only = h.only;
  each = λ x reached function. h.each x reached (there_too (unit_named text.units x) function);
}
  where
    there_too : (o : Option OrganisationUnit) → is_own_function o ≡ true → is_some o ≡ true
    there_too None e = none_there e
    there_too (Some u) e = refl

-- only an empty list gives no last element
pub none_taken : {A B : Type 0} (f : A → B) (old new : List A) (taken : Option A) → old ≡ new ++ option_to_list taken
    → taken ≡ None → length new ≡ 0 → map f old ≡ []
none_taken f old [] None is e none = ap (map f) is
none_taken f old new (Some x) is e none = some_none (sym e)
  where
    some_none : {A X : Type 0} {a : A} → None ≡ Some a → X
    some_none e = absurd (cc)
none_taken f old (y ∷ new) None is e none = absurd (omega (arith, none))

-- the same turns for as many units
pub for_units : {A : Type 0} (f : A → OrganisationUnit) (text : Declared) (programs : List Name) (us : List A)
    (w : Worklist) → map f us ≡ text.units → Follows text programs (length text.units) w
    → Follows text programs (length us) w
for_units f text programs us w is h =
    subst (λ n. Follows text programs n w) (sym (ap length is) ∙ length-map us f) h
