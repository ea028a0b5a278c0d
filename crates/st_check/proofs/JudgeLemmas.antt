-- The faults of a text, from those of its parts.
use Rattle.std.proofs.Common.{◌≡◌, refl, sym, ap, subst, ◌∙◌, ℕ, zero, List, [], ◌∷◌, ◌++◌, true, false, inl, inr}
use Rattle.std.proofs.Common.{arith}
use Rattle.std.proofs.Common.{append_assoc}
use Rattle.std.proofs.lemmas.Bool.{false≢true, leb-false}
use Rattle.std.specs.List.{Contains}
use Rattle.std.specs.Prelude.{IfOk, Result}
use Rattle.std.specs.declared.alloc.AllocError.{AllocError}
use Rattle.st_types.proofs.OptionLemmas.{ok_weaker}
use Rattle.st_types.specs.Sources.{Source}
use Rattle.st_rules.specs.declared.reason.Reason.TheVariants.{SurplusName}
use Rattle.st_rules.specs.declared.rule.Broken.{Broken}
use Rattle.st_rules.specs.declared.broken_rules.BrokenRules.{BrokenRules}
use Rattle.st_rules.specs.Collecting.{is_full, Adds, Collects, Covers, IsSampled, StandsFor, one_that_contains_itself}
use Rattle.st_rules.specs.Collecting.{an_equal_one, of_the_same_label}
use Rattle.st_rules.proofs.EqualityLemmas.{equal_surplus}
use Rattle.st_rules.specs.Faults.{breaking, breaks}
use Rattle.st_rules.specs.Rules.{broken, wrong_bodies, wrong_declarations, wrong_starts, wrong_types}
use Rattle.st_rules.proofs.CollectLemmas.{AreAmong, among_itself, among_then, among_left, among_right, covers_both}
use Rattle.st_rules.proofs.CollectLemmas.{covers_later, covers_less, adds_more, adds_then, none_among}
use Rattle.st_decl.specs.Judgements.{HasChecked}
use Rattle.st_check.specs.Complete.{CoversText}
use Rattle.st_check.specs.Surplus.{is_cons, surplus_names, types_beside_surplus, wrong_by_names}
use Rattle.st_check.proofs.PartLemmas.{is_among}

-- names beyond the last ones, apart from the rest
abbrev surplus : Source → List Broken
surplus s = breaking SurplusName (surplus_names s)

front : (u d e r b p : List Broken) → u ++ d ++ e ++ r ++ b ++ p ≡ u ++ (d ++ e ++ r ++ b ++ p)
front u d e r b p = simp append_assoc

types_are : (s : Source) → wrong_types s ≡ surplus s ++ types_beside_surplus s
types_are s = front (surplus s) _ _ _ _ _

regrouped : (d u n t b : List Broken) → d ++ (u ++ n) ++ t ++ b ≡ d ++ (u ++ (n ++ t ++ b))
regrouped d u n t b = simp append_assoc

broken_is : (s : Source) → broken s ≡ wrong_declarations s ++ (surplus s ++ wrong_by_names s)
broken_is s =
    ap (λ ts. wrong_declarations s ++ ts ++ wrong_starts s ++ wrong_bodies s) (types_are s)
    ∙ regrouped (wrong_declarations s) (surplus s) (types_beside_surplus s) (wrong_starts s) (wrong_bodies s)

-- the faults of each part are among all
module _ (s : Source) where
  abbrev parts : List Broken
  parts = wrong_declarations s ++ (surplus s ++ wrong_by_names s)

  parts_among : AreAmong parts (broken s)
  parts_among = is_among parts (broken s) (sym (broken_is s))

  pub declarations_among : AreAmong (wrong_declarations s) (broken s)
  declarations_among =
      let ds = wrong_declarations s in
      among_then ds parts (broken s) (among_left ds ds (surplus s ++ wrong_by_names s) (among_itself ds)) parts_among

  pub surplus_among : AreAmong (breaking SurplusName (surplus_names s)) (broken s)
  surplus_among =
      let us = surplus s in
      among_then us parts (broken s) (among_right us (wrong_declarations s) (us ++ wrong_by_names s)
      (among_left us us (wrong_by_names s) (among_itself us))) parts_among

  pub by_names_among : AreAmong (wrong_by_names s) (broken s)
  by_names_among =
      let ns = wrong_by_names s in
      among_then ns parts (broken s) (among_right ns (wrong_declarations s) (surplus s ++ ns)
      (among_right ns (surplus s) ns (among_itself ns))) parts_among

  pub covers_parts : (it : BrokenRules) → Covers (wrong_declarations s) it
      → Covers (breaking SurplusName (surplus_names s)) it → Covers (wrong_by_names s) it → Covers (broken s) it
  covers_parts it h i j =
      covers_less parts (broken s) it (is_among (broken s) parts (broken_is s))
      (covers_both (wrong_declarations s) (surplus s ++ wrong_by_names s) it h
      (covers_both (surplus s) (wrong_by_names s) it i j))

-- with no room left there is nothing to add
pub covers_full : (xs : List Broken) (it : BrokenRules) → is_full it ≡ true → Covers xs it
covers_full xs it h full b there = absurd (false≢true (sym full ∙ h))

pub has_surplus : (places : List ℕ) → is_cons places ≡ true → places ≡ [] → ⊥
has_surplus [] h none = false≢true h
has_surplus (p ∷ ps) h none = absurd (cc)

-- The first of such names is found, and there is no room for another one.
fills : (it : BrokenRules) (b : Broken) → it.room ≡ 1 → is_full it ≡ false → Contains it.found.items b → ⊥
fills it b one room there =
    let few = leb-false it.room _ room in
    let lt = there.1 in
    omega arith

-- only an equal one stands for it
found_itself : (it : BrokenRules) (p : ℕ) → IsSampled it.found.items (breaks SurplusName p)
    → Contains it.found.items (breaks SurplusName p)
found_itself it p h = by h.stands
  where
    by : StandsFor (breaks SurplusName p) h.other → Contains it.found.items (breaks SurplusName p)
    by (an_equal_one e) = subst (Contains it.found.items) (equal_surplus h.other p e) h.is_found
    by (one_that_contains_itself depth is) = absurd (false≢true depth)
    by (of_the_same_label own other same) = absurd (false≢true own)

complete : (places : List ℕ) (faults : List Broken) (it : BrokenRules) → it.room ≡ 1
    → Covers (breaking SurplusName places) it → (places ≡ [] → Covers faults it) → Covers faults it
complete [] faults it one h all = all refl
complete (p ∷ ps) faults it one h all =
    λ room b there. absurd (elim (h room (breaks SurplusName p) (zero, omega arith, refl))
    [ inl c ↦ fills it (breaks SurplusName p) one room c | inr s ↦ fills it (breaks SurplusName p) one room (found_itself it p s) ])

pub covers_text : (s : Source) (it : BrokenRules) → it.room ≡ 1 → CoversText s it → Covers (broken s) it
covers_text s it one h = complete (surplus_names s) (broken s) it one h.surplus h.all

-- what one search after another adds, and what all of them find
pub adds_first : (s : Source) (a b : BrokenRules) → Adds (wrong_declarations s) a b → Adds (broken s) a b
adds_first s a b h = adds_more (wrong_declarations s) (broken s) a b (declarations_among s) h

pub adds_second : (s : Source) (a b c : BrokenRules) → Adds (wrong_declarations s) a b
    → Adds (breaking SurplusName (surplus_names s)) b c → Adds (broken s) a c
adds_second s a b c h i =
    adds_then (broken s) a b c (adds_first s a b h) (adds_more (surplus s) (broken s) b c (surplus_among s) i)

pub adds_third : (s : Source) (a b c d : BrokenRules) → Adds (wrong_declarations s) a b
    → Adds (breaking SurplusName (surplus_names s)) b c → Adds (wrong_by_names s) c d → Adds (broken s) a d
adds_third s a b c d h i j =
    adds_then (broken s) a c d (adds_second s a b c h i)
    (adds_more (wrong_by_names s) (broken s) c d (by_names_among s) j)

pub found_all : (s : Source) (b c d : BrokenRules) → Covers (wrong_declarations s) b
    → Collects (breaking SurplusName (surplus_names s)) b c → Adds (wrong_by_names s) c d
    → Covers (wrong_by_names s) d → CoversText s d
found_all s b c d h i j k =
    let declared = covers_later (wrong_declarations s) (wrong_by_names s) c d
    (covers_later (wrong_declarations s) (surplus s) b c h i.adds) j in
    let names = covers_later (surplus s) (wrong_by_names s) c d i.covers j in
    record { declared = declared; surplus = names; all = λ none. covers_parts s d declared names k }

pub has_checked : (s : Source) (ended : Result (Unit {0}) AllocError) (old it : BrokenRules) → old.found.items ≡ []
    → old.room ≡ 1 → Adds (broken s) old it → IfOk ended (λ done. CoversText s it) → HasChecked (broken s) ended it
has_checked s ended old it none one h found =
    let room = h.keeps.same_room ∙ one in
    record {
      room = room;
      among = λ b k. elim (h.true_ones b k) [
        | inl p ↦ none_among (broken s) b (subst (λ xs. Contains xs b) none p)
        | inr q ↦ q
      ];
      covers = ok_weaker ended (λ done. CoversText s it) (λ done. Covers (broken s) it)
          (λ done text. covers_text s it room text) found;
    }
