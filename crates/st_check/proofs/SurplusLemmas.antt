-- A loop over declarations for names beyond the last ones of enumerated types.
use Rattle.std.proofs.Common.{◌≡◌, refl, sym, ap, ◌∙◌, ℕ, ◌+◌, ◌<◌, ◌≤◌, List, [], ◌∷◌, ◌++◌, length, map, drop}
use Rattle.std.proofs.Common.{Bool, true}
use Rattle.std.proofs.Common.{false, ◌||◌, Option, Some, None, option_map, slice_index_or}
use Rattle.std.specs.List.{flat_map}
use Rattle.std.proofs.lemmas.List.{drop_all}
use Rattle.st_types.specs.declared.identifier.Identifier.{Identifier}
use Rattle.st_types.proofs.ListLemmas.{map_drop_next}
use Rattle.st_rules.specs.declared.reason.Reason.TheVariants.{SurplusName}
use Rattle.st_rules.specs.declared.rule.Broken.{Broken}
use Rattle.st_rules.specs.declared.broken_rules.BrokenRules.{BrokenRules}
use Rattle.st_rules.specs.Collecting.{Collects}
use Rattle.st_rules.specs.Faults.{breaking}
use Rattle.st_rules.specs.TypeRules.{surplus_name}
use Rattle.st_rules.proofs.CollectLemmas.{Searches, collects_is, loop_goes_on}
use Rattle.st_decl.specs.declared.entries.Entry as code_entry
use Rattle.st_decl.specs.Entries.{Entry, of_each, entry_view, enumeration_of}
use Rattle.st_check.specs.Surplus.{is_cons}

abbrev pub places_of : Entry → List ℕ
places_of e = of_each surplus_name (enumeration_of e)

abbrev pub faults_of : Entry → List Broken
faults_of e = breaking SurplusName (places_of e)

-- what is found until a declaration
pub record Counts (entries : List code_entry.Entry) (i : ℕ) (found : Bool) (start it : BrokenRules) : Type 0 where
  pub faults : Searches (flat_map faults_of (map entry_view entries))
      (flat_map faults_of (map entry_view (drop i entries))) start it
  pub counted : (found || is_cons (flat_map places_of (map entry_view (drop i entries))))
      ≡ is_cons (flat_map places_of (map entry_view entries))

cons_either : (xs ys : List ℕ) → is_cons (xs ++ ys) ≡ (is_cons xs || is_cons ys)
cons_either [] ys = refl
cons_either (x ∷ xs) ys = refl

swapped : (a b c : Bool) → ((a || b) || c) ≡ (b || (a || c))
swapped true true c = refl
swapped true false c = refl
swapped false true c = refl
swapped false false c = refl

last : (a : Bool) → (a || false) ≡ a
last true = refl
last false = refl

pub none_seen : {A C : Type 0} (k : A → C) (o : Option A) (p : Option C) → ((x : A) → o ≡ Some x → ⊥)
    → option_map k o ≡ p → None ≡ p
none_seen k None p h is = is
none_seen k (Some x) p h is = absurd (h x refl)

pub count_goes_on : (entries : List code_entry.Entry) (i : ℕ) (x : code_entry.Entry) (o : Option (List Identifier))
    (more found after : Bool) (start it next last : BrokenRules) → i < length entries → x ≡ slice_index_or entries i x
    → o ≡ enumeration_of (entry_view x) → more ≡ is_cons (of_each surplus_name o)
    → Collects (breaking SurplusName (of_each surplus_name o)) it next → after ≡ (more || found) → last ≡ next
    → Counts entries i found start it → Counts entries (i + 1) after start last
count_goes_on entries i x o more found after start it next last h is names told one now ended before =
    let own = places_of (entry_view x) in
    let rest = flat_map places_of (map entry_view (drop (i + 1) entries)) in
    let here = collects_is _ (faults_of (entry_view x)) it next
    (ap (λ p. breaking SurplusName (of_each surplus_name p)) names) one in
    rw (now, ended) (record {
      faults = loop_goes_on faults_of entry_view entries i x (flat_map faults_of (map entry_view entries)) start it next
          h
          is before.faults here.adds here.covers;
      counted = swapped more found (is_cons rest) ∙ ap (λ b. found || (b || is_cons rest)) told
          ∙ ap (λ p. found || (is_cons (of_each surplus_name p) || is_cons rest)) names
          ∙ ap (λ b. found || b) (sym (cons_either own rest))
          ∙ ap (λ ps. found || is_cons (flat_map places_of ps)) (sym (map_drop_next entry_view entries i x h is))
          ∙ before.counted;
    })

pub count_ends : (entries : List code_entry.Entry) (i : ℕ) (found : Bool) (start it : BrokenRules) → length entries ≤ i
    → Counts entries i found start it → found ≡ is_cons (flat_map places_of (map entry_view entries))
count_ends entries i found start it h all =
    sym (last found) ∙ ap (λ ys. found || is_cons (flat_map places_of (map entry_view ys))) (sym (drop_all i entries h))
    ∙ all.counted
