-- The rule C6 by the depths of the code's graph, and what a check answers.
use Rattle.std.proofs.Common.{◌≡◌, refl, sym, ap, subst, ◌∙◌, ℕ, List, [], ◌∷◌, ◌++◌, Option, Some, None}
use Rattle.std.proofs.Common.{◌⊎◌, inl, inr, length, Bool, true, false, if◌then◌else◌, arith, append_assoc}
use Rattle.std.specs.Prelude.{slice_get, nat_le, Result, IfOk}
use Rattle.std.specs.List.{flat_map, Contains}
use Rattle.std.specs.declared.alloc.AllocError.{AllocError}
use Rattle.std.proofs.lemmas.List.Elements.{Contains-append_left, Contains-push}
use Rattle.std.proofs.lemmas.List.Elements.{Contains-push_cases, Contains-append_cases}
use Rattle.st_types.specs.Declarations.{TypeDeclaration}
use Rattle.st_types.specs.Sources.{Source}
use Rattle.st_types.specs.Units.{OrganisationUnit}
use Rattle.st_meaning.specs.Scopes.{Name}
use Rattle.st_meaning.specs.NameTypes.{Declared, declared_in}
use Rattle.st_rules.specs.declared.reason.Reason.{Reason}
use Rattle.st_rules.specs.declared.reason.Reason.TheVariants.{ContainsItself, TooDeep, RetainedAddress}
use Rattle.st_rules.specs.declared.rule.Broken.{Broken}
use Rattle.st_rules.specs.declared.broken_rules.BrokenRules.{BrokenRules}
use Rattle.st_rules.specs.Collecting.{is_full, is_of_depth, Adds, Covers, Collects, IsSampled, StandsFor}
use Rattle.st_rules.specs.Collecting.{an_equal_one, one_that_contains_itself, of_the_same_label}
use Rattle.st_rules.proofs.EqualityLemmas.{equal_cycle}
use Rattle.st_rules.specs.Faults.{breaks, breaking, in_case}
use Rattle.st_rules.specs.DeclaredTypes.{arrays_in, unnamed_arrays_in}
use Rattle.st_rules.specs.TypeRules.{wrong_bounds, retained_addresses_of}
use Rattle.st_rules.specs.InitialRules.{too_long}
use Rattle.st_rules.specs.TwiceDeclared.{twice_declared}
use Rattle.st_rules.specs.Rules.{starts_in, wrong_declarations}
use Rattle.st_rules.specs.Containment.{named, is_too_deep, is_wrong_unit, too_deep, too_deep_types, too_deep_units}
use Rattle.st_rules.specs.Containment.{too_deep_array, row, contains_itself, reason_of_depth}
use Rattle.st_rules.proofs.CollectLemmas.{adds_more, adds_then, collects_both, Searches, search_starts}
use Rattle.st_rules.proofs.CollectLemmas.{search_is}
use Rattle.st_decl.specs.declared.depths.Mark.{Mark}
use Rattle.st_decl.specs.Graphs.{Graph, IsCycle}
use Rattle.st_decl.specs.Walks.{AllMarked}
use Rattle.st_decl.specs.Numbered.{IsGraphOf, node_places, AreJudged}
use Rattle.st_decl.specs.Judgements.{HasChecked}
use Rattle.st_decl.proofs.GraphWays.{cycle_told}
use Rattle.st_decl.proofs.DeepLemmas.{deep_told, none_contains_itself}
use Rattle.st_decl.proofs.PlaceLemmas.{cycle_place, cycle_has_place}

pub judged : (text : Declared) (numbers : Name → Option ℕ) (graph : Graph) (marks : List Mark)
    → IsGraphOf text numbers graph → AllMarked graph marks → AreJudged text numbers marks
judged text numbers graph marks g told = record {
  deep = λ p. deep_told text numbers graph marks p g told;
  clean = λ x. none_contains_itself text numbers graph marks x g told;
}

-- one that contains itself
cycle_found : (source : Source) (numbers : Name → Option ℕ) (graph : Graph) (i p : ℕ)
    → IsGraphOf (declared_in source) numbers graph → IsCycle graph i
    → Some p ≡ slice_get (node_places (declared_in source)) i → Contains (too_deep source) (breaks ContainsItself p)
cycle_found source numbers graph i p g cycle is =
    let text = declared_in source in
    Contains-append_left (too_deep_types text ++ too_deep_units text)
    (flat_map (too_deep_array text) (unnamed_arrays_in source)) (breaks ContainsItself p)
    (cycle_place text i p (cycle_told text numbers graph i g cycle) (sym is))

pub cycle_has_one : (source : Source) (numbers : Name → Option ℕ) (graph : Graph) (i : ℕ)
    → IsGraphOf (declared_in source) numbers graph → IsCycle graph i
    → None ≡ slice_get (node_places (declared_in source)) i → ⊥
cycle_has_one source numbers graph i g cycle is =
    cycle_has_place (declared_in source) i (cycle_told (declared_in source) numbers graph i g cycle) (sym is)

nothing_in : {X : Type 0} (xs : List X) (x : X) → xs ≡ [] → Contains xs x → ⊥
nothing_in xs x none h = let there = subst (λ ys. Contains ys x) none h in let lt = there.1 in omega arith

one_is : {X : Type 0} (x y : X) → Contains (x ∷ []) y → x ≡ y
one_is x y h = elim (Contains-push_cases [] x y h) [ inl p ↦ absurd (nothing_in [] y refl p) | inr e ↦ e ]

has_reason : (reason : Reason) (places : List ℕ) (b : Broken) → Contains (breaking reason places) b → b.reason ≡ reason
has_reason reason [] b h = absurd (nothing_in [] b refl h)
has_reason reason (q ∷ places) b h =
    elim (Contains-append_cases (breaks reason q ∷ []) (breaking reason places) b h) [
      | inl e ↦ sym (ap (λ c. c.reason) (one_is (breaks reason q) b e))
      | inr k ↦ has_reason reason places b k
    ]

-- all of these are about depths
abbrev AreOfDepth : List Broken → Type 0
AreOfDepth bs = (b : Broken) → Contains bs b → is_of_depth b.reason ≡ true

of_one_reason : (reason : Reason) (places : List ℕ) → is_of_depth reason ≡ true → AreOfDepth (breaking reason places)
of_one_reason reason places h b k = ap is_of_depth (has_reason reason places b k) ∙ h

both_of_depth : (xs ys : List Broken) → AreOfDepth xs → AreOfDepth ys → AreOfDepth (xs ++ ys)
both_of_depth xs ys h i b k = elim (Contains-append_cases xs ys b k) [ inl p ↦ h b p | inr p ↦ i b p ]

all_of_depth : {A : Type 0} (f : A → List Broken) → ((a : A) → AreOfDepth (f a)) → (xs : List A)
    → AreOfDepth (flat_map f xs)
all_of_depth f h [] b k = absurd (nothing_in [] b refl k)
all_of_depth f h (x ∷ xs) b k = both_of_depth (f x) (flat_map f xs) (h x) (all_of_depth f h xs) b k

either_of_depth : (cycle : Bool) → is_of_depth (if cycle then ContainsItself else TooDeep) ≡ true
either_of_depth true = refl
either_of_depth false = refl

abbrev deep_type : Declared → TypeDeclaration → List Broken
deep_type text t =
    breaking (reason_of_depth text t.name.name) (in_case (is_too_deep text (named t.name.name)) t.name.place)

abbrev deep_unit : Declared → OrganisationUnit → List Broken
deep_unit text u =
    breaking (reason_of_depth text u.name.name) (in_case (is_wrong_unit text u.sort u.name.name) u.name.place)

too_deep_of_depth : (source : Source) → AreOfDepth (too_deep source)
too_deep_of_depth source =
    let text = declared_in source in
    let arrays = flat_map (too_deep_array text) (unnamed_arrays_in source) in
    both_of_depth (too_deep_types text ++ too_deep_units text) arrays
    (both_of_depth (too_deep_types text) (too_deep_units text)
    (all_of_depth (deep_type text) (λ t. of_one_reason (reason_of_depth text t.name.name)
    (in_case (is_too_deep text (named t.name.name)) t.name.place)
    (either_of_depth (contains_itself text t.name.name))) text.types)
    (all_of_depth (deep_unit text) (λ u. of_one_reason (reason_of_depth text u.name.name)
    (in_case (is_wrong_unit text u.sort u.name.name) u.name.place)
    (either_of_depth (contains_itself text u.name.name))) text.units))
    (all_of_depth (too_deep_array text) (λ a. of_one_reason TooDeep
    (in_case (is_too_deep text (row a.element)) a.place) refl) (unnamed_arrays_in source))

-- only that one is added
cycle_adds : (source : Source) (numbers : Name → Option ℕ) (graph : Graph) (i p : ℕ) (old new : BrokenRules)
    → IsGraphOf (declared_in source) numbers graph → IsCycle graph i
    → Some p ≡ slice_get (node_places (declared_in source)) i → Adds (breaks ContainsItself p ∷ []) old new
    → Adds (too_deep source) old new
cycle_adds source numbers graph i p old new g cycle is h =
    adds_more (breaks ContainsItself p ∷ []) (too_deep source) old new
    (λ b k. subst (Contains (too_deep source)) (one_is (breaks ContainsItself p) b k)
    (cycle_found source numbers graph i p g cycle is)) h

-- and it stands for the others
stands_too : (p : ℕ) (b c : Broken) → is_of_depth b.reason ≡ true → StandsFor (breaks ContainsItself p) c
    → StandsFor b c
stands_too p b c is (an_equal_one e) = one_that_contains_itself is (equal_cycle c p e)
stands_too p b c is (one_that_contains_itself _ e) = one_that_contains_itself is e
stands_too p b c is (of_the_same_label own _ _) = absurd (cc)

cycle_covers : (source : Source) (p : ℕ) (it : BrokenRules) → Covers (breaks ContainsItself p ∷ []) it
    → Covers (too_deep source) it
cycle_covers source p it h full b k =
    inr (by_found (h full (breaks ContainsItself p) (Contains-push [] (breaks ContainsItself p))))
  where
    is : is_of_depth b.reason ≡ true
    is = too_deep_of_depth source b k

    by_found : Contains it.found.items (breaks ContainsItself p) ⊎ IsSampled it.found.items (breaks ContainsItself p)
        → IsSampled it.found.items b
    by_found (inl found) = record {
      other = breaks ContainsItself p;
      is_found = found;
      stands = one_that_contains_itself is refl;
    }
    by_found (inr s) = record {
      other = s.other;
      is_found = s.is_found;
      stands = stands_too p b s.other is s.stands;
    }

pub cycle_collected : (source : Source) (numbers : Name → Option ℕ) (graph : Graph) (i p : ℕ) (old new : BrokenRules)
    → IsGraphOf (declared_in source) numbers graph → IsCycle graph i
    → Some p ≡ slice_get (node_places (declared_in source)) i → Collects (breaks ContainsItself p ∷ []) old new
    → Collects (too_deep source) old new
cycle_collected source numbers graph i p old new g cycle is h = record {
  adds = cycle_adds source numbers graph i p old new g cycle is h.adds;
  covers = cycle_covers source p new h.covers;
}

-- if nothing contains itself, a type or unit at fault is too deep
pub none_cycles : (text : Declared) (numbers : Name → Option ℕ) (marks : List Mark) (x : Name) (places : List ℕ)
    (old new : BrokenRules) → AreJudged text numbers marks → Collects (breaking TooDeep places) old new
    → Collects (breaking (reason_of_depth text x) places) old new
none_cycles text numbers marks x places old new judged h =
    subst (λ cycle. Collects (breaking (if cycle then ContainsItself else TooDeep) places) old new)
    (sym (judged.clean x)) h

-- types, units and arrays that are too deep, if nothing contains itself
pub deep_collected : (source : Source) (text : Declared) (old first second new : BrokenRules)
    → text ≡ declared_in source → Collects (too_deep_types text) old first → Collects (too_deep_units text) first second
    → Collects (flat_map (too_deep_array text) (unnamed_arrays_in source)) second new
    → Collects (too_deep source) old new
deep_collected source text old first second new whole types units arrays =
    let t = too_deep_types text in
    let u = too_deep_units text in
    let a = flat_map (too_deep_array text) (unnamed_arrays_in source) in
    subst (λ z. Collects (too_deep_types z ++ too_deep_units z
    ++ flat_map (too_deep_array z) (unnamed_arrays_in source)) old new) whole
    (collects_both (t ++ u) a old second new (collects_both t u old first second types units) arrays)

-- if there was room and nothing was found, there is nothing
pub nothing_found : (faults : List Broken) (it : BrokenRules) → it.room ≡ 1 → None ≡ slice_get it.found.items 0
    → Covers faults it → faults ≡ []
nothing_found [] it room none h = refl
nothing_found (b ∷ faults) it room none h =
    absurd (elim (h not_full b (Contains-append_left (b ∷ []) faults b (Contains-push [] b))) [
      | inl p ↦ nothing_in it.found.items b empty p
      | inr s ↦ nothing_in it.found.items s.other empty s.is_found
    ])
  where
    no_first : (xs : List Broken) → None ≡ slice_get xs 0 → xs ≡ []
    no_first [] k = refl
    no_first (x ∷ xs) k = absurd (cc)

    empty : it.found.items ≡ []
    empty = no_first it.found.items none

    not_full : is_full it ≡ false
    not_full = ap (λ r. nat_le r (length it.found.items)) room ∙ ap (λ xs. nat_le 1 (length xs)) empty

-- a check that began with nothing found and room for one
pub has_checked : (faults : List Broken) (ended : Result (Unit {0}) AllocError) (old new : BrokenRules)
    → old.found.items ≡ [] → old.room ≡ 1 → Adds faults old new → IfOk ended (λ done. Covers faults new)
    → HasChecked faults ended new
has_checked faults ended old new none room adds covers = record {
  room = adds.keeps.same_room ∙ room;
  among = λ b h. elim (adds.true_ones b h) [ inl p ↦ absurd (nothing_in old.found.items b none p) | inr k ↦ k ];
  covers = covers;
}

-- a search for all that declarations alone break, part by part
pub declarations_start : (source : Source) (it : BrokenRules)
    → Searches (wrong_declarations source) (twice_declared source ++ (too_deep source
    ++ (flat_map wrong_bounds (arrays_in source) ++ (flat_map (too_long (declared_in source)) (starts_in source)
    ++ breaking RetainedAddress (flat_map retained_addresses_of source))))) it it
declarations_start source it =
    let twice = twice_declared source in
    let deep = too_deep source in
    let bounds = flat_map wrong_bounds (arrays_in source) in
    let lists = flat_map (too_long (declared_in source)) (starts_in source) in
    let addresses = breaking RetainedAddress (flat_map retained_addresses_of source) in
    let all = wrong_declarations source in
    search_is all all (twice ++ (deep ++ (bounds ++ (lists ++ addresses)))) it it
    (append_assoc (twice ++ deep ++ bounds) lists addresses ∙ append_assoc (twice ++ deep) bounds (lists ++ addresses)
    ∙ append_assoc twice deep (bounds ++ (lists ++ addresses))) (search_starts all it it refl)

-- the last part
pub search_completes : (all rest : List Broken) (start it new : BrokenRules) → Searches all rest start it
    → Collects rest it new → Collects all start new
search_completes all rest start it new s h =
    let more = adds_more rest all it new s.among h.adds in
    record { adds = adds_then all start it new s.adds more; covers = s.covers new more h.covers }
