-- Instances are distinguished by their names.
use Rattle.std.proofs.Common.{◌≡◌, ◌⊎◌, inl, inr, ◌+◌, ℕ, zero, suc, refl, sym, ap, ap₂, ◌∙◌, subst, Bool, true, false}
use Rattle.std.proofs.Common.{◌&&◌, ◌||◌, not, List, [], ◌∷◌, ◌++◌, map, length, slice_get, Some}
use Rattle.std.proofs.Common.{option_map, append_assoc}
use Rattle.std.specs.Prelude.{codes, bytes_eq}
use Rattle.std.specs.List.{list_all}
use Rattle.st_types.specs.declared.path.Owner.{Owner}
use Rattle.st_types.specs.UpperNames.{is_letter_or_digit, is_upper_name}
use Rattle.st_types.specs.declared.configuration.Instance.{Instance}
use Rattle.st_types.specs.Configurations.{Configuration, Resource}
use Rattle.st_types.specs.Sources as sources
use Rattle.st_types.specs.Sources.{Source}
use Rattle.st_meaning.specs.Runs.{Program}
use Rattle.st_meaning.specs.Scopes.{Name, contains_name}
use Rattle.st_rules.specs.Rules.{IsWellTyped}
use Rattle.st_link.proofs.WellTypedTexts.{parts_right}
use Rattle.layout.specs.LayoutVariables.{configurations_in, only_configuration, owner_in, variables_of_globals}
use Rattle.layout.specs.Libraries.{programs_of_text}
use Rattle.layout.specs.Names.{are_different, has_different_instances, is_configuration_different}
use Rattle.layout.proofs.ListLemmas.{get_split, name_itself}
use Rattle.st_link.proofs.DifferentNames.{scopes_differ}
use Rattle.st_meaning.specs.Plans as plans
use Rattle.config.specs.PlainDeclarations.{is_plain, is_plain_configuration, is_plain_element, is_plain_globals}
use Rattle.config.specs.PlainDeclarations.{is_plain_instance, is_plain_resource, is_word}
use Rattle.config.proofs.OnePath.{word_bytes}
use Rattle.plan.specs.Owners.{name_of, AreDistinguished}
use Rattle.config.specs.declared.places.Place.{Place}
use Rattle.config.specs.Places.{places_from}
use Rattle.config.specs.TextPlans.{instances_at, resources_of, IsPlanOf}
use Rattle.config.proofs.ConfiguredLemmas.{only, owners_of_text, resources}
use Rattle.config.proofs.ListLemmas.{all_get, mapped}
use Rattle.config.proofs.PlaceLemmas.{owners_in, owners_on}
use Rattle.st_types.proofs.OptionLemmas.{some_is}
use Rattle.std.proofs.lemmas.Bool.{and_parts, and_from}
use Rattle.st_types.proofs.ListLemmas.{all_append}
use Rattle.std.proofs.lemmas.Option.{slice_get-map}
use Rattle.st_types.proofs.TestLemmas.{false_from_not}

-- ---- a word ends at its mark

cut_word : (m : ℕ) → is_letter_or_digit m ≡ false → (x y r s : List ℕ) → list_all is_letter_or_digit x ≡ true
    → list_all is_letter_or_digit y ≡ true → x ++ m ∷ r ≡ y ++ m ∷ s → (x ≡ y) × (r ≡ s)
cut_word m mark [] [] r s h k e = (refl, tails e)
  where
    tails : m ∷ r ≡ m ∷ s → r ≡ s
    tails e = cc
cut_word m mark [] (b ∷ y) r s h k e =
    let q : m ≡ b = heads e in
    let p = (and_parts (is_letter_or_digit b) (list_all is_letter_or_digit y) k).0 in
    let f : true ≡ false = sym p ∙ ap is_letter_or_digit (sym q) ∙ mark in absurd (cc)
  where
    heads : m ∷ r ≡ b ∷ (y ++ m ∷ s) → m ≡ b
    heads e = cc
cut_word m mark (b ∷ x) [] r s h k e =
    let q : b ≡ m = heads e in
    let p = (and_parts (is_letter_or_digit b) (list_all is_letter_or_digit x) h).0 in
    let f : true ≡ false = sym p ∙ ap is_letter_or_digit q ∙ mark in absurd (cc)
  where
    heads : b ∷ (x ++ m ∷ r) ≡ m ∷ s → b ≡ m
    heads e = cc
cut_word m mark (b ∷ x) (c ∷ y) r s h k e =
    let q : b ≡ c = heads e in
    let rest = cut_word m mark x y r s (and_parts (is_letter_or_digit b) (list_all is_letter_or_digit x) h).1
    (and_parts (is_letter_or_digit c) (list_all is_letter_or_digit y) k).1 (tails e) in
    (ap₂ (λ z (zs : List ℕ). z ∷ zs) q rest.0, rest.1)
  where
    heads : b ∷ (x ++ m ∷ r) ≡ c ∷ (y ++ m ∷ s) → b ≡ c
    heads e = cc

    tails : b ∷ (x ++ m ∷ r) ≡ c ∷ (y ++ m ∷ s) → x ++ m ∷ r ≡ y ++ m ∷ s
    tails e = cc

abbrev is_word_owner : Owner → Bool
is_word_owner o = is_upper_name o.resource && is_upper_name o.instance

parted : (o : Owner) (more : List ℕ) → (name_of o ++ codes " ") ++ more ≡ o.resource ++ 47 ∷ (o.instance ++ 32 ∷ more)
parted o more =
    append_assoc (name_of o) (codes " ") more
    ∙ append_assoc (o.resource ++ codes "/") o.instance (32 ∷ more)
    ∙ append_assoc o.resource (codes "/") (o.instance ++ 32 ∷ more)

pub one_owner : (o p : Owner) (more rest : List ℕ) → is_word_owner o ≡ true → is_word_owner p ≡ true
    → (name_of o ++ codes " ") ++ more ≡ (name_of p ++ codes " ") ++ rest → o ≡ p
one_owner o p more rest h k e =
    let a = and_parts (is_upper_name o.resource) (is_upper_name o.instance) h in
    let b = and_parts (is_upper_name p.resource) (is_upper_name p.instance) k in
    let whole = sym (parted o more) ∙ e ∙ parted p rest in
    let first = cut_word 47 refl o.resource p.resource (o.instance ++ 32 ∷ more) (p.instance ++ 32 ∷ rest)
    (word_bytes o.resource a.0) (word_bytes p.resource b.0) whole in
    let second = cut_word 32 refl o.instance p.instance more rest (word_bytes o.instance a.1) (word_bytes p.instance b.1)
    first.1 in
    ap₂ (λ (x y : List ℕ). record { resource = x; instance = y }) first.0 second.0

-- ---- no name occurs twice

contains : (xs : List Name) (k : ℕ) (x : Name) → slice_get xs k ≡ Some x → contains_name xs x ≡ true
contains [] k x h = absurd (cc)
contains (y ∷ xs) zero x h =
    let e : y ≡ x = some_is h in
    ap (λ (z : Name). bytes_eq x z || contains_name xs x) e ∙ ap (λ b. b || contains_name xs x) (name_itself x)
contains (y ∷ xs) (suc k) x h = ap (λ b. bytes_eq x y || b) (contains xs k x h) ∙ either (bytes_eq x y)
  where
    either : (b : Bool) → (b || true) ≡ true
    either true = refl
    either false = refl

once : (xs : List Name) → are_different xs ≡ true → (i j : ℕ) (x : Name) → slice_get xs i ≡ Some x
    → slice_get xs j ≡ Some x → i ≡ j
once [] h i j x a b = absurd (cc)
once (y ∷ xs) h zero zero x a b = refl
once (y ∷ xs) h zero (suc j) x a b =
    let d = and_parts (not (contains_name xs y)) (are_different xs) h in
    let e : y ≡ x = some_is a in
    let f : contains_name xs y ≡ true = ap (contains_name xs) e ∙ contains xs j x b in
    let g = false_from_not (contains_name xs y) d.0 in absurd (cc)
once (y ∷ xs) h (suc i) zero x a b =
    let d = and_parts (not (contains_name xs y)) (are_different xs) h in
    let e : y ≡ x = some_is b in
    let f : contains_name xs y ≡ true = ap (contains_name xs) e ∙ contains xs i x a in
    let g = false_from_not (contains_name xs y) d.0 in absurd (cc)
once (y ∷ xs) h (suc i) (suc j) x a b =
    ap suc (once xs (and_parts (not (contains_name xs y)) (are_different xs) h).1 i j x a b)

-- ---- the instances of resources

abbrev resource_names : List Resource → List Name
resource_names rs = map (λ r. r.name.name) rs

own_at : (r : Resource) (k : ℕ) (o : Owner) → slice_get (owners_on r) k ≡ Some o
    → (o.resource ≡ r.name.name) × (slice_get (map (λ (i : Instance). i.name.name) r.instances) k ≡ Some o.instance)
own_at r k o h =
    let m = mapped (owner_in r.name.name) (slice_get r.instances k) o
    (sym (slice_get-map (owner_in r.name.name) r.instances k) ∙ h) in (
      sym (ap (λ (p : Owner). p.resource) m.2),
      slice_get-map (λ (i : Instance). i.name.name) r.instances k ∙ ap (option_map (λ (i : Instance). i.name.name)) m.1
          ∙ ap (λ (p : Owner). Some p.instance) m.2,
    )

member : (rs : List Resource) (k : ℕ) (o : Owner) → slice_get (owners_in rs) k ≡ Some o
    → contains_name (resource_names rs) o.resource ≡ true
member [] k o h = absurd (cc)
member (r ∷ rs) k o h = by_side (get_split (owners_on r) (owners_in rs) k o h) (λ i g. member rs i o g)
  where
    by_side : (slice_get (owners_on r) k ≡ Some o)
        ⊎ ((i : ℕ) × (k ≡ length (owners_on r) + i) × (slice_get (owners_in rs) i ≡ Some o))
        → ((i : ℕ) → slice_get (owners_in rs) i ≡ Some o → contains_name (resource_names rs) o.resource ≡ true)
        → contains_name (resource_names (r ∷ rs)) o.resource ≡ true
    by_side (inl g) rest = contains (resource_names (r ∷ rs)) 0 o.resource (ap Some (sym (own_at r k o g).0))
    by_side (inr g) rest = ap (λ b. bytes_eq o.resource r.name.name || b) (rest g.0 g.2)
        ∙ either (bytes_eq o.resource r.name.name)
      where
        either : (b : Bool) → (b || true) ≡ true
        either true = refl
        either false = refl

one_place : (rs : List Resource) → are_different (resource_names rs) ≡ true → list_all has_different_instances rs ≡ true
    → (i j : ℕ) (o : Owner) → slice_get (owners_in rs) i ≡ Some o → slice_get (owners_in rs) j ≡ Some o → i ≡ j
one_place [] h k i j o a b = absurd (cc)
one_place (r ∷ rs) h k i j o a b =
    by_sides (get_split (owners_on r) (owners_in rs) i o a) (get_split (owners_on r) (owners_in rs) j o b)
    (λ m n g f. one_place rs (and_parts (not (contains_name (resource_names rs) r.name.name)) (are_different (resource_names rs)) h).1
    (and_parts (has_different_instances r) (list_all has_different_instances rs) k).1 m n o g f)
  where
    names : not (contains_name (resource_names rs) r.name.name) ≡ true
    names = (and_parts (not (contains_name (resource_names rs) r.name.name)) (are_different (resource_names rs)) h).0

    own : has_different_instances r ≡ true
    own = (and_parts (has_different_instances r) (list_all has_different_instances rs) k).0

    apart : (m n : ℕ) → slice_get (owners_on r) m ≡ Some o → slice_get (owners_in rs) n ≡ Some o → ⊥
    apart m n g f =
        let e : contains_name (resource_names rs) r.name.name ≡ true =
        ap (contains_name (resource_names rs)) (sym (own_at r m o g).0) ∙ member rs n o f in
        let q = false_from_not (contains_name (resource_names rs) r.name.name) names in absurd (cc)

    by_sides : ((slice_get (owners_on r) i ≡ Some o)
        ⊎ ((m : ℕ) × (i ≡ length (owners_on r) + m) × (slice_get (owners_in rs) m ≡ Some o)))
        → ((slice_get (owners_on r) j ≡ Some o)
        ⊎ ((m : ℕ) × (j ≡ length (owners_on r) + m) × (slice_get (owners_in rs) m ≡ Some o)))
        → ((m n : ℕ) → slice_get (owners_in rs) m ≡ Some o → slice_get (owners_in rs) n ≡ Some o → m ≡ n) → i ≡ j
    by_sides (inl g) (inl f) rest =
        once (map (λ (x : Instance). x.name.name) r.instances) own i j o.instance (own_at r i o g).1 (own_at r j o f).1
    by_sides (inl g) (inr f) rest = absurd (apart i f.0 g f.2)
    by_sides (inr g) (inl f) rest = absurd (apart j g.0 f g.2)
    by_sides (inr g) (inr f) rest =
        g.1 ∙ ap (λ n. length (owners_on r) + n) (rest g.0 f.0 g.2 f.2) ∙ sym f.1

-- ---- their names are words

words_on : (r : Resource) (is : List Instance) → is_upper_name r.name.name ≡ true → list_all is_plain_instance is ≡ true
    → list_all is_word_owner (map (owner_in r.name.name) is) ≡ true
words_on r [] h k = refl
words_on r (i ∷ is) h k =
    let b = and_parts (is_plain_instance i) (list_all is_plain_instance is) k in
    and_from (is_word_owner (owner_in r.name.name i))
    (list_all is_word_owner (map (owner_in r.name.name) is))
    (and_from (is_upper_name r.name.name) (is_upper_name i.name.name) h b.0)
    (words_on r is h b.1)

words_in : (rs : List Resource) → list_all is_plain_resource rs ≡ true → list_all is_word_owner (owners_in rs) ≡ true
words_in [] h = refl
words_in (r ∷ rs) h =
    let b = and_parts (is_plain_resource r) (list_all is_plain_resource rs) h in
    let p = and_parts (is_word r.name) (list_all is_plain_instance r.instances) b.0 in
    all_append is_word_owner (owners_on r) (owners_in rs)
    (words_on r r.instances p.0 p.1) (words_in rs b.1)

pub plain_configurations : (source : Source) → is_plain source ≡ true
    → list_all is_plain_configuration (configurations_in source) ≡ true
plain_configurations [] h = refl
plain_configurations (sources.types ts ∷ rest) h =
    plain_configurations rest (and_parts (is_plain_element (sources.types ts)) (is_plain rest) h).1
plain_configurations (sources.unit u ∷ rest) h =
    plain_configurations rest (and_parts (is_plain_element (sources.unit u)) (is_plain rest) h).1
plain_configurations (sources.configuration c ∷ rest) h =
    let b = and_parts (is_plain_configuration c) (is_plain rest) h in
    and_from (is_plain_configuration c)
    (list_all is_plain_configuration (configurations_in rest)) b.0 (plain_configurations rest b.1)

plain_only : (cs : List Configuration) (c : Configuration) → only_configuration cs ≡ Some c
    → list_all is_plain_configuration cs ≡ true → is_plain_configuration c ≡ true
plain_only [] c h k = absurd (cc)
plain_only (d ∷ []) c h k =
    let e : d ≡ c = some_is h in
    ap is_plain_configuration (sym e) ∙ (and_parts (is_plain_configuration d) true k).0
plain_only (d ∷ e ∷ cs) c h k = absurd (cc)

-- the instances of the only configuration of a text are distinguished
pub told_apart : (source : Source) (c : Configuration) → IsWellTyped source → is_plain source ≡ true
    → only_configuration (configurations_in source) ≡ Some c → AreDistinguished (owners_in c.resources)
told_apart source c well plain only i j o p more rest a b e =
    let conf : is_configuration_different (Some c) ≡ true =
    subst (λ x. is_configuration_different x ≡ true) only (scopes_differ source (parts_right source well).names.all) in
    let d = and_parts (are_different (map (λ v. v.name) (variables_of_globals c.globals)))
    (are_different (resource_names c.resources) && list_all has_different_instances c.resources) conf in
    let names = and_parts (are_different (resource_names c.resources)) (list_all has_different_instances c.resources) d.1 in
    let q = and_parts (list_all is_plain_globals c.globals) (list_all is_plain_resource c.resources)
    (plain_only (configurations_in source) c only (plain_configurations source plain)) in
    let words = words_in c.resources q.1 in
    let same = one_owner o p more rest (all_get is_word_owner (owners_in c.resources) i o words a)
    (all_get is_word_owner (owners_in c.resources) j p words b) e in
    one_place c.resources names.0 names.1 i j o a (b ∙ ap Some (sym same))

-- the program of an instance of a plan
pub program_at : (ps : List Place) (programs : List Program) (k : ℕ) (v : plans.ProgramInstance)
    → slice_get (instances_at ps programs) k ≡ Some v → slice_get programs k ≡ Some v.code
program_at [] programs k v h = absurd (cc)
program_at (p ∷ ps) [] k v h = absurd (cc)
program_at (p ∷ ps) (x ∷ programs) zero v h = ap (λ (y : plans.ProgramInstance). Some y.code) (some_is h)
program_at (p ∷ ps) (x ∷ programs) (suc k) v h = program_at ps programs k v h

-- so are those of a plan
pub plan_told_apart : (source : Source) (budget : ℕ) (plan : plans.Plan) → is_plain source ≡ true
    → IsPlanOf source budget plan
    → AreDistinguished (map (λ (p : plans.ProgramInstance). p.code.owner) plan.programs)
plan_told_apart source budget plan plain of i j o p more rest a b e =
    told_apart source c of.well_typed plain (only source of.configured) i j o p more rest (there i o a) (there j p b) e
  where
    c : Configuration
    c = of.configured.configuration

    there : (k : ℕ) (x : Owner)
        → slice_get (map (λ (q : plans.ProgramInstance). q.code.owner) plan.programs) k ≡ Some x
        → slice_get (owners_in c.resources) k ≡ Some x
    there k x h =
        let v = mapped (λ (q : plans.ProgramInstance). q.code.owner) (slice_get plan.programs k) x
        (sym (slice_get-map (λ (q : plans.ProgramInstance). q.code.owner) plan.programs k) ∙ h) in
        let ps = places_from 0 0 (resources_of source) in
        let at = program_at ps (programs_of_text source) k v.0
        (ap (λ (q : plans.Plan). slice_get q.programs k) (sym of.is) ∙ v.1) in
        ap (λ (rs : List Resource). slice_get (owners_in rs) k) (sym (resources source of.configured))
        ∙ ap (λ xs. slice_get xs k) (sym (owners_of_text source of.configured))
        ∙ slice_get-map (λ (q : Program). q.owner) (programs_of_text source) k
        ∙ ap (option_map (λ (q : Program). q.owner)) at ∙ ap Some v.2
