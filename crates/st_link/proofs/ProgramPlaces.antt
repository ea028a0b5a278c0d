-- Where the variables of programs' instances are in a layout.
use Rattle.std.proofs.Common.{◌≡◌, refl, sym, ap, ap₂, subst, ◌∙◌, arith, ℕ, ◌+◌, ◌≤◌, List, [], ◌∷◌, ◌++◌, map, Bool}
use Rattle.std.proofs.Common.{true, false, ◌||◌, if◌then◌else◌, Option, Some, None}
use Rattle.std.specs.Prelude.{bytes_eq, is_none, not}
use Rattle.std.specs.List.{list_all, list_any}
use Rattle.std.proofs.Common.{◌<◌, length, slice_index_or, take, drop}
use Rattle.std.proofs.lemmas.List.{append_assoc, map-append, take-append-drop}
use Rattle.layout.specs.Instances.{instance_view}
use Rattle.layout.specs.declared.configurations.ProgramInstance.{ProgramInstance}
use Rattle.std.proofs.lemmas.Slice.Eq.{bytes_eq-Decides}
use Rattle.st_types.specs.declared.limits.TheConstants.{MAX_PATHS}
use Rattle.st_types.specs.declared.path.Owner.{Owner}
use Rattle.st_types.specs.Paths.{same_owner}
use Rattle.st_types.specs.declared.unit.UnitSort.{UnitSort}
use Rattle.st_types.specs.declared.unit.UnitSort.TheVariants as units
use Rattle.st_types.specs.Units.{OrganisationUnit}
use Rattle.st_meaning.specs.NameTypes.{Declared, unit_named}
use Rattle.st_meaning.specs.Scopes.{Name}
use Rattle.symbols.specs.Found.{or_found}
use Rattle.layout.specs.LayoutVariables.{Owned, owned_variable, program_sites, sites_of_program}
use Rattle.layout.specs.VariableSlots.{variable_at}
use Rattle.layout.specs.Types.{NamedSite}
use Rattle.layout.specs.Instances.{OwnedProgram, variables_of_programs}
use Rattle.layout.specs.Layouts.{layout_size}
use Rattle.layout.specs.Sizes.{capped_size}
use Rattle.st_link.specs.FirstSlots.{found_at, slots_taken}
use Rattle.st_link.specs.Linked.{IsLayoutBy, are_owners_different, if_program, program_unit, slots_of_instances}
use Rattle.st_link.specs.Linked.{variables_by, variables_of_instance}
use Rattle.st_link.specs.LinkVariables.{are_whole, is_whole_unit, of_owned, of_site, variables_by_sort}
use Rattle.st_link.specs.LinkVariables.{variables_of_blocks}
use Rattle.st_link.specs.Tables.{AreGlobals, BeginAt, seen_at}
use Rattle.st_link.proofs.LayoutPlaces.{AllOf, NoneOf, all_owned, at_append, none_at, owned_at, seen_first}
use Rattle.st_link.proofs.LayoutPlaces.{seen_from}
use Rattle.st_link.proofs.LayoutPlaces.{sites_owned, size_append, size_taken}
use Rattle.st_link.proofs.SiteLemmas.{sites_seen}
use Rattle.std.proofs.lemmas.Bool.{or_parts, and_parts, and_from, or_from}
use Rattle.st_types.proofs.TestLemmas.{false_from_not}
use Rattle.st_types.proofs.ListLemmas.{drop_next}
use Rattle.layout.proofs.LayoutLemmas.{programs_append}

-- one owner
same_names : (a b : Owner) → same_owner (Some a) (Some b) ≡ true → a ≡ b
same_names a b h =
    let both = and_parts (bytes_eq a.resource b.resource) (bytes_eq a.instance b.instance) h in
    ap₂ (λ r i. record { resource = r; instance = i }) ((bytes_eq-Decides a.resource b.resource).0 both.0)
    ((bytes_eq-Decides a.instance b.instance).0 both.1)

pub same_itself : (a : Owner) → same_owner (Some a) (Some a) ≡ true
same_itself a = and_from (bytes_eq a.resource a.resource) (bytes_eq a.instance a.instance)
    ((bytes_eq-Decides a.resource a.resource).1 refl) ((bytes_eq-Decides a.instance a.instance).1 refl)

not_turned : (a b : Owner) → same_owner (Some a) (Some b) ≡ false → same_owner (Some b) (Some a) ≡ false
not_turned a b h = by_test (same_owner (Some b) (Some a)) refl
  where
    by_test : (t : Bool) → same_owner (Some b) (Some a) ≡ t → t ≡ false
    by_test false e = refl
    by_test true e =
        let same = same_names b a e in
        let one : same_owner (Some a) (Some b) ≡ true =
        subst (λ o. same_owner (Some a) (Some o) ≡ true) (sym same) (same_itself a) in
        absurd (cc)

-- globals are nobody's, and the variables of instances somebody's
unowned_all : (vs : List Owned) → list_all (λ v. is_none v.owner) vs ≡ true → AllOf None vs
unowned_all [] h = refl
unowned_all (v ∷ vs) h =
    let b = and_parts (is_none v.owner) (list_all (λ w. is_none w.owner) vs) h in
    and_from (same_owner None v.owner) (list_all (λ w. same_owner None w.owner) vs)
    (by_owner v.owner b.0) (unowned_all vs b.1)
  where
    by_owner : (o : Option Owner) → is_none o ≡ true → same_owner None o ≡ true
    by_owner None g = refl
    by_owner (Some a) g = absurd (cc)

unowned_none : (a : Owner) (vs : List Owned) → list_all (λ v. is_none v.owner) vs ≡ true → NoneOf (Some a) vs
unowned_none a [] h = refl
unowned_none a (v ∷ vs) h =
    let b = and_parts (is_none v.owner) (list_all (λ w. is_none w.owner) vs) h in
    and_from (not (same_owner (Some a) v.owner)) (list_all (λ w. not (same_owner (Some a) w.owner)) vs)
    (by_owner v.owner b.0) (unowned_none a vs b.1)
  where
    by_owner : (o : Option Owner) → is_none o ≡ true → not (same_owner (Some a) o) ≡ true
    by_owner None g = refl
    by_owner (Some c) g = absurd (cc)

none_append : (o : Option Owner) (vs ws : List Owned) → NoneOf o vs → NoneOf o ws → NoneOf o (vs ++ ws)
none_append o [] ws a b = b
none_append o (v ∷ vs) ws a b =
    let c = and_parts (not (same_owner o v.owner)) (list_all (λ w. not (same_owner o w.owner)) vs) a in
    and_from (not (same_owner o v.owner)) (list_all (λ w. not (same_owner o w.owner)) (vs ++ ws)) c.0
    (none_append o vs ws c.1 b)

none_owned : (o : Option Owner) (a : Owner) (ds : List NamedSite) → same_owner o (Some a) ≡ false
    → NoneOf o (map (owned_variable (Some a)) ds)
none_owned o a [] h = refl
none_owned o a (d ∷ ds) h =
    and_from (not (same_owner o (Some a)))
    (list_all (λ w. not (same_owner o w.owner)) (map (owned_variable (Some a)) ds)) (ap not h) (none_owned o a ds h)

programs_unowned : (text : Declared) (ps : List OwnedProgram) → NoneOf None (variables_of_programs text ps)
programs_unowned text [] = refl
programs_unowned text (p ∷ ps) =
    none_append None (map (owned_variable (Some p.0)) (program_sites (unit_named text.units p.1)))
    (variables_of_programs text ps) (none_owned None p.0 (program_sites (unit_named text.units p.1)) refl)
    (programs_unowned text ps)

-- no instance of these has the owner
abbrev NoOwner : Owner → List OwnedProgram → Type 0
NoOwner a ps = list_any (λ q. same_owner (Some a) (Some q.0)) ps ≡ false

programs_none : (text : Declared) (a : Owner) (ps : List OwnedProgram) → NoOwner a ps
    → NoneOf (Some a) (variables_of_programs text ps)
programs_none text a [] h = refl
programs_none text a (p ∷ ps) h =
    let e = or_parts (same_owner (Some a) (Some p.0)) (list_any (λ q. same_owner (Some a) (Some q.0)) ps) h in
    none_append (Some a) (map (owned_variable (Some p.0)) (program_sites (unit_named text.units p.1)))
    (variables_of_programs text ps) (none_owned (Some a) p.0 (program_sites (unit_named text.units p.1)) e.0)
    (programs_none text a ps e.1)

-- an instance among others: those before and those after it have other owners
record IsApart (before : List OwnedProgram) (p : OwnedProgram) (after : List OwnedProgram) : Type 0 where
  pub before_none : NoOwner p.0 before
  pub after_none : NoOwner p.0 after

any_in : (f : OwnedProgram → Bool) (xs ys : List OwnedProgram) (y : OwnedProgram)
    → list_any f (xs ++ y ∷ ys) ≡ false → f y ≡ false
any_in f [] ys y h = (or_parts (f y) (list_any f ys) h).0
any_in f (x ∷ xs) ys y h = any_in f xs ys y (or_parts (f x) (list_any f (xs ++ y ∷ ys)) h).1

apart : (before : List OwnedProgram) (p : OwnedProgram) (after : List OwnedProgram)
    → are_owners_different (before ++ p ∷ after) ≡ true → IsApart before p after
apart [] p after h = record {
  before_none = refl;
  after_none = false_from_not (list_any (λ q. same_owner (Some p.0) (Some q.0)) after)
      (and_parts (not (list_any (λ q. same_owner (Some p.0) (Some q.0)) after)) (are_owners_different after) h).0;
}
apart (q ∷ before) p after h =
    let b = and_parts (not (list_any (λ r. same_owner (Some q.0) (Some r.0)) (before ++ p ∷ after)))
    (are_owners_different (before ++ p ∷ after)) h in
    let i = apart before p after b.1 in
    record {
      before_none = or_from (same_owner (Some p.0) (Some q.0))
          (list_any (λ r. same_owner (Some p.0) (Some r.0)) before)
          (not_turned q.0 p.0 (any_in (λ r. same_owner (Some q.0) (Some r.0)) before after p
          (false_from_not (list_any (λ r. same_owner (Some q.0) (Some r.0)) (before ++ p ∷ after)) b.0)))
          i.before_none;
      after_none = i.after_none;
    }

-- the variables of an instance's program
sites_by_sort : (s : UnitSort) (u : OrganisationUnit)
    → map of_site (sites_of_program s u.blocks) ≡ variables_by (if_program s u)
sites_by_sort units.Program u = sites_seen u.blocks
sites_by_sort units.FunctionBlock u = refl
sites_by_sort (units.Function t) u = refl

sites_of_unit : (o : Option OrganisationUnit) → map of_site (program_sites o) ≡ variables_by (program_unit o)
sites_of_unit None = refl
sites_of_unit (Some u) = sites_by_sort u.sort u

own_seen : (text : Declared) (p : OwnedProgram)
    → map of_owned (map (owned_variable (Some p.0)) (program_sites (unit_named text.units p.1)))
    ≡ variables_of_instance text p
own_seen text p = sites_owned (Some p.0) (program_sites (unit_named text.units p.1))
    ∙ sites_of_unit (unit_named text.units p.1)

pub programs_taken : (text : Declared) (ps : List OwnedProgram)
    → layout_size text (variables_of_programs text ps) ≡ slots_of_instances text ps
programs_taken text [] = refl
programs_taken text (p ∷ ps) =
    let own = map (owned_variable (Some p.0)) (program_sites (unit_named text.units p.1)) in
    size_append text own (variables_of_programs text ps)
    ∙ ap₂ (λ a b. a + b) (size_taken text own ∙ ap (slots_taken text) (own_seen text p)) (programs_taken text ps)

pub instances_taken : (text : Declared) (ps qs : List OwnedProgram)
    → slots_of_instances text (ps ++ qs) ≡ slots_of_instances text ps + slots_of_instances text qs
instances_taken text [] qs = omega arith
instances_taken text (p ∷ ps) qs = let h = instances_taken text ps qs in omega arith

-- how many slots a layout has
pub layout_taken : (text : Declared) (globals layout : List Owned) (ps : List OwnedProgram)
    → IsLayoutBy text globals ps layout
    → slots_taken text (map of_owned globals) + slots_of_instances text ps ≤ MAX_PATHS
layout_taken text globals layout ps l =
    let a = ap (layout_size text) l.is ∙ size_append text globals (variables_of_programs text ps) in
    let b = size_taken text globals in
    let c = programs_taken text ps in
    let d = l.room in
    omega (arith, a, b, c, d)

only_front : {A : Type 0} (a b : Option A) → b ≡ None → or_found a b ≡ a
only_front None b h = h
only_front (Some x) b h = refl

only_back : {A : Type 0} (a b : Option A) → a ≡ None → or_found a b ≡ b
only_back None b h = refl
only_back (Some x) b h = absurd (cc)

-- the globals of a layout
pub globals_stand : (text : Declared) (globals layout : List Owned) (ps : List OwnedProgram)
    → IsLayoutBy text globals ps layout → AreGlobals text layout (map of_owned globals)
globals_stand text globals layout ps l x =
    let programs = variables_of_programs text ps in
    ap (λ vs. seen_at (variable_at text vs None x)) l.is
    ∙ sym (seen_first (variable_at text (globals ++ programs) None x))
    ∙ at_append text None 0 globals programs x
    ∙ only_front (seen_from 0 (variable_at text globals None x))
    (seen_from (0 + layout_size text globals) (variable_at text programs None x))
    (ap (seen_from (0 + layout_size text globals)) (none_at text None programs x (programs_unowned text ps)))
    ∙ owned_at text None 0 globals x (unowned_all globals l.unowned)

-- and of an instance
pub instance_begins : (text : Declared) (globals layout : List Owned) (before : List OwnedProgram) (p : OwnedProgram)
    (after : List OwnedProgram) → IsLayoutBy text globals (before ++ p ∷ after) layout
    → BeginAt text layout p.0 (slots_taken text (map of_owned globals) + slots_of_instances text before)
    (variables_of_instance text p)
instance_begins text globals layout before p after l x =
    let o : Option Owner = Some p.0 in
    let own = map (owned_variable o) (program_sites (unit_named text.units p.1)) in
    let front = globals ++ variables_of_programs text before in
    let back = variables_of_programs text after in
    let a = apart before p after l.owners in
    let whole : layout ≡ front ++ (own ++ back) =
    l.is ∙ ap (λ vs. globals ++ vs) (programs_append text before (p ∷ after))
    ∙ sym (append_assoc globals (variables_of_programs text before) (own ++ back)) in
    let n = 0 + layout_size text front in
    ap (λ vs. seen_at (variable_at text vs o x)) whole
    ∙ sym (seen_first (variable_at text (front ++ (own ++ back)) o x))
    ∙ at_append text o 0 front (own ++ back) x
    ∙ only_back (seen_from 0 (variable_at text front o x)) (seen_from n (variable_at text (own ++ back) o x))
    (ap (seen_from 0) (none_at text o front x (none_append o globals (variables_of_programs text before)
    (unowned_none p.0 globals l.unowned) (programs_none text p.0 before a.before_none))))
    ∙ at_append text o n own back x
    ∙ only_front (seen_from n (variable_at text own o x))
    (seen_from (n + layout_size text own) (variable_at text back o x))
    (ap (seen_from (n + layout_size text own))
    (none_at text o back x (programs_none text p.0 after a.after_none)))
    ∙ owned_at text o n own x (all_owned o (program_sites (unit_named text.units p.1)) (same_itself p.0))
    ∙ ap₂ (λ m vs. found_at text m vs x)
    (first (layout_size text front) (slots_taken text (map of_owned globals)) (slots_of_instances text before)
    (size_append text globals (variables_of_programs text before)
    ∙ ap₂ (λ c d. c + d) (size_taken text globals) (programs_taken text before)))
    (own_seen text p)
  where
    first : (m a b : ℕ) → m ≡ a + b → 0 + m ≡ a + b
    first m a b h = omega (arith, h)

-- a program that is found
by_sort_whole : (text : Declared) (s : UnitSort) (v u : OrganisationUnit) → v.sort ≡ s → if_program s v ≡ Some u
    → is_whole_unit text v ≡ true → are_whole text (variables_of_blocks u.blocks) ≡ true
by_sort_whole text units.Program v u sort h whole =
    let same : v ≡ u = cc in
    subst (λ w. are_whole text (variables_of_blocks w.blocks) ≡ true) same
    (ap (λ s. are_whole text (variables_by_sort s v)) (sym sort) ∙ whole)
by_sort_whole text units.FunctionBlock v u sort h whole = absurd (cc)
by_sort_whole text (units.Function t) v u sort h whole = absurd (cc)

pub program_whole : (text : Declared) (us : List OrganisationUnit) (x : Name) (u : OrganisationUnit)
    → program_unit (unit_named us x) ≡ Some u → list_all (is_whole_unit text) us ≡ true
    → are_whole text (variables_of_blocks u.blocks) ≡ true
program_whole text [] x u h whole = absurd (cc)
program_whole text (v ∷ us) x u h whole =
    let b = and_parts (is_whole_unit text v) (list_all (is_whole_unit text) us) whole in
    by_test (bytes_eq x v.name.name) h b.0 (λ g. program_whole text us x u g b.1)
  where
    by_test : (t : Bool) → program_unit (if t then Some v else unit_named us x) ≡ Some u
        → is_whole_unit text v ≡ true
        → (program_unit (unit_named us x) ≡ Some u → are_whole text (variables_of_blocks u.blocks) ≡ true)
        → are_whole text (variables_of_blocks u.blocks) ≡ true
    by_test true g one ih = by_sort_whole text v.sort v u refl g one
    by_test false g one ih = ih g

-- slots, capped
pub none_further : (n : ℕ) → n ≤ MAX_PATHS + 1 → n ≡ capped_size (n + 0)
none_further n h = grind (arith)

pub further_cut : (a s n r : ℕ) → s ≡ capped_size n → r ≡ capped_size (a + s) → r ≡ capped_size (a + n)
further_cut a s n r is all = grind (arith)

pub first_is : (f g n m : ℕ) → f ≡ capped_size (g + 0) → g ≡ n → n + m ≤ MAX_PATHS → f ≡ n + 0
first_is f g n m is same room = grind (arith)

-- an instance at hand, among those before and after it
pub record AtHand (text : Declared) (globals layout : List Owned) (before : List OwnedProgram) (p : OwnedProgram)
    (first : ℕ) : Type 0 where
  pub room : first + slots_taken text (variables_of_instance text p) ≤ MAX_PATHS
  pub begin : BeginAt text layout p.0 first (variables_of_instance text p)

pub at_hand : (text : Declared) (globals layout : List Owned) (all before : List OwnedProgram) (p : OwnedProgram)
    (after : List OwnedProgram) (first : ℕ) → all ≡ before ++ p ∷ after → IsLayoutBy text globals all layout
    → first ≡ slots_taken text (map of_owned globals) + slots_of_instances text before
    → AtHand text globals layout before p first
at_hand text globals layout all before p after first split l is =
    let whole = subst (λ ps. IsLayoutBy text globals ps layout) split l in
    let a = layout_taken text globals layout (before ++ p ∷ after) whole in
    let b = instances_taken text before (p ∷ after) in
    record {
      room = omega (arith, a, b, is);
      begin = subst (λ n. BeginAt text layout p.0 n (variables_of_instance text p)) (sym is)
          (instance_begins text globals layout before p after whole);
    }

pub next_first : (text : Declared) (globals : List Owned) (before now : List OwnedProgram) (p : OwnedProgram)
    (first next : ℕ) → now ≡ before ++ p ∷ []
    → first ≡ slots_taken text (map of_owned globals) + slots_of_instances text before
    → first + slots_taken text (variables_of_instance text p) ≤ MAX_PATHS
    → next ≡ capped_size (first + slots_taken text (variables_of_instance text p))
    → next ≡ slots_taken text (map of_owned globals) + slots_of_instances text now
next_first text globals before now p first next more is room all =
    let a = ap (slots_of_instances text) more ∙ instances_taken text before (p ∷ []) in
    let b = uncut next (first + slots_taken text (variables_of_instance text p)) all room in
    omega (arith, a, b, is)
  where
    uncut : (a n : ℕ) → a ≡ capped_size n → n ≤ MAX_PATHS → a ≡ n
    uncut a n is small = grind (arith)

-- a list of instances at one of them
pub split_at : (xs : List ProgramInstance) (i : ℕ) (x : ProgramInstance) → i < length xs → x ≡ slice_index_or xs i x
    → map instance_view xs
    ≡ map instance_view (take i xs) ++ instance_view x ∷ map instance_view (drop (i + 1) xs)
split_at xs i x below at =
    ap (map instance_view) (sym (take-append-drop i xs))
    ∙ map-append instance_view (take i xs) (drop i xs)
    ∙ ap (λ ys. map instance_view (take i xs) ++ map instance_view ys) (drop_next xs i x below at)
