-- Functions linked, part by part.
use Rattle.std.proofs.Common.{◌≡◌, refl, sym, ap, subst, ◌∙◌, arith, ℕ, ◌≤◌, List, [], ◌∷◌, map, Bool, true, false}
use Rattle.std.proofs.Common.{◌||◌, Option, Some, None}
use Rattle.std.specs.Prelude.{nat_lt, option_map, option_and_then}
use Rattle.std.proofs.lemmas.Bool.Decides.{nat_tests}
use Rattle.st_types.specs.declared.limits.TheConstants.{MAX_PATHS}
use Rattle.st_types.specs.declared.data_type.SimpleType.{SimpleType}
use Rattle.st_types.specs.Statements.{Stmts, stmts_of}
use Rattle.st_types.specs.Units.{OrganisationUnit}
use Rattle.st_meaning.specs.NameTypes.{Declared}
use Rattle.st_meaning.specs.Scopes.{Name}
use Rattle.st_rules.specs.declared.limits.TheConstants.{MAX_TYPE_DEPTH}
use Rattle.layout.specs.LayoutVariables.{owned_variable}
use Rattle.layout.specs.Libraries.{body_of_unit, input_names}
use Rattle.layout.specs.Shapes.{is_sound}
use Rattle.layout.specs.TextLayouts.{instances_of}
use Rattle.layout.specs.Types.{NamedSite, is_within_depth, shape_of_type}
use Rattle.layout.specs.Growth.{is_too_large}
use Rattle.layout.specs.Layouts.{are_expandable, layout_size}
use Rattle.layout.specs.declared.limits.TheConstants.{MAX_INSTANCES}
use Rattle.slot_trees.specs.LinkedStatements.{linked_stmts}
use Rattle.slot_trees.specs.LinkedTexts.{table_of}
use Rattle.slot_trees.specs.SlotTrees.{SlotStmts}
use Rattle.slot_trees.specs.Tables.{Symbol}
use Rattle.slot_trees.specs.TextLinks.{call_slot, call_slots, function_with, linked_function}
use Rattle.slot_trees.specs.TextLinks.{linked_function_body, sites_of_call, symbols_of_function}
use Rattle.slot_trees.specs.TextNumbers.{numbers_of}
use Rattle.st_link.specs.FirstSlots.{slots_taken}
use Rattle.st_link.specs.Linked.{function_parts}
use Rattle.st_link.specs.LinkVariables.{are_whole, is_whole, of_site, result_of, variables_of_blocks}
use Rattle.st_link.specs.Tables.{has_some}
use Rattle.st_link.proofs.LayoutPlaces.{size_taken, sites_owned}
use Rattle.st_link.proofs.UnitSymbols.{sites_of_function}
use Rattle.std.proofs.lemmas.Bool.{and_parts, and_from}

-- three parts
abbrev pub three : {A B C D : Type 0} → (A → B → C → D) → Option A → Option B → Option C → Option D
three f o p b = option_and_then (λ x. option_and_then (λ y. option_map (f x y) b) p) o

pub three_there : {A B C D : Type 0} (f : A → B → C → D) (o : Option A) (p : Option B) (b : Option C) (x : A) (y : B)
    (z : C) → o ≡ Some x → p ≡ Some y → b ≡ Some z → three f o p b ≡ Some (f x y z)
three_there f o p b x y z h g k =
    ap (λ q. three f q p b) h ∙ ap (λ q. three f (Some x) q b) g ∙ ap (λ q. three f (Some x) (Some y) q) k

pub first_missing : {A B C D : Type 0} (f : A → B → C → D) (o : Option A) (p : Option B) (b : Option C) → o ≡ None
    → three f o p b ≡ None
first_missing f o p b h = ap (λ q. three f q p b) h

pub second_missing : {A B C D : Type 0} (f : A → B → C → D) (o : Option A) (p : Option B) (b : Option C) → p ≡ None
    → three f o p b ≡ None
second_missing f None p b h = refl
second_missing f (Some x) p b h = ap (λ q. three f (Some x) q b) h

pub third_missing : {A B C D : Type 0} (f : A → B → C → D) (o : Option A) (p : Option B) (b : Option C) → b ≡ None
    → three f o p b ≡ None
third_missing f None p b h = refl
third_missing f (Some x) None b h = refl
third_missing f (Some x) (Some y) b h = ap (λ q. three f (Some x) (Some y) q) h

-- a body with instances, and one without
pub body_with : (text : Declared) (symbols : List Symbol) (is : List (Name × Name)) (xs : Stmts) → has_some is ≡ true
    → linked_function_body text symbols is xs ≡ None
body_with text symbols [] xs h = absurd (cc)
body_with text symbols (i ∷ is) xs h = refl

pub body_without : (text : Declared) (symbols : List Symbol) (is : List (Name × Name)) (xs : Stmts)
    → has_some is ≡ false
    → linked_function_body text symbols is xs ≡ linked_stmts (table_of (numbers_of text) symbols []) xs
body_without text symbols [] xs h = refl
body_without text symbols (i ∷ is) xs h = absurd (cc)

-- three parts as one
by_parts : {A B C D : Type 0} (f : A → B → C → D) (o : Option A) (p : Option B) (b : Option C)
    → three f o p b ≡ option_map (λ (x : A × B × C). f x.0 x.1 x.2) (three (λ x y z. (x, y, z)) o p b)
by_parts f None p b = refl
by_parts f (Some x) None b = refl
by_parts f (Some x) (Some y) None = refl
by_parts f (Some x) (Some y) (Some z) = refl

-- a function whose body has no instances, by its parts
pub function_by_parts : (text : Declared) (t : SimpleType) (u : OrganisationUnit)
    → has_some (body_of_unit text u).instances ≡ false → linked_function text t u
    ≡ option_map (λ (x : List ℕ × ℕ × SlotStmts). function_with text t u x.0 x.1 x.2)
    (function_parts (table_of (numbers_of text) (symbols_of_function text t u) []) u)
function_by_parts text t u h =
    let s = symbols_of_function text t u in
    let o = call_slots s (input_names u.blocks) in
    let p = call_slot s u.name.name in
    ap (three (function_with text t u) o p) (body_without text s (body_of_unit text u).instances (stmts_of u.body) h)
    ∙ by_parts (function_with text t u) o p (linked_stmts (table_of (numbers_of text) s []) (stmts_of u.body))

-- room
whole_sites : (text : Declared) (ds : List NamedSite) → are_whole text (map of_site ds) ≡ true
    → are_expandable text (map (owned_variable None) ds) ≡ true
whole_sites text [] h = refl
whole_sites text (d ∷ ds) h =
    let a = and_parts (is_whole text (of_site d)) (are_whole text (map of_site ds)) h in
    let b = and_parts (is_within_depth MAX_TYPE_DEPTH text d.site.declared)
    (is_sound (shape_of_type text d.site.declared)) a.0 in
    and_from (is_sound (shape_of_type text d.site.declared))
    (are_expandable text (map (owned_variable None) ds)) b.1 (whole_sites text ds a.1)

pub whole_expandable : (text : Declared) (t : SimpleType) (u : OrganisationUnit)
    → are_whole text (result_of u.name.name t ∷ variables_of_blocks u.blocks) ≡ true
    → are_expandable text (map (owned_variable None) (sites_of_call t u)) ≡ true
whole_expandable text t u h =
    whole_sites text (sites_of_call t u) (ap (are_whole text) (sites_of_function t u) ∙ h)

few : (s i : ℕ) → (nat_lt MAX_PATHS s || nat_lt MAX_INSTANCES i) ≡ false → s ≤ MAX_PATHS
few s i h = by_test (nat_lt MAX_PATHS s) refl
  where
    by_test : (b : Bool) → nat_lt MAX_PATHS s ≡ b → s ≤ MAX_PATHS
    by_test true e = absurd (let g = ap (λ b. b || nat_lt MAX_INSTANCES i) (sym e) ∙ h in cc)
    by_test false e = grind (arith, nat_tests)

pub function_small : (text : Declared) (t : SimpleType) (u : OrganisationUnit)
    → is_too_large text (map (owned_variable None) (sites_of_call t u)) ≡ false
    → slots_taken text (result_of u.name.name t ∷ variables_of_blocks u.blocks) ≤ MAX_PATHS
function_small text t u h =
    let vs = map (owned_variable None) (sites_of_call t u) in
    subst (λ n. n ≤ MAX_PATHS)
    (size_taken text vs ∙ ap (slots_taken text) (sites_owned None (sites_of_call t u) ∙ sites_of_function t u))
    (few (layout_size text vs) (instances_of text vs) h)
