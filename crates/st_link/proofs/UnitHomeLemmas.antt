-- The names of a block's body stand for members of its instance, and those of a function's for variables of its call.
use Rattle.std.proofs.Common.{◌≡◌, Bool, true, false, if◌then◌else◌, List, [], ◌∷◌, ◌++◌, map, Option, Some, None}
use Rattle.std.proofs.Common.{refl, sym, ap, ap₂, ◌∙◌}
use Rattle.st_types.specs.declared.path.Step.TheVariants.{Member}
use Rattle.st_types.specs.Paths.{Path}
use Rattle.st_types.specs.declared.data_type.SimpleType.{SimpleType}
use Rattle.st_types.specs.declared.data_type.VariableType.{VariableType}
use Rattle.st_types.specs.declared.data_type.VariableType.TheVariants as types
use Rattle.st_types.specs.declared.unit.UnitSort.TheVariants as sorts
use Rattle.st_types.specs.Units.{OrganisationUnit}
use Rattle.st_meaning.specs.Bodies.{externals_in}
use Rattle.st_meaning.specs.NameTypes.{Declared, is_named, type_in_blocks, result_type, variable_type}
use Rattle.st_meaning.specs.Scopes.{Name, Frame, of_block, of_call, Scope, contains_name, unowned, member_at, own_path}
use Rattle.st_meaning.specs.Scopes.{path_in}
use Rattle.st_rules.specs.declared.limits.TheConstants.{MAX_TYPE_DEPTH}
use Rattle.st_rules.specs.Environments.{section_of}
use Rattle.st_rules.specs.TargetRules.{is_fixed}
use Rattle.layout.specs.Shapes.{of_instance}
use Rattle.layout.specs.Types.{Site, sites_of_blocks, instance_of, shape_of_type}
use Rattle.layout.specs.Types.{shape_within}
use Rattle.layout.specs.LayoutVariables.{Owned, owned_variable}
use Rattle.layout.specs.TextLayouts.{variable_shape}
use Rattle.layout.specs.VariableSlots.{are_declared_once}
use Rattle.layout.specs.Libraries.{result_site}
use Rattle.layout.proofs.LibraryLemmas.{instance_made}
use Rattle.layout.proofs.ListLemmas.{same_name}
use Rattle.st_link.specs.Homes.{IsLayoutPart, HaveSlots, IsAmong, here, further_on, IsGrounded, RunsIn}
use Rattle.st_link.proofs.ShapeLemmas.{behind_step}
use Rattle.st_link.proofs.SoundMembers.{IsPart}
use Rattle.st_link.proofs.AgreementLemmas.{behind_member}
use Rattle.st_link.proofs.HomeLemmas.{among_map, found_at, own_site, site_among}
use Rattle.st_rules.specs.Rules.{environment}

moved : (text : Declared) (variables : List Owned) (p q : Path) (fixed : Bool) (t : VariableType) → p ≡ q
    → IsLayoutPart text variables fixed q t → IsLayoutPart text variables fixed p t
moved text variables p q fixed t e i = record {
  owner = i.owner;
  name = i.name;
  steps = i.steps;
  first = i.first;
  variable = i.variable;
  depth = i.depth;
  path = e ∙ i.path;
  there = i.there;
  free = i.free;
  within = i.within;
  shape = i.shape;
}

path_of : (u : OrganisationUnit) (frame : Frame) (w : Scope) → RunsIn u frame w → (x : Name) (b : Bool)
    → contains_name (externals_in u.blocks) x ≡ b
    → path_in w.frame w.body x ≡ (if b then unowned x else own_path frame x)
path_of u frame w runs x b e =
    ap₂ (λ f xs. if contains_name xs x then unowned x else own_path f x) runs.names_of runs.externals
    ∙ ap (λ c. if c then unowned x else own_path frame x) e

-- a home for each name, if its own variables have one
homes_of : (text : Declared) (variables : List Owned) (u : OrganisationUnit) (frame : Frame) (w : Scope)
    → RunsIn u frame w → IsGrounded text variables u
    → ((x : Name) (t : VariableType) → variable_type u x ≡ Some t → contains_name (externals_in u.blocks) x ≡ false
    → IsLayoutPart text variables (is_fixed (section_of (environment text u) x)) (own_path frame x) t)
    → HaveSlots (environment text u) variables w
homes_of text variables u frame w runs grounded own x t h =
    by_test (contains_name (externals_in u.blocks) x) refl
  where
    by_test : (b : Bool) → contains_name (externals_in u.blocks) x ≡ b
        → IsLayoutPart text variables (is_fixed (section_of (environment text u) x)) (path_in w.frame w.body x) t
    by_test true e = moved text variables (path_in w.frame w.body x) (unowned x)
        (is_fixed (section_of (environment text u) x)) t (path_of u frame w runs x true e)
        (grounded.externals x t e h)
    by_test false e = moved text variables (path_in w.frame w.body x) (own_path frame x)
        (is_fixed (section_of (environment text u) x)) t (path_of u frame w runs x false e) (own x t h e)

-- a member of an instance
pub member_home : (text : Declared) (variables : List Owned) (at : Path) (t : VariableType) (x : Name) (s : VariableType)
    (fixed : Bool) → IsPart text t x s → IsLayoutPart text variables false at t
    → IsLayoutPart text variables fixed (member_at at x) s
member_home text variables at t x s fixed part h =
    let b = behind_member text t x s part h.depth h.within in
    record {
      owner = h.owner;
      name = h.name;
      steps = h.steps ++ Member x ∷ [];
      first = h.first;
      variable = h.variable;
      depth = b.depth;
      path = ap (λ q. member_at q x) h.path;
      there = h.there;
      free = λ e. h.free refl;
      within = b.within;
      shape = behind_step (variable_shape text h.variable) (shape_within h.depth text t) (shape_within b.depth text s)
          h.steps (Member x) h.shape b.shape;
    }

pub block_homes : (text : Declared) (variables : List Owned) (u : OrganisationUnit) (t : VariableType) (at : Path)
    (w : Scope) → u.sort ≡ sorts.FunctionBlock
    → instance_of text t ≡ Some (record { name = u.name.name; members = sites_of_blocks u.blocks })
    → IsLayoutPart text variables false at t → IsGrounded text variables u → RunsIn u (of_block at) w
    → HaveSlots (environment text u) variables w
block_homes text variables u t at w sort instance home grounded runs =
    homes_of text variables u (of_block at) w runs grounded own
  where
    type_of_own : (x : Name) (s : VariableType) → variable_type u x ≡ Some s → type_in_blocks u.blocks x ≡ Some s
    type_of_own x s h = by_test (is_named x u.name) h
      where
        by_test : (b : Bool) → (if b then result_type u.sort else type_in_blocks u.blocks x) ≡ Some s
            → type_in_blocks u.blocks x ≡ Some s
        by_test true g =
            let e : result_type sorts.FunctionBlock ≡ Some s = sym (ap result_type sort) ∙ g in absurd (cc)
        by_test false g = g

    own : (x : Name) (s : VariableType) → variable_type u x ≡ Some s → contains_name (externals_in u.blocks) x ≡ false
        → IsLayoutPart text variables (is_fixed (section_of (environment text u) x)) (own_path (of_block at) x) s
    own x s h e =
        let d = own_site u.blocks x s (type_of_own x s h) e in
        member_home text variables at t x s (is_fixed (section_of (environment text u) x)) (record {
          whole = of_instance;
          sites = sites_of_blocks u.blocks;
          own = d.site;
          composition =
              instance_made text t (record { name = u.name.name; members = sites_of_blocks u.blocks }) instance;
          named = d.is;
          declared = d.declared;
        }) home

pub function_homes : (text : Declared) (u : OrganisationUnit) (r : SimpleType) (w : Scope)
    → u.sort ≡ sorts.Function r
    → are_declared_once text (map (owned_variable None) (result_site r u.name.name ∷ sites_of_blocks u.blocks)) ≡ true
    → IsGrounded text (map (owned_variable None) (result_site r u.name.name ∷ sites_of_blocks u.blocks)) u
    → RunsIn u of_call w
    → HaveSlots (environment text u)
    (map (owned_variable None) (result_site r u.name.name ∷ sites_of_blocks u.blocks)) w
function_homes text u r w sort once grounded runs =
    homes_of text (map (owned_variable None) (result_site r u.name.name ∷ sites_of_blocks u.blocks)) u of_call w runs
    grounded own
  where
    fixed : Name → Bool
    fixed x = is_fixed (section_of (environment text u) x)

    at_variable : (x : Name) (s : Site) (t : VariableType) → s.declared ≡ t → variable_type u x ≡ Some t
        → IsAmong (record { name = x; site = s }) (result_site r u.name.name ∷ sites_of_blocks u.blocks)
        → IsLayoutPart text (map (owned_variable None) (result_site r u.name.name ∷ sites_of_blocks u.blocks))
        (is_fixed (section_of (environment text u) x)) (unowned x) t
    at_variable x s t e h i =
        let f = found_at text (map (owned_variable None) (result_site r u.name.name ∷ sites_of_blocks u.blocks)) once
        (owned_variable None (record { name = x; site = s }))
        (among_map (owned_variable None) (result_site r u.name.name ∷ sites_of_blocks u.blocks) i) in
        record {
          owner = None;
          name = x;
          steps = [];
          first = f.first;
          variable = owned_variable None (record { name = x; site = s });
          depth = MAX_TYPE_DEPTH;
          path = refl;
          there = f.there;
          free = λ free. refl;
          within = grounded.depths x t h;
          shape = ap (λ q. Some (shape_of_type text q)) e;
        }

    own : (x : Name) (t : VariableType) → variable_type u x ≡ Some t → contains_name (externals_in u.blocks) x ≡ false
        → IsLayoutPart text (map (owned_variable None) (result_site r u.name.name ∷ sites_of_blocks u.blocks))
        (is_fixed (section_of (environment text u) x)) (unowned x) t
    own x t h e = by_test (is_named x u.name) refl h
      where
        result_among : (y : Name) → y ≡ u.name.name
            → IsAmong (record { name = y; site = (result_site r u.name.name).site })
            (result_site r u.name.name ∷ sites_of_blocks u.blocks)
        result_among y q = rw q here

        by_test : (b : Bool) → is_named x u.name ≡ b
            → (if b then result_type u.sort else type_in_blocks u.blocks x) ≡ Some t
            → IsLayoutPart text (map (owned_variable None) (result_site r u.name.name ∷ sites_of_blocks u.blocks))
            (is_fixed (section_of (environment text u) x)) (unowned x) t
        by_test true q g =
            let k : ◌≡◌ {A = Option VariableType} (Some (types.Simple r)) (Some t) = sym (ap result_type sort) ∙ g in
            let j : types.Simple r ≡ t = cc in
            at_variable x (result_site r u.name.name).site t j h (result_among x (same_name x u.name.name q))
        by_test false q g =
            let d = own_site u.blocks x t g e in
            at_variable x d.site t d.declared h (further_on (site_among (sites_of_blocks u.blocks) x d.site d.is))
