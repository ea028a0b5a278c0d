-- The names of a program's body stand for variables of its instance and for globals.
use Rattle.std.proofs.Common.{◌≡◌, ℕ, ◌+◌, Bool, true, false, not, ◌&&◌, ◌||◌, if◌then◌else◌, List, [], ◌∷◌, ◌++◌}
use Rattle.std.proofs.Common.{map, Option, Some, None, refl, sym, ap, ap₂, ◌∙◌}
use Rattle.std.specs.Prelude.{bytes_eq}
use Rattle.std.specs.List.{list_any}
use Rattle.st_types.specs.declared.identifier.Identifier.{Identifier}
use Rattle.st_types.specs.declared.path.Owner.{Owner}
use Rattle.st_types.specs.Paths.{Path}
use Rattle.st_types.specs.declared.configuration.Instance.{Instance}
use Rattle.st_types.specs.declared.data_type.VariableType.{VariableType}
use Rattle.st_types.specs.declared.declaration.Retention.{Retention}
use Rattle.st_types.specs.declared.unit.UnitSort.TheVariants.{Program}
use Rattle.st_types.specs.Configurations.{Resource, Configuration}
use Rattle.st_types.specs.Declarations.{Declaration, VariableBlock}
use Rattle.st_types.specs.Units.{OrganisationUnit}
use Rattle.st_meaning.specs.Bodies.{is_external, names_of, declared_names, externals_in}
use Rattle.st_meaning.specs.NameTypes.{Declared, is_named, unit_named, type_in, type_in_blocks, or_type, result_type}
use Rattle.st_meaning.specs.NameTypes.{variable_type}
use Rattle.st_meaning.specs.Scopes.{Name, of_program, Scope, contains_name, unowned, own_path, path_in}
use Rattle.st_rules.specs.declared.limits.TheConstants.{MAX_TYPE_DEPTH}
use Rattle.st_rules.specs.Environments.{section_of}
use Rattle.st_rules.specs.TargetRules.{is_fixed}
use Rattle.layout.specs.Shapes.{size, is_sound}
use Rattle.layout.specs.Types.{Site, NamedSite, site_named, with_site, site_of_declaration, sites_of_declarations}
use Rattle.layout.specs.Types.{retention_of, sites_of_blocks, shape_of_type}
use Rattle.layout.specs.LayoutVariables.{Owned, owned_variable, variables_of_globals, sites_of_program}
use Rattle.layout.specs.LayoutVariables.{program_sites}
use Rattle.layout.specs.LayoutVariables.{owner_in, variables_of_instances, variables_of_resources}
use Rattle.layout.specs.LayoutVariables.{variables_of_configuration}
use Rattle.layout.specs.TextLayouts.{variable_shape}
use Rattle.layout.specs.VariableSlots.{is_variable, has_variable, are_declared_once, variable_at}
use Rattle.layout.proofs.ListLemmas.{same_name}
use Rattle.layout.proofs.VariableLemmas.{variable_is, variable_itself}
use Rattle.st_link.specs.Homes.{IsLayoutPart, HaveSlots, IsAmong, here, further_on, IsInstanceOf, IsGrounded}
use Rattle.st_link.specs.Homes.{RunsIn}
use Rattle.st_link.proofs.SoundMembers.{Declares, declaration_declared, found_first, not_named}
use Rattle.std.proofs.lemmas.Bool.{or_parts, and_parts, or_right}
use Rattle.st_types.proofs.OptionLemmas.{some_is}
use Rattle.st_types.proofs.TestLemmas.{false_from_not}
use Rattle.std.proofs.lemmas.List.Folds.{list_any-append}
use Rattle.st_rules.specs.Rules.{environment}

-- a member of a part of a list is one of the whole
pub among_left : {A : Type 0} {a : A} (cs ds : List A) → IsAmong a cs → IsAmong a (cs ++ ds)
among_left [] ds i = elim i [ ]
among_left (c ∷ cs) ds here = here
among_left (c ∷ cs) ds (further_on i) = further_on (among_left cs ds i)

pub among_right : {A : Type 0} {a : A} (cs ds : List A) → IsAmong a ds → IsAmong a (cs ++ ds)
among_right [] ds i = i
among_right (c ∷ cs) ds i = further_on (among_right cs ds i)

pub among_map : {A B : Type 0} (f : A → B) {a : A} (cs : List A) → IsAmong a cs → IsAmong (f a) (map f cs)
among_map f [] i = elim i [ ]
among_map f (c ∷ cs) here = here
among_map f (c ∷ cs) (further_on i) = further_on (among_map f cs i)

-- a variable that is declared once is found by its name
has_among : (vs : List Owned) (v : Owned) → IsAmong v vs → has_variable vs v.owner v.name ≡ true
has_among [] v i = elim i [ ]
has_among (u ∷ vs) v here = let i = variable_itself v in rw i refl
has_among (u ∷ vs) v (further_on i) =
    or_right (is_variable v.owner v.name u) (has_variable vs v.owner v.name) (has_among vs v i)

pub record IsFoundAt (text : Declared) (vs : List Owned) (v : Owned) : Type 0 where
  pub first : ℕ
  pub there : variable_at text vs v.owner v.name ≡ Some (first, v)

pub found_at : (text : Declared) (vs : List Owned) → are_declared_once text vs ≡ true → (v : Owned) → IsAmong v vs
    → IsFoundAt text vs v
found_at text [] once v i = elim i [ ]
found_at text (u ∷ vs) once v here = let i = variable_itself v in record { first = 0; there = rw i refl }
found_at text (u ∷ vs) once v (further_on i) =
    let a = and_parts (not (has_variable vs u.owner u.name))
    (is_sound (variable_shape text u) && are_declared_once text vs) once in
    let b = and_parts (is_sound (variable_shape text u)) (are_declared_once text vs) a.1 in
    by_test (is_variable v.owner v.name u) refl (false_from_not (has_variable vs u.owner u.name) a.0) (has_among vs v i)
    (found_at text vs b.1 v i)
  where
    by_test : (b : Bool) → is_variable v.owner v.name u ≡ b → has_variable vs u.owner u.name ≡ false
        → has_variable vs v.owner v.name ≡ true → IsFoundAt text vs v → IsFoundAt text (u ∷ vs) v
    by_test true e absent present f =
        let q = variable_is v.owner v.name u e in
        let p : has_variable vs v.owner v.name ≡ has_variable vs u.owner u.name =
        ap (λ p. has_variable vs p.owner p.name) q in
        absurd (cc)
    by_test false e absent present f =
        let t = f.there in
        record { first = size (variable_shape text u) + f.first; there = rw (e, t) refl }

-- a variable that isn't an external has a site of its own
not_among_names : (ds : List Declaration) (x : Name) → contains_name (declared_names ds) x ≡ false
    → type_in ds x ≡ None
not_among_names [] x h = refl
not_among_names (d ∷ ds) x h =
    let n = or_parts (contains_name (names_of d.names) x) (contains_name (declared_names ds) x)
    (sym (list_any-append (λ y. bytes_eq x y) (names_of d.names) (declared_names ds)) ∙ h) in
    let a = same_test d.names ∙ n.0 in
    rw a (not_among_names ds x n.1)
  where
    same_test : (xs : List Identifier) → list_any (is_named x) xs ≡ contains_name (names_of xs) x
    same_test [] = refl
    same_test (y ∷ ys) = ap (λ b. is_named x y || b) (same_test ys)

pub not_among_sites : (keep : Option Retention) (ds : List Declaration) (rest : List NamedSite) (x : Name)
    → type_in ds x ≡ None → site_named (sites_of_declarations keep ds ++ rest) x ≡ site_named rest x
not_among_sites keep [] rest x h = refl
not_among_sites keep (d ∷ ds) rest x h =
    by_test (list_any (is_named x) d.names) refl h (not_among_sites keep ds rest x)
  where
    grouped : (cs bs es : List NamedSite) → (cs ++ bs) ++ es ≡ cs ++ (bs ++ es)
    grouped [] bs es = refl
    grouped (c ∷ cs) bs es = ap (λ xs. c ∷ xs) (grouped cs bs es)

    by_test : (b : Bool) → list_any (is_named x) d.names ≡ b → (if b then Some d.declared else type_in ds x) ≡ None
        → (type_in ds x ≡ None → site_named (sites_of_declarations keep ds ++ rest) x ≡ site_named rest x)
        → site_named ((map (with_site (site_of_declaration keep d)) d.names ++ sites_of_declarations keep ds) ++ rest) x
        ≡ site_named rest x
    by_test true e g ih = absurd (cc)
    by_test false e g ih =
        ap (λ xs. site_named xs x)
        (grouped (map (with_site (site_of_declaration keep d)) d.names) (sites_of_declarations keep ds) rest)
        ∙ not_named (site_of_declaration keep d) d.names (sites_of_declarations keep ds ++ rest) x e ∙ ih g

pub own_site : (bs : List VariableBlock) (x : Name) (t : VariableType) → type_in_blocks bs x ≡ Some t
    → contains_name (externals_in bs) x ≡ false → Declares (site_named (sites_of_blocks bs) x) t
own_site [] x t h e = absurd (cc)
own_site (b ∷ bs) x t h e = by_section (is_external b.section) e (own_site bs x t)
  where
    in_block : (keep : Option Retention) → (o : Option VariableType) → type_in b.declarations x ≡ o
        → or_type o (type_in_blocks bs x) ≡ Some t
        → (type_in_blocks bs x ≡ Some t → Declares (site_named (sites_of_blocks bs) x) t)
        → Declares (site_named (sites_of_declarations keep b.declarations ++ sites_of_blocks bs) x) t
    in_block keep (Some v) q g ih =
        let i = declaration_declared keep b.declarations x t (q ∙ g) in
        record {
          site = i.site;
          is = found_first (sites_of_declarations keep b.declarations) (sites_of_blocks bs) x i.site i.is;
          declared = i.declared;
        }
    in_block keep None q g ih =
        let i = ih g in
        record {
          site = i.site;
          is = not_among_sites keep b.declarations (sites_of_blocks bs) x q ∙ i.is;
          declared = i.declared;
        }

    by_section : (external : Bool)
        → contains_name (if external then declared_names b.declarations ++ externals_in bs else externals_in bs) x
        ≡ false
        → (type_in_blocks bs x ≡ Some t → contains_name (externals_in bs) x ≡ false
        → Declares (site_named (sites_of_blocks bs) x) t)
        → Declares (site_named (if external then sites_of_blocks bs
        else sites_of_declarations (retention_of b.section) b.declarations ++ sites_of_blocks bs) x) t
    by_section true g ih =
        let n = or_parts (contains_name (declared_names b.declarations) x) (contains_name (externals_in bs) x)
        (sym (list_any-append (λ y. bytes_eq x y) (declared_names b.declarations) (externals_in bs)) ∙ g) in
        ih (sym (ap (λ o. or_type o (type_in_blocks bs x)) (not_among_names b.declarations x n.0)) ∙ h) n.1
    by_section false g ih =
        in_block (retention_of b.section) (type_in b.declarations x) refl h (λ k. ih k g)

-- which is among the variables of the layout
pub site_among : (ds : List NamedSite) (x : Name) (s : Site) → site_named ds x ≡ Some s
    → IsAmong (record { name = x; site = s }) ds
site_among [] x s h = absurd (cc)
site_among (d ∷ ds) x s h = by_test (bytes_eq x d.name) refl h (site_among ds x s)
  where
    by_test : (b : Bool) → bytes_eq x d.name ≡ b → (if b then Some d.site else site_named ds x) ≡ Some s
        → (site_named ds x ≡ Some s → IsAmong (record { name = x; site = s }) ds)
        → IsAmong (record { name = x; site = s }) (d ∷ ds)
    by_test true e g ih =
        let q : d ≡ record { name = x; site = s } =
        ap₂ (λ y r. record { name = y; site = r }) (sym (same_name x d.name e)) (some_is g) in
        rw (← q) here
    by_test false e g ih = further_on (ih g)

among_instances : (text : Declared) (resource : Name) (is : List Instance) (i : Instance) → IsAmong i is → (v : Owned)
    → IsAmong v (map (owned_variable (Some (owner_in resource i)))
    (program_sites (unit_named text.units i.program.name)))
    → IsAmong v (variables_of_instances text resource is)
among_instances text resource [] i k v h = elim k [ ]
among_instances text resource (j ∷ is) i here v h =
    among_left (map (owned_variable (Some (owner_in resource i)))
    (program_sites (unit_named text.units i.program.name)))
    (variables_of_instances text resource is) h
among_instances text resource (j ∷ is) i (further_on k) v h =
    among_right (map (owned_variable (Some (owner_in resource j)))
    (program_sites (unit_named text.units j.program.name)))
    (variables_of_instances text resource is) (among_instances text resource is i k v h)

among_resources : (text : Declared) (rs : List Resource) (r : Resource) → IsAmong r rs → (v : Owned)
    → IsAmong v (variables_of_instances text r.name.name r.instances) → IsAmong v (variables_of_resources text rs)
among_resources text [] r k v h = elim k [ ]
among_resources text (q ∷ rs) r here v h =
    among_left (variables_of_instances text r.name.name r.instances) (variables_of_resources text rs) h
among_resources text (q ∷ rs) r (further_on k) v h =
    among_right (variables_of_instances text q.name.name q.instances) (variables_of_resources text rs)
    (among_resources text rs r k v h)

module _ (text : Declared) (c : Configuration) (owner : Owner) (u : OrganisationUnit)
    (instance : IsInstanceOf text c owner u) where
  sites_are : program_sites (unit_named text.units instance.instance.program.name) ≡ sites_of_blocks u.blocks
  sites_are = ap program_sites instance.named ∙ ap (λ s. sites_of_program s u.blocks) instance.program

  variable_among : (x : Name) (s : Site) → site_named (sites_of_blocks u.blocks) x ≡ Some s
      → IsAmong (owned_variable (Some owner) (record { name = x; site = s })) (variables_of_configuration text (Some c))
  variable_among x s h =
      let a = among_map (owned_variable (Some owner)) (sites_of_blocks u.blocks)
      (site_among (sites_of_blocks u.blocks) x s h) in
      let e : map (owned_variable (Some owner)) (sites_of_blocks u.blocks)
      ≡ map (owned_variable (Some (owner_in instance.resource.name.name instance.instance)))
      (program_sites (unit_named text.units instance.instance.program.name)) =
      ap₂ (λ o ds. map (owned_variable (Some o)) ds) instance.owned (sym sites_are) in
      among_right (variables_of_globals c.globals) (variables_of_resources text c.resources)
      (among_resources text c.resources instance.resource instance.is_resource
      (owned_variable (Some owner) (record { name = x; site = s }))
      (among_instances text instance.resource.name.name instance.resource.instances instance.instance
      instance.is_instance (owned_variable (Some owner) (record { name = x; site = s })) (rw (← e) a)))

  type_of_own : (x : Name) (t : VariableType) → variable_type u x ≡ Some t → type_in_blocks u.blocks x ≡ Some t
  type_of_own x t h = by_test (is_named x u.name) h
    where
      by_test : (b : Bool) → (if b then result_type u.sort else type_in_blocks u.blocks x) ≡ Some t
          → type_in_blocks u.blocks x ≡ Some t
      by_test true g =
          let e : result_type Program ≡ Some t = sym (ap result_type instance.program) ∙ g in absurd (cc)
      by_test false g = g

  module _ (once : are_declared_once text (variables_of_configuration text (Some c)) ≡ true)
      (grounded : IsGrounded text (variables_of_configuration text (Some c)) u) (w : Scope)
      (runs : RunsIn u (of_program owner) w) where
    own_home : (x : Name) (t : VariableType) (fixed : Bool) → variable_type u x ≡ Some t
        → contains_name (externals_in u.blocks) x ≡ false
        → IsLayoutPart text (variables_of_configuration text (Some c)) fixed (own_path (of_program owner) x) t
    own_home x t fixed h e =
        let d = own_site u.blocks x t (type_of_own x t h) e in
        let f = found_at text (variables_of_configuration text (Some c)) once
        (owned_variable (Some owner) (record { name = x; site = d.site })) (variable_among x d.site d.is) in
        record {
          owner = Some owner;
          name = x;
          steps = [];
          first = f.first;
          variable = owned_variable (Some owner) (record { name = x; site = d.site });
          depth = MAX_TYPE_DEPTH;
          path = refl;
          there = f.there;
          free = λ free. refl;
          within = grounded.depths x t h;
          shape = ap (λ q. Some (shape_of_type text q)) d.declared;
        }

    path_of : (x : Name) (b : Bool) → contains_name (externals_in u.blocks) x ≡ b
        → path_in w.frame w.body x ≡ (if b then unowned x else own_path (of_program owner) x)
    path_of x b e =
        ap₂ (λ f xs. if contains_name xs x then unowned x else own_path f x) runs.names_of runs.externals
        ∙ ap (λ c. if c then unowned x else own_path (of_program owner) x) e

    pub program_homes : HaveSlots (environment text u) (variables_of_configuration text (Some c)) w
    program_homes x t h = by_test (contains_name (externals_in u.blocks) x) refl
      where
        moved : (p q : Path) (fixed : Bool) → p ≡ q
            → IsLayoutPart text (variables_of_configuration text (Some c)) fixed q t
            → IsLayoutPart text (variables_of_configuration text (Some c)) fixed p t
        moved p q fixed e i = record {
          owner = i.owner;
          name = i.name;
          steps = i.steps;
          first = i.first;
          variable = i.variable;
          depth = i.depth;
          path = e ∙ i.path;
          there = i.there;
          free = i.free;
          within = i.within;
          shape = i.shape;
        }

        by_test : (b : Bool) → contains_name (externals_in u.blocks) x ≡ b
            → IsLayoutPart text (variables_of_configuration text (Some c))
            (is_fixed (section_of (environment text u) x)) (path_in w.frame w.body x) t
        by_test true e = moved (path_in w.frame w.body x) (unowned x)
            (is_fixed (section_of (environment text u) x)) (path_of x true e) (grounded.externals x t e h)
        by_test false e = moved (path_in w.frame w.body x) (own_path (of_program owner) x)
            (is_fixed (section_of (environment text u) x)) (path_of x false e)
            (own_home x t (is_fixed (section_of (environment text u) x)) h e)
