-- The bodies and blocks that a text gives are those of its units.
use Rattle.std.proofs.Common.{◌≡◌, Bool, true, false, ◌||◌, if◌then◌else◌, List, [], ◌∷◌, ◌++◌, map, Option, Some, None}
use Rattle.std.proofs.Common.{option_map, refl, sym, ap, ap₂, ◌∙◌, subst}
use Rattle.std.specs.Prelude.{bytes_eq}
use Rattle.std.specs.List.{list_any}
use Rattle.st_types.specs.declared.data_type.VariableType.{VariableType}
use Rattle.st_types.specs.declared.declaration.Section.{Section}
use Rattle.st_types.specs.Declarations.{Declaration, VariableBlock}
use Rattle.st_types.specs.Statements.{Stmt, stmt_then, stmts_of}
use Rattle.st_types.specs.Units.{OrganisationUnit}
use Rattle.st_types.specs.Sources.{Source}
use Rattle.st_meaning.specs.Bodies.{is_external, declared_names, names_of, externals_in}
use Rattle.st_meaning.specs.NameTypes.{Declared, declared_in, types_in, units_in, is_named, type_named, unit_named, type_in}
use Rattle.st_meaning.specs.NameTypes.{or_type, type_in_blocks}
use Rattle.st_meaning.specs.ResolvedUnits.{resolved_stmt, resolved_stmts, resolved_type, resolved_declaration}
use Rattle.st_meaning.specs.ResolvedUnits.{resolved_block, resolved, resolved_definition}
use Rattle.st_meaning.specs.Scopes.{Name, block_named}
use Rattle.st_rules.specs.Environments.{section_in}
use Rattle.st_link.proofs.InstanceSections.{found_among, absent}
use Rattle.layout.specs.LayoutVariables.{declared_of}
use Rattle.layout.specs.Libraries.{instance_then, instances_among}
use Rattle.layout.specs.Types.{Site, NamedSite, site_named, sites_of_declarations, retention_of, sites_of_blocks}
use Rattle.layout.specs.Types.{BlockType, instance_of}
use Rattle.layout.proofs.ResolvedLemmas.{taken_text, types_taken, units_taken, same_type_named, same_unit_named}
use Rattle.st_link.proofs.HomeLemmas.{not_among_sites}
use Rattle.st_link.proofs.SoundMembers.{Declares, found_first, declaration_declared}

-- the resolved text
pub text_taken : (source : Source) → declared_of source ≡ taken_text (declared_in source)
text_taken source = ap₂ (λ ts us. record { types = ts; units = us }) (types_taken (declared_in source) source)
    (units_taken (declared_in source) source)

pub unit_taken : (source : Source) (x : Name) (u : OrganisationUnit)
    → unit_named (declared_in source).units x ≡ Some u
    → unit_named (declared_of source).units x ≡ Some (resolved (declared_in source) u)
unit_taken source x u h =
    ap (λ (t : Declared). unit_named t.units x) (text_taken source)
    ∙ same_unit_named (declared_in source) (units_in source) x ∙ ap (option_map (resolved (declared_in source))) h

pub no_type_taken : (source : Source) (x : Name) → type_named (declared_in source).types x ≡ None
    → type_named (declared_of source).types x ≡ None
no_type_taken source x h =
    ap (λ (t : Declared). type_named t.types x) (text_taken source)
    ∙ same_type_named (declared_in source) (types_in source) x
    ∙ ap (option_map (resolved_definition (declared_in source))) h

-- statements
pub statements_taken : (text : Declared) (u : OrganisationUnit) (xs : List Stmt)
    → stmts_of (map (resolved_stmt text u) xs) ≡ resolved_stmts text u (stmts_of xs)
statements_taken text u [] = refl
statements_taken text u (x ∷ xs) = ap (stmt_then (resolved_stmt text u x)) (statements_taken text u xs)

-- externals
pub names_taken : (text : Declared) (ds : List Declaration)
    → declared_names (map (resolved_declaration text) ds) ≡ declared_names ds
names_taken text [] = refl
names_taken text (d ∷ ds) = ap (λ xs. names_of d.names ++ xs) (names_taken text ds)

pub externals_taken : (text : Declared) (bs : List VariableBlock)
    → externals_in (map (resolved_block text) bs) ≡ externals_in bs
externals_taken text [] = refl
externals_taken text (b ∷ bs) =
    ap₂ (λ xs ys. if is_external b.section then xs ++ ys else ys) (names_taken text b.declarations)
    (externals_taken text bs)

-- types and sections of variables
type_in_taken : (text : Declared) (ds : List Declaration) (x : Name)
    → type_in (map (resolved_declaration text) ds) x ≡ option_map resolved_type (type_in ds x)
type_in_taken text [] x = refl
type_in_taken text (d ∷ ds) x = by_test (list_any (is_named x) d.names) (type_in_taken text ds x)
  where
    by_test : (b : Bool) → type_in (map (resolved_declaration text) ds) x ≡ option_map resolved_type (type_in ds x)
        → (if b then Some (resolved_type d.declared) else type_in (map (resolved_declaration text) ds) x)
        ≡ option_map resolved_type (if b then Some d.declared else type_in ds x)
    by_test true h = refl
    by_test false h = h

either_taken : (o p : Option VariableType)
    → or_type (option_map resolved_type o) (option_map resolved_type p) ≡ option_map resolved_type (or_type o p)
either_taken (Some t) p = refl
either_taken None p = refl

pub types_in_taken : (text : Declared) (bs : List VariableBlock) (x : Name)
    → type_in_blocks (map (resolved_block text) bs) x ≡ option_map resolved_type (type_in_blocks bs x)
types_in_taken text [] x = refl
types_in_taken text (b ∷ bs) x =
    ap₂ (λ o p. or_type o p) (type_in_taken text b.declarations x) (types_in_taken text bs x)
    ∙ either_taken (type_in b.declarations x) (type_in_blocks bs x)

has_name_taken : (text : Declared) (ds : List Declaration) (x : Name)
    → list_any (λ d. list_any (is_named x) d.names) (map (resolved_declaration text) ds)
    ≡ list_any (λ d. list_any (is_named x) d.names) ds
has_name_taken text [] x = refl
has_name_taken text (d ∷ ds) x = ap (λ b. list_any (is_named x) d.names || b) (has_name_taken text ds x)

pub section_taken : (text : Declared) (bs : List VariableBlock) (x : Name)
    → section_in (map (resolved_block text) bs) x ≡ section_in bs x
section_taken text [] x = refl
section_taken text (b ∷ bs) x = ap₂ (λ c o. if c then Some b.section else o) (has_name_taken text b.declarations x)
    (section_taken text bs x)

-- a variable that isn't an external has a site of its own
external_is : (s r : Section) → Some s ≡ Some r → is_external r ≡ false → is_external s ≡ false
external_is s r e h = let same : r ≡ s = cc in subst (λ (x : Section). is_external x ≡ false) same h

first_site : (b : VariableBlock) (bs : List VariableBlock) (x : Name) (t : VariableType) (c : Bool) → c ≡ false
    → Declares (site_named (sites_of_declarations (retention_of b.section) b.declarations ++ sites_of_blocks bs) x) t
    → Declares (site_named (if c then sites_of_blocks bs
    else sites_of_declarations (retention_of b.section) b.declarations ++ sites_of_blocks bs) x) t
first_site b bs x t true e d = absurd (cc)
first_site b bs x t false e d = d

later_site : (b : VariableBlock) (bs : List VariableBlock) (x : Name) (t : VariableType) → type_in b.declarations x ≡ None
    → Declares (site_named (sites_of_blocks bs) x) t → (c : Bool)
    → Declares (site_named (if c then sites_of_blocks bs
    else sites_of_declarations (retention_of b.section) b.declarations ++ sites_of_blocks bs) x) t
later_site b bs x t none d true = d
later_site b bs x t none d false = record {
  site = d.site;
  is = not_among_sites (retention_of b.section) b.declarations (sites_of_blocks bs) x none ∙ d.is;
  declared = d.declared;
}

site_at : (b : VariableBlock) (bs : List VariableBlock) (x : Name) (t : VariableType) (s : Section)
    (o : Option VariableType) → type_in b.declarations x ≡ o → or_type o (type_in_blocks bs x) ≡ Some t
    → section_in (b ∷ bs) x ≡ Some s → is_external s ≡ false
    → (type_in_blocks bs x ≡ Some t → section_in bs x ≡ Some s → Declares (site_named (sites_of_blocks bs) x) t)
    → Declares (site_named (sites_of_blocks (b ∷ bs)) x) t
site_at b bs x t s (Some u) e h k free f =
    let found = found_among b.declarations x t (e ∙ h) in
    let section : Some b.section ≡ Some s =
    sym (ap (λ c. if c then Some b.section else section_in bs x) found.named) ∙ k in
    let d = declaration_declared (retention_of b.section) b.declarations x t (e ∙ h) in
    first_site b bs x t (is_external b.section) (external_is b.section s section free) (record {
      site = d.site;
      is = found_first (sites_of_declarations (retention_of b.section) b.declarations) (sites_of_blocks bs) x d.site d.is;
      declared = d.declared;
    })
site_at b bs x t s None e h k free f =
    let section : section_in bs x ≡ Some s =
    sym (ap (λ c. if c then Some b.section else section_in bs x) (absent b.declarations x e)) ∙ k in
    later_site b bs x t e (f h section) (is_external b.section)

pub site_of_variable : (bs : List VariableBlock) (x : Name) (t : VariableType) (s : Section)
    → type_in_blocks bs x ≡ Some t → section_in bs x ≡ Some s → is_external s ≡ false
    → Declares (site_named (sites_of_blocks bs) x) t
site_of_variable [] x t s h k free = absurd (cc)
site_of_variable (b ∷ bs) x t s h k free = site_at b bs x t s (type_in b.declarations x) refl h k free
    (λ g l. site_of_variable bs x t s g l free)

-- an instance is found among those of a unit
pub named_instance : (text : Declared) (ds : List NamedSite) (x : Name) (site : Site) (block : BlockType)
    → site_named ds x ≡ Some site → instance_of text site.declared ≡ Some block
    → block_named (instances_among text ds) x ≡ Some block.name
named_instance text [] x site block h e = absurd (cc)
named_instance text (d ∷ ds) x site block h e =
    by_test (bytes_eq x d.name) refl h (λ g. named_instance text ds x site block g e)
  where
    behind : (o : Option BlockType) → bytes_eq x d.name ≡ false
        → block_named (instances_among text ds) x ≡ Some block.name
        → block_named (instance_then d.name o (instances_among text ds)) x ≡ Some block.name
    behind None n k = k
    behind (Some c) n k =
        ap (λ (b : Bool). if b then Some c.name else block_named (instances_among text ds) x) n ∙ k

    by_test : (b : Bool) → bytes_eq x d.name ≡ b → (if b then Some d.site else site_named ds x) ≡ Some site
        → (site_named ds x ≡ Some site → block_named (instances_among text ds) x ≡ Some block.name)
        → block_named (instance_then d.name (instance_of text d.site.declared) (instances_among text ds)) x
        ≡ Some block.name
    by_test true n g f =
        let same : d.site ≡ site = cc in
        let is : instance_of text d.site.declared ≡ Some block =
        ap (λ (s : Site). instance_of text s.declared) same ∙ e in
        ap (λ (o : Option BlockType). block_named (instance_then d.name o (instances_among text ds)) x) is
        ∙ ap (λ (b : Bool). if b then Some block.name else block_named (instances_among text ds) x) n
    by_test false n g f = behind (instance_of text d.site.declared) n (f g)
