-- The part after a dot or a subscript, by its type, is the part in the layout.
use Rattle.std.proofs.Common.{◌≡◌, ℕ, ◌+◌, Bool, true, false, not, ◌||◌, if◌then◌else◌, List, [], ◌∷◌, ◌++◌}
use Rattle.std.proofs.Common.{map, Option, Some, None, option_map, option_and_then, refl, sym, ap, ◌∙◌}
use Rattle.std.specs.Prelude.{bytes_eq, is_none}
use Rattle.std.specs.List.{list_any, list_all}
use Rattle.st_types.specs.declared.identifier.Identifier.{Identifier}
use Rattle.st_types.specs.declared.kind.Kind.{Kind}
use Rattle.st_types.specs.declared.data_type.ArrayType.{ArrayType}
use Rattle.st_types.specs.declared.data_type.SimpleType.TheVariants.{Elementary, Named}
use Rattle.st_types.specs.declared.data_type.VariableType.{VariableType}
use Rattle.st_types.specs.declared.data_type.VariableType.TheVariants as types
use Rattle.st_types.specs.declared.declaration.Retention.{Retention}
use Rattle.st_types.specs.declared.declaration.Section.{Section}
use Rattle.st_types.specs.declared.declaration.Section.TheVariants.{Input, Output, Local, Constant, External}
use Rattle.st_types.specs.declared.declaration.Section.TheVariants.{ConstantExternal}
use Rattle.st_types.specs.declared.unit.UnitSort.{UnitSort}
use Rattle.st_types.specs.declared.unit.UnitSort.TheVariants.{Function, FunctionBlock, Program}
use Rattle.st_types.specs.Declarations as declarations
use Rattle.st_types.specs.Declarations.{Field, TypeDefinition, TypeDeclaration, Declaration, VariableBlock}
use Rattle.st_types.specs.Units.{OrganisationUnit}
use Rattle.st_meaning.specs.Bodies.{is_external}
use Rattle.st_meaning.specs.Enumerations.{enumerated_names, enumerations_from, enumeration_named}
use Rattle.st_meaning.specs.Enumerations.{kind_of_enumeration}
use Rattle.st_meaning.specs.NameTypes.{Declared, is_named, type_named, unit_named, type_in, or_type, field_type}
use Rattle.st_meaning.specs.NameTypes.{member_kind, definition_of, element_type, is_output, type_in_sections, sections_of}
use Rattle.st_meaning.specs.NameTypes.{variable_of_block, block_variable, member_type, elementary, kind_among}
use Rattle.st_meaning.specs.Scopes.{Name, contains_name}
use Rattle.st_meaning.specs.StandardBlocks.{StandardBlock, BlockMember, block_of, inputs_of, outputs_of, hidden_of}
use Rattle.st_meaning.specs.StandardBlocks.{members_of}
use Rattle.layout.specs.Shapes.{PartsOwner, of_structure, of_instance}
use Rattle.layout.specs.Types.{Site, NamedSite, site_named, with_site, site_of_declaration, sites_of_declarations}
use Rattle.layout.specs.Types.{retention_of, sites_of_blocks, site_of_field, site_of_member, BlockType}
use Rattle.layout.specs.Types.{block_type_of}
use Rattle.layout.specs.Types.{own_block_type, block_type_named, instance_of, of_kind, of_elements}
use Rattle.layout.specs.Types.{of_parts, defined_composition, composition_of, element_of}
use Rattle.layout.specs.Names
use Rattle.layout.specs.Names.{are_different, names_of_sites, has_different_variables}
use Rattle.layout.specs.Names.{are_types_and_units_different}
use Rattle.layout.proofs.ListLemmas.{same_name}
use Rattle.layout.proofs.LibraryLemmas.{no_enumeration, instance_made}
use Rattle.layout.proofs.NameLemmas.{standard_members, found_unit}
use Rattle.st_link.specs.Homes.{are_names_different}
use Rattle.std.proofs.lemmas.Bool.{or_parts, and_parts, or_right}
use Rattle.st_types.proofs.OptionLemmas.{some_is}
use Rattle.st_types.proofs.TestLemmas.{false_from_not}

-- a declaration of this type
pub record Declares (o : Option Site) (u : VariableType) : Type 0 where
  pub site : Site
  pub is : o ≡ Some site
  pub declared : site.declared ≡ u

-- a name that is found among later sites is found among all of them, if no name occurs twice
found_name : (ds : List NamedSite) (x : Name) (s : Site) → site_named ds x ≡ Some s
    → contains_name (names_of_sites ds) x ≡ true
found_name [] x s h = absurd (cc)
found_name (d ∷ ds) x s h = by_test (bytes_eq x d.name) h (found_name ds x s)
  where
    by_test : (b : Bool) → (if b then Some d.site else site_named ds x) ≡ Some s
        → (site_named ds x ≡ Some s → contains_name (names_of_sites ds) x ≡ true)
        → (b || contains_name (names_of_sites ds) x) ≡ true
    by_test true e ih = refl
    by_test false e ih = ih e

pub names_append : (cs bs : List NamedSite) → names_of_sites (cs ++ bs) ≡ names_of_sites cs ++ names_of_sites bs
names_append [] bs = refl
names_append (a ∷ cs) bs = ap (λ xs. a.name ∷ xs) (names_append cs bs)

pub later_differ : (cs bs : List NamedSite) → are_different (names_of_sites (cs ++ bs)) ≡ true
    → are_different (names_of_sites bs) ≡ true
later_differ [] bs h = h
later_differ (a ∷ cs) bs h =
    later_differ cs bs (and_parts (not (contains_name (names_of_sites (cs ++ bs)) a.name))
    (are_different (names_of_sites (cs ++ bs))) h).1

contained_later : (cs bs : List NamedSite) (x : Name) → contains_name (names_of_sites bs) x ≡ true
    → contains_name (names_of_sites (cs ++ bs)) x ≡ true
contained_later [] bs x h = h
contained_later (a ∷ cs) bs x h =
    or_right (bytes_eq x a.name) (contains_name (names_of_sites (cs ++ bs)) x) (contained_later cs bs x h)

pub found_later : (cs bs : List NamedSite) → are_different (names_of_sites (cs ++ bs)) ≡ true → (x : Name) (s : Site)
    → site_named bs x ≡ Some s → site_named (cs ++ bs) x ≡ Some s
found_later [] bs d x s h = h
found_later (a ∷ cs) bs d x s h =
    let b = and_parts (not (contains_name (names_of_sites (cs ++ bs)) a.name))
    (are_different (names_of_sites (cs ++ bs))) d in
    by_test (bytes_eq x a.name) refl (false_from_not (contains_name (names_of_sites (cs ++ bs)) a.name) b.0)
    (contained_later cs bs x (found_name bs x s h)) (found_later cs bs b.1 x s h)
  where
    by_test : (b : Bool) → bytes_eq x a.name ≡ b → contains_name (names_of_sites (cs ++ bs)) a.name ≡ false
        → contains_name (names_of_sites (cs ++ bs)) x ≡ true → site_named (cs ++ bs) x ≡ Some s
        → (if b then Some a.site else site_named (cs ++ bs) x) ≡ Some s
    by_test true e absent present f =
        let q = same_name x a.name e in
        let i : contains_name (names_of_sites (cs ++ bs)) a.name ≡ true =
        ap (contains_name (names_of_sites (cs ++ bs))) (sym q) ∙ present in
        absurd (cc)
    by_test false e absent present f = f

pub found_first : (cs bs : List NamedSite) (x : Name) (s : Site) → site_named cs x ≡ Some s
    → site_named (cs ++ bs) x ≡ Some s
found_first [] bs x s h = absurd (cc)
found_first (a ∷ cs) bs x s h = by_test (bytes_eq x a.name) h (found_first cs bs x s)
  where
    by_test : (b : Bool) → (if b then Some a.site else site_named cs x) ≡ Some s
        → (site_named cs x ≡ Some s → site_named (cs ++ bs) x ≡ Some s)
        → (if b then Some a.site else site_named (cs ++ bs) x) ≡ Some s
    by_test true e ih = e
    by_test false e ih = ih e

-- fields
field_declared : (fields : List Field) (x : Name) (u : VariableType) → field_type fields x ≡ Some u
    → Declares (site_named (map site_of_field fields) x) u
field_declared [] x u h = absurd (cc)
field_declared (f ∷ fs) x u h = by_test (is_named x f.name) h (field_declared fs x u)
  where
    by_test : (b : Bool) → (if b then Some f.declared else field_type fs x) ≡ Some u
        → (field_type fs x ≡ Some u → Declares (site_named (map site_of_field fs) x) u)
        → Declares (if b then Some (site_of_field f).site else site_named (map site_of_field fs) x) u
    by_test true e ih = record { site = (site_of_field f).site; is = refl; declared = some_is e }
    by_test false e ih = ih e

-- members of a standard block
pub member_declared : (ms : List BlockMember) (x : Name) (k : Kind) → member_kind ms x ≡ Some k
    → Declares (site_named (map site_of_member ms) x) (elementary k)
member_declared [] x k h = absurd (cc)
member_declared (m ∷ ms) x k h = by_test (bytes_eq x m.0) h (member_declared ms x k)
  where
    by_test : (b : Bool) → (if b then Some m.1 else member_kind ms x) ≡ Some k
        → (member_kind ms x ≡ Some k → Declares (site_named (map site_of_member ms) x) (elementary k))
        → Declares (if b then Some (site_of_member m).site else site_named (map site_of_member ms) x) (elementary k)
    by_test true e ih =
        record { site = (site_of_member m).site; is = refl; declared = ap elementary (some_is e) }
    by_test false e ih = ih e

map_members : (cs bs : List BlockMember)
    → map site_of_member (cs ++ bs) ≡ map site_of_member cs ++ map site_of_member bs
map_members [] bs = refl
map_members (a ∷ cs) bs = ap (λ xs. site_of_member a ∷ xs) (map_members cs bs)

grouped : (cs bs ds : List BlockMember) → (cs ++ bs) ++ ds ≡ cs ++ (bs ++ ds)
grouped [] bs ds = refl
grouped (c ∷ cs) bs ds = ap (λ xs. c ∷ xs) (grouped cs bs ds)

output_declared : (b : StandardBlock) (x : Name) (k : Kind) → member_kind (outputs_of b) x ≡ Some k
    → Declares (site_named (map site_of_member (members_of b)) x) (elementary k)
output_declared b x k h =
    let m = member_declared (outputs_of b) x k h in
    let e : map site_of_member (members_of b)
    ≡ map site_of_member (inputs_of b) ++ (map site_of_member (outputs_of b) ++ map site_of_member (hidden_of b)) =
    ap (map site_of_member) (grouped (inputs_of b) (outputs_of b) (hidden_of b))
    ∙ map_members (inputs_of b) (outputs_of b ++ hidden_of b)
    ∙ ap (λ xs. map site_of_member (inputs_of b) ++ xs) (map_members (outputs_of b) (hidden_of b)) in
    let d = ap (λ ds. are_different (names_of_sites ds)) (sym e) ∙ standard_members b in
    record {
      site = m.site;
      is = ap (λ ds. site_named ds x) e
          ∙ found_later (map site_of_member (inputs_of b))
          (map site_of_member (outputs_of b) ++ map site_of_member (hidden_of b)) d x m.site
          (found_first (map site_of_member (outputs_of b)) (map site_of_member (hidden_of b)) x m.site m.is);
      declared = m.declared;
    }

-- variables of a unit
named_declared : (s : Site) (xs : List Identifier) (x : Name) → list_any (is_named x) xs ≡ true
    → site_named (map (with_site s) xs) x ≡ Some s
named_declared s [] x h = absurd (cc)
named_declared s (y ∷ ys) x h = by_test (is_named x y) h (named_declared s ys x)
  where
    by_test : (b : Bool) → (b || list_any (is_named x) ys) ≡ true
        → (list_any (is_named x) ys ≡ true → site_named (map (with_site s) ys) x ≡ Some s)
        → (if b then Some s else site_named (map (with_site s) ys) x) ≡ Some s
    by_test true e ih = refl
    by_test false e ih = ih e

pub not_named : (s : Site) (xs : List Identifier) (rest : List NamedSite) (x : Name) → list_any (is_named x) xs ≡ false
    → site_named (map (with_site s) xs ++ rest) x ≡ site_named rest x
not_named s [] rest x h = refl
not_named s (y ∷ ys) rest x h =
    let n = or_parts (is_named x y) (list_any (is_named x) ys) h in
    let a = n.0 in
    rw a (not_named s ys rest x n.1)

pub declaration_declared : (keep : Option Retention) (ds : List Declaration) (x : Name) (u : VariableType)
    → type_in ds x ≡ Some u → Declares (site_named (sites_of_declarations keep ds) x) u
declaration_declared keep [] x u h = absurd (cc)
declaration_declared keep (d ∷ ds) x u h =
    by_test (list_any (is_named x) d.names) refl h (declaration_declared keep ds x u)
  where
    by_test : (b : Bool) → list_any (is_named x) d.names ≡ b → (if b then Some d.declared else type_in ds x) ≡ Some u
        → (type_in ds x ≡ Some u → Declares (site_named (sites_of_declarations keep ds) x) u)
        → Declares (site_named (map (with_site (site_of_declaration keep d)) d.names
        ++ sites_of_declarations keep ds) x) u
    by_test true e g ih = record {
      site = site_of_declaration keep d;
      is = found_first (map (with_site (site_of_declaration keep d)) d.names) (sites_of_declarations keep ds) x
          (site_of_declaration keep d) (named_declared (site_of_declaration keep d) d.names x e);
      declared = some_is g;
    }
    by_test false e g ih =
        let i = ih g in
        record {
          site = i.site;
          is = not_named (site_of_declaration keep d) d.names (sites_of_declarations keep ds) x e ∙ i.is;
          declared = i.declared;
        }

module _ (ds : List Declaration) (bs : List VariableBlock) (x : Name) (u : VariableType) where
  abbrev sites_with : Section → List NamedSite
  sites_with s =
      if is_external s then sites_of_blocks bs else sites_of_declarations (retention_of s) ds ++ sites_of_blocks bs

  abbrev Later : Type 0
  Later =
      are_different (names_of_sites (sites_of_blocks bs)) ≡ true → type_in_sections is_output bs x ≡ Some u
      → Declares (site_named (sites_of_blocks bs) x) u

  -- the variables after those of a section
  behind_section : (keep : Option Retention)
      → are_different (names_of_sites (sites_of_declarations keep ds ++ sites_of_blocks bs)) ≡ true → Later
      → type_in_sections is_output bs x ≡ Some u
      → Declares (site_named (sites_of_declarations keep ds ++ sites_of_blocks bs) x) u
  behind_section keep d ih h =
      let i = ih (later_differ (sites_of_declarations keep ds) (sites_of_blocks bs) d) h in
      record {
        site = i.site;
        is = found_later (sites_of_declarations keep ds) (sites_of_blocks bs) d x i.site i.is;
        declared = i.declared;
      }

  in_section : (keep : Option Retention)
      → are_different (names_of_sites (sites_of_declarations keep ds ++ sites_of_blocks bs)) ≡ true → Later
      → (o : Option VariableType) → type_in ds x ≡ o → or_type o (type_in_sections is_output bs x) ≡ Some u
      → Declares (site_named (sites_of_declarations keep ds ++ sites_of_blocks bs) x) u
  in_section keep d ih None e h = behind_section keep d ih h
  in_section keep d ih (Some v) e h =
      let i = declaration_declared keep ds x u (e ∙ h) in
      record {
        site = i.site;
        is = found_first (sites_of_declarations keep ds) (sites_of_blocks bs) x i.site i.is;
        declared = i.declared;
      }

  by_section : (s : Section) → are_different (names_of_sites (sites_with s)) ≡ true → Later
      → (if is_output s then or_type (type_in ds x) (type_in_sections is_output bs x)
      else type_in_sections is_output bs x) ≡ Some u
      → Declares (site_named (sites_with s) x) u
  by_section (Input keep) d ih h = behind_section keep d ih h
  by_section (Output keep) d ih h = in_section keep d ih (type_in ds x) refl h
  by_section (Local keep) d ih h = behind_section keep d ih h
  by_section Constant d ih h = behind_section None d ih h
  by_section External d ih h = ih d h
  by_section ConstantExternal d ih h = ih d h

block_output_declared : (bs : List VariableBlock) → are_different (names_of_sites (sites_of_blocks bs)) ≡ true
    → (x : Name) (u : VariableType) → type_in_sections is_output bs x ≡ Some u
    → Declares (site_named (sites_of_blocks bs) x) u
block_output_declared [] d x u h = absurd (cc)
block_output_declared (b ∷ bs) d x u h =
    by_section b.declarations bs x u b.section d (λ e g. block_output_declared bs e x u g) h

-- a type of the text that is not enumerated has no value of its own
not_declared : (ts : List TypeDeclaration) (x : Name) → contains_name (map (λ t. t.name.name) ts) x ≡ false
    → type_named ts x ≡ None
not_declared [] x h = refl
not_declared (t ∷ ts) x h =
    let n = or_parts (bytes_eq x t.name.name) (contains_name (map (λ t. t.name.name) ts) x) h in
    let a = n.0 in
    rw a (not_declared ts x n.1)

no_other_enumeration : (n : ℕ) (ts : List TypeDeclaration) → are_different (map (λ t. t.name.name) ts) ≡ true
    → (x : Name) (d : TypeDefinition) → type_named ts x ≡ Some d → enumerated_names d ≡ None
    → enumeration_named (enumerations_from n ts) x ≡ None
no_other_enumeration n [] differ x d h e = absurd (cc)
no_other_enumeration n (t ∷ ts) differ x d h e =
    let b = and_parts (not (contains_name (map (λ t. t.name.name) ts) t.name.name))
    (are_different (map (λ t. t.name.name) ts)) differ in
    by_test (is_named x t.name) refl h (false_from_not (contains_name (map (λ t. t.name.name) ts) t.name.name) b.0)
    (λ m g. no_other_enumeration m ts b.1 x d g e)
  where
    none_here : (names : Option (List Identifier)) → names ≡ None → type_named ts x ≡ None
        → enumeration_named (elim names [
          | Some xs ↦ record { number = n; name = t.name.name; names = xs } ∷ enumerations_from (n + 1) ts
          | None ↦ enumerations_from n ts
        ]) x ≡ None
    none_here None q g = no_enumeration n ts x g
    none_here (Some xs) q g = absurd (cc)

    by_names : (names : Option (List Identifier)) → bytes_eq x t.name.name ≡ false
        → ((m : ℕ) → enumeration_named (enumerations_from m ts) x ≡ None)
        → enumeration_named (elim names [
          | Some xs ↦ record { number = n; name = t.name.name; names = xs } ∷ enumerations_from (n + 1) ts
          | None ↦ enumerations_from n ts
        ]) x ≡ None
    by_names (Some xs) q ih = let i = ih (n + 1) in rw (q, i) refl
    by_names None q ih = ih n

    by_test : (b : Bool) → is_named x t.name ≡ b → (if b then Some t.definition else type_named ts x) ≡ Some d
        → contains_name (map (λ t. t.name.name) ts) t.name.name ≡ false
        → ((m : ℕ) → type_named ts x ≡ Some d → enumeration_named (enumerations_from m ts) x ≡ None)
        → enumeration_named (enumerations_from n (t ∷ ts)) x ≡ None
    by_test true q g new ih =
        let f : t.definition ≡ d = some_is g in
        let a : enumerated_names t.definition ≡ None = ap enumerated_names f ∙ e in
        let same = same_name x t.name.name q in
        let c : contains_name (map (λ t. t.name.name) ts) x ≡ false =
        ap (contains_name (map (λ t. t.name.name) ts)) same ∙ new in
        none_here (enumerated_names t.definition) a (not_declared ts x c)
    by_test false q g new ih = by_names (enumerated_names t.definition) q (λ m. ih m g)

-- the part of a name, of a type that is made of parts
pub record IsPart (text : Declared) (t : VariableType) (x : Name) (u : VariableType) : Type 0 where
  pub whole : PartsOwner
  pub sites : List NamedSite
  pub own : Site
  pub composition : composition_of text t ≡ of_parts whole sites
  pub named : site_named sites x ≡ Some own
  pub declared : own.declared ≡ u

-- the elements of a type that is an array
pub record IsArray (text : Declared) (t u : VariableType) : Type 0 where
  pub array : ArrayType
  pub composition : composition_of text t ≡ of_elements array
  pub element : element_of array ≡ u

module _ (text : Declared) (differ : are_names_different text ≡ true) where
  types_once : are_different (map (λ t. t.name.name) text.types) ≡ true
  types_once = (and_parts (are_different (map (λ t. t.name.name) text.types)) (are_types_and_units_different text) differ).0

  units_once : list_all has_different_variables text.units ≡ true
  units_once = (and_parts (list_all (λ t. Names.has_different_fields t.definition) text.types)
      (list_all has_different_variables text.units)
      (and_parts (are_different (map (λ t. t.name.name) text.types)) (are_types_and_units_different text) differ).1).1

  no_kind_among : (x : Identifier) (d : TypeDefinition) → type_named text.types x.name ≡ Some d
      → enumerated_names d ≡ None → kind_among text.types (types.Simple (Named x)) ≡ None
  no_kind_among x d h e =
      ap (option_map kind_of_enumeration) (no_other_enumeration 0 text.types types_once x.name d h e)

  pub made : (x : Identifier) (d : TypeDefinition) → type_named text.types x.name ≡ Some d → enumerated_names d ≡ None
      → composition_of text (types.Simple (Named x)) ≡ defined_composition text (types.Simple (Named x)) (Some d)
  made x d h e =
      ap (λ m. elim m [
        | Some k ↦ of_kind k
        | None ↦ defined_composition text (types.Simple (Named x)) (definition_of text (types.Simple (Named x)))
      ]) (no_kind_among x d h e)
      ∙ ap (defined_composition text (types.Simple (Named x))) h

  -- an output of an instance
  own_output : (o : Option OrganisationUnit)
      → ((v : OrganisationUnit) → o ≡ Some v → has_different_variables v ≡ true) → (x : Name) (u : VariableType)
      → option_and_then (λ v. type_in_sections is_output (sections_of v.sort v.blocks) x) o ≡ Some u
      → (b : BlockType) × (own_block_type o ≡ Some b) × Declares (site_named b.members x) u
  own_output None all x u h = absurd (cc)
  own_output (Some v) all x u h = by_sort v.sort refl (all v refl) h
    where
      by_sort : (s : UnitSort) → v.sort ≡ s → are_different (Names.variable_names s v) ≡ true
          → type_in_sections is_output (sections_of s v.blocks) x ≡ Some u
          → (b : BlockType) × (block_type_of s v ≡ Some b) × Declares (site_named b.members x) u
      by_sort FunctionBlock q d g = (
        record { name = v.name.name; members = sites_of_blocks v.blocks },
        refl,
        block_output_declared v.blocks d x u g,
      )
      by_sort (Function t) q d g = absurd (cc)
      by_sort Program q d g = absurd (cc)

  abbrev block_by : Identifier → Option StandardBlock → Option BlockType
  block_by x k = elim k [
    | Some b ↦ Some (record { name = x.name; members = map site_of_member (members_of b) })
    | None ↦ own_block_type (unit_named text.units x.name)
  ]

  pub instance_by : (x : Identifier) (k : Option StandardBlock) (b : BlockType) → type_named text.types x.name ≡ None
      → block_of x.name ≡ k → block_by x k ≡ Some b → instance_of text (types.Simple (Named x)) ≡ Some b
  instance_by x k b h e g =
      ap (λ d. if is_none d then block_type_named text x.name else None) h ∙ ap (block_by x) e ∙ g

  output_by : (x : Identifier) (y : Name) (u : VariableType) (k : Option StandardBlock) → block_of x.name ≡ k
      → block_variable text outputs_of is_output (types.Simple (Named x)) y ≡ Some u
      → (b : BlockType) × (block_by x k ≡ Some b) × Declares (site_named b.members y) u
  output_by x y u (Some k) e h =
      let g : option_map elementary (member_kind (outputs_of k) y) ≡ Some u = rw e at h in
      standard (member_kind (outputs_of k) y) refl g
    where
      standard : (o : Option Kind) → member_kind (outputs_of k) y ≡ o → option_map elementary o ≡ Some u
          → (b : BlockType) × (block_by x (Some k) ≡ Some b) × Declares (site_named b.members y) u
      standard None q g = absurd (cc)
      standard (Some l) q g =
          let d = output_declared k y l q in (
            record { name = x.name; members = map site_of_member (members_of k) },
            refl,
            record { site = d.site; is = d.is; declared = d.declared ∙ some_is g },
          )
  output_by x y u None e h =
      let g : variable_of_block text is_output x.name y ≡ Some u = rw e at h in
      own_output (unit_named text.units x.name) (λ v q. found_unit text.units units_once x.name v q) y u g

  pub member_part : (t : VariableType) (y : Name) (u : VariableType)
      → member_type text t y (definition_of text t) ≡ Some u → IsPart text t y u
  member_part (types.Array a) y u h = absurd (cc)
  member_part (types.Simple (Elementary k at)) y u h = absurd (cc)
  member_part (types.Simple (Named x)) y u h = by_definition (type_named text.types x.name) refl h
    where
      by_definition : (d : Option TypeDefinition) → type_named text.types x.name ≡ d
          → member_type text (types.Simple (Named x)) y d ≡ Some u → IsPart text (types.Simple (Named x)) y u
      by_definition (Some (declarations.array a)) e g = absurd (cc)
      by_definition (Some (declarations.enumeration names)) e g = absurd (cc)
      by_definition (Some (declarations.structure fields)) e g =
          let f = field_declared fields y u g in
          record {
            whole = of_structure;
            sites = map site_of_field fields;
            own = f.site;
            composition = made x (declarations.structure fields) e refl;
            named = f.is;
            declared = f.declared;
          }
      by_definition None e g =
          let o = output_by x y u (block_of x.name) refl g in
          record {
            whole = of_instance;
            sites = o.0.members;
            own = o.2.site;
            composition = instance_made text (types.Simple (Named x)) o.0
                (instance_by x (block_of x.name) o.0 e refl o.1);
            named = o.2.is;
            declared = o.2.declared;
          }

  pub element_part : (t u : VariableType) → element_type (definition_of text t) ≡ Some u → IsArray text t u
  element_part (types.Array a) u h = record { array = a; composition = refl; element = some_is h }
  element_part (types.Simple (Elementary k at)) u h = absurd (cc)
  element_part (types.Simple (Named x)) u h = by_definition (type_named text.types x.name) refl h
    where
      by_definition : (d : Option TypeDefinition) → type_named text.types x.name ≡ d → element_type d ≡ Some u
          → IsArray text (types.Simple (Named x)) u
      by_definition None e g = absurd (cc)
      by_definition (Some (declarations.structure fields)) e g = absurd (cc)
      by_definition (Some (declarations.enumeration names)) e g = absurd (cc)
      by_definition (Some (declarations.array a)) e g =
          record { array = a; composition = made x (declarations.array a) e refl; element = some_is g }
