-- An entry of a text under a name is in it.
use Rattle.std.proofs.Common.{◌≡◌, refl, subst, ◌⊎◌, inl, inr, Bool, true, false, if◌then◌else◌, List, []}
use Rattle.std.proofs.Common.{◌∷◌, Option, Some, None}
use Rattle.std.specs.List.{list_any}
use Rattle.st_types.specs.declared.data_type.VariableType.{VariableType}
use Rattle.st_types.specs.declared.declaration.Section.{Section}
use Rattle.st_types.specs.Declarations.{Field, TypeDefinition, TypeDeclaration, Declaration, VariableBlock}
use Rattle.st_types.specs.Units.{OrganisationUnit}
use Rattle.st_types.specs.Sources as sources
use Rattle.st_types.specs.Sources.{LibraryElement, Source}
use Rattle.st_meaning.specs.Scopes.{Name}
use Rattle.st_meaning.specs.NameTypes.{types_in, units_in, is_named, type_named, unit_named, type_in, or_type}
use Rattle.st_meaning.specs.NameTypes.{type_in_blocks, field_type, type_in_sections}
use Rattle.st_link.proofs.Among.{Among, here, later, in_either}

-- a unit
pub record FoundUnit (us : List OrganisationUnit) (x : Name) (u : OrganisationUnit) : Type 0 where
  pub among : Among u us
  pub named : is_named x u.name ≡ true

unit_at : (v : OrganisationUnit) (us : List OrganisationUnit) (x : Name) (u : OrganisationUnit) (b : Bool)
    → is_named x v.name ≡ b → (unit_named us x ≡ Some u → FoundUnit us x u)
    → (if b then Some v else unit_named us x) ≡ Some u → FoundUnit (v ∷ us) x u
unit_at v us x u true e f h =
    let is : v ≡ u = cc in
    subst (λ w. FoundUnit (v ∷ us) x w) is (record { among = here; named = e })
unit_at v us x u false e f h = let rest = f h in record { among = later rest.among; named = rest.named }

pub unit_found : (us : List OrganisationUnit) (x : Name) (u : OrganisationUnit) → unit_named us x ≡ Some u
    → FoundUnit us x u
unit_found [] x u h = absurd (cc)
unit_found (v ∷ us) x u h = unit_at v us x u (is_named x v.name) refl (λ k. unit_found us x u k) h

pub unit_in : (source : Source) (u : OrganisationUnit) → Among u (units_in source) → Among (sources.unit u) source
unit_in [] u h = elim h [ ]
unit_in (sources.types ts ∷ rest) u h = later (unit_in rest u h)
unit_in (sources.unit v ∷ rest) u here = here
unit_in (sources.unit v ∷ rest) u (later h) = later (unit_in rest u h)
unit_in (sources.configuration c ∷ rest) u h = later (unit_in rest u h)

-- a type
pub record FoundType (ts : List TypeDeclaration) (x : Name) (d : TypeDefinition) : Type 0 where
  pub declaration : TypeDeclaration
  pub among : Among declaration ts
  pub named : is_named x declaration.name ≡ true
  pub is : declaration.definition ≡ d

type_at : (t : TypeDeclaration) (ts : List TypeDeclaration) (x : Name) (d : TypeDefinition) (b : Bool)
    → is_named x t.name ≡ b → (type_named ts x ≡ Some d → FoundType ts x d)
    → (if b then Some t.definition else type_named ts x) ≡ Some d → FoundType (t ∷ ts) x d
type_at t ts x d true e f h = record { declaration = t; among = here; named = e; is = cc }
type_at t ts x d false e f h =
    let rest = f h in
    record { declaration = rest.declaration; among = later rest.among; named = rest.named; is = rest.is }

pub type_found : (ts : List TypeDeclaration) (x : Name) (d : TypeDefinition) → type_named ts x ≡ Some d
    → FoundType ts x d
type_found [] x d h = absurd (cc)
type_found (t ∷ ts) x d h = type_at t ts x d (is_named x t.name) refl (λ k. type_found ts x d k) h

pub record TypeIn (source : Source) (t : TypeDeclaration) : Type 0 where
  pub block : List TypeDeclaration
  pub there : Among (sources.types block) source
  pub among : Among t block

behind : (e : LibraryElement) (source : Source) (t : TypeDeclaration) → TypeIn source t → TypeIn (e ∷ source) t
behind e source t h = record { block = h.block; there = later h.there; among = h.among }

here_or_behind : (ts : List TypeDeclaration) (rest : Source) (t : TypeDeclaration)
    → (Among t (types_in rest) → TypeIn rest t) → Among t ts ⊎ Among t (types_in rest)
    → TypeIn (sources.types ts ∷ rest) t
here_or_behind ts rest t f (inl h) = record { block = ts; there = here; among = h }
here_or_behind ts rest t f (inr h) = behind (sources.types ts) rest t (f h)

pub type_in_source : (source : Source) (t : TypeDeclaration) → Among t (types_in source) → TypeIn source t
type_in_source [] t h = elim h [ ]
type_in_source (sources.types ts ∷ rest) t h =
    here_or_behind ts rest t (λ k. type_in_source rest t k) (in_either ts (types_in rest) h)
type_in_source (sources.unit u ∷ rest) t h = behind (sources.unit u) rest t (type_in_source rest t h)
type_in_source (sources.configuration c ∷ rest) t h = behind (sources.configuration c) rest t (type_in_source rest t h)

-- a field
pub record FoundField (fs : List Field) (t : VariableType) : Type 0 where
  pub field : Field
  pub among : Among field fs
  pub declared : field.declared ≡ t

field_at : (f : Field) (fs : List Field) (x : Name) (t : VariableType) (b : Bool)
    → (field_type fs x ≡ Some t → FoundField fs t)
    → (if b then Some f.declared else field_type fs x) ≡ Some t → FoundField (f ∷ fs) t
field_at f fs x t true k h = record { field = f; among = here; declared = cc }
field_at f fs x t false k h =
    let rest = k h in record { field = rest.field; among = later rest.among; declared = rest.declared }

pub field_found : (fs : List Field) (x : Name) (t : VariableType) → field_type fs x ≡ Some t → FoundField fs t
field_found [] x t h = absurd (cc)
field_found (f ∷ fs) x t h = field_at f fs x t (is_named x f.name) (λ k. field_found fs x t k) h

-- a declaration of a variable
pub record FoundDeclaration (ds : List Declaration) (t : VariableType) : Type 0 where
  pub declaration : Declaration
  pub among : Among declaration ds
  pub declared : declaration.declared ≡ t

declaration_at : (d : Declaration) (ds : List Declaration) (x : Name) (t : VariableType) (b : Bool)
    → (type_in ds x ≡ Some t → FoundDeclaration ds t) → (if b then Some d.declared else type_in ds x) ≡ Some t
    → FoundDeclaration (d ∷ ds) t
declaration_at d ds x t true k h = record { declaration = d; among = here; declared = cc }
declaration_at d ds x t false k h =
    let rest = k h in record { declaration = rest.declaration; among = later rest.among; declared = rest.declared }

declaration_found : (ds : List Declaration) (x : Name) (t : VariableType) → type_in ds x ≡ Some t
    → FoundDeclaration ds t
declaration_found [] x t h = absurd (cc)
declaration_found (d ∷ ds) x t h =
    declaration_at d ds x t (list_any (is_named x) d.names) (λ k. declaration_found ds x t k) h

pub record FoundVariable (bs : List VariableBlock) (t : VariableType) : Type 0 where
  pub block : VariableBlock
  pub there : Among block bs
  pub found : FoundDeclaration block.declarations t

variable_later : (b : VariableBlock) (bs : List VariableBlock) (t : VariableType) → FoundVariable bs t
    → FoundVariable (b ∷ bs) t
variable_later b bs t h = record { block = h.block; there = later h.there; found = h.found }

variable_at : (b : VariableBlock) (bs : List VariableBlock) (t : VariableType) (o p : Option VariableType)
    → (o ≡ Some t → FoundDeclaration b.declarations t) → (p ≡ Some t → FoundVariable bs t)
    → or_type o p ≡ Some t → FoundVariable (b ∷ bs) t
variable_at b bs t (Some u) p f g h = record { block = b; there = here; found = f h }
variable_at b bs t None p f g h = variable_later b bs t (g h)

pub variable_found : (bs : List VariableBlock) (x : Name) (t : VariableType) → type_in_blocks bs x ≡ Some t
    → FoundVariable bs t
variable_found [] x t h = absurd (cc)
variable_found (b ∷ bs) x t h = variable_at b bs t (type_in b.declarations x) (type_in_blocks bs x)
    (λ k. declaration_found b.declarations x t k) (λ k. variable_found bs x t k) h

in_section : (b : VariableBlock) (bs : List VariableBlock) (x : Name) (t : VariableType) (w : Bool)
    (p : Option VariableType)
    → (p ≡ Some t → FoundVariable bs t) → (if w then or_type (type_in b.declarations x) p else p) ≡ Some t
    → FoundVariable (b ∷ bs) t
in_section b bs x t true p g h =
    variable_at b bs t (type_in b.declarations x) p (λ k. declaration_found b.declarations x t k) g h
in_section b bs x t false p g h = variable_later b bs t (g h)

pub section_found : (wanted : Section → Bool) (bs : List VariableBlock) (x : Name) (t : VariableType)
    → type_in_sections wanted bs x ≡ Some t → FoundVariable bs t
section_found wanted [] x t h = absurd (cc)
section_found wanted (b ∷ bs) x t h =
    in_section b bs x t (wanted b.section) (type_in_sections wanted bs x) (λ k. section_found wanted bs x t k) h
