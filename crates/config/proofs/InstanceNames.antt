-- The blocks of a unit's instances, by the names of the instances.
use Rattle.std.proofs.Common.{◌≡◌, refl, sym, ap, subst, ◌∙◌, Bool, true, false, if◌then◌else◌, List, [], ◌∷◌}
use Rattle.std.proofs.Common.{◌++◌, map, Option, Some, None, inl, inr}
use Rattle.std.specs.Prelude.{bytes_eq, is_none, not}
use Rattle.std.specs.List.{flat_map}
use Rattle.st_types.specs.declared.identifier.Identifier.{Identifier}
use Rattle.st_types.specs.declared.data_type.SimpleType.TheVariants.{Named}
use Rattle.st_types.specs.declared.data_type.VariableType.{VariableType}
use Rattle.st_types.specs.declared.data_type.VariableType.TheVariants as types
use Rattle.st_types.specs.declared.unit.UnitSort.{UnitSort}
use Rattle.st_types.specs.declared.unit.UnitSort.TheVariants as sorts
use Rattle.st_types.specs.Declarations.{Declaration, VariableBlock}
use Rattle.st_types.specs.Units.{OrganisationUnit}
use Rattle.st_meaning.specs.Bodies.{is_external}
use Rattle.st_meaning.specs.NameTypes.{Declared, type_named, unit_named}
use Rattle.st_meaning.specs.ResolvedUnits.{resolved_block, resolved_declaration, resolved_type}
use Rattle.st_meaning.specs.Scopes.{Name, block_named, contains_name}
use Rattle.st_meaning.specs.StandardBlocks.{StandardBlock, block_of, members_of}
use Rattle.st_rules.specs.Containment.{part_of_type, parts_of_block}
use Rattle.layout.specs.Libraries.{instance_then, instances_among}
use Rattle.layout.specs.Names.{are_different, names_of_sites}
use Rattle.layout.specs.Types.{BlockType, NamedSite, block_type_named}
use Rattle.layout.specs.Types.{block_type_of, instance_of, own_block_type}
use Rattle.layout.specs.Types.{site_of_member}
use Rattle.layout.proofs.ListLemmas.{same_name}
use Rattle.st_link.proofs.Among.{Among, here, later, in_front, in_back, in_either}
use Rattle.st_link.proofs.FoundNames.{unit_found}
use Rattle.st_link.specs.LinkVariables.{LinkVariable, named_so, of_site, link_variables, variables_of_blocks}
use Rattle.st_link.specs.CalledFunctions.{type_among}
use Rattle.config.proofs.LinkedCalls.{first_or, none_among}
use Rattle.std.proofs.lemmas.Bool.{or_parts, and_parts}
use Rattle.st_types.proofs.OptionLemmas.{some_is}
use Rattle.st_types.proofs.TestLemmas.{false_from_not}

-- the elements of the images of a list
pub record IsImage {A B : Type 0} (f : A → B) (b : B) (xs : List A) : Type 0 where
  pub element : A
  pub among : Among element xs
  pub is : f element ≡ b

pub of_map : {A B : Type 0} (f : A → B) (b : B) (xs : List A) → Among b (map f xs) → IsImage f b xs
of_map f b [] a = none_among a
of_map f b (x ∷ xs) a = elim (first_or a) [
  | inl same ↦ record { element = x; among = here; is = sym same }
  | inr k ↦ let i = of_map f b xs k in record { element = i.element; among = later i.among; is = i.is }
]

-- the elements of the lists of a list's elements
pub record IsInFlat {A B : Type 0} (f : A → List B) (b : B) (xs : List A) : Type 0 where
  pub element : A
  pub among : Among element xs
  pub inside : Among b (f element)

pub of_flat : {A B : Type 0} (f : A → List B) (b : B) (xs : List A) → Among b (flat_map f xs) → IsInFlat f b xs
of_flat f b [] a = none_among a
of_flat f b (x ∷ xs) a = elim (in_either (f x) (flat_map f xs) a) [
  | inl k ↦ record { element = x; among = here; inside = k }
  | inr k ↦ let i = of_flat f b xs k in record { element = i.element; among = later i.among; inside = i.inside }
]

-- the variable of a name
record HasType (vs : List LinkVariable) (t : VariableType) : Type 0 where
  variable : LinkVariable
  among : Among variable vs
  declared : variable.declared ≡ t

type_there : (vs : List LinkVariable) (x : Name) (t : VariableType) → type_among vs x ≡ Some t → HasType vs t
type_there [] x t h = absurd (cc)
type_there (v ∷ vs) x t h = by_name (bytes_eq x v.name) (type_there vs x t) h
  where
    by_name : (b : Bool) → (type_among vs x ≡ Some t → HasType vs t)
        → (if b then Some v.declared else type_among vs x) ≡ Some t → HasType (v ∷ vs) t
    by_name true rest is = record { variable = v; among = here; declared = some_is is }
    by_name false rest is =
        let r = rest is in record { variable = r.variable; among = later r.among; declared = r.declared }

same_part : (t : VariableType) → part_of_type (resolved_type t) ≡ part_of_type t
same_part (types.Simple t) = refl
same_part (types.Array a) = refl

module _ (text : Declared) where
  declared_part : (ds : List Declaration) (v : LinkVariable)
      → Among v (link_variables (map (resolved_declaration text) ds))
      → Among (part_of_type v.declared) (map (λ d. part_of_type d.declared) ds)
  declared_part [] v a = none_among a
  declared_part (d ∷ ds) v a =
      elim (in_either (map (named_so (resolved_type d.declared)) d.names)
      (link_variables (map (resolved_declaration text) ds)) a) [
        | inl k ↦
            let i = of_map (named_so (resolved_type d.declared)) v d.names k in
            let same : part_of_type d.declared ≡ part_of_type v.declared =
            sym (same_part d.declared) ∙ ap (λ (w : LinkVariable). part_of_type w.declared) i.is in
            subst (λ p. Among p (map (λ (e : Declaration). part_of_type e.declared) (d ∷ ds))) same here
        | inr k ↦ later (declared_part ds v k)
      ]

  -- each variable of a unit is a part of it
  variable_part : (bs : List VariableBlock) (v : LinkVariable)
      → Among v (variables_of_blocks (map (resolved_block text) bs))
      → Among (part_of_type v.declared) (flat_map parts_of_block bs)
  variable_part [] v a = none_among a
  variable_part (b ∷ bs) v a = by_section (is_external b.section) a (variable_part bs v)
    where
      by_section : (e : Bool) → Among v (if e then variables_of_blocks (map (resolved_block text) bs)
          else link_variables (map (resolved_declaration text) b.declarations)
          ++ variables_of_blocks (map (resolved_block text) bs))
          → (Among v (variables_of_blocks (map (resolved_block text) bs))
          → Among (part_of_type v.declared) (flat_map parts_of_block bs))
          → Among (part_of_type v.declared)
          ((if e then [] else map (λ d. part_of_type d.declared) b.declarations) ++ flat_map parts_of_block bs)
      by_section true k rest = rest k
      by_section false k rest =
          elim (in_either (link_variables (map (resolved_declaration text) b.declarations))
          (variables_of_blocks (map (resolved_block text) bs)) k) [
            | inl own ↦ in_front (flat_map parts_of_block bs) (declared_part b.declarations v own)
            | inr other ↦ in_back (map (λ (d : Declaration). part_of_type d.declared) b.declarations) (rest other)
          ]

  pub type_part : (bs : List VariableBlock) (x : Name) (t : VariableType)
      → type_among (variables_of_blocks (map (resolved_block text) bs)) x ≡ Some t
      → Among (part_of_type t) (flat_map parts_of_block bs)
  type_part bs x t h =
      let v = type_there (variables_of_blocks (map (resolved_block text) bs)) x t h in
      subst (λ s. Among (part_of_type s) (flat_map parts_of_block bs)) v.declared
      (variable_part bs v.variable v.among)

-- a name that no site has isn't that of an instance
not_named : (text : Declared) (ds : List NamedSite) (x c : Name) → contains_name (names_of_sites ds) x ≡ false
    → block_named (instances_among text ds) x ≡ Some c → ⊥
not_named text [] x c absent h = absurd (cc)
not_named text (d ∷ ds) x c absent h =
    let a = or_parts (bytes_eq x d.name) (contains_name (names_of_sites ds) x) absent in
    by_block a.0 (instance_of text d.site.declared) (not_named text ds x c a.1) h
  where
    by_block : bytes_eq x d.name ≡ false → (o : Option BlockType)
        → (block_named (instances_among text ds) x ≡ Some c → ⊥)
        → block_named (instance_then d.name o (instances_among text ds)) x ≡ Some c → ⊥
    by_block other None rest k = rest k
    by_block other (Some b) rest k =
        rest (sym (ap (λ (t : Bool). if t then Some b.name else block_named (instances_among text ds) x) other) ∙ k)

-- the first variable of an instance's name has the instance's block
pub instance_is : (text : Declared) (ds : List NamedSite) (x c : Name) (t : VariableType)
    → are_different (names_of_sites ds) ≡ true → type_among (map of_site ds) x ≡ Some t
    → block_named (instances_among text ds) x ≡ Some c
    → (b : BlockType) × (instance_of text t ≡ Some b) × (b.name ≡ c)
instance_is text [] x c t differ h k = absurd (cc)
instance_is text (d ∷ ds) x c t differ h k =
    by_name (bytes_eq x d.name) refl h (λ g. instance_is text ds x c t apart.1 g)
  where
    apart : (not (contains_name (names_of_sites ds) d.name) ≡ true) × (are_different (names_of_sites ds) ≡ true)
    apart = and_parts (not (contains_name (names_of_sites ds) d.name)) (are_different (names_of_sites ds)) differ

    by_block : bytes_eq x d.name ≡ true → (o : Option BlockType) → instance_of text d.site.declared ≡ o
        → block_named (instance_then d.name o (instances_among text ds)) x ≡ Some c
        → (b : BlockType) × (instance_of text d.site.declared ≡ Some b) × (b.name ≡ c)
    by_block named None is g =
        let free : contains_name (names_of_sites ds) x ≡ false =
        subst (λ y. contains_name (names_of_sites ds) y ≡ false) (sym (same_name x d.name named))
        (false_from_not (contains_name (names_of_sites ds) d.name) apart.0) in
        absurd (not_named text ds x c free g)
    by_block named (Some b) is g = (
      b,
      is,
      some_is (sym (ap (λ (t : Bool). if t then Some b.name else block_named (instances_among text ds) x)
          named) ∙ g),
    )

    later_block : bytes_eq x d.name ≡ false → (o : Option BlockType)
        → block_named (instance_then d.name o (instances_among text ds)) x ≡ Some c
        → block_named (instances_among text ds) x ≡ Some c
    later_block other None g = g
    later_block other (Some b) g =
        sym (ap (λ (t : Bool). if t then Some b.name else block_named (instances_among text ds) x) other) ∙ g

    by_name : (e : Bool) → bytes_eq x d.name ≡ e
        → (if e then Some d.site.declared else type_among (map of_site ds) x) ≡ Some t
        → (type_among (map of_site ds) x ≡ Some t → block_named (instances_among text ds) x ≡ Some c
        → (b : BlockType) × (instance_of text t ≡ Some b) × (b.name ≡ c))
        → (b : BlockType) × (instance_of text t ≡ Some b) × (b.name ≡ c)
    by_name true named g rest =
        subst (λ s. (b : BlockType) × (instance_of text s ≡ Some b) × (b.name ≡ c)) (some_is g)
        (by_block named (instance_of text d.site.declared) refl k)
    by_name false other g rest =
        rest g (later_block other (instance_of text d.site.declared) k)

-- and so the name of the instance's type
pub block_is : (text : Declared) (b : Identifier) (k : BlockType) → instance_of text (types.Simple (Named b)) ≡ Some k
    → k.name ≡ b.name
block_is text b k h = by_type (is_none (type_named text.types b.name)) h
  where
    by_unit : (u : OrganisationUnit) → unit_named text.units b.name ≡ Some u → (s : UnitSort)
        → block_type_of s u ≡ Some k → k.name ≡ b.name
    by_unit u is sorts.FunctionBlock g =
        ap (λ (j : BlockType). j.name) (sym (some_is g))
        ∙ sym (same_name b.name u.name.name (unit_found text.units b.name u is).named)
    by_unit u is (sorts.Function t) g = absurd (cc)
    by_unit u is sorts.Program g = absurd (cc)

    by_own : (o : Option OrganisationUnit) → unit_named text.units b.name ≡ o → own_block_type o ≡ Some k
        → k.name ≡ b.name
    by_own None is g = absurd (cc)
    by_own (Some u) is g = by_unit u is u.sort g

    by_block : (o : Option StandardBlock) → elim o [
      | Some s ↦ Some (record { name = b.name; members = map site_of_member (members_of s) })
      | None ↦ own_block_type (unit_named text.units b.name)
    ] ≡ Some k → k.name ≡ b.name
    by_block (Some s) g = ap (λ (j : BlockType). j.name) (sym (some_is g))
    by_block None g = by_own (unit_named text.units b.name) refl g

    by_type : (n : Bool) → (if n then block_type_named text b.name else None) ≡ Some k → k.name ≡ b.name
    by_type true g = by_block (block_of b.name) g
    by_type false g = absurd (cc)
