-- The elementary parts of a type of plain declarations have paths of words.
use Rattle.std.proofs.Common.{◌≡◌, refl, sym, ap, ◌∙◌, ℕ, suc, zero, ◌-◌, ◌^◌, ◌<◌, ℤ, pos, negsuc, ◌+ℤ◌, ◌-ℤ◌}
use Rattle.std.proofs.Common.{unsigned_abs, Bool, true, false, ◌&&◌, if◌then◌else◌, List, [], ◌∷◌, ◌++◌, map, Option}
use Rattle.std.proofs.Common.{Some, None, option_map, arith}
use Rattle.std.specs.Prelude.{◌≤ℤ◌, neg_ℤ, is_none}
use Rattle.std.specs.List.{list_all}
use Rattle.std.proofs.lemmas.Int.{ints}
use Rattle.std.proofs.lemmas.Bool.{ltb-true, lt-ltb, and_parts, and_from}
use Rattle.std.proofs.lemmas.List.Folds.{list_all-append, list_all-map}
use Rattle.st_types.specs.declared.identifier.Identifier.{Identifier}
use Rattle.st_types.specs.declared.kind.Kind.{Kind}
use Rattle.st_types.specs.declared.literal.Number.{Number}
use Rattle.st_types.specs.declared.path.Step.{Step}
use Rattle.st_types.specs.declared.path.Step.TheVariants.{Member, Element}
use Rattle.st_types.specs.UpperNames.{is_upper_name}
use Rattle.st_types.specs.declared.data_type.ArrayType.{ArrayType}
use Rattle.st_types.specs.declared.data_type.SimpleType.TheVariants.{Elementary, Named}
use Rattle.st_types.specs.declared.data_type.VariableType.{VariableType}
use Rattle.st_types.specs.declared.data_type.VariableType.TheVariants as types
use Rattle.st_types.specs.declared.declaration.Retention.{Retention}
use Rattle.st_types.specs.declared.unit.UnitSort.{UnitSort}
use Rattle.st_types.specs.declared.unit.UnitSort.TheVariants.{Function, FunctionBlock, Program}
use Rattle.st_types.specs.Declarations as declarations
use Rattle.st_types.specs.Declarations.{Field, TypeDefinition, TypeDeclaration, Declaration, VariableBlock}
use Rattle.st_types.specs.Units.{OrganisationUnit}
use Rattle.st_meaning.specs.Bodies.{is_external}
use Rattle.st_meaning.specs.Enumerations.{Enumeration, enumerations_of, enumeration_named, kind_of_enumeration}
use Rattle.st_meaning.specs.NameTypes.{Declared, is_named, type_named, unit_named, definition_of, kind_among}
use Rattle.st_meaning.specs.Operators.{natural, number_of}
use Rattle.st_meaning.specs.Scopes.{Name}
use Rattle.st_meaning.specs.StandardBlocks as standard
use Rattle.st_meaning.specs.StandardBlocks.{StandardBlock, block_of, members_of}
use Rattle.st_rules.specs.TypeRules.{elements_of_array}
use Rattle.layout.specs.Shapes.{Shape, Leaf, below, leaves_of_elements, leaves_of, leaves_of_parts}
use Rattle.layout.specs.Types.{Site, NamedSite, with_site, site_of_declaration, sites_of_declarations}
use Rattle.layout.specs.Types.{retention_of, sites_of_blocks, site_of_field, site_of_member, block_type_of}
use Rattle.layout.specs.Types.{own_block_type, block_type_named, instance_of, Composition, of_kind, of_elements}
use Rattle.layout.specs.Types.{of_parts, instance_parts, defined_composition, composition_of, lower_of}
use Rattle.layout.specs.Types.{element_of, parts_of, composed_shape, shape_within}
use Rattle.config.specs.PlainDeclarations.{is_short, is_type_word, is_plain_number, is_elementary, is_word}
use Rattle.config.specs.PlainDeclarations.{is_plain_simple, is_plain_array}
use Rattle.config.specs.PlainDeclarations.{is_plain_type, is_plain_field, is_plain_definition}
use Rattle.config.specs.PlainDeclarations.{is_plain_type_declaration, is_plain_declaration, is_plain_block}
use Rattle.config.specs.PlainDeclarations.{is_plain_unit}
use Rattle.config.specs.WordPaths.{is_word_step}

-- declared things
abbrev pub is_plain_site : NamedSite → Bool
is_plain_site d = is_upper_name d.name && is_plain_type d.site.declared

sites_named : (s : Site) (xs : List Identifier) → list_all is_word xs ≡ true → is_plain_type s.declared ≡ true
    → list_all is_plain_site (map (with_site s) xs) ≡ true
sites_named s [] h g = refl
sites_named s (x ∷ xs) h g =
    let b = and_parts (is_word x) (list_all is_word xs) h in
    and_from (is_plain_site (with_site s x)) (list_all is_plain_site (map (with_site s) xs))
    (and_from (is_upper_name x.name) (is_plain_type s.declared) b.0 g) (sites_named s xs b.1 g)

sites_declared : (keep : Option Retention) (ds : List Declaration) → list_all is_plain_declaration ds ≡ true
    → list_all is_plain_site (sites_of_declarations keep ds) ≡ true
sites_declared keep [] h = refl
sites_declared keep (d ∷ ds) h =
    let b = and_parts (is_plain_declaration d) (list_all is_plain_declaration ds) h in
    let c = and_parts (list_all is_word d.names) (is_plain_type d.declared) b.0 in
    let here = map (with_site (site_of_declaration keep d)) d.names in
    list_all-append is_plain_site here (sites_of_declarations keep ds)
    ∙ and_from (list_all is_plain_site here) (list_all is_plain_site (sites_of_declarations keep ds))
    (sites_named (site_of_declaration keep d) d.names c.0 c.1) (sites_declared keep ds b.1)

pub sites_plain : (bs : List VariableBlock) → list_all is_plain_block bs ≡ true
    → list_all is_plain_site (sites_of_blocks bs) ≡ true
sites_plain [] h = refl
sites_plain (b ∷ bs) h =
    let c = and_parts (is_plain_block b) (list_all is_plain_block bs) h in
    by_section (is_external b.section) c.0 (sites_plain bs c.1)
  where
    by_section : (external : Bool) → is_plain_block b ≡ true → list_all is_plain_site (sites_of_blocks bs) ≡ true
        → list_all is_plain_site (if external then sites_of_blocks bs
        else sites_of_declarations (retention_of b.section) b.declarations ++ sites_of_blocks bs) ≡ true
    by_section true here rest = rest
    by_section false here rest =
        let own = sites_of_declarations (retention_of b.section) b.declarations in
        list_all-append is_plain_site own (sites_of_blocks bs)
        ∙ and_from (list_all is_plain_site own) (list_all is_plain_site (sites_of_blocks bs))
        (sites_declared (retention_of b.section) b.declarations here) rest

fields_plain : (fields : List Field) → list_all is_plain_field fields ≡ true
    → list_all is_plain_site (map site_of_field fields) ≡ true
fields_plain fields h = list_all-map is_plain_site site_of_field fields ∙ h

members_plain : (b : StandardBlock) → list_all is_plain_site (map site_of_member (members_of b)) ≡ true
members_plain standard.SR = refl
members_plain standard.RS = refl
members_plain standard.R_TRIG = refl
members_plain standard.F_TRIG = refl
members_plain standard.CTU = refl
members_plain standard.CTD = refl
members_plain standard.CTUD = refl
members_plain standard.TON = refl
members_plain standard.TOF = refl
members_plain standard.TP = refl

-- a composition of plain parts, whose type is good
abbrev IsPlainComposition : (Kind → Bool) → Composition → Type 0
IsPlainComposition good (of_kind k) = good k ≡ true
IsPlainComposition good (of_elements a) = is_plain_array a ≡ true
IsPlainComposition good (of_parts w ds) = list_all is_plain_site ds ≡ true

-- the part that is found by a name
type_found : (ts : List TypeDeclaration) (x : Name) (t : TypeDefinition) → list_all is_plain_type_declaration ts ≡ true
    → type_named ts x ≡ Some t → is_plain_definition t ≡ true
type_found [] x t h e = absurd (cc)
type_found (d ∷ ds) x t h e =
    let b = and_parts (is_plain_type_declaration d) (list_all is_plain_type_declaration ds) h in
    by_test (is_named x d.name) e (and_parts (is_word d.name) (is_plain_definition d.definition) b.0).1
    (type_found ds x t b.1)
  where
    by_test : (b : Bool) → (if b then Some d.definition else type_named ds x) ≡ Some t
        → is_plain_definition d.definition ≡ true → (type_named ds x ≡ Some t → is_plain_definition t ≡ true)
        → is_plain_definition t ≡ true
    by_test true e here rest = let s : d.definition ≡ t = cc in ap is_plain_definition (sym s) ∙ here
    by_test false e here rest = rest e

pub unit_found : (us : List OrganisationUnit) (x : Name) (u : OrganisationUnit) → list_all is_plain_unit us ≡ true
    → unit_named us x ≡ Some u → list_all is_plain_block u.blocks ≡ true
unit_found [] x u h e = absurd (cc)
unit_found (v ∷ vs) x u h e =
    let b = and_parts (is_plain_unit v) (list_all is_plain_unit vs) h in
    by_test (is_named x v.name) e (and_parts (is_word v.name) (list_all is_plain_block v.blocks) b.0).1
    (unit_found vs x u b.1)
  where
    by_test : (b : Bool) → (if b then Some v else unit_named vs x) ≡ Some u
        → list_all is_plain_block v.blocks ≡ true
        → (unit_named vs x ≡ Some u → list_all is_plain_block u.blocks ≡ true) → list_all is_plain_block u.blocks ≡ true
    by_test true e here rest = let s : v ≡ u = cc in ap (λ w. list_all is_plain_block w.blocks) (sym s) ∙ here
    by_test false e here rest = rest e

-- subscripts
short_between : (z : ℤ) → neg_ℤ (pos (2 ^ 64 - 1)) ≤ℤ z → z ≤ℤ pos (2 ^ 64 - 1) → is_short (unsigned_abs z) ≡ true
short_between z low high = lt-ltb (unsigned_abs z) (2 ^ 64) (by_sign z low high)
  where
    by_sign : (y : ℤ) → neg_ℤ (pos (2 ^ 64 - 1)) ≤ℤ y → y ≤ℤ pos (2 ^ 64 - 1) → unsigned_abs y < 2 ^ 64
    by_sign (pos n) low high = omega (arith, ints)
    by_sign (negsuc n) low high = omega (arith, ints)

record IsBound (z : ℤ) : Type 0 where
  low : neg_ℤ (pos (2 ^ 64 - 1)) ≤ℤ z
  high : z ≤ℤ pos (2 ^ 64 - 1)

bound_is : (n : Number) → is_plain_number n ≡ true → IsBound (number_of n)
bound_is n h =
    by_sign n.is_negative (ltb-true n.magnitude (2 ^ 64) (and_parts (is_short n.magnitude) (is_type_word n.written) h).0)
  where
    by_sign : (b : Bool) → n.magnitude < 2 ^ 64 → IsBound (if b then neg_ℤ (pos n.magnitude) else pos n.magnitude)
    by_sign true small = record { low = omega (arith, ints); high = omega (arith, ints) }
    by_sign false small = record { low = omega (arith, ints); high = omega (arith, ints) }

ends_low : (y z w : ℤ) → IsBound y → IsBound z → ((z -ℤ y) +ℤ pos 1) ≡ w
    → (y +ℤ pos (natural w)) ≤ℤ pos (2 ^ 64)
ends_low y z (pos n) a b e = let c = a.high in let d = b.high in omega (arith, ints)
ends_low y z (negsuc n) a b e = let c = a.high in let d = b.high in omega (arith, ints)

module _ (good : Kind → Bool) where
  -- an elementary part whose names are words and whose type is good
  abbrev pub is_plain_leaf : Leaf → Bool
  is_plain_leaf l = list_all is_word_step l.steps && good l.kind

  below_plain : (x : Step) (ls : List Leaf) → is_word_step x ≡ true → list_all is_plain_leaf ls ≡ true
      → list_all is_plain_leaf (map (below x) ls) ≡ true
  below_plain x [] h g = refl
  below_plain x (l ∷ ls) h g =
      let b = and_parts (is_plain_leaf l) (list_all is_plain_leaf ls) g in
      let c = and_parts (list_all is_word_step l.steps) (good l.kind) b.0 in
      and_from (is_plain_leaf (below x l)) (list_all is_plain_leaf (map (below x) ls))
      (and_from (is_word_step x && list_all is_word_step l.steps) (good l.kind)
      (and_from (is_word_step x) (list_all is_word_step l.steps) h c.0) c.1)
      (below_plain x ls h b.1)

  elements_plain : (z : ℤ) (n : ℕ) (inner : List Leaf) → neg_ℤ (pos (2 ^ 64 - 1)) ≤ℤ z
      → (z +ℤ pos n) ≤ℤ pos (2 ^ 64) → list_all is_plain_leaf inner ≡ true
      → list_all is_plain_leaf (leaves_of_elements z n inner) ≡ true
  elements_plain z zero inner low high h = refl
  elements_plain z (suc n) inner low high h =
      let here = map (below (Element z)) inner in
      let rest = leaves_of_elements (z +ℤ pos 1) n inner in
      list_all-append is_plain_leaf here rest
      ∙ and_from (list_all is_plain_leaf here) (list_all is_plain_leaf rest)
      (below_plain (Element z) inner (short_between z low (omega (arith, ints))) h)
      (elements_plain (z +ℤ pos 1) n inner (omega (arith, ints)) (omega (arith, ints)) h)

  array_plain : (a : ArrayType) (inner : List Leaf) → is_plain_array a ≡ true → list_all is_plain_leaf inner ≡ true
      → list_all is_plain_leaf (leaves_of_elements (lower_of a) (elements_of_array a) inner) ≡ true
  array_plain a inner h g =
      let b = and_parts (is_plain_number a.lower && is_plain_number a.upper) (is_plain_simple a.element) h in
      let c = and_parts (is_plain_number a.lower) (is_plain_number a.upper) b.0 in
      let lower = bound_is a.lower c.0 in
      elements_plain (lower_of a) (elements_of_array a) inner lower.low
      (ends_low (lower_of a) (number_of a.upper) ((number_of a.upper -ℤ lower_of a) +ℤ pos 1) lower
      (bound_is a.upper c.1) refl) g

  module _ (inner : VariableType → Shape)
      (ih : (t : VariableType) → is_plain_type t ≡ true → list_all is_plain_leaf (leaves_of (inner t)) ≡ true) where
    parts_plain : (ds : List NamedSite) → list_all is_plain_site ds ≡ true
        → list_all is_plain_leaf (leaves_of_parts (parts_of inner ds)) ≡ true
    parts_plain [] h = refl
    parts_plain (d ∷ ds) h =
        let b = and_parts (is_plain_site d) (list_all is_plain_site ds) h in
        let c = and_parts (is_upper_name d.name) (is_plain_type d.site.declared) b.0 in
        let here = map (below (Member d.name)) (leaves_of (inner d.site.declared)) in
        let rest = leaves_of_parts (parts_of inner ds) in
        list_all-append is_plain_leaf here rest
        ∙ and_from (list_all is_plain_leaf here) (list_all is_plain_leaf rest)
        (below_plain (Member d.name) (leaves_of (inner d.site.declared)) c.0 (ih d.site.declared c.1))
        (parts_plain ds b.1)

    composition_shaped : (c : Composition) → IsPlainComposition good c
        → list_all is_plain_leaf (leaves_of (composed_shape inner c)) ≡ true
    composition_shaped (of_kind k) h = and_from (good k) true h refl
    composition_shaped (of_elements a) h = array_plain a (leaves_of (inner (element_of a))) h
        (ih (element_of a) (and_parts (is_plain_number a.lower && is_plain_number a.upper)
        (is_plain_simple a.element) h).1)
    composition_shaped (of_parts w ds) h = parts_plain ds h

module _ (good : Kind → Bool) (text : Declared) (types_are : list_all is_plain_type_declaration text.types ≡ true)
    (units_are : list_all is_plain_unit text.units ≡ true)
    (elementary_good : (k : Kind) → is_elementary k ≡ true → good k ≡ true)
    (enumerated_good : (x : Name) (e : Enumeration) → enumeration_named (enumerations_of text.types) x ≡ Some e
    → good (kind_of_enumeration e) ≡ true) where
  kind_good : (t : VariableType) (k : Kind) → is_plain_type t ≡ true → kind_among text.types t ≡ Some k
      → good k ≡ true
  kind_good (types.Array a) k h e = absurd (cc)
  kind_good (types.Simple (Elementary l at)) k h e =
      let s : l ≡ k = cc in ap good (sym s) ∙ elementary_good l h
  kind_good (types.Simple (Named x)) k h e =
      by_option (enumeration_named (enumerations_of text.types) x.name) refl e
    where
      by_option : (o : Option Enumeration) → enumeration_named (enumerations_of text.types) x.name ≡ o
          → option_map kind_of_enumeration o ≡ Some k → good k ≡ true
      by_option None is e = absurd (cc)
      by_option (Some f) is e =
          let s : kind_of_enumeration f ≡ k = cc in ap good (sym s) ∙ enumerated_good x.name f is

  own_plain : (o : Option OrganisationUnit)
      → ((u : OrganisationUnit) → o ≡ Some u → list_all is_plain_block u.blocks ≡ true)
      → IsPlainComposition good (instance_parts (own_block_type o))
  own_plain None h = refl
  own_plain (Some u) h = by_sort u.sort (h u refl)
    where
      by_sort : (s : UnitSort) → list_all is_plain_block u.blocks ≡ true
          → IsPlainComposition good (instance_parts (block_type_of s u))
      by_sort FunctionBlock g = sites_plain u.blocks g
      by_sort (Function t) g = refl
      by_sort Program g = refl

  block_plain : (x : Name) → IsPlainComposition good (instance_parts (block_type_named text x))
  block_plain x = by_block (block_of x)
    where
      by_block : (o : Option StandardBlock) → IsPlainComposition good (instance_parts (elim o [
        | Some b ↦ Some (record { name = x; members = map site_of_member (members_of b) })
        | None ↦ own_block_type (unit_named text.units x)
      ]))
      by_block (Some b) = members_plain b
      by_block None = own_plain (unit_named text.units x) (λ u e. unit_found text.units x u units_are e)

  instance_plain : (t : VariableType) → IsPlainComposition good (instance_parts (instance_of text t))
  instance_plain (types.Simple (Elementary k at)) = refl
  instance_plain (types.Array a) = refl
  instance_plain (types.Simple (Named x)) = by_test (is_none (type_named text.types x.name))
    where
      by_test : (b : Bool)
          → IsPlainComposition good (instance_parts (if b then block_type_named text x.name else None))
      by_test true = block_plain x.name
      by_test false = refl

  definition_plain : (t : VariableType) (d : TypeDefinition) → is_plain_type t ≡ true
      → definition_of text t ≡ Some d → is_plain_definition d ≡ true
  definition_plain (types.Array a) d h e = let s : declarations.array a ≡ d = cc in ap is_plain_definition (sym s) ∙ h
  definition_plain (types.Simple (Elementary k at)) d h e = absurd (cc)
  definition_plain (types.Simple (Named x)) d h e = type_found text.types x.name d types_are e

  defined_plain : (t : VariableType) (o : Option TypeDefinition) → definition_of text t ≡ o → is_plain_type t ≡ true
      → IsPlainComposition good (defined_composition text t o)
  defined_plain t (Some (declarations.array a)) e h = definition_plain t (declarations.array a) h e
  defined_plain t (Some (declarations.structure fields)) e h =
      fields_plain fields (definition_plain t (declarations.structure fields) h e)
  defined_plain t (Some (declarations.enumeration names)) e h = refl
  defined_plain t None e h = instance_plain t

  composition_plain : (t : VariableType) → is_plain_type t ≡ true → IsPlainComposition good (composition_of text t)
  composition_plain t h = by_kind (kind_among text.types t) refl
    where
      by_kind : (o : Option Kind) → kind_among text.types t ≡ o → IsPlainComposition good (elim o
          [ Some k ↦ of_kind k | None ↦ defined_composition text t (definition_of text t) ])
      by_kind (Some k) e = kind_good t k h e
      by_kind None e = defined_plain t (definition_of text t) refl h

  pub leaves_plain : (n : ℕ) (t : VariableType) → is_plain_type t ≡ true
      → list_all (is_plain_leaf good) (leaves_of (shape_within n text t)) ≡ true
  unfolding shape_within
  leaves_plain zero t h = refl
  leaves_plain (suc n) t h =
      composition_shaped good (shape_within n text) (leaves_plain n) (composition_of text t) (composition_plain t h)
