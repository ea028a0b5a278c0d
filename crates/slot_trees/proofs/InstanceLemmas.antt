-- The instances among a unit's variables: each has the members of its block.
use Rattle.std.proofs.Common.{◌≡◌, ℕ, suc, Bool, true, false, not, if◌then◌else◌, List, [], ◌∷◌, map, Option}
use Rattle.std.proofs.Common.{Some, None, option_map, refl, sym, ap, ap₂, ◌∙◌, subst, arith}
use Rattle.std.specs.Prelude.{bytes_eq, is_none}
use Rattle.std.specs.List.{list_all}
use Rattle.st_types.specs.declared.data_type.SimpleType.TheVariants.{Elementary, Named}
use Rattle.st_types.specs.declared.data_type.VariableType.{VariableType}
use Rattle.st_types.specs.declared.data_type.VariableType.TheVariants as types
use Rattle.st_types.specs.declared.unit.UnitSort.{UnitSort}
use Rattle.st_types.specs.declared.unit.UnitSort.TheVariants as sorts
use Rattle.st_types.specs.Units.{OrganisationUnit}
use Rattle.st_meaning.specs.NameTypes.{Declared, type_named, unit_named}
use Rattle.st_meaning.specs.Scopes.{Name, contains_name, block_named}
use Rattle.st_meaning.specs.StandardBlocks.{StandardBlock, BlockMember, block_of, members_of}
use Rattle.st_rules.specs.declared.limits.TheConstants.{MAX_TYPE_DEPTH}
use Rattle.layout.specs.Shapes.{Shape, of_instance, plain, parts, part_then, size}
use Rattle.layout.specs.Types.{Site, NamedSite, site_named, site_of_member, BlockType, block_type_of}
use Rattle.layout.specs.Types.{own_block_type}
use Rattle.layout.specs.Types.{block_type_named, instance_of, parts_of}
use Rattle.layout.specs.Types.{sites_of_blocks, composed_shape, shape_within, shape_of_type, parts_within}
use Rattle.layout.specs.Types.{is_within_depth}
use Rattle.layout.specs.Names.{are_different, names_of_sites}
use Rattle.layout.specs.Libraries.{instance_then, instances_among}
use Rattle.layout.proofs.DepthLemmas.{expanded_whole}
use Rattle.layout.proofs.LibraryLemmas.{instance_made}
use Rattle.layout.proofs.ListLemmas.{same_name}
use Rattle.slot_trees.specs.Tables.{Part, part_at, part_after, named_in}
use Rattle.slot_trees.specs.LinkedTexts.{parts_of_members}
use Rattle.slot_trees.specs.TextNumbers.{members_of_block, members_then, own_members, standard_members, numbers_of}
use Rattle.slot_trees.specs.Orderly.{is_orderly}
use Rattle.slot_trees.proofs.NamedLemmas.{named_first, named_behind, standard_member}
use Rattle.std.proofs.lemmas.Bool.{or_parts, and_parts}
use Rattle.st_types.proofs.OptionLemmas.{some_is, map_some, if_some}
use Rattle.st_types.proofs.TestLemmas.{false_from_not}

-- an instance has a declaration of its type
pub record IsInstanceSite (text : Declared) (ds : List NamedSite) (x b : Name) : Type 0 where
  pub site : Site
  pub block : BlockType
  pub there : site_named ds x ≡ Some site
  pub is : instance_of text site.declared ≡ Some block
  pub named : block.name ≡ b

module _ (text : Declared) (x : Name) where
  not_among : (ds : List NamedSite) → contains_name (names_of_sites ds) x ≡ false
      → block_named (instances_among text ds) x ≡ None
  not_among [] h = refl
  not_among (d ∷ ds) h =
      let n = or_parts (bytes_eq x d.name) (contains_name (names_of_sites ds) x) h in
      by_instance (instance_of text d.site.declared) n.0 (not_among ds n.1)
    where
      by_instance : (o : Option BlockType) → bytes_eq x d.name ≡ false
          → block_named (instances_among text ds) x ≡ None
          → block_named (instance_then d.name o (instances_among text ds)) x ≡ None
      by_instance None e ih = ih
      by_instance (Some b) e ih = rw e ih

  module _ (b : Name) where
    later : (d : NamedSite) (ds : List NamedSite) → bytes_eq x d.name ≡ false → IsInstanceSite text ds x b
        → IsInstanceSite text (d ∷ ds) x b
    later d ds e i =
        let there = i.there in
        record { site = i.site; block = i.block; there = rw e there; is = i.is; named = i.named }

    site_cases : (d : NamedSite) (ds : List NamedSite) (o : Option BlockType) → instance_of text d.site.declared ≡ o
        → (t : Bool) → bytes_eq x d.name ≡ t → contains_name (names_of_sites ds) d.name ≡ false
        → (block_named (instances_among text ds) x ≡ Some b → IsInstanceSite text ds x b)
        → block_named (instance_then d.name o (instances_among text ds)) x ≡ Some b → IsInstanceSite text (d ∷ ds) x b
    site_cases d ds None is true e apart ih h =
        let same = same_name x d.name e in
        let none = not_among ds (ap (contains_name (names_of_sites ds)) same ∙ apart) in
        let wrong : None ≡ Some b = sym none ∙ h in
        absurd (cc)
    site_cases d ds (Some block) is true e apart ih h =
        let named : (if true then Some block.name else block_named (instances_among text ds) x) ≡ Some b =
        subst (λ t. (if t then Some block.name else block_named (instances_among text ds) x) ≡ Some b) e h in
        record { site = d.site; block = block; there = rw e refl; is = is; named = some_is named }
    site_cases d ds None is false e apart ih h = later d ds e (ih h)
    site_cases d ds (Some block) is false e apart ih h =
        later d ds e
        (ih (subst (λ t. (if t then Some block.name else block_named (instances_among text ds) x) ≡ Some b) e h))

    pub instance_site : (ds : List NamedSite) → are_different (names_of_sites ds) ≡ true
        → block_named (instances_among text ds) x ≡ Some b → IsInstanceSite text ds x b
    instance_site [] differ h = absurd (cc)
    instance_site (d ∷ ds) differ h =
        let a = and_parts (not (contains_name (names_of_sites ds) d.name)) (are_different (names_of_sites ds)) differ in
        site_cases d ds (instance_of text d.site.declared) refl (bytes_eq x d.name) refl
        (false_from_not (contains_name (names_of_sites ds) d.name) a.0) (instance_site ds a.1) h

-- the part of a name has the shape of its declaration's type
pub site_part : (shape : VariableType → Shape) (ds : List NamedSite) (x : Name) (s : Site) (e : Part)
    → site_named ds x ≡ Some s → part_at (parts_of shape ds) x ≡ Some e → e.shape ≡ shape s.declared
site_part shape [] x s e h g = absurd (cc)
site_part shape (d ∷ ds) x s e h g = by_test (bytes_eq x d.name) h g (site_part shape ds x s)
  where
    by_test : (b : Bool) → (if b then Some d.site else site_named ds x) ≡ Some s
        → (if b then Some (record { offset = 0; shape = shape d.site.declared })
        else option_map (part_after (size (shape d.site.declared))) (part_at (parts_of shape ds) x)) ≡ Some e
        → ((f : Part) → site_named ds x ≡ Some s → part_at (parts_of shape ds) x ≡ Some f
        → f.shape ≡ shape s.declared)
        → e.shape ≡ shape s.declared
    by_test true i j ih =
        let p : record { offset = 0; shape = shape d.site.declared } ≡ e = some_is j in
        ap (λ f. f.shape) (sym p) ∙ ap (λ t. shape t.declared) (some_is i)
    by_test false i j ih =
        let m = map_some (part_after (size (shape d.site.declared))) (part_at (parts_of shape ds) x) e j in
        ap (λ f. f.shape) (sym m.2) ∙ ih m.0 i m.1

-- a condition on all of a unit's variables holds for one
pub orderly_site : (text : Declared) (externals : List Name) (ds : List NamedSite)
    → list_all (is_orderly text externals) ds ≡ true → (x : Name) (s : Site) → site_named ds x ≡ Some s
    → is_orderly text externals (record { name = x; site = s }) ≡ true
orderly_site text externals [] all x s h = absurd (cc)
orderly_site text externals (d ∷ ds) all x s h =
    let b = and_parts (is_orderly text externals d) (list_all (is_orderly text externals) ds) all in
    by_test (bytes_eq x d.name) refl h b.0 (orderly_site text externals ds b.1 x s)
  where
    by_test : (b : Bool) → bytes_eq x d.name ≡ b → (if b then Some d.site else site_named ds x) ≡ Some s
        → is_orderly text externals d ≡ true
        → (site_named ds x ≡ Some s → is_orderly text externals (record { name = x; site = s }) ≡ true)
        → is_orderly text externals (record { name = x; site = s }) ≡ true
    by_test true e g here ih =
        ap₂ (λ y t. is_orderly text externals (record { name = y; site = t })) (same_name x d.name e) (sym (some_is g))
        ∙ here
    by_test false e g here ih = ih g

-- the shape of an instance: its members have the shapes of their types
same_parts : (inner other : VariableType → Shape) (within : VariableType → Bool)
    → ((t : VariableType) → within t ≡ true → inner t ≡ other t) → (ds : List NamedSite)
    → list_all (λ d. within d.site.declared) ds ≡ true → parts_of inner ds ≡ parts_of other ds
same_parts inner other within same [] h = refl
same_parts inner other within same (d ∷ ds) h =
    let b = and_parts (within d.site.declared) (list_all (λ d. within d.site.declared) ds) h in
    ap₂ (λ sh ps. part_then d.name sh ps) (same d.site.declared b.0) (same_parts inner other within same ds b.1)

instance_within : (text : Declared) (n : ℕ) (t : VariableType) (b : BlockType) → instance_of text t ≡ Some b
    → is_within_depth (suc n) text t ≡ true
    → shape_within (suc n) text t ≡ parts of_instance (parts_of (shape_within (suc n) text) b.members)
unfolding shape_within is_within_depth
instance_within text n t b is within =
    let made = instance_made text t b is in
    let members : list_all (λ d. is_within_depth n text d.site.declared) b.members ≡ true =
    ap (parts_within (is_within_depth n text)) (sym made) ∙ within in
    ap (composed_shape (shape_within n text)) made
    ∙ ap (parts of_instance)
    (same_parts (shape_within n text) (shape_within (suc n) text) (is_within_depth n text)
    (λ u h. sym (expanded_whole text n (suc n) u h (omega arith))) b.members members)

pub instance_shape : (text : Declared) (t : VariableType) (b : BlockType) → instance_of text t ≡ Some b
    → is_within_depth MAX_TYPE_DEPTH text t ≡ true
    → shape_of_type text t ≡ parts of_instance (parts_of (shape_of_type text) b.members)
instance_shape text t b is within = instance_within text 63 t b is within

-- the members of a block are known by its name
standard_shapes : (text : Declared) (ms : List BlockMember)
    → parts_of (shape_of_type text) (map site_of_member ms) ≡ parts_of_members ms
unfolding shape_within
standard_shapes text [] = refl
standard_shapes text (m ∷ ms) = ap (part_then m.0 (plain m.1)) (standard_shapes text ms)

module _ (text : Declared) (x : Name) (u : OrganisationUnit) (is_block : u.sort ≡ sorts.FunctionBlock) where
  members_by_sort : (s : UnitSort) (v : OrganisationUnit) (us : List OrganisationUnit) → v.sort ≡ s → (b : Bool)
      → bytes_eq x v.name.name ≡ b → (if b then Some v else unit_named us x) ≡ Some u
      → (unit_named us x ≡ Some u → named_in (own_members text us) x ≡ Some (members_of_block text u))
      → named_in (members_then text s v (own_members text us)) x ≡ Some (members_of_block text u)
  members_by_sort sorts.FunctionBlock v us s true n h ih =
      let q : v ≡ u = some_is h in rw n (ap (λ w. Some (members_of_block text w)) q)
  members_by_sort sorts.FunctionBlock v us s false n h ih = rw n (ih h)
  members_by_sort (sorts.Function r) v us s true n h ih =
      let q : v ≡ u = some_is h in
      let w : sorts.Function r ≡ sorts.FunctionBlock = sym s ∙ ap (λ w. w.sort) q ∙ is_block in absurd (cc)
  members_by_sort (sorts.Function r) v us s false n h ih = ih h
  members_by_sort sorts.Program v us s true n h ih =
      let q : v ≡ u = some_is h in
      let w : sorts.Program ≡ sorts.FunctionBlock = sym s ∙ ap (λ w. w.sort) q ∙ is_block in absurd (cc)
  members_by_sort sorts.Program v us s false n h ih = ih h

  pub own_members_named : (us : List OrganisationUnit) → unit_named us x ≡ Some u
      → named_in (own_members text us) x ≡ Some (members_of_block text u)
  own_members_named [] h = absurd (cc)
  own_members_named (v ∷ us) h =
      members_by_sort v.sort v us refl (bytes_eq x v.name.name) refl h (own_members_named us)

-- a unit that is found has this name
pub unit_name : (us : List OrganisationUnit) (x : Name) (u : OrganisationUnit) → unit_named us x ≡ Some u
    → x ≡ u.name.name
unit_name [] x u h = absurd (cc)
unit_name (v ∷ us) x u h = by_test (bytes_eq x v.name.name) refl h (unit_name us x u)
  where
    by_test : (b : Bool) → bytes_eq x v.name.name ≡ b → (if b then Some v else unit_named us x) ≡ Some u
        → (unit_named us x ≡ Some u → x ≡ u.name.name) → x ≡ u.name.name
    by_test true e g ih = same_name x v.name.name e ∙ ap (λ w. w.name.name) (some_is g)
    by_test false e g ih = ih g

module _ (text : Declared) where
  abbrev AreKnown : BlockType → Type 0
  AreKnown b = named_in (numbers_of text).members b.name ≡ Some (parts_of (shape_of_type text) b.members)

  unit_known : (x : Name) (u : OrganisationUnit) (b : BlockType) → block_of x ≡ None → unit_named text.units x ≡ Some u
      → (s : UnitSort) → u.sort ≡ s → block_type_of s u ≡ Some b → AreKnown b
  unit_known x u b own is (sorts.Function t) sort h = absurd (cc)
  unit_known x u b own is sorts.Program sort h = absurd (cc)
  unit_known x u b own is sorts.FunctionBlock sort h =
      let e : record { name = u.name.name; members = sites_of_blocks u.blocks } ≡ b = some_is h in
      let none : named_in standard_members x ≡ None =
      standard_member x ∙ ap (option_map (λ k. parts_of_members (members_of k))) own in
      let there : named_in (numbers_of text).members x ≡ Some (members_of_block text u) =
      named_behind standard_members (own_members text text.units) x none
      ∙ own_members_named text x u sort text.units is in
      subst AreKnown e
      (ap (named_in (numbers_of text).members) (sym (unit_name text.units x u is)) ∙ there)

  own_known : (x : Name) (b : BlockType) → block_of x ≡ None → (o : Option OrganisationUnit)
      → unit_named text.units x ≡ o → own_block_type o ≡ Some b → AreKnown b
  own_known x b own None is h = absurd (cc)
  own_known x b own (Some u) is h = unit_known x u b own is u.sort refl h

  named_known : (x : Name) (b : BlockType) (o : Option StandardBlock) → block_of x ≡ o
      → elim o [
        | Some k ↦ Some (record { name = x; members = map site_of_member (members_of k) })
        | None ↦ own_block_type (unit_named text.units x)
      ] ≡ Some b
      → AreKnown b
  named_known x b None own h = own_known x b own (unit_named text.units x) refl h
  named_known x b (Some k) is h =
      let e : record { name = x; members = map site_of_member (members_of k) } ≡ b = some_is h in
      let there : named_in standard_members x ≡ Some (parts_of_members (members_of k)) =
      standard_member x ∙ ap (option_map (λ k. parts_of_members (members_of k))) is in
      subst AreKnown e
      (named_first standard_members (own_members text text.units) x (parts_of_members (members_of k)) there
      ∙ ap Some (sym (standard_shapes text (members_of k))))

  pub members_known : (t : VariableType) (b : BlockType) → instance_of text t ≡ Some b → AreKnown b
  members_known (types.Array a) b h = absurd (cc)
  members_known (types.Simple (Elementary k at)) b h = absurd (cc)
  members_known (types.Simple (Named x)) b h =
      let i = if_some (is_none (type_named text.types x.name)) (block_type_named text x.name) b h in
      named_known x.name b (block_of x.name) refl i.1
