-- The linked body of each program's instance, and how many there are.
use Rattle.std.proofs.Common.{◌≡◌, sym, ap, subst, ◌∙◌, arith, suc, ◌+◌, ◌≤◌, List, [], ◌∷◌, map}
use Rattle.std.proofs.Common.{length, length-append, Option, Some, None, inl, inr}
use Rattle.std.proofs.lemmas.List.{length-map}
use Rattle.st_types.specs.declared.path.Owner.{Owner}
use Rattle.st_types.specs.declared.configuration.Instance.{Instance}
use Rattle.st_types.specs.declared.unit.UnitSort.{UnitSort}
use Rattle.st_types.specs.declared.unit.UnitSort.TheVariants as sorts
use Rattle.st_types.specs.Configurations.{Resource}
use Rattle.st_types.specs.Units.{OrganisationUnit}
use Rattle.st_meaning.specs.NameTypes.{Declared, unit_named}
use Rattle.st_meaning.specs.Scopes.{Name}
use Rattle.layout.specs.LayoutVariables.{Owned, owner_in}
use Rattle.st_link.proofs.Among.{Among, here, later, in_either, in_map}
use Rattle.layout.specs.Instances.{OwnedProgram, instance_on, instances_in}
use Rattle.slot_trees.specs.SlotTrees.{SlotStmts}
use Rattle.slot_trees.specs.TextLinks.{linked_instances, linked_program}
use Rattle.slot_trees.specs.TextLinks.{linked_program_by_sort, linked_program_then}
use Rattle.slot_trees.specs.TextLinks.{linked_resources}
use Rattle.slot_trees.proofs.LibraryLinks.{linked_list}
use Rattle.config.proofs.InstanceNames.{of_map}

-- the linked bodies that one more instance may put in front
record IsInFront (rest : Option (List SlotStmts)) (bodies : List SlotStmts) : Type 0 where
  others : List SlotStmts
  is : rest ≡ Some others
  kept : (b : SlotStmts) → Among b others → Among b bodies
  few : length bodies ≤ suc (length others)

-- the linked body of a program
pub record HasRoot (text : Declared) (vs : List Owned) (u : OrganisationUnit) (bodies : List SlotStmts) : Type 0 where
  pub owner : Owner
  pub body : SlotStmts
  pub among : Among body bodies
  pub is : linked_program text vs owner u ≡ Some body

module _ (text : Declared) (vs : List Owned) where
  by_sort : (owner : Owner) (u : OrganisationUnit) (s : UnitSort) (rest : Option (List SlotStmts))
      (bodies : List SlotStmts) → linked_program_by_sort text vs owner s u rest ≡ Some bodies → IsInFront rest bodies
  by_sort owner u sorts.Program rest bodies h =
      let p = linked_list (linked_program text vs owner u) rest bodies h in
      record {
        others = p.others;
        is = p.others_are;
        kept = λ b a. subst (λ bs. Among b bs) p.all (later a);
        few = subst (λ (bs : List SlotStmts). length bs ≤ suc (length p.others)) p.all (omega arith);
      }
  by_sort owner u sorts.FunctionBlock rest bodies h =
      record { others = bodies; is = h; kept = λ b a. a; few = omega arith }
  by_sort owner u (sorts.Function t) rest bodies h =
      record { others = bodies; is = h; kept = λ b a. a; few = omega arith }

  in_front_of : (owner : Owner) (o : Option OrganisationUnit) (rest : Option (List SlotStmts))
      (bodies : List SlotStmts) → linked_program_then text vs owner o rest ≡ Some bodies → IsInFront rest bodies
  in_front_of owner None rest bodies h = record { others = bodies; is = h; kept = λ b a. a; few = omega arith }
  in_front_of owner (Some u) rest bodies h = by_sort owner u u.sort rest bodies h

  root_first : (owner : Owner) (u : OrganisationUnit) (s : UnitSort) → s ≡ sorts.Program
      → (rest : Option (List SlotStmts)) (bodies : List SlotStmts)
      → linked_program_by_sort text vs owner s u rest ≡ Some bodies → HasRoot text vs u bodies
  root_first owner u sorts.Program e rest bodies h =
      let p = linked_list (linked_program text vs owner u) rest bodies h in
      record {
        owner = owner;
        body = p.first;
        among = subst (λ bs. Among p.first bs) p.all here;
        is = p.first_is;
      }
  root_first owner u sorts.FunctionBlock e rest bodies h = absurd (cc)
  root_first owner u (sorts.Function t) e rest bodies h = absurd (cc)

  root_kept : (u : OrganisationUnit) (rest : Option (List SlotStmts)) (bodies : List SlotStmts)
      → (f : IsInFront rest bodies) → HasRoot text vs u f.others → HasRoot text vs u bodies
  root_kept u rest bodies f r =
      record { owner = r.owner; body = r.body; among = f.kept r.body r.among; is = r.is }

  -- the bodies of a resource's instances, in front of others
  instances_after : (r : Name) (is : List Instance) (rest : Option (List SlotStmts)) (bodies : List SlotStmts)
      → linked_instances text vs r is rest ≡ Some bodies
      → (others : List SlotStmts) × (rest ≡ Some others) × ((b : SlotStmts) → Among b others → Among b bodies)
      × (length bodies ≤ length is + length others)
  instances_after r [] rest bodies h = (bodies, h, λ b a. a, omega arith)
  instances_after r (i ∷ is) rest bodies h =
      let f = in_front_of (owner_in r i) (unit_named text.units i.program.name) (linked_instances text vs r is rest)
      bodies h in
      let g = instances_after r is rest f.others f.is in
      let few = f.few in
      let fewer = g.3 in
      (g.0, g.1, λ b a. f.kept b (g.2 b a), omega (arith, few, fewer))

  instance_root : (r : Name) (u : OrganisationUnit) → u.sort ≡ sorts.Program → (is : List Instance)
      (rest : Option (List SlotStmts)) (bodies : List SlotStmts) → linked_instances text vs r is rest ≡ Some bodies
      → (i : Instance) → Among i is → unit_named text.units i.program.name ≡ Some u → HasRoot text vs u bodies
  instance_root r u sort [] rest bodies h i a named = elim a [ ]
  instance_root r u sort (j ∷ is) rest bodies h i (here) named =
      root_first (owner_in r i) u u.sort sort (linked_instances text vs r is rest) bodies
      (sym (ap (λ o. linked_program_then text vs (owner_in r i) o (linked_instances text vs r is rest)) named) ∙ h)
  instance_root r u sort (j ∷ is) rest bodies h i (later a) named =
      let f = in_front_of (owner_in r j) (unit_named text.units j.program.name) (linked_instances text vs r is rest)
      bodies h in
      root_kept u (linked_instances text vs r is rest) bodies f
      (instance_root r u sort is rest f.others f.is i a named)

  -- no more bodies than instances
  pub roots_counted : (rs : List Resource) (bodies : List SlotStmts) → linked_resources text vs rs ≡ Some bodies
      → length bodies ≤ length (instances_in rs)
  roots_counted [] bodies h = let same : [] ≡ bodies = cc in let none = ap length (sym same) in omega (arith, none)
  roots_counted (r ∷ rs) bodies h =
      let g = instances_after r.name.name r.instances (linked_resources text vs rs) bodies h in
      let rest = roots_counted rs g.0 g.1 in
      let both = length-append (map (instance_on r.name.name) r.instances) (instances_in rs) in
      let own : length (map (instance_on r.name.name) r.instances) ≡ length r.instances = length-map r.instances _ in
      let fewer = g.3 in
      omega (arith, rest, both, own, fewer)

  pub resource_root : (rs : List Resource) (bodies : List SlotStmts) → linked_resources text vs rs ≡ Some bodies
      → (u : OrganisationUnit) → u.sort ≡ sorts.Program → (r : Resource) → Among r rs → (i : Instance)
      → Among i r.instances → unit_named text.units i.program.name ≡ Some u → HasRoot text vs u bodies
  resource_root [] bodies h u sort r a i b named = elim a [ ]
  resource_root (q ∷ rs) bodies h u sort r (here) i b named =
      instance_root r.name.name u sort r.instances (linked_resources text vs rs) bodies h i b named
  resource_root (q ∷ rs) bodies h u sort r (later a) i b named =
      let g = instances_after q.name.name q.instances (linked_resources text vs rs) bodies h in
      let root = resource_root rs g.0 g.1 u sort r a i b named in
      record { owner = root.owner; body = root.body; among = g.2 root.body root.among; is = root.is }

-- the instance of a program among all
pub record IsInstance (rs : List Resource) (x : Name) : Type 0 where
  pub resource : Resource
  pub in_text : Among resource rs
  pub instance : Instance
  pub in_resource : Among instance resource.instances
  pub named : instance.program.name ≡ x

pub instance_of_program : (rs : List Resource) (x : Name)
    → Among x (map (λ (p : OwnedProgram). p.1) (instances_in rs)) → IsInstance rs x
instance_of_program [] x a = elim a [ ]
instance_of_program (r ∷ rs) x a =
    let p = of_map (λ (p : OwnedProgram). p.1) x (instances_in (r ∷ rs)) a in
    elim (in_either (map (instance_on r.name.name) r.instances) (instances_in rs) p.among) [
      | inl k ↦
          let i = of_map (instance_on r.name.name) p.element r.instances k in
          record {
            resource = r;
            in_text = here;
            instance = i.element;
            in_resource = i.among;
            named = ap (λ (q : OwnedProgram). q.1) i.is ∙ p.is;
          }
      | inr k ↦
          let rest = instance_of_program rs x
          (subst (λ y. Among y (map (λ (q : OwnedProgram). q.1) (instances_in rs)))
          p.is (in_map (λ (q : OwnedProgram). q.1) k)) in
          record {
            resource = rest.resource;
            in_text = later rest.in_text;
            instance = rest.instance;
            in_resource = rest.in_resource;
            named = rest.named;
          }
    ]
