-- Instances of programs have different owners if resources and their instances have different names.
use Rattle.std.proofs.Common.{◌≡◌, refl, ap, ap₂, ◌∙◌, List, [], ◌∷◌, ◌++◌, map, Bool, true, false, ◌&&◌}
use Rattle.std.proofs.Common.{◌||◌, Option, Some, None}
use Rattle.std.specs.Prelude.{bytes_eq, not}
use Rattle.std.specs.List.{list_all, list_any}
use Rattle.std.proofs.lemmas.Slice.Eq.{bytes_eq-Decides}
use Rattle.st_types.specs.Paths.{same_owner}
use Rattle.st_types.specs.declared.path.Owner.{Owner}
use Rattle.st_types.specs.declared.configuration.Instance.{Instance}
use Rattle.st_types.specs.Configurations.{Configuration, Resource}
use Rattle.st_meaning.specs.Scopes.{Name, contains_name}
use Rattle.layout.specs.LayoutVariables.{owner_in, variables_of_globals}
use Rattle.layout.specs.Names.{are_different, has_different_instances, is_configuration_different}
use Rattle.layout.specs.Instances.{OwnedProgram, instance_on, instances_in}
use Rattle.st_link.specs.Linked.{are_owners_different}
use Rattle.st_link.specs.Orderly.{instances_of}
use Rattle.std.proofs.lemmas.Bool.{or_parts, and_parts, and_from, and_left, or_from}
use Rattle.st_types.proofs.TestLemmas.{false_from_not}

abbrev has_owner : Owner → List OwnedProgram → Bool
has_owner a ps = list_any (λ q. same_owner (Some a) (Some q.0)) ps

any_append : (f : OwnedProgram → Bool) (xs ys : List OwnedProgram)
    → list_any f (xs ++ ys) ≡ (list_any f xs || list_any f ys)
any_append f [] ys = refl
any_append f (x ∷ xs) ys = ap (λ b. f x || b) (any_append f xs ys) ∙ turned (f x) (list_any f xs) (list_any f ys)
  where
    turned : (a b c : Bool) → (a || (b || c)) ≡ (a || b || c)
    turned true b c = refl
    turned false b c = refl

-- none of other resources
none_on : (a : Owner) (x : Name) (is : List Instance) → bytes_eq a.resource x ≡ false
    → has_owner a (map (instance_on x) is) ≡ false
none_on a x [] h = refl
none_on a x (i ∷ is) h =
    or_from (bytes_eq a.resource x && bytes_eq a.instance i.name.name) (has_owner a (map (instance_on x) is))
    (and_left (bytes_eq a.resource x) (bytes_eq a.instance i.name.name) h) (none_on a x is h)

none_in : (a : Owner) (rs : List Resource) → contains_name (map (λ r. r.name.name) rs) a.resource ≡ false
    → has_owner a (instances_in rs) ≡ false
none_in a [] h = refl
none_in a (r ∷ rs) h =
    let e = or_parts (bytes_eq a.resource r.name.name)
    (contains_name (map (λ r. r.name.name) rs) a.resource) h in
    any_append (λ q. same_owner (Some a) (Some q.0)) (map (instance_on r.name.name) r.instances) (instances_in rs)
    ∙ or_from (has_owner a (map (instance_on r.name.name) r.instances)) (has_owner a (instances_in rs))
    (none_on a r.name.name r.instances e.0) (none_in a rs e.1)

-- of one resource
own_names : (x : Name) (i : Instance) (is : List Instance)
    → has_owner (owner_in x i) (map (instance_on x) is)
    ≡ contains_name (map (λ i. i.name.name) is) i.name.name
own_names x i [] = refl
own_names x i (j ∷ is) =
    ap₂ (λ a b. (a && bytes_eq i.name.name j.name.name) || b) ((bytes_eq-Decides x x).1 refl) (own_names x i is)

different_then : (x : Name) (is : List Instance) (ps : List OwnedProgram)
    → are_different (map (λ i. i.name.name) is) ≡ true
    → ((i : Instance) → has_owner (owner_in x i) ps ≡ false) → are_owners_different ps ≡ true
    → are_owners_different (map (instance_on x) is ++ ps) ≡ true
different_then x [] ps h apart later = later
different_then x (i ∷ is) ps h apart later =
    let b = and_parts (not (contains_name (map (λ i. i.name.name) is) i.name.name))
    (are_different (map (λ i. i.name.name) is)) h in
    let own : has_owner (owner_in x i) (map (instance_on x) is) ≡ false =
    own_names x i is ∙ false_from_not (contains_name (map (λ i. i.name.name) is) i.name.name) b.0 in
    let none : has_owner (owner_in x i) (map (instance_on x) is ++ ps) ≡ false =
    any_append (λ q. same_owner (Some (owner_in x i)) (Some q.0)) (map (instance_on x) is) ps
    ∙ or_from (has_owner (owner_in x i) (map (instance_on x) is)) (has_owner (owner_in x i) ps) own (apart i) in
    and_from (not (has_owner (owner_in x i) (map (instance_on x) is ++ ps)))
    (are_owners_different (map (instance_on x) is ++ ps)) (ap not none) (different_then x is ps b.1 apart later)

resources_different : (rs : List Resource) → are_different (map (λ r. r.name.name) rs) ≡ true
    → list_all has_different_instances rs ≡ true → are_owners_different (instances_in rs) ≡ true
resources_different [] h g = refl
resources_different (r ∷ rs) h g =
    let b = and_parts (not (contains_name (map (λ r. r.name.name) rs) r.name.name))
    (are_different (map (λ r. r.name.name) rs)) h in
    let d = and_parts (has_different_instances r) (list_all has_different_instances rs) g in
    different_then r.name.name r.instances (instances_in rs) d.0
    (λ i. none_in (owner_in r.name.name i) rs
    (false_from_not (contains_name (map (λ r. r.name.name) rs) r.name.name) b.0))
    (resources_different rs b.1 d.1)

pub owners_different : (o : Option Configuration) → is_configuration_different o ≡ true
    → are_owners_different (instances_of o) ≡ true
owners_different None h = refl
owners_different (Some c) h =
    let a = and_parts (are_different (map (λ v. v.name) (variables_of_globals c.globals)))
    (are_different (map (λ r. r.name.name) c.resources) && list_all has_different_instances c.resources) h in
    let b = and_parts (are_different (map (λ r. r.name.name) c.resources))
    (list_all has_different_instances c.resources) a.1 in
    resources_different c.resources b.0 b.1
