-- The programs of a text are those that it gives its instances, and no others.
use Rattle.std.proofs.Common.{◌≡◌, List, [], ◌∷◌, ◌++◌, Option, Some, None, option_map, refl, sym, ap, ◌∙◌, subst}
use Rattle.st_types.specs.declared.path.Owner.{Owner}
use Rattle.st_types.specs.declared.configuration.Instance.{Instance}
use Rattle.st_types.specs.declared.unit.UnitSort.{UnitSort}
use Rattle.st_types.specs.declared.unit.UnitSort.TheVariants.{Function, FunctionBlock, Program as program}
use Rattle.st_types.specs.Configurations.{Resource, Configuration}
use Rattle.st_types.specs.Units.{OrganisationUnit}
use Rattle.st_types.specs.Sources.{Source}
use Rattle.st_meaning.specs.NameTypes.{Declared, declared_in, units_in, unit_named}
use Rattle.st_meaning.specs.ResolvedUnits.{resolved}
use Rattle.st_meaning.specs.Runs.{Program}
use Rattle.st_meaning.specs.Scopes.{Name}
use Rattle.layout.specs.LayoutVariables.{owner_in, declared_of, configurations_in, only_configuration}
use Rattle.layout.specs.Libraries.{program_by_sort, program_if_there, programs_of_instances, programs_of_resources}
use Rattle.layout.specs.Libraries.{programs_of_configuration, programs_of_text}
use Rattle.layout.proofs.ResolvedLemmas.{taken_configuration, configuration_taken, same_unit_named}
use Rattle.st_link.specs.Homes.{IsAmong, here, further_on, IsInstanceOf}
use Rattle.st_link.specs.WellTypedRuns.{program_given, IsProgramOf}
use Rattle.st_link.proofs.HomeLemmas.{among_left, among_right}
use Rattle.st_link.proofs.TakenBodies.{text_taken, unit_taken}

among_append : {A G : Type 0} {a : A} (cs ds : List A) → IsAmong a (cs ++ ds) → (IsAmong a cs → G) → (IsAmong a ds → G)
    → G
among_append [] ds k f g = g k
among_append (c ∷ cs) ds here f g = f here
among_append (c ∷ cs) ds (further_on k) f g = among_append cs ds k (λ h. f (further_on h)) g

pub among_one : {A : Type 0} {a b : A} → IsAmong a (b ∷ []) → a ≡ b
among_one here = refl
among_one (further_on k) = elim k [ ]

module _ (source : Source) where
  abbrev text : Declared
  text = declared_in source

  abbrev whole : Declared
  whole = declared_of source

  unit_is : (x : Name) → unit_named whole.units x ≡ option_map (resolved text) (unit_named text.units x)
  unit_is x = ap (λ (t : Declared). unit_named t.units x) (text_taken source) ∙ same_unit_named text (units_in source) x

  -- the program of an instance exists
  program_is : (owner : Owner) (x : Name) (u : OrganisationUnit) → unit_named text.units x ≡ Some u → u.sort ≡ program
      → program_if_there whole owner (unit_named whole.units x) ≡ program_given source owner u ∷ []
  program_is owner x u h sort =
      ap (program_if_there whole owner) (unit_taken source x u h)
      ∙ ap (λ s. program_by_sort whole owner s (resolved text u)) sort

  among_instances : (resource : Name) (is : List Instance) (i : Instance) → IsAmong i is → (p : Program)
      → IsAmong p (program_if_there whole (owner_in resource i) (unit_named whole.units i.program.name))
      → IsAmong p (programs_of_instances whole resource is)
  among_instances resource [] i k p h = elim k [ ]
  among_instances resource (j ∷ is) i here p h =
      among_left (program_if_there whole (owner_in resource i) (unit_named whole.units i.program.name))
      (programs_of_instances whole resource is) h
  among_instances resource (j ∷ is) i (further_on k) p h =
      among_right (program_if_there whole (owner_in resource j) (unit_named whole.units j.program.name))
      (programs_of_instances whole resource is) (among_instances resource is i k p h)

  among_resources : (rs : List Resource) (r : Resource) → IsAmong r rs → (p : Program)
      → IsAmong p (programs_of_instances whole r.name.name r.instances) → IsAmong p (programs_of_resources whole rs)
  among_resources [] r k p h = elim k [ ]
  among_resources (q ∷ rs) r here p h =
      among_left (programs_of_instances whole r.name.name r.instances) (programs_of_resources whole rs) h
  among_resources (q ∷ rs) r (further_on k) p h =
      among_right (programs_of_instances whole q.name.name q.instances) (programs_of_resources whole rs)
      (among_resources rs r k p h)

  module _ (c : Configuration) (only : only_configuration (configurations_in source) ≡ Some c) where
    programs_are : programs_of_text source ≡ programs_of_resources whole c.resources
    programs_are = ap (programs_of_configuration whole)
        (configuration_taken source ∙ ap (option_map (taken_configuration text)) only)

    pub program_is_given : (owner : Owner) (u : OrganisationUnit) → IsInstanceOf text c owner u
        → IsAmong (program_given source owner u) (programs_of_text source)
    program_is_given owner u i =
        let x = i.instance.program.name in
        let r = i.resource in
        let own : IsAmong (program_given source owner u) (program_if_there whole owner (unit_named whole.units x)) =
        subst (λ ps. IsAmong (program_given source owner u) ps) (sym (program_is owner x u i.named i.program)) here in
        let owned : IsAmong (program_given source owner u)
        (program_if_there whole (owner_in r.name.name i.instance) (unit_named whole.units x)) =
        subst (λ o. IsAmong (program_given source owner u) (program_if_there whole o (unit_named whole.units x))) i.owned
        own in
        subst (λ ps. IsAmong (program_given source owner u) ps) (sym programs_are)
        (among_resources c.resources r i.is_resource (program_given source owner u)
        (among_instances r.name.name r.instances i.instance i.is_instance (program_given source owner u) owned))

    -- and no other
    module _ (p : Program) where
      of_unit : (r : Resource) → IsAmong r c.resources → (i : Instance) → IsAmong i r.instances
          → (o : Option OrganisationUnit) → unit_named text.units i.program.name ≡ o
          → IsAmong p (program_if_there whole (owner_in r.name.name i) (option_map (resolved text) o))
          → IsProgramOf source c p
      of_unit r in_text i in_resource None e k = elim k [ ]
      of_unit r in_text i in_resource (Some u) e k = by_sort u.sort refl k
        where
          by_sort : (s : UnitSort) → u.sort ≡ s
              → IsAmong p (program_by_sort whole (owner_in r.name.name i) s (resolved text u)) → IsProgramOf source c p
          by_sort FunctionBlock h k = elim k [ ]
          by_sort (Function t) h k = elim k [ ]
          by_sort program h k = record {
            owner = owner_in r.name.name i;
            unit = u;
            instance = record {
              resource = r;
              instance = i;
              is_resource = in_text;
              is_instance = in_resource;
              owned = refl;
              named = e;
              program = h;
            };
            is = among_one k;
          }

      from_instances : (r : Resource) → IsAmong r c.resources → (is : List Instance)
          → ((i : Instance) → IsAmong i is → IsAmong i r.instances)
          → IsAmong p (programs_of_instances whole r.name.name is) → IsProgramOf source c p
      from_instances r in_text [] within k = elim k [ ]
      from_instances r in_text (i ∷ is) within k =
          among_append (program_if_there whole (owner_in r.name.name i) (unit_named whole.units i.program.name))
          (programs_of_instances whole r.name.name is) k
          (λ h. of_unit r in_text i (within i here) (unit_named text.units i.program.name) refl
          (subst (λ o. IsAmong p (program_if_there whole (owner_in r.name.name i) o)) (unit_is i.program.name) h))
          (λ h. from_instances r in_text is (λ j m. within j (further_on m)) h)

      from_resources : (rs : List Resource) → ((r : Resource) → IsAmong r rs → IsAmong r c.resources)
          → IsAmong p (programs_of_resources whole rs) → IsProgramOf source c p
      from_resources [] within k = elim k [ ]
      from_resources (r ∷ rs) within k =
          among_append (programs_of_instances whole r.name.name r.instances) (programs_of_resources whole rs) k
          (λ h. from_instances r (within r here) r.instances (λ i m. m) h)
          (λ h. from_resources rs (λ q m. within q (further_on m)) h)

      pub program_is_of : IsAmong p (programs_of_text source) → IsProgramOf source c p
      program_is_of k =
          from_resources c.resources (λ r m. m) (subst (λ ps. IsAmong p ps) programs_are k)
