-- The functions of a text's own library exist, and their variables have values of their types at the beginning of a call.
use Rattle.std.proofs.Common.{◌≡◌, ℕ, Bool, true, false, if◌then◌else◌, List, [], ◌∷◌, ◌++◌, map, Option, Some, None}
use Rattle.std.proofs.Common.{refl, sym, ap, ap₂, ◌∙◌, subst}
use Rattle.std.specs.List.{list_all}
use Rattle.st_types.specs.declared.identifier.Identifier.{Identifier}
use Rattle.st_types.specs.declared.kind.Kind.{Kind}
use Rattle.st_types.specs.Paths.{Path}
use Rattle.st_types.specs.declared.data_type.SimpleType.{SimpleType}
use Rattle.st_types.specs.declared.unit.UnitSort.{UnitSort}
use Rattle.st_types.specs.declared.unit.UnitSort.TheVariants.{Function}
use Rattle.st_types.specs.Declarations.{Declaration, VariableBlock}
use Rattle.st_types.specs.Units.{OrganisationUnit}
use Rattle.st_types.specs.Sources as sources
use Rattle.st_types.specs.Sources.{Source}
use Rattle.st_meaning.specs.Bodies.{names_of, declared_names}
use Rattle.st_meaning.specs.NameTypes.{Declared, declared_in, unit_named}
use Rattle.st_meaning.specs.NameTypes.{kind_among, is_input, kinds_of_declaration, kinds_of_declarations, input_kinds}
use Rattle.st_meaning.specs.ResolvedUnits.{resolved_block, resolved}
use Rattle.st_meaning.specs.Scopes as scopes
use Rattle.st_meaning.specs.Scopes.{Name, of_call, Scope, unowned, path_in, contains_name}
use Rattle.st_meaning.specs.Stores.{Store, get}
use Rattle.st_rules.specs.Rules.{environment}
use Rattle.st_link.specs.Soundness.{HasKind, root, Agrees}
use Rattle.st_link.specs.UnitSoundness.{scope_of_run, TakeInputs, call_of, HasFunction}
use Rattle.st_link.proofs.Among.{Among, here, later}
use Rattle.st_link.proofs.ApartNames.{NamesRight}
use Rattle.st_link.proofs.CallLaw.{some_there}
use Rattle.st_link.proofs.DeclaredVariables.{type_of_declared}
use Rattle.st_link.proofs.FoundNames.{unit_found, unit_in}
use Rattle.st_link.proofs.Keeping.{known_is}
use Rattle.st_link.proofs.KnownFunctions.{input_kind_there}
use Rattle.st_link.proofs.KnownTypes.{TypesRight}
use Rattle.st_link.proofs.UnitLaw.{path_in_call}
use Rattle.layout.specs.LayoutVariables.{declared_of}
use Rattle.layout.specs.Libraries.{input_names, function_of_unit, library_of_text}
use Rattle.layout.specs.Names
use Rattle.layout.specs.Names.{are_different, has_different_variables, are_types_and_units_different}
use Rattle.layout.proofs.LibraryLemmas.{function_found}
use Rattle.layout.proofs.NameLemmas.{found_unit, variables_once}
use Rattle.st_link.specs.Homes.{are_names_different, IsGrounded}
use Rattle.st_link.specs.WellTypedRuns.{call_variables}
use Rattle.st_link.proofs.AgreementLemmas.{slots_agree}
use Rattle.st_link.proofs.FreshCalls.{call_sites, call_stands}
use Rattle.st_link.proofs.LibraryBodies.{body_taken}
use Rattle.st_link.proofs.TakenBodies.{unit_taken, names_taken, externals_taken}
use Rattle.st_link.proofs.UnitHomeLemmas.{function_homes}
use Rattle.std.proofs.lemmas.Bool.{and_parts}

-- inputs in order
take_both : (s : Store) (xs ys : List Name) (ks ls : List (Option Kind)) → TakeInputs s xs ks → TakeInputs s ys ls
    → TakeInputs s (xs ++ ys) (ks ++ ls)
take_both s [] ys [] ls h i = i
take_both s [] ys (k ∷ ks) ls h i = absurd h
take_both s (x ∷ xs) ys [] ls h i = absurd h
take_both s (x ∷ xs) ys (None ∷ ks) ls h i = absurd h
take_both s (x ∷ xs) ys (Some k ∷ ks) ls h i = (h.0, take_both s xs ys ks ls h.1 i)

-- an input has a value of its type
record TakesOne (text : Declared) (s : Store) (d : Declaration) (x : Identifier) : Type 0 where
  pub kind : Kind
  pub among : kind_among text.types d.declared ≡ Some kind
  pub value : HasKind (get s (unowned x.name)) kind

take_names : (text : Declared) (s : Store) (d : Declaration) (xs : List Identifier)
    → ((x : Identifier) → Among x xs → TakesOne text s d x)
    → TakeInputs s (names_of xs) (kinds_of_declaration text d xs)
take_names text s d [] h = tt
take_names text s d (x ∷ xs) h =
    let one = h x here in
    subst (λ (o : Option Kind). TakeInputs s (x.name ∷ names_of xs) (o ∷ kinds_of_declaration text d xs)) (sym one.among)
    (one.value, take_names text s d xs (λ y among. h y (later among)))

take_declarations : (text : Declared) (s : Store) (ds : List Declaration)
    → ((d : Declaration) → Among d ds → (x : Identifier) → Among x d.names → TakesOne text s d x)
    → TakeInputs s (declared_names ds) (kinds_of_declarations text ds)
take_declarations text s [] h = tt
take_declarations text s (d ∷ ds) h =
    take_both s (names_of d.names) (declared_names ds) (kinds_of_declaration text d d.names)
    (kinds_of_declarations text ds)
    (take_names text s d d.names (h d here)) (take_declarations text s ds (λ e among. h e (later among)))

take_block : (text : Declared) (s : Store) (b : VariableBlock) (xs : List Name) (ks : List (Option Kind)) (is : Bool)
    → (is ≡ true → TakeInputs s (declared_names b.declarations) (kinds_of_declarations text b.declarations))
    → TakeInputs s xs ks
    → TakeInputs s (if is then declared_names b.declarations ++ xs else xs)
    (if is then kinds_of_declarations text b.declarations ++ ks else ks)
take_block text s b xs ks true f h =
    take_both s (declared_names b.declarations) xs (kinds_of_declarations text b.declarations) ks (f refl) h
take_block text s b xs ks false f h = h

take_blocks : (text : Declared) (s : Store) (bs : List VariableBlock)
    → ((b : VariableBlock) → Among b bs → is_input b.section ≡ true → (d : Declaration) → Among d b.declarations
    → (x : Identifier) → Among x d.names → TakesOne text s d x)
    → TakeInputs s (input_names bs) (input_kinds text bs)
take_blocks text s [] h = tt
take_blocks text s (b ∷ bs) h =
    take_block text s b (input_names bs) (input_kinds text bs) (is_input b.section)
    (λ is. take_declarations text s b.declarations (h b here is))
    (take_blocks text s bs (λ c among. h c (later among)))

pub inputs_taken : (text : Declared) (bs : List VariableBlock)
    → input_names (map (resolved_block text) bs) ≡ input_names bs
inputs_taken text [] = refl
inputs_taken text (b ∷ bs) = ap₂ (λ xs ys. if is_input b.section then xs ++ ys else ys)
    (names_taken text b.declarations) (inputs_taken text bs)

module _ (source : Source) (right : TypesRight source) (names : NamesRight source)
    (differ : are_names_different (declared_in source) ≡ true) where
  abbrev text : Declared
  text = declared_in source

  types_and_units : are_types_and_units_different text ≡ true
  types_and_units =
      (and_parts (are_different (map (λ t. t.name.name) text.types)) (are_types_and_units_different text) differ).1

  units_differ : list_all has_different_variables text.units ≡ true
  units_differ = (and_parts (list_all (λ t. Names.has_different_fields t.definition) text.types)
      (list_all has_different_variables text.units) types_and_units).1

  module _ (f : Name) (u : OrganisationUnit) (t : SimpleType)
      (declared : unit_named (declared_in source).units f ≡ Some u) (sort : u.sort ≡ Function t)
      (grounded : IsGrounded (declared_in source) (call_variables t u) u) where
    unit : Among (sources.unit u) source
    unit = unit_in source u (unit_found text.units f u declared).among

    abbrev taken : scopes.Function
    taken = function_of_unit (declared_of source) t (resolved (declared_in source) u)

    fresh_agrees : (now : ℕ) → Agrees (environment text u) (scope_of_run [] now (call_of u taken)) taken.fresh
    fresh_agrees now =
        let w = scope_of_run [] now (call_of u taken) in
        let stands = call_stands source t u in
        let once = variables_once text types_and_units (call_sites t u)
        (ap (λ (s : UnitSort). are_different (Names.variable_names s u)) (sym sort)
        ∙ found_unit text.units units_differ f u declared) in
        let homes = function_homes text u t w sort once grounded
        (record { names_of = refl; externals = externals_taken text u.blocks }) in
        subst (λ (s : Store). Agrees (environment text u) w s) (sym stands.fresh)
        (slots_agree (environment text u) (call_variables t u) w stands.values differ once stands.are stands.image homes)

    input_taken : (b : VariableBlock) → Among b u.blocks → is_input b.section ≡ true → (d : Declaration)
        → Among d b.declarations → (x : Identifier) → Among x d.names → TakesOne text taken.fresh d x
    input_taken b block is d declaration x name =
        let kind = some_there (kind_among text.types d.declared)
        (input_kind_there source right u unit b block is d declaration) in
        let type = type_of_declared source names u unit b block d declaration x name in
        let at = path_in of_call taken.body x.name in
        let value = known_is (get taken.fresh at) kind.0 ((fresh_agrees 0).values kind.0 (root x.name type) kind.1) in
        record {
          kind = kind.0;
          among = kind.1;
          value = subst (λ (p : Path). HasKind (get taken.fresh p) kind.0)
              (path_in_call taken.body x.name (contains_name taken.body.externals x.name)) value;
        }

    pub has_function : HasFunction (declared_in source) (library_of_text source) f u
    has_function = record {
      value = taken;
      there = function_found (declared_of source) f (resolved text u) t (unit_taken source f u declared) sort;
      named = refl;
      body = body_taken source right names u unit;
      inputs = subst (λ (xs : List Name). TakeInputs taken.fresh xs (input_kinds text u.blocks))
          (sym (inputs_taken text u.blocks)) (take_blocks text taken.fresh u.blocks input_taken);
      fresh = fresh_agrees;
    }
