-- The units of a text in which nothing is wrong agree, however deep calls may be.
use Rattle.std.proofs.Common.{◌≡◌, refl, sym, ap, subst, ◌∙◌, ℕ, zero, suc, Bool, true, false, if◌then◌else◌, List, []}
use Rattle.std.proofs.Common.{◌∷◌, Option, Some, None}
use Rattle.std.specs.Prelude.{bytes_eq}
use Rattle.std.proofs.lemmas.Slice.Eq.{bytes_eq-Decides}
use Rattle.st_types.specs.declared.kind.Kind.{Kind}
use Rattle.st_types.specs.Values.{Datum}
use Rattle.st_types.specs.Paths.{Path}
use Rattle.st_types.specs.declared.data_type.SimpleType.{SimpleType}
use Rattle.st_types.specs.declared.data_type.VariableType.TheVariants as types
use Rattle.st_types.specs.declared.unit.UnitSort.TheVariants.{Function as function}
use Rattle.st_types.specs.Statements.{Stmts, stmts_of}
use Rattle.st_types.specs.Units.{OrganisationUnit}
use Rattle.st_meaning.specs.Failures.{StuckFaults, ill_typed, or_failure}
use Rattle.st_meaning.specs.Stores.{Store, get, assigned}
use Rattle.st_meaning.specs.Ticks.{◌>>=◌, attempt}
use Rattle.st_meaning.specs.StandardBlocks.{StandardBlock, block_of, members_of}
use Rattle.st_meaning.specs.Scopes.{Name, of_block, of_call, Body, Function, Block, Library, Units, unowned}
use Rattle.st_meaning.specs.Scopes.{contains_name, own_path}
use Rattle.st_meaning.specs.Execution.{exec_all}
use Rattle.st_meaning.specs.NameTypes.{Declared, kind_among, result_type, type_in_blocks, input_kinds}
use Rattle.st_meaning.specs.Runs.{store_of, bound_inputs, function_value, standard_call, block_call, function_call, instance_call}
use Rattle.st_meaning.specs.Runs.{units_within}
use Rattle.st_rules.specs.Environments.{type_of_name, section_in, section_of}
use Rattle.st_rules.specs.Statements.{outside}
use Rattle.st_rules.specs.TargetRules.{is_fixed}
use Rattle.st_rules.specs.Rules.{environment}
use Rattle.st_link.specs.Soundness.{IsOf, HasKind, with_units, root, Agrees, Keeps, AreOf, LeavesAgreeing}
use Rattle.st_link.specs.UnitSoundness.{IsBodyOf, IsBlockOf, scope_of_run, AreStored, PlacesAreTyped, TakeInputs}
use Rattle.st_link.specs.UnitSoundness.{call_of, HasFunction, IsLibraryOf, AllUnitsAgree}
use Rattle.st_link.proofs.Alikes.{Succeeds, succeeds_then}
use Rattle.st_link.proofs.Keeping.{keeps_itself, keeps_on, agrees_kept}
use Rattle.st_link.proofs.AssignmentLaw.{assigned_succeeds}
use Rattle.st_link.proofs.RunsAlike.{RunsAlike, both_then, both_give, both_attempt, proceeds}
use Rattle.st_link.proofs.LoopLaw.{Leaves}
use Rattle.st_link.proofs.StatementLaw.{there_succeeds}
use Rattle.st_link.proofs.BodyLaw.{statements_without_instances_are_sound}
use Rattle.st_link.proofs.FoundFunctions.{OwnFunction, own_function}
use Rattle.st_link.proofs.TextParts.{RightText}
use Rattle.st_link.proofs.BodyRunLaw.{body_alike}

-- the inputs of a call take their arguments
takes_kept : {s t : Store} → Keeps s t → (xs : List Name) (ks : List (Option Kind)) → TakeInputs s xs ks
    → TakeInputs t xs ks
takes_kept keeps [] [] h = tt
takes_kept keeps (x ∷ xs) (Some k ∷ ks) h = (keeps.kinds (unowned x) k h.0, takes_kept keeps xs ks h.1)
takes_kept keeps (x ∷ xs) (None ∷ ks) h = absurd h
takes_kept keeps (x ∷ xs) [] h = absurd h
takes_kept keeps [] (k ∷ ks) h = absurd h

begun_succeeds : (s : Store) (xs : List Name) (ks : List (Option Kind)) (vs : List Datum) → TakeInputs s xs ks
    → AreOf ks vs → Succeeds (Keeps s) (bound_inputs s xs vs)
begun_succeeds s [] [] [] h of = keeps_itself s
begun_succeeds s [] [] (v ∷ vs) h of = absurd of
begun_succeeds s [] (k ∷ ks) vs h of = absurd h
begun_succeeds s (x ∷ xs) [] vs h of = absurd h
begun_succeeds s (x ∷ xs) (None ∷ ks) vs h of = absurd h
begun_succeeds s (x ∷ xs) (Some k ∷ ks) [] h of = absurd of
begun_succeeds s (x ∷ xs) (Some k ∷ ks) (v ∷ vs) h of =
    proceeds (Keeps s) (Keeps s) (assigned s (unowned x) v) (λ t. bound_inputs t xs vs)
    (assigned_succeeds s (unowned x) v k h.0 of.0)
    (λ t keeps. succeeds_then (Keeps t) (Keeps s) (bound_inputs t xs vs) (λ z more. keeps_on keeps more)
    (begun_succeeds t xs ks vs (takes_kept keeps xs ks h.1) of.1))

-- a function's result is the variable of its name
named_itself : (x : Name) → bytes_eq x x ≡ true
named_itself x = (bytes_eq-Decides x x).1 refl

result_named : (text : Declared) (u : OrganisationUnit) (t : SimpleType) → u.sort ≡ function t
    → type_of_name (environment text u) u.name.name ≡ Some (types.Simple t)
result_named text u t is =
    ap (λ b. if b then result_type u.sort else type_in_blocks u.blocks u.name.name) (named_itself u.name.name)
    ∙ ap result_type is

result_free : (text : Declared) (u : OrganisationUnit)
    → is_fixed (section_of (environment text u) u.name.name) ≡ false
result_free text u =
    ap (λ b. is_fixed (if b then None else section_in u.blocks u.name.name)) (named_itself u.name.name)

pub path_in_call : (body : Body) (x : Name) (b : Bool) → (if b then unowned x else own_path of_call x) ≡ unowned x
path_in_call body x true = refl
path_in_call body x false = refl

result_there : (text : Declared) (u : OrganisationUnit) (t : SimpleType) (k : Kind) (f : Function) (now : ℕ)
    (s : Store) → u.sort ≡ function t → kind_among text.types (types.Simple t) ≡ Some k → f.name ≡ u.name.name
    → Agrees (environment text u) (scope_of_run [] now (call_of u f)) s → HasKind (get s (unowned f.name)) k
result_there text u t k f now s is among named agrees =
    subst (λ (x : Name). HasKind (get s (unowned x)) k) (sym named)
    (subst (λ (p : Path). HasKind (get s p) k)
    (path_in_call f.body u.name.name (contains_name f.body.externals u.name.name))
    (agrees.stored k (root u.name.name (result_named text u t is)) (result_free text u) among))

-- calls of standard blocks at a moment end alike
abbrev pub StandardCallsAgree : ℕ → StuckFaults → StuckFaults → Type 0
StandardCallsAgree now i j =
    (k : StandardBlock) (at : Path) (s : Store) → AreStored s at (members_of k)
    → RunsAlike (Keeps s) (standard_call i k now at s) (standard_call j k now at s)

module _ (text : Declared) (library : Library) (image : Store) (now : ℕ) (i j : StuckFaults) (right : RightText text)
    (of_text : IsLibraryOf text library) (standards : StandardCallsAgree now i j) where
  module _ (u v : Units) (units : AllUnitsAgree text library image now u v) where
    function_run : (f : Name) (inputs : List (Option Kind)) (k : Kind) (g : OwnFunction text f inputs (Some k))
        (has : HasFunction text library f g.unit) (s : Store) → Keeps has.value.fresh s
        → RunsAlike (LeavesAgreeing (environment text g.unit) (scope_of_run [] now (call_of g.unit has.value)))
        (exec_all (with_units u i (scope_of_run [] now (call_of g.unit has.value))) has.value.body.statements s)
        (exec_all (with_units v j (scope_of_run [] now (call_of g.unit has.value))) has.value.body.statements s)
    function_run f inputs k g has s keeps =
        let env = environment text g.unit in
        let w = scope_of_run [] now (call_of g.unit has.value) in
        subst (λ (xs : Stmts). RunsAlike (LeavesAgreeing env w) (exec_all (with_units u i w) xs s)
        (exec_all (with_units v j w) xs s)) (sym has.body.statements)
        (record {
          ends = λ b. statements_without_instances_are_sound env w s u v i j outside (stmts_of g.unit.body) b
              (agrees_kept (has.fresh now) keeps) (units.functions g.unit) (right.known f g.unit g.declared)
              (right.functions f g.unit g.result g.declared g.sort) (right.bodies f g.unit g.declared);
        })

    function_valued : (f : Name) (inputs : List (Option Kind)) (k : Kind) (g : OwnFunction text f inputs (Some k))
        (has : HasFunction text library f g.unit) (vs : List Datum) → AreOf inputs vs
        → RunsAlike (IsOf k) (function_value i u now has.value vs) (function_value j v now has.value vs)
    function_valued f inputs k g has vs of =
        both_then (both_attempt (Keeps has.value.fresh) i j (bound_inputs has.value.fresh has.value.inputs vs)
        (begun_succeeds has.value.fresh has.value.inputs (input_kinds text g.unit.blocks) vs has.inputs
        (subst (λ (ks : List (Option Kind)). AreOf ks vs) (sym g.takes) of)))
        (λ s keeps. both_then (function_run f inputs k g has s keeps)
        (λ e agrees. both_attempt (IsOf k) i j (or_failure ill_typed (get (store_of e) (unowned has.value.name)))
        (there_succeeds (get (store_of e) (unowned has.value.name)) k
        (result_there text g.unit g.result k has.value now (store_of e) g.sort g.gives has.named agrees))))

    function_alike : (f : Name) (inputs : List (Option Kind)) (k : Kind) → OwnFunction text f inputs (Some k)
        → (vs : List Datum) → AreOf inputs vs
        → RunsAlike (IsOf k) (function_call i library u now f vs) (function_call j library v now f vs)
    function_alike f inputs k g vs of =
        let has = of_text.functions f g.unit g.result g.declared g.sort in
        subst (λ (o : Option Function). RunsAlike (IsOf k)
        (attempt i (or_failure ill_typed o) >>= (λ h. function_value i u now h vs))
        (attempt j (or_failure ill_typed o) >>= (λ h. function_value j v now h vs))) (sym has.there)
        (function_valued f inputs k g has vs of)

    block_body : (b : Name) (d : OrganisationUnit) (c : Block) → IsBlockOf text library b d c → IsBodyOf text d c.body
    block_body b d c is =
        let has = of_text.blocks b d is.own is.declared is.sort in
        let same : has.value ≡ c = cc (has.there, is.there) in
        subst (λ (x : Block). IsBodyOf text d x.body) same has.body

    block_alike : (b : Name) (d : OrganisationUnit) (c : Block) (at : Path) (s : Store) → IsBlockOf text library b d c
        → PlacesAreTyped text library image now (record { unit = d; frame = of_block at; body = c.body }) s
        → RunsAlike (Keeps s) (instance_call i library image u now b (block_of b) at s)
        (instance_call j library image v now b (block_of b) at s)
    block_alike b d c at s is stands =
        subst (λ (o : Option StandardBlock). RunsAlike (Keeps s) (instance_call i library image u now b o at s)
        (instance_call j library image v now b o at s)) (sym is.own)
        (subst (λ (o : Option Block). RunsAlike (Keeps s)
        (attempt i (or_failure ill_typed o) >>= (λ x. block_call i u image now x at s))
        (attempt j (or_failure ill_typed o) >>= (λ x. block_call j v image now x at s))) (sym is.there)
        (both_then {P = Leaves (Keeps s)} {Q = Keeps s}
        (body_alike text library image now i j right of_text u v units
        (record { unit = d; frame = of_block at; body = c.body }) b is.declared (block_body b d c is) s stands)
        (λ e keeps. both_give (Keeps s) (store_of e) keeps)))

    standard_alike : (b : Name) (k : StandardBlock) (at : Path) (s : Store) → block_of b ≡ Some k
        → AreStored s at (members_of k)
        → RunsAlike (Keeps s) (instance_call i library image u now b (block_of b) at s)
        (instance_call j library image v now b (block_of b) at s)
    standard_alike b k at s is stored =
        subst (λ (o : Option StandardBlock). RunsAlike (Keeps s) (instance_call i library image u now b o at s)
        (instance_call j library image v now b o at s)) (sym is) (standards k at s stored)

  pub units_alike : (n : ℕ)
      → AllUnitsAgree text library image now (units_within i library image now n) (units_within j library image now n)
  unfolding units_within
  units_alike zero = record {
    functions = λ d f inputs k vs b e h. refl;
    blocks = λ b d c at s n is stands. refl;
    standard_blocks = λ b k at s n is stored. refl;
  }
  units_alike (suc n) =
      let u = units_within i library image now n in
      let v = units_within j library image now n in
      let units = units_alike n in
      record {
        functions = λ d f inputs k vs b e h.
            (function_alike u v units f inputs k (own_function text d f inputs (Some k) e) vs h).ends b;
        blocks = λ b d c at s m is stands. (block_alike u v units b d c at s is stands).ends m;
        standard_blocks = λ b k at s m is stored. (standard_alike u v units b k at s is stored).ends m;
      }
