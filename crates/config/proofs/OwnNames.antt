-- The bodies of an accepted text keep to their own names.
use Rattle.std.proofs.Common.{◌≡◌, refl, sym, ap, subst, ◌∙◌, ℕ, zero, suc, slice_get, Bool, true, false, not, if◌then◌else◌, List, [], ◌∷◌}
use Rattle.std.proofs.Common.{◌++◌, map, Option, Some, None, option_map}
use Rattle.std.specs.Prelude.{bytes_eq}
use Rattle.std.specs.List.{list_all}
use Rattle.std.proofs.lemmas.Bool.{and_parts}
use Rattle.st_types.specs.declared.identifier.Identifier.{Identifier}
use Rattle.st_types.specs.declared.kind.Kind.{Kind}
use Rattle.st_types.specs.declared.data_type.VariableType.{VariableType}
use Rattle.st_types.specs.declared.declaration.Section.{Section}
use Rattle.st_types.specs.declared.declaration.Section.TheVariants as sections
use Rattle.st_types.specs.declared.unit.UnitSort.{UnitSort}
use Rattle.st_types.specs.declared.unit.UnitSort.TheVariants as sorts
use Rattle.st_types.specs.Configurations.{Configuration}
use Rattle.st_types.specs.Expressions.{variable, no_selectors}
use Rattle.st_types.specs.Sources.{Source}
use Rattle.st_types.specs.Statements as text
use Rattle.st_types.specs.Statements.{Stmt, Stmts, Arms, CaseArms, stmts_of}
use Rattle.st_types.specs.Units.{OrganisationUnit}
use Rattle.st_meaning.specs.Bodies.{externals_in, is_external}
use Rattle.st_meaning.specs.NameTypes.{Declared, declared_in, units_in, is_named, result_type, type_in_blocks}
use Rattle.st_meaning.specs.ResolvedUnits.{resolved, resolved_stmt, resolved_stmts, resolved_arms, resolved_case_arms}
use Rattle.st_meaning.specs.ResolvedUnits.{resolved_type}
use Rattle.st_meaning.specs.Runs.{Program}
use Rattle.st_meaning.specs.Scopes.{Name, Block, block_in, contains_name}
use Rattle.st_rules.specs.declared.rule.Broken.{Broken}
use Rattle.st_rules.specs.declared.reason.Reason.TheVariants.{NotControl, Undeclared}
use Rattle.st_rules.specs.BodyRules.{wrong_body, wrong_statement}
use Rattle.st_rules.specs.Environments.{Environment, type_of_name, section_in, section_of}
use Rattle.st_rules.specs.Faults.{breaking, unless}
use Rattle.st_rules.specs.Rules.{IsWellTyped, environment}
use Rattle.st_rules.specs.Statements.{Context, placed, in_loop, in_for, outside, statements_below, statements_of}
use Rattle.st_rules.specs.Statements.{statements_of_arms, statements_of_case_arms}
use Rattle.st_rules.specs.TargetRules.{is_own, is_control, is_assignable, unassignable}
use Rattle.st_link.specs.StatementSoundness.{BodyRight}
use Rattle.st_link.proofs.Among.{Among, here, later, in_map, none_of}
use Rattle.st_link.proofs.FoundNames.{unit_found}
use Rattle.st_link.proofs.StatementParts.{statement_right, body_split, first_right, unless_right}
use Rattle.st_link.proofs.WellTypedTexts.{PartsRight, parts_right}
use Rattle.layout.specs.LayoutVariables.{configurations_in, declared_of, only_configuration}
use Rattle.layout.specs.Libraries.{block_of_unit, block_then, blocks_among, body_of_unit, programs_of_text}
use Rattle.layout.specs.Names.{are_different, are_types_and_units_different, has_different_fields}
use Rattle.layout.specs.Names.{has_different_variables, names_of_sites, variable_names}
use Rattle.layout.specs.Types.{Site, site_named, sites_of_blocks}
use Rattle.layout.proofs.ResolvedLemmas.{taken_text}
use Rattle.st_link.specs.Homes.{IsAmong, here as here_among, further_on}
use Rattle.st_link.proofs.GivenPrograms.{program_is_of}
use Rattle.st_link.proofs.ListTests.{all_at}
use Rattle.st_link.proofs.TakenBodies.{text_taken, section_taken, site_of_variable, statements_taken}
use Rattle.st_link.proofs.TakenBodies.{types_in_taken}
use Rattle.slot_trees.proofs.InstanceLemmas.{instance_site, orderly_site}
use Rattle.st_link.proofs.FunctionServes.{unit_in_order}
use Rattle.st_link.proofs.TakenTexts.{taken_differ}
use Rattle.st_link.proofs.UnitServes.{differ}
use Rattle.config.proofs.Counters.{StmtCounts, StmtsCount, ArmsCount, CaseArmsCount}
use Rattle.config.proofs.UnitCodes.{KeepsOwn}
use Rattle.st_types.proofs.OptionLemmas.{some_is}
use Rattle.st_types.proofs.TestLemmas.{false_from_not}
use Rattle.st_types.proofs.ListLemmas.{append_first}

-- FORs count by variables that their units own
own_is_no_external : (s : Section) → is_own (Some s) ≡ true → is_external s ≡ false
own_is_no_external (sections.Local keep) h = refl
own_is_no_external sections.Constant h = refl
own_is_no_external (sections.Input keep) h = absurd (cc)
own_is_no_external (sections.Output keep) h = absurd (cc)
own_is_no_external sections.External h = absurd (cc)
own_is_no_external sections.ConstantExternal h = absurd (cc)

abbrev control_faults : Environment → Context → Identifier → Option VariableType → List Broken
control_faults env c x o = elim o [
  | Some t ↦ breaking NotControl (unless (is_control env x t) x.place)
      ++ breaking (unassignable env c (variable x no_selectors))
      (unless (is_assignable env c (variable x no_selectors)) x.place)
  | None ↦ breaking Undeclared (x.place ∷ [])
]

record IsOwnOf (env : Environment) (x : Name) : Type 0 where
  declared : VariableType
  named : type_of_name env x ≡ Some declared
  own : is_own (section_of env x) ≡ true

module _ (env : Environment) (Own : Name → Type 0) (counts : (x : Name) → IsOwnOf env x → Own x) where
  control_is : (c : Context) (x : Identifier) (o : Option VariableType) → type_of_name env x.name ≡ o
      → control_faults env c x o ≡ [] → Own x.name
  control_is c x None is h = absurd (cc)
  control_is c x (Some t) is h =
      let right = unless_right NotControl (is_control env x t) x.place
      (append_first (breaking NotControl (unless (is_control env x t) x.place))
      (breaking (unassignable env c (variable x no_selectors))
      (unless (is_assignable env c (variable x no_selectors)) x.place)) h) in
      counts x.name (record {
        declared = t;
        named = is;
        own = (and_parts (is_own (section_of env x.name)) _ right).0;
      })

  mutual
    stmt_counts : (c : Context) (x : Stmt) → wrong_statement env (placed c x) ≡ [] → BodyRight env (statements_below c x)
        → StmtCounts Own (resolved_stmt env.text env.unit x)
    stmt_counts c text.empty h below = tt
    stmt_counts c (text.assign v e) h below = tt
    stmt_counts c (text.invoke x arguments) h below = tt
    stmt_counts c (text.IF arms otherwise) h below =
        let parts = body_split env (statements_of_arms c arms) (statements_of c otherwise) below in
        (arms_count c arms parts.0, stmts_count c otherwise parts.1)
    stmt_counts c (text.CASE e arms otherwise) h below =
        let parts = body_split env (statements_of_case_arms c arms) (statements_of c otherwise) below in
        (case_counts c _ arms parts.0, stmts_count c otherwise parts.1)
    stmt_counts c (text.FOR x start limit step body) h below =
        let right = statement_right env c (text.FOR x start limit step body) h in
        (control_is c x (type_of_name env x.name) refl right.control, stmts_count (in_for x.name c) body below)
    stmt_counts c (text.WHILE e body) h below = stmts_count (in_loop c) body below
    stmt_counts c (text.REPEAT body e) h below = stmts_count (in_loop c) body below
    stmt_counts c (text.EXIT at) h below = tt
    stmt_counts c text.RETURN h below = tt

    stmts_count : (c : Context) (xs : Stmts) → BodyRight env (statements_of c xs)
        → StmtsCount Own (resolved_stmts env.text env.unit xs)
    stmts_count c text.no_stmts h = tt
    stmts_count c (text.stmt_then x xs) h =
        let right = first_right env c x xs h in
        (stmt_counts c x right.itself right.below, stmts_count c xs right.rest)

    arms_count : (c : Context) (arms : Arms) → BodyRight env (statements_of_arms c arms)
        → ArmsCount Own (resolved_arms env.text env.unit arms)
    arms_count c text.no_arms h = tt
    arms_count c (text.arm_then e body arms) h =
        let parts = body_split env (statements_of c body) (statements_of_arms c arms) h in
        (stmts_count c body parts.0, arms_count c arms parts.1)

    case_counts : (c : Context) (k : Option Kind) (arms : CaseArms) → BodyRight env (statements_of_case_arms c arms)
        → CaseArmsCount Own (resolved_case_arms env.text env.unit k arms)
    case_counts c k text.no_case_arms h = tt
    case_counts c k (text.case_arm_then labels body arms) h =
        let parts = body_split env (statements_of c body) (statements_of_case_arms c arms) h in
        (stmts_count c body parts.0, case_counts c k arms parts.1)

-- a unit of an accepted text
module _ (source : Source) (h : IsWellTyped source) (u : OrganisationUnit) (among : Among u (units_in source)) where
  abbrev whole : Declared
  whole = taken_text (declared_in source)

  abbrev taken : OrganisationUnit
  taken = resolved (declared_in source) u

  abbrev env : Environment
  env = environment (declared_in source) u

  right : PartsRight source
  right = parts_right source h

  apart : (x : Name) (s : Site)
      → site_named (sites_of_blocks (resolved (declared_in source) u).blocks) x ≡ Some s
      → contains_name (externals_in (resolved (declared_in source) u).blocks) x ≡ false
  apart x s is =
      let o = orderly_site whole (externals_in taken.blocks) (sites_of_blocks taken.blocks)
      (unit_in_order source h u among) x s is in
      false_from_not (contains_name (externals_in taken.blocks) x)
      (and_parts (not (contains_name (externals_in taken.blocks) x)) _ o).0

  in_blocks : (x : Name) (t : VariableType) (b : Bool) → is_named x u.name ≡ b
      → (if b then result_type u.sort else type_in_blocks u.blocks x) ≡ Some t
      → is_own (if b then None else section_in u.blocks x) ≡ true → (o : Option Section) → section_in u.blocks x ≡ o
      → contains_name (externals_in (resolved (declared_in source) u).blocks) x ≡ false
  in_blocks x t true e named own o is = absurd (cc)
  in_blocks x t false e named own None is =
      absurd (let f : is_own None ≡ true = ap is_own (sym is) ∙ own in cc)
  in_blocks x t false e named own (Some s) is =
      let free = own_is_no_external s (ap is_own (sym is) ∙ own) in
      let d = site_of_variable taken.blocks x (resolved_type t) s
      (types_in_taken (declared_in source) u.blocks x ∙ ap (option_map resolved_type) named)
      (section_taken (declared_in source) u.blocks x ∙ is) free in
      apart x d.site d.is

  own_counter : (x : Name) → IsOwnOf env x
      → contains_name (externals_in (resolved (declared_in source) u).blocks) x ≡ false
  own_counter x i =
      in_blocks x i.declared (is_named x u.name) refl i.named i.own (section_in u.blocks x) refl

  names_differ : are_types_and_units_different whole ≡ true
  names_differ =
      taken_differ (declared_in source)
      (and_parts (are_different (map (λ t. t.name.name) (declared_in source).types))
      (are_types_and_units_different (declared_in source)) (differ source h)).1

  variables_differ : has_different_variables (resolved (declared_in source) u) ≡ true
  variables_differ =
      all_at has_different_variables (in_map (resolved (declared_in source)) among)
      (and_parts (list_all (λ t. has_different_fields t.definition) whole.types)
      (list_all has_different_variables whole.units) names_differ).1

  keeps_own : (text : Declared)
      → are_different (names_of_sites (sites_of_blocks (resolved (declared_in source) u).blocks)) ≡ true
      → KeepsOwn (body_of_unit text (resolved (declared_in source) u))
  keeps_own text apart_names = record {
    counters = subst (λ xs. StmtsCount (λ x. contains_name (externals_in taken.blocks) x ≡ false) xs)
        (sym (statements_taken (declared_in source) u u.body))
        (stmts_count env (λ x. contains_name (externals_in taken.blocks) x ≡ false) own_counter outside
        (stmts_of u.body) (none_of (λ d. wrong_body (environment (declared_in source) d)) among right.bodies));
    instances = λ x b is.
        let i = instance_site text x b (sites_of_blocks taken.blocks) apart_names is in
        apart x i.site i.there;
  }

  pub program_keeps_own : u.sort ≡ sorts.Program → (text : Declared)
      → KeepsOwn (body_of_unit text (resolved (declared_in source) u))
  program_keeps_own sort text =
      keeps_own text (ap (λ s. are_different (variable_names s taken)) (sym sort) ∙ variables_differ)

  pub block_keeps_own : u.sort ≡ sorts.FunctionBlock → (text : Declared)
      → KeepsOwn (body_of_unit text (resolved (declared_in source) u))
  block_keeps_own sort text =
      keeps_own text (ap (λ s. are_different (variable_names s taken)) (sym sort) ∙ variables_differ)

-- a block of a text is that of one of its units
record IsBlockOf (text whole : Declared) (us : List OrganisationUnit) (named : Block) : Type 0 where
  unit : OrganisationUnit
  among : Among unit us
  sort : unit.sort ≡ sorts.FunctionBlock
  is : block_of_unit whole (resolved text unit) ≡ named

module _ (text whole : Declared) (b : Name) (named : Block) where
  later_block : (u : OrganisationUnit) (us : List OrganisationUnit) → IsBlockOf text whole us named
      → IsBlockOf text whole (u ∷ us) named
  later_block u us i = record { unit = i.unit; among = later i.among; sort = i.sort; is = i.is }

  block_unit : (us : List OrganisationUnit) → block_in (blocks_among whole (map (resolved text) us)) b ≡ Some named
      → IsBlockOf text whole us named
  block_unit [] h = absurd (cc)
  block_unit (u ∷ us) h = by_sort u.sort refl h (block_unit us)
    where
      by_test : (t : Bool) → u.sort ≡ sorts.FunctionBlock
          → (if t then Some (block_of_unit whole (resolved text u))
          else block_in (blocks_among whole (map (resolved text) us)) b) ≡ Some named
          → (block_in (blocks_among whole (map (resolved text) us)) b ≡ Some named → IsBlockOf text whole us named)
          → IsBlockOf text whole (u ∷ us) named
      by_test true sort g ih = record { unit = u; among = here; sort = sort; is = some_is g }
      by_test false sort g ih = later_block u us (ih g)

      by_sort : (s : UnitSort) → u.sort ≡ s
          → block_in (block_then whole s (resolved text u) (blocks_among whole (map (resolved text) us))) b ≡ Some named
          → (block_in (blocks_among whole (map (resolved text) us)) b ≡ Some named → IsBlockOf text whole us named)
          → IsBlockOf text whole (u ∷ us) named
      by_sort sorts.FunctionBlock sort g ih = by_test (bytes_eq b u.name.name) sort g ih
      by_sort (sorts.Function t) sort g ih = later_block u us (ih g)
      by_sort sorts.Program sort g ih = later_block u us (ih g)

-- So do the bodies of the programs of an accepted text, and of the blocks that they call.
pub record AllKeepOwn (p : Program) : Type 0 where
  pub body : KeepsOwn p.body
  pub blocks : (b : Name) (named : Block) → block_in p.library.blocks b ≡ Some named → KeepsOwn named.body

pub texts_keep_own : (source : Source) (c : Configuration) → IsWellTyped source
    → only_configuration (configurations_in source) ≡ Some c → (n : ℕ) (p : Program)
    → slice_get (programs_of_text source) n ≡ Some p → AllKeepOwn p
texts_keep_own source c h only n p there =
    let i = program_is_of source c only p (among_at (programs_of_text source) n p there) in
    let text = declared_in source in
    let among = (unit_found text.units i.instance.instance.program.name i.unit i.instance.named).among in
    let units : (declared_of source).units ≡ map (resolved text) (units_in source) =
    ap (λ (d : Declared). d.units) (text_taken source) in
    subst AllKeepOwn (sym i.is) (record {
      body = program_keeps_own source h i.unit among i.instance.program (declared_of source);
      blocks = λ b named is.
          let u = block_unit text (declared_of source) b named (units_in source)
          (subst (λ us. block_in (blocks_among (declared_of source) us) b ≡ Some named) units is) in
          subst (λ (m : Block). KeepsOwn m.body) u.is
          (block_keeps_own source h u.unit u.among u.sort (declared_of source));
    })
  where
    among_at : {A : Type 0} (xs : List A) (n : ℕ) (x : A) → slice_get xs n ≡ Some x → IsAmong x xs
    among_at [] n x g = absurd (cc)
    among_at (y ∷ ys) zero x g = subst (λ z. IsAmong z (y ∷ ys)) (some_is g) here_among
    among_at (y ∷ ys) (suc n) x g = further_on (among_at ys n x g)
