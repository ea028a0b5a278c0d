-- The body of a unit, on variables with values, ends alike and keeps them.
use Rattle.std.proofs.Common.{◌≡◌, refl, sym, subst, ℕ, true, ◌||◌, List, []}
use Rattle.std.proofs.Common.{◌∷◌, Option, Some, None}
use Rattle.std.specs.Prelude.{is_some}
use Rattle.st_types.specs.declared.identifier.Identifier.{Identifier}
use Rattle.st_types.specs.Paths.{Path}
use Rattle.st_types.specs.declared.data_type.SimpleType.TheVariants.{Named}
use Rattle.st_types.specs.declared.data_type.VariableType.TheVariants as types
use Rattle.st_types.specs.declared.unit.UnitSort.{UnitSort}
use Rattle.st_types.specs.declared.unit.UnitSort.TheVariants.{Function as function, FunctionBlock as function_block}
use Rattle.st_types.specs.declared.unit.UnitSort.TheVariants.{Program as program}
use Rattle.st_types.specs.Statements.{Argument, invoke, Stmts, stmts_of}
use Rattle.st_types.specs.Units.{OrganisationUnit}
use Rattle.st_meaning.specs.Failures.{StuckFaults}
use Rattle.st_meaning.specs.Stores.{Store}
use Rattle.st_meaning.specs.StandardBlocks.{StandardBlock, BlockMember, block_of, members_of}
use Rattle.st_meaning.specs.Scopes.{Name, of_block, Block, Library, Units, path_in, member_at, block_named}
use Rattle.st_meaning.specs.Execution.{ran_block, exec, exec_all}
use Rattle.st_meaning.specs.NameTypes.{Declared, unit_named, variable_type}
use Rattle.st_meaning.specs.ResolvedUnits.{resolved_stmt}
use Rattle.st_rules.specs.Environments.{type_of_name, is_block_sort, is_own_block, is_block}
use Rattle.st_rules.specs.Statements.{Context, placed, outside}
use Rattle.st_rules.specs.BodyRules.{wrong_statement}
use Rattle.st_rules.specs.Rules.{environment}
use Rattle.st_link.specs.Soundness.{with_units, Agrees, Keeps}
use Rattle.st_link.specs.UnitSoundness.{IsBodyOf, IsBlockOf, BodyRun, Reaches, itself, inside, scope_of_run, AreStored}
use Rattle.st_link.specs.UnitSoundness.{InstanceIsTyped, PlacesAreTyped, IsLibraryOf, AllUnitsAgree}
use Rattle.st_link.proofs.Keeping.{keeps_itself, keeps_on, agrees_kept}
use Rattle.st_link.proofs.RunsAlike.{RunsAlike, both_as}
use Rattle.st_link.proofs.LoopLaw.{Leaves}
use Rattle.st_link.proofs.StatementParts.{statement_right}
use Rattle.st_link.proofs.StatementLaw.{exec_all_alike}
use Rattle.st_rules.specs.Reasons.{type_word}
use Rattle.st_link.proofs.CallLaw.{invoking_alike}
use Rattle.st_link.proofs.TextParts.{RightText, invoked}

-- variables with values keep them
pub stored_kept : {s t : Store} (at : Path) (ms : List BlockMember) → Keeps s t → AreStored s at ms → AreStored t at ms
stored_kept at [] keeps h = tt
stored_kept at (m ∷ ms) keeps h = (keeps.kinds (member_at at m.0) m.1 h.0, stored_kept at ms keeps h.1)

instance_kept : {text : Declared} {s t : Store} {at : Path} {b : Identifier} → Keeps s t → InstanceIsTyped text s at b
    → InstanceIsTyped text t at b
instance_kept {at = at} keeps h = record {
  inputs = λ y t k e f. keeps.kinds (member_at at y) k (h.inputs y t k e f);
  outputs = λ y t k e f. keeps.kinds (member_at at y) k (h.outputs y t k e f);
  members = λ k e. stored_kept at (members_of k) keeps (h.members k e);
}

pub stands_kept : {text : Declared} {library : Library} {image : Store} {now : ℕ} {r : BodyRun} {s t : Store}
    → Keeps s t → PlacesAreTyped text library image now r s → PlacesAreTyped text library image now r t
stands_kept keeps h = record {
  places = λ q reach. agrees_kept (h.places q reach) keeps;
  instances = λ q reach x b e is. instance_kept keeps (h.instances q reach x b e is);
}

reaches_on : {text : Declared} {library : Library} {r q p : BodyRun} → Reaches text library r q
    → Reaches text library q p → Reaches text library r p
reaches_on h itself = h
reaches_on h (inside x b u c i named is) = inside x b u c (reaches_on h i) named is

stands_inside : {text : Declared} {library : Library} {image : Store} {now : ℕ} {r : BodyRun} {s : Store} (x : Name)
    (b : Identifier) (u : OrganisationUnit) (c : Block)
    → variable_type r.unit x ≡ Some (types.Simple (Named b))
    → IsBlockOf text library b.name u c → PlacesAreTyped text library image now r s
    → PlacesAreTyped text library image now (record { unit = u; frame = of_block (path_in r.frame r.body x); body = c.body }) s
stands_inside x b u c named is h = record {
  places = λ q reach. h.places q (reaches_on (inside x b u c itself named is) reach);
  instances = λ q reach. h.instances q (reaches_on (inside x b u c itself named is) reach);
}

-- a block of the text
pub record OwnBlock (text : Declared) (b : Name) : Type 0 where
  pub unit : OrganisationUnit
  pub declared : unit_named text.units b ≡ Some unit
  pub sort : unit.sort ≡ function_block

block_sort : (sort : UnitSort) → is_block_sort sort ≡ true → sort ≡ function_block
block_sort (function t) h = absurd (cc)
block_sort function_block h = refl
block_sort program h = absurd (cc)

own_block_by : (text : Declared) (b : Name) (o : Option OrganisationUnit) → unit_named text.units b ≡ o
    → is_own_block o ≡ true → OwnBlock text b
own_block_by text b None is h = absurd (cc)
own_block_by text b (Some u) is h = record { unit = u; declared = is; sort = block_sort u.sort h }

pub own_block : (text : Declared) (b : Name) → block_of b ≡ None → is_block text b ≡ true → OwnBlock text b
own_block text b none is = own_block_by text b (unit_named text.units b) refl
    (subst (λ (o : Option StandardBlock). (is_some o || is_own_block (unit_named text.units b)) ≡ true) none is)

module _ (text : Declared) (library : Library) (image : Store) (now : ℕ) (i j : StuckFaults) (right : RightText text)
    (of_text : IsLibraryOf text library) (u v : Units) (units : AllUnitsAgree text library image now u v) where
  -- a call of the block of an instance
  block_alike : (r : BodyRun) (s : Store) → PlacesAreTyped text library image now r s → (x : Name) (b : Identifier)
      → variable_type r.unit x ≡ Some (types.Simple (Named b)) → is_block text b.name ≡ true
      → (o : Option StandardBlock) → block_of b.name ≡ o
      → RunsAlike (Keeps s) (u.blocks b.name (path_in r.frame r.body x) s) (v.blocks b.name (path_in r.frame r.body x) s)
  block_alike r s stands x b named is (Some k) e = record {
    ends = λ n. units.standard_blocks b.name k (path_in r.frame r.body x) s n e
        ((stands.instances r itself x b named is).members k e);
  }
  block_alike r s stands x b named is None e =
      let d = own_block text b.name e is in
      let c = of_text.blocks b.name d.unit e d.declared d.sort in
      let block : IsBlockOf text library b.name d.unit c.value =
      record { own = e; declared = d.declared; sort = d.sort; there = c.there } in
      record {
        ends = λ n. units.blocks b.name d.unit c.value (path_in r.frame r.body x) s n block
            (stands_inside x b d.unit c.value named block stands);
      }

  ran_alike : (r : BodyRun) (s : Store) → PlacesAreTyped text library image now r s → IsBodyOf text r.unit r.body → (x : Name)
      (b : Identifier) → variable_type r.unit x ≡ Some (types.Simple (Named b)) → is_block text b.name ≡ true
      → (t : Store) → Keeps s t
      → RunsAlike (Keeps s)
      (ran_block (with_units u i (scope_of_run image now r)) (path_in r.frame r.body x) (block_named r.body.instances x) t)
      (ran_block (with_units v j (scope_of_run image now r)) (path_in r.frame r.body x) (block_named r.body.instances x) t)
  ran_alike r s stands body x b named is t keeps =
      subst (λ (o : Option Name). RunsAlike (Keeps s)
      (ran_block (with_units u i (scope_of_run image now r)) (path_in r.frame r.body x) o t)
      (ran_block (with_units v j (scope_of_run image now r)) (path_in r.frame r.body x) o t))
      (sym (body.instances x b named is))
      (both_as {P = Keeps t} {Q = Keeps s} (λ z more. keeps_on keeps more)
      (block_alike r t (stands_kept keeps stands) x b named is (block_of b.name) refl))

  pub body_alike : (r : BodyRun) (y : Name) → unit_named text.units y ≡ Some r.unit → IsBodyOf text r.unit r.body
      → (s : Store) → PlacesAreTyped text library image now r s
      → RunsAlike (Leaves (Keeps s)) (exec_all (with_units u i (scope_of_run image now r)) r.body.statements s)
      (exec_all (with_units v j (scope_of_run image now r)) r.body.statements s)
  body_alike r y declared body s stands =
      let env = environment text r.unit in
      let w = scope_of_run image now r in
      let known = right.known y r.unit declared in
      let agrees : (t : Store) → Keeps s t → Agrees env w t =
      λ t keeps. agrees_kept (stands.places r itself) keeps in
      let kept : (t z : Store) → Keeps s t → Keeps t z → Keeps s z = λ t z h k. keeps_on h k in
      let calls : (c : Context) (x : Identifier) (arguments : List Argument) (t : Store) → Keeps s t
      → wrong_statement env (placed c (invoke x arguments)) ≡ []
      → RunsAlike (Leaves (Keeps s)) (exec (with_units u i w) (resolved_stmt text r.unit (invoke x arguments)) t)
      (exec (with_units v j w) (resolved_stmt text r.unit (invoke x arguments)) t) =
      λ c x arguments t keeps h.
      let so = statement_right env c (invoke x arguments) h in
      let called = invoked env known x arguments (type_of_name env x.name) refl so.invocation in
      invoking_alike env w u v i j (Keeps s) agrees kept (units.functions r.unit) known x called.block called.named
      (right.inputs called.block) (right.outputs called.block)
      (λ z more. (stands_kept more stands).instances r itself x.name called.block called.named called.is)
      c (type_word (types.Simple (Named called.block))) arguments so called.fit called.copies
      (ran_alike r s stands body x.name called.block called.named called.is) t keeps in
      subst (λ (xs : Stmts). RunsAlike (Leaves (Keeps s)) (exec_all (with_units u i w) xs s) (exec_all (with_units v j w) xs s))
      (sym body.statements)
      (exec_all_alike env w u v i j (Keeps s) agrees kept (units.functions r.unit) known calls outside
      (stmts_of r.unit.body) (right.bodies y r.unit declared) s (keeps_itself s))
