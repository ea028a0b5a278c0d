-- A part that is read as a configuration is one, and the tokens before a refusal begin one.
use Rattle.std.proofs.Common.{ℕ, ◌+◌, true, List, Option, None, refl, sym, subst}
use Rattle.st_types.specs.declared.identifier.Identifier.{Identifier}
use Rattle.st_lex.specs.declared.token.TokenKind.TheVariants.{Keyword, Number, Duration, Address}
use Rattle.st_lex.specs.declared.mark.Mark.TheVariants as m
use Rattle.st_lex.specs.declared.keyword.Keyword.TheVariants as w
use Rattle.st_types.specs.declared.configuration.Address.{Address as AddressLeaf}
use Rattle.st_types.specs.declared.configuration.Direction.TheVariants.{Input}
use Rattle.st_types.specs.declared.configuration.AddressWidth.TheVariants.{Bit}
use Rattle.st_types.specs.declared.configuration.GlobalQualifier.TheVariants as qualifiers
use Rattle.st_types.specs.declared.configuration.Priority.{Priority}
use Rattle.st_types.specs.declared.configuration.Task.{Task}
use Rattle.st_types.specs.declared.configuration.Instance.{Instance}
use Rattle.st_types.specs.Configurations.{GlobalNames, located, listed, GlobalDeclaration, GlobalBlock, Resource}
use Rattle.st_types.specs.Configurations.{Configuration}
use Rattle.st_parse.specs.Tokens.{Tokens, Is, Passes, mark, keyword, name, is_keyword, is_name}
use Rattle.st_parse.specs.Parsers.{one}
use Rattle.st_parse.specs.Laws.{Grammar}
use Rattle.st_parse.proofs.Sound.{Any, Seq, Made, made}
use Rattle.st_parse.proofs.SoundReadings.{Sound, sound_then, sound_pure, sound_as, sound_if, sound_one, sound_mark}
use Rattle.st_parse.proofs.SoundReadings.{sound_keyword, sound_name, token_of}
use Rattle.st_parse.specs.Lists.{Many, Several, Optional}
use Rattle.st_parse.specs.Types.{IsType, IsGiven}
use Rattle.st_parse.specs.Configurations.{qualifier, address, duration, decimal, IsGlobalNames, IsGlobal, IsGlobalBlock}
use Rattle.st_parse.specs.Configurations.{IsSingle, IsInterval, IsTask, IsWith, IsInstance, IsResource, IsConfiguration}
use Rattle.st_parse.specs.Configurations as c
use Rattle.st_parse.specs.Depths.{GlobalWithin, GlobalBlockWithin, ConfigurationWithin}
use Rattle.st_parse.specs.ConfigurationReading.{located_of, listed_of, global_names_at, global_at, is_qualifier}
use Rattle.st_parse.specs.ConfigurationReading.{global_block_at, single_at, interval_at, priority_at, terms_at}
use Rattle.st_parse.specs.ConfigurationReading.{task_at, with_at, program_at, instance_at, work_at, resource_at}
use Rattle.st_parse.specs.ConfigurationReading.{configuration_at}
use Rattle.st_parse.proofs.SoundParts.{sound_many, sound_at_least_one, sound_optional, sound_names_behind, ListedFrom}
use Rattle.st_parse.proofs.Shorter.{global_less, global_block_less, task_less, instance_less, resource_less}
use Rattle.st_parse.proofs.SoundTypes.{sound_type, sound_given_or_not}

-- ---- globals

abbrev AfterName : Identifier → Tokens → GlobalNames → Tokens → Type 0
AfterName x us n vs = (ts : Tokens) → Is name ts x us → IsGlobalNames ts n vs

is_located : (x : Identifier) (us : Tokens) (n : GlobalNames) (vs : Tokens)
    → Seq (Is (keyword w.At)) (λ at. Seq (Is address) (λ a. Made (located x a))) us n vs → AfterName x us n vs
is_located x us n vs (at, t1, k, (a, t2, i, made eq)) ts s = c.located x a s (at, k) i eq

is_listed : (x : Identifier) (us : Tokens) (n : GlobalNames) (vs : Tokens)
    → Seq (ListedFrom x) (λ xs. Made (listed xs)) us n vs → AfterName x us n vs
is_listed x us n vs (xs, t1, k, made eq) ts s = c.listed xs (k ts s) eq

an_address : AddressLeaf
an_address = record { direction = Input; width = Bit; number = 0 }

sound_global_names : {C : Type 0} → Sound C (λ e. global_names_at) IsGlobalNames Any
unfolding global_names_at located_of listed_of
sound_global_names =
    sound_as (λ ts n us p. p.3 ts p.2) (λ x us d. d) (sound_then sound_name (λ x. sound_if (is_keyword w.At)
    (sound_as (is_located x) (λ x us d. d) (sound_then (sound_keyword w.At) (λ at. sound_then (sound_one address
    (token_of (Address an_address)) an_address refl) (λ a. sound_pure (located x a) Any (λ c us. tt)))))
    (sound_as (is_listed x) (λ x us d. d)
    (sound_then (sound_names_behind x) (λ xs. sound_pure (listed xs) Any (λ c us. tt))))))

is_global : (ts : Tokens) (g : GlobalDeclaration) (us : Tokens)
    → Seq IsGlobalNames (λ ns. Seq (Is (mark m.Colon)) (λ c. Seq IsType (λ t. Seq (Optional IsGiven)
    (λ v. Seq (Is (mark m.Semicolon)) (λ s. Made (record { names = ns; declared = t; initial = v })))))) ts g us
    → IsGlobal ts g us
is_global ts g us (ns, t1, n, (k, t2, i, (t, t3, j, (v, t4, o, (s, t5, e, made eq))))) =
    c.global ns t v n (k, i) j o (s, e) eq

is_global_block : (ts : Tokens) (b : GlobalBlock) (us : Tokens)
    → Seq (Is (keyword w.VarGlobal)) (λ k. Seq (Optional (Is qualifier)) (λ q. Seq (Many IsGlobal)
    (λ ds. Seq (Is (keyword w.EndVar)) (λ e. Made (record { qualifier = q; declarations = ds }))))) ts b us
    → IsGlobalBlock ts b us
is_global_block ts b us (k, t1, i, (q, t2, o, (ds, t3, d, (e, t4, j, made eq)))) = c.block q ds (k, i) o d (e, j) eq

-- ---- tasks and instances

is_single : (ts : Tokens) (x : Identifier) (us : Tokens) → Seq (Is (keyword w.Single))
    (λ k. Seq (Is (mark m.Assign)) (λ a. Seq (Is name) (λ x. Seq (Is (mark m.Comma)) (λ c. Made x)))) ts x us
    → IsSingle ts x us
is_single ts y us (k, t1, i, (a, t2, j, (x, t3, n, (o, t4, d, made eq)))) =
    subst (λ (z : Identifier). IsSingle ts z us) (sym eq) (c.single (k, i) (a, j) n (o, d))

sound_single : {C : Type 0} → Sound C (λ e. single_at) IsSingle (λ x us. Unit {0})
unfolding single_at
sound_single =
    sound_as is_single (λ x us d. d) (sound_then (sound_keyword w.Single) (λ k. sound_then (sound_mark m.Assign) (λ a.
    sound_then sound_name (λ x. sound_then (sound_mark m.Comma) (λ c. sound_pure x (λ x us. Unit {0}) (λ c us. tt))))))

is_interval : (ts : Tokens) (d : ℕ) (us : Tokens) → Seq (Is (keyword w.Interval))
    (λ k. Seq (Is (mark m.Assign)) (λ a. Seq (Is duration) (λ d. Seq (Is (mark m.Comma)) (λ c. Made d)))) ts d us
    → IsInterval ts d us
is_interval ts y us (k, t1, i, (a, t2, j, (d, t3, n, (o, t4, e, made eq)))) =
    subst (λ (z : ℕ). IsInterval ts z us) (sym eq) (c.interval (k, i) (a, j) n (o, e))

sound_interval : {C : Type 0} → Sound C (λ e. interval_at) IsInterval (λ x us. Unit {0})
unfolding interval_at
sound_interval = sound_as is_interval (λ x us d. d) (sound_then (sound_keyword w.Interval)
    (λ k. sound_then (sound_mark m.Assign) (λ a. sound_then (sound_one duration (token_of (Duration 0)) 0 refl)
    (λ d. sound_then (sound_mark m.Comma) (λ c. sound_pure d (λ x us. Unit {0}) (λ c us. tt))))))

-- a priority, to the end of its task
abbrev EndsTask : Grammar Priority
EndsTask ts p us = (t1 : Tokens) × (t2 : Tokens) × (t3 : Tokens) × (t4 : Tokens) × Passes (keyword w.Priority) ts t1
    × Passes (mark m.Assign) t1 t2 × Is decimal t2 p t3 × Passes (mark m.Close) t3 t4 × Passes (mark m.Semicolon) t4 us

is_priority : (ts : Tokens) (p : Priority) (us : Tokens)
    → Seq (Is (keyword w.Priority)) (λ q. Seq (Is (mark m.Assign)) (λ a. Seq (Is decimal) (λ p.
    Seq (Is (mark m.Close)) (λ e. Seq (Is (mark m.Semicolon)) (λ z. Made p))))) ts p us → EndsTask ts p us
is_priority ts y us (q, t1, q', (a, t2, a', (p, t3, p', (e, t4, e', (z, t5, z', made eq))))) =
    rw eq (t1, t2, t3, t4, (q, q'), (a, a'), p', (e, e'), (z, z'))

sound_priority : {C : Type 0} → Sound C (λ e. priority_at) EndsTask (λ x us. Unit {0})
unfolding priority_at
sound_priority = sound_as is_priority (λ x us d. d)
    (sound_then (sound_keyword w.Priority) (λ q. sound_then (sound_mark m.Assign) (λ a.
    sound_then (sound_one decimal (token_of (Number
    (record { written = None; magnitude = 0; is_decimal = true }))) (record { place = 0; number = 0 }) refl) (λ p.
    sound_then (sound_mark m.Close) (λ e. sound_then (sound_mark m.Semicolon)
    (λ z. sound_pure p (λ x us. Unit {0}) (λ c us. tt)))))))

-- SINGLE, INTERVAL and PRIORITY of a task, to its end
abbrev Terms : Grammar (Option Identifier × Option ℕ × Priority)
Terms ts y us = (t1 : Tokens) × (t2 : Tokens) × Optional IsSingle ts y.0 t1 × Optional IsInterval t1 y.1 t2
    × EndsTask t2 y.2 us

is_terms : (ts : Tokens) (y : Option Identifier × Option ℕ × Priority) (us : Tokens)
    → Seq (Optional IsSingle) (λ s. Seq (Optional IsInterval) (λ i. Seq EndsTask (λ p. Made (s, i, p)))) ts y us
    → Terms ts y us
is_terms ts y us (s, t1, s', (i, t2, i', (p, t3, p', made eq))) = rw eq (t1, t2, s', i', p')

sound_terms : {C : Type 0} → Sound C (λ e. terms_at) Terms (λ x us. Unit {0})
unfolding terms_at
sound_terms = sound_as is_terms (λ x us d. d)
    (sound_then (sound_optional (is_keyword w.Single) (λ e. single_at) IsSingle (λ x. Unit {0}) sound_single)
    (λ s. sound_then
    (sound_optional (is_keyword w.Interval) (λ e. interval_at) IsInterval (λ x. Unit {0}) sound_interval) (λ i.
    sound_then sound_priority (λ p. sound_pure (s, i, p) (λ x us. Unit {0}) (λ c us. tt)))))

is_task : (ts : Tokens) (x : Task) (us : Tokens)
    → Seq (Is (keyword w.Task)) (λ k. Seq (Is name) (λ x. Seq (Is (mark m.Open)) (λ o. Seq Terms
    (λ t. Made (record { name = x; single = t.0; interval = t.1; priority = t.2 }))))) ts x us → IsTask ts x us
is_task ts y us (
  k,
  t1,
  k',
  (x, t2, n, (o, t3, o', (t, t4, (t5, t6, s', i', (t7, t8, t9, t10, q, a, p, e, z)), made eq))),
) =
    c.task x t.0 t.1 t.2 (k, k') n (o, o') s' i' q a p e z eq

sound_task : {C : Type 0} → Sound C (λ e. task_at) IsTask (λ x us. Unit {0})
unfolding task_at
sound_task = sound_as is_task (λ x us d. d)
    (sound_then (sound_keyword w.Task) (λ k. sound_then sound_name (λ x. sound_then (sound_mark m.Open) (λ o.
    sound_then sound_terms (λ t. sound_pure
    (record { name = x; single = t.0; interval = t.1; priority = t.2 }) (λ x us. Unit {0}) (λ c us. tt))))))

is_with : (ts : Tokens) (x : Identifier) (us : Tokens)
    → Seq (Is (keyword w.With)) (λ k. Seq (Is name) (λ x. Made x)) ts x us → IsWith ts x us
is_with ts y us (k, t1, i, (x, t2, n, made eq)) =
    subst (λ (z : Identifier). IsWith ts z us) (sym eq) (c.runs_with (k, i) n)

sound_with : {C : Type 0} → Sound C (λ e. with_at) IsWith (λ x us. Unit {0})
unfolding with_at
sound_with = sound_as is_with (λ x us d. d)
    (sound_then (sound_keyword w.With) (λ k. sound_then sound_name (λ x. sound_pure x (λ x us. Unit {0}) (λ c us. tt))))

-- the name of an instance's program, to its semicolon
abbrev Program : Grammar Identifier
Program ts x us = (t1 : Tokens) × (t2 : Tokens) × Passes (mark m.Colon) ts t1 × Is name t1 x t2
    × Passes (mark m.Semicolon) t2 us

is_program : (ts : Tokens) (x : Identifier) (us : Tokens)
    → Seq (Is (mark m.Colon)) (λ o. Seq (Is name) (λ x. Seq (Is (mark m.Semicolon)) (λ s. Made x))) ts x us
    → Program ts x us
is_program ts y us (o, t1, o', (x, t2, n, (s, t3, s', made eq))) = rw eq (t1, t2, (o, o'), n, (s, s'))

sound_program : {C : Type 0} → Sound C (λ e. program_at) Program (λ x us. Unit {0})
unfolding program_at
sound_program = sound_as is_program (λ x us d. d)
    (sound_then (sound_mark m.Colon) (λ o. sound_then sound_name (λ x. sound_then (sound_mark m.Semicolon)
    (λ s. sound_pure x (λ x us. Unit {0}) (λ c us. tt)))))

is_instance : (ts : Tokens) (x : Instance) (us : Tokens)
    → Seq (Is (keyword w.Program)) (λ k. Seq (Is name) (λ x. Seq (Optional IsWith) (λ t. Seq Program
    (λ p. Made (record { name = x; task = t; program = p }))))) ts x us → IsInstance ts x us
is_instance ts y us (k, t1, k', (x, t2, n, (t, t3, t', (p, t4, (t5, t6, o, p', s), made eq)))) =
    c.instance_of x t p (k, k') n t' o p' s eq

sound_instance : {C : Type 0} → Sound C (λ e. instance_at) IsInstance (λ x us. Unit {0})
unfolding instance_at
sound_instance = sound_as is_instance (λ x us d. d)
    (sound_then (sound_keyword w.Program) (λ k. sound_then sound_name (λ x. sound_then (sound_optional
    (is_keyword w.With) (λ e. with_at) IsWith (λ x. Unit {0}) sound_with) (λ t. sound_then sound_program
    (λ p. sound_pure (record { name = x; task = t; program = p }) (λ x us. Unit {0}) (λ c us. tt))))))

-- ---- resources and configurations

-- the tasks and instances of a resource, to its end
abbrev Work : Grammar (List Task × List Instance)
Work ts y us = (t1 : Tokens) × (t2 : Tokens) × Many IsTask ts y.0 t1 × Several IsInstance t1 y.1 t2
    × Passes (keyword w.EndResource) t2 us

is_work : (ts : Tokens) (y : List Task × List Instance) (us : Tokens)
    → Seq (Many IsTask) (λ xs. Seq (Several IsInstance) (λ ys. Seq (Is (keyword w.EndResource)) (λ e. Made (xs, ys))))
    ts y us → Work ts y us
is_work ts y us (xs, t1, m', (ys, t2, i', (e, t3, e', made eq))) = rw eq (t1, t2, m', i', (e, e'))

sound_work : {C : Type 0} → Sound C (λ e. work_at) Work (λ x us. Unit {0})
unfolding work_at
sound_work = sound_as is_work (λ x us d. d)
    (sound_then (sound_many (is_keyword w.Task) (λ e. task_at) IsTask (λ x. Unit {0}) task_less sound_task)
    (λ xs. sound_then (sound_at_least_one (is_keyword w.Program) (λ e. instance_at) IsInstance (λ x. Unit {0})
    instance_less sound_instance) (λ ys.
    sound_then (sound_keyword w.EndResource) (λ e. sound_pure (xs, ys) (λ x us. Unit {0}) (λ c us. tt)))))

is_resource : (ts : Tokens) (r : Resource) (us : Tokens)
    → Seq (Is (keyword w.Resource)) (λ k. Seq (Is name) (λ x. Seq (Is (keyword w.On)) (λ o. Seq (Is name)
    (λ p. Seq Work (λ y. Made (record { name = x; processor = p; tasks = y.0; instances = y.1 })))))) ts r us
    → IsResource ts r us
is_resource ts r us (
  k,
  t1,
  k',
  (x, t2, n, (o, t3, o', (p, t4, p', (y, t5, (t6, t7, m', i', e), made eq)))),
) =
    c.resource x p y.0 y.1 (k, k') n (o, o') p' m' i' e eq

sound_resource : {C : Type 0} → Sound C (λ e. resource_at) IsResource (λ x us. Unit {0})
unfolding resource_at
sound_resource = sound_as is_resource (λ x us d. d) (sound_then (sound_keyword w.Resource)
    (λ k. sound_then sound_name (λ x. sound_then (sound_keyword w.On) (λ o. sound_then sound_name (λ p.
    sound_then sound_work (λ y. sound_pure
    (record { name = x; processor = p; tasks = y.0; instances = y.1 }) (λ x us. Unit {0}) (λ c us. tt)))))))

is_configuration : (ts : Tokens) (x : Configuration) (us : Tokens)
    → Seq (Is (keyword w.Configuration))
    (λ k. Seq (Is name) (λ x. Seq (Many IsGlobalBlock) (λ gs. Seq (Several IsResource)
    (λ rs. Seq (Is (keyword w.EndConfiguration)) (λ e. Made (record { name = x; globals = gs; resources = rs }))))))
    ts x us → IsConfiguration ts x us
is_configuration ts y us (k, t1, k', (x, t2, n, (gs, t3, g', (rs, t4, r', (e, t5, e', made eq))))) =
    c.configuration x gs rs (k, k') n g' r' (e, e') eq

module _ (depth : ℕ) where
  sound_global : {C : Type 0} → Sound C (λ n. global_at (depth + n)) IsGlobal (λ g us. GlobalWithin depth g)
  unfolding global_at
  sound_global =
      sound_as is_global (λ x us d. d) (sound_then sound_global_names (λ ns. sound_then (sound_mark m.Colon) (λ c.
      sound_then sound_type (λ t. sound_then (sound_given_or_not depth) (λ v. sound_then (sound_mark m.Semicolon) (λ s.
      sound_pure (record { names = ns; declared = t; initial = v }) (λ g us. GlobalWithin depth g)
      (λ c us. c.0.1.1)))))))

  sound_global_block : {C : Type 0}
      → Sound C (λ n. global_block_at (depth + n)) IsGlobalBlock (λ b us. GlobalBlockWithin depth b)
  unfolding global_block_at
  sound_global_block = sound_as is_global_block (λ x us d. d) (sound_then (sound_keyword w.VarGlobal) (λ k.
      sound_then (sound_optional is_qualifier (λ e. one qualifier) (Is qualifier) (λ x. Unit {0}) (sound_as
      (λ ts x us i. i) (λ x us d. tt) (sound_one qualifier (token_of (Keyword w.Retain)) qualifiers.Retain refl)))
      (λ q.
      sound_then (sound_many is_name (λ n. global_at (depth + n)) IsGlobal (GlobalWithin depth) global_less
      sound_global) (λ ds. sound_then (sound_keyword w.EndVar) (λ e.
      sound_pure (record { qualifier = q; declarations = ds }) (λ b us. GlobalBlockWithin depth b)
      (λ c us. c.0.1.1.0))))))

  pub sound_configuration : {C : Type 0}
      → Sound C (λ n. configuration_at (depth + n)) IsConfiguration (λ x us. ConfigurationWithin depth x)
  unfolding configuration_at
  sound_configuration = sound_as is_configuration (λ x us d. d)
      (sound_then (sound_keyword w.Configuration) (λ k. sound_then sound_name (λ x.
      sound_then (sound_many (is_keyword w.VarGlobal) (λ n. global_block_at (depth + n)) IsGlobalBlock
      (GlobalBlockWithin depth) global_block_less sound_global_block) (λ gs.
      sound_then (sound_at_least_one (is_keyword w.Resource) (λ e. resource_at) IsResource (λ x. Unit {0}) resource_less
      sound_resource) (λ rs. sound_then (sound_keyword w.EndConfiguration) (λ e.
      sound_pure (record { name = x; globals = gs; resources = rs }) (λ x us. ConfigurationWithin depth x)
      (λ c us. c.0.0.1.1.0)))))))
