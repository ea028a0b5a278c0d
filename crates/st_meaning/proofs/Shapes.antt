-- A run neither adds nor takes away a variable, and each keeps its type.
use Rattle.std.proofs.Common.{◌≡◌, ℕ, zero, suc, ℤ, Bool, true, false, if◌then◌else◌, List, [], ◌∷◌, Option}
use Rattle.std.proofs.Common.{Some, None, Result, Ok, Err, refl, sym, ap, ◌∙◌}
use Rattle.std.specs.List.{list_any}
use Rattle.std.proofs.lemmas.Bool.{and_parts, and_from}
use Rattle.st_types.specs.declared.fault.Fault.{Fault}
use Rattle.st_types.specs.Kinds.{same_kind, holds}
use Rattle.st_types.proofs.KindLemmas.{same_kind_is}
use Rattle.st_types.specs.Values.{Datum}
use Rattle.st_types.specs.Paths.{Path, same_path}
use Rattle.st_types.specs.Statements.{Argument, given, copied, Stmt, empty, assign, invoke, IF, CASE, FOR, WHILE}
use Rattle.st_types.specs.Statements.{REPEAT, EXIT, RETURN, Stmts, no_stmts, stmt_then, Arms, no_arms, arm_then}
use Rattle.st_types.specs.Statements.{CaseArms, no_case_arms, case_arm_then}
use Rattle.st_meaning.specs.Failures.{Failure, ill_typed, StuckFaults, in_runs, or_failure}
use Rattle.st_meaning.specs.Stores.{Store, get, may_replace, replaced, with_entry, assigned, shape_of, all_held}
use Rattle.st_meaning.specs.Ticks.{Run, follow, ◌>>=◌, ◌>>◌, give, fault, attempt, proceed, tick}
use Rattle.st_meaning.specs.StandardBlocks as standard
use Rattle.st_meaning.specs.StandardBlocks.{BlockMember, block_of, members_of, stepped}
use Rattle.st_meaning.specs.Scopes.{Name, of_block, Block, Library, Units, Scope, path_in, member_at, block_named}
use Rattle.st_meaning.specs.Scopes.{block_in}
use Rattle.st_meaning.specs.Evaluation.{value, place, truth_of}
use Rattle.st_meaning.specs.Loops.{End, goes_on, exits, returns, continue_with, Iteration, again, over, turned, resumed, go_back}
use Rattle.st_meaning.specs.Loops.{turns, looped, guarded, tested_after, until, runs_on, step_on, stepped_on, stored}
use Rattle.st_meaning.specs.Loops.{no_step, nonzero}
use Rattle.st_meaning.specs.Execution.{label_holds, given_inputs, assigned_inputs, copied_outputs, ran_block, step_of}
use Rattle.st_meaning.specs.Execution.{exec, exec_all, exec_arms, exec_case}
use Rattle.st_meaning.specs.Runs.{store_of, members_assigned, standard_call, block_call, instance_call, units_within}
use Rattle.st_meaning.specs.Runs.{Program, scope_of, ran, ran_where}

-- a store of the same variables with the same types, in which values that their types hold are held still
pub record Same (s t : Store) : Type 0 where
  pub shape : shape_of t ≡ shape_of s
  pub held : all_held s ≡ true → all_held t ≡ true

pub same_refl : (s : Store) → Same s s
same_refl s = record { shape = refl; held = λ h. h }

pub same_then : {s t u : Store} → Same s t → Same t u → Same s u
same_then h k = record { shape = k.shape ∙ h.shape; held = λ x. k.held (h.held x) }

same_is : (s t : Store) → s ≡ t → Same s t
same_is s t e = record { shape = ap shape_of (sym e); held = λ h. ap all_held (sym e) ∙ h }

replaced_same : (e : Path × Datum) (v : Datum) (s t : Store) (b : Bool)
    → (b ≡ true → (e.1.kind ≡ v.kind) × (holds v.kind v.number ≡ true))
    → (if b then Ok ((e.0, v) ∷ s) else Err ill_typed) ≡ Ok t → Same (e ∷ s) t
replaced_same e v s t true k h =
    let q : ◌≡◌ {A = Store} ((e.0, v) ∷ s) t = cc in
    same_then (record {
      shape = ap (λ kind. (e.0, kind) ∷ shape_of s) (sym (k refl).0);
      held = λ x.
          and_from (holds v.kind v.number) (all_held s) (k refl).1 (and_parts (holds e.1.kind e.1.number) (all_held s) x).1;
    })
    (same_is ((e.0, v) ∷ s) t q)
replaced_same e v s t false k h = absurd (cc)

behind_same : (e : Path × Datum) (s t : Store) (r : Result Store Failure) → ((u : Store) → r ≡ Ok u → Same s u)
    → with_entry e r ≡ Ok t → Same (e ∷ s) t
behind_same e s t (Ok u) k h =
    let q : ◌≡◌ {A = Store} (e ∷ u) t = cc in
    let m = k u refl in
    same_then (record {
      shape = ap (λ rest. (e.0, e.1.kind) ∷ rest) m.shape;
      held =
          λ x. let y = and_parts (holds e.1.kind e.1.number) (all_held s) x in
          and_from (holds e.1.kind e.1.number) (all_held u) y.0 (m.held y.1);
    }) (same_is (e ∷ u) t q)
behind_same e s t (Err f) k h = absurd (cc)

pub may_replace_is : (old new : Datum) → may_replace old new ≡ true
    → (old.kind ≡ new.kind) × (holds new.kind new.number ≡ true)
may_replace_is old new h = let x = and_parts (same_kind old.kind new.kind) (holds new.kind new.number) h in
    (same_kind_is old.kind new.kind x.0, x.1)

assigned_at : (e : Path × Datum) (p : Path) (v : Datum) (s t : Store) (b : Bool)
    → ((u : Store) → assigned s p v ≡ Ok u → Same s u)
    → (if b then replaced e v s else with_entry e (assigned s p v)) ≡ Ok t → Same (e ∷ s) t
assigned_at e p v s t true k h = replaced_same e v s t (may_replace e.1 v) (may_replace_is e.1 v) h
assigned_at e p v s t false k h = behind_same e s t (assigned s p v) k h

pub assigned_same : (s : Store) (p : Path) (v : Datum) (t : Store) → assigned s p v ≡ Ok t → Same s t
assigned_same [] p v t h = absurd (cc)
assigned_same (e ∷ s) p v t h = assigned_at e p v s t (same_path p e.0) (λ u. assigned_same s p v u) h

-- the result of a run has a store of the same variables
pub record Keeps (A : Type 0) (store : A → Store) (s : Store) (m : Run A) : Type 0 where
  pub kept : (b : ℕ) (a : A) (c : ℕ) → m b ≡ Ok (a, c) → Same s (store a)

kept_follow : {A B : Type 0} (store : B → Store) (s : Store) (f : A → Run B) (x : Result (A × ℕ) Fault)
    → ((a : A) → Keeps B store s (f a)) → (z : B) (c : ℕ) → follow x f ≡ Ok (z, c) → Same s (store z)
kept_follow store s f (Ok r) k z c e = (k r.0).kept r.1 z c e
kept_follow store s f (Err y) k z c e = absurd (cc)

-- after a run that leaves the store alone
keeps_behind : {A B : Type 0} (store : B → Store) (s : Store) (m : Run A) {f : A → Run B}
    → ((a : A) → Keeps B store s (f a)) → Keeps B store s (m >>= f)
keeps_behind store s m {f = f} k = record { kept = λ b z c e. kept_follow store s f (m b) k z c e }

kept_then : {A B : Type 0} (inner : A → Store) (store : B → Store) (s : Store) (b : ℕ) (m : Run A) (f : A → Run B)
    (x : Result (A × ℕ) Fault) → ((a : A) (c : ℕ) → x ≡ Ok (a, c) → Same s (inner a))
    → ((a : A) → Keeps B store (inner a) (f a)) → (z : B) (c : ℕ) → follow x f ≡ Ok (z, c) → Same s (store z)
kept_then inner store s b m f (Ok r) h k z c e = same_then (h r.0 r.1 refl) ((k r.0).kept r.1 z c e)
kept_then inner store s b m f (Err y) h k z c e = absurd (cc)

-- one after another
keeps_then : {A B : Type 0} (inner : A → Store) (store : B → Store) (s : Store) {m : Run A} {f : A → Run B}
    → Keeps A inner s m → ((a : A) → Keeps B store (inner a) (f a)) → Keeps B store s (m >>= f)
keeps_then inner store s {m = m} {f = f} h k =
    record { kept = λ b z c e. kept_then inner store s b m f (m b) (h.kept b) k z c e }

keeps_give : {A : Type 0} (store : A → Store) (s : Store) (a : A) → Same s (store a) → Keeps A store s (give a)
keeps_give {A = A} store s a h = record {
  kept = λ b x c e. let q : ◌≡◌ {A = A × ℕ} (a, b) (x, c) = cc in
      let i : a ≡ x = ap (λ p. p.0) q in same_then h (same_is (store a) (store x) (ap store i));
}

keeps_fault : {A : Type 0} (store : A → Store) (s : Store) (e : Fault) → Keeps A store s (fault e)
keeps_fault store s e = record { kept = λ b x c h. absurd (cc) }

keeps_tick : {A : Type 0} (store : A → Store) (s : Store) {m : Run A} → Keeps A store s m → Keeps A store s (tick >> m)
keeps_tick store s {m = m} h = record { kept = λ b x c e. kept_follow store s (λ _. m) (tick b) (λ _. h) x c e }

abbrev itself : Store → Store
itself s = s

keeps_attempt : (stuck_faults : StuckFaults) (s : Store) (r : Result Store Failure) → ((t : Store) → r ≡ Ok t → Same s t)
    → Keeps Store itself s (attempt stuck_faults r)
keeps_attempt stuck_faults s (Ok t) h = keeps_give itself s t (h t refl)
keeps_attempt stuck_faults s (Err e) h = keeps_fault itself s _

keeps_assigned : (stuck_faults : StuckFaults) (s : Store) (p : Path) (v : Datum)
    → Keeps Store itself s (attempt stuck_faults (assigned s p v))
keeps_assigned stuck_faults s p v = keeps_attempt stuck_faults s (assigned s p v) (assigned_same s p v)

abbrev store_of_turn : Iteration → Store
store_of_turn (again s) = s
store_of_turn (over e) = store_of e

turned_same : (e : End) → store_of_turn (turned e) ≡ store_of e
turned_same (goes_on s) = refl
turned_same (exits s) = refl
turned_same (returns s) = refl

-- the store after a step of the control variable, or before it if there is none
abbrev or_before : Store → Option Store → Store
or_before s None = s
or_before s (Some t) = t

module _ (turn : Store → Run Iteration) (step : Store → Run (Option Store))
    (h : (s : Store) → Keeps Iteration store_of_turn s (turn s))
    (k : (s : Store) → Keeps (Option Store) (or_before s) s (step s)) where
  resumed_keeps : (next : Store → Run End) → ((s : Store) → Keeps End store_of s (next s))
      → (s : Store) (o : Option Store) → Keeps End store_of (or_before s o) (resumed next s o)
  resumed_keeps next n s None = keeps_give store_of s (goes_on s) (same_refl s)
  resumed_keeps next n s (Some t) = n t

  back_keeps : (next : Store → Run End) → ((s : Store) → Keeps End store_of s (next s)) → (t : Iteration)
      → Keeps End store_of (store_of_turn t) (go_back step next t)
  back_keeps next n (over e) = keeps_give store_of (store_of e) e (same_refl (store_of e))
  back_keeps next n (again s) =
      keeps_tick store_of s (keeps_then (or_before s) store_of s (k s) (resumed_keeps next n s))

  turns_keep : (n : ℕ) (s : Store) → Keeps End store_of s (turns n turn step s)
  unfolding turns
  turns_keep zero s = keeps_fault store_of s _
  turns_keep (suc n) s =
      keeps_then store_of_turn store_of s (h s) (λ t. back_keeps (turns n turn step) (turns_keep n) t)

  looped_keeps : (s : Store) → Keeps End store_of s (looped turn step s)
  unfolding looped
  looped_keeps s = record { kept = λ b a c e. (turns_keep (suc b) s).kept b a c e }

guarded_keeps : (condition : Store → Run Bool) (body : Store → Run End) → ((s : Store) → Keeps End store_of s (body s))
    → (s : Store) → Keeps Iteration store_of_turn s (guarded condition body s)
unfolding guarded
guarded_keeps condition body h s = keeps_behind store_of_turn s (condition s) (λ go. chosen go)
  where
    chosen : (go : Bool)
        → Keeps Iteration store_of_turn s (if go then (body s >>= (λ e. give (turned e))) else give (over (goes_on s)))
    chosen true = keeps_then store_of store_of_turn s (h s) (λ e. keeps_give store_of_turn (store_of e) (turned e)
        (same_is (store_of e) (store_of_turn (turned e)) (sym (turned_same e))))
    chosen false = keeps_give store_of_turn s (over (goes_on s)) (same_refl s)

asked_keeps : (condition : Store → Run Bool) (e : End) → Keeps Iteration store_of_turn (store_of e) (tested_after condition e)
asked_keeps condition (goes_on s) = keeps_behind store_of_turn s (condition s) (λ stop. chosen stop)
  where
    chosen : (stop : Bool) → Keeps Iteration store_of_turn s (give (if stop then over (goes_on s) else again s))
    chosen true = keeps_give store_of_turn s (over (goes_on s)) (same_refl s)
    chosen false = keeps_give store_of_turn s (again s) (same_refl s)
asked_keeps condition (exits s) = keeps_give store_of_turn s (over (goes_on s)) (same_refl s)
asked_keeps condition (returns s) = keeps_give store_of_turn s (over (returns s)) (same_refl s)

until_keeps : (body : Store → Run End) (condition : Store → Run Bool) → ((s : Store) → Keeps End store_of s (body s))
    → (s : Store) → Keeps Iteration store_of_turn s (until body condition s)
unfolding until
until_keeps body condition h s = keeps_then store_of store_of_turn s (h s) (λ e. asked_keeps condition e)

stored_keeps : (stuck_faults : StuckFaults) (s : Store) (x : Path) (o : Option Datum)
    → Keeps (Option Store) (or_before s) s (attempt stuck_faults (stored s x o))
stored_keeps stuck_faults s x None = keeps_give (or_before s) s None (same_refl s)
stored_keeps stuck_faults s x (Some v) = after_assignment (assigned s x v) (assigned_same s x v)
  where
    after_assignment : (r : Result Store Failure) → ((t : Store) → r ≡ Ok t → Same s t)
        → Keeps (Option Store) (or_before s) s (attempt stuck_faults (proceed r (λ t. Ok (Some t))))
    after_assignment (Ok t) h = keeps_give (or_before s) s (Some t) (h t refl)
    after_assignment (Err e) h = keeps_fault (or_before s) s _

next_keeps : (stuck_faults : StuckFaults) (s : Store) (x : Path) (step : ℤ) (o : Option Datum) → Keeps (Option Store)
    (or_before s) s (attempt stuck_faults (proceed (or_failure ill_typed o) (λ v. stored s x (stepped_on step v))))
next_keeps stuck_faults s x step None = keeps_fault (or_before s) s _
next_keeps stuck_faults s x step (Some v) = stored_keeps stuck_faults s x (stepped_on step v)

step_keeps : (stuck_faults : StuckFaults) (x : Path) (step : ℤ) (s : Store)
    → Keeps (Option Store) (or_before s) s (step_on stuck_faults x step s)
unfolding step_on
step_keeps stuck_faults x step s = next_keeps stuck_faults s x step (get s x)

no_step_keeps : (s : Store) → Keeps (Option Store) (or_before s) s (no_step s)
no_step_keeps s = keeps_give (or_before s) s (Some s) (same_refl s)

module _ (w : Scope) (blocks : (b : Name) (at : Path) (s : Store) → Keeps Store itself s (w.units.blocks b at s)) where
  inputs_keep : (at : Path) (vs : List (Name × Datum)) (s : Store)
      → Keeps Store itself s (assigned_inputs w.stuck_faults at vs s)
  inputs_keep at [] s = keeps_give itself s s (same_refl s)
  inputs_keep at (e ∷ es) s =
      keeps_then itself itself s (keeps_assigned w.stuck_faults s (member_at at e.0) e.1) (λ t. inputs_keep at es t)

  outputs_keep : (at : Path) (arguments : List Argument) (s : Store)
      → Keeps Store itself s (copied_outputs w at arguments s)
  outputs_keep at [] s = keeps_give itself s s (same_refl s)
  outputs_keep at (given x e ∷ rest) s = outputs_keep at rest s
  outputs_keep at (copied x v ∷ rest) s =
      keeps_behind itself s (attempt w.stuck_faults (or_failure ill_typed (get s (member_at at x.name))))
      (λ o. keeps_behind itself s (place w s v)
      (λ p. keeps_then itself itself s (keeps_assigned w.stuck_faults s p o) (λ t. outputs_keep at rest t)))

  block_keeps : (at : Path) (o : Option Name) (s : Store) → Keeps Store itself s (ran_block w at o s)
  block_keeps at None s = keeps_fault itself s _
  block_keeps at (Some b) s = blocks b at s

  if_keeps : (s : Store) (b : Bool) {m n : Run End} → Keeps End store_of s m → Keeps End store_of s n
      → Keeps End store_of s (if b then m else n)
  if_keeps s true h k = h
  if_keeps s false h k = k

  behind_keeps : (e : End) (next : Store → Run End) → ((s : Store) → Keeps End store_of s (next s))
      → Keeps End store_of (store_of e) (continue_with e next)
  behind_keeps (goes_on s) next h = h s
  behind_keeps (exits s) next h = keeps_give store_of s (exits s) (same_refl s)
  behind_keeps (returns s) next h = keeps_give store_of s (returns s) (same_refl s)

  mutual
    exec_keeps : (x : Stmt) (s : Store) → Keeps End store_of s (exec w x s)
    exec_keeps empty s = keeps_tick store_of s (keeps_give store_of s (goes_on s) (same_refl s))
    exec_keeps (assign v e) s =
        keeps_tick store_of s (keeps_behind store_of s (value w s e) (λ x. keeps_behind store_of s (place w s v) (λ p.
        keeps_then itself store_of s (keeps_assigned w.stuck_faults s p x)
        (λ t. keeps_give store_of t (goes_on t) (same_refl t)))))
    exec_keeps (invoke x arguments) s =
        keeps_tick store_of s (keeps_behind store_of s (given_inputs w s arguments)
        (λ vs. keeps_then itself store_of s (inputs_keep (path_in w.frame w.body x.name) vs s)
        (λ t. keeps_then itself store_of t
        (block_keeps (path_in w.frame w.body x.name) (block_named w.body.instances x.name) t)
        (λ u. keeps_then itself store_of u (outputs_keep (path_in w.frame w.body x.name) arguments u)
        (λ z. keeps_give store_of z (goes_on z) (same_refl z))))))
    exec_keeps (IF arms otherwise) s =
        keeps_tick store_of s (arms_keep arms (exec_all w otherwise) (exec_all_keeps otherwise) s)
    exec_keeps (CASE e arms otherwise) s = keeps_tick store_of s (keeps_behind store_of s (value w s e)
        (λ v. case_keeps v.number arms (exec_all w otherwise) (exec_all_keeps otherwise) s))
    exec_keeps (FOR x start limit step body) s =
        keeps_tick store_of s (keeps_behind store_of s (value w s start) (λ i. keeps_behind store_of s (value w s limit)
        (λ n. keeps_behind store_of s (step_of w s step) (λ d. keeps_behind store_of s (nonzero d)
        (λ _. keeps_then itself store_of s (keeps_assigned w.stuck_faults s (path_in w.frame w.body x.name) i)
        (λ t. looped_keeps _ (step_on w.stuck_faults (path_in w.frame w.body x.name) d)
        (guarded_keeps (runs_on w.stuck_faults (path_in w.frame w.body x.name) n.number d) (exec_all w body)
        (exec_all_keeps body))
        (step_keeps w.stuck_faults (path_in w.frame w.body x.name) d) t))))))
    exec_keeps (WHILE e body) s = keeps_tick store_of s
        (looped_keeps _ no_step (guarded_keeps (truth_of w e) (exec_all w body) (exec_all_keeps body)) no_step_keeps s)
    exec_keeps (REPEAT body e) s = keeps_tick store_of s
        (looped_keeps _ no_step (until_keeps (exec_all w body) (truth_of w e) (exec_all_keeps body)) no_step_keeps s)
    exec_keeps (EXIT at) s = keeps_tick store_of s (keeps_give store_of s (exits s) (same_refl s))
    exec_keeps RETURN s = keeps_tick store_of s (keeps_give store_of s (returns s) (same_refl s))

    pub exec_all_keeps : (xs : Stmts) (s : Store) → Keeps End store_of s (exec_all w xs s)
    exec_all_keeps no_stmts s = keeps_give store_of s (goes_on s) (same_refl s)
    exec_all_keeps (stmt_then x xs) s =
        keeps_then store_of store_of s (exec_keeps x s) (λ e. behind_keeps e (exec_all w xs) (exec_all_keeps xs))

    arms_keep : (arms : Arms) (otherwise : Store → Run End) → ((s : Store) → Keeps End store_of s (otherwise s))
        → (s : Store) → Keeps End store_of s (exec_arms w arms otherwise s)
    arms_keep no_arms otherwise h s = h s
    arms_keep (arm_then e body arms) otherwise h s = keeps_behind store_of s (truth_of w e s)
        (λ go. if_keeps s go (exec_all_keeps body s) (arms_keep arms otherwise h s))

    case_keeps : (z : ℤ) (arms : CaseArms) (otherwise : Store → Run End)
        → ((s : Store) → Keeps End store_of s (otherwise s)) → (s : Store)
        → Keeps End store_of s (exec_case w z arms otherwise s)
    case_keeps z no_case_arms otherwise h s = h s
    case_keeps z (case_arm_then labels body arms) otherwise h s =
        if_keeps s (list_any (label_holds z) labels) (exec_all_keeps body s) (case_keeps z arms otherwise h s)

members_same : (s : Store) (at : Path) (ms : List BlockMember) (vs : List Datum) (t : Store)
    → members_assigned s at ms vs ≡ Ok t → Same s t
members_same s at [] vs t e = let q : s ≡ t = cc in same_is s t q
members_same s at (m ∷ ms) [] t e = let q : s ≡ t = cc in same_is s t q
members_same s at (m ∷ ms) (v ∷ vs) t e =
    next (assigned s (member_at at m.0) v) (assigned_same s (member_at at m.0) v) (λ u. members_same u at ms vs t) e
  where
    next : (r : Result Store Failure) → ((u : Store) → r ≡ Ok u → Same s u)
        → ((u : Store) → members_assigned u at ms vs ≡ Ok t → Same u t)
        → proceed r (λ u. members_assigned u at ms vs) ≡ Ok t → Same s t
    next (Ok u) h k e = same_then (h u refl) (k u e)
    next (Err f) h k e = absurd (cc)

standard_keeps : (stuck_faults : StuckFaults) (k : standard.StandardBlock) (now : ℕ) (at : Path) (s : Store)
    → Keeps Store itself s (standard_call stuck_faults k now at s)
standard_keeps stuck_faults k now at s = keeps_behind itself s _ (λ vs. keeps_attempt stuck_faults s
    (members_assigned s at (members_of k) (stepped k now vs)) (members_same s at (members_of k) (stepped k now vs)))

module _ (stuck_faults : StuckFaults) (library : Library) (image : Store) (now : ℕ) (units : Units)
    (blocks : (b : Name) (at : Path) (s : Store) → Keeps Store itself s (units.blocks b at s)) where
  body_keeps : (b : Block) (at : Path) (s : Store) → Keeps Store itself s (block_call stuck_faults units image now b at s)
  body_keeps b at s = keeps_then store_of itself s (exec_all_keeps
      (record { units = units; frame = of_block at; body = b.body; image = image; now = now; stuck_faults = stuck_faults })
      blocks
      b.body.statements s) (λ e. keeps_give itself (store_of e) (store_of e) (same_refl (store_of e)))

  instance_keeps : (b : Name) (o : Option standard.StandardBlock) (at : Path) (s : Store)
      → Keeps Store itself s (instance_call stuck_faults library image units now b o at s)
  instance_keeps b (Some k) at s = standard_keeps stuck_faults k now at s
  instance_keeps b None at s =
      keeps_behind itself s (attempt stuck_faults (or_failure ill_typed (block_in library.blocks b)))
      (λ c. body_keeps c at s)

units_keep : (stuck_faults : StuckFaults) (library : Library) (image : Store) (now n : ℕ) (b : Name) (at : Path) (s : Store)
    → Keeps Store itself s ((units_within stuck_faults library image now n).blocks b at s)
unfolding units_within
units_keep stuck_faults library image now zero b at s = keeps_fault itself s _
units_keep stuck_faults library image now (suc n) b at s = instance_keeps stuck_faults library image now
    (units_within stuck_faults library image now n) (units_keep stuck_faults library image now n) b (block_of b) at s

pub ran_keeps : (p : Program) (image : Store) (now b : ℕ) (s : Store) (e : End) (c : ℕ)
    → ran p image now b s ≡ Ok (e, c) → Same s (store_of e)
unfolding ran ran_where
ran_keeps p image now b s e c h =
    (exec_all_keeps (scope_of p image now b) (units_keep in_runs p.library image now b)
    p.body.statements s).kept b e c h
