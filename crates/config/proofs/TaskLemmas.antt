-- The tasks of resources: how many each has, and whose they are.
use Rattle.std.proofs.Common.{◌≡◌, ◌+◌, ◌<◌, ◌≤◌, ℕ, suc, refl, sym, arith, Bool, true, false, ◌||◌}
use Rattle.std.proofs.Common.{if◌then◌else◌, List, [], ◌∷◌, ◌++◌, map, length}
use Rattle.std.specs.Prelude.{◌==◌, nat_lt, nat_le, filter}
use Rattle.std.specs.List.{list_all, list_any}
use Rattle.std.proofs.lemmas.Bool.Decides.{nat_tests}
use Rattle.st_types.specs.declared.limits.TheConstants.{MAX_TASKS}
use Rattle.st_types.specs.declared.configuration.Task as declared_task
use Rattle.st_types.specs.Configurations.{Resource}
use Rattle.st_meaning.specs.declared.plan.PlanInput.{PlanInput}
use Rattle.st_meaning.specs.declared.plan.PlanVariable.{PlanVariable}
use Rattle.plan.specs.declared.task.Task.{Task}
use Rattle.plan.specs.Sound.{tasks_of}
use Rattle.config.specs.Tasks.{task_at, tasks_from}
use Rattle.std.proofs.lemmas.Bool.{and_from}
use Rattle.st_types.proofs.ListLemmas.{all_append}

count_both : (q : ℕ) (xs ys : List Task) → tasks_of q (xs ++ ys) ≡ tasks_of q xs + tasks_of q ys
count_both q [] ys = let e : 0 + tasks_of q ys ≡ tasks_of q ys = omega arith in sym e
count_both q (x ∷ xs) ys = by_test (x.resource == q) (count_both q xs ys)
  where
    by_test : (b : Bool) → tasks_of q (xs ++ ys) ≡ tasks_of q xs + tasks_of q ys
        → length (if b then x ∷ filter (λ t. t.resource == q) (xs ++ ys) else filter (λ t. t.resource == q) (xs ++ ys))
        ≡ length (if b then x ∷ filter (λ t. t.resource == q) xs else filter (λ t. t.resource == q) xs) + tasks_of q ys
    by_test true h = omega arith
    by_test false h = h

module _ (vs : List PlanVariable) (is : List PlanInput) where
  -- those of one resource
  own : (q number : ℕ) (b : Bool) → (number == q) ≡ b → (ts : List declared_task.Task)
      → tasks_of q (map (task_at vs is number) ts) ≡ (if b then length ts else 0)
  own q number true e [] = refl
  own q number true e (t ∷ ts) = let h = own q number true e ts in rw e (omega arith)
  own q number false e [] = refl
  own q number false e (t ∷ ts) = let h = own q number false e ts in rw e h

  apart : (q number : ℕ) → q < number → (number == q) ≡ false
  apart q number lt = grind (arith, nat_tests)

  -- those after a resource don't belong to it
  none_before : (q number : ℕ) (rs : List Resource) → q < number → tasks_of q (tasks_from vs is number rs) ≡ 0
  none_before q number [] lt = refl
  none_before q number (r ∷ rs) lt =
      let a = count_both q (map (task_at vs is number) r.tasks) (tasks_from vs is (suc number) rs) in
      let b = own q number false (apart q number lt) r.tasks in
      let c = none_before q (suc number) rs (omega arith) in
      omega arith

  few_each : (q number : ℕ) (rs : List Resource) → list_any (λ r. nat_lt MAX_TASKS (length r.tasks)) rs ≡ false
      → tasks_of q (tasks_from vs is number rs) ≤ MAX_TASKS
  few_each q number [] few = grind arith
  few_each q number (r ∷ rs) few =
      by_test (nat_lt MAX_TASKS (length r.tasks)) refl few (few_each q (suc number) rs) (number == q) refl
    where
      by_test : (b : Bool) → nat_lt MAX_TASKS (length r.tasks) ≡ b
          → (b || list_any (λ r. nat_lt MAX_TASKS (length r.tasks)) rs) ≡ false
          → (list_any (λ r. nat_lt MAX_TASKS (length r.tasks)) rs ≡ false
          → tasks_of q (tasks_from vs is (suc number) rs) ≤ MAX_TASKS)
          → (c : Bool) → (number == q) ≡ c
          → tasks_of q (tasks_from vs is number (r ∷ rs)) ≤ MAX_TASKS
      by_test true e h rest c f = absurd (cc)
      by_test false e h rest true f =
          let a = count_both q (map (task_at vs is number) r.tasks) (tasks_from vs is (suc number) rs) in
          let b = own q number true f r.tasks in
          let same : q < suc number = grind (arith, nat_tests) in
          let d = none_before q (suc number) rs same in
          let short : length r.tasks ≤ MAX_TASKS = grind (arith, nat_tests) in
          omega arith
      by_test false e h rest false f =
          let a = count_both q (map (task_at vs is number) r.tasks) (tasks_from vs is (suc number) rs) in
          let b = own q number false f r.tasks in
          let d = rest h in
          omega arith

  all_few : (tasks ts : List Task) → ((q : ℕ) → tasks_of q tasks ≤ MAX_TASKS)
      → list_all (λ t. nat_le (tasks_of t.resource tasks) MAX_TASKS) ts ≡ true
  all_few tasks [] few = refl
  all_few tasks (t ∷ ts) few =
      let n = few t.resource in
      let le : nat_le (tasks_of t.resource tasks) MAX_TASKS ≡ true = grind (arith, nat_tests) in
      and_from (nat_le (tasks_of t.resource tasks) MAX_TASKS)
      (list_all (λ u. nat_le (tasks_of u.resource tasks) MAX_TASKS) ts) le (all_few tasks ts few)

  pub tasks_are_few : (rs : List Resource) → list_any (λ r. nat_lt MAX_TASKS (length r.tasks)) rs ≡ false
      → list_all (λ t. nat_le (tasks_of t.resource (tasks_from vs is 0 rs)) MAX_TASKS) (tasks_from vs is 0 rs) ≡ true
  tasks_are_few rs few =
      all_few (tasks_from vs is 0 rs) (tasks_from vs is 0 rs) (λ q. few_each q 0 rs few)

  -- each belongs to a resource of the list
  of_own : (number limit : ℕ) → number < limit → (ts : List declared_task.Task)
      → list_all (λ t. nat_lt t.resource limit) (map (task_at vs is number) ts) ≡ true
  of_own number limit lt [] = refl
  of_own number limit lt (t ∷ ts) =
      let l : nat_lt number limit ≡ true = grind (arith, nat_tests) in
      and_from (nat_lt number limit) (list_all (λ u. nat_lt u.resource limit) (map (task_at vs is number) ts)) l
      (of_own number limit lt ts)

  pub resources_there : (number limit : ℕ) (rs : List Resource) → number + length rs ≤ limit
      → list_all (λ t. nat_lt t.resource limit) (tasks_from vs is number rs) ≡ true
  resources_there number limit [] le = refl
  resources_there number limit (r ∷ rs) le =
      all_append (λ t. nat_lt t.resource limit) (map (task_at vs is number) r.tasks) (tasks_from vs is (suc number) rs)
      (of_own number limit (omega arith) r.tasks) (resources_there (suc number) limit rs (omega arith))
