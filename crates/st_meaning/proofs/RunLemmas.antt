-- How the outcome of a run and the variables after it follow from the run.
use Rattle.std.proofs.Common.{◌≡◌, ℕ, ◌+◌, ◌++◌, Result, Ok, Err, refl, ◌∙◌, ap}
use Rattle.st_types.specs.declared.fault.Fault.{Fault}
use Rattle.st_types.specs.declared.fault.Fault.TheVariants.{Budget}
use Rattle.st_meaning.specs.declared.outcome.Outcome.TheVariants.{Done, Faulted}
use Rattle.st_meaning.specs.Stores.{Store, shape_of, is_distinct, IsStore}
use Rattle.st_meaning.specs.Loops.{End}
use Rattle.st_meaning.specs.Runs.{Program, ran, store_of, outcome_in, store_in, outcome_of, store_after}
use Rattle.st_meaning.proofs.Lasts.{ran_more, ran_same}
use Rattle.st_meaning.proofs.Shapes.{Same, same_refl, ran_keeps}

fault_leaves : (r : Result (End × ℕ) Fault) (s : Store) (f : Fault) → outcome_in r ≡ Faulted f → store_in r s ≡ s
fault_leaves (Ok r) s f h = absurd (cc)
fault_leaves (Err e) s f h = refl

pub fault_leaves_store : (p : Program) (budget : ℕ) (s image : Store) (now : ℕ) (f : Fault)
    → outcome_of p budget s image now ≡ Faulted f → store_after p budget s image now ≡ s
unfolding outcome_of store_after
fault_leaves_store p budget s image now f h = fault_leaves (ran p image now budget s) s f h

keeps_same : (r : Result (End × ℕ) Fault) (s : Store) → ((e : End) (c : ℕ) → r ≡ Ok (e, c) → Same s (store_of e))
    → Same s (store_in r s)
keeps_same (Ok r) s h = h r.0 r.1 refl
keeps_same (Err e) s h = same_refl s

pub store_after_same : (p : Program) (budget : ℕ) (s image : Store) (now : ℕ)
    → Same s (store_after p budget s image now)
unfolding store_after
store_after_same p budget s image now = keeps_same (ran p image now budget s) s (ran_keeps p image now budget s)

pub store_after_shape : (p : Program) (budget : ℕ) (s image : Store) (now : ℕ)
    → shape_of (store_after p budget s image now) ≡ shape_of s
store_after_shape p budget s image now = (store_after_same p budget s image now).shape

pub store_after_store : (p : Program) (budget : ℕ) (s image : Store) (now : ℕ) → IsStore image s
    → IsStore image (store_after p budget s image now)
store_after_store p budget s image now h =
    let same = store_after_same p budget s image now in
    record { once = ap (λ shape. is_distinct (shape_of image ++ shape)) same.shape ∙ h.once; held = same.held h.held }

done_more : (r q : Result (End × ℕ) Fault) (k : ℕ) (s : Store) → ((e : End) (c : ℕ) → r ≡ Ok (e, c) → q ≡ Ok (e, c + k))
    → outcome_in r ≡ Done → (outcome_in q ≡ Done) × (store_in q s ≡ store_in r s)
done_more (Ok r) q k s h none = (ap outcome_in (h r.0 r.1 refl), ap (λ x. store_in x s) (h r.0 r.1 refl))
done_more (Err e) q k s h none = absurd (cc)

pub outcome_more : (p : Program) (image : Store) (now budget added : ℕ) (s : Store)
    → outcome_of p budget s image now ≡ Done → outcome_of p (budget + added) s image now ≡ Done
unfolding outcome_of
outcome_more p image now budget added s h = (done_more (ran p image now budget s) (ran p image now (budget + added) s)
    added s (ran_more p image now budget added s) h).0

pub store_more : (p : Program) (image : Store) (now budget added : ℕ) (s : Store)
    → outcome_of p budget s image now ≡ Done
    → store_after p (budget + added) s image now ≡ store_after p budget s image now
unfolding outcome_of store_after
store_more p image now budget added s h = (done_more (ran p image now budget s) (ran p image now (budget + added) s)
    added s (ran_more p image now budget added s) h).1

fault_is : (r : Result (End × ℕ) Fault) (f : Fault) → outcome_in r ≡ Faulted f → r ≡ Err f
fault_is (Ok r) f h = absurd (cc)
fault_is (Err e) f h = cc

pub fault_more : (p : Program) (image : Store) (now budget added : ℕ) (s : Store) (f : Fault) → (f ≡ Budget → ⊥)
    → outcome_of p budget s image now ≡ Faulted f → outcome_of p (budget + added) s image now ≡ Faulted f
unfolding outcome_of
fault_more p image now budget added s f other h =
    ap outcome_in (ran_same p image now budget added s f other (fault_is (ran p image now budget s) f h))
