use Rattle.st_meaning.proofs.BestLemmas.{none_sooner}
use Rattle.st_meaning.proofs.plan_laws.one_activation_is_best.Goals as goal

pub returns : goal.returns
returns c =
    λ schedules h resource a b x y. none_sooner schedules a b (y.best a x.waits x.here) (x.best b y.waits y.here)
