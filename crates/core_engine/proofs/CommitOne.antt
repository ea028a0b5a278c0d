-- A commit in one step.
use Rattle.std.proofs.Common.{◌≡◌, ◌∙◌, true, false, Ok, sym, ap, subst}
use Rattle.st_types.specs.declared.entry.Entry.TheVariants.{Done}
use Rattle.st_types.specs.declared.entry.Activation.{Activation}
use Rattle.st_meaning.specs.declared.outcome.Outcome.{Outcome}
use Rattle.slot_run.specs.Effects.{Effect}
use Rattle.core_engine.specs.declared.refusal.Answer.{Answer}
use Rattle.core_engine.specs.declared.refusal.Answer.TheVariants.{Committed, Stale}
use Rattle.core_engine.specs.Steps.{State, Commits, grown, reads_are_current}
use Rattle.core_engine.specs.Quick.{CommitsOne, EndsAs}

-- of an execution whose reads are current, and that is committed
pub one_appended : (old new : State) (effect : Effect) (a : Activation) (o : Outcome) (answer : Answer)
    → effect.activation ≡ a → o ≡ effect.outcome → reads_are_current old effect ≡ true
    → Commits old effect (Ok answer) new → EndsAs old effect.activation effect.outcome → CommitsOne old a (Ok o) new
one_appended old new effect a o (Committed n) same ended current step ends = (
  step.0.0,
  step.1 ∙ ap (λ (b : Activation). grown old (Done b)) same,
  subst (λ (b : Activation). EndsAs old b o) same (subst (EndsAs old effect.activation) (sym ended) ends),
)
one_appended old new effect a o Stale same ended current step ends =
    let both : false ≡ true = sym step.0.3 ∙ current in absurd (cc)
