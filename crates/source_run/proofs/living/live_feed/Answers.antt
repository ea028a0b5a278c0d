use Rattle.std.proofs.Common.{inl, inr, refl}
use Rattle.source_run.proofs.living.live_feed.Goals as goal

pub returns : goal.returns
returns g c = inr (
  c.in_ok-core.core,
  record {
    life = c.in_ok-core.ensures.life;
    started = c.in_ok-core.ensures.started;
    begins = c.in_ok-core.ensures.begins;
  },
  c.served-lived.new.core,
  c.served-lived.new.feed,
  c.served-lived.ensures,
)

pub returns-in-Err : goal.returns-in-Err
returns-in-Err g c = inl (_, refl, (refl, λ e. let it = e in cc), refl)
