-- What comes, one after another, and its answers.
use Rattle.std.specs.Prelude.{◌≡◌, ◌⊎◌, ◌++◌, ℕ, Bool, true, false, List, [], ◌∷◌, Option, Some}
use Rattle.std.specs.Io.KnownBytes.{Appends}
use Rattle.st_types.specs.Rows.{Latch}
use Rattle.st_meaning.specs.Logs.{last_moment}
use Rattle.st_meaning.specs.declared.plan.PlanInput.{PlanInput}
use Rattle.core_engine.specs.Steps.{comes_later, past_in}
use Rattle.core_engine.specs.declared.refusal.Refusal.TheVariants as serial
use Rattle.durable_core.specs.declared.refusal.Refusal.{Refusal}
use Rattle.durable_core.specs.declared.refusal.Refusal.TheVariants.{Serial}
use Rattle.durable_core.specs.Cores.{survives}
use Rattle.retain_store.specs.Recovered.{recovered}
use Rattle.durable_core.specs.Endless.{EndlessView, EachCoreGoesOn, EachCoreStays, InEachCore}
use Rattle.trace.specs.Puts.{IsPut}
use Rattle.live_drive.specs.Cycles.{Refuses, Serves, Withstands}
use Rattle.live_drive.specs.AnswerLines.{missed_line, outputs_now}
use Rattle.live_drive.specs.declared.answers.Missed.TheVariants as missed
use Rattle.live_drive.specs.declared.serving.End.{End}
use Rattle.live_drive.specs.declared.serving.End.TheVariants as ends
use Rattle.live_drive.specs.declared.feed.FeedEnd.{FeedEnd}
use Rattle.live_drive.specs.declared.feed.Incoming.{Incoming}
use Rattle.live_drive.specs.declared.feed.Incoming.TheVariants as came

-- what came, and what went out for it
pub record Exchange : Type 0 where
  pub incoming : Incoming
  pub answer : List ℕ

-- what goes out in all
abbrev pub answers_of : List Exchange → List ℕ
answers_of [] = []
answers_of (exchange ∷ exchanges) = exchange.answer ++ answers_of exchanges

-- An answer to a row that isn't later: the life stays as it was.
pub record AnswersLate {D : Type 0} (old : EndlessView D) (row : Latch) (answer : List ℕ) (new : EndlessView D)
    : Type 0 where
  pub late : EachCoreStays (λ a b. (comes_later a.state row ≡ false) × (b ≡ a)) old new
  pub says : answer ≡ missed_line (Some row.moment) missed.NotLater

-- a row is refused because its moment isn't later (K4): the life stays as it was, and goes on
abbrev pub is_late : Refusal → Bool
is_late (Serial serial.NotLater) = true
is_late other = false

-- the last moment of a core: of its last row, or the one that its first row has to be later than
abbrev pub IsLastMoment : {D : Type 0} → EndlessView D → Option ℕ → Type 0
IsLastMoment core last = InEachCore core (λ core. last ≡ last_moment core.state.before (past_in core.state).rows)

-- a feed gives this next, after the last moment of the core
pub record Feeds {D F : Type 0} (came_in : F → F → Type 0) (gives : List PlanInput → Option ℕ → F → Incoming → Type 0)
    (core : EndlessView D) (feed : F) (incoming : Incoming) (fed : F) : Type 0 where
  pub arrives : came_in feed fed
  pub last : Option ℕ
  pub is_last : IsLastMoment core last
  pub is : gives core.engine.plan.inputs.items last fed incoming

-- Of outputs at these places, and of a disk by what it reports of a stop.
module _ (places : List ℕ) {D : Type 0} (tells : Type 0) (left_since : D → D → List ℕ → Type 0)
    (may_leave : D → List ℕ → Type 0) where
  -- An answer with outputs: they are those of the life once the row has settled and all is acknowledged. A stop at any
  -- moment until then leaves a file that holds all that was acknowledged before, and a stop after it one that holds all.
  abbrev pub AnswersRow : EndlessView D → Latch → List ℕ → EndlessView D → Type 0
  AnswersRow old row answer new = EachCoreGoesOn (λ a b. Serves a row b × Withstands tells left_since may_leave a b
      × (tells → (file : List ℕ) → may_leave b.store.disk file → survives b (recovered file))
      × (answer ≡ outputs_now places b.state)) old new

  -- How it is answered: a row by its outputs, or as one that isn't later; a line that spells no row, and an old row, by the
  -- reason, and then the life stays as it was.
  abbrev pub IsAnswered : EndlessView D → Incoming → List ℕ → EndlessView D → Type 0
  IsAnswered old (came.Row row) answer new = AnswersRow old row answer new ⊎ AnswersLate old row answer new
  IsAnswered old (came.NoRow moment) answer new = (new ≡ old) × (answer ≡ missed_line moment missed.NoRow)
  IsAnswered old (came.Old moment) answer new = (new ≡ old) × (answer ≡ missed_line (Some moment) missed.Newer)

  -- A row ends its life with this refusal, which isn't one that leaves the life as it was. A stop at any moment leaves a
  -- file that holds all that was acknowledged before.
  abbrev pub BreaksRow : EndlessView D → Latch → Refusal → EndlessView D → Type 0
  BreaksRow old row refusal new = (is_late refusal ≡ false)
      × EachCoreGoesOn (λ a b. Refuses a row refusal b × Withstands tells left_since may_leave a b) old new

  -- Why it has no answer: it is a row that ended the life, and nothing went out; or only a beginning of its answer did.
  abbrev pub Fails : EndlessView D → Incoming → Option (List ℕ) → End → EndlessView D → Option (List ℕ) → Type 0
  Fails old incoming sent ends.Output new sent_now =
      (answer : List ℕ) × IsAnswered old incoming answer new × IsPut sent sent_now false answer
  Fails old (came.Row row) sent (ends.Life refusal) new sent_now = BreaksRow old row refusal new × (sent_now ≡ sent)
  Fails old incoming sent end new sent_now = ⊥

  -- Of a feed by what it says of what comes, and of its end.
  module _ {F : Type 0} (came_in : F → F → Type 0) (gives : List PlanInput → Option ℕ → F → Incoming → Type 0)
      (ended : F → FeedEnd → F → Type 0) where
    -- What comes is answered, one after another.
    abbrev pub ServesAll : List Exchange → EndlessView D → F → EndlessView D → F → Type 0
    ServesAll [] old feed new fed = (new ≡ old) × (fed ≡ feed)
    ServesAll (exchange ∷ exchanges) old feed new fed = (mid : EndlessView D) × (then : F)
        × Feeds came_in gives old feed exchange.incoming then × IsAnswered old exchange.incoming exchange.answer mid
        × ServesAll exchanges mid then new fed

    -- How serving ends once some was answered. At the end of the feed, or if memory runs out for what came, the life stays
    -- as it was and nothing more goes out. Or a row ends the life, without an answer. Or only a beginning of an answer went
    -- out.
    abbrev pub EndsBy : End → EndlessView D → F → Option (List ℕ) → EndlessView D → F → Option (List ℕ) → Type 0
    EndsBy (ends.Feed end) old feed sent new fed sent_now = (new ≡ old) × (sent_now ≡ sent) × ended feed end fed
    EndsBy ends.NoMemory old feed sent new fed sent_now = (new ≡ old) × (sent_now ≡ sent) × came_in feed fed
    EndsBy (ends.Life refusal) old feed sent new fed sent_now = (row : Latch) × Feeds came_in gives old feed (came.Row row) fed
        × BreaksRow old row refusal new × (sent_now ≡ sent)
    EndsBy ends.Output old feed sent new fed sent_now = (exchange : Exchange) × Feeds came_in gives old feed exchange.incoming fed
        × IsAnswered old exchange.incoming exchange.answer new × IsPut sent sent_now false exchange.answer

    -- Serving: what comes is answered, one after another, and then it ends so.
    pub record HasServed (end : End) (old : EndlessView D) (feed : F) (sent : Option (List ℕ)) (new : EndlessView D)
        (fed : F) (sent_now : Option (List ℕ)) : Type 0 where
      pub exchanges : List Exchange
      pub mid : EndlessView D
      pub then : F
      pub sent_mid : Option (List ℕ)
      pub serves : ServesAll exchanges old feed mid then
      pub sends : Appends sent sent_mid (answers_of exchanges)
      pub ends : EndsBy end mid then sent_mid new fed sent_now
