-- What comes, one after another.
use Rattle.std.proofs.Common.{◌≡◌, ◌∙◌, ℕ, Bool, true, false, true≢false, List, [], ◌∷◌, ◌++◌, Option, Some, Result, Ok, Err, inl, inr, refl, sym, ap, subst, append_assoc}
use mathlib.Core.List.{append-nil}
use Rattle.st_types.specs.Rows.{Latch}
use Rattle.st_meaning.specs.declared.plan.PlanInput.{PlanInput}
use Rattle.core_engine.specs.Steps.{comes_later}
use Rattle.core_engine.specs.declared.refusal.Refusal.TheVariants as serial
use Rattle.durable_core.specs.Cores.{CoreView, survives}
use Rattle.retain_store.specs.Recovered.{recovered}
use Rattle.durable_core.specs.declared.refusal.Refusal.{Refusal}
use Rattle.durable_core.specs.declared.refusal.Refusal.TheVariants.{Serial, StoreFailed}
use Rattle.durable_core.specs.Endless.{EachCoreGoesOn, EachCoreStays, EndlessView, HasCoreLife, InEachCore, IsCoreOf, core_in}
use Rattle.trace.specs.Puts.{IsPut}
use Rattle.live_drive.specs.AnswerLines.{missed_line, outputs_now}
use Rattle.live_drive.specs.Cycles.{HasSettledLife, Refuses, Serves, Withstands}
use Rattle.std.specs.Prelude.{MatchResult}
use Rattle.std.specs.Io.KnownBytes.{Appends}
use Rattle.std.proofs.KnownBytes.{Appends-nil, Appends-trans}
use Rattle.live_drive.specs.Serving.{AnswersRow, EndsBy, Exchange, Fails, Feeds, HasServed, IsAnswered, ServesAll}
use Rattle.live_drive.specs.Serving.{answers_of, is_late}
use Rattle.live_drive.specs.declared.answers.Missed.TheVariants as missed
use Rattle.live_drive.specs.declared.serving.Answered.{Answered}
use Rattle.live_drive.specs.declared.serving.End.{End}
use Rattle.live_drive.specs.declared.serving.End.TheVariants as ends
use Rattle.live_drive.specs.declared.feed.FeedEnd.{FeedEnd}
use Rattle.live_drive.specs.declared.feed.Incoming.{Incoming}
use Rattle.live_drive.specs.declared.feed.Incoming.TheVariants as came

-- one answer more
pub answers_more : (exchanges : List Exchange) (exchange : Exchange)
    → answers_of (exchanges ++ exchange ∷ []) ≡ answers_of exchanges ++ exchange.answer
answers_more [] exchange = append-nil exchange.answer
answers_more (first ∷ exchanges) exchange =
    ap (λ l. first.answer ++ l) (answers_more exchanges exchange)
    ∙ sym (append_assoc first.answer (answers_of exchanges) exchange.answer)

-- a core after a row that was served has a life in which all has settled
pub settled_life : {D : Type 0} (tells : Type 0) (left_since : D → D → List ℕ → Type 0)
    (may_leave : D → List ℕ → Type 0) (old new : EndlessView D) (row : Latch) → HasCoreLife old
    → EachCoreGoesOn (λ a b. Serves a row b × Withstands tells left_since may_leave a b) old new → HasSettledLife new
settled_life tells left_since may_leave old new row life serves =
    let (start, log, is) = life in
    let (more, s, there) = serves start log is in
    let (done, runs, settled, saved) = s.0 in
    (start, more, there, settled)

-- a row that isn't later leaves each life as it was
pub late_stays : {D : Type 0} (tells : Type 0) (left_since : D → D → List ℕ → Type 0)
    (may_leave : D → List ℕ → Type 0) (old new : EndlessView D) (row : Latch)
    → EachCoreGoesOn (λ a b. Refuses a row (Serial serial.NotLater) b × Withstands tells left_since may_leave a b) old new
    → EachCoreStays (λ a b. (comes_later a.state row ≡ false) × (b ≡ a)) old new
late_stays tells left_since may_leave old new row refuses = λ start log is.
    let (more, s, there) = refuses start log is in
    let (late, same) = s.0 in
    let log_is : more ≡ log = ap (λ (c : CoreView _). c.state.log) same in (
      (late, subst (λ l. core_in new start l ≡ core_in old start log) log_is same),
      subst (λ l. IsCoreOf start l new) log_is there,
    )

module _ (places : List ℕ) {D : Type 0} (tells : Type 0) (left_since : D → D → List ℕ → Type 0)
    (may_leave : D → List ℕ → Type 0) where
  -- a row that was served, and its answer
  pub answers_row : (old new : EndlessView D) (row : Latch) (answer : List ℕ)
      → EachCoreGoesOn (λ a b. Serves a row b × Withstands tells left_since may_leave a b) old new
      → (tells → (file : List ℕ) → may_leave new.store.disk file → InEachCore new (λ c. survives c (recovered file)))
      → InEachCore new (λ core. answer ≡ outputs_now places core.state)
      → AnswersRow places tells left_since may_leave old row answer new
  answers_row old new row answer serves survive shows = λ start log is.
      let (more, s, there) = serves start log is in
      (more, (s.0, s.1, λ t file left. survive t file left start more there, shows start more there), there)

  -- an answer that was sent, or a beginning of it
  pub answered : (old new : EndlessView D) (incoming : Incoming) (answer : List ℕ) (sent sent_now : Option (List ℕ))
      (result : Result Answered End) → IsAnswered places tells left_since may_leave old incoming answer new
      → MatchResult result (λ answered. Appends sent sent_now answer)
      (λ end. (end ≡ ends.Output) × IsPut sent sent_now false answer)
      → MatchResult result
      (λ answered. (answer : List ℕ) × Appends sent sent_now answer
      × IsAnswered places tells left_since may_leave old incoming answer new)
      (λ end. Fails places tells left_since may_leave old incoming sent end new sent_now)
  answered old new incoming answer sent sent_now (Ok how) answers said = (answer, said, answers)
  answered old new incoming answer sent sent_now (Err end) answers said =
      subst (λ e. Fails places tells left_since may_leave old incoming sent e new sent_now) (sym said.0)
      (answer, answers, said.1)

  -- a row that isn't later
  pub answers_late : (old new : EndlessView D) (row : Latch) (moment : ℕ) → moment ≡ row.moment
      → EachCoreStays (λ a b. (comes_later a.state row ≡ false) × (b ≡ a)) old new
      → IsAnswered places tells left_since may_leave old (came.Row row) (missed_line (Some moment) missed.NotLater) new
  answers_late old new row moment is late = inr record {
    late = late;
    says = ap (λ m. missed_line (Some m) missed.NotLater) is;
  }

  module _ {F : Type 0} (came_in : F → F → Type 0) (gives : List PlanInput → Option ℕ → F → Incoming → Type 0)
      (ended : F → FeedEnd → F → Type 0) where
    -- one more is served
    pub serves_more : (exchanges : List Exchange) (exchange : Exchange) (old mid new : EndlessView D) (feed then fed : F)
        → ServesAll places tells left_since may_leave came_in gives ended exchanges old feed mid then
        → Feeds came_in gives mid then exchange.incoming fed
        → IsAnswered places tells left_since may_leave mid exchange.incoming exchange.answer new
        → ServesAll places tells left_since may_leave came_in gives ended (exchanges ++ exchange ∷ []) old feed new fed
    serves_more [] exchange old mid new feed then fed serves feeds answers = (
      new,
      fed,
      subst (λ f. Feeds came_in gives old f exchange.incoming fed) serves.1
          (subst (λ (c : EndlessView D). Feeds came_in gives c then exchange.incoming fed)
          serves.0 feeds),
      subst (λ (c : EndlessView D). IsAnswered places tells left_since may_leave c exchange.incoming exchange.answer new) serves.0
          answers,
      (refl, refl),
    )
    serves_more (first ∷ exchanges) exchange old mid new feed then fed serves feeds answers = (
      serves.0,
      serves.1,
      serves.2,
      serves.3,
      serves_more exchanges exchange serves.0 mid new serves.1 then fed serves.4 feeds answers,
    )

    -- some was served, and its answers have gone out
    pub record Reached (old : EndlessView D) (feed : F) (sent : Option (List ℕ)) (now : EndlessView D) (then : F)
        (sent_now : Option (List ℕ)) : Type 0 where
      pub exchanges : List Exchange
      pub serves : ServesAll places tells left_since may_leave came_in gives ended exchanges old feed now then
      pub sends : Appends sent sent_now (answers_of exchanges)

    pub reached_none : (old : EndlessView D) (feed : F) (sent : Option (List ℕ)) → Reached old feed sent old feed sent
    reached_none old feed sent = record { exchanges = []; serves = (refl, refl); sends = Appends-nil sent }

    pub reached_more : (old mid new : EndlessView D) (feed then fed : F) (sent sent_mid sent_now : Option (List ℕ))
        (incoming : Incoming) (answer : List ℕ) → Reached old feed sent mid then sent_mid
        → Feeds came_in gives mid then incoming fed
        → IsAnswered places tells left_since may_leave mid incoming answer new → Appends sent_mid sent_now answer
        → Reached old feed sent new fed sent_now
    reached_more old mid new feed then fed sent sent_mid sent_now incoming answer r feeds answers sends =
        let exchange : Exchange = record { incoming = incoming; answer = answer } in
        record {
          exchanges = r.exchanges ++ exchange ∷ [];
          serves = serves_more r.exchanges exchange old mid new feed then fed r.serves feeds answers;
          sends = subst (λ l. Appends sent sent_now l) (sym (answers_more r.exchanges exchange))
              (Appends-trans sent sent_mid sent_now (answers_of r.exchanges) answer r.sends sends);
        }

    -- serving has come to its end
    pub served : (end : End) (old mid new : EndlessView D) (feed then fed : F) (sent sent_mid sent_now : Option (List ℕ))
        → Reached old feed sent mid then sent_mid
        → EndsBy places tells left_since may_leave came_in gives ended end mid then sent_mid new fed sent_now
        → HasServed places tells left_since may_leave came_in gives ended end old feed sent new fed sent_now
    served end old mid new feed then fed sent sent_mid sent_now r ends_so = record {
      exchanges = r.exchanges;
      mid = mid;
      then = then;
      sent_mid = sent_mid;
      serves = r.serves;
      sends = r.sends;
      ends = ends_so;
    }

    -- what has no answer
    pub failed : (end : End) (old mid new : EndlessView D) (feed then fed : F) (sent sent_mid sent_now : Option (List ℕ))
        (incoming : Incoming) → Reached old feed sent mid then sent_mid
        → Feeds came_in gives mid then incoming fed
        → Fails places tells left_since may_leave mid incoming sent_mid end new sent_now
        → HasServed places tells left_since may_leave came_in gives ended end old feed sent new fed sent_now
    failed ends.Output old mid new feed then fed sent sent_mid sent_now incoming r feeds fails =
        let (answer, answers, put) = fails in
        served ends.Output old mid new feed then fed sent sent_mid sent_now r
        (record { incoming = incoming; answer = answer }, feeds, answers, put)
    failed (ends.Life refusal) old mid new feed then fed sent sent_mid sent_now (came.Row row) r feeds fails =
        served (ends.Life refusal) old mid new feed then fed sent sent_mid sent_now r (row, feeds, fails.0, fails.1)
    failed (ends.Life refusal) old mid new feed then fed sent sent_mid sent_now (came.NoRow moment) r feeds fails =
        absurd fails
    failed (ends.Life refusal) old mid new feed then fed sent sent_mid sent_now (came.Old moment) r feeds fails =
        absurd fails
    failed (ends.Feed end) old mid new feed then fed sent sent_mid sent_now (came.Row row) r feeds fails = absurd fails
    failed (ends.Feed end) old mid new feed then fed sent sent_mid sent_now (came.NoRow moment) r feeds fails = absurd fails
    failed (ends.Feed end) old mid new feed then fed sent sent_mid sent_now (came.Old moment) r feeds fails = absurd fails
    failed ends.NoMemory old mid new feed then fed sent sent_mid sent_now (came.Row row) r feeds fails = absurd fails
    failed ends.NoMemory old mid new feed then fed sent sent_mid sent_now (came.NoRow moment) r feeds fails = absurd fails
    failed ends.NoMemory old mid new feed then fed sent sent_mid sent_now (came.Old moment) r feeds fails = absurd fails

-- K4 is that refusal
pub late_is : (refusal : Refusal) → is_late refusal ≡ true → refusal ≡ Serial serial.NotLater
late_is (Serial serial.NotLater) so = refl
late_is (Serial serial.Full) so = absurd (true≢false (sym so))
late_is (Serial serial.NotWaiting) so = absurd (true≢false (sym so))
late_is (Serial serial.Foreign) so = absurd (true≢false (sym so))
late_is (Serial serial.NoMemory) so = absurd (true≢false (sym so))
late_is (StoreFailed cause) so = absurd (true≢false (sym so))
