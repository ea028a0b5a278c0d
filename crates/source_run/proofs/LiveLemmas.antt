-- A life whose rows come.
use Rattle.std.proofs.Common.{◌≡◌, ◌≢◌, ◌∙◌, ℕ, Bool, true, List, [], ◌∷◌, ◌++◌, Option, Some, None, Result, Ok, Err, inl, inr, refl, sym, ap, subst}
use Rattle.std.specs.Prelude.{unwrap_or}
use Rattle.std.specs.Io.KnownBytes.{Appends}
use Rattle.st_types.specs.Values.{Datum}
use Rattle.st_meaning.specs.declared.plan.PlanInput.{PlanInput}
use Rattle.image.specs.Plants.{IsHeader}
use Rattle.image.specs.declared.plant_error.PlantError.TheVariants as plants
use Rattle.plan.specs.declared.plan.Plan.{Plan}
use Rattle.durable_core.specs.Endless.{EndlessView}
use Rattle.live_rows.specs.Lines.{BeginsWith, ReadsLine}
use Rattle.live_rows.specs.RowLines.{headed, line_fields}
use Rattle.live_rows.specs.declared.line_reader.LineEnd.{LineEnd}
use Rattle.live_rows.specs.declared.line_reader.LineEnd.TheVariants.{Whole, TooLong}
use Rattle.live_drive.specs.AnswerLines.{header_line}
use Rattle.live_drive.specs.Outputs.{output_places}
use Rattle.live_drive.specs.Serving.{HasServed}
use Rattle.live_drive.specs.LineFeeds.{EndsLines, GivesLine, HasRead, LineFeedView}
use Rattle.live_drive.specs.TickFeeds.{EndsTicks, GivesTick, HasTicked}
use Rattle.live_drive.specs.declared.feed.FeedEnd.{FeedEnd}
use Rattle.live_drive.specs.declared.feed.Incoming.{Incoming}
use Rattle.live_drive.specs.declared.serving.End.{End}
use Rattle.source_run.specs.LiveRuns.{EndsLived, GoesOn, GoesOnAsAsked, HasHeader, HasNoHeader, IsFeedOf, LivesBy}
use Rattle.source_run.specs.LiveRuns.{ServesAfterHeader, is_before_lives, moments_of}
use Rattle.source_run.specs.declared.living.Lived.{Lived}
use Rattle.source_run.specs.declared.fault.Fault.{Fault}
use Rattle.source_run.specs.declared.fault.Fault.TheVariants.{Plant}
use Rattle.source_run.specs.declared.job.LiveJob.{LiveJob}

-- a line with its line feed is not empty
empty_line : (line rest : List ℕ) → line ++ 10 ∷ rest ≡ [] → ⊥
empty_line [] rest is = absurd (let same = is in cc)
empty_line (byte ∷ line) rest is = absurd (let same = is in cc)

-- no header, if the line that was read is none
pub no_header : (plan : Plan) (job : LiveJob) (bytes left : Option (List ℕ)) (line : List ℕ) (end : Option LineEnd)
    → ((known first other rest behind : List ℕ) (ending finish : LineEnd) → BeginsWith ending first known rest
    → BeginsWith finish other known behind → (ending ≡ finish) × (rest ≡ behind) × (ending ≢ TooLong → first ≡ other))
    → ReadsLine bytes line left end
    → ((end ≡ Some Whole) × IsHeader plan.inputs.items (line_fields (headed (moments_of job) line)) → ⊥)
    → HasNoHeader plan job bytes
no_header plan job None left line end one reads none known header rest is begins names = absurd (let same = is in cc)
no_header plan job (Some bytes) None line end one reads none known header rest is begins names = absurd reads
no_header plan job (Some bytes) (Some left) line None one reads none known header rest is begins names =
    let bytes_are : bytes ≡ known = ap (λ (o : Option (List ℕ)). unwrap_or o []) is in
    absurd (empty_line header rest (sym (sym reads.0 ∙ bytes_are ∙ begins.0)))
no_header plan job (Some bytes) (Some left) line (Some end) one reads none known header rest is begins names =
    let bytes_are : bytes ≡ known = ap (λ (o : Option (List ℕ)). unwrap_or o []) is in
    let (ends_so, rests, lines) = one bytes header line rest left Whole end
    (subst (λ b. BeginsWith Whole header b rest) (sym bytes_are) begins) reads in
    none (
      ap (λ e. Some e) (sym ends_so),
      subst (λ l. IsHeader plan.inputs.items (line_fields (headed (moments_of job) l))) (lines (λ is. absurd (let same = is in cc)))
          names,
    )

module _ {D : Type 0} (tells : Type 0) (left_since : D → D → List ℕ → Type 0) (may_leave : D → List ℕ → Type 0) where
  -- what was served after a header
  pub after_header : {F : Type 0} (came : F → F → Type 0) (gives : List PlanInput → Option ℕ → F → Incoming → Type 0)
      (ended : F → FeedEnd → F → Type 0) (end : End) (first last : EndlessView D) (feed fed : F)
      (sent between sent_now : Option (List ℕ)) (plan : Plan) (outputs places : List ℕ) → plan ≡ first.engine.plan
      → Appends sent between (header_line plan outputs) → places ≡ outputs
      → HasServed places tells left_since may_leave came gives ended end first feed between last fed sent_now
      → ServesAfterHeader tells left_since may_leave came gives ended end first feed outputs sent last fed sent_now
  after_header came gives ended end first last feed fed sent between sent_now plan outputs places is headed same served = record {
    between = between;
    headed = subst (λ (p : Plan). Appends sent between (header_line p outputs)) is headed;
    served = subst (λ p. HasServed p tells left_since may_leave came gives ended end first feed between last fed sent_now) same
        served;
  }

  -- a life over a feed that is the one asked for
  ends_by : {F : Type 0} (came : F → F → Type 0) (gives : List PlanInput → Option ℕ → F → Incoming → Type 0)
      (ended : F → FeedEnd → F → Type 0) (plan : Plan) (job : LiveJob) (bytes rest sent sent_now : Option (List ℕ))
      (result : Result Lived Fault) (feed : F) (outputs : List ℕ) → HasHeader plan job bytes rest
      → (GoesOn tells left_since may_leave came gives ended plan job result feed outputs sent sent_now
      → GoesOnAsAsked tells left_since may_leave job.every plan job rest result sent sent_now)
      → LivesBy tells left_since may_leave came gives ended plan job result feed outputs sent sent_now
      → EndsLived tells left_since may_leave plan job bytes result sent sent_now
  ends_by came gives ended plan job bytes rest sent sent_now (Ok lived) feed outputs header asked (inl (fault, is, early, same)) =
      absurd (let it = is in cc)
  ends_by came gives ended plan job bytes rest sent sent_now (Ok lived) feed outputs header asked (inr goes) =
      record { rest = rest; header = header; goes_on = asked goes }
  ends_by came gives ended plan job bytes rest sent sent_now (Err fault) feed outputs header asked
      (inl (early, is, (why, other), same)) =
      let are : early ≡ fault = let same = is in cc in
      inl (
        same,
        record {
          early = subst (λ f. is_before_lives f ≡ true) are why;
          header = λ it. absurd (other (are ∙ it));
          started = λ cause it. (rest, header);
        },
      )
  ends_by came gives ended plan job bytes rest sent sent_now (Err fault) feed outputs header asked (inr goes) =
      inr record { rest = rest; header = header; goes_on = asked goes }

  pub ends_lines : (plan : Plan) (job : LiveJob) (bytes rest sent sent_now : Option (List ℕ)) (result : Result Lived Fault)
      (feed : LineFeedView) (outputs : List ℕ) → HasHeader plan job bytes rest → job.every ≡ None → IsFeedOf job rest feed
      → outputs ≡ output_places plan
      → LivesBy tells left_since may_leave HasRead GivesLine EndsLines plan job result feed outputs sent sent_now
      → EndsLived tells left_since may_leave plan job bytes result sent sent_now
  ends_lines plan job bytes rest sent sent_now result feed outputs header every of are lives =
      ends_by HasRead GivesLine EndsLines plan job bytes rest sent sent_now result feed outputs header
      (λ goes. subst (λ e. GoesOnAsAsked tells left_since may_leave e plan job rest result sent sent_now) (sym every) (
        feed,
        of,
        subst (λ o. GoesOn tells left_since may_leave HasRead GivesLine EndsLines plan job result feed o sent sent_now) are goes,
      )) lives

  pub ends_ticks : (plan : Plan) (job : LiveJob) (bytes rest sent sent_now : Option (List ℕ)) (result : Result Lived Fault)
      (feed : List Datum) (outputs : List ℕ) (period : ℕ) → HasHeader plan job bytes rest → job.every ≡ Some period
      → outputs ≡ output_places plan
      → LivesBy tells left_since may_leave HasTicked GivesTick EndsTicks plan job result feed outputs sent sent_now
      → EndsLived tells left_since may_leave plan job bytes result sent sent_now
  ends_ticks plan job bytes rest sent sent_now result feed outputs period header every are lives =
      ends_by HasTicked GivesTick EndsTicks plan job bytes rest sent sent_now result feed outputs header
      (λ goes. subst (λ e. GoesOnAsAsked tells left_since may_leave e plan job rest result sent sent_now) (sym every) (
        feed,
        subst (λ o. GoesOn tells left_since may_leave HasTicked GivesTick EndsTicks plan job result feed o sent sent_now) are goes,
      )) lives
