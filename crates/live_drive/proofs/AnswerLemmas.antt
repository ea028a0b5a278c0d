-- The line of outputs.
use Rattle.std.proofs.Common.{◌≡◌, ◌∙◌, ℕ, Bool, true, List, [], Option, Result, Ok, Err, map, ap, refl, subst, sym}
use mathlib.Core.List.{append-nil}
use Rattle.std.specs.Io.KnownBytes.{Appends, Keeps}
use Rattle.std.proofs.KnownBytes.{Appends-kept, Appends-nil}
use Rattle.trace.specs.Puts.{IsPut, Puts}
use Rattle.std.specs.Prelude.{IsErr, unwrap_or}
use Rattle.st_types.specs.Values.{Datum}
use Rattle.st_meaning.specs.Logs.{last_moment}
use Rattle.core_engine.specs.Steps.{past_in}
use Rattle.durable_core.specs.Endless.{EndlessView, InEachCore, core_in}
use Rattle.live_drive.specs.AnswerLines.{Sends, outputs_line, outputs_now}

-- the line of a moment and values that are those of each life
pub shown : {D : Type 0} (core : EndlessView D) (places : List ℕ) (moment : ℕ) (last : Option ℕ) (values : List Datum)
    → moment ≡ unwrap_or last 0
    → InEachCore core (λ core. last ≡ last_moment core.state.before (past_in core.state).rows)
    → InEachCore core (λ core. values ≡ map (λ e. e.1) (past_in core.state).store)
    → InEachCore core (λ core. outputs_line moment values places ≡ outputs_now places core.state)
shown core places moment last values is lasts are = λ start log life.
    let state = (core_in core start log).state in
    let now = unwrap_or (last_moment state.before (past_in state).rows) 0 in
    let m : moment ≡ now = is ∙ ap (λ o. unwrap_or o 0) (lasts start log life) in
    ap (λ n. outputs_line n values places) m ∙ ap (λ v. outputs_line now v places) (are start log life)

-- a line that was put, or a beginning of it
pub line_put : (old new : Option (List ℕ)) (is : Bool) (bytes line : List ℕ) → bytes ≡ line → Puts old true new is bytes
    → IsPut old new is line
line_put old new is bytes line same puts = subst (λ l. IsPut old new is l) same (puts old [] (Appends-nil old))

-- and then it is handed on
pub line_sent : {E : Type 0} (old mid new : Option (List ℕ)) (line : List ℕ) (result : Result (Unit {0}) E)
    → Appends old mid line → Keeps mid new → Sends result old new line
line_sent old mid new line (Ok u) puts keeps = Appends-kept old mid new line puts keeps
line_sent old mid new line (Err e) puts keeps =
    (line, [], sym (append-nil line), Appends-kept old mid new line puts keeps)

-- nothing was sent
pub line_unsent : {E : Type 0} (old : Option (List ℕ)) (line : List ℕ) (result : Result (Unit {0}) E) → IsErr result
    → Sends result old old line
line_unsent old line (Ok u) fails = absurd (let same = fails in cc)
line_unsent old line (Err e) fails = ([], line, refl, Appends-nil old)
