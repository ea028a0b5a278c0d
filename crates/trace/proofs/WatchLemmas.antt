-- The stages of a life that grows, and who has seen them.
use Rattle.std.proofs.Common.{◌≡◌, ◌∙◌, ap, sym, refl, subst, List, [], ◌∷◌, ◌++◌, true, false, Result, Ok, Err, is_err, OnOk}
use Rattle.st_types.specs.declared.entry.Entry.{Entry}
use Rattle.serial_core.specs.Steps.{State, grown}
use Rattle.trace.specs.Watching.{HasSeen, stages}

-- one more is seen
pub seen_more : {W S : Type 0} (sees : W → S → W → Type 0) (first before after : W) (lives : List S) (life : S)
    → HasSeen sees first lives before → sees before life after → HasSeen sees first (lives ++ life ∷ []) after
seen_more {W} {S} sees first before after [] life same more =
    (after, subst (λ (w : W). sees w life after) same more, refl)
seen_more sees first before after (l ∷ lives) life (between, saw, others) more =
    (between, saw, seen_more sees between before after lives life others more)

first_of : {S E : Type 0} (grown : S → E → S) (life : S) (log : List E) → (xs : List S) × (stages grown life log ≡ life ∷ xs)
first_of grown life [] = ([], refl)
first_of grown life (e ∷ log) = (stages grown (grown life e) log, refl)

-- the last stage grows by the entry that comes next
pub stages_more : {S E : Type 0} (grown : S → E → S) (life now : S) (log : List E) (entry : E) (before : List S)
    → before ++ now ∷ [] ≡ stages grown life log
    → (before ++ now ∷ []) ++ grown now entry ∷ [] ≡ stages grown life (log ++ entry ∷ [])
stages_more {S} grown life now [] entry [] is =
    let same : now ≡ life = cc in
    ap (λ (s : S). s ∷ grown s entry ∷ []) same
stages_more grown life now [] entry (x ∷ []) is = absurd (cc)
stages_more grown life now [] entry (x ∷ y ∷ before) is = absurd (cc)
stages_more grown life now (e ∷ log) entry [] is =
    let (xs, first) = first_of grown (grown life e) log in
    absurd (cc)
stages_more {S} grown life now (e ∷ log) entry (x ∷ before) is =
    let here : x ≡ life = cc in
    let others : before ++ now ∷ [] ≡ stages grown (grown life e) log = cc in
    let more = stages_more grown (grown life e) now log entry before others in
    ap (λ (s : S). s ∷ ((before ++ now ∷ []) ++ grown now entry ∷ [])) here ∙ ap (λ (ys : List S). life ∷ ys) more

pub life_more : (life now next : State) (entry : Entry) (before : List State) → next ≡ grown now entry
    → before ++ now ∷ [] ≡ stages grown life now.log → (before ++ now ∷ []) ++ next ∷ [] ≡ stages grown life next.log
life_more life now next entry before is so_far =
    subst (λ (s : State). (before ++ now ∷ []) ++ s ∷ [] ≡ stages grown life s.log) (sym is)
    (stages_more grown life now now.log entry before so_far)

-- a fact about a result that isn't an error
pub told : {A E : Type 0} (P : Type 0) (r : Result A E) → is_err r ≡ false → OnOk r P → P
told P (Ok a) is p = p
told P (Err e) is p = let bad : true ≡ false = is in absurd (cc)
