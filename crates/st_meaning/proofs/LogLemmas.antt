-- A log with one entry more.
use Rattle.std.proofs.Common.{◌≡◌, ℕ, List, [], ◌∷◌, ◌++◌, Option, Some, refl}
use Rattle.std.proofs.lemmas.List.Sums.{fold-append}
use Rattle.st_types.specs.declared.entry.Entry.{Entry}
use Rattle.st_types.specs.Rows.{Latch}
use Rattle.st_meaning.specs.Stores.{Store}
use Rattle.st_meaning.specs.Plans.{Plan}
use Rattle.st_meaning.specs.Logs.{Past, with_entry, beginning, past_of, MayFollow, IsLegal, IsLegalFrom, last_moment}

pub past_of-add : (plan : Plan) (start : Store) (log : List Entry) (e : Entry)
    → past_of plan start (log ++ e ∷ []) ≡ with_entry plan (past_of plan start log) e
past_of-add plan start log e = fold-append (with_entry plan) (beginning start) log (e ∷ [])

legal_from-add : (plan : Plan) (before : Option ℕ) (now : Past) (log : List Entry) (e : Entry)
    → IsLegalFrom plan before now log → MayFollow plan before (Rattle.std.specs.List.fold (with_entry plan) now log) e
    → IsLegalFrom plan before now (log ++ e ∷ [])
legal_from-add plan before now [] e l m = (m, tt)
legal_from-add plan before now (x ∷ log) e l m = (l.0, legal_from-add plan before (with_entry plan now x) log e l.1 m)

pub IsLegal-add : (plan : Plan) (start : Store) (before : Option ℕ) (log : List Entry) (e : Entry)
    → IsLegal plan start before log → MayFollow plan before (past_of plan start log) e
    → IsLegal plan start before (log ++ e ∷ [])
IsLegal-add plan start before log e l m = legal_from-add plan before (beginning start) log e l m

pub last_moment-add : (before : Option ℕ) (rows : List Latch) (row : Latch)
    → last_moment before (rows ++ row ∷ []) ≡ Some row.moment
last_moment-add before [] row = refl
last_moment-add before (x ∷ rows) row = last_moment-add (Some x.moment) rows row
