-- The globals whose value a run asks for, which it looks up before it has assigned them itself, and the ill-typed parts that
-- it meets.
use Rattle.std.specs.Prelude.{◌≡◌, pos, ◌+ℤ◌, ℕ, None, Err, IsSome, if◌then◌else◌, map}
use Rattle.st_types.specs.declared.fault.Fault.{Fault}
use Rattle.st_types.specs.Kinds.{greatest}
use Rattle.st_types.specs.Values.{Datum}
use Rattle.st_types.specs.Paths.{Path, same_path}
use Rattle.st_meaning.specs.Failures.{with_missing, with_wrong}
use Rattle.st_meaning.specs.Stores.{Store}
use Rattle.st_meaning.specs.Scopes.{seen}
use Rattle.st_meaning.specs.Runs.{Program, ran_where}

-- a number of the same type that the type does not hold
abbrev pub not_held : Datum → Datum
not_held v = record { kind = v.kind; number = greatest v.kind +ℤ pos 1 }

-- the store without the value at a path: the variable stays, with its type
abbrev pub without_value : Store → Path → Store
without_value s p = map (λ e. if same_path p e.0 then (e.0, not_held e.1) else e) s

-- A run asks for the value of a global or an input if without this value it ends with whatever fault stands for a missing
-- value. Until it looks the path up it runs as it would with the value, since only a look-up of this path meets the missing
-- value; an assignment to the path gives it a value again. A run that never meets it ends the same way for each fault, so
-- not with each of them. The values that a standard block reads of its instance, and those that a call copies from one by
-- =>, are not look-ups.
pub record IsAsked (program : Program) (budget : ℕ) (s image : Store) (now : ℕ) (p : Path) : Type 0 where
  pub of_nobody : p.owner ≡ None
  pub is_there : IsSome (seen image s p)
  pub is_wanted : (f : Fault)
      → ran_where (with_missing f) program (without_value image p) now budget (without_value s p) ≡ Err f

-- The run meets nothing ill typed in its text: it ends the same way whatever fault stands for that.
pub record IsTypedRun (program : Program) (budget : ℕ) (s image : Store) (now : ℕ) : Type 0 where
  pub same : (f g : Fault)
      → ran_where (with_wrong f) program image now budget s ≡ ran_where (with_wrong g) program image now budget s
