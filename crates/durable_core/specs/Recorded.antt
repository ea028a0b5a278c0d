-- Values as a record knows them.
use Rattle.std.specs.Prelude.{List, [], ◌∷◌, if◌then◌else◌}
use Rattle.st_types.specs.declared.kind.Kind.{Kind}
use Rattle.st_types.specs.declared.kind.Kind.TheVariants.{Enumerated}
use Rattle.st_types.specs.Kinds.{holds}
use Rattle.st_types.specs.Values.{Datum}

-- a record knows an enumerated type by its names alone, so each such type has number 0
abbrev pub recorded_kind : Kind → Kind
recorded_kind (Enumerated names number) = Enumerated names 0
recorded_kind k = k

-- the value as a record knows it
abbrev pub recorded : Datum → Datum
recorded d = record { kind = recorded_kind d.kind; number = d.number }

-- the value with the number of another one, if its type holds that number
abbrev pub renumbered : Datum → Datum → Datum
renumbered d w = if holds d.kind w.number then record { kind = d.kind; number = w.number } else d

-- the values with the numbers of others, in order
abbrev pub all_renumbered : List Datum → List Datum → List Datum
all_renumbered [] ws = []
all_renumbered (d ∷ ds) [] = d ∷ ds
all_renumbered (d ∷ ds) (w ∷ ws) = renumbered d w ∷ all_renumbered ds ws
