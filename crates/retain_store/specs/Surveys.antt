-- The results of a survey of the areas of a file.
use Rattle.std.specs.Prelude.{◌≡◌, ◌<◌, ℕ, List, drop, slice_index, ◌==◌, if◌then◌else◌}
use Rattle.retain_store.specs.declared.surveying.Look.{Look}
use Rattle.retain_store.specs.declared.surveying.Look.TheVariants as looks
use Rattle.retain_store.specs.declared.surveying.Choice.{Choice}
use Rattle.retain_store.specs.declared.surveying.Choice.TheVariants as choices
use Rattle.retain_store.specs.declared.area.Gate.{Gate}
use Rattle.retain_store.specs.declared.area.Gate.TheVariants as gates
use Rattle.retain_records.specs.Records.{Content, IsRecordable}
use Rattle.retain_store.specs.Recovered.{Area, Closed, Damaged, Open, gated, Recovered, Nothing, Found, Refused, chosen}

-- the area of these bytes
abbrev pub area_in : List ℕ → Area
area_in bytes = gated (slice_index bytes 0) (drop 1 bytes)

-- the area of this look, with the record that was read there
abbrev pub shown : Look → Content → Area
shown looks.Closed content = Closed
shown looks.Damaged content = Damaged
shown (looks.Open generation) content = Open generation content

-- no record, of generation 0, or the one of this generation
abbrev pub held : ℕ → Content → Recovered
held generation content = if generation == 0 then Nothing else Found generation content

-- a record of a generation, if there is one, is sound
abbrev pub IsRecordableAt : ℕ → Content → Type 0
IsRecordableAt generation content = 0 < generation → IsRecordable content

-- the record that was read of an open area is sound
abbrev pub LooksSound : Look → Content → Type 0
LooksSound (looks.Open generation) content = IsRecordable content
LooksSound other content = Unit {0}

-- the gate of the area of this look
abbrev pub gate_of : Look → Gate
gate_of looks.Closed = gates.Closed
gate_of looks.Damaged = gates.Open
gate_of (looks.Open generation) = gates.Open

-- closed, or of an older generation
abbrev pub LooksOlder : ℕ → Look → Type 0
LooksOlder generation looks.Closed = Unit {0}
LooksOlder generation looks.Damaged = ⊥
LooksOlder generation (looks.Open g) = g < generation

-- this is the area whose record counts
abbrev pub IsChoice : Choice → Look → Look → Type 0
IsChoice choices.Neither first second = (first ≡ looks.Closed) × (second ≡ looks.Closed)
IsChoice (choices.First generation) first second = (first ≡ looks.Open generation) × LooksOlder generation second
IsChoice (choices.Second generation) first second = (second ≡ looks.Open generation) × LooksOlder generation first
IsChoice choices.Refused first second = (a b : Content) → chosen (shown first a) (shown second b) ≡ Refused
