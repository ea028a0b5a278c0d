-- Why the records of a plant can't be read.
use Rattle.std.specs.Prelude.{Bool, true, false, if◌then◌else◌}
use Rattle.std.specs.IoError.{error_kind}
use Rattle.std.specs.declared.io.ErrorKind.{ErrorKind}
use Rattle.std.specs.declared.io.ErrorKind.TheVariants.{OutOfMemory}
use Rattle.csv.specs.declared.error.ErrorKind as records
use Rattle.csv.specs.declared.error.ErrorKind.TheVariants.{Io}
use Rattle.image.specs.declared.plant_error.PlantError.{PlantError}
use Rattle.image.specs.declared.plant_error.PlantError.TheVariants.{Reading, NoMemory}

abbrev pub is_memory : ErrorKind → Bool
is_memory OutOfMemory = true
is_memory kind = false

-- the reader fails, or memory runs out, the reader's too
abbrev pub fault_of : records.ErrorKind → PlantError
fault_of (Io e) = if is_memory (error_kind e) then NoMemory else Reading
fault_of kind = NoMemory
