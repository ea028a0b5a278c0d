-- The code of each cause that ends a job, and the place in the source that is reported with it.
use Rattle.std.specs.Prelude.{ℕ, Option, Some, None}
use Rattle.st_lex.specs.declared.fault.LexFault.{LexFault}
use Rattle.st_lex.specs.declared.fault.LexFault.TheVariants as words
use Rattle.st_lex.specs.declared.fault.LexError.{LexError}
use Rattle.st_lex.specs.declared.fault.LexError.TheVariants as lexing
use Rattle.st_parse.specs.declared.fault.ParseError.{ParseError}
use Rattle.st_parse.specs.declared.fault.ParseError.TheVariants as grammar
use Rattle.st_rules.specs.declared.rule.Rule.{Rule}
use Rattle.st_rules.specs.Reasons.{rule_of}
use Rattle.st_rules.specs.declared.rule.Rule.TheVariants as rules
use Rattle.st_decl.specs.declared.judging.CheckError.{CheckError}
use Rattle.st_decl.specs.declared.judging.CheckError.TheVariants as checking
use Rattle.config.specs.declared.configuration_error.ConfigurationError.{ConfigurationError}
use Rattle.config.specs.declared.configuration_error.ConfigurationError.TheVariants as configurations
use Rattle.layout.specs.declared.layout_error.LayoutError.{LayoutError}
use Rattle.layout.specs.declared.layout_error.LayoutError.TheVariants as layouts
use Rattle.st_compile.specs.declared.compile_error.CompileError.{CompileError}
use Rattle.st_compile.specs.declared.compile_error.CompileError.TheVariants as coding
use Rattle.config.specs.declared.build_error.BuildError.{BuildError}
use Rattle.config.specs.declared.build_error.BuildError.TheVariants as building
use Rattle.image.specs.declared.plant_error.PlantError.{PlantError}
use Rattle.image.specs.declared.plant_error.PlantError.TheVariants as plants
use Rattle.trace.specs.declared.trace_error.ReplayError.{ReplayError}
use Rattle.trace.specs.declared.trace_error.ReplayError.TheVariants as replays
use Rattle.retain_store.specs.declared.fault.StoreFault.{StoreFault}
use Rattle.retain_store.specs.declared.fault.StoreFault.TheVariants as stores
use Rattle.core_engine.specs.declared.refusal.Refusal.{Refusal as SerialRefusal}
use Rattle.core_engine.specs.declared.refusal.Refusal.TheVariants as steps
use Rattle.durable_core.specs.declared.refusal.Refusal.{Refusal}
use Rattle.durable_core.specs.declared.refusal.Refusal.TheVariants as calls
use Rattle.durable_core.specs.declared.refusal.StartFault.{StartFault}
use Rattle.durable_core.specs.declared.refusal.StartFault.TheVariants as starts
use Rattle.run_lock.specs.declared.phase.RunFault.{RunFault}
use Rattle.run_lock.specs.declared.phase.RunFault.TheVariants as runs
use Rattle.source_run.specs.declared.fault.Fault.{Fault}
use Rattle.source_run.specs.declared.fault.Fault.TheVariants as faults
use Rattle.source_run.specs.declared.code.Code.{Code}
use Rattle.source_run.specs.declared.code.Code.TheVariants.{L1, L2, L3, L4, L5, L6, P1, P2, P3, C1, C2, C3, C4, C5, C6}
use Rattle.source_run.specs.declared.code.Code.TheVariants.{C7, C8, C9, C10, C11, C12, C13, G2, G3, G4, G5, G6, G7, G8}
use Rattle.source_run.specs.declared.code.Code.TheVariants.{G9, M1, M2, M3, X1, I1, I2, I3, I4, I5, I6, V1, V2, V3, V4}
use Rattle.source_run.specs.declared.code.Code.TheVariants.{V5, V6, S1, S2, S3, S4, S5, S6, N2, K1, K2, K3, K4, K5}
use Rattle.source_run.specs.declared.code.Code.TheVariants.{K6, H1, H2, V7}

abbrev pub code_of_word : LexFault → Code
code_of_word words.Byte = L1
code_of_word words.Literal = L2
code_of_word words.Identifier = L3
code_of_word words.Comment = L4

abbrev pub code_of_words : LexError → Code
code_of_words (lexing.Fault fault place) = code_of_word fault
code_of_words lexing.TooLong = L5
code_of_words lexing.Memory = L6

abbrev pub code_of_grammar : ParseError → Code
code_of_grammar (grammar.Unexpected place) = P1
code_of_grammar grammar.Deep = P2
code_of_grammar grammar.Memory = P3

abbrev pub code_of_rule : Rule → Code
code_of_rule rules.UnknownName = C1
code_of_rule rules.DeclaredTwice = C2
code_of_rule rules.WrongType = C3
code_of_rule rules.OutOfRange = C4
code_of_rule rules.NotAssignable = C5
code_of_rule rules.TooDeep = C6
code_of_rule rules.WrongLabel = C7
code_of_rule rules.WrongBounds = C8
code_of_rule rules.ExitOutsideLoop = C9
code_of_rule rules.WrongArguments = C10
code_of_rule rules.RetainedAddress = C11
code_of_rule rules.TooManyNames = C13

abbrev pub code_of_check : CheckError → Code
code_of_check (checking.Broken broken) = code_of_rule (rule_of broken.reason)
code_of_check checking.OutOfMemory = C12

abbrev pub code_of_configuration : ConfigurationError → Code
code_of_configuration configurations.NotOne = G2
code_of_configuration configurations.Unknown = G3
code_of_configuration configurations.WrongAddress = G4
code_of_configuration configurations.TooMany = G5
code_of_configuration configurations.WithoutTask = G8
code_of_configuration configurations.OutOfMemory = G9

abbrev pub code_of_layout : LayoutError → Code
code_of_layout layouts.TooLarge = M1
code_of_layout layouts.OutOfMemory = M3

-- no text gets the error that a tree is not linked
abbrev pub code_of_code : CompileError → Code
code_of_code coding.TooManyPlaces = M1
code_of_code coding.TooManyInstructions = M2
code_of_code coding.OutOfMemory = M3
code_of_code coding.NotLinked = M3

abbrev pub code_of_build : BuildError → Code
code_of_build building.Budget = G7
code_of_build (building.Words error) = code_of_words error
code_of_build (building.Grammar error) = code_of_grammar error
code_of_build (building.Rule error) = code_of_check error
code_of_build (building.Configuration error) = code_of_configuration error
code_of_build (building.Layout error) = code_of_layout error
code_of_build (building.Code error) = code_of_code error
code_of_build building.RecordTooLong = G6
code_of_build building.Memory = G9

abbrev pub code_of_plant : PlantError → Code
code_of_plant plants.Header = I1
code_of_plant plants.Field = I2
code_of_plant plants.NotLater = I3
code_of_plant plants.TooManyRows = I4
code_of_plant plants.Reading = I5
code_of_plant plants.NoMemory = I6

abbrev pub code_of_trace : ReplayError → Code
code_of_trace replays.Form = V1
code_of_trace replays.Row = V2
code_of_trace replays.NotWaiting = V3
code_of_trace replays.Outcome = V4
code_of_trace replays.NoMemory = V5
code_of_trace replays.Device = V6
code_of_trace replays.Order = V7

abbrev pub code_of_store : StoreFault → Code
code_of_store stores.TooLong = S1
code_of_store stores.Damaged = S2
code_of_store stores.Device = S3
code_of_store stores.Generations = S4
code_of_store stores.NoMemory = S5
code_of_store stores.Failed = S6

abbrev pub code_of_start : StartFault → Code
code_of_start (starts.Store fault) = code_of_store fault
code_of_start starts.NoMemory = N2

abbrev pub code_of_step : SerialRefusal → Code
code_of_step steps.Full = K1
code_of_step steps.NotWaiting = K2
code_of_step steps.Foreign = K3
code_of_step steps.NotLater = K4
code_of_step steps.NoMemory = K6

abbrev pub code_of_call : Refusal → Code
code_of_call (calls.StoreFailed cause) = K5
code_of_call (calls.Serial refusal) = code_of_step refusal

abbrev pub code_of_run : RunFault → Code
code_of_run (runs.Refused refusal) = code_of_call refusal
code_of_run runs.NotStarted = H1
code_of_run runs.NotSettled = H2

abbrev pub code_of : Fault → Code
code_of faults.Source = X1
code_of (faults.Build error) = code_of_build error
code_of (faults.Plant error) = code_of_plant error
code_of (faults.Trace error) = code_of_trace error
code_of (faults.Start fault) = code_of_start fault
code_of (faults.Run fault) = code_of_run fault

-- the place in the source, counted in bytes from 0, if one is reported

abbrev pub place_of_words : LexError → Option ℕ
place_of_words (lexing.Fault fault place) = Some place
place_of_words lexing.TooLong = Some 0
place_of_words lexing.Memory = None

abbrev pub place_of_grammar : ParseError → Option ℕ
place_of_grammar (grammar.Unexpected place) = Some place
place_of_grammar grammar.Deep = None
place_of_grammar grammar.Memory = None

abbrev pub place_of_check : CheckError → Option ℕ
place_of_check (checking.Broken broken) = Some broken.place
place_of_check checking.OutOfMemory = None

abbrev pub place_of_build : BuildError → Option ℕ
place_of_build (building.Words error) = place_of_words error
place_of_build (building.Grammar error) = place_of_grammar error
place_of_build (building.Rule error) = place_of_check error
place_of_build other = None

abbrev pub place_of : Fault → Option ℕ
place_of (faults.Build error) = place_of_build error
place_of other = None
