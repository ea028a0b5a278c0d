-- Each part of a text takes tokens.
use Rattle.std.proofs.Common.{ℕ, ◌<◌, List, length, arith}
use Rattle.st_types.specs.declared.identifier.Identifier.{Identifier}
use Rattle.st_types.specs.declared.data_type.ArrayType.{ArrayType}
use Rattle.st_types.specs.declared.data_type.VariableType.{VariableType}
use Rattle.st_types.specs.declared.declaration.Section.{Section}
use Rattle.st_types.specs.declared.configuration.Task.{Task}
use Rattle.st_types.specs.declared.configuration.Instance.{Instance}
use Rattle.st_types.specs.Initials.{Initial}
use Rattle.st_types.specs.Declarations.{Field, TypeDefinition, TypeDeclaration, Declaration, VariableBlock}
use Rattle.st_types.specs.Units.{OrganisationUnit}
use Rattle.st_types.specs.Configurations.{GlobalNames, GlobalDeclaration, GlobalBlock, Resource, Configuration}
use Rattle.st_types.specs.Sources.{LibraryElement}
use Rattle.st_parse.specs.Tokens.{Tokens, name}
use Rattle.st_parse.proofs.ExpressionFacts.{is_less}
use Rattle.st_parse.proofs.StatementFacts.{number_less, stmts_less}
use Rattle.st_parse.proofs.SoundInitials.{initial_less}
use Rattle.st_parse.specs.Types.{IsArray, IsType, plain, IsGiven, given, IsField, field, IsDefinition, structure}
use Rattle.st_parse.specs.Types.{enumeration}
use Rattle.st_parse.specs.Types.{IsTypeDeclaration, declared, IsTypes, block as types_block}
use Rattle.st_parse.specs.Types as t
use Rattle.st_parse.specs.Units as u
use Rattle.st_parse.specs.Units.{IsDeclaration, IsExternal, IsFunctionSection, IsOwnSection, IsBlockSection}
use Rattle.st_parse.specs.Units.{IsExternalSection, IsBlock, IsProgramBlock, IsFunctionBlockBlock, IsUnit}
use Rattle.st_parse.specs.Configurations as c
use Rattle.st_parse.specs.Configurations.{IsGlobalNames, IsGlobal, IsGlobalBlock, IsSingle, IsInterval, IsTask, IsWith}
use Rattle.st_parse.specs.Configurations.{IsInstance, IsResource, IsConfiguration}
use Rattle.st_parse.specs.Sources as s
use Rattle.st_parse.specs.Sources.{IsLibraryElement}
use Rattle.st_parse.proofs.SoundParts.{many_less, several_less, listed_less, optional_less, token_less}

pub array_less : {ts us : Tokens} {a : ArrayType} → IsArray ts a us → length us < length ts
array_less (t.array at l h x i b n r m e o p eq) =
    let a' = is_less i in let b' = is_less b.1 in let c' = number_less n in let d' = is_less r.1 in
    let e' = number_less m in let f' = is_less e.1 in let g' = is_less o.1 in let h' = is_less p in omega arith

pub type_less : {ts us : Tokens} {t : VariableType} → IsType ts t us → length us < length ts
type_less (t.plain x i eq) = is_less i
type_less (t.array a i eq) = array_less i

pub given_less : (ts : Tokens) (v : Initial) (us : Tokens) → IsGiven ts v us → length us < length ts
given_less rs v vs (given a i) = let a' = is_less a.1 in let b' = initial_less i in omega arith

pub field_less : (ts : Tokens) (f : Field) (us : Tokens) → IsField ts f us → length us < length ts
field_less rs f vs (field x t v n c ty g s eq) = let a' = is_less n in let b' = is_less c.1 in let c' = type_less ty in
    let d' = optional_less given_less g in let e' = is_less s.1 in omega arith

pub definition_less : {ts us : Tokens} {t : TypeDefinition} → IsDefinition ts t us → length us < length ts
definition_less (t.array a i eq) = array_less i
definition_less (structure fs s i e eq) = let a' = is_less s.1 in let b' = several_less field_less i in
    let c' = is_less e.1 in omega arith
definition_less (enumeration xs s i e eq) = let a' = is_less s.1 in let b' = listed_less (token_less name) i in
    let c' = is_less e.1 in omega arith

pub type_declaration_less : (ts : Tokens) (t : TypeDeclaration) (us : Tokens) → IsTypeDeclaration ts t us
    → length us < length ts
type_declaration_less rs t vs (declared x d n c i s eq) = let a' = is_less n in let b' = is_less c.1 in
    let c' = definition_less i in let d' = is_less s.1 in omega arith

pub types_less : {ts us : Tokens} {xs : List TypeDeclaration} → IsTypes ts xs us → length us < length ts
types_less (types_block b i e) = let a' = is_less b.1 in let b' = several_less type_declaration_less i in
    let c' = is_less e.1 in omega arith

pub declaration_less : (ts : Tokens) (d : Declaration) (us : Tokens) → IsDeclaration ts d us → length us < length ts
declaration_less rs d vs (u.declared xs t v n c ty g s eq) = let a' = listed_less (token_less name) n in let b' =
    is_less c.1 in let c' = type_less ty in let d' = optional_less given_less g in let e' = is_less s.1 in omega arith

pub external_less : (ts : Tokens) (d : Declaration) (us : Tokens) → IsExternal ts d us → length us < length ts
external_less rs d vs (u.external xs t n c ty s eq) = let a' = listed_less (token_less name) n in
    let b' = is_less c.1 in let c' = type_less ty in let e' = is_less s.1 in omega arith

pub function_section_less : (ts : Tokens) (s : Section) (us : Tokens) → IsFunctionSection ts s us
    → length us < length ts
function_section_less rs s vs (u.input i eq) = is_less i.1
function_section_less rs s vs (u.own i eq) = is_less i.1
function_section_less rs s vs (u.constant i k eq) = let a' = is_less i.1 in let b' = is_less k.1 in omega arith

pub own_section_less : (ts : Tokens) (s : Section) (us : Tokens) → IsOwnSection ts s us → length us < length ts
own_section_less rs s vs (u.own o i k eq) = let a' = is_less i.1 in let b' = optional_less (token_less u.retention) k in
    omega arith
own_section_less rs s vs (u.constant i k eq) = let a' = is_less i.1 in let b' = is_less k.1 in omega arith

pub block_section_less : (ts : Tokens) (s : Section) (us : Tokens) → IsBlockSection ts s us → length us < length ts
block_section_less rs s vs (u.input o i k eq) = let a' = is_less i.1 in
    let b' = optional_less (token_less u.retention) k in omega arith
block_section_less rs s vs (u.output o i k eq) = let a' = is_less i.1 in
    let b' = optional_less (token_less u.retention) k in omega arith
block_section_less rs s vs (u.own i) = own_section_less rs s vs i

pub external_section_less : (ts : Tokens) (s : Section) (us : Tokens) → IsExternalSection ts s us
    → length us < length ts
external_section_less rs s vs (u.variable i eq) = is_less i.1
external_section_less rs s vs (u.constant i k eq) = let a' = is_less i.1 in let b' = is_less k.1 in omega arith

module _ (IsSection : Tokens → Section → Tokens → Type 0) (IsOne : Tokens → Declaration → Tokens → Type 0)
    (section_less : (ts : Tokens) (s : Section) (us : Tokens) → IsSection ts s us → length us < length ts)
    (one_less : (ts : Tokens) (d : Declaration) (us : Tokens) → IsOne ts d us → length us < length ts) where
  pub block_less : (ts : Tokens) (b : VariableBlock) (us : Tokens) → IsBlock IsSection IsOne ts b us
      → length us < length ts
  block_less rs b vs (u.block {ts} {us} s ds i m e eq) = let a' = section_less ts s us i in
      let b' = many_less one_less m in let c' = is_less e.1 in omega arith

pub program_block_less : (ts : Tokens) (b : VariableBlock) (us : Tokens) → IsProgramBlock ts b us
    → length us < length ts
program_block_less rs b vs (u.own i) = block_less IsOwnSection IsDeclaration own_section_less declaration_less rs b vs i
program_block_less rs b vs (u.external i) =
    block_less IsExternalSection IsExternal external_section_less external_less rs b vs i

pub variable_block_less : (ts : Tokens) (b : VariableBlock) (us : Tokens) → IsFunctionBlockBlock ts b us
    → length us < length ts
variable_block_less rs b vs (u.own i) =
    block_less IsBlockSection IsDeclaration block_section_less declaration_less rs b vs i
variable_block_less rs b vs (u.external i) =
    block_less IsExternalSection IsExternal external_section_less external_less rs b vs i

pub function_block_less : (ts : Tokens) (b : VariableBlock) (us : Tokens)
    → IsBlock IsFunctionSection IsDeclaration ts b us → length us < length ts
function_block_less = block_less IsFunctionSection IsDeclaration function_section_less declaration_less

pub unit_less : {ts us : Tokens} {x : OrganisationUnit} → IsUnit ts x us → length us < length ts
unit_less (u.function x r bs body k n c e m i f eq) =
    let a' = is_less k.1 in let b' = is_less n in let c' = is_less c.1 in let d' = is_less e in
    let e' = many_less function_block_less m in let f' = stmts_less i in let g' = is_less f.1 in omega arith
unit_less (u.function_block x bs body k n m i f eq) = let a' = is_less k.1 in let b' = is_less n in
    let e' = many_less variable_block_less m in let f' = stmts_less i in let g' = is_less f.1 in omega arith
unit_less (u.program x bs body k n m i f eq) = let a' = is_less k.1 in let b' = is_less n in
    let e' = many_less program_block_less m in let f' = stmts_less i in let g' = is_less f.1 in omega arith

pub global_names_less : {ts us : Tokens} {n : GlobalNames} → IsGlobalNames ts n us → length us < length ts
global_names_less (c.located x a n k i eq) = let a' = is_less n in let b' = is_less k.1 in let c' = is_less i in
    omega arith
global_names_less (c.listed xs i eq) = listed_less (token_less name) i

pub global_less : (ts : Tokens) (g : GlobalDeclaration) (us : Tokens) → IsGlobal ts g us → length us < length ts
global_less rs g vs (c.global names t v n k ty o s eq) = let a' = global_names_less n in let b' = is_less k.1 in
    let c' = type_less ty in let d' = optional_less given_less o in let e' = is_less s.1 in omega arith

pub global_block_less : (ts : Tokens) (b : GlobalBlock) (us : Tokens) → IsGlobalBlock ts b us → length us < length ts
global_block_less rs b vs (c.block q ds k o m e eq) = let a' = is_less k.1 in let b' =
    optional_less (token_less c.qualifier) o in let c' = many_less global_less m in let d' = is_less e.1 in omega arith

pub single_less : (ts : Tokens) (x : Identifier) (us : Tokens) → IsSingle ts x us → length us < length ts
single_less rs x vs (c.single k a n o) = let a' = is_less k.1 in let b' = is_less a.1 in let c' = is_less n in
    let d' = is_less o.1 in omega arith

pub interval_less : (ts : Tokens) (d : ℕ) (us : Tokens) → IsInterval ts d us → length us < length ts
interval_less rs d vs (c.interval k a n o) = let a' = is_less k.1 in let b' = is_less a.1 in let c' = is_less n in
    let d' = is_less o.1 in omega arith

pub task_less : (ts : Tokens) (x : Task) (us : Tokens) → IsTask ts x us → length us < length ts
task_less rs y vs (c.task x s i p k n o a b r w d e z eq) =
    let a' = is_less k.1 in let b' = is_less n in let c' = is_less o.1 in let d' = optional_less single_less a in
    let e' = optional_less interval_less b in let f' = is_less r.1 in let g' = is_less w.1 in let h' = is_less d in
    let i' = is_less e.1 in let j' = is_less z.1 in omega arith

pub with_less : (ts : Tokens) (x : Identifier) (us : Tokens) → IsWith ts x us → length us < length ts
with_less rs x vs (c.runs_with k n) = let a' = is_less k.1 in let b' = is_less n in omega arith

pub instance_less : (ts : Tokens) (x : Instance) (us : Tokens) → IsInstance ts x us → length us < length ts
instance_less rs y vs (c.instance_of x task program k n w o p s eq) =
    let a' = is_less k.1 in let b' = is_less n in let c' = optional_less with_less w in let d' = is_less o.1 in
    let e' = is_less p in let f' = is_less s.1 in omega arith

pub resource_less : (ts : Tokens) (r : Resource) (us : Tokens) → IsResource ts r us → length us < length ts
resource_less rs r vs (c.resource x y tasks instances k n o p m i e eq) =
    let a' = is_less k.1 in let b' = is_less n in let c' = is_less o.1 in let d' = is_less p in
    let e' = many_less task_less m in let f' = several_less instance_less i in let g' = is_less e.1 in omega arith

pub configuration_less : {ts us : Tokens} {x : Configuration} → IsConfiguration ts x us → length us < length ts
configuration_less (c.configuration x gs rs k n m i e eq) =
    let a' = is_less k.1 in let b' = is_less n in let c' = many_less global_block_less m in
    let d' = several_less resource_less i in let e' = is_less e.1 in omega arith

pub element_less : (ts : Tokens) (x : LibraryElement) (us : Tokens) → IsLibraryElement ts x us → length us < length ts
element_less rs x vs (s.types xs i eq) = types_less i
element_less rs x vs (s.unit u i eq) = unit_less i
element_less rs x vs (s.configuration c i eq) = configuration_less i
