-- The grammar of types.
use Rattle.std.specs.Prelude.{◌≡◌, ℕ, List, Option, Some, None}
use Rattle.st_types.specs.declared.identifier.Identifier.{Identifier}
use Rattle.st_types.specs.declared.literal.Number.{Number}
use Rattle.st_lex.specs.declared.token.Token.{Token}
use Rattle.st_lex.specs.declared.token.TokenKind.{TokenKind}
use Rattle.st_lex.specs.declared.token.TokenKind.TheVariants.{Name, Elementary}
use Rattle.st_lex.specs.declared.mark.Mark.TheVariants as m
use Rattle.st_lex.specs.declared.keyword.Keyword.TheVariants as w
use Rattle.st_types.specs.declared.data_type.SimpleType.{SimpleType}
use Rattle.st_types.specs.declared.data_type.SimpleType.TheVariants as simples
use Rattle.st_types.specs.declared.data_type.ArrayType.{ArrayType}
use Rattle.st_types.specs.declared.data_type.VariableType.{VariableType}
use Rattle.st_types.specs.declared.data_type.VariableType.TheVariants as types
use Rattle.st_types.specs.Initials.{Initial}
use Rattle.st_types.specs.Declarations.{Field, TypeDefinition, TypeDeclaration}
use Rattle.st_types.specs.Declarations as d
use Rattle.st_parse.specs.Tokens.{Tokens, mark, keyword, name, Is, Passes, IsNumber}
use Rattle.st_parse.specs.Initials.{IsInitial}
use Rattle.st_parse.specs.Lists.{Several, Listed, Optional}

-- a type that is named by one word
abbrev pub simple_in : ℕ → TokenKind → Option SimpleType
simple_in at (Elementary k) = Some (simples.Elementary k at)
simple_in at (Name x) = Some (simples.Named (record { name = x; place = at }))
simple_in at k = None

abbrev pub simple : Token → Option SimpleType
simple t = simple_in t.start t.kind

pub data IsArray : Tokens → ArrayType → Tokens → Type 0 where
  array : {ts us vs ws zs qs rs ns os : Tokens} {a : ArrayType} (at : ℕ) (lower upper : Number) (element : SimpleType)
      → Is (keyword w.Array) ts at us → Passes (mark m.OpenBracket) us vs → IsNumber vs lower ws
      → Passes (mark m.Range) ws zs → IsNumber zs upper qs
      → Passes (mark m.CloseBracket) qs rs → Passes (keyword w.Of) rs ns → Is simple ns element os
      → a ≡ record { place = at; lower = lower; upper = upper; element = element } → IsArray ts a os

pub data IsType : Tokens → VariableType → Tokens → Type 0 where
  plain : {ts us : Tokens} {t : VariableType} (x : SimpleType) → Is simple ts x us → t ≡ types.Simple x → IsType ts t us
  array : {ts us : Tokens} {t : VariableType} (a : ArrayType) → IsArray ts a us → t ≡ types.Array a → IsType ts t us

-- an initial value after `:=`
pub data IsGiven : Tokens → Initial → Tokens → Type 0 where
  given : {ts us vs : Tokens} {v : Initial} → Passes (mark m.Assign) ts us → IsInitial us v vs → IsGiven ts v vs

pub data IsField : Tokens → Field → Tokens → Type 0 where
  field : {ts us vs ws zs qs : Tokens} {f : Field} (x : Identifier) (t : VariableType) (v : Option Initial)
      → Is name ts x us → Passes (mark m.Colon) us vs → IsType vs t ws → Optional IsGiven ws v zs
      → Passes (mark m.Semicolon) zs qs
      → f ≡ record { name = x; declared = t; initial = v } → IsField ts f qs

pub data IsDefinition : Tokens → TypeDefinition → Tokens → Type 0 where
  array : {ts us : Tokens} {t : TypeDefinition} (a : ArrayType) → IsArray ts a us → t ≡ d.array a → IsDefinition ts t us
  structure : {ts us vs ws : Tokens} {t : TypeDefinition} (fields : List Field)
      → Passes (keyword w.Struct) ts us → Several IsField us fields vs → Passes (keyword w.EndStruct) vs ws
      → t ≡ d.structure fields → IsDefinition ts t ws
  enumeration : {ts us vs ws : Tokens} {t : TypeDefinition} (names : List Identifier)
      → Passes (mark m.Open) ts us → Listed (Is name) us names vs → Passes (mark m.Close) vs ws
      → t ≡ d.enumeration names → IsDefinition ts t ws

pub data IsTypeDeclaration : Tokens → TypeDeclaration → Tokens → Type 0 where
  declared : {ts us vs ws zs : Tokens} {t : TypeDeclaration} (x : Identifier) (definition : TypeDefinition)
      → Is name ts x us → Passes (mark m.Colon) us vs → IsDefinition vs definition ws → Passes (mark m.Semicolon) ws zs
      → t ≡ record { name = x; definition = definition } → IsTypeDeclaration ts t zs

-- a block from TYPE to END_TYPE
pub data IsTypes : Tokens → List TypeDeclaration → Tokens → Type 0 where
  block : {ts us vs ws : Tokens} {xs : List TypeDeclaration}
      → Passes (keyword w.Type) ts us → Several IsTypeDeclaration us xs vs → Passes (keyword w.EndType) vs ws
      → IsTypes ts xs ws
