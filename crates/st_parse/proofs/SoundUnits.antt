-- A part that is read as a function, a function block or a program is one, and the tokens before a refusal begin one.
use Rattle.std.proofs.Common.{ℕ, ◌+◌, ◌<◌, ◌≤◌, length, None, refl}
use Rattle.st_types.specs.declared.kind.Kind.TheVariants.{Int}
use Rattle.st_types.specs.declared.data_type.SimpleType.TheVariants as simples
use Rattle.st_lex.specs.declared.token.TokenKind.TheVariants.{Elementary, Keyword}
use Rattle.st_lex.specs.declared.mark.Mark.TheVariants as m
use Rattle.st_lex.specs.declared.keyword.Keyword.TheVariants as w
use Rattle.st_types.specs.declared.declaration.Retention.TheVariants.{Retain}
use Rattle.st_types.specs.declared.declaration.Section.{Section}
use Rattle.st_types.specs.declared.declaration.Section.TheVariants as sections
use Rattle.st_types.specs.declared.unit.UnitSort.TheVariants as sorts
use Rattle.st_types.specs.Statements.{stmts_of}
use Rattle.st_types.specs.Declarations.{Declaration, VariableBlock}
use Rattle.st_types.specs.Units.{OrganisationUnit}
use Rattle.st_types.specs.Depths.{deepest_stmt}
use Rattle.st_parse.specs.Tokens.{Tokens, Is, mark, keyword, name, is_keyword, is_name}
use Rattle.st_parse.specs.Parsers.{Parser, one}
use Rattle.st_parse.specs.Statements.{IsStmts}
use Rattle.st_parse.specs.StatementReading.{stmts_at}
use Rattle.st_parse.proofs.Sound.{Family, Any, Seq, Made, made}
use Rattle.st_parse.proofs.SoundReadings.{Sound, sound_then, sound_pure, sound_as, sound_under, sound_if}
use Rattle.st_parse.proofs.SoundReadings.{sound_one, sound_mark, sound_keyword, sound_name, token_of}
use Rattle.st_parse.proofs.SoundStatements.{told_stmts, stmts_begins}
use Rattle.st_parse.specs.Lists.{Many, Listed, Optional}
use Rattle.st_parse.specs.Types.{simple, IsType, IsGiven}
use Rattle.st_parse.specs.Units.{retention, IsDeclaration, IsExternal, IsFunctionSection, IsOwnSection}
use Rattle.st_parse.specs.Units.{IsBlockSection, IsExternalSection, IsBlock, IsProgramBlock, IsFunctionBlockBlock}
use Rattle.st_parse.specs.Units.{IsUnit}
use Rattle.st_parse.specs.Units as u
use Rattle.st_parse.specs.Depths.{DeclarationWithin, BlockWithin, UnitWithin}
use Rattle.st_parse.specs.UnitReading.{is_retention, names_at, declaration_at, external_at, retention_or_not}
use Rattle.st_parse.specs.UnitReading.{constant_of, function_own_at, function_input_at, function_section_at, local_at}
use Rattle.st_parse.specs.UnitReading.{own_section_at, input_section_at, output_section_at, block_section_at}
use Rattle.st_parse.specs.UnitReading.{external_section_at, block_at, function_block_at, external_block_at}
use Rattle.st_parse.specs.UnitReading.{program_block_at, variable_block_at, starts_function_section}
use Rattle.st_parse.specs.UnitReading.{starts_program_section, starts_block_section, function_at}
use Rattle.st_parse.specs.UnitReading.{function_block_unit_at, program_at}
use Rattle.st_parse.proofs.SoundParts.{sound_many, sound_optional, sound_names}
use Rattle.st_parse.proofs.Shorter.{declaration_less, external_less, function_block_less, program_block_less}
use Rattle.st_parse.proofs.Shorter.{variable_block_less}
use Rattle.st_parse.proofs.SoundTypes.{sound_type, sound_given_or_not}

-- ---- words of a block

sound_retention_or_not : {C : Type 0} → Sound C (λ e. retention_or_not) (Optional (Is retention)) Any
unfolding retention_or_not
sound_retention_or_not = sound_as (λ ts x us r. r) (λ x us d. tt)
    (sound_optional is_retention (λ e. one retention) (Is retention) (λ x. Unit {0})
    (sound_as (λ ts x us i. i) (λ x us d. tt) (sound_one retention (token_of (Keyword w.Retain)) Retain refl)))

abbrev Behind : Section → Tokens → Section → Tokens → Type 0
Behind s = Seq (Is (keyword w.Constant)) (λ at. Made s)

sound_constant : {C : Type 0} (s : Section) → Sound C (λ e. constant_of s) (Behind s) Any
unfolding constant_of
sound_constant s = sound_then (sound_keyword w.Constant) (λ at. sound_pure s Any (λ c us. tt))

-- a section after its first word
abbrev AfterWord : (Tokens → Section → Tokens → Type 0) → (ℕ → Tokens → Tokens → Type 0) → Tokens → Section → Tokens
    → Type 0
AfterWord G W us s vs = (at : ℕ) (ts : Tokens) → W at ts us → G ts s vs

abbrev Word : (at : ℕ) (ts us : Tokens) → Type 0
Word at ts us = Is (keyword w.Var) ts at us

abbrev External : (at : ℕ) (ts us : Tokens) → Type 0
External at ts us = Is (keyword w.VarExternal) ts at us

is_constant_function : (us : Tokens) (s : Section) (vs : Tokens) → Behind sections.Constant us s vs
    → AfterWord IsFunctionSection Word us s vs
is_constant_function us s vs (at, ws, k, made eq) a ts i = u.constant (a, i) (at, k) eq

is_local_function : (us : Tokens) (s : Section) (vs : Tokens) → Made (sections.Local None) us s vs
    → AfterWord IsFunctionSection Word us s vs
is_local_function us s vs (made eq) a ts i = u.own (a, i) eq

is_input_function : (ts : Tokens) (s : Section) (us : Tokens)
    → Seq (Is (keyword w.VarInput)) (λ at. Made (sections.Input None)) ts s us → IsFunctionSection ts s us
is_input_function ts s us (at, vs, i, made eq) = u.input (at, i) eq

sound_function_section : {C : Type 0} → Sound C (λ e. function_section_at) IsFunctionSection Any
unfolding function_section_at function_input_at function_own_at
sound_function_section = sound_if (is_keyword w.VarInput) (sound_as is_input_function (λ x us d. d)
    (sound_then (sound_keyword w.VarInput) (λ at. sound_pure (sections.Input None) Any (λ c us. tt))))
    (sound_as (λ ts s us p. p.3 p.0 ts p.2) (λ x us d. d) (sound_then (sound_keyword w.Var) (λ at. sound_if
    (is_keyword w.Constant) (sound_as is_constant_function (λ x us d. d) (sound_constant sections.Constant))
    (sound_as is_local_function (λ x us d. d) (sound_pure (sections.Local None) Any (λ c us. tt))))))

is_constant_own : (us : Tokens) (s : Section) (vs : Tokens) → Behind sections.Constant us s vs
    → AfterWord IsOwnSection Word us s vs
is_constant_own us s vs (at, ws, k, made eq) a ts i = u.constant (a, i) (at, k) eq

is_local_own : (us : Tokens) (s : Section) (vs : Tokens)
    → Seq (Optional (Is retention)) (λ o. Made (sections.Local o)) us s vs → AfterWord IsOwnSection Word us s vs
is_local_own us s vs (o, ws, k, made eq) a ts i = u.own o (a, i) k eq

sound_own_section : {C : Type 0} → Sound C (λ e. own_section_at) IsOwnSection Any
unfolding own_section_at local_at
sound_own_section = sound_as (λ ts s us p. p.3 p.0 ts p.2) (λ x us d. d) (sound_then (sound_keyword w.Var)
    (λ at. sound_if (is_keyword w.Constant) (sound_as is_constant_own (λ x us d. d) (sound_constant sections.Constant))
    (sound_as is_local_own (λ x us d. d)
    (sound_then sound_retention_or_not (λ o. sound_pure (sections.Local o) Any (λ c us. tt))))))

is_input_block : (ts : Tokens) (s : Section) (us : Tokens)
    → Seq (Is (keyword w.VarInput)) (λ at. Seq (Optional (Is retention)) (λ o. Made (sections.Input o))) ts s us
    → IsBlockSection ts s us
is_input_block ts s us (at, vs, i, (o, ws, k, made eq)) = u.input o (at, i) k eq

is_output_block : (ts : Tokens) (s : Section) (us : Tokens)
    → Seq (Is (keyword w.VarOutput)) (λ at. Seq (Optional (Is retention)) (λ o. Made (sections.Output o))) ts s us
    → IsBlockSection ts s us
is_output_block ts s us (at, vs, i, (o, ws, k, made eq)) = u.output o (at, i) k eq

sound_block_section : {C : Type 0} → Sound C (λ e. block_section_at) IsBlockSection Any
unfolding block_section_at input_section_at output_section_at
sound_block_section =
    sound_if (is_keyword w.VarInput) (sound_as is_input_block (λ x us d. d) (sound_then (sound_keyword w.VarInput)
    (λ at. sound_then sound_retention_or_not (λ o. sound_pure (sections.Input o) Any (λ c us. tt)))))
    (sound_if (is_keyword w.VarOutput) (sound_as is_output_block (λ x us d. d) (sound_then (sound_keyword w.VarOutput)
    (λ at. sound_then sound_retention_or_not (λ o. sound_pure (sections.Output o) Any (λ c us. tt)))))
    (sound_as (λ ts s us i. u.own i) (λ x us d. d) sound_own_section))

is_constant_external : (us : Tokens) (s : Section) (vs : Tokens) → Behind sections.ConstantExternal us s vs
    → AfterWord IsExternalSection External us s vs
is_constant_external us s vs (at, ws, k, made eq) a ts i = u.constant (a, i) (at, k) eq

is_variable_external : (us : Tokens) (s : Section) (vs : Tokens) → Made sections.External us s vs
    → AfterWord IsExternalSection External us s vs
is_variable_external us s vs (made eq) a ts i = u.variable (a, i) eq

sound_external_section : {C : Type 0} → Sound C (λ e. external_section_at) IsExternalSection Any
unfolding external_section_at
sound_external_section =
    sound_as (λ ts s us p. p.3 p.0 ts p.2) (λ x us d. d) (sound_then (sound_keyword w.VarExternal) (λ at. sound_if
    (is_keyword w.Constant) (sound_as is_constant_external (λ x us d. d) (sound_constant sections.ConstantExternal))
    (sound_as is_variable_external (λ x us d. d) (sound_pure sections.External Any (λ c us. tt)))))

-- ---- declarations

is_declaration : (ts : Tokens) (d : Declaration) (us : Tokens)
    → Seq (Listed (Is name)) (λ xs. Seq (Is (mark m.Colon)) (λ c. Seq IsType (λ t. Seq (Optional IsGiven)
    (λ v. Seq (Is (mark m.Semicolon)) (λ s. Made (record { names = xs; declared = t; initial = v })))))) ts d us
    → IsDeclaration ts d us
is_declaration ts d us (xs, t1, n, (c, t2, i, (t, t3, j, (v, t4, o, (s, t5, k, made eq))))) =
    u.declared xs t v n (c, i) j o (s, k) eq

is_external : (ts : Tokens) (d : Declaration) (us : Tokens)
    → Seq (Listed (Is name)) (λ xs. Seq (Is (mark m.Colon)) (λ c. Seq IsType
    (λ t. Seq (Is (mark m.Semicolon)) (λ s. Made (record { names = xs; declared = t; initial = None }))))) ts d us
    → IsExternal ts d us
is_external ts d us (xs, t1, n, (c, t2, i, (t, t3, j, (s, t5, k, made eq)))) = u.external xs t n (c, i) j (s, k) eq

sound_names_at : {C : Type 0} → Sound C (λ e. names_at) (Listed (Is name)) Any
unfolding names_at
sound_names_at = sound_as (λ ts x us r. r) (λ x us d. tt) sound_names

module _ (depth : ℕ) where
  sound_declaration : {C : Type 0}
      → Sound C (λ n. declaration_at (depth + n)) IsDeclaration (λ d us. DeclarationWithin depth d)
  unfolding declaration_at
  sound_declaration =
      sound_as is_declaration (λ x us d. d) (sound_then sound_names_at (λ xs. sound_then (sound_mark m.Colon) (λ c.
      sound_then sound_type (λ t. sound_then (sound_given_or_not depth) (λ v. sound_then (sound_mark m.Semicolon) (λ s.
      sound_pure (record { names = xs; declared = t; initial = v }) (λ d us. DeclarationWithin depth d)
      (λ c us. c.0.1.1)))))))

  sound_external : {C : Type 0} → Sound C (λ n. external_at) IsExternal (λ d us. DeclarationWithin depth d)
  unfolding external_at
  sound_external = sound_as is_external (λ x us d. d) (sound_then sound_names_at
      (λ xs. sound_then (sound_mark m.Colon) (λ c. sound_then sound_type (λ t. sound_then (sound_mark m.Semicolon) (λ s.
      sound_pure (record { names = xs; declared = t; initial = None }) (λ d us. DeclarationWithin depth d)
      (λ c us. tt))))))

  -- ---- blocks

  module _ (section : Parser Section) (item : Family Declaration) (IsSection : Tokens → Section → Tokens → Type 0)
      (IsOne : Tokens → Declaration → Tokens → Type 0) where
    is_block : (ts : Tokens) (b : VariableBlock) (us : Tokens) → Seq IsSection (λ s. Seq (Many IsOne)
        (λ ds. Seq (Is (keyword w.EndVar)) (λ e. Made (record { section = s; declarations = ds })))) ts b us
        → IsBlock IsSection IsOne ts b us
    is_block ts b us (s, t1, i, (ds, t2, j, (e, t3, k, made eq))) = u.block s ds i j (e, k) eq

    sound_block : {C : Type 0} → Sound C (λ e. section) IsSection Any
        → ((ts : Tokens) (d : Declaration) (us : Tokens) → IsOne ts d us → length us < length ts)
        → Sound (Unit {0}) item IsOne (λ d us. DeclarationWithin depth d)
        → Sound C (λ n. block_at section (item n)) (IsBlock IsSection IsOne) (λ b us. BlockWithin depth b)
    unfolding block_at
    sound_block p less q = sound_as is_block (λ x us d. d) (sound_then p (λ s. sound_then (sound_many is_name item IsOne
        (DeclarationWithin depth) less (sound_under (λ c. tt) q)) (λ ds. sound_then (sound_keyword w.EndVar) (λ e.
        sound_pure (record { section = s; declarations = ds }) (λ b us. BlockWithin depth b) (λ c us. c.0.1.1.0)))))

  sound_function_block : {C : Type 0} → Sound C (λ n. function_block_at (depth + n))
      (IsBlock IsFunctionSection IsDeclaration) (λ b us. BlockWithin depth b)
  unfolding function_block_at
  sound_function_block = sound_block function_section_at (λ n. declaration_at (depth + n)) IsFunctionSection
      IsDeclaration sound_function_section declaration_less sound_declaration

  sound_external_block : {C : Type 0}
      → Sound C (λ n. external_block_at) (IsBlock IsExternalSection IsExternal) (λ b us. BlockWithin depth b)
  unfolding external_block_at
  sound_external_block = sound_block external_section_at (λ n. external_at) IsExternalSection IsExternal
      sound_external_section external_less sound_external

  sound_program_block : {C : Type 0}
      → Sound C (λ n. program_block_at (depth + n)) IsProgramBlock (λ b us. BlockWithin depth b)
  unfolding program_block_at
  sound_program_block =
      sound_if (is_keyword w.VarExternal) (sound_as (λ ts b us i. u.external i) (λ x us d. d) sound_external_block)
      (sound_as (λ ts b us i. u.own i) (λ x us d. d) (sound_block own_section_at (λ n. declaration_at (depth + n))
      IsOwnSection IsDeclaration sound_own_section declaration_less sound_declaration))

  sound_variable_block : {C : Type 0}
      → Sound C (λ n. variable_block_at (depth + n)) IsFunctionBlockBlock (λ b us. BlockWithin depth b)
  unfolding variable_block_at
  sound_variable_block =
      sound_if (is_keyword w.VarExternal) (sound_as (λ ts b us i. u.external i) (λ x us d. d) sound_external_block)
      (sound_as (λ ts b us i. u.own i) (λ x us d. d) (sound_block block_section_at (λ n. declaration_at (depth + n))
      IsBlockSection IsDeclaration sound_block_section declaration_less sound_declaration))

  -- ---- units

  sound_stmts : {C : Type 0} → Sound C (λ n. stmts_at (depth + n)) IsStmts (λ xs us. deepest_stmt (stmts_of xs) ≤ depth)
  sound_stmts =
      sound_as (λ ts x us r. r) (λ x us d. d.0) (record { begins = stmts_begins; tells = λ c. told_stmts depth })

  is_function : (ts : Tokens) (x : OrganisationUnit) (us : Tokens)
      → Seq (Is (keyword w.Function))
      (λ k. Seq (Is name) (λ x. Seq (Is (mark m.Colon)) (λ c. Seq (Is simple) (λ r. Seq (Many
      (IsBlock IsFunctionSection IsDeclaration)) (λ bs. Seq IsStmts (λ body. Seq (Is (keyword w.EndFunction)) (λ e.
      Made (record { sort = sorts.Function r; name = x; blocks = bs; body = body }))))))))
      ts
      x
      us
      → IsUnit
      ts
      x
      us
  is_function ts z us (k, t1, i, (x, t2, n, (c, t3, j, (r, t4, o, (bs, t5, b, (body, t6, l, (e, t7, f, made eq))))))) =
      u.function x r bs body (k, i) n (c, j) o b l (e, f) eq

  pub sound_function : {C : Type 0} → Sound C (λ n. function_at (depth + n)) IsUnit (λ x us. UnitWithin depth x)
  unfolding function_at
  sound_function = sound_as is_function (λ x us d. d)
      (sound_then (sound_keyword w.Function) (λ k. sound_then sound_name (λ x. sound_then (sound_mark m.Colon)
      (λ c. sound_then (sound_one simple (token_of (Elementary Int)) (simples.Elementary Int 0) refl) (λ r.
      sound_then (sound_many starts_function_section (λ n. function_block_at (depth + n))
      (IsBlock IsFunctionSection IsDeclaration) (BlockWithin depth) function_block_less sound_function_block)
      (λ bs. sound_then sound_stmts (λ body. sound_then (sound_keyword w.EndFunction) (λ e.
      sound_pure (record { sort = sorts.Function r; name = x; blocks = bs; body = body })
      (λ x us. UnitWithin depth x) (λ c us. (c.0.0.1.1.0, c.0.1.1))))))))))

  is_block_unit : (ts : Tokens) (x : OrganisationUnit) (us : Tokens)
      → Seq (Is (keyword w.FunctionBlock)) (λ k. Seq (Is name)
      (λ x. Seq (Many IsFunctionBlockBlock) (λ bs. Seq IsStmts (λ body. Seq (Is (keyword w.EndFunctionBlock)) (λ e.
      Made (record { sort = sorts.FunctionBlock; name = x; blocks = bs; body = body })))))) ts x us → IsUnit ts x us
  is_block_unit ts z us (k, t1, i, (x, t2, n, (bs, t5, b, (body, t6, l, (e, t7, f, made eq))))) =
      u.function_block x bs body (k, i) n b l (e, f) eq

  pub sound_block_unit : {C : Type 0}
      → Sound C (λ n. function_block_unit_at (depth + n)) IsUnit (λ x us. UnitWithin depth x)
  unfolding function_block_unit_at
  sound_block_unit =
      sound_as is_block_unit (λ x us d. d) (sound_then (sound_keyword w.FunctionBlock) (λ k. sound_then sound_name (λ x.
      sound_then (sound_many starts_block_section (λ n. variable_block_at (depth + n)) IsFunctionBlockBlock
      (BlockWithin depth) variable_block_less sound_variable_block)
      (λ bs. sound_then sound_stmts (λ body. sound_then (sound_keyword w.EndFunctionBlock) (λ e.
      sound_pure (record { sort = sorts.FunctionBlock; name = x; blocks = bs; body = body })
      (λ x us. UnitWithin depth x) (λ c us. (c.0.0.1.1.0, c.0.1.1))))))))

  is_program : (ts : Tokens) (x : OrganisationUnit) (us : Tokens)
      → Seq (Is (keyword w.Program)) (λ k. Seq (Is name)
      (λ x. Seq (Many IsProgramBlock) (λ bs. Seq IsStmts (λ body. Seq (Is (keyword w.EndProgram)) (λ e.
      Made (record { sort = sorts.Program; name = x; blocks = bs; body = body })))))) ts x us → IsUnit ts x us
  is_program ts z us (k, t1, i, (x, t2, n, (bs, t5, b, (body, t6, l, (e, t7, f, made eq))))) =
      u.program x bs body (k, i) n b l (e, f) eq

  pub sound_program : {C : Type 0} → Sound C (λ n. program_at (depth + n)) IsUnit (λ x us. UnitWithin depth x)
  unfolding program_at
  sound_program =
      sound_as is_program (λ x us d. d) (sound_then (sound_keyword w.Program) (λ k. sound_then sound_name (λ x.
      sound_then (sound_many starts_program_section (λ n. program_block_at (depth + n)) IsProgramBlock
      (BlockWithin depth) program_block_less sound_program_block)
      (λ bs. sound_then sound_stmts (λ body. sound_then (sound_keyword w.EndProgram) (λ e.
      sound_pure (record { sort = sorts.Program; name = x; blocks = bs; body = body }) (λ x us. UnitWithin depth x)
      (λ c us. (c.0.0.1.1.0, c.0.1.1))))))))
