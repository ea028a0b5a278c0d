-- Calls, from the resolutions of their arguments.
use Rattle.std.proofs.Common.{◌≡◌, ◌∙◌, sym, ap, subst, refl, ℕ, zero, suc, ◌+◌, List, [], ◌∷◌, ◌++◌, length, drop, map, arith}
use Rattle.std.proofs.Common.{Option, Some, None}
use Rattle.std.specs.Prelude.{option_and_then}
use Rattle.std.proofs.Common.{length-append}
use Rattle.st_types.specs.declared.kind.Kind.{Kind}
use Rattle.st_types.specs.declared.identifier.Identifier.{Identifier}
use Rattle.st_types.specs.declared.expression.Expr as code_expr
use Rattle.st_types.specs.declared.unit.UnitSort.{UnitSort}
use Rattle.st_types.specs.declared.unit.UnitSort.TheVariants.{Function, FunctionBlock, Program}
use Rattle.st_types.specs.Declarations.{VariableBlock}
use Rattle.st_types.specs.Units.{OrganisationUnit}
use Rattle.st_types.specs.Expressions.{Expr, call, Exprs, no_exprs, expr_then, exprs_of}
use Rattle.st_types.specs.ExpressionViews.{expr_view}
use Rattle.st_meaning.specs.NameTypes.{Declared, unit_named, result_kind}
use Rattle.st_meaning.specs.StandardFunctions.{Standard, standard_of}
use Rattle.st_meaning.specs.Resolution.{own_kinds, standard_kind, result_of_unit, expected_kinds, inputs_of_unit}
use Rattle.st_meaning.specs.Resolution.{inputs_of_function, first_kind, other_kinds, resolved_expr, resolved_exprs}
use Rattle.st_rules.specs.Environments.{Environment, Callee, standard, callee_of, callee_of_sort}
use Rattle.st_resolved.specs.declared.resolutions.Resolution.{Resolution}
use Rattle.st_resolved.specs.declared.resolutions.Resolution.TheVariants.{Typed}
use Rattle.st_resolved.specs.Calls.{kind_of_call, expected_of_call}
use Rattle.st_resolved.specs.Resolutions.{resolved_kind, Resolves, ResolvesAll}

-- expressions, and others after them
abbrev pub exprs_then : List Expr → Exprs → Exprs
exprs_then [] rest = rest
exprs_then (e ∷ es) rest = expr_then e (exprs_then es rest)

exprs_more : (es : List Expr) (e : Expr) (rest : Exprs)
    → exprs_then (es ++ e ∷ []) rest ≡ exprs_then es (expr_then e rest)
exprs_more [] e rest = refl
exprs_more (x ∷ es) e rest = ap (expr_then x) (exprs_more es e rest)

exprs_all : (es : List Expr) → exprs_then es no_exprs ≡ exprs_of es
exprs_all [] = refl
exprs_all (x ∷ es) = ap (expr_then x) (exprs_all es)

-- The first arguments are at their places, and these are left.
pub record Places (env : Environment) (ks : List (Option Kind)) (es : Exprs) (done : List Expr)
    (left : List Resolution) : Type 0 where
  pub rest : Exprs
  pub resolves : ResolvesAll env rest left
  pub same : exprs_then done (resolved_exprs env.text env.unit (drop (length done) ks) rest)
      ≡ resolved_exprs env.text env.unit ks es

pub places_none : (env : Environment) (ks : List (Option Kind)) (es : Exprs) (all : List Resolution)
    → ResolvesAll env es all → Places env ks es [] all
places_none env ks es all h = record { rest = es; resolves = h; same = refl }

others_behind : (i : ℕ) (ks : List (Option Kind)) → other_kinds (drop i ks) ≡ drop (suc i) ks
others_behind zero [] = refl
others_behind zero (k ∷ ks) = refl
others_behind (suc i) [] = refl
others_behind (suc i) (k ∷ ks) = others_behind i ks

one_longer : (done : List Expr) (x : Expr) → length (done ++ x ∷ []) ≡ suc (length done)
one_longer done x = simp length-append (omega arith)

pub places_more : (env : Environment) (ks : List (Option Kind)) (es : Exprs) (done : List Expr) (r : Resolution)
    (left : List Resolution) (x : Expr) → Places env ks es done (r ∷ left)
    → ((e : Expr) → Resolves env e r
    → x ≡ resolved_expr env.text env.unit (first_kind (drop (length done) ks)) e)
    → Places env ks es (done ++ x ∷ []) left
places_more env ks es done r left x p placed = more p.rest p.resolves p.same
  where
    more : (rest : Exprs) → ResolvesAll env rest (r ∷ left)
        → exprs_then done (resolved_exprs env.text env.unit (drop (length done) ks) rest)
        ≡ resolved_exprs env.text env.unit ks es → Places env ks es (done ++ x ∷ []) left
    more no_exprs h same = absurd h
    more (expr_then e rest) h same = record {
      rest = rest;
      resolves = h.1;
      same = exprs_more done x _
          ∙ ap (λ n. exprs_then done (expr_then x (resolved_exprs env.text env.unit (drop n ks) rest)))
          (one_longer done x)
          ∙ ap (λ ls. exprs_then done (expr_then x (resolved_exprs env.text env.unit ls rest)))
          (sym (others_behind (length done) ks))
          ∙ ap (λ y. exprs_then done (expr_then y
          (resolved_exprs env.text env.unit (other_kinds (drop (length done) ks)) rest))) (placed e h.0)
          ∙ same;
    }

pub places_all : (env : Environment) (ks : List (Option Kind)) (es : Exprs) (done : List Expr)
    → Places env ks es done [] → exprs_of done ≡ resolved_exprs env.text env.unit ks es
places_all env ks es done p = all p.rest p.resolves p.same
  where
    all : (rest : Exprs) → ResolvesAll env rest []
        → exprs_then done (resolved_exprs env.text env.unit (drop (length done) ks) rest)
        ≡ resolved_exprs env.text env.unit ks es → exprs_of done ≡ resolved_exprs env.text env.unit ks es
    all no_exprs h same = sym (exprs_all done) ∙ same
    all (expr_then e rest) h same = absurd h

all_restored : (env : Environment) (es : Exprs) (rs : List Resolution) → ResolvesAll env es rs
    → map resolved_kind rs ≡ own_kinds env.text env.unit es
all_restored env no_exprs [] h = refl
all_restored env no_exprs (r ∷ rs) h = absurd h
all_restored env (expr_then e es) [] h = absurd h
all_restored env (expr_then e es) (r ∷ rs) h = rw (h.0.kind, all_restored env es rs h.1) refl

-- the function that is called, by the standard function and the unit of its name
abbrev called_by : Declared → Option Standard → Option OrganisationUnit → Option Callee
called_by text s v = elim s [
  | Some std ↦ Some (standard std)
  | None ↦ option_and_then (λ u. callee_of_sort text u.sort u.blocks) v
]

sort_gives : (text : Declared) (s : UnitSort) (bs : List VariableBlock) (ks : List (Option Kind))
    → kind_of_call (callee_of_sort text s bs) ks ≡ result_kind text s
sort_gives text (Function t) bs ks = refl
sort_gives text FunctionBlock bs ks = refl
sort_gives text Program bs ks = refl

call_gives : (text : Declared) (s : Option Standard) (v : Option OrganisationUnit) (ks : List (Option Kind))
    → kind_of_call (called_by text s v) ks
    ≡ elim s [ Some std ↦ standard_kind std ks | None ↦ result_of_unit text v ]
call_gives text (Some std) v ks = refl
call_gives text None None ks = refl
call_gives text None (Some u) ks = sort_gives text u.sort u.blocks ks

sort_expects : (text : Declared) (s : UnitSort) (bs : List VariableBlock) (ks : List (Option Kind))
    → expected_of_call (callee_of_sort text s bs) ks ≡ inputs_of_function text s bs
sort_expects text (Function t) bs ks = refl
sort_expects text FunctionBlock bs ks = refl
sort_expects text Program bs ks = refl

call_expects : (text : Declared) (s : Option Standard) (v : Option OrganisationUnit) (ks : List (Option Kind))
    → expected_of_call (called_by text s v) ks
    ≡ elim s [ Some std ↦ expected_kinds std ks | None ↦ inputs_of_unit text v ]
call_expects text (Some std) v ks = refl
call_expects text None None ks = refl
call_expects text None (Some u) ks = sort_expects text u.sort u.blocks ks

pub call_resolves : (env : Environment) (f : Identifier) (es : Exprs) (rs : List Resolution) (o : Option Callee)
    (kind : Option Kind) (whole : code_expr.Expr) (args : Exprs) → o ≡ callee_of env f.name → ResolvesAll env es rs
    → kind ≡ kind_of_call o (map resolved_kind rs) → expr_view whole ≡ call f args
    → args ≡ resolved_exprs env.text env.unit (expected_of_call o (map resolved_kind rs)) es
    → Resolves env (call f es) (Typed kind whole)
call_resolves env f es rs o kind whole args is resolves gives seen placed =
    let s = standard_of f.name in
    let v = unit_named env.text.units f.name in
    let ks = own_kinds env.text env.unit es in
    let told = all_restored env es rs resolves in
    record {
      left = refl;
      kind = gives ∙ ap (λ c. kind_of_call c (map resolved_kind rs)) is
          ∙ ap (kind_of_call (callee_of env f.name)) told ∙ call_gives env.text s v ks;
      tree = λ offered. seen ∙ ap (call f) (placed
          ∙ ap (λ c. resolved_exprs env.text env.unit (expected_of_call c (map resolved_kind rs)) es) is
          ∙ ap (λ ls. resolved_exprs env.text env.unit (expected_of_call (callee_of env f.name) ls) es) told
          ∙ ap (λ ls. resolved_exprs env.text env.unit ls es) (call_expects env.text s v ks));
    }
