-- Functions by the grammar: no block of their variables is one of externals.
use Rattle.std.proofs.Common.{◌≡◌, refl, sym, ap, subst, ◌∙◌, List, [], ◌∷◌, Bool, true, false, if◌then◌else◌, Option, Some}
use Rattle.st_types.specs.declared.declaration.Section.{Section}
use Rattle.st_types.specs.declared.data_type.SimpleType.{SimpleType}
use Rattle.st_types.specs.declared.unit.UnitSort.TheVariants.{Function}
use Rattle.st_types.specs.Declarations.{VariableBlock}
use Rattle.st_types.specs.Units.{OrganisationUnit}
use Rattle.st_types.specs.Sources.{Source}
use Rattle.st_parse.specs.Tokens.{Tokens}
use Rattle.st_parse.specs.Lists.{Many, no_more, one_more}
use Rattle.st_parse.specs.Units.{IsDeclaration, IsFunctionSection, input, own, constant, IsBlock, block, IsUnit, function}
use Rattle.st_parse.specs.Units.{function_block, program}
use Rattle.st_parse.specs.Sources as grammar
use Rattle.st_parse.specs.Sources.{IsLibraryElement}
use Rattle.st_meaning.specs.Bodies.{is_external, externals_in}
use Rattle.st_meaning.specs.NameTypes.{is_named, unit_named, units_in}
use Rattle.st_meaning.specs.Scopes.{Name}

section_clean : {ts us : Tokens} {s : Section} → IsFunctionSection ts s us → is_external s ≡ false
section_clean (input p is) = rw is refl
section_clean (own p is) = rw is refl
section_clean (constant p q is) = rw is refl

block_clean : {ts us : Tokens} {b : VariableBlock} → IsBlock IsFunctionSection IsDeclaration ts b us
    → is_external b.section ≡ false
block_clean (block s ds starts many ends is) = rw is (section_clean starts)

blocks_clean : {ts us : Tokens} {bs : List VariableBlock} → Many (IsBlock IsFunctionSection IsDeclaration) ts bs us
    → externals_in bs ≡ []
blocks_clean no_more = refl
blocks_clean (one_more here rest) = rw (block_clean here) (blocks_clean rest)

unit_clean : {ts us : Tokens} {u : OrganisationUnit} (t : SimpleType) → IsUnit ts u us → u.sort ≡ Function t
    → externals_in u.blocks ≡ []
unit_clean t (function x result blocks body p q r s many stmts e is) h = rw is (blocks_clean many)
unit_clean t (function_block x blocks body p q many stmts e is) h = absurd (let sort = rw is at h in cc)
unit_clean t (program x blocks body p q many stmts e is) h = absurd (let sort = rw is at h in cc)

named_clean : {ts us : Tokens} (v u : OrganisationUnit) (t : SimpleType) (others : Option OrganisationUnit) (b : Bool)
    → IsUnit ts v us → (others ≡ Some u → externals_in u.blocks ≡ [])
    → (if b then Some v else others) ≡ Some u → u.sort ≡ Function t → externals_in u.blocks ≡ []
named_clean v u t others true here rest is sort =
    let same : v ≡ u = cc in
    subst (λ w. externals_in w.blocks ≡ []) same (unit_clean t here (ap (λ w. w.sort) same ∙ sort))
named_clean v u t others false here rest is sort = rest is

pub functions_clean : {ts us : Tokens} (source : Source) (f : Name) (u : OrganisationUnit) (t : SimpleType)
    → Many IsLibraryElement ts source us → unit_named (units_in source) f ≡ Some u → u.sort ≡ Function t
    → externals_in u.blocks ≡ []
functions_clean [] f u t no_more is sort = absurd (cc)
functions_clean (x ∷ xs) f u t (one_more (grammar.types ts here same) rest) is sort =
    functions_clean xs f u t rest (ap (λ y. unit_named (units_in (y ∷ xs)) f) (sym same) ∙ is) sort
functions_clean (x ∷ xs) f u t (one_more (grammar.unit v here same) rest) is sort =
    named_clean v u t (unit_named (units_in xs) f) (is_named f v.name) here
    (λ h. functions_clean xs f u t rest h sort) (ap (λ y. unit_named (units_in (y ∷ xs)) f) (sym same) ∙ is) sort
functions_clean (x ∷ xs) f u t (one_more (grammar.configuration c here same) rest) is sort =
    functions_clean xs f u t rest (ap (λ y. unit_named (units_in (y ∷ xs)) f) (sym same) ∙ is) sort
