-- Instances among variables, and their blocks.
use Rattle.std.proofs.Common.{◌≡◌, refl, sym, ap, ◌∙◌, ℕ, List, [], ◌∷◌, ◌++◌, map, Bool, true, false}
use Rattle.std.proofs.Common.{if◌then◌else◌, Option, Some, None, subst}
use Rattle.std.specs.Prelude.{bytes_eq, is_none, is_some, option_map, option_and_then}
use Rattle.st_types.specs.declared.identifier.Identifier.{Identifier}
use Rattle.st_types.specs.declared.data_type.SimpleType.TheVariants.{Named}
use Rattle.st_types.specs.declared.data_type.VariableType.TheVariants as types
use Rattle.st_types.specs.declared.unit.UnitSort.TheVariants.{FunctionBlock}
use Rattle.st_types.specs.Units.{OrganisationUnit}
use Rattle.st_meaning.specs.NameTypes.{Declared, type_named, unit_named}
use Rattle.st_meaning.specs.Scopes.{Name, block_named}
use Rattle.st_meaning.specs.StandardBlocks.{block_of, members_of}
use Rattle.symbols.specs.Found.{or_found}
use Rattle.layout.specs.Libraries.{instance_then, instances_among}
use Rattle.layout.specs.Types.{BlockType, NamedSite, block_type_named, block_type_of, instance_of, own_block_type}
use Rattle.layout.specs.Types.{site_of_member, sites_of_blocks}
use Rattle.slot_trees.specs.SlotTrees.{own_block}
use Rattle.slot_trees.specs.Tables.{named_in}
use Rattle.slot_trees.specs.TextNumbers.{block_names, code_named, numbered_from, numbers_of}
use Rattle.slot_trees.proofs.LookedUp.{code_looked_up}
use Rattle.slot_trees.specs.StatementViews.{block_code_view}
use Rattle.slot_trees.specs.declared.statement.BlockCode as code_block
use Rattle.slot_trees.specs.declared.statement.BlockCode.TheVariants as blocks
use Rattle.st_link.specs.LinkVariables.{LinkVariable, of_site}
use Rattle.st_link.proofs.NumberLemmas.{block_numbered}
use Rattle.st_link.specs.Tables.{IsCode, code_of_block, has_some, instances_in}
use Rattle.slot_trees.proofs.InstanceLemmas.{unit_name}

pub instances_seen : (text : Declared) (ds : List NamedSite)
    → instances_among text ds ≡ instances_in text (map of_site ds)
instances_seen text [] = refl
instances_seen text (d ∷ ds) = ap (instance_then d.name (instance_of text d.site.declared)) (instances_seen text ds)

then_append : (x : Name) (b : Option BlockType) (xs ys : List (Name × Name))
    → instance_then x b (xs ++ ys) ≡ instance_then x b xs ++ ys
then_append x None xs ys = refl
then_append x (Some b) xs ys = refl

instances_append : (text : Declared) (vs ws : List LinkVariable)
    → instances_in text (vs ++ ws) ≡ instances_in text vs ++ instances_in text ws
instances_append text [] ws = refl
instances_append text (v ∷ vs) ws =
    ap (instance_then v.name (instance_of text v.declared)) (instances_append text vs ws)
    ∙ then_append v.name (instance_of text v.declared) (instances_in text vs) (instances_in text ws)

block_append : (xs ys : List (Name × Name)) (x : Name)
    → block_named (xs ++ ys) x ≡ or_found (block_named xs x) (block_named ys x)
block_append [] ys x = refl
block_append (e ∷ xs) ys x = by_test (bytes_eq x e.0) (block_append xs ys x)
  where
    by_test : (b : Bool) → block_named (xs ++ ys) x ≡ or_found (block_named xs x) (block_named ys x)
        → (if b then Some e.1 else block_named (xs ++ ys) x)
        ≡ or_found (if b then Some e.1 else block_named xs x) (block_named ys x)
    by_test true ih = refl
    by_test false ih = ih

-- the codes found so far, and one variable more
pub record CodesFound (text : Declared) (vs : List LinkVariable) (x : Name)
    (found : Option code_block.BlockCode) : Type 0 where
  pub code : option_map block_code_view found
      ≡ option_and_then (named_in (numbers_of text).blocks) (block_named (instances_in text vs) x)
  pub there : is_some found ≡ is_some (block_named (instances_in text vs) x)

pub no_codes : (text : Declared) (x : Name) → CodesFound text [] x None
no_codes text x = record { code = refl; there = refl }

-- the block that a variable of this name is an instance of
abbrev one_named : Bool → Option BlockType → Option Name
one_named e None = None
one_named e (Some k) = if e then Some k.name else None

module _ (text : Declared) (x : Name) where
  one_is : (v : LinkVariable) (b : Option BlockType)
      → block_named (instance_then v.name b []) x ≡ one_named (bytes_eq x v.name) b
  one_is v None = refl
  one_is v (Some k) = refl

  later_code : (found : Option code_block.BlockCode) (o : Option Name) (more : Option Name)
      (c : Option code_block.BlockCode)
      → option_map block_code_view found ≡ option_and_then (named_in (numbers_of text).blocks) o
      → is_some found ≡ is_some o
      → option_map block_code_view c ≡ option_and_then (named_in (numbers_of text).blocks) more
      → option_map block_code_view (or_found found c)
      ≡ option_and_then (named_in (numbers_of text).blocks) (or_found o more)
  later_code None None more c code there one = one
  later_code (Some f) (Some b) more c code there one = code
  later_code None (Some b) more c code there one = absurd (cc)
  later_code (Some f) None more c code there one = absurd (cc)

  later_there : (found : Option code_block.BlockCode) (o : Option Name) (more : Option Name)
      (c : Option code_block.BlockCode) → is_some found ≡ is_some o → is_some c ≡ is_some more
      → is_some (or_found found c) ≡ is_some (or_found o more)
  later_there None None more c there one = one
  later_there (Some f) (Some b) more c there one = refl
  later_there None (Some b) more c there one = absurd (cc)
  later_there (Some f) None more c there one = absurd (cc)

  -- of one variable
  one_code : (v : LinkVariable) (c : Option code_block.BlockCode) (b : Option BlockType) → IsCode text c b
      → option_map block_code_view (if bytes_eq x v.name then c else None)
      ≡ option_and_then (named_in (numbers_of text).blocks) (block_named (instance_then v.name b []) x)
  one_code v c b is =
      by_block b c is.code is.there (bytes_eq x v.name)
      ∙ ap (option_and_then (named_in (numbers_of text).blocks)) (sym (one_is v b))
    where
      by_block : (b : Option BlockType) (c : Option code_block.BlockCode)
          → option_map block_code_view c ≡ option_and_then (code_of_block text) b → is_some c ≡ is_some b
          → (e : Bool) → option_map block_code_view (if e then c else None)
          ≡ option_and_then (named_in (numbers_of text).blocks) (one_named e b)
      by_block None None code there true = refl
      by_block None None code there false = refl
      by_block None (Some c) code there e = absurd (cc)
      by_block (Some k) None code there e = absurd (cc)
      by_block (Some k) (Some c) code there true = code ∙ sym (code_looked_up text k.name)
      by_block (Some k) (Some c) code there false = refl

  one_there : (v : LinkVariable) (c : Option code_block.BlockCode) (b : Option BlockType) → IsCode text c b
      → is_some (if bytes_eq x v.name then c else None) ≡ is_some (block_named (instance_then v.name b []) x)
  one_there v c b is = by_block b c is.there (bytes_eq x v.name) ∙ ap is_some (sym (one_is v b))
    where
      by_block : (b : Option BlockType) (c : Option code_block.BlockCode) → is_some c ≡ is_some b → (e : Bool)
          → is_some (if e then c else None) ≡ is_some (one_named e b)
      by_block None None there true = refl
      by_block None None there false = refl
      by_block None (Some c) there e = absurd (cc)
      by_block (Some k) None there e = absurd (cc)
      by_block (Some k) (Some c) there true = refl
      by_block (Some k) (Some c) there false = refl

  pub codes_more : (vs : List LinkVariable) (v : LinkVariable) (before after c : Option code_block.BlockCode)
      → CodesFound text vs x before → IsCode text c (instance_of text v.declared)
      → after ≡ or_found before (if bytes_eq x v.name then c else None) → CodesFound text (vs ++ v ∷ []) x after
  codes_more vs v before after c so_far is added =
      let rest = instance_then v.name (instance_of text v.declared) [] in
      let all : block_named (instances_in text (vs ++ v ∷ [])) x
      ≡ or_found (block_named (instances_in text vs) x) (block_named rest x) =
      ap (λ es. block_named es x) (instances_append text vs (v ∷ []))
      ∙ block_append (instances_in text vs) rest x in
      let one = if bytes_eq x v.name then c else None in
      record {
        code = ap (option_map block_code_view) added
            ∙ later_code before (block_named (instances_in text vs) x) (block_named rest x) one so_far.code
            so_far.there (one_code v c (instance_of text v.declared) is)
            ∙ ap (option_and_then (named_in (numbers_of text).blocks)) (sym all);
        there = ap is_some added
            ∙ later_there before (block_named (instances_in text vs) x) (block_named rest x) one so_far.there
            (one_there v c (instance_of text v.declared) is)
            ∙ ap is_some (sym all);
      }

-- whether a variable is an instance
pub has_then : (x : Name) (b : Option BlockType) (rest : List (Name × Name))
    → has_some (instance_then x b rest) ≡ (if is_some b then true else has_some rest)
has_then x None rest = refl
has_then x (Some b) rest = refl

pub has_append : {A : Type 0} (xs ys : List A) → has_some (xs ++ ys) ≡ (if has_some xs then true else has_some ys)
has_append [] ys = refl
has_append (x ∷ xs) ys = refl

pub instances_after : (text : Declared) (vs ws : List LinkVariable) → has_some (instances_in text (vs ++ ws))
    ≡ (if has_some (instances_in text vs) then true else has_some (instances_in text ws))
instances_after text vs ws =
    ap has_some (instances_append text vs ws) ∙ has_append (instances_in text vs) (instances_in text ws)

pub instances_first : (text : Declared) (v : LinkVariable) (vs : List LinkVariable)
    → has_some (instances_in text (v ∷ vs))
    ≡ (if is_some (instance_of text v.declared) then true else has_some (instances_in text vs))
instances_first text v vs = has_then v.name (instance_of text v.declared) (instances_in text vs)

-- the code of a block that the text declares
pub own_code : (text : Declared) (x : Name) (u : OrganisationUnit) (n : ℕ) → block_of x ≡ None
    → unit_named text.units x ≡ Some u → u.sort ≡ FunctionBlock
    → named_in (numbered_from 0 (block_names text.units)) u.name.name ≡ Some n
    → IsCode text (Some (blocks.Own n)) (own_block_type (unit_named text.units x))
own_code text x u n none named sort found =
    let b : BlockType = record { name = u.name.name; members = sites_of_blocks u.blocks } in
    let is : own_block_type (unit_named text.units x) ≡ Some b =
    ap own_block_type named ∙ ap (λ s. block_type_of s u) sort in
    let own : block_of u.name.name ≡ None = ap block_of (sym (unit_name text.units x u named)) ∙ none in
    subst (IsCode text (Some (blocks.Own n))) (sym is)
    (record {
      code = sym (ap (code_named text u.name.name) own ∙ ap (option_map own_block) found);
      there = refl;
    })

pub numbered_somewhere : (text : Declared) (x : Name) (u : OrganisationUnit) → unit_named text.units x ≡ Some u
    → u.sort ≡ FunctionBlock → named_in (numbered_from 0 (block_names text.units)) u.name.name ≡ None → ⊥
numbered_somewhere text x u named sort none =
    let same = unit_name text.units x u named in
    let there = block_numbered 0 text.units x u named sort in
    let absent : named_in (numbered_from 0 (block_names text.units)) x ≡ None =
    ap (named_in (numbered_from 0 (block_names text.units))) same ∙ none in
    let false_is : is_some (named_in (numbered_from 0 (block_names text.units)) x) ≡ false = ap is_some absent in
    cc

-- an instance of a block of the text, by the name of its type
pub instance_named : (text : Declared) (x : Identifier) → type_named text.types x.name ≡ None → block_of x.name ≡ None
    → instance_of text (types.Simple (Named x)) ≡ own_block_type (unit_named text.units x.name)
instance_named text x none own =
    ap (λ o. if is_none o then block_type_named text x.name else None) none
    ∙ ap (λ k. elim k [
      | Some b ↦ Some (record { name = x.name; members = map site_of_member (members_of b) })
      | None ↦ own_block_type (unit_named text.units x.name)
    ]) own

pub nothing_seen : {A B : Type 0} (f : A → B) (o : Option A) (b : Bool) → b ≡ is_some o → b ≡ false
    → option_map f o ≡ None
nothing_seen f None b h g = refl
nothing_seen f (Some a) b h g = absurd (cc)
