-- A configuration is read.
use Rattle.std.proofs.Common.{◌≡◌, ℕ, true, false, List, [], ◌∷◌, Option, Some, Ok, refl, subst}
use Rattle.std.specs.List.{AllByRecursion}
use Rattle.st_types.specs.declared.identifier.Identifier.{Identifier}
use Rattle.st_lex.specs.declared.token.TokenKind.{TokenKind}
use Rattle.st_lex.specs.declared.token.TokenKind.TheVariants.{Keyword}
use Rattle.st_lex.specs.declared.mark.Mark.TheVariants as m
use Rattle.st_lex.specs.declared.keyword.Keyword.TheVariants as w
use Rattle.st_types.specs.declared.configuration.GlobalQualifier.{GlobalQualifier}
use Rattle.st_types.specs.declared.configuration.Task.{Task}
use Rattle.st_types.specs.declared.configuration.Instance.{Instance}
use Rattle.st_types.specs.Configurations.{GlobalNames, GlobalDeclaration, GlobalBlock, Resource, Configuration}
use Rattle.st_parse.specs.Tokens.{Tokens, next, Is, is, mark, keyword, name, is_mark, is_keyword, is_name, Passes}
use Rattle.st_parse.specs.Tokens.{same_mark, same_keyword}
use Rattle.st_parse.specs.Parsers.{one}
use Rattle.st_parse.proofs.Complete.{one_complete, mark_head, keyword_head, name_head}
use Rattle.st_parse.specs.Lists.{Many, no_more, one_more, Several, several as at_least, AfterComma, after_comma}
use Rattle.st_parse.specs.Lists.{listed as with_commas, Optional, absent, present}
use Rattle.st_parse.specs.Configurations.{qualifier, qualifier_in, address, duration, decimal, IsGlobalNames, IsGlobal}
use Rattle.st_parse.specs.Configurations.{IsGlobalBlock, IsSingle, IsInterval, IsTask, IsWith, IsInstance, IsResource}
use Rattle.st_parse.specs.Configurations.{IsConfiguration}
use Rattle.st_parse.specs.Configurations as c
use Rattle.st_parse.specs.Depths.{ValueWithin, GlobalWithin, GlobalBlockWithin, ConfigurationWithin}
use Rattle.st_parse.specs.Reading.{optional}
use Rattle.st_parse.specs.ConfigurationReading.{located_of, listed_of, global_names_at, global_at, is_qualifier}
use Rattle.st_parse.specs.ConfigurationReading.{global_block_at, single_at, interval_at, priority_at, terms_at}
use Rattle.st_parse.specs.ConfigurationReading.{task_at, with_at, program_at, instance_at, work_at, resource_at}
use Rattle.st_parse.specs.ConfigurationReading.{configuration_at}
use Rattle.st_parse.proofs.CompleteParts.{many_complete, at_least_one_complete, optional_none, optional_some}
use Rattle.st_parse.proofs.CompleteParts.{names_behind_complete}
use Rattle.st_parse.proofs.CompleteTypes.{type_complete, given_or_not_complete}
use Rattle.st_parse.proofs.Shorter.{global_less, global_block_less, task_less, instance_less, resource_less}

all_so : {A : Type 0} (xs : List A) → AllByRecursion (λ x. Unit {0}) xs
all_so [] = tt
all_so (x ∷ xs) = (tt, all_so xs)

-- ---- globals

at_head : {ts us : Tokens} → Passes (keyword w.At) ts us → next (is_keyword w.At) ts ≡ true
unfolding same_keyword
at_head k = keyword_head w.At (is_keyword w.At) k.1

colon_heads : {ts us : Tokens} → Passes (mark m.Colon) ts us
    → (next (is_keyword w.At) ts ≡ false) × (next (is_mark m.Comma) ts ≡ false)
unfolding same_mark
colon_heads k = (mark_head m.Colon (is_keyword w.At) k.1, mark_head m.Colon (is_mark m.Comma) k.1)

comma_head : {ts us : Tokens} → Passes (mark m.Comma) ts us → next (is_keyword w.At) ts ≡ false
comma_head k = mark_head m.Comma (is_keyword w.At) k.1

no_at : {ts us vs : Tokens} {xs : List Identifier} → Many (AfterComma (Is name)) ts xs us → Passes (mark m.Colon) us vs
    → next (is_keyword w.At) ts ≡ false
no_at no_more k = (colon_heads k).0
no_at (one_more (after_comma c n) r) k = comma_head c

global_names_complete : {ts us vs : Tokens} {n : GlobalNames} → IsGlobalNames ts n us → Passes (mark m.Colon) us vs
    → global_names_at ts ≡ Ok (n, us)
unfolding global_names_at located_of listed_of
global_names_complete (c.located x a n k i q) e =
    rw (one_complete n, at_head k, one_complete k.1, one_complete i, q) refl
global_names_complete (c.listed xs (with_commas n r) q) e =
    rw (one_complete n, no_at r e, names_behind_complete n r (colon_heads e).1, q) refl

global_names_first : {ts us : Tokens} {n : GlobalNames} → IsGlobalNames ts n us → next is_name ts ≡ true
global_names_first (c.located x a n k i q) = name_head is_name n
global_names_first (c.listed xs (with_commas n r) q) = name_head is_name n

qualifier_kind : (k : TokenKind) (x : GlobalQualifier) → qualifier_in k ≡ Some x → is_qualifier k ≡ true
unfolding same_keyword
qualifier_kind (Keyword w.Constant) x eq = refl
qualifier_kind (Keyword w.Retain) x eq = refl
qualifier_kind _ x eq = absurd cc

qualifier_head : {ts us : Tokens} {x : GlobalQualifier} → Is qualifier ts x us → next is_qualifier ts ≡ true
qualifier_head {x = x} (is {t} eq) = qualifier_kind t.kind x eq

-- ---- tasks and instances

single_head : {ts us : Tokens} {x : Identifier} → IsSingle ts x us → next (is_keyword w.Single) ts ≡ true
unfolding same_keyword
single_head (c.single k a n o) = keyword_head w.Single (is_keyword w.Single) k.1

single_complete : {ts us : Tokens} {x : Identifier} → IsSingle ts x us → single_at ts ≡ Ok (x, us)
unfolding single_at
single_complete (c.single k a n o) = rw (one_complete k.1, one_complete a.1, one_complete n, one_complete o.1) refl

interval_head : {ts us : Tokens} {d : ℕ} → IsInterval ts d us
    → (next (is_keyword w.Interval) ts ≡ true) × (next (is_keyword w.Single) ts ≡ false)
unfolding same_keyword
interval_head (c.interval k a n o) =
    (keyword_head w.Interval (is_keyword w.Interval) k.1, keyword_head w.Interval (is_keyword w.Single) k.1)

interval_complete : {ts us : Tokens} {d : ℕ} → IsInterval ts d us → interval_at ts ≡ Ok (d, us)
unfolding interval_at
interval_complete (c.interval k a n o) = rw (one_complete k.1, one_complete a.1, one_complete n, one_complete o.1) refl

priority_head : {ts us : Tokens} → Passes (keyword w.Priority) ts us
    → (next (is_keyword w.Single) ts ≡ false) × (next (is_keyword w.Interval) ts ≡ false)
unfolding same_keyword
priority_head k =
    (keyword_head w.Priority (is_keyword w.Single) k.1, keyword_head w.Priority (is_keyword w.Interval) k.1)

interval_or_not : {ts us vs : Tokens} {o : Option ℕ} → Optional IsInterval ts o us → Passes (keyword w.Priority) us vs
    → optional (is_keyword w.Interval) interval_at ts ≡ Ok (o, us)
interval_or_not (absent {ts}) p = optional_none (is_keyword w.Interval) interval_at ts (priority_head p).1
interval_or_not (present i) p =
    optional_some (is_keyword w.Interval) interval_at (interval_head i).0 (interval_complete i)

no_single : {ts us vs : Tokens} {o : Option ℕ} → Optional IsInterval ts o us → Passes (keyword w.Priority) us vs
    → next (is_keyword w.Single) ts ≡ false
no_single absent p = (priority_head p).0
no_single (present i) p = (interval_head i).1

single_or_not : {ts us : Tokens} {o : Option Identifier} → Optional IsSingle ts o us
    → next (is_keyword w.Single) us ≡ false → optional (is_keyword w.Single) single_at ts ≡ Ok (o, us)
single_or_not (absent {ts}) miss = optional_none (is_keyword w.Single) single_at ts miss
single_or_not (present i) miss = optional_some (is_keyword w.Single) single_at (single_head i) (single_complete i)

task_complete : {ts us : Tokens} {x : Task} → IsTask ts x us → task_at ts ≡ Ok (x, us)
unfolding priority_at terms_at task_at
task_complete (c.task x s i p k n o a b r g d e z q) =
    rw (
      one_complete k.1,
      one_complete n,
      one_complete o.1,
      single_or_not a (no_single b r),
      interval_or_not b r,
      one_complete r.1,
      one_complete g.1,
      one_complete d,
      one_complete e.1,
      one_complete z.1,
      q,
    ) refl

task_head : {ts us : Tokens} {x : Task} → IsTask ts x us → next (is_keyword w.Task) ts ≡ true
unfolding same_keyword
task_head (c.task x s i p k n o a b r g d e z q) = keyword_head w.Task (is_keyword w.Task) k.1

with_head : {ts us : Tokens} {x : Identifier} → IsWith ts x us → next (is_keyword w.With) ts ≡ true
unfolding same_keyword
with_head (c.runs_with k n) = keyword_head w.With (is_keyword w.With) k.1

with_complete : {ts us : Tokens} {x : Identifier} → IsWith ts x us → with_at ts ≡ Ok (x, us)
unfolding with_at
with_complete (c.runs_with k n) = rw (one_complete k.1, one_complete n) refl

with_or_not : {ts us vs : Tokens} {o : Option Identifier} → Optional IsWith ts o us → Passes (mark m.Colon) us vs
    → optional (is_keyword w.With) with_at ts ≡ Ok (o, us)
with_or_not (absent {ts}) k = optional_none (is_keyword w.With) with_at ts (mark_head m.Colon (is_keyword w.With) k.1)
with_or_not (present i) k = optional_some (is_keyword w.With) with_at (with_head i) (with_complete i)

instance_complete : {ts us : Tokens} {x : Instance} → IsInstance ts x us → instance_at ts ≡ Ok (x, us)
unfolding program_at instance_at
instance_complete (c.instance_of x t p k n i o g s q) =
    rw (one_complete k.1, one_complete n, with_or_not i o, one_complete o.1, one_complete g, one_complete s.1, q) refl

instance_head : {ts us : Tokens} {x : Instance} → IsInstance ts x us
    → (next (is_keyword w.Program) ts ≡ true) × (next (is_keyword w.Task) ts ≡ false)
unfolding same_keyword
instance_head (c.instance_of x t p k n i o g s q) =
    (keyword_head w.Program (is_keyword w.Program) k.1, keyword_head w.Program (is_keyword w.Task) k.1)

-- ---- resources and configurations

no_task : {ts us : Tokens} {xs : List Instance} → Several IsInstance ts xs us → next (is_keyword w.Task) ts ≡ false
no_task (at_least o r) = (instance_head o).1

end_resource_head : {ts us : Tokens} → Passes (keyword w.EndResource) ts us → next (is_keyword w.Program) ts ≡ false
unfolding same_keyword
end_resource_head k = keyword_head w.EndResource (is_keyword w.Program) k.1

resource_complete : {ts us : Tokens} {x : Resource} → IsResource ts x us → resource_at ts ≡ Ok (x, us)
unfolding work_at resource_at
resource_complete (c.resource x p xs ys k n o g b i e q) =
    rw (
      one_complete k.1,
      one_complete n,
      one_complete o.1,
      one_complete g,
      many_complete (is_keyword w.Task) task_at IsTask (λ x. Unit {0}) (λ ts x us o l. task_complete o)
          (λ ts x us o. task_head o) task_less b (all_so xs) (no_task i),
      at_least_one_complete (is_keyword w.Program) instance_at IsInstance (λ x. Unit {0})
          (λ ts x us o l. instance_complete o)
          (λ ts x us o. (instance_head o).0) instance_less i (all_so ys) (end_resource_head e),
      one_complete e.1,
      q,
    ) refl

resource_head : {ts us : Tokens} {x : Resource} → IsResource ts x us
    → (next (is_keyword w.Resource) ts ≡ true) × (next (is_keyword w.VarGlobal) ts ≡ false)
unfolding same_keyword
resource_head (c.resource x p xs ys k n o g b i e q) =
    (keyword_head w.Resource (is_keyword w.Resource) k.1, keyword_head w.Resource (is_keyword w.VarGlobal) k.1)

no_global : {ts us : Tokens} {xs : List Resource} → Several IsResource ts xs us
    → next (is_keyword w.VarGlobal) ts ≡ false
no_global (at_least o r) = (resource_head o).1

end_configuration_head : {ts us : Tokens} → Passes (keyword w.EndConfiguration) ts us
    → next (is_keyword w.Resource) ts ≡ false
unfolding same_keyword
end_configuration_head k = keyword_head w.EndConfiguration (is_keyword w.Resource) k.1

module _ (depth : ℕ) where
  global_complete : {ts us : Tokens} {g : GlobalDeclaration} → IsGlobal ts g us → GlobalWithin depth g
      → global_at depth ts ≡ Ok (g, us)
  unfolding global_at
  global_complete (c.global ns t v n k i o s q) low =
      let low' : ValueWithin depth v = subst (λ (z : GlobalDeclaration). GlobalWithin depth z) q low in
      rw (
        global_names_complete n k,
        one_complete k.1,
        type_complete i,
        given_or_not_complete depth o s low',
        one_complete s.1,
        q,
      ) refl

  global_first : {ts us : Tokens} {g : GlobalDeclaration} → IsGlobal ts g us → next is_name ts ≡ true
  global_first (c.global ns t v n k i o s q) = global_names_first n

  no_qualifier : {ts us vs : Tokens} {ds : List GlobalDeclaration} → Many IsGlobal ts ds us
      → Passes (keyword w.EndVar) us vs → next is_qualifier ts ≡ false
  unfolding same_keyword
  no_qualifier no_more e = keyword_head w.EndVar is_qualifier e.1
  no_qualifier (one_more (c.global ns t v (c.located x a n h j p) k i o s q) r) e = name_head is_qualifier n
  no_qualifier (one_more (c.global ns t v (c.listed xs (with_commas n h) p) k i o s q) r) e = name_head is_qualifier n

  qualifier_or_not : {ts us : Tokens} {o : Option GlobalQualifier} → Optional (Is qualifier) ts o us
      → next is_qualifier us ≡ false → optional is_qualifier (one qualifier) ts ≡ Ok (o, us)
  qualifier_or_not (absent {ts}) miss = optional_none is_qualifier (one qualifier) ts miss
  qualifier_or_not (present i) miss = optional_some is_qualifier (one qualifier) (qualifier_head i) (one_complete i)

  global_block_complete : {ts us : Tokens} {b : GlobalBlock} → IsGlobalBlock ts b us → GlobalBlockWithin depth b
      → global_block_at depth ts ≡ Ok (b, us)
  unfolding global_block_at
  global_block_complete (c.block q ds k o r e p) low =
      let low' : AllByRecursion (GlobalWithin depth) ds =
      subst (λ (z : GlobalBlock). GlobalBlockWithin depth z) p low in
      rw (
        one_complete k.1,
        qualifier_or_not o (no_qualifier r e),
        many_complete is_name (global_at depth) IsGlobal (GlobalWithin depth) (λ ts x us o l. global_complete o l)
            (λ ts x us o. global_first o) global_less r low' (keyword_head w.EndVar is_name e.1),
        one_complete e.1,
        p,
      ) refl

  global_block_head : {ts us : Tokens} {b : GlobalBlock} → IsGlobalBlock ts b us
      → next (is_keyword w.VarGlobal) ts ≡ true
  unfolding same_keyword
  global_block_head (c.block q ds k o r e p) = keyword_head w.VarGlobal (is_keyword w.VarGlobal) k.1

  pub configuration_complete : {ts us : Tokens} {x : Configuration} → IsConfiguration ts x us
      → ConfigurationWithin depth x
      → configuration_at depth ts ≡ Ok (x, us)
  unfolding configuration_at
  configuration_complete (c.configuration x gs rs k n g r e q) low =
      let low' : AllByRecursion (GlobalBlockWithin depth) gs =
      subst (λ (z : Configuration). ConfigurationWithin depth z) q low in
      rw (
        one_complete k.1,
        one_complete n,
        many_complete (is_keyword w.VarGlobal) (global_block_at depth) IsGlobalBlock (GlobalBlockWithin depth)
            (λ ts x us o l. global_block_complete o l) (λ ts x us o. global_block_head o) global_block_less g low'
            (no_global r),
        at_least_one_complete (is_keyword w.Resource) resource_at IsResource (λ x. Unit {0})
            (λ ts x us o l. resource_complete o) (λ ts x us o. (resource_head o).0) resource_less r (all_so rs)
            (end_configuration_head e),
        one_complete e.1,
        q,
      ) refl
