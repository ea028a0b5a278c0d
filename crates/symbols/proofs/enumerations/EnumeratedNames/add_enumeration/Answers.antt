use Rattle.std.proofs.Common.{◌≡◌, sym, ap, subst, ◌∙◌, ◌++◌, ◌+◌, ◌∷◌, [], length}
use Rattle.std.specs.Prelude.{option_map, bytes_eq}
use Rattle.std.proofs.lemmas.List.{length-append}
use Rattle.st_types.specs.declared.kind.Kind.TheVariants.{Enumerated}
use Rattle.st_meaning.specs.Enumerations.{Enumeration, kind_of_enumeration, enumeration_named, place_among}
use Rattle.st_meaning.specs.Enumerations.{members_named}
use Rattle.symbols.specs.Found.{found}
use Rattle.symbols.specs.Enumerated.{member_at, listed, IsListedAs, IsTable}
use Rattle.symbols.proofs.AgreeLemmas.{agree_more}
use Rattle.symbols.proofs.EnumerationLemmas.{named_append, members_append}
use Rattle.symbols.proofs.enumerations.EnumeratedNames.add_enumeration.Goals as goal

pub returns : goal.returns
returns c es has =
    let x = c.args.name.now in
    let ys = c.args.names.now in
    let e : Enumeration = record { number = length es; name = x; names = ys } in
    let count = has.count in
    let kind : c.in_ok-kind.kind ≡ kind_of_enumeration e = c.in_ok-kind.ensures ∙ ap (Enumerated (length ys)) count in record {
      count = c.in_ok-count.ensures ∙ ap (λ n. n + 1) count ∙ sym (length-append es (e ∷ []));
      types = λ q. agree_more IsTable (found c.args.self.now.types q) (found c.add.new.self q) (enumeration_named es q)
          (enumeration_named (es ++ e ∷ []) q) _ e (bytes_eq q x) (c.in_ok-add.ensures.added q) (named_append es e q)
          (record { kind = kind; places = c.in_ok-places.ensures.places }) (has.types q);
      values = λ q. subst (IsListedAs c.add_names.new.values q)
          (ap (λ k. members_named es q ++ listed (option_map (member_at k) (place_among ys q))) kind
          ∙ sym (members_append es e q))
          (c.in_ok-places.ensures.values q (members_named es q) (has.values q));
    }
