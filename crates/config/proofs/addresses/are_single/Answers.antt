use Rattle.std.proofs.Common.{rules, arith, sym, ap, subst, ◌∙◌, ◌≡◌, ◌<◌, ◌-◌, ◌+◌, ◌∷◌, true, false}
use Rattle.std.proofs.Common.{length, drop, slice_index_or}
use Rattle.st_rules.specs.ConfigurationRules.{are_single, is_in_range}
use Rattle.config.specs.Addresses.{Marks}
use Rattle.config.proofs.AddressLemmas.{unmarked, marked_more, single_here, each_passes, each_at}
use Rattle.config.proofs.AddressLemmas.{stands_again, stands_once}
use Rattle.std.specs.Prelude.{slice_set}
use Rattle.std.proofs.lemmas.List.{length-replicate, length-set}
use Rattle.config.specs.Addresses.{number_of_address}
use Rattle.config.proofs.SearchLemmas.{nothing_left}
use Rattle.config.proofs.addresses.are_single.Goals as goal
use Rattle.st_types.proofs.ListLemmas.{drop_next}

pub loop-left-init : goal.loop-left-init
loop-left-init c =
    let xs = c.args.addresses.now in
    let empty = nothing_left xs (length xs) (omega arith) in
    record {
      within = omega arith;
      sized = ap length (c.in_ok-marked.ensures.items_if_clones_equal (λ y h. h)) ∙ length-replicate 4096 false;
      marks = unmarked c.in_ok-marked.marked.items (drop (length xs) xs)
          (c.in_ok-marked.ensures.items_if_clones_equal (λ y h. h)) empty;
      single = ap are_single empty;
    }

pub number_of_address-number-requires : goal.number_of_address-number-requires
number_of_address-number-requires c =
    let lt : c.loop-left.left - 1 < length c.args.addresses.now = search rules in
    each_passes (λ a. is_in_range a.width a.number) c.args.addresses.now (c.loop-left.left - 1) _ c.requires lt

pub returns-then-index : goal.returns-then-index
returns-then-index c =
    let xs = c.args.addresses.now in
    let i = c.loop-left.left - 1 in
    let x = slice_index_or xs i _ in
    let lt : i < length xs = search rules in
    let next : i + 1 ≡ c.loop-left.left = search rules in
    let is : drop i xs ≡ x ∷ drop c.loop-left.left xs =
    drop_next xs i x lt (each_at xs i _ lt) ∙ ap (λ n. x ∷ drop n xs) next in
    let m = c.index.result.now in
    let found = single_here c.loop-left.marked.items x (drop c.loop-left.left xs) m c.loop-left.invariant.sized
    (each_passes (λ a. is_in_range a.width a.number) xs i _ c.requires lt) c.loop-left.invariant.marks
    (subst (λ n. m ≡ slice_index_or c.loop-left.marked.items n m) c.number_of_address-number.ensures.number
    c.index.ensures) in
    stands_again xs i x (drop c.loop-left.left xs) is (found ∙ c.if-index.true)

pub loop-left-preserved : goal.loop-left-preserved
loop-left-preserved c =
    let xs = c.args.addresses.now in
    let i = c.loop-left.left - 1 in
    let x = slice_index_or xs i _ in
    let lt : i < length xs = search rules in
    let next : i + 1 ≡ c.loop-left.left = search rules in
    let is : drop i xs ≡ x ∷ drop c.loop-left.left xs =
    drop_next xs i x lt (each_at xs i _ lt) ∙ ap (λ n. x ∷ drop n xs) next in
    let m = c.index.result.now in
    let marked = c.loop-left.marked.items in
    let ranged = each_passes (λ a. is_in_range a.width a.number) xs i _ c.requires lt in
    let found = single_here marked x (drop c.loop-left.left xs) m c.loop-left.invariant.sized ranged
    c.loop-left.invariant.marks
    (subst (λ n. m ≡ slice_index_or marked n m) c.number_of_address-number.ensures.number c.index.ensures) in
    let more : Marks (slice_set marked (number_of_address x) true) (x ∷ drop c.loop-left.left xs) =
    marked_more marked x (drop c.loop-left.left xs) c.loop-left.invariant.sized ranged c.loop-left.invariant.marks in
    record {
      within = search rules;
      sized = length-set marked c.number_of_address-number.result true ∙ c.loop-left.invariant.sized;
      marks = subst (λ n. Marks (slice_set marked n true) (drop i xs)) (sym c.number_of_address-number.ensures.number)
          (subst (Marks (slice_set marked (number_of_address x) true)) (sym is) more);
      single = stands_once xs i x (drop c.loop-left.left xs) is (found ∙ c.if-index.false)
          c.loop-left.invariant.single;
    }

pub returns : goal.returns
returns c =
    let none : c.loop-left.left ≡ 0 = search rules in
    sym (subst (λ n. are_single (drop n c.args.addresses.now) ≡ true) none c.loop-left.invariant.single)
