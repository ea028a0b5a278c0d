use Rattle.std.proofs.Common.{◌∙◌, ap, refl, rules}
use Rattle.quick_trees.specs.Points.{Point}
use Rattle.quick_checks.proofs.members.check_step.Goals as goal

pub returns : goal.returns
returns c =
    let noted = ap (λ (x : Point). x.noted) c.in_ok-step.ensures in
    λ now. record {
      block = c.args.block;
      is_block = refl;
      word = c.in_ok-word.word;
      members = c.if-not-are_members.ensures (search rules) now;
      stands = c.if-not-steps.ensures (search rules);
      looked = c.look_all.new.at.noted.items;
      looks = rw (noted, c.member_count-count.ensures.count) at c.in_ok-look_all.ensures.looks;
      is = c.in_ok-assign_all.ensures.same
          ∙ ap (λ (x : Point). record x { noted = c.assign_all.new.at.noted.items })
          (c.in_ok-look_all.ensures.same
          ∙ ap (λ (x : Point). record x { noted = c.look_all.new.at.noted.items }) c.in_ok-step.ensures);
      assigns = rw c.member_count-count.ensures.count at c.in_ok-assign_all.ensures.assigns;
    }
