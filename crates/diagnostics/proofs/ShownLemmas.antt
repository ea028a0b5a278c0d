-- Bytes that a terminal may show, one text after another.
use Rattle.std.proofs.Common.{◌≡◌, ◌∙◌, ap, ℕ, List, ◌++◌, true, ◌&&◌}
use Rattle.std.specs.List.{list_all}
use Rattle.std.proofs.lemmas.List.Folds.{list_all-append}
use Rattle.diagnostics.specs.Pages.{is_shown}

pub shown_both : (xs ys : List ℕ) → list_all is_shown xs ≡ true → list_all is_shown ys ≡ true
    → list_all is_shown (xs ++ ys) ≡ true
shown_both xs ys h i = list_all-append is_shown xs ys ∙ ap (λ b. b && list_all is_shown ys) h ∙ i
