use Rattle.layout.specs.LayoutVariables.{declared_of, layout_variables}
use Rattle.config.proofs.PlainGrammar.{plain_text}
use Rattle.config.proofs.TextLines.{slots_apart, texts_apart, text_lines}
use Rattle.config.proofs.path_laws.paths_of_texts_have_distinct_spellings.Goals as goal

pub returns-clause-slots : goal.returns-clause-slots
returns-clause-slots c text source h typed =
    slots_apart source (plain_text text source h)
    (c.layouts_of_texts.ensures.slots source (c.accepted_texts_declare_names_once.ensures.names source typed))
    (c.slots_depend_on_no_literal.ensures source)

pub returns-clause-different : goal.returns-clause-different
returns-clause-different c text source h typed =
    texts_apart source (plain_text text source h)
    (c.layouts_of_texts.ensures.slots source (c.accepted_texts_declare_names_once.ensures.names source typed))
    (record {
      parsed = c.slots_depend_on_no_literal.ensures source;
      variables = c.initial_values_fill_the_layout.ensures.variables (declared_of source) (layout_variables source);
    })

pub returns-clause-spelled : goal.returns-clause-spelled
returns-clause-spelled c text source h typed =
    text_lines source (plain_text text source h) typed
    (record {
      parsed = c.slots_depend_on_no_literal.ensures source;
      variables = c.initial_values_fill_the_layout.ensures.variables (declared_of source) (layout_variables source);
    })
