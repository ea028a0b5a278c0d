use Rattle.layout.proofs.NameLaws.{accepted_names_differ}
use Rattle.layout.proofs.laws.accepted_texts_declare_names_once.Goals as goal

pub returns-clause-names : goal.returns-clause-names
returns-clause-names c = accepted_names_differ

pub returns-clause-once : goal.returns-clause-once
returns-clause-once c = λ source h. c.layouts_of_texts.ensures.once source (accepted_names_differ source h)

pub returns-clause-layout : goal.returns-clause-layout
returns-clause-layout c = λ source h. c.layouts_of_texts.ensures.slots source (accepted_names_differ source h)
