use Rattle.st_check.proofs.targets.wrong_assignment.Goals as goal

pub returns : goal.returns
returns c env serves =
    rw (c.is_free.ensures env serves, c.reason_of_section.ensures, c.section_of.ensures env serves)
    at c.add_unless.ensures
