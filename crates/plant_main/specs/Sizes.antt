-- The sizes of a plan, as they are printed.
use Rattle.std.specs.Prelude.{ℕ, List, ◌++◌, length, filter, codes}
use Rattle.plan.specs.declared.plan.Plan.{Plan}
use Rattle.source_run.specs.Reports.{count_line}

-- a line each: resources, tasks, programs, variables (without the inputs), and those that are retained
abbrev pub sizes_text : Plan → List ℕ
sizes_text p = count_line (codes "resources") p.resources ++ count_line (codes "tasks") (length p.tasks.items)
    ++ count_line (codes "programs") (length p.programs.items) ++ count_line (codes "slots") (length p.variables.items)
    ++ count_line (codes "retained") (length (filter (λ v. v.retained) p.variables.items))
