use Rattle.std.proofs.Common.{rules, ◌≡◌, ◌∙◌, ◌<◌, ◌≤◌, ap, ap₂, sym, subst, refl, map, length, Some, None}
use Rattle.std.specs.Vec.{vec_items}
use Rattle.st_types.specs.declared.limits.TheConstants.{MAX_RECORD_BODY}
use Rattle.st_types.specs.ConfigurationViews.{configuration_view, resource_view}
use Rattle.st_types.specs.declared.source.Source as code
use Rattle.st_types.specs.SourceViews.{source_view}
use Rattle.slot_code.specs.Codes.{code_view}
use Rattle.plan.specs.PlanViews.{program_view}
use Rattle.plan.specs.Sound.{PlanInvariant}
use Rattle.layout.specs.LayoutVariables.{configurations_in, only_configuration}
use Rattle.st_meaning.specs.Layouts.{layout_text, record_length}
use Rattle.layout.specs.KeptLayouts.{variables_among, inputs_among}
use Rattle.plan.specs.NumberedSlots.{numbered_from}
use Rattle.config.specs.Programs.{instance_view, instances_from}
use Rattle.config.specs.Places.{places_from}
use Rattle.config.specs.Tasks.{tasks_from}
use Rattle.layout.specs.TypeNames.{names_in_text}
use Rattle.config.proofs.PlanLemmas.{configuration_there, few_variables, long_record, sound_plan, text_plan}
use Rattle.config.proofs.text_plan.plan_from.Goals as goal
use Rattle.st_types.proofs.ListLemmas.{length_map}

-- src/text_plan.rt:45:9
pub unreachable-requires : goal.unreachable-requires
unreachable-requires c =
    let (text, ready) = c.requires.ready in
    let none : only_configuration (configurations_in (source_view c.args.tree)) ≡ None = search rules in
    let there = configuration_there text (source_view c.args.tree) c.args.layout.slots
    (map code_view c.args.codes.items) c.args.budget ready in
    absurd (cc (none, there.1))

-- src/text_plan.rt:50:8
pub record_length-requires : goal.record_length-requires
record_length-requires c =
    let (text, ready) = c.requires.ready in
    let there : only_configuration (configurations_in (source_view c.args.tree))
    ≡ Some (configuration_view c.in-Some.configuration.now) = search rules in
    let vs : c.deref.result.now ≡ variables_among c.args.layout.slots = search rules in
    record {
      few = few_variables text (source_view c.args.tree) c.args.layout.slots
          (map code_view c.args.codes.items) c.args.budget ready (configuration_view c.in-Some.configuration.now) there
          c.deref.result.now vs;
    }

-- src/text_plan.rt:51:9
pub returns-then-record_length-gt-MAX_RECORD_BODY-clause-refused :
    goal.returns-then-record_length-gt-MAX_RECORD_BODY-clause-refused
returns-then-record_length-gt-MAX_RECORD_BODY-clause-refused c = λ text ready.
    let tree = source_view c.args.tree in
    let slots = c.args.layout.slots in
    let types = map vec_items c.in_ok-enumerations.enumerations.items in
    let vs = c.deref.result.now in
    let there : only_configuration (configurations_in tree) ≡ Some (configuration_view c.in-Some.configuration.now) =
    search rules in
    let types_are : types ≡ names_in_text tree = search rules in
    let variables_are : vs ≡ variables_among slots = search rules in
    let told : c.text.result.now ≡ c.args.layout.text = search rules in
    let measured : c.record_length.result ≡ record_length types vs =
    c.record_length.ensures types
    (told ∙ c.requires.layout_text ∙ ap₂ layout_text (sym types_are) (sym variables_are)) in
    let long : MAX_RECORD_BODY < c.record_length.result = search rules in
    long_record text tree slots (map code_view c.args.codes.items) c.args.budget ready
    (configuration_view c.in-Some.configuration.now) there types vs c.record_length.result types_are variables_are measured
    long

-- src/text_plan.rt:58:5
pub invariant_of-result : goal.invariant_of-result
invariant_of-result c =
    let (text, ready) = c.requires.ready in
    let tree = source_view c.args.tree in
    let slots = c.args.layout.slots in
    let codes = map code_view c.args.codes.items in
    let conf = configuration_view c.in-Some.configuration.now in
    let types = map vec_items c.in_ok-enumerations.enumerations.items in
    let vs = c.in_ok-variables.variables.items in
    let is = c.in_ok-inputs.inputs.items in
    let many = c.len-resources.result in
    let tasks = c.in_ok-tasks.field-0.tasks.items in
    let made = c.in_ok-programs.programs.items in
    let there : only_configuration (configurations_in tree) ≡ Some conf = search rules in
    let types_are : types ≡ names_in_text tree = search rules in
    let variables_are : vs ≡ variables_among slots = search rules in
    let inputs_are : is ≡ inputs_among slots = search rules in
    let counted : many ≡ length c.in-Some.configuration.now.resources.items = search rules in
    let resources_are : many ≡ length conf.resources =
    counted ∙ sym (length_map resource_view c.in-Some.configuration.now.resources.items) in
    let tasks_are : tasks ≡ tasks_from vs is 0 conf.resources = search rules in
    let programs_are : map instance_view made ≡ instances_from 0 (places_from 0 0 conf.resources) codes = search rules in
    let told : c.text.result.now ≡ c.args.layout.text = search rules in
    let listed : c.deref.result.now ≡ vs = search rules in
    let spelled : layout_text (names_in_text tree) (variables_among slots) ≡ layout_text types vs =
    ap₂ layout_text (sym types_are) (sym variables_are) in
    let measured : c.record_length.result ≡ record_length types vs =
    c.record_length.ensures types
    (told ∙ c.requires.layout_text ∙ spelled ∙ ap (layout_text types) (sym listed)) ∙ ap (record_length types) listed in
    let under : c.record_length.result ≤ MAX_RECORD_BODY = search rules in
    let short : record_length types vs ≤ MAX_RECORD_BODY = subst (λ n. n ≤ MAX_RECORD_BODY) measured under in
    let numbers : c.in_ok-slots.slots.items ≡ numbered_from 0 0 slots = search rules in
    let shared : c.in_ok-new.field-0.value ≡ c.args.tree = search rules in
    record {
      sound = subst (λ (t : code.Source). PlanInvariant (source_view t) types vs is c.in_ok-slots.slots.items many tasks made
          c.args.budget) (sym shared)
          (sound_plan text tree slots codes c.args.budget ready conf there types vs is many tasks made
          (record {
            types_are = types_are;
            variables_are = variables_are;
            inputs_are = inputs_are;
            resources_are = resources_are;
            tasks_are = tasks_are;
            programs_are = programs_are;
            short = short;
          }) c.in_ok-slots.slots.items numbers);
      laid_out = record {
        variables_are = variables_are;
        inputs_are = inputs_are;
        places_are = numbers;
        text = c.requires.layout_text ∙ spelled;
      };
    }

-- src/text_plan.rt:28:1
pub returns-clause-plan : goal.returns-clause-plan
returns-clause-plan c = λ text ready.
    let tree = source_view c.args.tree in
    let slots = c.args.layout.slots in
    let codes = map code_view c.args.codes.items in
    let conf = configuration_view c.in-Some.configuration.now in
    let types = map vec_items c.in_ok-enumerations.enumerations.items in
    let vs = c.in_ok-variables.variables.items in
    let is = c.in_ok-inputs.inputs.items in
    let many = c.len-resources.result in
    let tasks = c.in_ok-tasks.field-0.tasks.items in
    let made = c.in_ok-programs.programs.items in
    let there : only_configuration (configurations_in tree) ≡ Some conf = search rules in
    let types_are : types ≡ names_in_text tree = search rules in
    let variables_are : vs ≡ variables_among slots = search rules in
    let inputs_are : is ≡ inputs_among slots = search rules in
    let counted : many ≡ length c.in-Some.configuration.now.resources.items = search rules in
    let resources_are : many ≡ length conf.resources =
    counted ∙ sym (length_map resource_view c.in-Some.configuration.now.resources.items) in
    let tasks_are : tasks ≡ tasks_from vs is 0 conf.resources = search rules in
    let programs_are : map instance_view made ≡ instances_from 0 (places_from 0 0 conf.resources) codes = search rules in
    let told : c.text.result.now ≡ c.args.layout.text = search rules in
    let listed : c.deref.result.now ≡ vs = search rules in
    let spelled : layout_text (names_in_text tree) (variables_among slots) ≡ layout_text types vs =
    ap₂ layout_text (sym types_are) (sym variables_are) in
    let measured : c.record_length.result ≡ record_length types vs =
    c.record_length.ensures types
    (told ∙ c.requires.layout_text ∙ spelled ∙ ap (layout_text types) (sym listed)) ∙ ap (record_length types) listed in
    let under : c.record_length.result ≤ MAX_RECORD_BODY = search rules in
    let short : record_length types vs ≤ MAX_RECORD_BODY = subst (λ n. n ≤ MAX_RECORD_BODY) measured under in
    let shared : c.in_ok-new.field-0.value ≡ c.args.tree = search rules in
    text_plan text tree slots codes c.args.budget ready conf there types vs is many tasks made
    (record {
      types_are = types_are;
      variables_are = variables_are;
      inputs_are = inputs_are;
      resources_are = resources_are;
      tasks_are = tasks_are;
      programs_are = programs_are;
      short = short;
    }) _ refl refl refl refl refl
    (ap (λ (t : code.Source). map (program_view (source_view t)) made) shared) refl
