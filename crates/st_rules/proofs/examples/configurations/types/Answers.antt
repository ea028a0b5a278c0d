use Rattle.std.proofs.Common.{refl}
use Rattle.st_rules.specs.ConfigurationRules.{same_within}
use Rattle.st_rules.proofs.examples.configurations.types.Goals as goal

pub returns-clause-array_and_its_name : goal.returns-clause-array_and_its_name
unfolding same_within
returns-clause-array_and_its_name c = refl

pub returns-clause-other_bounds : goal.returns-clause-other_bounds
unfolding same_within
returns-clause-other_bounds c = refl

pub returns-clause-other_elements : goal.returns-clause-other_elements
unfolding same_within
returns-clause-other_elements c = refl

pub returns-clause-alike_structures : goal.returns-clause-alike_structures
unfolding same_within
returns-clause-alike_structures c = refl

pub returns-clause-one_structure : goal.returns-clause-one_structure
unfolding same_within
returns-clause-one_structure c = refl

pub returns-clause-elementary_ones : goal.returns-clause-elementary_ones
unfolding same_within
returns-clause-elementary_ones c = refl

pub returns-clause-other_lower_bound : goal.returns-clause-other_lower_bound
unfolding same_within
returns-clause-other_lower_bound c = refl

pub returns-clause-arrays_of_arrays : goal.returns-clause-arrays_of_arrays
unfolding same_within
returns-clause-arrays_of_arrays c = refl

pub returns-clause-arrays_of_other_arrays : goal.returns-clause-arrays_of_other_arrays
unfolding same_within
returns-clause-arrays_of_other_arrays c = refl

pub returns-clause-two_names : goal.returns-clause-two_names
unfolding same_within
returns-clause-two_names c = refl

pub returns-clause-array_and_element : goal.returns-clause-array_and_element
unfolding same_within
returns-clause-array_and_element c = refl

pub returns-clause-structure_and_array : goal.returns-clause-structure_and_array
unfolding same_within
returns-clause-structure_and_array c = refl

pub returns-clause-one_enumeration : goal.returns-clause-one_enumeration
unfolding same_within
returns-clause-one_enumeration c = refl

pub returns-clause-two_enumerations : goal.returns-clause-two_enumerations
unfolding same_within
returns-clause-two_enumerations c = refl

pub returns-clause-enumeration_and_number : goal.returns-clause-enumeration_and_number
unfolding same_within
returns-clause-enumeration_and_number c = refl
