use Rattle.semantics.proofs.laws.rest_is_so_in_the_three_systems.Goals as goal

pub returns-clause-in_two_values : goal.returns-clause-in_two_values
returns-clause-in_two_values c = c.rest_is_where_no_gate_can_be_taken.ensures.where_meanings_can_be_compared c.meanings_can_be_compared.ensures.in_two_values

pub returns-clause-in_three_values : goal.returns-clause-in_three_values
returns-clause-in_three_values c = c.rest_is_where_no_gate_can_be_taken-2.ensures.where_meanings_can_be_compared c.meanings_can_be_compared.ensures.in_three_values

pub returns-clause-in_lanes : goal.returns-clause-in_lanes
returns-clause-in_lanes c = c.rest_is_where_no_gate_can_be_taken-3.ensures.where_meanings_can_be_compared c.meanings_can_be_compared.ensures.in_lanes
