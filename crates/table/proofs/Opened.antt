-- The definitions that the cases compute with, in groups: to unfold a group is to unfold all that its line names.
-- Assumes nothing.
use mathlib.Core.List.{flatten}
use Rattle.lists.specs.Count.{sum}
use Rattle.primes.specs.Prime.{is_one_of}
use Rattle.algebra.specs.Polynomial.{value_at, plus, minus, times}
use Rattle.multilinear.specs.Extension.{bits, weight_of_bits, sum_from, extension}
use Rattle.circuit.specs.Gate.{gate_value}
use Rattle.circuit.specs.Circuit.{exponents, gates_of, layers_of, gate_count, gate_layers, gates_at, word_count, input_exponent, coin_count, message_words}
use Rattle.circuit.specs.Legal.{all_below, wires_good, gate_cause, gates_cause, layers_cause, load_answer, input_cause, lists_cause}
use Rattle.circuit.specs.Values.{layers_from, layers, values_at}
use Rattle.sumcheck.specs.Summand.{wiring, combined, summand, cube, partial_sum, line_point}
use Rattle.sumcheck.specs.Message.{fit, sum_message, line_message}
use Rattle.walk.specs.Game.{walk}
use Rattle.walk.specs.Rule.{said}
use Rattle.walk.specs.Session.{end_of, step}
use Rattle.protocol.specs.Start.{claim_at}
use Rattle.protocol.specs.Rounds.{rounds_of, rounds_from}
use Rattle.protocol.specs.Judge.{line_claim, message_length, compared, judge, input_agrees, descent}
use Rattle.protocol.specs.Check.{check_answer}
use Rattle.protocol.specs.Session.{open_cause, open_answer, record_fits, step_cause, step_answer, steps}
use Rattle.protocol.specs.Prove.{honest, transcript, prove_cause, prove_answer, prove_buffer, prove_one_cause, prove_one_answer, prove_one_buffer}

-- a circuit's parts, and its rounds
unfoldable pub parts : Unit {0}
unfolding exponents gates_of layers_of gate_count gate_layers gates_at word_count input_exponent coin_count message_words rounds_of rounds_from sum
parts = tt

-- the refusals 1 to 9
unfoldable pub legality : Unit {0}
unfolding parts is_one_of all_below wires_good gate_cause gates_cause layers_cause load_answer input_cause lists_cause
legality = tt

-- the extension and the summand
unfoldable pub extending : Unit {0}
unfolding bits weight_of_bits sum_from extension wiring combined line_point
extending = tt

-- Check
unfoldable pub checking : Unit {0}
unfolding legality extending value_at line_claim message_length compared judge input_agrees descent claim_at walk check_answer flatten
checking = tt

-- Open and Step
unfoldable pub stepping : Unit {0}
unfolding checking open_cause open_answer record_fits step_cause step step_answer steps end_of
stepping = tt

-- the values and the honest messages
unfoldable pub honestly : Unit {0}
unfolding parts extending gate_value layers_from layers values_at plus minus times summand cube partial_sum fit sum_message line_message honest
honestly = tt

-- both forms of Prove
unfoldable pub proving : Unit {0}
unfolding legality honestly message_length descent said transcript flatten prove_cause prove_answer prove_buffer prove_one_cause prove_one_answer prove_one_buffer
proving = tt
