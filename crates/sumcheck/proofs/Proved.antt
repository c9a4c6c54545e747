-- Every statement of this crate, proved.
-- Assumes nothing.
use Rattle.sumcheck.specs.Theorems.{Theorems}
use Rattle.sumcheck.proofs.Layer.{formula}
use Rattle.sumcheck.proofs.Words.{formula_on_words, layer_identity, sum_of_two, sum_message_value, sum_message_words}
use Rattle.sumcheck.proofs.Words.{line_message_value, line_ends, line_message_words, partial_sum_below, line_point_length}
use Rattle.sumcheck.proofs.Gatewise.{sum_by_gates_lem}
use Rattle.sumcheck.proofs.Line.{line_by_halves}

pub proved : Theorems
proved = record {
  formula = λ N R. formula R;
  formula_on_words = formula_on_words;
  layer_identity = layer_identity;
  sum_of_two = sum_of_two;
  sum_message_value = sum_message_value;
  line_message_value = line_message_value;
  line_ends = line_ends;
  sum_message_words = sum_message_words;
  line_message_words = line_message_words;
  partial_sum_below = partial_sum_below;
  line_point_length = line_point_length;
  line_by_halves = line_by_halves;
  sum_by_gates_lem = sum_by_gates_lem;
}
