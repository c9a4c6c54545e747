-- Every statement of this crate, proved.
-- Assumes nothing.
use Rattle.circuit.specs.Theorems.{Theorems}
use Rattle.circuit.proofs.Layers.{legal_prime, values_are_residues, layer_sizes, last_layer, layer_by_layer, wires_below_next, output_layer, one_output}
use Rattle.circuit.proofs.Largest.{legal_sizes, largest_sizes}

pub proved : Theorems
proved = record {
  legal_prime = legal_prime;
  values_are_residues = values_are_residues;
  layer_sizes = layer_sizes;
  last_layer = last_layer;
  layer_by_layer = layer_by_layer;
  wires_below = wires_below_next;
  output_layer = output_layer;
  one_output = one_output;
  legal_sizes = legal_sizes;
  largest_sizes = largest_sizes;
}
