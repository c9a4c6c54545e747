-- Every statement of this crate, proved.
-- Assumes nothing.
use Rattle.multilinear.specs.Theorems.{Theorems}
use Rattle.multilinear.proofs.Extension.{from_halves, halving_is_extension, at_corner}
use Rattle.multilinear.proofs.Hom.{hom_extension, value_along}
use Rattle.multilinear.proofs.Linear.{linear, first_fixed}
use Rattle.multilinear.proofs.Degree.{degree_bound}
use Rattle.multilinear.proofs.Words.{halving_on_words, at_corner_on_words, below, one_word, coefficients_below}
use Rattle.multilinear.proofs.Tables.{listed, length_weights, folded_entry, weights_kept, folded_kept}
use Rattle.multilinear.proofs.Apart.{stay_apart, apart_at_none, first_fixed_on_words}

pub proved : Theorems
proved = record {
  from_halves = λ N. from_halves;
  halving_is_extension = λ N. halving_is_extension;
  at_corner = λ N. at_corner;
  linear = λ N. linear;
  first_fixed = λ N. first_fixed;
  halving_on_words = halving_on_words;
  at_corner_on_words = at_corner_on_words;
  below = below;
  one_value = one_word;
  kept = λ N M h. hom_extension;
  degree_bound = degree_bound;
  value_along = λ N. value_along;
  coefficients_below = coefficients_below;
  listed = listed;
  weights_length = length_weights;
  folded_entry = λ N. folded_entry;
  weights_kept = λ N M h. weights_kept;
  folded_kept = λ N M h. folded_kept;
  stay_apart = stay_apart;
  apart_at_none = apart_at_none;
  first_fixed_on_words = first_fixed_on_words;
}
