-- Every statement of this crate, proved.
-- Assumes nothing.
use Rattle.counting.specs.Theorems.{Theorems}
use Rattle.counting.proofs.Coins.{only_coin_lists, each_once, total, split_at_first, split_after, monotone, union, every_one, blocks}
use Rattle.counting.proofs.Doomed.{losses_add, losses_multiply, doomed_then}
use Rattle.counting.proofs.Process.{silent_moves}

pub proved : Theorems
proved = record {
  only_coin_lists = only_coin_lists;
  each_once = each_once;
  total = total;
  split_at_first = split_at_first;
  split_after = split_after;
  monotone = monotone;
  union = union;
  every_one = every_one;
  blocks = blocks;
  losses_add = losses_add;
  losses_multiply = losses_multiply;
  stages = doomed_then;
  silent_moves = silent_moves;
}
