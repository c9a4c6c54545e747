-- All that this crate states.
-- Assumes nothing.
use Rattle.protocol.specs.Theorems.{Demand3, Theorems}
use Rattle.protocol.proofs.Theorems.{honest_fits, whole_sound, whole_sharp, whole_complete, session_sound, session_sharp, session_complete}
use Rattle.protocol.proofs.Theorems.{same_end, same_acceptance, opening_on_first, no_early_coin, compared_first, honest_by_prefix}
use Rattle.protocol.proofs.One.{with_one_output}
use Rattle.protocol.proofs.Refusing.{refusal_keeps}
use Rattle.protocol.proofs.Proving.{proved_accepted, proved_in_turn, asked_accepted}

pub demand3 : Demand3
demand3 = record {
  whole_complete = whole_complete;
  whole_sound = whole_sound;
  session_complete = session_complete;
  session_sound = session_sound;
  proved_accepted = proved_accepted;
  proved_in_turn = proved_in_turn;
  asked_accepted = asked_accepted;
}

pub proved : Theorems
proved = record {
  demand_3 = demand3;
  whole_sharp = whole_sharp;
  session_sharp = session_sharp;
  same_end = same_end;
  same_acceptance = same_acceptance;
  opening_on_first = opening_on_first;
  no_early_coin = no_early_coin;
  compared_first = compared_first;
  refusal_keeps = refusal_keeps;
  honest_by_prefix = honest_by_prefix;
  honest_fits = honest_fits;
  with_one_output = with_one_output;
}
