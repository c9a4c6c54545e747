-- All that this crate states.
-- Assumes nothing.
use Rattle.walk.specs.Theorems.{Theorems}
use Rattle.walk.proofs.Play.{walk_said, play_doomed, play_complete}
use Rattle.walk.proofs.Session.{session_play, transcript_session, compared_first, no_early_coin}

pub proved : Theorems
proved = record {
  judged_one_by_one = walk_said;
  bad_doomed = λ g final p loss Bad sound. play_doomed g final p loss Bad sound;
  true_accepted = λ g final p σ True honest. play_complete g final p σ True honest;
  session_accepts_lem = session_play;
  session_ends = transcript_session;
  compared_first = compared_first;
  no_early_coin = no_early_coin;
}
