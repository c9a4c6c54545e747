-- Every statement of this crate, proved.
-- Assumes nothing.
use Rattle.xdr.specs.Theorems.{Theorems}
use Rattle.xdr.proofs.RoundTrip.{round_trip, only_encodings}

pub proved : Theorems
proved = record {
  round_trip = round_trip;
  only_encodings = only_encodings;
}
