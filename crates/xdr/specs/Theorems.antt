-- What this crate proves besides the contract of `read`.
-- Assumes nothing.
use Rattle.std.specs.Prelude.{ℕ, ◌≤◌, ◌<◌, ◌^◌, ◌≡◌, List, length}
use Rattle.std.proofs.Math.Option.{some}
use Rattle.lists.specs.Each.{All}
use Rattle.xdr.specs.Limits.{max_count}
use Rattle.xdr.specs.Read.{arrays}
use Rattle.xdr.specs.Encode.{encode}

-- an array that may be sent: its length is in bounds, and its elements are words
abbrev pub Legal : List ℕ → Type 0
Legal ws = (length ws ≤ max_count) × All (λ w. w < 2 ^ 32) ws

-- what is encoded is found again
abbrev pub RoundTrip : Type 0
RoundTrip = (ls : List (List ℕ)) → All Legal ls → arrays (length ls) (encode ls) ≡ some ls

-- and nothing else is found: bytes that are read are the encoding of what is read from them
abbrev pub OnlyEncodings : Type 0
OnlyEncodings =
    (n : ℕ) (bytes : List ℕ) (ls : List (List ℕ)) → All (λ b. b < 256) bytes → arrays n bytes ≡ some ls
    → (length ls ≡ n) × All Legal ls × (bytes ≡ encode ls)

-- all that this crate states besides its contracts; `proved` in `proofs/Proved` inhabits it
pub record Theorems : Type 0 where
  pub round_trip : RoundTrip
  pub only_encodings : OnlyEncodings
