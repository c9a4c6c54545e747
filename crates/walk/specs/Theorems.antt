-- What is proved of any walk over rounds, at once and by a session.
-- Assumes nothing.
use Rattle.std.specs.Prelude.{ℕ, suc, ◌<◌, ◌≡◌, length, take, get_or}
use mathlib.Core.List.{List, ◌∷◌, ◌++◌, map, flatten}
use Rattle.lists.specs.Count.{sum}
use Rattle.counting.specs.Coins.{CoinList}
use Rattle.counting.specs.Doomed.{Doomed, Fails}
use Rattle.walk.specs.Game.{Game, Comparison, passes, walk}
use Rattle.walk.specs.Rule.{Rule, Strategy, said, Fits, play, by_rule}
use Rattle.walk.specs.Claims.{Sound, Honest}
use Rattle.walk.specs.Session.{accepted, going_on, any_accepted, end_of, up_to, calls, at, PassesAt, Chain, cut}

module _ {R : Type 0} (g : Game R) (final : Comparison) where
  -- the walk on a rule's messages, one directly after another, judges them one by one
  abbrev pub JudgedOneByOne : Type 0
  JudgedOneByOne =
      (rule : Rule R) (rs : List R) (past : List ℕ) (claim : ℕ) (cs : List ℕ) → Fits g rule rs past cs
      → walk g final rs past claim (flatten (said rule rs past cs)) cs ≡ play g final (by_rule rule) rs past claim cs

  -- SOUNDNESS: from a bad claim on, few coin lists save a strategy
  abbrev pub BadDoomed : ℕ → (R → ℕ) → (List R → List ℕ → ℕ → Type 0) → Type 0
  BadDoomed p loss Bad =
      Sound g final p loss Bad → (σ : Strategy R) (rs : List R) (past : List ℕ) (claim : ℕ) → Bad rs past claim
      → Doomed p (map loss rs) Fails (λ cs. passes (play g final σ rs past claim cs))

  -- COMPLETENESS: from a true claim on, an honest strategy is accepted on every coin list
  abbrev pub TrueAccepted : ℕ → Strategy R → (List R → List ℕ → ℕ → Type 0) → Type 0
  TrueAccepted p σ True =
      Honest g final p σ True → (rs : List R) (past : List ℕ) (claim : ℕ) (cs : List ℕ) → True rs past claim → CoinList p (length rs) cs
      → play g final σ rs past claim cs ≡ 0

  -- A SESSION on a rule's messages accepts where the walk does;
  abbrev pub SessionAccepts : Type 0
  SessionAccepts =
      (rule : Rule R) (r : R) (rs : List R) (past : List ℕ) (claim : ℕ) (cs : List ℕ)
      → Chain g (r ∷ rs) (length past) → Fits g rule (r ∷ rs) past cs → length cs ≡ length (r ∷ rs)
      → any_accepted (calls g final (past ++ cs) (at r claim) (said rule (r ∷ rs) past cs)) ≡ passes (play g final (by_rule rule) (r ∷ rs) past claim cs)

  -- on the messages of a transcript of exact length it ends as the whole check does;
  abbrev pub SessionEnds : Type 0
  SessionEnds =
      (r : R) (rs : List R) (past : List ℕ) (claim : ℕ) (ms cs : List ℕ) → Chain g (r ∷ rs) (length past)
      → length ms ≡ sum (map g.len (r ∷ rs)) → length cs ≡ length (r ∷ rs)
      → end_of (calls g final (past ++ cs) (at r claim) (cut g (r ∷ rs) ms)) ≡ walk g final (r ∷ rs) past claim ms cs

  -- a coin is handed out only where its message passed, and it is that message's own;
  abbrev pub ComparedFirst : Type 0
  ComparedFirst =
      (ms : List (List ℕ)) (r d : R) (rs : List R) (past : List ℕ) (claim : ℕ) (cs : List ℕ) (j t : ℕ)
      → Chain g (r ∷ rs) (length past) → length cs ≡ length (r ∷ rs) → get_or (calls g final (past ++ cs) (at r claim) ms) j accepted ≡ going_on t
      → PassesAt g d (r ∷ rs) past claim ms cs j × (t ≡ get_or cs j 0)

  -- and no answer looks ahead: those before answer j depend on the coins before coin j alone, and answer j, where it is not the last, on coin j
  -- only in giving it.
  abbrev pub NoEarlyCoin : Type 0
  NoEarlyCoin =
      (ms : List (List ℕ)) (r : R) (rs : List R) (past : List ℕ) (claim : ℕ) (common : List ℕ) (c c' : ℕ) (rest rest' : List ℕ)
      → Chain g (r ∷ rs) (length past) → length common < length rs
      → up_to (length common) c' (calls g final (past ++ (common ++ c ∷ rest)) (at r claim) ms)
      ≡ take (suc (length common)) (calls g final (past ++ (common ++ c' ∷ rest')) (at r claim) ms)

-- all that this crate states; `proved` in `proofs/Proved` inhabits it
pub record Theorems : Type 1 where
  pub judged_one_by_one : {R : Type 0} (g : Game R) (final : Comparison) → JudgedOneByOne g final
  pub bad_doomed : {R : Type 0} (g : Game R) (final : Comparison) (p : ℕ) (loss : R → ℕ) (Bad : List R → List ℕ → ℕ → Type 0) → BadDoomed g final p loss Bad
  pub true_accepted : {R : Type 0} (g : Game R) (final : Comparison) (p : ℕ) (σ : Strategy R) (True : List R → List ℕ → ℕ → Type 0)
      → TrueAccepted g final p σ True
  pub session_accepts_lem : {R : Type 0} (g : Game R) (final : Comparison) → SessionAccepts g final
  pub session_ends : {R : Type 0} (g : Game R) (final : Comparison) → SessionEnds g final
  pub compared_first : {R : Type 0} (g : Game R) (final : Comparison) → ComparedFirst g final
  pub no_early_coin : {R : Type 0} (g : Game R) (final : Comparison) → NoEarlyCoin g final
