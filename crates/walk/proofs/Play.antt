-- The walk on a rule's messages; its share of the coin lists from a bad start; its acceptance on all of them from a true one.
-- Assumes nothing.
use Prim.Native.Nat.{ℕ, zero, suc, ◌<◌}
use mathlib.Core.Path.{◌≡◌, refl, sym, ap, ◌∙◌, subst}
use mathlib.Core.Bool.{Bool, false, cond}
use mathlib.Core.List.{List, [], ◌∷◌, ◌++◌, map, flatten, append-nil, append_assoc}
use native.Mathlib.Nat.{suc_inj, suc-ne-zero, not-suc-le-zero, le_of_suc-le-suc}
use native.Mathlib.Omega.{arith}
use lib.ListN.{length, take, drop, get_or}
use lib.Seq.{take_at, drop_at}
use Rattle.lists.specs.Each.{All}
use Rattle.counting.specs.Coins.{CoinList}
use Rattle.counting.specs.Doomed.{Doomed, Fails}
use Rattle.counting.proofs.Doomed.{doomed_coin, doomed_end, doomed_refused}
use Rattle.refusal.specs.Order.{first}
use Rattle.walk.specs.Game.{Game, Comparison, passes, final_cause, walk}
use Rattle.walk.specs.Rule.{Rule, Strategy, said, Fits, play}
use Rattle.walk.specs.Claims.{Sound, Honest}
use Rattle.walk.specs.Theorems.{JudgedOneByOne}

-- message j is the rule's after the first j coins
pub said_at : {R : Type 0} (rule : Rule R) (rs : List R) (past cs : List ℕ) (j : ℕ) (d : R) → length cs ≡ length rs → j < length cs
    → get_or (said rule rs past cs) j [] ≡ rule (get_or rs j d) (past ++ take j cs)
unfolding said
said_at rule rs past [] j d n l = absurd (not-suc-le-zero l)
said_at rule [] past (c ∷ cs) j d n l = absurd (suc-ne-zero _ n)
said_at rule (r ∷ rs) past (c ∷ cs) zero d n l = ap (rule r) (sym (append-nil past))
said_at rule (r ∷ rs) past (c ∷ cs) (suc j) d n l =
    said_at rule rs (past ++ (c ∷ [])) cs j d (suc_inj n) (le_of_suc-le-suc l)
    ∙ ap (rule (get_or rs j d)) (append_assoc past (c ∷ []) (take j cs))

-- what holds of every message that a rule may say holds of those that it says
pub said_all : {R : Type 0} (P : List ℕ → Type 0) (rule : Rule R) → ((r : R) (past : List ℕ) → P (rule r past))
    → (rs : List R) (past cs : List ℕ) → All P (said rule rs past cs)
unfolding said
said_all P rule h [] past cs = tt
said_all P rule h (r ∷ rs) past [] = tt
said_all P rule h (r ∷ rs) past (c ∷ cs) = (h r past, said_all P rule h rs (past ++ (c ∷ [])) cs)

module _ {R : Type 0} (g : Game R) (final : Comparison) where
  pub walk_said : JudgedOneByOne g final
  unfolding walk said flatten play Fits
  walk_said rule [] past claim cs f = refl
  walk_said rule (r ∷ rs) past claim [] f = refl
  walk_said rule (r ∷ rs) past claim (c ∷ cs) f =
      let rest : List ℕ = flatten (said rule rs (past ++ (c ∷ [])) cs) in
      let tk : take (g.len r) (rule r past ++ rest) ≡ rule r past = take_at (rule r past) rest (g.len r) f.0 in
      let dr : drop (g.len r) (rule r past ++ rest) ≡ rest = drop_at (rule r past) rest (g.len r) f.0 in
      rw (tk, dr) (ap (first (g.judge r past claim (rule r past))) (walk_said rule rs (past ++ (c ∷ [])) (g.next (rule r past) c) cs f.1))

  -- SOUNDNESS: from a bad claim a message that passes keeps the claim bad but for few coins
  module _ (p : ℕ) (loss : R → ℕ) (Bad : List R → List ℕ → ℕ → Type 0) (sound : Sound g final p loss Bad) where
    pub play_doomed : (σ : Strategy R) (rs : List R) (past : List ℕ) (claim : ℕ) → Bad rs past claim
        → Doomed p (map loss rs) Fails (λ cs. passes (play g final σ rs past claim cs))
    unfolding play
    play_doomed σ [] past claim d =
        doomed_end p Fails (λ cs. passes (play g final σ [] past claim cs)) (ap (λ (b : Bool). passes (final_cause b)) (sound.ends past claim d))
    play_doomed σ (r ∷ rs) past claim d =
        go (λ c d'. play_doomed σ rs (past ++ (c ∷ [])) (g.next (σ r past claim) c) d') (g.judge r past claim (σ r past claim)) refl
      where
        go : ((c : ℕ) → Bad rs (past ++ (c ∷ [])) (g.next (σ r past claim) c)
            → Doomed p (map loss rs) Fails (λ cs. passes (play g final σ rs (past ++ (c ∷ [])) (g.next (σ r past claim) c) cs)))
            → (k : ℕ) → g.judge r past claim (σ r past claim) ≡ k
            → Doomed p (loss r ∷ map loss rs) Fails (λ cs. passes (play g final σ (r ∷ rs) past claim cs))
        go ih zero e =
            doomed_coin p (loss r) (map loss rs) Fails (λ cs. passes (play g final σ (r ∷ rs) past claim cs)) (sound.lucky (r ∷ rs) past (σ r past claim))
            (sound.few r rs past claim (σ r past claim) d e)
            (λ c l u. subst (λ (k : ℕ). Doomed p (map loss rs) Fails (λ cs. passes (first k (play g final σ rs (past ++ (c ∷ [])) (g.next (σ r past claim) c) cs))))
            (sym e) (ih c (sound.stays r rs past claim (σ r past claim) d e c l u)))
        go ih (suc k) e = doomed_refused p (loss r ∷ map loss rs) (λ cs. passes (play g final σ (r ∷ rs) past claim cs)) no_pass
          where
            no_pass : (cs : List ℕ) → passes (play g final σ (r ∷ rs) past claim cs) ≡ false
            no_pass [] = refl
            no_pass (c ∷ cs) = ap (λ (j : ℕ). passes (first j (play g final σ rs (past ++ (c ∷ [])) (g.next (σ r past claim) c) cs))) e

  -- COMPLETENESS: where each message passes from a true claim and leaves a true claim
  module _ (p : ℕ) (σ : Strategy R) (True : List R → List ℕ → ℕ → Type 0) (honest : Honest g final p σ True) where
    pub play_complete : (rs : List R) (past : List ℕ) (claim : ℕ) (cs : List ℕ) → True rs past claim → CoinList p (length rs) cs
        → play g final σ rs past claim cs ≡ 0
    unfolding play
    play_complete [] past claim cs t v = ap (λ (b : Bool). cond b 0 18) (honest.closes past claim t)
    play_complete (r ∷ rs) past claim [] t v = absurd (omega (arith, v.0))
    play_complete (r ∷ rs) past claim (c ∷ cs) t v =
        ap (λ (k : ℕ). first k (play g final σ rs (past ++ (c ∷ [])) (g.next (σ r past claim) c) cs)) (honest.goes r rs past claim t)
        ∙ play_complete rs (past ++ (c ∷ [])) (g.next (σ r past claim) c) cs (honest.keeps r rs past claim t c v.1.0) (suc_inj v.0, v.1.1)
