-- Where a session starts, refusal by refusal, and the opening's answer from it.
-- Assumes nothing.
use Prim.Native.Nat.{ℕ, ◌+◌, ◌-◌, ◌^◌, ◌<◌}
use mathlib.Core.Path.{◌≡◌, refl, sym, ap, ap₂, ◌∙◌, subst}
use mathlib.Core.Bool.{true}
use mathlib.Core.List.{List, []}
use native.Mathlib.Omega.{arith}
use lib.ListN.{length, take}
use Rattle.lists.specs.Each.{All}
use Rattle.algebra.specs.Numbers.{words}
use Rattle.multilinear.specs.Extension.{extension}
use Rattle.extension.specs.Extended.{Extends}
use Rattle.refusal.specs.Number.{number_of}
use Rattle.refusal.specs.Order.{first}
use Rattle.refusal.specs.declared.Cause.{Cause}
use Rattle.refusal.proofs.Order.{refused_by, refused_first, legal_first}
use Rattle.circuit.specs.Limits.{max_outputs}
use Rattle.circuit.specs.Circuit.{prime_of, output_exponent}
use Rattle.circuit.specs.Legal.{lists_cause}
use Rattle.circuit.proofs.Layers.{prime_modulus}
use Rattle.circuit.proofs.Loading.{legal_lists}
use Rattle.walk.specs.Session.{at}
use Rattle.protocol.specs.Start.{first_point, claim_at, first_claim}
use Rattle.protocol.specs.Rounds.{place}
use Rattle.protocol.specs.Check.{need_outputs, need_coins}
use Rattle.protocol.specs.Session.{OpenAnswer, opens, refuses, open_cause, opened_at, opened_by, open_answer}
use Rattle.protocol.proofs.Check.{opened, its_coins}
use Rattle.protocol.proofs.Outputs.{outputs_more}
use Rattle.protocol.proofs.Rounds.{coins_split}
use Rattle.short_list.specs.Short.{short}
use Rattle.short_list.proofs.Short.{held, uncut}
use Rattle.session.specs.Answers.{coins_in, Starts, Opens}
use Rattle.std.specs.Prelude.{Result, Ok, Err}

module _ (c input ys cs : List ℕ) where
  -- the refusals of the lists, the outputs and the coins, one after another
  by_parts : open_cause c input ys cs ≡ first (lists_cause c input) (first (need_outputs c ys 0) (need_coins c cs 0))
  unfolding open_cause
  by_parts = ap (first (lists_cause c input)) (sym (outputs_more c ys 0 (need_coins c cs 0)))

  -- REFUSED: the cause is Open's
  module _ (cause : Cause) where
    pub start_lists : number_of cause ≡ lists_cause c input → number_of cause ≡ open_cause c input ys cs
    start_lists e = sym (by_parts ∙ refused_first cause (lists_cause c input) _ e)

    module _ (legal : lists_cause c input ≡ 0) where
      pub start_outputs : number_of cause ≡ need_outputs c ys 0 → number_of cause ≡ open_cause c input ys cs
      start_outputs e = sym (by_parts ∙ legal_first (lists_cause c input) _ legal ∙ refused_first cause (need_outputs c ys 0) _ e)

      pub start_coins : need_outputs c ys 0 ≡ 0 → number_of cause ≡ need_coins c cs 0 → number_of cause ≡ open_cause c input ys cs
      start_coins none e =
          sym (by_parts ∙ legal_first (lists_cause c input) _ legal ∙ legal_first (need_outputs c ys 0) _ none ∙ sym e)

    pub starts_refused : (r : Result ℕ Cause) → r ≡ Err cause → number_of cause ≡ open_cause c input ys cs → Starts c input ys cs r
    starts_refused r told e = subst (Starts c input ys cs) (sym told) (record { cause = e; claim = tt })

  -- NOT REFUSED: the claim is what the code computes
  pub start_none : lists_cause c input ≡ 0 → need_outputs c ys 0 ≡ 0 → need_coins c cs 0 ≡ 0 → open_cause c input ys cs ≡ 0
  start_none legal none e = by_parts ∙ legal_first (lists_cause c input) _ legal ∙ legal_first (need_outputs c ys 0) _ none ∙ e

  pub start_claim : (largest x : ℕ) (point : List ℕ) → open_cause c input ys cs ≡ 0 → largest ≡ prime_of c - 1 → point ≡ first_point c cs
      → Extends (largest + 1) ys point x → x ≡ first_claim c ys cs
  unfolding claim_at
  start_claim largest x point free residue there e =
      let o = opened c input ys cs free in
      let f : largest + 1 ≡ prime_of c = prime_modulus c (legal_lists c input o.given.lists).circuit largest residue in
      let size : length point ≡ output_exponent c = ap length there ∙ (coins_split c cs (its_coins o)).before.0 in
      let below : All (λ v. v < largest + 1) ys = subst (λ (m : ℕ). All (λ v. v < m) ys) (sym f) o.outputs.residues in
      e.sum (o.outputs.size ∙ ap (λ (n : ℕ). 2 ^ n) (sym size)) below ∙ ap₂ (λ (m : ℕ) (l : List ℕ). extension (words m) ys l) f there

  -- OPEN, from where it starts
  pub opens_refused : (cause : Cause) → Starts c input ys cs (Err cause) → Opens c input ys cs (record { session = Err cause; coins = short (take max_outputs []) })
  unfolding open_answer
  opens_refused cause s =
      let e = refused_by (λ k. opened_by k (first_point c cs) (opened_at c ys cs)) refuses (λ n. refl) cause (open_cause c input ys cs) (sym s.cause) in
      record { answer = e; row = ap (λ (a : OpenAnswer). short (coins_in a)) e }

  pub opens_all : (claim : ℕ) (us : List ℕ) → Starts c input ys cs (Ok claim) → us ≡ first_point c cs
      → Opens c input ys cs (record { session = Ok (record { layer = 1; round = 0; claim = claim; «open» = true }); coins = short (take max_outputs us) })
  unfolding open_answer
  opens_all claim us s there =
      let o = opened c input ys cs (sym s.cause) in
      let size = (coins_split c cs (its_coins o)).before.0 in
      let few = (legal_lists c input o.given.lists).circuit.sized.headed.few in
      let all : take max_outputs us ≡ first_point c cs = ap (take max_outputs) there ∙ uncut (first_point c cs) (omega (arith, size, few)) in
      let e : open_answer c input ys cs ≡ opens (first_point c cs) (opened_at c ys cs) =
      ap (λ (k : ℕ). opened_by k (first_point c cs) (opened_at c ys cs)) (sym s.cause) in
      record {
        answer = ap₂ (λ (l : List ℕ) (y : ℕ). opens l (at (place 1 0) y)) (held (take max_outputs us) ∙ all) s.claim ∙ sym e;
        row = ap short all ∙ ap (λ (a : OpenAnswer). short (coins_in a)) (sym e);
      }
