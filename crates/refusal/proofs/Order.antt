-- Laws of refusals in order.
-- Assumes nothing.
use Prim.Native.Nat.{ℕ, zero, suc}
use mathlib.Core.Path.{◌≡◌, refl, sym, ap, ◌∙◌}
use mathlib.Core.Bool.{Bool, true, false, cond}
use native.Mathlib.Nat.{suc-ne-zero}
use lib.Dec.{eqb, eqb-suc-zero}
use Rattle.refusal.specs.Number.{number_of}
use Rattle.refusal.specs.Order.{need, first}
use Rattle.refusal.specs.declared.Cause.{Cause}
use Rattle.refusal.specs.declared.Cause.TheVariants.{HeaderShort, PrimeUnlisted, DepthRange, ExponentRange, WordCount, GateKind, GateWires, InputCount, InputWord, BufferShort}
use Rattle.refusal.specs.declared.Cause.TheVariants.{CoinCount, CoinWord, OutputWord, MessageLength, MessageWord, RoundDiffers, LineDiffers, InputDiffers, RecordUnfit, BytesUnfit, OutputCount}

-- each number is above 0
numbered : (cause : Cause) (rest : ℕ) → first (number_of cause) rest ≡ number_of cause
numbered HeaderShort rest = refl
numbered PrimeUnlisted rest = refl
numbered DepthRange rest = refl
numbered ExponentRange rest = refl
numbered WordCount rest = refl
numbered GateKind rest = refl
numbered GateWires rest = refl
numbered InputCount rest = refl
numbered InputWord rest = refl
numbered BufferShort rest = refl
numbered CoinCount rest = refl
numbered CoinWord rest = refl
numbered OutputWord rest = refl
numbered MessageLength rest = refl
numbered MessageWord rest = refl
numbered RoundDiffers rest = refl
numbered LineDiffers rest = refl
numbered InputDiffers rest = refl
numbered RecordUnfit rest = refl
numbered BytesUnfit rest = refl
numbered OutputCount rest = refl

-- a cause's number as a successor, for what goes by cases on it
numbered_suc : (cause : Cause) → (n : ℕ) × (number_of cause ≡ suc n)
numbered_suc cause = go (number_of cause) refl
  where
    go : (n : ℕ) → number_of cause ≡ n → (m : ℕ) × (number_of cause ≡ suc m)
    go zero e = absurd (suc-ne-zero 0 (ap (λ (k : ℕ). first k 1) (sym e) ∙ numbered cause 1 ∙ e))
    go (suc n) e = (n, e)

-- a refusal is passed on
pub refused_first : (cause : Cause) (n rest : ℕ) → number_of cause ≡ n → first n rest ≡ number_of cause
refused_first cause n rest e = ap (λ (k : ℕ). first k rest) (sym e) ∙ numbered cause rest

-- no refusal: the next check decides
pub legal_first : (n rest : ℕ) → n ≡ 0 → first n rest ≡ rest
legal_first n rest e = ap (λ (k : ℕ). first k rest) e

-- no refusal of both: none of either
pub first_none : (n rest : ℕ) → first n rest ≡ 0 → (n ≡ 0) × (rest ≡ 0)
first_none zero rest e = (refl, e)
first_none (suc n) rest e = absurd (suc-ne-zero n e)

pub need_none : (b : Bool) (cause rest : ℕ) → need b (suc cause) rest ≡ 0 → (b ≡ true) × (rest ≡ 0)
need_none true cause rest e = (refl, e)
need_none false cause rest e = absurd (suc-ne-zero cause e)

-- what holds of every number that may be the answer
module _ (P : ℕ → Type 0) where
  pub need_all : (b : Bool) {cause rest : ℕ} → P cause → P rest → P (need b cause rest)
  need_all true h k = k
  need_all false h k = h

  pub first_all : (n : ℕ) {rest : ℕ} → P n → P rest → P (first n rest)
  first_all zero h k = k
  first_all (suc n) h k = h

-- more to try after a list of conditions
pub first_more : (cause more rest : ℕ) → first (first cause more) rest ≡ first cause (first more rest)
first_more zero more rest = refl
first_more (suc cause) more rest = refl

pub need_more : (b : Bool) (n more rest : ℕ) → first (need b (suc n) more) rest ≡ need b (suc n) (first more rest)
need_more true n more rest = refl
need_more false n more rest = refl

-- where a cause is found, an answer that goes by the number is the refusal with it, and nothing is written
pub refused_by : {A : Type 0} (answer refusal : ℕ → A) → ((n : ℕ) → refusal (suc n) ≡ answer (suc n)) → (cause : Cause) (n : ℕ) → n ≡ number_of cause
    → refusal (number_of cause) ≡ answer n
refused_by answer refusal same cause n e =
    let s = numbered_suc cause in
    ap refusal s.1 ∙ same s.0 ∙ sym (ap answer (e ∙ s.1))

pub left_by : {A : Type 0} (cause : Cause) (n : ℕ) (written before : A) → n ≡ number_of cause → cond (eqb n 0) written before ≡ before
left_by cause n written before e =
    sym (refused_by (λ k. cond (eqb k 0) written before) (λ k. before) (λ k. sym (ap (λ (b : Bool). cond b written before) (eqb-suc-zero k))) cause n e)
