-- The listed moduli are prime: a composite word has a divisor from 2 to 65,535 that is smaller than itself, and the checker tries
-- them all.
-- Assumes nothing.
use Prim.Native.Nat.{ℕ, zero, suc, ◌*◌, ◌%◌, ◌≤◌, ◌<◌}
use mathlib.Core.Path.{◌≡◌, refl, sym, ◌∙◌, ap, subst}
use mathlib.Core.Logic.{◌⊎◌, inl, inr, ◌≢◌}
use mathlib.Core.Bool.{Bool, true, false, not, ◌&&◌, ◌||◌}
use mathlib.Core.List.{List, [], ◌∷◌}
use native.Mathlib.Omega.{arith}
use native.Mathlib.Nat.{mul-mod_right, zero-mul, mul-zero, mul-one, mul-le-mul, mul_comm}
use native.Mathlib.Decide.{dec_le, ℕ_discrete}
use lib.Dec.{T, eqb, ltb, leb, eqb_refl, eqb→eq, ltb→lt, leb→le, lt→ltb, T_not}
use Rattle.primes.specs.Prime.{Prime, listed, is_one_of, ListedArePrime, is_listed}

-- d divides p and is smaller
splits : ℕ → ℕ → Bool
splits p d = eqb (p % d) 0 && ltb d p

-- no number of 2 .. k + 1 splits p
trial : ℕ → ℕ → Bool
unfolding splits
trial p zero = true
trial p (suc k) = elim (splits p (suc (suc k))) [ true ↦ false | false ↦ trial p k ]

both : (a b : Bool) → T a → T b → T (a && b)
both true true s t = tt
both true false s t = t
both false b s t = s

split_T : (a b : Bool) → T (a && b) → T a × T b
split_T true b t = (tt, t)
split_T false b t = absurd t

trial_step : (p k : ℕ) (b : Bool) → b ≡ splits p (suc (suc k)) → T (elim b [ true ↦ false | false ↦ trial p k ])
    → T (not (splits p (suc (suc k)))) × T (trial p k)
trial_step p k true e t = absurd t
trial_step p k false e t = (subst (λ (b : Bool). T (not b)) e tt, t)

trial_sound : (p k : ℕ) → T (trial p k) → (d : ℕ) → 2 ≤ d → d ≤ suc k → d < p → p % d ≢ 0
unfolding trial splits
trial_sound p zero t d lo hi l z = absurd (omega arith)
trial_sound p (suc k) t d lo hi l z = go (λ (r : T (trial p k)) (h : d ≤ suc k). trial_sound p k r d lo h l z) (ℕ_discrete d (suc (suc k)))
  where
    parts : T (not (splits p (suc (suc k)))) × T (trial p k)
    parts = trial_step p k (splits p (suc (suc k))) refl t

    divided : d ≡ suc (suc k) → T (splits p (suc (suc k)))
    divided q = both (eqb (p % suc (suc k)) 0) (ltb (suc (suc k)) p)
        (subst (λ (n : ℕ). T (eqb n 0)) (sym (ap (λ (n : ℕ). p % n) (sym q) ∙ z)) (eqb_refl 0))
        (lt→ltb (suc (suc k)) p (subst (λ (n : ℕ). n < p) q l))

    go : (T (trial p k) → d ≤ suc k → ⊥) → Dec (d ≡ suc (suc k)) → ⊥
    go rec (yes q) = T_not (splits p (suc (suc k))) parts.0 (divided q)
    go rec (no n) = rec parts.1 (omega arith)

prime_by_trial : (p k : ℕ) → 2 ≤ p → p < suc (suc k) * suc (suc k) → T (trial p k) → Prime p
prime_by_trial p k two small t = record { two_le = two; only = only }
  where
    divisor : (d e : ℕ) → d * e ≡ p → p % d ≡ 0
    divisor d e q = subst (λ (n : ℕ). n % d ≡ 0) q (mul-mod_right d e)

    -- of two factors from 2 up, each is smaller than the product
    smaller : (d e : ℕ) → suc (suc d) * suc (suc e) ≡ p → suc (suc d) < p
    smaller d e q = omega (arith, q)

    only : (d e : ℕ) → d * e ≡ p → (d ≡ 1) ⊎ (d ≡ p)
    only zero e q = absurd (omega (arith, zero-mul e, q))
    only (suc zero) e q = inl refl
    only (suc (suc d)) zero q = absurd (omega (arith, mul-zero (suc (suc d)), q))
    only (suc (suc d)) (suc zero) q = inr (sym (mul-one (suc (suc d))) ∙ q)
    only (suc (suc d)) (suc (suc e)) q = absurd (go (dec_le (suc (suc d)) (suc k)) (dec_le (suc (suc e)) (suc k)))
      where
        q' : suc (suc e) * suc (suc d) ≡ p
        q' = mul_comm (suc (suc e)) (suc (suc d)) ∙ q

        go : Dec (suc (suc d) ≤ suc k) → Dec (suc (suc e) ≤ suc k) → ⊥
        go (yes h) _ = trial_sound p k t (suc (suc d)) (omega arith) h (smaller d e q) (divisor (suc (suc d)) (suc (suc e)) q)
        go (no h) (yes h') = trial_sound p k t (suc (suc e)) (omega arith) h' (smaller e d q') (divisor (suc (suc e)) (suc (suc d)) q')
        go (no h) (no h') =
            let big : suc (suc k) * suc (suc k) ≤ suc (suc d) * suc (suc e) = mul-le-mul (omega arith) (omega arith) in
            let small' : suc p ≤ suc (suc k) * suc (suc k) = small in
            omega (arith, big, small', q)

-- a word that no number up to 65,535 splits
is_prime_word : ℕ → Bool
is_prime_word p = leb 2 p && (ltb p 4294967296 && trial p 65534)

prime_word : (p : ℕ) → T (is_prime_word p) → Prime p
unfolding is_prime_word
prime_word p t =
    let a = split_T (leb 2 p) (ltb p 4294967296 && trial p 65534) t in
    let b = split_T (ltb p 4294967296) (trial p 65534) a.1 in
    prime_by_trial p 65534 (leb→le 2 p a.0) (ltb→lt p 4294967296 b.0) b.1

-- each of a list passes
all_prime : List ℕ → Bool
all_prime [] = true
all_prime (p ∷ l) = is_prime_word p && all_prime l

one_of : (l : List ℕ) → T (all_prime l) → (p : ℕ) → is_one_of l p ≡ true → Prime p
unfolding all_prime is_one_of
one_of [] t p e = absurd (subst T (sym e) tt)
one_of (q ∷ l) t p e = go (split_T (is_prime_word q) (all_prime l) t) (eqb p q) refl (λ s f. one_of l s p f) e
  where
    go : T (is_prime_word q) × T (all_prime l) → (b : Bool) → eqb p q ≡ b → (T (all_prime l) → is_one_of l p ≡ true → Prime p)
        → (b || is_one_of l p) ≡ true → Prime p
    go s true f rec g = subst Prime (sym (eqb→eq p q (subst T (sym f) tt))) (prime_word q s.0)
    go s false f rec g = rec s.1 g

pub listed_prime : ListedArePrime
unfolding all_prime is_prime_word trial
listed_prime = one_of listed tt

-- none of a list is below m
all_from : ℕ → List ℕ → Bool
all_from m [] = true
all_from m (q ∷ l) = leb m q && all_from m l

one_from : (m : ℕ) (l : List ℕ) → T (all_from m l) → (p : ℕ) → is_one_of l p ≡ true → m ≤ p
unfolding all_from is_one_of
one_from m [] t p e = absurd (subst T (sym e) tt)
one_from m (q ∷ l) t p e = go (split_T (leb m q) (all_from m l) t) (eqb p q) refl (λ s f. one_from m l s p f) e
  where
    go : T (leb m q) × T (all_from m l) → (b : Bool) → eqb p q ≡ b → (T (all_from m l) → is_one_of l p ≡ true → m ≤ p)
        → (b || is_one_of l p) ≡ true → m ≤ p
    go s true f rec g = subst (λ (n : ℕ). m ≤ n) (sym (eqb→eq p q (subst T (sym f) tt))) (leb→le m q s.0)
    go s false f rec g = rec s.1 g

-- the least of the listed is 13
pub listed_least : (p : ℕ) → is_listed p ≡ true → 13 ≤ p
unfolding all_from
listed_least = one_from 13 listed tt
