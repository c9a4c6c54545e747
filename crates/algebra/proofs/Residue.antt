-- The residues are a commutative ring, without zero divisors where p is prime, and a word's residue keeps the operations; so what
-- holds in the ring holds of words below p.
-- Assumes nothing.
use Prim.Native.Nat.{ℕ, ◌+◌, ◌*◌, ◌-◌, ◌%◌, ◌≤◌, ◌<◌, Fin}
use mathlib.Core.Path.{◌≡◌, refl, sym, ◌∙◌, ap}
use mathlib.Core.Logic.{◌⊎◌, inl, inr}
use mathlib.Core.List.{List, [], ◌∷◌, map}
use native.Mathlib.Omega.{arith}
use native.Mathlib.Nat.{zero-mod, mod-eq_of_lt, mod-add-mod, add-mod-mod, add_assoc, add_comm, add-zero, mul_assoc, mul_comm, mul-one, mul-add, mod-mod, add-mod_right, le_of_lt}
use Rattle.lists.specs.Each.{All}
use Rattle.primes.specs.Prime.{Prime}
use Rattle.algebra.specs.Numbers.{words}
use Rattle.algebra.specs.Ring.{Ring}
use Rattle.algebra.specs.Hom.{Hom}
use Rattle.algebra.specs.Residue.{residue, residues}
use Rattle.algebra.proofs.Euclid.{mod_mul_left, mod_mul_right, no_zero_divisors}

module _ (p : ℕ) (pos : 0 < p) where
  pub residue_val : (n : ℕ) → (residue p pos n).0 ≡ n % p
  unfolding residue
  residue_val n = refl

  -- words below p with one residue are one word
  pub residue_injective : (a b : ℕ) → a < p → b < p → residue p pos a ≡ residue p pos b → a ≡ b
  unfolding residue
  residue_injective a b la lb e = sym (mod-eq_of_lt la) ∙ ap (λ (x : Fin p). x.0) e ∙ mod-eq_of_lt lb

  pub residues_injective : (f g : List ℕ) → All (λ c. c < p) f → All (λ c. c < p) g → map (residue p pos) f ≡ map (residue p pos) g → f ≡ g
  residues_injective f g lf lg e = sym (values f lf) ∙ ap (map (λ (x : Fin p). x.0)) e ∙ values g lg
    where
      values : (f : List ℕ) → All (λ c. c < p) f → map (λ (x : Fin p). x.0) (map (residue p pos) f) ≡ f
      values [] h = refl
      values (c ∷ f) h = let e : (residue p pos c).0 ≡ c = residue_val c ∙ mod-eq_of_lt h.0 in let ih = values f h.1 in cc

  -- a sum with a difference's second part brought back
  restore : (a b : ℕ) → b ≤ p → (a + (p - b)) + b ≡ a + p
  restore a b h = omega arith

  pub residues_ring : Ring (residues p pos)
  unfolding residue residues
  residues_ring = record {
    add_assoc = λ a b c. native.Mathlib.Fin.val_path (simp (mod-add-mod, add-mod-mod, add_assoc));
    add_comm = λ a b. native.Mathlib.Fin.val_path (simp (add_comm));
    add_zero = λ a. native.Mathlib.Fin.val_path (simp (zero-mod, add-zero, mod-eq_of_lt a.1));
    sub_add = λ a b. native.Mathlib.Fin.val_path
        (mod-add-mod (a.0 + (p - b.0)) p b.0 ∙ ap (λ (n : ℕ). n % p) (restore a.0 b.0 (le_of_lt b.1))
        ∙ add-mod_right a.0 p ∙ mod-eq_of_lt a.1);
    mul_assoc = λ a b c. native.Mathlib.Fin.val_path (simp (mod_mul_left, mod_mul_right, mul_assoc));
    mul_comm = λ a b. native.Mathlib.Fin.val_path (simp (mul_comm));
    mul_one = λ a. native.Mathlib.Fin.val_path (simp (mod_mul_right, mul-one, mod-eq_of_lt a.1));
    mul_add = λ a b c. native.Mathlib.Fin.val_path (simp (mod_mul_right, mod-add-mod, add-mod-mod, mul-add));
  }

  -- on words every operation is reduced, so it has the residue that the ring's operation gives
  pub residue_hom : Hom (words p) (residues p pos) (residue p pos)
  unfolding residue residues
  residue_hom = record {
    keeps_𝟘 = refl;
    keeps_𝟙 = refl;
    keeps_add = λ a b. native.Mathlib.Fin.val_path (mod-mod (a + b) p ∙ simp (mod-add-mod, add-mod-mod));
    keeps_sub = λ a b. native.Mathlib.Fin.val_path (mod-mod (a + (p - b % p)) p ∙ sym (mod-add-mod a p (p - b % p)));
    keeps_mul = λ a b. native.Mathlib.Fin.val_path (mod-mod (a * b) p ∙ simp (mod_mul_left, mod_mul_right));
  }

pub no_divisors : (p : ℕ) (pos : 0 < p) → Prime p → (a b : Fin p) → (residues p pos).mul a b ≡ (residues p pos).𝟘
    → (a ≡ (residues p pos).𝟘) ⊎ (b ≡ (residues p pos).𝟘)
unfolding residue residues
no_divisors p pos prime a b h = go (no_zero_divisors p prime a.0 b.0 (ap (λ (x : Fin p). x.0) h ∙ zero-mod p))
  where
    zero_of : (a : Fin p) → a.0 % p ≡ 0 → a ≡ (residues p pos).𝟘
    zero_of a e = native.Mathlib.Fin.val_path (sym (mod-eq_of_lt a.1) ∙ e ∙ sym (zero-mod p))

    go : (a.0 % p ≡ 0) ⊎ (b.0 % p ≡ 0) → (a ≡ (residues p pos).𝟘) ⊎ (b ≡ (residues p pos).𝟘)
    go (inl e) = inl (zero_of a e)
    go (inr e) = inr (zero_of b e)
