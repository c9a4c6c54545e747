-- One product where a definition has two: between two values by their difference, and the second of two factors as what the first one leaves.
-- Over a ring both are identities; so they hold of all words, whose results are below p.
-- Assumes nothing.
use mathlib.Core.Path.{◌≡◌, refl, sym, ◌∙◌}
use Prim.Native.Nat.{ℕ, ◌<◌}
use native.Mathlib.Nat.{mod-lt}
use Rattle.algebra.specs.Numbers.{Numbers, words}
use Rattle.algebra.specs.Ring.{Ring}
use Rattle.algebra.specs.Residue.{residue}
use Rattle.algebra.proofs.Ring.{ring}
use Rattle.algebra.proofs.Hom.{hom_add, hom_sub, hom_mul}
use Rattle.algebra.proofs.Residue.{residues_ring, residue_hom, residue_injective}
use Rattle.multilinear.specs.Extension.{between}
use Rattle.multilinear.proofs.Hom.{hom_between}

module _ {C : Type 0} {N : Numbers C} (R : Ring N) where
  open N use {𝟙, add as ◌⊕◌, sub as ◌⊖◌, mul as ◌⊗◌}

  infixl 60 ◌⊕◌ ◌⊖◌
  infixl 70 ◌⊗◌
  slope : (r low high : C) → low ⊕ r ⊗ (high ⊖ low) ≡ between N r low high
  slope r low high = simp ring

  left_over : (r w : C) → w ⊖ r ⊗ w ≡ (𝟙 ⊖ r) ⊗ w
  left_over r w = simp ring

module _ (p : ℕ) (pos : 0 < p) where
  -- low + r × (high - low)
  pub by_slope : (r low high : ℕ) → (words p).add low ((words p).mul r ((words p).sub high low)) ≡ between (words p) r low high
  by_slope r low high =
      let H = residue_hom p pos in
      residue_injective p pos _ _ (mod-lt _ pos) (mod-lt _ pos)
      (hom_add H refl (hom_mul H refl (hom_sub H refl refl))
      ∙ slope (residues_ring p pos) (residue p pos r) (residue p pos low) (residue p pos high)
      ∙ sym (hom_between H refl refl refl))

  -- w - r × w
  pub by_rest : (r w : ℕ) → (words p).sub w ((words p).mul r w) ≡ (words p).mul ((words p).sub 1 r) w
  by_rest r w =
      let H = residue_hom p pos in
      residue_injective p pos _ _ (mod-lt _ pos) (mod-lt _ pos)
      (hom_sub H refl (hom_mul H refl refl)
      ∙ left_over (residues_ring p pos) (residue p pos r) (residue p pos w)
      ∙ sym (hom_mul H (hom_sub H H.keeps_𝟙 refl) refl))
