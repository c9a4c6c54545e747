-- Halving from the rest of a point as the code lends it on, and the sum that it is for residues.
-- Assumes nothing.
use mathlib.Core.Path.{◌≡◌, refl, sym, ap₂, ◌∙◌}
use mathlib.Core.List.{List}
use Prim.Native.Nat.{ℕ, ◌-◌, ◌/◌, ◌<◌}
use native.Mathlib.Omega.{arith}
use lib.ListN.{length, take, drop, get_or}
use Rattle.lists.proofs.Buffer.{rest_lent}
use Rattle.algebra.specs.Numbers.{Numbers}
use Rattle.field.specs.Modulus.{modulus, numbers}
use Rattle.field.specs.declared.Field.{Field}
use Rattle.multilinear.specs.Extension.{between, halving}
use Rattle.multilinear.proofs.Halving.{halving_step}
use Rattle.multilinear.proofs.Words.{halving_on_words}
use Rattle.extension.specs.Extended.{Extends}

pub from_halves : {C : Type 0} (N : Numbers C) (vs z : List C) (d low high : C) → 0 < length z
    → low ≡ halving N (take (length vs / 2) vs) (take (length z - 1) (drop 1 z))
    → high ≡ halving N (drop (length vs / 2) vs) (take (length z - 1) (drop 1 z)) → between N (get_or z 0 d) low high ≡ halving N vs z
from_halves N vs z d low high h l e =
    let rest = rest_lent z 1 (length z) refl in
    ap₂ (between N (get_or z 0 d)) (rw rest at l) (rw rest at e) ∙ sym (halving_step N vs z d h)

-- in a field the form by halves is all that has to be shown
pub extends : (f : Field) {values point : List ℕ} {r : ℕ} → r ≡ halving (numbers f) values point → Extends (modulus f) values point r
extends f {values} {point} {r} e = record {
  halves = e;
  sum = λ n below. e ∙ halving_on_words (modulus f) (omega arith) values point n below;
}
