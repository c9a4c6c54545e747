-- Two lists that differ: with the first variable fixed at r an entry is a line in r, and two lines that differ meet at most once.
-- Assumes nothing.
use Prim.Native.Nat.{Fin, ℕ, suc, ◌*◌, ◌/◌, ◌%◌, ◌^◌, ◌≤◌, ◌<◌}
use mathlib.Core.Path.{◌≡◌, refl, sym, ap, ap₂, ◌∙◌}
use mathlib.Core.Bool.{Bool, false, true≢false}
use mathlib.Core.List.{List, [], ◌∷◌, ◌++◌, map}
use native.Mathlib.Nat.{mod-lt, zero-mod, mod-eq_of_lt, mul-zero, add-zero, le_trans, le_of_eq, suc_inj, two-pow-succ}
use native.Mathlib.Decide.{ℕ_discrete}
use native.Mathlib.Omega.{arith}
use lib.Dec.{eqb}
use lib.ListN.{length, length-drop, length-map, take, drop, get_or, take-append-drop}
use lib.Seq.{length-take-le}
use borrow.Author.Tests.{eq-eqb}
use Rattle.lists.specs.Count.{count, range}
use Rattle.lists.proofs.Each.{all_take, all_drop}
use Rattle.lists.proofs.Count.{count_same, all_range}
use Rattle.primes.specs.Prime.{Prime}
use Rattle.algebra.specs.Numbers.{words}
use Rattle.algebra.specs.Residue.{residue, residues}
use Rattle.algebra.specs.Polynomial.{value_at}
use Rattle.algebra.specs.Theorems.{Residues}
use Rattle.algebra.proofs.Hom.{hom_add, hom_sub}
use Rattle.algebra.proofs.Residue.{residues_ring, residue_hom, residue_injective}
use Rattle.algebra.proofs.Roots.{root_bound}
use Rattle.multilinear.specs.Extension.{extension, between, blend, fold}
use Rattle.multilinear.specs.Apart.{StayApart, ApartAtNone, FirstFixedOnWords}
use Rattle.multilinear.proofs.Extension.{half}
use Rattle.multilinear.proofs.Hom.{hom_fold}
use Rattle.multilinear.proofs.Linear.{first_fixed}
use Rattle.multilinear.proofs.Slope.{by_slope}
use Rattle.multilinear.proofs.Tables.{length_fold}
use Rattle.multilinear.proofs.Words.{one_word, by_residues}

module _ (p : ℕ) (prime : Prime p) where
  pos : 0 < p
  pos = let two = prime.two_le in omega arith

  -- the line through a at 0 and b at 1
  abbrev line : ℕ → ℕ → List ℕ
  line a b = a ∷ (words p).sub b a ∷ []

  line_value : (a b r : ℕ) → value_at (words p) (line a b) r ≡ between (words p) r a b
  unfolding value_at
  line_value a b r =
      let s : ℕ = (words p).sub b a in
      let none : (r * 0) % p ≡ 0 = ap (λ (n : ℕ). n % p) (mul-zero r) ∙ zero-mod p in
      let whole : (words p).add s ((words p).mul r 0) ≡ s = ap ((words p).add s) none ∙ ap (λ (n : ℕ). n % p) (add-zero s) ∙ mod-eq_of_lt (mod-lt _ pos) in
      ap (λ (n : ℕ). (words p).add a ((words p).mul r n)) whole ∙ by_slope p pos r a b

  restore : (a b : ℕ) → b < p → (words p).add ((words p).sub b a) a ≡ b
  restore a b l =
      let H = residue_hom p pos in
      residue_injective p pos _ _ (mod-lt _ pos) l
      (hom_add H (hom_sub H refl refl) refl ∙ (residues_ring p pos).sub_add (residue p pos b) (residue p pos a))

  -- two lines that are not the same
  meet_once : (a b a' b' : ℕ) → a < p → a' < p → b < p → b' < p → (a ≡ a' → b ≡ b' → ⊥)
      → count (λ r. eqb (between (words p) r a b) (between (words p) r a' b')) (range p) ≤ 1
  meet_once a b a' b' la la' lb lb' ne =
      le_trans (le_of_eq (count_same (λ r. r < p) _ _ (λ r l. ap₂ eqb (sym (line_value a b r)) (sym (line_value a' b' r))) (range p) (all_range p)))
      (root_bound p prime 1 (line a b) (line a' b') refl refl (la, (mod-lt _ pos, tt)) (la', (mod-lt _ pos, tt)) other)
    where
      other : ¬ (line a b ≡ line a' b')
      other q =
          let e : a ≡ a' = ap (λ (l : List ℕ). get_or l 0 0) q in
          let s : (words p).sub b a ≡ (words p).sub b' a' = ap (λ (l : List ℕ). get_or l 1 0) q in
          ne e (sym (restore a b lb) ∙ ap₂ (words p).add s e ∙ restore a' b' lb')

  -- halves of one length, that are not the same: but for at most one r they are not the same when they are blended at r
  Parted : List ℕ → List ℕ → List ℕ → List ℕ → Type 0
  Parted low high low' high' =
      (lucky : ℕ → Bool) × (count lucky (range p) ≤ 1)
      × ((r : ℕ) → lucky r ≡ false → ¬ (blend (words p) r low high ≡ blend (words p) r low' high'))

  parted : (low high low' high' : List ℕ) → length high ≡ length low → length low' ≡ length low → length high' ≡ length low
      → Residues p low → Residues p high → Residues p low' → Residues p high' → (low ≡ low' → high ≡ high' → ⊥) → Parted low high low' high'
  unfolding Parted blend
  parted [] [] [] [] eh el' eh' l h l' h' ne = absurd (ne refl refl)
  parted [] (b ∷ high) low' high' eh el' eh' l h l' h' ne = absurd (omega arith)
  parted [] [] (a' ∷ low') high' eh el' eh' l h l' h' ne = absurd (omega arith)
  parted [] [] [] (b' ∷ high') eh el' eh' l h l' h' ne = absurd (omega arith)
  parted (a ∷ low) [] low' high' eh el' eh' l h l' h' ne = absurd (omega arith)
  parted (a ∷ low) (b ∷ high) [] high' eh el' eh' l h l' h' ne = absurd (omega arith)
  parted (a ∷ low) (b ∷ high) (a' ∷ low') [] eh el' eh' l h l' h' ne = absurd (omega arith)
  parted (a ∷ low) (b ∷ high) (a' ∷ low') (b' ∷ high') eh el' eh' l h l' h' ne =
      go (ℕ_discrete a a') (ℕ_discrete b b')
      (λ other. parted low high low' high' (suc_inj eh) (suc_inj el') (suc_inj eh') l.1 h.1 l'.1 h'.1 other)
    where
      here : (a ≡ a' → b ≡ b' → ⊥) → Parted (a ∷ low) (b ∷ high) (a' ∷ low') (b' ∷ high')
      here other = (
        λ r. eqb (between (words p) r a b) (between (words p) r a' b'),
        meet_once a b a' b' l.0 l'.0 h.0 h'.0 other,
        λ r u q. true≢false (sym (eq-eqb _ _ (ap (λ (t : List ℕ). get_or t 0 0) q)) ∙ u),
      )

      go : Dec (a ≡ a') → Dec (b ≡ b') → ((low ≡ low' → high ≡ high' → ⊥) → Parted low high low' high')
          → Parted (a ∷ low) (b ∷ high) (a' ∷ low') (b' ∷ high')
      go (no n) d rest = here (λ e f. n e)
      go (yes e) (no n) rest = here (λ e f. n f)
      go (yes e) (yes f) rest =
          let later = rest (λ q q'. ne (ap₂ (λ (x : ℕ) (t : List ℕ). x ∷ t) e q) (ap₂ (λ (x : ℕ) (t : List ℕ). x ∷ t) f q')) in
          (later.0, later.1, λ r u q. later.2 r u (ap (drop 1) q))

  blend_below : (r : ℕ) (low high : List ℕ) → Residues p (blend (words p) r low high)
  unfolding blend
  blend_below r [] high = tt
  blend_below r (a ∷ low) [] = tt
  blend_below r (a ∷ low) (b ∷ high) = (mod-lt _ pos, blend_below r low high)

  fold_below : (r : ℕ) (vs : List ℕ) → Residues p (fold (words p) r vs)
  unfolding fold
  fold_below r vs = blend_below r (take (length vs / 2) vs) (drop (length vs / 2) vs)

pub stay_apart : StayApart
unfolding Parted fold
stay_apart p prime k vs ws t =
    let ev : length vs / 2 ≡ 2 ^ k = half k (length vs) t.long in
    let ew : length ws / 2 ≡ 2 ^ k = half k (length ws) t.long' in
    let m : length ws / 2 ≡ length vs / 2 = ew ∙ sym ev in
    let low = length-take-le (length vs / 2) vs (omega arith) in
    let low' = length-take-le (length ws / 2) ws (omega arith) in
    let Small : ℕ → Type 0 = λ w. w < p in
    let w =
    parted p prime (take (length vs / 2) vs) (drop (length vs / 2) vs) (take (length ws / 2) ws) (drop (length ws / 2) ws)
    (length-drop (length vs / 2) vs ∙ omega (arith, low, two-pow-succ k, t.long)) (low' ∙ m ∙ sym low)
    (length-drop (length ws / 2) ws ∙ omega (arith, low, two-pow-succ k, t.long'))
    (all_take Small (length vs / 2) vs t.small) (all_drop Small (length vs / 2) vs t.small)
    (all_take Small (length ws / 2) ws t.small') (all_drop Small (length ws / 2) ws t.small')
    (λ q q'. t.differ (sym (take-append-drop (length vs / 2) vs) ∙ ap₂ ◌++◌ q q' ∙ take-append-drop (length ws / 2) ws)) in (
      w.0,
      w.1,
      λ c u. record {
        long = length_fold (words p) c vs ∙ ev;
        long' = length_fold (words p) c ws ∙ ew;
        small = fold_below p prime c vs;
        small' = fold_below p prime c ws;
        differ = w.2 c u;
      },
    )

pub apart_at_none : ApartAtNone
apart_at_none p (v ∷ []) (w ∷ []) t q =
    t.differ (ap (λ (x : ℕ). x ∷ []) (sym (one_word p v t.small.0) ∙ q ∙ one_word p w t.small'.0))
apart_at_none p [] ws t q = let e = t.long in absurd (omega arith)
apart_at_none p (v ∷ x ∷ vs) ws t q = let e = t.long in absurd (omega arith)
apart_at_none p (v ∷ []) [] t q = let e = t.long' in absurd (omega arith)
apart_at_none p (v ∷ []) (w ∷ x ∷ ws) t q = let e = t.long' in absurd (omega arith)

pub first_fixed_on_words : FirstFixedOnWords
first_fixed_on_words p pos vs c us e =
    let r = residue p pos in
    by_residues p pos vs (c ∷ us) (fold (words p) c vs) us
    (first_fixed (residues_ring p pos) (map r vs) (r c) (map r us)
    (length-map vs r ∙ e ∙ ap (λ (n : ℕ). 2 ^ suc n) (sym (length-map us r)))
    ∙ ap (λ (l : List (Fin p)). extension (residues p pos) l (map r us)) (sym (hom_fold (residue_hom p pos) c vs)))
