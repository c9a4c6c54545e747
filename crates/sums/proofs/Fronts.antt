-- The tables stand at the front of arrays of the widest layer's length, so the parts that are lent are the tables; and the numbers of
-- coordinates, clipped, take the coordinates that are fixed.
-- Assumes nothing.
use mathlib.Core.Path.{◌≡◌, refl, sym, ap, ◌∙◌}
use mathlib.Core.Bool.{Bool, not}
use mathlib.Core.List.{List, [], ◌∷◌}
use Prim.Native.Nat.{ℕ, ◌-◌, ◌/◌, ◌^◌, ◌≤◌, min}
use native.Mathlib.Nat.{sub-add-min_cancel, div-one}
use native.Mathlib.Numerals.{one-add}
use native.Mathlib.Decide.{dec_le}
use native.Mathlib.Omega.{arith}
use lib.Dec.{ltb, leb}
use lib.ListN.{length, take, get_or, length-take}
use lib.Pow.{shr-shr}
use lib.Seq.{length-take-le, take_all}
use borrow.Author.Tests.{lt-ltb, le-ltb, le-leb, lt-leb}
use Rattle.lists.proofs.Front.{front_take}
use Rattle.lists.proofs.Parts.{take_least, take_most}
use Rattle.algebra.specs.Numbers.{Numbers, words}
use Rattle.multilinear.specs.Extension.{fold}
use Rattle.multilinear.specs.Tables.{weights, folded}
use Rattle.multilinear.proofs.Tables.{length_weights, length_fold}
use Rattle.extension.specs.Limits.{row_length}
use Rattle.tables.specs.Limits.{table_width}
use Rattle.tables.specs.Table.{Table}
use Rattle.circuit.specs.Limits.{max_exponent}
use Rattle.circuit.specs.Gate.{Gate}
use Rattle.circuit.specs.Circuit.{width_of}
use Rattle.circuit.proofs.Sized.{width_of_lem, width_small}
use Rattle.sumcheck.specs.Gatewise.{Side, side_of, sums_of, sum_by_gates}
use Rattle.sums.specs.declared.wires.Cut.{Cut}
use Rattle.sums.specs.Wire.{CutAt}
use Rattle.sums.specs.Round.{fixed_first, fixed_second, side_at}

-- THE LIMITS: a point of the largest exponent fills its row, and the values of such a layer fill a table
pub row_is : row_length ≡ max_exponent
row_is = refl

pub table_is : table_width ≡ 2 ^ max_exponent
table_is = refl

-- THE PARTS THAT ARE LENT
width_within : (k n : ℕ) (entries table : List ℕ) → Table entries table → n ≡ width_of k → n ≤ length table
width_within k n entries table t e = let size = t.size in omega (arith, table_is, width_small k)

pub lent : (n : ℕ) (table : List ℕ) → n ≤ length table → n ≡ length (take n table)
lent n table h = sym (length-take-le n table h)

-- the next coordinate is the second point's where it is not the first's
leb_not : (a b : ℕ) → leb a b ≡ not (ltb b a)
leb_not a b = go (dec_le a b)
  where
    go : Dec (a ≤ b) → leb a b ≡ not (ltb b a)
    go (yes h) = le-leb a b h ∙ ap not (sym (le-ltb b a h))
    go (no h) = lt-leb a b (omega arith) ∙ ap not (sym (lt-ltb b a (omega arith)))

module _ (p : ℕ) where
  abbrev N : Numbers ℕ
  N = words p

  weights_lent : (k n : ℕ) (xs table : List ℕ) → length xs ≡ k → k ≤ max_exponent → n ≡ width_of k
      → Table (weights N xs) table → take n table ≡ weights N xs
  weights_lent k n xs table size small e t =
      front_take t n (e ∙ width_of_lem k small ∙ ap (λ (m : ℕ). 2 ^ m) (sym size) ∙ sym (length_weights N xs))

  length_of_folded : (xs vs : List ℕ) → length (folded N xs vs) ≡ length vs / 2 ^ length xs
  unfolding folded
  length_of_folded [] vs = sym (div-one (length vs))
  length_of_folded (x ∷ xs) vs =
      length_of_folded xs (fold N x vs) ∙ ap (λ (m : ℕ). m / 2 ^ length xs) (length_fold N x vs) ∙ shr-shr (length vs) 1 (length xs)
      ∙ ap (λ (m : ℕ). length vs / 2 ^ m) (one-add (length xs))

  -- THE TABLES of a point with the coordinates xs fixed: w shares are lent, and of m values what these leave
  pub record Fixed (m w : ℕ) (values xs shares table : List ℕ) : Type 0 where
    pub within : length xs ≤ max_exponent
    pub values_are : m ≡ min table_width (length values)
    pub width_is : w ≡ width_of (length xs)
    pub weighed : Table (weights N (take row_length xs)) shares
    pub folds : Table (folded N (take row_length xs) (take table_width values)) table

  abbrev pub cut_by : List ℕ → List ℕ → Cut → Side ℕ
  cut_by shares table c = record { shares = shares; table = table; size = c.size; half = c.half }

  module _ {m w : ℕ} {values xs shares table : List ℕ} (h : Fixed m w values xs shares table) where
    all : take row_length xs ≡ xs
    all = let within = h.within in take_all row_length xs (omega (arith, row_is))

    pub shares_within : w ≤ length shares
    shares_within = width_within (length xs) w _ shares h.weighed h.width_is

    pub fixed_side : (k : ℕ) (next : Bool) (c : Cut) → CutAt k (length xs) next c
        → cut_by (take w shares) (take (m / 2 ^ length xs) table) c ≡ side_at N k values xs next
    fixed_side k next c cut =
        let weighed : Table (weights N xs) shares = rw all at h.weighed in
        let folds : Table (folded N xs (take table_width values)) table = rw all at h.folds in
        let left : m / 2 ^ length xs ≡ length (folded N xs (take table_width values)) =
        rw (length_of_folded xs (take table_width values), length-take table_width values) (ap (λ (j : ℕ). j / 2 ^ length xs) h.values_are) in
        rw (weights_lent (length xs) w xs shares refl h.within h.width_is weighed, front_take folds (m / 2 ^ length xs) left, cut.size, cut.half)

  -- with none fixed: one share, and the values
  pub open_side : (k m : ℕ) (next : Bool) (values xs : List ℕ) (c : Cut) → length xs ≡ 0 → CutAt k (length xs) next c → m ≡ min table_width (length values)
      → cut_by (1 ∷ []) (take m values) c ≡ side_at N k values xs next
  unfolding weights folded
  open_side k m next values [] c none cut em = rw (cut.size, cut.half, em, take_most)
  open_side k m next values (x ∷ xs) c none cut em = absurd (omega arith)

  -- A ROUND with its numbers of coordinates clipped, and the weights at its point in a table
  pub record Clipped (k fixed first second width : ℕ) (point table : List ℕ) : Type 0 where
    pub first_is : first ≡ min fixed k
    pub second_is : second ≡ min (fixed - first) k
    pub width_is : width ≡ width_of (min row_length (length point))
    pub weighed : Table (weights N (take row_length point)) table

  module _ {k fixed first second width : ℕ} {point table : List ℕ} (rows : List (List ℕ)) (h : Clipped k fixed first second width point table) where
    pub weights_within : width ≤ length table
    weights_within = width_within _ width _ table h.weighed h.width_is

    abbrev us : List ℕ
    us = take first (get_or rows 0 [])

    abbrev vs : List ℕ
    vs = take second (get_or rows 1 [])

    pub round_is : (gs : List Gate) (values : List ℕ)
        → sums_of N (take width table) (side_of N k values us (ltb (length us) k)) (side_of N k values vs (leb k (length us))) gs
        ≡ sum_by_gates N k gs (take row_length point) values (fixed_first k fixed rows) (fixed_second k fixed rows)
    unfolding sum_by_gates
    round_is gs values =
        let left : us ≡ fixed_first k fixed rows = rw h.first_is (take_least fixed k (get_or rows 0 [])) in
        let rest : fixed - first ≡ fixed - k = omega (arith, h.first_is, sub-add-min_cancel fixed k) in
        let right : vs ≡ fixed_second k fixed rows = rw (h.second_is, rest) (take_least (fixed - k) k (get_or rows 1 [])) in
        let weigh : take width table ≡ weights N (take row_length point) =
        weights_lent (min row_length (length point)) width (take row_length point) table
        (length-take row_length point) (omega (arith, row_is)) h.width_is h.weighed in
        rw (weigh, left, right, leb_not k (length (fixed_first k fixed rows)))
