-- Laws of the words in a list of bytes: the one at a place, how many there are, and which.
-- Assumes nothing.
use mathlib.Core.Path.{◌≡◌, refl, sym, ap, ap₂, ◌∙◌}
use mathlib.Core.List.{List, [], ◌∷◌, map}
use Prim.Native.Nat.{ℕ, zero, suc, ◌-◌, ◌/◌, ◌≤◌, ◌<◌}
use native.Mathlib.Omega.{arith}
use lib.ListN.{length, get_or, take, drop, length-take, length-drop, get_or-eq_default}
use lib.Seq.{take_all, get_or-take}
use Rattle.std.specs.Int.{w32, from_be_bytes}
use Rattle.std.specs.Simd.{first_chunks}
use Rattle.lists.proofs.Map.{get_d_map_lt}
use Rattle.xdr.specs.Read.{words, first_word}

pub length_words : (l : List ℕ) → length (words l) ≡ length l / 4
unfolding words
length_words [] = refl
length_words (a ∷ []) = refl
length_words (a ∷ b ∷ []) = refl
length_words (a ∷ b ∷ c ∷ []) = refl
length_words (a ∷ b ∷ c ∷ d ∷ l) = let ih = length_words l in omega arith

-- the first word: where four bytes stand, and where not
pub first_four : (l : List ℕ) → 4 ≤ length l → from_be_bytes w32 (take 4 l) ≡ first_word l
unfolding first_word words
first_four [] h = absurd (omega arith)
first_four (a ∷ []) h = absurd (omega arith)
first_four (a ∷ b ∷ []) h = absurd (omega arith)
first_four (a ∷ b ∷ c ∷ []) h = absurd (omega arith)
first_four (a ∷ b ∷ c ∷ d ∷ l) h = omega arith

pub first_none : (l : List ℕ) → length l < 4 → first_word l ≡ 0
unfolding first_word
first_none l h = get_or-eq_default (words l) 0 (simp length_words (omega arith))

-- the words are those of the whole chunks of four bytes
pub words_chunks : (l : List ℕ) (n : ℕ) → n ≡ length l / 4 → map (from_be_bytes w32) (first_chunks 4 n l) ≡ words l
unfolding words first_word
words_chunks [] zero h = refl
words_chunks [] (suc n) h = absurd (omega arith)
words_chunks (a ∷ []) zero h = refl
words_chunks (a ∷ []) (suc n) h = absurd (omega arith)
words_chunks (a ∷ b ∷ []) zero h = refl
words_chunks (a ∷ b ∷ []) (suc n) h = absurd (omega arith)
words_chunks (a ∷ b ∷ c ∷ []) zero h = refl
words_chunks (a ∷ b ∷ c ∷ []) (suc n) h = absurd (omega arith)
words_chunks (a ∷ b ∷ c ∷ d ∷ l) zero h = absurd (omega arith)
words_chunks (a ∷ b ∷ c ∷ d ∷ l) (suc n) h =
    ap₂ (λ (w : ℕ) (ws : List ℕ). w ∷ ws) (first_four (a ∷ b ∷ c ∷ d ∷ l) (omega arith)) (words_chunks l n (omega arith))

-- so that word i is chunk i, also of some that are taken from the front
pub word_of : (l : List ℕ) (chunks : List (List ℕ)) (count i : ℕ) → chunks ≡ first_chunks 4 (length l / 4) l → i < length (take count chunks)
    → from_be_bytes w32 (get_or (take count chunks) i []) ≡ get_or (words l) i 0
word_of l chunks count i e within =
    let same : map (from_be_bytes w32) chunks ≡ words l = ap (map (from_be_bytes w32)) e ∙ words_chunks l (length l / 4) refl in
    let front : i < count = omega (arith, length-take count chunks) in
    let long : i < length chunks = omega (arith, length-take count chunks) in
    ap (from_be_bytes w32) (get_or-take count chunks i [] front)
    ∙ sym (get_d_map_lt (from_be_bytes w32) chunks i 0 [] long) ∙ ap (λ (ws : List ℕ). get_or ws i 0) same

-- where no byte stands there is no word
pub first_past : (l : List ℕ) (at : ℕ) → length l < at → first_word (drop at l) ≡ 0
first_past l at h = first_none (drop at l) (simp length-drop (omega arith))

pub first_rest : (l : List ℕ) (at : ℕ) → first_word (take (length l - at) (drop at l)) ≡ first_word (drop at l)
first_rest l at = ap first_word (take_all (length l - at) (drop at l) (simp length-drop (omega arith)))
