-- Arrays that are encoded are found again, and bytes that hold arrays are their encoding: a word and its four bytes give each other,
-- and so word by word and array by array.
-- Assumes nothing.
use mathlib.Core.Path.{◌≡◌, refl, sym, ap, ap₂, ◌∙◌}
use mathlib.Core.Bool.{true}
use mathlib.Core.Option.{some}
use mathlib.Core.List.{List, [], ◌∷◌, ◌++◌, flat_map, append_assoc}
use Prim.Native.Nat.{ℕ, zero, suc, ◌+◌, ◌*◌, ◌/◌, ◌%◌, ◌^◌, ◌≤◌, ◌<◌}
use native.Mathlib.Nat.{div-div-eq-div-mul, div-add-mod', mod-eq_of_lt}
use native.Mathlib.Omega.{arith}
use lib.ListN.{length, take, drop, length-append, length-take, length-drop, take-append-drop}
use lib.Seq.{take_at, drop_at, drop-drop}
use Rattle.lists.specs.Each.{All}
use Rattle.lists.proofs.Each.{all_take, all_drop}
use Rattle.xdr.specs.Read.{word, words, first_word, size, whole, prepend, arrays}
use Rattle.xdr.specs.Encode.{bytes_of, encode_array, encode}
use Rattle.xdr.specs.Theorems.{Legal, RoundTrip, OnlyEncodings}
use Rattle.xdr.proofs.Found.{front, behind, whole_yes, whole_fits, length_front, found_none, found_more, length_arrays}

-- A WORD AND ITS BYTES
word_of_bytes : (w : ℕ) → w < 2 ^ 32 → word (w / 16777216 % 256) (w / 65536 % 256) (w / 256 % 256) (w % 256) ≡ w
word_of_bytes w h =
    let low : w / 256 * 256 + w % 256 ≡ w = div-add-mod' w 256 in
    let next : w / 65536 * 256 + w / 256 % 256 ≡ w / 256 =
    ap (λ (k : ℕ). k * 256 + w / 256 % 256) (sym (div-div-eq-div-mul w 256 256)) ∙ div-add-mod' (w / 256) 256 in
    let high : w / 16777216 * 256 + w / 65536 % 256 ≡ w / 65536 =
    ap (λ (k : ℕ). k * 256 + w / 65536 % 256) (sym (div-div-eq-div-mul w 65536 256)) ∙ div-add-mod' (w / 65536) 256 in
    let top : w / 16777216 % 256 ≡ w / 16777216 = mod-eq_of_lt (omega arith) in
    omega arith

module _ (a b c d : ℕ) (ha : a < 256) (hb : b < 256) (hc : c < 256) (hd : d < 256) where
  byte₀ : word a b c d / 16777216 % 256 ≡ a
  byte₀ = omega arith

  byte₁ : word a b c d / 65536 % 256 ≡ b
  byte₁ = omega arith

  byte₂ : word a b c d / 256 % 256 ≡ c
  byte₂ = omega arith

  byte₃ : word a b c d % 256 ≡ d
  byte₃ = omega arith

bytes_of_word : (a b c d : ℕ) → a < 256 → b < 256 → c < 256 → d < 256 → bytes_of (word a b c d) ≡ a ∷ b ∷ c ∷ d ∷ []
unfolding bytes_of
bytes_of_word a b c d ha hb hc hd =
    rw (byte₀ a b c d ha hb hc hd, byte₁ a b c d ha hb hc hd, byte₂ a b c d ha hb hc hd, byte₃ a b c d ha hb hc hd)

-- ALL WORDS OF AN ARRAY
words_encoded : (ws : List ℕ) → All (λ w. w < 2 ^ 32) ws → words (flat_map bytes_of ws) ≡ ws
unfolding words flat_map bytes_of
words_encoded [] h = refl
words_encoded (w ∷ ws) h = ap₂ (λ (v : ℕ) (vs : List ℕ). v ∷ vs) (word_of_bytes w h.0) (words_encoded ws h.1)

length_encoded : (ws : List ℕ) → length (flat_map bytes_of ws) ≡ 4 * length ws
unfolding flat_map bytes_of
length_encoded [] = refl
length_encoded (w ∷ ws) = let ih = length_encoded ws in omega arith

length_array : (ws : List ℕ) → length (encode_array ws) ≡ size (length ws)
unfolding encode_array bytes_of
length_array ws = let e = length_encoded ws in omega arith

-- AN ARRAY AT THE FRONT
module _ (ws rest : List ℕ) (h : Legal ws) where
  front_count : first_word (encode_array ws ++ rest) ≡ length ws
  unfolding first_word words encode_array bytes_of
  front_count = word_of_bytes (length ws) (omega arith)

  front_drop : drop 4 (encode_array ws ++ rest) ≡ flat_map bytes_of ws ++ rest
  unfolding encode_array bytes_of
  front_drop = refl

  front_words : front (encode_array ws ++ rest) ≡ ws
  front_words =
      ap₂ (λ (k : ℕ) (l : List ℕ). words (take (4 * k) l)) front_count front_drop
      ∙ ap words (take_at (flat_map bytes_of ws) rest (4 * length ws) (length_encoded ws)) ∙ words_encoded ws h.1

  front_behind : behind (encode_array ws ++ rest) ≡ rest
  front_behind =
      ap (λ (k : ℕ). drop (size k) (encode_array ws ++ rest)) front_count
      ∙ drop_at (encode_array ws) rest (size (length ws)) (length_array ws)

  front_whole : whole (encode_array ws ++ rest) ≡ true
  front_whole =
      let e = front_count in
      whole_yes (encode_array ws ++ rest) (omega arith) (omega (arith, length-append (encode_array ws) rest, length_array ws))

pub round_trip : RoundTrip
unfolding arrays encode flat_map
round_trip [] h = refl
round_trip (ws ∷ ls) h =
    rw (front_whole ws (encode ls) h.0)
    (ap₂ prepend (front_words ws (encode ls) h.0) (ap (arrays (length ls)) (front_behind ws (encode ls) h.0) ∙ round_trip ls h.1))

-- THE OTHER WAY
abbrev Bytes : List ℕ → Type 0
Bytes l = All (λ b. b < 256) l

words_below : (l : List ℕ) → Bytes l → All (λ w. w < 2 ^ 32) (words l)
unfolding words
words_below [] h = tt
words_below (a ∷ []) h = tt
words_below (a ∷ b ∷ []) h = tt
words_below (a ∷ b ∷ c ∷ []) h = tt
words_below (a ∷ b ∷ c ∷ d ∷ l) h = (omega (arith, h.0, h.1.0, h.1.1.0, h.1.1.1.0), words_below l h.1.1.1.1)

encoded_words : (n : ℕ) (l : List ℕ) → length l ≡ 4 * n → Bytes l → flat_map bytes_of (words l) ≡ l
unfolding words flat_map
encoded_words zero [] e h = refl
encoded_words zero (a ∷ l) e h = absurd (omega arith)
encoded_words (suc n) [] e h = absurd (omega arith)
encoded_words (suc n) (a ∷ []) e h = absurd (omega arith)
encoded_words (suc n) (a ∷ b ∷ []) e h = absurd (omega arith)
encoded_words (suc n) (a ∷ b ∷ c ∷ []) e h = absurd (omega arith)
encoded_words (suc n) (a ∷ b ∷ c ∷ d ∷ l) e h =
    ap₂ (λ (x y : List ℕ). x ++ y) (bytes_of_word a b c d h.0 h.1.0 h.1.1.0 h.1.1.1.0)
    (encoded_words n l (omega arith) h.1.1.1.1)

count_bytes : (l : List ℕ) → 4 ≤ length l → Bytes l → bytes_of (first_word l) ++ drop 4 l ≡ l
unfolding first_word words
count_bytes [] e h = absurd (omega arith)
count_bytes (a ∷ []) e h = absurd (omega arith)
count_bytes (a ∷ b ∷ []) e h = absurd (omega arith)
count_bytes (a ∷ b ∷ c ∷ []) e h = absurd (omega arith)
count_bytes (a ∷ b ∷ c ∷ d ∷ l) e h = ap (λ (t : List ℕ). t ++ l) (bytes_of_word a b c d h.0 h.1.0 h.1.1.0 h.1.1.1.0)

module _ (l : List ℕ) (f : whole l ≡ true) (h : Bytes l) where
  inside : size (first_word l) ≤ length l
  inside = (whole_fits l f).1

  front_legal : Legal (front l)
  front_legal =
      let w = (whole_fits l f).0 in
      (omega (arith, length_front l inside, w), words_below _ (all_take _ (4 * first_word l) (drop 4 l) (all_drop _ 4 l h)))

  front_encoded : l ≡ encode_array (front l) ++ behind l
  unfolding encode_array
  front_encoded =
      let n = first_word l in
      let i = inside in
      let part = take (4 * n) (drop 4 l) in
      let long : length part ≡ 4 * n = simp (length-take, length-drop) (omega arith) in
      let same : flat_map bytes_of (front l) ≡ part = encoded_words n part long (all_take _ (4 * n) (drop 4 l) (all_drop _ 4 l h)) in
      let rest : part ++ behind l ≡ drop 4 l =
      ap (λ (t : List ℕ). part ++ t) (sym (drop-drop (4 * n) 4 l)) ∙ take-append-drop (4 * n) (drop 4 l) in
      sym
      (ap₂ (λ (k : ℕ) (t : List ℕ). bytes_of k ++ t ++ behind l) (length_front l i) same
      ∙ append_assoc (bytes_of n) part (behind l) ∙ ap (λ (t : List ℕ). bytes_of n ++ t) rest ∙ count_bytes l (omega arith) h)

-- what the arrays that were found are encoded as
encoded : (n : ℕ) (bytes : List ℕ) (ls : List (List ℕ)) → Bytes bytes → arrays n bytes ≡ some ls → All Legal ls × (bytes ≡ encode ls)
unfolding encode flat_map
encoded zero bytes ls h e = let f = found_none bytes ls e in rw (f.0, f.1) (tt, refl)
encoded (suc n) bytes ls h e =
    let f = found_more n bytes ls e in
    let r = encoded n (behind bytes) f.others (all_drop _ (size (first_word bytes)) bytes h) f.rest in
    rw f.all
    ((front_legal bytes f.fit h, r.0), front_encoded bytes f.fit h ∙ ap (λ (t : List ℕ). encode_array (front bytes) ++ t) r.1)

pub only_encodings : OnlyEncodings
only_encodings n bytes ls h e = let r = encoded n bytes ls h e in (length_arrays n bytes ls e, r.0, r.1)
