-- The worked cases C1 to C35, one table: what the whole check answers to each, and that a session ends the same way.
-- Assumes nothing.
use Rattle.std.specs.Prelude.{ℕ, ◌≡◌}
use mathlib.Core.List.{List, [], ◌∷◌, ◌++◌, map, flatten}
use Rattle.lists.specs.Each.{All}
use Rattle.lists.specs.Count.{range}
use Rattle.refusal.specs.Order.{first}
use Rattle.walk.specs.Session.{end_of}
use Rattle.protocol.specs.Check.{check_answer}
use Rattle.protocol.specs.Session.{open_cause, session_on}

-- what is given, and the answer: 0 accepted, else the refusal's number
pub record Row : Type 0 where
  pub circuit : List ℕ
  pub input : List ℕ
  pub outputs : List ℕ
  pub coins : List ℕ
  pub messages : List (List ℕ)
  pub answer : ℕ

abbrev pub several : List ℕ → List ℕ → List ℕ → List ℕ → List (List ℕ) → ℕ → Row
several c input ys cs ms answer = record { circuit = c; input = input; outputs = ys; coins = cs; messages = ms; answer = answer }

-- of one output
abbrev pub row : List ℕ → List ℕ → ℕ → List ℕ → List (List ℕ) → ℕ → Row
row c input y cs ms answer = several c input (y ∷ []) cs ms answer

-- lists of words
abbrev pub one : ℕ → List ℕ
one a = a ∷ []

abbrev pub two : ℕ → ℕ → List ℕ
two a b = a ∷ b ∷ []

abbrev pub three : ℕ → ℕ → ℕ → List ℕ
three a b c = a ∷ b ∷ c ∷ []

-- the messages of a layer with k = 1: two sum rounds and a line
abbrev pub layer : List ℕ → List ℕ → List ℕ → List (List ℕ)
layer m₁ m₂ m₃ = m₁ ∷ m₂ ∷ m₃ ∷ []

-- THE CIRCUITS: the product of two inputs, the square of one, an empty gate, and wires the wrong way round
abbrev pub product : List ℕ
product = 13 ∷ 1 ∷ 0 ∷ 1 ∷ 2 ∷ 0 ∷ 1 ∷ []

abbrev pub square : List ℕ
square = 13 ∷ 1 ∷ 0 ∷ 0 ∷ 2 ∷ 0 ∷ 0 ∷ []

abbrev pub empty : List ℕ
empty = 13 ∷ 1 ∷ 0 ∷ 0 ∷ 0 ∷ 0 ∷ 0 ∷ []

abbrev pub swapped : List ℕ
swapped = 13 ∷ 1 ∷ 0 ∷ 1 ∷ 2 ∷ 1 ∷ 0 ∷ []

-- one gate above two inputs, by its words
abbrev pub one_gate : ℕ → ℕ → ℕ → List ℕ
one_gate kind left right = 13 ∷ 1 ∷ 0 ∷ 1 ∷ kind ∷ left ∷ right ∷ []

-- THE CASES
-- C1: "the lists and the transcript of 10.1", accepted
abbrev pub c1 : Row
c1 = row product (two 3 5) 2 (three 4 6 9) (layer (three 2 8 3) (three 0 5 12) (two 11 4)) 0

-- C2: "C1 with first message 2 8 4", 16
abbrev pub c2 : Row
c2 = row product (two 3 5) 2 (three 4 6 9) (layer (three 2 8 4) (three 0 5 12) (two 11 4)) 16

-- C3: "C1 with output 3, a false one", 16
abbrev pub c3 : Row
c3 = row product (two 3 5) 3 (three 4 6 9) (layer (three 2 8 3) (three 0 5 12) (two 11 4)) 16

-- C4: "C1 with line 12 4", 17
abbrev pub c4 : Row
c4 = row product (two 3 5) 2 (three 4 6 9) (layer (three 2 8 3) (three 0 5 12) (two 12 4)) 17

-- C5: "C1 with line 2 9", 18
abbrev pub c5 : Row
c5 = row product (two 3 5) 2 (three 4 6 9) (layer (three 2 8 3) (three 0 5 12) (two 2 9)) 18

-- C6: "C1 with line 1 8, a wrong line that meets the true one at t = 9", accepted
abbrev pub c6 : Row
c6 = row product (two 3 5) 2 (three 4 6 9) (layer (three 2 8 3) (three 0 5 12) (two 1 8)) 0

-- C7: "C1 with output 3 and first message 10 6 3, a false output with lucky coins", accepted
abbrev pub c7 : Row
c7 = row product (two 3 5) 3 (three 4 6 9) (layer (three 10 6 3) (three 0 5 12) (two 11 4)) 0

-- C8: "C7 with first coin 5", 16
abbrev pub c8 : Row
c8 = row product (two 3 5) 3 (three 5 6 9) (layer (three 10 6 3) (three 0 5 12) (two 11 4)) 16

-- C9: "circuit 13 1 0 0 2 0 0, input 7, output 10, any coin: message 6; and message 7", 18 and accepted. 6 and 7 have the same square, 10, so
-- that the line gives the claim with either: only the last comparison tells them apart, where k_D is 0.
abbrev pub c9_refused : ℕ → Row
c9_refused t = row square (one 7) 10 (one t) (one 6 ∷ []) 18

abbrev pub c9_accepted : ℕ → Row
c9_accepted t = row square (one 7) 10 (one t) (one 7 ∷ []) 0

-- C10: "circuit 13 1 0 0 0 0 0, input 7, output 0, any coin: message 7, the honest one", accepted
abbrev pub c10 : ℕ → Row
c10 t = row empty (one 7) 0 (one t) (one 7 ∷ []) 0

-- a circuit, "the rest as in C1"
abbrev pub as_c1 : List ℕ → ℕ → Row
as_c1 c answer = row c (two 3 5) 2 (three 4 6 9) (layer (three 2 8 3) (three 0 5 12) (two 11 4)) answer

-- C11: "circuit 13 1 0 1 2 1 0, the rest as in C1", 7
abbrev pub c11 : Row
c11 = as_c1 swapped 7

-- C12: "C1 with first message 15 8 3: 15 and 2 agree modulo 13", 15
abbrev pub c12 : Row
c12 = row product (two 3 5) 2 (three 4 6 9) (layer (three 15 8 3) (three 0 5 12) (two 11 4)) 15

-- DIFFERENCES of the inputs 3 and 5, so that V(z) = 3 + 2z, with the coins 4 6 9. The one gate subtracts, so A and M are 0, S is the product of its
-- wires' weights, and the summand at (u, v) is S × (V(u) - V(v)) = 2S(u - v). The first message sums it over v = 0 and v = 1, the second has u = 4,
-- and the line is V(4 + 2t) = 11 + 4t, from V(4) = 11 to V(6) = 2, so that V(u) - V(v) = 9. At t = 9 it gives 47 = 8, and the point is
-- 4 + 9 × 2 = 22 = 9, where V is 21 = 8 too. A line 11 5 has V(u) at 0, but 3 at 1, and V(u) - V(v) would be 8; 12 3 has V(v) at 1, but 12 at 0,
-- and it would be 10.
pub record Difference : Type 0 where
  pub words : List ℕ
  pub value : ℕ
  pub false_value : ℕ
  pub first : List ℕ
  pub second : List ℕ

abbrev pub difference : List ℕ → ℕ → ℕ → List ℕ → List ℕ → Difference
difference c y z m₁ m₂ = record { words = c; value = y; false_value = z; first = m₁; second = m₂ }

-- Left below right: 3 - 5 = 11. S = (1 - u)v. First 0 + 2(1 - u)(u - 1) = -2 + 4u - 2u², which is 11 + 0 at 0 and 1, the claim, and -18 = 8 at 4;
-- then 2 × -3 × v(4 - v) = -24v + 6v², which is 0 + 8, and 72 = 7 at 6. S = -3 × 6 = 8, and 8 × 9 = 72 = 7; 8 × 8 = 12 and 8 × 10 = 2 are not.
-- 5 - 3 = 2 is a false output.
abbrev pub below : Difference
below = difference (one_gate 3 0 1) 11 2 (three 11 4 11) (three 0 2 6)

-- Left equal to right: 5 - 5 = 0. S = uv. First 0 + 2u(u - 1) = -2u + 2u², which is 0 + 0, and 24 = 11 at 4; then 2 × 4 × v(4 - v) = 32v - 8v²,
-- which is 0 + 24 = 11, and -96 = 8 at 6. S = 4 × 6 = 11, and 11 × 9 = 99 = 8; 11 × 8 = 10 and 11 × 10 = 6 are not. 5 + 5 = 10 is a false output.
abbrev pub equal : Difference
equal = difference (one_gate 3 1 1) 0 10 (three 0 11 2) (three 0 6 5)

-- Left above right: 5 - 3 = 2. S = u(1 - v). First 2u² + 0, which is 0 + 2, and 32 = 6 at 4; then 2 × 4 × (1 - v)(4 - v) = 32 - 40v + 8v², which is
-- 6 + 0, and 80 = 2 at 6. S = 4 × -5 = 6, and 6 × 9 = 54 = 2; 6 × 8 = 9 and 6 × 10 = 8 are not. 3 - 5 = 11 is a false output.
abbrev pub above : Difference
above = difference (one_gate 3 1 0) 2 11 (three 0 0 2) (three 6 12 8)

abbrev pub differences : List Difference
differences = below ∷ equal ∷ above ∷ []

-- one with an output and a line
abbrev pub argued : Difference → ℕ → List ℕ → ℕ → Row
argued d y line answer = row d.words (two 3 5) y (three 4 6 9) (layer d.first d.second line) answer

-- C13: "circuit 13 1 0 1 3 0 1, input 3 5, coins 4 6 9, output 11, messages 11 4 11, 0 2 6 and 11 4", C16: "circuit 13 1 0 1 3 1 1, output 0, messages
-- 0 11 2, 0 6 5 and 11 4, the rest as in C13", C19: "circuit 13 1 0 1 3 1 0, output 2, messages 0 0 2, 6 12 8 and 11 4, the rest as in C13", accepted
abbrev pub true_output : Difference → Row
true_output d = argued d d.value (two 11 4) 0

-- C14: "C13 with output 2, right minus left", C17: "C16 with output 10, the sum", C20: "C19 with output 11, right minus left", 16
abbrev pub false_output : Difference → Row
false_output d = argued d d.false_value (two 11 4) 16

-- C15: "C13 with line 11 5, right at 0 alone; and with 12 3, right at 1 alone", 17; so C18 and C21
abbrev pub right_at_0 : Difference → Row
right_at_0 d = argued d d.value (two 11 5) 17

abbrev pub right_at_1 : Difference → Row
right_at_1 d = argued d d.value (two 12 3) 17

-- WHAT IS NO GATE
-- C22: "circuit 13 1 0 1 1 1 0, the rest as in C1", 7: left above right of a gate that adds
abbrev pub c22 : Row
c22 = as_c1 (one_gate 1 1 0) 7

-- C23: "circuit 13 1 0 1 0 1 0, the rest as in C1", 7: a wire of an empty gate
abbrev pub c23 : Row
c23 = as_c1 (one_gate 0 1 0) 7

-- C24: "circuit 13 1 0 1 4 0 1, the rest as in C1", 6
abbrev pub c24 : Row
c24 = as_c1 (one_gate 4 0 1) 6

-- SEVERAL OUTPUTS of the inputs 3 and 5. The first point's coins come before the coins 4 6 9, and the line is V(4 + 2t) = 11 + 4t as above.

-- Two outputs, the product 2 and the sum 8, with first coin 10. The gates weigh 1 - 10 = 4 and 10, and the claim is 4 × 2 + 10 × 8 = 88 = 10. The
-- summand is (1 - u)v × (4V(u)V(v) + 10(V(u) + V(v))). First (1 - u)(30V(u) + 50) = (1 - u)(10 + 8u) = 10 - 2u - 8u², which is 10 + 0, and
-- -126 = 4 at 4; then -3v(54V(v) + 110) = -3v(12 + 4v) = -36v - 12v², which is 0 + 4, and -648 = 2 at 6. The line gives V(u) = 11 and V(v) = 2, and
-- -18 × (4 × 22 + 10 × 13) = 8 × 10 = 2.
abbrev pub pair : List ℕ
pair = 13 ∷ 1 ∷ 1 ∷ 1 ∷ 2 ∷ 0 ∷ 1 ∷ 1 ∷ 0 ∷ 1 ∷ []

abbrev pub of_pair : List ℕ → ℕ → Row
of_pair ys answer = several pair (two 3 5) ys (10 ∷ 4 ∷ 6 ∷ 9 ∷ []) (layer (three 10 11 5) (three 0 3 1) (two 11 4)) answer

-- C25: "circuit 13 1 1 1 2 0 1 1 0 1, input 3 5, outputs 2 8, coins 10 4 6 9, messages 10 11 5, 0 3 1 and 11 4", accepted
abbrev pub c25 : Row
c25 = of_pair (two 2 8) 0

-- C26: "C25 with outputs 2 9, one false word", 16: its claim is 4 × 2 + 10 × 9 = 98 = 7
abbrev pub c26 : Row
c26 = of_pair (two 2 9) 16

-- C27: "C26 with first coin 0, and the messages of C1", accepted: 0 is where 2 9 and 2 8 have one extension, that of the first word
abbrev pub c27 : Row
c27 = several pair (two 3 5) (two 2 9) (0 ∷ 4 ∷ 6 ∷ 9 ∷ []) c1.messages 0

-- C28: "C25 with output 15 alone", 21, though 15 is above p; C29: "C25 with outputs 2 21", 13
abbrev pub c28 : Row
c28 = of_pair (one 15) 21

abbrev pub c29 : Row
c29 = of_pair (two 2 21) 13

-- Four outputs, the product 2, the sum 8, the difference 11 and the square of the second 12, with first coins 10 3. The gates weigh
-- -9 × -2 = 5, -9 × 3 = -1, 10 × -2 = 6 and 10 × 3 = 4, and the claim is 10 - 8 + 66 + 48 = 12. With the lowest bit first the second and the third
-- would change places. The summand is (1 - u)v × (5V(u)V(v) - (V(u) + V(v)) + 6(V(u) - V(v))) + uv × 4V(u)V(v). First
-- (1 - u)(30V(u) - 35) + 20uV(u) = 3 + 6u², which is 3 + 9, and 99 = 8 at 4; then -3v(48V(v) + 55) + 176vV(v) = 9v + 12v², which is 0 + 8, and
-- 486 = 5 at 6. The line gives 8 × (110 - 13 + 54) + 11 × 88 = 8 × 8 + 6 = 5.
abbrev pub four : List ℕ
four = 13 ∷ 1 ∷ 2 ∷ 1 ∷ 2 ∷ 0 ∷ 1 ∷ 1 ∷ 0 ∷ 1 ∷ 3 ∷ 0 ∷ 1 ∷ 2 ∷ 1 ∷ 1 ∷ []

abbrev pub of_four : List ℕ → ℕ → Row
of_four ys answer = several four (two 3 5) ys (10 ∷ 3 ∷ 4 ∷ 6 ∷ 9 ∷ []) (layer (three 3 0 6) (three 0 9 12) (two 11 4)) answer

-- C30: "circuit 13 1 2 1 2 0 1 1 0 1 3 0 1 2 1 1, input 3 5, outputs 2 8 11 12, coins 10 3 4 6 9, messages 3 0 6, 0 9 12 and 11 4", accepted
abbrev pub c30 : Row
c30 = of_four (2 ∷ 8 ∷ 11 ∷ 12 ∷ []) 0

-- C31: "C30 with outputs 2 11 8 12, the lowest bit first", 16
abbrev pub c31 : Row
c31 = of_four (2 ∷ 11 ∷ 8 ∷ 12 ∷ []) 16

-- WHAT IS NO HEADER, "the rest as in C1"
-- C32: "circuit 13 1 5 1 2 0 1", 4; C33: "circuit 13 1 0", 4, and it ends before k_1; C34: "circuit 13 1", 1; C35: "circuit 13 1 0 9 2 0 1", 4
abbrev pub headers : List Row
headers =
    as_c1 (13 ∷ 1 ∷ 5 ∷ 1 ∷ 2 ∷ 0 ∷ 1 ∷ []) 4
    ∷ as_c1 (13 ∷ 1 ∷ 0 ∷ []) 4
    ∷ as_c1 (13 ∷ 1 ∷ []) 1
    ∷ as_c1 (13 ∷ 1 ∷ 0 ∷ 9 ∷ 2 ∷ 0 ∷ 1 ∷ []) 4
    ∷ []

-- a row for every coin
abbrev pub every_coin : (ℕ → Row) → List Row
every_coin case = map case (range 13)

-- THE TABLE
unfoldable pub table : List Row
table =
    (c1 ∷ c2 ∷ c3 ∷ c4 ∷ c5 ∷ c6 ∷ c7 ∷ c8 ∷ [])
    ++ every_coin c9_refused ++ every_coin c9_accepted ++ every_coin c10
    ++ (c11 ∷ c12 ∷ [])
    ++ map true_output differences
    ++ map false_output differences ++ map right_at_0 differences ++ map right_at_1 differences
    ++ (c22 ∷ c23 ∷ c24 ∷ [])
    ++ (c25 ∷ c26 ∷ c27 ∷ c28 ∷ c29 ∷ c30 ∷ c31 ∷ [])
    ++ headers

-- the whole check, on the messages one directly after another
unfoldable pub whole_answer : Row → ℕ
whole_answer r = check_answer r.circuit r.input r.outputs r.coins (flatten r.messages)

-- a session, opened and then a step for each message: the opening's refusal, or how the steps end
unfoldable pub session_answer : Row → ℕ
session_answer r =
    first (open_cause r.circuit r.input r.outputs r.coins)
    (end_of (session_on r.circuit r.input r.outputs r.coins r.messages))

abbrev pub Holds : Row → Type 0
Holds r = (whole_answer r ≡ r.answer) × (session_answer r ≡ r.answer)

-- all rows together
abbrev pub AllHold : Type 0
AllHold = All Holds table
