-- Signs at the front of a text.
use Rattle.std.proofs.Common.{◌≡◌, ℕ, zero, suc, ◌≤◌, List, [], ◌∷◌, length, take, false, ◌&&◌, ◌==◌, if◌then◌else◌, Option, Some, None, option_map, ap, refl, arith}
use Rattle.py_lexer.specs.declared.token.TokenKind.{TokenKind}
use Rattle.py_lexer.specs.declared.token.TokenKind.TheVariants.{Unsupported}
use Rattle.py_lexer.specs.Form.{sign_kind}
use Rattle.py_lexer.specs.Scan.{or_else, sign_front}

-- ---- what begins no sign

pub no_sign_end : (t : List ℕ) → sign_kind (10 ∷ t) ≡ None
no_sign_end [] = refl
no_sign_end (b ∷ []) = refl
no_sign_end (b ∷ c ∷ []) = refl
no_sign_end (b ∷ c ∷ d ∷ t) = refl

pub no_sign_space : (t : List ℕ) → sign_kind (32 ∷ t) ≡ None
no_sign_space [] = refl
no_sign_space (b ∷ []) = refl
no_sign_space (b ∷ c ∷ []) = refl
no_sign_space (b ∷ c ∷ d ∷ t) = refl

pub no_sign_tab : (t : List ℕ) → sign_kind (9 ∷ t) ≡ None
no_sign_tab [] = refl
no_sign_tab (b ∷ []) = refl
no_sign_tab (b ∷ c ∷ []) = refl
no_sign_tab (b ∷ c ∷ d ∷ t) = refl

pub no_sign_hash : (t : List ℕ) → sign_kind (35 ∷ t) ≡ None
no_sign_hash [] = refl
no_sign_hash (b ∷ []) = refl
no_sign_hash (b ∷ c ∷ []) = refl
no_sign_hash (b ∷ c ∷ d ∷ t) = refl

pub no_sign_backslash : (t : List ℕ) → sign_kind (92 ∷ t) ≡ None
no_sign_backslash [] = refl
no_sign_backslash (b ∷ []) = refl
no_sign_backslash (b ∷ c ∷ []) = refl
no_sign_backslash (b ∷ c ∷ d ∷ t) = refl

-- ---- the longest sign

pub sign_few : (m : ℕ) (text : List ℕ) (j : TokenKind) → m ≤ length text → sign_kind (take m text) ≡ Some j → m ≤ 3
sign_few zero text j l e = omega arith
sign_few (suc zero) text j l e = omega arith
sign_few (suc (suc zero)) text j l e = omega arith
sign_few (suc (suc (suc zero))) text j l e = omega arith
sign_few (suc (suc (suc (suc m)))) [] j l e = absurd (omega arith)
sign_few (suc (suc (suc (suc m)))) (a ∷ []) j l e = absurd (omega arith)
sign_few (suc (suc (suc (suc m)))) (a ∷ b ∷ []) j l e = absurd (omega arith)
sign_few (suc (suc (suc (suc m)))) (a ∷ b ∷ c ∷ []) j l e = absurd (omega arith)
sign_few (suc (suc (suc (suc m)))) (a ∷ b ∷ c ∷ d ∷ t) j l e = cc

-- a point and then another: one or three points
pub point_sign : (b : ℕ) (t : List ℕ) (m : ℕ) (j : TokenKind) → m ≤ length (46 ∷ b ∷ t) → (b == 46) ≡ false → sign_kind (take m (46 ∷ b ∷ t)) ≡ Some j → m ≤ 1
point_sign b t zero j l n e = omega arith
point_sign b t (suc zero) j l n e = omega arith
point_sign b t (suc (suc zero)) j l n e = cc
point_sign b [] (suc (suc (suc m))) j l n e = absurd (omega arith)
point_sign b (c ∷ t) (suc (suc (suc zero))) j l n e =
    let k : sign_kind (46 ∷ b ∷ c ∷ []) ≡ None = ap (λ z. if z && (c == 46) then Some Unsupported else None) n in cc
point_sign b (c ∷ t) (suc (suc (suc (suc m)))) j l n e = let k = sign_few (suc (suc (suc (suc m)))) (46 ∷ b ∷ c ∷ t) j l e in absurd (omega arith)

pub record Signs (text : List ℕ) (k : TokenKind) (n : ℕ) : Type 0 where
  pub within : n ≤ length text
  pub is : sign_kind (take n text) ≡ Some k
  pub longest : (m : ℕ) (j : TokenKind) → m ≤ length text → sign_kind (take m text) ≡ Some j → m ≤ n

abbrev pub AreSigns : List ℕ → Option (TokenKind × ℕ) → Type 0
AreSigns text None = (m : ℕ) (j : TokenKind) → m ≤ length text → sign_kind (take m text) ≡ Some j → ⊥
AreSigns text (Some x) = Signs text x.0 x.1

none_left : (a : ℕ) (t : List ℕ) (m : ℕ) (j : TokenKind) → sign_kind (a ∷ []) ≡ None → sign_kind (take m (a ∷ t)) ≡ Some j → m ≤ 1 → ⊥
none_left a t zero j e h l = cc
none_left a t (suc zero) j e h l = cc
none_left a t (suc (suc m)) j e h l = omega arith

less_two : (a b : ℕ) (t : List ℕ) (m : ℕ) (j : TokenKind) → sign_kind (a ∷ b ∷ []) ≡ None → sign_kind (take m (a ∷ b ∷ t)) ≡ Some j → m ≤ 2 → m ≤ 1
less_two a b t zero j e h l = omega arith
less_two a b t (suc zero) j e h l = omega arith
less_two a b t (suc (suc zero)) j e h l = cc
less_two a b t (suc (suc (suc m))) j e h l = absurd (omega arith)

less_three : (a b c : ℕ) (t : List ℕ) (m : ℕ) (j : TokenKind) → sign_kind (a ∷ b ∷ c ∷ []) ≡ None → sign_kind (take m (a ∷ b ∷ c ∷ t)) ≡ Some j → m ≤ 3 → m ≤ 2
less_three a b c t zero j e h l = omega arith
less_three a b c t (suc zero) j e h l = omega arith
less_three a b c t (suc (suc zero)) j e h l = omega arith
less_three a b c t (suc (suc (suc zero))) j e h l = cc
less_three a b c t (suc (suc (suc (suc m)))) j e h l = absurd (omega arith)

nothing : (m : ℕ) (j : TokenKind) → let none : List ℕ = [] in m ≤ 0 → sign_kind (take m none) ≡ Some j → ⊥
nothing zero j l h = cc
nothing (suc m) j l h = cc

one_kind : (a : ℕ) (t : List ℕ) (one : Option TokenKind) → sign_kind (a ∷ []) ≡ one
    → ((m : ℕ) (j : TokenKind) → m ≤ length (a ∷ t) → sign_kind (take m (a ∷ t)) ≡ Some j → m ≤ 1) → AreSigns (a ∷ t) (option_map (λ k. (k, 1)) one)
one_kind a t None e few = λ m j l h. none_left a t m j e h (few m j l h)
one_kind a t (Some k) e few = record { within = omega arith; is = e; longest = few }

two_kind : (a b : ℕ) (t : List ℕ) (two one : Option TokenKind) → sign_kind (a ∷ b ∷ []) ≡ two → sign_kind (a ∷ []) ≡ one
    → ((m : ℕ) (j : TokenKind) → m ≤ length (a ∷ b ∷ t) → sign_kind (take m (a ∷ b ∷ t)) ≡ Some j → m ≤ 2)
    → AreSigns (a ∷ b ∷ t) (or_else (option_map (λ k. (k, 2)) two) (option_map (λ k. (k, 1)) one))
two_kind a b t None one e f few = one_kind a (b ∷ t) one f (λ m j l h. less_two a b t m j e h (few m j l h))
two_kind a b t (Some k) one e f few = record { within = omega arith; is = e; longest = few }

three_kind : (a b c : ℕ) (t : List ℕ) (three two one : Option TokenKind) → sign_kind (a ∷ b ∷ c ∷ []) ≡ three → sign_kind (a ∷ b ∷ []) ≡ two → sign_kind (a ∷ []) ≡ one
    → AreSigns (a ∷ b ∷ c ∷ t) (or_else (option_map (λ k. (k, 3)) three) (or_else (option_map (λ k. (k, 2)) two) (option_map (λ k. (k, 1)) one)))
three_kind a b c t None two one e f g = two_kind a b (c ∷ t) two one f g (λ m j l h. less_three a b c t m j e h (sign_few m (a ∷ b ∷ c ∷ t) j l h))
three_kind a b c t (Some k) two one e f g = record { within = omega arith; is = e; longest = λ m j l h. sign_few m (a ∷ b ∷ c ∷ t) j l h }

pub signs : (text : List ℕ) → AreSigns text (sign_front text)
signs [] = λ m j l h. nothing m j l h
signs (a ∷ []) = one_kind a [] (sign_kind (a ∷ [])) refl (λ m j l h. l)
signs (a ∷ b ∷ []) = two_kind a b [] (sign_kind (a ∷ b ∷ [])) (sign_kind (a ∷ [])) refl refl (λ m j l h. l)
signs (a ∷ b ∷ c ∷ t) = three_kind a b c t (sign_kind (a ∷ b ∷ c ∷ [])) (sign_kind (a ∷ b ∷ [])) (sign_kind (a ∷ [])) refl refl refl
