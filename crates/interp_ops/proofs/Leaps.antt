-- The members of a range, by two leaps that are alike.
use Rattle.std.proofs.Common.{◌≡◌, ◌≢◌, ◌+◌, ◌/◌, ◌%◌, ℕ, zero, suc, ℤ, pos, ◌+ℤ◌, ◌*ℤ◌, ap, sym, ◌∙◌, arith}
use Rattle.std.proofs.lemmas.Int.{ints}
use Rattle.std.proofs.Math.IntN.{+ℤ_assoc, +ℤ_idl, zero-*ℤ, suc_ℤ-*ℤ}

swapped : (a b c : ℤ) → (a +ℤ b) +ℤ c ≡ (a +ℤ c) +ℤ b
swapped a b c = omega (arith, ints)

sum_times : (m n : ℕ) (d : ℤ) → pos (m + n) *ℤ d ≡ pos m *ℤ d +ℤ pos n *ℤ d
sum_times zero n d =
    let e : zero + n ≡ n = omega arith in
    ap (λ k. pos k *ℤ d) e ∙ sym (ap (λ z. z +ℤ pos n *ℤ d) (zero-*ℤ d) ∙ +ℤ_idl (pos n *ℤ d))
sum_times (suc m) n d =
    let e : suc m + n ≡ suc (m + n) = omega arith in
    ap (λ k. pos k *ℤ d) e ∙ suc_ℤ-*ℤ (pos (m + n)) d ∙ ap (λ z. z +ℤ d) (sum_times m n d)
    ∙ swapped (pos m *ℤ d) (pos n *ℤ d) d ∙ ap (λ z. z +ℤ pos n *ℤ d) (sym (suc_ℤ-*ℤ (pos m) d))

two_leaps : (a d : ℤ) (h : ℕ) → (a +ℤ pos h *ℤ d) +ℤ pos h *ℤ d ≡ a +ℤ pos (h + h) *ℤ d
two_leaps a d h = +ℤ_assoc a (pos h *ℤ d) (pos h *ℤ d) ∙ ap (λ z. a +ℤ z) (sym (sum_times h h d))

even_member : (a d : ℤ) (i : ℕ) → i % 2 ≡ 0 → (a +ℤ pos (i / 2) *ℤ d) +ℤ pos (i / 2) *ℤ d ≡ a +ℤ pos i *ℤ d
even_member a d i even =
    let e : i / 2 + i / 2 ≡ i = omega arith in
    two_leaps a d (i / 2) ∙ ap (λ k. a +ℤ pos k *ℤ d) e

odd_member : (a d : ℤ) (i : ℕ) → i % 2 ≢ 0 → ((a +ℤ pos (i / 2) *ℤ d) +ℤ pos (i / 2) *ℤ d) +ℤ d ≡ a +ℤ pos i *ℤ d
odd_member a d i odd =
    let e : suc (i / 2 + i / 2) ≡ i = omega arith in
    ap (λ z. z +ℤ d) (two_leaps a d (i / 2)) ∙ +ℤ_assoc a (pos (i / 2 + i / 2) *ℤ d) d
    ∙ ap (λ z. a +ℤ z) (sym (suc_ℤ-*ℤ (pos (i / 2 + i / 2)) d)) ∙ ap (λ k. a +ℤ pos k *ℤ d) e

pub even_from : (a d half leap middle even : ℤ) (i : ℕ) → half ≡ pos (i / 2) → leap ≡ half *ℤ d → middle ≡ a +ℤ leap → even ≡ middle +ℤ leap
    → i % 2 ≡ 0 → even ≡ a +ℤ pos i *ℤ d
even_from a d half leap middle even i h l m e zeroth = rw (e, m, l, h) (even_member a d i zeroth)

pub odd_from : (a d half leap middle even : ℤ) (i : ℕ) → half ≡ pos (i / 2) → leap ≡ half *ℤ d → middle ≡ a +ℤ leap → even ≡ middle +ℤ leap
    → i % 2 ≢ 0 → even +ℤ d ≡ a +ℤ pos i *ℤ d
odd_from a d half leap middle even i h l m e first = rw (e, m, l, h) (odd_member a d i first)
