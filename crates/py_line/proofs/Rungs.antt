-- Rungs: a phrase of one is made of a phrase of the one before it, unless it begins with a sign, `not` or `lambda`; and what waits last.
use Rattle.std.proofs.Common.{◌≡◌, ℕ, zero, suc, ◌+◌, ◌-◌, ◌≤◌, ◌<◌, List, [], ◌∷◌, ◌++◌, length, slice_get, Option, Some, None, refl, sym, ap, ◌∙◌, arith}
use Rattle.py_ast.specs.Tree as t
use Rattle.py_grammar.specs.Grammar as level
use Rattle.py_grammar.specs.Kept.{made, made_of_two, value}
use Rattle.py_grammar.specs.Reading.{◌>>=◌, on, giving, mark_at, marked, sign_op, power_of, primary, power, factor, grouped_over, sum, chain, comparison}
use Rattle.py_grammar.specs.Reading.{negated, disjunctions, condition, lambda, expr}
use Rattle.py_grammar.specs.declared.mark.Mark.TheVariants as m
use Rattle.py_grammar.specs.declared.sign.Sign.{Sign}
use Rattle.py_grammar.proofs.Steps.{some_is, bind_same, bind_bind, on_same}
use Rattle.py_line.specs.declared.frame.Rung.{Rung}
use Rattle.py_line.specs.declared.frame.Rung.TheVariants as r
use Rattle.py_line.specs.declared.frame.Frame.{Frame}
use Rattle.py_line.specs.Full.{full}
use Rattle.py_line.specs.Waiting.{Read, rank, level_of, next, phrase, rise, climb, climb_to, waits, gives, turn, wanted, resume, after, before}
use Rattle.py_line.proofs.Insides.{fixed}

pub bind_some : {A : Type 0} (o : Option A) → (o >>= λ x. Some x) ≡ o
bind_some (Some x) = refl
bind_some None = refl

pub on_at_none : {A B : Type 0} (o : Option A) (b : B) (f : A → B) → o ≡ None → on o b f ≡ b
on_at_none (Some x) b f e = cc
on_at_none None b f e = refl

-- ---- from a rung to the next

-- no phrase of the rung begins with its own prefix here
abbrev pub IsFree : Rung → List Sign → Type 0
IsFree r.Factor tokens = marked sign_op tokens ≡ None
IsFree r.Not tokens = mark_at m.Not tokens ≡ None
IsFree r.Expr tokens = mark_at m.Lambda tokens ≡ None
IsFree _ tokens = Unit {0}

-- what is nested is a phrase
pub inner : (w : Rung) (tokens : List Sign) → (full 60).tree (level_of w) tokens ≡ phrase w tokens
unfolding phrase
inner w tokens = fixed 60 (omega arith) (level_of w) tokens

pub rises : (l : Rung) (tokens : List Sign) → rank l < 10 → IsFree (next l) tokens → phrase (next l) tokens ≡ (phrase l tokens >>= rise (next l))
unfolding phrase primary power factor grouped_over chain comparison negated expr
rises r.Atom tokens small h = refl
rises r.Primary tokens small h =
    bind_same (primary 60 (full 60) tokens) _ _ (λ a e. on_same (mark_at m.Stars a.1) (Some a) _ _ (λ rest s.
    ap (λ z. z >>= giving (made_of_two 60 power_of value a.0)) (fixed 60 (omega arith) level.Factor rest)))
rises r.Power tokens small h =
    on_at_none (marked sign_op tokens) (power 60 (full 60) tokens) (λ o. (full 60).tree level.Factor o.1 >>= giving (made 60 (t.sign o.0) value)) h ∙ sym (bind_some (power 60 (full 60) tokens))
rises r.Factor tokens small h = refl
rises r.Term tokens small h = refl
rises r.Sum tokens small h = bind_bind (sum 60 (full 60) tokens) _ _
rises r.Comparison tokens small h =
    on_at_none (mark_at m.Not tokens) (comparison 60 (full 60) tokens) (λ rest. (full 60).tree level.Not rest >>= giving (made 60 t.not value)) h ∙ sym (bind_some (comparison 60 (full 60) tokens))
rises r.Not tokens small h = refl
rises r.And tokens small h = refl
rises r.Or tokens small h =
    on_at_none (mark_at m.Lambda tokens) (disjunctions 60 (full 60) tokens >>= condition 60 (full 60)) (lambda 60 (full 60)) h
rises r.Expr tokens small h = absurd (omega arith)

-- ---- several rungs

abbrev pub up : ℕ → Rung → Rung
up zero l = l
up (suc n) l = up n (next l)

abbrev pub AreFree : ℕ → Rung → List Sign → Type 0
AreFree zero l tokens = Unit {0}
AreFree (suc n) l tokens = IsFree (next l) tokens × AreFree n (next l) tokens

pub rank_next : (l : Rung) → rank l < 10 → rank (next l) ≡ rank l + 1
rank_next r.Expr small = absurd (omega arith)
rank_next _ small = refl

pub climbs : (n : ℕ) (l : Rung) (tokens : List Sign) → rank l + n ≤ 10 → AreFree n l tokens → phrase (up n l) tokens ≡ (phrase l tokens >>= climb n l)
climbs zero l tokens small h = sym (bind_some (phrase l tokens))
climbs (suc n) l tokens small h =
    let one = rank_next l (omega arith) in
    climbs n (next l) tokens (omega arith) h.1 ∙ ap (λ z. z >>= climb n (next l)) (rises l tokens (omega arith) h.0)
    ∙ bind_bind (phrase l tokens) (rise (next l)) (climb n (next l))

-- a phrase that begins with no prefix of its own
pub of_operand : (w : Rung) (tokens : List Sign) → (3 ≤ rank w → marked sign_op tokens ≡ None) → (7 ≤ rank w → mark_at m.Not tokens ≡ None)
    → (10 ≤ rank w → mark_at m.Lambda tokens ≡ None)
    → phrase w tokens ≡ (phrase r.Atom tokens >>= climb_to w r.Atom)
of_operand r.Atom tokens s n l = climbs 0 r.Atom tokens (omega arith) tt
of_operand r.Primary tokens s n l = climbs 1 r.Atom tokens (omega arith) (tt, tt)
of_operand r.Power tokens s n l = climbs 2 r.Atom tokens (omega arith) (tt, (tt, tt))
of_operand r.Factor tokens s n l = climbs 3 r.Atom tokens (omega arith) (tt, (tt, (s (omega arith), tt)))
of_operand r.Term tokens s n l = climbs 4 r.Atom tokens (omega arith) (tt, (tt, (s (omega arith), (tt, tt))))
of_operand r.Sum tokens s n l = climbs 5 r.Atom tokens (omega arith) (tt, (tt, (s (omega arith), (tt, (tt, tt)))))
of_operand r.Comparison tokens s n l = climbs 6 r.Atom tokens (omega arith) (tt, (tt, (s (omega arith), (tt, (tt, (tt, tt))))))
of_operand r.Not tokens s n l = climbs 7 r.Atom tokens (omega arith) (tt, (tt, (s (omega arith), (tt, (tt, (tt, (n (omega arith), tt)))))))
of_operand r.And tokens s n l = climbs 8 r.Atom tokens (omega arith) (tt, (tt, (s (omega arith), (tt, (tt, (tt, (n (omega arith), (tt, tt))))))))
of_operand r.Or tokens s n l = climbs 9 r.Atom tokens (omega arith) (tt, (tt, (s (omega arith), (tt, (tt, (tt, (n (omega arith), (tt, (tt, tt)))))))))
of_operand r.Expr tokens s n l =
    climbs 10 r.Atom tokens (omega arith) (tt, (tt, (s (omega arith), (tt, (tt, (tt, (n (omega arith), (tt, (tt, (l (omega arith), tt))))))))))

-- a phrase that begins with no prefix of a rung above a rung
pub of_factor : (w : Rung) (tokens : List Sign) → 3 ≤ rank w → (7 ≤ rank w → mark_at m.Not tokens ≡ None) → (10 ≤ rank w → mark_at m.Lambda tokens ≡ None)
    → phrase w tokens ≡ (phrase r.Factor tokens >>= climb_to w r.Factor)
of_factor r.Factor tokens h n l = climbs 0 r.Factor tokens (omega arith) tt
of_factor r.Term tokens h n l = climbs 1 r.Factor tokens (omega arith) (tt, tt)
of_factor r.Sum tokens h n l = climbs 2 r.Factor tokens (omega arith) (tt, (tt, tt))
of_factor r.Comparison tokens h n l = climbs 3 r.Factor tokens (omega arith) (tt, (tt, (tt, tt)))
of_factor r.Not tokens h n l = climbs 4 r.Factor tokens (omega arith) (tt, (tt, (tt, (n (omega arith), tt))))
of_factor r.And tokens h n l = climbs 5 r.Factor tokens (omega arith) (tt, (tt, (tt, (n (omega arith), (tt, tt)))))
of_factor r.Or tokens h n l = climbs 6 r.Factor tokens (omega arith) (tt, (tt, (tt, (n (omega arith), (tt, (tt, tt))))))
of_factor r.Expr tokens h n l = climbs 7 r.Factor tokens (omega arith) (tt, (tt, (tt, (n (omega arith), (tt, (tt, (l (omega arith), tt)))))))
of_factor _ tokens h n l = absurd (omega arith)

pub of_not : (w : Rung) (tokens : List Sign) → 7 ≤ rank w → (10 ≤ rank w → mark_at m.Lambda tokens ≡ None)
    → phrase w tokens ≡ (phrase r.Not tokens >>= climb_to w r.Not)
of_not r.Not tokens h l = climbs 0 r.Not tokens (omega arith) tt
of_not r.And tokens h l = climbs 1 r.Not tokens (omega arith) (tt, tt)
of_not r.Or tokens h l = climbs 2 r.Not tokens (omega arith) (tt, (tt, tt))
of_not r.Expr tokens h l = climbs 3 r.Not tokens (omega arith) (tt, (tt, (l (omega arith), tt)))
of_not _ tokens h l = absurd (omega arith)

-- ---- up by one

less_by_one : (n k : ℕ) → k < n → n - k ≡ suc (n - (k + 1))
less_by_one n k h = omega arith

climb_on : (n : ℕ) (l : Rung) (a : Read) → (m : ℕ) → n ≡ suc m → climb n l a ≡ (rise (next l) a >>= climb m (next l))
climb_on n l a m e = ap (λ n. climb n l a) e

pub climbs_on : (w l : Rung) (a : Read) → rank l < rank w → rank w ≤ 10 → climb_to w l a ≡ (rise (next l) a >>= climb_to w (next l))
climbs_on w l a h top =
    climb_on (rank w - rank l) l a (rank w - rank (next l)) (less_by_one (rank w) (rank l) h ∙ ap (λ k. suc (rank w - k)) (sym (rank_next l (omega arith))))

pub rank_most : (w : Rung) → rank w ≤ 10
rank_most r.Atom = omega arith
rank_most _ = omega arith

-- ---- what waits last

pub wanted_last : (w : Rung) (fs : List Frame) (x : Frame) → wanted w (fs ++ x ∷ []) ≡ waits x
wanted_last w [] x = refl
wanted_last w (y ∷ fs) x = wanted_last (waits y) fs x

resume_last : (w : Rung) (fs : List Frame) (x : Frame) (a : Read)
    → resume w (fs ++ x ∷ []) a ≡ (turn x a >>= climb_to (wanted w fs) (gives x) >>= resume w fs)
resume_last w [] x a = sym (bind_some (turn x a >>= climb_to w (gives x)))
resume_last w (y ∷ fs) x a =
    ap (λ z. z >>= turn y >>= climb_to w (gives y)) (resume_last (waits y) fs x a)
    ∙ ap (λ z. z >>= climb_to w (gives y)) (bind_bind (turn x a >>= climb_to (wanted (waits y) fs) (gives x)) (resume (waits y) fs) (turn y))
    ∙ bind_bind (turn x a >>= climb_to (wanted (waits y) fs) (gives x)) (λ b. resume (waits y) fs b >>= turn y) (climb_to w (gives y))

-- what waits last goes on
pub last_goes : (w : Rung) (fs : List Frame) (x : Frame) (a : Read) → resume w (fs ++ x ∷ []) a ≡ (turn x a >>= after w fs (gives x))
unfolding after
last_goes w fs x a = resume_last w fs x a ∙ bind_bind (turn x a) (climb_to (wanted w fs) (gives x)) (resume w fs)

no_climb : (n : ℕ) (l : Rung) (a : Read) → n ≡ 0 → climb n l a ≡ Some a
no_climb n l a e = ap (λ n. climb n l a) e

-- a phrase of the rung that is waited for
pub arrives : (w : Rung) (fs : List Frame) (x : Frame) (l : Rung) (a : Read) → rank (waits x) ≤ rank l
    → after w (fs ++ x ∷ []) l a ≡ (turn x a >>= after w fs (gives x))
unfolding after
arrives w fs x l a h =
    ap (λ z. z >>= resume w (fs ++ x ∷ [])) (no_climb (rank (wanted w (fs ++ x ∷ [])) - rank l) l a
    (ap (λ z. rank z - rank l) (wanted_last w fs x) ∙ omega arith))
    ∙ last_goes w fs x a

pub arrives_whole : (w l : Rung) (a : Read) → rank w ≤ rank l → after w [] l a ≡ Some a
unfolding after
arrives_whole w l a h = ap (λ z. z >>= λ b. Some b) (no_climb (rank w - rank l) l a (omega arith))

-- one rung up
pub goes_up : (w : Rung) (fs : List Frame) (l : Rung) (a : Read) → rank l < rank (wanted w fs)
    → after w fs l a ≡ (rise (next l) a >>= after w fs (next l))
unfolding after
goes_up w fs l a h =
    ap (λ z. z >>= resume w fs) (climbs_on (wanted w fs) l a h (rank_most (wanted w fs)))
    ∙ bind_bind (rise (next l) a) (climb_to (wanted w fs) (next l)) (resume w fs)

-- one more waits
pub waits_more : (w : Rung) (fs : List Frame) (x : Frame) (tokens : List Sign)
    → before w (fs ++ x ∷ []) tokens ≡ (phrase (waits x) tokens >>= turn x >>= after w fs (gives x))
unfolding before
waits_more w fs x tokens =
    ap (λ z. phrase z tokens >>= resume w (fs ++ x ∷ [])) (wanted_last w fs x)
    ∙ bind_same (phrase (waits x) tokens) (resume w (fs ++ x ∷ [])) (λ a. turn x a >>= after w fs (gives x)) (λ a e. last_goes w fs x a)
    ∙ sym (bind_bind (phrase (waits x) tokens) (turn x) (after w fs (gives x)))

wanted_at : (n : ℕ) (w : Rung) (fs : List Frame) (x : Frame) → suc n ≡ length fs → slice_get fs n ≡ Some x → wanted w fs ≡ waits x
wanted_at n w [] x h e = absurd (omega arith)
wanted_at zero w (y ∷ []) x h e = ap waits (some_is e)
wanted_at (suc n) w (y ∷ []) x h e = absurd (omega arith)
wanted_at zero w (y ∷ z ∷ fs) x h e = absurd (omega arith)
wanted_at (suc n) w (y ∷ z ∷ fs) x h e = wanted_at n (waits y) (z ∷ fs) x (omega arith) e

pub wanted_got : (w : Rung) (fs : List Frame) (x : Frame) → slice_get fs (length fs - 1) ≡ Some x → wanted w fs ≡ waits x
wanted_got w [] x e = cc
wanted_got w (y ∷ fs) x e = wanted_at (length fs) w (y ∷ fs) x (omega arith) (ap (slice_get (y ∷ fs)) (omega arith) ∙ e)
