-- The loop over what waits: where it begins, and where what waits last gets its phrase.
use Rattle.std.proofs.Common.{◌≡◌, ◌≤◌, ◌<◌, List, [], ◌∷◌, ◌++◌, length, Option, Some, sym, ap, ◌∙◌, subst, arith, inl, inr}
use Rattle.py_grammar.specs.Kept.{Kept, KeptAll, made_tuple, made_dict, alone}
use Rattle.py_grammar.specs.Reading.{◌>>=◌, mark_at, up_to, if_mark, end_of_exprs}
use Rattle.py_grammar.specs.declared.mark.Mark.{Mark}
use Rattle.py_grammar.specs.declared.mark.Mark.TheVariants as m
use Rattle.py_grammar.specs.declared.sign.Sign.{Sign}
use Rattle.py_grammar.proofs.Marks.{mark_less}
use Rattle.py_grammar.proofs.Steps.{some_is, bind_ok, on_ok}
use Rattle.py_line.specs.declared.frame.Brackets.{Brackets}
use Rattle.py_line.specs.declared.frame.Brackets.TheVariants as b
use Rattle.py_line.specs.declared.frame.Rung.{Rung}
use Rattle.py_line.specs.declared.frame.Frame.{Frame}
use Rattle.py_line.specs.States.{with_last}
use Rattle.py_line.specs.Waiting.{Read, rank, phrase, gives, turn, wanted, closed, pairs_ended, after, before, onward}
use Rattle.py_line.proofs.Rungs.{bind_some, wanted_last, arrives, arrives_whole}

-- nothing waits yet
pub whole_first : (w : Rung) (tokens : List Sign) → phrase w tokens ≡ before w [] tokens
unfolding before
whole_first w tokens = sym (bind_some (phrase w tokens))

pub whole_begins : (w v : Rung) (fs : List Frame) (tokens : List Sign) → v ≡ w → fs ≡ [] → phrase w tokens ≡ before v fs tokens
whole_begins w v fs tokens e n = whole_first w tokens ∙ ap (λ z. before z [] tokens) (sym e) ∙ ap (λ z. before v z tokens) (sym n)

pub last_arrives : (w : Rung) (fs gs : List Frame) (x : Frame) (l : Rung) (a : Read) → gs ≡ fs ++ x ∷ [] → rank (wanted w gs) ≤ rank l
    → after w gs l a ≡ onward w fs (gives x) (turn x a)
last_arrives w fs gs x l a e small =
    ap (λ z. after w z l a) e
    ∙ arrives w fs x l a (subst (λ z. rank z ≤ rank l) (wanted_last w fs x) (subst (λ z. rank (wanted w z) ≤ rank l) e small))

pub none_waits : (w : Rung) (gs : List Frame) (l : Rung) (a : Read) → gs ≡ [] → rank (wanted w gs) ≤ rank l → after w gs l a ≡ Some a
none_waits w gs l a e small =
    ap (λ z. after w z l a) e ∙ arrives_whole w l a (subst (λ z. rank (wanted w z) ≤ rank l) e small)

pub split_arrives : (w v : Rung) (gs fs : List Frame) (o : Option Frame) (x : Frame) (l : Rung) (a : Read) → gs ≡ with_last fs o → o ≡ Some x → v ≡ w
    → rank (wanted w gs) ≤ rank l → after w gs l a ≡ onward v fs (gives x) (turn x a)
split_arrives w v gs fs o x l a h s g small =
    last_arrives w fs gs x l a (h ∙ ap (with_last fs) s) small ∙ ap (λ v. onward v fs (gives x) (turn x a)) (sym g)

-- ---- what closes leaves no more signs

up_to_within : {A B : Type 0} (k : Mark) (f : A → B) (a : A × List Sign) (x : B × List Sign) → up_to k f a ≡ Some x → length x.1 ≤ length a.1
up_to_within k f a x e =
    let q = bind_ok (mark_at k a.1) (λ rest. Some (f a.0, rest)) x e in
    let less = mark_less k a.1 q.0 q.1 in
    let same = ap (λ z. length z.1) (some_is q.2) in
    omega arith

comma_within : (s : KeptAll × List Sign) (x : KeptAll × List Sign) → if_mark m.Comma s ≡ Some x → length x.1 ≤ length s.1
comma_within s x e =
    elim (on_ok (mark_at m.Comma s.1) (Some s) (λ rest. Some (s.0, rest)) (Some x) e) [
      | inl p ↦ let same = ap (λ z. length z.1) (some_is p.1) in omega arith
      | inr p ↦ let less = mark_less m.Comma s.1 p.0 p.1 in let same = ap (λ z. length z.1) (some_is p.2) in omega arith
    ]

end_within : (s : KeptAll × List Sign) (x : Kept × List Sign) → end_of_exprs 60 s ≡ Some x → length x.1 ≤ length s.1
end_within s x e =
    elim (on_ok (mark_at m.Comma s.1) (Some (alone 60 s.0, s.1)) (λ rest. Some (made_tuple 60 s.0, rest)) (Some x) e) [
      | inl p ↦ let same = ap (λ z. length z.1) (some_is p.1) in omega arith
      | inr p ↦ let less = mark_less m.Comma s.1 p.0 p.1 in let same = ap (λ z. length z.1) (some_is p.2) in omega arith
    ]

then_within : {A B : Type 0} (s : A × List Sign) (o : Option (B × List Sign)) → ((y : B × List Sign) → o ≡ Some y → length y.1 ≤ length s.1)
    → {C : Type 0} (k : Mark) (f : B → C) (x : C × List Sign) → (o >>= up_to k f) ≡ Some x → length x.1 ≤ length s.1
then_within s o h k f x e =
    let q = bind_ok o (up_to k f) x e in
    let first = h q.0 q.1 in
    let second = up_to_within k f q.0 x q.2 in
    omega arith

pub closed_within : (d : Brackets) (s : KeptAll × List Sign) (x : Read) → closed d s ≡ Some x → length x.1 ≤ length s.1
closed_within b.Round s x e = then_within s (end_of_exprs 60 s) (end_within s) m.Close _ x e
closed_within b.Square s x e = then_within s (if_mark m.Comma s) (comma_within s) m.CloseSquare _ x e
closed_within (b.Index a) s x e = then_within s (end_of_exprs 60 s) (end_within s) m.CloseSquare _ x e
closed_within (b.Call a) s x e = then_within s (if_mark m.Comma s) (comma_within s) m.Close _ x e

pub pairs_within : (s : KeptAll × List Sign) (x : Read) → pairs_ended s ≡ Some x → length x.1 ≤ length s.1
pairs_within s x e = then_within s (if_mark m.Comma s) (comma_within s) m.CloseCurly (made_dict 60) x e
