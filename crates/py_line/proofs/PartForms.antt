-- What is made of parts, by the parts.
use Rattle.std.proofs.Common.{◌≡◌, ℕ, ◌+◌, max, nat_le, Bool, true, false, Option, Some, None, if◌then◌else◌, List, refl}
use Rattle.py_ast.specs.Tree as t
use Rattle.py_ast.specs.Tree.{Tree, Trees}
use Rattle.py_grammar.specs.Kept.{Kept, whole, deep, KeptAll, all, one_deep, some_deep, Shape, value, built, made, made_of_two, made_choice, made_of_all, made_call, made_lambda}
use Rattle.py_line.specs.Parts.{tree, trees, within, with_depth, above, both}

-- what is kept of what is made
abbrev pub kept_from : {A : Type 0} → (A → Tree) → Shape → Option (A × ℕ) → Kept
kept_from f s None = deep s
kept_from f s (Some p) = whole (f p.0) p.1

kept_by : {A : Type 0} (f : A → Tree) (s : Shape) (a : A) (d : ℕ) (b : Bool)
    → kept_from f s (with_depth a (if b then Some d else None)) ≡ (if b then whole (f a) d else deep s)
kept_by f s a d true = refl
kept_by f s a d false = refl

kept_within : {A : Type 0} (f : A → Tree) (s : Shape) (a : A) (d : ℕ) → kept_from f s (with_depth a (within d)) ≡ built 60 (f a) d s
kept_within f s a d = kept_by f s a d (nat_le d 60)

pub made_is : (f : Tree → Tree) (s : Shape) (a : Kept) → kept_from f s (above (tree a)) ≡ made 60 f s a
made_is f s (whole a d) = kept_within f s a (1 + d)
made_is f s (deep _) = refl

pub made_of_two_is : (f : Tree → Tree → Tree) (s : Shape) (a b : Kept)
    → kept_from (λ (p : Tree × Tree). f p.0 p.1) s (above (both (tree a) (tree b))) ≡ made_of_two 60 f s a b
made_of_two_is f s (whole a d) (whole b e) = kept_within (λ (p : Tree × Tree). f p.0 p.1) s (a, b) (1 + max d e)
made_of_two_is f s (whole a d) (deep _) = refl
made_of_two_is f s (deep _) b = refl

abbrev pub choice_of : Tree × (Tree × Tree) → Tree
choice_of p = t.choice p.0 p.1.0 p.1.1

pub made_choice_is : (a test other : Kept) → kept_from choice_of value (above (both (tree a) (both (tree test) (tree other)))) ≡ made_choice 60 a test other
made_choice_is (whole a d) (whole b e) (whole c f) = kept_within choice_of value (a, (b, c)) (1 + max d (max e f))
made_choice_is (whole a d) (whole b e) (deep _) = refl
made_choice_is (whole a d) (deep _) c = refl
made_choice_is (deep _) b c = refl

pub made_of_all_is : (f : Trees → Tree) (s : Shape) (ts : KeptAll) → kept_from f s (above (trees ts)) ≡ made_of_all 60 f s ts
made_of_all_is f s (all ts d) = kept_within f s ts (1 + d)
made_of_all_is f s (one_deep _) = refl
made_of_all_is f s (some_deep _) = refl

abbrev pub call_of : Tree × Trees → Tree
call_of p = t.call p.0 p.1

pub made_call_is : (a : Kept) (ts : KeptAll) → kept_from call_of value (above (both (tree a) (trees ts))) ≡ made_call 60 a ts
made_call_is (whole a d) (all ts e) = kept_within call_of value (a, ts) (1 + max d e)
made_call_is (whole a d) (one_deep _) = refl
made_call_is (whole a d) (some_deep _) = refl
made_call_is (deep _) ts = refl

abbrev pub lambda_of : List (List ℕ) → Trees × Tree → Tree
lambda_of names p = t.lambda names p.0 p.1

pub made_lambda_is : (names : List (List ℕ)) (ts : KeptAll) (a : Kept)
    → kept_from (lambda_of names) value (above (both (trees ts) (tree a))) ≡ made_lambda 60 names ts a
made_lambda_is names (all ts d) (whole a e) = kept_within (lambda_of names) value (ts, a) (1 + max d e)
made_lambda_is names (all ts d) (deep _) = refl
made_lambda_is names (one_deep _) a = refl
made_lambda_is names (some_deep _) a = refl
