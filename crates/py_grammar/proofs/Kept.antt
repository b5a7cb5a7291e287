-- What is kept of a tree is made of what is kept of its parts.
use Rattle.std.proofs.Common.{◌≡◌, ℕ, ◌+◌, max, ◌≤◌, ◌<◌, Bool, true, false, ◌&&◌, if◌then◌else◌, List, ◌∷◌, refl, sym, ap, ◌∙◌, arith, ◌⊎◌}
use Rattle.std.proofs.Common.{inl, inr}
use Rattle.std.proofs.Math.Bool.{and-true}
use Rattle.std.proofs.lemmas.Bool.{le-leb, lt-leb, cases_lt}
use Rattle.py_ast.specs.Tree as t
use Rattle.py_ast.specs.Tree.{Tree, Trees, none, more, depth, deepest}
use Rattle.py_ast.specs.declared.expr.CompareOp.{CompareOp}
use Rattle.py_grammar.specs.Grammar.{push}
use Rattle.py_grammar.specs.Kept.{some_of, is_target, are_targets, Shape, value, if_targets, shape, may_be_target, whole, deep, built, keep}
use Rattle.py_grammar.specs.Kept.{is_kept_target, all, one_deep, some_deep, no_trees, push_kept, too_deep, keep_all, is_none_kept, leaf}
use Rattle.py_grammar.specs.Kept.{row_shape, made, made_of_two, made_choice, made_of_all, made_tuple, made_list, made_dict, made_call}
use Rattle.py_grammar.specs.Kept.{made_lambda, alone, compared}

-- ---- shapes and depths

if_may : (b : Bool) → may_be_target (if_targets b) ≡ b
if_may true = refl
if_may false = refl

pub shape_may : (a : Tree) → may_be_target (shape a) ≡ is_target a
shape_may (t.name x) = refl
shape_may (t.attr a x) = refl
shape_may (t.item a i) = refl
shape_may (t.tuple ts) = if_may (some_of ts && are_targets ts)
shape_may (t.list ts) = if_may (some_of ts && are_targets ts)
shape_may _ = refl

depth_some : (a : Tree) → 0 < depth a
depth_some (t.tuple ts) = omega arith
depth_some _ = omega arith

pub deepest_push : (ts : Trees) (a : Tree) → deepest (push ts a) ≡ max (deepest ts) (depth a)
deepest_push none a = omega arith
deepest_push (more s ss) a = let rest = deepest_push ss a in rw rest (omega arith)

and_assoc : (a b c : Bool) → (a && (b && c)) ≡ ((a && b) && c)
and_assoc true b c = refl
and_assoc false b c = refl

pub targets_push : (ts : Trees) (a : Tree) → are_targets (push ts a) ≡ (are_targets ts && is_target a)
targets_push none a = and-true (is_target a)
targets_push (more s ss) a = ap (λ z. is_target s && z) (targets_push ss a) ∙ and_assoc (is_target s) (are_targets ss) (is_target a)

too_deep_push : (s : Tree) (ss : Trees) (a : Tree) → too_deep (push (more s ss) a) ≡ some_deep (are_targets (more s ss) && is_target a)
too_deep_push s none a = ap some_deep (targets_push (more s none) a)
too_deep_push s (more r rs) a = ap some_deep (targets_push (more s (more r rs)) a)

-- ---- what is kept

module _ (most : ℕ) where
  pub built_fits : (a : Tree) (d : ℕ) (s : Shape) → d ≤ most → built most a d s ≡ whole a d
  built_fits a d s h = ap (λ b. if b then whole a d else deep s) (le-leb d most h)

  pub built_cut : (a : Tree) (d : ℕ) (s : Shape) → most < d → built most a d s ≡ deep s
  built_cut a d s h = ap (λ b. if b then whole a d else deep s) (lt-leb d most h)

  all_fits : (ts : Trees) → deepest ts ≤ most → keep_all most ts ≡ all ts (deepest ts)
  all_fits ts h = ap (λ b. if b then all ts (deepest ts) else too_deep ts) (le-leb (deepest ts) most h)

  all_cut : (ts : Trees) → most < deepest ts → keep_all most ts ≡ too_deep ts
  all_cut ts h = ap (λ b. if b then all ts (deepest ts) else too_deep ts) (lt-leb (deepest ts) most h)

  -- a tree is kept whole, or its shape alone
  pub kept_as : (a : Tree) → ((depth a ≤ most) × (keep most a ≡ whole a (depth a))) ⊎ ((most < depth a) × (keep most a ≡ deep (shape a)))
  kept_as a = elim (cases_lt most (depth a)) [
    | inl p ↦ inr (p, built_cut a (depth a) (shape a) p)
    | inr p ↦
        inl (p, built_fits a (depth a) (shape a) p)
  ]

  all_kept_as : (ts : Trees) → ((deepest ts ≤ most) × (keep_all most ts ≡ all ts (deepest ts))) ⊎
      ((most < deepest ts) × (keep_all most ts ≡ too_deep ts))
  all_kept_as ts = elim (cases_lt most (deepest ts)) [ inl p ↦ inr (p, all_cut ts p) | inr p ↦ inl (p, all_fits ts p) ]

  keep_by : (a : Tree) (d : ℕ) (s : Shape) → depth a ≡ d → shape a ≡ s → keep most a ≡ built most a d s
  keep_by a d s ed es = ap (λ d. built most a d (shape a)) ed ∙ ap (λ s. built most a d s) es

  keep_cut : (a : Tree) (s : Shape) → most < depth a → shape a ≡ s → keep most a ≡ deep s
  keep_cut a s h es = built_cut a (depth a) (shape a) h ∙ ap deep es

  -- ---- of one or two parts

  pub keep_leaf : (a : Tree) → 0 < most → depth a ≡ 1 → keep most a ≡ leaf a
  keep_leaf a some e = keep_by a 1 (shape a) e refl ∙ built_fits a 1 (shape a) (omega arith)

  pub keep_made : (f : Tree → Tree) (s : Shape) (a : Tree) → depth (f a) ≡ 1 + depth a → shape (f a) ≡ s
      → keep most (f a) ≡ made most f s (keep most a)
  keep_made f s a ed es =
      elim (kept_as a) [
        | inl p ↦ keep_by (f a) (1 + depth a) s ed es ∙ ap (made most f s) (sym p.1)
        | inr p ↦ keep_cut (f a) s (omega arith) es ∙ ap (made most f s) (sym p.1)
      ]

  pub keep_two : (f : Tree → Tree → Tree) (s : Shape) (a b : Tree) → depth (f a b) ≡ 1 + max (depth a) (depth b) → shape (f a b) ≡ s
      → keep most (f a b) ≡ made_of_two most f s (keep most a) (keep most b)
  keep_two f s a b ed es =
      elim (kept_as a) [
        | inl p ↦ elim (kept_as b) [
          | inl q ↦ keep_by (f a b) (1 + max (depth a) (depth b)) s ed es ∙ ap (made_of_two most f s (whole a (depth a))) (sym q.1)
              ∙ ap (λ z. made_of_two most f s z (keep most b)) (sym p.1)
          | inr q ↦ keep_cut (f a b) s (omega arith) es ∙ ap (made_of_two most f s (whole a (depth a))) (sym q.1)
              ∙ ap (λ z. made_of_two most f s z (keep most b)) (sym p.1)
        ]
        | inr p ↦ keep_cut (f a b) s (omega arith) es ∙ ap (λ z. made_of_two most f s z (keep most b)) (sym p.1)
      ]

  pub keep_choice : (a test other : Tree) → keep most (t.choice a test other) ≡ made_choice most (keep most a) (keep most test)
      (keep most other)
  keep_choice a test other =
      elim (kept_as a) [
        | inr p ↦ built_cut (t.choice a test other) _ value (omega arith)
            ∙ ap (λ z. made_choice most z (keep most test) (keep most other)) (sym p.1)
        | inl p ↦
            ap (λ z. z) (elim (kept_as test) [
              | inr q ↦ built_cut (t.choice a test other) _ value (omega arith)
                  ∙ ap (λ z. made_choice most (whole a (depth a)) z (keep most other)) (sym q.1)
              | inl q ↦
                  elim (kept_as other) [
                    | inr r ↦ built_cut (t.choice a test other) _ value (omega arith)
                        ∙ ap (λ z. made_choice most (whole a (depth a)) (whole test (depth test)) z) (sym r.1)
                    | inl r ↦ ap (λ z. made_choice most (whole a (depth a)) (whole test (depth test)) z) (sym r.1)
                  ] ∙ ap (λ z. made_choice most (whole a (depth a)) z (keep most other)) (sym q.1)
            ]) ∙ ap (λ z. made_choice most z (keep most test) (keep most other)) (sym p.1)
      ]

  -- ---- of several parts

  -- trees of which some are too deep
  some_too_deep : (ts : Trees) → most < deepest ts → ((s : Shape) × (too_deep ts ≡ one_deep s)) ⊎ ((b : Bool) × (too_deep ts ≡ some_deep b))
  some_too_deep none h = absurd (omega arith)
  some_too_deep (more a none) h = inl (shape a, refl)
  some_too_deep (more a (more b ts)) h = inr (are_targets (more a (more b ts)), refl)

  pub keep_of_all : (f : Trees → Tree) (s : Shape) (ts : Trees) → depth (f ts) ≡ 1 + deepest ts → shape (f ts) ≡ s
      → keep most (f ts) ≡ made_of_all most f s (keep_all most ts)
  keep_of_all f s ts ed es =
      elim (all_kept_as ts) [
        | inl p ↦ keep_by (f ts) (1 + deepest ts) s ed es ∙ ap (made_of_all most f s) (sym p.1)
        | inr p ↦ keep_cut (f ts) s (omega arith) es ∙ elim (some_too_deep ts p.0) [
          | inl q ↦ ap (made_of_all most f s) (sym (p.1 ∙ q.1))
          | inr q ↦ ap (made_of_all most f s) (sym (p.1 ∙ q.1))
        ]
      ]

  row_of_deep : (ts : Trees) → most < deepest ts → row_shape (too_deep ts) ≡ if_targets (some_of ts && are_targets ts)
  row_of_deep none h = absurd (omega arith)
  row_of_deep (more a none) h = ap if_targets (shape_may a ∙ sym (and-true (is_target a)))
  row_of_deep (more a (more b ts)) h = refl

  row_is : (ts : Trees) → row_shape (keep_all most ts) ≡ if_targets (some_of ts && are_targets ts)
  row_is ts = elim (all_kept_as ts) [ inl p ↦ ap row_shape p.1 | inr p ↦ ap row_shape p.1 ∙ row_of_deep ts p.0 ]

  pub keep_tuple : (ts : Trees) → keep most (t.tuple ts) ≡ made_tuple most (keep_all most ts)
  keep_tuple ts = keep_of_all t.tuple (row_shape (keep_all most ts)) ts refl (sym (row_is ts))

  pub keep_list : (ts : Trees) → keep most (t.list ts) ≡ made_list most (keep_all most ts)
  keep_list ts = keep_of_all t.list (row_shape (keep_all most ts)) ts refl (sym (row_is ts))

  pub keep_dict : (ts : Trees) → keep most (t.dict ts) ≡ made_dict most (keep_all most ts)
  keep_dict ts = keep_of_all t.dict value ts refl refl

  pub keep_call : (f : Tree) (ts : Trees) → keep most (t.call f ts) ≡ made_call most (keep most f) (keep_all most ts)
  keep_call f ts =
      elim (kept_as f) [
        | inr p ↦ built_cut (t.call f ts) _ value (omega arith) ∙ ap (λ z. made_call most z (keep_all most ts)) (sym p.1)
        | inl p ↦
            elim (all_kept_as ts) [
              | inl q ↦ ap (made_call most (whole f (depth f))) (sym q.1)
              | inr q ↦ built_cut (t.call f ts) _ value (omega arith) ∙ elim (some_too_deep ts q.0) [
                | inl r ↦ ap (made_call most (whole f (depth f))) (sym (q.1 ∙ r.1))
                | inr r ↦ ap (made_call most (whole f (depth f))) (sym (q.1 ∙ r.1))
              ]
            ] ∙ ap (λ z. made_call most z (keep_all most ts)) (sym p.1)
      ]

  pub keep_lambda : (names : List (List ℕ)) (ts : Trees) (a : Tree) → keep most (t.lambda names ts a) ≡ made_lambda most names
      (keep_all most ts) (keep most a)
  keep_lambda names ts a =
      elim (all_kept_as ts) [
        | inr p ↦ built_cut (t.lambda names ts a) _ value (omega arith) ∙ elim (some_too_deep ts p.0) [
          | inl r ↦ ap (λ z. made_lambda most names z (keep most a)) (sym (p.1 ∙ r.1))
          | inr r ↦ ap (λ z. made_lambda most names z (keep most a)) (sym (p.1 ∙ r.1))
        ]
        | inl p ↦
            elim (kept_as a) [
              | inl q ↦ ap (made_lambda most names (all ts (deepest ts))) (sym q.1)
              | inr q ↦ built_cut (t.lambda names ts a) _ value (omega arith) ∙ ap (made_lambda most names (all ts (deepest ts))) (sym q.1)
            ] ∙ ap (λ z. made_lambda most names z (keep most a)) (sym p.1)
      ]

  -- ---- members of lists

  pub keep_none : keep_all most none ≡ no_trees
  keep_none = all_fits none (omega arith)

  pub none_kept : is_none_kept (keep_all most none) ≡ true
  none_kept = ap is_none_kept keep_none

  pub kept_none : (ts : Trees) → is_none_kept (keep_all most ts) ≡ true → ts ≡ none
  kept_none none e = refl
  kept_none (more a ts) e =
      elim (all_kept_as (more a ts)) [
        | inl p ↦ let e' = sym (ap is_none_kept p.1) ∙ e in cc
        | inr p ↦ elim (some_too_deep (more a ts) p.0) [
          | inl q ↦ let e' = sym (ap is_none_kept (p.1 ∙ q.1)) ∙ e in cc
          | inr q ↦ let e' = sym (ap is_none_kept (p.1 ∙ q.1)) ∙ e in cc
        ]
      ]

  kept_target_is : (a : Tree) → is_kept_target (keep most a) ≡ is_target a
  kept_target_is a = elim (kept_as a) [ inl p ↦ ap is_kept_target p.1 | inr p ↦ ap is_kept_target p.1 ∙ shape_may a ]

  push_whole : (ts : Trees) (a : Tree) → deepest ts ≤ most → depth a ≤ most
      → keep_all most (push ts a) ≡ push_kept (all ts (deepest ts)) (whole a (depth a))
  push_whole ts a h k =
      let e = deepest_push ts a in
      all_fits (push ts a) (omega arith) ∙ ap (all (push ts a)) e

  push_a_deep : (ts : Trees) (a : Tree) → deepest ts ≤ most → most < depth a
      → keep_all most (push ts a) ≡ push_kept (all ts (deepest ts)) (deep (shape a))
  push_a_deep none a h k = let e = deepest_push none a in all_cut (push none a) (omega arith)
  push_a_deep (more s ss) a h k =
      let e = deepest_push (more s ss) a in
      all_cut (push (more s ss) a) (omega arith) ∙ too_deep_push s ss a
      ∙ ap (λ b. some_deep (are_targets (more s ss) && b)) (sym (shape_may a))

  push_to_deep : (ts : Trees) (a : Tree) → most < deepest ts → keep_all most (push ts a) ≡ push_kept (too_deep ts) (keep most a)
  push_to_deep none a h = absurd (omega arith)
  push_to_deep (more s none) a h =
      let e = deepest_push (more s none) a in
      all_cut (push (more s none) a) (omega arith) ∙ too_deep_push s none a
      ∙ ap (λ b. some_deep (b && is_target a)) (and-true (is_target s) ∙ sym (shape_may s))
      ∙ ap (λ b. some_deep (may_be_target (shape s) && b)) (sym (kept_target_is a))
  push_to_deep (more s (more r rs)) a h =
      let e = deepest_push (more s (more r rs)) a in
      all_cut (push (more s (more r rs)) a) (omega arith) ∙ too_deep_push s (more r rs) a
      ∙ ap (λ b. some_deep (are_targets (more s (more r rs)) && b)) (sym (kept_target_is a))

  pub keep_push : (ts : Trees) (a : Tree) → keep_all most (push ts a) ≡ push_kept (keep_all most ts) (keep most a)
  keep_push ts a =
      elim (all_kept_as ts) [
        | inr p ↦ push_to_deep ts a p.0 ∙ ap (λ z. push_kept z (keep most a)) (sym p.1)
        | inl p ↦
            elim (kept_as a) [
              | inl q ↦ push_whole ts a p.0 q.0 ∙ ap (push_kept (all ts (deepest ts))) (sym q.1)
              | inr q ↦ push_a_deep ts a p.0 q.0 ∙ ap (push_kept (all ts (deepest ts))) (sym q.1)
            ] ∙ ap (λ z. push_kept z (keep most a)) (sym p.1)
      ]

  pub keep_one : (a : Tree) → keep_all most (more a none) ≡ push_kept no_trees (keep most a)
  keep_one a = keep_push none a ∙ ap (λ z. push_kept z (keep most a)) keep_none

  -- ---- one is itself

  pub keep_alone : (a : Tree) → keep most a ≡ alone most (keep_all most (more a none))
  keep_alone a =
      elim (kept_as a) [
        | inl p ↦ p.1 ∙ ap (whole a) (omega arith) ∙ ap (alone most) (sym (all_fits (more a none) (omega arith)))
        | inr p ↦ p.1 ∙ ap (alone most) (sym (all_cut (more a none) (omega arith)))
      ]

  pub keep_several : (a b : Tree) (ts : Trees) → keep most (t.tuple (more a (more b ts))) ≡ alone most (keep_all most (more a (more b ts)))
  keep_several a b ts =
      keep_tuple (more a (more b ts)) ∙ elim (all_kept_as (more a (more b ts))) [
        | inl p ↦ ap (made_tuple most) p.1 ∙ ap (alone most) (sym p.1)
        | inr p ↦ ap (made_tuple most) p.1 ∙ ap (alone most) (sym p.1)
      ]

  pub keep_compare : (o : CompareOp) (os : List CompareOp) (ts : Trees)
      → keep most (t.compare (o ∷ os) ts) ≡ compared most (o ∷ os, keep_all most ts)
  keep_compare o os ts = keep_of_all (t.compare (o ∷ os)) value ts refl refl

  -- ---- trees that are kept whole

  pub keep_same : (a b : Tree) → depth a ≤ most → depth b ≤ most → keep most a ≡ keep most b → a ≡ b
  keep_same a b h k e =
      let both : whole a (depth a) ≡ whole b (depth b) = sym (built_fits a (depth a) (shape a) h) ∙ e
      ∙ built_fits b (depth b) (shape b) k in
      cc

  pub all_same : (a b : Trees) → deepest a ≤ most → deepest b ≤ most → keep_all most a ≡ keep_all most b → a ≡ b
  all_same a b h k e =
      let both : all a (deepest a) ≡ all b (deepest b) = sym (all_fits a h) ∙ e ∙ all_fits b k in
      cc
