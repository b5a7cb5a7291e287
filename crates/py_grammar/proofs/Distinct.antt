-- The test for different names tells exactly them.
use Rattle.std.proofs.Common.{◌≡◌, ℕ, true, not, List, [], ◌∷◌, bytes_eq, refl, ap, inl, inr}
use Rattle.std.specs.List.{list_any}
use Rattle.std.specs.Cmp.{IsEquivalence}
use Rattle.std.proofs.lemmas.Bool.{and_parts, and_from, cases_Bool, not-true}
use Rattle.std.proofs.lemmas.Slice.Eq.{bytes_eq-Decides}
use Rattle.std.proofs.lemmas.Map.Views.{list_any-from_Contains, Contains-from_any}
use Rattle.flow_base.proofs.NamesTable.{bytes_eq_refl, bytes_eq_flip}
use Rattle.py_ast.specs.Lawful.{AreDistinct}
use Rattle.py_grammar.specs.Reading.{is_distinct}

names_equal : IsEquivalence bytes_eq
names_equal = record {
  refl = bytes_eq_refl;
  symm = bytes_eq_flip;
  congr = λ x y z e. ap (λ w. bytes_eq w z) ((bytes_eq-Decides x y).0 e);
}

pub distinct_is : (xs : List (List ℕ)) → is_distinct xs ≡ true → AreDistinct xs
distinct_is [] e = tt
distinct_is (x ∷ xs) e =
    let p = and_parts (not (list_any (bytes_eq x) xs)) (is_distinct xs) e in (
      λ c. let seen = list_any-from_Contains names_equal x xs c in let free =
          not-true (list_any (bytes_eq x) xs) p.0 in cc,
      distinct_is xs p.1,
    )

pub distinct_from : (xs : List (List ℕ)) → AreDistinct xs → is_distinct xs ≡ true
distinct_from [] d = refl
distinct_from (x ∷ xs) d =
    elim (cases_Bool (list_any (bytes_eq x) xs)) [
      | inl e ↦ absurd (d.0 (Contains-from_any (λ x y. (bytes_eq-Decides x y).0) x xs e))
      | inr e ↦ and_from (not (list_any (bytes_eq x) xs)) (is_distinct xs) (ap not e) (distinct_from xs d.1)
    ]
