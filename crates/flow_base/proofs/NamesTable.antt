-- The table of names as a list: what a new name changes, and its index.
use Rattle.std.proofs.Common.{◌≡◌, ◌≢◌, ℕ, zero, suc, ◌<◌, List, [], ◌∷◌, ◌++◌, Bool, true, false, Option, Some, None, IsSome, is_some, AllPairs, Vec, Global, cond, length, get_or, slice_get, ap, sym, ◌∙◌, refl, map, subst, arith}
use Rattle.std.specs.Str.{bytes_eq}
use Rattle.std.specs.Ordering.{nat_cmp, eq_by_cmp, match_ordering}
use Rattle.std.specs.declared.cmp.Ordering.{Ordering}
use Rattle.std.specs.declared.cmp.Ordering.TheVariants.{Less, Equal, Greater}
use Rattle.std.specs.Cmp.Lexicographic.{slice_cmp, nat_list_cmp_total}
use Rattle.std.specs.Map.{lookup}
use Rattle.std.specs.BTreeMap.{BTreeMap, insert_entry, is_at}
use Rattle.std.specs.FinMap.Entries.{find, put, find-put, by_order}
use Rattle.std.proofs.lemmas.Map.Text.{is_eq-slice_cmp}
use Rattle.std.proofs.lemmas.Slice.Eq.{bytes_eq-Decides}
use Rattle.std.proofs.lemmas.Bool.Decides.{same_from_decides, Decides-like}
use Rattle.std.proofs.lemmas.Option.{none-some, same_Some, slice_get_within, get_or_from_slice_get}
use Rattle.std.proofs.lemmas.Bool.{false_from_ne_true, false≢true}
use Rattle.flow_base.specs.declared.numbers.Sym.{Sym}
use Rattle.std.proofs.lemmas.List.Quantifiers.{all_pairs_push}
use Rattle.flow_base.specs.Names.{next_sym, symbol_of, with_name}
use Rattle.flow_base.specs.NamesIndex.{IsIndex}

abbrev order : List ℕ → List ℕ → Ordering
order = slice_cmp nat_cmp

abbrev pub sym_at : ℕ → Sym
sym_at n = record { 0 = n }

pub bytes_eq_refl : (s : List ℕ) → bytes_eq s s ≡ true
bytes_eq_refl s = (bytes_eq-Decides s s).1 refl

pub bytes_eq_flip : (s t : List ℕ) → bytes_eq s t ≡ bytes_eq t s
bytes_eq_flip s t =
    same_from_decides _ _ (bytes_eq-Decides s t) (Decides-like (bytes_eq t s) (λ e. sym e) (λ e. sym e) (bytes_eq-Decides t s))

-- a symbol of the rest of the table, one further on
next_sym-none : (o : Option Sym) → next_sym o ≡ None → o ≡ None
next_sym-none None h = refl
next_sym-none (Some s) h = cc

next_sym-some : (o : Option Sym) (s : Sym) → next_sym o ≡ Some s → (t : Sym) × (o ≡ Some t) × (s ≡ sym_at (suc t.0))
next_sym-some None s h = cc
next_sym-some (Some t) s h = (t, refl, cc)

absent_head : (b : Bool) (o : Option Sym) → cond b (Some (sym_at 0)) (next_sym o) ≡ None → (b ≡ false) × (o ≡ None)
absent_head true o h = cc
absent_head false o h = (refl, next_sym-none o h)

-- no name of the table is an absent text
pub absent_apart : (names : List (List ℕ)) (t : List ℕ) → symbol_of names t ≡ None → (k : ℕ) (d : List ℕ) → k < length names → get_or names k d ≢ t
absent_apart [] t h k d l = absurd (omega arith)
absent_apart (n ∷ ns) t h zero d l = λ e. let a = absent_head _ _ h in let b : bytes_eq n t ≡ true = (bytes_eq-Decides n t).1 e in cc
absent_apart (n ∷ ns) t h (suc k) d l = absent_apart ns t (absent_head _ _ h).1 k d (omega arith)

-- what a new name adds
push_step : (b c : Bool) (o : Option Sym) (k : ℕ) → (b ≡ true → c ≡ false) → cond b (Some (sym_at 0)) (next_sym (cond c (Some (sym_at k)) o)) ≡ cond c (Some (sym_at (suc k))) (cond b (Some (sym_at 0)) (next_sym o))
push_step true true o k h = let e : true ≡ false = h refl in cc
push_step true false o k h = refl
push_step false true o k h = refl
push_step false false o k h = refl

pub symbol_of-push : (names : List (List ℕ)) (t : List ℕ) → symbol_of names t ≡ None → (q : List ℕ) → symbol_of (names ++ t ∷ []) q ≡ cond (bytes_eq t q) (Some (sym_at (length names))) (symbol_of names q)
symbol_of-push [] t h q = refl
symbol_of-push (n ∷ ns) t h q =
    let a = absent_head _ _ h in
    ap (λ o. cond (bytes_eq n q) (Some (sym_at 0)) (next_sym o)) (symbol_of-push ns t a.1 q)
    ∙ push_step (bytes_eq n q) (bytes_eq t q) (symbol_of ns q) (length ns) (λ e. same_from_decides _ _ (bytes_eq-Decides t q) (Decides-like (bytes_eq n t) (λ f. sym f ∙ (bytes_eq-Decides n q).0 e) (λ f. (bytes_eq-Decides n q).0 e ∙ sym f) (bytes_eq-Decides n t)) ∙ a.0)

pub symbol_of-pushed : (names : List (List ℕ)) (t : List ℕ) → symbol_of names t ≡ None → symbol_of (names ++ t ∷ []) t ≡ Some (sym_at (length names))
symbol_of-pushed names t h =
    symbol_of-push names t h t ∙ ap (λ b. cond b (Some (sym_at (length names))) (symbol_of names t)) (bytes_eq_refl t)

-- the index with a new key
module _ {K X : Type 0} (key : K → List ℕ) where
  abbrev keyed : List (K × X) → List (List ℕ × X)
  keyed es = map (λ e. (key e.0, e.1)) es

  keyed-insert_entry : (es : List (K × X)) (k : K) (v : X) → keyed (insert_entry (λ a b. order (key a) (key b)) es k v) ≡ put order (key k) v (keyed es)
  keyed-insert_entry [] k v = refl
  keyed-insert_entry (e ∷ es) k v =
      elim (order (key k) (key e.0)) as (λ o. keyed (match_ordering o ((k, v) ∷ e ∷ es) ((e.0, v) ∷ es) (e ∷ insert_entry (λ a b. order (key a) (key b)) es k v))
      ≡ by_order o ((key k, v) ∷ keyed (e ∷ es)) ((key e.0, v) ∷ keyed es) ((key e.0, e.1) ∷ put order (key k) v (keyed es))) [
        | Less ↦ refl
        | Equal ↦ refl
        | Greater ↦ ap (λ t. (key e.0, e.1) ∷ t) (keyed-insert_entry es k v)
      ]

  find-keyed : (es : List (K × X)) (q : List ℕ) → find order q (keyed es) ≡ lookup (is_at (λ k. order q (key k))) es
  find-keyed [] q = refl
  find-keyed (e ∷ es) q = ap (cond (eq_by_cmp order q (key e.0)) (Some e.1)) (find-keyed es q)

  pub lookup-insert_entry : (es : List (K × X)) (k : K) (v : X) (q : List ℕ) → lookup (is_at (λ k. order q (key k))) (insert_entry (λ a b. order (key a) (key b)) es k v) ≡ cond (bytes_eq q (key k)) (Some v) (lookup (is_at (λ k. order q (key k))) es)
  lookup-insert_entry es k v q =
      sym (find-keyed _ q)
      ∙ ap (find order q) (keyed-insert_entry es k v)
      ∙ find-put order nat_list_cmp_total q (key k) v (keyed es)
      ∙ ap (λ b. cond b (Some v) (find order q (keyed es))) (is_eq-slice_cmp q (key k))
      ∙ ap (cond (bytes_eq q (key k)) (Some v)) (find-keyed es q)

-- the laws of symbols
head_at : (n : List ℕ) (ns : List (List ℕ)) (s : List ℕ) (symbol : Sym) → (b : Bool) → (b ≡ true → n ≡ s) → ((t : Sym) → symbol_of ns s ≡ Some t → slice_get ns t.0 ≡ Some s) → cond b (Some (sym_at 0)) (next_sym (symbol_of ns s)) ≡ Some symbol → slice_get (n ∷ ns) symbol.0 ≡ Some s
head_at n ns s symbol true e below h =
    subst (λ (x : Sym). slice_get (n ∷ ns) x.0 ≡ Some s) (same_Some _ _ h) (ap (λ (x : List ℕ). Some x) (e refl))
head_at n ns s symbol false e below h =
    let w = next_sym-some (symbol_of ns s) symbol h in
    subst (λ (x : Sym). slice_get (n ∷ ns) x.0 ≡ Some s) (sym w.2) (below w.0 w.1)

pub symbol_at : (names : List (List ℕ)) (s : List ℕ) (symbol : Sym) → symbol_of names s ≡ Some symbol → slice_get names symbol.0 ≡ Some s
symbol_at [] s symbol h = absurd (none-some symbol h)
symbol_at (n ∷ ns) s symbol h =
    head_at n ns s symbol (bytes_eq n s) (bytes_eq-Decides n s).0 (symbol_at ns s) h

pub symbol_of-place : (names : List (List ℕ)) (s : List ℕ) (k : ℕ) → AllPairs (λ s t. s ≢ t) names → slice_get names k ≡ Some s → symbol_of names s ≡ Some (sym_at k)
symbol_of-place [] s k u h = absurd (none-some s h)
symbol_of-place (n ∷ ns) s zero u h =
    ap (λ b. cond b (Some (sym_at 0)) (next_sym (symbol_of ns s))) ((bytes_eq-Decides n s).1 (same_Some n s h))
symbol_of-place (n ∷ ns) s (suc k) u h =
    let inside = slice_get_within ns k s h in
    let apart : n ≢ s = λ e. u 0 (suc k) s (omega arith) (omega arith) (e ∙ sym (get_or_from_slice_get ns k s s h)) in
    let rest = symbol_of-place ns s k (λ i j d p q. u (suc i) (suc j) d (omega arith) (omega arith)) h in
    ap (λ b. cond b (Some (sym_at 0)) (next_sym (symbol_of ns s))) (false_from_ne_true (bytes_eq n s) (λ e. apart ((bytes_eq-Decides n s).0 e)))
    ∙ ap next_sym rest

stays_at : (names : List (List ℕ)) (s t : List ℕ) (symbol : Sym) (o : Option Sym) → symbol_of names t ≡ o → symbol_of names s ≡ Some symbol → symbol_of (cond (is_some o) names (names ++ t ∷ [])) s ≡ Some symbol
stays_at names s t symbol (Some x) e h = h
stays_at names s t symbol None e h =
    let other : bytes_eq t s ≡ false = false_from_ne_true (bytes_eq t s) (λ b. let same = (bytes_eq-Decides t s).0 b in none-some symbol (sym e ∙ ap (symbol_of names) same ∙ h)) in
    symbol_of-push names t e s ∙ ap (λ b. cond b (Some (sym_at (length names))) (symbol_of names s)) other ∙ h

pub symbol_of-with_name : (names : List (List ℕ)) (s t : List ℕ) (symbol : Sym) → symbol_of names s ≡ Some symbol → symbol_of (with_name names t) s ≡ Some symbol
symbol_of-with_name names s t symbol h = stays_at names s t symbol (symbol_of names t) refl h

known_at : (names : List (List ℕ)) (t : List ℕ) (o : Option Sym) → symbol_of names t ≡ o → IsSome (symbol_of (cond (is_some o) names (names ++ t ∷ [])) t)
known_at names t (Some x) e = ap is_some e
known_at names t None e = ap is_some (symbol_of-pushed names t e)

pub IsSome-with_name : (names : List (List ℕ)) (t : List ℕ) → IsSome (symbol_of (with_name names t) t)
IsSome-with_name names t = known_at names t (symbol_of names t) refl

one_text_at : (names : List (List ℕ)) (s t : List ℕ) (o : Option Sym) → symbol_of names s ≡ o → IsSome o → o ≡ symbol_of names t → s ≡ t
one_text_at names s t None e k h = absurd (false≢true k)
one_text_at names s t (Some x) e k h =
    same_Some s t (sym (symbol_at names s x e) ∙ symbol_at names t x (sym h))

pub same_from_symbols : (names : List (List ℕ)) (s t : List ℕ) → IsSome (symbol_of names s) → symbol_of names s ≡ symbol_of names t → s ≡ t
same_from_symbols names s t k h = one_text_at names s t (symbol_of names s) refl k h

-- what a new name leaves of the index, and what a name that was taken back leaves
pub IsIndex-push : (index next : BTreeMap (Vec ℕ Global) Sym) (names more : List (List ℕ)) (key : Vec ℕ Global) (symbol : Sym) (t : List ℕ) → IsIndex index names → symbol_of names t ≡ None → key.items ≡ t → symbol ≡ sym_at (length names) → more ≡ names ++ t ∷ [] → next.entries ≡ insert_entry (λ a b. order a.items b.items) index.entries key symbol → IsIndex next more
IsIndex-push index next names more key symbol t was absent is_t is_place is_more is_next =
    let apart : (k : ℕ) (d : List ℕ) → k < length names → get_or names k d ≢ t = absent_apart names t absent in
    record {
      finds = λ q.
          ap (lookup (is_at (λ k. order q k.items))) is_next
          ∙ lookup-insert_entry (λ (k : Vec ℕ Global). k.items) index.entries key symbol q
          ∙ ap (λ s. cond (bytes_eq q s) (Some symbol) (lookup (is_at (λ (k : Vec ℕ Global). order q k.items)) index.entries)) is_t
          ∙ ap (λ b. cond b (Some symbol) (lookup (is_at (λ (k : Vec ℕ Global). order q k.items)) index.entries)) (bytes_eq_flip q t)
          ∙ ap (λ s. cond (bytes_eq t q) (Some s) (lookup (is_at (λ (k : Vec ℕ Global). order q k.items)) index.entries)) is_place
          ∙ ap (cond (bytes_eq t q) (Some (sym_at (length names)))) (was.finds q)
          ∙ sym (symbol_of-push names t absent q)
          ∙ ap (λ l. symbol_of l q) (sym is_more);
      distinct = subst (λ l. AllPairs (λ s t. s ≢ t) l) (sym is_more) (all_pairs_push (λ s t. s ≢ t) names t was.distinct apart);
    }

pub IsIndex-same : (index next : BTreeMap (Vec ℕ Global) Sym) (names more : List (List ℕ)) → IsIndex index names → more ≡ names → next.entries ≡ index.entries → IsIndex next more
IsIndex-same index next names more was is_more is_next = record {
  finds = λ q.
      ap (lookup (is_at (λ (k : Vec ℕ Global). order q k.items))) is_next
      ∙ was.finds q
      ∙ ap (λ l. symbol_of l q) (sym is_more);
  distinct = subst (λ l. AllPairs (λ s t. s ≢ t) l) (sym is_more) was.distinct;
}
