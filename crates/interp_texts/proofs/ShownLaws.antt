-- What is shown in so many levels, turns or entries, one step further.
use Rattle.std.proofs.Common.{◌≡◌, ◌≢◌, ◌-◌, ◌++◌, ◌≤◌, ◌∷◌, [], length, ℕ, suc, zero, Bool, true, List, Option, Some, Result, Ok, refl, ap, arith}
use Rattle.flow_base.specs.declared.numbers.ObjRef.{ObjRef}
use Rattle.heap_objects.specs.declared.value.Value.{Value}
use Rattle.interp_machine.specs.Meaning.{go_on, key_at, key_in}
use Rattle.interp_machine.specs.Walks.{next}
use Rattle.interp_machine.specs.declared.machine.Machine.{Machine}
use Rattle.interp_machine.specs.declared.stop.Stop.{Stop}
use Rattle.interp_machine.specs.declared.walks.Walker.{Walker}
use Rattle.interp_texts.specs.Shown.{Shower, Teller, comma, show_entries, show_entry, show_next, show_parts, str_arguments, str_to, str_with, tuple_to}

-- a number above 0 is the next one of what is one less
pub deeper : {X : Type 0} (f : ℕ → X) (n : ℕ) → n ≢ 0 → f n ≡ f (suc (n - 1))
deeper f n some = let e : n ≡ suc (n - 1) = omega arith in ap f e

pub parts_more : (below : Shower) (inside : List ObjRef) (n : ℕ) (w after : Walker) (follows : Bool) (d : List ℕ) (x : Value) (r : Result (List ℕ) Stop)
    (m mid new : Machine) → n ≢ 0 → next w m ≡ (Ok (Some x, after), mid) → show_next below inside follows d x mid ≡ (r, new)
    → show_parts below inside n w follows d m ≡ go_on r new (show_parts below inside (n - 1) after true)
unfolding show_parts
parts_more below inside zero w after follows d x r m mid new some given shown = absurd (some refl)
parts_more below inside (suc n) w after follows d x r m mid new some given shown =
    let less : suc n - 1 ≡ n = omega arith in rw (less, given, shown) refl

pub entries_more : (below : Shower) (inside : List ObjRef) (o : ObjRef) (i j n : ℕ) (follows : Bool) (d begun : List ℕ) (key : Option Value)
    (r : Result (List ℕ) Stop) (m new : Machine) → n ≢ 0 → j ≡ suc i → begun ≡ d ++ comma follows → key ≡ key_in m o i
    → show_entry below inside o begun key m ≡ (r, new)
    → show_entries below inside o i n follows d m ≡ go_on r new (show_entries below inside o j (n - 1) true)
unfolding show_entries key_at
entries_more below inside o i j zero follows d begun key r m new some after all held shown = absurd (some refl)
entries_more below inside o i j (suc n) follows d begun key r m new some after all held shown =
    let less : suc n - 1 ≡ n = omega arith in rw (less, after, ← held, ← all, shown) refl

pub told_more : (n : ℕ) (d : List ℕ) (x : Value) (m : Machine) → n ≢ 0 → str_to n d x m ≡ str_with n (n - 1) (str_to (n - 1)) d x m
unfolding str_to
told_more zero d x m some = absurd (some refl)
told_more (suc n) d x m some = let less : suc n - 1 ≡ n = omega arith in rw less refl

-- several arguments of an exception
pub several : (below : ℕ) (told : Teller) (d : List ℕ) (keyed : Bool) (xs : List Value) (m : Machine) → 2 ≤ length xs
    → str_arguments below told d keyed xs m ≡ tuple_to below d xs m
several below told d keyed [] m some = absurd (omega arith)
several below told d keyed (x ∷ []) m some = absurd (omega arith)
several below told d keyed (x ∷ y ∷ xs) m some = refl
