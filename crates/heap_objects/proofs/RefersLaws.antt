-- References that name an object still name it where there are more objects.
use Rattle.std.proofs.Common.{◌≡◌, ℕ, ◌<◌, Bool, true, false, cond, List, [], ◌∷◌, map, length, refl, sym, ap, subst, ◌∙◌}
use Rattle.std.specs.Prelude.{Option, Some, None, nat_lt, slice_get}
use Rattle.std.proofs.lemmas.Bool.{lt-ltb}
use Rattle.std.proofs.lemmas.Option.{slice_get_within}
use Rattle.flow_base.specs.declared.numbers.ObjRef.{ObjRef}
use Rattle.flow_base.specs.declared.numbers.Sym.{Sym}
use Rattle.heap_objects.specs.Changes.{Keeps}
use Rattle.heap_objects.specs.State.{State, object_at, object_in}
use Rattle.heap_objects.specs.WellFormed.{IsClass, IsClassValue, IsClassValue_at, IsFrame, IsFunction, IsInstance, IsNoFrame, Refers, Refers_at, before}
use Rattle.heap_objects.specs.declared.object.Node.{Node}
use Rattle.heap_objects.specs.declared.object.Object.{Object}
use Rattle.heap_objects.specs.declared.value.Value.{Value, out-Value, roll-Value}
use Rattle.heap_objects.specs.declared.value.Value.TheFolds.{every-Value, every_held-Value, every_here-Value, every_made-Value, ind-Value, map-Value}
use Rattle.heap_objects.specs.declared.value.Value.TheOpen as v
use Rattle.heap_objects.specs.declared.value.Value.TheOpen.{Value-F}
use Rattle.heap_objects.specs.declared.value.Value.TheViews.{out-roll-Value}
use Rattle.heap_objects.proofs.SlotLaws.{none_some}

-- what is there by the first is the same by the second
pub record More (at bt : ObjRef → Option Object) : Type 0 where
  pub same : (o : ObjRef) (x : Object) → at o ≡ Some x → bt o ≡ Some x

carries : (P : Option Object → Type 0) (p q : Option Object) → (P None → ⊥) → ((x : Object) → p ≡ Some x → q ≡ Some x) → P p → P q
carries P None q never h is = absurd (never is)
carries P (Some x) q never h is = subst P (sym (h x refl)) is

no_frame_more : (at bt : ObjRef → Option Object) (o : ObjRef) → More at bt → IsNoFrame (at o) → IsNoFrame (bt o)
no_frame_more at bt o m is = carries IsNoFrame (at o) (bt o) (λ never. never) (m.same o) is

pub frame_more : (at bt : ObjRef → Option Object) (o : ObjRef) → More at bt → IsFrame (at o) → IsFrame (bt o)
frame_more at bt o m is = carries IsFrame (at o) (bt o) (λ never. never) (m.same o) is

class_more : (at bt : ObjRef → Option Object) (o : ObjRef) → More at bt → IsClass (at o) → IsClass (bt o)
class_more at bt o m is = carries IsClass (at o) (bt o) (λ never. never) (m.same o) is

function_more : (at bt : ObjRef → Option Object) (o : ObjRef) → More at bt → IsFunction (at o) → IsFunction (bt o)
function_more at bt o m is = carries IsFunction (at o) (bt o) (λ never. never) (m.same o) is

instance_more : (at bt : ObjRef → Option Object) (o : ObjRef) → More at bt → IsInstance (at o) → IsInstance (bt o)
instance_more at bt o m is = carries IsInstance (at o) (bt o) (λ never. never) (m.same o) is

class_value_at : (at bt : ObjRef → Option Object) (y : Value-F Value) → More at bt → IsClassValue_at at y → IsClassValue_at bt y
class_value_at at bt v.Nil m is = is
class_value_at at bt (v.Truth b) m is = is
class_value_at at bt (v.Int n) m is = is
class_value_at at bt (v.Text t) m is = is
class_value_at at bt (v.Tuple ps kept) m is = is
class_value_at at bt (v.Range a b c) m is = is
class_value_at at bt (v.Builtin s) m is = is
class_value_at at bt (v.Obj o) m is = class_more at bt o m is
class_value_at at bt (v.Bound f o) m is = is
class_value_at at bt (v.Method s p) m is = is

pub class_value_more : (at bt : ObjRef → Option Object) (x : Value) → More at bt → IsClassValue at x → IsClassValue bt x
class_value_more at bt x m is = class_value_at at bt (out-Value x) m is

-- ---- references in a value

-- a value each level of which is so by the second where it is so by the first
abbrev Known : (Value-F Value → Type 0) → (Value-F Value → Type 0) → Type 0
Known P Q = (x : Value) × (every-Value P x → every-Value Q x)

abbrev Each : (Value-F Value → Type 0) → Type 0
Each P = (x : Value) × every-Value P x

parts_more : (P Q : Value-F Value → Type 0) (zs : List (Each P)) (ps : List (Known P Q)) → map (λ z. z.0) zs ≡ map (λ p. p.0) ps
    → (qs : List (Each Q)) × (map (λ q. q.0) qs ≡ map (λ p. p.0) ps)
parts_more P Q [] [] e = ([], refl)
parts_more P Q [] (p ∷ ps) e = cc
parts_more P Q (z ∷ zs) [] e = cc
parts_more P Q (z ∷ zs) (p ∷ ps) e =
    let first : z.0 ≡ p.0 = cc in
    let rest : map (λ z. z.0) zs ≡ map (λ p. p.0) ps = cc in
    let more = parts_more P Q zs ps rest in
    ((p.0, p.1 (subst (every-Value P) first z.1)) ∷ more.0, ap (λ (xs : List Value). p.0 ∷ xs) more.1)

tuple_parts : (P : Value-F Value → Type 0) (z : Value-F (Each P)) (xs : List Value) (kept : ℕ) → map-Value (Each P) Value (λ z. z.0) z ≡ v.Tuple xs kept
    → (zs : List (Each P)) × (map (λ z. z.0) zs ≡ xs)
tuple_parts P v.Nil xs kept e = cc
tuple_parts P (v.Truth b) xs kept e = cc
tuple_parts P (v.Int n) xs kept e = cc
tuple_parts P (v.Text t) xs kept e = cc
tuple_parts P (v.Tuple zs k) xs kept e = (zs, cc)
tuple_parts P (v.Range a b c) xs kept e = cc
tuple_parts P (v.Builtin s) xs kept e = cc
tuple_parts P (v.Obj o) xs kept e = cc
tuple_parts P (v.Bound f o) xs kept e = cc
tuple_parts P (v.Method s p) xs kept e = cc

receiver_of : (P : Value-F Value → Type 0) (z : Value-F (Each P)) (name : Sym) (x : Value) → map-Value (Each P) Value (λ z. z.0) z ≡ v.Method name x → every-Value P x
receiver_of P v.Nil name x e = cc
receiver_of P (v.Truth b) name x e = cc
receiver_of P (v.Int n) name x e = cc
receiver_of P (v.Text t) name x e = cc
receiver_of P (v.Tuple zs k) name x e = cc
receiver_of P (v.Range a b c) name x e = cc
receiver_of P (v.Builtin s) name x e = cc
receiver_of P (v.Obj o) name x e = cc
receiver_of P (v.Bound f o) name x e = cc
receiver_of P (v.Method s p) name x e = let same : p.0 ≡ x = cc in subst (every-Value P) same p.1

level_more : (P Q : Value-F Value → Type 0) (y : Value-F (Known P Q)) (z : Value-F (Each P))
    → map-Value (Each P) Value (λ z. z.0) z ≡ map-Value (Known P Q) Value (λ p. p.0) y → Q (map-Value (Known P Q) Value (λ p. p.0) y)
    → every-Value Q (roll-Value (map-Value (Known P Q) Value (λ p. p.0) y))
level_more P Q v.Nil z e q = every_made-Value Q v.Nil v.Nil refl q
level_more P Q (v.Truth b) z e q = every_made-Value Q (v.Truth b) (v.Truth b) refl q
level_more P Q (v.Int n) z e q = every_made-Value Q (v.Int n) (v.Int n) refl q
level_more P Q (v.Text t) z e q = every_made-Value Q (v.Text t) (v.Text t) refl q
level_more P Q (v.Tuple ps kept) z e q =
    let held = tuple_parts P z (map (λ p. p.0) ps) kept e in
    let more = parts_more P Q held.0 ps held.1 in
    every_made-Value Q (v.Tuple (map (λ p. p.0) ps) kept) (v.Tuple more.0 kept) (ap (λ (xs : List Value). v.Tuple xs kept) more.1) q
level_more P Q (v.Range a b c) z e q = every_made-Value Q (v.Range a b c) (v.Range a b c) refl q
level_more P Q (v.Builtin s) z e q = every_made-Value Q (v.Builtin s) (v.Builtin s) refl q
level_more P Q (v.Obj o) z e q = every_made-Value Q (v.Obj o) (v.Obj o) refl q
level_more P Q (v.Bound f o) z e q = every_made-Value Q (v.Bound f o) (v.Bound f o) refl q
level_more P Q (v.Method s p) z e q = every_made-Value Q (v.Method s p.0) (v.Method s (p.0, p.1 (receiver_of P z s p.0 e))) refl q

pub every_more : (P Q : Value-F Value → Type 0) → ((y : Value-F Value) → P y → Q y) → (x : Value) → every-Value P x → every-Value Q x
every_more P Q f =
    ind-Value (λ x. every-Value P x → every-Value Q x) (λ x y e. subst (λ (z : Value-F Value). every-Value P (roll-Value z) → every-Value Q (roll-Value z)) e (step y))
  where
    step : (y : Value-F (Known P Q)) → every-Value P (roll-Value (map-Value (Known P Q) Value (λ p. p.0) y)) → every-Value Q (roll-Value (map-Value (Known P Q) Value (λ p. p.0) y))
    step y h =
        let x : Value-F Value = map-Value (Known P Q) Value (λ p. p.0) y in
        let held = every_held-Value P (roll-Value x) h in
        level_more P Q y held.0 (held.1 ∙ out-roll-Value x) (f x (subst P (out-roll-Value x) (every_here-Value P (roll-Value x) h)))

refers_at : (at bt : ObjRef → Option Object) → More at bt → (y : Value-F Value) → Refers_at at y → Refers_at bt y
refers_at at bt m v.Nil h = h
refers_at at bt m (v.Truth b) h = h
refers_at at bt m (v.Int n) h = h
refers_at at bt m (v.Text t) h = h
refers_at at bt m (v.Tuple ps kept) h = h
refers_at at bt m (v.Range a b c) h = h
refers_at at bt m (v.Builtin s) h = h
refers_at at bt m (v.Obj o) h = no_frame_more at bt o m h
refers_at at bt m (v.Bound f o) h = (function_more at bt f m h.0, instance_more at bt o m h.1)
refers_at at bt m (v.Method s p) h = h

pub refers_more : (at bt : ObjRef → Option Object) → More at bt → (x : Value) → Refers at x → Refers bt x
refers_more at bt m = every_more (Refers_at at) (Refers_at bt) (refers_at at bt m)

-- ---- the objects with smaller numbers

before_if : (p q : Option Object) (b : Bool) (x : Object) → (p ≡ Some x → q ≡ Some x) → cond b p None ≡ Some x → cond b q None ≡ Some x
before_if p q true x h e = h e
before_if p q false x h e = absurd (none_some x e)

pub before_more : (s t : State) (i : ℕ) → More (object_at s) (object_at t) → More (before s i) (before t i)
before_more s t i m = record { same = λ o x e. before_if (object_at s o) (object_at t o) (nat_lt o.0 i) x (m.same o x) e }

some_node : (p : Option Node) (x : Object) → object_in p ≡ Some x → (n : Node) × (p ≡ Some n)
some_node None x e = absurd (none_some x e)
some_node (Some n) x e = (n, refl)

-- a reference to an object is below the number of objects
pub object_within : (s : State) (o : ObjRef) (x : Object) → object_at s o ≡ Some x → o.0 < length s.nodes
object_within s o x e = let there = some_node (slice_get s.nodes o.0) x e in slice_get_within s.nodes o.0 there.0 there.1

pub keeps_more : (s t : State) → Keeps s t → More (object_at s) (object_at t)
keeps_more s t k = record { same = λ o x e. k.objects o (object_within s o x e) ∙ e }

pub whole_before : (s : State) → More (object_at s) (before s (length s.nodes))
whole_before s = record { same = λ o x e. ap (λ (b : Bool). cond b (object_at s o) None) (lt-ltb o.0 (length s.nodes) (object_within s o x e)) ∙ e }
