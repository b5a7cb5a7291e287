use Rattle.std.proofs.Common.{◌≡◌, ◌≢◌, ◌<◌, ℕ, ◌+◌, ◌∷◌, ◌++◌, [], List, length, take, get_or, ap, sym, subst, ◌∙◌, arith, length-take, None}
use Rattle.std.proofs.lemmas.Grind.{common_steps}
use Rattle.std.proofs.lemmas.List.{get_or-take, get_or_default}
use Rattle.std.proofs.Math.Seq.{take-suc}
use Rattle.std.specs.Prelude.{AllPairs}
use Rattle.std.proofs.lemmas.List.{take_all}
use Rattle.flow_base.specs.declared.numbers.Sym.{Sym}
use Rattle.heap_objects.specs.Names.{new_slots, slot_names}
use Rattle.heap_objects.specs.Places.{ArePlaces}
use Rattle.heap_objects.proofs.SlotLaws.{ArePlaces-push, new_slots-push, slot_names-new}
use Rattle.heap_objects.proofs.slots.Slots.new.Goals as goal

pub loop-i-preserved : goal.loop-i-preserved
loop-i-preserved c =
    let names : List Sym = c.args.names.now in
    let i : ℕ = c.loop-i.i in
    let m : Sym = get_or names i (record { 0 = 0 }) in
    let inside : i < length names = omega arith in
    let so_far : length (take i names) ≡ i = grind (arith, length-take) in
    let next : take (i + 1) names ≡ take i names ++ m ∷ [] = grind (arith, take-suc) in
    let pushed : c.push.new.self.items ≡ new_slots (take i names) ++ (m, None) ∷ [] = grind (arith, common_steps) in
    let apart : (k : ℕ) → k < length (take i names) → get_or (take i names) k m ≢ m = λ k lt e.
    c.requires k i m (omega arith) inside (sym (get_or-take i names k m (omega arith)) ∙ e ∙ get_or_default names i (record { 0 = 0 }) m inside) in
    let so_far_places : ArePlaces c.loop-i.places (new_slots (take i names)) = subst (ArePlaces c.loop-i.places) c.loop-i.invariant.slots c.loop-i.invariant.places in
    record {
      slots = pushed ∙ sym (new_slots-push (take i names) m) ∙ ap new_slots (sym next);
      places = ArePlaces-push c.loop-i.places c.insert.new.self (take i names) m c.push.new.self.items i so_far_places (sym so_far) apart pushed (λ q. (c.in_ok-insert.ensures.updates).0 q);
    }

pub invariant_of-result : goal.invariant_of-result
invariant_of-result c = record {
  places = c.loop-i.invariant.places;
  distinct = subst (AllPairs (λ m n. m ≢ n)) (sym (ap slot_names c.loop-i.invariant.slots ∙ slot_names-new (take c.loop-i.i c.args.names.now) ∙ take_all c.loop-i.i c.args.names.now (omega arith))) c.requires;
}
