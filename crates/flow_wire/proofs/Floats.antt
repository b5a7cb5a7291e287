-- No reply has a float.
use Rattle.std.proofs.Common.{◌≡◌, ℕ, List, [], ◌∷◌, map, Bool, false, ◌||◌, refl}
use Rattle.serde_json.specs.View.{items_of}
use Rattle.serde_json.specs.Written.{has_float, items_have_float}
use Rattle.flow_wire.specs.declared.reply.EndText.{EndText}
use Rattle.flow_wire.specs.declared.reply.EndText.TheVariants as end
use Rattle.flow_wire.specs.declared.reply.MarkText.{MarkText}
use Rattle.flow_wire.specs.declared.reply.MarkText.TheVariants.{Clean, Stale, Unknown, Form as form_of_run}
use Rattle.flow_wire.specs.declared.reply.Reply.{Reply}
use Rattle.flow_wire.specs.declared.reply.Reply.TheVariants.{Edited, Ran, Shown, Event, NoCell, BadSteps, Form, Syntax}
use Rattle.flow_wire.specs.Replied.{text_data, end_data, mark_data, reply_data}

texts_have_none : (ts : List (List ℕ)) → items_have_float (items_of (map text_data ts)) ≡ false
texts_have_none [] = refl
texts_have_none (t ∷ ts) = texts_have_none ts

end_has_none : (e : EndText) → has_float (end_data e) ≡ false
end_has_none end.Ok = refl
end_has_none (end.Raised name) = refl
end_has_none end.Steps = refl
end_has_none end.Range = refl

mark_has_none : (m : MarkText) → has_float (mark_data m) ≡ false
mark_has_none Clean = refl
mark_has_none (Stale computed dep overwritten symbol) = refl
mark_has_none (Unknown unknown) = refl
mark_has_none (form_of_run run) = refl

none_of_three : (a b c : Bool) → a ≡ false → b ≡ false → c ≡ false → a || (b || (c || false)) ≡ false
none_of_three a b c no_a no_b no_c = rw no_a (rw no_b (rw no_c refl))

pub reply_has_none : (r : Reply) → has_float (reply_data r) ≡ false
reply_has_none (Edited cell) = refl
reply_has_none (Ran cell e mark out run stale) = none_of_three _ _ _ (end_has_none e) (mark_has_none mark) (texts_have_none stale)
reply_has_none (Shown cell text) = refl
reply_has_none (Event kind) = refl
reply_has_none NoCell = refl
reply_has_none BadSteps = refl
reply_has_none Form = refl
reply_has_none (Syntax kind line) = refl
