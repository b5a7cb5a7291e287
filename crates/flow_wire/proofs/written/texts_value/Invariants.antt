use Rattle.std.proofs.Common.{◌≡◌, map, take}
use Rattle.serde_json.specs.View.{view}
use Rattle.flow_wire.specs.Replied.{text_data}
use Rattle.flow_wire.proofs.written.texts_value.Given as goal

abbrev pub invariant-loop-text : goal.invariant-loop-text
invariant-loop-text l = map view l.values.items ≡ map text_data (take l.text-index l.texts)
