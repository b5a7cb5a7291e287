use Rattle.std.proofs.Common.{◌-◌, drop, length, ap, ◌∙◌, List, ℕ, arith}
use Rattle.std.proofs.lemmas.List.{length-take}
use Rattle.flow_io.specs.Reader.{Backlog}
use Rattle.flow_io.proofs.Pieces.{slice_range-drop}
use Rattle.flow_io.proofs.intake.Intake.skip.Goals as goal

pub returns : goal.returns
returns c =
    let inside = c.self.inside in
    let piece = inside.piece.items in
    let n = c.args.n in
    let all = length-take (inside.end - inside.start) (drop inside.start piece) in
    let same = ap (λ (b : Backlog). length b.bytes) c.self.view_is in
    let part = slice_range-drop piece inside.start inside.end n (omega (arith, all, same, c.requires)) in
    ap (λ (bs : List ℕ). record { bytes = bs; taken = inside.taken }) part ∙ ap (λ (b : Backlog). record { bytes = drop n b.bytes; taken = b.taken }) c.self.view_is
