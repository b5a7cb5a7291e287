use Rattle.std.proofs.Common.{subst}
use Rattle.py_layout.specs.Layout.{IsLaid}
use Rattle.py_layout.proofs.Laying.{complete, refused}
use Rattle.py_layout.proofs.layouter.layout.Goals as goal

pub returns-clause-complete : goal.returns-clause-complete
returns-clause-complete c =
    complete c.args.text.now c.args.tokens.now c.lay_out.result
    (subst (λ z. IsLaid z c.args.tokens.now c.lay_out.result) c.as_slice.ensures (subst (λ z. IsLaid c.as_slice.result.now z c.lay_out.result) c.as_slice-2.ensures c.lay_out.ensures))

pub returns-clause-refused : goal.returns-clause-refused
returns-clause-refused c =
    refused c.args.text.now c.args.tokens.now c.lay_out.result
    (subst (λ z. IsLaid z c.args.tokens.now c.lay_out.result) c.as_slice.ensures (subst (λ z. IsLaid c.as_slice.result.now z c.lay_out.result) c.as_slice-2.ensures c.lay_out.ensures))
