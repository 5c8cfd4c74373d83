use mathlib.Core.Path.{sym, ◌∙◌}
use Rattle.hop.proofs.SendLaws.{size_told, send_unfit, send_nothing, sends_fits, send_put}
use Rattle.hop.proofs.sending.send.Goals as goal

pub returns-then-is_unfit : goal.returns-then-is_unfit
returns-then-is_unfit c =
    let all = send_unfit _ _ _ _ c.is_unfit.ensures c.if-is_unfit.true in
    record { value = all.0; written = all.1 }

pub returns-then-size-eq0 : goal.returns-then-size-eq0
returns-then-size-eq0 c =
    let size = c.unwrap_or-size.ensures ∙ size_told c.plan-sent.result in
    let all = send_nothing _ _ _ _ c.is_unfit.ensures c.if-is_unfit.false c.plan-sent.ensures (sym size ∙ c.if-size-eq0.true) in
    record { value = all.0; written = all.1 }

pub put_objects-requires-clause-fits : goal.put_objects-requires-clause-fits
put_objects-requires-clause-fits c =
    let size = c.unwrap_or-size.ensures ∙ size_told c.plan-sent.result in
    rw size (sends_fits c.args.own c.args.neighbour c.args.run.now c.args.out.now c.plan-sent.ensures (λ z. c.if-size-eq0.false (size ∙ z)))

pub returns : goal.returns
returns c =
    let size = c.unwrap_or-size.ensures ∙ size_told c.plan-sent.result in
    let all = send_put _ _ _ _ c.is_unfit.ensures c.if-is_unfit.false c.plan-sent.ensures (λ z. c.if-size-eq0.false (size ∙ z)) c.put_objects.ensures in
    record { value = all.0; written = all.1 }
