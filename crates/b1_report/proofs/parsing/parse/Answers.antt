use Rattle.std.specs.Option.{option_copied}
use Rattle.std.proofs.Common.{◌∙◌, ap, arith, ◌^◌, ◌<◌}
use Rattle.std.proofs.lemmas.Result.{err_from_is_err_and}
use Rattle.b1_report.proofs.Faults.{is_report, only_record, never_bad}
use Rattle.b1_report.proofs.parsing.parse.Goals as goal

pub returns-in_err-draft-clause-only : goal.returns-in_err-draft-clause-only
returns-in_err-draft-clause-only c = λ rec r.
    let p = err_from_is_err_and c.from_residual.result c.from_residual.ensures.1 in
    rw (p.1, p.2) (never_bad (option_copied c.args.cookies) c.args.peers c.args.bytes.now c.in_err-draft.field-0.0 rec c.in_err-draft.ensures.bad r)

pub returns-clause-tells : goal.returns-clause-tells
returns-clause-tells c = rw (c.in_ok-peers.ensures, c.in_ok-draft.ensures.read.same) (is_report (option_copied c.args.cookies) c.args.peers c.args.bytes.now c.in_ok-draft.ensures.read.all c.in_ok-draft.ensures.read.are)

pub returns-clause-only : goal.returns-clause-only
returns-clause-only c = λ rec r.
    let small : c.args.peers < 2 ^ 32 = omega arith in
    ap (λ peers. record { peers = peers }) (c.in_ok-peers.ensures ∙ c.in_ok-draft.ensures.read.same ∙ only_record (option_copied c.args.cookies) c.args.peers small c.args.bytes.now c.in_ok-draft.ensures.read.all rec c.in_ok-draft.ensures.read.are r)
