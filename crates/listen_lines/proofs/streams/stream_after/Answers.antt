-- `stream_after` meets its contract: by the kind, and whether a stream began.
use mathlib.Core.Path.{◌∙◌}
use native.Mathlib.Omega.{arith}
use Rattle.listen_lines.proofs.StreamParts.{after_begin, after_end, after_none, after_message}
use Rattle.listen_lines.proofs.streams.stream_after.Goals as goal

pub returns-in-6 : goal.returns-in-6
returns-in-6 c = after_begin c.args.s c.args.h _ _ c.in-6.is c.sum_on.ensures

pub returns-in-7 : goal.returns-in-7
returns-in-7 c =
    c.no_stream.ensures ∙ after_end c.args.s c.args.h _ (λ e. omega (arith, e, c.in-7.is)) c.in-7.is

pub returns-in_default : goal.returns-in_default
returns-in_default c =
    after_message c.args.s c.args.h c.args.bytes.now (λ e. omega arith) (λ e. omega arith) _ _ c.if-s.true (omega arith)
    c.sum_on-in_default.ensures

pub returns-in_default-2 : goal.returns-in_default-2
returns-in_default-2 c =
    after_none c.args.s c.args.h c.args.bytes.now (λ e. omega arith) (λ e. omega arith) c.if-s.false
