-- `read` meets its contract: the checks of the length, in their order; and what is lent are bytes, as a `&[u8]` says of
-- itself where it comes in.
use native.Mathlib.Omega.{arith}
use borrow.Author.Tests.{le-leb, lt-leb}
use Rattle.paper_messages.specs.Bytes.{Bytes}
use Rattle.paper_messages.specs.Messages.{length_least, length_most}
use Rattle.messages.proofs.Lent.{each_is_byte}
use Rattle.messages.proofs.Reading.{no_length_is_cut_short, bad_length_is_wrong, cut_body_is_cut_short}
use borrow.Author.Rules.{rules}
use Rattle.messages.proofs.read.Goals as goal
use Rattle.messages.proofs.read.Goals.{After-shared_slice_known-1}

-- what is lent are bytes
lent : (c : After-shared_slice_known-1) → Bytes c.before.args.buf.now
lent c = each_is_byte c.before.args.buf.now (λ i. (c.shared_slice_known-1.given i).fits)

pub returns-then-buf-lt-LENGTH_WIDTH : goal.returns-then-buf-lt-LENGTH_WIDTH
returns-then-buf-lt-LENGTH_WIDTH c =
    record {
      answers = no_length_is_cut_short _ _ (omega arith);
      bytes = lent (goal.at.returns-then-buf-lt-LENGTH_WIDTH c).After-shared_slice_known-1;
    }

pub returns-then-buf-at : goal.returns-then-buf-at
returns-then-buf-at c =
    record {
      answers = no_length_is_cut_short _ _ (omega arith);
      bytes = lent (goal.at.returns-then-buf-at c).After-shared_slice_known-1;
    }

pub returns-then-length-lt-LENGTH_LEAST : goal.returns-then-length-lt-LENGTH_LEAST
returns-then-length-lt-LENGTH_LEAST c =
    record {
      answers = bad_length_is_wrong _ _ _ c.get_number-length.ensures.0 (omega arith)
          (rw (lt-leb length_least _ c.if-length-lt-LENGTH_LEAST.true));
      bytes = lent (goal.at.returns-then-length-lt-LENGTH_LEAST c).After-shared_slice_known-1;
    }

pub returns-then-length-gt-LENGTH_MOST : goal.returns-then-length-gt-LENGTH_MOST
returns-then-length-gt-LENGTH_MOST c =
    record {
      answers = bad_length_is_wrong _ _ _ c.get_number-length.ensures.0 (omega arith)
          (rw (le-leb length_least _ c.if-length-lt-LENGTH_LEAST.false, lt-leb _ length_most c.if-length-gt-LENGTH_MOST.true));
      bytes = lent (goal.at.returns-then-length-gt-LENGTH_MOST c).After-shared_slice_known-1;
    }

pub returns-then-buf-at-2 : goal.returns-then-buf-at-2
returns-then-buf-at-2 c =
    record {
      answers = cut_body_is_cut_short _ _ _ c.get_number-length.ensures.0 (omega arith)
          (rw (
            le-leb length_least _ c.if-length-lt-LENGTH_LEAST.false,
            le-leb _ length_most c.if-length-gt-LENGTH_MOST.false,
          ))
          (omega arith);
      bytes = lent (goal.at.returns-then-buf-at-2 c).After-shared_slice_known-1;
    }

pub returns : goal.returns
returns c =
    record { answers = search rules; bytes = lent (goal.at.returns c).After-shared_slice_known-1 }
