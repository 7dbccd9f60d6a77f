-- The kinds of the calls as the code has them: the place of each in the table of forms, counted from 1.
use Rattle.std.specs.Prelude.{ℕ, eqb, Option, None, Some}
use Rattle.paper.specs.Lists.{pick}
use Rattle.text_protocol.specs.declared.CallKind.{CallKind}
use Rattle.text_protocol.specs.declared.CallKind.TheVariants as kind
use Rattle.text_protocol.specs.Names.{admit_kind, evaluate_kind, quote_kind, move_kind, read_kind, open_kind}
use Rattle.text_protocol.specs.Names.{outside_kind, notice_kind, withdraw_kind, interest_kind, bond_kind}

abbrev pub kind_number : CallKind → ℕ
kind_number kind.Admit = admit_kind
kind_number kind.Evaluate = evaluate_kind
kind_number kind.Quote = quote_kind
kind_number kind.Move = move_kind
kind_number kind.Read = read_kind
kind_number kind.Open = open_kind
kind_number kind.Outside = outside_kind
kind_number kind.Notice = notice_kind
kind_number kind.Withdraw = withdraw_kind
kind_number kind.Interest = interest_kind
kind_number kind.Bond = bond_kind

-- 0 where there is no call
abbrev pub kind_or_none : Option CallKind → ℕ
kind_or_none None = 0
kind_or_none (Some k) = kind_number k

-- the call of a number, where it is one's
unfoldable pub kind_at : (number : ℕ) → Option CallKind
kind_at n =
    pick (eqb n admit_kind) (Some kind.Admit)
    (pick (eqb n evaluate_kind) (Some kind.Evaluate)
    (pick (eqb n quote_kind) (Some kind.Quote)
    (pick (eqb n move_kind) (Some kind.Move)
    (pick (eqb n read_kind) (Some kind.Read)
    (pick (eqb n open_kind) (Some kind.Open)
    (pick (eqb n outside_kind) (Some kind.Outside)
    (pick (eqb n notice_kind) (Some kind.Notice)
    (pick (eqb n withdraw_kind) (Some kind.Withdraw)
    (pick (eqb n interest_kind) (Some kind.Interest)
    (pick (eqb n bond_kind) (Some kind.Bond) None))))))))))
