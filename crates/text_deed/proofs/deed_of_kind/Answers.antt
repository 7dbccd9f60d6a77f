-- `text_deed::deed_of_kind` meets its contract: what is answered at once, by what is asked for.
use Rattle.text_deed.proofs.Asking.{nothing_asked, no_call_asked, call_asked_lem, interest_asked, bond_asked}
use Rattle.text_deed.proofs.deed_of_kind.Goals as goal

pub returns-in-Nothing : goal.returns-in-Nothing
returns-in-Nothing c =
    nothing_asked _ _ _ c.ask_of-ask.ensures c.in-Nothing.is _
    c.of_desk.ensures

pub returns-in-NoCall : goal.returns-in-NoCall
returns-in-NoCall c =
    no_call_asked _ _ _ c.ask_of-ask.ensures c.in-NoCall.is _
    c.of_desk-in-NoCall.ensures

pub returns-in-Call : goal.returns-in-Call
returns-in-Call c =
    call_asked_lem _ _ _ c.ask_of-ask.ensures _ c.in-Call.is _
    c.of_desk-in-Call.ensures

pub returns-in-Interest : goal.returns-in-Interest
returns-in-Interest c =
    interest_asked _ _ _ c.ask_of-ask.ensures _ c.in-Interest.is _ _ _ _
    c.figures.ensures c.answer-i.ensures c.of_interest.ensures
    c.kept_after.ensures

pub returns-in-Bond : goal.returns-in-Bond
returns-in-Bond c =
    bond_asked _ _ _ c.ask_of-ask.ensures _ c.in-Bond.is _ _ _
    c.figures-in-Bond.ensures c.answer-b.ensures c.of_bond.ensures
