-- `night_serve::may_stand` meets its contract: by the number's place, and then by its sign.
use mathlib.Core.Bool.{true, false}
use mir.Facts.{to_z-of_z}
use Rattle.night_serve.proofs.Words.{may_day, may_not, may_by_sign}
use Rattle.night_serve.proofs.may_stand.Goals as goal

pub returns-then-n-lt-DAY_NUMBERS : goal.returns-then-n-lt-DAY_NUMBERS
returns-then-n-lt-DAY_NUMBERS c = may_day _ _ c.if-n-lt-DAY_NUMBERS.true

pub returns-then-n-ge-WORDS_MOST : goal.returns-then-n-ge-WORDS_MOST
returns-then-n-ge-WORDS_MOST c = may_not _ _ c.if-n-lt-DAY_NUMBERS.false c.if-n-ge-WORDS_MOST.true

pub returns-then-z-lt0 : goal.returns-then-z-lt0
returns-then-z-lt0 c =
    may_by_sign _ _ c.if-n-lt-DAY_NUMBERS.false c.if-n-ge-WORDS_MOST.false true
    (rw (to_z-of_z c.ranges.z) at c.if-z-lt0.true)

pub returns : goal.returns
returns c =
    may_by_sign _ _ c.if-n-lt-DAY_NUMBERS.false c.if-n-ge-WORDS_MOST.false false
    (rw (to_z-of_z c.ranges.z) at c.if-z-lt0.false)
