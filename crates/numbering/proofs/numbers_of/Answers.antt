-- `numbers_of` meets its contract: each arm has the numbers of its own case.
use mathlib.Core.Path.{sym, ap}
use Rattle.sheets.specs.Refusals.{numbered}
use Rattle.numbering.proofs.numbers_of.Goals as goal

pub returns-in-ShortBuffers : goal.returns-in-ShortBuffers
unfolding numbered
returns-in-ShortBuffers c = sym (ap numbered c.in-ShortBuffers.is)

pub returns-in-Unreadable : goal.returns-in-Unreadable
unfolding numbered
returns-in-Unreadable c = sym (ap numbered c.in-Unreadable.is)

pub returns-in-EntryOutOfRange : goal.returns-in-EntryOutOfRange
unfolding numbered
returns-in-EntryOutOfRange c = sym (ap numbered c.in-EntryOutOfRange.is)

pub returns-in-UnevenLevel : goal.returns-in-UnevenLevel
unfolding numbered
returns-in-UnevenLevel c = sym (ap numbered c.in-UnevenLevel.is)

pub returns-in-UnevenPair : goal.returns-in-UnevenPair
unfolding numbered
returns-in-UnevenPair c = sym (ap numbered c.in-UnevenPair.is)

pub returns-in-UnevenDifference : goal.returns-in-UnevenDifference
unfolding numbered
returns-in-UnevenDifference c = sym (ap numbered c.in-UnevenDifference.is)

pub returns-in-Dependent : goal.returns-in-Dependent
unfolding numbered
returns-in-Dependent c = sym (ap numbered c.in-Dependent.is)

pub returns-in-StepNotAllowed : goal.returns-in-StepNotAllowed
unfolding numbered
returns-in-StepNotAllowed c = sym (ap numbered c.in-StepNotAllowed.is)

pub returns-in-PartsDoNotFit : goal.returns-in-PartsDoNotFit
unfolding numbered
returns-in-PartsDoNotFit c = sym (ap numbered c.in-PartsDoNotFit.is)

pub returns-in-NotTheSum : goal.returns-in-NotTheSum
unfolding numbered
returns-in-NotTheSum c = sym (ap numbered c.in-NotTheSum.is)

pub returns-in-TooLarge : goal.returns-in-TooLarge
unfolding numbered
returns-in-TooLarge c = sym (ap numbered c.in-TooLarge.is)

pub returns-in-UnevenValue : goal.returns-in-UnevenValue
unfolding numbered
returns-in-UnevenValue c = sym (ap numbered c.in-UnevenValue.is)
