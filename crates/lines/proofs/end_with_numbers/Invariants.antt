-- `lines::end_with_numbers` meets its contract. The invariant: the numbers before this one are put, up to `place`, each in at most 21 bytes.
use Rattle.rows.proofs.Rows.{First}
use Rattle.lines.proofs.end_with_numbers.Given as goal

abbrev pub invariant-loop-number : goal.invariant-loop-number
invariant-loop-number l = First 21 l.numbers l.initial.buf l.at l.number-index l.buf l.place
