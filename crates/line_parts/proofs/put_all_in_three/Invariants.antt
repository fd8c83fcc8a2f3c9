-- `line_parts::put_all_in_three` meets its contract. The invariant: the numbers before this one are put, up to `place`.
use lib.ListN.{take}
use Rattle.line_parts.specs.Three.{PutThree}
use Rattle.line_parts.proofs.put_all_in_three.Given as goal

abbrev pub invariant-loop-number : goal.invariant-loop-number
invariant-loop-number l = PutThree (take l.number-index l.numbers) l.initial.buf l.at l.buf l.place
