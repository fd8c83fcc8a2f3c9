-- `sum_questions::serve` meets its contract. The invariant: the matrices before the one in hand fit together and are entered into the arrays.
use Rattle.sum_bytes.proofs.Serving.{SoFar}
use Rattle.sum_questions.proofs.serve.Given as goal

abbrev pub invariant-loop-d : goal.invariant-loop-d
invariant-loop-d l = SoFar l.list l.ds l.rows l.d-index l.entries l.widths
