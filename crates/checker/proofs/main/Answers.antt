-- `checker::main` hands over the answer to be written, whole and alone: what `answer_input` put.
use mathlib.Core.Path.{sym}
use lib.Seq.{length-take-le}
use borrow.Author.Rules.{rules}
use Rattle.checker.proofs.main.Goals as goal

pub slice_bounds-write_answer-end : goal.slice_bounds-write_answer-end
slice_bounds-write_answer-end c = sym (length-take-le _ _ (search rules))

pub write_answer-requires : goal.write_answer-requires
write_answer-requires c = c.answer_input-end.ensures.1
