-- `sum_operands::all_name_matrices` meets its contract: what `all` asks of each number is the test of the definition.
use Rattle.std.proofs.Common.{◌∙◌, rules, tests, ltb}
use Rattle.std.proofs.lemmas.Iterator.{YieldsList-from_slice}
use Rattle.std.proofs.lemmas.Iterator.Search.{all_from_yields_List}
use Rattle.counting.specs.Matrix.{matrix_of}
use Rattle.sum_bytes.specs.Summing.{placed_matrix, matrix_at}
use Rattle.sum_bytes.proofs.Pieces.{all_of_is}
use Rattle.sum_operands.proofs.all_name_matrices.Goals as goal

pub returns : goal.returns
unfolding matrix_at placed_matrix matrix_of
returns c =
    all_from_yields_List (λ d. ltb 0 (matrix_at c.args.list.now d).rows) _ _ _ c.all.ensures.ran (YieldsList-from_slice c.args.ds.now cc) (λ x b q k. search (rules, tests))
    ∙ all_of_is _ c.args.ds.now
