-- `yurbantze_check_table` meets its promise: it is that of the check, with the numbers of its answer.
use borrow.Author.Rules.{sfits_of}
use mir.Facts.{to_z-of_z}
use mir.Syntax.{w64}
use mathlib.Core.Path.{refl}
use Rattle.written_table.proofs.ChecksInNumbers.{check_in_numbers}
use Rattle.exported.proofs.yurbantze_check_table.Goals as goal

pub returns : goal.returns
returns c =
    check_in_numbers c.check_written-check.ensures c.check_numbers-seven.ensures refl
    (to_z-of_z {w = w64} (sfits_of c.struct_told-1.given.1.0.1)) refl
