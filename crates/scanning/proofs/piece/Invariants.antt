-- `scanning::piece` meets its contract. The invariant: the bytes from `byte` on take the present state where all of them take the first.
use mathlib.Core.Path.{◌≡◌}
use lib.ListN.{drop}
use Rattle.words.specs.Scanner.{advanced}
use Rattle.scanning.proofs.piece.Given as goal

abbrev pub invariant-loop-byte : goal.invariant-loop-byte
invariant-loop-byte l = advanced (l.initial.state, l.initial.list) l.bytes ≡ advanced (l.state, l.list) (drop l.byte-index l.bytes)
