-- `lines::end_with_numbers` meets its contract. The invariant: the numbers before this one are put, up to `place`, each in at most 21 bytes.
use Rattle.rows.proofs.Rows.{first_room, first_next}
use Rattle.lines.proofs.Runs.{word_short}
use Rattle.lines.proofs.end_with_numbers.Goals as goal

pub put_spaced-place-requires : goal.put_spaced-place-requires
put_spaced-place-requires c =
    first_room c.loop-number.invariant c.loop-number-test.true (word_short (c.type_inv.numbers c.loop-number.number-index)) c.requires

pub loop-number-preserved : goal.loop-number-preserved
loop-number-preserved c =
    first_next c.loop-number.invariant c.loop-number-test.true (word_short (c.type_inv.numbers c.loop-number.number-index)) c.put_spaced-place.ensures
