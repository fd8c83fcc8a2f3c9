-- `verdict_there` meets its contract: the room that it makes is clear and long enough.
-- Assumes nothing.
use mathlib.Core.Path.{refl}
use Rattle.written_check.proofs.Answers.{made_room}
use Rattle.written_check.proofs.verdict_there.Goals as goal

pub table_verdict-requires-clause-table_stands : goal.table_verdict-requires-clause-table_stands
table_verdict-requires-clause-table_stands c = c.requires

pub table_verdict-requires-clause-room : goal.table_verdict-requires-clause-room
table_verdict-requires-clause-room c = made_room 65536 128 refl refl
