-- `whole_text::scan` meets its contract: the text is one piece.
use Rattle.words.proofs.Bounds.{sound_start, sound_piece, sound_finish}
use Rattle.whole_text.proofs.Whole.{scanned_text}
use Rattle.whole_text.proofs.scan.Goals as goal

pub returns-clause-ended : goal.returns-clause-ended
returns-clause-ended c =
    let started = c.start.ensures in
    let scanned = c.piece.ensures in sound_finish (sound_piece (sound_start _ started) _ scanned) c.finish.ensures

pub returns-clause-list_after : goal.returns-clause-list_after
returns-clause-list_after c =
    let started = c.start.ensures in
    let scanned = c.piece.ensures in scanned_text _ c.args.list.now c.requires started scanned c.finish.ensures
