-- What is put for the text that was read, as the answer to it.
-- Assumes nothing.
use mathlib.Core.Path.{sym, ◌∙◌, ap}
use mathlib.Core.List.{List}
use Prim.Native.Nat.{ℕ, ◌≤◌}
use native.Mathlib.Omega.{arith}
use lib.ListN.{length, take}
use Rattle.buffers.specs.Put.{Put}
use Rattle.buffers.proofs.Puts.{put_length, put_front}
use Rattle.words.specs.Words.{Reading}
use Rattle.words.specs.Scanner.{Scanned, scanned_reading}
use Rattle.words.proofs.Following.{refused_stays}
use Rattle.input.specs.Input.{text, ScannedInput}
use Rattle.input.specs.Answering.{AnsweringBy}

-- What was put for a text that was scanned is the answer to it.
pub input_put : (printing : Reading → List ℕ) {answer : Scanned} {list before after : List ℕ} {end : ℕ} → ScannedInput answer list
    → Put before 0 (printing (scanned_reading (answer, list))) after end → (end ≤ length after) × AnsweringBy printing (take end after)
input_put printing scanned put =
    let printed = put_front put ∙ ap printing scanned.reads in (
      omega (arith, put.fits, put_length put),
      record {
        input = scanned.input;
        printed = printed;
        suffices = λ place e rest. printed ∙ ap printing (e ∙ sym (refused_stays (text scanned.input) rest e));
      },
    )
