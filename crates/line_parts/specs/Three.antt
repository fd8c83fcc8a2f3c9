-- Numbers that are put into a buffer, each right-aligned in three characters.
use Rattle.std.specs.Prelude.{◌≡◌, List, ℕ, ◌+◌, ◌*◌, length}
use Rattle.buffers.specs.Put.{Put}
use Rattle.page_text.specs.Pages.{in_three}

-- the numbers are put, and each has room in its three characters
pub record PutThree (ns before : List ℕ) (at : ℕ) (after : List ℕ) (end : ℕ) : Type 0 where
  pub put : Put before at (in_three ns) after end
  pub width : end ≡ at + 3 * length ns
