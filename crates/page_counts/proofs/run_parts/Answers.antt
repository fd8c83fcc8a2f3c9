-- `page_counts::run_parts` meets its contract.
use native.Mathlib.Omega.{arith}
use Rattle.page_text.specs.Pages.{parts}
use Rattle.page_counts.proofs.run_parts.Goals as goal

pub returns : goal.returns
unfolding parts
returns c = omega arith
