-- `page_counts::page_count` meets its contract.
use mathlib.Core.Path.{◌≡◌}
use Prim.Native.Nat.{◌+◌, ◌/◌}
use native.Mathlib.Omega.{arith}
use Rattle.page_text.specs.Pages.{parts, page_count}
use Rattle.page_text.proofs.Counts.{pages_most}
use Rattle.page_counts.proofs.page_count.Goals as goal

pub returns : goal.returns
unfolding page_count parts
returns c =
    let columns_parts : c.div_ceil.result ≡ (c.args.columns + 24) / 25 = omega arith in
    rw (c.run_parts.ensures, columns_parts)

pub overflow_mul-result : goal.overflow_mul-result
overflow_mul-result c =
    omega (arith, returns c, pages_most c.args.runs c.args.columns c.requires.0 c.requires.1)
